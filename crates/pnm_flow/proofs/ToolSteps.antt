-- The tools of a chain before the first message.
use Rattle.pnm_flow.proofs.Words.{ℕ, zero, suc, ◌<◌, List, [], ◌∷◌, ◌++◌, length, get_or, refl, arith, Tool, AnyTool, AreLawfulTools, StateValue, IsLawfulTool}
use Rattle.pnm_flow.proofs.Words.{FusedFilter, ToolsAt, AreFresh, ToolAt}

-- one tool more
pub fresh_more : (stages : List (FusedFilter (StateValue AnyTool))) (tools : List Tool) (stage : FusedFilter (StateValue AnyTool)) (tool : Tool)
    → AreFresh stages tools → ToolAt stage tool [] [] → AreFresh (stages ++ stage ∷ []) (tools ++ tool ∷ [])
fresh_more [] [] stage tool at one = (one, tt)
fresh_more [] (t ∷ tools) stage tool at one = absurd at
fresh_more (s ∷ stages) [] stage tool at one = absurd at
fresh_more (s ∷ stages) (t ∷ tools) stage tool at one = (at.0, fresh_more stages tools stage tool at.1 one)

-- together they are a chain that has received nothing
pub fresh_at : (stages : List (FusedFilter (StateValue AnyTool))) (tools : List Tool) → AreFresh stages tools → ToolsAt stages tools [] []
fresh_at [] [] at = refl
fresh_at [] (t ∷ tools) at = absurd at
fresh_at (s ∷ stages) [] at = absurd at
fresh_at (s ∷ stages) (t ∷ tools) at = ([], at.0, fresh_at stages tools at.1)

-- a tool of a lawful chain
pub lawful_at : (tools : List Tool) (i : ℕ) (other : Tool) → AreLawfulTools tools → i < length tools → IsLawfulTool (get_or tools i other)
lawful_at [] i other lawful within = absurd (omega arith)
lawful_at (t ∷ tools) zero other lawful within = lawful.0
lawful_at (t ∷ tools) (suc i) other lawful within = lawful_at tools i other lawful.1 (omega arith)
