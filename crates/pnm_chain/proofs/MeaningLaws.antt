-- The tool that settings mean, and their fault, are those of their items.
use Rattle.pnm_chain.proofs.Words.{◌≡◌, Bool, true, false, None, List, Result, IfOk, IfErr, inl, inr, sym, ap, ◌∙◌, IfOk-weaker, IfErr-weaker, ChainKind}
use Rattle.pnm_chain.proofs.Words.{Conflict, Memory, MissingArgument, Tool, ToolName, Settings, Said, tool_rule, Item, is_conflict, is_missing, meant_by}
use Rattle.pnm_chain.proofs.Words.{end_fault, AreSettingsOf, AreTaken, said_by, IsRefusal}
use Rattle.pnm_chain.proofs.ItemLaws.{end_by}

module _ (tool : ToolName) (s : Settings) where
  -- the settings' items mean this tool, and no fault ends them
  abbrev pub IsMeant : Tool → Type 0
  IsMeant meaning = (items : List Item) → AreSettingsOf tool items s → (end_fault tool items ≡ None) × (meaning ≡ meant_by tool items)

  -- this fault ends them, or it is want of memory
  abbrev pub IsEndFault : ChainKind → Type 0
  IsEndFault kind = (items : List Item) → AreSettingsOf tool items s → IsRefusal (end_fault tool items) kind

  conflict_is : (items : List Item) (conflict found : Bool) → AreSettingsOf tool items s → found ≡ (tool_rule tool).conflict (said_by s) → found ≡ conflict
      → is_conflict tool items ≡ conflict
  conflict_is items conflict found h is was = ap (λ (said : Said). (tool_rule tool).conflict said) (sym h.said_is) ∙ sym is ∙ was

  missing_is : (items : List Item) (missing found : Bool) → AreSettingsOf tool items s → found ≡ (tool_rule tool).missing (said_by s) → found ≡ missing
      → is_missing tool items ≡ missing
  missing_is items missing found h is was = ap (λ (said : Said). (tool_rule tool).missing said) (sym h.said_is) ∙ sym is ∙ was

  pub conflicts : (found : Bool) → found ≡ (tool_rule tool).conflict (said_by s) → found ≡ true → IsEndFault Conflict
  conflicts found is was items h = inr (ap (λ (conflict : Bool). end_by conflict (is_missing tool items)) (conflict_is items true found h is was))

  module _ (conflict : Bool) (is : conflict ≡ (tool_rule tool).conflict (said_by s)) (was : conflict ≡ false) where
    ends_by : (items : List Item) (missing found : Bool) → AreSettingsOf tool items s → found ≡ (tool_rule tool).missing (said_by s) → found ≡ missing
        → end_fault tool items ≡ end_by false missing
    ends_by items missing found h e f =
        ap (λ (b : Bool). end_by b (is_missing tool items)) (conflict_is items false conflict h is was)
        ∙ ap (λ (b : Bool). end_by false b) (missing_is items missing found h e f)

    pub lacks : (found : Bool) → found ≡ (tool_rule tool).missing (said_by s) → found ≡ true → IsEndFault MissingArgument
    lacks found e f items h = inr (ends_by items true found h e f)

    pub means : (found : Bool) (r : Result Tool ChainKind) → found ≡ (tool_rule tool).missing (said_by s) → found ≡ false
        → IfOk r (λ meaning. AreTaken tool s.numbers.items → meaning ≡ (tool_rule tool).meant (said_by s)) → IfOk r IsMeant
    means found r e f = IfOk-weaker r (λ meaning. AreTaken tool s.numbers.items → meaning ≡ (tool_rule tool).meant (said_by s)) IsMeant
        (λ meaning made items h. (ends_by items false found h e f, made h.taken ∙ ap (λ (said : Said). (tool_rule tool).meant said) h.said_is))

  pub lacks_memory : (r : Result Tool ChainKind) → IfErr r (λ kind. kind ≡ Memory) → IfErr r IsEndFault
  lacks_memory r = IfErr-weaker r (λ kind. kind ≡ Memory) IsEndFault (λ kind memory items h. inl memory)
