-- Between functions: the text of a chain: which texts spell which tools, and what is wrong with every other text.
use Rattle.std.specs.Prelude.{◌≡◌, ◌⊎◌, Option}
use Rattle.std.specs.Prelude.{Some}
use Rattle.pnm_chain.specs.declared.chain_text.ChainKind.{ChainKind}
use Rattle.pnm_chain.specs.declared.chain_text.ChainKind.TheVariants.{Memory}

-- ---- faults

-- a refusal is this fault or want of memory
abbrev pub IsRefusal : Option ChainKind → ChainKind → Type 0
IsRefusal fault kind = (kind ≡ Memory) ⊎ (fault ≡ Some kind)
