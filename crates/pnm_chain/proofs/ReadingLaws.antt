-- A stage while it is read, item by item.
use Rattle.pnm_chain.proofs.Words.{◌≡◌, ◌⊎◌, inl, inr, ℕ, Option, Some, None, List, [], ◌∷◌, ◌++◌, refl, sym, ap, subst, ◌∙◌, append-nil, append_assoc, words}
use Rattle.pnm_chain.proofs.Words.{Tool, ChainKind, Memory, ToolName, Settings, tool_named, Item, items_of, Means, meant_by, item_fault, end_fault, fault_after}
use Rattle.pnm_chain.proofs.Words.{AreSettingsOf, IsReading, SpellsTool, named_fault, words_fault, stage_fault}
use Rattle.std.specs.Prelude.{Result, Ok, Err, IfOk, IfErr}
use Rattle.pnm_chain.proofs.ItemSteps.{items_of-nil}
use Rattle.pnm_chain.proofs.ItemLaws.{after_by, fault_after-cons, fault_after-nil, items_mean}

pub begins : (tool : ToolName) (s : Settings) (rest : List ℕ) → AreSettingsOf tool [] s → IsReading tool (items_of tool (words rest)) s rest
begins tool s rest h = record { before = []; settings_are = h; items_are = refl; fault_is = refl }

pub goes_on : (tool : ToolName) (items : List Item) (old new : Settings) (rest after : List ℕ) (item : Item) → IsReading tool items old rest
    → items_of tool (words rest) ≡ item ∷ items_of tool (words after)
    → ((before : List Item) → AreSettingsOf old.tool before old → (item_fault old.tool before item ≡ None) × AreSettingsOf old.tool (before ++ item ∷ []) new)
    → IsReading tool items new after
goes_on tool items old new rest after item h e taken =
    let now = subst (λ (t : ToolName). AreSettingsOf t h.before old → (item_fault t h.before item ≡ None) × AreSettingsOf t (h.before ++ item ∷ []) new)
    h.settings_are.tool_is (taken h.before) h.settings_are in
    record {
      before = h.before ++ item ∷ [];
      settings_are = now.1;
      items_are = h.items_are ∙ ap (λ (l : List Item). h.before ++ l) e ∙ sym (append_assoc h.before (item ∷ []) (items_of tool (words after)));
      fault_is =
          h.fault_is ∙ ap (λ (l : List Item). fault_after tool h.before l) e ∙ fault_after-cons tool h.before item (items_of tool (words after))
          ∙ ap (λ (fault : Option ChainKind). after_by fault (fault_after tool (h.before ++ item ∷ []) (items_of tool (words after)))) now.0;
    }

pub stops : (tool : ToolName) (items : List Item) (s : Settings) (rest : List ℕ) (item : Item) (others : List Item) (kind : ChainKind)
    → IsReading tool items s rest → items_of tool (words rest) ≡ item ∷ others
    → ((before : List Item) → AreSettingsOf s.tool before s → (kind ≡ Memory) ⊎ (item_fault s.tool before item ≡ Some kind)) → (kind ≡ Memory)
    ⊎ (fault_after tool [] items ≡ Some kind)
stops tool items s rest item others kind h e refused =
    elim (subst (λ (t : ToolName). AreSettingsOf t h.before s → (kind ≡ Memory) ⊎ (item_fault t h.before item ≡ Some kind)) h.settings_are.tool_is
    (refused h.before) h.settings_are) [
      | inl memory ↦ inl memory
      | inr fault ↦ inr (
          h.fault_is ∙ ap (λ (l : List Item). fault_after tool h.before l) e ∙ fault_after-cons tool h.before item others
          ∙ ap (λ (f : Option ChainKind). after_by f (fault_after tool (h.before ++ item ∷ []) others)) fault)
    ]

all_read : (tool : ToolName) (items : List Item) (s : Settings) (rest : List ℕ) (h : IsReading tool items s rest) → words rest ≡ [] → items ≡ h.before
all_read tool items s rest h none = h.items_are ∙ ap (λ (found : List (List ℕ)). h.before ++ items_of tool found) none
    ∙ ap (λ (l : List Item). h.before ++ l) (items_of-nil tool) ∙ append-nil h.before

end_is : (tool : ToolName) (items : List Item) (s : Settings) (rest : List ℕ) (h : IsReading tool items s rest) → words rest ≡ []
    → fault_after tool [] items ≡ end_fault tool h.before
end_is tool items s rest h none =
    h.fault_is ∙ ap (λ (found : List (List ℕ)). fault_after tool h.before (items_of tool found)) none
    ∙ ap (λ (l : List Item). fault_after tool h.before l) (items_of-nil tool) ∙ fault_after-nil tool h.before

-- a stage's fault is that of its items
stage_is : (stage first : List ℕ) (others : List (List ℕ)) (name : ToolName) → words stage ≡ first ∷ others → tool_named first ≡ Some name
    → stage_fault stage ≡ fault_after name [] (items_of name others)
stage_is stage first others name is named = ap (λ (found : List (List ℕ)). words_fault found) is
    ∙ ap (λ (found : Option ToolName). named_fault found others) named

pub ends_well : (stage first rest text : List ℕ) (tool : ToolName) (s : Settings) (meaning : Tool) → words stage ≡ first ∷ words text
    → tool_named first ≡ Some tool → IsReading tool (items_of tool (words text)) s rest → words rest ≡ []
    → ((items : List Item) → AreSettingsOf s.tool items s → (end_fault s.tool items ≡ None) × (meaning ≡ meant_by s.tool items)) → (stage_fault stage ≡ None)
    × SpellsTool stage meaning
ends_well stage first rest text tool s meaning is named h none finished =
    let end = subst (λ (t : ToolName). AreSettingsOf t h.before s → (end_fault t h.before ≡ None) × (meaning ≡ meant_by t h.before)) h.settings_are.tool_is
    (finished h.before) h.settings_are in
    let all : items_of tool (words text) ≡ h.before = all_read tool (items_of tool (words text)) s rest h none in
    let free : fault_after tool [] (items_of tool (words text)) ≡ None = end_is tool (items_of tool (words text)) s rest h none ∙ end.0 in
    let meant : meaning ≡ meant_by tool (items_of tool (words text)) = end.1 ∙ ap (λ (l : List Item). meant_by tool l) (sym all) in (
      stage_is stage first (words text) tool is named ∙ free,
      record {
        name = first;
        others = words text;
        tool_name = tool;
        words_are = is;
        named = named;
        meant = subst (λ (t : Tool). Means tool (items_of tool (words text)) t) (sym meant) (items_mean tool (items_of tool (words text)) free);
      },
    )

pub ends_badly : (stage first rest text : List ℕ) (tool : ToolName) (s : Settings) (kind : ChainKind) → words stage ≡ first ∷ words text
    → tool_named first ≡ Some tool → IsReading tool (items_of tool (words text)) s rest → words rest ≡ []
    → ((items : List Item) → AreSettingsOf s.tool items s → (kind ≡ Memory) ⊎ (end_fault s.tool items ≡ Some kind)) → (kind ≡ Memory)
    ⊎ (stage_fault stage ≡ Some kind)
ends_badly stage first rest text tool s kind is named h none refused =
    elim (subst (λ (t : ToolName). AreSettingsOf t h.before s → (kind ≡ Memory) ⊎ (end_fault t h.before ≡ Some kind)) h.settings_are.tool_is (refused h.before)
    h.settings_are) [
      | inl memory ↦ inl memory
      | inr fault ↦ inr (stage_is stage first (words text) tool is named ∙ end_is tool (items_of tool (words text)) s rest h none ∙ fault)
    ]

pub stops_badly : (stage first rest text : List ℕ) (tool : ToolName) (s : Settings) (item : Item) (others : List Item) (kind : ChainKind)
    → words stage ≡ first ∷ words text → tool_named first ≡ Some tool
    → IsReading tool (items_of tool (words text)) s rest → items_of tool (words rest) ≡ item ∷ others
    → ((before : List Item) → AreSettingsOf s.tool before s → (kind ≡ Memory) ⊎ (item_fault s.tool before item ≡ Some kind)) → (kind ≡ Memory)
    ⊎ (stage_fault stage ≡ Some kind)
stops_badly stage first rest text tool s item others kind is named h e refused =
    elim (stops tool (items_of tool (words text)) s rest item others kind h e refused) [
      | inl memory ↦ inl memory
      | inr fault ↦ inr (stage_is stage first (words text) tool is named ∙ fault)
    ]

-- ---- what a stage is answered

pub ends_ok : (stage first rest text : List ℕ) (tool : ToolName) (s : Settings) (result : Result Tool ChainKind) → words stage ≡ first ∷ words text
    → tool_named first ≡ Some tool → IsReading tool (items_of tool (words text)) s rest → words rest ≡ []
    → IfOk result (λ meaning. (items : List Item) → AreSettingsOf s.tool items s → (end_fault s.tool items ≡ None) × (meaning ≡ meant_by s.tool items))
    → IfOk result (λ meaning. (stage_fault stage ≡ None) × SpellsTool stage meaning)
ends_ok stage first rest text tool s (Ok meaning) is named h none finished = ends_well stage first rest text tool s meaning is named h none finished
ends_ok stage first rest text tool s (Err kind) is named h none finished = cc

pub ends_err : (stage first rest text : List ℕ) (tool : ToolName) (s : Settings) (result : Result Tool ChainKind) → words stage ≡ first ∷ words text
    → tool_named first ≡ Some tool → IsReading tool (items_of tool (words text)) s rest → words rest ≡ []
    → IfErr result (λ kind. (items : List Item) → AreSettingsOf s.tool items s → (kind ≡ Memory) ⊎ (end_fault s.tool items ≡ Some kind))
    → IfErr result (λ kind. (kind ≡ Memory) ⊎ (stage_fault stage ≡ Some kind))
ends_err stage first rest text tool s (Ok meaning) is named h none refused = cc
ends_err stage first rest text tool s (Err kind) is named h none refused = ends_badly stage first rest text tool s kind is named h none refused
