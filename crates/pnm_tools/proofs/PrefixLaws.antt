-- What is due from a chain, by what is due from its first tool.
use Rattle.pnm_tools.proofs.Words.{◌≡◌, ◌⊎◌, inl, inr, ◌≤◌, List, [], ◌∷◌, ◌++◌, Result, Ok, Err, refl, sym, ap, subst, ◌∙◌, append_assoc, append-nil, arith}
use Rattle.pnm_tools.proofs.Words.{All-nil, Gray, Message, Begin, Row, ImageEnd, StreamEnd, Stop, Image, IsImage, AreImages, messages_of_image}
use Rattle.pnm_tools.proofs.Words.{messages_of_stream, IsPrefixOf, ToolFault, Tool, IsLawfulTool, applied, applied_in_turn}
use Rattle.pnm_tools.specs.Tools.{output_due}
use Rattle.pnm_tools.specs.Chains.{due_in_turn}
use Rattle.pnm_tools.proofs.FullLaws.{prefix_of_prefix}
use Rattle.pnm_tools.proofs.SoundLaws.{both_all, prefix_after}
use Rattle.pnm_tools.proofs.ResultLaws.{result_is_image}

-- the messages due, by what becomes of the first image
abbrev first_then : List Message → Result Image ToolFault → List Message
first_then due r = elim r [ Ok j ↦ messages_of_image j ++ due | Err fault ↦ [] ]

due_in_turn_then : (tools : List Tool) (i : Image) (is : List Image) → due_in_turn tools (i ∷ is) ≡ first_then (due_in_turn tools is) (applied_in_turn tools i)
unfolding due_in_turn
due_in_turn_then tools i is = refl

-- a chain with no tool gives what it receives
pub nothing_changes : (is : List Image) → due_in_turn [] is ≡ messages_of_stream is
unfolding due_in_turn
nothing_changes [] = refl
nothing_changes (i ∷ is) = ap (λ (l : List Message). messages_of_image i ++ l) (nothing_changes is)

-- what becomes of an image in the other tools
abbrev pub rest_in_turn : List Tool → Result Image ToolFault → Result Image ToolFault
rest_in_turn tools r = elim r [ Ok j ↦ applied_in_turn tools j | Err fault ↦ Err fault ]

-- what is due from the first tool is a prefix of the stream of its results, for which as much is due from the other tools as
-- from all tools
abbrev AreWhole : List Tool → List Message → List Message → List Image → Type 0
AreWhole tools out due js = IsPrefixOf out (messages_of_stream js) × (due ≡ due_in_turn tools js)

-- a refusal has cut the results off: other images may come after them
abbrev AreCutOff : List Tool → List Message → List Message → List Image → Type 0
AreCutOff tools out due js = ((more : List Image) → IsPrefixOf out (messages_of_stream (js ++ more)))
    × ((more : List Image) → due_in_turn tools (js ++ more) ≡ due ++ due_in_turn tools more)

abbrev HasResults : List Tool → List Message → List Message → Type 0
HasResults tools out due = (js : List Image) × AreImages js × (AreWhole tools out due js ⊎ AreCutOff tools out due js)

-- one result more before results that are cut off
cut_off_after : (tools : List Tool) (j : Image) (js : List Image) (out due : List Message) (r : Result Image ToolFault) → applied_in_turn tools j ≡ r
    → AreCutOff tools out due js
    → AreWhole tools (messages_of_image j ++ out) (first_then due r) (j ∷ js) ⊎ AreCutOff tools (messages_of_image j ++ out) (first_then due r) (j ∷ js)
cut_off_after tools j js out due (Err fault) made cut =
    let prefix : IsPrefixOf out (messages_of_stream js) = subst (λ (ks : List Image). IsPrefixOf out (messages_of_stream ks)) (append-nil js) (cut.0 []) in
    inl (prefix_after (messages_of_image j) out (messages_of_stream js) prefix, sym (due_in_turn_then tools j js ∙ ap (first_then (due_in_turn tools js)) made))
cut_off_after tools j js out due (Ok k) made cut = inr (
  λ more. prefix_after (messages_of_image j) out (messages_of_stream (js ++ more)) (cut.0 more),
  λ more. due_in_turn_then tools j (js ++ more) ∙ ap (first_then (due_in_turn tools (js ++ more))) made
      ∙ ap (λ (l : List Message). messages_of_image k ++ l) (cut.1 more) ∙ sym (append_assoc (messages_of_image k) due (due_in_turn tools more)),
)

-- one result more
result_after : (tools : List Tool) (j : Image) (js : List Image) (out due : List Message) → AreWhole tools out due js ⊎ AreCutOff tools out due js
    → AreWhole tools (messages_of_image j ++ out) (first_then due (applied_in_turn tools j)) (j ∷ js)
    ⊎ AreCutOff tools (messages_of_image j ++ out) (first_then due (applied_in_turn tools j)) (j ∷ js)
result_after tools j js out due (inl h) =
    inl (
      prefix_after (messages_of_image j) out (messages_of_stream js) h.0,
      ap (λ (l : List Message). first_then l (applied_in_turn tools j)) h.1
          ∙ sym (due_in_turn_then tools j js),
    )
result_after tools j js out due (inr h) = cut_off_after tools j js out due (applied_in_turn tools j) refl h

results_by : (tool : Tool) (tools : List Tool) (i : Image) (out due : List Message) (r : Result Image ToolFault) → IsLawfulTool tool → IsImage i
    → applied tool i ≡ r → HasResults tools out due → HasResults tools (first_then out r) (first_then due (rest_in_turn tools r))
results_by tool tools i out due (Err fault) lawful image made others = ([], tt, inr (λ more. (messages_of_stream more, refl), λ more. refl))
results_by tool tools i out due (Ok j) lawful image made others =
    (j ∷ others.0, (result_is_image tool i j lawful image made, others.1), result_after tools j others.0 out due others.2)

pub has_results : (tool : Tool) (tools : List Tool) (is : List Image) → IsLawfulTool tool → AreImages is
    → HasResults tools (output_due tool is) (due_in_turn (tool ∷ tools) is)
unfolding output_due due_in_turn
has_results tool tools [] lawful are = ([], tt, inl (([], refl), refl))
has_results tool tools (i ∷ is) lawful are = results_by tool tools i (output_due tool is) (due_in_turn (tool ∷ tools) is) (applied tool i) lawful are.0 refl
    (has_results tool tools is lawful are.1)

-- ---- a prefix of what is due for the results, whatever comes after them

-- messages that don't begin with the end of the stream
abbrev BeginsOtherwise : List Message → Type 0
BeginsOtherwise [] = Unit {0}
BeginsOtherwise (Begin head ∷ ms) = Unit {0}
BeginsOtherwise (Row row ∷ ms) = Unit {0}
BeginsOtherwise (ImageEnd ∷ ms) = Unit {0}
BeginsOtherwise (StreamEnd ∷ ms) = ⊥
BeginsOtherwise (Stop ∷ ms) = Unit {0}

first_begins : (due : List Message) (r : Result Image ToolFault) → BeginsOtherwise (first_then due r)
first_begins due (Ok j) = tt
first_begins due (Err fault) = tt

image_begins : (tools : List Tool) (i : Image) (is : List Image) → BeginsOtherwise (due_in_turn tools (i ∷ is))
image_begins tools i is = subst BeginsOtherwise (sym (due_in_turn_then tools i is)) (first_begins (due_in_turn tools is) (applied_in_turn tools i))

-- a prefix with the end of the stream, and with something else, goes no further
common_prefix : (due given other rest left : List Message) → BeginsOtherwise other → due ++ StreamEnd ∷ [] ≡ given ++ rest → due ++ other ≡ given ++ left
    → IsPrefixOf given due
common_prefix [] [] other rest left begins e f = ([], refl)
common_prefix [] (m ∷ given) other rest left begins e f =
    let first : StreamEnd ≡ m = cc in
    absurd (subst BeginsOtherwise (f ∙ ap (λ (k : Message). k ∷ (given ++ left)) (sym first)) begins)
common_prefix (k ∷ due) [] other rest left begins e f = (k ∷ due, refl)
common_prefix (k ∷ due) (m ∷ given) other rest left begins e f =
    let first : k ≡ m = cc in
    let ends : due ++ StreamEnd ∷ [] ≡ given ++ rest = cc in
    let others : due ++ other ≡ given ++ left = cc in
    let prefix = common_prefix due given other rest left begins ends others in
    (prefix.0, ap (λ (n : Message). n ∷ due) first ∙ ap (λ (l : List Message). m ∷ l) prefix.1)

-- an image with no row
abbrev no_rows : Image
no_rows = record { head = record { shape = record { kind = Gray; width = 1; height = 0; depth = 1; maxval = 1 }; tuple_type = [] }; samples = [] }

no_rows_is_image : IsImage no_rows
no_rows_is_image = record {
  head = record {
    limits = record {
      width_low = omega arith;
      width_high = omega arith;
      height_high = omega arith;
      depth_low = omega arith;
      depth_high = omega arith;
      row_high = omega arith;
      maxval_low = omega arith;
      maxval_high = omega arith;
    };
    suits = (refl, refl);
  };
  count = refl;
  range = All-nil (λ sample. sample ≤ 1);
}

-- what is a prefix of what is due for each list of results is a prefix of what is due for the images
prefix_by : (tools : List Tool) (middle out due given : List Message) (js : List Image) → AreImages js → IsPrefixOf middle out
    → ((ks : List Image) → AreImages ks → IsPrefixOf middle (messages_of_stream ks) → IsPrefixOf given (due_in_turn tools ks))
    → AreWhole tools out due js ⊎ AreCutOff tools out due js → IsPrefixOf given due
unfolding due_in_turn
prefix_by tools middle out due given js are prefix others (inl h) =
    subst (IsPrefixOf given) (sym h.1) (others js are (prefix_of_prefix middle out (messages_of_stream js) prefix h.0))
prefix_by tools middle out due given js are prefix others (inr h) =
    let one : List Image = no_rows ∷ [] in
    let ends = others (js ++ []) (both_all IsImage js [] are tt) (prefix_of_prefix middle out (messages_of_stream (js ++ [])) prefix (h.0 [])) in
    let goes = others (js ++ one) (both_all IsImage js one are (no_rows_is_image, tt))
    (prefix_of_prefix middle out (messages_of_stream (js ++ one)) prefix (h.0 one)) in
    common_prefix due given (due_in_turn tools one) ends.0 goes.0 (image_begins tools no_rows []) (sym (h.1 []) ∙ ends.1) (sym (h.1 one) ∙ goes.1)

pub prefix_by_results : (tool : Tool) (tools : List Tool) (is : List Image) (middle given : List Message) → IsLawfulTool tool → AreImages is
    → IsPrefixOf middle (output_due tool is)
    → ((js : List Image) → AreImages js → IsPrefixOf middle (messages_of_stream js) → IsPrefixOf given (due_in_turn tools js))
    → IsPrefixOf given (due_in_turn (tool ∷ tools) is)
prefix_by_results tool tools is middle given lawful are prefix others =
    let r = has_results tool tools is lawful are in
    prefix_by tools middle (output_due tool is) (due_in_turn (tool ∷ tools) is) given r.0 r.1 prefix others r.2
