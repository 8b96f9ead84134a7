-- The head of a result, tool by tool.
use Rattle.pnm_tools.proofs.Words.{◌≡◌, ◌⊎◌, inl, inr, ℕ, Bool, false, true, List, nat_lt, IfOk, IfErr, ◌↔◌, ◌<◌, ◌≤◌, IsTrue, length, Ok, Err, Result, refl}
use Rattle.pnm_tools.proofs.Words.{sym, ap, subst, ◌∙◌, list_all, Shape, Kind, Pam, HeadValue, IsWithinLimits, head_value, row_length, is_too_large}
use Rattle.pnm_tools.proofs.Words.{not_large_size, sizes_within, ToolFault, Memory, TooLarge, ChannelOutside, CutBox, Tool, Cut, Channel, Picks, picked_head}
use Rattle.pnm_tools.proofs.Words.{picked_head_value, cut_head, within_limits, SampleRule, changed_head, TakesHead, MAX_DEPTH, MAX_ROW_LENGTH, MAX_SIDE}
use Rattle.std.proofs.Common.{if◌then◌else◌, All}
use Rattle.pnm_tools.specs.Tools.{result_head}
use Rattle.pnm_tools.proofs.SamplewiseLaws.{IsSamplewise, head_of_rule}
use Rattle.pnm_tools.proofs.PickLaws.{all_below}

pub head_of_cut : (box : CutBox) (head : HeadValue) → result_head (Cut box) head ≡ cut_head box head
unfolding result_head
head_of_cut box head = refl

pub head_of_channel : (planes : Picks) (head : HeadValue) → result_head (Channel planes) head ≡ picked_head planes head
unfolding result_head
head_of_channel planes head = refl

-- ---- limits

pub small_sizes : (s : Shape) → s.width ≤ MAX_SIDE → s.height ≤ MAX_SIDE → s.depth ≤ MAX_DEPTH → row_length s ≤ MAX_ROW_LENGTH → is_too_large s ≡ false
small_sizes s width height depth row = not_large_size s.width s.height s.depth (row_length s) width height depth row

-- an image's shape is within the limits of results
pub not_too_large : (s : Shape) → IsWithinLimits s → is_too_large s ≡ false
not_too_large s h = small_sizes s h.width_high h.height_high h.depth_high h.row_high

abbrev refused_large : Result HeadValue ToolFault
refused_large = Err TooLarge

-- a head within the limits is made
pub small_head : (h : HeadValue) → is_too_large h.shape ≡ false → within_limits h ≡ Ok h
small_head h e = ap (λ (b : Bool). if b then refused_large else Ok h) e

pub large_head : (h : HeadValue) → is_too_large h.shape ≡ true → within_limits h ≡ Err TooLarge
large_head h e = ap (λ (b : Bool). if b then refused_large else Ok h) e

-- what making a head within the limits says of the rule of the tool
pub head_so : (tool : Tool) (head x : HeadValue) (r : Result HeadValue ToolFault) → result_head tool head ≡ within_limits x
    → IfOk r (λ made. (made ≡ x) × (is_too_large x.shape ≡ false)) → IfOk r (λ made. result_head tool head ≡ Ok made)
head_so tool head x (Ok made) e h = e ∙ small_head x h.1 ∙ ap (λ (y : HeadValue). Ok y) (sym h.0)
head_so tool head x (Err fault) e h = tt

pub fault_so : (tool : Tool) (head x : HeadValue) (r : Result HeadValue ToolFault) → result_head tool head ≡ within_limits x
    → IfErr r (λ fault. ((fault ≡ TooLarge) × (is_too_large x.shape ≡ true)) ⊎ ((fault ≡ Memory) × (is_too_large x.shape ≡ false)))
    → IfErr r (λ fault. (result_head tool head ≡ Err fault) ⊎ ((fault ≡ Memory) × TakesHead tool head))
fault_so tool head x (Ok made) e h = tt
fault_so tool head x (Err fault) e (inl h) = inl (e ∙ large_head x h.1 ∙ ap (λ (k : ToolFault). Err k) (sym h.0))
fault_so tool head x (Err fault) e (inr h) = inr (h.0, (x, e ∙ small_head x h.1))

-- ---- heads that are made

-- the head of an image each sample of which is changed by itself, from its parts
pub changed_head_made : {tool : Tool} {rule : SampleRule} → IsSamplewise tool rule → (head : HeadValue) (s : Shape) (kind : Kind) (maxval : ℕ) (t old : List ℕ)
    → s ≡ head.shape → kind ≡ rule.kind s.kind → maxval ≡ rule.maxval s.maxval → t ≡ rule.tuple_type old → old ≡ head.tuple_type
    → IsWithinLimits head.shape → result_head tool head ≡ within_limits (head_value (record s { kind = kind; maxval = maxval }) t)
changed_head_made {rule = rule} is head s kind maxval t old shape kinds most types olds sound =
    let x : HeadValue = head_value (record s { kind = kind; maxval = maxval }) t in
    let whole : x ≡ changed_head rule head =
    ap (λ (k : Kind). head_value (record s { kind = k; maxval = maxval }) t) kinds
    ∙ ap (λ (n : ℕ). head_value (record s { kind = rule.kind s.kind; maxval = n }) t) most
    ∙ ap (λ (z : Shape). head_value (record z { kind = rule.kind z.kind; maxval = rule.maxval z.maxval }) t) shape
    ∙ ap (head_value (changed_head rule head).shape) (types ∙ ap rule.tuple_type olds) in
    head_of_rule is head ∙ ap (λ (h : HeadValue). Ok h) (sym whole)
    ∙ sym (small_head x (not_too_large s (subst IsWithinLimits (sym shape) sound)))

-- the head of planes, where it was seen whether all are there
abbrev planes_by : Picks → HeadValue → Bool → Result HeadValue ToolFault
planes_by planes head b = if b then within_limits (picked_head_value planes head) else Err ChannelOutside

planes_head : (planes : Picks) (head : HeadValue) (s : Shape) (seen : List ℕ) (b : Bool) → s ≡ head.shape → seen ≡ planes.numbers
    → (IsTrue b ↔ All (λ number. number < s.depth) seen) → result_head (Channel planes) head ≡ planes_by planes head b
planes_head planes head s seen b shape same h =
    let there : list_all (λ number. nat_lt number head.shape.depth) planes.numbers ≡ b =
    ap (λ (z : Shape). list_all (λ number. nat_lt number z.depth) planes.numbers) (sym shape)
    ∙ ap (λ (l : List ℕ). list_all (λ number. nat_lt number s.depth) l) (sym same) ∙ all_below seen s.depth b h in
    head_of_channel planes head ∙ ap (planes_by planes head) there

pub planes_outside : (planes : Picks) (head : HeadValue) (s : Shape) (seen : List ℕ) (b : Bool) → s ≡ head.shape → seen ≡ planes.numbers
    → (IsTrue b ↔ All (λ number. number < s.depth) seen) → b ≡ false → result_head (Channel planes) head ≡ Err ChannelOutside
planes_outside planes head s seen b shape same h found = planes_head planes head s seen b shape same h ∙ ap (planes_by planes head) found

pub planes_inside : (planes : Picks) (head : HeadValue) (s : Shape) (seen : List ℕ) (b : Bool) (n : ℕ) (t : List ℕ) → s ≡ head.shape → seen ≡ planes.numbers
    → (IsTrue b ↔ All (λ number. number < s.depth) seen) → b ≡ true → n ≡ length seen → t ≡ planes.tuple_type
    → result_head (Channel planes) head ≡ within_limits (head_value (record s { kind = Pam; depth = n }) t)
planes_inside planes head s seen b n t shape same h found count type =
    let whole : picked_head_value planes head ≡ head_value (record s { kind = Pam; depth = n }) t =
    ap (λ (z : Shape). head_value (record z { kind = Pam; depth = length planes.numbers }) planes.tuple_type) (sym shape)
    ∙ ap (λ (k : ℕ). head_value (record s { kind = Pam; depth = k }) planes.tuple_type) (sym (count ∙ ap length same))
    ∙ ap (λ (l : List ℕ). head_value (record s { kind = Pam; depth = n }) l) (sym type) in
    planes_head planes head s seen b shape same h ∙ ap (planes_by planes head) found ∙ ap within_limits whole

-- the rows of a head within the limits are within them
pub small_row : (s : Shape) → is_too_large s ≡ false → row_length s ≤ MAX_ROW_LENGTH
small_row s e = (sizes_within s.width s.height s.depth (row_length s) e).3
