-- The heads of flipped images.
use Rattle.pnm_tools.proofs.Words.{◌≡◌, ◌⊎◌, inl, inr, ℕ, ◌&&◌, Bool, false, true, List, Result, Ok, Err, refl, sym, ap, ◌∙◌, ne_eqb, Shape, HeadValue}
use Rattle.pnm_tools.proofs.Words.{IsWithinLimits, head_value, ToolFault, OutOfOrder, FlipWay, Transform, Flip, transform_of, moves_rows, transformed_head}
use Rattle.pnm_tools.proofs.Words.{transposed_head_value, within_limits}
use Rattle.std.proofs.Common.{◌==◌, if◌then◌else◌}
use Rattle.pnm_tools.specs.Tools.{result_head}
use Rattle.pnm_tools.proofs.HeadLaws.{small_head, not_too_large}

and_false_right : (a b : Bool) → b ≡ false → (a && b) ≡ false
and_false_right true b e = e
and_false_right false b e = refl

-- an image that has rows
pub some_rows : (head : HeadValue) (s : Shape) → s ≡ head.shape → (s.height ≡ 0 → ⊥) → (head.shape.height == 0) ≡ false
some_rows head s shape some = ne_eqb head.shape.height 0 (λ e. some (ap (λ (z : Shape). z.height) shape ∙ e))

-- the rule
head_of_flip : (way : FlipWay) (head : HeadValue) → result_head (Flip way) head ≡ transformed_head (transform_of way) head
unfolding result_head
head_of_flip way head = refl

-- where rows don't stay in their places there have to be rows
pub flip_without_rows : (way : FlipWay) (head : HeadValue) (s : Shape) → moves_rows (transform_of way) ≡ true → s ≡ head.shape → s.height ≡ 0
    → result_head (Flip way) head ≡ Err OutOfOrder
flip_without_rows way head s moves shape none =
    let others : Result HeadValue ToolFault = if (transform_of way).exchanged then within_limits (transposed_head_value head) else Ok head in
    head_of_flip way head
    ∙ ap (λ (b : Bool). if b && (head.shape.height == 0) then Err OutOfOrder else others) moves
    ∙ ap (λ (n : ℕ). if n == 0 then Err OutOfOrder else others) (ap (λ (z : Shape). z.height) (sym shape) ∙ none)

-- a head is in order where rows stay in their places, or there are rows
flip_in_order : (t : Transform) (head : HeadValue) (s : Shape) → s ≡ head.shape → (moves_rows t ≡ false) ⊎ (s.height ≡ 0 → ⊥)
    → (moves_rows t && (head.shape.height == 0)) ≡ false
flip_in_order t head s shape (inl stays) = ap (λ (b : Bool). b && (head.shape.height == 0)) stays
flip_in_order t head s shape (inr some) = and_false_right (moves_rows t) (head.shape.height == 0) (some_rows head s shape some)

-- the sizes of the result
abbrev pub transformed_sizes : Bool → Shape → Shape
transformed_sizes exchanged s = if exchanged then record s { width = s.height; height = s.width } else s

-- a head whose sizes are exchanged or not, from its parts
exchanged_or_not : (b : Bool) (head : HeadValue) (s transformed : Shape) (t : List ℕ) → s ≡ head.shape → t ≡ head.tuple_type → transformed
    ≡ transformed_sizes b s
    → IsWithinLimits head.shape
    → ◌≡◌ {A = Result HeadValue ToolFault} (if b then within_limits (transposed_head_value head) else Ok head) (within_limits (head_value transformed t))
exchanged_or_not true head s transformed t shape type is limits =
    let whole : transposed_head_value head ≡ head_value transformed t =
    ap (λ (z : Shape). head_value (record z { width = z.height; height = z.width }) head.tuple_type) (sym shape)
    ∙ ap (λ (z : Shape). head_value z head.tuple_type) (sym is)
    ∙ ap (head_value transformed) (sym type) in
    ap within_limits whole
exchanged_or_not false head s transformed t shape type is limits =
    let whole : head_value transformed t ≡ head = ap (λ (z : Shape). head_value z t) (is ∙ shape) ∙ ap (head_value head.shape) type in
    sym (small_head head (not_too_large head.shape limits)) ∙ ap within_limits (sym whole)

-- the head of a flipped image, from its parts
pub transformed_head_made : (way : FlipWay) (head : HeadValue) (s transformed : Shape) (t : List ℕ) → s ≡ head.shape → (moves_rows (transform_of way) ≡ false)
    ⊎ (s.height ≡ 0 → ⊥) → transformed ≡ transformed_sizes (transform_of way).exchanged s
    → t ≡ head.tuple_type → IsWithinLimits head.shape → result_head (Flip way) head ≡ within_limits (head_value transformed t)
transformed_head_made way head s transformed t shape order is type limits =
    let exchanged : Bool = (transform_of way).exchanged in
    head_of_flip way head
    ∙ ap (λ (b : Bool). if b then Err OutOfOrder else if exchanged then within_limits (transposed_head_value head) else Ok head)
    (flip_in_order (transform_of way) head s shape order)
    ∙ exchanged_or_not exchanged head s transformed t shape type is limits
