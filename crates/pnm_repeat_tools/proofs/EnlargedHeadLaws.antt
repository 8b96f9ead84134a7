-- The heads of enlarged images.
use Rattle.pnm_repeat_tools.proofs.Words.{◌≡◌, ◌⊎◌, inl, inr, ℕ, ◌*◌, ◌<◌, ◌==◌, ◌&&◌, not, Bool, false, true, List, if◌then◌else◌, Err, refl, sym, ap, subst}
use Rattle.pnm_repeat_tools.proofs.Words.{◌∙◌, arith, ne_eqb, nat_tests, MAX_SIDE, Shape, HeadValue, head_value, is_too_large, OutOfOrder, TooLarge, Enlarge}
use Rattle.pnm_repeat_tools.proofs.Words.{enlarged_head, enlarged_head_value, within_limits, large_head, some_rows}
use Rattle.pnm_tools.specs.Tools.{result_head}

-- a width or a height beyond the limits
too_wide : (s : Shape) → MAX_SIDE < s.width → is_too_large s ≡ true
too_wide s h = grind (arith, nat_tests)

too_high : (s : Shape) → MAX_SIDE < s.height → is_too_large s ≡ true
too_high s h = grind (arith, nat_tests)

module _ (across down : ℕ) (head : HeadValue) where
  -- the rule
  head_of_enlarge : result_head (Enlarge across down) head ≡ enlarged_head across down head
  unfolding result_head
  head_of_enlarge = refl

  -- an image without rows that are to be repeated
  pub enlarge_without_rows : {s : Shape} → s ≡ head.shape → (down ≡ 1 → ⊥) → s.height ≡ 0 → result_head (Enlarge across down) head ≡ Err OutOfOrder
  enlarge_without_rows shape many none =
      let repeated : (down == 1) ≡ false = ne_eqb down 1 many in
      head_of_enlarge
      ∙ ap (λ (b : Bool). if not b && (head.shape.height == 0) then Err OutOfOrder else within_limits (enlarged_head_value across down head)) repeated
      ∙ ap (λ (n : ℕ). if n == 0 then Err OutOfOrder else within_limits (enlarged_head_value across down head))
      (ap (λ (z : Shape). z.height) (sym shape) ∙ none)

  -- any other image
  pub enlarge_in_order : {s : Shape} → s ≡ head.shape → ((down ≡ 1 → ⊥) × (s.height ≡ 0 → ⊥)) ⊎ (down ≡ 1)
      → result_head (Enlarge across down) head ≡ within_limits (enlarged_head_value across down head)
  enlarge_in_order {s} shape (inl h) =
      head_of_enlarge
      ∙ ap (λ (b : Bool). if not b && (head.shape.height == 0) then Err OutOfOrder else within_limits (enlarged_head_value across down head))
      (ne_eqb down 1 h.0)
      ∙ ap (λ (b : Bool). if b then Err OutOfOrder else within_limits (enlarged_head_value across down head)) (some_rows head s shape h.1)
  enlarge_in_order shape (inr h) =
      head_of_enlarge
      ∙ ap (λ (n : ℕ). if not (n == 1) && (head.shape.height == 0) then Err OutOfOrder else within_limits (enlarged_head_value across down head)) h

  -- the head of an enlarged image, from its parts
  pub enlarged_head_made : {s : Shape} {width height : ℕ} {t : List ℕ} → s ≡ head.shape → ((down ≡ 1 → ⊥) × (s.height ≡ 0 → ⊥)) ⊎ (down ≡ 1)
      → width ≡ s.width * across → height ≡ s.height * down → t ≡ head.tuple_type
      → result_head (Enlarge across down) head ≡ within_limits (head_value (record s { width = width; height = height }) t)
  enlarged_head_made {s} {width} {height} {t} shape order wide high type =
      let whole : enlarged_head_value across down head ≡ head_value (record s { width = width; height = height }) t =
      ap (λ (z : Shape). head_value (record z { width = z.width * across; height = z.height * down }) head.tuple_type) (sym shape)
      ∙ ap (λ (n : ℕ). head_value (record s { width = n; height = s.height * down }) head.tuple_type) (sym wide)
      ∙ ap (λ (n : ℕ). head_value (record s { width = width; height = n }) head.tuple_type) (sym high)
      ∙ ap (head_value (record s { width = width; height = height })) (sym type) in
      enlarge_in_order shape order ∙ ap within_limits whole

  -- a width or a height that no number of the program holds
  pub enlarged_too_large : {s : Shape} → s ≡ head.shape → ((down ≡ 1 → ⊥) × (s.height ≡ 0 → ⊥)) ⊎ (down ≡ 1)
      → (MAX_SIDE < s.width * across) ⊎ (MAX_SIDE < s.height * down) → result_head (Enlarge across down) head ≡ Err TooLarge
  enlarged_too_large shape order (inl h) =
      let below : MAX_SIDE < head.shape.width * across = subst (λ (z : Shape). MAX_SIDE < z.width * across) shape h in
      enlarge_in_order shape order
      ∙ large_head (enlarged_head_value across down head) (too_wide (enlarged_head_value across down head).shape below)
  enlarged_too_large shape order (inr h) =
      let below : MAX_SIDE < head.shape.height * down = subst (λ (z : Shape). MAX_SIDE < z.height * down) shape h in
      enlarge_in_order shape order
      ∙ large_head (enlarged_head_value across down head) (too_high (enlarged_head_value across down head).shape below)
