-- The heads that the lanes hold, and the head of the image whose rows were dealt to them.
use Rattle.pnm_lanes.proofs.Words.{◌≡◌, ℕ, ◌+◌, ◌<◌, ◌≤◌, List, [], ◌∷◌, length, get_or, set, take, sym, ap, subst, ◌∙◌, arith}
use Rattle.pnm_lanes.proofs.Words.{get_or-set_same, get_or-set_other, get_or-take, length-take-le, Message, Begin, IsPrefixOf, HeadValue, IsHead}
use Rattle.pnm_lanes.proofs.Words.{with_height, MAX_SIDE, dealt_head, dealt_height, at_lane, Held, in_held, AreDealtHeads, AreDealtHeights}
use Rattle.pnm_lanes.proofs.LaneLists.{at_lane-get, at_lane-set, at_lane-others}
use Rattle.pnm_lanes.proofs.PartLaws.{begins_so, same_begin}
use Rattle.pnm_lanes.proofs.TakenParts.{by_lane}

-- ---- lane by lane

-- the lanes before this one have given heads like the first one, with these heights
pub record AreAlikeUntil (lane : ℕ) (first : HeadValue) (heights : List ℕ) (olds nows : List Held) : Type 0 where
  pub before : (l : ℕ) → l < lane → at_lane in_held olds l ≡ Begin (with_height first (get_or heights l 0)) ∷ at_lane in_held nows l
  pub others : (l : ℕ) → lane ≤ l → at_lane in_held nows l ≡ at_lane in_held olds l

module _ (lane : ℕ) {first : HeadValue} {heights : List ℕ} {olds nows : List Held} (height : ℕ) (new other : Held) where
  pub one_alike : AreAlikeUntil lane first heights olds nows → lane < length nows → lane < length heights
      → in_held (get_or nows lane other) ≡ Begin (with_height first height) ∷ in_held new
      → AreAlikeUntil (lane + 1) first (set heights lane height) olds (set nows lane new)
  one_alike alike within reserved is = record {
    before = λ l below. by_lane (λ (n : ℕ). n < lane + 1 → at_lane in_held olds n
        ≡ Begin (with_height first (get_or (set heights lane height) n 0)) ∷ at_lane in_held (set nows lane new) n) lane l
        (λ b. sym (alike.others lane (omega arith)) ∙ at_lane-get in_held nows lane other within ∙ is
        ∙ ap (λ (h : ℕ). Begin (with_height first h) ∷ in_held new) (sym (get_or-set_same heights lane height 0 reserved))
        ∙ ap (λ (x : List Message). Begin (with_height first (get_or (set heights lane height) lane 0)) ∷ x)
        (sym (at_lane-set in_held nows lane new within)))
        (λ differ b. alike.before l (omega (arith, b, differ))
        ∙ ap (λ (h : ℕ). Begin (with_height first h) ∷ at_lane in_held nows l) (sym (get_or-set_other heights lane l height 0 differ))
        ∙ ap (λ (x : List Message). Begin (with_height first (get_or (set heights lane height) l 0)) ∷ x)
        (sym (at_lane-others in_held nows lane new l differ))) below;
    others = λ l reached. at_lane-others in_held nows lane new l (λ e. absurd (omega (arith, e, reached))) ∙ alike.others l (omega (arith, reached));
  }

module _ {lanes lane : ℕ} {first : HeadValue} (whole : HeadValue) {heights : List ℕ} {olds nows : List Held} where
  -- a head of which the lanes hold their parts is the first lane's, but for the height
  like_first : AreAlikeUntil lane first heights olds nows → 1 ≤ lane → 0 < lanes → AreDealtHeads lanes whole (at_lane in_held olds) → (height : ℕ)
      → with_height whole height ≡ with_height first height
  like_first alike some lanes_some dealt height =
      let d : ℕ = dealt_height 0 lanes whole.shape.height in
      let same : with_height whole d ≡ with_height first (get_or heights 0 0) =
      same_begin (begins_so (Begin (with_height whole d)) (Begin (with_height first (get_or heights 0 0))) [] (at_lane in_held nows 0)
      (subst (IsPrefixOf (Begin (with_height whole d) ∷ [])) (alike.before 0 (omega (arith, some))) (dealt 0 lanes_some))) in
      ap (λ (h : HeadValue). with_height h height) same

  pub one_unlike : (other : Held) → AreAlikeUntil lane first heights olds nows → 1 ≤ lane → lane < lanes → lane < length nows
      → ((height : ℕ) → IsPrefixOf (Begin (with_height first height) ∷ []) (in_held (get_or nows lane other)) → ⊥)
      → AreDealtHeads lanes whole (at_lane in_held olds) → ⊥
  one_unlike other alike some below within differs dealt =
      let d : ℕ = dealt_height lane lanes whole.shape.height in
      differs d (subst (λ (h : HeadValue). IsPrefixOf (Begin h ∷ []) (in_held (get_or nows lane other))) (like_first alike some (omega (arith, below)) dealt d)
      (subst (IsPrefixOf (Begin (with_height whole d) ∷ [])) (sym (alike.others lane (omega arith)) ∙ at_lane-get in_held nows lane other within)
      (dealt lane below)))

-- ---- all lanes

dealt_in_prefix : (lanes height : ℕ) (heights : List ℕ) → lanes ≤ length heights
    → ((lane : ℕ) → lane < lanes → get_or heights lane 0 ≡ dealt_height lane lanes height) → AreDealtHeights (take lanes heights) height
dealt_in_prefix lanes height heights reserved dealt =
    let count : length (take lanes heights) ≡ lanes = length-take-le lanes heights reserved in
    subst (λ (n : ℕ). (lane : ℕ) → lane < n → get_or (take lanes heights) lane 0 ≡ dealt_height lane n height) (sym count)
    (λ lane below. get_or-take lanes heights lane 0 below ∙ dealt lane below)

dealt_of_prefix : (lanes height : ℕ) (heights : List ℕ) → lanes ≤ length heights → AreDealtHeights (take lanes heights) height → (lane : ℕ) → lane < lanes
    → get_or heights lane 0 ≡ dealt_height lane lanes height
dealt_of_prefix lanes height heights reserved dealt lane below =
    let count : length (take lanes heights) ≡ lanes = length-take-le lanes heights reserved in
    let all = subst (λ (n : ℕ). (l : ℕ) → l < n → get_or (take lanes heights) l 0 ≡ dealt_height l n height) count dealt in
    sym (get_or-take lanes heights lane 0 below) ∙ all lane below

module _ {lanes lane : ℕ} {first : HeadValue} {heights : List ℕ} {olds nows : List Held} (alike : AreAlikeUntil lane first heights olds nows)
    (reached : lanes ≤ lane) (count : ℕ) (all : count ≡ lanes) (reserved : lanes ≤ length heights) where
  pub no_whole : (whole : HeadValue) → ((height : ℕ) → height ≤ MAX_SIDE → AreDealtHeights (take count heights) height → ⊥) → IsHead whole
      → AreDealtHeads lanes whole (at_lane in_held olds) → ⊥
  no_whole whole none is dealt =
      none whole.shape.height is.limits.height_high (subst (λ (n : ℕ). AreDealtHeights (take n heights) whole.shape.height) (sym all)
      (dealt_in_prefix lanes whole.shape.height heights reserved (λ l below.
      sym (ap (λ (h : HeadValue). h.shape.height) (same_begin (begins_so (Begin (dealt_head l lanes whole)) (Begin (with_height first (get_or heights l 0))) []
      (at_lane in_held nows l) (subst (IsPrefixOf (Begin (dealt_head l lanes whole) ∷ [])) (alike.before l (omega (arith, below, reached)))
      (dealt l below))))))))

  pub whole_taken : (height : ℕ) (whole : HeadValue) → whole ≡ with_height first height → AreDealtHeights (take count heights) height → (l : ℕ) → l < lanes
      → at_lane in_held olds l ≡ Begin (dealt_head l lanes whole) ∷ at_lane in_held nows l
  whole_taken height whole is dealt l below =
      alike.before l (omega (arith, below, reached)) ∙ ap (λ (h : ℕ). Begin (with_height first h) ∷ at_lane in_held nows l)
      (dealt_of_prefix lanes height heights reserved (subst (λ (n : ℕ). AreDealtHeights (take n heights) height) all dealt) l below)
      ∙ ap (λ (h : HeadValue). Begin (dealt_head l lanes h) ∷ at_lane in_held nows l) (sym is)
