-- The lanes' parts of a stream tell the whole of it.
use Rattle.pnm_lanes.proofs.Words.{◌≡◌, ℕ, ◌%◌, ◌<◌, List, [], ◌∷◌, ◌++◌, map, refl, sym, ap, subst, ◌∙◌, append_assoc, arith, eq-eqb, if◌then◌else◌}
use Rattle.pnm_lanes.proofs.Words.{AllByRecursion, append_cancel_left, mod_below, Message, Begin, Row, ImageEnd, StreamEnd, Stop, Place, Between, Inside, After}
use Rattle.pnm_lanes.proofs.Words.{Shape, HeadValue, with_height, Accepts, IsLawfulFrom, place_after, IsPrefixOf, same_first, dealt_height, dealt_row}
use Rattle.pnm_lanes.proofs.Words.{dealt_head, dealt_message, dealt_from, IsOfStream, Fits, FitsFrom, ◌+◌}
use Rattle.std.specs.Prelude.{Bool}
use Rattle.pnm_lanes.proofs.HeightSums.{same_height}

-- ---- prefixes

pub begins_so : (m n : Message) (a b : List Message) → IsPrefixOf (m ∷ a) (n ∷ b) → m ≡ n
begins_so m n a b prefix = sym (same_first n m b (a ++ prefix.0) prefix.1)

pub no_prefix : (m : Message) (a : List Message) → IsPrefixOf (m ∷ a) [] → ⊥
no_prefix m a prefix = let none = prefix.1 in absurd cc

pub one_more : (m : Message) (a b : List Message) → IsPrefixOf a b → IsPrefixOf (m ∷ a) (m ∷ b)
one_more m a b prefix = (prefix.0, ap (λ (l : List Message). m ∷ l) prefix.1)

pub prefix_cancel : (a b c : List Message) → IsPrefixOf (a ++ b) (a ++ c) → IsPrefixOf b c
prefix_cancel a b c prefix = (prefix.0, append_cancel_left a c (b ++ prefix.0) (prefix.1 ∙ append_assoc a b prefix.0))

-- ---- what the lanes get of one message

-- a row goes to one lane
pub own_row : (lanes y : ℕ) (row : List ℕ) → dealt_row (y % lanes) lanes y row ≡ row ∷ []
own_row lanes y row = ap (λ (b : Bool). if b then row ∷ [] else []) (eq-eqb (y % lanes) (y % lanes) refl)

pub own_message : (lanes y : ℕ) (s : Shape) (row : List ℕ) → dealt_message (y % lanes) lanes (Inside s y) (Row row) ≡ Row row ∷ []
own_message lanes y s row = ap (map Row) (own_row lanes y row)

-- some lane gets something of each message
pub record GoesToLane (lanes : ℕ) (place : Place) (m : Message) : Type 0 where
  pub lane : ℕ
  pub below : lane < lanes
  pub part : Message
  pub goes : dealt_message lane lanes place m ≡ part ∷ []

goes_to_lane : {lanes : ℕ} (place : Place) (m : Message) → 0 < lanes → Fits place m → IsOfStream m → GoesToLane lanes place m
goes_to_lane {lanes} Between (Begin head) some may is = record { lane = 0; below = some; part = Begin (dealt_head 0 lanes head); goes = refl }
goes_to_lane Between (Row row) some may is = absurd may
goes_to_lane Between ImageEnd some may is = absurd may
goes_to_lane Between StreamEnd some may is = record { lane = 0; below = some; part = StreamEnd; goes = refl }
goes_to_lane Between Stop some may is = absurd is
goes_to_lane (Inside s y) (Begin head) some may is = absurd may
goes_to_lane {lanes} (Inside s y) (Row row) some may is =
    record { lane = y % lanes; below = mod_below y lanes some; part = Row row; goes = own_message lanes y s row }
goes_to_lane (Inside s y) ImageEnd some may is = record { lane = 0; below = some; part = ImageEnd; goes = refl }
goes_to_lane (Inside s y) StreamEnd some may is = absurd may
goes_to_lane (Inside s y) Stop some may is = absurd is
goes_to_lane After m some may is = absurd may

-- heads that are the same but for their heights
same_head : {head other : HeadValue} (x y : ℕ) → with_height head x ≡ with_height other y → head.shape.height ≡ other.shape.height → head ≡ other
same_head {head} {other} x y same height = ap (λ (h : HeadValue). with_height h head.shape.height) same ∙ ap (with_height other) height

pub same_begin : {head other : HeadValue} → Begin head ≡ Begin other → head ≡ other
same_begin same = cc

-- heads of which the lanes get the same
same_heads : (lanes : ℕ) (head other : HeadValue) → 0 < lanes
    → ((lane : ℕ) → lane < lanes → Begin (dealt_head lane lanes head) ≡ Begin (dealt_head lane lanes other)) → Begin head ≡ Begin other
same_heads lanes head other some parts =
    let dealt : (lane : ℕ) → lane < lanes → dealt_head lane lanes head ≡ dealt_head lane lanes other =
    λ lane below. same_begin (parts lane below) in
    let height = same_height lanes head.shape.height other.shape.height some (λ lane below. ap (λ (h : HeadValue). h.shape.height) (dealt lane below)) in
    ap Begin (same_head (dealt_height 0 lanes head.shape.height) (dealt_height 0 lanes other.shape.height) (dealt 0 some) height)

-- what the lanes have got and get of two lists
abbrev ArePrefixes : ℕ → Place → Message → Message → (ℕ → List Message) → (ℕ → List Message) → Type 0
ArePrefixes lanes place m n x y = (lane : ℕ) → lane < lanes
    → IsPrefixOf (dealt_message lane lanes place m ++ x lane) (dealt_message lane lanes place n ++ y lane)

same_row : (lanes y : ℕ) (s : Shape) (row other : List ℕ) (a b : ℕ → List Message) → 0 < lanes → ArePrefixes lanes (Inside s y) (Row row) (Row other) a b
    → Row row ≡ Row other
same_row lanes y s row other a b some prefixes =
    let lane : ℕ = y % lanes in
    begins_so (Row row) (Row other) (a lane) (b lane)
    (subst (λ (l : List Message). IsPrefixOf (Row row ∷ a lane) (l ++ b lane)) (own_message lanes y s other)
    (subst (λ (l : List Message). IsPrefixOf (l ++ a lane) (dealt_message lane lanes (Inside s y) (Row other) ++ b lane)) (own_message lanes y s row)
    (prefixes lane (mod_below y lanes some))))

-- the lanes' parts of the next message tell it
next_is_same : (lanes : ℕ) (place : Place) (m n : Message) (x y : ℕ → List Message) → 0 < lanes → Fits place m → Accepts place n → IsOfStream m
    → IsOfStream n → ArePrefixes lanes place m n x y → m ≡ n
next_is_same lanes After m n x y some first second is others prefixes = absurd first
next_is_same lanes Between Stop n x y some first second is others prefixes = absurd is
next_is_same lanes Between (Row row) n x y some first second is others prefixes = absurd first
next_is_same lanes Between ImageEnd n x y some first second is others prefixes = absurd first
next_is_same lanes Between (Begin head) (Begin other) x y some first second is others prefixes =
    same_heads lanes head other some (λ lane below. begins_so (Begin (dealt_head lane lanes head)) (Begin (dealt_head lane lanes other)) (x lane) (y lane)
    (prefixes lane below))
next_is_same lanes Between (Begin head) (Row row) x y some first second is others prefixes = absurd second
next_is_same lanes Between (Begin head) ImageEnd x y some first second is others prefixes = absurd second
next_is_same lanes Between (Begin head) StreamEnd x y some first second is others prefixes = let same =
    begins_so (Begin (dealt_head 0 lanes head)) StreamEnd (x 0) (y 0) (prefixes 0 some) in absurd cc
next_is_same lanes Between (Begin head) Stop x y some first second is others prefixes = absurd others
next_is_same lanes Between StreamEnd (Begin other) x y some first second is others prefixes = let same =
    begins_so StreamEnd (Begin (dealt_head 0 lanes other)) (x 0) (y 0) (prefixes 0 some) in absurd cc
next_is_same lanes Between StreamEnd (Row row) x y some first second is others prefixes = absurd second
next_is_same lanes Between StreamEnd ImageEnd x y some first second is others prefixes = absurd second
next_is_same lanes Between StreamEnd StreamEnd x y some first second is others prefixes = refl
next_is_same lanes Between StreamEnd Stop x y some first second is others prefixes = absurd others
next_is_same lanes (Inside s z) (Begin head) n x y some first second is others prefixes = absurd first
next_is_same lanes (Inside s z) StreamEnd n x y some first second is others prefixes = absurd first
next_is_same lanes (Inside s z) Stop n x y some first second is others prefixes = absurd is
next_is_same lanes (Inside s z) (Row row) (Begin other) x y some first second is others prefixes = absurd second
next_is_same lanes (Inside s z) (Row row) (Row other) x y some first second is others prefixes = same_row lanes z s row other x y some prefixes
next_is_same lanes (Inside s z) (Row row) ImageEnd x y some first second is others prefixes = absurd (omega (arith, first, second))
next_is_same lanes (Inside s z) (Row row) StreamEnd x y some first second is others prefixes = absurd second
next_is_same lanes (Inside s z) (Row row) Stop x y some first second is others prefixes = absurd others
next_is_same lanes (Inside s z) ImageEnd (Begin other) x y some first second is others prefixes = absurd second
next_is_same lanes (Inside s z) ImageEnd (Row row) x y some first second is others prefixes = let below = second.0 in absurd (omega (arith, below, first))
next_is_same lanes (Inside s z) ImageEnd ImageEnd x y some first second is others prefixes = refl
next_is_same lanes (Inside s z) ImageEnd StreamEnd x y some first second is others prefixes = absurd second
next_is_same lanes (Inside s z) ImageEnd Stop x y some first second is others prefixes = absurd others

-- ---- the whole

-- what goes to no lane is nothing
not_nothing : {lanes : ℕ} {place : Place} {m : Message} (x : ℕ → List Message) → GoesToLane lanes place m
    → ((lane : ℕ) → lane < lanes → IsPrefixOf (dealt_message lane lanes place m ++ x lane) []) → ⊥
not_nothing x goes prefixes =
    no_prefix goes.part (x goes.lane) (subst (λ (l : List Message). IsPrefixOf (l ++ x goes.lane) []) goes.goes (prefixes goes.lane goes.below))

-- a lawful list, which isn't broken off
pub lawful_fits : (place : Place) (l : List Message) → IsLawfulFrom place l → AllByRecursion IsOfStream l → FitsFrom place l
lawful_fits place [] lawful are = tt
lawful_fits Between (Begin head ∷ l) lawful are = (tt, lawful_fits (Inside head.shape 0) l lawful.1 are.1)
lawful_fits Between (Row row ∷ l) lawful are = absurd lawful.0
lawful_fits Between (ImageEnd ∷ l) lawful are = absurd lawful.0
lawful_fits Between (StreamEnd ∷ l) lawful are = (tt, lawful_fits After l lawful.1 are.1)
lawful_fits (Inside s y) (Begin head ∷ l) lawful are = absurd lawful.0
lawful_fits (Inside s y) (Row row ∷ l) lawful are = (lawful.0.0, lawful_fits (Inside s (y + 1)) l lawful.1 are.1)
lawful_fits (Inside s y) (ImageEnd ∷ l) lawful are = (lawful.0, lawful_fits Between l lawful.1 are.1)
lawful_fits (Inside s y) (StreamEnd ∷ l) lawful are = absurd lawful.0
lawful_fits After (m ∷ l) lawful are = absurd lawful.0
lawful_fits place (Stop ∷ l) lawful are = absurd are.0

-- where each lane's part of the one is a prefix of its part of the other, the one is a prefix of the other
pub parts_tell_the_whole : (lanes : ℕ) (place : Place) (a b : List Message) → 0 < lanes → FitsFrom place a → IsLawfulFrom place b
    → AllByRecursion IsOfStream a → AllByRecursion IsOfStream b
    → ((lane : ℕ) → lane < lanes → IsPrefixOf (dealt_from lane lanes place a) (dealt_from lane lanes place b)) → IsPrefixOf a b
parts_tell_the_whole lanes place [] b some first second is others prefixes = (b, refl)
parts_tell_the_whole lanes place (m ∷ a) [] some first second is others prefixes =
    absurd (not_nothing (λ lane. dealt_from lane lanes (place_after place m) a) (goes_to_lane place m some first.0 is.0) prefixes)
parts_tell_the_whole lanes place (m ∷ a) (n ∷ b) some first second is others prefixes =
    let same : m ≡ n = next_is_same lanes place m n (λ lane. dealt_from lane lanes (place_after place m) a)
    (λ lane. dealt_from lane lanes (place_after place n) b) some first.0 second.0 is.0 others.0 prefixes in
    let P : Message → Type 0 = λ x. IsLawfulFrom (place_after place x) b
    → ((lane : ℕ) → lane < lanes → IsPrefixOf (dealt_from lane lanes place (m ∷ a)) (dealt_from lane lanes place (x ∷ b))) → IsPrefixOf (m ∷ a) (x ∷ b) in
    let here : P m = λ lawful parts. one_more m a b (parts_tell_the_whole lanes (place_after place m) a b some first.1 lawful is.1 others.1
    (λ lane below. prefix_cancel (dealt_message lane lanes place m) (dealt_from lane lanes (place_after place m) a)
    (dealt_from lane lanes (place_after place m) b) (parts lane below))) in
    subst P same here second.1 prefixes
