-- What is held of the lanes, put together.
use Rattle.pnm_lanes.proofs.Words.{◌≡◌, ◌≢◌, ℕ, ◌%◌, ◌+◌, ◌<◌, ◌≤◌, Bool, true, false, List, [], ◌∷◌, ◌++◌, length, get_or, set, refl}
use Rattle.pnm_lanes.proofs.Words.{sym, ap, subst, ◌∙◌, append_assoc, append-nil, arith, map, Option, Some, None, mod_below, Message, Begin, Row, ImageEnd}
use Rattle.pnm_lanes.proofs.Words.{StreamEnd}
use Rattle.pnm_lanes.proofs.Words.{Stop, Place, Between, Inside, After, Shape, HeadValue, IsHead, IsPrefixOf, IsLawfulFrom, place_after, place_of}
use Rattle.pnm_lanes.proofs.Words.{lawful_prefix, prefix_of_prefix, row_messages, rows_list, end_messages, rest_messages, part_messages}
use Rattle.pnm_lanes.proofs.Words.{dealt_head, dealt_message, dealt_from, at_lane, Held, in_held, next_of, IsOfStream, FitsFrom, BeginsNone, HasPassed}
use Rattle.pnm_lanes.proofs.Words.{HasAddedRows, HoldEach, AreDealtHeads, EndsBy, More, EndNothing, HasPassedRow, ◌==◌, if◌then◌else◌, nat_tests, map-append}
use Rattle.pnm_lanes.proofs.Words.{length-append}
use Rattle.pnm_image.proofs.Places.{place_of-rows}
use Rattle.pnm_lanes.specs.declared.held.Next.TheVariants.{Row as NextRow, ImageEnd as NextImageEnd, StreamEnd as NextStreamEnd}
use Rattle.pnm_lanes.proofs.DealtLaws.{dealt_from-append, nothing_goes_on}
use Rattle.pnm_lanes.proofs.DealtParts.{all_of_both}
use Rattle.pnm_lanes.proofs.PartLaws.{begins_so, no_prefix, own_message, parts_tell_the_whole}
use Rattle.pnm_lanes.proofs.TakenParts.{by_lane}
use Rattle.pnm_lanes.proofs.LaneLists.{at_lane-get, at_lane-set, at_lane-others}

-- ---- one after another

fits_append : (place : Place) (a b : List Message) → FitsFrom place a → FitsFrom (place_of place a) b → FitsFrom place (a ++ b)
fits_append place [] b first second = second
fits_append place (m ∷ a) b first second = (first.0, fits_append (place_after place m) a b first.1 second)

pub passed_then : {lanes : ℕ} {place : Place} (a b : List Message) {olds nows news : List Held} → HasPassed lanes place a olds nows
    → HasPassed lanes (place_of place a) b nows news → HasPassed lanes place (a ++ b) olds news
passed_then {lanes} {place} a b {olds} {nows} {news} first second = record {
  fit = fits_append place a b first.fit second.fit;
  stream = all_of_both IsOfStream a b first.stream second.stream;
  parts = λ lane below. first.parts lane below ∙ ap (λ (l : List Message). dealt_from lane lanes place a ++ l) (second.parts lane below)
      ∙ sym (append_assoc (dealt_from lane lanes place a) (dealt_from lane lanes (place_of place a) b) (at_lane in_held news lane))
      ∙ ap (λ (l : List Message). l ++ at_lane in_held news lane) (sym (dealt_from-append lane lanes place a b));
}

pub passed_none : {lanes : ℕ} {place : Place} {held : List Held} → HasPassed lanes place [] held held
passed_none = record { fit = tt; stream = tt; parts = λ lane below. refl }

-- ---- a row

-- what is held of the lanes but this one is as before
one_held : (olds : List Held) (lane : ℕ) (new : Held) (other : ℕ) → other ≢ lane → at_lane in_held (set olds lane new) other ≡ at_lane in_held olds other
one_held olds lane new other differ = at_lane-others in_held olds lane new other differ

other_row : (at lane : ℕ) (row : List ℕ) → lane ≢ at → (if at == lane then row ∷ [] else []) ≡ []
other_row at lane row differ = grind (arith, nat_tests)

other_gets_none : (lane lanes y : ℕ) (s : Shape) (row : List ℕ) → lane ≢ y % lanes → dealt_message lane lanes (Inside s y) (Row row) ≡ []
other_gets_none lane lanes y s row differ = ap (map Row) (other_row (y % lanes) lane row differ)

pub row_was_passed : {lanes : ℕ} {s : Shape} (y : ℕ) (olds : List Held) (lane : ℕ) (new other : Held) (row : List ℕ) → lane ≡ y % lanes → lane < length olds
    → y < s.height → in_held (get_or olds lane other) ≡ Row row ∷ in_held new → HasPassed lanes (Inside s y) (Row row ∷ []) olds (set olds lane new)
row_was_passed {lanes} {s} y olds lane new other row own within below is = record {
  fit = (below, tt);
  stream = (tt, tt);
  parts = λ l b. by_lane (λ (n : ℕ). at_lane in_held olds n ≡ dealt_from n lanes (Inside s y) (Row row ∷ []) ++ at_lane in_held (set olds lane new) n) lane l
      (at_lane-get in_held olds lane other within ∙ is
      ∙ ap (λ (x : List Message). Row row ∷ x) (sym (at_lane-set in_held olds lane new within))
      ∙ ap (λ (x : List Message). x ++ at_lane in_held (set olds lane new) lane) (sym (ap (λ (n : ℕ). dealt_from n lanes (Inside s y) (Row row ∷ [])) own
      ∙ append-nil (dealt_message (y % lanes) lanes (Inside s y) (Row row)) ∙ own_message lanes y s row)))
      (λ differ. sym (one_held olds lane new l differ) ∙ ap (λ (x : List Message). x ++ at_lane in_held (set olds lane new) l)
      (sym (append-nil (dealt_message l lanes (Inside s y) (Row row)) ∙ other_gets_none l lanes y s row (λ e. differ (e ∙ sym own)))));
}

-- where nothing has changed
held_same : (olds : List Held) (lane : ℕ) (new other : Held) (l : ℕ) → lane < length olds → in_held new ≡ in_held (get_or olds lane other)
    → at_lane in_held olds l ≡ at_lane in_held (set olds lane new) l
held_same olds lane new other l within same =
    by_lane (λ (n : ℕ). at_lane in_held olds n ≡ at_lane in_held (set olds lane new) n) lane l
    (at_lane-get in_held olds lane other within ∙ sym same ∙ sym (at_lane-set in_held olds lane new within))
    (λ differ. sym (one_held olds lane new l differ))

pub passed_same : {lanes : ℕ} {place : Place} (olds : List Held) (lane : ℕ) (new other : Held) → lane < length olds
    → in_held new ≡ in_held (get_or olds lane other) → HasPassed lanes place [] olds (set olds lane new)
passed_same olds lane new other within same = record { fit = tt; stream = tt; parts = λ l below. held_same olds lane new other l within same }

passed_with : {lanes : ℕ} {place : Place} {ms : List Message} {olds nows news : List Held} → HasPassed lanes place ms olds nows
    → ((l : ℕ) → at_lane in_held nows l ≡ at_lane in_held news l) → HasPassed lanes place ms olds news
passed_with {lanes} {place} {ms} passed same = record {
  fit = passed.fit;
  stream = passed.stream;
  parts = λ l below. passed.parts l below ∙ ap (λ (x : List Message). dealt_from l lanes place ms ++ x) (same l);
}

-- ---- rows, one after another

-- those from this one on and before that one were put behind others
pub record AreAdded (lanes : ℕ) (s : Shape) (from y : ℕ) (rows_old rows_new : List (List ℕ)) (olds news : List Held) : Type 0 where
  pub more : List (List ℕ)
  pub added : rows_new ≡ rows_old ++ more
  pub passed : HasPassed lanes (Inside s from) (row_messages more) olds news
  pub reached : from + length more ≡ y

pub one_added : {lanes : ℕ} {s : Shape} {from y : ℕ} {rows_old rows : List (List ℕ)} {olds : List Held} (rows_new : List (List ℕ)) (nows : List Held)
    (lane : ℕ) (new other : Held) → AreAdded lanes s from y rows_old rows olds nows → lane ≡ y % lanes → lane < length nows → y < s.height
    → HasPassedRow rows rows_new (in_held (get_or nows lane other)) (in_held new) → AreAdded lanes s from (y + 1) rows_old rows_new olds (set nows lane new)
one_added {lanes} {s} {from} {y} {rows_old} {rows} {olds} rows_new nows lane new other before own within below is =
    let row : List ℕ = is.0 in
    let messages : row_messages (before.more ++ row ∷ []) ≡ row_messages before.more ++ Row row ∷ [] = map-append Row before.more (row ∷ []) in
    let here : place_of (Inside s from) (row_messages before.more) ≡ Inside s y =
    place_of-rows s from before.more ∙ ap (Inside s) before.reached in
    record {
      more = before.more ++ row ∷ [];
      added = is.1 ∙ ap (λ (l : List (List ℕ)). l ++ row ∷ []) before.added ∙ append_assoc rows_old before.more (row ∷ []);
      passed = subst (λ (l : List Message). HasPassed lanes (Inside s from) l olds (set nows lane new)) (sym messages)
          (passed_then (row_messages before.more) (Row row ∷ []) before.passed
          (subst (λ (p : Place). HasPassed lanes p (Row row ∷ []) nows (set nows lane new)) (sym here)
          (row_was_passed y nows lane new other row own within below is.2)));
      reached = omega (arith, length-append before.more (row ∷ []), before.reached);
    }

-- where the next one wasn't
pub added_same : {lanes : ℕ} {s : Shape} {from y : ℕ} {rows_old rows : List (List ℕ)} {olds : List Held} (rows_new : List (List ℕ)) (nows : List Held)
    (lane : ℕ) (new other : Held) → AreAdded lanes s from y rows_old rows olds nows → lane < length nows → rows_new ≡ rows
    → in_held new ≡ in_held (get_or nows lane other) → AreAdded lanes s from y rows_old rows_new olds (set nows lane new)
added_same rows_new nows lane new other before within rows_same same = record {
  more = before.more;
  added = rows_same ∙ before.added;
  passed = passed_with before.passed (λ l. held_same nows lane new other l within same);
  reached = before.reached;
}

pub are_added : {lanes : ℕ} {s : Shape} {from y : ℕ} {rows_old rows_new : List (List ℕ)} {olds news : List Held}
    → AreAdded lanes s from y rows_old rows_new olds news → y ≤ s.height → HasAddedRows lanes s from rows_old rows_new olds news
are_added all within = record { more = all.more; added = all.added; passed = all.passed; within = omega (arith, within, all.reached) }

-- the first row, and those behind it
pub rows_passed : {lanes : ℕ} {s : Shape} {y : ℕ} {first rows : List (List ℕ)} {news : List Held} (olds : List Held) (lane : ℕ) (new other : Held)
    → lane ≡ y % lanes → lane < length olds → y < s.height → HasPassedRow [] first (in_held (get_or olds lane other)) (in_held new)
    → HasAddedRows lanes s (y + 1) first rows (set olds lane new) news
    → HasPassed lanes (Inside s y) (row_messages rows) olds news × (y + length rows ≤ s.height)
rows_passed {lanes} {s} {y} {first} {rows} {news} olds lane new other own within below is added =
    let row : List ℕ = is.0 in
    let all : rows ≡ row ∷ added.more = added.added ∙ ap (λ (l : List (List ℕ)). l ++ added.more) is.1 in
    let more = added.within in (
      subst (λ (l : List (List ℕ)). HasPassed lanes (Inside s y) (row_messages l) olds news) (sym all)
          (passed_then (Row row ∷ []) (row_messages added.more) (row_was_passed y olds lane new other row own within below is.2) added.passed),
      omega (arith, ap length all, more),
    )

-- rows, and what comes behind them
pub rest_passed : {lanes : ℕ} {s : Shape} (y end : ℕ) (rows : List (List ℕ)) (rest : List Message) {olds nows news : List Held}
    → HasPassed lanes (Inside s y) (row_messages rows) olds nows → end ≡ y + length rows → HasPassed lanes (Inside s end) rest nows news
    → HasPassed lanes (Inside s y) (row_messages rows ++ rest) olds news
rest_passed {lanes} {s} y end rows rest {nows = nows} {news = news} passed is more =
    passed_then (row_messages rows) rest passed
    (subst (λ (p : Place). HasPassed lanes p rest nows news) (sym (place_of-rows s y rows ∙ ap (Inside s) (sym is))) more)

-- ---- what begins no stream

-- it goes by what is held of each lane
pub none_by : {lanes : ℕ} (place : Place) (a b : ℕ → List Message) → ((lane : ℕ) → lane < lanes → a lane ≡ b lane) → BeginsNone lanes place b
    → BeginsNone lanes place a
none_by {lanes} place a b same none rest lawful are prefixes =
    none rest lawful are (λ lane below. subst (λ (l : List Message). IsPrefixOf l (dealt_from lane lanes place rest)) (same lane below) (prefixes lane below))

pub each_by : {lanes : ℕ} (olds news : List Held) → ((lane : ℕ) → lane < lanes → at_lane in_held olds lane ≡ at_lane in_held news lane) → HoldEach lanes olds
    → HoldEach lanes news
each_by olds news same each lane below = subst (λ (l : List Message). 1 ≤ length l) (same lane below) (each lane below)

some_prefix : (l : List Message) → 1 ≤ length l → IsPrefixOf l [] → ⊥
some_prefix [] some prefix = omega (arith, some)
some_prefix (m ∷ l) some prefix = no_prefix m l prefix

next_here : (m : Message) (l : List Message) → next_of (m ∷ l) ≡ next_of (m ∷ [])
next_here (Begin head) l = refl
next_here (Row row) l = refl
next_here ImageEnd l = refl
next_here StreamEnd l = refl
next_here Stop l = refl

next_by : (l : List Message) (m : Message) (rest : List Message) → 1 ≤ length l → IsPrefixOf l (m ∷ rest) → next_of l ≡ next_of (m ∷ [])
next_by [] m rest some prefix = absurd (omega (arith, some))
next_by (n ∷ l) m rest some prefix = ap (λ (x : Message). next_of (x ∷ l)) (begins_so n m l rest prefix) ∙ next_here m l

first_by : (l : List Message) (m : Message) (rest : List Message) → 1 ≤ length l → IsPrefixOf l (m ∷ rest) → IsPrefixOf (m ∷ []) l
first_by [] m rest some prefix = absurd (omega (arith, some))
first_by (n ∷ l) m rest some prefix = (l, ap (λ (x : Message). x ∷ l) (begins_so n m l rest prefix))

module _ {lanes : ℕ} (held : List Held) where
  pub no_row_comes : (s : Shape) {y : ℕ} → y < s.height → 1 ≤ length (at_lane in_held held (y % lanes)) → 0 < lanes
      → next_of (at_lane in_held held (y % lanes)) ≢ NextRow → BeginsNone lanes (Inside s y) (at_lane in_held held)
  no_row_comes s {y} below some lanes_some differs [] lawful are prefixes =
      some_prefix (at_lane in_held held (y % lanes)) some (prefixes (y % lanes) (mod_below y lanes lanes_some))
  no_row_comes s {y} below some lanes_some differs (Begin head ∷ rest) lawful are prefixes = lawful.0
  no_row_comes s {y} below some lanes_some differs (Row row ∷ rest) lawful are prefixes =
      let own : ℕ = y % lanes in
      let others : List Message = dealt_from own lanes (Inside s (y + 1)) rest in
      differs (next_by (at_lane in_held held own) (Row row) others some
      (subst (λ (l : List Message). IsPrefixOf (at_lane in_held held own) (l ++ others)) (own_message lanes y s row)
      (prefixes own (mod_below y lanes lanes_some))))
  no_row_comes s {y} below some lanes_some differs (ImageEnd ∷ rest) lawful are prefixes = let reached = lawful.0 in omega (arith, reached, below)
  no_row_comes s {y} below some lanes_some differs (StreamEnd ∷ rest) lawful are prefixes = lawful.0
  no_row_comes s {y} below some lanes_some differs (Stop ∷ rest) lawful are prefixes = are.0

  pub no_end_comes : (s : Shape) {y : ℕ} (lane : ℕ) → s.height ≤ y → lane < lanes → 1 ≤ length (at_lane in_held held lane)
      → (y ≡ s.height → next_of (at_lane in_held held lane) ≢ NextImageEnd) → BeginsNone lanes (Inside s y) (at_lane in_held held)
  no_end_comes s lane past below some differs [] lawful are prefixes = some_prefix (at_lane in_held held lane) some (prefixes lane below)
  no_end_comes s lane past below some differs (Begin head ∷ rest) lawful are prefixes = lawful.0
  no_end_comes s lane past below some differs (Row row ∷ rest) lawful are prefixes = let short = lawful.0.0 in omega (arith, short, past)
  no_end_comes s lane past below some differs (ImageEnd ∷ rest) lawful are prefixes =
      differs lawful.0 (next_by (at_lane in_held held lane) ImageEnd (dealt_from lane lanes Between rest) some (prefixes lane below))
  no_end_comes s lane past below some differs (StreamEnd ∷ rest) lawful are prefixes = lawful.0
  no_end_comes s lane past below some differs (Stop ∷ rest) lawful are prefixes = are.0

  pub nothing_begins : (lane : ℕ) → lane < lanes → HoldEach lanes held → next_of (at_lane in_held held lane) ≢ NextStreamEnd
      → ((head : HeadValue) → IsHead head → AreDealtHeads lanes head (at_lane in_held held) → ⊥) → BeginsNone lanes Between (at_lane in_held held)
  nothing_begins lane below each differs none [] lawful are prefixes = some_prefix (at_lane in_held held lane) (each lane below) (prefixes lane below)
  nothing_begins lane below each differs none (Begin head ∷ rest) lawful are prefixes =
      none head are.0 (λ l b. first_by (at_lane in_held held l) (Begin (dealt_head l lanes head)) (dealt_from l lanes (Inside head.shape 0) rest)
      (each l b) (prefixes l b))
  nothing_begins lane below each differs none (Row row ∷ rest) lawful are prefixes = lawful.0
  nothing_begins lane below each differs none (ImageEnd ∷ rest) lawful are prefixes = lawful.0
  nothing_begins lane below each differs none (StreamEnd ∷ rest) lawful are prefixes =
      differs (next_by (at_lane in_held held lane) StreamEnd (dealt_from lane lanes After rest) (each lane below) (prefixes lane below))
  nothing_begins lane below each differs none (Stop ∷ rest) lawful are prefixes = are.0

  pub nothing_after : 0 < lanes → HoldEach lanes held → BeginsNone lanes After (at_lane in_held held)
  nothing_after some each [] lawful are prefixes = some_prefix (at_lane in_held held 0) (each 0 some) (prefixes 0 some)
  nothing_after some each (m ∷ rest) lawful are prefixes = lawful.0

-- messages that fit and aren't lawful, since a row isn't one of the image
pub not_lawful : {lanes : ℕ} {place : Place} {ms : List Message} {olds news : List Held} → 0 < lanes → HasPassed lanes place ms olds news
    → (IsLawfulFrom place ms → ⊥) → BeginsNone lanes place (at_lane in_held olds)
not_lawful {lanes} {place} {ms} {olds} {news} some passed refused rest lawful are prefixes =
    let prefix = parts_tell_the_whole lanes place ms rest some passed.fit lawful passed.stream are
    (λ lane below. prefix_of_prefix (dealt_from lane lanes place ms) (at_lane in_held olds lane) (dealt_from lane lanes place rest)
    (at_lane in_held news lane, passed.parts lane below) (prefixes lane below)) in
    refused (lawful_prefix place ms prefix.0 (subst (IsLawfulFrom place) prefix.1 lawful))

-- ---- a part doesn't end the stream

rows_end_nothing : (rows : List (List ℕ)) (ends : Bool) → EndNothing (row_messages rows ++ end_messages ends)
rows_end_nothing [] true = (refl, tt)
rows_end_nothing [] false = tt
rows_end_nothing (row ∷ rows) ends = (refl, rows_end_nothing rows ends)

pub part_goes_on : (head : Option HeadValue) (rows : Option (List (List ℕ))) (ends : Bool) → EndsBy More (part_messages head rows ends)
part_goes_on None rows ends = nothing_goes_on (rest_messages rows ends) (rows_end_nothing (rows_list rows) ends)
part_goes_on (Some head) rows ends = nothing_goes_on (Begin head ∷ rest_messages rows ends) (refl, rows_end_nothing (rows_list rows) ends)

-- neither a row nor the end of the image was taken
pub nothing_came : {lanes : ℕ} (s : Shape) (y end count : ℕ) (olds mids : List Held) → count ≡ lanes → end ≡ y
    → ((lane : ℕ) → lane < lanes → at_lane in_held olds lane ≡ at_lane in_held mids lane)
    → (s.height ≤ end → HoldEach count mids → BeginsNone count (Inside s end) (at_lane in_held mids)) → s.height ≤ y → HoldEach lanes olds
    → BeginsNone lanes (Inside s y) (at_lane in_held olds)
nothing_came {lanes} s y end count olds mids all is same none past each =
    let none_of : s.height ≤ y → HoldEach lanes mids → BeginsNone lanes (Inside s y) (at_lane in_held mids) =
    subst (λ (n : ℕ). s.height ≤ y → HoldEach n mids → BeginsNone n (Inside s y) (at_lane in_held mids)) all
    (subst (λ (n : ℕ). s.height ≤ n → HoldEach count mids → BeginsNone count (Inside s n) (at_lane in_held mids)) is none) in
    none_by (Inside s y) (at_lane in_held olds) (at_lane in_held mids) same (none_of past (each_by olds mids same each))
