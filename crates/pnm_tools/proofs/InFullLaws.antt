-- Where nothing waits, the answers are full.
use Rattle.pnm_tools.proofs.Words.{◌≡◌, ℕ, List, [], ◌∷◌, ◌++◌, map, Result, Ok, Err, refl, sym, ◌∙◌, Message, Begin, Row, ImageEnd, StreamEnd, Stop, Place}
use Rattle.pnm_tools.proofs.Words.{Between, Inside, After, HeadValue, place_after, ToolFault, Tool, result_head, row_answer, end_answer, Ending, More}
use Rattle.pnm_tools.proofs.Words.{ending_of, EndsBy, answers_at, answers_from, rows_after}

-- ---- the answers end as the messages do

-- messages that end nothing
abbrev pub EndNothing : List Message → Type 0
EndNothing [] = Unit {0}
EndNothing (m ∷ ms) = (ending_of m ≡ More) × EndNothing ms

rows_end_nothing : (rows : List (List ℕ)) → EndNothing (map Row rows)
rows_end_nothing [] = tt
rows_end_nothing (row ∷ rows) = (refl, rows_end_nothing rows)

pub ends_after : (e : Ending) (a b : List Message) → EndNothing a → EndsBy e b → EndsBy e (a ++ b)
ends_after e [] b h ends = ends
ends_after e (m ∷ []) [] h ends = h.0 ∙ sym ends
ends_after e (m ∷ []) (n ∷ b) h ends = (h.0, ends)
ends_after e (m ∷ n ∷ a) b h ends = (h.0, ends_after e (n ∷ a) b h.1 ends)

head_ends_nothing : (r : Result HeadValue ToolFault) → EndNothing (elim r [ Ok result ↦ Begin result ∷ [] | Err fault ↦ [] ])
head_ends_nothing (Ok result) = (refl, tt)
head_ends_nothing (Err fault) = tt

-- rows end nothing before the end of their image
pub end_ends_nothing : (rows : List (List ℕ)) → EndNothing (map Row rows ++ ImageEnd ∷ [])
end_ends_nothing [] = (refl, tt)
end_ends_nothing (row ∷ rows) = (refl, end_ends_nothing rows)

-- the answer to a message that ends nothing ends nothing
answer_ends_nothing : (tool : Tool) (place : Place) (rows : List (List ℕ)) (m : Message) → ending_of m ≡ More → EndNothing (answers_at tool place rows m)
answer_ends_nothing tool place rows (Begin head) e = head_ends_nothing (result_head tool head)
answer_ends_nothing tool Between rows (Row row) e = tt
answer_ends_nothing tool (Inside s y) rows (Row row) e = rows_end_nothing (row_answer tool s y row)
answer_ends_nothing tool After rows (Row row) e = tt
answer_ends_nothing tool Between rows ImageEnd e = (refl, tt)
answer_ends_nothing tool (Inside s y) rows ImageEnd e = end_ends_nothing (end_answer tool s rows)
answer_ends_nothing tool After rows ImageEnd e = (refl, tt)
answer_ends_nothing tool place rows StreamEnd e = absurd cc
answer_ends_nothing tool place rows Stop e = absurd cc

-- the answer to the last message
last_ends : (tool : Tool) (place : Place) (rows : List (List ℕ)) (m : Message) (e : Ending) → ending_of m ≡ e → EndsBy e (answers_at tool place rows m ++ [])
last_ends tool place rows (Begin head) e is = ends_after e (answers_at tool place rows (Begin head)) [] (head_ends_nothing (result_head tool head)) (sym is)
last_ends tool Between rows (Row row) e is = sym is
last_ends tool (Inside s y) rows (Row row) e is = ends_after e (map Row (row_answer tool s y row)) [] (rows_end_nothing (row_answer tool s y row)) (sym is)
last_ends tool After rows (Row row) e is = sym is
last_ends tool Between rows ImageEnd e is = is
last_ends tool (Inside s y) rows ImageEnd e is = ends_after e (map Row (end_answer tool s rows) ++ ImageEnd ∷ []) [] (end_ends_nothing (end_answer tool s rows))
    (sym is)
last_ends tool After rows ImageEnd e is = is
last_ends tool place rows StreamEnd e is = is
last_ends tool place rows Stop e is = is

pub answers_end_so : (tool : Tool) (place : Place) (rows : List (List ℕ)) (l : List Message) (e : Ending) → EndsBy e l
    → EndsBy e (answers_from tool place rows l)
answers_end_so tool place rows [] e ends = ends
answers_end_so tool place rows (m ∷ []) e ends = last_ends tool place rows m e ends
answers_end_so tool place rows (m ∷ n ∷ l) e ends =
    ends_after e (answers_at tool place rows m) (answers_from tool (place_after place m) (rows_after rows m) (n ∷ l))
    (answer_ends_nothing tool place rows m ends.0) (answers_end_so tool (place_after place m) (rows_after rows m) (n ∷ l) e ends.1)
