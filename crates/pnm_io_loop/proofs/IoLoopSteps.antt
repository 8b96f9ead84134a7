-- The steps of the caller's loop in a run over threads, one after another.
use Rattle.pnm_io_loop.proofs.Words.{ℕ, ◌<◌, List, length, Option, ◌≡◌, inl, inr, sym, ap, subst, ◌∙◌, reader_of, Egress, Ingress, Message, HasTakenNothing}
use Rattle.pnm_io_loop.proofs.Words.{output_of, HaveStepped, HaveMoved, CannotSend, CannotTake, received, known_items, Receiver, same_input, same_output}

-- one step more
pub stepped_more : {R W : Type 0} (left : R → Option (List ℕ)) (reader_failures : R → ℕ) (same_reader : R → R → Type 0) (held : W → Option (List ℕ))
    (writer_failures : W → ℕ) (same_writer : W → W → Type 0) (f f1 f2 : Ingress R) (c c1 c2 : Egress W)
    → HaveStepped left reader_failures same_reader held writer_failures same_writer f c f1 c1
    → HaveStepped left reader_failures same_reader held writer_failures same_writer f1 c1 f2 c2
    → same_reader (reader_of f.source) (reader_of f2.source) → same_writer (output_of c.fused_sink) (output_of c2.fused_sink)
    → HaveStepped left reader_failures same_reader held writer_failures same_writer f c f2 c2
stepped_more left reader_failures same_reader held writer_failures same_writer f f1 f2 c c1 c2 before stepped reader writer = record {
  sending = λ first sent is. stepped.sending first sent (before.sending first sent is);
  receiving = λ form start taken is. stepped.receiving form start taken (before.receiving form start taken is);
  sends = same_output f.output f1.output f2.output before.sends stepped.sends;
  takes = same_input c.input c1.input c2.input before.takes stepped.takes;
  reader = reader;
  writer = writer;
}

-- one thing after another
pub stepped_on : {R W : Type 0} {left : R → Option (List ℕ)} {reader_failures : R → ℕ} {same_reader : R → R → Type 0} {held : W → Option (List ℕ)}
    {writer_failures : W → ℕ} {same_writer : W → W → Type 0} → ((a b d : R) → same_reader a b → same_reader b d → same_reader a d)
    → ((a b d : W) → same_writer a b → same_writer b d → same_writer a d) → {f f1 f2 : Ingress R} {c c1 c2 : Egress W}
    → HaveStepped left reader_failures same_reader held writer_failures same_writer f c f1 c1
    → HaveStepped left reader_failures same_reader held writer_failures same_writer f1 c1 f2 c2
    → HaveStepped left reader_failures same_reader held writer_failures same_writer f c f2 c2
stepped_on {left} {reader_failures} {same_reader} {held} {writer_failures} {same_writer} reader_later writer_later {f} {f1} {f2} {c} {c1} {c2} before stepped =
    stepped_more left reader_failures same_reader held writer_failures same_writer f f1 f2 c c1 c2 before stepped
    (reader_later (reader_of f.source) (reader_of f1.source) (reader_of f2.source) before.reader stepped.reader)
    (writer_later (output_of c.fused_sink) (output_of c1.fused_sink) (output_of c2.fused_sink) before.writer stepped.writer)

-- ---- where nothing was taken

-- what moves then has moved since before
pub moves_later : {R W : Type 0} (f f2 : Ingress R) {c c1 : Egress W} (c2 : Egress W) → HasTakenNothing c c1 → HaveMoved f c1 f2 c2 → HaveMoved f c f2 c2
moves_later f f2 c2 none (inl sent) = inl sent
moves_later f f2 c2 none (inr (inl more)) = inr (inl (subst (λ (l : List Message). length l < length (received c2.input)) none.received more))
moves_later f f2 c2 none (inr (inr over)) = inr (inr (sym none.over ∙ over.0, over.1))

-- what can't be sent then couldn't be before
pub not_before : {R W : Type 0} (f : Ingress R) {c c1 : Egress W} → HasTakenNothing c c1 → CannotSend f c1 → CannotSend f c
not_before f none (inl over) = inl over
not_before f none (inr (inl full)) = inr (inl full)
not_before f none (inr (inr later)) = inr (inr (sym none.over ∙ later.0, subst (λ (n : ℕ). n < f.images) none.images later.1))

pub not_taken_before : {W : Type 0} {c c1 : Egress W} → HasTakenNothing c c1 → c1.input ≡ c.input → CannotTake c1 → CannotTake c
not_taken_before none same (inl over) = inl (sym none.over ∙ over)
not_taken_before none same (inr empty) = inr (ap (λ (r : Receiver). known_items r) (sym same) ∙ empty)
