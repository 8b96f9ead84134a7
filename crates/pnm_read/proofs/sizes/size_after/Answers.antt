use Rattle.pnm_read.proofs.Words.{ℕ, ◌+◌, ◌*◌, rules, ap, ◌∙◌, Shape, bytes_in_row}
use Rattle.pnm_read.proofs.sizes.size_after.Goals as goal

pub returns : goal.returns
returns c =
    let found = rw c.in-Some.is at c.in_ok-head.ensures in
    record {
      head_is = record { head = c.in-Some.head; taken = c.in-Some.taken; form = search rules; found = found };
      size_is = ap (λ (n : ℕ). 2 + c.in-Some.taken + n) (c.raster_size.ensures.size ∙ ap (λ (s : Shape). s.height * bytes_in_row s) c.shape.ensures.shape);
    }
