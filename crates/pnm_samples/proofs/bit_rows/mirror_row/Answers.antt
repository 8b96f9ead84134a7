use Rattle.pnm_samples.proofs.Words.{◌≡◌, ◌∙◌, ◌++◌, ℕ, take, replicate, reverse, refl, ap, sym, all_pixels}
use Rattle.pnm_samples.proofs.MirrorLaws.{turned_parts, reversed_view, reversed_is_packed}
use Rattle.pnm_samples.proofs.bit_rows.mirror_row.Goals as goal

pub returns-clause-turned : goal.returns-clause-turned
returns-clause-turned c =
    let each = c.args.each in
    let bytes = c.args.bytes.now in
    let value = take each (all_pixels bytes) in
    let turned : all_pixels c.turn_round.new.bytes ≡ replicate c.spare_of.result 1 ++ reverse value = c.turn_round.ensures
    ∙ turned_parts c.requires refl ∙ ap (λ (k : ℕ). replicate k 1 ++ reverse value) (sym c.spare_of.ensures) in
    reversed_view each bytes c.move_to_end.new.bytes value c.requires refl
    (c.move_to_end.ensures (reverse value) turned ∙ ap (λ (k : ℕ). reverse value ++ replicate k 1) c.spare_of.ensures)

pub returns-clause-packed : goal.returns-clause-packed
returns-clause-packed c =
    let each = c.args.each in
    let bytes = c.args.bytes.now in
    let value = take each (all_pixels bytes) in
    let turned : all_pixels c.turn_round.new.bytes ≡ replicate c.spare_of.result 1 ++ reverse value = c.turn_round.ensures
    ∙ turned_parts c.requires refl ∙ ap (λ (k : ℕ). replicate k 1 ++ reverse value) (sym c.spare_of.ensures) in
    reversed_is_packed each bytes c.move_to_end.new.bytes value c.requires refl
    (c.move_to_end.ensures (reverse value) turned ∙ ap (λ (k : ℕ). reverse value ++ replicate k 1) c.spare_of.ensures)
