use Rattle.pnm_samples.proofs.Words.{◌≡◌, ◌∙◌, ◌-◌, ◌%◌, ◌++◌, List, ℕ, take, replicate, reverse, ap, sym, subst, arith, common_steps, with_items, all_pixels}
use Rattle.pnm_samples.proofs.Words.{ArePacked}
use Rattle.pnm_samples.proofs.MirrorLaws.{turned_parts, reversed_view, reversed_is_packed}
use Rattle.pnm_samples.proofs.bits.Bits.reverse.Goals as goal

pub invariant_of-self : goal.invariant_of-self
invariant_of-self c =
    let count = c.self.inside.count in
    let bytes = c.self.inside.bytes.items in
    let value = c.args.self.now in
    let last : (with_items (with_items c.self.inside.bytes c.turn_round.new.bytes) c.move_to_end.new.bytes).items ≡ c.move_to_end.new.bytes =
    grind (arith, common_steps) in
    let first : c.as_mut_slice-2.result.now ≡ c.turn_round.new.bytes = grind (arith, common_steps) in
    let turned : all_pixels c.as_mut_slice-2.result.now ≡ replicate ((8 - count % 8) % 8) 1 ++ reverse value = ap all_pixels first ∙ c.turn_round.ensures
    ∙ ap (λ l. reverse (all_pixels l)) c.as_mut_slice.ensures.value ∙ turned_parts c.self.invariant c.self.view_is in
    subst (λ (l : List ℕ). ArePacked count l) (sym last)
    (reversed_is_packed count bytes c.move_to_end.new.bytes value c.self.invariant c.self.view_is (c.move_to_end.ensures (reverse value) turned))

pub returns : goal.returns
returns c =
    let count = c.self.inside.count in
    let bytes = c.self.inside.bytes.items in
    let value = c.args.self.now in
    let last : (with_items (with_items c.self.inside.bytes c.turn_round.new.bytes) c.move_to_end.new.bytes).items ≡ c.move_to_end.new.bytes =
    grind (arith, common_steps) in
    let first : c.as_mut_slice-2.result.now ≡ c.turn_round.new.bytes = grind (arith, common_steps) in
    let turned : all_pixels c.as_mut_slice-2.result.now ≡ replicate ((8 - count % 8) % 8) 1 ++ reverse value = ap all_pixels first ∙ c.turn_round.ensures
    ∙ ap (λ l. reverse (all_pixels l)) c.as_mut_slice.ensures.value ∙ turned_parts c.self.invariant c.self.view_is in
    ap (λ l. take count (all_pixels l)) last ∙ reversed_view count bytes c.move_to_end.new.bytes value c.self.invariant c.self.view_is
    (c.move_to_end.ensures (reverse value) turned)
