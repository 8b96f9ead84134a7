use Rattle.pnm_repeat_tools.proofs.Words.{◌≡◌, ◌+◌, ◌*◌, ◌/◌, ◌∙◌, ap, sym, subst, arith, ℕ, flat_map, replicate, RowSlice, AreSliceRows, slice_lists}
use Rattle.pnm_repeat_tools.proofs.Words.{parts_of_bits}
use Rattle.pnm_repeat_tools.proofs.EnlargeRowLaws.{columns_repeated}
use Rattle.pnm_repeat_tools.proofs.EnlargedRowsLaws.{repeated_cut}
use Rattle.pnm_repeat_tools.proofs.HeldRowLaws.{repeated_bits}
use Rattle.pnm_repeat_tools.proofs.larger.repeat_rows.Goals as goal

pub repeat_runs-requires : goal.repeat_runs-requires
repeat_runs-requires c =
    let are = subst (AreSliceRows c.args.count c.args.each) c.in-Bits.is c.requires in
    let parts = parts_of_bits c.args.count c.args.each c.parts.result.1 c.parts.result.2 c.parts.result.0.now c.in-Bits.bits.now c.parts.ensures.rows
    c.parts.ensures.whole are in
    let size : c.div_ceil.result ≡ (c.args.each + 7) / 8 = omega arith in
    parts.0 ∙ ap (λ (n : ℕ). c.args.count * n) (sym size)

pub new-bits-requires : goal.new-bits-requires
new-bits-requires c =
    let are = subst (AreSliceRows c.args.count c.args.each) c.in-Bits.is c.requires in
    let parts = parts_of_bits c.args.count c.args.each c.parts.result.1 c.parts.result.2 c.parts.result.0.now c.in-Bits.bits.now c.parts.ensures.rows
    c.parts.ensures.whole are in
    let size : c.div_ceil.result ≡ (c.args.each + 7) / 8 = omega arith in
    (repeated_cut c.args.down c.args.count ((c.args.each + 7) / 8) c.parts.result.0.now parts.0
    (c.in_ok-bytes-in-Bits.ensures.made ∙ ap (λ (n : ℕ). columns_repeated c.args.down n c.parts.result.0.now c.args.count) size)).1

pub returns-in_ok-bytes-in-Bits-clause-made : goal.returns-in_ok-bytes-in-Bits-clause-made
returns-in_ok-bytes-in-Bits-clause-made c =
    let count = c.args.count in
    let each = c.args.each in
    let down = c.args.down in
    let bytes = c.parts.result.0.now in
    let rows = c.in-Bits.bits.now in
    let are = subst (AreSliceRows count each) c.in-Bits.is c.requires in
    let parts = parts_of_bits count each c.parts.result.1 c.parts.result.2 bytes rows c.parts.ensures.rows c.parts.ensures.whole are in
    let size : c.div_ceil.result ≡ (each + 7) / 8 = omega arith in
    let made = repeated_bits down count each bytes parts.0 parts.1
    (c.in_ok-bytes-in-Bits.ensures.made ∙ ap (λ (n : ℕ). columns_repeated down n bytes count) size) c.new-bits.ensures in
    (made.0 ∙ ap (λ (lent : RowSlice). flat_map (replicate down) (slice_lists count each lent)) (sym c.in-Bits.is), made.1)

pub returns-in_ok-bytes-in-Bytes-clause-made : goal.returns-in_ok-bytes-in-Bytes-clause-made
returns-in_ok-bytes-in-Bytes-clause-made c =
    let long = subst (AreSliceRows c.args.count c.args.each) c.in-Bytes.is c.requires in
    let made = repeated_cut c.args.down c.args.count c.args.each c.in-Bytes.bytes.now long c.in_ok-bytes-in-Bytes.ensures.made in
    (made.0 ∙ ap (λ (lent : RowSlice). flat_map (replicate c.args.down) (slice_lists c.args.count c.args.each lent)) (sym c.in-Bytes.is), made.1)

pub returns-in_ok-words-in-Words-clause-made : goal.returns-in_ok-words-in-Words-clause-made
returns-in_ok-words-in-Words-clause-made c =
    let long = subst (AreSliceRows c.args.count c.args.each) c.in-Words.is c.requires in
    let made = repeated_cut c.args.down c.args.count c.args.each c.in-Words.words.now long c.in_ok-words-in-Words.ensures.made in
    (made.0 ∙ ap (λ (lent : RowSlice). flat_map (replicate c.args.down) (slice_lists c.args.count c.args.each lent)) (sym c.in-Words.is), made.1)
