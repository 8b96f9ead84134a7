use Rattle.std.proofs.Common.{◌+◌, ◌/◌, ◌∙◌, ap, sym, subst}
use Rattle.pnm_image.specs.declared.rows.RowSlice.{RowSlice}
use Rattle.pnm_image.specs.HeldRows.{AreSliceRows, slice_lists}
use Rattle.pnm_image.specs.Repeats.{repeated}
use Rattle.pnm_image.proofs.CopyLaws.{are_rows_repeated, copied_bits, copied_samples, length_of_copies}
use Rattle.pnm_image.proofs.HeldRowLaws.{parts_of_bits}
use Rattle.pnm_image.proofs.copies.repeat_held.Goals as goal

pub new-rows-requires : goal.new-rows-requires
new-rows-requires c =
    let are = subst (AreSliceRows c.args.count c.args.each) c.in-Bits.is c.requires in
    let parts = parts_of_bits c.args.count c.args.each c.parts.result.1 c.parts.result.2 c.parts.result.0.now c.in-Bits.rows.now c.parts.ensures.rows
    c.parts.ensures.whole are in
    length_of_copies c.args.times c.args.count ((c.args.each + 7) / 8) c.parts.result.0.now c.in_ok-copies-in-Bits.copies.items parts.0
    c.in_ok-copies-in-Bits.ensures

pub returns-in_ok-copies-in-Bits-clause-whole : goal.returns-in_ok-copies-in-Bits-clause-whole
returns-in_ok-copies-in-Bits-clause-whole c =
    let are = subst (AreSliceRows c.args.count c.args.each) c.in-Bits.is c.requires in
    let parts = parts_of_bits c.args.count c.args.each c.parts.result.1 c.parts.result.2 c.parts.result.0.now c.in-Bits.rows.now c.parts.ensures.rows
    c.parts.ensures.whole are in
    are_rows_repeated c.args.times c.args.count c.args.each c.in-Bits.rows.now c.new-rows.result
    (copied_bits c.args.times c.args.count c.args.each c.parts.result.0.now c.in_ok-copies-in-Bits.copies.items c.in-Bits.rows.now c.new-rows.result
    parts.0 parts.1 c.in_ok-copies-in-Bits.ensures c.new-rows.ensures) are

pub returns-in_ok-copies-in-Bits-clause-rows : goal.returns-in_ok-copies-in-Bits-clause-rows
returns-in_ok-copies-in-Bits-clause-rows c =
    let are = subst (AreSliceRows c.args.count c.args.each) c.in-Bits.is c.requires in
    let parts = parts_of_bits c.args.count c.args.each c.parts.result.1 c.parts.result.2 c.parts.result.0.now c.in-Bits.rows.now c.parts.ensures.rows
    c.parts.ensures.whole are in
    copied_bits c.args.times c.args.count c.args.each c.parts.result.0.now c.in_ok-copies-in-Bits.copies.items c.in-Bits.rows.now c.new-rows.result
    parts.0 parts.1 c.in_ok-copies-in-Bits.ensures c.new-rows.ensures
    ∙ ap (λ (lent : RowSlice). repeated c.args.times (slice_lists c.args.count c.args.each lent)) (sym c.in-Bits.is)

pub returns-in_ok-copies-in-Bytes-clause-whole : goal.returns-in_ok-copies-in-Bytes-clause-whole
returns-in_ok-copies-in-Bytes-clause-whole c =
    length_of_copies c.args.times c.args.count c.args.each c.in-Bytes.bytes.now c.in_ok-copies-in-Bytes.copies.items
    (subst (AreSliceRows c.args.count c.args.each) c.in-Bytes.is c.requires) c.in_ok-copies-in-Bytes.ensures

pub returns-in_ok-copies-in-Bytes-clause-rows : goal.returns-in_ok-copies-in-Bytes-clause-rows
returns-in_ok-copies-in-Bytes-clause-rows c =
    copied_samples c.args.times c.args.count c.args.each c.in-Bytes.bytes.now c.in_ok-copies-in-Bytes.copies.items
    (subst (AreSliceRows c.args.count c.args.each) c.in-Bytes.is c.requires) c.in_ok-copies-in-Bytes.ensures
    ∙ ap (λ (lent : RowSlice). repeated c.args.times (slice_lists c.args.count c.args.each lent)) (sym c.in-Bytes.is)

pub returns-in_ok-copies-in-Words-clause-whole : goal.returns-in_ok-copies-in-Words-clause-whole
returns-in_ok-copies-in-Words-clause-whole c =
    length_of_copies c.args.times c.args.count c.args.each c.in-Words.words.now c.in_ok-copies-in-Words.copies.items
    (subst (AreSliceRows c.args.count c.args.each) c.in-Words.is c.requires) c.in_ok-copies-in-Words.ensures

pub returns-in_ok-copies-in-Words-clause-rows : goal.returns-in_ok-copies-in-Words-clause-rows
returns-in_ok-copies-in-Words-clause-rows c =
    copied_samples c.args.times c.args.count c.args.each c.in-Words.words.now c.in_ok-copies-in-Words.copies.items
    (subst (AreSliceRows c.args.count c.args.each) c.in-Words.is c.requires) c.in_ok-copies-in-Words.ensures
    ∙ ap (λ (lent : RowSlice). repeated c.args.times (slice_lists c.args.count c.args.each lent)) (sym c.in-Words.is)
