use Rattle.std.proofs.Common.{◌≡◌, ◌-◌, ◌*◌, ◌∙◌, ℕ, List, ap, sym, subst, arith}
use Rattle.pnm_samples.specs.Cuts.{cut_rows}
use Rattle.pnm_samples.specs.PixelRows.{bytes_for}
use Rattle.pnm_image.specs.declared.rows.RowVec.{RowVec}
use Rattle.pnm_image.specs.HeldRows.{AreRows, row_lists}
use Rattle.pnm_image.specs.Internal.PickedRows.{HasPicked}
use Rattle.pnm_image.specs.Rows.{every}
use Rattle.pnm_image.proofs.HeldRowLaws.{parts_of_bits}
use Rattle.pnm_image.proofs.PickedLaws.{are_rows_picked, bits_picked, rows_picked}
use Rattle.pnm_image.proofs.rows.every_of.Goals as goal

pub every_run-requires : goal.every_run-requires
every_run-requires c =
    let count = c.requires.0 in
    let are = subst (AreRows count c.args.each) c.in-Bits.is c.requires.1 in
    let parts = parts_of_bits count c.args.each c.parts.result.1 c.parts.result.2 c.parts.result.0.now c.in-Bits.rows c.parts.ensures.rows
    c.parts.ensures.whole are in
    let size : c.div_ceil.result ≡ bytes_for c.args.each = omega (arith, c.div_ceil.ensures) in
    (count, parts.0 ∙ ap (λ (k : ℕ). count * k) (sym size), c.requires.2)

pub returns-in_ok-bytes-in-Bits-clause-whole : goal.returns-in_ok-bytes-in-Bits-clause-whole
returns-in_ok-bytes-in-Bits-clause-whole c =
    let count = c.requires.0 in
    let are = subst (AreRows count c.args.each) c.in-Bits.is c.requires.1 in
    let bytes = c.parts.result.0.now in
    let parts = parts_of_bits count c.args.each c.parts.result.1 c.parts.result.2 bytes c.in-Bits.rows c.parts.ensures.rows c.parts.ensures.whole are in
    let size : c.div_ceil.result ≡ bytes_for c.args.each = omega (arith, c.div_ceil.ensures) in
    let picked = c.in_ok-bytes-in-Bits.bytes.items in
    let known = subst (λ (k : ℕ). HasPicked c.args.many k c.args.from c.args.step bytes picked) size c.in_ok-bytes-in-Bits.ensures in
    are_rows_picked count c.args.each c.args.from c.args.step c.args.many c.in-Bits.rows c.new.result are c.requires.2
    (c.new.ensures ∙ bits_picked count c.args.each c.args.from c.args.step c.args.many bytes picked c.in-Bits.rows c.requires.2 known parts.1)

pub returns-in_ok-bytes-in-Bits-clause-rows : goal.returns-in_ok-bytes-in-Bits-clause-rows
returns-in_ok-bytes-in-Bits-clause-rows c = λ count held every_one.
    let are = subst (AreRows count c.args.each) c.in-Bits.is held in
    let bytes = c.parts.result.0.now in
    let parts = parts_of_bits count c.args.each c.parts.result.1 c.parts.result.2 bytes c.in-Bits.rows c.parts.ensures.rows c.parts.ensures.whole are in
    let size : c.div_ceil.result ≡ bytes_for c.args.each = omega (arith, c.div_ceil.ensures) in
    let picked = c.in_ok-bytes-in-Bits.bytes.items in
    let known = subst (λ (k : ℕ). HasPicked c.args.many k c.args.from c.args.step bytes picked) size c.in_ok-bytes-in-Bits.ensures in
    c.new.ensures ∙ bits_picked count c.args.each c.args.from c.args.step c.args.many bytes picked c.in-Bits.rows every_one known parts.1
    ∙ ap (λ (h : RowVec). every c.args.from (c.args.step - 1) (row_lists count c.args.each h)) (sym c.in-Bits.is)

pub returns-in_ok-bytes-in-Bytes-clause-rows : goal.returns-in_ok-bytes-in-Bytes-clause-rows
returns-in_ok-bytes-in-Bytes-clause-rows c = λ count held every_one.
    rows_picked count c.args.each c.args.from c.args.step c.args.many c.as_slice.result.now c.in_ok-bytes-in-Bytes.bytes.items every_one
    c.in_ok-bytes-in-Bytes.ensures
    ∙ ap (λ (l : List ℕ). every c.args.from (c.args.step - 1) (cut_rows count c.args.each l)) c.as_slice.ensures.value
    ∙ ap (λ (h : RowVec). every c.args.from (c.args.step - 1) (row_lists count c.args.each h)) (sym c.in-Bytes.is)

pub returns-in_ok-words-in-Words-clause-rows : goal.returns-in_ok-words-in-Words-clause-rows
returns-in_ok-words-in-Words-clause-rows c = λ count held every_one.
    rows_picked count c.args.each c.args.from c.args.step c.args.many c.as_slice-in-Words.result.now c.in_ok-words-in-Words.words.items every_one
    c.in_ok-words-in-Words.ensures
    ∙ ap (λ (l : List ℕ). every c.args.from (c.args.step - 1) (cut_rows count c.args.each l)) c.as_slice-in-Words.ensures.value
    ∙ ap (λ (h : RowVec). every c.args.from (c.args.step - 1) (row_lists count c.args.each h)) (sym c.in-Words.is)
