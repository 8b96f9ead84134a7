use Rattle.pnm_samples.proofs.Words.{◌≡◌, ◌∙◌, Bool, length, sym, ap, arith}
use Rattle.pnm_samples.proofs.PixelRowsLaws.{length_of_ordered, place_of, row_enough, row_held, row_room}
use Rattle.pnm_samples.proofs.pixel_rows.PixelRows.bytes_from.Goals.{then-self, else-self}
use Rattle.pnm_samples.proofs.pixel_rows.PixelRows.bytes_from.Goals as goal

pub overflow_sub-place-then-self : goal.overflow_sub-place-then-self
overflow_sub-place-then-self c =
    let x = c.self.inside in
    omega (arith, length_of_ordered x.is_reversed x.count x.each x.bytes.items, ap length c.self.view_is, c.requires.row)

pub overflow_mul-result : goal.overflow_mul-result
overflow_mul-result c =
    let x = c.self.inside in
    let place : c.if-self.place ≡ place_of x.is_reversed x.count c.args.at = elim c.if-self.branch [
      | then-self w ↦ w.place-is ∙ sym (ap (λ (b : Bool). place_of b x.count c.args.at) w.if-self.true)
      | else-self w ↦ w.place-is ∙ sym (ap (λ (b : Bool). place_of b x.count c.args.at) w.if-self.false)
    ] in
    let room = row_room x.is_reversed x.count x.each c.args.at c.args.byte c.div_ceil.result x.bytes.items c.self.view_is
    c.self.invariant c.requires.row c.requires.byte (omega (arith, c.div_ceil.ensures)) place in
    omega (arith, room, x.bytes.ok.0)

pub overflow_add-result : goal.overflow_add-result
overflow_add-result c =
    let x = c.self.inside in
    let place : c.if-self.place ≡ place_of x.is_reversed x.count c.args.at = elim c.if-self.branch [
      | then-self w ↦ w.place-is ∙ sym (ap (λ (b : Bool). place_of b x.count c.args.at) w.if-self.true)
      | else-self w ↦ w.place-is ∙ sym (ap (λ (b : Bool). place_of b x.count c.args.at) w.if-self.false)
    ] in
    let room = row_room x.is_reversed x.count x.each c.args.at c.args.byte c.div_ceil.result x.bytes.items c.self.view_is
    c.self.invariant c.requires.row c.requires.byte (omega (arith, c.div_ceil.ensures)) place in
    omega (arith, room, x.bytes.ok.0)

pub slice_bounds-result-count : goal.slice_bounds-result-count
slice_bounds-result-count c =
    let x = c.self.inside in
    let place : c.if-self.place ≡ place_of x.is_reversed x.count c.args.at = elim c.if-self.branch [
      | then-self w ↦ w.place-is ∙ sym (ap (λ (b : Bool). place_of b x.count c.args.at) w.if-self.true)
      | else-self w ↦ w.place-is ∙ sym (ap (λ (b : Bool). place_of b x.count c.args.at) w.if-self.false)
    ] in
    let room = row_room x.is_reversed x.count x.each c.args.at c.args.byte c.div_ceil.result x.bytes.items c.self.view_is
    c.self.invariant c.requires.row c.requires.byte (omega (arith, c.div_ceil.ensures)) place in
    omega (arith, room, ap length c.deref.ensures.value)

pub slice_bounds-result-start : goal.slice_bounds-result-start
slice_bounds-result-start c =
    let x = c.self.inside in
    let place : c.if-self.place ≡ place_of x.is_reversed x.count c.args.at = elim c.if-self.branch [
      | then-self w ↦ w.place-is ∙ sym (ap (λ (b : Bool). place_of b x.count c.args.at) w.if-self.true)
      | else-self w ↦ w.place-is ∙ sym (ap (λ (b : Bool). place_of b x.count c.args.at) w.if-self.false)
    ] in
    let room = row_room x.is_reversed x.count x.each c.args.at c.args.byte c.div_ceil.result x.bytes.items c.self.view_is
    c.self.invariant c.requires.row c.requires.byte (omega (arith, c.div_ceil.ensures)) place in
    omega (arith, room, ap length c.deref.ensures.value)

pub returns-clause-enough : goal.returns-clause-enough
returns-clause-enough c =
    let x = c.self.inside in
    let place : c.if-self.place ≡ place_of x.is_reversed x.count c.args.at = elim c.if-self.branch [
      | then-self w ↦ w.place-is ∙ sym (ap (λ (b : Bool). place_of b x.count c.args.at) w.if-self.true)
      | else-self w ↦ w.place-is ∙ sym (ap (λ (b : Bool). place_of b x.count c.args.at) w.if-self.false)
    ] in
    row_enough x.is_reversed x.count x.each c.args.at c.args.byte c.div_ceil.result
    c.self.view_is c.self.invariant c.requires.row c.requires.byte (omega (arith, c.div_ceil.ensures)) place c.deref.ensures.value

pub returns-clause-held : goal.returns-clause-held
returns-clause-held c =
    let x = c.self.inside in
    let place : c.if-self.place ≡ place_of x.is_reversed x.count c.args.at = elim c.if-self.branch [
      | then-self w ↦ w.place-is ∙ sym (ap (λ (b : Bool). place_of b x.count c.args.at) w.if-self.true)
      | else-self w ↦ w.place-is ∙ sym (ap (λ (b : Bool). place_of b x.count c.args.at) w.if-self.false)
    ] in
    row_held x.is_reversed x.count x.each c.args.at c.args.byte c.div_ceil.result
    c.self.view_is c.self.invariant c.requires.row (omega (arith, c.div_ceil.ensures)) place c.deref.ensures.value
