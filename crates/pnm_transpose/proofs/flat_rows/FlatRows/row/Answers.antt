use Rattle.pnm_transpose.proofs.Words.{◌≡◌, ◌∙◌, Bool, length, sym, ap, arith}
use Rattle.pnm_transpose.proofs.FlatRowsLaws.{length_of_ordered, place_of, row_is, row_room}
use Rattle.pnm_transpose.proofs.flat_rows.FlatRows.row.Goals.{then-self, else-self}
use Rattle.pnm_transpose.proofs.flat_rows.FlatRows.row.Goals as goal

pub overflow_sub-place-then-self : goal.overflow_sub-place-then-self
overflow_sub-place-then-self g c =
    let x = c.self.inside in
    omega (arith, length_of_ordered x.is_reversed x.count x.each x.samples.items, ap length c.self.view_is, c.requires)

pub overflow_mul-start : goal.overflow_mul-start
overflow_mul-start g c =
    let x = c.self.inside in
    let place : c.if-self.place ≡ place_of x.is_reversed x.count c.args.at = elim c.if-self.branch [
      | then-self w ↦ w.place-is ∙ sym (ap (λ (b : Bool). place_of b x.count c.args.at) w.if-self.true)
      | else-self w ↦ w.place-is ∙ sym (ap (λ (b : Bool). place_of b x.count c.args.at) w.if-self.false)
    ] in
    let room = row_room x.is_reversed x.count x.each c.args.at x.samples.items c.self.view_is c.self.invariant c.requires place in
    omega (arith, room, x.samples.ok.0)

pub overflow_add-result : goal.overflow_add-result
overflow_add-result g c =
    let x = c.self.inside in
    let place : c.if-self.place ≡ place_of x.is_reversed x.count c.args.at = elim c.if-self.branch [
      | then-self w ↦ w.place-is ∙ sym (ap (λ (b : Bool). place_of b x.count c.args.at) w.if-self.true)
      | else-self w ↦ w.place-is ∙ sym (ap (λ (b : Bool). place_of b x.count c.args.at) w.if-self.false)
    ] in
    let room = row_room x.is_reversed x.count x.each c.args.at x.samples.items c.self.view_is c.self.invariant c.requires place in
    omega (arith, room, x.samples.ok.0)

pub offset_bounds-deref-start : goal.offset_bounds-deref-start
offset_bounds-deref-start g c =
    let x = c.self.inside in
    let place : c.if-self.place ≡ place_of x.is_reversed x.count c.args.at = elim c.if-self.branch [
      | then-self w ↦ w.place-is ∙ sym (ap (λ (b : Bool). place_of b x.count c.args.at) w.if-self.true)
      | else-self w ↦ w.place-is ∙ sym (ap (λ (b : Bool). place_of b x.count c.args.at) w.if-self.false)
    ] in
    let room = row_room x.is_reversed x.count x.each c.args.at x.samples.items c.self.view_is c.self.invariant c.requires place in
    omega (arith, room, ap length c.deref.ensures.value)

pub slice_bounds-result-end : goal.slice_bounds-result-end
slice_bounds-result-end g c =
    let x = c.self.inside in
    let place : c.if-self.place ≡ place_of x.is_reversed x.count c.args.at = elim c.if-self.branch [
      | then-self w ↦ w.place-is ∙ sym (ap (λ (b : Bool). place_of b x.count c.args.at) w.if-self.true)
      | else-self w ↦ w.place-is ∙ sym (ap (λ (b : Bool). place_of b x.count c.args.at) w.if-self.false)
    ] in
    let room = row_room x.is_reversed x.count x.each c.args.at x.samples.items c.self.view_is c.self.invariant c.requires place in
    omega (arith, room, ap length c.deref.ensures.value)

pub returns : goal.returns
returns g c =
    let x = c.self.inside in
    let place : c.if-self.place ≡ place_of x.is_reversed x.count c.args.at = elim c.if-self.branch [
      | then-self w ↦ w.place-is ∙ sym (ap (λ (b : Bool). place_of b x.count c.args.at) w.if-self.true)
      | else-self w ↦ w.place-is ∙ sym (ap (λ (b : Bool). place_of b x.count c.args.at) w.if-self.false)
    ] in
    row_is x.is_reversed x.count x.each c.args.at c.self.view_is c.requires place c.deref.ensures.value
