use Rattle.pnm_repeat_tools.proofs.Words.{◌≤◌, ◌*◌, ◌/◌, ap, arith, mul-le-mul, ToEnlarge}
use Rattle.pnm_repeat_tools.proofs.WaitingLaws.{few_pixels, wide_row}
use Rattle.pnm_repeat_tools.proofs.waiting_rows.WaitingRows.count_together.Goals as goal

pub overflow_mul-wide : goal.overflow_mul-wide
overflow_mul-wide c =
    let x = c.self.inside in
    omega (arith, (wide_row x.across x.down x.next c.row_length.result x.shape x.rows c.self.invariant c.row_length.ensures.each).2)

pub overflow_mul-most : goal.overflow_mul-most
overflow_mul-most c =
    let x = c.self.inside in
    let bytes = c.bytes_of_row-bytes.result in
    let wide = wide_row x.across x.down x.next c.row_length.result x.shape x.rows c.self.invariant c.row_length.ensures.each in
    let all : bytes * x.down ≤ 33554432 * 16777216 =
    mul-le-mul {n₁ = bytes} {m₁ = x.down} {n₂ = 33554432} {m₂ = 16777216} (omega (arith, wide.2, c.bytes_of_row-bytes.ensures.most)) c.self.invariant.down.1 in
    omega (arith, all)

pub nonzero_div-most : goal.nonzero_div-most
nonzero_div-most c =
    let x = c.self.inside in
    let bytes = c.bytes_of_row-bytes.result in
    let wide = wide_row x.across x.down x.next c.row_length.result x.shape x.rows c.self.invariant c.row_length.ensures.each in
    let all : 1 * 1 ≤ bytes * x.down =
    mul-le-mul {n₁ = 1} {m₁ = 1} {n₂ = bytes} {m₂ = x.down} (omega (arith, wide.1, c.bytes_of_row-bytes.ensures.enough)) c.self.invariant.down.0 in
    omega (arith, all)

pub returns-clause-pixels : goal.returns-clause-pixels
returns-clause-pixels c =
    let x = c.self.inside in
    let s = x.shape in
    let bytes = c.bytes_of_row-bytes.result in
    let each = c.row_length.result in
    let can = c.self.invariant in
    let wide = wide_row x.across x.down x.next each s x.rows can c.row_length.ensures.each in
    let all : 1 * 1 ≤ bytes * x.down =
    mul-le-mul {n₁ = 1} {m₁ = 1} {n₂ = bytes} {m₂ = x.down} (omega (arith, wide.1, c.bytes_of_row-bytes.ensures.enough)) can.down.0 in
    let most : c.min.result ≤ 65536 / (bytes * x.down) = omega (arith, c.min.ensures) in
    omega (
      arith,
      few_pixels s.width s.depth x.across x.down bytes c.min.result can.ready.limits.depth_low can.across.0 can.down.0 wide.0
          c.bytes_of_row-bytes.ensures.enough (omega (arith, all)) most,
      ap (λ (w : ToEnlarge). w.shape.width * c.min.result) c.self.view_is,
    )
