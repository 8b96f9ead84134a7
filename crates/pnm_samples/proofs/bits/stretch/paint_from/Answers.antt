use Rattle.pnm_samples.proofs.Words.{rules, ◌≡◌, ◌+◌, ◌-◌, ◌/◌, ◌%◌, ◌<◌, ◌∙◌, List, ℕ, length, get_or, set, replicate, ap, arith, all_pixels, put_mid}
use Rattle.pnm_samples.proofs.PixelLaws.{filled_up}
use Rattle.pnm_samples.proofs.StretchLaws.{painted_bytes, painted_within}
use Rattle.pnm_samples.proofs.bits.stretch.paint_from.Goals as goal

pub returns-then-used-eq0 : goal.returns-then-used-eq0
returns-then-used-eq0 c =
    let buffer = c.args.buffer.now in let n = c.args.kept / 8 in
    let filled : c.fill.new.self ≡ replicate (length buffer - n) c.plain_byte-byte.result = search rules in
    ap (λ (l : List ℕ). all_pixels (put_mid n (length buffer - n) buffer l)) filled
    ∙ painted_bytes buffer c.args.kept c.plain_byte-byte.result c.args.pixel c.requires.buffer c.if-used-eq0.true c.plain_byte-byte.ensures

pub returns-else-used-eq0 : goal.returns-else-used-eq0
returns-else-used-eq0 c =
    let buffer = c.args.buffer.now in let n = c.args.kept / 8 in let byte = c.plain_byte-byte.result in
    let stored = set buffer n c.window.result in
    let some : 0 < c.args.kept % 8 = omega arith in
    let filled : c.fill-else-used-eq0.new.self ≡ replicate (length stored - (n + 1)) byte = search rules in
    ap (λ (l : List ℕ). all_pixels (put_mid (n + 1) (length stored - (n + 1)) stored l)) filled
    ∙ painted_within buffer c.args.kept byte c.window.result c.args.pixel c.requires.buffer some c.plain_byte-byte.ensures
    (filled_up (get_or buffer n 0) byte c.window.result (c.args.kept % 8) (omega arith) c.window.ensures)
