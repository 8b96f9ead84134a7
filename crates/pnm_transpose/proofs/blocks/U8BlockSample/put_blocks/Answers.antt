use Rattle.pnm_transpose.proofs.Words.{◌≡◌, ◌*◌, ◌+◌, ◌≤◌, ℕ, List, All, arith, length, subst}
use Rattle.pnm_transpose.proofs.BlockLaws.{sixteen_behind}
use Rattle.pnm_transpose.proofs.blocks.U8BlockSample.put_blocks.Goals as goal

pub loop-group-preserved : goal.loop-group-preserved
loop-group-preserved c =
    let rows = c.args.rows.now in
    let one : c.args.depth ≡ 1 = omega arith in
    sixteen_behind c.args.first c.loop-group.group rows (omega (arith, c.len-groups.ensures))
    (subst (λ (n : ℕ). All (λ (row : List ℕ). (c.args.first + length c.args.columns.now) * n ≤ length row) rows) one c.requires.rows)
    c.loop-group.invariant c.put_sixteen.ensures
