use Rattle.pnm_transpose.proofs.Words.{[], ◌∷◌, ◌∙◌, refl, arith}
use Rattle.std.proofs.Common.{length-set}
use Rattle.pnm_transpose.proofs.BlockLaws.{first_row, row_more}
use Rattle.pnm_transpose.proofs.blocks.sixteen_rows.Goals as goal

pub loop-i-preserved : goal.loop-i-preserved
loop-i-preserved c =
    let known = c.loop-i.invariant in (
      length-set c.loop-i.sixteen c.loop-i.i c.row.result ∙ known.0,
      row_more c.args.y c.loop-i.i c.args.rows.now c.loop-i.sixteen c.row.result (omega (arith, known.0)) c.row.ensures known.1,
    )

pub loop-i-init : goal.loop-i-init
loop-i-init c =
    let row = c.row-sixteen.result in (
      refl,
      first_row c.args.y c.args.rows.now row
          (row ∷ row ∷ row ∷ row ∷ row ∷ row ∷ row ∷ row ∷ row ∷ row ∷ row ∷ row ∷ row ∷ row ∷ row ∷ []) c.row-sixteen.ensures,
    )

pub returns-clause-count : goal.returns-clause-count
returns-clause-count c = c.loop-i.invariant.0

pub returns-clause-rows : goal.returns-clause-rows
returns-clause-rows c i d lt = c.loop-i.invariant.1 i d (omega (arith, c.loop-i.invariant.0))
