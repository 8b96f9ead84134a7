use Rattle.pnm_transpose.proofs.Words.{◌≡◌, ◌++◌, take, row_lists, strip_lists, rows_width, KeepColumns}
use Rattle.pnm_transpose.proofs.sample_rows.SampleRows.push_each.Given as goal

-- the rows that have passed are added, some of them in strips
abbrev pub invariant-loop-at : goal.invariant-loop-at
invariant-loop-at l = record {
  sample_width : rows_width l.self ≡ rows_width l.initial.self;
  kept : KeepColumns l.last_first l.shape.width l.shape.depth (strip_lists l.initial.self) (row_lists l.initial.self ++ take l.at l.rows)
      (strip_lists l.self) (row_lists l.self);
}
