use Rattle.pnm_row_tools.proofs.Words.{◌≡◌, Some, None, inl, ap, sym, subst, ◌∙◌, arith, Shape, IsWithinLimits, head_value, HeadValue, Cut, within_limits}
use Rattle.pnm_row_tools.proofs.Words.{result_head, head_so, fault_so, columns_lie, rows_lie, counts_within, cut_without_rows, cut_head_by, cut_head_made}
use Rattle.pnm_row_tools.proofs.Words.{MAX_SIDE}
use Rattle.pnm_row_tools.proofs.cut.CutterRowTool.begin.Goals as goal
use Rattle.pnm_row_tools.proofs.cut.CutterRowTool.begin.Goals.{in_default-via-in-Some+in_default, in_default-via-in_default}

pub returns-then-shape-eq0-clause-refused : goal.returns-then-shape-eq0-clause-refused
returns-then-shape-eq0-clause-refused c =
    inl (cut_without_rows c.args.self.now.cut c.args.head.now (ap (λ (z : Shape). z.height) (sym c.shape-shape.ensures.shape) ∙ c.if-shape-eq0.true))

pub returns-in_default-clause-refused : goal.returns-in_default-clause-refused
returns-in_default-clause-refused c = elim c.in_default.branch [
  | in_default-via-in-Some+in_default w ↦
      inl (cut_head_by c.args.self.now.cut c.args.head.now c.shape-shape.result (Some w.in_default.field-0-0) None c.shape-shape.ensures.shape
      c.if-shape-eq0.false w.in_default.ensures w.in_default.ensures')
  | in_default-via-in_default w ↦
      inl (cut_head_by c.args.self.now.cut c.args.head.now c.shape-shape.result None c.rows_kept.result c.shape-shape.ensures.shape c.if-shape-eq0.false
      (sym w.in_default.is-0 ∙ c.columns_kept.ensures) c.rows_kept.ensures)
]

pub span_count-requires : goal.span_count-requires
span_count-requires c =
    let limits = subst IsWithinLimits (sym c.shape-shape.ensures.shape) c.shape-shape.ensures.sound.limits in
    let lies = columns_lie c.args.self.now.cut c.shape-shape.result c.in-Some-Some.columns c.in-Some-Some.ensures in
    counts_within c.in-Some-Some.columns c.shape-shape.result.width MAX_SIDE lies limits.width_high

pub span_count-requires-2 : goal.span_count-requires-2
span_count-requires-2 c =
    let limits = subst IsWithinLimits (sym c.shape-shape.ensures.shape) c.shape-shape.ensures.sound.limits in
    let lies = rows_lie c.args.self.now.cut c.shape-shape.result c.in-Some-Some.rows c.in-Some-Some.ensures' in
    counts_within c.in-Some-Some.rows c.shape-shape.result.height MAX_SIDE lies limits.height_high

pub head_within_limits-requires-clause-some : goal.head_within_limits-requires-clause-some
head_within_limits-requires-clause-some c =
    let limits = subst IsWithinLimits (sym c.shape-shape.ensures.shape) c.shape-shape.ensures.sound.limits in
    let lies = columns_lie c.args.self.now.cut c.shape-shape.result c.in-Some-Some.columns c.in-Some-Some.ensures in
    (omega (arith, c.span_count.ensures, lies.0), limits.depth_low)

-- the head of the spans that are kept
abbrev kept : goal.After-head_within_limits → HeadValue
kept c = head_value (record c.shape-shape.result { width = c.span_count.result; height = c.span_count-2.result }) c.tuple_type.result.now

made : (c : goal.After-head_within_limits) → result_head (Cut c.args.self.now.cut) c.args.head.now ≡ within_limits (kept c)
made c =
    cut_head_made c.args.self.now.cut c.args.head.now c.shape-shape.result c.in-Some-Some.columns c.in-Some-Some.rows c.span_count.result
    c.span_count-2.result c.tuple_type.result.now c.shape-shape.ensures.shape c.shape-shape.ensures.sound.limits c.if-shape-eq0.false
    c.in-Some-Some.ensures c.in-Some-Some.ensures' c.span_count.ensures c.span_count-2.ensures c.tuple_type.ensures

pub returns-clause-head : goal.returns-clause-head
returns-clause-head c =
    head_so (Cut c.args.self.now.cut) c.args.head.now (kept c) c.head_within_limits.result (made c) c.head_within_limits.ensures.made

pub returns-clause-refused : goal.returns-clause-refused
returns-clause-refused c =
    fault_so (Cut c.args.self.now.cut) c.args.head.now (kept c) c.head_within_limits.result (made c) c.head_within_limits.ensures.refused
