use Rattle.pnm_repeat_tools.proofs.Words.{rules, refl, map, ap, sym, ◌∙◌, [], arith, cases_eq, take_all, shown_row}
use Rattle.pnm_repeat_tools.proofs.TileRowLaws.{tiled_has_rows}
use Rattle.pnm_repeat_tools.proofs.tile.TilerImageTool.begin.Goals as goal

pub returns-clause-ready : goal.returns-clause-ready
returns-clause-ready c =
    let x = c.self.inside in
    let head = c.args.head.now in
    record {
      limits = c.in_ok-tiled.ensures.source;
      some = tiled_has_rows x.width x.height head c.in_ok-tiled.ensures.made (cases_eq head.shape.height 0);
      filled = c.in_ok-tiled.ensures.limits;
      rows = c.new.ensures ∙ ap (map (shown_row x.width head.shape)) (sym (take_all x.height [] (omega arith)));
      lengths = search rules;
      range = search rules;
      none_given = refl;
    }
