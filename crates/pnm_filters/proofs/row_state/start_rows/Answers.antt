use Rattle.pnm_filters.proofs.Words.{row_wise_tools_commute}
use Rattle.pnm_filters.proofs.row_state.start_rows.Goals as goal

pub returns-clause-started : goal.returns-clause-started
returns-clause-started c =
    let fresh = c.in_ok-start_tool.ensures.started in
    record {
      state = record { state = fresh.state; row_wise = (row_wise_tools_commute c.args.tool.now c.requires.lawful).0 c.requires.row_wise };
      none_due = fresh.none_due;
      going = fresh.going;
    }
