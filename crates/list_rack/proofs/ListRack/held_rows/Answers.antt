use Rattle.list_rack.proofs.Rows.{count_held}
use Rattle.list_rack.proofs.ListRack.held_rows.Goals as goal

pub returns-clause-counted : goal.returns-clause-counted
returns-clause-counted c =
    let s = c.args.self.now in
    count_held s.rows.now s.len s.holds
