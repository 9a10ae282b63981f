use Rattle.std.proofs.Common.{rules}
use Rattle.table_rack.proofs.Cells.{table_cleared}
use Rattle.table_rack.proofs.TableRackRack.empty.Goals as goal

pub invariant_of-self : goal.invariant_of-self
invariant_of-self c =
    let s = c.args.self.now in
    record { table = table_cleared s.cells.now c.fill.new.self s.used s.table.within (search rules) }
