use Rattle.std.proofs.Common.{arith, rules}
use Rattle.table_rack.proofs.Cells.{table_cleared}
use Rattle.table_rack.proofs.TableRack.new.Goals as goal

pub invariant_of-result : goal.invariant_of-result
invariant_of-result c =
    record { table = table_cleared c.args.cells.now c.fill.new.self c.places_used-used.result (omega arith) (search rules) }
