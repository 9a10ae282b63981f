use Rattle.std.proofs.Common.{arith, rules}
use Rattle.std.proofs.lemmas.List.{drop-set-lt}
use Rattle.racks.proofs.Counts.{held_count_room}
use Rattle.table_rack.specs.Tables.{cell}
use Rattle.table_rack.proofs.Cells.{cell_counted, count_fits, table_set, cell_set}
use Rattle.table_rack.proofs.TableRackRack.write.Goals as goal

pub overflow_add-self : goal.overflow_add-self
overflow_add-self c =
    let s = c.args.self.now in
    omega (arith, c.count_of.ensures, count_fits s.cells.now s.used s.held c.args.key s.table c.if-key-self.false c.args.number)

pub overflow_sub-self : goal.overflow_sub-self
overflow_sub-self c =
    let s = c.args.self.now in
    omega (arith, c.count_of-2.ensures, cell_counted s.cells.now s.used s.held c.args.key s.table c.if-key-self.false)

pub invariant_of-self : goal.invariant_of-self
invariant_of-self c =
    let s = c.args.self.now in
    let counted = cell_counted s.cells.now s.used s.held c.args.key s.table c.if-key-self.false in
    record { table = table_set s.cells.now s.used s.held c.args.key s.table c.if-key-self.false c.args.number _ (omega arith) (omega arith) }

pub returns-clause-no_room : goal.returns-clause-no_room
returns-clause-no_room c =
    let s = c.args.self.now in
    λ _ lacks. absurd (omega (arith, lacks.used_up, held_count_room (cell s.cells.now s.used) c.args.key s.used c.if-key-self.false lacks.not_held))

pub returns-clause-after : goal.returns-clause-after
returns-clause-after c =
    let s = c.args.self.now in
    search (rules, drop-set-lt, cell_set s.cells.now s.used s.held c.args.key s.table c.if-key-self.false c.args.number)
