use Rattle.std.proofs.Common.{rules, ap, arith}
use Rattle.racks.specs.Views.{View}
use Rattle.racks.proofs.Counts.{held_count_room}
use Rattle.table_rack.specs.Tables.{cell}
use Rattle.racks_tests.proofs.LetGo.{table_left}
use Rattle.racks_tests.proofs.lends.write_table.Goals as goal

pub returns-clause-accepted : goal.returns-clause-accepted
returns-clause-accepted c =
    let made = c.new-rack.result in
    let reach = ap (λ (v : View). v.reach) c.new-rack.ensures.fresh in
    λ inside. c.write.ensures.accepted (omega arith) (λ lacks. omega (arith, lacks.used_up, held_count_room (cell made.cells.now made.used) c.args.key made.used (omega arith) lacks.not_held))

pub returns-clause-left : goal.returns-clause-left
returns-clause-left c =
    table_left _ _ _ c.args.cells.now _ _ (search rules) _ c.args.key c.args.number c.write.result c.new-rack.ensures.fresh c.write.ensures.after
