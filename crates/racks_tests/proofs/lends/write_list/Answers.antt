use Rattle.std.proofs.Common.{rules, ap, arith, refl, ◌∙◌}
use Rattle.racks.specs.Views.{View, held_in}
use Rattle.racks.specs.Counts.{held_count_none}
use Rattle.list_rack.specs.Rows.{list_reach}
use Rattle.racks_tests.proofs.LetGo.{list_left}
use Rattle.racks_tests.proofs.lends.write_list.Goals as goal

pub returns-clause-no_room : goal.returns-clause-no_room
returns-clause-no_room c =
    let fresh = c.new-rack.ensures.fresh in
    let room = ap (λ (v : View). v.room) fresh in
    λ inside none some. c.write.ensures.no_room inside (record {
      put_in = some;
      not_held = ap (λ (v : View). v.number c.args.key) fresh;
      used_up = omega arith;
    })

pub returns-clause-accepted : goal.returns-clause-accepted
returns-clause-accepted c =
    let fresh = c.new-rack.ensures.fresh in
    let room = ap (λ (v : View). v.room) fresh in
    let held = ap held_in fresh ∙ held_count_none (λ _. 0) list_reach (λ _ _. refl) in
    λ inside some. c.write.ensures.accepted inside (λ lacks. omega (arith, lacks.used_up, held))

pub returns-clause-no_number : goal.returns-clause-no_number
returns-clause-no_number c =
    λ inside none. c.write.ensures.accepted inside (λ lacks. omega (arith, lacks.put_in))

pub returns-clause-left : goal.returns-clause-left
returns-clause-left c =
    list_left _ _ _ c.args.rows.now _ _ (search rules) _ c.args.key c.args.number c.write.result c.new-rack.ensures.fresh c.write.ensures.after
