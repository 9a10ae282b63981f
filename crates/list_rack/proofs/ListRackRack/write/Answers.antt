use Rattle.std.proofs.Common.{arith, rules}
use Rattle.list_rack.proofs.Writes.{edited_insert, edited_set, edited_remove}
use Rattle.list_rack.proofs.ListRackRack.write.Goals as goal

pub invariant_of-self : goal.invariant_of-self
invariant_of-self c =
    let s = c.args.self.now in
    record { holds = (edited_remove s.rows.now s.len c.in-Ok.place s.holds c.remove.new.rows _ c.args.key c.remove.ensures c.in-Ok.ensures.place).holds }

pub returns-in-Ok-clause-after : goal.returns-in-Ok-clause-after
returns-in-Ok-clause-after c =
    let s = c.args.self.now in
    let removed = edited_remove s.rows.now s.len c.in-Ok.place s.holds c.remove.new.rows _ c.args.key c.remove.ensures c.in-Ok.ensures.place in
    rw c.if-number-eq0.true (removed.view s.rows.ghost_name)

pub returns-in-Ok-2-clause-after : goal.returns-in-Ok-2-clause-after
returns-in-Ok-2-clause-after c =
    let s = c.args.self.now in
    rw c.replace.ensures ((edited_set s.rows.now s.len c.in-Ok.place s.holds (record { key = c.args.key; number = c.args.number }) c.in-Ok.ensures.place (search rules)).view s.rows.ghost_name)

pub invariant_of-self-then-number-ne0 : goal.invariant_of-self-then-number-ne0
invariant_of-self-then-number-ne0 c =
    let s = c.args.self.now in
    record { holds = (edited_insert s.rows.now s.len c.in-Err.place s.holds c.insert.new.rows (record { key = c.args.key; number = c.args.number }) c.insert.ensures (omega arith) c.in-Err.ensures.place (search rules)).holds }

pub returns-else-held_rows-places-clause-after : goal.returns-else-held_rows-places-clause-after
returns-else-held_rows-places-clause-after c =
    let s = c.args.self.now in
    (edited_insert s.rows.now s.len c.in-Err.place s.holds c.insert.new.rows (record { key = c.args.key; number = c.args.number }) c.insert.ensures (omega arith) c.in-Err.ensures.place (search rules)).view s.rows.ghost_name
