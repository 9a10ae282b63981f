use Rattle.std.proofs.Common.{◌<◌, ◌-◌, get_or, Err, arith, rules}
use Rattle.list_rack.specs.Rows.{no_row}
use Rattle.list_rack.proofs.Rows.{belongs_last, placed}
use Rattle.list_rack.proofs.ListRack.place.Goals.{then-self-eq0-via-then-self-eq0, then-self-eq0-via-else-self-eq0+then-self-key}
use Rattle.list_rack.proofs.ListRack.place.Goals as goal

pub returns-then-self-eq0 : goal.returns-then-self-eq0
returns-then-self-eq0 c =
    let s = c.args.self.now in
    let above : 0 < s.len → (get_or s.rows.now (s.len - 1) no_row).key < c.args.key = λ some. elim c.then-self-eq0.branch [
      | then-self-eq0-via-then-self-eq0 w ↦ absurd (omega (arith, w.if-self-eq0.true))
      | then-self-eq0-via-else-self-eq0+then-self-key w ↦ w.if-self-key.true
    ] in
    placed s.rows.now s.len c.args.key s.holds (Err s.len) (search rules) (belongs_last s.rows.now s.len c.args.key s.holds above)

pub returns : goal.returns
returns c =
    let s = c.args.self.now in
    placed s.rows.now s.len c.args.key s.holds c.find.result (search rules) (search rules)
