use Rattle.std.proofs.Common.{◌≡◌, sym, ap, ◌∙◌, subst, arith}
use Rattle.racks.specs.Views.{View, after_empty}
use Rattle.row_laws.specs.Rows.{MoreRows}
use Rattle.row_laws.proofs.Counted.{rows_fit}
use Rattle.trees.specs.Planting.{SameMemory}
use Rattle.trees.specs.Trees.{tree_nodes}
use Rattle.trees.proofs.Trees.{is_tree}
use Rattle.trees.proofs.tree.Tree.write_rows.Goals as goal

pub returns : goal.returns
returns g c =
    let tree = c.args.self.now in
    let a = tree.alphabet in
    let n = a.moves in
    let k = a.order in
    let t = tree_nodes tree in
    let before = g.R.Rack.view c.args.rack.now in
    let after = g.R.Rack.view c.put_rows.new.rack in
    let empty : g.R.Rack.view c.empty.new.self ≡ after_empty before = c.empty.ensures ∙ ap after_empty c.reach.ensures.unaltered in
    let same : SameMemory (after_empty before) after = subst (λ (v : View). SameMemory v after) empty c.in-Ok.ensures.memory in
    let whole = c.in-Ok.ensures.rows in
    record {
      reaches = omega (arith, c.if-reach-key_limit.false, c.reach.ensures.answer, c.key_limit.ensures);
      fits = λ more. rows_fit n k t a.few a.low (is_tree tree).formed whole.rows after.reach (g.met.R.Rack.bounded c.put_rows.new.rack).within_room whole.reaches (subst (MoreRows n k t) (sym same.room) more);
      rows = whole.rows;
      playable = c.in-Ok.ensures.count;
      same_memory = record { reach = same.reach; room = same.room; lent = same.lent };
    }
