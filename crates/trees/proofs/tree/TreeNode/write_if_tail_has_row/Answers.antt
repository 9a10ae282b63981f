use Rattle.std.proofs.Common.{◌+◌, ◌-◌, length, drop, take, sym, subst}
use Rattle.standings.specs.Rows.{RowRead}
use Rattle.trees.specs.Planting.{Underway}
use Rattle.trees.specs.Trees.{At}
use Rattle.terms.specs.Codes.{code}
use Rattle.trees.proofs.Planting.{row_passed}
use Rattle.trees.proofs.Trees.{is_tree}
use Rattle.trees.proofs.tree.TreeNode.write_if_tail_has_row.Goals as goal

pub returns-then-row-eq0-clause-rows : goal.returns-then-row-eq0-clause-rows
returns-then-row-eq0-clause-rows g c =
    let node = c.args.self.now in
    let a = node.tree.now.alphabet in
    let u = c.args.word.now in
    subst (At node Underway (code a.moves u + 1)) (sym c.row.ensures.unaltered)
    (row_passed (is_tree node.tree.now) node.before node.inside u _ c.requires.some c.requires.next
    (subst (RowRead a.moves a.order (g.R.Rack.view c.args.rack.now).number (node.before + 1) (take (length u - 1) (drop 1 u))) c.if-row-eq0.true c.row.ensures.answer))
