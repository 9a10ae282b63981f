use Rattle.std.proofs.Common.{◌≡◌, ◌+◌, get_or, sym, subst}
use Rattle.tree_laws.specs.Facts.{Standing}
use Rattle.tree_laws.specs.Routes.{IsNode}
use Rattle.tree_laws.specs.declared.Node.TheVariants.{Skip}
use Rattle.row_laws.specs.Rows.{row_key}
use Rattle.windows.specs.Promises.{Coded}
use Rattle.trees.specs.Planting.{NextWord}
use Rattle.trees.specs.Trees.{At, tree_nodes}
use Rattle.trees.proofs.Planting.{stands_by_rows, row_written}
use Rattle.trees.proofs.Trees.{is_tree, node_at}
use Rattle.trees.proofs.tree.TreeNode.write_row.Goals as goal

pub returns-clause-rows : goal.returns-clause-rows
returns-clause-rows g c =
    let node = c.args.self.now in
    let tree = node.tree.now in
    let a = tree.alphabet in
    let n = a.moves in
    let k = a.order in
    let t = tree_nodes tree in
    let u = c.args.word.now in
    let m = node.before in
    let next = c.requires in
    let stood = c.standing-number.ensures in
    let coded : Coded n k u c.unwrap-code.result = rw c.unwrap-code.ensures at c.code.ensures in
    let key : c.start.result + c.unwrap-code.result ≡ row_key n k (m + 1) u = λ i. c.start.ensures.value i + coded.is i in
    let stands : Standing t (m + 1) u c.standing-number.result =
    subst (Standing t (m + 1) u) (sym (stood.answer next.moves next.short))
    (stands_by_rows (is_tree tree) m (g.R.Rack.view c.args.rack.now).number _ u (subst (λ l. IsNode t (m + 1) (get_or l m Skip)) (sym c.nodes.ensures) (node_at t m Skip node.inside)) next.underway.rows.standings next.moves next.short) in
    row_written (is_tree tree) m node.inside u _ _ key _ _
    (subst (At node NextWord u) (sym stood.unaltered) next) stands c.write.result c.write.ensures.accepted c.write.ensures.after
