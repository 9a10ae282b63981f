use Rattle.std.proofs.Common.{◌≡◌, ◌-◌, sym, ap, ◌∙◌, subst}
use Rattle.racks.specs.Views.{View, held_in}
use Rattle.row_laws.specs.Rows.{PlayableCount}
use Rattle.trees.specs.Trees.{tree_nodes}
use Rattle.trees.proofs.Planting.{count_windows}
use Rattle.trees.proofs.Trees.{is_tree}
use Rattle.trees.proofs.tree.Tree.put_rows.Goals as goal

pub returns-clause-count : goal.returns-clause-count
returns-clause-count g c =
    let tree = c.args.self.now in
    let nodes = g.R.Rack.view c.write_nodes.new.rack in
    let all = g.R.Rack.view c.put_windows.new.rack in
    let put = c.in_ok-put_windows.ensures in
    let count : c.saturating_sub.result ≡ held_in all - held_in nodes = c.saturating_sub.ensures ∙ (λ i. c.held-all.ensures.answer i - c.held-nodes.ensures.answer i) in
    subst (PlayableCount (tree_nodes tree) tree.alphabet.order) (sym count) (count_windows (is_tree tree) nodes all (put.memory.reach ∙ ap (λ (v : View). v.reach) c.held-nodes.ensures.unaltered) c.in_ok-write_nodes.ensures.rows put.rows)
