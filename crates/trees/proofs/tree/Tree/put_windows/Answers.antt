use Rattle.std.proofs.Common.{◌+◌, ◌-◌, ◌*◌, sym, refl, ap, subst, arith}
use Rattle.trees.specs.Planting.{Complete, Windows}
use Rattle.trees.specs.Trees.{tree_nodes}
use Rattle.trees.proofs.Trees.{is_tree}
use Rattle.trees.proofs.WindowRows.{windows_none, root_ends, root_finds}
use Rattle.trees.proofs.tree.Tree.put_windows.Goals as goal

pub loop-key-init : goal.loop-key-init
loop-key-init g c =
    let tree = c.args.self.now in
    let before = g.R.Rack.view c.args.rack.now in (
      omega arith,
      windows_none (is_tree tree) before c.requires,
      record { reach = refl; room = refl; lent = refl },
    )

pub windows_around-requires : goal.windows_around-requires
windows_around-requires g c =
    let tree = c.args.self.now in
    let a = tree.alphabet in
    let found = root_finds (is_tree tree) c.root_start-start.result _ c.loop-key.from c.root_start-start.ensures.value
    (ap (λ p. c.root_start-start.result + p) c.code_limit.ensures.value) (g.R.Rack.view c.loop-key.rack) c.loop-key.invariant.1 c.in-Some.key c.in-Some.ensures.answer in
    record { word = found.0; rows = subst (Windows a.moves a.order (tree_nodes tree) (4 * (c.in-Some.key - c.root_start-start.result))) (sym c.in-Some.ensures.unaltered) found.1 }

pub returns-clause-rows : goal.returns-clause-rows
returns-clause-rows g c =
    let tree = c.args.self.now in
    let a = tree.alphabet in
    subst (Complete a.moves a.order (tree_nodes tree)) (sym c.in_default.ensures.unaltered)
    (root_ends (is_tree tree) c.root_start-start.result _ c.loop-key.from c.root_start-start.ensures.value
    (ap (λ p. c.root_start-start.result + p) c.code_limit.ensures.value) (g.R.Rack.view c.loop-key.rack) c.loop-key.invariant.1 c.loop-key.invariant.0 c.in_default.ensures.answer)
