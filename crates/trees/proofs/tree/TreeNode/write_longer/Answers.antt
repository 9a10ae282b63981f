use Rattle.std.proofs.Common.{◌+◌, ◌-◌, ◌*◌, ◌/◌, sym, subst}
use Rattle.terms.specs.Codes.{base}
use Rattle.trees.specs.Planting.{Finished, Underway}
use Rattle.trees.specs.Trees.{At, For}
use Rattle.trees.proofs.Planting.{walk_ends, walk_finds}
use Rattle.trees.proofs.Trees.{is_tree}
use Rattle.trees.proofs.tree.TreeNode.write_longer.Goals as goal

pub extend-requires : goal.extend-requires
extend-requires g c =
    let node = c.args.self.now in
    let rack = g.R.Rack.view c.loop-key.rack in
    let inv = c.loop-key.invariant in
    let (word, shorter, rows) = walk_finds (is_tree node.tree.now) node.before node.inside c.start-start.result _ c.loop-key.from c.start-start.ensures.value
    (λ i. c.start-start.result + c.code_limit.ensures.value i / c.base.ensures i) rack inv.1 c.in-Some.key c.in-Some.ensures.answer in
    record { word = word; shorter = shorter; rows = subst (At node Underway ((c.in-Some.key - c.start-start.result) * base node.tree.now.alphabet.moves + 1)) (sym c.in-Some.ensures.unaltered) rows }

pub returns-clause-rows : goal.returns-clause-rows
returns-clause-rows g c =
    let node = c.args.self.now in
    let inv = c.loop-key.invariant in
    subst (For node.tree.now Finished (node.before + 1)) (sym c.in_default.ensures.unaltered)
    (walk_ends (is_tree node.tree.now) node.before node.inside c.start-start.result _ c.loop-key.from c.start-start.ensures.value
    (λ i. c.start-start.result + c.code_limit.ensures.value i / c.base.ensures i) (g.R.Rack.view c.loop-key.rack) inv.1 inv.0 c.in_default.ensures.answer)
