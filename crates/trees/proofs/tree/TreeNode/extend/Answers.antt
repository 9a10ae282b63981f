use Rattle.std.proofs.Common.{◌+◌, ◌*◌, ◌^◌, ◌<◌, sym, refl, ◌∙◌, subst, arith, rules}
use Rattle.terms.specs.Codes.{base, code}
use Rattle.windows.specs.Values.{word_items}
use Rattle.trees.specs.Planting.{NextWord, Underway}
use Rattle.trees.specs.Trees.{At}
use Rattle.trees.proofs.Planting.{shorter_parent, next_behind, done_behind, all_behind}
use Rattle.trees.proofs.Trees.{is_tree}
use Rattle.trees.proofs.tree.TreeNode.extend.Goals as goal
use Rattle.trees.proofs.tree.TreeNode.extend.Goals.{In_ok-write_if_tail_has_row}
use Rattle.trees.proofs.tree.TreeNode.extend.Given as given

pub loop-x-init : goal.loop-x-init
loop-x-init g c =
    let a = c.args.self.now.tree.now.alphabet in
    let w = c.word-word.ensures in
    let low : code a.moves (word_items c.word-word.result) * base a.moves < base a.moves ^ a.order = rw w.code c.requires.shorter in
    (shorter_parent (is_tree c.args.self.now.tree.now) (word_items c.word-word.result) w.moves low, c.requires.rows, record { reach = refl; room = refl; lent = refl })

pub write_if_tail_has_row-requires-clause-next : goal.write_if_tail_has_row-requires-clause-next
write_if_tail_has_row-requires-clause-next g c =
    let node = c.args.self.now in
    let w = c.word-word.ensures in
    let inv = c.loop-x.invariant in
    let view = g.R.Rack.view c.loop-x.rack in
    subst (λ u. At node NextWord u view) (sym (c.items.ensures ∙ rw c.unwrap-longer.ensures at c.pushed.ensures))
    (next_behind (is_tree node.tree.now) node.before c.args.parent _ w.moves inv.0 w.code c.loop-x.x (omega arith) view inv.1)

-- the word that was tried
tried : (g : given.Over) (c : In_ok-write_if_tail_has_row g)
    → At c.args.self.now Underway (c.args.parent * base c.args.self.now.tree.now.alphabet.moves + (c.loop-x.x + 1)) (g.R.Rack.view c.write_if_tail_has_row.new.rack)
tried g c =
    let node = c.args.self.now in
    let w = c.word-word.ensures in
    let view = g.R.Rack.view c.write_if_tail_has_row.new.rack in
    done_behind (is_tree node.tree.now) node.before c.args.parent _ w.moves c.loop-x.invariant.0 w.code c.loop-x.x (omega arith) view
    (subst (λ u. At node Underway (code node.tree.now.alphabet.moves u + 1) view) (c.items.ensures ∙ rw c.unwrap-longer.ensures at c.pushed.ensures) c.in_ok-write_if_tail_has_row.ensures.rows)

pub loop-x-preserved : goal.loop-x-preserved
loop-x-preserved g c = (c.loop-x.invariant.0, tried g (goal.at.loop-x-preserved g c).In_ok-write_if_tail_has_row, search rules)

pub returns-in_ok-write_if_tail_has_row-clause-rows : goal.returns-in_ok-write_if_tail_has_row-clause-rows
returns-in_ok-write_if_tail_has_row-clause-rows g c =
    let node = c.args.self.now in
    all_behind (is_tree node.tree.now) node.before node.inside c.args.parent (c.loop-x.x + 1) _ (omega arith)
    (tried g (goal.at.returns-in_ok-write_if_tail_has_row-clause-rows g c).In_ok-write_if_tail_has_row)
