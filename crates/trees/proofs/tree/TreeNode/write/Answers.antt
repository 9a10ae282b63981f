use Rattle.trees.proofs.Planting.{next_empty}
use Rattle.trees.proofs.Trees.{is_tree}
use Rattle.trees.proofs.tree.TreeNode.write.Goals as goal

pub write_row-requires : goal.write_row-requires
write_row-requires g c =
    let node = c.args.self.now in
    next_empty (is_tree node.tree.now) node.before _ c.requires
