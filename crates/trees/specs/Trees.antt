-- What a tree stands for: its table of nodes.
use Rattle.std.specs.Prelude.{◌≡◌, ℕ, List, map, length}
use Rattle.fixed_vec.specs.Lists.{list_of}
use Rattle.tree_laws.specs.declared.Node.{Node}
use Rattle.trees.specs.Tables.{AllGood, NodeCountAllowed, node_of}
use Rattle.trees.specs.declared.raw.RawNode.{RawNode}
use Rattle.trees.specs.declared.tree.Tree.{Tree}
use Rattle.trees.specs.declared.tree.TreeNode.{TreeNode}
use Rattle.windows.specs.declared.alphabet.Alphabet.{Alphabet}

abbrev pub tree_nodes : Tree → List Node
tree_nodes t = list_of t.nodes

-- a statement about n moves, the order k and a table of nodes, for those of the tree
abbrev pub For {ℓ} : {X : Type ℓ} → Tree → (ℕ → ℕ → List Node → X) → X
For tree P = P tree.alphabet.moves tree.alphabet.order (tree_nodes tree)

-- a statement that is also about how many nodes come before one, for a node of the tree
abbrev pub At {ℓ} : {X : Type ℓ} → TreeNode → (ℕ → ℕ → List Node → ℕ → X) → X
At node P = For node.tree.now P node.before

-- the tree of the table, all of whose nodes are good
pub record TreeRead (alphabet : Alphabet) (table : List RawNode) (t : Tree) : Type 0 where
  pub alphabet_is : t.alphabet ≡ alphabet
  pub nodes_are : tree_nodes t ≡ map node_of table
  pub allowed : NodeCountAllowed table
  pub good : AllGood alphabet.moves table (length table)
