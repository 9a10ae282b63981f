-- What the type of a tree tells of its alphabet and its table.
use Rattle.std.proofs.Common.{◌≡◌, ℕ, ◌+◌, ◌-◌, ◌<◌, ◌≤◌, List, length, get_or, ap, ◌∙◌, arith}
use Rattle.std.proofs.lemmas.List.{get_or_default}
use Rattle.tree_laws.proofs.Checked.{well_formed}
use Rattle.tree_laws.specs.Routes.{IsNode, WellFormed}
use Rattle.tree_laws.specs.declared.Node.{Node}
use Rattle.tree_laws.specs.declared.Node.TheVariants.{Skip}
use Rattle.trees.specs.Trees.{tree_nodes}
use Rattle.trees.specs.declared.tree.Tree.{Tree}

-- what the lemmas on rows ask of an alphabet and a table
pub record IsTree (n k : ℕ) (t : List Node) : Type 0 where
  pub few : n ≤ 12
  pub wide : 2 ≤ k
  pub high : k ≤ 5
  pub some : 1 ≤ length t
  pub formed : WellFormed n t

pub is_tree : (t : Tree) → IsTree t.alphabet.moves t.alphabet.order (tree_nodes t)
is_tree t = record { few = t.alphabet.few; wide = t.alphabet.low; high = t.alphabet.high; some = t.some; formed = well_formed t.alphabet.moves (tree_nodes t) t.proper }

pub node_at : (t : List Node) (m : ℕ) (d : Node) → m < length t → IsNode t (m + 1) (get_or t m d)
node_at t m d inside =
    let back : m + 1 - 1 ≡ m = omega arith in
    record {
      from_one = omega arith;
      inside = omega arith;
      kind = ap (λ i. get_or t i Skip) back ∙ get_or_default t m Skip d inside;
    }
