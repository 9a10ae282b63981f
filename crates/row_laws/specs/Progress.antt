-- What a rack holds while the rows of one node after another are put in, in the order of their words' codes.
use Rattle.std.specs.Prelude.{◌≡◌, ℕ, ◌+◌, ◌<◌, ◌≤◌, List, length}
use Rattle.terms.specs.Codes.{code}
use Rattle.terms.specs.Words.{Moves}
use Rattle.tree_laws.specs.Facts.{Standing}
use Rattle.tree_laws.specs.declared.Node.{Node}
use Rattle.row_laws.specs.Rows.{row_key}

-- the key of a word of at most k moves at one of the first m nodes
pub record NodeKey (n k m key : ℕ) : Type 0 where
  pub node : ℕ
  pub word : List ℕ
  pub from_one : 1 ≤ node
  pub inside : node ≤ m
  pub moves : Moves n word
  pub short : length word ≤ k
  pub key_is : key ≡ row_key n k node word

-- f gives the standings at the first m nodes
abbrev pub Standings : ℕ → ℕ → List Node → ℕ → (ℕ → ℕ) → Type 0
Standings n k t m f = (v : ℕ) (u : List ℕ) → 1 ≤ v → v ≤ m → Moves n u → length u ≤ k → Standing t v u (f (row_key n k v u))

-- f has the rows of the first m nodes, and nothing else
pub record Upto (n k : ℕ) (t : List Node) (m : ℕ) (f : ℕ → ℕ) : Type 0 where
  pub standings : Standings n k t m f
  pub only : (key : ℕ) → 0 < f key → NodeKey n k m key

-- f has the rows of the first m nodes, those of the next node whose words have codes below d, and nothing else
pub record InProgress (n k : ℕ) (t : List Node) (m d : ℕ) (f : ℕ → ℕ) : Type 0 where
  pub standings : Standings n k t m f
  pub done : (u : List ℕ) → Moves n u → length u ≤ k → code n u < d → Standing t (m + 1) u (f (row_key n k (m + 1) u))
  pub pending : (u : List ℕ) → Moves n u → length u ≤ k → d ≤ code n u → f (row_key n k (m + 1) u) ≡ 0
  pub only : (key : ℕ) → 0 < f key → NodeKey n k (m + 1) key
