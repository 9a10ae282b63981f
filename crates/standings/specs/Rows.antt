-- Where a rack has the standing of a word at a node: the row of the word u at the node v has the key
-- v * B ^ k + code u.
use Rattle.std.specs.Prelude.{◌≡◌, ◌≤◌, ℕ, List, length}
use Rattle.terms.specs.Codes.{Word}
use Rattle.terms.specs.Words.{Moves}
use Rattle.windows.specs.declared.alphabet.Alphabet.{Alphabet}
use Rattle.racks.specs.Views.{View}
use Rattle.tree_laws.specs.declared.Node.{Node}
use Rattle.tree_laws.specs.Children.{first_child, second_child}
use Rattle.row_laws.specs.Rows.{row_key}
use Rattle.tree_laws.specs.Computed.{standing_of}

-- the numbers f as the rows of the node v
abbrev pub rows_of : ℕ → ℕ → (ℕ → ℕ) → ℕ → List ℕ → ℕ
rows_of n k f v u = f (row_key n k v u)

-- the rows of the node v in a rack
abbrev pub rows_in : Alphabet → View → ℕ → List ℕ → ℕ
rows_in alphabet rack = rows_of alphabet.moves alphabet.order rack.number

-- u has at most k moves and no mark
pub record ShortMoves (alphabet : Alphabet) (u : List ℕ) : Type 0 where
  pub moves : Moves alphabet.moves u
  pub short : length u ≤ alphabet.order

-- r is the number in the row of u, and 0 where u is no word
pub record RowRead (n k : ℕ) (f : ℕ → ℕ) (v : ℕ) (u : List ℕ) (r : ℕ) : Type 0 where
  pub number : Word n k u → r ≡ rows_of n k f v u
  pub no_word : (Word n k u → ⊥) → r ≡ 0

-- the standing of u at the node x by the rows of the children of x
abbrev pub standing_by : ℕ → ℕ → (ℕ → ℕ) → Node → List ℕ → ℕ
standing_by n k f x u = standing_of x (rows_of n k f (first_child x)) (rows_of n k f (second_child x)) u
