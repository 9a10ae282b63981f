-- What a rack holds while a tree's rows are put in, and what each step starts from.
use Rattle.std.specs.Prelude.{◌≡◌, ℕ, ◌≤◌, List, length, Result, MatchResult}
use Rattle.terms.specs.Codes.{code}
use Rattle.terms.specs.Words.{Moves}
use Rattle.terms.specs.declared.Refusal.{Refusal}
use Rattle.tree_laws.specs.Facts.{Standing}
use Rattle.tree_laws.specs.declared.Node.{Node}
use Rattle.racks.specs.Views.{View}
use Rattle.row_laws.specs.Progress.{Upto, InProgress}
use Rattle.row_laws.specs.Rows.{MoreRows, RowsAt, key_limit}
use Rattle.row_laws.specs.Windowed.{Windowed, turn}
use Rattle.trees.specs.Trees.{For}
use Rattle.trees.specs.declared.tree.Tree.{Tree}

-- only numbers are other ones: reach, room and lent memory are the same
pub record SameMemory (before after : View) : Type 0 where
  pub reach : after.reach ≡ before.reach
  pub room : after.room ≡ before.room
  pub lent : after.lent ≡ before.lent

-- what a step ends with where it is done; where it is refused, the tree has more rows than the room
abbrev pub EndsWith : {X : Type 0} → Tree → (View → Type 0) → View → Result X Refusal → Type 0
EndsWith tree After v r = MatchResult r (λ _. After v) (λ _. For tree MoreRows v.room)

-- c is the code of a word of at most k moves
pub record CodeOfMoves (n k c : ℕ) : Type 0 where
  pub word : List ℕ
  pub moves : Moves n word
  pub short : length word ≤ k
  pub code_is : code n word ≡ c

-- the rack has the rows of the first m nodes, and its reach suffices for all
pub record Finished (n k : ℕ) (t : List Node) (m : ℕ) (v : View) : Type 0 where
  pub rows : Upto n k t m v.number
  pub reaches : key_limit n k t ≤ v.reach

-- it has also those of the next node whose words have codes below d
pub record Underway (n k : ℕ) (t : List Node) (m d : ℕ) (v : View) : Type 0 where
  pub rows : InProgress n k t m d v.number
  pub reaches : key_limit n k t ≤ v.reach

-- the word u of at most k moves comes next
pub record NextWord (n k : ℕ) (t : List Node) (m : ℕ) (u : List ℕ) (v : View) : Type 0 where
  pub moves : Moves n u
  pub short : length u ≤ k
  pub underway : Underway n k t m (code n u) v

-- it has the standings at all nodes, and the windows whose turn is below d
pub record Windows (n k : ℕ) (t : List Node) (d : ℕ) (v : View) : Type 0 where
  pub rows : Windowed n k t d v.number
  pub reaches : key_limit n k t ≤ v.reach

-- it is the turn of the window of the word u, with the standing s at the root, and of the marks i
pub record NextWindow (n k : ℕ) (t : List Node) (u : List ℕ) (s i : ℕ) (v : View) : Type 0 where
  pub moves : Moves n u
  pub standing : Standing t (length t) u s
  pub windows : Windows n k t (turn n i u) v

-- the rack has all rows of the tree, and its reach suffices for them
pub record Complete (n k : ℕ) (t : List Node) (v : View) : Type 0 where
  pub rows : RowsAt n k t v.number
  pub reaches : key_limit n k t ≤ v.reach
