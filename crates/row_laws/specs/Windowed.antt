-- What a rack holds while the rows of the playable windows are put in, in the order of the codes of their moves.
use Rattle.std.specs.Prelude.{◌≡◌, ℕ, zero, suc, ◌+◌, ◌*◌, ◌<◌, ◌≤◌, ◌⊎◌, List, [], ◌∷◌, ◌++◌, length}
use Rattle.terms.specs.Codes.{code}
use Rattle.terms.specs.Words.{Moves, start_mark, end_mark, marked}
use Rattle.tree_laws.specs.Facts.{Playable}
use Rattle.tree_laws.specs.declared.Node.{Node}
use Rattle.row_laws.specs.Progress.{NodeKey, Standings}

-- the moves u with no mark, the start mark, the end mark, or both
abbrev pub with_marks : ℕ → List ℕ → List ℕ
with_marks zero u = u
with_marks (suc zero) u = start_mark ∷ u
with_marks (suc (suc zero)) u = u ++ (end_mark ∷ [])
with_marks (suc (suc (suc i))) u = marked u

-- so marked, that many moves make a window
abbrev pub Fits : ℕ → ℕ → ℕ → Type 0
Fits k zero len = len ≡ k
Fits k (suc zero) len = len + 1 ≡ k
Fits k (suc (suc zero)) len = len + 1 ≡ k
Fits k (suc (suc (suc i))) len = len + 2 ≤ k

-- the order in which windows are put in: by the code of their moves, then by their marks
abbrev pub turn : ℕ → ℕ → List ℕ → ℕ
turn n i u = 4 * code n u + i

-- the code of a window
pub record WindowKey (n k key : ℕ) : Type 0 where
  pub marks : ℕ
  pub word : List ℕ
  pub four : marks < 4
  pub moves : Moves n word
  pub fits : Fits k marks (length word)
  pub key_is : key ≡ code n (with_marks marks word)

-- f has the standings at all nodes, the rows of the playable windows whose turn is below d, and nothing else
pub record Windowed (n k : ℕ) (t : List Node) (d : ℕ) (f : ℕ → ℕ) : Type 0 where
  pub standings : Standings n k t (length t) f
  pub played : (i : ℕ) (u : List ℕ) → i < 4 → Moves n u → Fits k i (length u) → turn n i u < d → Playable t k (with_marks i u) → f (code n (with_marks i u)) ≡ 1
  pub unplayed : (i : ℕ) (u : List ℕ) → i < 4 → Moves n u → Fits k i (length u) → turn n i u < d → (Playable t k (with_marks i u) → ⊥) → f (code n (with_marks i u)) ≡ 0
  pub pending : (i : ℕ) (u : List ℕ) → i < 4 → Moves n u → Fits k i (length u) → d ≤ turn n i u → f (code n (with_marks i u)) ≡ 0
  pub only : (key : ℕ) → 0 < f key → NodeKey n k (length t) key ⊎ WindowKey n k key
