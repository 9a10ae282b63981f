-- The boundaries between the pieces of a loop: after which words of its moves a route of a child may begin.
use Rattle.std.specs.Prelude.{◌≡◌, ℕ, List, [], ◌++◌}
use Rattle.tree_laws.specs.declared.Node.{Node}
use Rattle.tree_laws.specs.Routes.{Route}
use Rattle.tree_laws.specs.Facts.{SomeEnds}

-- which child of the loop is next at a boundary
pub data Turn : Type 0 where
  next_a : Turn
  next_b : Turn

abbrev pub other : Turn → Turn
other next_a = next_b
other next_b = next_a

abbrev pub child : ℕ → ℕ → Turn → ℕ
child a b next_a = a
child a b next_b = b

-- at the start of the loop its first child is next
abbrev pub Fresh : Turn → List ℕ → Type 0
Fresh m x = (m ≡ next_a) × (x ≡ [])

-- in the middle of the loop, x is the end of a route of the one child, and then the other is next
abbrev pub Middle : List Node → ℕ → ℕ → Turn → List ℕ → Type 0
Middle t a b m x = SomeEnds t (child a b (other m)) x

-- a boundary after x with m next, reached from one of the starts by whole routes of the children in turn
pub data Reached (t : List Node) (a b : ℕ) (Starts : Turn → List ℕ → Type 0) : Turn → List ℕ → Type 0 where
  start : {m : Turn} {x : List ℕ} → Starts m x → Reached t a b Starts m x
  piece : {m : Turn} {x y : List ℕ} → Reached t a b Starts m x → Route t (child a b m) y → Reached t a b Starts (other m) (x ++ y)
