-- The routes of a process tree: which words of moves each node of a table has.
use Rattle.std.specs.Prelude.{◌≡◌, ℕ, ◌-◌, ◌<◌, ◌≤◌, List, [], ◌∷◌, ◌++◌, length, slice_index_or}
use Rattle.terms.specs.Words.{Move}
use Rattle.tree_laws.specs.declared.Node.{Node}
use Rattle.tree_laws.specs.declared.Node.TheVariants.{Skip, Move as Single, Choice, Sequence, Loop, Parallel}

-- w has the items of u and of v, each in its order
pub data Interleaving : List ℕ → List ℕ → List ℕ → Type 0 where
  none : Interleaving [] [] []
  from_left : {x : ℕ} {u v w : List ℕ} → Interleaving u v w → Interleaving (x ∷ u) v (x ∷ w)
  from_right : {x : ℕ} {u v w : List ℕ} → Interleaving u v w → Interleaving u (x ∷ v) (x ∷ w)

-- node v of the table t, counted from 1, is x
pub record IsNode (t : List Node) (v : ℕ) (x : Node) : Type 0 where
  pub from_one : 1 ≤ v
  pub inside : v ≤ length t
  pub kind : slice_index_or t (v - 1) Skip ≡ x

-- w is a route of node v of the table t
pub data Route (t : List Node) : ℕ → List ℕ → Type 0 where
  skip : {v : ℕ} → IsNode t v Skip → Route t v []
  single : {v m : ℕ} → IsNode t v (Single m) → Route t v (m ∷ [])
  left : {v a b : ℕ} {w : List ℕ} → IsNode t v (Choice a b) → Route t a w → Route t v w
  right : {v a b : ℕ} {w : List ℕ} → IsNode t v (Choice a b) → Route t b w → Route t v w
  sequence : {v a b : ℕ} {x y : List ℕ} → IsNode t v (Sequence a b) → Route t a x → Route t b y → Route t v (x ++ y)
  once : {v a b : ℕ} {w : List ℕ} → IsNode t v (Loop a b) → Route t a w → Route t v w
  again : {v a b : ℕ} {x y z : List ℕ} → IsNode t v (Loop a b) → Route t a x → Route t b y → Route t v z → Route t v (x ++ (y ++ z))
  parallel : {v a b : ℕ} {x y w : List ℕ} → IsNode t v (Parallel a b) → Route t a x → Route t b y → Interleaving x y w → Route t v w

-- a child of node v has a lower number
abbrev pub Lower : ℕ → ℕ → Type 0
Lower v a = (1 ≤ a) × (a < v)

-- what node v may be in a table over the moves 1 to n
abbrev pub Proper : ℕ → ℕ → Node → Type 0
Proper n v Skip = Unit {0}
Proper n v (Single m) = Move n m
Proper n v (Choice a b) = Lower v a × Lower v b
Proper n v (Sequence a b) = Lower v a × Lower v b
Proper n v (Loop a b) = Lower v a × Lower v b
Proper n v (Parallel a b) = Lower v a × Lower v b

-- each node of the table is proper
abbrev pub WellFormed : ℕ → List Node → Type 0
WellFormed n t = (v : ℕ) → 1 ≤ v → v ≤ length t → Proper n v (slice_index_or t (v - 1) Skip)
