-- Which node a triple of numbers stands for, and which of its fields is wrong.
use Rattle.std.specs.Prelude.{◌≡◌, ℕ, ◌+◌, ◌-◌, ◌<◌, ◌≤◌, if◌then◌else◌, ◌⊎◌, List, [], ◌∷◌, length, ◌==◌, slice_index_or}
use Rattle.terms.specs.Refusals.{Says}
use Rattle.terms.specs.Words.{Move}
use Rattle.terms.specs.declared.Refusal.{Refusal}
use Rattle.tree_laws.specs.Routes.{Lower}
use Rattle.tree_laws.specs.declared.Node.{Node}
use Rattle.tree_laws.specs.declared.Node.TheVariants.{Skip, Move as Single, Choice, Sequence, Loop, Parallel}
use Rattle.trees.specs.declared.raw.RawNode.{RawNode}

-- a is 0 for a skip, a move for a move, and the number of an earlier node otherwise
pub record GoodFirst (n v kind a : ℕ) : Type 0 where
  pub skip : kind ≡ 0 → a ≡ 0
  pub single : kind ≡ 1 → Move n a
  pub child : 2 ≤ kind → Lower v a

-- b is 0 for a skip or a move, and the number of an earlier node otherwise
pub record GoodSecond (v kind b : ℕ) : Type 0 where
  pub leaf : kind ≤ 1 → b ≡ 0
  pub child : 2 ≤ kind → Lower v b

-- every field of node v is as its kind asks
pub record Good (n v : ℕ) (x : RawNode) : Type 0 where
  pub kind : x.kind ≤ 5
  pub first : GoodFirst n v x.kind x.a
  pub second : GoodSecond v x.kind x.b

-- f is the lowest wrong field of node v
abbrev pub WrongField : ℕ → ℕ → RawNode → ℕ → Type 0
WrongField n v x f =
    ((f ≡ 2) × (5 < x.kind))
    ⊎ (((f ≡ 3) × (x.kind ≤ 5) × (GoodFirst n v x.kind x.a → ⊥))
    ⊎ ((f ≡ 4) × (x.kind ≤ 5) × GoodFirst n v x.kind x.a × (GoodSecond v x.kind x.b → ⊥)))

-- f is the lower of the two fields that names no node before node v
abbrev pub WrongChild : ℕ → RawNode → ℕ → Type 0
WrongChild v x f = ((f ≡ 3) × (Lower v x.a → ⊥)) ⊎ ((f ≡ 4) × Lower v x.a × (Lower v x.b → ⊥))

-- the node that a good triple stands for
abbrev pub node_of : RawNode → Node
node_of x =
    if x.kind == 0 then Skip
    else (if x.kind == 1 then Single x.a
    else (if x.kind == 2 then Choice x.a x.b
    else (if x.kind == 3 then Sequence x.a x.b
    else (if x.kind == 4 then Loop x.a x.b else Parallel x.a x.b))))

-- the triple that stands for a node
abbrev pub raw_of : Node → RawNode
raw_of Skip = record { kind = 0; a = 0; b = 0 }
raw_of (Single x) = record { kind = 1; a = x; b = 0 }
raw_of (Choice a b) = record { kind = 2; a = a; b = b }
raw_of (Sequence a b) = record { kind = 3; a = a; b = b }
raw_of (Loop a b) = record { kind = 4; a = a; b = b }
raw_of (Parallel a b) = record { kind = 5; a = a; b = b }

-- the first m nodes of the table are good
abbrev pub AllGood : ℕ → List RawNode → ℕ → Type 0
AllGood n table m = (i : ℕ) (d : RawNode) → i < m → Good n (i + 1) (slice_index_or table i d)

-- a tree has 1 to 32 nodes
abbrev pub NodeCountAllowed : List RawNode → Type 0
NodeCountAllowed table = (1 ≤ length table) × (length table ≤ 32)

-- node v is the first wrong one, and f its lowest wrong field
pub record FirstWrongNode (n : ℕ) (table : List RawNode) (v f : ℕ) : Type 0 where
  pub from_one : 1 ≤ v
  pub inside : v ≤ length table
  pub wrong : (d : RawNode) → WrongField n v (slice_index_or table (v - 1) d) f
  pub good_before : AllGood n table (v - 1)

-- 11 where there is no node or there are more than 32, otherwise 12 with the first wrong node and its lowest wrong
-- field
abbrev pub TableRefused : ℕ → List RawNode → Refusal → Type 0
TableRefused n table e =
    (Says e 11 [] × (NodeCountAllowed table → ⊥))
    ⊎ (NodeCountAllowed table × ((v : ℕ) × (f : ℕ) × Says e 12 (v ∷ f ∷ []) × FirstWrongNode n table v f))
