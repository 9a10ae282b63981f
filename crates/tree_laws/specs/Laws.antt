-- The laws of routes: each of the four facts of a word at a node, by the facts of words at its children.
use Rattle.std.specs.Prelude.{◌≡◌, ℕ, ◌+◌, ◌^◌, ◌<◌, ◌≤◌, ◌⊎◌, ◌↔◌, List, [], ◌∷◌, ◌++◌, length, drop}
use Rattle.terms.specs.Words.{Moves, start_mark, end_mark, marked}
use Rattle.tree_laws.specs.declared.Node.{Node}
use Rattle.tree_laws.specs.declared.Node.TheVariants.{Choice, Sequence, Loop, Parallel}
use Rattle.tree_laws.specs.Routes.{Route, IsNode, WellFormed}
use Rattle.tree_laws.specs.Facts.{SomeContains, SomeBegins, SomeEnds, Playable}
use Rattle.tree_laws.specs.Boundaries.{Turn, next_b, child, Fresh, Middle, Reached}
use Rattle.tree_laws.specs.Selections.{picked, left_out}

-- some cut of u has P before it and Q after it
abbrev pub Cut : List ℕ → (List ℕ → Type 0) → (List ℕ → Type 0) → Type 0
Cut u P Q = (x : List ℕ) × (y : List ℕ) × (u ≡ x ++ y) × P x × Q y

-- some selection of the items of u has P, and what it leaves out has Q
abbrev pub Selection : List ℕ → (List ℕ → Type 0) → (List ℕ → Type 0) → Type 0
Selection u P Q = (mask : ℕ) × (mask < 2 ^ length u) × P (picked mask u) × Q (left_out mask u)

-- after some boundary of u, the rest of u begins a route of the child that is next
abbrev pub Underway : List Node → ℕ → ℕ → (Turn → List ℕ → Type 0) → List ℕ → Type 0
Underway t a b Starts u = (m : Turn) × Cut u (Reached t a b Starts m) (SomeBegins t (child a b m))

pub record ChoiceAt (t : List Node) (v a b : ℕ) (u : List ℕ) : Type 0 where
  pub contained : SomeContains t v u ↔ (SomeContains t a u ⊎ SomeContains t b u)
  pub begins : SomeBegins t v u ↔ (SomeBegins t a u ⊎ SomeBegins t b u)
  pub ends : SomeEnds t v u ↔ (SomeEnds t a u ⊎ SomeEnds t b u)
  pub whole : Route t v u ↔ (Route t a u ⊎ Route t b u)

pub record SequenceAt (t : List Node) (v a b : ℕ) (u : List ℕ) : Type 0 where
  pub contained : SomeContains t v u ↔ (SomeContains t a u ⊎ (SomeContains t b u ⊎ Cut u (SomeEnds t a) (SomeBegins t b)))
  pub begins : SomeBegins t v u ↔ (SomeBegins t a u ⊎ Cut u (Route t a) (SomeBegins t b))
  pub ends : SomeEnds t v u ↔ (SomeEnds t b u ⊎ Cut u (SomeEnds t a) (Route t b))
  pub whole : Route t v u ↔ Cut u (Route t a) (Route t b)

pub record LoopAt (t : List Node) (v a b : ℕ) (u : List ℕ) : Type 0 where
  pub contained : SomeContains t v u ↔ (SomeContains t a u ⊎ (SomeContains t b u ⊎ Underway t a b (Middle t a b) u))
  pub begins : SomeBegins t v u ↔ Underway t a b Fresh u
  pub ends : SomeEnds t v u ↔ Reached t a b (Middle t a b) next_b u
  pub whole : Route t v u ↔ Reached t a b Fresh next_b u

pub record ParallelAt (t : List Node) (v a b : ℕ) (u : List ℕ) : Type 0 where
  pub contained : SomeContains t v u ↔ Selection u (SomeContains t a) (SomeContains t b)
  pub begins : SomeBegins t v u ↔ Selection u (SomeBegins t a) (SomeBegins t b)
  pub ends : SomeEnds t v u ↔ Selection u (SomeEnds t a) (SomeEnds t b)
  pub whole : Route t v u ↔ Selection u (Route t a) (Route t b)

-- a law of each node of one kind in each well-formed table, at each word
abbrev pub Always : (ℕ → ℕ → Node) → (List Node → ℕ → ℕ → ℕ → List ℕ → Type 0) → Type 0
Always kind Law = (n : ℕ) (t : List Node) → WellFormed n t → (v a b : ℕ) → IsNode t v (kind a b) → (u : List ℕ) → Law t v a b u

abbrev pub ChoiceLaws : Type 0
ChoiceLaws = Always Choice ChoiceAt

abbrev pub SequenceLaws : Type 0
SequenceLaws = Always Sequence SequenceAt

abbrev pub LoopLaws : Type 0
LoopLaws = Always Loop LoopAt

abbrev pub ParallelLaws : Type 0
ParallelLaws = Always Parallel ParallelAt

-- ---- every node

pub record NodeAt (n : ℕ) (t : List Node) (v : ℕ) : Type 0 where
  pub some : (w : List ℕ) × Route t v w
  pub moves : (u : List ℕ) → SomeContains t v u → Moves n u
  pub from_begins : (u : List ℕ) → SomeBegins t v u → SomeContains t v u
  pub from_ends : (u : List ℕ) → SomeEnds t v u → SomeContains t v u
  pub from_whole : (u : List ℕ) → Route t v u → SomeContains t v u
  pub empty_contained : SomeContains t v []
  pub empty_begins : SomeBegins t v []
  pub empty_ends : SomeEnds t v []
  pub without_last : (u : List ℕ) (m : ℕ) → SomeContains t v (u ++ (m ∷ [])) → SomeContains t v u
  pub without_first : (u : List ℕ) → SomeContains t v u → SomeContains t v (drop 1 u)

abbrev pub NodeLaws : Type 0
NodeLaws = (n : ℕ) (t : List Node) → WellFormed n t → (v : ℕ) → 1 ≤ v → v ≤ length t → NodeAt n t v

-- ---- windows

-- z is u within both marks, after the start mark, before the end mark, or alone
abbrev pub Shape : ℕ → List ℕ → List ℕ → Type 0
Shape k z u =
    ((length u + 2 ≤ k) × (z ≡ marked u))
    ⊎ (((length u + 1 ≡ k) × (z ≡ start_mark ∷ u)) ⊎ (((length u + 1 ≡ k) × (z ≡ u ++ (end_mark ∷ []))) ⊎ ((length u ≡ k) × (z ≡ u))))

pub record WindowsAt (n k : ℕ) (t : List Node) : Type 0 where
  pub both_marks : (u : List ℕ) → Moves n u → length u + 2 ≤ k → Playable t k (marked u) ↔ Route t (length t) u
  pub after_start : (u : List ℕ) → Moves n u → length u + 1 ≡ k → Playable t k (start_mark ∷ u) ↔ SomeBegins t (length t) u
  pub before_end : (u : List ℕ) → Moves n u → length u + 1 ≡ k → Playable t k (u ++ (end_mark ∷ [])) ↔ SomeEnds t (length t) u
  pub no_mark : (u : List ℕ) → Moves n u → length u ≡ k → Playable t k u ↔ SomeContains t (length t) u
  pub shapes : (z : List ℕ) → Playable t k z → (u : List ℕ) × Moves n u × Shape k z u

-- no move is a mark, and a window has room for both marks
abbrev pub WindowLaws : Type 0
WindowLaws = (n k : ℕ) (t : List Node) → n < start_mark → 2 ≤ k → WellFormed n t → WindowsAt n k t
