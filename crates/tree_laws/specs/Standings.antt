-- What the standing of a word is good for, and that the number worked out from the children is it.
use Rattle.std.specs.Prelude.{◌≡◌, ℕ, ◌<◌, ◌≤◌, ◌↔◌, List, length, Decides, bit_and}
use Rattle.terms.specs.Words.{Moves}
use Rattle.tree_laws.specs.declared.Node.{Node}
use Rattle.tree_laws.specs.declared.Node.TheVariants.{Skip, Move as Single, Choice, Sequence, Loop, Parallel}
use Rattle.tree_laws.specs.Routes.{Route, IsNode, WellFormed}
use Rattle.tree_laws.specs.Facts.{SomeContains, SomeBegins, SomeEnds, Standing}
use Rattle.tree_laws.specs.Computed.{has, standing_of}

-- P holds of the first child, and Q of the second
abbrev pub Children : Node → (ℕ → Type 0) → (ℕ → Type 0) → Type 0
Children Skip P Q = Unit {0}
Children (Single m) P Q = Unit {0}
Children (Choice a b) P Q = P a × Q b
Children (Sequence a b) P Q = P a × Q b
Children (Loop a b) P Q = P a × Q b
Children (Parallel a b) P Q = P a × Q b

-- s gives the standing at node v of each word of at most k of the moves 1 to n
abbrev pub Known : ℕ → ℕ → List Node → (List ℕ → ℕ) → ℕ → Type 0
Known n k t s v = (w : List ℕ) → Moves n w → length w ≤ k → Standing t v w (s w)

-- the number worked out from the standings at the children is the standing
abbrev pub ComputedLaws : Type 0
ComputedLaws = (n k : ℕ) (t : List Node) → WellFormed n t → (v : ℕ) (x : Node) → IsNode t v x → (sa sb : List ℕ → ℕ) → Children x (Known n k t sa) (Known n k t sb) → Known n k t (standing_of x sa sb) v

-- the bits of a standing tell the facts
pub record BitsAt (t : List Node) (v : ℕ) (u : List ℕ) (s : ℕ) : Type 0 where
  pub small : s < 16
  pub none : (s ≡ 0) ↔ (SomeContains t v u → ⊥)
  pub contained : Decides (has s 1) (SomeContains t v u)
  pub begins : Decides (has s 2) (SomeBegins t v u)
  pub ends : Decides (has s 4) (SomeEnds t v u)
  pub whole : Decides (has s 8) (Route t v u)
  pub not_contained : (bit_and s 1 ≡ 0) ↔ (SomeContains t v u → ⊥)
  pub not_begins : (bit_and s 2 ≡ 0) ↔ (SomeBegins t v u → ⊥)
  pub not_ends : (bit_and s 4 ≡ 0) ↔ (SomeEnds t v u → ⊥)
  pub not_whole : (bit_and s 8 ≡ 0) ↔ (Route t v u → ⊥)

-- each word has one standing at each node
pub record StandingLaws : Type 0 where
  pub exists : (n : ℕ) (t : List Node) → WellFormed n t → (v : ℕ) → 1 ≤ v → v ≤ length t → (u : List ℕ) → (s : ℕ) × Standing t v u s
  pub unique : (t : List Node) (v : ℕ) (u : List ℕ) (s r : ℕ) → Standing t v u s → Standing t v u r → s ≡ r
  pub bits : (t : List Node) (v : ℕ) (u : List ℕ) (s : ℕ) → Standing t v u s → BitsAt t v u s
