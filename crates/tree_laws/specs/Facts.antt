-- What a word is at a node: contained in some route, the beginning of one, the end of one, or a route.
use Rattle.std.specs.Prelude.{◌≡◌, ℕ, ◌+◌, Bool, if◌then◌else◌, List, length, Decides}
use Rattle.terms.specs.Words.{HasRun, Begins, Ends, WindowOf, marked}
use Rattle.tree_laws.specs.declared.Node.{Node}
use Rattle.tree_laws.specs.Routes.{Route}

-- some route of node v has u as consecutive moves
abbrev pub SomeContains : List Node → ℕ → List ℕ → Type 0
SomeContains t v u = (w : List ℕ) × Route t v w × HasRun w u

abbrev pub SomeBegins : List Node → ℕ → List ℕ → Type 0
SomeBegins t v u = (w : List ℕ) × Route t v w × Begins w u

abbrev pub SomeEnds : List Node → ℕ → List ℕ → Type 0
SomeEnds t v u = (w : List ℕ) × Route t v w × Ends w u

-- u is a window of order k of some route of the root, the last node
abbrev pub Playable : List Node → ℕ → List ℕ → Type 0
Playable t k u = (w : List ℕ) × Route t (length t) w × WindowOf k (marked w) u

-- s is 1 if some route of v contains u, and 2 if some begins with u, and 4 if some ends with u, and 8 if u is a route
pub record Standing (t : List Node) (v : ℕ) (u : List ℕ) (s : ℕ) : Type 0 where
  pub contained : Bool
  pub begins : Bool
  pub ends : Bool
  pub whole : Bool
  pub contained_tells : Decides contained (SomeContains t v u)
  pub begins_tells : Decides begins (SomeBegins t v u)
  pub ends_tells : Decides ends (SomeEnds t v u)
  pub whole_tells : Decides whole (Route t v u)
  pub sum : s ≡ (if contained then 1 else 0) + (if begins then 2 else 0) + (if ends then 4 else 0) + (if whole then 8 else 0)
