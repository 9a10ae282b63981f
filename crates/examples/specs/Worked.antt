-- The worked examples of windows, codes and trees, in one list, and what each of them says.
use Rattle.std.specs.Prelude.{◌≡◌, ℕ, List, [], ◌∷◌}
use Rattle.terms.specs.Codes.{code}
use Rattle.terms.specs.Words.{Cuts, marked}
use Rattle.tree_laws.specs.declared.Node.{Node}
use Rattle.tree_laws.specs.declared.Node.TheVariants.{Skip, Move as Single, Choice, Loop, Parallel}
use Rattle.tree_laws.specs.Facts.{Playable}
use Rattle.tree_laws.specs.Routes.{WellFormed}
use Rattle.row_laws.specs.Rows.{ListsPlayable}

pub data Example : Type 0 where
  -- with the order k, the play has exactly these windows, in this order
  cut : (k : ℕ) (play : List ℕ) (windows : List (List ℕ)) → Example
  -- with n moves, the word has this code
  coded : (n : ℕ) (word : List ℕ) (number : ℕ) → Example
  -- with n moves and the order k, the tree plays exactly these windows
  plays : (n k : ℕ) (tree : List Node) (windows : List (List ℕ)) → Example
  -- with n moves and the order k, the tree does not play this window
  unplayable : (n k : ℕ) (tree : List Node) (window : List ℕ) → Example

abbrev pub Holds : Example → Type 0
Holds (cut k play windows) = Cuts k (marked play) windows
Holds (coded n word number) = code n word ≡ number
Holds (plays n k tree windows) = WellFormed n tree × ListsPlayable tree k windows
Holds (unplayable n k tree window) = WellFormed n tree × (Playable tree k window → ⊥)

-- the loop that does 1, and 2 before each further 1
abbrev pub loop_of_two : List Node
loop_of_two = Single 1 ∷ Single 2 ∷ Loop 1 2 ∷ []

-- 1 and 2, in either order
abbrev pub parallel_of_two : List Node
parallel_of_two = Single 1 ∷ Single 2 ∷ Parallel 1 2 ∷ []

-- 1 beside 1: one node twice
abbrev pub parallel_of_one : List Node
parallel_of_one = Single 1 ∷ Parallel 1 1 ∷ []

-- any number of times 1, none among them
abbrev pub loop_over_skip : List Node
loop_over_skip = Skip ∷ Single 1 ∷ Choice 1 2 ∷ Loop 3 1 ∷ []

abbrev pub examples : List Example
examples =
    -- the empty play, at each order
    cut 2 [] ((43 ∷ 45 ∷ []) ∷ [])
    ∷ cut 3 [] ((43 ∷ 45 ∷ []) ∷ [])
    ∷ cut 4 [] ((43 ∷ 45 ∷ []) ∷ [])
    ∷ cut 5 [] ((43 ∷ 45 ∷ []) ∷ [])
    -- +1, 12, 21, 1-
    ∷ cut 2 (1 ∷ 2 ∷ 1 ∷ []) ((43 ∷ 1 ∷ []) ∷ (1 ∷ 2 ∷ []) ∷ (2 ∷ 1 ∷ []) ∷ (1 ∷ 45 ∷ []) ∷ [])
    -- +1, 1- and +1-
    ∷ cut 2 (1 ∷ []) ((43 ∷ 1 ∷ []) ∷ (1 ∷ 45 ∷ []) ∷ [])
    ∷ cut 3 (1 ∷ []) ((43 ∷ 1 ∷ 45 ∷ []) ∷ [])
    -- 4 * 36 + 6 + 2
    ∷ coded 3 (43 ∷ 1 ∷ 2 ∷ []) 152
    -- +1, 12, 21, 1-
    ∷ plays 2 2 loop_of_two ((43 ∷ 1 ∷ []) ∷ (1 ∷ 2 ∷ []) ∷ (2 ∷ 1 ∷ []) ∷ (1 ∷ 45 ∷ []) ∷ [])
    -- +1-, +12, 121, 212, 21-
    ∷ plays 2 3 loop_of_two ((43 ∷ 1 ∷ 45 ∷ []) ∷ (43 ∷ 1 ∷ 2 ∷ []) ∷ (1 ∷ 2 ∷ 1 ∷ []) ∷ (2 ∷ 1 ∷ 2 ∷ []) ∷ (2 ∷ 1 ∷ 45 ∷ []) ∷ [])
    -- +12, 12-, +21, 21-, and so not 121
    ∷ plays 2 3 parallel_of_two ((43 ∷ 1 ∷ 2 ∷ []) ∷ (1 ∷ 2 ∷ 45 ∷ []) ∷ (43 ∷ 2 ∷ 1 ∷ []) ∷ (2 ∷ 1 ∷ 45 ∷ []) ∷ [])
    ∷ unplayable 2 3 parallel_of_two (1 ∷ 2 ∷ 1 ∷ [])
    -- +1, 11, 1-
    ∷ plays 1 2 parallel_of_one ((43 ∷ 1 ∷ []) ∷ (1 ∷ 1 ∷ []) ∷ (1 ∷ 45 ∷ []) ∷ [])
    -- +-, +1, 11, 1-
    ∷ plays 1 2 loop_over_skip ((43 ∷ 45 ∷ []) ∷ (43 ∷ 1 ∷ []) ∷ (1 ∷ 1 ∷ []) ∷ (1 ∷ 45 ∷ []) ∷ [])
    ∷ []
