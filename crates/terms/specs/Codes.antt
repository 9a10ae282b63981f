-- The digit of an item, the code of a word, and which words have one.
use Rattle.std.specs.Prelude.{◌≡◌, ℕ, ◌+◌, ◌≤◌, if◌then◌else◌, ◌⊎◌, List, map, length, All, ◌==◌}
use Rattle.std.specs.Int.Digits.{number_from_digits}
use Rattle.terms.specs.Words.{Move, start_mark, end_mark}

-- an item is a move or a mark
abbrev pub Item : ℕ → ℕ → Type 0
Item n x = Move n x ⊎ ((x ≡ start_mark) ⊎ (x ≡ end_mark))

-- a word is a list of at most k items
pub record Word (n k : ℕ) (u : List ℕ) : Type 0 where
  pub items : All (Item n) u
  pub short : length u ≤ k

abbrev pub base : ℕ → ℕ
base n = n + 3

-- a move's digit is its number, the start mark's n + 1, the end mark's n + 2
abbrev pub digit : ℕ → ℕ → ℕ
digit n x = if x == start_mark then n + 1 else (if x == end_mark then n + 2 else x)

-- the way back from a digit to its item
abbrev pub item : ℕ → ℕ → ℕ
item n d = if d == n + 1 then start_mark else (if d == n + 2 then end_mark else d)

-- the digits read in base n + 3, the first item highest
abbrev pub code : ℕ → List ℕ → ℕ
code n u = number_from_digits (base n) (map (digit n) u)
