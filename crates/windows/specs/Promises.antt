-- What opening an alphabet and reading a play answer, and when they refuse.
use Rattle.std.specs.Prelude.{◌≡◌, ℕ, ◌^◌, ◌<◌, ◌≤◌, ◌⊎◌, List, [], ◌∷◌, length, Result, MatchResult, ◌≢◌}
use Rattle.terms.specs.Codes.{Word, base, code}
use Rattle.terms.specs.Refusals.{Says}
use Rattle.terms.specs.Words.{Allowed, FirstWrong, Moves, most_moves}
use Rattle.terms.specs.declared.Refusal.{Refusal}
use Rattle.windows.specs.Values.{play_moves}
use Rattle.windows.specs.declared.alphabet.Alphabet.{Alphabet}
use Rattle.windows.specs.declared.plays.Play.{Play}

-- the alphabet of n moves and the order k, or 10 exactly where n or k is not allowed
abbrev pub Opens : ℕ → ℕ → Result Alphabet Refusal → Type 0
Opens n k r = MatchResult r (λ a. (a.moves ≡ n) × (a.order ≡ k) × Allowed n k) (λ e. Says e 10 [] × (Allowed n k → ⊥))

-- 17 where there are more than 32 moves, otherwise 18 with the first place whose move is outside 1 to n
abbrev pub PlayRefused : ℕ → List ℕ → Refusal → Type 0
PlayRefused n w e = (Says e 17 [] × (most_moves < length w)) ⊎ ((length w ≤ most_moves) × ((p : ℕ) × Says e 18 (p ∷ []) × FirstWrong n w p))

-- the play with exactly these moves, at most 32, each from 1 to n
abbrev pub PlayRead : ℕ → List ℕ → Play → Type 0
PlayRead n w p = (play_moves p ≡ w) × (length w ≤ most_moves) × Moves n w

-- c is the code of the word u: it lies below the base's power, no other word has it, and longer words have larger ones
pub record Coded (n k : ℕ) (u : List ℕ) (c : ℕ) : Type 0 where
  pub word : Word n k u
  pub is : c ≡ code n u
  pub below : c < base n ^ k
  pub apart : (v : List ℕ) → Word n k v → code n v ≡ c → v ≡ u
  pub longer : (v : List ℕ) → Word n k v → length u < length v → c < code n v

-- no word has the code c
abbrev pub NoWordWith : ℕ → ℕ → ℕ → Type 0
NoWordWith n k c = (u : List ℕ) → Word n k u → code n u ≢ c

-- u is the word with the code c
abbrev pub WordWith : ℕ → ℕ → ℕ → List ℕ → Type 0
WordWith n k c u = Word n k u × (code n u ≡ c)
