-- The rows of a tree: which keys have one, what number stands there, and how many there are.
use Rattle.std.specs.Prelude.{◌≡◌, ℕ, ◌+◌, ◌*◌, ◌^◌, ◌<◌, ◌≤◌, ◌⊎◌, List, length, All, Contains}
use Rattle.terms.specs.Codes.{base, code}
use Rattle.terms.specs.Words.{IsWindow, Moves}
use Rattle.tree_laws.specs.Facts.{Playable, SomeContains, Standing}
use Rattle.tree_laws.specs.declared.Node.{Node}
use Rattle.row_laws.specs.Lists.{Distinct}

-- the key of the row of the word u at node v
abbrev pub row_key : ℕ → ℕ → ℕ → List ℕ → ℕ
row_key n k v u = v * base n ^ k + code n u

-- the keys of a tree's rows lie below this one
abbrev pub key_limit : ℕ → ℕ → List Node → ℕ
key_limit n k t = (length t + 1) * base n ^ k

-- some route of a node contains a word of at most k moves, and this is their row's key
pub record NodeRow (n k : ℕ) (t : List Node) (key : ℕ) : Type 0 where
  pub node : ℕ
  pub word : List ℕ
  pub from_one : 1 ≤ node
  pub inside : node ≤ length t
  pub short : length word ≤ k
  pub contained : SomeContains t node word
  pub key_is : key ≡ row_key n k node word

-- a window is playable, and this is its code
pub record WindowRow (n k : ℕ) (t : List Node) (key : ℕ) : Type 0 where
  pub window : List ℕ
  pub is_window : IsWindow n k window
  pub playable : Playable t k window
  pub key_is : key ≡ code n window

abbrev pub HasRow : ℕ → ℕ → List Node → ℕ → Type 0
HasRow n k t key = NodeRow n k t key ⊎ WindowRow n k t key

-- f gives the number at each key: the standing of each word at each node, 1 at each playable window's code, 0 elsewhere
pub record RowsAt (n k : ℕ) (t : List Node) (f : ℕ → ℕ) : Type 0 where
  pub standings : (v : ℕ) (u : List ℕ) → 1 ≤ v → v ≤ length t → Moves n u → length u ≤ k → Standing t v u (f (row_key n k v u))
  pub played : (u : List ℕ) → IsWindow n k u → Playable t k u → f (code n u) ≡ 1
  pub unplayed : (u : List ℕ) → IsWindow n k u → (Playable t k u → ⊥) → f (code n u) ≡ 0
  pub only : (key : ℕ) → 0 < f key → HasRow n k t key

-- the tree has more rows than the room
pub record MoreRows (n k : ℕ) (t : List Node) (room : ℕ) : Type 0 where
  pub keys : List ℕ
  pub distinct : Distinct keys
  pub rows : All (HasRow n k t) keys
  pub more : room < length keys

-- ws are exactly the playable windows
abbrev pub ListsPlayable : List Node → ℕ → List (List ℕ) → Type 0
ListsPlayable t k ws = (u : List ℕ) → (Contains ws u → Playable t k u) × (Playable t k u → Contains ws u)

-- so many windows are playable: a list of them without repeats is so long, and there is one
pub record PlayableCount (t : List Node) (k count : ℕ) : Type 0 where
  pub windows : List (List ℕ)
  pub distinct : Distinct windows
  pub lists : ListsPlayable t k windows
  pub long : length windows ≡ count
  pub any : (ws : List (List ℕ)) → Distinct ws → ListsPlayable t k ws → length ws ≡ count
