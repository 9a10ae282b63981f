-- What a rack means: the number at each key, 0 where a key is not held, its reach and room, and the memory it was lent.
use Rattle.std.specs.Prelude.{◌≡◌, ℕ, zero, suc, ◌+◌, ◌^◌, ◌<◌, ◌≤◌, if◌then◌else◌, min, List, [], ◌∷◌, ◌==◌}
use Rattle.std.specs.Borrow.{GName}

-- 1 for the number of a held key, 0 for 0
abbrev pub one_if_held : ℕ → ℕ
one_if_held zero = 0
one_if_held (suc n) = 1

-- how many keys below n are held; shut, since a reach can be a large numeral
unfoldable pub held_count : (ℕ → ℕ) → ℕ → ℕ
held_count f zero = 0
held_count f (suc n) = held_count f n + one_if_held (f n)

-- the sum of the numbers at the keys below n
unfoldable pub sum_below : (ℕ → ℕ) → ℕ → ℕ
sum_below f zero = 0
sum_below f (suc n) = sum_below f n + f n

-- how many of n places a rack uses: those from 2^26 on serve none
abbrev pub places_used : ℕ → ℕ
places_used n = min n 67108864

-- a lent value on which a rack stands: which one, and what the places that it never uses hold, as numbers
pub record Lent : Type 0 where
  pub name : GName
  pub beyond : List ℕ

pub record View : Type 0 where
  pub number : ℕ → ℕ
  pub reach : ℕ
  pub room : ℕ
  pub lent : List Lent

-- the bounds of every rack
pub record Bounded (v : View) : Type 0 where
  pub reach_fits : v.reach < 2 ^ 32
  pub room_fits : v.room < 2 ^ 32
  pub number_fits : (k : ℕ) → v.number k < 2 ^ 32
  pub below_reach : (k : ℕ) → v.reach ≤ k → v.number k ≡ 0
  pub within_room : held_count v.number v.reach ≤ v.room

-- how many keys are held
abbrev pub held_in : View → ℕ
held_in v = held_count v.number v.reach

-- the numbers f, but with this number at this key
abbrev pub written : (ℕ → ℕ) → ℕ → ℕ → ℕ → ℕ
written f key number k = if k == key then number else f k

-- k is the smallest held key that is not below the key from
pub record Smallest (f : ℕ → ℕ) (from k : ℕ) : Type 0 where
  pub not_below : from ≤ k
  pub held : 0 < f k
  pub least : (j : ℕ) → from ≤ j → j < k → f j ≡ 0

-- no key is held that is not below the key from
abbrev pub NoneFrom : (ℕ → ℕ) → ℕ → Type 0
NoneFrom f from = (k : ℕ) → from ≤ k → f k ≡ 0

-- no key is held from the first key to before the second
abbrev pub NoneBetween : (ℕ → ℕ) → ℕ → ℕ → Type 0
NoneBetween f from end = (k : ℕ) → from ≤ k → k < end → f k ≡ 0

-- the write takes one more key, and the room is used up
pub record LacksRoom (v : View) (key number : ℕ) : Type 0 where
  pub put_in : 0 < number
  pub not_held : v.number key ≡ 0
  pub used_up : v.room ≤ held_in v

-- after the write of a number at a key: every other key has its number still
abbrev pub after_write : View → ℕ → ℕ → View
after_write v key number = record v { number = written v.number key number }

-- after every key was taken out
abbrev pub after_empty : View → View
after_empty v = record v { number = λ _. 0 }

-- a rack as it is made: no key is held
abbrev pub new_rack : ℕ → ℕ → Lent → View
new_rack reach room lent = record { number = λ _. 0; reach = reach; room = room; lent = lent ∷ [] }

-- a lent rack means what the rack means, and stands on one lent value more
abbrev pub lent_view : GName → View → View
lent_view name v = record v { lent = record { name = name; beyond = [] } ∷ v.lent }

pub lent_bounded : (name : GName) (v : View) → Bounded v → Bounded (lent_view name v)
lent_bounded name v b =
    record {
      reach_fits = b.reach_fits;
      room_fits = b.room_fits;
      number_fits = b.number_fits;
      below_reach = b.below_reach;
      within_room = b.within_room;
    }
