-- How long a list without repeats can be, the list of the held keys, and maps of lists without repeats.
use Rattle.std.proofs.Common.{◌≡◌, ℕ, zero, suc, ◌<◌, ◌≤◌, ◌⊎◌, List, [], ◌∷◌, ◌++◌, map, length, All, Contains, refl, ap, ◌∙◌, ⊎_elim, arith, length-append}
use Rattle.std.proofs.lemmas.List.Elements.{All-contains, Contains-append_left, Contains-append_right, Contains-append_cases}
use Rattle.std.proofs.lemmas.List.{length-map}
use Rattle.std.proofs.lemmas.Bool.{cases_eq}
use Rattle.std.proofs.lemmas.Grind.{common_steps}
use Rattle.racks.specs.Views.{held_count}
use Rattle.row_laws.specs.Lists.{Distinct}

module _ {X : Type 0} where
  pub has_first : (x : X) (xs : List X) → Contains (x ∷ xs) x
  has_first x xs = (0, omega arith, refl)

  pub has_rest : (y : X) (xs : List X) (x : X) → Contains xs x → Contains (y ∷ xs) x
  has_rest y xs x (k, l, at) = (suc k, omega arith, at)

  pub has_cases : (y : X) (xs : List X) (x : X) → Contains (y ∷ xs) x → (y ≡ x) ⊎ Contains xs x
  has_cases y xs x h = grind (arith, common_steps)

  -- what stands in a list has a part before it and a part after it
  has_split : (ys : List X) (x : X) → Contains ys x → (a : List X) × (b : List X) × (ys ≡ a ++ (x ∷ b))
  has_split [] x h = absurd (omega arith)
  has_split (y ∷ ys) x (zero, l, at) = ([], ys, cc)
  has_split (y ∷ ys) x (suc k, l, at) = let (a, b, e) = has_split ys x (k, omega arith, at) in (y ∷ a, b, cc)

  has_without : (a b : List X) (x z : X) → Contains (a ++ (x ∷ b)) z → (x ≡ z) ⊎ Contains (a ++ b) z
  has_without a b x z h = grind (arith, Contains-append_left a b z, Contains-append_right a b z, has_cases x b z, Contains-append_cases a (x ∷ b) z h)

  -- a list without repeats whose items another list has is not longer
  pub distinct_fits : (xs ys : List X) → Distinct xs → ((x : X) → Contains xs x → Contains ys x) → length xs ≤ length ys
  distinct_fits [] ys apart within = omega arith
  distinct_fits (x ∷ xs) ys apart within =
      let (a, b, e) = has_split ys x (within x (has_first x xs)) in
      let fits = distinct_fits xs (a ++ b) apart.1 (λ z h. grind (arith, has_without a b x z, within z (has_rest x xs z h))) in
      omega (arith, ap length e ∙ length-append a (x ∷ b), length-append a b, fits)

-- m before the keys, if its number is not 0
abbrev pub with_held : ℕ → ℕ → List ℕ → List ℕ
with_held zero m keys = keys
with_held (suc v) m keys = m ∷ keys

-- the held keys below m
unfoldable pub keys_below : (ℕ → ℕ) → ℕ → List ℕ
keys_below f zero = []
keys_below f (suc m) = with_held (f m) m (keys_below f m)

with_held_has : (v m : ℕ) (keys : List ℕ) (key : ℕ) → Contains keys key → Contains (with_held v m keys) key
with_held_has zero m keys key h = h
with_held_has (suc v) m keys key h = has_rest m keys key h

with_held_first : (v m : ℕ) (keys : List ℕ) → 0 < v → Contains (with_held v m keys) m
with_held_first v m keys held = grind (arith, has_first)

module _ (f : ℕ → ℕ) where
  pub keys_below_held : (m key : ℕ) → Contains (keys_below f m) key → (key < m) × (0 < f key)
  unfolding keys_below
  keys_below_held zero key h = absurd (omega arith)
  keys_below_held (suc m) key h = grind (arith, common_steps, keys_below_held m key)

  pub has_keys_below : (m key : ℕ) → key < m → 0 < f key → Contains (keys_below f m) key
  unfolding keys_below
  has_keys_below zero key low held = absurd (omega arith)
  has_keys_below (suc m) key low held =
      ⊎_elim (λ e. rw e (with_held_first (f m) m (keys_below f m) (rw e at held)))
      (λ ne. with_held_has (f m) m (keys_below f m) key (has_keys_below m key (omega arith) held))
      (cases_eq key m)

  pub distinct_keys_below : (m : ℕ) → Distinct (keys_below f m)
  unfolding keys_below
  distinct_keys_below zero = tt
  distinct_keys_below (suc m) = grind (arith, common_steps, keys_below_held m m, distinct_keys_below m)

  pub length_keys_below : (m : ℕ) → length (keys_below f m) ≡ held_count f m
  unfolding keys_below held_count
  length_keys_below zero = refl
  length_keys_below (suc m) = grind (arith, common_steps, length_keys_below m)

  -- different held keys below m are no more than all of them
  pub held_fits : (m : ℕ) (keys : List ℕ) → Distinct keys → All (λ key. (key < m) × (0 < f key)) keys → length keys ≤ held_count f m
  held_fits m keys apart held =
      omega (
        arith,
        length_keys_below m,
        distinct_fits keys (keys_below f m) apart (λ key h. grind (arith, All-contains (λ z. (z < m) × (0 < f z)) keys key held h, has_keys_below m key)),
      )

module _ {X Y : Type 0} (g : X → Y) where
  pub has_map : (xs : List X) (x : X) → Contains xs x → Contains (map g xs) (g x)
  has_map xs x (k, l, at) = (k, simp length-map l, grind (arith, common_steps))

  pub map_has : (xs : List X) (y : Y) → Contains (map g xs) y → (x : X) × Contains xs x × (g x ≡ y)
  map_has [] y h = absurd (omega arith)
  map_has (x ∷ xs) y h =
      ⊎_elim (λ e. (x, has_first x xs, e))
      (λ k. let (z, has, e) = map_has xs y k in (z, has_rest x xs z has, e))
      (has_cases (g x) (map g xs) y h)

  -- a function that tells the items apart keeps them without repeats
  pub distinct_map : (xs : List X) → ((a b : X) → Contains xs a → Contains xs b → g a ≡ g b → a ≡ b) → Distinct xs → Distinct (map g xs)
  distinct_map [] tells apart = tt
  distinct_map (x ∷ xs) tells apart = (
    λ h. let (z, has, e) = map_has xs (g x) h in apart.0 (rw (tells z x (has_rest x xs z has) (has_first x xs) e) at has),
    distinct_map xs (λ a b ha hb. tells a b (has_rest x xs a ha) (has_rest x xs b hb)) apart.1,
  )
