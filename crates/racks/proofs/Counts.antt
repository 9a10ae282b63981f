-- More laws of the count of held keys, of the sum of their numbers, and of a write.
use Rattle.std.specs.Prelude.{◌≡◌, ℕ, zero, suc, ◌+◌, ◌<◌, ◌≤◌, refl}
use Rattle.std.proofs.Common.{ap, ◌∙◌, add-one, arith}
use Rattle.std.proofs.lemmas.Grind.{common_steps}
use Rattle.racks.specs.Views.{one_if_held, held_count, sum_below, written, Smallest}
use Rattle.racks.specs.Counts.{held_count_most, held_count_written}

pub one_if_held_some : (n : ℕ) → 0 < n → one_if_held n ≡ 1
one_if_held_some zero h = omega arith
one_if_held_some (suc n) h = refl

-- a write of the number that a key has already
pub written_same : (f : ℕ → ℕ) (key v : ℕ) → f key ≡ v → (k : ℕ) → f k ≡ written f key v k
written_same f key v has k = grind (arith, common_steps)

-- where a key is not held, not every key is held
pub held_count_room : (f : ℕ → ℕ) (key n : ℕ) → key < n → f key ≡ 0 → held_count f n < n
held_count_room f key n h e =
    omega (arith, held_count_written f key 1 n h, ap one_if_held e, held_count_most (written f key 1) n)

-- the keys from m on add nothing where none of them is held
pub sum_below_none : (f : ℕ → ℕ) (m n : ℕ) → m ≤ n → ((k : ℕ) → m ≤ k → k < n → f k ≡ 0) → sum_below f n ≡ sum_below f m
unfolding sum_below
sum_below_none f m zero low none = let e : 0 ≡ m = omega arith in ap (sum_below f) e
sum_below_none f m (suc n) low none =
    let rest = λ (b : m ≤ n). sum_below_none f m n b (λ k h l. none k h (omega arith)) in
    let last = λ (b : m ≤ n). none n b (omega arith) in
    let all = λ (e : suc n ≡ m). ap (sum_below f) e in
    grind arith

pub sum_below_zero : (f : ℕ → ℕ) → sum_below f 0 ≡ 0
unfolding sum_below
sum_below_zero f = refl

pub sum_below_next : (f : ℕ → ℕ) (from k : ℕ) → Smallest f from k → sum_below f (k + 1) ≡ sum_below f from + f k
unfolding sum_below
sum_below_next f from k next = ap (sum_below f) (add-one k) ∙ ap (λ m. m + f k) (sum_below_none f from k next.not_below next.least)
