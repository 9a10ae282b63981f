-- Laws of the count of held keys and of a write, which the bounds of racks cite.
use Rattle.std.specs.Prelude.{◌≡◌, ℕ, zero, suc, ◌+◌, ◌<◌, ◌≤◌, ◌≢◌, refl}
use Rattle.std.proofs.Common.{ap, arith}
use Rattle.std.proofs.lemmas.Grind.{common_steps}
use Rattle.racks.specs.Views.{one_if_held, held_count, written}

pub one_if_held_small : (n : ℕ) → one_if_held n ≤ 1
one_if_held_small zero = omega arith
one_if_held_small (suc n) = omega arith

pub held_count_most : (f : ℕ → ℕ) (n : ℕ) → held_count f n ≤ n
unfolding held_count
held_count_most f zero = omega arith
held_count_most f (suc n) = omega (arith, held_count_most f n, one_if_held_small (f n))

pub held_count_same : (f g : ℕ → ℕ) (n : ℕ) → ((k : ℕ) → k < n → f k ≡ g k) → held_count f n ≡ held_count g n
unfolding held_count
held_count_same f g zero same = refl
held_count_same f g (suc n) same =
    omega (arith, held_count_same f g n (λ k h. same k (omega arith)), ap one_if_held (same n (omega arith)))

pub held_count_none : (f : ℕ → ℕ) (n : ℕ) → ((k : ℕ) → k < n → f k ≡ 0) → held_count f n ≡ 0
unfolding held_count
held_count_none f zero none = refl
held_count_none f (suc n) none =
    omega (arith, held_count_none f n (λ k h. none k (omega arith)), ap one_if_held (none n (omega arith)))

pub written_here : (f : ℕ → ℕ) (key v k : ℕ) → k ≡ key → written f key v k ≡ v
written_here f key v k e = grind (arith, common_steps)

pub written_other : (f : ℕ → ℕ) (key v k : ℕ) → (k ≢ key) → written f key v k ≡ f k
written_other f key v k ne = grind (arith, common_steps)

-- a write past the keys that are counted
pub held_count_past : (f : ℕ → ℕ) (key v n : ℕ) → n ≤ key → held_count (written f key v) n ≡ held_count f n
held_count_past f key v n past = held_count_same (written f key v) f n (λ k h. written_other f key v k (λ e. omega arith))

-- a write at one of the keys that are counted
pub held_count_written : (f : ℕ → ℕ) (key v n : ℕ) → key < n → held_count (written f key v) n + one_if_held (f key) ≡ held_count f n + one_if_held v
unfolding held_count
held_count_written f key v zero h = omega arith
held_count_written f key v (suc n) h =
    let past = λ (e : n ≤ key). held_count_past f key v n e in
    let rest = λ (l : key < n). held_count_written f key v n l in
    grind (arith, common_steps)

-- a write takes in one key at most
pub held_count_one_more : (f : ℕ → ℕ) (key v n : ℕ) → held_count (written f key v) n ≤ held_count f n + 1
held_count_one_more f key v n =
    let inside = λ (h : key < n). held_count_written f key v n h in
    let past = λ (h : n ≤ key). held_count_past f key v n h in
    let small = one_if_held_small v in
    grind arith
