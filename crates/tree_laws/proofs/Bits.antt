-- The bits of a number as tests, and what they are of joined and shifted numbers.
use Rattle.std.proofs.Common.{◌≡◌, ℕ, zero, suc, ◌+◌, ◌*◌, ◌/◌, ◌%◌, ◌^◌, ◌<◌, ◌≤◌, Bool, true, false, cond, not, ◌&&◌, ◌||◌, eqb, Decides, sym, refl, ap, ◌∙◌, subst, inl, inr, ⊎_elim, mod-eq_of_lt, one-mul, zero-mul, add-one, arith}
use lib.Bits.{bit_and, bit_or, or_lt, or_add_and, and_comm, and_mask}
use Rattle.std.specs.Int.{bit_at}
use Rattle.std.proofs.lemmas.Nat.{shr-shr, pow_pos}
use Rattle.std.proofs.lemmas.Nat.Bits.{and_pow, bit_at-lt, bit_at-zero, bit_at_and, bit_at_or}
use Rattle.std.proofs.lemmas.Bool.Decides.{nat_tests, Decides-at, Decides-or, Decides-like}
use Rattle.std.proofs.lemmas.Bool.{both_ways, cases_lt, ne_eqb}
use Rattle.tree_laws.specs.Computed.{has, ors}

-- the bit of 2 ^ i
abbrev pub on : ℕ → ℕ → Bool
on s i = eqb (bit_at s i) 1

pub on_or : (a b i : ℕ) → on (bit_or a b) i ≡ (on a i || on b i)
on_or a b i = let both = bit_at_or a b i in let x = bit_at-lt a i in let y = bit_at-lt b i in grind (arith, nat_tests)

pub on_and : (a b i : ℕ) → on (bit_and a b) i ≡ (on a i && on b i)
on_and a b i = let both = bit_at_and a b i in let x = bit_at-lt a i in let y = bit_at-lt b i in grind (arith, nat_tests)

pub on_shift : (a j i : ℕ) → on (a / 2 ^ j) i ≡ on a (j + i)
on_shift a j i = ap (λ z. eqb (z % 2) 1) (shr-shr a j i)

pub has_on : (s i : ℕ) → has s (2 ^ i) ≡ on s i
has_on s i = rw and_pow (has_digit (bit_at s i) (bit_at-lt s i))
  where
    has_digit : (x : ℕ) → x < 2 → not (eqb (x * 2 ^ i) 0) ≡ eqb x 1
    has_digit zero h = rw zero-mul
    has_digit (suc zero) h = rw one-mul (ap not (ne_eqb (2 ^ i) 0 (λ e. omega (arith, pow_pos i))))
    has_digit (suc (suc x)) h = absurd (omega arith)

pub on_none : (i : ℕ) → on 0 i ≡ false
on_none i = rw bit_at-zero

pub on_ors : (F : ℕ → ℕ) (i : ℕ) (P : ℕ → Type 0) (n : ℕ) → ((j : ℕ) → j < n → Decides (on (F j) i) (P j)) → Decides (on (ors F n) i) ((j : ℕ) × (j < n) × P j)
on_ors F i P zero each = (λ e. absurd (both_ways _ (on_none i) e), λ h. absurd (omega (arith, h.1)))
on_ors F i P (suc n) each =
    Decides-at _ _ (on_or (ors F n) (F n) i)
    (Decides-like _
    (⊎_elim (λ h. (h.0, omega (arith, h.1), h.2)) (λ h. (n, omega arith, h)))
    (λ h. ⊎_elim (λ l. inl (h.0, l, h.2)) (λ l. inr (subst P (omega (arith, h.1, l)) h.2)) (cases_lt h.0 n))
    (Decides-or _ _ (on_ors F i P n (λ j h. each j (omega arith))) (each n (omega arith))))

pub on_cond : (c : Bool) (m i : ℕ) → on m i ≡ true → on (cond c m 0) i ≡ c
on_cond true m i h = h
on_cond false m i h = on_none i

pub ors_below : (F : ℕ → ℕ) (k n : ℕ) → ((j : ℕ) → j < n → F j < 2 ^ k) → ors F n < 2 ^ k
ors_below F k zero each = pow_pos k
ors_below F k (suc n) each = or_lt k (ors F n) (F n) (ors_below F k n (λ j h. each j (omega arith))) (each n (omega arith))

-- the step of a loop that takes them together
pub ors_more : (F : ℕ → ℕ) (i s x : ℕ) → s ≡ ors F i → x ≡ F i → bit_or s x ≡ ors F (i + 1)
ors_more F i s x e h = (λ k. bit_or (e k) (h k)) ∙ ap (ors F) (sym (add-one i))

pub ors_same : (F G : ℕ → ℕ) (n : ℕ) → ((j : ℕ) → j < n → F j ≡ G j) → ors F n ≡ ors G n
ors_same F G zero each = refl
ors_same F G (suc n) each = (λ i. bit_or (ors_same F G n (λ j h. each j (omega arith)) i) (each n (omega arith) i))

-- once all four bits are set, nothing more changes
or_full : (x : ℕ) → x < 16 → bit_or 15 x ≡ 15
or_full x h = omega (arith, or_add_and 15 x, and_comm 15 x ∙ and_mask x 4 ∙ mod-eq_of_lt h)

pub ors_full : (F : ℕ → ℕ) (i n : ℕ) → i ≤ n → ors F i ≡ 15 → ((j : ℕ) → j < n → F j < 16) → ors F n ≡ 15
ors_full F i zero l e each = let same : 0 ≡ i = omega arith in ap (ors F) same ∙ e
ors_full F i (suc n) l e each =
    ⊎_elim
    (λ h. ap (λ x. bit_or x (F n)) (ors_full F i n (omega arith) e (λ j k. each j (omega arith))) ∙ or_full (F n) (each n (omega arith)))
    (λ h. let same : suc n ≡ i = omega arith in ap (ors F) same ∙ e)
    (cases_lt i (suc n))
