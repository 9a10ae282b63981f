-- Where two ways to cut one list meet.
use Rattle.std.proofs.Common.{◌≡◌, ℕ, ◌⊎◌, List, [], ◌∷◌, ◌++◌, length, sym, refl, ap, subst, inl, inr, ⊎_elim, arith}

pub carry : (P : List ℕ → Type 0) {x y : List ℕ} → P x → x ≡ y → P y
carry P h e = subst P e h

-- of two cuts of one list, one is not after the other
pub levi : (a b c d : List ℕ) → a ++ b ≡ c ++ d → ((s : List ℕ) × (c ≡ a ++ s) × (b ≡ s ++ d)) ⊎ ((s : List ℕ) × (a ≡ c ++ s) × (d ≡ s ++ b))
levi [] b c d e = inl (c, refl, e)
levi (x ∷ a) b [] d e = inr (x ∷ a, refl, sym e)
levi (x ∷ a) b (y ∷ c) d e =
    let head : x ≡ y = cc in
    let tail : a ++ b ≡ c ++ d = cc in
    ⊎_elim (λ h. inl (h.0, cc h.1, h.2)) (λ h. inr (h.0, cc h.1, h.2)) (levi a b c d tail)

pub nil_parts : (x y : List ℕ) → x ++ y ≡ [] → (x ≡ []) × (y ≡ [])
nil_parts [] y e = (refl, e)
nil_parts (a ∷ x) y e = absurd (omega (arith, ap length e))
