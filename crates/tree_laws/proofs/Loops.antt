-- The four facts of a word in a loop: pieces of two languages in turn, and the boundaries between them.
use Rattle.std.proofs.Common.{◌≡◌, ℕ, Bool, true, false, ◌⊎◌, List, [], ◌∷◌, ◌++◌, sym, refl, inl, inr, ⊎_elim, append_assoc, append-nil}
use Rattle.tree_laws.specs.Boundaries.{Turn, next_a, next_b, other}
use Rattle.tree_laws.proofs.Splits.{levi, nil_parts}
use Rattle.tree_laws.proofs.Parts.{Language, Some, Open, open_parts, Part, part, ending, beginning, ended, begun}

-- pieces in turn, from the side s on; e is the side that is next at the end
pub data Run (L : Turn → Language) (e : Turn) : Turn → List ℕ → Type 0 where
  stop : Run L e e []
  step : {s : Turn} {x w : List ℕ} → L s x → Run L e (other s) w → Run L e s (x ++ w)

-- the start of the loop, or a place where a piece ended whose front lies before the word; m is the side that is next
abbrev pub Start : (Turn → Language) → Bool → Turn → List ℕ → Type 0
Start L false m x = (m ≡ next_a) × (x ≡ [])
Start L true m x = Part true false (L (other m)) x

-- a boundary after x with the side m next, reached from a start by whole pieces
pub data Reached (L : Turn → Language) (f : Bool) : Turn → List ℕ → Type 0 where
  start : {m : Turn} {x : List ℕ} → Start L f m x → Reached L f m x
  more : {m : Turn} {x y : List ℕ} → Reached L f m x → L m y → Reached L f (other m) (x ++ y)

-- the word ends where the second language is next; with an open back, also inside a piece
abbrev pub Finished : (Turn → Language) → Bool → Bool → List ℕ → Type 0
Finished L f false u = Reached L f next_b u
Finished L f true u =
    ((m : Turn) × (x : List ℕ) × (y : List ℕ) × (u ≡ x ++ y) × Reached L f m x × Part false true (L m) y)
    ⊎ ((f ≡ true) × (m : Turn) × Part true true (L m) u)

pub other_other : (m : Turn) → other (other m) ≡ m
other_other next_a = refl
other_other next_b = refl

module _ (L : Turn → Language) where
  run_append : {m s : Turn} {x : List ℕ} → Run L m s x → {e : Turn} {y : List ℕ} → Run L e m y → Run L e s (x ++ y)
  run_append stop k = k
  run_append (step l r) k = rw append_assoc (step l (run_append r k))

  run_more : {m s : Turn} {x y : List ℕ} → Run L m s x → L m y → Run L (other m) s (x ++ y)
  run_more {m} {s} {x} {y} r l = simp append-nil at (run_append r (step l stop))

  reach_run : {f : Bool} {e m : Turn} {x y : List ℕ} → Reached L f m x → Run L e m y → Reached L f e (x ++ y)
  reach_run r stop = rw append-nil r
  reach_run r (step l k) = rw append_assoc at (reach_run (more r l) k)

  -- a cut of a run is a boundary, or lies inside a piece
  data Cut (e s : Turn) (p v : List ℕ) : Type 0 where
    between : (m : Turn) → Run L m s p → Run L e m v → Cut e s p v
    inside : (m : Turn) (x y z rest : List ℕ) → p ≡ x ++ y → v ≡ z ++ rest → Run L m s x → L m (y ++ z) → Run L e (other m) rest → Cut e s p v

  cut_later : {e s : Turn} {x p v : List ℕ} (s₁ : List ℕ) → L s x → p ≡ x ++ s₁ → Cut e (other s) s₁ v → Cut e s p v
  cut_later s₁ l ep (between m r k) = between m (rw ep (step l r)) k
  cut_later {x = x₀} s₁ l ep (inside m x y z rest e₁ e₂ r k j) = inside m (x₀ ++ x) y z rest (simp (ep, e₁, append_assoc)) e₂ (step l r) k j

  cut : {e s : Turn} {w : List ℕ} → Run L e s w → (p v : List ℕ) → w ≡ p ++ v → Cut e s p v
  cut {e} stop p v q = let n = nil_parts p v (sym q) in between e (rw n.0 stop) (rw n.1 stop)
  cut (step {s = s} {x = x} {w = w} l r) p v q =
      ⊎_elim
      (λ (k, e₁, e₂). cut_later k l e₁ (cut r k v e₂))
      (λ (k, e₁, e₂). inside s [] p k w refl e₂ stop (rw e₁ at l) r)
      (levi x w p v q)

  started : (m : Turn) {x : List ℕ} → Part true false (L m) x → Start L true (other m) x
  started m {x} h = rw other_other h

  module _ (some : (m : Turn) → Some (L m)) where
    -- what is left of the word from a boundary on
    finish_to : (f b : Bool) {m : Turn} {u x : List ℕ} (s q : List ℕ) → Open b q → Reached L f m x → Run L next_b m (s ++ q) → u ≡ x ++ s → Finished L f b u
    finish_to f false s q o h r e = rw e (reach_run h (simp (o, append-nil) at r))
    finish_to f true {m} {u} {x} s q o h r e = go (cut r s q refl)
      where
        go : Cut next_b m s q → Finished L f true u
        go (between m₁ r₁ r₂) = inl (m₁, u, [], simp append-nil, rw e (reach_run h r₁), beginning true (L m₁) [] (some m₁).0 tt (some m₁).1)
        go (inside m₁ x₁ y z rest e₁ e₂ r₁ l r₂) = inl (m₁, x ++ x₁, y, simp (e, e₁, append_assoc), reach_run h r₁, beginning true (L m₁) y z tt l)

    -- the word lies in one piece, or begins in it
    within_piece : (b : Bool) (m : Turn) (u y s rest : List ℕ) → Open b s → Open b rest → L m (y ++ (u ++ s)) → Run L next_b (other m) rest → Finished L true b u
    within_piece true m u y s rest o₁ o₂ l r = inr (refl, m, part y s tt tt l)
    within_piece false m u y s rest o₁ o₂ l r =
        finish_to true false [] rest o₂ (start (started m (part y s tt o₁ l))) r (simp append-nil)

    pub loop_to : (f b : Bool) (u : List ℕ) → Part f b (Run L next_b next_a) u → Finished L f b u
    loop_to false b u h = let (q, o, r) = begun h in finish_to false b u q o (start (refl, refl)) r refl
    loop_to true b u h = go (cut h.word h.before (u ++ h.after) refl)
      where
        go : Cut next_b next_a h.before (u ++ h.after) → Finished L true b u
        go (between m r₁ r₂) = finish_to true b u h.after h.back_open (start (ending true (L (other m)) (some (other m)).0 [] tt (rw append-nil (some (other m)).1))) r₂ refl
        go (inside m x y z rest e₁ e₂ r₁ l r₂) =
            ⊎_elim
            (λ (k, e₃, e₄). let (os, o) = open_parts b k rest (rw e₄ at h.back_open) in within_piece b m u y k rest os o (rw e₃ at l) r₂)
            (λ (k, e₃, e₄). finish_to true b k h.after h.back_open (start (started m (ending true (L m) y z tt l))) (rw e₄ at r₂) e₃)
            (levi u h.after z rest e₂)

    -- a run from the start of the loop to the side m, and one from the side m to its end
    to_side : (m : Turn) → (w : List ℕ) × Run L m next_a w
    to_side next_a = ([], stop)
    to_side next_b = ((some next_a).0 ++ [], step (some next_a).1 stop)

    from_side : (m : Turn) → (w : List ℕ) × Run L next_b m w
    from_side next_a = to_side next_b
    from_side next_b = ([], stop)

    reached_run : {f : Bool} {m : Turn} {x : List ℕ} → Reached L f m x → (p : List ℕ) × Open f p × Run L m next_a (p ++ x)
    reached_run {f = false} {m} {x} (start s) = ([], refl, rw s.1 (rw s.0 stop))
    reached_run {f = true} {m} {x} (start s) =
        let (p, o, l) = ended s in
        let (w, r) = to_side (other m) in
        (w ++ p, tt, simp append_assoc (simp other_other at (run_more r l)))
    reached_run (more h l) = let (p, o, r) = reached_run h in (p, o, rw append_assoc at (run_more r l))

    pub loop_from : (f b : Bool) (u : List ℕ) → Finished L f b u → Part f b (Run L next_b next_a) u
    loop_from f false u h = let (p, o, r) = reached_run h in ending f (Run L next_b next_a) p u o r
    loop_from f true u (inl (m, x, y, e, h, k)) =
        let (p, o, r) = reached_run h in
        let (q, o₂, l) = begun k in
        let (w, j) = from_side (other m) in
        part p (q ++ w) o tt (simp (e, append_assoc) (simp append_assoc at (run_append (run_more r l) j)))
    loop_from true true u (inr (e, m, k)) =
        let (w₁, r) = to_side m in
        let (w₂, j) = from_side (other m) in
        part (w₁ ++ k.before) (k.after ++ w₂) tt tt (simp append_assoc (simp append_assoc at (run_append (run_more r k.word) j)))
    loop_from false true u (inr (e, m, k)) = absurd cc

-- ---- the last piece

-- a boundary reached by a start, or by a piece that is not empty
abbrev pub Direct : (Turn → Language) → Bool → Turn → List ℕ → Type 0
Direct L f m x = Start L f m x ⊎ ((y : List ℕ) × (c : ℕ) × (z : List ℕ) × (x ≡ y ++ (c ∷ z)) × Reached L f (other m) y × L (other m) (c ∷ z))

module _ (L : Turn → Language) (f : Bool) where
  -- an empty piece changes the turn, and two of them change nothing
  pub reached_last : {m : Turn} {x : List ℕ} → Reached L f m x → Direct L f m x ⊎ (Direct L f (other m) x × L (other m) [])
  reached_last (start s) = inl (inl s)
  reached_last (more {m = m} {x = x} {y = []} r l) = rw append-nil (⊎_elim (λ d. inr (simp other_other (d, l))) (λ h. inl h.0) (reached_last r))
  reached_last (more {m = m} {x = x} {y = c ∷ z} r l) = inl (inr (x, c, z, refl, rw other_other r, rw other_other l))

  pub reached_more : (m : Turn) {x y : List ℕ} → Reached L f (other m) x → L (other m) y → Reached L f m (x ++ y)
  reached_more m r l = rw other_other at (more r l)
