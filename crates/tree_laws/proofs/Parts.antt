-- The four facts of a word in a language, in one form; the laws of choice, sequence and interleaving.
use Rattle.std.proofs.Common.{◌≡◌, ℕ, Bool, true, false, ◌⊎◌, List, [], ◌∷◌, ◌++◌, refl, subst, inl, inr, ⊎_elim, append_assoc, append-nil, arith}
use Rattle.tree_laws.specs.Routes.{Interleaving, none, from_left, from_right}
use Rattle.tree_laws.proofs.Splits.{levi, nil_parts}

abbrev pub Language : Type 1
Language = List ℕ → Type 0

abbrev pub Some : Language → Type 0
Some L = (w : List ℕ) × L w

-- what may stand on a side of the word: anything on an open side, nothing on a closed one
abbrev pub Open : Bool → List ℕ → Type 0
Open true p = Unit {0}
Open false p = p ≡ []

pub open_parts : (f : Bool) (x y : List ℕ) → Open f (x ++ y) → Open f x × Open f y
open_parts f x y o = grind (arith, nil_parts x y)

pub open_join : (f : Bool) (x y : List ℕ) → Open f x → Open f y → Open f (x ++ y)
open_join f x y o₁ o₂ = grind arith

pub open_nil : (f : Bool) → Open f []
open_nil f = grind arith

-- some word of L has u, with its front side open or closed and its back side open or closed
pub record Part (front back : Bool) (L : Language) (u : List ℕ) : Type 0 where
  pub before : List ℕ
  pub after : List ℕ
  pub front_open : Open front before
  pub back_open : Open back after
  pub word : L (before ++ (u ++ after))

pub part : {f b : Bool} {L : Language} {u : List ℕ} (p q : List ℕ) → Open f p → Open b q → L (p ++ (u ++ q)) → Part f b L u
part p q front back l = record { before = p; after = q; front_open = front; back_open = back; word = l }

pub widen : (f b : Bool) {L : Language} {u : List ℕ} → Part f b L u → Part true true L u
widen f b h = part h.before h.after tt tt h.word

pub part_map : {f b : Bool} {K : Language} (L : Language) {u : List ℕ} → ((w : List ℕ) → K w → L w) → Part f b K u → Part f b L u
part_map L g h = part h.before h.after h.front_open h.back_open (g _ h.word)

-- a part with one side closed
pub ending : (f : Bool) (L : Language) (p u : List ℕ) → Open f p → L (p ++ u) → Part f false L u
ending f L p u o l = part p [] o refl (rw append-nil l)

pub beginning : (b : Bool) (L : Language) (u q : List ℕ) → Open b q → L (u ++ q) → Part false b L u
beginning b L u q o l = part [] q refl o l

pub ended : {f : Bool} {L : Language} {u : List ℕ} → Part f false L u → (p : List ℕ) × Open f p × L (p ++ u)
ended {f} {L} {u} h = (h.before, h.front_open, simp (h.back_open, append-nil) at h.word)

pub begun : {b : Bool} {L : Language} {u : List ℕ} → Part false b L u → (q : List ℕ) × Open b q × L (u ++ q)
begun {b} {L} {u} h = (h.after, h.back_open, rw h.front_open at h.word)

pub whole_of : {L : Language} {u : List ℕ} → Part false false L u → L u
whole_of {L} {u} h = simp (h.front_open, h.back_open, append-nil) at h.word

pub of_whole : {L : Language} {u : List ℕ} → L u → Part false false L u
of_whole {L} {u} l = ending false L [] u refl l

pub contained : {L : Language} {u w : List ℕ} (p q : List ℕ) → L w → w ≡ p ++ (u ++ q) → Part true true L u
contained {L} {u} p q l e = part p q tt tt (rw e at l)

-- ---- choice

abbrev pub Either : Language → Language → Language
Either A B w = A w ⊎ B w

module _ {f b : Bool} {A B : Language} {u : List ℕ} where
  pub choice_to : Part f b (Either A B) u → Part f b A u ⊎ Part f b B u
  choice_to h = ⊎_elim (λ l. inl (part h.before h.after h.front_open h.back_open l)) (λ l. inr (part h.before h.after h.front_open h.back_open l)) h.word

  pub choice_from : Part f b A u ⊎ Part f b B u → Part f b (Either A B) u
  choice_from = ⊎_elim (part_map (Either A B) (λ w l. inl l)) (part_map (Either A B) (λ w l. inr l))

-- ---- sequence

abbrev pub Then : Language → Language → Language
Then A B w = (x : List ℕ) × (y : List ℕ) × (w ≡ x ++ y) × A x × B y

-- the cut between the two routes is inside the word, or after it, or before it
pub data Joined (f b : Bool) (A B : Language) (u : List ℕ) : Type 0 where
  across : (x y : List ℕ) → u ≡ x ++ y → Part f false A x → Part false b B y → Joined f b A B u
  in_first : b ≡ true → Part f true A u → Joined f b A B u
  in_second : f ≡ true → Part true b B u → Joined f b A B u

module _ {A B : Language} where
  cut_after : (f b : Bool) (u p s y : List ℕ) → Open f p → Open b s → Open b y → A (p ++ (u ++ s)) → B y → Joined f b A B u
  cut_after f true u p s y of os oy a c = in_first refl (part p s of tt a)
  cut_after f false u p s y of os oy a c = across u [] (simp append-nil) (part p s of os a) (of_whole (rw oy at c))

  cut_before : (f b : Bool) (u x s q : List ℕ) → Open f x → Open f s → Open b q → A x → B (s ++ (u ++ q)) → Joined f b A B u
  cut_before true b u x s q ox os ob a c = in_second refl (part s q tt ob c)
  cut_before false b u x s q ox os ob a c = across [] u refl (of_whole (rw ox at a)) (part s q os ob c)

  pub sequence_to : (f b : Bool) (u : List ℕ) → Part f b (Then A B) u → Joined f b A B u
  sequence_to f b u h =
      let (x, y, e, a, c) = h.word in
      ⊎_elim
      (λ (s, e₁, e₂). ⊎_elim
      (λ (r, e₃, e₄). let (os, oy) = open_parts b r y (rw e₄ at h.back_open) in cut_after f b u h.before r y h.front_open os oy (rw (e₁, e₃) at a) c)
      (λ (r, e₃, e₄). across s r e₃ (ending f A h.before s h.front_open (rw e₁ at a)) (beginning b B r h.after h.back_open (rw e₄ at c)))
      (levi u h.after s y e₂))
      (λ (s, e₁, e₂). let (ox, os) = open_parts f x s (rw e₁ at h.front_open) in cut_before f b u x s h.after ox os h.back_open a (rw e₂ at c))
      (levi h.before (u ++ h.after) x y e)

  pub sequence_from : Some A → Some B → (f b : Bool) (u : List ℕ) → Joined f b A B u → Part f b (Then A B) u
  sequence_from sa sb f b u (across x y e h k) =
      let (p, op, a) = ended h in
      let (q, oq, c) = begun k in
      part p q op oq (p ++ x, y ++ q, simp (e, append_assoc), a, c)
  sequence_from sa (w, c) f true u (in_first e h) =
      part h.before (h.after ++ w) h.front_open tt (h.before ++ (u ++ h.after), w, simp append_assoc, h.word, c)
  sequence_from sa sb f false u (in_first e h) = absurd cc
  sequence_from (w, a) sb true b u (in_second e h) =
      part (w ++ h.before) h.after tt h.back_open (w, h.before ++ (u ++ h.after), simp append_assoc, a, h.word)
  sequence_from sa sb false b u (in_second e h) = absurd cc

-- ---- interleaving

abbrev pub Interleaved : Language → Language → Language
Interleaved A B w = (x : List ℕ) × (y : List ℕ) × Interleaving x y w × A x × B y

-- the two words that an interleaving of a front and a back comes from, cut in two each
record Halves (x y p v : List ℕ) : Type 0 where
  x₁ : List ℕ
  x₂ : List ℕ
  y₁ : List ℕ
  y₂ : List ℕ
  x_cut : x ≡ x₁ ++ x₂
  y_cut : y ≡ y₁ ++ y₂
  low : Interleaving x₁ y₁ p
  high : Interleaving x₂ y₂ v

halves : {x y w : List ℕ} → Interleaving x y w → (p v : List ℕ) → w ≡ p ++ v → Halves x y p v
halves {x} {y} i [] v e = record { x₁ = []; x₂ = x; y₁ = []; y₂ = y; x_cut = refl; y_cut = refl; low = none; high = rw e at i }
halves none (c ∷ p) v e = absurd cc
halves {y = y} (from_left {x = a} {u = u} {w = w} i) (c ∷ p) v e =
    let head : a ≡ c = cc in
    let r = halves {x = u} {y = y} {w = w} i p v (cc) in
    record { x₁ = a ∷ r.x₁; x₂ = r.x₂; y₁ = r.y₁; y₂ = r.y₂; x_cut = cc r.x_cut; y_cut = r.y_cut; low = subst (λ z. Interleaving (a ∷ r.x₁) r.y₁ (z ∷ p)) head (from_left r.low); high = r.high }
halves {x = x} (from_right {x = a} {v = u} {w = w} i) (c ∷ p) v e =
    let head : a ≡ c = cc in
    let r = halves {x = x} {y = u} {w = w} i p v (cc) in
    record { x₁ = r.x₁; x₂ = r.x₂; y₁ = a ∷ r.y₁; y₂ = r.y₂; x_cut = r.x_cut; y_cut = cc r.y_cut; low = subst (λ z. Interleaving r.x₁ (a ∷ r.y₁) (z ∷ p)) head (from_right r.low); high = r.high }

interleaving_append : {x y w : List ℕ} → Interleaving x y w → {x' y' w' : List ℕ} → Interleaving x' y' w' → Interleaving (x ++ x') (y ++ y') (w ++ w')
interleaving_append none k = k
interleaving_append (from_left i) k = from_left (interleaving_append i k)
interleaving_append (from_right i) k = from_right (interleaving_append i k)

all_right : (y : List ℕ) → Interleaving [] y y
all_right [] = none
all_right (a ∷ y) = from_right (all_right y)

pub one_after_other : (x y : List ℕ) → Interleaving x y (x ++ y)
one_after_other [] y = all_right y
one_after_other (a ∷ x) y = from_left (one_after_other x y)

open_halves : (f : Bool) {x y w : List ℕ} → Interleaving x y w → Open f w → Open f x × Open f y
open_halves true i o = (tt, tt)
open_halves false none o = (refl, refl)
open_halves false (from_left i) o = absurd cc
open_halves false (from_right i) o = absurd cc

-- the word is an interleaving of two words with the same fact
abbrev pub Shared : Bool → Bool → Language → Language → List ℕ → Type 0
Shared f b A B u = (x : List ℕ) × (y : List ℕ) × Interleaving x y u × Part f b A x × Part f b B y

module _ {A B : Language} (f b : Bool) (u : List ℕ) where
  pub parallel_to : Part f b (Interleaved A B) u → Shared f b A B u
  parallel_to h =
      let (x, y, i, a, c) = h.word in
      let r = halves i h.before (u ++ h.after) refl in
      let s = halves r.high u h.after refl in
      let front = open_halves f r.low h.front_open in
      let back = open_halves b s.high h.back_open in (
        s.x₁,
        s.y₁,
        s.low,
        part r.x₁ s.x₂ front.0 back.0 (rw (r.x_cut, s.x_cut) at a),
        part r.y₁ s.y₂ front.1 back.1 (rw (r.y_cut, s.y_cut) at c),
      )

  pub parallel_from : Shared f b A B u → Part f b (Interleaved A B) u
  parallel_from (x, y, i, h, k) =
      let front = open_join f h.before k.before h.front_open k.front_open in
      let back = open_join b h.after k.after h.back_open k.back_open in
      let mixed = interleaving_append (one_after_other h.before k.before) (interleaving_append i (one_after_other h.after k.after)) in
      part (h.before ++ k.before) (h.after ++ k.after) front back (h.before ++ (x ++ h.after), k.before ++ (y ++ k.after), mixed, h.word, k.word)
