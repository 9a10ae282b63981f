-- The laws of routes at the nodes of a well-formed table.
use Rattle.std.proofs.Common.{◌≡◌, ℕ, Bool, true, false, ◌⊎◌, ◌↔◌, List, sym, refl, subst, inl, inr, ⊎_elim, arith}
use mathlib.Core.Bool.{false≢true}
use Rattle.tree_laws.specs.declared.Node.{Node}
use Rattle.tree_laws.specs.declared.Node.TheVariants.{Choice, Sequence, Loop, Parallel}
use Rattle.tree_laws.specs.Routes.{IsNode, Route, Lower, WellFormed}
use Rattle.tree_laws.specs.Facts.{SomeContains, SomeBegins, SomeEnds}
use Rattle.tree_laws.specs.Boundaries.{Turn, next_a, next_b, child, Fresh, Middle, Reached, start, piece}
use Rattle.tree_laws.specs.Laws.{Cut, Selection, Underway, ChoiceAt, SequenceAt, LoopAt, ParallelAt, ChoiceLaws, SequenceLaws, LoopLaws, ParallelLaws}
use Rattle.tree_laws.proofs.Parts.{Some, Part, choice_to, choice_from, Joined, across, in_first, in_second, sequence_to, sequence_from, parallel_to, parallel_from}
use Rattle.tree_laws.proofs.Loops.{Reached as ReachedBy, start as start_by, more, Finished, loop_to, loop_from}
use Rattle.tree_laws.proofs.Masks.{selected, selection}
use Rattle.tree_laws.proofs.Nodes.{Sides, parts_of, parts_from, Fact, to_part, from_part, proper, some_route}

-- the starts of a loop by whether the front is open
abbrev pub StartsOf : List Node → ℕ → ℕ → Bool → Turn → List ℕ → Type 0
StartsOf t a b false m x = Fresh m x
StartsOf t a b true m x = Middle t a b m x

module _ {t : List Node} {a b : ℕ} where
  pub reached_to : (f : Bool) {m : Turn} {x : List ℕ} → Reached t a b (StartsOf t a b f) m x → ReachedBy (Sides t a b) f m x
  reached_to false (start s) = start_by s
  reached_to true {x = x} (start s) = start_by (to_part true false _ x s)
  reached_to f (piece h r) = more (reached_to f h) r

  pub reached_from : (f : Bool) {m : Turn} {x : List ℕ} → ReachedBy (Sides t a b) f m x → Reached t a b (StartsOf t a b f) m x
  reached_from false (start_by s) = start s
  reached_from true {x = x} (start_by s) = start (from_part true false _ x s)
  reached_from f (more h r) = piece (reached_from f h) r

module _ (n : ℕ) (t : List Node) (wf : WellFormed n t) (v a b : ℕ) where
  choice_fact : (f g : Bool) (u : List ℕ) → IsNode t v (Choice a b) → Fact f g t v u ↔ (Fact f g t a u ⊎ Fact f g t b u)
  choice_fact f g u is = (
    λ h. ⊎_elim (λ k. inl (from_part f g a u k)) (λ k. inr (from_part f g b u k)) (choice_to (parts_of is (to_part f g v u h))),
    λ h. from_part f g v u (parts_from is (choice_from (⊎_elim (λ k. inl (to_part f g a u k)) (λ k. inr (to_part f g b u k)) h))),
  )

  pub choice_at : IsNode t v (Choice a b) → (u : List ℕ) → ChoiceAt t v a b u
  choice_at is u = record { contained = choice_fact true true u is; begins = choice_fact false true u is; ends = choice_fact true false u is; whole = choice_fact false false u is }

  lower_route : (x : ℕ) → IsNode t v (Sequence a b) ⊎ IsNode t v (Loop a b) → Lower v x → Some (Route t x)
  lower_route x is l = some_route n t wf l.0 (⊎_elim (λ i. omega (arith, i.inside)) (λ i. omega (arith, i.inside)) is)

  module _ (is : IsNode t v (Sequence a b)) (u : List ℕ) where
    joined : (f g : Bool) → Fact f g t v u → Joined f g (Route t a) (Route t b) u
    joined f g h = sequence_to f g u (parts_of is (to_part f g v u h))

    unjoined : (f g : Bool) → Joined f g (Route t a) (Route t b) u → Fact f g t v u
    unjoined f g h = from_part f g v u (parts_from is (sequence_from (lower_route a (inl is) (proper n t wf is).0) (lower_route b (inl is) (proper n t wf is).1) f g u h))

    cut_at : (f g : Bool) → Cut u (Fact f false t a) (Fact false g t b) → Fact f g t v u
    cut_at f g (x, y, e, h, k) = unjoined f g (across x y e (to_part f false a x h) (to_part false g b y k))

    in_a : (f : Bool) → Fact f true t a u → Fact f true t v u
    in_a f h = unjoined f true (in_first refl (to_part f true a u h))

    in_b : (g : Bool) → Fact true g t b u → Fact true g t v u
    in_b g h = unjoined true g (in_second refl (to_part true g b u h))

    contained_cases : Joined true true (Route t a) (Route t b) u → SomeContains t a u ⊎ (SomeContains t b u ⊎ Cut u (SomeEnds t a) (SomeBegins t b))
    contained_cases (across x y e h k) = inr (inr (x, y, e, from_part true false a x h, from_part false true b y k))
    contained_cases (in_first e h) = inl (from_part true true a u h)
    contained_cases (in_second e h) = inr (inl (from_part true true b u h))

    begins_cases : Joined false true (Route t a) (Route t b) u → SomeBegins t a u ⊎ Cut u (Route t a) (SomeBegins t b)
    begins_cases (across x y e h k) = inr (x, y, e, from_part false false a x h, from_part false true b y k)
    begins_cases (in_first e h) = inl (from_part false true a u h)
    begins_cases (in_second e h) = absurd (false≢true e)

    ends_cases : Joined true false (Route t a) (Route t b) u → SomeEnds t b u ⊎ Cut u (SomeEnds t a) (Route t b)
    ends_cases (across x y e h k) = inr (x, y, e, from_part true false a x h, from_part false false b y k)
    ends_cases (in_first e h) = absurd (false≢true e)
    ends_cases (in_second e h) = inl (from_part true false b u h)

    whole_cases : Joined false false (Route t a) (Route t b) u → Cut u (Route t a) (Route t b)
    whole_cases (across x y e h k) = (x, y, e, from_part false false a x h, from_part false false b y k)
    whole_cases (in_first e h) = absurd (false≢true e)
    whole_cases (in_second e h) = absurd (false≢true e)

    pub sequence_at : SequenceAt t v a b u
    sequence_at = record {
      contained = (λ h. contained_cases (joined true true h), ⊎_elim (in_a true) (⊎_elim (in_b true) (cut_at true true)));
      begins = (λ h. begins_cases (joined false true h), ⊎_elim (in_a false) (cut_at false true));
      ends = (λ h. ends_cases (joined true false h), ⊎_elim (in_b false) (cut_at true false));
      whole = (λ h. whole_cases (joined false false h), cut_at false false);
    }

  module _ (is : IsNode t v (Loop a b)) (u : List ℕ) where
    pub sides : (m : Turn) → Some (Sides t a b m)
    sides next_a = lower_route a (inr is) (proper n t wf is).0
    sides next_b = lower_route b (inr is) (proper n t wf is).1

    finished : (f g : Bool) → Fact f g t v u → Finished (Sides t a b) f g u
    finished f g h = loop_to (Sides t a b) sides f g u (parts_of is (to_part f g v u h))

    unfinished : (f g : Bool) → Finished (Sides t a b) f g u → Fact f g t v u
    unfinished f g h = from_part f g v u (parts_from is (loop_from (Sides t a b) sides f g u h))

    closed : (f : Bool) → Fact f false t v u ↔ Reached t a b (StartsOf t a b f) next_b u
    closed f = (λ h. reached_from f (finished f false h), λ h. unfinished f false (reached_to f h))

    in_piece : (m : Turn) → Part true true (Sides t a b m) u → SomeContains t a u ⊎ SomeContains t b u
    in_piece next_a h = inl (from_part true true a u h)
    in_piece next_b h = inr (from_part true true b u h)

    underway : (f : Bool) → Finished (Sides t a b) f true u → Underway t a b (StartsOf t a b f) u ⊎ ((f ≡ true) × (SomeContains t a u ⊎ SomeContains t b u))
    underway f (inl (m, x, y, e, h, k)) = inl (m, (x, y, e, reached_from f h, from_part false true (child a b m) y k))
    underway f (inr (e, m, k)) = inr (e, in_piece m k)

    carried_on : (f : Bool) → Underway t a b (StartsOf t a b f) u → Fact f true t v u
    carried_on f (m, (x, y, e, h, k)) = unfinished f true (inl (m, x, y, e, reached_to f h, to_part false true (child a b m) y k))

    inner : (m : Turn) → SomeContains t (child a b m) u → SomeContains t v u
    inner m h = unfinished true true (inr (refl, m, to_part true true (child a b m) u h))

    pub loop_at : LoopAt t v a b u
    loop_at = record {
      contained = (λ h. ⊎_elim (λ k. inr (inr k)) (λ k. ⊎_elim inl (λ j. inr (inl j)) k.1) (underway true (finished true true h)), ⊎_elim (inner next_a) (⊎_elim (inner next_b) (carried_on true)));
      begins = (λ h. ⊎_elim (λ k. k) (λ k. absurd (false≢true k.0)) (underway false (finished false true h)), carried_on false);
      ends = closed true;
      whole = closed false;
    }

  parallel_fact : (f g : Bool) (u : List ℕ) → IsNode t v (Parallel a b) → Fact f g t v u ↔ Selection u (Fact f g t a) (Fact f g t b)
  parallel_fact f g u is = (
    λ h.
        let (x, y, i, p, q) = parallel_to f g u (parts_of is (to_part f g v u h)) in
        let s = selection i in
        (s.mask, s.below, subst (Fact f g t a) (sym s.picks) (from_part f g a x p), subst (Fact f g t b) (sym s.leaves) (from_part f g b y q)),
    λ h. from_part f g v u (parts_from is (parallel_from f g u (_, _, selected h.0 u, to_part f g a _ h.2, to_part f g b _ h.3))),
  )

  pub parallel_at : IsNode t v (Parallel a b) → (u : List ℕ) → ParallelAt t v a b u
  parallel_at is u = record { contained = parallel_fact true true u is; begins = parallel_fact false true u is; ends = parallel_fact true false u is; whole = parallel_fact false false u is }

pub choice_laws_lem : ChoiceLaws
choice_laws_lem n t wf v a b is u = choice_at n t wf v a b is u

pub sequence_laws_lem : SequenceLaws
sequence_laws_lem n t wf v a b is u = sequence_at n t wf v a b is u

pub loop_laws_lem : LoopLaws
loop_laws_lem n t wf v a b is u = loop_at n t wf v a b is u

pub parallel_laws_lem : ParallelLaws
parallel_laws_lem n t wf v a b is u = parallel_at n t wf v a b is u
