-- The routes of a node as a language made of those of its children.
use Rattle.std.proofs.Common.{◌≡◌, ℕ, zero, suc, ◌-◌, ◌≤◌, Bool, true, false, ◌⊎◌, List, [], ◌∷◌, ◌++◌, length, get_or, sym, refl, ap, ◌∙◌, subst, inl, inr, ⊎_elim, append-nil, arith}
use Rattle.std.proofs.lemmas.List.Elements.{All-append, All-cons, All-head, All-nil, All-tail}
use Rattle.terms.specs.Words.{Move, Moves}
use Rattle.tree_laws.specs.declared.Node.{Node}
use Rattle.tree_laws.specs.declared.Node.TheVariants.{Skip, Move as Single, Choice, Sequence, Loop, Parallel}
use Rattle.tree_laws.specs.Routes.{Interleaving, none, from_left, from_right, IsNode, Route, skip, single, left, right, sequence, once, again, parallel, Lower, Proper, WellFormed}
use Rattle.tree_laws.specs.Facts.{SomeContains, SomeBegins, SomeEnds}
use Rattle.tree_laws.specs.Boundaries.{Turn, next_a, next_b, child}
use Rattle.tree_laws.proofs.Splits.{carry}
use Rattle.tree_laws.proofs.Parts.{Language, Some, Part, Either, Then, Interleaved, part_map, ending, beginning, ended, begun, whole_of, of_whole, contained, one_after_other}
use Rattle.tree_laws.proofs.Loops.{Run, stop, step}

-- the routes of the child whose turn it is
abbrev pub Sides : List Node → ℕ → ℕ → Turn → Language
Sides t a b m = Route t (child a b m)

abbrev pub Made : List Node → Node → Language
Made t Skip w = w ≡ []
Made t (Single m) w = w ≡ m ∷ []
Made t (Choice a b) w = Either (Route t a) (Route t b) w
Made t (Sequence a b) w = Then (Route t a) (Route t b) w
Made t (Loop a b) w = Run (Sides t a b) next_b next_a w
Made t (Parallel a b) w = Interleaved (Route t a) (Route t b) w

-- a run of a loop's children from either turn on
abbrev From : List Node → ℕ → ℕ → Turn → Language
From t v b next_a w = Route t v w
From t v b next_b w = (w ≡ []) ⊎ ((y : List ℕ) × (z : List ℕ) × (w ≡ y ++ z) × Route t b y × Route t v z)

module _ {t : List Node} where
  pub node_is : {v : ℕ} → 1 ≤ v → v ≤ length t → IsNode t v (get_or t (v - 1) Skip)
  node_is low high = record { from_one = low; inside = high; kind = refl }

  unmake : {v : ℕ} {w : List ℕ} → Route t v w → Made t (get_or t (v - 1) Skip) w
  unmake (skip is) = subst (λ x. Made t x []) (sym is.kind) refl
  unmake (single {m = m} is) = subst (λ x. Made t x (m ∷ [])) (sym is.kind) refl
  unmake (left {w = w} is r) = subst (λ x. Made t x w) (sym is.kind) (inl r)
  unmake (right {w = w} is r) = subst (λ x. Made t x w) (sym is.kind) (inr r)
  unmake (sequence {x = x} {y = y} is r s) = subst (λ k. Made t k (x ++ y)) (sym is.kind) (x, y, refl, r, s)
  unmake (once {w = w} is r) = subst (λ k. Made t k w) (sym is.kind) (carry (Run _ next_b next_a) (step r stop) (append-nil w))
  unmake (again {x = x} {y = y} {z = z} is r s k) =
      let rest = subst (λ j. Made t j z) is.kind (unmake k) in
      subst (λ j. Made t j (x ++ (y ++ z))) (sym is.kind) (step r (step s rest))
  unmake (parallel {x = x} {y = y} {w = w} is r s i) = subst (λ k. Made t k w) (sym is.kind) (x, y, i, r, s)

  pub taken_apart : {v : ℕ} {k : Node} {w : List ℕ} → IsNode t v k → Route t v w → Made t k w
  taken_apart {w = w} is r = subst (λ j. Made t j w) is.kind (unmake r)

  run_route : {v a b : ℕ} → IsNode t v (Loop a b) → {s : Turn} {w : List ℕ} → Run (Sides t a b) next_b s w → From t v b s w
  run_route is stop = inl refl
  run_route {v} is (step {s = next_a} {x = x} l r) =
      ⊎_elim
      (λ e. carry (Route t v) (once is l) (sym (append-nil x) ∙ ap (λ z. x ++ z) (sym e)))
      (λ h. carry (Route t v) (again is l h.3 h.4) (ap (λ z. x ++ z) (sym h.2)))
      (run_route is r)
  run_route is (step {s = next_b} {x = x} {w = w} l r) = inr (x, w, refl, l, run_route is r)

  pub put_together : {v : ℕ} (k : Node) {w : List ℕ} → IsNode t v k → Made t k w → Route t v w
  put_together {v} Skip is e = carry (Route t v) (skip is) (sym e)
  put_together {v} (Single m) is e = carry (Route t v) (single is) (sym e)
  put_together (Choice a b) is m = ⊎_elim (left is) (right is) m
  put_together {v} (Sequence a b) is (x, y, e, r, s) = carry (Route t v) (sequence is r s) (sym e)
  put_together (Loop a b) is m = run_route is m
  put_together (Parallel a b) is (x, y, i, r, s) = parallel is r s i

  pub parts_of : {f b : Bool} {v : ℕ} {k : Node} {u : List ℕ} → IsNode t v k → Part f b (Route t v) u → Part f b (Made t k) u
  parts_of {k = k} is = part_map (Made t k) (λ w. taken_apart is)

  pub parts_from : {f b : Bool} {v : ℕ} {k : Node} {u : List ℕ} → IsNode t v k → Part f b (Made t k) u → Part f b (Route t v) u
  parts_from {v = v} {k = k} is = part_map (Route t v) (λ w. put_together k is)

-- the four facts of a word at a node, by which of its sides are open
abbrev pub Fact : Bool → Bool → List Node → ℕ → List ℕ → Type 0
Fact true true t v u = SomeContains t v u
Fact false true t v u = SomeBegins t v u
Fact true false t v u = SomeEnds t v u
Fact false false t v u = Route t v u

pub to_part : (f b : Bool) {t : List Node} (v : ℕ) (u : List ℕ) → Fact f b t v u → Part f b (Route t v) u
to_part true true v u (w, r, c) = contained c.0 c.1 r c.2
to_part false true {t} v u (w, r, c) = beginning true (Route t v) u c.0 tt (carry (Route t v) r c.1)
to_part true false {t} v u (w, r, c) = ending true (Route t v) c.0 u tt (carry (Route t v) r c.1)
to_part false false v u r = of_whole r

pub from_part : (f b : Bool) {t : List Node} (v : ℕ) (u : List ℕ) → Part f b (Route t v) u → Fact f b t v u
from_part true true v u h = (h.before ++ (u ++ h.after), h.word, (h.before, h.after, refl))
from_part false true v u h = let (q, o, r) = begun h in (u ++ q, r, (q, refl))
from_part true false v u h = let (p, o, r) = ended h in (p ++ u, r, (p, refl))
from_part false false v u h = whole_of h

-- ---- well-formed tables

interleaved_moves : (n : ℕ) {x y w : List ℕ} → Interleaving x y w → Moves n x → Moves n y → Moves n w
interleaved_moves n none p q = All-nil (Move n)
interleaved_moves n (from_left i) p q = All-cons (Move n) _ _ (All-head (Move n) _ _ p) (interleaved_moves n i (All-tail (Move n) _ _ p) q)
interleaved_moves n (from_right i) p q = All-cons (Move n) _ _ (All-head (Move n) _ _ q) (interleaved_moves n i p (All-tail (Move n) _ _ q))

module _ (n : ℕ) (t : List Node) (wf : WellFormed n t) where
  pub proper : {v : ℕ} {k : Node} → IsNode t v k → Proper n v k
  proper {v} is = subst (Proper n v) is.kind (wf v is.from_one is.inside)

  some_here : {v : ℕ} (k : Node) → IsNode t v k → Proper n v k → ((a : ℕ) → Lower v a → Some (Route t a)) → Some (Route t v)
  some_here Skip is p below = ([], skip is)
  some_here (Single m) is p below = (m ∷ [], single is)
  some_here (Choice a b) is p below = let (w, r) = below a p.0 in (w, left is r)
  some_here (Sequence a b) is p below = ((below a p.0).0 ++ (below b p.1).0, sequence is (below a p.0).1 (below b p.1).1)
  some_here (Loop a b) is p below = let (w, r) = below a p.0 in (w, once is r)
  some_here (Parallel a b) is p below =
      let (x, r) = below a p.0 in
      let (y, s) = below b p.1 in
      (x ++ y, parallel is r s (one_after_other x y))

  some_below : (bound v : ℕ) → v ≤ bound → 1 ≤ v → v ≤ length t → Some (Route t v)
  some_below zero v h low high = absurd (omega arith)
  some_below (suc k) v h low high =
      some_here (get_or t (v - 1) Skip) (node_is low high) (wf v low high) (λ a l. some_below k a (omega arith) l.0 (omega arith))

  -- every node has a route
  pub some_route : {v : ℕ} → 1 ≤ v → v ≤ length t → Some (Route t v)
  some_route {v} low high = some_below v v (omega arith) low high

  -- every route consists of moves
  pub route_moves : {v : ℕ} {w : List ℕ} → Route t v w → Moves n w
  route_moves (skip is) = All-nil (Move n)
  route_moves (single {m = m} is) = All-cons (Move n) m [] (proper is) (All-nil (Move n))
  route_moves (left is r) = route_moves r
  route_moves (right is r) = route_moves r
  route_moves (sequence {x = x} {y = y} is r s) = All-append (Move n) x y (route_moves r) (route_moves s)
  route_moves (once is r) = route_moves r
  route_moves (again {x = x} {y = y} {z = z} is r s k) = All-append (Move n) x (y ++ z) (route_moves r) (All-append (Move n) y z (route_moves s) (route_moves k))
  route_moves (parallel is r s i) = interleaved_moves n i (route_moves r) (route_moves s)
