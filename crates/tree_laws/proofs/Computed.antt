-- Standings: from bits to facts and back, worked out from the children, and one for each word.
use Rattle.std.proofs.Common.{◌≡◌, ℕ, zero, suc, ◌+◌, ◌-◌, ◌/◌, ◌<◌, ◌≤◌, Bool, true, false, cond, not, eqb, ◌↔◌, List, length, get_or, Decides, All, sym, refl, ap, ◌∙◌, ⊎_elim, arith, length-drop, length-take}
use lib.Bits.{bit_and}
use Rattle.std.proofs.lemmas.Nat.{shr-shr}
use Rattle.std.proofs.lemmas.List.Elements.{All-cons, All-drop, All-head, All-nil, All-tail, All-take}
use Rattle.std.proofs.lemmas.Bool.{eqb-true, eq-eqb, not_from_true, both_ways, cases_Bool}
use Rattle.std.proofs.lemmas.Bool.Decides.{nat_tests, same_from_decides, Decides-at, Decides-like}
use Rattle.terms.specs.Words.{Move, Moves}
use Rattle.tree_laws.specs.declared.Node.{Node}
use Rattle.tree_laws.specs.declared.Node.TheVariants.{Skip, Move as Single, Choice, Sequence, Loop, Parallel}
use Rattle.tree_laws.specs.Routes.{Interleaving, none, from_left, from_right, IsNode, Route, Lower, Proper, WellFormed}
use Rattle.tree_laws.specs.Facts.{SomeContains, SomeBegins, SomeEnds, Standing}
use Rattle.tree_laws.specs.Boundaries.{Turn, next_a, next_b}
use Rattle.tree_laws.specs.Computed.{has, of_turn, standing_of}
use Rattle.tree_laws.specs.Standings.{Children, Known, ComputedLaws, BitsAt, StandingLaws}
use Rattle.tree_laws.proofs.Parts.{Some, Part, widen}
use Rattle.tree_laws.proofs.Masks.{selected}
use Rattle.tree_laws.proofs.Nodes.{Sides, node_is, taken_apart, put_together, Fact, to_part, from_part, proper, some_route}
use Rattle.tree_laws.proofs.Bits.{on, has_on}
use Rattle.tree_laws.proofs.Standings.{place, Right, right_map, skip_right, move_right, choice_right, Closed, sequence_right, parallel_right}
use Rattle.tree_laws.proofs.LoopStandings.{loop_right}

-- ---- the sum of the bits

sum_of_bits : (s : ℕ) → s < 16 → s ≡ cond (on s 0) 1 0 + cond (on s 1) 2 0 + cond (on s 2) 4 0 + cond (on s 3) 8 0
sum_of_bits s h =
    let quarter : s / 2 / 2 ≡ s / 4 = shr-shr s 1 1 in
    let eighth : s / 4 / 2 ≡ s / 8 = shr-shr s 2 1 in
    grind (arith, nat_tests)

record Digits (c b e w : Bool) (s : ℕ) : Type 0 where
  small : s < 16
  first : on s 0 ≡ c
  second : on s 1 ≡ b
  third : on s 2 ≡ e
  fourth : on s 3 ≡ w

bits_of_sum : (c b e w : Bool) (s : ℕ) → s ≡ cond c 1 0 + cond b 2 0 + cond e 4 0 + cond w 8 0 → Digits c b e w s
bits_of_sum c b e w s is =
    let kc = cases_Bool c in
    let kb = cases_Bool b in
    let ke = cases_Bool e in
    let kw = cases_Bool w in
    record {
      small = grind (arith, nat_tests);
      first = grind (arith, nat_tests);
      second = grind (arith, nat_tests);
      third = grind (arith, nat_tests);
      fourth = grind (arith, nat_tests);
    }

module _ {t : List Node} {v : ℕ} {u : List ℕ} {s : ℕ} where
  fact_tells : (f b : Bool) → Right (Route t v) u s → Decides (on s (place f b)) (Fact f b t v u)
  fact_tells f b r = Decides-like _ (from_part f b v u) (to_part f b v u) (r.tells f b)

  pub standing_from : Right (Route t v) u s → Standing t v u s
  standing_from r = record {
    contained = on s 0;
    begins = on s 1;
    ends = on s 2;
    whole = on s 3;
    contained_tells = fact_tells true true r;
    begins_tells = fact_tells false true r;
    ends_tells = fact_tells true false r;
    whole_tells = fact_tells false false r;
    sum = sum_of_bits s r.small;
  }

  digits : (h : Standing t v u s) → Digits h.contained h.begins h.ends h.whole s
  digits h = bits_of_sum h.contained h.begins h.ends h.whole s h.sum

  pub right_from : Standing t v u s → Right (Route t v) u s
  right_from h = record { small = (digits h).small; tells = each }
    where
      each : (f b : Bool) → Decides (on s (place f b)) (Part f b (Route t v) u)
      each true true = Decides-at _ _ (digits h).first (Decides-like _ (to_part true true v u) (from_part true true v u) h.contained_tells)
      each false true = Decides-at _ _ (digits h).second (Decides-like _ (to_part false true v u) (from_part false true v u) h.begins_tells)
      each true false = Decides-at _ _ (digits h).third (Decides-like _ (to_part true false v u) (from_part true false v u) h.ends_tells)
      each false false = Decides-at _ _ (digits h).fourth (Decides-like _ (to_part false false v u) (from_part false false v u) h.whole_tells)

-- a test of a mask, and the number that it tests
pub no_bit : {P : Type 0} (s m : ℕ) → Decides (has s m) P → (bit_and s m ≡ 0) ↔ (P → ⊥)
no_bit s m d = (
  λ e p. both_ways (has s m) (not_from_true _ (eq-eqb (bit_and s m) 0 e)) (d.1 p),
  λ n. ⊎_elim (λ e. eqb-true (bit_and s m) 0 e) (λ e. absurd (n (d.0 (ap not e)))) (cases_Bool (eqb (bit_and s m) 0)),
)

pub bits_at : (t : List Node) (v : ℕ) (u : List ℕ) (s : ℕ) → Standing t v u s → BitsAt t v u s
bits_at t v u s h =
    let r = right_from h in
    let c : Decides (has s 1) (SomeContains t v u) = Decides-at _ _ (has_on s 0) (fact_tells true true r) in
    let b : Decides (has s 2) (SomeBegins t v u) = Decides-at _ _ (has_on s 1) (fact_tells false true r) in
    let e : Decides (has s 4) (SomeEnds t v u) = Decides-at _ _ (has_on s 2) (fact_tells true false r) in
    let w : Decides (has s 8) (Route t v u) = Decides-at _ _ (has_on s 3) (fact_tells false false r) in
    record {
      small = r.small;
      none = (
        λ z. (no_bit s 1 c).0 (ap (λ x. bit_and x 1) z),
        λ n.
            let off : (f b : Bool) (x : Bool) → Decides x (Fact f b t v u) → x ≡ false = λ f b x d. ⊎_elim (λ e. absurd (n (from_part true true v u (widen f b (to_part f b v u (d.0 e)))))) (λ e. e) (cases_Bool x) in
            h.sum ∙ (λ i. cond (off true true h.contained h.contained_tells i) 1 0 + cond (off false true h.begins h.begins_tells i) 2 0 + cond (off true false h.ends h.ends_tells i) 4 0 + cond (off false false h.whole h.whole_tells i) 8 0),
      );
      contained = c;
      begins = b;
      ends = e;
      whole = w;
      not_contained = no_bit s 1 c;
      not_begins = no_bit s 2 b;
      not_ends = no_bit s 4 e;
      not_whole = no_bit s 8 w;
    }

pub unique_standing : (t : List Node) (v : ℕ) (u : List ℕ) (s r : ℕ) → Standing t v u s → Standing t v u r → s ≡ r
unique_standing t v u s r h k =
    let c = same_from_decides _ _ h.contained_tells k.contained_tells in
    let b = same_from_decides _ _ h.begins_tells k.begins_tells in
    let e = same_from_decides _ _ h.ends_tells k.ends_tells in
    let w = same_from_decides _ _ h.whole_tells k.whole_tells in
    h.sum ∙ (λ i. cond (c i) 1 0 + cond (b i) 2 0 + cond (e i) 4 0 + cond (w i) 8 0) ∙ sym k.sum

-- ---- worked out from the children

module _ (n : ℕ) (t : List Node) (wf : WellFormed n t) {Ok : List ℕ → Type 0} (closed : Closed Ok) (sa sb : List ℕ → ℕ) (u : List ℕ) (ok : Ok u) where
  abbrev RightAt : (List ℕ → ℕ) → ℕ → Type 0
  RightAt s a = (w : List ℕ) → Ok w → Right (Route t a) w (s w)

  pub computed_right : {v : ℕ} (x : Node) → IsNode t v x → Children x (RightAt sa) (RightAt sb) → Right (Route t v) u (standing_of x sa sb u)
  computed_right Skip is c = right_map (λ w. put_together Skip is) (λ w. taken_apart is) (skip_right u)
  computed_right (Single m) is c = right_map (λ w. put_together (Single m) is) (λ w. taken_apart is) (move_right m u)
  computed_right (Choice a b) is c = right_map (λ w. put_together (Choice a b) is) (λ w. taken_apart is) (choice_right (c.0 u ok) (c.1 u ok))
  computed_right (Sequence a b) is c =
      let (la, lb) = proper n t wf is in
      right_map (λ w. put_together (Sequence a b) is) (λ w. taken_apart is)
      (sequence_right closed sa sb c.0 c.1 u ok (some_route n t wf la.0 (omega (arith, is.inside))) (some_route n t wf lb.0 (omega (arith, is.inside))))
  computed_right {v} (Loop a b) is c =
      let (la, lb) = proper n t wf is in
      let sides : (m : Turn) → Some (Sides t a b m) = elim [ next_a ↦ some_route n t wf la.0 (omega (arith, is.inside)) | next_b ↦ some_route n t wf lb.0 (omega (arith, is.inside)) ] in
      let known : (m : Turn) (w : List ℕ) → Ok w → Right (Sides t a b m) w (of_turn sa sb m w) = elim [ next_a ↦ c.0 | next_b ↦ c.1 ] in
      right_map (λ w. put_together (Loop a b) is) (λ w. taken_apart is) (loop_right closed sa sb known u ok sides)
  computed_right (Parallel a b) is c = right_map (λ w. put_together (Parallel a b) is) (λ w. taken_apart is) (parallel_right closed sa sb c.0 c.1 u ok)

-- ---- words of at most k moves

record Short (n k : ℕ) (u : List ℕ) : Type 0 where
  moves : Moves n u
  short : length u ≤ k

pub parts_all : (P : ℕ → Type 0) {x y w : List ℕ} → Interleaving x y w → All P w → All P x × All P y
parts_all P none h = (All-nil P, All-nil P)
parts_all P (from_left i) h = let r = parts_all P i (All-tail P _ _ h) in (All-cons P _ _ (All-head P _ _ h) r.0, r.1)
parts_all P (from_right i) h = let r = parts_all P i (All-tail P _ _ h) in (r.0, All-cons P _ _ (All-head P _ _ h) r.1)

pub parts_long : {x y w : List ℕ} → Interleaving x y w → length x + length y ≡ length w
parts_long none = refl
parts_long (from_left i) = omega (arith, parts_long i)
parts_long (from_right i) = omega (arith, parts_long i)

short_closed : (n k : ℕ) → Closed (Short n k)
short_closed n k = record {
  ok_nil = record { moves = All-nil (Move n); short = omega arith };
  ok_take = λ j u h. record { moves = All-take (Move n) j u h.moves; short = omega (arith, h.short, length-take j u) };
  ok_drop = λ j u h. record { moves = All-drop (Move n) j u h.moves; short = omega (arith, h.short, length-drop j u) };
  ok_picked = λ j u h. record { moves = (parts_all (Move n) (selected j u) h.moves).0; short = omega (arith, h.short, parts_long (selected j u)) };
  ok_left = λ j u h. record { moves = (parts_all (Move n) (selected j u) h.moves).1; short = omega (arith, h.short, parts_long (selected j u)) };
}

children_map : (x : Node) {P Q P' Q' : ℕ → Type 0} → ((a : ℕ) → P a → P' a) → ((a : ℕ) → Q a → Q' a) → Children x P Q → Children x P' Q'
children_map Skip f g c = tt
children_map (Single m) f g c = tt
children_map (Choice a b) f g c = (f a c.0, g b c.1)
children_map (Sequence a b) f g c = (f a c.0, g b c.1)
children_map (Loop a b) f g c = (f a c.0, g b c.1)
children_map (Parallel a b) f g c = (f a c.0, g b c.1)

pub computed_laws_lem : ComputedLaws
computed_laws_lem n k t wf v x is sa sb c u moves short =
    let known : (s : List ℕ → ℕ) (a : ℕ) → Known n k t s a → (w : List ℕ) → Short n k w → Right (Route t a) w (s w) = λ s a h w o. right_from (h w o.moves o.short) in
    standing_from (computed_right n t wf (short_closed n k) sa sb u (record { moves = moves; short = short }) x is (children_map x (known sa) (known sb) c))

-- ---- every word has a standing

any_closed : Closed (λ w. Unit {0})
any_closed = record { ok_nil = tt; ok_take = λ j u h. tt; ok_drop = λ j u h. tt; ok_picked = λ j u h. tt; ok_left = λ j u h. tt }

module _ (n : ℕ) (t : List Node) (wf : WellFormed n t) where
  abbrev AllRight : ℕ → Type 0
  AllRight v = (s : List ℕ → ℕ) × ((w : List ℕ) → Right (Route t v) w (s w))

  from_children : {v : ℕ} (x : Node) → IsNode t v x → (sa sb : List ℕ → ℕ) → Children x (λ a. (w : List ℕ) → Right (Route t a) w (sa w)) (λ b. (w : List ℕ) → Right (Route t b) w (sb w)) → AllRight v
  from_children x is sa sb c = (standing_of x sa sb, λ u. computed_right n t wf any_closed sa sb u tt x is (children_map x (λ a h w o. h w) (λ a h w o. h w) c))

  from_lower : {v : ℕ} (x : Node) → IsNode t v x → Proper n v x → ((a : ℕ) → Lower v a → AllRight a) → AllRight v
  from_lower Skip is p below = from_children Skip is (λ w. 0) (λ w. 0) tt
  from_lower (Single m) is p below = from_children (Single m) is (λ w. 0) (λ w. 0) tt
  from_lower (Choice a b) is p below = let x = below a p.0 in let y = below b p.1 in from_children (Choice a b) is x.0 y.0 (x.1, y.1)
  from_lower (Sequence a b) is p below = let x = below a p.0 in let y = below b p.1 in from_children (Sequence a b) is x.0 y.0 (x.1, y.1)
  from_lower (Loop a b) is p below = let x = below a p.0 in let y = below b p.1 in from_children (Loop a b) is x.0 y.0 (x.1, y.1)
  from_lower (Parallel a b) is p below = let x = below a p.0 in let y = below b p.1 in from_children (Parallel a b) is x.0 y.0 (x.1, y.1)

  right_below : (bound v : ℕ) → v ≤ bound → 1 ≤ v → v ≤ length t → AllRight v
  right_below zero v h low high = absurd (omega arith)
  right_below (suc k) v h low high = from_lower (get_or t (v - 1) Skip) (node_is low high) (wf v low high) (λ a l. right_below k a (omega arith) l.0 (omega arith))

pub standing_laws_lem : StandingLaws
standing_laws_lem = record {
  exists = λ n t wf v low high u. let r = right_below n t wf v v (omega arith) low high in (r.0 u, standing_from (r.1 u));
  unique = unique_standing;
  bits = bits_at;
}
