-- What a rack holds while the rows of the playable windows are put in: at the start, from one turn to the next, and at the end.
use Rattle.std.proofs.Common.{◌≡◌, ℕ, ◌+◌, ◌*◌, ◌^◌, ◌<◌, ◌≤◌, List, length, refl, ap, ◌∙◌, inl, inr, ⊎_elim, mul-le-mul_right, arith}
use Rattle.std.proofs.lemmas.Bool.{cases_Bool, cases_eq, cases_lt}
use Rattle.std.proofs.lemmas.Bool.Decides.{not_from_Decides}
use Rattle.terms.specs.Codes.{base, code}
use Rattle.terms.specs.Words.{Moves}
use Rattle.terms.proofs.Codes.{code_apart}
use Rattle.racks.specs.Views.{written}
use Rattle.racks.specs.Counts.{written_here, written_other}
use Rattle.tree_laws.specs.declared.Node.{Node}
use Rattle.tree_laws.specs.Computed.{has}
use Rattle.tree_laws.specs.Facts.{Playable}
use Rattle.tree_laws.specs.Routes.{WellFormed}
use Rattle.tree_laws.proofs.Computed.{bits_at}
use Rattle.row_laws.specs.Progress.{NodeKey, Upto}
use Rattle.row_laws.specs.Rows.{row_key, HasRow, RowsAt}
use Rattle.row_laws.specs.Windowed.{with_marks, Fits, turn, WindowKey, Windowed}
use Rattle.row_laws.proofs.WithMarks.{Marking, fits_short, with_marks_items, with_marks_apart, turn_apart, with_marks_below, turn_below, marking_of_window, window_of_marking, with_marks_decides, with_marks_none}

-- the key of a node's row is not below the base's power
pub node_key_high : (n k v : ℕ) (u : List ℕ) → 1 ≤ v → base n ^ k ≤ row_key n k v u
node_key_high n k v u low =
    let scaled : 1 * base n ^ k ≤ v * base n ^ k = mul-le-mul_right (base n ^ k) low in
    omega arith

-- the code of a playable window has a row
pub with_marks_row : (n k : ℕ) (t : List Node) (i : ℕ) (u : List ℕ) → i < 4 → Moves n u → Fits k i (length u) → Playable t k (with_marks i u) → HasRow n k t (code n (with_marks i u))
with_marks_row n k t i u four moves fits playable = inr (record {
  window = with_marks i u;
  is_window = window_of_marking n k (with_marks i u) (record { marks = i; word = u; four = four; moves = moves; fits = fits; is = refl });
  playable = playable;
  key_is = refl;
})

module _ (n k : ℕ) (t : List Node) (few : n ≤ 12) (wide : 2 ≤ k) (wf : WellFormed n t) (some : 1 ≤ length t) where
  pub windowed_none : {f : ℕ → ℕ} → Upto n k t (length t) f → Windowed n k t 0 f
  windowed_none {f} h = record {
    standings = h.standings;
    played = λ i u four moves fits l p. absurd (omega arith);
    unplayed = λ i u four moves fits l no. absurd (omega arith);
    pending = λ i u four moves fits l.
        let not_held : 0 < f (code n (with_marks i u)) → ⊥ =
        λ held. let r = h.only (code n (with_marks i u)) held in omega (arith, with_marks_below n few k i u moves fits, node_key_high n k r.node r.word r.from_one, r.key_is) in
        omega (arith, not_held);
    only = λ key held. inl (h.only key held);
  }

  module _ {d : ℕ} {f : ℕ → ℕ} (h : Windowed n k t d f) (i : ℕ) (u : List ℕ) (four : i < 4) (moves : Moves n u) (here : d ≡ turn n i u) where
    -- before its turn a window has no row
    pub windowed_before : Fits k i (length u) → (code n (with_marks i u) < base n ^ k) × (f (code n (with_marks i u)) ≡ 0)
    windowed_before fits = (with_marks_below n few k i u moves fits, h.pending i u four moves fits (omega arith))

    earlier : (j : ℕ) (w : List ℕ) → j < 4 → Moves n w → turn n j w < d + 1 → (j ≡ i → w ≡ u → ⊥) → turn n j w < d
    earlier j w four' moves' l other = grind (arith, turn_apart n few j i w u four' four moves' moves, other)

    same_window : (j : ℕ) (w : List ℕ) → Moves n w → code n (with_marks j w) ≡ code n (with_marks i u) → with_marks j w ≡ with_marks i u
    same_window j w moves' e = code_apart n few (with_marks j w) (with_marks i u) (with_marks_items n few j w moves') (with_marks_items n few i u moves) e

    same_turn : (j : ℕ) (w : List ℕ) → j < 4 → Moves n w → code n (with_marks j w) ≡ code n (with_marks i u) → turn n j w ≡ turn n i u
    same_turn j w four' moves' e = let (a, b) = with_marks_apart n few j i w u four' four moves' moves e in cc

    abbrev key : ℕ
    key = code n (with_marks i u)

    pub windowed_write : Fits k i (length u) → Playable t k (with_marks i u) → Windowed n k t (d + 1) (written f (code n (with_marks i u)) 1)
    windowed_write fits playable = record {
      standings = λ v w low high moves' short.
          rw (written_other f key 1 (row_key n k v w) (λ e. omega (arith, with_marks_below n few k i u moves fits, node_key_high n k v w low)))
          (h.standings v w low high moves' short);
      played = λ j w four' moves' fits' l p.
          ⊎_elim (written_here f key 1 (code n (with_marks j w)))
          (λ ne. written_other f key 1 (code n (with_marks j w)) ne ∙ h.played j w four' moves' fits' (earlier j w four' moves' l (λ a b. ne (cc))) p)
          (cases_eq (code n (with_marks j w)) key);
      unplayed = λ j w four' moves' fits' l no.
          let ne : code n (with_marks j w) ≡ key → ⊥ = λ e. no (rw (same_window j w moves' e) playable) in
          written_other f key 1 (code n (with_marks j w)) ne ∙ h.unplayed j w four' moves' fits' (earlier j w four' moves' l (λ a b. ne (cc))) no;
      pending = λ j w four' moves' fits' l.
          written_other f key 1 (code n (with_marks j w)) (λ e. omega (arith, same_turn j w four' moves' e)) ∙ h.pending j w four' moves' fits' (omega arith);
      only = λ other held.
          ⊎_elim (λ e. inr (record { marks = i; word = u; four = four; moves = moves; fits = fits; key_is = e }))
          (λ ne. h.only other (rw (written_other f key 1 other ne) at held))
          (cases_eq other key);
    }

    -- a turn at which there is no playable window
    pub windowed_pass : (Fits k i (length u) → Playable t k (with_marks i u) → ⊥) → Windowed n k t (d + 1) f
    windowed_pass none = record {
      standings = h.standings;
      played = λ j w four' moves' fits l p.
          h.played j w four' moves' fits (earlier j w four' moves' l (λ a b. none (rw (a, b) at fits) (rw (a, b) at p))) p;
      unplayed = λ j w four' moves' fits l no. grind (arith, h.unplayed j w four' moves' fits, no, h.pending j w four' moves' fits);
      pending = λ j w four' moves' fits l. h.pending j w four' moves' fits (omega arith);
      only = h.only;
    }

  -- words with the standing 0 at the root give no window
  pub windowed_skip : (c c' : ℕ) {f : ℕ → ℕ} → Windowed n k t (4 * c) f → c ≤ c' → ((u : List ℕ) → Moves n u → length u ≤ k → c ≤ code n u → code n u < c' → f (row_key n k (length t) u) ≡ 0) → Windowed n k t (4 * c') f
  windowed_skip c c' {f} h more none = record {
    standings = h.standings;
    played = λ i u four moves fits l p.
        let short = fits_short k i (length u) fits in
        let standing = h.standings (length t) u some (omega arith) moves short in
        ⊎_elim (λ less. h.played i u four moves fits less p)
        (λ later. absurd (with_marks_none n k few wide t wf u _ moves standing i four fits (none u moves short (omega arith) (omega arith)) p))
        (cases_lt (turn n i u) (4 * c));
    unplayed = λ i u four moves fits l no. grind (arith, h.unplayed i u four moves fits, no, h.pending i u four moves fits);
    pending = λ i u four moves fits l. h.pending i u four moves fits (omega arith);
    only = h.only;
  }

  -- every held key has a row
  pub windowed_rows : {d : ℕ} {f : ℕ → ℕ} → Windowed n k t d f → (key : ℕ) → 0 < f key → HasRow n k t key
  windowed_rows {d} {f} h key held = ⊎_elim at_node at_window (h.only key held)
    where
      at_node : NodeKey n k (length t) key → HasRow n k t key
      at_node r =
          let standing = h.standings r.node r.word r.from_one r.inside r.moves r.short in
          ⊎_elim
          (λ is. inl (record { node = r.node; word = r.word; from_one = r.from_one; inside = r.inside; short = r.short; contained = standing.contained_tells.0 is; key_is = r.key_is }))
          (λ not. absurd (omega (arith, ap f r.key_is, (bits_at t r.node r.word _ standing).none.1 (not_from_Decides standing.contained standing.contained_tells not))))
          (cases_Bool standing.contained)

      at_window : WindowKey n k key → HasRow n k t key
      at_window r =
          let standing = h.standings (length t) r.word some (omega arith) r.moves (fits_short k r.marks (length r.word) r.fits) in
          let decides = with_marks_decides n k few wide t wf r.word _ r.moves standing r.marks r.four r.fits in
          ⊎_elim
          (λ is. rw r.key_is (with_marks_row n k t r.marks r.word r.four r.moves r.fits (decides.0 is)))
          (λ not. absurd (grind (arith, r.key_is, held, h.unplayed r.marks r.word r.four r.moves r.fits, not_from_Decides _ decides not, h.pending r.marks r.word r.four r.moves r.fits)))
          (cases_Bool (has (f (row_key n k (length t) r.word)) (2 ^ r.marks)))

  pub windowed_all : {d : ℕ} {f : ℕ → ℕ} → Windowed n k t d f → 4 * base n ^ k ≤ d → RowsAt n k t f
  windowed_all {d} {f} h all = record {
    standings = h.standings;
    played = λ x is p.
        let r = marking_of_window n k x wide is in
        rw r.is (h.played r.marks r.word r.four r.moves r.fits (late r) (rw r.is at p));
    unplayed = λ x is no.
        let r = marking_of_window n k x wide is in
        rw r.is (h.unplayed r.marks r.word r.four r.moves r.fits (late r) (rw r.is at no));
    only = windowed_rows h;
  }
    where
      late : {x : List ℕ} (r : Marking n k x) → turn n r.marks r.word < d
      late r = omega (arith, turn_below n few k r.marks r.word r.four r.moves r.fits)
