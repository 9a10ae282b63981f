-- The rows of the windows: one turn after another, and the walk over the root's rows.
use Rattle.std.proofs.Common.{◌≡◌, ℕ, ◌+◌, ◌-◌, ◌*◌, ◌^◌, ◌<◌, ◌≤◌, true, false, eqb, List, length, is_ok, Result, sym, refl, ap, ◌∙◌, subst, mul-le-mul_right, add-mul, arith, inl, inr, MatchResult}
use lib.Bits.{bit_and}
use Rattle.std.proofs.lemmas.Bool.{eq-eqb, ne_eqb, not_from_true, not_from_false}
use Rattle.std.proofs.lemmas.Bool.Decides.{not_from_Decides}
use Rattle.terms.specs.Codes.{base, code}
use Rattle.terms.specs.declared.Refusal.{Refusal}
use Rattle.tree_laws.specs.Computed.{has}
use Rattle.tree_laws.specs.Facts.{Playable}
use Rattle.tree_laws.specs.declared.Node.{Node}
use Rattle.racks.specs.Views.{View, LacksRoom, NoneBetween, Smallest, after_write, written}
use Rattle.row_laws.specs.Progress.{NodeKey}
use Rattle.row_laws.specs.Rows.{HasRow, MoreRows}
use Rattle.row_laws.specs.Windowed.{with_marks, Fits, Windowed, turn}
use Rattle.row_laws.proofs.WithMarks.{with_marks_below, with_marks_decides}
use Rattle.row_laws.proofs.Windowed.{with_marks_row, windowed_none, windowed_before, windowed_write, windowed_pass, windowed_skip, windowed_rows, windowed_all}
use Rattle.trees.specs.Marks.{marks_number}
use Rattle.trees.specs.Planting.{CodeOfMoves, Finished, Windows, NextWindow, Complete}
use Rattle.trees.specs.declared.window_rows.Marks.{Marks}
use Rattle.trees.specs.declared.window_rows.Marks.TheVariants.{Neither, Start, End, Both}
use Rattle.trees.proofs.Trees.{IsTree}
use Rattle.trees.proofs.Planting.{written_or_more, code_of_row, no_rows}

pub marks_four : (marks : Marks) → marks_number marks < 4
marks_four Neither = omega arith
marks_four Start = omega arith
marks_four End = omega arith
marks_four Both = omega arith

-- whether a standing has a bit, as the code tests it
module _ (s i bit : ℕ) (is : bit ≡ 2 ^ i) where
  pub bit_unset : bit_and s bit ≡ 0 → has s (2 ^ i) ≡ false
  bit_unset e = not_from_true (eqb (bit_and s (2 ^ i)) 0) (eq-eqb (bit_and s (2 ^ i)) 0 (ap (bit_and s) (sym is) ∙ e))

  pub bit_set : (bit_and s bit ≡ 0 → ⊥) → has s (2 ^ i) ≡ true
  bit_set ne = not_from_false (eqb (bit_and s (2 ^ i)) 0) (ne_eqb (bit_and s (2 ^ i)) 0 (λ e. ne (ap (bit_and s) is ∙ e)))

module _ {n k : ℕ} {t : List Node} (tree : IsTree n k t) where
  module _ (u : List ℕ) (s i : ℕ) (four : i < 4) where
    -- at this turn there is no playable window
    pub pass_window : (v : View) → (Fits k i (length u) → has s (2 ^ i) ≡ false) → NextWindow n k t u s i v → Windows n k t (turn n i u + 1) v
    pass_window v none next = record {
      rows = windowed_pass n k t tree.few tree.wide tree.formed tree.some next.windows.rows i u four next.moves refl (λ fits. not_from_Decides (has s (2 ^ i)) (with_marks_decides n k tree.few tree.wide t tree.formed u s next.moves next.standing i four fits) (none fits));
      reaches = next.windows.reaches;
    }

    -- the write of the row of a playable one
    pub window_written : {X : Type 0} (key : ℕ)
        → key ≡ code n (with_marks i u) → Fits k i (length u) → has s (2 ^ i) ≡ true
        → (before after : View) → NextWindow n k t u s i before
        → (r : Result X Refusal)
        → (key < before.reach → (LacksRoom before key 1 → ⊥) → is_ok r ≡ true)
        → MatchResult r (λ _. after ≡ after_write before key 1) (λ _. after ≡ before)
        → MatchResult r (λ _. Windows n k t (turn n i u + 1) after) (λ _. MoreRows n k t after.room)
    window_written key is_key fits says before after next r accepted wrote =
        let h = next.windows.rows in
        let (low, none) = windowed_before n k t tree.few tree.wide tree.formed tree.some h i u four next.moves refl fits in
        let playable : Playable t k (with_marks i u) = (with_marks_decides n k tree.few tree.wide t tree.formed u s next.moves next.standing i four fits).0 says in
        written_or_more n k t (Windows n k t (turn n i u + 1)) key 1 before after (omega (arith, low, is_key, next.windows.reaches, add-mul (length t) 1 (base n ^ k))) (ap before.number is_key ∙ none)
        (λ _. subst (HasRow n k t) (sym is_key) (with_marks_row n k t i u four next.moves fits playable))
        (windowed_rows n k t tree.few tree.wide tree.formed tree.some h)
        (record {
          rows = subst (λ c. Windowed n k t (turn n i u + 1) (written before.number c 1)) (sym is_key) (windowed_write n k t tree.few tree.wide tree.formed tree.some h i u four next.moves refl fits playable);
          reaches = next.windows.reaches;
        })
        r accepted wrote

  pub windows_none : (v : View) → Finished n k t (length t) v → Windows n k t (4 * 0) v
  windows_none v h = record { rows = windowed_none n k t tree.few tree.wide tree.formed tree.some h.rows; reaches = h.reaches }

  -- the walk over the root's rows, which begin at start
  module _ (start end from : ℕ) (start_is : start ≡ length t * base n ^ k) (end_is : end ≡ start + base n ^ k) (v : View) (h : Windows n k t (4 * from) v) where
    -- from a code to one before which no word has a row
    skipped : (c : ℕ) → from ≤ c → NoneBetween v.number (start + from) (start + c) → Windowed n k t (4 * c) v.number
    skipped c later gap =
        windowed_skip n k t tree.few tree.wide tree.formed tree.some from c h.rows later (λ u moves short. no_rows tree v.number (length t) start from c start_is gap u)

    pub root_ends : start + from ≤ end → NoneBetween v.number (start + from) end → Complete n k t v
    root_ends low gap = record {
      rows = windowed_all n k t tree.few tree.wide tree.formed tree.some (skipped (base n ^ k) (omega arith) (subst (NoneBetween v.number (start + from)) end_is gap)) (omega arith);
      reaches = h.reaches;
    }

    -- a key found is that of a word, and no row was left out before it
    pub root_finds : (key : ℕ) → Smallest v.number (start + from) key × (key < end) → CodeOfMoves n k (key - start) × Windows n k t (4 * (key - start)) v
    root_finds key (next, below) =
        let c = key - start in
        let back : key ≡ length t * base n ^ k + c = omega (arith, next.not_below) in
        let low : c < base n ^ k = omega (arith, next.not_below) in (
          elim (h.rows.only key next.held) [
            | inl node ↦ code_of_row tree (length t) (length t) c (subst (NodeKey n k (length t)) back node) low
            | inr window ↦ absurd (omega (arith, window.key_is, with_marks_below n tree.few k window.marks window.word window.moves window.fits, mul-le-mul_right {m = 1} {n = length t} (base n ^ k) tree.some))
          ],
          record { rows = skipped c (omega (arith, next.not_below)) (λ j not_below lower. next.least j not_below (omega (arith, next.not_below))); reaches = h.reaches },
        )
