-- What one write of a row makes of a rack, and how the words of a node follow each other.
use Rattle.std.proofs.Common.{◌≡◌, ◌/◌, ℕ, zero, suc, ◌+◌, ◌-◌, ◌*◌, ◌%◌, ◌^◌, ◌<◌, ◌≤◌, true, List, [], ◌∷◌, ◌++◌, length, is_ok, Ok, Err, Result, sym, refl, ap, div-le_self, ◌∙◌, subst, inl, ⊎_elim, mul-le-mul_right, add-mul, drop, take, arith, MatchResult}
use lib.Arith.{digits_mod}
use Rattle.std.proofs.Math.Nat.{pow-suc, pow-zero, mul-div_cancel}
use Rattle.std.proofs.lemmas.Bool.{cases_lt, true≢false}
use Rattle.std.proofs.lemmas.List.{length_push, take_all}
use Rattle.std.proofs.lemmas.List.Elements.{All-nil, All-push, All-tail}
use Rattle.terms.proofs.Ends.{from_the_end, all_before_last}
use Rattle.terms.proofs.Codes.{code_apart, code_longer}
use Rattle.terms.specs.Codes.{Word, base, code}
use Rattle.terms.specs.Words.{Move, Moves}
use Rattle.terms.specs.declared.Refusal.{Refusal}
use Rattle.tree_laws.specs.Children.{first_child, second_child}
use Rattle.tree_laws.specs.Facts.{Standing}
use Rattle.tree_laws.specs.Routes.{IsNode, Proper}
use Rattle.tree_laws.specs.Standings.{Children, Known}
use Rattle.tree_laws.specs.declared.Node.{Node}
use Rattle.tree_laws.specs.declared.Node.TheVariants.{Skip, Move as Single, Choice, Sequence, Loop, Parallel}
use Rattle.tree_laws.proofs.Computed.{computed_laws_lem}
use Rattle.racks.specs.Views.{View, LacksRoom, NoneBetween, Smallest, after_write, held_count, held_in, written}
use Rattle.standings.specs.Rows.{RowRead, rows_of, standing_by}
use Rattle.row_laws.specs.Progress.{InProgress, NodeKey, Standings}
use Rattle.row_laws.specs.Rows.{HasRow, MoreRows, PlayableCount, row_key}
use Rattle.row_laws.proofs.Counted.{more_rows, count_playable}
use Rattle.row_laws.proofs.Increase.{count_increase}
use Rattle.row_laws.proofs.Progress.{progress_none, progress_ends, progress_skip, progress_write, progress_pass, progress_rows, progress_tried, contained_from_held, stands_by_tail}
use Rattle.row_laws.proofs.Keys.{code_of_moves, code_of_push, items_from_moves, word_from_moves}
use Rattle.trees.proofs.Trees.{IsTree}
use Rattle.trees.specs.Planting.{CodeOfMoves, Complete, Finished, Underway, NextWord}

-- a write of one row more: what then holds, or that there are more rows than the room
pub written_or_more : {X : Type 0} (n k : ℕ) (t : List Node) (After : View → Type 0) (key s : ℕ) (before after : View)
    → key < before.reach → before.number key ≡ 0
    → (0 < s → HasRow n k t key) → ((i : ℕ) → 0 < before.number i → HasRow n k t i)
    → After (after_write before key s)
    → (r : Result X Refusal)
    → (key < before.reach → (LacksRoom before key s → ⊥) → is_ok r ≡ true)
    → MatchResult r (λ _. after ≡ after_write before key s) (λ _. after ≡ before)
    → MatchResult r (λ _. After after) (λ _. MoreRows n k t after.room)
written_or_more n k t After key s before after reached free row rows holds (Ok y) accepted wrote = subst After (sym wrote) holds
written_or_more n k t After key s before after reached free row rows holds (Err e) accepted same =
    subst (λ (v : View). MoreRows n k t v.room) (sym same)
    (⊎_elim
    (λ left. refused (λ l. omega (arith, l.used_up)))
    (λ used. ⊎_elim (λ put_in. more_rows before.reach rows (row put_in) free used) (λ zero. refused (λ l. omega (arith, l.put_in))) (cases_lt 0 s))
    (cases_lt (held_in before) before.room))
  where
    refused : (LacksRoom before key s → ⊥) → MoreRows n k t before.room
    refused room_left = absurd (true≢false (sym (accepted reached room_left)))

module _ {n k : ℕ} {t : List Node} (tree : IsTree n k t) where
  -- a word of more than j moves has no code below the power of j
  code_low : (j : ℕ) (u : List ℕ) → Moves n u → j < length u → base n ^ j ≤ code n u
  code_low zero [] moves long = absurd (omega arith)
  code_low zero (x ∷ u) moves long = omega (arith, pow-zero (base n), code_longer n tree.few [] (x ∷ u) (items_from_moves n [] (All-nil (Move n))) (items_from_moves n (x ∷ u) moves) (omega arith))
  code_low (suc j) u moves long =
      ⊎_elim
      (λ empty. absurd (omega (arith, ap length empty)))
      (λ (v, x, is).
      let parts = all_before_last (Move n) v x (subst (Moves n) is moves) in
      omega (arith, pow-suc (base n) j, ap (code n) is ∙ code_of_push n k tree.few v x parts.1, mul-le-mul_right (base n) (code_low j v parts.0 (omega (arith, ap length is ∙ length_push v x)))))
      (from_the_end u)

  -- the keys of a node's rows tell the codes of their words
  pub code_of_row : (m v c : ℕ) → NodeKey n k m (v * base n ^ k + c) → c < base n ^ k → CodeOfMoves n k c
  code_of_row m v c a low = record {
    word = a.word;
    moves = a.moves;
    short = a.short;
    code_is = sym (digits_mod a.node (code_of_moves n k tree.few a.word a.moves a.short)) ∙ ap (λ j. j % base n ^ k) (sym a.key_is) ∙ digits_mod v low;
  }

  -- where no key is held between two of a node's codes, no word between them has a row
  pub no_rows : (f : ℕ → ℕ) (v start from c : ℕ) → start ≡ v * base n ^ k → NoneBetween f (start + from) (start + c) → (u : List ℕ) → from ≤ code n u → code n u < c → f (row_key n k v u) ≡ 0
  no_rows f v start from c start_is gap u not_below below =
      let key : row_key n k v u ≡ start + code n u = ap (λ s. s + code n u) (sym start_is) in
      gap (row_key n k v u) (omega arith) (omega arith)

  module _ (c : ℕ) (known : CodeOfMoves n k c) where
    -- no other word has the code of a word of moves
    pub moves_of_code : (w : List ℕ) → Word n k w → code n w ≡ c → Moves n w
    moves_of_code w word is = subst (Moves n) (code_apart n tree.few known.word w (items_from_moves n known.word known.moves) word.items (known.code_is ∙ sym is)) known.moves

  pub shorter_parent : (p : List ℕ) → Moves n p → code n p * base n < base n ^ k → length p < k
  shorter_parent p moves low =
      let up : k ≡ suc (k - 1) = omega (arith, tree.wide) in
      ⊎_elim
      (λ short. short)
      (λ full. absurd (omega (arith, ap (λ j. base n ^ j) up ∙ pow-suc (base n) (k - 1), mul-le-mul_right (base n) (code_low (k - 1) p moves (omega arith)))))
      (cases_lt (length p) k)

  -- the rows of the first m nodes give the standings at the children of the next
  children_known : (m : ℕ) (f : ℕ → ℕ) → Standings n k t m f → (x : Node) → Proper n (m + 1) x → Children x (Known n k t (rows_of n k f (first_child x))) (Known n k t (rows_of n k f (second_child x)))
  children_known m f h Skip p = tt
  children_known m f h (Single y) p = tt
  children_known m f h (Choice a b) p = (λ w. h a w p.0.0 (omega (arith, p.0)), λ w. h b w p.1.0 (omega (arith, p.1)))
  children_known m f h (Sequence a b) p = (λ w. h a w p.0.0 (omega (arith, p.0)), λ w. h b w p.1.0 (omega (arith, p.1)))
  children_known m f h (Loop a b) p = (λ w. h a w p.0.0 (omega (arith, p.0)), λ w. h b w p.1.0 (omega (arith, p.1)))
  children_known m f h (Parallel a b) p = (λ w. h a w p.0.0 (omega (arith, p.0)), λ w. h b w p.1.0 (omega (arith, p.1)))

  -- the number worked out from the rows is the standing
  pub stands_by_rows : (m : ℕ) (f : ℕ → ℕ) (x : Node) (u : List ℕ) → IsNode t (m + 1) x → Standings n k t m f → Moves n u → length u ≤ k → Standing t (m + 1) u (standing_by n k f x u)
  stands_by_rows m f x u is h moves short = computed_laws_lem n k t tree.formed (m + 1) x is (rows_of n k f (first_child x)) (rows_of n k f (second_child x)) (children_known m f h x (subst (Proper n (m + 1)) is.kind (tree.formed (m + 1) is.from_one is.inside))) u moves short

  -- the write of the row of the next word
  pub row_written : {X : Type 0} (m : ℕ) (inside : m < length t) (u : List ℕ) (key s : ℕ)
      → key ≡ row_key n k (m + 1) u
      → (before after : View) → NextWord n k t m u before
      → Standing t (m + 1) u s
      → (r : Result X Refusal)
      → (key < before.reach → (LacksRoom before key s → ⊥) → is_ok r ≡ true)
      → MatchResult r (λ _. after ≡ after_write before key s) (λ _. after ≡ before)
      → MatchResult r (λ _. Underway n k t m (code n u + 1) after) (λ _. MoreRows n k t after.room)
  row_written m inside u key s is_key before after next stands r accepted wrote =
      let rows = next.underway.rows in
      let p = base n ^ k in
      written_or_more n k t (Underway n k t m (code n u + 1)) key s before after
      (omega (arith, is_key, next.underway.reaches, code_of_moves n k tree.few u next.moves next.short, mul-le-mul_right {m = m + 1 + 1} {n = length t + 1} p (omega arith), add-mul (m + 1) 1 p))
      (ap before.number is_key ∙ rows.pending u next.moves next.short (omega arith))
      (λ put_in. inl (record { node = m + 1; word = u; from_one = omega arith; inside = omega arith; short = next.short; contained = contained_from_held t (m + 1) u s stands put_in; key_is = is_key }))
      (λ i held. inl (progress_rows n k tree.few t tree.formed m (omega arith) (code n u) before.number rows i held))
      (record {
        rows = subst (λ i. InProgress n k t m (code n u + 1) (written before.number i s)) (sym is_key) (progress_write n k tree.few t m u next.moves next.short before.number s rows stands);
        reaches = next.underway.reaches;
      })
      r accepted wrote

  -- a word whose tail has no row has none
  pub row_passed : (m : ℕ) (inside : m < length t) (u : List ℕ) (v : View) → 0 < length u → NextWord n k t m u v → RowRead n k v.number (m + 1) (take (length u - 1) (drop 1 u)) 0 → Underway n k t m (code n u + 1) v
  row_passed m inside [] v some next read = absurd (omega arith)
  row_passed m inside (x ∷ w) v some next read =
      let rows = next.underway.rows in
      let tail : take (length (x ∷ w) - 1) w ≡ w = take_all (length (x ∷ w) - 1) w (omega arith) in
      let told : RowRead n k v.number (m + 1) w 0 = subst (λ u. RowRead n k v.number (m + 1) u 0) tail read in
      let gone = sym (told.number (word_from_moves n k tree.few w (All-tail (Move n) x w next.moves) (omega (arith, next.short)))) in
      record {
        rows = progress_pass n k tree.few t m (x ∷ w) next.moves next.short v.number rows (stands_by_tail n k tree.few t tree.formed m (omega arith) (code n (x ∷ w)) v.number rows x w next.moves next.short refl gone);
        reaches = next.underway.reaches;
      }

  -- the words behind the word p with the code c
  module _ (m c : ℕ) (p : List ℕ) (moves : Moves n p) (short : length p < k) (is : code n p ≡ c) (x : ℕ) (move : Move n x) (v : View) where
    code_behind : code n (p ++ (x ∷ [])) ≡ c * base n + x
    code_behind = code_of_push n k tree.few p x move ∙ ap (λ d. d * base n + x) is

    pub next_behind : Underway n k t m (c * base n + x) v → NextWord n k t m (p ++ (x ∷ [])) v
    next_behind h = record {
      moves = All-push (Move n) p x moves move;
      short = omega (arith, length_push p x);
      underway = subst (λ d. Underway n k t m d v) (sym code_behind) h;
    }

    pub done_behind : Underway n k t m (code n (p ++ (x ∷ [])) + 1) v → Underway n k t m (c * base n + (x + 1)) v
    done_behind h = let further : code n (p ++ (x ∷ [])) + 1 ≡ c * base n + (x + 1) = omega (arith, code_behind) in subst (λ d. Underway n k t m d v) further h

  -- every move was tried behind it
  pub all_behind : (m : ℕ) (inside : m < length t) (c x : ℕ) (v : View) → x ≡ n + 1 → Underway n k t m (c * base n + x) v → Underway n k t m ((c + 1) * base n + 1) v
  all_behind m inside c x v end h =
      let last : c * base n + x ≡ c * base n + n + 1 = omega (arith, end) in
      record {
        rows = progress_tried n k tree.few t tree.formed m (omega arith) c v.number (subst (λ d. InProgress n k t m d v.number) last h.rows);
        reaches = h.reaches;
      }

  pub next_empty : (m : ℕ) (v : View) → Finished n k t m v → NextWord n k t m [] v
  next_empty m v h = record { moves = All-nil (Move n); short = omega arith; underway = record { rows = progress_none n k tree.few t m v.number h.rows; reaches = h.reaches } }

  -- the walk over the rows of the node after the first m, which begin at start: it ends where those of fewer than k
  -- moves end
  module _ (m : ℕ) (inside : m < length t) (start end from : ℕ) (start_is : start ≡ (m + 1) * base n ^ k) (end_is : end ≡ start + base n ^ k / base n) (v : View) (h : Underway n k t m (from * base n + 1) v) where
    -- the end leaves out the last digit
    top : base n ^ k / base n * base n ≡ base n ^ k
    top =
        let up : k ≡ suc (k - 1) = omega (arith, tree.wide) in
        let last : base n ^ k ≡ base n ^ (k - 1) * base n = ap (λ j. base n ^ j) up ∙ pow-suc (base n) (k - 1) in
        ap (λ q. q / base n * base n) last ∙ ap (λ q. q * base n) (mul-div_cancel (base n ^ (k - 1)) (omega arith)) ∙ sym last

    -- from a code to one before which no word has a row
    skipped : (c : ℕ) → from ≤ c → NoneBetween v.number (start + from) (start + c) → InProgress n k t m (c * base n + 1) v.number
    skipped c later gap =
        progress_skip n k tree.few t tree.formed m (omega arith) from c v.number later (λ u moves short. no_rows v.number (m + 1) start from c start_is gap u) h.rows

    pub walk_ends : start + from ≤ end → NoneBetween v.number (start + from) end → Finished n k t (m + 1) v
    walk_ends low gap = record {
      rows = progress_ends n k tree.few t tree.formed m (omega arith) (base n ^ k / base n) v.number (omega (arith, top)) (skipped (base n ^ k / base n) (omega arith) (subst (NoneBetween v.number (start + from)) end_is gap));
      reaches = h.reaches;
    }

    -- a key found is that of a word of fewer than k moves, and no row was left out before it
    pub walk_finds : (key : ℕ) → Smallest v.number (start + from) key × (key < end) → CodeOfMoves n k (key - start) × ((key - start) * base n < base n ^ k) × Underway n k t m ((key - start) * base n + 1) v
    walk_finds key (next, below) =
        let c = key - start in
        let back : key ≡ (m + 1) * base n ^ k + c = omega (arith, next.not_below) in
        let small : c + 1 ≤ base n ^ k / base n = omega (arith, next.not_below) in (
          code_of_row (m + 1) (m + 1) c (subst (NodeKey n k (m + 1)) back (h.rows.only key next.held)) (omega (arith, next.not_below, div-le_self (base n ^ k) (base n))),
          omega (arith, mul-le-mul_right (base n) small, top, add-mul c 1 (base n)),
          record {
            rows = skipped c (omega (arith, next.not_below)) (λ j not_below lower. next.least j not_below (omega (arith, next.not_below)));
            reaches = h.reaches;
          },
        )

  -- how many windows are playable, by the keys held before and after their rows
  pub count_windows : (nodes all : View) → all.reach ≡ nodes.reach → Finished n k t (length t) nodes → Complete n k t all → PlayableCount t k (held_in all - held_in nodes)
  count_windows nodes all same first last =
      let p = base n ^ k in
      let low : p ≤ nodes.reach = omega (arith, mul-le-mul_right {m = 1} {n = length t + 1} p (omega arith), first.reaches) in
      let more : held_in all - held_in nodes ≡ held_count all.number p = ap (λ r. held_count all.number r - held_in nodes) same ∙ count_increase n k t tree.few tree.wide tree.formed nodes.number all.number first.rows last.rows nodes.reach low in
      subst (PlayableCount t k) (sym more) (count_playable n k t tree.few tree.wide tree.formed last.rows)
