-- One row more, words that no route contains, and the end of a node: what is kept while rows are put in.
use Rattle.std.proofs.Common.{◌≡◌, ℕ, ◌+◌, ◌*◌, ◌^◌, ◌<◌, ◌≤◌, List, [], ◌∷◌, ◌++◌, length, sym, refl, ap, ◌∙◌, subst, ⊎_elim, mul-le-mul_right, mul-le-mul_left, add-mul, arith}
use Rattle.std.proofs.lemmas.List.{length_push}
use Rattle.std.proofs.lemmas.List.Elements.{All-nil, All-tail}
use Rattle.std.proofs.lemmas.Bool.{cases_Bool, cases_eq, cases_lt}
use Rattle.std.proofs.lemmas.Bool.Decides.{not_from_Decides}
use Rattle.terms.specs.Codes.{base, code}
use Rattle.terms.specs.Words.{Move, Moves}
use Rattle.terms.proofs.Codes.{code_longer}
use Rattle.terms.proofs.Ends.{from_the_end, by_ends, all_before_last}
use Rattle.tree_laws.specs.Facts.{Standing, SomeContains}
use Rattle.tree_laws.specs.Routes.{WellFormed}
use Rattle.tree_laws.specs.declared.Node.{Node}
use Rattle.tree_laws.proofs.Computed.{standing_laws_lem, bits_at}
use Rattle.tree_laws.proofs.Rows.{none_longer, none_around}
use Rattle.tree_laws.specs.Computed.{has}
use Rattle.racks.proofs.Counts.{written_same}
use Rattle.racks.specs.Counts.{written_here, written_other}
use Rattle.racks.specs.Views.{written}
use Rattle.row_laws.specs.Progress.{NodeKey, Upto, InProgress}
use Rattle.row_laws.specs.Rows.{row_key, NodeRow}
use Rattle.row_laws.proofs.Keys.{items_from_moves, code_of_moves, code_of_push, same_word, row_keys_apart}

module _ (n k : ℕ) (few : n ≤ 12) (t : List Node) where
  -- only the numbers at keys matter
  pub progress_same : (m d : ℕ) (f g : ℕ → ℕ) → ((key : ℕ) → g key ≡ f key) → InProgress n k t m d f → InProgress n k t m d g
  progress_same m d f g same = subst (InProgress n k t m d) (λ i key. sym (same key) i)

  wider : (m key : ℕ) → NodeKey n k m key → NodeKey n k (m + 1) key
  wider m key h = record { node = h.node; word = h.word; from_one = h.from_one; inside = omega (arith, h.inside); moves = h.moves; short = h.short; key_is = h.key_is }

  -- a key of the next node is none of the first nodes'
  fresh_node : (m : ℕ) (u : List ℕ) → Moves n u → length u ≤ k → NodeKey n k m (row_key n k (m + 1) u) → ⊥
  fresh_node m u moves short h = omega (arith, h.inside, (row_keys_apart n k few (m + 1) h.node u h.word moves short h.moves h.short h.key_is).0)

  pub progress_none : (m : ℕ) (f : ℕ → ℕ) → Upto n k t m f → InProgress n k t m 0 f
  progress_none m f h = record {
    standings = h.standings;
    done = λ u moves short l. absurd (omega arith);
    pending = λ u moves short l. ⊎_elim (λ held. absurd (fresh_node m u moves short (h.only (row_key n k (m + 1) u) held))) (λ none. omega arith) (cases_lt 0 (f (row_key n k (m + 1) u)));
    only = λ key held. wider m key (h.only key held);
  }

  pub progress_all : (m d : ℕ) (f : ℕ → ℕ) → ((u : List ℕ) → Moves n u → length u ≤ k → code n u < d) → InProgress n k t m d f → Upto n k t (m + 1) f
  progress_all m d f all h = record {
    standings = λ v u low high moves short.
        ⊎_elim
        (λ last. subst (λ x. Standing t x u (f (row_key n k x u))) (sym last) (h.done u moves short (all u moves short)))
        (λ other. h.standings v u low (omega arith) moves short)
        (cases_eq v (m + 1));
    only = h.only;
  }

  -- no word has a code from d to below e
  pub progress_gap : (m d e : ℕ) (f : ℕ → ℕ) → d ≤ e → ((u : List ℕ) → Moves n u → length u ≤ k → d ≤ code n u → code n u < e → ⊥) → InProgress n k t m d f → InProgress n k t m e f
  progress_gap m d e f le none h = record {
    standings = h.standings;
    done = λ u moves short l. ⊎_elim (λ low. h.done u moves short low) (λ high. absurd (none u moves short high l)) (cases_lt (code n u) d);
    pending = λ u moves short l. h.pending u moves short (omega arith);
    only = h.only;
  }

  module _ (m : ℕ) (u : List ℕ) (moves : Moves n u) (short : length u ≤ k) (f : ℕ → ℕ) where
    -- the row of the word whose code comes next
    pub progress_write : (s : ℕ) → InProgress n k t m (code n u) f → Standing t (m + 1) u s → InProgress n k t m (code n u + 1) (written f (row_key n k (m + 1) u) s)
    progress_write s h stands = record {
      standings = λ v w low high mw sw. subst (Standing t v w) (sym (written_other f here s (row_key n k v w) (λ e. omega (arith, (row_keys_apart n k few v (m + 1) w u mw sw moves short e).0)))) (h.standings v w low high mw sw);
      done = λ w mw sw l.
          ⊎_elim
          (λ e. let is = same_word n k few w u mw moves e in subst (λ x. Standing t (m + 1) x (written f here s (row_key n k (m + 1) x))) (sym is) (subst (Standing t (m + 1) u) (sym (written_here f here s here refl)) stands))
          (λ other. subst (Standing t (m + 1) w) (sym (written_other f here s (row_key n k (m + 1) w) (apart w mw sw other))) (h.done w mw sw (omega arith)))
          (cases_eq (code n w) (code n u));
      pending = λ w mw sw l. written_other f here s (row_key n k (m + 1) w) (apart w mw sw (λ e. omega arith)) ∙ h.pending w mw sw (omega arith);
      only = λ key held.
          ⊎_elim
          (λ e. record { node = m + 1; word = u; from_one = omega arith; inside = omega arith; moves = moves; short = short; key_is = e })
          (λ other. h.only key (subst (λ x. 0 < x) (written_other f here s key other) held))
          (cases_eq key here);
    }
      where
        here : ℕ
        here = row_key n k (m + 1) u

        apart : (w : List ℕ) → Moves n w → length w ≤ k → (code n w ≡ code n u → ⊥) → row_key n k (m + 1) w ≡ here → ⊥
        apart w mw sw other e = other (ap (code n) (row_keys_apart n k few (m + 1) (m + 1) w u mw sw moves short e).1)

    -- the word whose code comes next has no row
    pub progress_pass : InProgress n k t m (code n u) f → Standing t (m + 1) u 0 → InProgress n k t m (code n u + 1) f
    progress_pass h none =
        progress_same m (code n u + 1) (written f (row_key n k (m + 1) u) 0) f (written_same f (row_key n k (m + 1) u) 0 (h.pending u moves short (omega arith))) (progress_write 0 h none)

-- a standing that is not 0 tells that some route contains the word
pub contained_from_held : (t : List Node) (v : ℕ) (u : List ℕ) (s : ℕ) → Standing t v u s → 0 < s → SomeContains t v u
contained_from_held t v u s stands held =
    let bits = bits_at t v u s stands in
    ⊎_elim bits.contained.0 (λ no_bit. absurd (omega (arith, bits.none.1 (not_from_Decides (has s 1) bits.contained no_bit)))) (cases_Bool (has s 1))

-- ---- words behind words: the code of a word with one move more lies between multiples of the base

module _ (n k : ℕ) (few : n ≤ 12) where
  -- a word of at least one move, with its parent's code and its last move
  pub data Parted (u : List ℕ) : Type 0 where
    none : u ≡ [] → Parted u
    behind : (v : List ℕ) (x : ℕ) → u ≡ v ++ (x ∷ []) → Moves n v → Move n x → code n u ≡ code n v * base n + x → length u ≡ length v + 1 → Parted u

  pub parted : (u : List ℕ) → Moves n u → Parted u
  parted u moves =
      ⊎_elim none
      (λ (v, x, is).
      let parts = all_before_last (Move n) v x (subst (Moves n) is moves) in
      behind v x is parts.0 parts.1 (ap (code n) is ∙ code_of_push n k few v x parts.1) (ap length is ∙ length_push v x))
      (from_the_end u)

  -- a parent whose code is below c has its words below c * base
  pub below_multiple : (c p x : ℕ) → x ≤ n → p < c → p * base n + x < c * base n
  below_multiple c p x small less =
      let scaled : (p + 1) * base n ≤ c * base n = mul-le-mul_right (base n) (omega arith) in
      omega (arith, add-mul p 1 (base n), scaled)

  pub above_multiple : (c p x : ℕ) → c ≤ p → c * base n + x ≤ p * base n + x
  above_multiple c p x more = let scaled : c * base n ≤ p * base n = mul-le-mul_right (base n) more in omega arith

  -- where the code of a word lies tells its parent's code
  parent_code : (c p x : ℕ) → Move n x → c * base n + 1 ≤ p * base n + x → p * base n + x < (c + 1) * base n + 1 → p ≡ c
  parent_code c p x move low high = grind (arith, below_multiple c p x move.1, above_multiple (c + 1) p x)

  -- u is one move more behind a word with the code c
  record Child (c : ℕ) (u : List ℕ) : Type 0 where
    parent : List ℕ
    move : ℕ
    moves : Moves n parent
    last : move ≤ n
    parent_is : code n parent ≡ c
    code_is : code n u ≡ c * base n + move

  child_of : (c : ℕ) (u : List ℕ) → Moves n u → c * base n + 1 ≤ code n u → code n u < (c + 1) * base n + 1 → Child c u
  child_of c u moves low high = child (parted u moves)
    where
      child : Parted u → Child c u
      child (none is) = absurd (omega (arith, ap (code n) is))
      child (behind v x is front last code_is long) =
          let same = parent_code c (code n v) x last (omega arith) (omega arith) in
          record { parent = v; move = x; moves = front; last = last.1; parent_is = same; code_is = code_is ∙ ap (λ p. p * base n + x) same }

  module _ (t : List Node) (wf : WellFormed n t) (m : ℕ) (inside : m + 1 ≤ length t) where
    -- a word behind one that no route contains
    stands_none : (v : List ℕ) (x : ℕ) → Standing t (m + 1) v 0 → Standing t (m + 1) (v ++ (x ∷ [])) 0
    stands_none v x h =
        let (r, is) = standing_laws_lem.exists n t wf (m + 1) (omega arith) inside (v ++ (x ∷ [])) in
        subst (Standing t (m + 1) (v ++ (x ∷ []))) (none_longer n t wf (m + 1) (omega arith) inside v x 0 r h is refl) is

    -- no word with a code from c to below e is held: no word behind one of them is contained
    pub progress_skip : (c e : ℕ) (f : ℕ → ℕ) → c ≤ e
        → ((u : List ℕ) → Moves n u → length u ≤ k → c ≤ code n u → code n u < e → f (row_key n k (m + 1) u) ≡ 0)
        → InProgress n k t m (c * base n + 1) f → InProgress n k t m (e * base n + 1) f
    progress_skip c e f le free h = record {
      standings = h.standings;
      done = by_ends (λ u. Moves n u → length u ≤ k → code n u < e * base n + 1 → Standing t (m + 1) u (f (row_key n k (m + 1) u))) more (λ moves short l. h.done [] moves short (omega arith));
      pending = λ u moves short l. h.pending u moves short (omega (arith, above_multiple c e 1 le));
      only = h.only;
    }
      where
        more : (v : List ℕ) (x : ℕ)
            → (Moves n v → length v ≤ k → code n v < e * base n + 1 → Standing t (m + 1) v (f (row_key n k (m + 1) v)))
            → Moves n (v ++ (x ∷ [])) → length (v ++ (x ∷ [])) ≤ k → code n (v ++ (x ∷ [])) < e * base n + 1
            → Standing t (m + 1) (v ++ (x ∷ [])) (f (row_key n k (m + 1) (v ++ (x ∷ []))))
        more v x before moves short l =
            let parts = all_before_last (Move n) v x moves in
            let is = code_of_push n k few v x parts.1 in
            ⊎_elim
            (λ low. h.done (v ++ (x ∷ [])) moves short (omega (arith, below_multiple c (code n v) x parts.1.1 low)))
            (λ high.
            let less : code n v < e = ⊎_elim (λ y. y) (λ y. absurd (omega (arith, above_multiple e (code n v) x y, parts.1.0))) (cases_lt (code n v) e) in
            let fits : length v ≤ k = omega (arith, length_push v x) in
            let small : code n v < e * base n + 1 = omega (arith, below_multiple e (code n v) 0 (omega arith) less, mul-le-mul_right {m = 1} {n = base n} (code n v) (omega arith)) in
            let gone = subst (Standing t (m + 1) v) (free v parts.0 fits high less) (before parts.0 fits small) in
            subst (Standing t (m + 1) (v ++ (x ∷ []))) (sym (h.pending (v ++ (x ∷ [])) moves short (omega (arith, above_multiple c (code n v) x high, parts.1.0)))) (stands_none v x gone))
            (cases_lt (code n v) c)

    -- every move was tried behind the word with the code c
    pub progress_tried : (c : ℕ) (f : ℕ → ℕ) → InProgress n k t m (c * base n + n + 1) f → InProgress n k t m ((c + 1) * base n + 1) f
    progress_tried c f h =
        progress_gap n k few t m (c * base n + n + 1) ((c + 1) * base n + 1) f (omega (arith, add-mul c 1 (base n)))
        (λ u moves short low high. let p = child_of c u moves (omega arith) high in omega (arith, p.last, p.code_is)) h

    -- no word of at most k moves stands behind a word of k moves
    pub progress_full : (p : List ℕ) (f : ℕ → ℕ) → Moves n p → k ≤ length p → InProgress n k t m (code n p * base n + 1) f → InProgress n k t m ((code n p + 1) * base n + 1) f
    progress_full p f mp full h = progress_gap n k few t m (code n p * base n + 1) ((code n p + 1) * base n + 1) f (omega (arith, add-mul (code n p) 1 (base n))) (λ u moves short low high. between u short low high (parted u moves)) h
      where
        between : (u : List ℕ) → length u ≤ k → code n p * base n + 1 ≤ code n u → code n u < (code n p + 1) * base n + 1 → Parted u → ⊥
        between u short low high (none is) = omega (arith, ap (code n) is)
        between u short low high (behind v x is moves move code_is long) =
            let same = same_word n k few v p moves mp (parent_code (code n p) (code n v) x move (omega arith) (omega arith)) in
            omega (arith, ap length same, long)

    -- all codes lie below the limit
    pub progress_ends : (c : ℕ) (f : ℕ → ℕ) → base n ^ k ≤ c * base n → InProgress n k t m (c * base n + 1) f → Upto n k t (m + 1) f
    progress_ends c f past h = progress_all n k few t m (c * base n + 1) f (λ u moves short. omega (arith, code_of_moves n k few u moves short)) h

    -- nothing is held from the code c on
    pub progress_exhausted : (c : ℕ) (f : ℕ → ℕ) → c ≤ base n ^ k → ((u : List ℕ) → Moves n u → length u ≤ k → c ≤ code n u → f (row_key n k (m + 1) u) ≡ 0) → InProgress n k t m (c * base n + 1) f → Upto n k t (m + 1) f
    progress_exhausted c f le free h =
        progress_ends (base n ^ k) f (omega (arith, mul-le-mul_left {m = 1} {n = base n} (base n ^ k) (omega arith))) (progress_skip c (base n ^ k) f le (λ u moves short low high. free u moves short low) h)

    -- the first row of the node is that of the empty word
    pub progress_start : (f : ℕ → ℕ) (s : ℕ) → Upto n k t m f → Standing t (m + 1) [] s → InProgress n k t m (0 * base n + 1) (written f (row_key n k (m + 1) []) s)
    progress_start f s h stands =
        let one : 0 + 1 ≡ 0 * base n + 1 = omega arith in
        subst (λ d. InProgress n k t m d (written f (row_key n k (m + 1) []) s)) one (progress_write n k few t m [] (All-nil (Move n)) (omega arith) f s (progress_none n k few t m f h) stands)

    module _ (d : ℕ) (f : ℕ → ℕ) (h : InProgress n k t m d f) where
      -- a word whose tail is not held is contained in no route
      pub stands_by_tail : (x : ℕ) (w : List ℕ) → Moves n (x ∷ w) → length (x ∷ w) ≤ k → code n (x ∷ w) ≡ d → f (row_key n k (m + 1) w) ≡ 0 → Standing t (m + 1) (x ∷ w) 0
      stands_by_tail x w moves short is gone =
          let (r, stands) = standing_laws_lem.exists n t wf (m + 1) (omega arith) inside (x ∷ w) in
          let fits : length w ≤ k = omega arith in
          let less : code n w < d = subst (λ c. code n w < c) is (code_longer n few w (x ∷ w) (items_from_moves n w (All-tail (Move n) x w moves)) (items_from_moves n (x ∷ w) moves) (omega arith)) in
          subst (Standing t (m + 1) (x ∷ w)) (none_around n t wf (m + 1) (omega arith) inside (x ∷ w) _ r (h.done w (All-tail (Move n) x w moves) fits less) stands gone) stands

      -- every held key is that of a word that some route contains
      pub progress_rows : (key : ℕ) → 0 < f key → NodeRow n k t key
      progress_rows key held = let at = h.only key held in row at (⊎_elim (λ last. at_last at last) (λ other. h.standings at.node at.word at.from_one (omega (arith, at.inside)) at.moves at.short) (cases_eq at.node (m + 1)))
        where
          at_last : (a : NodeKey n k (m + 1) key) → a.node ≡ m + 1 → Standing t a.node a.word (f (row_key n k a.node a.word))
          at_last a last =
              let same : row_key n k a.node a.word ≡ row_key n k (m + 1) a.word = ap (λ v. row_key n k v a.word) last in
              let less : code n a.word < d = ⊎_elim (λ y. y) (λ y. absurd (omega (arith, h.pending a.word a.moves a.short y, ap f (a.key_is ∙ same)))) (cases_lt (code n a.word) d) in
              subst (λ v. Standing t v a.word (f (row_key n k v a.word))) (sym last) (h.done a.word a.moves a.short less)

          row : (a : NodeKey n k (m + 1) key) → Standing t a.node a.word (f (row_key n k a.node a.word)) → NodeRow n k t key
          row a stands = record {
            node = a.node;
            word = a.word;
            from_one = a.from_one;
            inside = omega (arith, a.inside);
            short = a.short;
            contained = contained_from_held t a.node a.word (f (row_key n k a.node a.word)) stands (subst (λ y. 0 < f y) a.key_is held);
            key_is = a.key_is;
          }
