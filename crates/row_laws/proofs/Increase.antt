-- By how many keys the rows of the windows are more than those of the nodes.
use Rattle.std.proofs.Common.{◌≡◌, ℕ, zero, suc, ◌+◌, ◌-◌, ◌^◌, ◌<◌, ◌≤◌, List, length, sym, ap, ◌∙◌, inl, inr, ⊎_elim, add-zero, add-suc, arith}
use Rattle.std.proofs.lemmas.Bool.{cases_lt}
use Rattle.terms.specs.Codes.{base}
use Rattle.terms.proofs.Codes.{code_below}
use Rattle.tree_laws.specs.Routes.{WellFormed}
use Rattle.tree_laws.specs.declared.Node.{Node}
use Rattle.tree_laws.proofs.Computed.{bits_at, unique_standing}
use Rattle.tree_laws.proofs.Windows.{node_laws_lem}
use Rattle.racks.specs.Counts.{held_count_none, held_count_same}
use Rattle.racks.specs.Views.{held_count}
use Rattle.row_laws.specs.Progress.{NodeKey, Upto}
use Rattle.row_laws.specs.Rows.{HasRow, RowsAt, row_key}
use Rattle.row_laws.proofs.WithMarks.{window_word}
use Rattle.row_laws.proofs.Windowed.{node_key_high}

held_count_split : (f : ℕ → ℕ) (a b : ℕ) → held_count f (a + b) ≡ held_count f a + held_count (λ i. f (a + i)) b
unfolding held_count
held_count_split f a zero = ap (held_count f) (add-zero a) ∙ omega arith
held_count_split f a (suc b) = ap (held_count f) (add-suc a b) ∙ omega (arith, held_count_split f a b)

module _ (n k : ℕ) (t : List Node) (few : n ≤ 12) (wide : 2 ≤ k) (wf : WellFormed n t) (f g : ℕ → ℕ) (nodes : Upto n k t (length t) f) (all : RowsAt n k t g) where
  -- the first rows lie at or above the base's power
  low_free : (key : ℕ) → key < base n ^ k → f key ≡ 0
  low_free key low =
      ⊎_elim
      (λ held. let a = nodes.only key held in absurd (omega (arith, node_key_high n k a.node a.word a.from_one, a.key_is)))
      (λ none. omega arith)
      (cases_lt 0 (f key))

  -- and the others below it, so that nothing changes there
  high_same : (key : ℕ) → base n ^ k ≤ key → f key ≡ g key
  high_same key high = ⊎_elim (λ held. from_first (nodes.only key held)) (λ none. ⊎_elim (λ held. absurd (from_second (omega arith) (all.only key held))) (λ other. omega arith) (cases_lt 0 (g key))) (cases_lt 0 (f key))
    where
      from_first : NodeKey n k (length t) key → f key ≡ g key
      from_first a =
          ap f a.key_is
          ∙ unique_standing t a.node a.word _ _ (nodes.standings a.node a.word a.from_one a.inside a.moves a.short) (all.standings a.node a.word a.from_one a.inside a.moves a.short)
          ∙ ap g (sym a.key_is)

      from_second : f key ≡ 0 → HasRow n k t key → ⊥
      from_second none (inl r) =
          let moves = (node_laws_lem n t wf r.node r.from_one r.inside).moves r.word r.contained in
          let stands = nodes.standings r.node r.word r.from_one r.inside moves r.short in
          (bits_at t r.node r.word (f (row_key n k r.node r.word)) stands).none.0 (ap f (sym r.key_is) ∙ none) r.contained
      from_second none (inr r) = omega (arith, code_below n few k r.window (window_word n k r.window few wide r.is_window), r.key_is)

  pub count_increase : (reach : ℕ) → base n ^ k ≤ reach → held_count g reach - held_count f reach ≡ held_count g (base n ^ k)
  count_increase reach le =
      let p = base n ^ k in
      let rest = reach - p in
      let whole : p + rest ≡ reach = omega arith in
      let more = held_count_split f p rest in
      let most = held_count_split g p rest in
      let same = held_count_same (λ i. f (p + i)) (λ i. g (p + i)) rest (λ i h. high_same (p + i) (omega arith)) in
      omega (arith, ap (held_count f) whole, ap (held_count g) whole, more, most, same, held_count_none f p low_free)
