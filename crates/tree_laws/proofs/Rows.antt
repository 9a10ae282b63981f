-- What a table of standings needs: which words have a standing other than 0, and which windows are playable.
use Rattle.std.proofs.Common.{◌≡◌, ℕ, ◌+◌, ◌<◌, ◌≤◌, List, [], ◌∷◌, ◌++◌, length, drop, Decides}
use Rattle.std.proofs.lemmas.Bool.Decides.{Decides-like}
use Rattle.terms.specs.Words.{Moves, start_mark, end_mark, marked}
use Rattle.tree_laws.specs.declared.Node.{Node}
use Rattle.tree_laws.specs.Routes.{WellFormed}
use Rattle.tree_laws.specs.Facts.{Standing, Playable}
use Rattle.tree_laws.specs.Computed.{has}
use Rattle.tree_laws.proofs.Windows.{node_laws_lem, window_laws_lem}
use Rattle.tree_laws.proofs.Computed.{bits_at}

module _ (n : ℕ) (t : List Node) (wf : WellFormed n t) (v : ℕ) (low : 1 ≤ v) (high : v ≤ length t) where
  -- a word that is not contained has no longer word around it
  pub none_longer : (u : List ℕ) (m s r : ℕ) → Standing t v u s → Standing t v (u ++ (m ∷ [])) r → s ≡ 0 → r ≡ 0
  none_longer u m s r h k e = (bits_at t v _ r k).none.1 (λ c. (bits_at t v u s h).none.0 e ((node_laws_lem n t wf v low high).without_last u m c))

  pub none_around : (u : List ℕ) (s r : ℕ) → Standing t v (drop 1 u) s → Standing t v u r → s ≡ 0 → r ≡ 0
  none_around u s r h k e = (bits_at t v u r k).none.1 (λ c. (bits_at t v (drop 1 u) s h).none.0 e ((node_laws_lem n t wf v low high).without_first u c))

  -- a word with an item that is no move
  pub none_foreign : (u : List ℕ) (s : ℕ) → Standing t v u s → (Moves n u → ⊥) → s ≡ 0
  none_foreign u s h other = (bits_at t v u s h).none.1 (λ c. other ((node_laws_lem n t wf v low high).moves u c))

-- the windows around u that the root plays, by the bits of the standing of u
pub record PlayedAt (k : ℕ) (t : List Node) (u : List ℕ) (s : ℕ) : Type 0 where
  pub both_marks : length u + 2 ≤ k → Decides (has s 8) (Playable t k (marked u))
  pub after_start : length u + 1 ≡ k → Decides (has s 2) (Playable t k (start_mark ∷ u))
  pub before_end : length u + 1 ≡ k → Decides (has s 4) (Playable t k (u ++ (end_mark ∷ [])))
  pub no_mark : length u ≡ k → Decides (has s 1) (Playable t k u)

pub played_at : (n k : ℕ) (t : List Node) → n < start_mark → 2 ≤ k → WellFormed n t → (u : List ℕ) (s : ℕ) → Moves n u → Standing t (length t) u s → PlayedAt k t u s
played_at n k t small wide wf u s moves h =
    let bits = bits_at t (length t) u s h in
    let w = window_laws_lem n k t small wide wf in
    record {
      both_marks = λ l. let i = w.both_marks u moves l in Decides-like _ i.1 i.0 bits.whole;
      after_start = λ l. let i = w.after_start u moves l in Decides-like _ i.1 i.0 bits.begins;
      before_end = λ l. let i = w.before_end u moves l in Decides-like _ i.1 i.0 bits.ends;
      no_mark = λ l. let i = w.no_mark u moves l in Decides-like _ i.1 i.0 bits.contained;
    }
