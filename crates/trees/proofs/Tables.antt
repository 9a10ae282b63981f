-- The loop that checks a table.
use Rattle.std.proofs.Common.{◌≡◌, ℕ, ◌+◌, ◌-◌, ◌<◌, ◌≤◌, eqb, List, [], ◌∷◌, ◌++◌, map, length, get_or, take, sym, ap, ◌∙◌, subst, arith, below_more}
use Rattle.std.proofs.lemmas.List.{take_all, map_more, get_or-map, get_or_default, length-map, length-take-le}
use Rattle.std.proofs.lemmas.Bool.{cond_both, eqb-true}
use Rattle.std.proofs.lemmas.Bool.Decides.{nat_tests}
use Rattle.tree_laws.proofs.Checked.{checked}
use Rattle.tree_laws.specs.Checked.{Checked}
use Rattle.tree_laws.specs.Routes.{WellFormed, Proper, Lower}
use Rattle.tree_laws.specs.declared.Node.{Node}
use Rattle.tree_laws.specs.declared.Node.TheVariants.{Skip, Move as Single, Choice, Sequence, Loop, Parallel}
use Rattle.trees.specs.Tables.{AllGood, Good, node_of}
use Rattle.trees.specs.declared.raw.RawNode.{RawNode}

-- the first i triples are good, and these are their nodes
pub record Sofar (n : ℕ) (table : List RawNode) (i : ℕ) (nodes : List Node) : Type 0 where
  pub good : AllGood n table i
  pub read : nodes ≡ map node_of (take i table)

-- a good triple stands for a proper node
good_proper : (n v : ℕ) (x : RawNode) → Good n v x → Proper n v (node_of x)
good_proper n v x good =
    let k = x.kind in
    cond_both (eqb k 0) Skip _ (Proper n v) (λ _. tt)
    (λ no_skip.
    cond_both (eqb k 1) (Single x.a) _ (Proper n v) (λ e. good.first.single (eqb-true k 1 e))
    (λ no_move.
    let two : 2 ≤ k = grind (arith, nat_tests) in
    let both : Lower v x.a × Lower v x.b = (good.first.child two, good.second.child two) in
    cond_both (eqb k 2) (Choice x.a x.b) _ (Proper n v) (λ _. both)
    (λ _. cond_both (eqb k 3) (Sequence x.a x.b) _ (Proper n v) (λ _. both) (λ _. cond_both (eqb k 4) (Loop x.a x.b) (Parallel x.a x.b) (Proper n v) (λ _. both) (λ _. both)))))

module _ (n : ℕ) (table : List RawNode) where
  pub sofar_more : (i : ℕ) (nodes : List Node) (x : Node) (d : RawNode) (m : ℕ) → m ≡ n → i < length table → i < 32 → Sofar n table i nodes → Good m (i + 1) (get_or table i d) → x ≡ node_of (get_or table i d) → Sofar n table (i + 1) (take 32 (nodes ++ (x ∷ [])))
  sofar_more i nodes x d m same inside room s good is =
      let longer : nodes ++ (x ∷ []) ≡ map node_of (take (i + 1) table) = (λ p. s.read p ++ (is p ∷ [])) ∙ sym (map_more node_of table i d inside) in
      let fits : length (nodes ++ (x ∷ [])) ≤ 32 = omega (arith, ap length longer, length-map (take (i + 1) table) node_of, length-take-le (i + 1) table (omega arith)) in
      record {
        good = λ j e h. below_more (λ q. (c : RawNode) → Good n (q + 1) (get_or table q c)) i (λ q l c. s.good q c l) (λ c. subst (Good n (i + 1)) (get_or_default table i d c inside) (subst (λ p. Good p (i + 1) (get_or table i d)) same good)) j h e;
        read = take_all 32 (nodes ++ (x ∷ [])) fits ∙ longer;
      }

  pub all_checked : (nodes : List Node) → AllGood n table (length table) → nodes ≡ map node_of table → Checked n nodes
  all_checked nodes good read = checked n nodes well
    where
      none : RawNode
      none = record { kind = 0; a = 0; b = 0 }

      well : WellFormed n nodes
      well v low high =
          let back : v - 1 + 1 ≡ v = omega arith in
          let inside : v - 1 < length table = omega (arith, ap length read ∙ length-map table node_of) in
          let here : get_or nodes (v - 1) Skip ≡ node_of (get_or table (v - 1) none) = ap (λ l. get_or l (v - 1) Skip) read ∙ get_or-map node_of table (v - 1) none Skip inside in
          subst (Proper n v) (sym here) (good_proper n v (get_or table (v - 1) none) (subst (λ m. Good n m (get_or table (v - 1) none)) back (good (v - 1) none inside)))
