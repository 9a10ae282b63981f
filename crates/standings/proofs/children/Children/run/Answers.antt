use Rattle.std.proofs.Common.{rules, ◌≡◌, ℕ, List, length, ◌∙◌, arith}
use Rattle.racks.specs.Views.{View}
use Rattle.tree_laws.specs.Boundaries.{next_a, next_b}
use Rattle.tree_laws.specs.Computed.{state_bit}
use Rattle.standings.specs.declared.children.Children.{Children}
use Rattle.standings.specs.Children.{first_rows, second_rows, by_rows, Unaltered}
use Rattle.standings.specs.Rows.{rows_in}
use Rattle.standings.specs.Loops.{columns, in_middle}
use Rattle.standings.proofs.LoopStates.{held_more}
use Rattle.standings.proofs.children.Children.run.Goals as goal

-- children that were asked for rows have the same rows still
as_before : {R X : Type 0} {view : R → View} {before after : Children R} → Unaltered view before after → (f : (List ℕ → ℕ) → (List ℕ → ℕ) → X) (x : X)
    → x ≡ by_rows view after f → x ≡ by_rows view before f
as_before same f x e = e ∙ (λ i. f (rows_in (same.alphabet i) (same.rack i) (same.first i)) (rows_in (same.alphabet i) (same.rack i) (same.second i)))

pub loop-preserved : goal.loop-preserved
loop-preserved g c =
    let middle = in_middle c.args.entry in
    let sa = first_rows g.R.Rack.view c.args.self.now in
    let sb = second_rows g.R.Rack.view c.args.self.now in
    let u = c.args.word.now in
    let l = c.as_slice.result.now in
    let inv = c.loop.invariant in
    let a = as_before inv.0 (λ sa sb. state_bit middle sa sb u (columns l) (length l) next_a) _ c.reached-next.ensures.a in
    let b = as_before inv.0 (λ sa sb. state_bit middle sa sb u (columns l) (length l) next_b) _ c.reached-next.ensures.b in
    let more = held_more middle sa sb u l c.loop.counter c.reached-next.result (omega arith) (rw c.as_slice.ensures inv.1) a b in
    (search rules, rw (c.push.ensures, ← c.as_slice.ensures) more)
