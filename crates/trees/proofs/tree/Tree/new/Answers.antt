use Rattle.std.proofs.Common.{◌≡◌, ◌+◌, map, length, ap, ◌∙◌, subst, sym, arith}
use Rattle.std.proofs.lemmas.List.{take_all, length-map}
use Rattle.std.proofs.lemmas.Bool.Decides.{nat_tests}
use Rattle.fixed_vec.specs.Lists.{list_of}
use Rattle.trees.specs.Tables.{node_of}
use Rattle.trees.proofs.Tables.{Sofar, sofar_more, all_checked}
use Rattle.trees.proofs.tree.Tree.new.Goals as goal

pub loop-i-preserved : goal.loop-i-preserved
loop-i-preserved c =
    let told = c.in-Ok.ensures in
    subst (Sofar c.args.alphabet.moves c.args.table.now (c.loop-i.i + 1)) (sym c.push.ensures)
    (sofar_more c.args.alphabet.moves c.args.table.now c.loop-i.i _ _ _ c.moves.result c.moves.ensures c.loop-i-test.true (omega arith) c.loop-i.invariant told.0 told.1)

pub invariant_of-result : goal.invariant_of-result
invariant_of-result c =
    let table = c.args.table.now in
    let end : c.loop-i.i ≡ length table = omega arith in
    let all : Sofar c.args.alphabet.moves table (length table) (list_of c.loop-i.nodes) = subst (λ i. Sofar c.args.alphabet.moves table i (list_of c.loop-i.nodes)) end c.loop-i.invariant in
    let read : list_of c.loop-i.nodes ≡ map node_of table = all.read ∙ ap (map node_of) (take_all (length table) table (omega arith)) in
    let long : length (list_of c.loop-i.nodes) ≡ length table = ap length read ∙ length-map table node_of in
    record { some = grind (arith, nat_tests, long); few = omega (arith, long); proper = all_checked c.args.alphabet.moves table _ all.good read }
