use Rattle.std.proofs.Common.{arith}
use Rattle.terms.specs.Codes.{base}
use Rattle.terms.proofs.Codes.{power_small}
use Rattle.row_laws.proofs.Keys.{code_of_moves}
use Rattle.windows.specs.Values.{word_items}
use Rattle.trees.proofs.tree.Tree.windows_around.Goals as goal

pub overflow_add-root_start : goal.overflow_add-root_start
overflow_add-root_start g c =
    let a = c.args.self.now.alphabet in
    let w = c.word-word.ensures in
    omega (arith, w.code, code_of_moves a.moves a.order a.few (word_items c.word-word.result) w.moves w.short, power_small (base a.moves) a.order (omega (arith, a.few)) a.high)
