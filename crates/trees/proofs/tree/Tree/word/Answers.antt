use Rattle.std.proofs.Common.{◌≡◌}
use Rattle.terms.specs.Codes.{Word, code}
use Rattle.windows.specs.Values.{word_items}
use Rattle.trees.proofs.Planting.{moves_of_code}
use Rattle.trees.proofs.Trees.{is_tree}
use Rattle.trees.proofs.tree.Tree.word.Goals as goal

pub returns-clause-moves : goal.returns-clause-moves
returns-clause-moves c =
    let a = c.args.self.now.alphabet in
    let w = word_items c.unwrap.result in
    let told : Word a.moves a.order w × (code a.moves w ≡ c.args.code) = rw c.unwrap.ensures at c.word.ensures in
    moves_of_code (is_tree c.args.self.now) c.args.code c.requires w told.0 told.1
