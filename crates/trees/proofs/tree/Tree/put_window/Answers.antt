use Rattle.std.proofs.Common.{◌≡◌, refl, sym, ap, ◌∙◌, subst}
use Rattle.std.proofs.lemmas.Bool.{some_since}
use Rattle.terms.specs.Codes.{Word, code}
use Rattle.windows.specs.Values.{word_items}
use Rattle.windows.specs.Promises.{Coded}
use Rattle.row_laws.specs.Windowed.{with_marks}
use Rattle.row_laws.proofs.WithMarks.{with_marks_word}
use Rattle.trees.specs.Marks.{marks_number}
use Rattle.trees.proofs.Trees.{is_tree}
use Rattle.trees.proofs.WindowRows.{marks_four, bit_set, bit_unset, pass_window, window_written}
use Rattle.trees.proofs.tree.Tree.put_window.Goals as goal

pub returns-then-standing-bit-eq0-clause-rows : goal.returns-then-standing-bit-eq0-clause-rows
returns-then-standing-bit-eq0-clause-rows g c =
    let tree = c.args.self.now in
    let i = marks_number c.args.marks in
    pass_window (is_tree tree) (word_items c.args.word) c.args.standing i (marks_four c.args.marks) _
    (λ fits. bit_unset c.args.standing i c.bit.result c.bit.ensures c.if-standing-bit-eq0.true) c.requires

pub returns-in_default-clause-rows : goal.returns-in_default-clause-rows
returns-in_default-clause-rows g c =
    let tree = c.args.self.now in
    pass_window (is_tree tree) (word_items c.args.word) c.args.standing (marks_number c.args.marks) (marks_four c.args.marks) _
    (λ fits. cc (c.in_default.ensures.fits.1 fits)) c.requires

pub unwrap-code-requires : goal.unwrap-code-requires
unwrap-code-requires g c =
    let a = c.args.self.now.alphabet in
    let u = word_items c.args.word in
    let i = marks_number c.args.marks in
    let told = c.in-Some.ensures in
    let word = with_marks_word a.moves a.few a.order i u c.requires.moves (told.fits.0 refl) in
    some_since c.code.result _ _ c.code.ensures (λ none. none (subst (Word a.moves a.order) (sym (c.items.ensures ∙ told.marked)) word))

pub returns-clause-rows : goal.returns-clause-rows
returns-clause-rows g c =
    let tree = c.args.self.now in
    let a = tree.alphabet in
    let u = word_items c.args.word in
    let i = marks_number c.args.marks in
    let told = c.in-Some.ensures in
    let coded : Coded a.moves a.order c.items.result.now c.unwrap-code.result = rw c.unwrap-code.ensures at c.code.ensures in
    let key : c.unwrap-code.result ≡ code a.moves (with_marks i u) = coded.is ∙ ap (code a.moves) (c.items.ensures ∙ told.marked) in
    window_written (is_tree tree) u c.args.standing i (marks_four c.args.marks) c.unwrap-code.result key (told.fits.0 refl)
    (bit_set c.args.standing i c.bit.result c.bit.ensures c.if-standing-bit-eq0.false) _ _ c.requires c.write.result c.write.ensures.accepted c.write.ensures.after
