use Rattle.std.proofs.Common.{◌≡◌, ℕ, ◌%◌, ◌-◌, ◌<◌, ◌≤◌, length, get_or, get_or-set_same, length-set, refl, ◌∙◌, arith}
use Rattle.terms.specs.Codes.{base, item}
use Rattle.windows.proofs.Coding.{nobody_zero, nobody_short, spelled}
use Rattle.windows.proofs.alphabet.Alphabet.+spell.Goals as goal

pub returns-then-end-eq0-clause-word : goal.returns-then-end-eq0-clause-word
returns-then-end-eq0-clause-word t c = let a = c.args.self.now in nobody_short a.moves a.few c.args.end (base a.moves) _ refl c.requires.some c.if-end-eq0.true

pub returns-then-digit-eq0-clause-word : goal.returns-then-digit-eq0-clause-word
returns-then-digit-eq0-clause-word t c = let a = c.args.self.now in nobody_zero a.moves a.few c.args.end _ _ c.base-base.ensures c.requires.some c.if-digit-eq0.true

pub returns-clause-word : goal.returns-clause-word
returns-clause-word t c =
    let a = c.args.self.now in
    let inside : c.args.end - 1 < length c.args.items.now = omega arith in
    let kept = c.spell.ensures.kept (c.args.end - 1) (omega arith) in
    let last : get_or c.spell.new.items (c.args.end - 1) 0 ≡ item a.moves (c.args.code % c.base-base.result) = kept ∙ (rw get_or-set_same c.item.ensures) in
    let long : c.args.end ≤ length c.spell.new.items = omega (arith, length-set {A = ℕ}) in
    spelled a.moves a.few c.args.end _ _ c.base-base.ensures c.requires.some c.spell.result c.spell.new.items c.if-end-eq0.false c.if-digit-eq0.false long last c.spell.ensures.word
