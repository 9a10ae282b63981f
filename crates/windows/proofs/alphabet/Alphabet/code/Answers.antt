use Rattle.std.proofs.Common.{◌+◌, ◌*◌, ◌<◌, All, sym, ap, ◌∙◌, subst, arith}
use Rattle.std.proofs.lemmas.List.Elements.{All-more}
use Rattle.std.proofs.lemmas.List.{take_all}
use Rattle.terms.specs.Codes.{Item, code}
use Rattle.terms.proofs.Codes.{code_more}
use Rattle.windows.proofs.Coding.{room_more, coded}
use Rattle.windows.proofs.alphabet.Alphabet.code.Goals as goal
use Rattle.windows.proofs.alphabet.Alphabet.code.Goals.{In_ok-digit}

-- what the turn computes stays small
small : (c : In_ok-digit) → c.loop-item.code * c.base-base.result + c.in_ok-digit.digit < 759375
small c =
    let a = c.args.self.now in
    let inv = c.loop-item.invariant in
    let read = c.in_ok-digit.ensures in
    let room = room_more a.moves a.few c.args.word.now c.loop-item.item-index c.loop-item-test.true (omega (arith, a.high)) inv.0 read.0 in
    rw (inv.1, c.base-base.ensures, read.1) room

pub overflow_mul-code : goal.overflow_mul-code
overflow_mul-code c = omega (arith, small (goal.at.overflow_mul-code c).In_ok-digit)

pub overflow_add-code : goal.overflow_add-code
overflow_add-code c = omega (arith, small (goal.at.overflow_add-code c).In_ok-digit, c.from.ensures)

pub loop-item-preserved : goal.loop-item-preserved
loop-item-preserved c =
    let a = c.args.self.now in
    let inv = c.loop-item.invariant in
    let read = c.in_ok-digit.ensures in
    let sum = code_more a.moves a.few c.args.word.now c.loop-item.item-index c.loop-item-test.true in (
      All-more (Item a.moves) c.args.word.now c.loop-item.item-index 0 c.loop-item-test.true inv.0 read.0,
      rw (inv.1, c.base-base.ensures, c.from.ensures, read.1) (sym sum),
    )

pub returns : goal.returns
returns c =
    let a = c.args.self.now in
    let whole = take_all c.loop-item.item-index c.args.word.now c.loop-item-test.false in
    coded a.moves a.few a.order c.args.word.now c.loop-item.code (subst (All (Item a.moves)) whole c.loop-item.invariant.0) c.if-word-self.false (c.loop-item.invariant.1 ∙ ap (code a.moves) whole)
