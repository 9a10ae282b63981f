use Rattle.std.proofs.Common.{rules}
use Rattle.windows.proofs.Tests.{Sized, front_from, back_from, window_from_test, test_from_window}
use Rattle.windows.proofs.alphabet.Alphabet.is_window.Goals as goal
use Rattle.windows.proofs.alphabet.Alphabet.is_window.Goals.{then-len-moves, else-len-moves}

pub returns-then-fits : goal.returns-then-fits
returns-then-fits c =
    let a = c.args.self.now in
    let front = front_from _ _ _ c.strip_prefix.ensures.cases c.unwrap_or-rest.ensures in
    let back = back_from _ _ _ c.strip_suffix.ensures.cases c.unwrap_or-moves.ensures in
    let size : Sized a.order c.args.bytes.now c.unwrap_or-moves.result.now =
    elim c.if-len-moves.branch [
      | then-len-moves w ↦ record { both = λ _. search (rules, w.fits-is, c.if-fits.true); other = λ e. absurd (e w.if-len-moves.true) }
      | else-len-moves w ↦ record { both = λ e. absurd (w.if-len-moves.false e); other = λ _. search (rules, w.fits-is, c.if-fits.true) }
    ] in (
      λ e. window_from_test a.moves a.order a.few a.low _ _ _ front back size (c.are_moves.ensures.0 e),
      λ is. c.are_moves.ensures.1 (test_from_window a.moves a.order a.few a.low _ _ _ front back is).1,
    )
