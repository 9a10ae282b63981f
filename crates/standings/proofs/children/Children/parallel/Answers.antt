use Rattle.standings.proofs.Masks.{parts}
use Rattle.standings.proofs.children.Children.parallel.Goals as goal

pub at_first-requires : goal.at_first-requires
at_first-requires g c =
    let both = parts c.args.self.now.alphabet.now c.args.word.now c.loop-mask.mask c.requires in
    rw (c.loop-mask.invariant.0.alphabet, c.as_slice.ensures, c.split.ensures.first) both.0

pub at_second-requires : goal.at_second-requires
at_second-requires g c =
    let both = parts c.args.self.now.alphabet.now c.args.word.now c.loop-mask.mask c.requires in
    rw (c.at_first.ensures.unaltered.alphabet, c.loop-mask.invariant.0.alphabet, c.as_slice-in-loop-mask.ensures, c.split.ensures.second) both.1
