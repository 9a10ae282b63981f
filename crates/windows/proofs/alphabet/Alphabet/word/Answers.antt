use Rattle.std.proofs.Common.{◌≡◌, ◌+◌, ◌-◌, ◌≤◌, length, take, drop, sym, ap, ◌∙◌, arith}
use Rattle.std.proofs.lemmas.List.{drop-take, take_all}
use Rattle.windows.proofs.alphabet.Alphabet.word.Goals as goal

pub returns : goal.returns
returns c =
    let k = c.args.self.now.order in
    let i = c.in_ok-start.start in
    let w = c.spell.new.items in
    let found = c.in_ok-start.ensures.word in
    let to_k : i + (k - i) ≡ k = omega (arith, found.0) in
    let short : length (drop i (take k w)) ≤ 5 = omega (arith, found.1.0.short, c.args.self.now.high) in
    let is = c.of.ensures ∙ ap (take 5) (sym (drop-take i (k - i) w) ∙ ap (λ j. drop i (take j w)) to_k) ∙ take_all 5 (drop i (take k w)) short in
    rw is found.1
