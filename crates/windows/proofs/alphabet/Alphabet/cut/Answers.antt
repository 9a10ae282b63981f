use Rattle.std.proofs.Common.{◌≡◌, length, min, ap, ◌∙◌, sym}
use Rattle.terms.specs.Words.{marked, runs, windows}
use Rattle.terms.proofs.Windows.{cuts_from_windows, members_from_windows}
use Rattle.windows.specs.Values.{play_moves, cut_windows}
use Rattle.windows.proofs.Cutting.{windows_runs}
use Rattle.windows.proofs.alphabet.Alphabet.cut.Goals as goal

pub returns : goal.returns
returns c =
    let k = c.args.self.now.order in
    let w = marked (play_moves c.args.play.now) in
    let listed : cut_windows c.all_runs.result ≡ windows k w =
    c.all_runs.ensures ∙ ap (λ i. runs i c.as_slice-items.result.now) c.min.ensures ∙ ap (λ l. runs (min k (length l)) l) (c.as_slice-items.ensures ∙ c.marked-marked.ensures) ∙ sym (windows_runs k w) in
    record { law = cuts_from_windows k w _ listed; members = members_from_windows k w _ listed; listed = listed }
