use Rattle.std.proofs.Common.{length, ◌≤◌, ap, ◌∙◌, ◌++◌, [], ◌∷◌, take, subst, sym}
use Rattle.fixed_vec.proofs.Room.{room}
use Rattle.terms.specs.Words.{marked}
use Rattle.windows.proofs.Cutting.{marks_around}
use Rattle.windows.proofs.plays.Play.marked.Goals as goal

pub returns : goal.returns
returns c =
    let first = c.push.ensures ∙ ap (λ l. take 34 (l ++ (43 ∷ []))) c.new-items.ensures in
    marks_around _ _ _ _ (subst (λ l. length l ≤ 32) (sym c.moves.ensures) (room c.args.self.now.moves)) first c.extend_from_slice.ensures c.push-2.ensures ∙ ap marked c.moves.ensures
