use Rattle.std.proofs.Common.{◌≡◌, ap, ◌∙◌, sym, subst, unwrap_or, rules}
use Rattle.std.proofs.lemmas.Iterator.{YieldsList-from_slice}
use Rattle.std.proofs.lemmas.Iterator.Consumers.{YieldsList-from_filter_map, max_from_yields_List}
use Rattle.std.proofs.lemmas.Iterator.Adapters.{option_map_id}
use Rattle.weighings.specs.Weights.{weight_if_move, dearest, IsDearest}
use Rattle.weighings.specs.Moves.{is_dearest, same_weight}
use Rattle.weighings.proofs.dearest_weight.Goals as goal

pub returns : goal.returns
returns c =
    let most = max_from_yields_List _ c.max.result c.max.ensures.ran (YieldsList-from_filter_map _ weight_if_move (YieldsList-from_slice c.args.window.now cc) c.filter_map.ensures.closure (λ x r q k. search (rules, same_weight))) in
    let is : c.unwrap_or.result ≡ dearest c.args.window.now = c.unwrap_or.ensures ∙ ap (λ o. unwrap_or o 1) (sym (option_map_id c.max.result) ∙ most) in
    record { value = is; law = subst (IsDearest c.args.window.now) (sym is) (is_dearest c.args.window.now) }
