use Rattle.pnm_chain.proofs.Words.{◌≡◌, ◌==◌, sym, ap, ◌∙◌, rules, tests, YieldsList-from_slice, position_from_yields_List, without_dashes, without_dash}
use Rattle.pnm_chain.proofs.ItemSteps.{equals_place, name_before, value_after, name_alone, no_value}
use Rattle.pnm_chain.proofs.items.split_option.Goals as goal

pub returns-in-Some : goal.returns-in-Some
returns-in-Some c =
    let text = c.without_dash-text.result.now in
    let is : text ≡ without_dashes c.args.word.now = c.without_dash-text.ensures ∙ ap without_dash c.without_dash.ensures in
    let found : c.position.result ≡ equals_place text = position_from_yields_List (λ b. b == 61) _ _ _ c.position.ensures.ran (YieldsList-from_slice text cc)
    (λ x b q k. search (rules, tests)) in
    let place = sym c.in-Some.is ∙ found in
    record {
      name = name_before text c.args.word.now c.in-Some.at is place;
      value = value_after text c.args.word.now c.in-Some.at is place;
    }

pub returns-in-None : goal.returns-in-None
returns-in-None c =
    let text = c.without_dash-text.result.now in
    let is : text ≡ without_dashes c.args.word.now = c.without_dash-text.ensures ∙ ap without_dash c.without_dash.ensures in
    let found : c.position.result ≡ equals_place text = position_from_yields_List (λ b. b == 61) _ _ _ c.position.ensures.ran (YieldsList-from_slice text cc)
    (λ x b q k. search (rules, tests)) in
    let place = sym c.in-None.is ∙ found in
    record { name = name_alone text c.args.word.now is place; value = no_value text c.args.word.now is place }
