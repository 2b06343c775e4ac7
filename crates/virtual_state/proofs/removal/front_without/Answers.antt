use Rattle.std.proofs.Common.{◌≡◌, ◌-◌, ◌++◌, false, length, replicate, sym, ◌∙◌, rules, arith}
use Rattle.std.proofs.lemmas.Grind.{common_steps}
use Rattle.std.specs.List.{list_any}
use Rattle.virtual_state.proofs.Filling.{none_made}
use Rattle.virtual_state.proofs.Fronts.{away_listed, made_front}
use Rattle.virtual_state.specs.Inner.Filling.{is_away}
use Rattle.virtual_state.specs.Sites.{has}
use Rattle.virtual_state.specs.declared.slot.Slot.TheVariants.{Unusable}
use Rattle.virtual_state.proofs.removal.front_without.Goals as goal

pub returns-then-not-holds_any : goal.returns-then-not-holds_any
returns-then-not-holds_any c =
    let away = has c.args.away.now in
    let front = c.args.front.now in
    let listed = c.listed-listed.result.now in
    let none : list_any (is_away away) listed ≡ false = first_of (search rules, grind (arith, common_steps)) in
    c.in_ok-same.ensures ∙ sym (none_made away front (away_listed away front listed (length front - length listed) c.listed-listed.ensures ∙ none))

pub returns : goal.returns
returns c =
    let away = has c.args.away.now in
    let front = c.args.front.now in
    let listed = c.listed-listed.result.now in
    c.in_ok-rest.ensures
    ∙ (λ i. c.in_ok-list.ensures i ++ replicate (c.len.ensures.len i - length listed) Unusable)
    ∙ sym (made_front away front listed (length front - length listed) c.listed-listed.ensures)
