use Rattle.std.proofs.Common.{rules, arith, ◌≡◌, false, sym, ◌∙◌}
use Rattle.std.proofs.lemmas.Grind.{common_steps}
use Rattle.std.specs.List.{list_any}
use Rattle.virtual_state.proofs.Filling.{none_made_within}
use Rattle.virtual_state.specs.Inner.Filling.{is_away}
use Rattle.virtual_state.specs.Sites.{has}
use Rattle.virtual_state.proofs.removal.object_without.Goals as goal

pub returns-then-not-holds_any : goal.returns-then-not-holds_any
returns-then-not-holds_any c =
    let none : list_any (is_away (has c.args.away.now)) c.args.object.now.fields ≡ false = first_of (search rules, grind (arith, common_steps)) in
    c.in_ok-same.ensures ∙ sym (none_made_within (has c.args.away.now) c.args.object.now none)
