use Rattle.std.proofs.Common.{◌≡◌, length, arith}
use Rattle.std.proofs.lemmas.Bool.Decides.{nat_tests}
use Rattle.plan_flow.proofs.Cleaning.{cleaned_same, cleaned_without}
use Rattle.plan_flow.proofs.targets.cleaned.Goals as goal

pub returns-then-is_empty : goal.returns-then-is_empty
returns-then-is_empty c =
    let none : length c.in_ok-sites.sites ≡ 0 = grind (arith, nat_tests) in
    cleaned_same c.args.flat.now c.args.at c.args.state c.in_ok-sites.sites c.in_ok-sites.ensures none

pub returns : goal.returns
returns c =
    cleaned_without c.args.flat.now c.args.at c.args.state c.in_ok-clean.clean c.in_ok-sites.sites c.in_ok-away.away
    c.is_state.ensures c.in_ok-sites.ensures c.in_ok-away.ensures c.in_ok-clean.ensures
