use Rattle.std.proofs.Common.{sym, subst}
use Rattle.inline_expand.proofs.SiteLaws.{new_of_call, no_new_call}
use Rattle.inline_expand.specs.Inner.SiteTables.{IsNewInitialised}
use Rattle.inline_expand.proofs.sites.new_initialised_at.Goals as goal

pub returns-in-Some : goal.returns-in-Some
returns-in-Some c =
    subst (IsNewInitialised c.args.method.now c.args.at) (sym c.new_of.ensures)
    (new_of_call c.args.method.now c.args.at c.in-Some.call.object c.in-Some.ensures.reference c.in-Some.ensures.is)

pub returns-in-None : goal.returns-in-None
returns-in-None c = no_new_call c.args.method.now c.args.at c.in-None.ensures
