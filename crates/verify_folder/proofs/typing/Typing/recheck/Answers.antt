use Rattle.std.proofs.Common.{List, Vec, Option, Global, IfNone, IfSome, Some, sym, ap, subst, ◌∙◌}
use Rattle.class_model.specs.declared.class_file.Handler.{Handler}
use Rattle.verify_folder.specs.Inner.Active.{AreStill, IsCheckedAgain, AllMightCatch, OneStops}
use Rattle.verify_folder.proofs.InForce.{active_fails, asked_again, might_catch, went_on}
use Rattle.verify_folder.proofs.typing.Typing.recheck.Goals as goal

pub returns-then-were_checked_with-clause-all : goal.returns-then-were_checked_with-clause-all
returns-then-were_checked_with-clause-all c =
    λ yes. went_on c.args.self.now c.args.before.now.locals c.args.at c.args.active.now c.set_at.new.self c.requires.in_force c.requires.later c.set_at.ensures (c.were_checked_with.ensures c.if-were_checked_with.true)

pub returns-in_default-clause-one : goal.returns-in_default-clause-one
returns-in_default-clause-one c =
    let s = c.args.self.now in
    let locals = c.args.before.now.locals in
    let stops : OneStops s locals c.args.at c.as_slice.result.now = subst (λ (found : Option (Vec Handler Global)). IfNone found (OneStops s locals c.args.at c.as_slice.result.now)) c.in_default.is c.in_ok-still.ensures.one in
    λ no. active_fails s locals c.args.at c.args.active.now c.requires.in_force c.requires.later (subst (OneStops s locals c.args.at) c.as_slice.ensures.value stops)

pub returns-clause-all : goal.returns-clause-all
returns-clause-all c =
    let s = c.args.self.now in
    let locals = c.args.before.now.locals in
    let are : AreStill s locals c.args.at c.as_slice.result.now c.in-Some.still.items = subst (λ (found : Option (Vec Handler Global)). IfSome found (λ still. AreStill s locals c.args.at c.as_slice.result.now still.items)) c.in-Some.is c.in_ok-still.ensures.all in
    let again : IsCheckedAgain c.args.active.now c.in-Some.still.items locals c.args.at c.set_checked.new.self = record {
      table = c.set_checked.ensures.table;
      begun = c.set_checked.ensures.begun;
      active_is = c.set_checked.ensures.active_is;
      locals_are = c.set_checked.ensures.locals_are ∙ ap Some c.in_ok-copy.ensures;
      at_is = c.set_checked.ensures.at_is;
    } in
    λ yes. asked_again s locals c.args.at c.args.active.now c.set_checked.new.self c.in-Some.still.items c.requires.in_force c.requires.later again (subst (λ (active : List Handler). AreStill s locals c.args.at active c.in-Some.still.items) c.as_slice.ensures.value are)

pub still_active-requires : goal.still_active-requires
still_active-requires c =
    subst (AllMightCatch c.args.self.now c.args.active.now.changes c.args.before.now.locals c.args.at) (sym c.as_slice.ensures.value)
    (might_catch c.args.self.now c.args.before.now.locals c.args.at c.args.active.now c.requires.in_force c.requires.later c.requires.known)
