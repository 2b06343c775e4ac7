use Rattle.std.proofs.Common.{◌≡◌, ◌∙◌, [], Option, Some, None, Ok, ap, sym, subst}
use Rattle.std.specs.Option.{option_copied}
use Rattle.class_model.specs.declared.frame.Frame.{Frame}
use Rattle.member_link.specs.Scope.{Scope}
use Rattle.type_rules.specs.Rule.{Rules}
use Rattle.type_rules.specs.Stated.{stated_at}
use Rattle.verify_folder.proofs.Passing.{handed_on}
use Rattle.verify_folder.specs.Inner.Active.{AreKnown}
use Rattle.verify_folder.specs.Inner.Passing.{IsPassed}
use Rattle.verify_folder.proofs.typing.Typing.hands_on.Goals as goal

pub returns-in-None : goal.returns-in-None
returns-in-None c =
    let s = c.args.self.now in
    let placed = c.args.placed.now in
    let frame = c.in-Nop-Some.frame.now in
    let none : stated_at s placed.at ≡ None = subst (λ (of : Scope). stated_at of placed.at ≡ None) c.self.view_is (sym c.stated_at.ensures ∙ ap option_copied c.in-None.is) in
    let same : AreKnown c.args.active.now (Some frame) = subst (AreKnown c.args.active.now) (ap option_copied c.in-Nop-Some.is-1) c.requires.known in
    λ yes.
    let rule = subst (λ (of : Scope). Rules of placed frame (Ok (record { next = Some frame; thrown = record { locals = frame.locals; stack = [] } }))) c.self.view_is (c.keeps.ensures yes) in
    subst (λ (flows : Option Frame). IsPassed s flows placed flows) (sym (ap option_copied c.in-Nop-Some.is-1))
    (handed_on s frame placed c.in-Nop-Some.is-0 none c.args.active.now c.requires.in_force c.requires.later (c.is_idle.ensures.none c.if-not-is_idle.false) same (c.is_idle.ensures.checked c.if-not-is_idle.false) rule)
