use Rattle.std.proofs.Common.{◌≡◌, ◌∙◌, ℕ, Some, sym, ap, subst}
use Rattle.std.specs.Option.{option_copied}
use Rattle.class_tree.specs.Headers.{headers_of}
use Rattle.member_link.specs.Scope.{Scope}
use Rattle.type_rules.specs.Stated.{stated_at}
use Rattle.verify_folder.proofs.KnownLocals.{accepted}
use Rattle.verify_folder.proofs.typing.Typing.accepts_changes.Goals as goal

pub returns-in-Within-Some : goal.returns-in-Within-Some
returns-in-Within-Some c = λ yes might.
    let s = c.args.self.now in
    let handler = c.args.handler.now in
    let stated = c.in-Within-Some.stated.now in
    let same : headers_of c.tree.result.now ≡ s.headers = c.tree.ensures ∙ ap (λ (of : Scope). of.headers) c.self.view_is in
    let found : stated_at s handler.at ≡ Some stated =
    subst (λ (at : ℕ). stated_at s at ≡ Some stated) c.from.ensures
    (subst (λ (of : Scope). stated_at of c.from.result ≡ Some stated) c.self.view_is (sym c.stated_at-stated.ensures ∙ ap option_copied c.in-Within-Some.is-1))
    in
    accepted s (headers_of c.tree.result.now) same handler stated found c.args.changes c.in-Within-Some.from c.in-Within-Some.end c.in-Within-Some.is-0 c.args.before.now.locals (c.are_changed_locals_assignable.ensures yes) might
