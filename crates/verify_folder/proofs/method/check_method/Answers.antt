use Rattle.std.proofs.Common.{◌∙◌, sym, subst}
use Rattle.std.proofs.lemmas.Option.{same_Some}
use Rattle.member_link.specs.Scope.{Scope}
use Rattle.type_rules.specs.Typed.{Typed}
use Rattle.verify_folder.proofs.method.check_method.Goals as goal

pub returns-in-Ok : goal.returns-in-Ok
returns-in-Ok c =
    let found = c.in-Ok.ensures in
    (found.frames, λ s member is stands. subst (λ (of : Scope). Typed of found.frames) (same_Some c.in_ok-rules.rules s (sym c.in_ok-rules.ensures ∙ is)) found.typed)
