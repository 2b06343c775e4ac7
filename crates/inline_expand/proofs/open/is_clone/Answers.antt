use Rattle.std.proofs.Common.{◌≡◌, codes, sym, ap, ◌∙◌}
use Rattle.std.proofs.lemmas.Option.{none-some, same_Some}
use Rattle.std.proofs.lemmas.Slice.Eq.{bytes_eq-Decides}
use Rattle.class_model.specs.declared.header.Member.{Member}
use Rattle.inline_expand.proofs.open.is_clone.Goals as goal

pub returns-in-Some : goal.returns-in-Some
returns-in-Some c = λ method is.
    let same = same_Some c.in-Some.method.now method.member (c.in-Some.ensures method is) in
    let name : c.bytes.result.now ≡ method.member.name = c.bytes.ensures.same ∙ ap (λ (m : Member). m.name) same in
    let decides = bytes_eq-Decides c.bytes.result.now (codes "clone") in
    (λ yes. sym name ∙ decides.0 (sym c.eq.ensures ∙ yes), λ clone. c.eq.ensures ∙ decides.1 (name ∙ clone))

pub returns-in-None : goal.returns-in-None
returns-in-None c = λ method is. absurd (none-some method.member (c.in-None.ensures method is))
