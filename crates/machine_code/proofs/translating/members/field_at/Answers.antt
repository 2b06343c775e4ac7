use Rattle.std.proofs.Common.{◌≡◌, Some, ap, sym, subst, rules, ◌∙◌}
use Rattle.std.specs.Option.{option_copied}
use Rattle.class_model.specs.Pool.{constant_at}
use Rattle.member_link.specs.Signatures.{reference_of}
use Rattle.machine_code.specs.Inner.Translating.{IsFieldNamed}
use Rattle.machine_code.proofs.translating.members.field_at.Goals as goal

pub returns-in_ok-new-in-Some : goal.returns-in_ok-new-in-Some
returns-in_ok-new-in-Some c =
    let code = c.args.code.now in
    let named = reference_of code.class.pool (constant_at code.class.pool c.args.index) in
    let at : named ≡ Some c.in-Some.named = search rules in
    let made = c.in_ok-op-in-Some.ensures in
    subst (IsFieldNamed code.classes named (option_copied c.args.initialises)) (sym c.in_ok-new-in-Some.ensures.ok)
    (record {
      names = at ∙ ap Some (sym made.named);
      inside = made.initialises ∙ c.in_ok-copied-in-Some.ensures;
      resolved = λ P is. made.resolved P (search rules);
    })
