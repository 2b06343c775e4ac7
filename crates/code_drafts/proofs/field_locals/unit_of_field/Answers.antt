use Rattle.std.proofs.Common.{◌≡◌, ℕ, ap, ◌∙◌, arith}
use Rattle.code_drafts.proofs.FieldLaws.{field_kept}
use Rattle.code_drafts.proofs.field_locals.unit_of_field.Goals as goal
use Rattle.making_code.specs.Units.{field_unit}
use Rattle.materialise.specs.Inner.UnitWords.{kept_unit}

pub returns : goal.returns
returns c =
    let flat = c.args.units.now in
    let low = c.loop-before.invariant.1 in
    let high = c.loop-before-test.false in
    let same : c.loop-before.before ≡ c.args.number = omega (arith, low, high) in
    c.loop-before.invariant.0
    ∙ ap (λ (n : ℕ). kept_unit flat (field_unit c.args.site n)) same
    ∙ field_kept flat c.args.site c.args.number c.flat-few.ensures.few
