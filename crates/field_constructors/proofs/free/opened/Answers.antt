use Rattle.std.proofs.Common.{◌≡◌, ◌++◌, ℕ, List, length, slice_get, Some, refl, ap, ◌∙◌}
use Rattle.std.proofs.lemmas.Option.{slice_get_read}
use Rattle.field_constructors.proofs.ConstructorTexts.{one_opened}
use Rattle.field_constructors.proofs.free.opened.Goals as goal

pub loop-field-preserved : goal.loop-field-preserved
loop-field-preserved c =
    let fields = c.args.fields.now in
    let at = c.loop-field.field-index in
    let field = c.field-item.result in
    let there : slice_get fields at ≡ Some field = slice_get_read fields (length fields) at field refl c.loop-field-test.true c.field-item.is in
    one_opened fields at field c.loop-field.desc.items _ there c.bytes.ensures.text
    (c.in_ok-extend_from_slice.ensures.items ∙ ap (λ (l : List ℕ). c.loop-field.desc.items ++ l) c.bytes.ensures.same) c.loop-field.invariant
