use Rattle.std.proofs.Common.{◌≡◌, subst, ◌∙◌}
use Rattle.std.proofs.lemmas.Option.{get_or_from_slice_get}
use Rattle.class_rewrite.proofs.marked_fields.mark_listed.Goals as goal
use Rattle.class_rewrite.specs.Inner.Marking.{MarksFields}
use Rattle.class_rewrite.specs.declared.outcome.FieldAt.{FieldAt}

pub returns : goal.returns
returns c = λ one is.
    let same : c.in-Some.at.now ≡ one =
    c.in-Some.ensures.lookup.1 ∙ get_or_from_slice_get c.args.fields.now c.args.place one c.in-Some.at.now is in
    subst (λ (x : FieldAt). MarksFields (λ class number. (class ≡ x.class) × (number ≡ x.field)) c.args.rows.now.items c.mark_field.new.rows.items) same
    c.mark_field.ensures
