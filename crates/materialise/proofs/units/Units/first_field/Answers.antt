use Rattle.std.proofs.Common.{◌≡◌, ◌+◌, ℕ, List, Some, None, slice_get, sym, ap, subst, ◌∙◌}
use Rattle.flow_code.specs.FlatCode.{FlatCode}
use Rattle.making_code.specs.Units.{field_unit}
use Rattle.materialise.proofs.CodeLaws.{got_none, got_some}
use Rattle.materialise.proofs.UnitLaws.{first_kept, first_past, first_there}
use Rattle.materialise.proofs.units.Units.first_field.Goals as goal
use Rattle.materialise.specs.Inner.UnitWords.{first_units, kept_unit}

pub returns-in-Some : goal.returns-in-Some
returns-in-Some c =
    let flat = c.self.inside.flat.now in
    let there : slice_get (first_units flat.locals flat.sites) c.args.site ≡ Some c.in-Some.unit.now =
    ap (λ (list : List ℕ). slice_get list c.args.site) (sym (c.deref.ensures.value ∙ c.self.invariant.fields_are))
    ∙ ap (slice_get c.deref.result.now) (sym c.from.ensures)
    ∙ got_some c.deref.result.now c.from.result c.in-Some.unit.now c.in-Some.ensures.lookup.0 c.in-Some.ensures.lookup.1 in
    subst (λ (f : FlatCode). c.in-Some.unit.now ≡ kept_unit f (field_unit c.args.site 0)) c.self.view_is
    (first_kept flat c.args.site c.in-Some.unit.now c.self.invariant.few (first_there flat.locals flat.sites c.args.site c.in-Some.unit.now there))

pub returns-in-None : goal.returns-in-None
returns-in-None c =
    let flat = c.self.inside.flat.now in
    let there : slice_get (first_units flat.locals flat.sites) c.args.site ≡ None =
    ap (λ (list : List ℕ). slice_get list c.args.site) (sym (c.deref.ensures.value ∙ c.self.invariant.fields_are))
    ∙ ap (slice_get c.deref.result.now) (sym c.from.ensures)
    ∙ got_none c.deref.result.now c.from.result c.in-None.ensures.lookup.3 in
    subst (λ (f : FlatCode). c.self.inside.objects ≡ kept_unit f (field_unit c.args.site 0)) c.self.view_is
    (first_kept flat c.args.site c.self.inside.objects c.self.invariant.few
    (c.self.invariant.objects_are ∙ ap (λ (units : ℕ). flat.locals + units) (sym (first_past flat.locals flat.sites c.args.site there))))
