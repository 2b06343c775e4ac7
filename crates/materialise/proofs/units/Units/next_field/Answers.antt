use Rattle.std.proofs.Common.{◌≡◌, ◌+◌, ℕ, List, Some, min, slice_get, sym, ap, ◌∙◌}
use Rattle.class_model.specs.declared.descriptor.FieldType.{FieldType}
use Rattle.flow_code.specs.FlatCode.{FlatCode}
use Rattle.flow_code.specs.declared.point.Site.{Site}
use Rattle.making_code.specs.Units.{field_unit, fields_at}
use Rattle.materialise.proofs.UnitLaws.{next_kept, sites_fields}
use Rattle.materialise.proofs.units.Units.next_field.Goals as goal
use Rattle.materialise.specs.Inner.UnitWords.{kept_unit, units_at}

pub returns-in-Some : goal.returns-in-Some
returns-in-Some c =
    let flat = c.args.self.now in
    let one = c.in-Some.one.now in
    let number = c.args.number in
    let sites : c.sites.result.now ≡ flat.sites = c.sites.ensures ∙ ap (λ (f : FlatCode). f.sites) c.self.view_is in
    let there : slice_get flat.sites c.args.site ≡ Some one =
    ap (λ (list : List Site). slice_get list c.args.site) (sym sites) ∙ ap (slice_get c.sites.result.now) (sym c.from.ensures) ∙ sym c.in-Some.ensures in
    let fields : c.as_slice.result.now ≡ fields_at flat c.args.site = c.as_slice.ensures ∙ sym (sites_fields flat c.args.site one there) in
    c.unit_behind.ensures
    ∙ ap (λ (unit : ℕ). min (unit + units_at c.as_slice.result.now number) 65535) c.requires
    ∙ ap (λ (list : List FieldType). min (kept_unit flat (field_unit c.args.site number) + units_at list number) 65535) fields
    ∙ next_kept flat c.args.site number
