-- The local units of written code. It is this project's profile.
--
-- In order: the units of the flat code; for each candidate site those of its fields; for each candidate site one for its object; and
-- scratch units, as many as the deepest typed stack has.
use Rattle.std.specs.Prelude.{ℕ, ◌+◌, List, [], length, take, slice_get, Option, Some, None}
use Rattle.class_model.specs.Descriptors.{parameter_units}
use Rattle.class_model.specs.declared.descriptor.FieldType.{FieldType}
use Rattle.flow_code.specs.FlatCode.{FlatCode}
use Rattle.flow_code.specs.WrittenUnits.{field_units}
use Rattle.flow_code.specs.declared.point.Site.{Site}

-- A local unit of written code, the first one of a long or double.
pub data WUnit : Type 0 where
  -- a unit of the flat code
  own : ℕ → WUnit
  -- the unit of a field of a virtual object, by the numbers of its site and of the field
  field_unit : ℕ → ℕ → WUnit
  -- the unit that has the object of a site once it is made
  object_unit : ℕ → WUnit
  -- the unit that a stack entry is saved in, by the units of the typed stack below the entry
  scratch : ℕ → WUnit

-- the types of the fields of a site's object
abbrev pub fields_at : FlatCode → ℕ → List FieldType
fields_at flat site = of_site (slice_get flat.sites site) where
  of_site : Option Site → List FieldType
  of_site None = []
  of_site (Some one) = one.fields

-- the first field unit of a site
abbrev pub first_field_unit : FlatCode → ℕ → ℕ
first_field_unit flat site = flat.locals + field_units (take site flat.sites)

-- the object unit of the first site
abbrev pub first_object_unit : FlatCode → ℕ
first_object_unit flat = flat.locals + field_units flat.sites

abbrev pub first_scratch_unit : FlatCode → ℕ
first_scratch_unit flat = first_object_unit flat + length flat.sites

abbrev pub unit_number : FlatCode → WUnit → ℕ
unit_number flat (own unit) = unit
unit_number flat (field_unit site number) =
    first_field_unit flat site + parameter_units (take number (fields_at flat site))
unit_number flat (object_unit site) = first_object_unit flat + site
unit_number flat (scratch depth) = first_scratch_unit flat + depth
