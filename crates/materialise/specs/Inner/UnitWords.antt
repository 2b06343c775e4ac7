-- Numbers of local units as the code keeps them, in 16 bits.
use Rattle.std.specs.Prelude.{◌≡◌, ◌≤◌, ◌+◌, ℕ, min, List, [], ◌∷◌, slice_get, Option, Some, None}
use Rattle.class_model.specs.Descriptors.{kind_of, parameter_units, units_of}
use Rattle.class_model.specs.declared.descriptor.FieldType.{FieldType}
use Rattle.flow_code.specs.FlatCode.{FlatCode}
use Rattle.flow_code.specs.WrittenUnits.{written_units}
use Rattle.flow_code.specs.declared.point.Site.{Site}
use Rattle.making_code.specs.Units.{WUnit, first_object_unit, first_scratch_unit, unit_number}

-- the number of a unit, if 16 bits have it
abbrev pub kept_unit : FlatCode → WUnit → ℕ
kept_unit flat unit = min (unit_number flat unit) 65535

-- the first unit of each site's fields, where those of the first begin at a unit
abbrev pub first_units : ℕ → List Site → List ℕ
first_units unit [] = []
first_units unit (site ∷ sites) = unit ∷ first_units (unit + parameter_units site.fields) sites

-- the units of a field of a number, if there is one
abbrev pub units_at : List FieldType → ℕ → ℕ
units_at fields number = of_field (slice_get fields number) where
  of_field : Option FieldType → ℕ
  of_field None = 0
  of_field (Some type) = units_of (kind_of type)

-- what is kept of the units of a flat code that is not too wide
pub record AreKept (flat : FlatCode) (fields : List ℕ) (objects scratch : ℕ) : Type 0 where
  pub fields_are : fields ≡ first_units flat.locals flat.sites
  pub objects_are : objects ≡ first_object_unit flat
  pub scratch_is : scratch ≡ first_scratch_unit flat
  pub few : written_units flat ≤ 65535
