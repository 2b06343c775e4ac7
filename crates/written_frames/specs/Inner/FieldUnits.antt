-- The units of the fields of sites, one after the other.
use Rattle.std.specs.Prelude.{◌≡◌, ◌≤◌, ◌<◌, ◌+◌, ◌^◌, ◌++◌, ℕ, List, drop, length}
use Rattle.std.specs.List.{flat_map}
use Rattle.class_model.specs.Code.{verification_type}
use Rattle.class_model.specs.Descriptors.{parameter_units}
use Rattle.class_model.specs.Frames.{units}
use Rattle.class_model.specs.declared.descriptor.FieldType.{FieldType}
use Rattle.class_model.specs.declared.frame.VType.{VType}
use Rattle.flow_code.specs.WrittenUnits.{field_units}
use Rattle.flow_code.specs.declared.point.Site.{Site}
use Rattle.making_code.specs.StateFrames.{site_types_from}
use Rattle.virtual_state.specs.States.{State}

abbrev pub units_of_fields : List FieldType → List VType
units_of_fields fields = flat_map (λ type. units (verification_type type)) fields

-- the units of the fields before one stand behind the first ones
pub record HasFields (start : List VType) (fields : List FieldType) (locals : List VType) (at : ℕ) : Type 0 where
  pub room : length locals + parameter_units (drop at fields) < 2 ^ 64
  pub all : locals ++ units_of_fields (drop at fields) ≡ start ++ units_of_fields fields

-- so do those of the fields of the sites before one
pub record HasSites (state : State) (start : List VType) (sites : List Site) (locals : List VType) (number : ℕ) : Type 0 where
  pub few : length sites ≤ 65535
  pub room : length locals + field_units (drop number sites) < 2 ^ 64
  pub all : locals ++ site_types_from state number (drop number sites) ≡ start ++ site_types_from state 0 sites
