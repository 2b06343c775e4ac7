-- What plans of flat code read: the classes, what look-up and subtyping answer, and the flat code. It is this project's profile.
use Rattle.std.specs.Prelude.{◌==◌, ℕ, Bool, false, List, [], length, slice_get, Option, Some, None, option_and_then, not, is_some}
use Rattle.class_model.specs.Pool.{Constants, constant_at}
use Rattle.class_model.specs.declared.class_file.ClassFile.{ClassFile}
use Rattle.class_model.specs.declared.frame.VType.{VType}
use Rattle.class_tree.specs.Headers.{Name, Classes, headers_of, named}
use Rattle.flow_code.specs.FlatCode.{FlatCode, point_at}
use Rattle.flow_code.specs.declared.point.Point.{Point}
use Rattle.flow_code.specs.declared.point.Site.{Site}
use Rattle.member_link.specs.Machine.Layouts.{slot_number_in}
use Rattle.member_link.specs.Machine.Programs.{Links, number_of_first}
use Rattle.member_link.specs.References.{Reference}
use Rattle.member_link.specs.Signatures.{reference_of}

pub record PlanScope : Type 0 where
  -- the class files of the folder, and the headers of its library
  pub classes : Classes
  -- what look-up and subtyping answer there
  pub links : Links
  -- the flat code of a method
  pub flat : FlatCode

-- ---- constants

-- the constants that an instruction of a class names, by the class's number
abbrev pub pool_of : PlanScope → ℕ → Constants
pool_of s class = of_file (slice_get s.classes.folder class) where
  of_file : Option ClassFile → Constants
  of_file None = []
  of_file (Some file) = file.pool

-- the member that an index refers to
abbrev pub member_of : PlanScope → ℕ → ℕ → Option Reference
member_of s class index = reference_of (pool_of s class) (constant_at (pool_of s class) index)

-- the field that is found there, by the class that declares it
abbrev pub field_of : PlanScope → ℕ → ℕ → Option Reference
field_of s class index = option_and_then s.links.field (member_of s class index)

-- a class of the library declares the field
abbrev pub is_of_library : PlanScope → Reference → Bool
is_of_library s field = not (is_some (named field.class (headers_of s.classes).folder))

-- ---- sites

-- the site of the new at a point, by its number
abbrev pub site_at : FlatCode → ℕ → Option ℕ
site_at flat at = number_of_first (λ site. site.at == at) flat.sites

-- how many fields an object of a site has
abbrev pub fields_of_site : Option Site → ℕ
fields_of_site None = 0
fields_of_site (Some site) = length site.fields

abbrev pub field_count : PlanScope → ℕ → ℕ
field_count s site = fields_of_site (slice_get s.flat.sites site)

-- the number of a field among those of a site's object
abbrev pub field_number : PlanScope → ℕ → Reference → Option ℕ
field_number s site field =
    option_and_then (λ one. slot_number_in (headers_of s.classes) one.class field)
    (slice_get s.flat.sites site)

-- the objects of a site are of this class or of one below it
abbrev pub is_site_below : PlanScope → ℕ → Name → Bool
is_site_below s site name = of_site (slice_get s.flat.sites site) where
  of_site : Option Site → Bool
  of_site None = false
  of_site (Some one) = s.links.below one.class name

-- ---- points

-- the types of the local units and of the stack before a point; where there is none, none
abbrev pub local_types : FlatCode → ℕ → List VType
local_types flat at = of_point (point_at flat at) where
  of_point : Option Point → List VType
  of_point None = []
  of_point (Some point) = point.typed.locals

abbrev pub stack_types : FlatCode → ℕ → List VType
stack_types flat at = of_point (point_at flat at) where
  of_point : Option Point → List VType
  of_point None = []
  of_point (Some point) = point.typed.stack

-- ---- scopes

-- what plans of a flat code read: the classes of a folder, and their links
abbrev pub scope_of : Classes → Links → FlatCode → PlanScope
scope_of classes links flat = record { classes = classes; links = links; flat = flat }
