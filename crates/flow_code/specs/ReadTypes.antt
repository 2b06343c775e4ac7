-- Types of flat code as they are read where objects of candidate sites count as initialised. It is this project's profile.
--
-- An initialiser's own code stands in place of its call, so that no instruction of the flat code initialises the object of a candidate
-- site: at the points up to the end of the initialiser's code the object has the type Uninit of its new. That type is read as the class
-- of the site.
use Rattle.std.specs.Prelude.{◌==◌, ℕ, Bool, false, List, [], ◌∷◌, map, Option, Some, None, is_some, if◌then◌else◌}
use Rattle.class_model.specs.declared.frame.Frame.{Frame}
use Rattle.class_model.specs.declared.frame.VType.{VType}
use Rattle.class_model.specs.declared.frame.VType.TheVariants.{Object, Uninit}
use Rattle.flow_code.specs.FlatCode.{FlatCode}
use Rattle.flow_code.specs.declared.point.Site.{Site}

-- the class of the candidate site at a point, if one is there
abbrev pub class_of_site : List Site → ℕ → Option (List ℕ)
class_of_site [] at = None
class_of_site (one ∷ others) at = if one.at == at then Some one.class else class_of_site others at

abbrev pub read_type : FlatCode → VType → VType
read_type flat (Uninit at) = of_site (class_of_site flat.sites at) where
  of_site : Option (List ℕ) → VType
  of_site None = Uninit at
  of_site (Some class) = Object class
read_type flat type = type

abbrev pub read_frame : FlatCode → Frame → Frame
read_frame flat frame = record {
  locals = map (read_type flat) frame.locals;
  stack = map (read_type flat) frame.stack;
}

-- the object of a candidate site, by its type before it is read
abbrev pub is_site_object : FlatCode → VType → Bool
is_site_object flat (Uninit at) = is_some (class_of_site flat.sites at)
is_site_object flat type = false
