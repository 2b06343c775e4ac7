-- Of which sites a plan makes objects, and the classes of these.
use Rattle.std.specs.Prelude.{◌≡◌, ◌≤◌, ◌||◌, ◌+◌, ℕ, zero, suc, List, [], ◌∷◌, ◌++◌, length, slice_get, Option, Some, None}
use Rattle.std.specs.List.{flat_map}
use Rattle.class_rewrite.specs.declared.made_sites.MadeSites.{MadeSites}
use Rattle.class_rewrite.specs.declared.made_sites.Making.{Making}
use Rattle.class_tree.specs.Headers.{Name}
use Rattle.flow_code.specs.FlatCode.{FlatCode}
use Rattle.flow_code.specs.declared.point.Site.{Site}
use Rattle.plan_flow.specs.Plans.{MadeEdge, Plan, PlannedPoint}
use Rattle.virtual_state.specs.Sites.{has}

-- ---- what a plan makes

-- the sites of which objects are made before the instruction of a point, if it is reached; and its edges
abbrev pub made_before : Option PlannedPoint → List ℕ
made_before None = []
made_before (Some point) = point.made

abbrev pub edges_behind : Option PlannedPoint → List MadeEdge
edges_behind None = []
edges_behind (Some point) = point.edges

-- those of edges, each as often as it is there
abbrev pub made_on : List MadeEdge → List ℕ
made_on edges = flat_map (λ edge. edge.made) edges

abbrev pub made_there : Option PlannedPoint → List ℕ
made_there point = made_before point ++ made_on (edges_behind point)

-- those of so many points
abbrev pub made_to : ℕ → Plan → List ℕ
made_to zero plan = []
made_to (suc count) [] = []
made_to (suc count) (point ∷ plan) = made_there point ++ made_to count plan

-- ---- what is noted of them

-- More sites are noted; they are counted, each as often as an object of it is made, where a count of 32 bits holds them.
pub record IsNoted (before : Making) (more : List ℕ) (after : Making) : Type 0 where
  pub count : before.count + length more ≤ 4294967295 → after.count ≡ before.count + length more
  pub sites : (one : ℕ) → has after.sites one ≡ (has before.sites one || has more one)

abbrev pub class_of : Option Site → List Name
class_of None = []
class_of (Some site) = site.class ∷ []

-- the classes of sites, by their numbers
abbrev pub classes_of : List Site → List ℕ → List Name
classes_of sites numbers = flat_map (λ number. class_of (slice_get sites number)) numbers

-- how many objects a plan of a flat code makes, and the classes of their sites, each site once
pub record AreMadeBy (flat : FlatCode) (plan : Plan) (made : MadeSites) : Type 0 where
  pub sites : List ℕ
  pub same : (one : ℕ) → has sites one ≡ has (made_to (length flat.points) plan) one
  pub count : length (made_to (length flat.points) plan) ≤ 4294967295
      → made.count ≡ length (made_to (length flat.points) plan)
  pub names : made.names ≡ classes_of flat.sites sites
