-- Which objects code makes and which monitors it enters, in order, by its instructions and their constants. It is this project's profile.
use Rattle.std.specs.Prelude.{◌++◌, if◌then◌else◌, ℕ, Bool, true, false, count_by, List, [], ◌∷◌, Option, Some, None, IsSome}
use Rattle.std.specs.List.{AllByRecursion, flat_map}
use Rattle.class_model.specs.Pool.{Constants}
use Rattle.class_model.specs.PoolChecks.{class_at}
use Rattle.class_model.specs.declared.instr.Instr.{Instr}
use Rattle.class_model.specs.declared.instr.Instr.TheVariants.{Enter, New}
use Rattle.class_tree.specs.Headers.{Name}
use Rattle.flow_code.specs.declared.point.FlatInstr.{FlatInstr}
use Rattle.flow_code.specs.declared.point.FlatInstr.TheVariants.{Of}
use Rattle.making_code.specs.IndexedItems.{IndexedItem}
use Rattle.making_code.specs.Items.{makes}
use Rattle.plan_flow.specs.PlanScope.{PlanScope, pool_of, site_at}
use Rattle.plan_flow.specs.PlanSlots.{held}
use Rattle.plan_flow.specs.PlanTable.{operand}
use Rattle.plan_flow.specs.Written.Blocks.{is_decided, state_written}
use Rattle.plan_flow.specs.Written.Places.{Place, edge_places, enters_monitor, handler_places, jump_places, made_places, makes_object, new_places, of_reached}
use Rattle.plan_flow.specs.Written.Routes.{Route, Routes, edge_by}
use Rattle.plan_flow.specs.Written.Templates.{is_virtual}
use Rattle.plan_flow.specs.declared.edge.EdgeKind.TheVariants as edges
use Rattle.flow_code.specs.declared.point.Point.{Point}
use Rattle.virtual_state.specs.States.{State}

-- ---- what code makes and enters

-- a new of a class, if there is one
abbrev pub new_of : Option Name → List Place
new_of None = []
new_of (Some class) = makes_object class ∷ []

abbrev pub places_in : Constants → Instr → List Place
places_in pool (New index) = new_of (class_at pool index)
places_in pool Enter = enters_monitor ∷ []
places_in pool instr = []

abbrev pub item_places : Constants → List IndexedItem → List Place
item_places pool items = flat_map (λ one. places_in pool one.instr) items

-- ---- what a plan's code makes, by its routes

-- what the new of a class, by the class's number, and an index names
abbrev pub Naming : Type 0
Naming = ℕ → ℕ → Option Name

-- what is said of an instruction, by what a new names
abbrev pub own_places : Naming → PlanScope → ℕ → Point → State → FlatInstr → List Place
own_places news s at point state (Of class (New index)) = new_places (site_at s.flat at) (news class index)
own_places news s at point state (Of class Enter) =
    if is_virtual (held state (operand point.typed 0)) then [] else enters_monitor ∷ []
own_places news s at point state instr = []

abbrev pub point_places_by : Naming → PlanScope → ℕ → Point → Route → List Place
point_places_by news s at point route =
    made_places s route.state route.order
    ++ own_places news s at point (state_written route) point.instr
    ++ (if is_decided point route then edge_places s (edge_by route (edges.Jump 0)) else [])
    ++ edge_places s (edge_by route edges.Next)

abbrev pub places_by : Naming → PlanScope → Routes → List Place
places_by news s routes =
    of_reached (point_places_by news s) 0 s.flat.points routes
    ++ of_reached (jump_places s) 0 s.flat.points routes
    ++ of_reached (handler_places s) 0 s.flat.points routes

-- The objects of sites alone, with all monitors: a new of the flat code counts for nothing.
abbrev pub site_places_of : PlanScope → Routes → List Place
site_places_of s routes = places_by (λ class index. None) s routes

-- ---- what is asked of a flat code

abbrev pub NamesNew : PlanScope → FlatInstr → Type 0
NamesNew s (Of class (New index)) = IsSome (class_at (pool_of s class) index)
NamesNew s instr = Unit {0}

-- each new of the flat code names a class
abbrev pub NameNews : PlanScope → Type 0
NameNews s = AllByRecursion (λ point. NamesNew s point.instr) s.flat.points

-- ---- how many

abbrev pub enters : Place → Bool
enters enters_monitor = true
enters (makes_object class) = false

abbrev pub makes_one : Place → Bool
makes_one enters_monitor = false
makes_one (makes_object class) = true

-- the objects of places that are made
abbrev pub objects_of : List Place → ℕ
objects_of places = count_by makes_one places

-- the monitorenters of places
abbrev pub enters_of : List Place → ℕ
enters_of places = count_by enters places
