-- A frame of flat code in the first run and the frame of written code in the second that go together, by a state at a point.
use Rattle.std.specs.Prelude.{◌≡◌, ◌≤◌, ℕ, suc, List, [], ◌∷◌, length, reverse, slice_get, Some, IsTrue}
use Rattle.class_model.specs.declared.instr.Instr.{Instr}
use Rattle.flow_code.specs.FlatCode.{FlatCode}
use Rattle.flow_code.specs.WrittenUnits.{written_units}
use Rattle.flow_code.specs.declared.point.FlatInstr.TheVariants.{Of}
use Rattle.flow_code.specs.declared.point.Point.{Point}
use Rattle.flow_code.specs.declared.point.Site.{Site}
use Rattle.machine_values.specs.Frames.{MethodState}
use Rattle.machine_values.specs.declared.value.Value.{Value}
use Rattle.machine_values.specs.declared.value.Value.TheVariants.{Ref}
use Rattle.making_code.specs.Units.{field_unit, object_unit, unit_number}
use Rattle.member_link.specs.Machine.Programs.{folder_number}
use Rattle.plan_flow.specs.Laws.WrittenBlocks.{blocks_left, first_block, first_item, made_next, own_number}
use Rattle.plan_flow.specs.Laws.WrittenPads.{StandsFirst, pad_block}
use Rattle.plan_flow.specs.PlanScope.{PlanScope}
use Rattle.plan_flow.specs.Written.Blocks.{Block, handler_pad, instruction_block, jump_pad, state_written}
use Rattle.plan_flow.specs.Written.Finish.{Finished}
use Rattle.plan_flow.specs.Written.Routes.{Route, RouteEdge, edge_by}
use Rattle.plan_flow.specs.Written.Templates.{as_it_is, items_at}
use Rattle.plan_flow.specs.Written.WrittenCode.{is_handler_pad, is_jump_pad}
use Rattle.plan_flow.specs.Written.WrittenPrograms.{WrittenMethod, finished_of, plan_scope}
use Rattle.plan_flow.specs.declared.edge.EdgeKind.{EdgeKind}
use Rattle.plan_flow.specs.declared.edge.EdgeKind.TheVariants as edges
use Rattle.same_runs.specs.Renamings.{Names, SameHeld, SameValue, SameValues}
use Rattle.virtual_state.specs.Sites.{has}
use Rattle.virtual_state.specs.States.{State, is_present, object_of}
use Rattle.virtual_state.specs.declared.slot.Slot.{Slot}
use Rattle.virtual_state.specs.declared.slot.Slot.TheVariants.{Plain, Virt, Unusable}
use Rattle.virtual_state.specs.declared.slot.VObject.{VObject}
use Rattle.written_runs.specs.Inner.Setup.{Setup, first}
use Rattle.written_runs.specs.Inner.Waiting.{Awaits}
use Rattle.written_runs.specs.VirtualObjects.{HasVirtual, Tells, Virtual, Virtuals, local_slots, stack_slots}

-- ---- what the second frame keeps

-- a value of the first frame stands in a local unit of the second
pub record KeptIn (names : Names) (g : MethodState) (unit : ℕ) (value : Value) : Type 0 where
  pub also : Value
  pub is : slice_get g.locals unit ≡ Some (Some also)
  pub same : SameValue names value also

-- the plain entries of a stack, from the lowest on; an entry without a slot is plain, and of a slot without an entry nothing is said
abbrev pub KeepStack : Names → List Slot → List Value → List Value → Type 0
KeepStack names [] values others = SameValues names values others
KeepStack names (slot ∷ slots) [] others = others ≡ []
KeepStack names (Virt site ∷ slots) (value ∷ values) others = KeepStack names slots values others
KeepStack names (Plain ∷ slots) (value ∷ values) (other ∷ others) =
    SameValue names value other × KeepStack names slots values others
KeepStack names (Unusable ∷ slots) (value ∷ values) (other ∷ others) =
    SameValue names value other × KeepStack names slots values others
KeepStack names (slot ∷ slots) (value ∷ values) [] = ⊥

-- the object of a site is made already: it has a name, and stands in its unit
pub record IsMade (flat : FlatCode) (virtuals : Virtuals) (names : Names) (frame site : ℕ) (g : MethodState)
    : Type 0 where
  pub virtual : Virtual
  pub has_it : HasVirtual virtuals frame site virtual
  pub named : ℕ
  pub names_it : names virtual.reference ≡ Some named
  pub in_unit : slice_get g.locals (unit_number flat (object_unit site)) ≡ Some (Some (Ref named))

-- What the second frame has of the first, by a state at a point; the objects of some sites are made already.
pub record Keeps (flat : FlatCode) (names : Names) (virtuals : Virtuals) (frame : ℕ) (done : List ℕ)
    (point : Point) (state : State) (f g : MethodState)
    : Type 0 where
  pub locals : (unit : ℕ) (value : Value)
      → slice_get (local_slots point state) unit ≡ Some Plain
      → slice_get f.locals unit ≡ Some (Some value)
      → KeptIn names g unit value
  pub stack : KeepStack names (stack_slots point state) (reverse f.stack) (reverse g.stack)
  pub fields : (site number : ℕ) (told : VObject) (virtual : Virtual) (value : Value)
      → object_of state.objects site ≡ Some told
      → HasVirtual virtuals frame site virtual
      → slice_get told.fields number ≡ Some Plain
      → slice_get virtual.object.values number ≡ Some value
      → KeptIn names g (unit_number flat (field_unit site number)) value
  pub made : (site : ℕ)
      → IsTrue (has done site)
      → IsMade flat virtuals names frame site g
  pub room : written_units flat ≤ length g.locals

-- ---- known classes

-- references of objects of the first run whose classes of the folder are known, by number
abbrev pub Known : Type 0
Known = List (ℕ × ℕ)

pub record IsKnown (known : Known) (reference class : ℕ) : Type 0 where
  pub number : ℕ
  pub is_there : slice_get known number ≡ Some (reference, class)

-- a value refers to an object that is known to be of the class of a site
pub record IsOfSite (u : Setup) (known : Known) (one : WrittenMethod) (number : ℕ) (value : Value) : Type 0 where
  pub site : Site
  pub is_site : slice_get one.flat.sites number ≡ Some site
  pub class : ℕ
  pub of_folder : folder_number (first u) site.class ≡ Some class
  pub reference : ℕ
  pub refers : value ≡ Ref reference
  pub is_known : IsKnown known reference class

-- where a state has a virtual object, a frame has an object of its site's class
pub record IsMet (u : Setup) (known : Known) (one : WrittenMethod) (point : Point) (state : State) (f : MethodState) : Type 0 where
  pub locals : (unit site : ℕ)
      → slice_get (local_slots point state) unit ≡ Some (Virt site)
      → (value : Value)
      × (slice_get f.locals unit ≡ Some (Some value))
      × IsOfSite u known one site value
  pub stack : (place site : ℕ) (value : Value)
      → slice_get (stack_slots point state) place ≡ Some (Virt site)
      → slice_get (reverse f.stack) place ≡ Some value
      → IsOfSite u known one site value

-- ---- where the two frames stand

abbrev pub scope_in : Setup → WrittenMethod → PlanScope
scope_in u one = plan_scope u.classes u.links one

abbrev pub blocks_in : Setup → WrittenMethod → List Finished
blocks_in u one = finished_of u.classes u.links one

-- a reached point, with its route
pub record IsReached (one : WrittenMethod) (at : ℕ) (point : Point) (route : Route) : Type 0 where
  pub is_point : slice_get one.flat.points at ≡ Some point
  pub is_route : slice_get one.routes at ≡ Some (Some route)

-- an edge of a kind on which objects are made
pub record MakesOn (route : Route) (kind : EdgeKind) (edge : RouteEdge) (site : ℕ) (sites : List ℕ) : Type 0 where
  pub found : edge_by route kind ≡ Some edge
  pub by : edge.by ≡ kind
  pub made : edge.made ≡ site ∷ sites

-- A block of a written method, by its number: the first one of a reached point, that of its instruction, or make code on one of its edges.
pub data IsBlock (u : Setup) (one : WrittenMethod) : ℕ → Block → Type 0 where
  of_first : (at : ℕ) (point : Point) (route : Route)
      → IsReached one at point route
      → IsBlock u one (length (blocks_left (scope_in u one) one.routes at)) (first_block (scope_in u one) at point route route.made)
  of_own : (at : ℕ) (point : Point) (route : Route)
      → IsReached one at point route
      → IsBlock u one (own_number (scope_in u one) one.routes at route) (instruction_block (scope_in u one) at point route)
  of_next : (at : ℕ) (point : Point) (route : Route) (edge : RouteEdge) (site : ℕ) (sites : List ℕ)
      → IsReached one at point route
      → MakesOn route edges.Next edge site sites
      → IsBlock u one (suc (own_number (scope_in u one) one.routes at route)) (made_next (scope_in u one) at edge (site ∷ sites))
  of_jump : (at number : ℕ) (point : Point) (route : Route) (edge : RouteEdge) (site : ℕ) (sites : List ℕ) (place : ℕ)
      → IsReached one at point route
      → MakesOn route (edges.Jump number) edge site sites
      → StandsFirst (scope_in u one) one.routes (is_jump_pad at number) (pad_block (scope_in u one) (jump_pad at number) edge (site ∷ sites)) place
      → IsBlock u one place (pad_block (scope_in u one) (jump_pad at number) edge (site ∷ sites))
  of_handler : (at number : ℕ) (point : Point) (route : Route) (edge : RouteEdge) (site : ℕ) (sites : List ℕ) (place : ℕ)
      → IsReached one at point route
      → MakesOn route (edges.Handler number) edge site sites
      → StandsFirst (scope_in u one) one.routes (is_handler_pad at number) (pad_block (scope_in u one) (handler_pad at number) edge (site ∷ sites)) place
      → IsBlock u one place (pad_block (scope_in u one) (handler_pad at number) edge (site ∷ sites))

-- the second frame is at the start of a block, and the first at the block's typed point
pub record AtBlock (u : Setup) (one : WrittenMethod) (f g : MethodState) (block : Block) : Type 0 where
  pub number : ℕ
  pub is_block : IsBlock u one number block
  pub place : f.place ≡ block.at
  pub place_also : g.place ≡ first_item one.form (blocks_in u one) number

-- the block of the instruction of the point at which the first frame stands
pub record IsInstructionOf (u : Setup) (one : WrittenMethod) (at : ℕ) (point : Point) (route : Route) (block : Block) : Type 0 where
  pub reached : IsReached one at point route
  pub is : block ≡ instruction_block (scope_in u one) at point route

-- the instruction is written as it is
pub record IsCarried (u : Setup) (one : WrittenMethod) (at : ℕ) (point : Point) (route : Route) : Type 0 where
  pub class : ℕ
  pub instr : Instr
  pub is_instr : point.instr ≡ Of class instr
  pub items : items_at (scope_in u one) at point (state_written route) route ≡ as_it_is at point route class instr

-- a block at which the state alone tells of which classes objects are: any but that of an instruction before which objects were made
abbrev pub IsTold : {u : Setup} {one : WrittenMethod} {number : ℕ} {block : Block} → IsBlock u one number block → Type 0
IsTold (of_first at point route reached) = Unit {0}
IsTold (of_own at point route reached) = route.made ≡ []
IsTold (of_next at point route edge site sites reached makes) = Unit {0}
IsTold (of_jump at number point route edge site sites place reached makes first) = Unit {0}
IsTold (of_handler at number point route edge site sites place reached makes first) = Unit {0}

-- Where the frames stand: at a block; or at that of an instruction, where it is known of which classes the objects are that were made before it;
-- or waiting at an instruction that is written as it is, without its operands.
pub data Moment (u : Setup) (known : Known) (one : WrittenMethod) (f g : MethodState) (block : Block) : Type 0 where
  arrives : (here : AtBlock u one f g block) → IsTold here.is_block → Moment u known one f g block
  stays : (point : Point) (route : Route)
      → AtBlock u one f g block
      → IsInstructionOf u one f.place point route block
      → IsMet u known one point route.state f
      → Moment u known one f g block
  waits : (point : Point) (route : Route)
      → AtBlock u one f g block
      → IsInstructionOf u one f.place point route block
      → IsMet u known one point route.state f
      → (carried : IsCarried u one f.place point route)
      → Awaits u one f point route carried.instr
      → Moment u known one f g block

-- A frame of flat code and that of written code, with so many frames below the first.
pub record InPlanned (u : Setup) (virtuals : Virtuals) (known : Known) (names : Names) (frame : ℕ) (f g : MethodState) : Type 0 where
  pub one : WrittenMethod
  pub is_written : u.written g.at ≡ Some one
  pub at : f.at ≡ g.at
  pub held : SameHeld names f.held g.held
  pub block : Block
  pub moment : Moment u known one f g block
  pub point : Point
  pub is_point : slice_get one.flat.points block.at ≡ Some point
  pub tells : Tells (first u) (scope_in u one) virtuals frame point block.state f
  pub keeps : Keeps one.flat names virtuals frame [] point block.state f g
  -- the state has each virtual object of the frame
  pub own : (number : ℕ) (virtual : Virtual)
      → slice_get virtuals number ≡ Some virtual
      → virtual.frame ≡ frame
      → IsTrue (is_present block.state.objects virtual.site)
