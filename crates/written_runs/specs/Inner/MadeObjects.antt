-- What make code does in the second run: it is quiet, and behind it the objects of the set are there in both runs.
use Rattle.std.specs.Prelude.{◌≡◌, ◌≢◌, ◌==◌, ◌&&◌, ◌+◌, ◌<◌, ℕ, suc, not, List, [], ◌∷◌, filter, length, reverse, slice_get, Some, IsTrue, option_map}
use Rattle.class_model.specs.declared.frame.VType.{VType}
use Rattle.class_model.specs.declared.frame.VType.TheVariants.{Top}
use Rattle.flow_code.specs.declared.point.Point.{Point}
use Rattle.flow_code.specs.declared.point.Site.{Site}
use Rattle.machine_values.specs.Frames.{MethodState}
use Rattle.machine_values.specs.Values.{has_kind, have_kinds, is_wide_value}
use Rattle.machine_values.specs.declared.frame.RunFrame.{RunFrame}
use Rattle.machine_values.specs.declared.frame.RunFrame.TheVariants.{Method}
use Rattle.machine_values.specs.declared.object.Shape.TheVariants.{Folder}
use Rattle.machine_values.specs.declared.value.Value.{Value}
use Rattle.making_code.specs.Items.{WInstr, item}
use Rattle.making_code.specs.MakeCode.{Entry, entries_at, kind_of_type, make_code, saved}
use Rattle.making_code.specs.MakeOrder.{IsMakeOrder}
use Rattle.member_link.specs.Machine.Runs.{Run}
use Rattle.member_link.specs.Machine.Worlds.{Memory, going, is_begun}
use Rattle.plan_flow.specs.Plans.{IsMadeIn}
use Rattle.plan_flow.specs.Written.WrittenPrograms.{WrittenMethod, items_of, plan_scope}
use Rattle.same_runs.specs.Laws.QuietBeginnings.{standing}
use Rattle.same_runs.specs.Renamings.{Names, NamesMore}
use Rattle.same_runs.specs.SameMemories.{SameMemories}
use Rattle.same_runs.specs.Simulations.{Quietly}
use Rattle.virtual_state.specs.Sites.{has}
use Rattle.virtual_state.specs.States.{IsState, State}
use Rattle.virtual_state.specs.Without.{without}
use Rattle.virtual_state.specs.declared.slot.Slot.TheVariants.{Plain, Unusable}
use Rattle.written_runs.specs.Inner.PlannedFrames.{Keeps}
use Rattle.written_runs.specs.Inner.Setup.{Setup, first, second}
use Rattle.written_runs.specs.Inner.Standing.{apart, comparison}
use Rattle.written_runs.specs.VirtualObjects.{AreApart, HasVirtual, Tells, Virtual, Virtuals, local_slots, stack_slots}

-- these instructions stand among the written items of a method from a number on
pub record StandAt (u : Setup) (one : WrittenMethod) (number : ℕ) (instrs : List WInstr) : Type 0 where
  pub each : (more : ℕ)
      → more < length instrs
      → slice_get (items_of u.classes u.links one) (number + more)
      ≡ option_map item (slice_get instrs more)

-- the entries that are saved have values of the kinds of their types, of which none is Top
pub record CanBeSaved (one : WrittenMethod) (at : ℕ) (point : Point) (state : State) (made : List ℕ) (f : MethodState)
    : Type 0 where
  pub each : (number : ℕ) (entry : Entry)
      → slice_get (saved made (entries_at one.flat at state)) number ≡ Some entry
      → (type : VType) × (value : Value)
      × (slice_get point.typed.stack entry.place ≡ Some type)
      × (type ≢ Top)
      × (slice_get (reverse f.stack) entry.place ≡ Some value)
      × IsTrue (has_kind (kind_of_type type) value)

-- What typing tells of a frame at a point, by a state of the point, and of its virtual objects: the stack has an entry for each type and each slot,
-- none of them unusable; a local unit behind a plain long or double is unusable; and values of objects are of the kinds of their fields.
pub record CanBeKept (one : WrittenMethod) (virtuals : Virtuals) (frame : ℕ) (point : Point) (state : State) (f : MethodState)
    : Type 0 where
  pub entries : length f.stack ≡ length point.typed.stack
  pub slots : length (stack_slots point state) ≡ length point.typed.stack
  pub usable : (place : ℕ) → slice_get (stack_slots point state) place ≡ Some Unusable → ⊥
  pub wide : (unit : ℕ) (value : Value)
      → slice_get (local_slots point state) unit ≡ Some Plain
      → slice_get f.locals unit ≡ Some (Some value)
      → IsTrue (is_wide_value value)
      → slice_get (local_slots point state) (suc unit) ≡ Some Unusable
  pub kinds : (number : ℕ) (site : Site) (virtual : Virtual)
      → slice_get one.flat.sites number ≡ Some site
      → HasVirtual virtuals frame number virtual
      → IsTrue (have_kinds site.fields virtual.object.values)

-- the virtual objects that are left where those of some sites of a frame are made
abbrev pub left_of : ℕ → List ℕ → Virtuals → Virtuals
left_of frame made virtuals =
    filter (λ virtual. not ((virtual.frame == frame) && has made virtual.site)) virtuals

-- The second run stands before make code of a closed set, by a state of a point, and the two runs are the same there.
pub record BeforeMaking (u : Setup) (virtuals : Virtuals) (names : Names) (frame : ℕ) (one : WrittenMethod) (at : ℕ) (point : Point)
    (state : State) (made order : List ℕ) (f g : MethodState) (others : List RunFrame) (memory : Memory) (other : Run)
    : Type 0 where
  pub is_written : u.written g.at ≡ Some one
  pub is_point : slice_get one.flat.points at ≡ Some point
  pub is_state : IsState state
  pub is_made : IsMadeIn state made
  pub is_order : IsMakeOrder state.objects made order
  pub items : StandAt u one g.place (make_code one.flat at state made order)
  pub stands_also : other.world.frames ≡ Method g ∷ others
  pub goes_also : other.world.halt ≡ going
  pub are_apart : AreApart virtuals
  pub begun : (number class : ℕ) (virtual : Virtual)
      → slice_get virtuals number ≡ Some virtual
      → virtual.object.shape ≡ Folder class
      → IsTrue (is_begun memory class)
  pub savable : CanBeSaved one at point state made f
  pub kept : CanBeKept one virtuals frame point state f
  pub tells : Tells (first u) (plan_scope u.classes u.links one) virtuals frame point state f
  pub keeps : Keeps one.flat names virtuals frame [] point state f g
  pub memories : SameMemories (first u) (comparison u virtuals []).allocated (comparison u virtuals []).entered (apart virtuals)
      names [] memory other.world.memory

-- Behind it: the frame stands behind the make code, the objects of the set have names and are no more virtual, all else of the second run is as it
-- was.
pub record BehindMaking (u : Setup) (virtuals : Virtuals) (names : Names) (frame : ℕ) (one : WrittenMethod) (at : ℕ) (point : Point)
    (state : State) (made order : List ℕ) (f g : MethodState) (others : List RunFrame) (memory : Memory) (other : Run)
    : Type 0 where
  pub then_frame : MethodState
  pub then_memory : Memory
  pub more : Names
  pub names_more : NamesMore names more
  pub steps : ℕ
  pub quietly : Quietly (second u) other (standing other (Method then_frame ∷ others) then_memory steps)
  pub method : then_frame.at ≡ g.at
  pub held : then_frame.held ≡ g.held
  pub place : then_frame.place ≡ g.place + length (make_code one.flat at state made order)
  pub tells : Tells (first u) (plan_scope u.classes u.links one) (left_of frame made virtuals) frame point
      (without state (has made)) f
  pub keeps : Keeps one.flat more (left_of frame made virtuals) frame [] point (without state (has made)) f then_frame
  pub memories : SameMemories (first u) (comparison u (left_of frame made virtuals) []).allocated
      (comparison u (left_of frame made virtuals) []).entered (apart (left_of frame made virtuals)) more [] memory then_memory

-- Make code makes the objects, for each state, closed set, order and place.
abbrev pub MakesObjects : Setup → Type 0
MakesObjects u =
    (virtuals : Virtuals) (names : Names) (frame : ℕ) (one : WrittenMethod) (at : ℕ) (point : Point)
    (state : State) (made order : List ℕ) (f g : MethodState) (others : List RunFrame) (memory : Memory) (other : Run)
    → BeforeMaking u virtuals names frame one at point state made order f g others memory other
    → BehindMaking u virtuals names frame one at point state made order f g others memory other
