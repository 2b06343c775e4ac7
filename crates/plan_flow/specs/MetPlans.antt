-- What a frame that stands at a reached point of a plan has: where the state there has a virtual object, an object of that site's class. It is
-- this project's profile.
use Rattle.std.specs.Prelude.{◌≡◌, ℕ, drop, length, reverse, slice_get, take, Some}
use Rattle.flow_code.specs.declared.point.Point.{Point}
use Rattle.flow_code.specs.declared.point.Site.{Site}
use Rattle.machine_values.specs.Frames.{MethodState}
use Rattle.machine_values.specs.Heaps.{Heap, object_at}
use Rattle.machine_values.specs.declared.object.Object.{Object}
use Rattle.machine_values.specs.declared.object.Shape.TheVariants.{Folder}
use Rattle.machine_values.specs.declared.value.Value.{Value}
use Rattle.machine_values.specs.declared.value.Value.TheVariants.{Ref}
use Rattle.member_link.specs.Machine.Programs.{Program, folder_number}
use Rattle.plan_flow.specs.PlanScope.{PlanScope}
use Rattle.virtual_state.specs.States.{State}
use Rattle.virtual_state.specs.declared.slot.Slot.TheVariants.{Virt}

-- a value refers to an object of the class of a site
pub record RefersToSite (P : Program) (s : PlanScope) (heap : Heap) (number : ℕ) (value : Value)
    : Type 0 where
  pub site : Site
  pub is_site : slice_get s.flat.sites number ≡ Some site
  pub class : ℕ
  pub of_folder : folder_number P site.class ≡ Some class
  pub reference : ℕ
  pub refers : value ≡ Ref reference
  pub object : Object
  pub there : object_at heap reference ≡ Some object
  pub of_class : object.shape ≡ Folder class

-- the local units and the stack, from its lowest entry, of a frame at a point in a state
pub record MeetsState (P : Program) (s : PlanScope) (point : Point) (state : State) (heap : Heap)
    (f : MethodState)
    : Type 0 where
  pub locals : (unit site : ℕ)
      → slice_get (take (length point.typed.locals) state.slots) unit ≡ Some (Virt site)
      → (value : Value)
      × (slice_get f.locals unit ≡ Some (Some value))
      × RefersToSite P s heap site value
  pub stack : (place site : ℕ)
      → slice_get (drop (length point.typed.locals) state.slots) place ≡ Some (Virt site)
      → (value : Value)
      × (slice_get (reverse f.stack) place ≡ Some value)
      × RefersToSite P s heap site value
