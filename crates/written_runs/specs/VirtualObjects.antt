-- Objects that the program with flat codes has and the one with written codes has not: they are kept in the local units of written code. It is
-- this project's profile.
use Rattle.std.specs.Prelude.{◌≡◌, ◌≢◌, ℕ, List, [], ◌∷◌, drop, length, reverse, slice_get, take, Some, IsTrue}
use Rattle.std.specs.List.{AllByRecursion}
use Rattle.class_model.specs.Descriptors.{kind_of}
use Rattle.class_model.specs.declared.descriptor.FieldType.{FieldType}
use Rattle.class_model.specs.declared.frame.VType.{VType}
use Rattle.flow_code.specs.ReadTypes.{is_site_object}
use Rattle.flow_code.specs.declared.point.Point.{Point}
use Rattle.flow_code.specs.declared.point.Site.{Site}
use Rattle.machine_values.specs.Frames.{MethodState}
use Rattle.machine_values.specs.Values.{has_kind, narrowed}
use Rattle.machine_values.specs.declared.object.Object.{Object}
use Rattle.machine_values.specs.declared.object.Shape.TheVariants.{Folder}
use Rattle.machine_values.specs.declared.value.Value.{Value}
use Rattle.machine_values.specs.declared.value.Value.TheVariants.{Ref}
use Rattle.member_link.specs.Machine.Programs.{Program, folder_number}
use Rattle.plan_flow.specs.PlanScope.{PlanScope}
use Rattle.virtual_state.specs.States.{State, object_of}
use Rattle.virtual_state.specs.declared.slot.Slot.{Slot}
use Rattle.virtual_state.specs.declared.slot.Slot.TheVariants.{Plain, Virt}
use Rattle.virtual_state.specs.declared.slot.VObject.{VObject}

-- ---- the objects

-- An object: the frame whose method has it, by the number of frames below that one; the site that made it; its reference, and what it is, in the
-- heap of the first run.
pub record Virtual : Type 0 where
  pub frame : ℕ
  pub site : ℕ
  pub reference : ℕ
  pub object : Object

abbrev pub Virtuals : Type 0
Virtuals = List Virtual

-- another object: of another frame or of another site, and with another reference
pub record IsOther (one other : Virtual) : Type 0 where
  pub owner : one.frame ≡ other.frame → one.site ≡ other.site → ⊥
  pub reference : one.reference ≢ other.reference

-- a frame has at most one object of a site, and no two of them have one reference
abbrev pub AreApart : Virtuals → Type 0
AreApart [] = Unit {0}
AreApart (one ∷ others) = AllByRecursion (IsOther one) others × AreApart others

-- the object of a frame's site is one of them
pub record HasVirtual (virtuals : Virtuals) (frame site : ℕ) (virtual : Virtual) : Type 0 where
  pub number : ℕ
  pub is_there : slice_get virtuals number ≡ Some virtual
  pub of_frame : virtual.frame ≡ frame
  pub of_site : virtual.site ≡ site

-- a value refers to the object of a frame's site
pub record RefersTo (virtuals : Virtuals) (frame site : ℕ) (value : Value) : Type 0 where
  pub virtual : Virtual
  pub has : HasVirtual virtuals frame site virtual
  pub is : value ≡ Ref virtual.reference

-- ---- what a state says of a frame of the first run

-- the slots of the local units at a point, and of the stack from the lowest entry on
abbrev pub local_slots : Point → State → List Slot
local_slots point state = take (length point.typed.locals) state.slots

abbrev pub stack_slots : Point → State → List Slot
stack_slots point state = drop (length point.typed.locals) state.slots

-- a field has what its slot says: a virtual object, or a value of the field's type, as a store leaves it
pub data TellsField (virtuals : Virtuals) (frame : ℕ) (type : FieldType) (value : Value)
    : Slot → Type 0 where
  tells_virtual : {site : ℕ}
      → RefersTo virtuals frame site value
      → TellsField virtuals frame type value (Virt site)
  tells_plain : IsTrue (has_kind (kind_of type) value)
      → narrowed type value ≡ value
      → TellsField virtuals frame type value Plain

abbrev pub TellFields : Virtuals → ℕ → List FieldType → List Value → List Slot → Type 0
TellFields virtuals frame [] [] [] = Unit {0}
TellFields virtuals frame (type ∷ types) (value ∷ values) (slot ∷ slots) =
    TellsField virtuals frame type value slot × TellFields virtuals frame types values slots
TellFields virtuals frame types values slots = ⊥

-- an object is that of a virtual object of its site: of the site's class, as often locked, with these fields
pub record TellsObject (P : Program) (s : PlanScope) (virtuals : Virtuals) (frame : ℕ) (told : VObject)
    : Type 0 where
  pub site : Site
  pub is_site : slice_get s.flat.sites told.site ≡ Some site
  pub virtual : Virtual
  pub has : HasVirtual virtuals frame told.site virtual
  pub class : ℕ
  pub of_folder : folder_number P site.class ≡ Some class
  pub shape : virtual.object.shape ≡ Folder class
  pub monitor : virtual.object.monitor ≡ told.depth
  pub fields : TellFields virtuals frame site.fields virtual.object.values told.fields

-- A frame of the first run at a point in a state, with so many frames below it: where the state has a virtual object there is a reference to it,
-- also where the type is that of an uninitialised object of a site there is a reference, and each object of the state is there. Of a stack entry
-- that the frame has not nothing is said.
pub record Tells (P : Program) (s : PlanScope) (virtuals : Virtuals) (frame : ℕ) (point : Point)
    (state : State) (f : MethodState)
    : Type 0 where
  pub locals : (unit site : ℕ)
      → slice_get (local_slots point state) unit ≡ Some (Virt site)
      → (value : Value)
      × (slice_get f.locals unit ≡ Some (Some value))
      × RefersTo virtuals frame site value
  pub stack : (place site : ℕ) (value : Value)
      → slice_get (stack_slots point state) place ≡ Some (Virt site)
      → slice_get (reverse f.stack) place ≡ Some value
      → RefersTo virtuals frame site value
  pub uninit_locals : (unit : ℕ) (type : VType)
      → slice_get point.typed.locals unit ≡ Some type
      → IsTrue (is_site_object s.flat type)
      → (reference : ℕ) × (slice_get f.locals unit ≡ Some (Some (Ref reference)))
  pub uninit_stack : (place : ℕ) (type : VType) (value : Value)
      → slice_get point.typed.stack place ≡ Some type
      → slice_get (reverse f.stack) place ≡ Some value
      → IsTrue (is_site_object s.flat type)
      → (reference : ℕ) × (value ≡ Ref reference)
  pub objects : (site : ℕ) (told : VObject)
      → object_of state.objects site ≡ Some told
      → TellsObject P s virtuals frame told
