-- Frames of a run that conform to the frames of the points at which they stand (JVM Specification SE 8, 2.6 and 4.10.1.6). What stands directly
-- above a frame tells whether it waits.
use Rattle.std.specs.Prelude.{◌≡◌, ℕ, List, [], ◌∷◌, reverse, slice_get, Option, Some, None, IfSome, IsSome, IsTrue, if◌then◌else◌}
use Rattle.class_model.specs.declared.frame.Frame.{Frame}
use Rattle.class_model.specs.declared.header.Member.{Member}
use Rattle.machine_values.specs.Frames.{MethodState}
use Rattle.machine_values.specs.Values.{is_wide_value}
use Rattle.machine_values.specs.declared.value.Value.{Value}
use Rattle.machine_values.specs.Heaps.{Heap}
use Rattle.machine_values.specs.declared.frame.RunFrame.{RunFrame}
use Rattle.machine_values.specs.declared.frame.RunFrame.TheVariants.{Library, Beginning, Method}
use Rattle.member_link.specs.Machine.Acting.{pending_of}
use Rattle.member_link.specs.Machine.Ops.{Op, call_static, call_virtual, call_interface, call_special}
use Rattle.member_link.specs.Machine.Performing.{is_initialiser}
use Rattle.member_link.specs.Machine.Programs.{Program, Point, RunClass, RunMethod, run_method, point_at}
use Rattle.member_link.specs.Rows.Row.{stack_left}
use Rattle.typed_runs.specs.Conforming.{AllConform, IsInHeap, UnitsConform}
use Rattle.typed_runs.specs.TypedPoints.{TypedPoint, row_at}
use Rattle.typed_runs.specs.TypedPrograms.{Typings}

-- ---- what stands above

-- nothing or the initialisation of a class; the frame of a method that is no class initialiser; the library's
pub data Above : Type 0 where
  nothing_awaited : Above
  called_method : Member → Above
  asked_library : Above

abbrev pub above_method : Option RunMethod → Above
above_method None = nothing_awaited
above_method (Some method) =
    if is_initialiser method then nothing_awaited else called_method method.member

-- by the frame that stands there
abbrev pub above_of : Program → RunFrame → Above
above_of P (Library made) = asked_library
above_of P (Beginning class) = nothing_awaited
above_of P (Method f) = above_method (run_method P f.at)

-- ---- methods

abbrev pub BeginsEmpty : List (Option Value) → Type 0
BeginsEmpty [] = Unit {0}
BeginsEmpty (None ∷ units) = Unit {0}
BeginsEmpty (Some value ∷ units) = ⊥

-- a long or double takes two local units, of which the second has no value (2.6.1)
abbrev pub ArePaired : List (Option Value) → Type 0
ArePaired [] = Unit {0}
ArePaired (None ∷ units) = ArePaired units
ArePaired (Some value ∷ units) =
    (IsTrue (is_wide_value value) → BeginsEmpty units) × ArePaired units

-- a method's frame stands at an instruction, its locals are units, and the reference whose monitor it entered is in the heap
pub record StandsAt (P : Program) (T : Typings) (heap : Heap) (f : MethodState)
    : Type 0 where
  pub point : Point
  pub is_point : point_at P f.at f.place ≡ Some point
  pub fits : TypedPoint P (T f.at) f.place point
  pub paired : ArePaired f.locals
  pub held : IfSome f.held (IsInHeap heap)

-- it does the instruction: locals and stack conform to the frame there
pub record Does (P : Program) (T : Typings) (heap : Heap) (f : MethodState) : Type 0 where
  pub stands : StandsAt P T heap f
  pub locals : UnitsConform P (T f.at).scope heap stands.fits.frame.locals f.locals
  pub stack : AllConform P (T f.at).scope heap stands.fits.frame.stack (reverse f.stack)

-- It waits for what the instruction gives: locals and stack conform to what the instruction leaves, less what it gives, and the locals also to
-- those before it, which a handler takes.
pub record Waits (P : Program) (T : Typings) (heap : Heap) (f : MethodState)
    (Waited : Op → Type 0)
    : Type 0 where
  pub stands : StandsAt P T heap f
  pub before : UnitsConform P (T f.at).scope heap stands.fits.frame.locals f.locals
  pub locals : UnitsConform P (T f.at).scope heap (row_at stands.fits).locals f.locals
  pub stack :
      AllConform P (T f.at).scope heap (stack_left stands.fits.frame (row_at stands.fits))
      (reverse f.stack)
  pub waited : Waited stands.point.op

-- a method fits a call that has its descriptor
abbrev pub FitsCall : Member → Op → Type 0
FitsCall member (call_static r) = member.desc ≡ r.desc
FitsCall member (call_virtual r) = member.desc ≡ r.desc
FitsCall member (call_interface r) = member.desc ≡ r.desc
FitsCall member (call_special r from) = member.desc ≡ r.desc
FitsCall member op = ⊥

-- an instruction that shows an event, which the library answers
abbrev pub ShowsEvent : Op → Type 0
ShowsEvent op = IsSome (pending_of op)

abbrev pub MethodConforms : Program → Typings → Heap → MethodState → Above → Type 0
MethodConforms P T heap f nothing_awaited = Does P T heap f
MethodConforms P T heap f (called_method member) = Waits P T heap f (FitsCall member)
MethodConforms P T heap f asked_library = Waits P T heap f ShowsEvent

-- ---- frames

-- directly above the beginning of a class stands nothing, another beginning or a class initialiser
pub record IsTypedBeginning (P : Program) (class : ℕ) (above : Above) : Type 0 where
  pub found : RunClass
  pub is_class : slice_get P.classes class ≡ Some found
  pub free : above ≡ nothing_awaited

-- what is constructed is in the heap
abbrev pub FrameConforms : Program → Typings → Heap → Above → RunFrame → Type 0
FrameConforms P T heap above (Library made) = IfSome made (IsInHeap heap)
FrameConforms P T heap above (Beginning class) = IsTypedBeginning P class above
FrameConforms P T heap above (Method f) = MethodConforms P T heap f above

-- Frames below what stands above, the top one first. The lowest is the library's.
pub data FramesConform (P : Program) (T : Typings) (heap : Heap)
    : Above → List RunFrame → Type 0 where
  lowest : {above : Above} {made : Option ℕ}
      → IfSome made (IsInHeap heap)
      → FramesConform P T heap above (Library made ∷ [])
  upon : {above : Above} {frame : RunFrame} {frames : List RunFrame}
      → FrameConforms P T heap above frame
      → FramesConform P T heap (above_of P frame) frames
      → FramesConform P T heap above (frame ∷ frames)

-- the values of a method's frame conform to those of a frame of types
pub record ConformsTo (P : Program) (T : Typings) (heap : Heap) (types : Frame) (f : MethodState)
    : Type 0 where
  pub locals : UnitsConform P (T f.at).scope heap types.locals f.locals
  pub stack : AllConform P (T f.at).scope heap types.stack (reverse f.stack)
