-- What is laid out of written code, and what its frames are: the statements of laws.
use Rattle.std.specs.Prelude.{◌≡◌, ◌≤◌, ℕ, List, length, Option, Some}
use Rattle.class_model.specs.Pool.{Constants}
use Rattle.class_model.specs.declared.class_file.MethodAt.{MethodAt}
use Rattle.class_model.specs.declared.frame.Frame.{Frame}
use Rattle.class_rewrite.specs.Inner.Meanings.{AreSoundFrames, Framed, IsCode, IsEditOf, IsFit, IsFramedFor, IsKnownCode, IsMeant, IsReady, IsReasonOf, Meaning, rewriting, scope}
use Rattle.class_rewrite.specs.Inner.WrittenCodes.{IsFlatOf}
use Rattle.class_rewrite.specs.Rewriting.Methods.{IsTooLong}
use Rattle.class_tree.specs.Headers.{Classes, Name, headers_of}
use Rattle.code_drafts.specs.Emits.{Writing}
use Rattle.code_emit.specs.EmittedCode.{IsKeptAs}
use Rattle.code_emit.specs.declared.emitting.WrittenCode.{WrittenCode}
use Rattle.code_layout.specs.ChosenForm.{IsLong, IsWithin, chosen_items}
use Rattle.code_layout.specs.PlainItems.{plain_items}
use Rattle.flow_code.specs.FlatCode.{FlatCode}
use Rattle.flow_code.specs.TypedFrames.{FolderFrames}
use Rattle.flow_code.specs.declared.reason.Reason.{Reason}
use Rattle.flow_code.specs.declared.reason.Reason.TheVariants as reasons
use Rattle.member_link.specs.Machine.Links.{AreLinksOf}
use Rattle.member_link.specs.Machine.Programs.{Links}
use Rattle.member_link.specs.Scope.{Scope}
use Rattle.plan_flow.specs.PlanScope.{scope_of}
use Rattle.plan_flow.specs.ReadyForPlans.{IsReadyForPlans}
use Rattle.plan_flow.specs.Written.WrittenCode.{short, written_items}
use Rattle.plan_flow.specs.Written.WrittenConstants.{code_pool}
use Rattle.plan_flow.specs.Written.WrittenPrograms.{GivesConstructors}
use Rattle.pool_edit.specs.Edits.{Edit, grown}
use Rattle.stackmap_emit.specs.FramedItems.{AreEmitted, finished_by, form_of}

-- plans can be made of the flat code of a method of a verified folder
abbrev pub ArePlannable : Type 0
ArePlannable =
    (classes : Classes) (typed : FolderFrames) (links : Links) (at : MethodAt) (flat : FlatCode)
    → IsFlatOf classes typed at flat
    → AreLinksOf (headers_of classes) links
    → IsReadyForPlans (scope_of classes links flat)

-- what is meant can be written
abbrev pub AreReady : Type 0
AreReady = (of : Writing) (m : Meaning) → IsMeant of m → IsReady of m

-- the written code in the form in which it is laid out, with these frames
abbrev pub framed_of : (of : Writing) (m : Meaning) → IsReady of m → Edit → Edit → WrittenCode
    → (ℕ → Option Frame) → List Frame → Framed
framed_of of m ready before middle code state frames = record {
  host = ready.host;
  routes = ready.routes;
  form = form_of code.emitted;
  before = grown before;
  pool = grown middle;
  items = chosen_items code.emitted;
  state = state;
  frames = frames;
}

-- It is that of the definition, and it has frames.
pub record IsLaidMethod (of : Writing) (m : Meaning) (before middle : Edit) (code : WrittenCode)
    (ready : IsReady of m)
    : Type 0 where
  pub grows : code_pool (scope of m) m.constructor
      (written_items short (finished_by (scope of m) ready.routes)) (grown before)
      ≡ Some (grown middle)
  pub limit : middle.limit ≡ 64535
  pub emitted : AreEmitted (scope of m) m.constructor ready.routes (grown middle)
      code.emitted code.starts
  pub within : IsWithin code.emitted
      → ¬ IsTooLong (form_of code.emitted) (chosen_items code.emitted)
  pub long : IsLong code.emitted → IsTooLong (form_of code.emitted) (chosen_items code.emitted)
  pub state : ℕ → Option Frame
  pub frames : List Frame
  pub framed : IsFramedFor of m (framed_of of m ready before middle code state frames)

abbrev pub AreLaidMethods : Type 0
AreLaidMethods =
    (of : Writing) (m : Meaning) (before middle : Edit) (code : WrittenCode)
    → IsMeant of m
    → IsEditOf of.classes m.at before
    → IsCode of before middle code
    → (ready : IsReady of m)
    → IsLaidMethod of m before middle code ready

-- the numbers of code that is known fit
abbrev pub AreFit : Type 0
AreFit =
    (of : Writing) (edit : Edit) (code : WrittenCode) (host : Scope) (pool : Constants)
    → IsKnownCode of edit code host pool
    → IsFit of code

-- why code could not be written
abbrev pub AreReasons : Type 0
AreReasons =
    (of : Writing) (m : Meaning) (before : Edit) (reason : Reason)
    → IsMeant of m
    → IsEditOf of.classes m.at before
    → IsKeptAs of.classes of.flat of.plan before reason
    → IsReasonOf of m before reason

-- frames of written code are sound
abbrev pub AreSound : Type 0
AreSound = (of : Writing) (m : Meaning) (f : Framed) → IsFramedFor of m f → AreSoundFrames of f

-- field constructors have descriptors
abbrev pub HaveDescriptors : Type 0
HaveDescriptors = (classes : Classes) → (constructor : Name → List ℕ) × GivesConstructors classes constructor
