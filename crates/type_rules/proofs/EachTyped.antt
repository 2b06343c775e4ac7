-- What a typed folder says of each method, and a typed method of each instruction.
use Rattle.std.proofs.lemmas.Option.{same_Some}
use Rattle.std.proofs.Common.{◌≡◌, ℕ, zero, suc, List, [], ◌∷◌, length, slice_get, Option, Some, None, refl, sym, ap, subst, ◌∙◌}
use Rattle.std.specs.Prelude.{option_and_then}
use Rattle.class_model.specs.declared.class_file.ClassFile.{ClassFile}
use Rattle.class_model.specs.declared.class_file.Method.{Method}
use Rattle.class_model.specs.declared.class_file.MethodAt.{MethodAt}
use Rattle.class_model.specs.declared.frame.Frame.{Frame}
use Rattle.class_tree.specs.Headers.{Classes, Headers, headers_of}
use Rattle.flow_code.specs.TypedFrames.{FolderFrames, typed_frames_at}
use Rattle.member_link.specs.Bodies.{Body, BodyPoint, flows_on}
use Rattle.member_link.specs.Scope.{scope_at, scope_of}
use Rattle.type_rules.specs.Checks.{IsTypedAt}
use Rattle.type_rules.specs.Typed.{AreTyped, TypesBody, flows_into}
use Rattle.type_rules.specs.Verified.{AreTypedClasses, AreTypedMethods, TypesFolder, TypesMethod}

-- ---- methods

-- the method of a number among those of a class
method_typed : (headers : Headers) (class : ClassFile) (methods : List Method) (typed : List (Option (List Frame))) → AreTypedMethods headers class methods typed → (number : ℕ) → TypesMethod (option_and_then (scope_of headers class) (slice_get methods number)) (option_and_then (λ frames. frames) (slice_get typed number))
method_typed headers class [] [] are number = record {}
method_typed headers class [] (frames ∷ typed) are number = absurd are
method_typed headers class (method ∷ methods) [] are number = absurd are
method_typed headers class (method ∷ methods) (frames ∷ typed) are zero = are.0
method_typed headers class (method ∷ methods) (frames ∷ typed) are (suc number) = method_typed headers class methods typed are.1 number

-- the method of a number in the class of one
class_typed : (headers : Headers) (classes : List ClassFile) (typed : FolderFrames) → AreTypedClasses headers classes typed → (place number : ℕ) → TypesMethod (option_and_then (λ class. option_and_then (scope_of headers class) (slice_get class.methods number)) (slice_get classes place)) (option_and_then (λ methods. option_and_then (λ frames. frames) (slice_get methods number)) (slice_get typed place))
class_typed headers [] [] are place number = record {}
class_typed headers [] (methods ∷ typed) are place number = absurd are
class_typed headers (class ∷ classes) [] are place number = absurd are
class_typed headers (class ∷ classes) (methods ∷ typed) are zero number = method_typed headers class class.methods methods are.0 number
class_typed headers (class ∷ classes) (methods ∷ typed) are (suc place) number = class_typed headers classes typed are.1 place number

pub each_method : (classes : Classes) (typed : FolderFrames) → TypesFolder classes typed → (at : MethodAt) → TypesMethod (scope_at classes at) (typed_frames_at typed at)
each_method classes typed are at = class_typed (headers_of classes) classes.folder typed are at.class at.method

-- ---- instructions

-- what flows into the instruction of each number
record FlowsInto (b : Body) (flows : Option Frame) (points : List BodyPoint) (frames : List Frame) (into : ℕ → Option Frame) : Type 0 where
  first : into 0 ≡ flows
  behind : (number : ℕ) (point : BodyPoint) (frame : Frame) → slice_get points number ≡ Some point → slice_get frames number ≡ Some frame → into (suc number) ≡ flows_on point frame

from_next : (b : Body) (flows : Option Frame) (point : BodyPoint) (points : List BodyPoint) (frame : Frame) (frames : List Frame) (into : ℕ → Option Frame) → FlowsInto b flows (point ∷ points) (frame ∷ frames) into → FlowsInto b (flows_on point frame) points frames (λ number. into (suc number))
from_next b flows point points frame frames into is = record {
  first = is.behind 0 point frame refl refl;
  behind = λ number later its_frame. is.behind (suc number) later its_frame;
}

pub into_behind : (b : Body) (frames : List Frame) (number : ℕ) (point : BodyPoint) (frame : Frame) → slice_get b.points number ≡ Some point → slice_get frames number ≡ Some frame → flows_into b frames (suc number) ≡ flows_on point frame
into_behind b frames number point frame is frame_is = rw (is, frame_is) refl

into_each : (b : Body) (frames : List Frame) → FlowsInto b (Some b.entry) b.points frames (flows_into b frames)
into_each b frames = record { first = refl; behind = into_behind b frames }

counted : (b : Body) (flows : Option Frame) (points : List BodyPoint) (frames : List Frame) → AreTyped b flows points frames → length frames ≡ length points
counted b flows [] [] are = refl
counted b flows [] (frame ∷ frames) are = absurd are
counted b flows (point ∷ points) [] are = absurd are
counted b flows (point ∷ points) (frame ∷ frames) are = ap suc (counted b (flows_on point frame) points frames are.1)

nothing_past : (b : Body) (flows : Option Frame) (points : List BodyPoint) (frames : List Frame) (into : ℕ → Option Frame) → FlowsInto b flows points frames into → AreTyped b flows points frames → into (length points) ≡ None
nothing_past b flows [] [] into is are = is.first ∙ are
nothing_past b flows [] (frame ∷ frames) into is are = absurd are
nothing_past b flows (point ∷ points) [] into is are = absurd are
nothing_past b flows (point ∷ points) (frame ∷ frames) into is are =
    nothing_past b (flows_on point frame) points frames (λ number. into (suc number)) (from_next b flows point points frame frames into is) are.1

-- the frame of a number, which types its instruction
record HasFrame (b : Body) (flows : Option Frame) (point : BodyPoint) (frames : List Frame) (number : ℕ) : Type 0 where
  frame : Frame
  frame_is : slice_get frames number ≡ Some frame
  types : IsTypedAt b flows point frame

has_frame : (b : Body) (flows : Option Frame) (points : List BodyPoint) (frames : List Frame) (into : ℕ → Option Frame) → FlowsInto b flows points frames into → AreTyped b flows points frames → (number : ℕ) (point : BodyPoint) → slice_get points number ≡ Some point → HasFrame b (into number) point frames number
has_frame b flows [] frames into is are number point stands = absurd cc
has_frame b flows (first ∷ points) [] into is are number point stands = absurd are
has_frame b flows (first ∷ points) (frame ∷ frames) into is are zero point stands = record {
  frame = frame;
  frame_is = refl;
  types = subst (λ (p : BodyPoint). IsTypedAt b (into 0) p frame) (same_Some first point stands) (subst (λ (o : Option Frame). IsTypedAt b o first frame) (sym is.first) are.0);
}
has_frame b flows (first ∷ points) (frame ∷ frames) into is are (suc number) point stands =
    let later = has_frame b (flows_on first frame) points frames (λ number. into (suc number)) (from_next b flows first points frame frames into is) are.1 number point stands in
    record { frame = later.frame; frame_is = later.frame_is; types = later.types }

-- ---- a body

pub frames_counted : (b : Body) (frames : List Frame) → TypesBody b frames → length frames ≡ length b.points
frames_counted b frames typed = counted b (Some b.entry) b.points frames typed.instrs

pub each_instruction : (b : Body) (frames : List Frame) → TypesBody b frames → (number : ℕ) (point : BodyPoint) → slice_get b.points number ≡ Some point → (frame : Frame) × (slice_get frames number ≡ Some frame) × IsTypedAt b (flows_into b frames number) point frame
each_instruction b frames typed number point stands =
    let found = has_frame b (Some b.entry) b.points frames (flows_into b frames) (into_each b frames) typed.instrs number point stands in
    (found.frame, found.frame_is, found.types)

pub nothing_flows_past : (b : Body) (frames : List Frame) → TypesBody b frames → flows_into b frames (length b.points) ≡ None
nothing_flows_past b frames typed = nothing_past b (Some b.entry) b.points frames (flows_into b frames) (into_each b frames) typed.instrs
