-- What is known of each method with code of a folder that frames type.
use Rattle.std.proofs.Common.{◌≡◌, ◌∙◌, ℕ, List, [], ◌∷◌, length, map, Option, Some, subst}
use Rattle.std.proofs.lemmas.List.{length-map}
use Rattle.std.specs.List.{AllByRecursion}
use Rattle.class_model.specs.ClassOf.{ClassOf}
use Rattle.class_model.specs.Instructions.{targets}
use Rattle.class_model.specs.Laws.Lists.{AllByRecursion-weaker, at_index}
use Rattle.class_model.specs.Spelling.{class_bytes}
use Rattle.class_model.specs.declared.class_file.ClassFile.{ClassFile}
use Rattle.class_model.specs.declared.class_file.Method.{Method}
use Rattle.class_model.specs.declared.class_file.MethodAt.{MethodAt}
use Rattle.class_model.specs.declared.frame.Frame.{Frame}
use Rattle.class_model.specs.declared.instr.Placed.{Placed}
use Rattle.class_tree.specs.Headers.{Classes, IsClassFile}
use Rattle.code_bytes.specs.Codes.{HasOperands, HasReadMethods, HasReadOperands}
use Rattle.expanded_code.specs.Sites.{HasFrames}
use Rattle.flow_code.specs.TypedFrames.{FolderFrames, typed_frames_at}
use Rattle.inline_expand.proofs.CallUnits.{is_callable}
use Rattle.inline_expand.proofs.FrameUnits.{have_its_units}
use Rattle.inline_expand.proofs.HostCodes.{read-units}
use Rattle.member_link.specs.Laws.Scopes.{scope_is_at}
use Rattle.inline_expand.specs.Inner.TypedMethods.{GoesWithin, IsTypedMethod}
use Rattle.member_link.specs.Bodies.{Body, BodyCatch, catch_frame, frame_behind}
use Rattle.member_link.specs.BodyTyping.{AreInOrder, GoesInto, GoesToStated, IsPlaceOf, StatesAtPoints}
use Rattle.member_link.specs.Scope.{Scope, instructions, scope_at}
use Rattle.type_rules.specs.Handlers.{catches_at}
use Rattle.type_rules.specs.MethodBodies.{body_of, point_of}
use Rattle.type_rules.specs.Typed.{Typed, TypesBody}
use Rattle.type_rules.specs.Verified.{TypesMethod}

module _ (s : Scope) (frames : List Frame) (states : StatesAtPoints (body_of s)) where
  one-within : (placed : Placed) → GoesToStated (body_of s) frames (point_of s placed) → GoesWithin s placed
  one-within placed goes =
      let points = (body_of s).points in
      let behind = frame_behind (point_of s placed) goes.frame in
      record {
        targets = AllByRecursion-weaker (GoesInto (body_of s) frames behind) (IsPlaceOf points) (λ place into. states place into.stated into.is_stated) (targets placed.instr) goes.targets;
        handlers =
            AllByRecursion-weaker (λ (catch : BodyCatch). GoesInto (body_of s) frames (Some (catch_frame goes.frame catch.class)) catch.to) (λ (catch : BodyCatch). IsPlaceOf points catch.to)
            (λ catch into. states catch.to into.stated into.is_stated) (catches_at s placed.at s.part.handlers) goes.handlers;
      }

  all-within : (instrs : List Placed) → AllByRecursion (GoesToStated (body_of s) frames) (map (point_of s) instrs) → AllByRecursion (GoesWithin s) instrs
  all-within [] goes = tt
  all-within (placed ∷ instrs) goes = (one-within placed goes.0, all-within instrs goes.1)

-- what the lower crates' laws say of methods
pub record MethodLaws (classes : Classes) (typed : FolderFrames) : Type 0 where
  pub files : AllByRecursion IsClassFile classes.folder
  pub types : (at : MethodAt) → TypesMethod (scope_at classes at) (typed_frames_at typed at)
  pub count : (b : Body) (frames : List Frame) → TypesBody b frames → length frames ≡ length b.points
  pub in_order : (s : Scope) → AreInOrder (body_of s).points
  pub states : (s : Scope) → StatesAtPoints (body_of s)
  pub edges : (b : Body) (frames : List Frame) → AreInOrder b.points → StatesAtPoints b → TypesBody b frames → AllByRecursion (GoesToStated b frames) b.points
  pub methods : (bytes : List ℕ) (class : ClassFile) → ClassOf bytes class → HasReadMethods class
  pub operands : (bytes : List ℕ) (class : ClassFile) → ClassOf bytes class → HasReadOperands class

pub typed-method : (classes : Classes) (typed : FolderFrames) → MethodLaws classes typed → (at : MethodAt) (s : Scope) (frames : List Frame) → HasFrames classes typed at s frames → IsTypedMethod s frames
typed-method classes typed laws at s frames has =
    let parts = scope_is_at classes at s has.is_scope in
    let types : Typed s frames =
    subst (λ (found : Option (List Frame)). TypesMethod (Some s) found) has.are_frames (subst (λ (found : Option Scope). TypesMethod found (typed_frames_at typed at)) has.is_scope (laws.types at)) in
    let callable = is_callable classes laws.files laws.methods at s has.is_scope in
    let operands = laws.operands (class_bytes s.class) s.class (at_index IsClassFile classes.folder at.class s.class laws.files parts.of_folder) in
    record {
      typed = types;
      long = have_its_units s callable frames types;
      one_each = laws.count (body_of s) frames types ∙ length-map (instructions s) (point_of s);
      order = laws.in_order s;
      goes = all-within s frames (laws.states s) (instructions s) (laws.edges (body_of s) frames (laws.in_order s) (laws.states s) types);
      units =
          read-units s (at_index (λ (m : Method). AllByRecursion (HasOperands s.class.pool s.class.major) m.attrs) s.class.methods at.method s.method operands parts.of_class) parts.has_code;
      callable = callable;
    }
