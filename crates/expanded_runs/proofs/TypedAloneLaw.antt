-- The law that the typed points of the flat code of a method by itself type it, from what typed folders and bodies promise.
use Rattle.std.proofs.Common.{◌≡◌, List, [], slice_get, Option, Some, None, option_map, option_and_then, sym, ap, subst, ◌∙◌}
use Rattle.std.specs.List.{AllByRecursion}
use Rattle.std.proofs.lemmas.Option.{same_Some}
use Rattle.class_model.specs.MethodCode.{code_of}
use Rattle.class_model.specs.Pool.{Constants}
use Rattle.class_model.specs.declared.class_file.ClassFile.{ClassFile}
use Rattle.class_model.specs.declared.class_file.CodePart.{CodePart}
use Rattle.class_model.specs.declared.class_file.Method.{Method}
use Rattle.class_model.specs.declared.class_file.MethodAt.{MethodAt}
use Rattle.class_model.specs.declared.frame.Frame.{Frame}
use Rattle.class_tree.specs.Headers.{Classes, headers_of}
use Rattle.expanded_code.specs.Alone.{flat_alone}
use Rattle.expanded_code.specs.AloneAnswers.{IsFlatAlone}
use Rattle.expanded_runs.proofs.FlatPlaces.{points_in_order}
use Rattle.expanded_runs.proofs.TypedAloneBody.{has_frames}
use Rattle.flow_code.specs.FlatCode.{FlatCode}
use Rattle.flow_code.specs.TypedFrames.{FolderFrames, typed_frames_at}
use Rattle.member_link.specs.Bodies.{Body}
use Rattle.member_link.specs.BodyTyping.{AreInOrder, GoesToStated, HasFrames}
use Rattle.member_link.specs.Scope.{Scope, scope_at, scope_of}
use Rattle.same_runs.specs.FlatBodies.{body_of_flat, typed_points}
use Rattle.same_runs.specs.Flats.{pool_of}
use Rattle.type_rules.specs.MethodBodies.{body_of}
use Rattle.type_rules.specs.Typed.{TypesBody}
use Rattle.type_rules.specs.Verified.{TypesFolder, TypesMethod}

-- ---- the constants of a method's class

module _ (classes : Classes) (at : MethodAt) (s : Scope) where
  abbrev pool_in : Option ClassFile → Constants
  pool_in None = []
  pool_in (Some file) = file.pool

  of_part : (class : ClassFile) (method : Method) (part : Option CodePart)
      → option_map (λ (p : CodePart). record { headers = headers_of classes; class = class; method = method; part = p }) part ≡ Some s
      → class.pool ≡ s.class.pool
  of_part class method None is = absurd cc
  of_part class method (Some part) is =
      ap (λ (scope : Scope). scope.class.pool)
      (same_Some (record { headers = headers_of classes; class = class; method = method; part = part }) s is)

  of_method : (class : ClassFile) (method : Option Method) → option_and_then (scope_of (headers_of classes) class) method ≡ Some s
      → class.pool ≡ s.class.pool
  of_method class None is = absurd cc
  of_method class (Some method) is = of_part class method (code_of method.attrs) is

  of_class : (class : Option ClassFile)
      → option_and_then
      (λ (c : ClassFile). option_and_then (scope_of (headers_of classes) c) (slice_get c.methods at.method)) class ≡ Some s
      → pool_in class ≡ s.class.pool
  of_class None is = absurd cc
  of_class (Some class) is = of_method class (slice_get class.methods at.method) is

  own_pool : scope_at classes at ≡ Some s → pool_of classes at.class ≡ s.class.pool
  own_pool is = of_class (slice_get classes.folder at.class) is

-- ---- the law

-- what a typed folder and bodies promise
pub record Laws : Type 0 where
  pub types_each : (classes : Classes) (typed : FolderFrames) → TypesFolder classes typed → (at : MethodAt)
      → TypesMethod (scope_at classes at) (typed_frames_at typed at)
  pub in_order : (s : Scope) → AreInOrder (body_of s).points
  pub places : (b : Body) (frames : List Frame) → AreInOrder b.points → TypesBody b frames → HasFrames b frames
  pub types : (b : Body) (frames : List Frame) → AreInOrder b.points → HasFrames b frames → TypesBody b frames
  pub edges : (s : Scope) (frames : List Frame) → TypesBody (body_of s) frames
      → AllByRecursion (GoesToStated (body_of s) frames) (body_of s).points

module _ (laws : Laws) (classes : Classes) (typed : FolderFrames) (at : MethodAt) (s : Scope) where
  typed_by : (frames : List Frame) → TypesFolder classes typed → scope_at classes at ≡ Some s → typed_frames_at typed at ≡ Some frames
      → TypesBody (body_of s) frames
  typed_by frames types there are =
      subst (λ (o : Option (List Frame)). TypesMethod (Some s) o) are
      (subst (λ (o : Option Scope). TypesMethod o (typed_frames_at typed at)) there (laws.types_each classes typed types at))

  alone_typed : (frames : List Frame) → TypesBody (body_of s) frames → scope_at classes at ≡ Some s
      → TypesBody (body_of_flat classes s (flat_alone s at frames)) (typed_points (flat_alone s at frames))
  alone_typed frames types there =
      let flat : FlatCode = flat_alone s at frames in
      laws.types (body_of_flat classes s flat) (typed_points flat) (points_in_order classes s flat)
      (has_frames classes s at frames (record {
        pool_is = own_pool classes at s there;
        order = laws.in_order s;
        has = laws.places (body_of s) frames (laws.in_order s) types;
        goes = laws.edges s frames types;
      }))

  pub flat_typed : (flat : FlatCode) → TypesFolder classes typed → IsFlatAlone classes typed at flat → scope_at classes at ≡ Some s
      → TypesBody (body_of_flat classes s flat) (typed_points flat)
  flat_typed flat types alone there =
      let same : alone.scope ≡ s = same_Some alone.scope s (sym alone.is_scope ∙ there) in
      let flat_is : flat ≡ flat_alone s at alone.frames = alone.is ∙ ap (λ (scope : Scope). flat_alone scope at alone.frames) same in
      subst (λ (f : FlatCode). TypesBody (body_of_flat classes s f) (typed_points f)) (sym flat_is)
      (alone_typed alone.frames (typed_by alone.frames types there alone.are_frames) there)
