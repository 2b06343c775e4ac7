-- What is known of a call that is replaced, and that what a callee leaves where it returns may stand for the frame behind the call.
use Rattle.std.proofs.Common.{◌≡◌, ◌≤◌, ◌⊎◌, ℕ, true, List, [], ◌∷◌, ◌++◌, length, map, Option, Some, None, refl, sym, ap, subst, ◌∙◌, arith, inl, inr}
use Rattle.std.proofs.lemmas.Option.{same_Some}
use Rattle.class_model.specs.Code.{verification_type}
use Rattle.class_model.specs.Descriptors.{kind_of}
use Rattle.class_model.specs.declared.class_file.ClassFile.{ClassFile}
use Rattle.class_model.specs.declared.class_file.MethodAt.{MethodAt}
use Rattle.class_model.specs.declared.descriptor.FieldType.{FieldType}
use Rattle.class_model.specs.declared.descriptor.FieldType.TheVariants as field_types
use Rattle.class_model.specs.declared.descriptor.Kind.{Kind}
use Rattle.class_model.specs.declared.descriptor.Kind.TheVariants as kinds
use Rattle.class_model.specs.declared.frame.Frame.{Frame}
use Rattle.class_model.specs.declared.frame.VType.{VType}
use Rattle.class_model.specs.declared.frame.VType.TheVariants as types
use Rattle.class_model.specs.declared.instr.Instr.TheVariants.{Return}
use Rattle.class_model.specs.declared.instr.Placed.{Placed}
use Rattle.class_tree.specs.Headers.{Classes, Headers, headers_of}
use Rattle.class_tree.specs.Hierarchy.{IsHierarchy}
use Rattle.expanded_code.specs.Callees.{Calls, IsCallee, LeavesResult, MayStandIn, ResultSaysAtMost, SaysAtMost, frame_behind, is_callee}
use Rattle.expanded_code.specs.Expanded.{Setting, arguments, set_type}
use Rattle.expanded_code.specs.Expansions.{Coded}
use Rattle.expanded_code.specs.Sites.{HasFrames}
use Rattle.expanded_runs.proofs.Runs.Positions.{Standing, scope_of}
use Rattle.expanded_runs.proofs.Types.Edges.{placed_keeps, placed_type}
use Rattle.expanded_runs.proofs.Types.ThroughClass.{ArrayInterfaces, IsKnown, through_class}
use Rattle.flow_code.specs.FlatCode.{FlatCode}
use Rattle.flow_code.specs.TypedFrames.{FolderFrames, typed_frames_at}
use Rattle.member_link.specs.Assignability.{IsAssignable, to_same, to_top}
use Rattle.member_link.specs.Bodies.{falls_through}
use Rattle.member_link.specs.BodyTyping.{RowHolds}
use Rattle.member_link.specs.Rows.MemberRows.{result_types, return_row}
use Rattle.member_link.specs.Rows.Operands.{AllFit, IsOfKind, of_kind, lowest_of, topmost, under}
use Rattle.member_link.specs.Rows.Row.{row_frame}
use Rattle.member_link.specs.Rows.Table.{row_of}
use Rattle.member_link.specs.Scope.{Scope, own_descriptor, row_scope, scope_at}
use Rattle.member_link.specs.Signatures.{result_of}

-- ---- the callee

-- what is asked of a callee and its call
pub record CalleeKnown (classes : Classes) (from : MethodAt) (caller : Scope) (before : List Frame) (at : ℕ) (g : Coded) : Type 0 where
  pub host_class : ClassFile
  pub calls : Calls classes caller at g.at
  pub may : MayStandIn classes host_class g.scope g.frames
  pub result : (behind : Frame) → frame_behind caller before at ≡ Some behind
      → ResultSaysAtMost (headers_of classes) (result_of (own_descriptor g.scope)) behind

pub callee_known : {classes : Classes} {typed : FolderFrames} {host : ℕ} {from : MethodAt} {at : ℕ} {callee : MethodAt}
    → IsCallee classes typed host from at callee
    → (caller : Scope) (before : List Frame) (g : Coded)
    → callee ≡ g.at
    → HasFrames classes typed from caller before
    → HasFrames classes typed g.at g.scope g.frames
    → CalleeKnown classes from caller before at g
callee_known {classes} {typed}
    (is_callee from at callee host_class own scope own_frames frames inner of_host of_caller of_own of_scope of_frames calls may result on_this) caller
    before g same has has_own =
    let one : own ≡ caller = same_Some own caller (sym of_caller ∙ has.is_scope) in
    let first : own_frames ≡ before = same_Some own_frames before (sym of_own ∙ has.are_frames) in
    let two : scope ≡ g.scope = same_Some scope g.scope (sym of_scope ∙ ap (scope_at classes) same ∙ has_own.is_scope) in
    let second : frames ≡ g.frames = same_Some frames g.frames (sym of_frames ∙ ap (typed_frames_at typed) same ∙ has_own.are_frames) in
    record {
      host_class = host_class;
      calls =
          subst (λ (s : Scope). Calls classes s at g.at) one (subst (λ (c : MethodAt). Calls classes own at c) same calls);
      may = subst (λ (s : Scope). MayStandIn classes host_class s g.frames) two (subst (MayStandIn classes host_class scope) second may);
      result = λ behind is.
          subst (λ (s : Scope). ResultSaysAtMost (headers_of classes) (result_of (own_descriptor s)) behind) two
          (result behind
          (subst (λ (s : Scope). frame_behind s own_frames at ≡ Some behind) (sym one)
          (subst (λ (f : List Frame). frame_behind caller f at ≡ Some behind) (sym first) is)));
    }

-- ---- the call

-- What the row of a call that is replaced says: the arguments are on the stack, and behind it each type has become another (where an object
-- is initialised), for which, in its place, the type before it may stand; the result is on the stack.
pub record CallFacts (flat : FlatCode) (headers : Headers) (p : Standing) (placed : Placed) (frame : Frame) (g : Coded) : Type 0 where
  pub enough : length (arguments g.scope 0) ≤ length frame.stack
  pub becomes : VType → VType
  pub own : Frame
  pub own_is : row_frame frame (row_of (row_scope (scope_of p)) frame placed.at placed.instr) ≡ Some own
  pub own_locals : own.locals ≡ map becomes frame.locals
  pub own_stack : own.stack ≡ map becomes (under (length (arguments g.scope 0)) frame.stack) ++ result_types (result_of (own_descriptor g.scope))
  pub through : (from to : VType) → IsAssignable headers (becomes from) to
      → IsAssignable headers (placed_type flat p.setting from) (placed_type flat p.setting to)
  pub keeps : (type : VType) → set_type p.setting type ≡ types.UninitThis → becomes type ≡ types.UninitThis
  pub falls : falls_through placed.instr ≡ true

-- ---- what is returned

-- nothing is on the stack, or the result alone
pub data Returned (headers : Headers) (result : Option FieldType) (stack : List VType) : Type 0 where
  returned_none : result ≡ None → stack ≡ [] → Returned headers result stack
  returned_one : (type : FieldType) (value : VType) → result ≡ Some type → stack ≡ value ∷ [] → IsOfKind (kind_of type) value
      → (kind_of type ≡ kinds.Ref → IsAssignable headers value (verification_type type))
      → Returned headers result stack

one_left : (stack : List VType) → length stack ≡ 1 → (value : VType) × (stack ≡ value ∷ [])
one_left [] one = absurd (omega (arith, one))
one_left (value ∷ []) one = (value, refl)
one_left (value ∷ other ∷ rest) one = absurd (omega (arith, one))

pub returned : (s : Scope) (frame : Frame) (kind : Option Kind) → LeavesResult (Return kind) frame
    → RowHolds (row_scope s) frame (return_row (row_scope s) frame kind)
    → Returned s.headers (result_of (own_descriptor s)) frame.stack
returned s frame None left row = returned_none row.further.no_result left
returned s frame (Some kind) left row =
    let one = one_left frame.stack left in
    let may = row.further in
    let is_one : topmost 1 frame.stack ≡ one.0 ∷ [] = ap (topmost 1) one.1 in
    let fits = subst (AllFit (row_scope s) (of_kind kind ∷ [])) is_one row.operands in
    returned_one may.type one.0 may.is_result one.1 (subst (λ (k : Kind). IsOfKind k one.0) (sym may.same_kind) fits.0)
    (λ reference. subst (λ (type : VType). IsAssignable s.headers type (verification_type may.type)) (ap (lowest_of 1) one.1)
    (may.assignable (sym may.same_kind ∙ reference)))

-- types of descriptors name no uninitialised object
pub verification_same : (flat : FlatCode) (t : Setting) (type : FieldType) → placed_type flat t (verification_type type) ≡ verification_type type
verification_same flat t (field_types.Named name) = refl
verification_same flat t other = refl

-- a value that is no reference has the type itself
value_is : (type : FieldType) (value : VType) → IsOfKind (kind_of type) value
    → (value ≡ verification_type type) ⊎ (kind_of type ≡ kinds.Ref)
value_is (field_types.Named name) value is = inr refl
value_is field_types.Byte value is = inl is
value_is field_types.Char value is = inl is
value_is field_types.Short value is = inl is
value_is field_types.Bool value is = inl is
value_is field_types.Int value is = inl is
value_is field_types.Long value is = inl is
value_is field_types.Float value is = inl is
value_is field_types.Double value is = inl is

-- ---- types of values that pass

module _ (flat : FlatCode) (headers : Headers) (hierarchy : IsHierarchy headers) (arrays : ArrayInterfaces headers) where
  -- A value of a declared type, whatever is said of it behind: it passes from one setting to another.
  pub passes : (from to : Setting) (type : FieldType) (value said : VType)
      → IsAssignable headers value (verification_type type)
      → IsAssignable headers (verification_type type) said
      → SaysAtMost headers type said
      → IsKnown headers value
      → IsAssignable headers (placed_type flat from value) (placed_type flat to said)
  passes from to type value said one other (inl same) known =
      subst (λ (t : VType). IsAssignable headers (placed_type flat from value) (placed_type flat to t)) (sym same)
      (subst (IsAssignable headers (placed_type flat from value)) (verification_same flat from type ∙ sym (verification_same flat to type))
      (placed_keeps flat from one))
  passes from to type value said one other (inr (inl top)) known =
      subst (λ (t : VType). IsAssignable headers (placed_type flat from value) (placed_type flat to t)) (sym top)
      (to_top (placed_type flat from value))
  passes from to type value said one other (inr (inr (name, object, class))) known =
      subst (λ (t : VType). IsAssignable headers (placed_type flat from value) (placed_type flat to t)) (sym object)
      (placed_keeps flat from (through_class headers hierarchy arrays one (subst (IsAssignable headers (verification_type type)) object other) class
      known))

  -- so does a result
  pub result_passes : (from to : Setting) (type : FieldType) (value said : VType)
      → IsOfKind (kind_of type) value
      → (kind_of type ≡ kinds.Ref → IsAssignable headers value (verification_type type))
      → IsAssignable headers (verification_type type) said
      → SaysAtMost headers type said
      → IsKnown headers value
      → IsAssignable headers (placed_type flat from value) (placed_type flat to said)
  result_passes from to type value said kind assignable other says known = elim (value_is type value kind) [
    | inl same ↦
        passes from to type value said (subst (λ (t : VType). IsAssignable headers t (verification_type type)) (sym same) (to_same (verification_type type)))
        other says known
    | inr reference ↦ passes from to type value said (assignable reference) other says known
  ]
