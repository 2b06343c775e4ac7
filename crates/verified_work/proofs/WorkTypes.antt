-- The frames of generated code, and that they type it.
use Rattle.std.proofs.Common.{◌≡◌, ◌≢◌, ℕ, List, [], ◌∷◌, ◌++◌, Option, Some, inl, inr, refl, sym, subst, ◌∙◌, arith, codes}
use Rattle.std.specs.Prelude.{IsTrue}
use Rattle.std.proofs.lemmas.Bool.{false≢true}
use Rattle.std.proofs.lemmas.Option.{same_Some}
use Rattle.class_model.specs.Descriptors as descriptors
use Rattle.class_model.specs.Frames as frames
use Rattle.class_model.specs.Instructions as instructions
use Rattle.class_model.specs.Laws.Checks.{◌▸◌}
use Rattle.class_model.specs.Members.{PROTECTED, has}
use Rattle.class_model.specs.Names.{init}
use Rattle.class_model.specs.Pool.{Constants}
use Rattle.class_model.specs.declared.class_file.Attr.TheVariants.{Code}
use Rattle.class_model.specs.declared.class_file.CodePart.{CodePart}
use Rattle.class_model.specs.declared.class_file.Method.{Method}
use Rattle.class_model.specs.declared.descriptor.FieldType.TheVariants as types
use Rattle.class_model.specs.declared.frame.Frame.{Frame}
use Rattle.class_model.specs.declared.frame.VType.{VType}
use Rattle.class_model.specs.declared.frame.VType.TheVariants.{Int, Object, Top, Uninit, UninitThis}
use Rattle.class_model.specs.declared.header.Member.{Member}
use Rattle.class_tree.specs.Headers.{Name}
use Rattle.class_tree.specs.Names.{object, throwable}
use Rattle.class_tree.specs.Subtype.{directly, superclass}
use Rattle.member_link.specs.Assignability.{of_names, to_class_above, to_same, to_top}
use Rattle.member_link.specs.DeclaredMembers.{Declared, declared_by}
use Rattle.member_link.specs.Fields.{FindsField}
use Rattle.member_link.specs.Methods.{FindsMethod}
use Rattle.member_link.specs.Overriding.{package_of}
use Rattle.member_link.specs.Scope.{Scope}
use Rattle.type_rules.specs.Typed.{Typed}
use Rattle.work_gen.specs.Generated.{kind_code, point, point_init, point_y, work, work_constants, work_method}
use Rattle.work_gen.specs.Values.{method}
use Rattle.work_gen.specs.declared.choices.Choice.{Choice}
use Rattle.work_gen.specs.declared.choices.Kind.{Kind}
use Rattle.work_gen.specs.declared.choices.Kind.TheVariants.{Adds, Branches, Locks, Loops}
use Rattle.verified_work.proofs.WorkHeaders.{headers, point_constructor, point_header, x_field, y_field, y_method}
use Rattle.verified_work.proofs.WorkUses.{UseLaws, init_found, method_found, x_found, y_found}

-- ---- the frames

abbrev frame : List VType → List VType → Frame
frame locals stack = record { locals = locals; stack = stack }

abbrev made : VType
made = Object (codes "P")

-- the fields of an object are added
abbrev adds_frames : List Frame
adds_frames =
    frame (Int ∷ Top ∷ []) ([])
    ∷ frame (Int ∷ Top ∷ []) (Uninit 0 ∷ [])
    ∷ frame (Int ∷ Top ∷ []) (Uninit 0 ∷ Uninit 0 ∷ [])
    ∷ frame (Int ∷ Top ∷ []) (Uninit 0 ∷ Uninit 0 ∷ Int ∷ [])
    ∷ frame (Int ∷ Top ∷ []) (Uninit 0 ∷ Uninit 0 ∷ Int ∷ Int ∷ [])
    ∷ frame (Int ∷ Top ∷ []) (made ∷ [])
    ∷ frame (Int ∷ made ∷ []) ([])
    ∷ frame (Int ∷ made ∷ []) (made ∷ [])
    ∷ frame (Int ∷ made ∷ []) (Int ∷ [])
    ∷ frame (Int ∷ made ∷ []) (Int ∷ made ∷ [])
    ∷ frame (Int ∷ made ∷ []) (Int ∷ Int ∷ [])
    ∷ frame (Int ∷ made ∷ []) (Int ∷ [])
    ∷ []

-- an object a turn of a loop
abbrev loops_frames : List Frame
loops_frames =
    frame (Int ∷ Top ∷ Top ∷ Top ∷ []) ([])
    ∷ frame (Int ∷ Top ∷ Top ∷ Top ∷ []) (Int ∷ [])
    ∷ frame (Int ∷ Int ∷ Top ∷ Top ∷ []) ([])
    ∷ frame (Int ∷ Int ∷ Top ∷ Top ∷ []) (Int ∷ [])
    ∷ frame (Int ∷ Int ∷ Int ∷ Top ∷ []) ([])
    ∷ frame (Int ∷ Int ∷ Int ∷ Top ∷ []) (Int ∷ [])
    ∷ frame (Int ∷ Int ∷ Int ∷ Top ∷ []) (Int ∷ Int ∷ [])
    ∷ frame (Int ∷ Int ∷ Int ∷ Top ∷ []) ([])
    ∷ frame (Int ∷ Int ∷ Int ∷ Top ∷ []) (Uninit 9 ∷ [])
    ∷ frame (Int ∷ Int ∷ Int ∷ Top ∷ []) (Uninit 9 ∷ Uninit 9 ∷ [])
    ∷ frame (Int ∷ Int ∷ Int ∷ Top ∷ []) (Uninit 9 ∷ Uninit 9 ∷ Int ∷ [])
    ∷ frame (Int ∷ Int ∷ Int ∷ Top ∷ []) (Uninit 9 ∷ Uninit 9 ∷ Int ∷ Int ∷ [])
    ∷ frame (Int ∷ Int ∷ Int ∷ Top ∷ []) (made ∷ [])
    ∷ frame (Int ∷ Int ∷ Int ∷ made ∷ []) ([])
    ∷ frame (Int ∷ Int ∷ Int ∷ made ∷ []) (Int ∷ [])
    ∷ frame (Int ∷ Int ∷ Int ∷ made ∷ []) (Int ∷ made ∷ [])
    ∷ frame (Int ∷ Int ∷ Int ∷ made ∷ []) (Int ∷ Int ∷ [])
    ∷ frame (Int ∷ Int ∷ Int ∷ made ∷ []) (Int ∷ [])
    ∷ frame (Int ∷ Int ∷ Int ∷ made ∷ []) ([])
    ∷ frame (Int ∷ Int ∷ Int ∷ made ∷ []) ([])
    ∷ frame (Int ∷ Int ∷ Top ∷ Top ∷ []) ([])
    ∷ frame (Int ∷ Int ∷ Top ∷ Top ∷ []) (Int ∷ [])
    ∷ []

-- an object that escapes on a branch
abbrev branches_frames : List Frame
branches_frames =
    frame (Int ∷ Top ∷ []) ([])
    ∷ frame (Int ∷ Top ∷ []) (Uninit 0 ∷ [])
    ∷ frame (Int ∷ Top ∷ []) (Uninit 0 ∷ Uninit 0 ∷ [])
    ∷ frame (Int ∷ Top ∷ []) (Uninit 0 ∷ Uninit 0 ∷ Int ∷ [])
    ∷ frame (Int ∷ Top ∷ []) (Uninit 0 ∷ Uninit 0 ∷ Int ∷ Int ∷ [])
    ∷ frame (Int ∷ Top ∷ []) (made ∷ [])
    ∷ frame (Int ∷ made ∷ []) ([])
    ∷ frame (Int ∷ made ∷ []) (Int ∷ [])
    ∷ frame (Int ∷ made ∷ []) (Int ∷ Int ∷ [])
    ∷ frame (Int ∷ made ∷ []) ([])
    ∷ frame (Int ∷ made ∷ []) (Int ∷ [])
    ∷ frame (Int ∷ made ∷ []) ([])
    ∷ frame (Int ∷ made ∷ []) (Int ∷ [])
    ∷ frame (Int ∷ made ∷ []) (Int ∷ Int ∷ [])
    ∷ frame (Int ∷ made ∷ []) ([])
    ∷ frame (Int ∷ made ∷ []) (made ∷ [])
    ∷ frame (Int ∷ made ∷ []) ([])
    ∷ frame (Int ∷ made ∷ []) (made ∷ [])
    ∷ frame (Int ∷ made ∷ []) (Int ∷ [])
    ∷ []

-- an object that is locked
abbrev locks_frames : List Frame
locks_frames =
    frame (Int ∷ Top ∷ Top ∷ Top ∷ []) ([])
    ∷ frame (Int ∷ Top ∷ Top ∷ Top ∷ []) (Uninit 0 ∷ [])
    ∷ frame (Int ∷ Top ∷ Top ∷ Top ∷ []) (Uninit 0 ∷ Uninit 0 ∷ [])
    ∷ frame (Int ∷ Top ∷ Top ∷ Top ∷ []) (Uninit 0 ∷ Uninit 0 ∷ Int ∷ [])
    ∷ frame (Int ∷ Top ∷ Top ∷ Top ∷ []) (Uninit 0 ∷ Uninit 0 ∷ Int ∷ Int ∷ [])
    ∷ frame (Int ∷ Top ∷ Top ∷ Top ∷ []) (made ∷ [])
    ∷ frame (Int ∷ made ∷ Top ∷ Top ∷ []) ([])
    ∷ frame (Int ∷ made ∷ Top ∷ Top ∷ []) (made ∷ [])
    ∷ frame (Int ∷ made ∷ Top ∷ Top ∷ []) (made ∷ made ∷ [])
    ∷ frame (Int ∷ made ∷ made ∷ Top ∷ []) (made ∷ [])
    ∷ frame (Int ∷ made ∷ made ∷ Top ∷ []) ([])
    ∷ frame (Int ∷ made ∷ made ∷ Top ∷ []) (made ∷ [])
    ∷ frame (Int ∷ made ∷ made ∷ Top ∷ []) (Int ∷ [])
    ∷ frame (Int ∷ made ∷ made ∷ Top ∷ []) (Int ∷ made ∷ [])
    ∷ frame (Int ∷ made ∷ made ∷ Top ∷ []) (Int ∷ [])
    ∷ frame (Int ∷ made ∷ Object object ∷ Top ∷ []) (Object throwable ∷ [])
    ∷ frame (Int ∷ made ∷ Object object ∷ Object throwable ∷ []) ([])
    ∷ frame (Int ∷ made ∷ Object object ∷ Object throwable ∷ []) (Object object ∷ [])
    ∷ frame (Int ∷ made ∷ Object object ∷ Object throwable ∷ []) ([])
    ∷ frame (Int ∷ made ∷ Object object ∷ Object throwable ∷ []) (Object throwable ∷ [])
    ∷ []

-- the constructor of the objects
abbrev init_frames : List Frame
init_frames =
    frame (UninitThis ∷ Int ∷ Int ∷ []) ([])
    ∷ frame (UninitThis ∷ Int ∷ Int ∷ []) (UninitThis ∷ [])
    ∷ frame (made ∷ Int ∷ Int ∷ []) ([])
    ∷ frame (made ∷ Int ∷ Int ∷ []) (made ∷ [])
    ∷ frame (made ∷ Int ∷ Int ∷ []) (made ∷ Int ∷ [])
    ∷ frame (made ∷ Int ∷ Int ∷ []) ([])
    ∷ frame (made ∷ Int ∷ Int ∷ []) (made ∷ [])
    ∷ frame (made ∷ Int ∷ Int ∷ []) (made ∷ Int ∷ [])
    ∷ frame (made ∷ Int ∷ Int ∷ []) ([])
    ∷ []

-- the method that gives a field
abbrev y_frames : List Frame
y_frames =
    frame (made ∷ []) ([])
    ∷ frame (made ∷ []) (made ∷ [])
    ∷ frame (made ∷ []) (Int ∷ [])
    ∷ []

abbrev pub kind_frames : Kind → List Frame
kind_frames Adds = adds_frames
kind_frames Loops = loops_frames
kind_frames Branches = branches_frames
kind_frames Locks = locks_frames

abbrev pub point_frames : List (Option (List Frame))
point_frames = Some init_frames ∷ Some y_frames ∷ []

-- ---- members that are not protected

module _ (laws : UseLaws) (methods : List Member) where
  of_found : (one other : Declared) → one ≡ other → package_of one.class ≡ [] → package_of other.class ≡ []
  of_found one other same own = subst (λ (d : Declared). package_of d.class ≡ []) same own

  x_access : (own : Name) → package_of own ≡ [] → {Below Passes : Type 0} → (member : Declared) → FindsField (headers methods) (codes "P") (codes "x") (codes "I") (Some member)
      → IsTrue (has member.member.flags PROTECTED) → package_of member.class ≢ package_of own → Below → Passes
  x_access own none member finds protected apart below =
      let same = same_Some _ _ (laws.one_field (headers methods) (codes "P") (codes "x") (codes "I") (Some (declared_by (codes "P") x_field)) (Some member) (x_found methods) finds) in
      absurd (apart (of_found (declared_by (codes "P") x_field) member same refl ∙ sym none))

  own_y_access : {Below Passes : Type 0} → (member : Declared) → FindsField (headers methods) (codes "P") (codes "y") (codes "I") (Some member)
      → IsTrue (has member.member.flags PROTECTED) → package_of member.class ≢ package_of (codes "P") → Below → Passes
  own_y_access member finds protected apart below =
      let same = same_Some _ _ (laws.one_field (headers methods) (codes "P") (codes "y") (codes "I") (Some (declared_by (codes "P") y_field)) (Some member) (y_found methods) finds) in
      absurd (apart (of_found (declared_by (codes "P") y_field) member same refl))

  y_access : {Below Passes : Type 0} → (member : Declared) → FindsMethod (headers methods) (codes "P") (codes "y") (codes "()I") (Some member)
      → IsTrue (has member.member.flags PROTECTED) → package_of member.class ≢ package_of (codes "G") → Below → Passes
  y_access member finds protected apart below =
      let same = same_Some _ _ (laws.one_method (headers methods) (codes "P") (codes "y") (codes "()I") (Some (declared_by (codes "P") y_method)) (Some member) (method_found methods) finds) in
      absurd (apart (of_found (declared_by (codes "P") y_method) member same refl))

  init_access : (member : Declared) → FindsMethod (headers methods) (codes "P") init (codes "(II)V") (Some member)
      → IsTrue (has member.member.flags PROTECTED) → package_of member.class ≡ package_of (codes "G")
  init_access member finds protected =
      let same = same_Some _ _ (laws.one_method (headers methods) (codes "P") init (codes "(II)V") (Some (declared_by (codes "P") point_constructor)) (Some member) (init_found methods) finds) in
      of_found (declared_by (codes "P") point_constructor) member same refl

-- ---- instruction by instruction

abbrev pub scope : List Member → Constants → List Method → ℕ → Choice → Kind → Scope
scope methods more class_methods number choice kind = record {
  headers = headers methods;
  class = record (work []) { pool = work_constants ++ more; methods = class_methods };
  method = work_method number choice;
  part = kind_code kind;
}

module _ (laws : UseLaws) (methods : List Member) (more : Constants) (class_methods : List Method) (number : ℕ) (choice : Choice) where
  adds_typed : Typed (scope methods more class_methods number choice Adds) adds_frames
  unfolding descriptors.types_before instructions.instrs_at instructions.instr_at frames.frames_at frames.verification_types_at frames.entries_of_units
  adds_typed = record {
    catch_types = tt;
    instrs =
        record { before_is = refl; holds = tt ▸ tt ▸ tt ▸ omega arith ▸ (tt, tt) ▸ tt }
        ▸ record { before_is = refl; holds = tt ▸ (refl, tt) ▸ tt ▸ omega arith ▸ (tt, tt) ▸ tt }
        ▸ record { before_is = refl; holds = tt ▸ tt ▸ (Int, refl, refl) ▸ omega arith ▸ (tt, tt) ▸ tt }
        ▸ record { before_is = refl; holds = tt ▸ tt ▸ tt ▸ omega arith ▸ (tt, tt) ▸ tt }
        ▸ record { before_is = refl; holds = tt ▸ (tt, (to_same _, (to_same _, tt))) ▸ tt ▸ omega arith ▸ (refl, init_access laws methods) ▸ tt }
        ▸ record { before_is = refl; holds = tt ▸ (tt, tt) ▸ omega arith ▸ omega arith ▸ (tt, tt) ▸ tt }
        ▸ record { before_is = refl; holds = tt ▸ tt ▸ (made, refl, tt) ▸ omega arith ▸ (tt, tt) ▸ tt }
        ▸ record { before_is = refl; holds = tt ▸ (to_same _, tt) ▸ tt ▸ omega arith ▸ (tt, x_access laws methods (codes "G") refl) ▸ tt }
        ▸ record { before_is = refl; holds = tt ▸ tt ▸ (made, refl, tt) ▸ omega arith ▸ (tt, tt) ▸ tt }
        ▸ record { before_is = refl; holds = tt ▸ (to_same _, tt) ▸ tt ▸ omega arith ▸ (tt, y_access laws methods) ▸ tt }
        ▸ record { before_is = refl; holds = tt ▸ (refl, (refl, tt)) ▸ tt ▸ omega arith ▸ (tt, tt) ▸ tt }
        ▸ record { before_is = refl; holds = tt ▸ (refl, tt) ▸ tt ▸ omega arith ▸ (record { type = types.Int; is_result = refl; same_kind = refl; assignable = λ is. absurd cc }, tt) ▸ tt }
        ▸ refl;
  }

  loops_typed : Typed (scope methods more class_methods number choice Loops) loops_frames
  unfolding descriptors.types_before instructions.instrs_at instructions.instr_at frames.frames_at frames.verification_types_at frames.entries_of_units
  loops_typed = record {
    catch_types = tt;
    instrs =
        record { before_is = refl; holds = tt ▸ tt ▸ tt ▸ omega arith ▸ (tt, tt) ▸ tt }
        ▸ record { before_is = refl; holds = tt ▸ (refl, tt) ▸ omega arith ▸ omega arith ▸ (tt, tt) ▸ tt }
        ▸ record { before_is = refl; holds = tt ▸ tt ▸ tt ▸ omega arith ▸ (tt, tt) ▸ tt }
        ▸ record { before_is = refl; holds = tt ▸ (refl, tt) ▸ omega arith ▸ omega arith ▸ (tt, tt) ▸ tt }
        ▸ record { before_is = refl; holds = record { locals = (to_same _, (to_same _, (to_same _, (to_same _, tt)))); stack = tt; keeps_this = λ is. absurd (false≢true is) } ▸ tt ▸ (Int, refl, refl) ▸ omega arith ▸ (tt, tt) ▸ tt }
        ▸ record { before_is = refl; holds = tt ▸ tt ▸ (Int, refl, refl) ▸ omega arith ▸ (tt, tt) ▸ tt }
        ▸ record { before_is = refl; holds = tt ▸ (refl, (refl, tt)) ▸ tt ▸ omega arith ▸ (tt, tt) ▸ record { locals = (to_same _, (to_same _, (to_top _, (to_same _, tt)))); stack = tt; keeps_this = λ is. absurd (false≢true is) } ▸ tt }
        ▸ record { before_is = refl; holds = tt ▸ tt ▸ tt ▸ omega arith ▸ (tt, tt) ▸ tt }
        ▸ record { before_is = refl; holds = tt ▸ (refl, tt) ▸ tt ▸ omega arith ▸ (tt, tt) ▸ tt }
        ▸ record { before_is = refl; holds = tt ▸ tt ▸ (Int, refl, refl) ▸ omega arith ▸ (tt, tt) ▸ tt }
        ▸ record { before_is = refl; holds = tt ▸ tt ▸ (Int, refl, refl) ▸ omega arith ▸ (tt, tt) ▸ tt }
        ▸ record { before_is = refl; holds = tt ▸ (tt, (to_same _, (to_same _, tt))) ▸ tt ▸ omega arith ▸ (refl, init_access laws methods) ▸ tt }
        ▸ record { before_is = refl; holds = tt ▸ (tt, tt) ▸ omega arith ▸ omega arith ▸ (tt, tt) ▸ tt }
        ▸ record { before_is = refl; holds = tt ▸ tt ▸ (Int, refl, refl) ▸ omega arith ▸ (tt, tt) ▸ tt }
        ▸ record { before_is = refl; holds = tt ▸ tt ▸ (made, refl, tt) ▸ omega arith ▸ (tt, tt) ▸ tt }
        ▸ record { before_is = refl; holds = tt ▸ (to_same _, tt) ▸ tt ▸ omega arith ▸ (tt, x_access laws methods (codes "G") refl) ▸ tt }
        ▸ record { before_is = refl; holds = tt ▸ (refl, (refl, tt)) ▸ tt ▸ omega arith ▸ (tt, tt) ▸ tt }
        ▸ record { before_is = refl; holds = tt ▸ (refl, tt) ▸ omega arith ▸ omega arith ▸ (tt, tt) ▸ tt }
        ▸ record { before_is = refl; holds = tt ▸ tt ▸ (Int, refl, refl) ▸ omega arith ▸ (tt, tt) ▸ tt }
        ▸ record { before_is = refl; holds = tt ▸ tt ▸ tt ▸ omega arith ▸ (tt, tt) ▸ record { locals = (to_same _, (to_same _, (to_same _, (to_top _, tt)))); stack = tt; keeps_this = λ is. absurd (false≢true is) } ▸ tt }
        ▸ record { before_is = refl; holds = tt ▸ tt ▸ (Int, refl, refl) ▸ omega arith ▸ (tt, tt) ▸ tt }
        ▸ record { before_is = refl; holds = tt ▸ (refl, tt) ▸ tt ▸ omega arith ▸ (record { type = types.Int; is_result = refl; same_kind = refl; assignable = λ is. absurd cc }, tt) ▸ tt }
        ▸ refl;
  }

  branches_typed : Typed (scope methods more class_methods number choice Branches) branches_frames
  unfolding descriptors.types_before instructions.instrs_at instructions.instr_at frames.frames_at frames.verification_types_at frames.entries_of_units
  branches_typed = record {
    catch_types = tt;
    instrs =
        record { before_is = refl; holds = tt ▸ tt ▸ tt ▸ omega arith ▸ (tt, tt) ▸ tt }
        ▸ record { before_is = refl; holds = tt ▸ (refl, tt) ▸ tt ▸ omega arith ▸ (tt, tt) ▸ tt }
        ▸ record { before_is = refl; holds = tt ▸ tt ▸ tt ▸ omega arith ▸ (tt, tt) ▸ tt }
        ▸ record { before_is = refl; holds = tt ▸ tt ▸ tt ▸ omega arith ▸ (tt, tt) ▸ tt }
        ▸ record { before_is = refl; holds = tt ▸ (tt, (to_same _, (to_same _, tt))) ▸ tt ▸ omega arith ▸ (refl, init_access laws methods) ▸ tt }
        ▸ record { before_is = refl; holds = tt ▸ (tt, tt) ▸ omega arith ▸ omega arith ▸ (tt, tt) ▸ tt }
        ▸ record { before_is = refl; holds = tt ▸ tt ▸ (Int, refl, refl) ▸ omega arith ▸ (tt, tt) ▸ tt }
        ▸ record { before_is = refl; holds = tt ▸ tt ▸ tt ▸ omega arith ▸ (tt, tt) ▸ tt }
        ▸ record { before_is = refl; holds = tt ▸ (refl, (refl, tt)) ▸ tt ▸ omega arith ▸ (tt, tt) ▸ record { locals = (to_same _, (to_same _, tt)); stack = tt; keeps_this = λ is. absurd (false≢true is) } ▸ tt }
        ▸ record { before_is = refl; holds = tt ▸ tt ▸ tt ▸ omega arith ▸ (tt, tt) ▸ tt }
        ▸ record { before_is = refl; holds = tt ▸ (refl, tt) ▸ tt ▸ omega arith ▸ (record { type = types.Int; is_result = refl; same_kind = refl; assignable = λ is. absurd cc }, tt) ▸ tt }
        ▸ record { before_is = refl; holds = tt ▸ tt ▸ (Int, refl, refl) ▸ omega arith ▸ (tt, tt) ▸ tt }
        ▸ record { before_is = refl; holds = tt ▸ tt ▸ tt ▸ omega arith ▸ (tt, tt) ▸ tt }
        ▸ record { before_is = refl; holds = tt ▸ (refl, (refl, tt)) ▸ tt ▸ omega arith ▸ (tt, tt) ▸ record { locals = (to_same _, (to_same _, tt)); stack = tt; keeps_this = λ is. absurd (false≢true is) } ▸ tt }
        ▸ record { before_is = refl; holds = tt ▸ tt ▸ (made, refl, tt) ▸ omega arith ▸ (tt, tt) ▸ tt }
        ▸ record { before_is = refl; holds = tt ▸ (of_names _ _ (to_class_above _ _ (directly _ _ (superclass _ _ point_header refl refl))), tt) ▸ tt ▸ omega arith ▸ (tt, tt) ▸ tt }
        ▸ record { before_is = refl; holds = record { locals = (to_same _, (to_same _, tt)); stack = tt; keeps_this = λ is. absurd (false≢true is) } ▸ tt ▸ (made, refl, tt) ▸ omega arith ▸ (tt, tt) ▸ tt }
        ▸ record { before_is = refl; holds = tt ▸ (to_same _, tt) ▸ tt ▸ omega arith ▸ (tt, x_access laws methods (codes "G") refl) ▸ tt }
        ▸ record { before_is = refl; holds = tt ▸ (refl, tt) ▸ tt ▸ omega arith ▸ (record { type = types.Int; is_result = refl; same_kind = refl; assignable = λ is. absurd cc }, tt) ▸ tt }
        ▸ refl;
  }

  locks_typed : Typed (scope methods more class_methods number choice Locks) locks_frames
  unfolding descriptors.types_before instructions.instrs_at instructions.instr_at frames.frames_at frames.verification_types_at frames.entries_of_units
  locks_typed = record {
    catch_types = (record { class = throwable; is_caught = refl; is_throwable = inl refl }, (record { class = throwable; is_caught = refl; is_throwable = inl refl }, tt));
    instrs =
        record { before_is = refl; holds = tt ▸ tt ▸ tt ▸ omega arith ▸ (tt, tt) ▸ tt }
        ▸ record { before_is = refl; holds = tt ▸ (refl, tt) ▸ tt ▸ omega arith ▸ (tt, tt) ▸ tt }
        ▸ record { before_is = refl; holds = tt ▸ tt ▸ (Int, refl, refl) ▸ omega arith ▸ (tt, tt) ▸ tt }
        ▸ record { before_is = refl; holds = tt ▸ tt ▸ tt ▸ omega arith ▸ (tt, tt) ▸ tt }
        ▸ record { before_is = refl; holds = tt ▸ (tt, (to_same _, (to_same _, tt))) ▸ tt ▸ omega arith ▸ (refl, init_access laws methods) ▸ tt }
        ▸ record { before_is = refl; holds = tt ▸ (tt, tt) ▸ omega arith ▸ omega arith ▸ (tt, tt) ▸ tt }
        ▸ record { before_is = refl; holds = tt ▸ tt ▸ (made, refl, tt) ▸ omega arith ▸ (tt, tt) ▸ tt }
        ▸ record { before_is = refl; holds = tt ▸ (refl, tt) ▸ tt ▸ omega arith ▸ (tt, tt) ▸ tt }
        ▸ record { before_is = refl; holds = tt ▸ (tt, tt) ▸ omega arith ▸ omega arith ▸ (tt, tt) ▸ tt }
        ▸ record { before_is = refl; holds = tt ▸ (tt, tt) ▸ tt ▸ omega arith ▸ (tt, tt) ▸ tt }
        ▸ record { before_is = refl; holds = tt ▸ record { locals = (to_same _, (to_same _, (of_names _ _ (to_class_above _ _ (directly _ _ (superclass _ _ point_header refl refl))), (to_same _, tt)))); stack = (to_same _, tt); keeps_this = λ is. absurd (false≢true is) } ▸ tt ▸ (made, refl, tt) ▸ omega arith ▸ (tt, tt) ▸ tt }
        ▸ record { before_is = refl; holds = tt ▸ record { locals = (to_same _, (to_same _, (of_names _ _ (to_class_above _ _ (directly _ _ (superclass _ _ point_header refl refl))), (to_same _, tt)))); stack = (to_same _, tt); keeps_this = λ is. absurd (false≢true is) } ▸ (to_same _, tt) ▸ tt ▸ omega arith ▸ (tt, x_access laws methods (codes "G") refl) ▸ tt }
        ▸ record { before_is = refl; holds = tt ▸ record { locals = (to_same _, (to_same _, (of_names _ _ (to_class_above _ _ (directly _ _ (superclass _ _ point_header refl refl))), (to_same _, tt)))); stack = (to_same _, tt); keeps_this = λ is. absurd (false≢true is) } ▸ tt ▸ (made, refl, tt) ▸ omega arith ▸ (tt, tt) ▸ tt }
        ▸ record { before_is = refl; holds = tt ▸ record { locals = (to_same _, (to_same _, (of_names _ _ (to_class_above _ _ (directly _ _ (superclass _ _ point_header refl refl))), (to_same _, tt)))); stack = (to_same _, tt); keeps_this = λ is. absurd (false≢true is) } ▸ (tt, tt) ▸ tt ▸ omega arith ▸ (tt, tt) ▸ tt }
        ▸ record { before_is = refl; holds = tt ▸ (refl, tt) ▸ tt ▸ omega arith ▸ (record { type = types.Int; is_result = refl; same_kind = refl; assignable = λ is. absurd cc }, tt) ▸ tt }
        ▸ record { before_is = refl; holds = tt ▸ record { locals = (to_same _, (to_same _, (to_same _, (to_same _, tt)))); stack = (to_same _, tt); keeps_this = λ is. absurd (false≢true is) } ▸ (tt, tt) ▸ omega arith ▸ omega arith ▸ (tt, tt) ▸ tt }
        ▸ record { before_is = refl; holds = tt ▸ record { locals = (to_same _, (to_same _, (to_same _, (to_top _, tt)))); stack = (to_same _, tt); keeps_this = λ is. absurd (false≢true is) } ▸ tt ▸ (Object object, refl, tt) ▸ omega arith ▸ (tt, tt) ▸ tt }
        ▸ record { before_is = refl; holds = tt ▸ record { locals = (to_same _, (to_same _, (to_same _, (to_top _, tt)))); stack = (to_same _, tt); keeps_this = λ is. absurd (false≢true is) } ▸ (tt, tt) ▸ tt ▸ omega arith ▸ (tt, tt) ▸ tt }
        ▸ record { before_is = refl; holds = tt ▸ tt ▸ (Object throwable, refl, tt) ▸ omega arith ▸ (tt, tt) ▸ tt }
        ▸ record { before_is = refl; holds = tt ▸ (to_same _, tt) ▸ tt ▸ omega arith ▸ (tt, tt) ▸ tt }
        ▸ refl;
  }

  pub kind_typed : (kind : Kind) → Typed (scope methods more class_methods number choice kind) (kind_frames kind)
  kind_typed Adds = adds_typed
  kind_typed Loops = loops_typed
  kind_typed Branches = branches_typed
  kind_typed Locks = locks_typed

-- ---- the methods of the objects

abbrev pub point_scope : List Member → Method → CodePart → Scope
point_scope methods given part = record { headers = headers methods; class = point; method = given; part = part }

abbrev pub init_method : Method
init_method = method 0 5 6 (Code 7 point_init ∷ [])

abbrev pub second_method : Method
second_method = method 0 15 18 (Code 7 point_y ∷ [])

module _ (laws : UseLaws) (methods : List Member) where
  pub init_typed : Typed (point_scope methods init_method point_init) init_frames
  unfolding descriptors.types_before instructions.instrs_at instructions.instr_at frames.frames_at frames.verification_types_at frames.entries_of_units
  init_typed = record {
    catch_types = tt;
    instrs =
        record { before_is = refl; holds = tt ▸ tt ▸ (UninitThis, refl, tt) ▸ omega arith ▸ (tt, tt) ▸ tt }
        ▸ record { before_is = refl; holds = tt ▸ (tt, tt) ▸ tt ▸ omega arith ▸ (inr refl, tt) ▸ tt }
        ▸ record { before_is = refl; holds = tt ▸ tt ▸ (made, refl, tt) ▸ omega arith ▸ (tt, tt) ▸ tt }
        ▸ record { before_is = refl; holds = tt ▸ tt ▸ (Int, refl, refl) ▸ omega arith ▸ (tt, tt) ▸ tt }
        ▸ record { before_is = refl; holds = tt ▸ (inl (to_same _), (to_same _, tt)) ▸ tt ▸ omega arith ▸ (tt, x_access laws methods (codes "P") refl) ▸ tt }
        ▸ record { before_is = refl; holds = tt ▸ tt ▸ (made, refl, tt) ▸ omega arith ▸ (tt, tt) ▸ tt }
        ▸ record { before_is = refl; holds = tt ▸ tt ▸ (Int, refl, refl) ▸ omega arith ▸ (tt, tt) ▸ tt }
        ▸ record { before_is = refl; holds = tt ▸ (inl (to_same _), (to_same _, tt)) ▸ tt ▸ omega arith ▸ (tt, own_y_access laws methods) ▸ tt }
        ▸ record { before_is = refl; holds = tt ▸ tt ▸ tt ▸ omega arith ▸ (record { no_result = refl; initialised = λ is. ((λ is. absurd cc, (λ is. absurd cc, (λ is. absurd cc, tt))), tt) }, tt) ▸ tt }
        ▸ refl;
  }

  pub y_typed : Typed (point_scope methods second_method point_y) y_frames
  unfolding descriptors.types_before instructions.instrs_at instructions.instr_at frames.frames_at frames.verification_types_at frames.entries_of_units
  y_typed = record {
    catch_types = tt;
    instrs =
        record { before_is = refl; holds = tt ▸ tt ▸ (made, refl, tt) ▸ omega arith ▸ (tt, tt) ▸ tt }
        ▸ record { before_is = refl; holds = tt ▸ (to_same _, tt) ▸ tt ▸ omega arith ▸ (tt, own_y_access laws methods) ▸ tt }
        ▸ record { before_is = refl; holds = tt ▸ (refl, tt) ▸ tt ▸ omega arith ▸ (record { type = types.Int; is_result = refl; same_kind = refl; assignable = λ is. absurd cc }, tt) ▸ tt }
        ▸ refl;
  }
