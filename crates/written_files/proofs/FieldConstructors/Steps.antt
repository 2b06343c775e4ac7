-- What the instructions of a field constructor do to a frame, one after the other.
use Rattle.std.proofs.Common.{◌≡◌, ◌≢◌, ◌++◌, ◌+◌, ◌-◌, ◌≤◌, ◌∙◌, ℕ, suc, true, List, [], ◌∷◌, drop, length, map, slice_get, take, Some, None, inl, inr, refl, sym, ap, subst, arith}
use Rattle.std.proofs.lemmas.List.{drop_all, length-map, take_all}
use Rattle.class_model.specs.Descriptors.{parameters_of}
use Rattle.class_model.specs.Frames.{depth}
use Rattle.class_model.specs.Instructions.{targets}
use Rattle.class_model.specs.Names.{init}
use Rattle.class_model.specs.Pool.{constant_at}
use Rattle.class_model.specs.declared.descriptor.Kind.{Kind}
use Rattle.class_model.specs.declared.frame.Frame.{Frame}
use Rattle.class_model.specs.declared.frame.VType.{VType}
use Rattle.class_model.specs.declared.frame.VType.TheVariants as types
use Rattle.class_model.specs.declared.instr.Imm.TheVariants as imms
use Rattle.class_model.specs.declared.instr.Instr.{Instr}
use Rattle.class_model.specs.declared.instr.Instr.TheVariants.{Const, Invoke, Load, PutField}
use Rattle.class_model.specs.declared.opcodes.TheConstants.{INVOKESPECIAL}
use Rattle.class_tree.specs.Headers.{Name}
use Rattle.member_link.specs.Assignability.{to_same}
use Rattle.member_link.specs.Bodies.{falls_through}
use Rattle.member_link.specs.BodyTyping.{RowHolds}
use Rattle.member_link.specs.References.{Reference}
use Rattle.member_link.specs.RowScope.{RowScope}
use Rattle.member_link.specs.Rows.LocalRows.{local_entry}
use Rattle.member_link.specs.Rows.MemberRows.{MayInitialise, NoUninitThis, PassesInitialiser, argument_needs, init_row, initialised_type, put_field_row, receiver, result_types}
use Rattle.member_link.specs.Rows.Operands.{AllFit, IsOfKind, topmost, under, uninitialised}
use Rattle.member_link.specs.Rows.Row.{Row, row_frame, stack_behind}
use Rattle.member_link.specs.Rows.Table.{row_of}
use Rattle.member_link.specs.Signatures.{field_type, reference_of, result_of}

abbrev pub framed : List VType → List VType → Frame
framed locals stack = record { locals = locals; stack = stack }

module _ (t : RowScope) where
  -- The rule of an instruction holds behind a frame, wherever it stands, and leaves another one; control goes on behind it and nowhere else.
  pub record Step (instr : Instr) (f next : Frame) : Type 0 where
    pub held : (at : ℕ) → RowHolds t f (row_of t f at instr)
    pub left : (at : ℕ) → row_frame f (row_of t f at instr) ≡ Some next
    pub falls : falls_through instr ≡ true
    pub no_targets : targets instr ≡ []

  -- one after the other
  abbrev pub Steps : List Instr → Frame → Frame → Type 0
  Steps [] f last = f ≡ last
  Steps (instr ∷ instrs) f last = (next : Frame) × Step instr f next × Steps instrs next last

  pub steps_both : (front back : List Instr) (f middle last : Frame) → Steps front f middle → Steps back middle last → Steps (front ++ back) f last
  steps_both [] back f middle last one other = subst (λ (g : Frame). Steps back g last) (sym one) other
  steps_both (instr ∷ front) back f middle last (next, step, rest) other =
      (next, step, steps_both front back next middle last rest other)

  -- ---- operands

  none_on_top : (stack : List VType) → topmost 0 stack ≡ []
  none_on_top stack = drop_all (length stack - 0) stack (omega arith)

  all_under : (stack : List VType) → under 0 stack ≡ stack
  all_under stack = take_all (length stack - 0) stack (omega arith)

  all_on_top : (count : ℕ) (stack : List VType) → count ≡ length stack → topmost count stack ≡ stack
  all_on_top count stack is =
      let none : length stack - count ≡ 0 = omega (arith, is) in ap (λ (n : ℕ). drop n stack) none

  none_under : (count : ℕ) (stack : List VType) → count ≡ length stack → under count stack ≡ []
  none_under count stack is =
      let none : length stack - count ≡ 0 = omega (arith, is) in ap (λ (n : ℕ). take n stack) none

  no_operands : (stack : List VType) → AllFit t [] (topmost 0 stack)
  no_operands stack = subst (AllFit t []) (sym (none_on_top stack)) tt

  -- ---- loads

  entry_there : (locals : List VType) (unit : ℕ) (type : VType) → slice_get locals unit ≡ Some type → local_entry locals unit ≡ type ∷ []
  entry_there locals unit type is = rw (is) refl

  pub load_step : (kind : Kind) (unit : ℕ) (locals stack : List VType) (type : VType) → slice_get locals unit ≡ Some type
      → IsOfKind kind type
      → depth (stack ++ type ∷ []) ≤ t.max_stack
      → Step (Load kind unit) (framed locals stack) (framed locals (stack ++ type ∷ []))
  load_step kind unit locals stack type is of_kind deep =
      let pushed : under 0 stack ++ local_entry locals unit ≡ stack ++ type ∷ [] =
      ap (λ (entries : List VType). entries ++ local_entry locals unit) (all_under stack)
      ∙ ap (λ (entries : List VType). stack ++ entries) (entry_there locals unit type is) in
      record {
        held = λ at. record {
          operands = no_operands stack;
          local = (type, is, of_kind);
          depth_fits = subst (λ (entries : List VType). depth entries ≤ t.max_stack) (sym pushed) deep;
          further = tt;
          access = tt;
        };
        left = λ at. ap (λ (entries : List VType). Some (framed locals entries)) pushed;
        falls = refl;
        no_targets = refl;
      }

  pub null_step : (locals stack : List VType) → depth (stack ++ types.Null ∷ []) ≤ t.max_stack
      → Step (Const imms.Null) (framed locals stack) (framed locals (stack ++ types.Null ∷ []))
  null_step locals stack deep =
      let pushed : under 0 stack ++ types.Null ∷ [] ≡ stack ++ types.Null ∷ [] =
      ap (λ (entries : List VType). entries ++ types.Null ∷ []) (all_under stack) in
      record {
        held = λ at. record {
          operands = no_operands stack;
          local = tt;
          depth_fits = subst (λ (entries : List VType). depth entries ≤ t.max_stack) (sym pushed) deep;
          further = tt;
          access = tt;
        };
        left = λ at. ap (λ (entries : List VType). Some (framed locals entries)) pushed;
        falls = refl;
        no_targets = refl;
      }

  -- ---- a store into a field of the current class

  module _ (index : ℕ) (name desc : List ℕ)
      (refers : reference_of t.pool (constant_at t.pool index) ≡ Some (record { class = t.own.name; name = name; desc = desc })) where
    abbrev field : Reference
    field = record { class = t.own.name; name = name; desc = desc }

    abbrev both : List VType
    both = types.Object t.own.name ∷ field_type desc ∷ []

    put_holds : (locals : List VType) → RowHolds t (framed locals both) (put_field_row t (framed locals both) (Some field))
    put_holds locals = record {
      operands = (inl (to_same (types.Object t.own.name)), (to_same (field_type desc), tt));
      local = tt;
      depth_fits = omega arith;
      further = tt;
      access = λ member found is_protected apart below. inl (to_same (types.Object t.own.name));
    }

    pub put_step : (locals : List VType) → Step (PutField index) (framed locals both) (framed locals [])
    put_step locals = record {
      held = λ at. rw (refers) (put_holds locals);
      left = λ at. rw (refers) refl;
      falls = refl;
      no_targets = refl;
    }

  -- ---- the call of the superclass's constructor

  module _ (index : ℕ) (above : Name) (desc : List ℕ)
      (refers : reference_of t.pool (constant_at t.pool index) ≡ Some (record { class = above; name = init; desc = desc }))
      (superclass : t.own.super_name ≡ Some above) (no_result : result_of desc ≡ None) where
    abbrev called : Reference
    called = record { class = above; name = init; desc = desc }

    -- the row by its object
    abbrev init_by : Frame → VType → Row
    init_by f object = record (init_row t f called) {
      further = MayInitialise t called object;
      access = PassesInitialiser t called object;
      locals = map (initialised_type t called object) f.locals;
      becomes = λ entries. map (initialised_type t called object) entries;
    }

    this_kept : (entries : List VType) → NoUninitThis entries → map (initialised_type t called types.UninitThis) entries ≡ entries
    this_kept [] none = refl
    this_kept (entry ∷ entries) none =
        let first : initialised_type t called types.UninitThis entry ≡ entry = by entry none.0 in
        rw (first, this_kept entries none.1) refl
      where
        by : (type : VType) → type ≢ types.UninitThis → initialised_type t called types.UninitThis type ≡ type
        by types.UninitThis not = absurd (not refl)
        by other not = refl

    module _ (rest args : List VType) (fit : AllFit t (argument_needs desc) args) (many : length args ≡ length (parameters_of desc))
        (none : NoUninitThis rest) where
      abbrev before : Frame
      before = framed (types.UninitThis ∷ rest) (types.UninitThis ∷ args)

      needs_many : length (argument_needs desc) ≡ length args
      needs_many = length-map (parameters_of desc) _ ∙ sym many

      on_top : topmost (suc (length (argument_needs desc))) (types.UninitThis ∷ args) ≡ types.UninitThis ∷ args
      on_top = all_on_top (suc (length (argument_needs desc))) (types.UninitThis ∷ args) (ap suc needs_many)

      under_it : under (suc (length (argument_needs desc))) (types.UninitThis ∷ args) ≡ []
      under_it = none_under (suc (length (argument_needs desc))) (types.UninitThis ∷ args) (ap suc needs_many)

      object_is : receiver before desc ≡ types.UninitThis
      object_is =
          let count : length (parameters_of desc) + 1 ≡ length (types.UninitThis ∷ args) = omega (arith, many) in
          let top = all_on_top (length (parameters_of desc) + 1) (types.UninitThis ∷ args) count in
          rw (top) refl

      abbrev row : Row
      row = init_by before types.UninitThis

      behind : stack_behind before row ≡ []
      behind =
          ap (λ (entries : List VType). map (initialised_type t called types.UninitThis) entries ++ result_types (result_of desc)) under_it
          ∙ ap result_types no_result

      row_holds : RowHolds t before row
      row_holds = record {
        operands = subst (AllFit t (uninitialised ∷ argument_needs desc)) (sym on_top) (tt, fit);
        local = tt;
        depth_fits = subst (λ (entries : List VType). depth entries ≤ t.max_stack) (sym behind) (omega arith);
        further = inr superclass;
        access = tt;
      }

      row_left : row_frame before row ≡ Some (framed (types.Object t.own.name ∷ rest) [])
      row_left =
          ap (λ (entries : List VType). Some (framed (types.Object t.own.name ∷ entries) (stack_behind before row))) (this_kept rest none)
          ∙ ap (λ (entries : List VType). Some (framed (types.Object t.own.name ∷ rest) entries)) behind

      same_row : row ≡ init_row t before called
      same_row = ap (init_by before) (sym object_is)

      pub call_step : Step (Invoke INVOKESPECIAL index 0) before (framed (types.Object t.own.name ∷ rest) [])
      call_step = record {
        held = λ at. rw (refers) (subst (RowHolds t before) same_row row_holds);
        left = λ at. rw (refers) (ap (row_frame before) (sym same_row) ∙ row_left);
        falls = refl;
        no_targets = refl;
      }
