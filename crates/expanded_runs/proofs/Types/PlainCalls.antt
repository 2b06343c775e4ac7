-- What the row of a call that is replaced says, where it initialises nothing: what it leaves, and what it passes.
use Rattle.std.proofs.Common.{◌≡◌, ◌+◌, ◌-◌, ◌≤◌, ℕ, suc, Bool, true, false, List, [], ◌∷◌, ◌++◌, length, map, slice_get, Option, Some, refl, sym, ap, subst, ◌∙◌, arith}
use Rattle.std.specs.Prelude.{bytes_eq}
use Rattle.std.proofs.lemmas.List.{length-drop, length-map}
use Rattle.class_model.specs.Code.{verification_type}
use Rattle.class_model.specs.Descriptors.{kind_of, parameters_of, units_of}
use Rattle.class_model.specs.Members.{STATIC, has}
use Rattle.class_model.specs.Names.{init}
use Rattle.class_model.specs.Pool.{constant_at}
use Rattle.class_model.specs.declared.descriptor.FieldType.{FieldType}
use Rattle.class_model.specs.declared.frame.Frame.{Frame}
use Rattle.class_model.specs.declared.frame.VType.{VType}
use Rattle.class_model.specs.declared.frame.VType.TheVariants as types
use Rattle.class_model.specs.declared.instr.Instr.{Instr}
use Rattle.class_model.specs.declared.instr.Instr.TheVariants.{Invoke}
use Rattle.class_model.specs.declared.instr.Placed.{Placed}
use Rattle.class_model.specs.declared.opcodes.TheConstants.{INVOKESPECIAL, INVOKESTATIC, INVOKEVIRTUAL}
use Rattle.expanded_code.specs.Expanded.{arguments, arguments_from}
use Rattle.expanded_code.specs.Expansions.{Coded, Expansion}
use Rattle.expanded_runs.proofs.Runs.Positions.{Standing, inner_setting, scope_of}
use Rattle.expanded_runs.proofs.Types.CallFacts.{CallFacts}
use Rattle.expanded_runs.proofs.Types.Edges.{placed_keeps, placed_type, set_this}
use Rattle.expanded_runs.proofs.Types.EntryFrames.{PassedValues, passed_object, passed_static, this_of}
use Rattle.expanded_runs.proofs.Types.EntryTypes.{AreArguments, named_below}
use Rattle.expanded_runs.proofs.Types.ThroughClass.{IsKnown}
use Rattle.expanded_runs.proofs.Types.Units.{get_drop}
use Rattle.flow_code.specs.FlatCode.{FlatCode}
use Rattle.member_link.specs.Assignability.{IsAssignable}
use Rattle.member_link.specs.Bodies.{falls_through}
use Rattle.member_link.specs.BodyTyping.{RowHolds}
use Rattle.member_link.specs.References.{Reference}
use Rattle.member_link.specs.RowScope.{RowScope}
use Rattle.member_link.specs.Rows.MemberRows.{argument_needs, call_row, init_row, result_types, special_row}
use Rattle.member_link.specs.Rows.Operands.{AllFit, Need, assignable_to, topmost, under}
use Rattle.member_link.specs.Rows.Row.{either, row_frame}
use Rattle.member_link.specs.Rows.Table.{row_of}
use Rattle.member_link.specs.Scope.{own_descriptor, row_scope}
use Rattle.member_link.specs.Signatures.{reference_of, result_of}

-- ---- operands

pub fit_as_many : (s : RowScope) (needs : List Need) (entries : List VType) → AllFit s needs entries → length entries ≡ length needs
fit_as_many s [] [] fit = refl
fit_as_many s [] (entry ∷ entries) fit = absurd fit
fit_as_many s (need ∷ needs) [] fit = absurd fit
fit_as_many s (need ∷ needs) (entry ∷ entries) fit = ap suc (fit_as_many s needs entries fit.1)

pub enough_there : (s : RowScope) (needs : List Need) (stack : List VType) → AllFit s needs (topmost (length needs) stack) → length needs ≤ length stack
enough_there s needs stack fit =
    let many = fit_as_many s needs (topmost (length needs) stack) fit in
    let long = length-drop (length stack - length needs) stack in
    omega (arith, many, long)

map_itself : (items : List VType) → map (λ (type : VType). type) items ≡ items
map_itself [] = refl
map_itself (item ∷ items) = ap (λ (rest : List VType). item ∷ rest) (map_itself items)

count_from : (unit : ℕ) (params : List FieldType) → length (arguments_from unit params) ≡ length params
count_from unit [] = refl
count_from unit (type ∷ params) = ap suc (count_from (unit + units_of (kind_of type)) params)

-- arguments that fit, of classes that are there
pub args_fit : (s : RowScope) (params : List FieldType) (values : List VType) → AllFit s (map (λ param. assignable_to (verification_type param)) params) values
    → ((n : ℕ) (type : VType) → slice_get values n ≡ Some type → IsKnown s.headers type)
    → AreArguments s.headers params values
args_fit s [] [] fit known = tt
args_fit s [] (value ∷ values) fit known = absurd fit
args_fit s (type ∷ params) [] fit known = absurd fit
args_fit s (type ∷ params) (value ∷ values) fit known = ((fit.0, known 0 value refl), args_fit s params values fit.1 (λ n. known (suc n)))

-- ---- the call

module _ (flat : FlatCode) (p : Standing) (k : ℕ) (placed : Placed) (frame : Frame) (g : Coded) (inner : Expansion)
    (known : (n : ℕ) (type : VType) → slice_get frame.stack n ≡ Some type → IsKnown (scope_of p).headers type) where
  abbrev s : RowScope
  s = row_scope (scope_of p)

  -- nothing becomes another
  pub plain_facts : (takes : List Need) (desc : List ℕ)
      → AllFit (row_scope (scope_of p)) takes (topmost (length takes) frame.stack)
      → row_frame frame (row_of (row_scope (scope_of p)) frame placed.at placed.instr)
      ≡ Some (record { locals = frame.locals; stack = under (length takes) frame.stack ++ result_types (result_of desc) })
      → length takes ≡ length (arguments g.scope 0)
      → own_descriptor g.scope ≡ desc
      → falls_through placed.instr ≡ true
      → CallFacts flat (scope_of p).headers p placed frame g
  plain_facts takes desc fit behind count same falls = record {
    enough = let enough = enough_there (row_scope (scope_of p)) takes frame.stack fit in omega (arith, enough, count);
    becomes = λ type. type;
    own = record { locals = frame.locals; stack = under (length takes) frame.stack ++ result_types (result_of desc) };
    own_is = behind;
    own_locals = sym (map_itself frame.locals);
    own_stack =
        ap (λ (n : ℕ). under n frame.stack ++ result_types (result_of desc)) count
        ∙ ap (λ (d : List ℕ). under (length (arguments g.scope 0)) frame.stack ++ result_types (result_of d)) (sym same)
        ∙ ap (λ (l : List VType). l ++ result_types (result_of (own_descriptor g.scope)))
        (sym (map_itself (under (length (arguments g.scope 0)) frame.stack)));
    through = λ from to is. placed_keeps flat p.setting is;
    keeps = λ type is. set_this flat p.setting type is;
    falls = falls;
  }

  pub known_top : (count n : ℕ) (type : VType) → slice_get (topmost count frame.stack) n ≡ Some type → IsKnown (scope_of p).headers type
  known_top count n type is =
      known (length frame.stack - count + n) type (sym (get_drop (length frame.stack - count) frame.stack n) ∙ is)

  -- ---- of a static method

  static_count : has g.scope.method.flags STATIC ≡ true → length (arguments g.scope 0) ≡ length (parameters_of (own_descriptor g.scope))
  static_count static = rw (static) (count_from 0 (parameters_of (own_descriptor g.scope)))

  pub object_count : has g.scope.method.flags STATIC ≡ false → length (arguments g.scope 0) ≡ suc (length (parameters_of (own_descriptor g.scope)))
  object_count static = rw (static) (ap suc (count_from (0 + 1) (parameters_of (own_descriptor g.scope))))

  module _ (index count : ℕ) (reference : Reference)
      (names : reference_of (scope_of p).class.pool (constant_at (scope_of p).class.pool index) ≡ Some reference)
      (same : own_descriptor g.scope ≡ reference.desc)
      (row : RowHolds (row_scope (scope_of p)) frame (row_of (row_scope (scope_of p)) frame placed.at placed.instr)) where
    needs_count : length (argument_needs reference.desc) ≡ length (parameters_of (own_descriptor g.scope))
    needs_count =
        length-map (parameters_of reference.desc) (λ param. assignable_to (verification_type param))
        ∙ ap (λ (d : List ℕ). length (parameters_of d)) (sym same)

    module _ (static : has g.scope.method.flags STATIC ≡ true) (is : placed.instr ≡ Invoke INVOKESTATIC index count) where
      static_fit : AllFit (row_scope (scope_of p)) (argument_needs reference.desc) (topmost (length (argument_needs reference.desc)) frame.stack)
      static_fit =
          (subst (λ (r : Option Reference). RowHolds (row_scope (scope_of p)) frame (call_row (row_scope (scope_of p)) frame INVOKESTATIC r)) names
          (subst (λ (i : Instr). RowHolds (row_scope (scope_of p)) frame (row_of (row_scope (scope_of p)) frame placed.at i)) is row)).operands

      pub static_facts : CallFacts flat (scope_of p).headers p placed frame g
      static_facts =
          plain_facts (argument_needs reference.desc) reference.desc static_fit (rw (is, names) refl) (needs_count ∙ sym (static_count static)) same
          (rw (is) refl)

      pub static_passes : PassedValues flat (scope_of p).headers p.setting (inner_setting p k placed frame g inner) g.scope
          (topmost (length (arguments g.scope 0)) frame.stack)
      static_passes =
          let many = needs_count ∙ sym (static_count static) in
          let fit = subst (λ (n : ℕ). AllFit (row_scope (scope_of p)) (argument_needs reference.desc) (topmost n frame.stack)) many static_fit in
          passed_static static
          (args_fit (row_scope (scope_of p)) (parameters_of (own_descriptor g.scope)) (topmost (length (arguments g.scope 0)) frame.stack)
          (subst (λ (d : List ℕ). AllFit (row_scope (scope_of p)) (argument_needs d) (topmost (length (arguments g.scope 0)) frame.stack)) (sym same) fit)
          (known_top (length (arguments g.scope 0))))

    -- ---- of a method of an object

    -- the object and the arguments
    object_passes : has g.scope.method.flags STATIC ≡ false
        → AllFit (row_scope (scope_of p)) (assignable_to (types.Object reference.class) ∷ argument_needs reference.desc)
        (topmost (suc (length (argument_needs reference.desc))) frame.stack)
        → ((object said : VType) → IsAssignable (scope_of p).headers object (types.Object reference.class)
        → IsKnown (scope_of p).headers object
        → IsAssignable (scope_of p).headers (this_of g.scope) said
        → IsAssignable (scope_of p).headers (placed_type flat p.setting object) (placed_type flat (inner_setting p k placed frame g inner) said))
        → PassedValues flat (scope_of p).headers p.setting (inner_setting p k placed frame g inner) g.scope
        (topmost (length (arguments g.scope 0)) frame.stack)
    object_passes static fit this_passes =
        let many = ap suc needs_count ∙ sym (object_count static) in
        by (topmost (length (arguments g.scope 0)) frame.stack) refl
        (subst (λ (n : ℕ). AllFit (row_scope (scope_of p)) (assignable_to (types.Object reference.class) ∷ argument_needs reference.desc)
        (topmost n frame.stack)) many fit)
        (known_top (length (arguments g.scope 0)))
      where
        by : (values : List VType) → topmost (length (arguments g.scope 0)) frame.stack ≡ values
            → AllFit (row_scope (scope_of p)) (assignable_to (types.Object reference.class) ∷ argument_needs reference.desc) values
            → ((n : ℕ) (type : VType) → slice_get values n ≡ Some type → IsKnown (scope_of p).headers type)
            → PassedValues flat (scope_of p).headers p.setting (inner_setting p k placed frame g inner) g.scope values
        by [] are fit known_each = absurd fit
        by (object ∷ values) are fit known_each =
            let below = named_below p.setting reference.class fit.0 refl in
            passed_object static below.reference below.other (λ said is. this_passes object said fit.0 (known_each 0 object refl) is)
            (args_fit (row_scope (scope_of p)) (parameters_of (own_descriptor g.scope)) values
            (subst (λ (d : List ℕ). AllFit (row_scope (scope_of p)) (argument_needs d) values) (sym same) fit.1) (λ n. known_each (suc n)))

    module _ (static : has g.scope.method.flags STATIC ≡ false)
        (this_passes : (object said : VType) → IsAssignable (scope_of p).headers object (types.Object reference.class)
        → IsKnown (scope_of p).headers object
        → IsAssignable (scope_of p).headers (this_of g.scope) said
        → IsAssignable (scope_of p).headers (placed_type flat p.setting object) (placed_type flat (inner_setting p k placed frame g inner) said)) where
      -- a virtual call
      module _ (is : placed.instr ≡ Invoke INVOKEVIRTUAL index count) where
        virtual_fit : AllFit (row_scope (scope_of p)) (assignable_to (types.Object reference.class) ∷ argument_needs reference.desc)
            (topmost (suc (length (argument_needs reference.desc))) frame.stack)
        virtual_fit =
            (subst (λ (r : Option Reference). RowHolds (row_scope (scope_of p)) frame (call_row (row_scope (scope_of p)) frame INVOKEVIRTUAL r)) names
            (subst (λ (i : Instr). RowHolds (row_scope (scope_of p)) frame (row_of (row_scope (scope_of p)) frame placed.at i)) is row)).operands

        pub virtual_facts : CallFacts flat (scope_of p).headers p placed frame g
        virtual_facts =
            plain_facts (assignable_to (types.Object reference.class) ∷ argument_needs reference.desc) reference.desc virtual_fit
            (rw (is, names) refl) (ap suc needs_count ∙ sym (object_count static)) same (rw (is) refl)

        pub virtual_passes : PassedValues flat (scope_of p).headers p.setting (inner_setting p k placed frame g inner) g.scope
            (topmost (length (arguments g.scope 0)) frame.stack)
        virtual_passes = object_passes static virtual_fit this_passes

      -- a special call that names no initialiser
      module _ (is : placed.instr ≡ Invoke INVOKESPECIAL index count) (other : bytes_eq reference.name init ≡ false) where
        special_fit : AllFit (row_scope (scope_of p)) (assignable_to (types.Object reference.class) ∷ argument_needs reference.desc)
            (topmost (suc (length (argument_needs reference.desc))) frame.stack)
        special_fit =
            (subst (λ (b : Bool). RowHolds (row_scope (scope_of p)) frame
            (either b (init_row (row_scope (scope_of p)) frame reference) (special_row (row_scope (scope_of p)) frame reference))) other
            (subst (λ (r : Option Reference). RowHolds (row_scope (scope_of p)) frame (call_row (row_scope (scope_of p)) frame INVOKESPECIAL r)) names
            (subst (λ (i : Instr). RowHolds (row_scope (scope_of p)) frame (row_of (row_scope (scope_of p)) frame placed.at i)) is row))).operands

        pub special_facts : CallFacts flat (scope_of p).headers p placed frame g
        special_facts =
            plain_facts (assignable_to (types.Object reference.class) ∷ argument_needs reference.desc) reference.desc special_fit
            (rw (is, names, other) refl) (ap suc needs_count ∙ sym (object_count static)) same (rw (is) refl)

        pub special_passes : PassedValues flat (scope_of p).headers p.setting (inner_setting p k placed frame g inner) g.scope
            (topmost (length (arguments g.scope 0)) frame.stack)
        special_passes = object_passes static special_fit this_passes
