-- What the row of a call of an initialiser that is replaced says: the object becomes an initialised one, where it is read as one before.
use Rattle.flow_code.specs.ReadTypes.{read_type}
use Rattle.std.proofs.Common.{◌≡◌, ◌≢◌, ◌⊎◌, ◌==◌, ◌+◌, ◌≤◌, ℕ, suc, Bool, true, false, List, [], ◌∷◌, ◌++◌, length, map, slice_get, Option, Some, refl, sym, ap, subst, ◌∙◌, arith, inl, inr}
use Rattle.std.specs.Prelude.{bytes_eq}
use Rattle.std.proofs.lemmas.Bool.{eqb-true}
use Rattle.std.proofs.lemmas.List.{length-map}
use Rattle.class_model.specs.Code.{verification_type}
use Rattle.class_model.specs.Descriptors.{parameters_of}
use Rattle.class_model.specs.Members.{STATIC, has}
use Rattle.class_model.specs.Names.{init}
use Rattle.class_model.specs.Pool.{constant_at}
use Rattle.class_model.specs.declared.descriptor.Kind.TheVariants as kinds
use Rattle.class_model.specs.declared.frame.Frame.{Frame}
use Rattle.class_model.specs.declared.frame.VType.{VType}
use Rattle.class_model.specs.declared.frame.VType.TheVariants as types
use Rattle.class_model.specs.declared.instr.Instr.{Instr}
use Rattle.class_model.specs.declared.instr.Instr.TheVariants.{Invoke}
use Rattle.class_model.specs.declared.instr.Placed.{Placed}
use Rattle.class_model.specs.declared.opcodes.TheConstants.{INVOKESPECIAL}
use Rattle.class_tree.specs.Headers.{Headers}
use Rattle.expanded_code.specs.Expanded.{Setting, arguments, set_frame, set_type}
use Rattle.expanded_code.specs.Expansions.{Coded, Expansion}
use Rattle.expanded_runs.proofs.Runs.PositionLaws.{length_arguments}
use Rattle.expanded_runs.proofs.Runs.Positions.{Standing, block_of, inner_setting, scope_of}
use Rattle.expanded_runs.proofs.Types.CallFacts.{CallFacts}
use Rattle.expanded_runs.proofs.Types.Edges.{placed_keeps, placed_type, set_this}
use Rattle.expanded_runs.proofs.Types.Entries.{topmost_set}
use Rattle.expanded_runs.proofs.Types.EntryFrames.{PassedValues, passed_object, this_of}
use Rattle.expanded_runs.proofs.Types.PlainCalls.{args_fit, enough_there, known_top, object_count}
use Rattle.expanded_runs.proofs.Types.ThroughClass.{IsKnown}
use Rattle.flow_code.specs.FlatCode.{FlatCode}
use Rattle.member_link.specs.Assignability.{IsAssignable, from_null, of_names, to_same, to_top}
use Rattle.member_link.specs.BodyTyping.{RowHolds}
use Rattle.member_link.specs.References.{Reference}
use Rattle.member_link.specs.RowScope.{RowScope}
use Rattle.member_link.specs.Rows.MemberRows.{argument_needs, call_row, init_row, initialised_type, receiver, result_types, special_row}
use Rattle.member_link.specs.Rows.Operands.{AllFit, IsOfKind, assignable_to, topmost, under, uninitialised}
use Rattle.member_link.specs.Rows.Row.{either}
use Rattle.member_link.specs.Rows.Table.{row_of}
use Rattle.member_link.specs.Scope.{own_descriptor, row_scope}
use Rattle.member_link.specs.Signatures.{reference_of, result_of}

-- only the object becomes another type
one_becomes : (s : RowScope) (reference : Reference) (object from : VType) → (initialised_type s reference object from ≡ from) ⊎ (from ≡ object)
one_becomes s reference (types.Uninit at) (types.Uninit other) = by (other == at) refl where
  by : (same : Bool) → (other == at) ≡ same
      → (initialised_type s reference (types.Uninit at) (types.Uninit other) ≡ types.Uninit other) ⊎ (types.Uninit other ≡ types.Uninit at)
  by true is = inr (ap types.Uninit (eqb-true other at is))
  by false is = inl (rw (is) refl)
one_becomes s reference (types.Uninit at) from = inl refl
one_becomes s reference types.UninitThis types.UninitThis = inr refl
one_becomes s reference types.UninitThis from = inl refl
one_becomes s reference object from = inl refl

-- an uninitialised this is taken for itself alone
this_alone : (flat : FlatCode) (q : Setting) {headers : Headers} {from said : VType} → IsAssignable headers from said → from ≡ types.UninitThis
    → (said ≡ types.UninitThis) ⊎ (said ≡ types.Top)
this_alone flat q (to_same type) is = inl is
this_alone flat q (to_top type) is = inr refl
this_alone flat q (from_null name) is = absurd cc
this_alone flat q (of_names low high names) is = absurd cc

module _ (flat : FlatCode) (p : Standing) (k : ℕ) (placed : Placed) (frame : Frame) (g : Coded) (inner : Expansion)
    (known : (n : ℕ) (type : VType) → slice_get frame.stack n ≡ Some type → IsKnown (scope_of p).headers type)
    (index count : ℕ) (reference : Reference)
    (names : reference_of (scope_of p).class.pool (constant_at (scope_of p).class.pool index) ≡ Some reference)
    (same : own_descriptor g.scope ≡ reference.desc)
    (row : RowHolds (row_scope (scope_of p)) frame (row_of (row_scope (scope_of p)) frame placed.at placed.instr))
    (static : has g.scope.method.flags STATIC ≡ false)
    (is : placed.instr ≡ Invoke INVOKESPECIAL index count) (of_init : bytes_eq reference.name init ≡ true)
    -- the object, in its place, is read as one that is initialised
    (object_through : (to : VType)
    → IsAssignable (scope_of p).headers
    (initialised_type (row_scope (scope_of p)) reference (receiver frame reference.desc) (receiver frame reference.desc)) to
    → IsAssignable (scope_of p).headers (placed_type flat p.setting (receiver frame reference.desc)) (placed_type flat p.setting to))
    (object_other : set_type p.setting (receiver frame reference.desc) ≢ types.UninitThis) where
  abbrev s : RowScope
  s = row_scope (scope_of p)

  abbrev object : VType
  object = receiver frame reference.desc

  abbrev become : VType → VType
  become type = initialised_type (row_scope (scope_of p)) reference (receiver frame reference.desc) type

  init_fit : AllFit (row_scope (scope_of p)) (uninitialised ∷ argument_needs reference.desc)
      (topmost (suc (length (argument_needs reference.desc))) frame.stack)
  init_fit =
      (subst (λ (b : Bool). RowHolds (row_scope (scope_of p)) frame
      (either b (init_row (row_scope (scope_of p)) frame reference) (special_row (row_scope (scope_of p)) frame reference))) of_init
      (subst (λ (r : Option Reference). RowHolds (row_scope (scope_of p)) frame (call_row (row_scope (scope_of p)) frame INVOKESPECIAL r)) names
      (subst (λ (i : Instr). RowHolds (row_scope (scope_of p)) frame (row_of (row_scope (scope_of p)) frame placed.at i)) is row))).operands

  many : suc (length (argument_needs reference.desc)) ≡ length (arguments g.scope 0)
  many =
      ap suc (length-map (parameters_of reference.desc) (λ param. assignable_to (verification_type param))
      ∙ ap (λ (d : List ℕ). length (parameters_of d)) (sym same))
      ∙ sym (object_count flat p k placed frame g inner known static)

  pub init_facts : CallFacts flat (scope_of p).headers p placed frame g
  init_facts = record {
    enough =
        let enough = enough_there (row_scope (scope_of p)) (uninitialised ∷ argument_needs reference.desc) frame.stack init_fit in
        omega (arith, enough, many);
    becomes = become;
    own = record {
      locals = map become frame.locals;
      stack = map become (under (suc (length (argument_needs reference.desc))) frame.stack) ++ result_types (result_of reference.desc);
    };
    own_is = rw (is, names, of_init) refl;
    own_locals = refl;
    own_stack =
        ap (λ (n : ℕ). map become (under n frame.stack) ++ result_types (result_of reference.desc)) many
        ∙ ap (λ (d : List ℕ). map become (under (length (arguments g.scope 0)) frame.stack) ++ result_types (result_of d)) (sym same);
    through = λ from to assignable. elim (one_becomes (row_scope (scope_of p)) reference (receiver frame reference.desc) from) [
      | inl stays ↦
          placed_keeps flat p.setting (subst (λ (type : VType). IsAssignable (scope_of p).headers type to) stays assignable)
      | inr the_object ↦
          subst (λ (type : VType). IsAssignable (scope_of p).headers (placed_type flat p.setting type) (placed_type flat p.setting to)) (sym the_object)
          (object_through to (subst (λ (type : VType). IsAssignable (scope_of p).headers (become type) to) the_object assignable))
    ];
    keeps = λ type set. elim (one_becomes (row_scope (scope_of p)) reference (receiver frame reference.desc) type) [
      | inl stays ↦ stays ∙ set_this flat p.setting type set
      | inr the_object ↦ absurd (object_other (ap (set_type p.setting) (sym the_object) ∙ set))
    ];
    falls = rw (is) refl;
  }

  -- ---- what is passed

  first_is : (values : List VType) (first : VType) → topmost (length (arguments g.scope 0)) frame.stack ≡ first ∷ values
      → receiver frame reference.desc ≡ first
  first_is values first are =
      let count : length (parameters_of reference.desc) + 1 ≡ length (arguments g.scope 0) =
      omega (arith, many, length-map (parameters_of reference.desc) (λ param. assignable_to (verification_type param))) in
      let top : topmost (length (parameters_of reference.desc) + 1) frame.stack ≡ first ∷ values =
      ap (λ (n : ℕ). topmost n frame.stack) count ∙ are in
      rw (top) refl

  own_this : (values : List VType) (first : VType) → topmost (length (arguments g.scope 0)) frame.stack ≡ first ∷ values
      → (inner_setting p k placed frame g inner).this ≡ set_type p.setting first
  own_this values first are =
      let t = p.setting in
      let enough : length (arguments g.scope 0) ≤ length frame.stack =
      let there = enough_there (row_scope (scope_of p)) (uninitialised ∷ argument_needs reference.desc) frame.stack init_fit in
      omega (arith, there, many) in
      let tops : topmost (length (arguments g.scope (block_of p k))) (set_frame t frame).stack ≡ set_type t first ∷ map (set_type t) values =
      ap (λ (n : ℕ). topmost n (set_frame t frame).stack) (length_arguments g.scope (block_of p k))
      ∙ topmost_set t (length (arguments g.scope 0)) t.below.stack frame.stack enough
      ∙ ap (map (set_type t)) are in
      rw (tops) refl

  pub init_passes : IsOfKind kinds.Ref (set_type p.setting (receiver frame reference.desc)) → this_of g.scope ≡ types.UninitThis
      → PassedValues flat (scope_of p).headers p.setting (inner_setting p k placed frame g inner) g.scope
      (topmost (length (arguments g.scope 0)) frame.stack)
  init_passes kind begins =
      by (topmost (length (arguments g.scope 0)) frame.stack) refl
      (subst (λ (n : ℕ). AllFit (row_scope (scope_of p)) (uninitialised ∷ argument_needs reference.desc) (topmost n frame.stack)) many init_fit)
      (known_top flat p k placed frame g inner known (length (arguments g.scope 0)))
    where
      by : (values : List VType) → topmost (length (arguments g.scope 0)) frame.stack ≡ values
          → AllFit (row_scope (scope_of p)) (uninitialised ∷ argument_needs reference.desc) values
          → ((n : ℕ) (type : VType) → slice_get values n ≡ Some type → IsKnown (scope_of p).headers type)
          → PassedValues flat (scope_of p).headers p.setting (inner_setting p k placed frame g inner) g.scope values
      by [] are fit known_each = absurd fit
      by (first ∷ values) are fit known_each =
          let one = first_is values first are in
          passed_object {object = first} {values = values} static (subst (λ (type : VType). IsOfKind kinds.Ref (set_type p.setting type)) one kind)
          (λ set. object_other (ap (set_type p.setting) one ∙ set))
          (λ said is_said. elim (this_alone flat (inner_setting p k placed frame g inner) is_said begins) [
            | inl this ↦
                let read : placed_type flat (inner_setting p k placed frame g inner) said ≡ placed_type flat p.setting first =
                ap (placed_type flat (inner_setting p k placed frame g inner)) this ∙ ap (read_type flat) (own_this values first are) in
                subst (IsAssignable (scope_of p).headers (placed_type flat p.setting first)) (sym read) (to_same (placed_type flat p.setting first))
            | inr top ↦
                subst (λ (type : VType). IsAssignable (scope_of p).headers (placed_type flat p.setting first)
                (placed_type flat (inner_setting p k placed frame g inner) type)) (sym top) (to_top (placed_type flat p.setting first))
          ])
          (args_fit (row_scope (scope_of p)) (parameters_of (own_descriptor g.scope)) values
          (subst (λ (d : List ℕ). AllFit (row_scope (scope_of p)) (argument_needs d) values) (sym same) fit.1) (λ n. known_each (suc n)))
