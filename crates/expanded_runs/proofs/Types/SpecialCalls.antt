-- What the row of a special call that is replaced says, where it names no initialiser: as that of another call on an object, and that the object
-- is assignable to the caller's own class.
use Rattle.std.proofs.Common.{◌≡◌, ◌+◌, ℕ, suc, Bool, false, List, [], ◌∷◌, bytes_eq, length, slice_get, Option, Some, refl, sym, ap, subst, ◌∙◌, arith}
use Rattle.std.proofs.lemmas.List.{length-map}
use Rattle.class_model.specs.Code.{verification_type}
use Rattle.class_model.specs.Descriptors.{parameters_of}
use Rattle.class_model.specs.Members.{STATIC, has}
use Rattle.class_model.specs.Names.{init}
use Rattle.class_model.specs.Pool.{constant_at}
use Rattle.class_model.specs.declared.frame.Frame.{Frame}
use Rattle.class_model.specs.declared.frame.VType.{VType}
use Rattle.class_model.specs.declared.frame.VType.TheVariants as types
use Rattle.class_model.specs.declared.instr.Instr.{Instr}
use Rattle.class_model.specs.declared.instr.Instr.TheVariants.{Invoke}
use Rattle.class_model.specs.declared.instr.Placed.{Placed}
use Rattle.class_model.specs.declared.opcodes.TheConstants.{INVOKESPECIAL}
use Rattle.expanded_code.specs.Callees.{own_name}
use Rattle.expanded_code.specs.Expanded.{arguments}
use Rattle.expanded_code.specs.Expansions.{Coded, Expansion}
use Rattle.expanded_runs.proofs.Runs.Positions.{Standing, inner_setting, scope_of}
use Rattle.expanded_runs.proofs.Types.CallFacts.{CallFacts}
use Rattle.expanded_runs.proofs.Types.Edges.{placed_type}
use Rattle.expanded_runs.proofs.Types.EntryFrames.{PassedValues, passed_object, this_of}
use Rattle.expanded_runs.proofs.Types.EntryTypes.{named_below}
use Rattle.expanded_runs.proofs.Types.PlainCalls.{args_fit, known_top, object_count, plain_facts}
use Rattle.expanded_runs.proofs.Types.ThroughClass.{IsKnown}
use Rattle.flow_code.specs.FlatCode.{FlatCode}
use Rattle.member_link.specs.Assignability.{IsAssignable}
use Rattle.member_link.specs.BodyTyping.{RowHolds}
use Rattle.member_link.specs.References.{Reference}
use Rattle.member_link.specs.Rows.MemberRows.{IsSpecialTarget, argument_needs, call_row, init_row, receiver, special_row}
use Rattle.member_link.specs.Rows.Operands.{AllFit, assignable_to, topmost}
use Rattle.member_link.specs.Rows.Row.{either}
use Rattle.member_link.specs.Rows.Table.{row_of}
use Rattle.member_link.specs.Scope.{own_descriptor, row_scope}
use Rattle.member_link.specs.Signatures.{reference_of}

module _ (flat : FlatCode) (p : Standing) (k : ℕ) (placed : Placed) (frame : Frame) (g : Coded) (inner : Expansion)
    (known : (n : ℕ) (type : VType) → slice_get frame.stack n ≡ Some type → IsKnown (scope_of p).headers type)
    (index count : ℕ) (reference : Reference)
    (names : reference_of (scope_of p).class.pool (constant_at (scope_of p).class.pool index) ≡ Some reference)
    (row : RowHolds (row_scope (scope_of p)) frame (row_of (row_scope (scope_of p)) frame placed.at placed.instr))
    (is : placed.instr ≡ Invoke INVOKESPECIAL index count) (other : bytes_eq reference.name init ≡ false) where
  pub holds : RowHolds (row_scope (scope_of p)) frame (special_row (row_scope (scope_of p)) frame reference)
  holds =
      subst (λ (b : Bool). RowHolds (row_scope (scope_of p)) frame
      (either b (init_row (row_scope (scope_of p)) frame reference) (special_row (row_scope (scope_of p)) frame reference))) other
      (subst (λ (r : Option Reference). RowHolds (row_scope (scope_of p)) frame (call_row (row_scope (scope_of p)) frame INVOKESPECIAL r)) names
      (subst (λ (i : Instr). RowHolds (row_scope (scope_of p)) frame (row_of (row_scope (scope_of p)) frame placed.at i)) is row))

  -- the class that is named, and the object
  pub special_target : IsSpecialTarget (row_scope (scope_of p)) reference.class
  special_target = holds.further.0

  pub special_own : IsAssignable (scope_of p).headers (receiver frame reference.desc) (types.Object (own_name (scope_of p)))
  special_own = holds.further.1

  module _ (same : own_descriptor g.scope ≡ reference.desc) (static : has g.scope.method.flags STATIC ≡ false) where
    fit : AllFit (row_scope (scope_of p)) (assignable_to (types.Object reference.class) ∷ argument_needs reference.desc)
        (topmost (suc (length (argument_needs reference.desc))) frame.stack)
    fit = holds.operands

    many : suc (length (argument_needs reference.desc)) ≡ length (arguments g.scope 0)
    many =
        ap suc (length-map (parameters_of reference.desc) (λ param. assignable_to (verification_type param))
        ∙ ap (λ (d : List ℕ). length (parameters_of d)) (sym same))
        ∙ sym (object_count flat p k placed frame g inner known static)

    pub special_leaves : CallFacts flat (scope_of p).headers p placed frame g
    special_leaves =
        plain_facts flat p k placed frame g inner known (assignable_to (types.Object reference.class) ∷ argument_needs reference.desc) reference.desc
        fit (rw (is, names, other) refl) many same (rw (is) refl)

    first_is : (values : List VType) (first : VType) → topmost (length (arguments g.scope 0)) frame.stack ≡ first ∷ values
        → receiver frame reference.desc ≡ first
    first_is values first are =
        let count : length (parameters_of reference.desc) + 1 ≡ length (arguments g.scope 0) =
        omega (arith, many, length-map (parameters_of reference.desc) (λ param. assignable_to (verification_type param))) in
        let top : topmost (length (parameters_of reference.desc) + 1) frame.stack ≡ first ∷ values =
        ap (λ (n : ℕ). topmost n frame.stack) count ∙ are in
        rw (top) refl

    module _ (object_passes : (said : VType) → IsAssignable (scope_of p).headers (this_of g.scope) said
        → IsAssignable (scope_of p).headers (placed_type flat p.setting (receiver frame reference.desc))
        (placed_type flat (inner_setting p k placed frame g inner) said)) where
      pub special_passed : PassedValues flat (scope_of p).headers p.setting (inner_setting p k placed frame g inner) g.scope
          (topmost (length (arguments g.scope 0)) frame.stack)
      special_passed =
          by (topmost (length (arguments g.scope 0)) frame.stack) refl
          (subst (λ (n : ℕ). AllFit (row_scope (scope_of p)) (assignable_to (types.Object reference.class) ∷ argument_needs reference.desc)
          (topmost n frame.stack)) many fit)
          (known_top flat p k placed frame g inner known (length (arguments g.scope 0)))
        where
          by : (values : List VType) → topmost (length (arguments g.scope 0)) frame.stack ≡ values
              → AllFit (row_scope (scope_of p)) (assignable_to (types.Object reference.class) ∷ argument_needs reference.desc) values
              → ((n : ℕ) (type : VType) → slice_get values n ≡ Some type → IsKnown (scope_of p).headers type)
              → PassedValues flat (scope_of p).headers p.setting (inner_setting p k placed frame g inner) g.scope values
          by [] are fit known_each = absurd fit
          by (object ∷ values) are fit known_each =
              let below = named_below p.setting reference.class fit.0 refl in
              passed_object static below.reference below.other
              (λ said is_said. subst (λ (type : VType). IsAssignable (scope_of p).headers (placed_type flat p.setting type)
              (placed_type flat (inner_setting p k placed frame g inner) said)) (first_is values object are) (object_passes said is_said))
              (args_fit (row_scope (scope_of p)) (parameters_of (own_descriptor g.scope)) values
              (subst (λ (d : List ℕ). AllFit (row_scope (scope_of p)) (argument_needs d) values) (sym same) fit.1) (λ n. known_each (suc n)))
