-- The row of a call that the receiver's class decides.
use Rattle.std.proofs.Common.{◌≡◌, ◌≢◌, ℕ, Bool, Option, Some, Result, subst, sym}
use Rattle.std.specs.Prelude.{◌==◌, bytes_eq}
use Rattle.std.proofs.lemmas.Bool.{ne_eqb}
use Rattle.class_model.specs.Names.{init}
use Rattle.class_model.specs.declared.frame.Frame.{Frame}
use Rattle.class_model.specs.declared.opcodes.TheConstants.{INVOKESPECIAL, INVOKESTATIC}
use Rattle.member_link.specs.References.{Reference}
use Rattle.member_link.specs.RowScope.{RowScope}
use Rattle.member_link.specs.Rows.MemberRows.{PassesMethod, call_row, init_row, instance_row, receiver, special_row, static_row}
use Rattle.member_link.specs.Rows.Row.{Row, either}
use Rattle.type_rules.specs.Rule.{RowRules}
use Rattle.type_rules.specs.declared.fault.RuleFault.{RuleFault}
use Rattle.type_rules.specs.declared.ruled.Ruled.{Ruled}

pub chosen_by_receiver : (s : RowScope) (f : Frame) (opcode : ℕ) (reference : Reference) (found : Option Reference) (result : Result Ruled RuleFault) → Some reference ≡ found → opcode ≢ 184 → opcode ≢ 183
    → RowRules s f (instance_row f reference (Unit {0}) (PassesMethod s reference (receiver f reference.desc))) result → RowRules s f (call_row s f opcode found) result
chosen_by_receiver s f opcode reference found result is no_static no_special rules =
    let virtual : Row = instance_row f reference (Unit {0}) (PassesMethod s reference (receiver f reference.desc)) in
    let special : Row = either (bytes_eq reference.name init) (init_row s f reference) (special_row s f reference) in
    subst (λ (o : Option Reference). RowRules s f (call_row s f opcode o) result) is
    (subst (λ (b : Bool). RowRules s f (either b (static_row f reference) (either (opcode == INVOKESPECIAL) special virtual)) result) (sym (ne_eqb opcode INVOKESTATIC no_static))
    (subst (λ (b : Bool). RowRules s f (either b special virtual) result) (sym (ne_eqb opcode INVOKESPECIAL no_special)) rules))
