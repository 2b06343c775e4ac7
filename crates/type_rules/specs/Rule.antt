-- What an instruction does to a frame (JVM Specification SE 8, 4.10.1.4): the frame behind it and the one that handlers
-- see, or the first rule that fails.
use Rattle.std.specs.Prelude.{◌≡◌, ◌⊎◌, ◌≤◌, ℕ, List, [], ◌∷◌, length, Result, Ok, Err}
use Rattle.class_model.specs.Checks.{Check, AllHold, IsFirstFault}
use Rattle.class_model.specs.Code.{OperandFits}
use Rattle.class_model.specs.Frames.{depth}
use Rattle.class_model.specs.Pool.{Constants, constant_at}
use Rattle.class_model.specs.PoolChecks.{IsClassAt, IsInterfaceConstant, IsMethodConstant}
use Rattle.class_model.specs.declared.frame.Frame.{Frame}
use Rattle.class_model.specs.declared.instr.Instr.{Instr}
use Rattle.class_model.specs.declared.instr.Instr.TheVariants.{Load, Store, Iinc, Invoke, NewMulti}
use Rattle.class_model.specs.declared.instr.Placed.{Placed}
use Rattle.class_model.specs.declared.opcodes.TheConstants.{INVOKEINTERFACE, INVOKESPECIAL, INVOKESTATIC, INVOKEVIRTUAL}
use Rattle.member_link.specs.RowScope.{RowScope}
use Rattle.member_link.specs.Rows.Operands.{AllFit, topmost}
use Rattle.member_link.specs.Rows.Row.{Row, row_frame, stack_behind}
use Rattle.member_link.specs.Rows.Table.{row_of}
use Rattle.member_link.specs.Scope.{Scope, row_scope}
use Rattle.type_rules.specs.declared.fault.RuleFault.{RuleFault}
use Rattle.type_rules.specs.declared.fault.RuleFault.TheVariants as faults
use Rattle.type_rules.specs.declared.fault.TypeRule.{TypeRule}
use Rattle.type_rules.specs.declared.fault.TypeRule.TheVariants as rules
use Rattle.type_rules.specs.declared.ruled.Ruled.{Ruled}

-- ---- what is asked

abbrev pub check : TypeRule → Type 0 → Check TypeRule
check rule holds = record { fault = rule; holds = holds }

-- ---- a row, behind a frame

abbrev pub row_checks : RowScope → Frame → Row → List (Check TypeRule)
row_checks s f row =
    check rules.Stack (AllFit s row.takes (topmost (length row.takes) f.stack))
    ∷ check rules.Local row.local
    ∷ check rules.Depth (depth (stack_behind f row) ≤ s.max_stack)
    ∷ check rules.Kind (row.further × row.access)
    ∷ []

-- the frame behind the instruction, if control goes on, and the one that handlers see
abbrev pub ruled : Frame → Row → Ruled
ruled f row = record {
  next = row_frame f row;
  thrown = record { locals = f.locals; stack = [] };
}

-- what asking a row answers
abbrev pub RowRules : RowScope → Frame → Row → Result Ruled RuleFault → Type 0
RowRules s f row (Ok result) = AllHold (row_checks s f row) × (result ≡ ruled f row)
RowRules s f row (Err (faults.Fails rule)) = IsFirstFault (row_checks s f row) rule
RowRules s f row (Err faults.NoMemory) = Unit {0}

-- ---- an instruction

-- what the rule of an instruction answers
abbrev pub Rules : Scope → Placed → Frame → Result Ruled RuleFault → Type 0
Rules s placed f result =
    RowRules (row_scope s) f (row_of (row_scope s) f placed.at placed.instr) result

-- invokevirtual names a method, invokeinterface an interface's, and the other two either in version 52
abbrev pub NamesMethod : Constants → ℕ → ℕ → ℕ → Type 0
NamesMethod pool major opcode method =
    ((opcode ≡ INVOKEVIRTUAL) × IsMethodConstant (constant_at pool method))
    ⊎ (((opcode ≡ INVOKEINTERFACE) × IsInterfaceConstant (constant_at pool method))
    ⊎ (((opcode ≡ INVOKESPECIAL) ⊎ (opcode ≡ INVOKESTATIC)) × (IsMethodConstant (constant_at pool method) ⊎ ((major ≡ 52) × IsInterfaceConstant (constant_at pool method)))))

-- the constants that an instruction names are of the kinds that it may name, and an array that anewarray makes is one
abbrev pub FitsPool : Scope → Instr → Type 0
FitsPool s (Invoke opcode method count) = NamesMethod s.class.pool s.class.major opcode method
FitsPool s (NewMulti index dimensions) = IsClassAt s.class.pool index
FitsPool s (Load kind local) = Unit {0}
FitsPool s (Store kind local) = Unit {0}
FitsPool s (Iinc local by) = Unit {0}
FitsPool s instr = OperandFits s.class.pool s.class.major 0 instr
