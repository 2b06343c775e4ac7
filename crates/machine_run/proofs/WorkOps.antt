-- The operations that work on their operands.
use Rattle.std.proofs.Common.{◌≡◌, ℕ, ℤ, List, Option, Some, None, arith, refl}
use Rattle.std.specs.Global.{Box}
use Rattle.class_model.specs.declared.descriptor.FieldType.{FieldType}
use Rattle.class_model.specs.declared.descriptor.Kind.{Kind}
use Rattle.class_tree.specs.Headers.{Name}
use Rattle.machine_values.specs.Frames.{MethodState}
use Rattle.machine_values.specs.declared.frame.RunFrame.{RunFrame}
use Rattle.member_link.specs.Machine.Programs.{Program}
use Rattle.member_link.specs.Machine.Stepping.{op_step, work_step}
use Rattle.member_link.specs.Machine.Worlds.{World}
use Rattle.member_link.specs.RunOps.{op_of, special_op}
use Rattle.member_link.specs.declared.run_op.CallOp.{CallOp}
use Rattle.member_link.specs.declared.run_op.LookupOp.{LookupOp}
use Rattle.member_link.specs.declared.run_op.RunOp.{RunOp}
use Rattle.member_link.specs.declared.run_op.RunOp.TheVariants as run
use Rattle.member_link.specs.declared.run_op.TableOp.{TableOp}

-- no operation of the frame alone
pub record WorksOnOperands (op : RunOp) : Type 0 where
  pub not_nop : op ≡ run.Nop → ⊥
  pub not_meaningless : op ≡ run.Meaningless → ⊥
  pub not_load : (kind : Kind) (at : ℕ) → op ≡ run.Load kind at → ⊥
  pub not_store : (kind : Kind) (at : ℕ) → op ≡ run.Store kind at → ⊥
  pub not_increment : (at : ℕ) (by : ℤ) → op ≡ run.Increment at by → ⊥
  pub not_shuffle : (opcode : ℕ) → op ≡ run.Shuffle opcode → ⊥
  pub not_jump_int : (opcode to : ℕ) → op ≡ run.JumpInt opcode to → ⊥
  pub not_jump_ints : (opcode to : ℕ) → op ≡ run.JumpInts opcode to → ⊥
  pub not_jump_references : (opcode to : ℕ) → op ≡ run.JumpReferences opcode to → ⊥
  pub not_jump_null : (opcode to : ℕ) → op ≡ run.JumpNull opcode to → ⊥
  pub not_jump : (to : ℕ) → op ≡ run.Jump to → ⊥
  pub not_table : (table : Box TableOp) → op ≡ run.Table table → ⊥
  pub not_lookup : (lookup : Box LookupOp) → op ≡ run.Lookup lookup → ⊥
  pub not_return : op ≡ run.ReturnNothing → ⊥
  pub not_return_value : (type : FieldType) → op ≡ run.ReturnValue type → ⊥

module _ (P : Program) (w : World) (f : MethodState) (rest : List RunFrame) where
  special_works :
      (op : CallOp) (from : Option Name)
      → op_step P w f rest (special_op op from) ≡ work_step P w f rest (special_op op from)
  special_works op None = grind arith
  special_works op (Some from) = refl

  pub step_works :
      (op : RunOp) → WorksOnOperands op
      → op_step P w f rest (op_of op) ≡ work_step P w f rest (op_of op)
  step_works run.Nop works = absurd (works.not_nop refl)
  step_works run.Meaningless works = absurd (works.not_meaningless refl)
  step_works (run.Load kind at) works = absurd (works.not_load kind at refl)
  step_works (run.Store kind at) works = absurd (works.not_store kind at refl)
  step_works (run.Increment at by) works = absurd (works.not_increment at by refl)
  step_works (run.Shuffle opcode) works = absurd (works.not_shuffle opcode refl)
  step_works (run.JumpInt opcode to) works = absurd (works.not_jump_int opcode to refl)
  step_works (run.JumpInts opcode to) works = absurd (works.not_jump_ints opcode to refl)
  step_works (run.JumpReferences opcode to) works = absurd (works.not_jump_references opcode to refl)
  step_works (run.JumpNull opcode to) works = absurd (works.not_jump_null opcode to refl)
  step_works (run.Jump to) works = absurd (works.not_jump to refl)
  step_works (run.Table op) works = absurd (works.not_table op refl)
  step_works (run.Lookup op) works = absurd (works.not_lookup op refl)
  step_works run.ReturnNothing works = absurd (works.not_return refl)
  step_works (run.ReturnValue type) works = absurd (works.not_return_value type refl)
  step_works (run.CallSpecial op) works = special_works op.value op.value.from
  step_works op works = refl
