-- The operands of instructions fit a pool that has grown.
use Rattle.std.proofs.Common.{◌≡◌, ◌++◌, ℕ, List, Option, Some, None, IfSome, refl, sym, subst, inl, inr}
use Rattle.std.specs.Prelude.{IsSome, option_and_then}
use Rattle.class_model.specs.Checks.{AllHold}
use Rattle.class_model.specs.Code.{CountsArguments, FitsArray, HasDimensions, IsCalled, IsDynamicConstant, IsLoadable, IsLoadable2, OperandFits, member_index, units_behind}
use Rattle.class_model.specs.Pool.{Constants, constant_at}
use Rattle.class_model.specs.PoolChecks.{IsClassAt, IsFieldConstant, IsInterfaceConstant, IsMethodConstant, class_at, class_name_of, entries_checks}
use Rattle.class_model.specs.declared.instr.Instr.{Instr}
use Rattle.class_model.specs.declared.instr.Instr.TheVariants.{Ldc, Ldc2, Load, Store, Iinc, GetStatic, PutStatic, GetField, PutField, Invoke, Dynamic, New, NewRefArray, NewMulti, Cast, InstanceOf}
use Rattle.class_model.specs.declared.pool.Const.{Const}
use Rattle.class_model.specs.declared.pool.Const.TheVariants as consts
use Rattle.type_rules.proofs.Grown.Pools.{called_member, class_same, constant_same, desc_same}

module _ (major : ℕ) (pool more : Constants) (place : ℕ) (hold : AllHold (entries_checks major pool place pool)) where
  abbrev later : Constants
  later = pool ++ more

  -- what holds of a constant
  holds_still : (P : Option Const → Type 0) (index : ℕ) → ¬ P None → P (constant_at pool index) → P (constant_at later index)
  holds_still P index none h = subst P (sym (constant_same major pool more place hold P index none h)) h

  no_some : (X : Type 0) → IsSome {T = X} None → ⊥
  no_some X h = absurd cc

  there_still : (index : ℕ) → IsClassAt pool index → IsClassAt later index
  there_still index h = holds_still (λ (o : Option Const). IsSome (option_and_then class_name_of o)) index (no_some ℕ) h

  named_still : (P : List ℕ → Type 0) (index : ℕ) → IsClassAt pool index → IfSome (class_at pool index) P → IfSome (class_at later index) P
  named_still P index is h = subst (λ (name : Option (List ℕ)). IfSome name P) (sym (class_same major pool more place hold index is)) h

  counts_still : (method count : ℕ) (o : Option Const) → constant_at pool method ≡ o → IsInterfaceConstant o → CountsArguments (units_behind pool (member_index o)) count
      → CountsArguments (units_behind later (member_index o)) count
  counts_still method count (Some (consts.InterfaceMethodref class member)) e is h =
      subst (λ (desc : Option (List ℕ)). CountsArguments desc count) (sym (desc_same major pool more place hold member (called_member major pool more place hold method class member e))) h
  counts_still method count o e is h = absurd is

  call_still : (version opcode method count : ℕ) → IsCalled pool version opcode method count → IsCalled later version opcode method count
  call_still version opcode method count (inl h) = inl (h.0, holds_still IsMethodConstant method (λ h. h) h.1)
  call_still version opcode method count (inr (inl h)) =
      let same = constant_same major pool more place hold IsInterfaceConstant method (λ h. h) h.1 in
      inr (inl (
        h.0,
        holds_still IsInterfaceConstant method (λ h. h) h.1,
        subst (λ (o : Option Const). CountsArguments (units_behind later (member_index o)) count) (sym same) (counts_still method count (constant_at pool method) refl h.1 h.2),
      ))
  call_still version opcode method count (inr (inr (is, inl h))) = inr (inr (is, inl (holds_still IsMethodConstant method (λ h. h) h)))
  call_still version opcode method count (inr (inr (is, inr h))) = inr (inr (is, inr (h.0, holds_still IsInterfaceConstant method (λ h. h) h.1)))

  pub operands_still : (version max_locals : ℕ) (instr : Instr) → OperandFits pool version max_locals instr → OperandFits later version max_locals instr
  operands_still version max_locals (Ldc index) h = holds_still IsLoadable index (λ h. h) h
  operands_still version max_locals (Ldc2 index) h = holds_still IsLoadable2 index (λ h. h) h
  operands_still version max_locals (Load kind local) h = h
  operands_still version max_locals (Store kind local) h = h
  operands_still version max_locals (Iinc local by) h = h
  operands_still version max_locals (GetStatic index) h = holds_still IsFieldConstant index (λ h. h) h
  operands_still version max_locals (PutStatic index) h = holds_still IsFieldConstant index (λ h. h) h
  operands_still version max_locals (GetField index) h = holds_still IsFieldConstant index (λ h. h) h
  operands_still version max_locals (PutField index) h = holds_still IsFieldConstant index (λ h. h) h
  operands_still version max_locals (Invoke opcode method count) h = call_still version opcode method count h
  operands_still version max_locals (Dynamic index) h = holds_still IsDynamicConstant index (λ h. h) h
  operands_still version max_locals (New index) h = there_still index h
  operands_still version max_locals (NewRefArray index) h = (there_still index h.0, named_still FitsArray index h.0 h.1)
  operands_still version max_locals (NewMulti index dimensions) h = (there_still index h.0, named_still (λ name. HasDimensions name dimensions) index h.0 h.1)
  operands_still version max_locals (Cast index) h = there_still index h
  operands_still version max_locals (InstanceOf index) h = there_still index h
  operands_still version max_locals instr h = tt
