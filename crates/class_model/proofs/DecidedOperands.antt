-- What an instruction's operands ask of the pool and the locals is decided.
use Rattle.std.proofs.Common.{◌≡◌, inl, inr, ℕ, ◌+◌, List, length, Option, Some}
use Rattle.std.proofs.lemmas.Bool.{cases_eq}
use Rattle.class_model.specs.Code.{IsLoadable, IsLoadable2, IsDynamicConstant, CountsArguments, IsCalled, FitsArray, FitsLocal, OperandFits}
use Rattle.class_model.specs.Descriptors.{SpellsDescriptor, parameter_units}
use Rattle.class_model.specs.Pool.{Constants, constant_at}
use Rattle.class_model.specs.PoolChecks.{class_at}
use Rattle.class_model.specs.declared.descriptor.Descriptor.{Descriptor}
use Rattle.class_model.specs.declared.descriptor.Kind.{Kind}
use Rattle.class_model.specs.declared.descriptor.Kind.TheVariants as kinds
use Rattle.class_model.specs.declared.instr.Instr.{Instr}
use Rattle.class_model.specs.declared.instr.Instr.TheVariants.{Ldc, Ldc2, Load, Store, Iinc, GetStatic, PutStatic, GetField, PutField, Invoke, Dynamic, New, NewRefArray, NewMulti, Cast, InstanceOf}
use Rattle.class_model.specs.declared.opcodes.TheConstants.{INVOKEVIRTUAL, INVOKESPECIAL, INVOKESTATIC, INVOKEINTERFACE}
use Rattle.class_model.specs.declared.pool.Const.{Const}
use Rattle.class_model.specs.declared.pool.Const.TheVariants as consts
use Rattle.class_model.specs.Laws.Decisions.{Decision, both, either, denied}
use Rattle.class_model.proofs.Decisions.{three, at_most, if_some}
use Rattle.class_model.proofs.DecidedDescriptors.{each_one, spelled_descriptor}
use Rattle.class_model.proofs.DecidedPool.{class_named, is_field, is_method, is_interface_method}
use Rattle.class_model.proofs.DecidedTypes.{array_type, has_dimensions}
use Rattle.class_model.proofs.Parameters.{one_descriptor}

-- ---- kinds of constants

loadable : (constant : Option Const) → Decision (IsLoadable constant)
loadable (Some (consts.Integer number)) = inl tt
loadable (Some (consts.Float bits)) = inl tt
loadable (Some (consts.String text)) = inl tt
loadable (Some (consts.Class name)) = inl tt
loadable (Some (consts.MethodHandle kind reference)) = inl tt
loadable (Some (consts.MethodType descriptor)) = inl tt
loadable other = inr (λ h. h)

loadable2 : (constant : Option Const) → Decision (IsLoadable2 constant)
loadable2 (Some (consts.Long number)) = inl tt
loadable2 (Some (consts.Double bits)) = inl tt
loadable2 other = inr (λ h. h)

dynamic_constant : (constant : Option Const) → Decision (IsDynamicConstant constant)
dynamic_constant (Some (consts.InvokeDynamic bootstrap member)) = inl tt
dynamic_constant other = inr (λ h. h)

-- ---- calls and arrays

counts : (count : ℕ) (text : List ℕ) → Decision ((d : Descriptor) → SpellsDescriptor text d → count ≡ parameter_units d.params + 1)
counts count text = each_one (SpellsDescriptor text) (one_descriptor text) (λ d. count ≡ parameter_units d.params + 1) (λ d. cases_eq count (parameter_units d.params + 1)) (spelled_descriptor text)

counts_arguments : (descriptor : Option (List ℕ)) (count : ℕ) → Decision (CountsArguments descriptor count)
counts_arguments descriptor count = if_some (counts count) descriptor

called : (pool : Constants) (major opcode method count : ℕ) → Decision (IsCalled pool major opcode method count)
called pool major opcode method count =
    let constant = constant_at pool method in
    either (both (cases_eq opcode INVOKEVIRTUAL) (is_method constant))
    (either (three (cases_eq opcode INVOKEINTERFACE) (is_interface_method constant) (counts_arguments _ count))
    (both (either (cases_eq opcode INVOKESPECIAL) (cases_eq opcode INVOKESTATIC)) (either (is_method constant) (both (cases_eq major 52) (is_interface_method constant)))))

fits_array : (name : List ℕ) → Decision (FitsArray name)
fits_array name = either
    (three (array_type name) (denied (has_dimensions name 255)) (at_most (length name + 1) 65535))
    (both (denied (array_type name)) (at_most (length name + 3) 65535))

-- ---- operands

fits_local : (max_locals : ℕ) (kind : Kind) (local : ℕ) → Decision (FitsLocal max_locals kind local)
fits_local max_locals kinds.Long local = at_most (local + 2) max_locals
fits_local max_locals kinds.Double local = at_most (local + 2) max_locals
fits_local max_locals kind local = at_most (local + 1) max_locals

pub operand_fits : (pool : Constants) (major max_locals : ℕ) (instr : Instr) → Decision (OperandFits pool major max_locals instr)
operand_fits pool major max_locals (Ldc index) = loadable (constant_at pool index)
operand_fits pool major max_locals (Ldc2 index) = loadable2 (constant_at pool index)
operand_fits pool major max_locals (Load kind local) = fits_local max_locals kind local
operand_fits pool major max_locals (Store kind local) = fits_local max_locals kind local
operand_fits pool major max_locals (Iinc local by) = fits_local max_locals kinds.Int local
operand_fits pool major max_locals (GetStatic index) = is_field (constant_at pool index)
operand_fits pool major max_locals (PutStatic index) = is_field (constant_at pool index)
operand_fits pool major max_locals (GetField index) = is_field (constant_at pool index)
operand_fits pool major max_locals (PutField index) = is_field (constant_at pool index)
operand_fits pool major max_locals (Invoke opcode method count) = called pool major opcode method count
operand_fits pool major max_locals (Dynamic index) = dynamic_constant (constant_at pool index)
operand_fits pool major max_locals (New index) = class_named pool index
operand_fits pool major max_locals (NewRefArray index) = both (class_named pool index) (if_some fits_array (class_at pool index))
operand_fits pool major max_locals (NewMulti index dimensions) = both (class_named pool index) (if_some (λ name. has_dimensions name dimensions) (class_at pool index))
operand_fits pool major max_locals (Cast index) = class_named pool index
operand_fits pool major max_locals (InstanceOf index) = class_named pool index
operand_fits pool major max_locals other = inl tt
