-- What holds of the operations of a form, and of the meaningless one, holds of what an instruction of the form is translated to.
use Rattle.std.proofs.Common.{◌==◌, ◌&&◌, ℕ, Bool, true, false, List, Option, Some, None, option_map, if◌then◌else◌}
use Rattle.std.specs.Prelude.{nat_le}
use Rattle.class_model.specs.Descriptors.{kind_of}
use Rattle.class_model.specs.Pool.{Constants}
use Rattle.class_model.specs.PoolChecks.{utf8_at, descriptor_at, name_at}
use Rattle.class_model.specs.declared.descriptor.FieldType.{FieldType}
use Rattle.class_model.specs.declared.descriptor.Kind.{Kind}
use Rattle.class_model.specs.declared.opcodes.TheConstants.{INVOKEVIRTUAL, INVOKESPECIAL, INVOKESTATIC, INVOKEINTERFACE}
use Rattle.class_model.specs.declared.pool.Const.{Const}
use Rattle.class_model.specs.declared.pool.Const.TheVariants as consts
use Rattle.class_tree.specs.Headers.{Name}
use Rattle.machine_values.specs.declared.object.Constant.{Constant}
use Rattle.machine_values.specs.declared.object.Constant.TheVariants as objects
use Rattle.machine_values.specs.declared.value.Value.{Value}
use Rattle.member_link.specs.Machine.Codes.{constant_op, handle_of, if_between, or_meaningless, return_op, same_kind, call_op, dynamic_op, special_start}
use Rattle.member_link.specs.Machine.Ops.{Op, meaningless, push_value, push_constant, return_nothing, return_value, call_static, call_virtual, call_interface, call_special, call_dynamic}
use Rattle.member_link.specs.Machine.Programs.{Links}
use Rattle.member_link.specs.References.{Reference}
use Rattle.member_link.specs.RowScope.{RowScope}

-- the operation of a dynamic call, by the name and descriptor of its call site
abbrev pub dynamic_of : RowScope → ℕ → Option (List ℕ) → Option (List ℕ) → Op
dynamic_of s bootstrap (Some name) (Some desc) = call_dynamic s.own.name bootstrap name desc
dynamic_of s bootstrap name desc = meaningless

module _ (Has : Op → Type 0) (none_has : Has meaningless) where
  pub tested_has : (test : Bool) (op : Op) → Has op → Has (if test then op else meaningless)
  tested_has true op has = has
  tested_has false op has = none_has

  pub between_has : (low high opcode : ℕ) (op : Op) → Has op → Has (if_between low high opcode op)
  between_has low high opcode op has = tested_has (nat_le low opcode && nat_le opcode high) op has

  pub found_has : {A : Type 0} (found : Option A) (op : A → Op) → ((a : A) → Has (op a)) → Has (or_meaningless (option_map op found))
  found_has None op has = none_has
  found_has (Some a) op has = has a

  pub constant_has : (pool : Constants) (constant : Option Const) → ((v : Value) → Has (push_value v))
      → ((x : Constant) → Has (push_constant x)) → Has (constant_op pool constant)
  constant_has pool (Some (consts.Integer n)) value object = value _
  constant_has pool (Some (consts.Long n)) value object = value _
  constant_has pool (Some (consts.Float n)) value object = value _
  constant_has pool (Some (consts.Double n)) value object = value _
  constant_has pool (Some (consts.String t)) value object =
      found_has (utf8_at pool t) (λ x. push_constant (objects.Str x)) (λ x. object (objects.Str x))
  constant_has pool (Some (consts.Class t)) value object =
      found_has (utf8_at pool t) (λ x. push_constant (objects.Class x)) (λ x. object (objects.Class x))
  constant_has pool (Some (consts.MethodType t)) value object =
      found_has (utf8_at pool t) (λ x. push_constant (objects.MethodType x)) (λ x. object (objects.MethodType x))
  constant_has pool (Some (consts.MethodHandle kind reference)) value object =
      found_has (handle_of pool kind reference) push_constant object
  constant_has pool constant value object = none_has

  pub return_has : (result : Option FieldType) (kind : Option Kind) → Has return_nothing
      → ((type : FieldType) → Has (return_value type)) → Has (return_op result kind)
  return_has None None nothing value = nothing
  return_has None (Some k) nothing value = none_has
  return_has (Some t) None nothing value = none_has
  return_has (Some t) (Some k) nothing value = tested_has (same_kind (kind_of t) k) (return_value t) (value t)

  pub call_has : (links : Links) (s : RowScope) (opcode : ℕ) (r : Reference) → Has (call_virtual r)
      → ((start : Name) → Has (call_special r start)) → Has (call_static r) → Has (call_interface r) → Has (call_op links s opcode r)
  call_has links s opcode r virtual special static interface =
      by (opcode == INVOKEVIRTUAL) (opcode == INVOKESPECIAL) (opcode == INVOKESTATIC) (opcode == INVOKEINTERFACE) where
        by : (a b c d : Bool)
            → Has (if a then call_virtual r else (if b then call_special r (special_start links s r.class) else
            (if c then call_static r else (if d then call_interface r else meaningless))))
        by true b c d = virtual
        by false true c d = special (special_start links s r.class)
        by false false true d = static
        by false false false true = interface
        by false false false false = none_has

  pub dynamic_has : (s : RowScope) (constant : Option Const)
      → ((class : Name) (bootstrap : ℕ) (name desc : Name) → Has (call_dynamic class bootstrap name desc)) → Has (dynamic_op s constant)
  dynamic_has s None call = none_has
  dynamic_has s (Some (consts.InvokeDynamic bootstrap member)) call = by (name_at s.pool member) (descriptor_at s.pool member) where
    by : (n d : Option Name) → Has (dynamic_of s bootstrap n d)
    by None d = none_has
    by (Some n) None = none_has
    by (Some n) (Some d) = call s.own.name bootstrap n d
  dynamic_has s (Some constant) call = none_has
