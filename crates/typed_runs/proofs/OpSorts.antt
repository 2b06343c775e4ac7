use Rattle.std.specs.Prelude.{◌≡◌, ◌⊎◌, ◌&&◌, nat_le, refl, ℕ, Bool, Option, option_map, if◌then◌else◌}
use Rattle.std.proofs.Common.{inl, inr, sym, ◌∙◌}
use Rattle.class_model.specs.Pool.{Constants, constant_at}
use Rattle.class_model.specs.PoolChecks.{class_at}
use Rattle.class_model.specs.declared.descriptor.FieldType.{FieldType}
use Rattle.class_model.specs.declared.descriptor.Kind.{Kind}
use Rattle.class_model.specs.declared.instr.Instr.TheVariants as instrs
use Rattle.class_model.specs.declared.opcodes.TheConstants.{IALOAD, SALOAD, IASTORE, SASTORE, IFEQ, IFLE, IF_ICMPEQ, IF_ICMPLE, IF_ACMPEQ, IF_ACMPNE, IFNULL, IFNONNULL}
use Rattle.class_model.specs.declared.pool.Const.{Const}
use Rattle.member_link.specs.Laws.TranslatedOps.{call_has, constant_has, dynamic_has, found_has, return_has, tested_has}
use Rattle.member_link.specs.Bodies.{CodeItem, item_instr}
use Rattle.member_link.specs.Machine.Codes.{item_op, constant_op, or_meaningless, return_op, call_op, dynamic_op, initialises}
use Rattle.member_link.specs.Machine.Ops.{Op, meaningless, return_nothing, return_value, throw_reference, get_static, put_static, get_field, put_field, call_static, call_virtual, call_interface, call_special, new_object, new_array, new_arrays, load_element, store_element, check_cast, instance_of, jump_by_int, jump_by_ints, jump_by_references, jump_by_null}
use Rattle.member_link.specs.Machine.Programs.{Links}
use Rattle.member_link.specs.References.{Reference}
use Rattle.member_link.specs.RowScope.{RowScope}
use Rattle.member_link.specs.Rows.ArrayRows.{primitive_array, array_of}
use Rattle.member_link.specs.Signatures.{reference_of}

-- the families by which an operation tells of which form its instruction is
pub data OpSort : Type 0 where
  of_fields : OpSort
  of_returns : OpSort
  of_throws : OpSort
  of_calls : OpSort
  of_news : OpSort
  of_others : OpSort

abbrev pub sort_of_op : Op → OpSort
sort_of_op (get_static r) = of_fields
sort_of_op (put_static r initialises) = of_fields
sort_of_op (get_field r) = of_fields
sort_of_op (put_field r initialises) = of_fields
sort_of_op return_nothing = of_returns
sort_of_op (return_value type) = of_returns
sort_of_op throw_reference = of_throws
sort_of_op (call_static r) = of_calls
sort_of_op (call_virtual r) = of_calls
sort_of_op (call_interface r) = of_calls
sort_of_op (call_special r from) = of_calls
sort_of_op (new_object name) = of_news
sort_of_op op = of_others

abbrev pub sort_of_item : CodeItem → OpSort
sort_of_item (item_instr (instrs.GetStatic index)) = of_fields
sort_of_item (item_instr (instrs.PutStatic index)) = of_fields
sort_of_item (item_instr (instrs.GetField index)) = of_fields
sort_of_item (item_instr (instrs.PutField index)) = of_fields
sort_of_item (item_instr (instrs.Return kind)) = of_returns
sort_of_item (item_instr instrs.Throw) = of_throws
sort_of_item (item_instr (instrs.Invoke opcode index count)) = of_calls
sort_of_item (item_instr (instrs.New index)) = of_news
sort_of_item item = of_others

-- it is of the sort, or of no family
abbrev pub HasSort : Op → OpSort → Type 0
HasSort op sort = (sort_of_op op ≡ of_others) ⊎ (sort_of_op op ≡ sort)

module _ (sort : OpSort) where
  abbrev pub IsOfSort : Op → Type 0
  IsOfSort op = HasSort op sort

  tested_sort : (b : Bool) (op : Op) → HasSort op sort → HasSort (if b then op else meaningless) sort
  tested_sort = tested_has IsOfSort (inl refl)

  found_sort : {A : Type 0} (o : Option A) (op : A → Op) → ((a : A) → HasSort (op a) sort) → HasSort (or_meaningless (option_map op o)) sort
  found_sort o op has = found_has IsOfSort (inl refl) o op has

constant_sort : (pool : Constants) (c : Option Const) → HasSort (constant_op pool c) of_others
constant_sort pool c = constant_has (IsOfSort of_others) (inl refl) pool c (λ v. inr refl) (λ x. inr refl)

return_sort : (result : Option FieldType) (kind : Option Kind) → HasSort (return_op result kind) of_returns
return_sort result kind = return_has (IsOfSort of_returns) (inl refl) result kind (inr refl) (λ t. inr refl)

call_sort : (links : Links) (s : RowScope) (opcode : ℕ) (r : Reference) → HasSort (call_op links s opcode r) of_calls
call_sort links s opcode r =
    call_has (IsOfSort of_calls) (inl refl) links s opcode r (inr refl) (λ start. inr refl) (inr refl) (inr refl)

dynamic_sort : (s : RowScope) (c : Option Const) → HasSort (dynamic_op s c) of_others
dynamic_sort s c = dynamic_has (IsOfSort of_others) (inl refl) s c (λ class bootstrap name desc. inr refl)

-- an item's operation is of the item's sort, unless it is of no family
pub item_sort : (links : Links) (numbered : ℕ → ℕ) (s : RowScope) (item : CodeItem) → HasSort (item_op links numbered s item) (sort_of_item item)
item_sort links numbered s (item_instr (instrs.Ldc index)) = constant_sort s.pool (constant_at s.pool index)
item_sort links numbered s (item_instr (instrs.Ldc2 index)) = constant_sort s.pool (constant_at s.pool index)
item_sort links numbered s (item_instr (instrs.ArrayLoad opcode)) =
    tested_sort of_others (nat_le IALOAD opcode && nat_le opcode SALOAD) (load_element opcode) (inr refl)
item_sort links numbered s (item_instr (instrs.ArrayStore opcode)) =
    tested_sort of_others (nat_le IASTORE opcode && nat_le opcode SASTORE) (store_element opcode) (inr refl)
item_sort links numbered s (item_instr (instrs.If opcode target)) =
    tested_sort of_others (nat_le IFEQ opcode && nat_le opcode IFLE) (jump_by_int opcode (numbered target)) (inr refl)
item_sort links numbered s (item_instr (instrs.If2 opcode target)) =
    tested_sort of_others (nat_le IF_ICMPEQ opcode && nat_le opcode IF_ICMPLE) (jump_by_ints opcode (numbered target)) (inr refl)
item_sort links numbered s (item_instr (instrs.IfSame opcode target)) =
    tested_sort of_others (nat_le IF_ACMPEQ opcode && nat_le opcode IF_ACMPNE) (jump_by_references opcode (numbered target)) (inr refl)
item_sort links numbered s (item_instr (instrs.IfNull opcode target)) =
    tested_sort of_others (nat_le IFNULL opcode && nat_le opcode IFNONNULL) (jump_by_null opcode (numbered target)) (inr refl)
item_sort links numbered s (item_instr (instrs.Return kind)) = return_sort s.result kind
item_sort links numbered s (item_instr (instrs.GetStatic index)) =
    found_sort of_fields (reference_of s.pool (constant_at s.pool index)) get_static (λ r. inr refl)
item_sort links numbered s (item_instr (instrs.PutStatic index)) =
    found_sort of_fields (reference_of s.pool (constant_at s.pool index)) (λ r. put_static r (initialises s.is_clinit s.own)) (λ r. inr refl)
item_sort links numbered s (item_instr (instrs.GetField index)) =
    found_sort of_fields (reference_of s.pool (constant_at s.pool index)) get_field (λ r. inr refl)
item_sort links numbered s (item_instr (instrs.PutField index)) =
    found_sort of_fields (reference_of s.pool (constant_at s.pool index)) (λ r. put_field r (initialises s.is_init s.own)) (λ r. inr refl)
item_sort links numbered s (item_instr (instrs.Invoke opcode index count)) =
    found_sort of_calls (reference_of s.pool (constant_at s.pool index)) (call_op links s opcode) (λ r. call_sort links s opcode r)
item_sort links numbered s (item_instr (instrs.Dynamic index)) = dynamic_sort s (constant_at s.pool index)
item_sort links numbered s (item_instr (instrs.New index)) = found_sort of_news (class_at s.pool index) new_object (λ r. inr refl)
item_sort links numbered s (item_instr (instrs.NewArray code)) = found_sort of_others (primitive_array code) new_array (λ r. inr refl)
item_sort links numbered s (item_instr (instrs.NewRefArray index)) = found_sort of_others (array_of (class_at s.pool index)) new_array (λ r. inr refl)
item_sort links numbered s (item_instr (instrs.NewMulti index dimensions)) =
    found_sort of_others (class_at s.pool index) (λ name. new_arrays name dimensions) (λ r. inr refl)
item_sort links numbered s (item_instr (instrs.Cast index)) = found_sort of_others (class_at s.pool index) check_cast (λ r. inr refl)
item_sort links numbered s (item_instr (instrs.InstanceOf index)) = found_sort of_others (class_at s.pool index) instance_of (λ r. inr refl)
item_sort links numbered s item = inr refl

-- an item of another sort has no operation of a family
pub not_of_family : (links : Links) (numbered : ℕ → ℕ) (s : RowScope) (item : CodeItem) (family : OpSort)
    → sort_of_op (item_op links numbered s item) ≡ family
    → (of_others ≡ family → ⊥) → (sort_of_item item ≡ family → ⊥) → ⊥
not_of_family links numbered s item family is no_others differs = by (item_sort links numbered s item) where
  by : HasSort (item_op links numbered s item) (sort_of_item item) → ⊥
  by (inl e) = no_others (sym e ∙ is)
  by (inr e) = differs (sym e ∙ is)
