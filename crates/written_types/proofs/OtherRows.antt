-- Rows give no uninitialised object but that of their own new.
use Rattle.std.proofs.Common.{◌≡◌, ◌≢◌, ◌-◌, ◌+◌, ℕ, zero, suc, Bool, true, false, List, [], ◌∷◌, ◌++◌, length, slice_get, Option, Some, None, if◌then◌else◌, refl, subst}
use Rattle.std.specs.Prelude.{◌==◌, ◌&&◌, nat_le, slice_set, bytes_eq}
use Rattle.std.specs.List.{AllByRecursion}
use Rattle.class_model.specs.Code.{verification_type}
use Rattle.class_model.specs.Frames.{is_wide, units}
use Rattle.class_model.specs.Names.{init}
use Rattle.class_model.specs.Pool.{constant_at}
use Rattle.class_model.specs.PoolChecks.{class_at, descriptor_at}
use Rattle.class_model.specs.declared.descriptor.FieldType.{FieldType}
use Rattle.class_model.specs.declared.descriptor.FieldType.TheVariants as field_types
use Rattle.class_model.specs.declared.descriptor.Kind.{Kind}
use Rattle.class_model.specs.declared.descriptor.Kind.TheVariants as kinds
use Rattle.class_model.specs.declared.frame.Frame.{Frame}
use Rattle.class_model.specs.declared.frame.VType.{VType}
use Rattle.class_model.specs.declared.frame.VType.TheVariants as types
use Rattle.class_model.specs.declared.instr.Imm.{Imm}
use Rattle.class_model.specs.declared.instr.Imm.TheVariants as imms
use Rattle.class_model.specs.declared.instr.Instr.{Instr}
use Rattle.class_model.specs.declared.instr.Instr.TheVariants.{Nop, Const, Ldc, Ldc2, Load, Store, Iinc, ArrayLoad, ArrayStore, Shuffle, Pure, Divide, FloatAsk, If, If2, IfSame, IfNull, Goto, Table, Lookup, Return, GetStatic, PutStatic, GetField, PutField, Invoke, Dynamic, New, NewArray, NewRefArray, NewMulti, Length, Throw, Cast, InstanceOf, Enter, Leave}
use Rattle.class_model.specs.declared.opcodes.TheConstants.{AALOAD, AASTORE, IALOAD, IASTORE, IFEQ, IFLE, IFNONNULL, IFNULL, IF_ACMPEQ, IF_ACMPNE, IF_ICMPEQ, IF_ICMPLE, INVOKESPECIAL, INVOKESTATIC}
use Rattle.class_model.specs.declared.pool.Const.{Const as Constant}
use Rattle.class_model.specs.declared.pool.Const.TheVariants as consts
use Rattle.class_tree.specs.Headers.{Name}
use Rattle.member_link.specs.References.{Reference}
use Rattle.member_link.specs.RowScope.{RowScope}
use Rattle.member_link.specs.Rows.ArithmeticRows.{Operation, divide_operations, float_operations, operation_in, operation_row, pure_operations, type_of_kind}
use Rattle.member_link.specs.Rows.ArrayRows.{Elements, array_of, component_type, elements_from, elements_load_row, elements_of, elements_store_row, made_row, primitive_array}
use Rattle.member_link.specs.Rows.LocalRows.{const_row, cut_before, local_entry, stored, type_of_imm, with_units}
use Rattle.member_link.specs.Rows.MemberRows.{call_row, dynamic_row, get_field_row, get_static_row, init_row, initialised_type, put_field_row, put_static_row, receiver, result_types, return_row}
use Rattle.member_link.specs.Rows.Operands.{Need, lowest_of, topmost, under}
use Rattle.member_link.specs.Rows.Row.{Row, either, no_row, stack_behind}
use Rattle.member_link.specs.Rows.ShuffleRows.{Form, form_in, form_row, forms_of, picked}
use Rattle.member_link.specs.Rows.Table.{cast_row, jump_row, row_of, without_older}
use Rattle.member_link.specs.Signatures.{reference_of, result_of}
use Rattle.written_types.proofs.Standing.{all_at, all_dropped, all_joined, all_mapped, all_taken}

-- a type is not that of the uninitialised object of a place
abbrev pub Other : ℕ → VType → Type 0
Other place (types.Uninit at) = at ≢ place
Other place type = Unit {0}

pub other_apart : (place : ℕ) (type : VType) → Other place type → type ≢ types.Uninit place
other_apart place type other same = subst (Other place) same other refl

pub others_apart : (place : ℕ) (all : List VType) → AllByRecursion (Other place) all → AllByRecursion (λ type. type ≢ types.Uninit place) all
others_apart place [] others = tt
others_apart place (type ∷ all) others = (other_apart place type others.0, others_apart place all others.1)

-- ---- types that are given

module _ (place : ℕ) where
  abbrev Others : List VType → Type 0
  Others all = AllByRecursion (Other place) all

  pub of_type : (type : FieldType) → Other place (verification_type type)
  of_type field_types.Byte = tt
  of_type field_types.Char = tt
  of_type field_types.Short = tt
  of_type field_types.Bool = tt
  of_type field_types.Int = tt
  of_type field_types.Long = tt
  of_type field_types.Float = tt
  of_type field_types.Double = tt
  of_type (field_types.Named name) = tt

  of_imm : (imm : Imm) → Other place (type_of_imm imm)
  of_imm imms.Null = tt
  of_imm (imms.Int number) = tt
  of_imm (imms.Long number) = tt
  of_imm (imms.Float bits) = tt
  of_imm (imms.Double bits) = tt

  of_kind : (kind : Kind) → Other place (type_of_kind kind)
  of_kind kinds.Int = tt
  of_kind kinds.Long = tt
  of_kind kinds.Float = tt
  of_kind kinds.Double = tt
  of_kind kinds.Ref = tt

  of_component : (type : VType) → Other place (component_type type)
  of_component (types.Object name) = tt
  of_component other = tt

  abbrev OfElements : Option Elements → Type 0
  OfElements None = Unit {0}
  OfElements (Some e) = Other place e.type

  elements_if : (b : Bool) (one other : Option Elements) → OfElements one → OfElements other → OfElements (if b then one else other)
  elements_if true one other first second = first
  elements_if false one other first second = second

  of_elements : (number : ℕ) → OfElements (elements_of number)
  of_elements number =
      elements_if (number == 0) _ _ tt (elements_if (number == 1) _ _ tt (elements_if (number == 2) _ _ tt (elements_if (number == 3) _ _ tt
      (elements_if (number == 5) _ _ tt (elements_if (number == 6) _ _ tt (elements_if (number == 7) _ _ tt tt))))))

  of_loaded : (first opcode : ℕ) → OfElements (elements_from first opcode)
  of_loaded first opcode = elements_if _ None _ tt (of_elements (opcode - first))

  -- ---- locals

  set_other : (all : List VType) (n : ℕ) (type : VType) → Others all → Other place type → Others (slice_set all n type)
  set_other [] n type others other = tt
  set_other (first ∷ rest) zero type others other = (other, others.1)
  set_other (first ∷ rest) (suc n) type others other = (others.0, set_other rest n type others.1 other)

  cut_other : (at : ℕ) (all : List VType) → Others all → Others (cut_before at all)
  cut_other zero all others = others
  cut_other (suc at) all others = by (slice_get all at) refl where
    by_width : (wide : Bool) → Others (if wide then slice_set all at types.Top else all)
    by_width true = set_other all at types.Top others tt
    by_width false = others

    by : (found : Option VType) → slice_get all at ≡ found → Others (cut_before (suc at) all)
    by None none = rw none others
    by (Some type) some = rw some (by_width (is_wide type))

  with_other : (at : ℕ) (own all : List VType) → Others own → Others all → Others (with_units at own all)
  with_other at [] all own others = others
  with_other at (type ∷ rest) all own others = with_other (at + 1) rest (slice_set all at type) own.1 (set_other all at type others own.0)

  pub units_other : (type : VType) → Other place type → Others (units type)
  units_other types.Long other = (tt, (tt, tt))
  units_other types.Double other = (tt, (tt, tt))
  units_other type other = (other, tt)

  stored_other : (at : ℕ) (type : VType) (all : List VType) → Other place type → Others all → Others (stored at type all)
  stored_other at type all other others =
      with_other at (units type) (cut_before at all) (units_other type other) (cut_other at all others)

  older_other : (at : ℕ) (type : VType) → Other place type → Other place (without_older at type)
  older_other at (types.Uninit one) other = by (one == at) where
    by : (b : Bool) → Other place (if b then types.Top else types.Uninit one)
    by true = tt
    by false = other
  older_other at type other = other

  initialised_other : (sc : RowScope) (r : Reference) (object type : VType) → Other place type → Other place (initialised_type sc r object type)
  initialised_other sc r (types.Uninit at) (types.Uninit one) other = by (one == at) where
    by : (b : Bool) → Other place (if b then types.Object r.class else types.Uninit one)
    by true = tt
    by false = other
  initialised_other sc r (types.Uninit at) type other = other
  initialised_other sc r types.UninitThis types.UninitThis other = tt
  initialised_other sc r types.UninitThis type other = other
  initialised_other sc r object type other = other

  -- ---- rows

  module _ (f : Frame) (others : AllByRecursion (Other place) f.locals) (entries : AllByRecursion (Other place) f.stack) where
    -- what is behind a row has none
    pub record LeavesOther (row : Row) : Type 0 where
      pub locals : AllByRecursion (Other place) row.locals
      pub stack : AllByRecursion (Other place) (stack_behind f row)

    pub under_other : (count : ℕ) → AllByRecursion (Other place) (under count f.stack)
    under_other count = all_taken (Other place) (length f.stack - count) f.stack entries

    lowest_other : (count : ℕ) → Other place (lowest_of count f.stack)
    lowest_other count = by (topmost count f.stack) refl where
      all : AllByRecursion (Other place) (topmost count f.stack)
      all = all_dropped (Other place) (length f.stack - count) f.stack entries

      by : (top : List VType) → topmost count f.stack ≡ top → Other place (lowest_of count f.stack)
      by [] is = rw is tt
      by (type ∷ rest) is = rw is (subst (AllByRecursion (Other place)) is all).0

    moves : (count : ℕ) (gives : List VType) → AllByRecursion (Other place) gives → AllByRecursion (Other place) (under count f.stack ++ gives)
    moves count gives given = all_joined (Other place) (under count f.stack) gives (under_other count) given

    none_given : (count : ℕ) → AllByRecursion (Other place) (under count f.stack ++ [])
    none_given count = moves count [] tt

    one_given : (count : ℕ) (type : VType) → Other place type → AllByRecursion (Other place) (under count f.stack ++ type ∷ [])
    one_given count type other = moves count (type ∷ []) (other, tt)

    of_none : LeavesOther (no_row f)
    of_none = record { locals = others; stack = none_given 1 }

    const_leaves : (constant : Option Constant) → LeavesOther (const_row f constant)
    const_leaves None = of_none
    const_leaves (Some (consts.Integer n)) = record { locals = others; stack = one_given 0 _ tt }
    const_leaves (Some (consts.Float bits)) = record { locals = others; stack = one_given 0 _ tt }
    const_leaves (Some (consts.Long n)) = record { locals = others; stack = one_given 0 _ tt }
    const_leaves (Some (consts.Double bits)) = record { locals = others; stack = one_given 0 _ tt }
    const_leaves (Some (consts.String text)) = record { locals = others; stack = one_given 0 _ tt }
    const_leaves (Some (consts.Class name)) = record { locals = others; stack = one_given 0 _ tt }
    const_leaves (Some (consts.MethodHandle kind reference)) = record { locals = others; stack = one_given 0 _ tt }
    const_leaves (Some (consts.MethodType descriptor)) = record { locals = others; stack = one_given 0 _ tt }
    const_leaves (Some other) = of_none

    entry_other : (local : ℕ) → AllByRecursion (Other place) (local_entry f.locals local)
    entry_other local = by (slice_get f.locals local) refl where
      by : (found : Option VType) → slice_get f.locals local ≡ found → AllByRecursion (Other place) (local_entry f.locals local)
      by None none = rw none tt
      by (Some type) some = rw some (all_at (Other place) f.locals local type others some, tt)

    elements_leaves : (found : Option Elements) → OfElements found → LeavesOther (elements_load_row f found)
    elements_leaves None of = of_none
    elements_leaves (Some e) of = record { locals = others; stack = one_given 2 e.type of }

    load_leaves : (references : Bool) (first second : Row) → LeavesOther first → LeavesOther second → LeavesOther (either references first second)
    load_leaves true first second one other = one
    load_leaves false first second one other = other

    stores_leaves : (found : Option Elements) → LeavesOther (elements_store_row f found)
    stores_leaves None = of_none
    stores_leaves (Some e) = record { locals = others; stack = none_given 3 }

    picked_other : (count : ℕ) (gives : List ℕ) → AllByRecursion (Other place) (picked (topmost count f.stack) gives)
    picked_other count [] = tt
    picked_other count (number ∷ gives) = by (slice_get (topmost count f.stack) number) refl (picked_other count gives) where
      by : (found : Option VType) → slice_get (topmost count f.stack) number ≡ found
          → AllByRecursion (Other place) (picked (topmost count f.stack) gives)
          → AllByRecursion (Other place) (picked (topmost count f.stack) (number ∷ gives))
      by None none more = rw none more
      by (Some type) some more =
          rw some (
            all_at (Other place) (topmost count f.stack) number type (all_dropped (Other place) (length f.stack - count) f.stack entries) some,
            more,
          )

    form_leaves : (found : Option Form) → LeavesOther (form_row f found)
    form_leaves None = of_none
    form_leaves (Some form) = record { locals = others; stack = moves _ _ (picked_other (length form.takes) form.gives) }

    operation_leaves : (found : Option Operation) → LeavesOther (operation_row f found)
    operation_leaves None = of_none
    operation_leaves (Some o) = record { locals = others; stack = one_given _ _ (of_kind o.gives) }

    jump_leaves : (known : Bool) (takes : List Need) → LeavesOther (jump_row f known takes)
    jump_leaves true takes = record { locals = others; stack = none_given (length takes) }
    jump_leaves false takes = of_none

    made_leaves : (counts : ℕ) (name : Option Name) → LeavesOther (made_row f counts name)
    made_leaves counts None = of_none
    made_leaves counts (Some name) = record { locals = others; stack = one_given _ _ tt }

    cast_leaves : (name : Option Name) → LeavesOther (cast_row f name)
    cast_leaves None = of_none
    cast_leaves (Some name) = record { locals = others; stack = one_given 1 _ tt }

    return_leaves : (sc : RowScope) (kind : Option Kind) → LeavesOther (return_row sc f kind)
    return_leaves sc None = record { locals = others; stack = none_given 0 }
    return_leaves sc (Some kind) = record { locals = others; stack = none_given 1 }

    -- ---- members

    get_static_leaves : (r : Option Reference) → LeavesOther (get_static_row f r)
    get_static_leaves None = of_none
    get_static_leaves (Some r) = record { locals = others; stack = one_given 0 _ (of_type _) }

    put_static_leaves : (r : Option Reference) → LeavesOther (put_static_row f r)
    put_static_leaves None = of_none
    put_static_leaves (Some r) = record { locals = others; stack = none_given 1 }

    get_leaves : (sc : RowScope) (r : Option Reference) → LeavesOther (get_field_row sc f r)
    get_leaves sc None = of_none
    get_leaves sc (Some r) = record { locals = others; stack = one_given 1 _ (of_type _) }

    put_leaves : (sc : RowScope) (r : Option Reference) → LeavesOther (put_field_row sc f r)
    put_leaves sc None = of_none
    put_leaves sc (Some r) = record { locals = others; stack = none_given 2 }

    result_other : (found : Option FieldType) → AllByRecursion (Other place) (result_types found)
    result_other None = tt
    result_other (Some type) = (of_type type, tt)

    init_leaves : (sc : RowScope) (r : Reference) → LeavesOther (init_row sc f r)
    init_leaves sc r = record {
      locals = all_mapped (Other place) (initialised_type sc r (receiver f r.desc)) (initialised_other sc r (receiver f r.desc)) f.locals others;
      stack = all_joined (Other place) _ _
          (all_mapped (Other place) (initialised_type sc r (receiver f r.desc)) (initialised_other sc r (receiver f r.desc)) _ (under_other _))
          (result_other (result_of r.desc));
    }

    call_leaves : (sc : RowScope) (opcode : ℕ) (r : Option Reference) → LeavesOther (call_row sc f opcode r)
    call_leaves sc opcode None = of_none
    call_leaves sc opcode (Some r) =
        load_leaves (opcode == INVOKESTATIC) _ _ (record { locals = others; stack = moves _ _ (result_other (result_of r.desc)) })
        (load_leaves (opcode == INVOKESPECIAL) _ _
        (load_leaves (bytes_eq r.name init) _ _ (init_leaves sc r)
        (record { locals = others; stack = moves _ _ (result_other (result_of r.desc)) }))
        (record { locals = others; stack = moves _ _ (result_other (result_of r.desc)) }))

    dynamic_leaves : (sc : RowScope) (constant : Option Constant) → LeavesOther (dynamic_row sc f constant)
    dynamic_leaves sc (Some (consts.InvokeDynamic bootstrap member)) = by (descriptor_at sc.pool member) refl where
      by : (found : Option (List ℕ)) → descriptor_at sc.pool member ≡ found
          → LeavesOther (dynamic_row sc f (Some (consts.InvokeDynamic bootstrap member)))
      by None none = rw none of_none
      by (Some desc) some = rw some (record { locals = others; stack = moves _ _ (result_other (result_of desc)) })
    dynamic_leaves sc (Some other) = of_none
    dynamic_leaves sc None = of_none

    -- ---- the table

    -- behind an instruction at another place
    pub leaves_other : (sc : RowScope) (at : ℕ) → at ≢ place → (instr : Instr) → LeavesOther (row_of sc f at instr)
    leaves_other sc at apart Nop = record { locals = others; stack = none_given 0 }
    leaves_other sc at apart (Const imm) = record { locals = others; stack = one_given 0 _ (of_imm imm) }
    leaves_other sc at apart (Ldc index) = const_leaves (constant_at sc.pool index)
    leaves_other sc at apart (Ldc2 index) = const_leaves (constant_at sc.pool index)
    leaves_other sc at apart (Load kind local) = record { locals = others; stack = moves 0 _ (entry_other local) }
    leaves_other sc at apart (Store kind local) = record {
      locals = stored_other local (lowest_of 1 f.stack) f.locals (lowest_other 1) others;
      stack = none_given 1;
    }
    leaves_other sc at apart (Iinc local by) = record { locals = others; stack = none_given 0 }
    leaves_other sc at apart (ArrayLoad opcode) =
        load_leaves (opcode == AALOAD) _ _ (record { locals = others; stack = one_given 2 _ (of_component (lowest_of 2 f.stack)) })
        (elements_leaves (elements_from IALOAD opcode) (of_loaded IALOAD opcode))
    leaves_other sc at apart (ArrayStore opcode) =
        load_leaves (opcode == AASTORE) _ _ (record { locals = others; stack = none_given 3 }) (stores_leaves (elements_from IASTORE opcode))
    leaves_other sc at apart (Shuffle opcode) = form_leaves (form_in (forms_of opcode) f.stack)
    leaves_other sc at apart (Pure opcode) = operation_leaves (operation_in pure_operations opcode)
    leaves_other sc at apart (Divide opcode) = operation_leaves (operation_in divide_operations opcode)
    leaves_other sc at apart (FloatAsk opcode) = operation_leaves (operation_in float_operations opcode)
    leaves_other sc at apart (If opcode target) = jump_leaves (nat_le IFEQ opcode && nat_le opcode IFLE) _
    leaves_other sc at apart (If2 opcode target) = jump_leaves (nat_le IF_ICMPEQ opcode && nat_le opcode IF_ICMPLE) _
    leaves_other sc at apart (IfSame opcode target) = jump_leaves (nat_le IF_ACMPEQ opcode && nat_le opcode IF_ACMPNE) _
    leaves_other sc at apart (IfNull opcode target) = jump_leaves (nat_le IFNULL opcode && nat_le opcode IFNONNULL) _
    leaves_other sc at apart (Goto target) = record { locals = others; stack = none_given 0 }
    leaves_other sc at apart (Table low other targets) = record { locals = others; stack = none_given 1 }
    leaves_other sc at apart (Lookup other pairs) = record { locals = others; stack = none_given 1 }
    leaves_other sc at apart (Return kind) = return_leaves sc kind
    leaves_other sc at apart (GetStatic index) = get_static_leaves (reference_of sc.pool (constant_at sc.pool index))
    leaves_other sc at apart (PutStatic index) = put_static_leaves (reference_of sc.pool (constant_at sc.pool index))
    leaves_other sc at apart (GetField index) = get_leaves sc (reference_of sc.pool (constant_at sc.pool index))
    leaves_other sc at apart (PutField index) = put_leaves sc (reference_of sc.pool (constant_at sc.pool index))
    leaves_other sc at apart (Invoke opcode index count) = call_leaves sc opcode (reference_of sc.pool (constant_at sc.pool index))
    leaves_other sc at apart (Dynamic index) = dynamic_leaves sc (constant_at sc.pool index)
    leaves_other sc at apart (New index) = record {
      locals = all_mapped (Other place) (without_older at) (older_other at) f.locals others;
      stack = one_given 0 _ apart;
    }
    leaves_other sc at apart (NewArray code) = made_leaves 1 (primitive_array code)
    leaves_other sc at apart (NewRefArray index) = made_leaves 1 (array_of (class_at sc.pool index))
    leaves_other sc at apart (NewMulti index dimensions) = made_leaves dimensions (class_at sc.pool index)
    leaves_other sc at apart Length = record { locals = others; stack = one_given 1 _ tt }
    leaves_other sc at apart Throw = record { locals = others; stack = none_given 1 }
    leaves_other sc at apart (Cast index) = cast_leaves (class_at sc.pool index)
    leaves_other sc at apart (InstanceOf index) = record { locals = others; stack = one_given 1 _ tt }
    leaves_other sc at apart Enter = record { locals = others; stack = none_given 1 }
    leaves_other sc at apart Leave = record { locals = others; stack = none_given 1 }
