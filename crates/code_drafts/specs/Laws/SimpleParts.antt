-- What holds of loads, stores, constants, narrowings and of the instructions that pop and copy holds of all make code but that of the objects,
-- and of each
-- template but for the make code of a decided jump.
use Rattle.std.proofs.Common.{if◌then◌else◌, ◌≡◌, ◌==◌, ◌&&◌, ◌||◌, ℕ, suc, Bool, true, false, List, [], ◌∷◌, ◌++◌, length, map, take, pos, Option, Some, None, flat_map, inl, refl, arith}
use Rattle.std.specs.List.{AllByRecursion}
use Rattle.class_model.specs.Descriptors.{kind_of, parameters_of}
use Rattle.class_model.specs.PoolChecks.{class_at}
use Rattle.class_model.specs.declared.descriptor.FieldType.{FieldType}
use Rattle.class_model.specs.declared.descriptor.FieldType.TheVariants as field_types
use Rattle.class_model.specs.declared.descriptor.Kind.{Kind}
use Rattle.class_model.specs.declared.descriptor.Kind.TheVariants as kinds
use Rattle.class_model.specs.declared.frame.Frame.{Frame}
use Rattle.class_model.specs.declared.instr.Imm.{Imm}
use Rattle.class_model.specs.declared.instr.Imm.TheVariants as imms
use Rattle.class_model.specs.declared.instr.Instr.{Instr}
use Rattle.class_model.specs.declared.instr.Instr.TheVariants.{Nop, Const, Ldc, Ldc2, Load, Store, Iinc, ArrayLoad, ArrayStore, Shuffle, Pure, Divide, FloatAsk, If, If2, IfSame, IfNull, Goto, Table, Lookup, Return, GetStatic, PutStatic, GetField, PutField, Invoke, Dynamic, New, NewArray, NewRefArray, NewMulti, Length, Throw, Cast, InstanceOf, Enter, Leave}
use Rattle.class_model.specs.declared.opcodes.TheConstants.{DUP, DUP_X1, DUP_X2, DUP2, DUP2_X1, DUP2_X2, I2B, I2C, I2S, IAND, INVOKESPECIAL, POP, POP2, SWAP}
use Rattle.class_tree.specs.Headers.{Name}
use Rattle.flow_code.specs.ReadTypes.{is_site_object}
use Rattle.making_code.specs.Items.{WInstr, load, plain, store}
use Rattle.making_code.specs.MakeCode.{Entry, copy_field, copy_fields_from, copy_local, copy_locals_from, copy_object, load_entry, load_fields_from, save}
use Rattle.making_code.specs.Units.{WUnit, fields_at}
use Rattle.member_link.specs.Machine.CallSteps.{is_object_init}
use Rattle.member_link.specs.References.{Reference}
use Rattle.member_link.specs.Rows.MemberRows.{receiver}
use Rattle.member_link.specs.Targets.{HasForm}
use Rattle.code_drafts.specs.Laws.GoingOn.{decided}
use Rattle.plan_flow.specs.Laws.WrittenBlocks.{holds_of_both}
use Rattle.std.proofs.lemmas.Bool.{false≢true}
use Rattle.plan_flow.specs.PlanScope.{PlanScope, field_number, field_of, is_site_below, member_of, pool_of, site_at}
use Rattle.plan_flow.specs.PlanSlots.{field_held, held}
use Rattle.plan_flow.specs.PlanTable.{operand}
use Rattle.plan_flow.specs.Written.Routes.{Route}
use Rattle.plan_flow.specs.Written.Templates.{Cell, is_folded, below_units, by_units, cells, cleared_fields, dups, field_type_at, get_template, init_template, instance_template, is_virtual, load_of_field, made_on_jump, narrowing, new_template, nothing_of, null_template, plain_among, plain_units, pop_if_plain, pops, put_template, shuffles, store_of_field, swaps, template, zero_of}
use Rattle.virtual_state.specs.Sites.{has}
use Rattle.virtual_state.specs.States.{State}
use Rattle.virtual_state.specs.declared.slot.Slot.{Slot}
use Rattle.virtual_state.specs.declared.slot.Slot.TheVariants.{Plain, Virt, Unusable}
use Rattle.virtual_state.specs.declared.slot.VObject.{VObject}

pub record HoldsOfSimple (P : WInstr → Type 0) : Type 0 where
  pub loads : (kind : Kind) (unit : WUnit) → P (load kind unit)
  pub stores : (kind : Kind) (unit : WUnit) → P (store kind unit)
  pub consts : (value : Imm) → HasForm (Const value) → P (plain (Const value))
  pub pures : (opcode : ℕ) → HasForm (Pure opcode) → P (plain (Pure opcode))
  pub shuffles : (opcode : ℕ) → HasForm (Shuffle opcode) → P (plain (Shuffle opcode))

module _ (P : WInstr → Type 0) (simple : HoldsOfSimple P) where
  abbrev pub AllHold : List WInstr → Type 0
  AllHold instrs = AllByRecursion P instrs

  both_hold : (left right : List WInstr) → AllHold left → AllHold right → AllHold (left ++ right)
  both_hold left right one other = holds_of_both P left right one other

  pub each_holds : {A : Type 0} (of : A → List WInstr) (items : List A) → ((one : A) → AllHold (of one)) → AllHold (flat_map of items)
  each_holds of [] each = tt
  each_holds of (one ∷ items) each = both_hold (of one) (flat_map of items) (each one) (each_holds of items each)

  -- ---- make code

  pub saves_hold : (entries : List Entry) → AllHold (map save entries)
  saves_hold [] = tt
  saves_hold (entry ∷ entries) = (simple.stores _ _, saves_hold entries)

  pub loaded_fields_hold : (site number : ℕ) (types : List FieldType) (slots : List Slot) → AllHold (load_fields_from site number types slots)
  loaded_fields_hold site number [] slots = tt
  loaded_fields_hold site number (type ∷ types) [] = tt
  loaded_fields_hold site number (type ∷ types) (Plain ∷ slots) = (simple.loads _ _, loaded_fields_hold site (suc number) types slots)
  loaded_fields_hold site number (type ∷ types) (Virt named ∷ slots) = (simple.loads _ _, loaded_fields_hold site (suc number) types slots)
  loaded_fields_hold site number (type ∷ types) (Unusable ∷ slots) = (simple.loads _ _, loaded_fields_hold site (suc number) types slots)

  pub copied_locals_hold : (sites : List ℕ) (unit : ℕ) (slots : List Slot) → AllHold (copy_locals_from sites unit slots)
  copied_locals_hold sites unit [] = tt
  copied_locals_hold sites unit (Plain ∷ slots) = copied_locals_hold sites (suc unit) slots
  copied_locals_hold sites unit (Unusable ∷ slots) = copied_locals_hold sites (suc unit) slots
  copied_locals_hold sites unit (Virt site ∷ slots) =
      both_hold (copy_local sites unit (Virt site)) (copy_locals_from sites (suc unit) slots) (by (has sites site) refl)
      (copied_locals_hold sites (suc unit) slots) where
        by : (is : Bool) → has sites site ≡ is → AllHold (copy_local sites unit (Virt site))
        by true is = rw (is) (simple.loads _ _, (simple.stores _ _, tt))
        by false is = rw (is) tt

  copied_fields_hold : (sites : List ℕ) (of number : ℕ) (slots : List Slot) → AllHold (copy_fields_from sites of number slots)
  copied_fields_hold sites of number [] = tt
  copied_fields_hold sites of number (Plain ∷ slots) = copied_fields_hold sites of (suc number) slots
  copied_fields_hold sites of number (Unusable ∷ slots) = copied_fields_hold sites of (suc number) slots
  copied_fields_hold sites of number (Virt site ∷ slots) =
      both_hold (copy_field sites of number (Virt site)) (copy_fields_from sites of (suc number) slots) (by (has sites site) refl)
      (copied_fields_hold sites of (suc number) slots) where
        by : (is : Bool) → has sites site ≡ is → AllHold (copy_field sites of number (Virt site))
        by true is = rw (is) (simple.loads _ _, (simple.stores _ _, tt))
        by false is = rw (is) tt

  pub copied_object_holds : (sites : List ℕ) (object : VObject) → AllHold (copy_object sites object)
  copied_object_holds sites object = by (has sites object.site) refl where
    by : (is : Bool) → has sites object.site ≡ is → AllHold (copy_object sites object)
    by true is = rw (is) tt
    by false is = rw (is) (copied_fields_hold sites object.site 0 object.fields)

  pub loaded_entry_holds : (sites : List ℕ) (entry : Entry) → AllHold (load_entry sites entry)
  loaded_entry_holds sites entry = of_slot entry.slot refl where
    of_slot : (slot : Slot) → entry.slot ≡ slot → AllHold (load_entry sites entry)
    of_slot Plain is = rw (is) (simple.loads _ _, tt)
    of_slot Unusable is = rw (is) tt
    of_slot (Virt site) is = by (has sites site) refl where
      by : (among : Bool) → has sites site ≡ among → AllHold (load_entry sites entry)
      by true among = rw (is, among) (simple.loads _ _, tt)
      by false among = rw (is, among) tt

  -- ---- parts of templates

  holds_zero : (kind : Kind) → P (plain (zero_of kind))
  holds_zero kinds.Int = simple.consts (imms.Int (pos 0)) (omega arith)
  holds_zero kinds.Long = simple.consts (imms.Long (pos 0)) (inl refl)
  holds_zero kinds.Float = simple.consts (imms.Float 0) (inl refl)
  holds_zero kinds.Double = simple.consts (imms.Double 0) (inl refl)
  holds_zero kinds.Ref = simple.consts imms.Null tt

  cleared_hold : (site number : ℕ) (types : List FieldType) → AllHold (cleared_fields site number types)
  cleared_hold site number [] = tt
  cleared_hold site number (type ∷ types) = (holds_zero (kind_of type), (simple.stores _ _, cleared_hold site (suc number) types))

  narrowing_holds : (type : FieldType) → AllHold (narrowing type)
  narrowing_holds field_types.Byte = (simple.pures I2B refl, tt)
  narrowing_holds field_types.Short = (simple.pures I2S refl, tt)
  narrowing_holds field_types.Char = (simple.pures I2C refl, tt)
  narrowing_holds field_types.Bool = (simple.consts (imms.Int (pos 1)) (omega arith), (simple.pures IAND refl, tt))
  narrowing_holds field_types.Int = tt
  narrowing_holds field_types.Long = tt
  narrowing_holds field_types.Float = tt
  narrowing_holds field_types.Double = tt
  narrowing_holds (field_types.Named name) = tt

  loaded_field_holds : (site number : ℕ) (type : Option FieldType) → AllHold (load_of_field site number type)
  loaded_field_holds site number None = tt
  loaded_field_holds site number (Some type) = (simple.loads _ _, tt)

  stored_field_holds : (site number : ℕ) (type : Option FieldType) → AllHold (store_of_field site number type)
  stored_field_holds site number None = tt
  stored_field_holds site number (Some type) = both_hold (narrowing type) _ (narrowing_holds type) (simple.stores _ _, tt)

  holds_shuffle : (opcode : ℕ) → HasForm (Shuffle opcode) → AllHold (plain (Shuffle opcode) ∷ [])
  holds_shuffle opcode form = (simple.shuffles opcode form, tt)

  -- a choice
  either_holds : (b : Bool) (one other : List WInstr) → AllHold one → AllHold other → AllHold (if b then one else other)
  either_holds true one other is also = is
  either_holds false one other is also = also

  pops_hold : (units : ℕ) → AllHold (pops units)
  pops_hold units =
      either_holds (units == 1) _ _ (holds_shuffle POP refl)
      (either_holds (units == 2) _ _ (holds_shuffle POP2 refl) tt)

  swaps_hold : (units : ℕ) → AllHold (swaps units)
  swaps_hold units = either_holds (units == 2) _ _ (holds_shuffle SWAP refl) tt

  form_by : (units none one two : ℕ)
      → HasForm (Shuffle none)
      → HasForm (Shuffle one)
      → HasForm (Shuffle two)
      → HasForm (Shuffle (by_units units none one two))
  form_by units none one two is is_one is_two = by (units == 0) refl (units == 1) refl where
    by : (b : Bool) → (units == 0) ≡ b → (c : Bool) → (units == 1) ≡ c → HasForm (Shuffle (by_units units none one two))
    by true told c other = rw (told) is
    by false told true other = rw (told, other) is_one
    by false told false other = rw (told, other) is_two

  dups_hold : (copied over : ℕ) → AllHold (dups copied over)
  dups_hold copied over =
      either_holds (copied == 1) _ _ (holds_shuffle (by_units over DUP DUP_X1 DUP_X2) (form_by over DUP DUP_X1 DUP_X2 refl refl refl))
      (either_holds (copied == 2) _ _ (holds_shuffle (by_units over DUP2 DUP2_X1 DUP2_X2) (form_by over DUP2 DUP2_X1 DUP2_X2 refl refl refl)) tt)

  shuffles_hold : (opcode : ℕ) (stack : List Cell) → AllHold (shuffles opcode stack)
  shuffles_hold opcode stack =
      either_holds (opcode == POP) _ _ (pops_hold (plain_among 1 stack))
      (either_holds (opcode == POP2) _ _ (pops_hold (plain_among 2 stack))
      (either_holds (opcode == DUP) _ _ (dups_hold (plain_among 1 stack) (plain_among 0 (below_units 1 stack)))
      (either_holds (opcode == DUP_X1) _ _ (dups_hold (plain_among 1 stack) (plain_among 1 (below_units 1 stack)))
      (either_holds (opcode == DUP_X2) _ _ (dups_hold (plain_among 1 stack) (plain_among 2 (below_units 1 stack)))
      (either_holds (opcode == DUP2) _ _ (dups_hold (plain_among 2 stack) (plain_among 0 (below_units 2 stack)))
      (either_holds (opcode == DUP2_X1) _ _ (dups_hold (plain_among 2 stack) (plain_among 1 (below_units 2 stack)))
      (either_holds (opcode == DUP2_X2) _ _ (dups_hold (plain_among 2 stack) (plain_among 2 (below_units 2 stack)))
      (either_holds (opcode == SWAP) _ _ (swaps_hold (plain_among 2 stack)) tt))))))))

  pub popped_holds : (slot : Slot) → AllHold (pop_if_plain slot)
  popped_holds Plain = holds_shuffle POP refl
  popped_holds (Virt site) = tt
  popped_holds Unusable = tt

  abbrev pub OptionHolds : Option (List WInstr) → Type 0
  OptionHolds None = Unit {0}
  OptionHolds (Some instrs) = AllHold instrs

  module _ (s : PlanScope) where
    -- ---- templates

    new_holds : (site : Option ℕ) → OptionHolds (new_template s site)
    new_holds None = tt
    new_holds (Some site) = cleared_hold site 0 (fields_at s.flat site)

    nothing_holds : (slot : Slot) → OptionHolds (nothing_of slot)
    nothing_holds Plain = tt
    nothing_holds (Virt site) = tt
    nothing_holds Unusable = tt

    option_holds : (b : Bool) (instrs : List WInstr) → AllHold instrs → OptionHolds (if b then Some instrs else None)
    option_holds true instrs fit = fit
    option_holds false instrs fit = tt

    init_holds : (f : Frame) (state : State) (special : Bool) (method : Option Reference) → OptionHolds (init_template s f state special method)
    init_holds f state special None = tt
    init_holds f state special (Some method) =
        option_holds (special && is_object_init method
        && (is_virtual (held state (operand f (length (parameters_of method.desc)))) || is_site_object s.flat (receiver f method.desc)))
        (flat_map (λ cell. pops (plain_units cell)) (take (suc (length (parameters_of method.desc))) (cells f state)))
        (each_holds (λ (cell : Cell). pops (plain_units cell)) (take (suc (length (parameters_of method.desc))) (cells f state))
        (λ cell. pops_hold (plain_units cell)))

    get_holds : (state : State) (slot : Slot) (field : Option Reference) → OptionHolds (get_template s state slot field)
    get_holds state Plain None = tt
    get_holds state Plain (Some field) = tt
    get_holds state Unusable None = tt
    get_holds state Unusable (Some field) = tt
    get_holds state (Virt site) None = tt
    get_holds state (Virt site) (Some field) = by (field_held s state site field) refl (field_number s site field) refl where
      by : (slot : Slot) → field_held s state site field ≡ slot → (number : Option ℕ) → field_number s site field ≡ number
          → OptionHolds (get_template s state (Virt site) (Some field))
      by Plain is None none = rw (is, none) tt
      by Plain is (Some number) some = rw (is, some) (loaded_field_holds site number (field_type_at s site number))
      by (Virt other) is number told = rw (is) tt
      by Unusable is number told = rw (is) tt

    put_holds : (object value : Slot) (field : Option Reference) → OptionHolds (put_template s object value field)
    put_holds Plain value field = tt
    put_holds Unusable value field = tt
    put_holds (Virt site) (Virt other) field = tt
    put_holds (Virt site) Unusable field = tt
    put_holds (Virt site) Plain None = tt
    put_holds (Virt site) Plain (Some field) = by (field_number s site field) refl where
      by : (number : Option ℕ) → field_number s site field ≡ number → OptionHolds (put_template s (Virt site) Plain (Some field))
      by None is = rw (is) tt
      by (Some number) is = rw (is) (stored_field_holds site number (field_type_at s site number))

    instance_holds : (slot : Slot) (name : Option Name) → OptionHolds (instance_template s slot name)
    instance_holds Plain name = tt
    instance_holds Unusable name = tt
    instance_holds (Virt site) None = tt
    instance_holds (Virt site) (Some name) = by (is_site_below s site name) refl where
      by : (below : Bool) → is_site_below s site name ≡ below → OptionHolds (instance_template s (Virt site) (Some name))
      by true is = rw (is) (simple.consts (imms.Int (pos 1)) (omega arith), tt)
      by false is = rw (is) (simple.consts (imms.Int (pos 0)) (omega arith), tt)

    pub template_holds : (at : ℕ) (f : Frame) (state : State) (route : Route) (class : ℕ) (instr : Instr)
        → (decided f state instr ≡ true → AllHold (made_on_jump s route))
        → OptionHolds (template s at f state route class instr)
    template_holds at f state route class Nop made = tt
    template_holds at f state route class (Const imm) made = tt
    template_holds at f state route class (Ldc index) made = tt
    template_holds at f state route class (Ldc2 index) made = tt
    template_holds at f state route class (Load kind local) made = nothing_holds (held state local)
    template_holds at f state route class (Store kind local) made = nothing_holds (held state (operand f 0))
    template_holds at f state route class (Iinc local by) made = tt
    template_holds at f state route class (ArrayLoad opcode) made = tt
    template_holds at f state route class (ArrayStore opcode) made = tt
    template_holds at f state route class (Shuffle opcode) made = shuffles_hold opcode (cells f state)
    template_holds at f state route class (Pure opcode) made = tt
    template_holds at f state route class (Divide opcode) made = tt
    template_holds at f state route class (FloatAsk opcode) made = tt
    template_holds at f state route class (If opcode to) made = tt
    template_holds at f state route class (If2 opcode to) made = tt
    template_holds at f state route class (IfSame opcode to) made =
        by (is_virtual (held state (operand f 1)) || is_virtual (held state (operand f 0))) refl where
          folds : is_virtual (held state (operand f 1)) || is_virtual (held state (operand f 0)) ≡ true → is_folded f state (IfSame opcode to) ≡ true
          folds told = either_way (is_virtual (held state (operand f 1))) (is_virtual (held state (operand f 0))) told where
            either_way : (one other : Bool) → (one || other) ≡ true → (other || one) ≡ true
            either_way true true told = refl
            either_way true false told = refl
            either_way false true told = refl
            either_way false false told = absurd (false≢true told)

          by : (b : Bool) → is_virtual (held state (operand f 1)) || is_virtual (held state (operand f 0)) ≡ b
              → OptionHolds (if b then Some (pop_if_plain (held state (operand f 0)) ++ pop_if_plain
              (held state (operand f 1)) ++ made_on_jump s route) else None)
          by false told = tt
          by true told =
              both_hold (pop_if_plain (held state (operand f 0)) ++ pop_if_plain (held state (operand f 1))) (made_on_jump s route)
              (both_hold (pop_if_plain (held state (operand f 0))) (pop_if_plain (held state (operand f 1))) (popped_holds (held state (operand f 0)))
              (popped_holds (held state (operand f 1)))) (made (folds told))
    template_holds at f state route class (IfNull opcode to) made = by (held state (operand f 0)) refl where
      by : (slot : Slot) → held state (operand f 0) ≡ slot → OptionHolds (null_template s route slot)
      by Plain is = tt
      by Unusable is = tt
      by (Virt site) is = made (rw (is) refl)
    template_holds at f state route class (Goto to) made = made refl
    template_holds at f state route class (Table low other to) made = tt
    template_holds at f state route class (Lookup other pairs) made = tt
    template_holds at f state route class (Return kind) made = tt
    template_holds at f state route class (GetStatic index) made = tt
    template_holds at f state route class (PutStatic index) made = tt
    template_holds at f state route class (GetField index) made = get_holds state (held state (operand f 0)) (field_of s class index)
    template_holds at f state route class (PutField index) made =
        put_holds (held state (operand f 1)) (held state (operand f 0)) (field_of s class index)
    template_holds at f state route class (Invoke opcode index count) made = init_holds f state (opcode == INVOKESPECIAL) (member_of s class index)
    template_holds at f state route class (Dynamic index) made = tt
    template_holds at f state route class (New index) made = new_holds (site_at s.flat at)
    template_holds at f state route class (NewArray code) made = tt
    template_holds at f state route class (NewRefArray index) made = tt
    template_holds at f state route class (NewMulti index dimensions) made = tt
    template_holds at f state route class Length made = tt
    template_holds at f state route class Throw made = tt
    template_holds at f state route class (Cast index) made = nothing_holds (held state (operand f 0))
    template_holds at f state route class (InstanceOf index) made = instance_holds (held state (operand f 0)) (class_at (pool_of s class) index)
    template_holds at f state route class Enter made = nothing_holds (held state (operand f 0))
    template_holds at f state route class Leave made = nothing_holds (held state (operand f 0))
