-- What the types of a frame say of the receiver of a call.
use Rattle.std.specs.Prelude.{◌≡◌, ◌-◌, ◌==◌, ◌&&◌, nat_le, refl, ℕ, zero, suc, Bool, true, false, List, [], ◌∷◌, ◌++◌, length, take, drop, reverse, bytes_eq, Option, Some, None, option_map, if◌then◌else◌}
use Rattle.std.proofs.Common.{arith, ap, sym, subst, ◌∙◌}
use Rattle.std.proofs.lemmas.List.{drop_at, length-drop, length-map, length-reverse, reverse-append, take-append-drop}
use Rattle.class_model.specs.Descriptors.{kind_of, parameters_of}
use Rattle.class_model.specs.Names.{init}
use Rattle.class_model.specs.Pool.{Constants, constant_at}
use Rattle.class_model.specs.PoolChecks.{class_at, descriptor_at, name_at, utf8_at}
use Rattle.class_model.specs.declared.descriptor.FieldType.{FieldType}
use Rattle.class_model.specs.declared.descriptor.Kind.{Kind}
use Rattle.class_model.specs.declared.frame.Frame.{Frame}
use Rattle.class_model.specs.declared.frame.VType.{VType}
use Rattle.class_model.specs.declared.instr.Instr.TheVariants as instrs
use Rattle.class_model.specs.declared.opcodes.TheConstants.{IALOAD, IASTORE, IFEQ, IFLE, IFNONNULL, IFNULL, IF_ACMPEQ, IF_ACMPNE, IF_ICMPEQ, IF_ICMPLE, INVOKEINTERFACE, INVOKESPECIAL, INVOKESTATIC, INVOKEVIRTUAL, SALOAD, SASTORE}
use Rattle.class_model.specs.declared.pool.Const.{Const}
use Rattle.class_model.specs.declared.pool.Const.TheVariants as consts
use Rattle.class_tree.specs.Headers.{Name}
use Rattle.machine_values.specs.Frames.{MethodState}
use Rattle.machine_values.specs.Heaps.{Heap, object_at}
use Rattle.machine_values.specs.declared.object.Constant.TheVariants as objects
use Rattle.machine_values.specs.declared.object.Object.{Object}
use Rattle.machine_values.specs.declared.object.Shape.{Shape}
use Rattle.machine_values.specs.declared.object.Shape.TheVariants as shapes
use Rattle.machine_values.specs.declared.value.Value.{Value}
use Rattle.machine_values.specs.declared.value.Value.TheVariants as values
use Rattle.member_link.specs.Bodies.{CodeItem, item_instr, item_null_test, item_row}
use Rattle.member_link.specs.BodyTyping.{RowHolds}
use Rattle.member_link.specs.Machine.Codes.{call_op, constant_op, dynamic_op, handle_of, initialises, item_op, or_meaningless, return_op, same_kind, special_start}
use Rattle.member_link.specs.Machine.Ops.{Op, call_dynamic, call_interface, call_special, call_static, call_virtual, check_cast, get_field, get_static, instance_of, jump_by_int, jump_by_ints, jump_by_null, jump_by_references, load_element, meaningless, new_array, new_arrays, new_object, push_constant, put_field, put_static, return_value, store_element}
use Rattle.member_link.specs.Machine.Programs.{Links, Program, folder_number}
use Rattle.member_link.specs.Machine.Shapes.{class_of_shape, is_external}
use Rattle.member_link.specs.Machine.Work.{with_receiver_count}
use Rattle.member_link.specs.References.{Reference}
use Rattle.member_link.specs.RowScope.{RowScope}
use Rattle.member_link.specs.Rows.ArrayRows.{array_of, primitive_array}
use Rattle.member_link.specs.Rows.MemberRows.{MayInitialise, argument_needs, call_row, init_row, instance_row, receiver, special_row}
use Rattle.member_link.specs.Rows.Operands.{AllFit, Fits, Need, topmost}
use Rattle.member_link.specs.Rows.Row.{access_aside, either}
use Rattle.member_link.specs.Signatures.{reference_of}
use Rattle.same_runs.specs.Laws.CaughtUp.{operands_of}
use Rattle.typed_runs.specs.Conforming.{AllConform, Conforms, HoldsShape, and_value, no_values, of_new, of_this}

-- ---- rows of calls on an object

-- what the row of an operation that calls on an object asks
abbrev pub HoldsCall : RowScope → Frame → Op → Type 0
HoldsCall s frame (call_virtual r) = RowHolds s frame (instance_row frame r (Unit {0}) (Unit {0}))
HoldsCall s frame (call_special r from) = RowHolds s frame (access_aside (either (bytes_eq r.name init) (init_row s frame r) (special_row s frame r)))
HoldsCall s frame op = Unit {0}

same_number : (a b : ℕ) → (a == b) ≡ true → a ≡ b
same_number a b is = search arith

module _ (s : RowScope) (frame : Frame) where
  tested : (b : Bool) (op : Op) → HoldsCall s frame op → HoldsCall s frame (if b then op else meaningless)
  tested true op holds = holds
  tested false op holds = tt

  found : {A : Type 0} (o : Option A) (op : A → Op) → ((a : A) → HoldsCall s frame (op a)) → HoldsCall s frame (or_meaningless (option_map op o))
  found None op holds = tt
  found (Some a) op holds = holds a

  constant : (pool : Constants) (c : Option Const) → HoldsCall s frame (constant_op pool c)
  constant pool (Some (consts.Integer n)) = tt
  constant pool (Some (consts.Long n)) = tt
  constant pool (Some (consts.Float n)) = tt
  constant pool (Some (consts.Double n)) = tt
  constant pool (Some (consts.String t)) = found (utf8_at pool t) (λ x. push_constant (objects.Str x)) (λ x. tt)
  constant pool (Some (consts.Class t)) = found (utf8_at pool t) (λ x. push_constant (objects.Class x)) (λ x. tt)
  constant pool (Some (consts.MethodType t)) = found (utf8_at pool t) (λ x. push_constant (objects.MethodType x)) (λ x. tt)
  constant pool (Some (consts.MethodHandle kind reference)) = found (handle_of pool kind reference) push_constant (λ x. tt)
  constant pool c = tt

  returned : (result : Option FieldType) (kind : Option Kind) → HoldsCall s frame (return_op result kind)
  returned None None = tt
  returned None (Some k) = tt
  returned (Some t) None = tt
  returned (Some t) (Some k) = tested (same_kind (kind_of t) k) (return_value t) tt

  abbrev dynamic_of : ℕ → Option Name → Option Name → Op
  dynamic_of bootstrap (Some name) (Some desc) = call_dynamic s.own.name bootstrap name desc
  dynamic_of bootstrap name desc = meaningless

  dynamic : (c : Option Const) → HoldsCall s frame (dynamic_op s c)
  dynamic None = tt
  dynamic (Some (consts.InvokeDynamic bootstrap member)) = by (name_at s.pool member) (descriptor_at s.pool member) where
    by : (n d : Option Name) → HoldsCall s frame (dynamic_of bootstrap n d)
    by None d = tt
    by (Some n) None = tt
    by (Some n) (Some d) = tt
  dynamic (Some c) = tt

  -- a call by its opcode
  abbrev Holds : Links → Reference → ℕ → Type 0
  Holds links r opcode = RowHolds s frame (access_aside (call_row s frame opcode (Some r))) → HoldsCall s frame (call_op links s opcode r)

  -- what is no virtual call
  abbrev op_by : Links → Reference → Bool → Bool → Bool → Op
  op_by links r special static by_interface =
      if special then call_special r (special_start links s r.class)
      else (if static then call_static r else (if by_interface then call_interface r else meaningless))

  called : (links : Links) (r : Reference) (opcode : ℕ) → Holds links r opcode
  called links r opcode = by_virtual (opcode == INVOKEVIRTUAL) refl where
    others : (special static by_interface : Bool) → special ≡ false → HoldsCall s frame (op_by links r special static by_interface)
    others true static by_interface e = absurd cc
    others false true by_interface e = tt
    others false false true e = tt
    others false false false e = tt

    by_special : (opcode == INVOKEVIRTUAL) ≡ false → (b : Bool) → (opcode == INVOKESPECIAL) ≡ b → Holds links r opcode
    by_special v true e = subst (Holds links r) (sym (same_number opcode INVOKESPECIAL e)) (λ holds. holds)
    by_special v false e = λ holds. rw v (others (opcode == INVOKESPECIAL) (opcode == INVOKESTATIC) (opcode == INVOKEINTERFACE) e)

    by_virtual : (b : Bool) → (opcode == INVOKEVIRTUAL) ≡ b → Holds links r opcode
    by_virtual true e = subst (Holds links r) (sym (same_number opcode INVOKEVIRTUAL e)) (λ holds. holds)
    by_virtual false e = by_special e (opcode == INVOKESPECIAL) refl

  invoked : (links : Links) (opcode : ℕ) (o : Option Reference) → RowHolds s frame (access_aside (call_row s frame opcode o))
      → HoldsCall s frame (or_meaningless (option_map (call_op links s opcode) o))
  invoked links opcode None holds = tt
  invoked links opcode (Some r) holds = called links r opcode holds

  -- the row of an item that is a call on an object is that of the call
  pub holds_call : (links : Links) (numbered : ℕ → ℕ) (place : ℕ) (item : CodeItem) → RowHolds s frame (access_aside (item_row s frame place item))
      → HoldsCall s frame (item_op links numbered s item)
  holds_call links numbered place (item_null_test local) holds = tt
  holds_call links numbered place (item_instr (instrs.Invoke opcode index count)) holds =
      invoked links opcode (reference_of s.pool (constant_at s.pool index)) holds
  holds_call links numbered place (item_instr (instrs.Dynamic index)) holds = dynamic (constant_at s.pool index)
  holds_call links numbered place (item_instr (instrs.Ldc index)) holds = constant s.pool (constant_at s.pool index)
  holds_call links numbered place (item_instr (instrs.Ldc2 index)) holds = constant s.pool (constant_at s.pool index)
  holds_call links numbered place (item_instr (instrs.ArrayLoad opcode)) holds =
      tested (nat_le IALOAD opcode && nat_le opcode SALOAD) (load_element opcode) tt
  holds_call links numbered place (item_instr (instrs.ArrayStore opcode)) holds =
      tested (nat_le IASTORE opcode && nat_le opcode SASTORE) (store_element opcode) tt
  holds_call links numbered place (item_instr (instrs.If opcode target)) holds =
      tested (nat_le IFEQ opcode && nat_le opcode IFLE) (jump_by_int opcode (numbered target)) tt
  holds_call links numbered place (item_instr (instrs.If2 opcode target)) holds =
      tested (nat_le IF_ICMPEQ opcode && nat_le opcode IF_ICMPLE) (jump_by_ints opcode (numbered target)) tt
  holds_call links numbered place (item_instr (instrs.IfSame opcode target)) holds =
      tested (nat_le IF_ACMPEQ opcode && nat_le opcode IF_ACMPNE) (jump_by_references opcode (numbered target)) tt
  holds_call links numbered place (item_instr (instrs.IfNull opcode target)) holds =
      tested (nat_le IFNULL opcode && nat_le opcode IFNONNULL) (jump_by_null opcode (numbered target)) tt
  holds_call links numbered place (item_instr (instrs.Return kind)) holds = returned s.result kind
  holds_call links numbered place (item_instr (instrs.GetStatic index)) holds =
      found (reference_of s.pool (constant_at s.pool index)) get_static (λ r. tt)
  holds_call links numbered place (item_instr (instrs.PutStatic index)) holds =
      found (reference_of s.pool (constant_at s.pool index)) (λ r. put_static r (initialises s.is_clinit s.own)) (λ r. tt)
  holds_call links numbered place (item_instr (instrs.GetField index)) holds =
      found (reference_of s.pool (constant_at s.pool index)) get_field (λ r. tt)
  holds_call links numbered place (item_instr (instrs.PutField index)) holds =
      found (reference_of s.pool (constant_at s.pool index)) (λ r. put_field r (initialises s.is_init s.own)) (λ r. tt)
  holds_call links numbered place (item_instr (instrs.New index)) holds = found (class_at s.pool index) new_object (λ r. tt)
  holds_call links numbered place (item_instr (instrs.NewArray code)) holds = found (primitive_array code) new_array (λ r. tt)
  holds_call links numbered place (item_instr (instrs.NewRefArray index)) holds = found (array_of (class_at s.pool index)) new_array (λ r. tt)
  holds_call links numbered place (item_instr (instrs.NewMulti index dimensions)) holds =
      found (class_at s.pool index) (λ name. new_arrays name dimensions) (λ r. tt)
  holds_call links numbered place (item_instr (instrs.Cast index)) holds = found (class_at s.pool index) check_cast (λ r. tt)
  holds_call links numbered place (item_instr (instrs.InstanceOf index)) holds = found (class_at s.pool index) instance_of (λ r. tt)
  holds_call links numbered place item holds = tt

-- ---- the receiver

reversed : {A : Type 0} (n : ℕ) (xs : List A) → reverse xs ≡ reverse (drop n xs) ++ reverse (take n xs)
reversed n xs = sym (ap reverse (take-append-drop n xs)) ∙ reverse-append (take n xs) (drop n xs)

below_length : {A : Type 0} (n : ℕ) (xs : List A) → length (reverse (drop n xs)) ≡ length xs - n
below_length n xs = length-reverse (drop n xs) ∙ length-drop n xs

top_is : {A : Type 0} (n : ℕ) (xs : List A) → drop (length xs - n) (reverse xs) ≡ reverse (take n xs)
top_is n xs = ap (drop (length xs - n)) (reversed n xs) ∙ drop_at (reverse (drop n xs)) (reverse (take n xs)) (length xs - n) (below_length n xs)

as_many : {P : Program} {s : RowScope} {h : Heap} {ts : List VType} {vs : List Value} → AllConform P s h ts vs → length ts ≡ length vs
as_many no_values = refl
as_many (and_value one others) = ap suc (as_many others)

conform_drop : {P : Program} {s : RowScope} {h : Heap} {ts : List VType} {vs : List Value} (n : ℕ) → AllConform P s h ts vs
    → AllConform P s h (drop n ts) (drop n vs)
conform_drop zero all = all
conform_drop (suc n) no_values = no_values
conform_drop (suc n) (and_value one others) = conform_drop n others

-- The lowest operand of a call on an object, and its type.
pub record TypedReceiver (P : Program) (t : RowScope) (heap : Heap) (s : RowScope) (need : Need) (frame : Frame) (r : Reference) (vs : List Value)
    : Type 0 where
  pub type : VType
  pub value : Value
  pub others : List Value
  pub are : vs ≡ value ∷ others
  pub fits : Fits s need type
  pub conforms : Conforms P t heap type value
  pub lowest : receiver frame r.desc ≡ type

module _ {P : Program} {t : RowScope} {heap : Heap} (s : RowScope) (need : Need) (frame : Frame) (r : Reference) where
  first_of : (ts : List VType) {vs : List Value} → topmost (with_receiver_count r) frame.stack ≡ ts → AllFit s (need ∷ argument_needs r.desc) ts
      → AllConform P t heap ts vs → TypedReceiver P t heap s need frame r vs
  first_of [] top fit all = absurd fit
  first_of (type ∷ ts) top fit (and_value {value = v} {values = vs} c others) = record {
    type = type;
    value = v;
    others = vs;
    are = refl;
    fits = fit.0;
    conforms = c;
    lowest = rw top refl;
  }

  pub typed_receiver : (f : MethodState) → AllFit s (need ∷ argument_needs r.desc) (topmost (length (need ∷ argument_needs r.desc)) frame.stack)
      → AllConform P t heap frame.stack (reverse f.stack)
      → TypedReceiver P t heap s need frame r (operands_of (with_receiver_count r) f)
  typed_receiver f fit all =
      let needs : length (argument_needs r.desc) ≡ length (parameters_of r.desc) = length-map (parameters_of r.desc) _ in
      let counts : length (need ∷ argument_needs r.desc) ≡ with_receiver_count r = omega (arith, needs) in
      let many : length frame.stack ≡ length f.stack = as_many all ∙ length-reverse f.stack in
      let here : AllFit s (need ∷ argument_needs r.desc) (topmost (with_receiver_count r) frame.stack) =
      subst (λ n. AllFit s (need ∷ argument_needs r.desc) (topmost n frame.stack)) counts fit in
      let dropped = conform_drop (length frame.stack - with_receiver_count r) all in
      first_of (topmost (with_receiver_count r) frame.stack) refl here
      (subst (λ vs. AllConform P t heap (topmost (with_receiver_count r) frame.stack) vs)
      (ap (λ k. drop (k - with_receiver_count r) (reverse f.stack)) many ∙ top_is (with_receiver_count r) f.stack) dropped)

-- ---- the receiver of an instance initialiser

-- a reference to an object of the heap that is none of the library
pub record IsInnerObject (heap : Heap) (v : Value) : Type 0 where
  pub reference : ℕ
  pub is : v ≡ values.Ref reference
  pub object : Object
  pub there : object_at heap reference ≡ Some object
  pub inside : is_external object.shape ≡ false

-- an object of a class of the folder is none of the library
inside_folder : (P : Program) (heap : Heap) (shape : Shape) (vs : List Value) (name : Name) (n : ℕ) → HoldsShape P heap shape vs
    → class_of_shape P shape ≡ name → folder_number P name ≡ Some n → is_external shape ≡ false
inside_folder P heap (shapes.Folder class) vs name n holds same number = refl
inside_folder P heap (shapes.Array desc len) vs name n holds same number = refl
inside_folder P heap (shapes.External class also) vs name n holds same number =
    let no : None ≡ Some n = sym holds.of_library ∙ ap (folder_number P) same ∙ number in absurd cc

pub init_object : {P : Program} {t : RowScope} {heap : Heap} {type : VType} {v : Value} (s : RowScope) (r : Reference) (n : ℕ)
    → ((reference : ℕ) (object : Object) → object_at heap reference ≡ Some object → HoldsShape P heap object.shape object.values)
    → ((at : ℕ) → s.new_class at ≡ t.new_class at) → folder_number P r.class ≡ Some n
    → Conforms P t heap type v → MayInitialise s r type → IsInnerObject heap v
init_object {P = P} {heap = heap} s r n objects news number
    (of_new {at = at} {reference = reference} {name = name} {shape = shape} new has class) may =
    let same : Some name ≡ Some r.class = sym new ∙ sym (news at) ∙ may in
    let one : name ≡ r.class = cc in
    let own : class_of_shape P has.object.shape ≡ r.class = ap (class_of_shape P) has.same ∙ class ∙ one in
    record {
      reference = reference;
      is = refl;
      object = has.object;
      there = has.is_there;
      inside = inside_folder P heap has.object.shape has.object.values r.class n (objects reference has.object has.is_there) own number;
    }
init_object s r n objects news number (of_this {reference = reference} {class = class} has below) may = record {
  reference = reference;
  is = refl;
  object = has.object;
  there = has.is_there;
  inside = ap is_external has.same;
}
init_object s r n objects news number c may = absurd may
