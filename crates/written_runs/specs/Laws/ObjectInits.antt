-- Where flat code calls the initialiser of java/lang/Object, it does so by invokespecial and without arguments: the class has one initialiser, which has
-- neither parameters nor a result.
use Rattle.std.proofs.Common.{◌≡◌, ◌||◌, ◌&&◌, not, ℕ, zero, suc, Bool, true, false, List, [], ◌∷◌, filter, length, bytes_eq, codes, slice_get, Option, Some, None, IfSome, option_and_then, option_map, refl, sym, ap, subst, ◌∙◌, arith, inl, inr}
use Rattle.std.specs.List.{list_any}
use Rattle.std.proofs.lemmas.Bool.{and_parts, false≢true}
use Rattle.std.proofs.lemmas.List.Sums.{length-filter}
use Rattle.std.proofs.lemmas.Option.{none-some, same_Some}
use Rattle.std.proofs.lemmas.Slice.Eq.{bytes_eq-Decides}
use Rattle.class_model.specs.Checks.{AllHold}
use Rattle.class_model.specs.Code.{IsCalled}
use Rattle.class_model.specs.Descriptors.{parameters_of, types_before}
use Rattle.class_model.specs.Header.{header_of}
use Rattle.class_model.specs.Laws.Lists.{at_index}
use Rattle.class_model.specs.Members.{PUBLIC, STATIC, has as flags_have}
use Rattle.class_model.specs.Names.{init}
use Rattle.class_model.specs.Pool.{Constants, constant_at}
use Rattle.class_model.specs.PoolChecks.{IsInterfaceConstant, IsMethodConstant}
use Rattle.class_model.specs.declared.class_file.MethodAt.{MethodAt}
use Rattle.class_model.specs.declared.header.Header.{Header}
use Rattle.class_model.specs.declared.header.Member.{Member}
use Rattle.class_model.specs.declared.instr.Instr.TheVariants.{Invoke}
use Rattle.class_model.specs.declared.opcodes.TheConstants.{INVOKESPECIAL}
use Rattle.class_model.specs.declared.pool.Const.{Const}
use Rattle.class_model.specs.declared.pool.Const.TheVariants.{InterfaceMethodref, Methodref}
use Rattle.class_tree.specs.Headers.{Headers, Name, class_named, headers_of}
use Rattle.class_tree.specs.Names.{is_member, method_handle, object}
use Rattle.class_tree.specs.Steps.{HasOneConstructor, is_open_constructor}
use Rattle.flow_code.specs.declared.point.FlatInstr.TheVariants.{Of}
use Rattle.flow_code.specs.declared.point.Point.{Point}
use Rattle.member_link.specs.Declarations.{site_of}
use Rattle.member_link.specs.DeclaredMembers.{Declared, declared, declared_by, own_method}
use Rattle.member_link.specs.Forms.{FitsCall}
use Rattle.member_link.specs.Laws.OwnMembers.{own_of_declared}
use Rattle.member_link.specs.Machine.CallSteps.{is_object_init}
use Rattle.member_link.specs.Methods.{FindsMethod, initialiser, of_array, of_class, polymorphic}
use Rattle.member_link.specs.References.{Reference, reference_at}
use Rattle.member_link.specs.Signatures.{reference_of, result_of}
use Rattle.member_link.specs.Uses.{UseScope, asked_of_reference, method_use_checks, methodref_use_checks}
use Rattle.plan_flow.specs.PlanScope.{member_of}
use Rattle.plan_flow.specs.Written.WrittenPrograms.{WrittenMethod}
use Rattle.same_runs.specs.Flats.{pool_of}
use Rattle.same_runs.specs.ReadyCode.{IsReadyInstr, IsReadyItem}
use Rattle.written_runs.specs.Laws.FittingRows.{CallsObject}
use Rattle.written_runs.specs.Inner.PlannedFrames.{scope_in}
use Rattle.written_runs.specs.Inner.Setup.{IsSetup, Setup}
use Rattle.written_runs.specs.Laws.FolderFacts.{object_has}

-- ---- the descriptor ()V

no_parameters : parameters_of (codes "()V") ≡ []
unfolding types_before
no_parameters = refl

no_result : result_of (codes "()V") ≡ None
unfolding types_before
no_result = refl

-- ---- one that passes

any_there : {A : Type 0} (test : A → Bool) (items : List A) → list_any test items ≡ true
    → (n : ℕ) × (item : A) × (slice_get items n ≡ Some item) × (test item ≡ true)
any_there test [] any = absurd (false≢true any)
any_there {A} test (first ∷ items) any = by (test first) refl any (any_there test items) where
  by : (b : Bool) → test first ≡ b → (b || list_any test items) ≡ true
      → (list_any test items ≡ true → (n : ℕ) × (item : A) × (slice_get items n ≡ Some item) × (test item ≡ true))
      → (n : ℕ) × (item : A) × (slice_get (first ∷ items) n ≡ Some item) × (test item ≡ true)
  by true passes any below = (zero, first, refl, passes)
  by false fails any below = let rest = below any in (suc rest.0, rest.1, rest.2, rest.3)

filtered_there : {A : Type 0} (test : A → Bool) (items : List A) (n : ℕ) (item : A) → slice_get items n ≡ Some item → test item ≡ true
    → (m : ℕ) × (slice_get (filter test items) m ≡ Some item)
filtered_there test [] n item is passes = absurd (none-some item is)
filtered_there {A} test (first ∷ items) zero item is passes =
    let own : test first ≡ true = ap test (same_Some first item is) ∙ passes in
    (zero, rw own is)
filtered_there {A} test (first ∷ items) (suc n) item is passes = by (test first) refl (filtered_there test items n item is passes) where
  by : (b : Bool) → test first ≡ b → (m : ℕ) × (slice_get (filter test items) m ≡ Some item)
      → (m : ℕ) × (slice_get (filter test (first ∷ items)) m ≡ Some item)
  by true own below = (suc below.0, rw own (below.1))
  by false own below = (below.0, rw own (below.1))

one_alone : {A : Type 0} (items : List A) → length items ≡ 1 → (m n : ℕ) (one other : A) → slice_get items m ≡ Some one
    → slice_get items n ≡ Some other
    → one ≡ other
one_alone [] long m n one other is also = absurd (none-some one is)
one_alone (first ∷ second ∷ items) long m n one other is also = absurd (omega (arith, long))
one_alone (first ∷ []) long zero zero one other is also = sym (same_Some first one is) ∙ same_Some first other also
one_alone (first ∷ []) long (suc m) n one other is also = absurd (none-some one is)
one_alone (first ∷ []) long zero (suc n) one other is also = absurd (none-some other also)

-- ---- the initialiser that is found

same_desc : (header : Header) → HasOneConstructor header → (desc : List ℕ) (member : Member) → declared init desc header.methods ≡ Some member
    → desc ≡ codes "()V"
same_desc header has desc member is =
    let own = own_of_declared init desc header.methods member is in
    let first_open = any_there is_open_constructor header.methods has.callable in
    let parts = and_parts (is_member init (codes "()V") first_open.1 && has_flag first_open.1) (no_static first_open.1) first_open.3 in
    let first = and_parts (is_member init (codes "()V") first_open.1) (has_flag first_open.1) parts.0 in
    let names = and_parts (bytes_eq init first_open.1.name) (bytes_eq (codes "()V") first_open.1.desc) first.0 in
    let named : bytes_eq init member.name ≡ true = (bytes_eq-Decides init member.name).1 (sym own.3) in
    let one = filtered_there (λ (m : Member). bytes_eq init m.name) header.methods own.0 member own.2 named in
    let other = filtered_there (λ (m : Member). bytes_eq init m.name) header.methods first_open.0 first_open.1 first_open.2 names.0 in
    let same : member ≡ first_open.1 =
    one_alone (filter (λ (m : Member). bytes_eq init m.name) header.methods)
    (length-filter (λ (m : Member). bytes_eq init m.name) header.methods ∙ has.once) one.0 other.0 member first_open.1 one.1 other.1 in
    sym own.4 ∙ ap (λ (m : Member). m.desc) same ∙ sym ((bytes_eq-Decides (codes "()V") first_open.1.desc).0 names.1) where
      has_flag : Member → Bool
      has_flag member = flags_have member.flags PUBLIC

      no_static : Member → Bool
      no_static member = not (flags_have member.flags STATIC)

no_handle : object ≡ method_handle → ⊥
no_handle is =
    let same : bytes_eq object method_handle ≡ true = (bytes_eq-Decides object method_handle).1 is in
    false≢true same

module _ (headers : Headers) (has_one : IfSome (class_named headers object) HasOneConstructor) where
  of_header : (desc : List ℕ) (method : Declared) (found : Option Header) → IfSome found HasOneConstructor
      → option_and_then (λ (header : Header). option_map (declared_by object) (declared init desc header.methods)) found ≡ Some method
      → desc ≡ codes "()V"
  of_header desc method None has is = absurd (none-some method is)
  of_header desc method (Some header) has is = by (declared init desc header.methods) refl is where
    by : (found : Option Member) → declared init desc header.methods ≡ found → option_map (declared_by object) found ≡ Some method
        → desc ≡ codes "()V"
    by None none is = absurd (none-some method is)
    by (Some member) some is = same_desc header has desc member some

  found_desc : {class : Name} {name desc : List ℕ} {found : Option Declared} → FindsMethod headers class name desc found
      → class ≡ object
      → name ≡ init
      → (method : Declared) → found ≡ Some method
      → desc ≡ codes "()V"
  found_desc {class = owner} {desc = desc} (initialiser named) class name method is =
      of_header desc method (class_named headers object) has_one
      (subst (λ (c : Name). own_method headers c init desc ≡ Some method) class
      (subst (λ (n : List ℕ). own_method headers owner n desc ≡ Some method) name is))
  found_desc (polymorphic poly) class name method is = absurd (no_handle (sym class ∙ poly.0))
  found_desc (of_array found other array finds) class name method is = absurd (other name)
  found_desc (of_class found other flat apart finds) class name method is = absurd (other name)

-- ---- a linked call

-- a method of a class or of an interface
abbrev IsMethodOrInterface : Option Const → Type 0
IsMethodOrInterface (Some (Methodref owner member)) = Unit {0}
IsMethodOrInterface (Some (InterfaceMethodref owner member)) = Unit {0}
IsMethodOrInterface constant = ⊥

of_method : (constant : Option Const) → IsMethodConstant constant → IsMethodOrInterface constant
of_method (Some (Methodref owner member)) is = tt
of_method None is = absurd is
of_method (Some other) is = absurd is

of_interface : (constant : Option Const) → IsInterfaceConstant constant → IsMethodOrInterface constant
of_interface (Some (InterfaceMethodref owner member)) is = tt
of_interface None is = absurd is
of_interface (Some other) is = absurd is

called : (pool : Constants) (major opcode index count : ℕ) → IsCalled pool major opcode index count → IsMethodOrInterface (constant_at pool index)
called pool major opcode index count (inl virtual) = of_method (constant_at pool index) virtual.1
called pool major opcode index count (inr (inl interface)) = of_interface (constant_at pool index) interface.1
called pool major opcode index count (inr (inr (special))) = elim (special.1) [
  | inl method ↦ of_method (constant_at pool index) method
  | inr interface ↦ of_interface (constant_at pool index) interface.1
]

module _ (s : UseScope) (has_one : IfSome (class_named s.headers object) HasOneConstructor) (opcode index count : ℕ) where
  of_reference : (constant : Option Const) (r : Reference) → r.class ≡ object → r.name ≡ init
      → AllHold (method_use_checks s (FitsCall s.headers opcode constant) r)
      → CallsObject opcode r
  of_reference constant r class name held =
      let found = held.1.1.0 in
      let fits = held.1.1.1.0 found.0 found.1 in
      let desc = found_desc s.headers has_one found.1 class name found.0 refl in
      record {
        special = fits.initialiser name;
        no_parameters = ap parameters_of desc ∙ no_parameters;
        no_result = ap result_of desc ∙ no_result;
      }

  asked_reference : (constant : Option Const) (found : Option Reference) (r : Reference) → found ≡ Some r → r.class ≡ object → r.name ≡ init
      → AllHold (asked_of_reference (method_use_checks s (FitsCall s.headers opcode constant)) found)
      → CallsObject opcode r
  asked_reference constant None r is class name held = absurd (none-some r is)
  asked_reference constant (Some one) r is class name held =
      of_reference constant r class name
      (subst (λ (x : Reference). AllHold (method_use_checks s (FitsCall s.headers opcode constant) x)) (same_Some one r is) held)

  of_constant : (constant : Option Const) → IsMethodOrInterface constant → (r : Reference) → reference_of s.pool constant ≡ Some r
      → r.class ≡ object
      → r.name ≡ init
      → AllHold (methodref_use_checks s (FitsCall s.headers opcode constant) constant)
      → CallsObject opcode r
  of_constant None may r is class name held = absurd may
  of_constant (Some (Methodref owner member)) may r is class name held =
      asked_reference (Some (Methodref owner member)) (reference_at s.pool owner member) r is class name held
  of_constant (Some (InterfaceMethodref owner member)) may r is class name held =
      asked_reference (Some (InterfaceMethodref owner member)) (reference_at s.pool owner member) r is class name held
  of_constant (Some other) may r is class name held = absurd may

-- ---- in flat code

pub object_calls : (u : Setup) → IsSetup u
    → (at : MethodAt) (w : WrittenMethod) (place : ℕ) (point : Point) (class opcode index count : ℕ) (r : Reference)
    → u.written at ≡ Some w
    → slice_get w.flat.points place ≡ Some point
    → point.instr ≡ Of class (Invoke opcode index count)
    → member_of (scope_in u w) class index ≡ Some r
    → is_object_init r ≡ true
    → CallsObject opcode r
object_calls u setup at w place point class opcode index count r written there instr names init_is =
    of_constant (record { headers = headers_of u.classes; pool = ready.file.pool; site = site_of (header_of ready.file) no_member })
    (object_has u.classes setup.tree class ready.file ready.there) opcode index count (constant_at ready.file.pool index)
    (called ready.file.pool ready.file.major opcode index count ready.operand) r
    (subst (λ (constants : Constants). reference_of constants (constant_at constants index) ≡ Some r) pool names)
    ((bytes_eq-Decides r.class object).0 named.0) ((bytes_eq-Decides r.name init).0 named.1)
    (ready.linked no_member) where
      no_member : Member
      no_member = record { flags = 0; name = []; desc = [] }

      ready : IsReadyInstr u.classes w.flat.locals class (Invoke opcode index count)
      ready =
          subst (IsReadyItem u.classes w.flat.locals) instr
          (at_index (λ (p : Point). IsReadyItem u.classes w.flat.locals p.instr) w.flat.points place point
          (setup.ready at w written).code.points there)

      pool : pool_of u.classes class ≡ ready.file.pool
      pool = rw (ready.there) refl

      named : (bytes_eq r.class object ≡ true) × (bytes_eq r.name init ≡ true)
      named = and_parts (bytes_eq r.class object) (bytes_eq r.name init) init_is

pub object_inits : (u : Setup) → IsSetup u
    → (at : MethodAt) (w : WrittenMethod) (place : ℕ) (point : Point) (class opcode index count : ℕ) (r : Reference)
    → u.written at ≡ Some w
    → slice_get w.flat.points place ≡ Some point
    → point.instr ≡ Of class (Invoke opcode index count)
    → member_of (scope_in u w) class index ≡ Some r
    → is_object_init r ≡ true
    → (opcode ≡ INVOKESPECIAL) × (parameters_of r.desc ≡ [])
object_inits u setup at w place point class opcode index count r written there instr names init_is =
    let calls = object_calls u setup at w place point class opcode index count r written there instr names init_is in
    (calls.special, calls.no_parameters)
