-- The call of the constructor above in a field constructor, and that its instructions are small.
use Rattle.std.proofs.Common.{◌≡◌, ◌≢◌, ◌++◌, ◌+◌, ◌*◌, ◌^◌, ◌≤◌, ◌<◌, ◌∙◌, ℕ, zero, suc, Bool, true, false, List, [], ◌∷◌, bytes_eq, codes, length, map, Option, Some, None, inl, if◌then◌else◌, refl, sym, ap, subst, arith, length-append}
use Rattle.std.specs.List.{AllByRecursion, flat_map}
use Rattle.std.specs.Prelude.{nat_lt}
use Rattle.std.proofs.lemmas.Bool.{false≢true}
use Rattle.std.proofs.lemmas.Grind.{flat_map-append}
use Rattle.class_model.specs.Spelling.{u2}
use Rattle.std.proofs.lemmas.List.{length-map, map-append}
use Rattle.std.proofs.lemmas.Option.{none-some}
use Rattle.std.proofs.lemmas.Slice.Eq.{bytes_eq-Decides}
use Rattle.class_model.specs.Code.{verification_type}
use Rattle.class_model.specs.Descriptors.{kind_of, parameters_of, type_of, types_before, units_of}
use Rattle.class_model.specs.Frames.{depth, units}
use Rattle.class_model.specs.Names.{init}
use Rattle.class_model.specs.Pool.{Constants, constant_at}
use Rattle.class_model.specs.declared.descriptor.FieldType.{FieldType}
use Rattle.class_model.specs.declared.descriptor.Kind.{Kind}
use Rattle.class_model.specs.declared.descriptor.Kind.TheVariants as kinds
use Rattle.class_model.specs.declared.frame.VType.{VType}
use Rattle.class_model.specs.declared.frame.VType.TheVariants as types
use Rattle.class_model.specs.declared.header.Member.{Member}
use Rattle.class_model.specs.declared.instr.Imm.TheVariants as imms
use Rattle.class_model.specs.declared.instr.Instr.{Instr}
use Rattle.class_model.specs.declared.instr.Instr.TheVariants.{Const, Invoke, Load, PutField, Return}
use Rattle.class_model.specs.declared.opcodes.TheConstants.{ILOAD, ILOAD_0, INVOKESPECIAL, WIDE}
use Rattle.class_model.specs.declared.pool.Const.{Const as Constant}
use Rattle.class_tree.specs.Headers.{Name, Headers}
use Rattle.class_tree.specs.Layouts.{instance_fields}
use Rattle.class_tree.specs.Names.{object}
use Rattle.code_bytes.specs.Forms.{instr_bytes, kind_index}
use Rattle.making_code.specs.Constants.{MemberKind, index_in, needs_member, of_method, reference_of_kind}
use Rattle.making_code.specs.ConstructorCode.{depth_of_call, indexed_instr}
use Rattle.making_code.specs.FieldConstructor.{CInstr, calls_constructor, calls_object, loads_from, puts_from, simple, super_call, units_of_fields}
use Rattle.member_link.specs.RowScope.{RowScope}
use Rattle.member_link.specs.Rows.MemberRows.{NoUninitThis, argument_needs}
use Rattle.member_link.specs.Rows.Operands.{AllFit, Need, assignable_to}
use Rattle.written_files.proofs.FieldConstructors.Bytes.{IsSmall}
use Rattle.written_files.proofs.FieldConstructors.Constants.{Names, Refers, refers_by}
use Rattle.making_code.specs.Laws.MeantConstants.{NamesMember}
use Rattle.written_files.proofs.FieldConstructors.Sequences.{arguments_fit, entries, entries_deep, held, loads_steps, no_this}
use Rattle.written_files.proofs.FieldConstructors.Steps.{Steps, call_step, framed, load_step, null_step, steps_both}
use Rattle.written_files.specs.FieldConstructors.{IsDescribed}

-- ---- the call

module _ (headers : Headers) (constructor : Name → List ℕ) (t : RowScope) (pool : Constants) (fields : List Member) (last : VType)
    (above : Name) (superclass : t.own.super_name ≡ Some above) (own : List Member)
    (are : fields ≡ instance_fields headers above ++ own)
    (one : NoUninitThis (last ∷ [])) where
  abbrev before : List VType
  before = held t pool constructor fields types.UninitThis last

  abbrev after : List VType
  after = held t pool constructor fields (types.Object t.own.name) last

  none : NoUninitThis (flat_map units (entries fields) ++ last ∷ [])
  none = no_this fields (last ∷ []) one

  object_steps : above ≡ object → 1 ≤ t.max_stack
      → Refers t.pool (index_in pool (needs_member of_method object init (codes "()V"))) object init (codes "()V")
      → Steps t (map (indexed_instr pool constructor) (simple (Load kinds.Ref 0) ∷ calls_object ∷ [])) (framed before []) (framed after [])
  unfolding types_before
  object_steps is deep refers = (
    framed before (types.UninitThis ∷ []),
    load_step t kinds.Ref 0 before [] types.UninitThis refl tt (omega (arith, deep)),
    (
      framed after [],
      call_step t (index_in pool (needs_member of_method object init (codes "()V"))) object (codes "()V") refers (superclass ∙ ap Some is) refl
          (flat_map units (entries fields) ++ last ∷ []) [] tt refl none,
      refl,
    ),
  )

  abbrev loaded : List VType
  loaded = entries (instance_fields headers above)

  above_deep : depth (types.UninitThis ∷ (loaded ++ types.Null ∷ [])) ≡ 1 + units_of_fields (instance_fields headers above) + 1
  above_deep =
      let both : depth (loaded ++ types.Null ∷ []) ≡ depth loaded + 1 =
      ap (λ (all : List VType). length all) (flat_map-append units loaded (types.Null ∷ []))
      ∙ length-append (flat_map units loaded) (flat_map units (types.Null ∷ [])) in
      let count = entries_deep (instance_fields headers above) in
      omega (arith, both, count)

  front_deep : depth (types.UninitThis ∷ loaded) ≡ 1 + units_of_fields (instance_fields headers above)
  front_deep = let count = entries_deep (instance_fields headers above) in omega (arith, count)

  above_steps : IsDescribed headers constructor above → 1 + units_of_fields (instance_fields headers above) + 1 ≤ t.max_stack
      → Refers t.pool (index_in pool (needs_member of_method above init (constructor above))) above init (constructor above)
      → Steps t (map (indexed_instr pool constructor) (((simple (Load kinds.Ref 0) ∷ []) ++ loads_from 1 (instance_fields headers above))
      ++ (simple (Const imms.Null) ∷ calls_constructor above ∷ []))) (framed before []) (framed after [])
  above_steps described deep refers =
      let types_are : argument_needs (constructor above)
      ≡ map (λ (param : FieldType). assignable_to (verification_type param))
      (map (λ (field : Member). type_of field.desc) (instance_fields headers above) ++ described.last ∷ []) =
      ap (map (λ (param : FieldType). assignable_to (verification_type param))) described.parameters in
      let fit : AllFit t (argument_needs (constructor above)) (loaded ++ types.Null ∷ []) =
      subst (λ (needs : List Need). AllFit t needs (loaded ++ types.Null ∷ [])) (sym types_are)
      (arguments_fit t (map (λ (field : Member). type_of field.desc) (instance_fields headers above)) described.last described.is_reference) in
      let count : length (loaded ++ types.Null ∷ []) ≡ length (parameters_of (constructor above)) =
      length-append loaded (types.Null ∷ [])
      ∙ ap (λ (n : ℕ). n + 1) (length-map (map (λ (field : Member). type_of field.desc) (instance_fields headers above)) verification_type)
      ∙ sym (length-append (map (λ (field : Member). type_of field.desc) (instance_fields headers above)) (described.last ∷ []))
      ∙ ap (λ (all : List FieldType). length all) (sym described.parameters) in
      let first : Steps t (map (indexed_instr pool constructor) (simple (Load kinds.Ref 0) ∷ loads_from 1 (instance_fields headers above)))
      (framed before []) (framed before (types.UninitThis ∷ loaded)) = (
        framed before (types.UninitThis ∷ []),
        load_step t kinds.Ref 0 before [] types.UninitThis refl tt (omega (arith, deep)),
        loads_steps t pool constructor fields types.UninitThis last [] (instance_fields headers above) own (types.UninitThis ∷ []) 1 are refl
            (let front = front_deep in omega (arith, deep, front)),
      ) in
      let second : Steps t (map (indexed_instr pool constructor) (simple (Const imms.Null) ∷ calls_constructor above ∷ []))
      (framed before (types.UninitThis ∷ loaded)) (framed after []) = (
        framed before (types.UninitThis ∷ (loaded ++ types.Null ∷ [])),
        null_step t before (types.UninitThis ∷ loaded) (let all = above_deep in omega (arith, deep, all)),
        (
          framed after [],
          call_step t (index_in pool (needs_member of_method above init (constructor above))) above (constructor above) refers superclass
              described.no_result (flat_map units (entries fields) ++ last ∷ []) (loaded ++ types.Null ∷ []) fit count none,
          refl,
        ),
      ) in
      subst (λ (instrs : List Instr). Steps t instrs (framed before []) (framed after []))
      (sym (map-append (indexed_instr pool constructor) (simple (Load kinds.Ref 0) ∷ loads_from 1 (instance_fields headers above))
      (simple (Const imms.Null) ∷ calls_constructor above ∷ [])))
      (steps_both t (map (indexed_instr pool constructor) (simple (Load kinds.Ref 0) ∷ loads_from 1 (instance_fields headers above)))
      (map (indexed_instr pool constructor) (simple (Const imms.Null) ∷ calls_constructor above ∷ []))
      (framed before []) (framed before (types.UninitThis ∷ loaded)) (framed after []) first second)

  names_last : (front back : List CInstr) → AllByRecursion (Names constructor pool t.pool) (front ++ back)
      → AllByRecursion (Names constructor pool t.pool) back
  names_last [] back all = all
  names_last (item ∷ front) back all = names_last front back all.1

  pub call_steps : (above ≢ object → IsDescribed headers constructor above) → depth_of_call headers (Some above) ≤ t.max_stack
      → AllByRecursion (Names constructor pool t.pool) (super_call headers above)
      → Steps t (map (indexed_instr pool constructor) (super_call headers above)) (framed before []) (framed after [])
  call_steps described deep names = by (bytes_eq above object) refl where
    by : (b : Bool) → bytes_eq above object ≡ b
        → Steps t (map (indexed_instr pool constructor) (super_call headers above)) (framed before []) (framed after [])
    by true e =
        let is : above ≡ object = (bytes_eq-Decides above object).0 e in
        let items : super_call headers above ≡ simple (Load kinds.Ref 0) ∷ calls_object ∷ [] = rw (e) refl in
        let room : depth_of_call headers (Some above) ≡ 1 = rw (e) refl in
        let known : AllByRecursion (Names constructor pool t.pool) (simple (Load kinds.Ref 0) ∷ calls_object ∷ []) =
        subst (AllByRecursion (Names constructor pool t.pool)) items names in
        subst (λ (all : List CInstr). Steps t (map (indexed_instr pool constructor) all) (framed before []) (framed after [])) (sym items)
        (object_steps is (omega (arith, deep, room)) (refers_by t.pool (index_in pool (needs_member of_method object init (codes "()V"))) of_method object init (codes "()V") known.1.0))
    by false e =
        let front : List CInstr = (simple (Load kinds.Ref 0) ∷ []) ++ loads_from 1 (instance_fields headers above) in
        let items : super_call headers above ≡ front ++ (simple (Const imms.Null) ∷ calls_constructor above ∷ []) = rw (e) refl in
        let room : depth_of_call headers (Some above) ≡ 1 + units_of_fields (instance_fields headers above) + 1 = rw (e) refl in
        let apart : above ≢ object = λ same. absurd (false≢true (sym e ∙ (bytes_eq-Decides above object).1 same)) in
        let known : AllByRecursion (Names constructor pool t.pool) (simple (Const imms.Null) ∷ calls_constructor above ∷ []) =
        names_last front (simple (Const imms.Null) ∷ calls_constructor above ∷ []) (subst (AllByRecursion (Names constructor pool t.pool)) items names) in
        subst (λ (all : List CInstr). Steps t (map (indexed_instr pool constructor) all) (framed before []) (framed after [])) (sym items)
        (above_steps (described apart) (omega (arith, deep, room))
        (refers_by t.pool (index_in pool (needs_member of_method above init (constructor above))) of_method above init (constructor above) known.1.0))

-- ---- small instructions

of_tests : (one other : Bool) (xs ys zs : List ℕ) → length xs ≤ 4 → length ys ≤ 4 → length zs ≤ 4
    → length (if one then xs else if other then ys else zs) ≤ 4
of_tests true other xs ys zs first second third = first
of_tests false true xs ys zs first second third = second
of_tests false false xs ys zs first second third = third

small_load : (kind : Kind) (unit : ℕ) → unit < 2 ^ 16 → IsSmall (Load kind unit)
unfolding instr_bytes
small_load kind unit within = record {
  no_targets = refl;
  form = λ at. tt;
  numbers = within;
  short = λ at. of_tests (nat_lt unit 4) (nat_lt unit 256) ((ILOAD_0 + 4 * kind_index kind + unit) ∷ [])
      ((ILOAD + kind_index kind) ∷ unit ∷ []) (WIDE ∷ (ILOAD + kind_index kind) ∷ u2 unit)
      (omega arith) (omega arith) (omega arith);
}

small_null : IsSmall (Const imms.Null)
unfolding instr_bytes
small_null = record { no_targets = refl; form = λ at. tt; numbers = tt; short = λ at. omega arith }

pub small_return : IsSmall (Return None)
unfolding instr_bytes
small_return = record { no_targets = refl; form = λ at. tt; numbers = tt; short = λ at. omega arith }

small_put : (index : ℕ) → index < 2 ^ 16 → IsSmall (PutField index)
unfolding instr_bytes
small_put index within = record { no_targets = refl; form = λ at. tt; numbers = within; short = λ at. omega arith }

small_call : (index : ℕ) → index < 2 ^ 16 → IsSmall (Invoke INVOKESPECIAL index 0)
unfolding instr_bytes
small_call index within = record { no_targets = refl; form = λ at. inl (refl, refl); numbers = (within, omega arith); short = λ at. omega arith }

-- an index that names a member is one of the pool
index_within : (pool : Constants) (index : ℕ) (kind : MemberKind) (class : Name) (name desc : List ℕ)
    → NamesMember pool index kind class name desc
    → length pool ≤ 65535
    → index < 2 ^ 16
index_within pool index kind class name desc named count = by (constant_at pool index) refl where
  there : (all : Constants) (n : ℕ) (c : Constant) → constant_at all n ≡ Some c → n < length all
  there [] n c is = absurd (none-some c is)
  there (entry ∷ all) zero c is = omega arith
  there (entry ∷ all) (suc n) c is = let rest = there all n c is in omega (arith, rest)

  by : (o : Option Constant) → constant_at pool index ≡ o → index < 2 ^ 16
  by None e = absurd (none-some (reference_of_kind kind named.of_class named.named) (sym e ∙ named.is))
  by (Some c) e = let low = there pool index c e in omega (arith, low, count)

module _ (pool grown : Constants) (constructor : Name → List ℕ) (count : length grown ≤ 65535) where
  abbrev pub AreSmall : List CInstr → Type 0
  AreSmall items = AllByRecursion IsSmall (map (indexed_instr pool constructor) items)

  abbrev AreNamed : List CInstr → Type 0
  AreNamed items = AllByRecursion (Names constructor pool grown) items

  pub both_small : (front back : List CInstr) → AreSmall front → AreSmall back → AreSmall (front ++ back)
  both_small [] back one other = other
  both_small (item ∷ front) back one other = (one.0, both_small front back one.1 other)

  loads_small : (unit : ℕ) (fields : List Member) → unit + units_of_fields fields ≤ 65535 → AreSmall (loads_from unit fields)
  loads_small unit [] within = tt
  loads_small unit (field ∷ fields) within = (
    small_load (kind_of (type_of field.desc)) unit (omega (arith, within)),
    loads_small (unit + units_of (kind_of (type_of field.desc))) fields (omega (arith, within)),
  )

  pub puts_small : (class : Name) (unit : ℕ) (fields : List Member) → unit + units_of_fields fields ≤ 65535 → AreNamed (puts_from class unit fields)
      → AreSmall (puts_from class unit fields)
  puts_small class unit [] within names = tt
  puts_small class unit (field ∷ fields) within names = (
    small_load kinds.Ref 0 (omega arith),
    (
      small_load (kind_of (type_of field.desc)) unit (omega (arith, within)),
      (
        small_put _ (index_within grown _ _ _ _ _ names.1.1.0 count),
        puts_small class (unit + units_of (kind_of (type_of field.desc))) fields (omega (arith, within)) names.1.1.1,
      ),
    ),
  )

  pub call_small : (headers : Headers) (above : Name) → units_of_fields (instance_fields headers above) ≤ 64 → AreNamed (super_call headers above)
      → AreSmall (super_call headers above)
  call_small headers above few names = by (bytes_eq above object) names where
    last_of : (front back : List CInstr) → AreNamed (front ++ back) → AreNamed back
    last_of [] back all = all
    last_of (item ∷ front) back all = last_of front back all.1

    by : (b : Bool)
        → AreNamed (if b then simple (Load kinds.Ref 0) ∷ calls_object ∷ []
        else ((simple (Load kinds.Ref 0) ∷ []) ++ loads_from 1 (instance_fields headers above)) ++ (simple (Const imms.Null) ∷ calls_constructor above ∷ []))
        → AreSmall (if b then simple (Load kinds.Ref 0) ∷ calls_object ∷ []
        else ((simple (Load kinds.Ref 0) ∷ []) ++ loads_from 1 (instance_fields headers above)) ++ (simple (Const imms.Null) ∷ calls_constructor above ∷ []))
    by true known = (small_load kinds.Ref 0 (omega arith), (small_call _ (index_within grown _ _ _ _ _ known.1.0 count), tt))
    by false known =
        let front : List CInstr = (simple (Load kinds.Ref 0) ∷ []) ++ loads_from 1 (instance_fields headers above) in
        let back : List CInstr = simple (Const imms.Null) ∷ calls_constructor above ∷ [] in
        let named = last_of front back known in
        both_small front back (small_load kinds.Ref 0 (omega arith), loads_small 1 (instance_fields headers above) (omega (arith, few)))
        (small_null, (small_call _ (index_within grown _ _ _ _ _ named.1.0 count), tt))

-- ---- how many they are

width_some : (kind : Kind) → 1 ≤ units_of kind
width_some kinds.Int = omega arith
width_some kinds.Long = omega arith
width_some kinds.Float = omega arith
width_some kinds.Double = omega arith
width_some kinds.Ref = omega arith

loads_many : (unit : ℕ) (fields : List Member) → length (loads_from unit fields) ≤ units_of_fields fields
loads_many unit [] = omega arith
loads_many unit (field ∷ fields) =
    let one = width_some (kind_of (type_of field.desc)) in
    let rest = loads_many (unit + units_of (kind_of (type_of field.desc))) fields in
    omega (arith, one, rest)

pub puts_many : (class : Name) (unit : ℕ) (fields : List Member) → length (puts_from class unit fields) ≤ 3 * units_of_fields fields
puts_many class unit [] = omega arith
puts_many class unit (field ∷ fields) =
    let one = width_some (kind_of (type_of field.desc)) in
    let rest = puts_many class (unit + units_of (kind_of (type_of field.desc))) fields in
    omega (arith, one, rest)

pub call_many : (headers : Headers) (above : Name) → length (super_call headers above) ≤ 3 + units_of_fields (instance_fields headers above)
call_many headers above = by (bytes_eq above object) where
  by : (b : Bool)
      → length (if b then simple (Load kinds.Ref 0) ∷ calls_object ∷ []
      else ((simple (Load kinds.Ref 0) ∷ []) ++ loads_from 1 (instance_fields headers above)) ++ (simple (Const imms.Null) ∷ calls_constructor above ∷ []))
      ≤ 3 + units_of_fields (instance_fields headers above)
  by true = omega arith
  by false =
      let loads = loads_many 1 (instance_fields headers above) in
      let all = length-append (simple (Load kinds.Ref 0) ∷ loads_from 1 (instance_fields headers above)) (simple (Const imms.Null) ∷ calls_constructor above ∷ []) in
      omega (arith, loads, all)
