-- Instructions of a field constructor, part by part, with what they need in the pool.
use Rattle.std.proofs.Common.{◌≡◌, ◌≢◌, ◌+◌, ◌≤◌, ◌<◌, ℕ, List, [], ◌∷◌, ◌++◌, length, map, bytes_eq, drop, get_or, slice_get, Some, None, Option, Bool, true, false, codes, cond, not, refl, sym, ap, subst, ◌∙◌, append_assoc, append-nil, option_and_then, nat_le, arith}
use Rattle.std.specs.List.{AllByRecursion, filter, flat_map}
use Rattle.std.proofs.lemmas.Bool.{false_from_ne_true, le-leb}
use Rattle.std.proofs.lemmas.Grind.{flat_map-append}
use Rattle.std.proofs.lemmas.List.{drop_all, length-append, map-append}
use Rattle.std.proofs.lemmas.Option.{none-some, slice_get-get_or}
use Rattle.std.proofs.lemmas.Slice.Eq.{bytes_eq-Decides}
use Rattle.class_model.specs.Descriptors.{kind_of, type_of}
use Rattle.class_model.specs.Laws.Lists.{drop_item}
use Rattle.class_model.specs.Members.{has, STATIC}
use Rattle.class_model.specs.Pool.{Constants, entries_of}
use Rattle.class_model.specs.declared.descriptor.Kind.TheVariants as kinds
use Rattle.class_model.specs.declared.header.Header.{Header}
use Rattle.class_model.specs.declared.header.Member.{Member}
use Rattle.class_model.specs.declared.instr.Imm.TheVariants as imms
use Rattle.class_model.specs.declared.instr.Instr.{Instr}
use Rattle.class_model.specs.declared.pool.Const.{Const}
use Rattle.class_model.specs.declared.instr.Instr.TheVariants.{Const as Push, Invoke, Load, Return}
use Rattle.class_model.specs.declared.opcodes.TheConstants.{INVOKESPECIAL}
use Rattle.class_model.specs.Names.{init}
use Rattle.class_tree.specs.Headers.{Headers, Name}
use Rattle.class_tree.specs.Layouts.{instance_fields, own_fields}
use Rattle.class_tree.specs.Names.{object}
use Rattle.field_constructors.specs.Constructors.{field_descs}
use Rattle.field_constructors.specs.Inner.FieldWords.{instance_fields_of}
use Rattle.flow_code.specs.declared.reason.Reason.{Reason}
use Rattle.making_code.specs.ConstructorCode.{indexed_instr}
use Rattle.making_code.specs.Constants.{Need, constant_of, constructor_needs, grow, index_of, member_needs, needs_member, of_method, with_constant}
use Rattle.making_code.specs.FieldConstructor.{CInstr, call_above, calls_constructor, calls_object, constructor_items, fields_above, item_needs, loads_from, puts_from, simple, super_call, units_of_fields}
use Rattle.materialise.specs.Laws.GrownEdits.{continues_both, full_first, full_then, grown_more, grows_both, grows_none}
use Rattle.materialise.specs.Growing.{Grows, IsFull}
use Rattle.materialise.specs.Indices.{IsIndex}
use Rattle.constructor_methods.specs.Inner.ConstructorWords.{Constructs, IsHeaderOf, descs_above, loads_of, put_items, units_of_desc, units_of_descs}
use Rattle.pool_edit.specs.Edits.{Continues, Edit, grown}

-- ---- parts

pub constructs_none : (constructor : Name → List ℕ) (edit : Edit) (before : List Instr) → Constructs constructor edit before [] edit before
constructs_none constructor edit before = record { grows = grows_none edit; writes = λ more. sym (append-nil before) }

pub constructs_both : (constructor : Name → List ℕ) (old middle new : Edit) (before between after : List Instr) (front back : List CInstr)
    → Constructs constructor old before front middle between
    → Constructs constructor middle between back new after
    → Continues middle new
    → Constructs constructor old before (front ++ back) new after
constructs_both constructor old middle new before between after front back one other so_far = record {
  grows =
      subst (λ (needs : List Need). Grows old needs new) (sym (flat_map-append (item_needs constructor) front back))
      (grows_both old middle new (flat_map (item_needs constructor) front) (flat_map (item_needs constructor) back) one.grows other.grows);
  writes = λ more.
      let pool = grown new ++ more in
      let kept = indexed_instr pool constructor in
      let same : grown middle ++ (flat_map entries_of so_far.more ++ more) ≡ pool =
      sym (append_assoc (grown middle) (flat_map entries_of so_far.more) more) ∙ ap (λ (all : Constants). all ++ more) (sym (grown_more middle new so_far)) in
      other.writes more
      ∙ ap (λ (instrs : List Instr). instrs ++ map kept back)
      (one.writes (flat_map entries_of so_far.more ++ more) ∙ ap (λ (all : Constants). before ++ map (indexed_instr all constructor) front) same)
      ∙ append_assoc before (map kept front) (map kept back)
      ∙ ap (λ (instrs : List Instr). before ++ instrs) (sym (map-append kept front back));
}

-- an instruction that names no constant
pub constructs_simple : (constructor : Name → List ℕ) (edit : Edit) (before after : List Instr) (instr : Instr)
    → after ≡ before ++ instr ∷ []
    → Constructs constructor edit before (simple instr ∷ []) edit after
constructs_simple constructor edit before after instr is = record { grows = grows_none edit; writes = λ more. is }

-- one whose constant was added before it was written
pub constructs_one : (constructor : Name → List ℕ) (old new : Edit) (before after : List Instr) (item : CInstr) (instr : Instr)
    → Grows old (item_needs constructor item) new
    → after ≡ before ++ instr ∷ []
    → ((more : Constants) → indexed_instr (grown new ++ more) constructor item ≡ instr)
    → Constructs constructor old before (item ∷ []) new after
constructs_one constructor old new before after item instr grows is same = record {
  grows = subst (λ (needs : List Need). Grows old needs new) (sym (append-nil (item_needs constructor item))) grows;
  writes = λ more. is ∙ ap (λ (one : Instr). before ++ one ∷ []) (sym (same more));
}

-- instructions without constants in front
pub constructs_behind : (constructor : Name → List ℕ) (old new : Edit) (before between after : List Instr) (front back : List CInstr)
    → flat_map (item_needs constructor) front ≡ []
    → ((pool : Constants) → between ≡ before ++ map (indexed_instr pool constructor) front)
    → Constructs constructor old between back new after
    → Continues old new
    → Constructs constructor old before (front ++ back) new after
constructs_behind constructor old new before between after front back none written other so_far =
    constructs_both constructor old old new before between after front back
    (record { grows = subst (λ (needs : List Need). Grows old needs old) (sym none) (grows_none old); writes = λ more. written (grown old ++ more) })
    other so_far

-- ---- loads

pub loads_need_none : (constructor : Name → List ℕ) (unit : ℕ) (descs : List (List ℕ)) → flat_map (item_needs constructor) (loads_of unit descs) ≡ []
loads_need_none constructor unit [] = refl
loads_need_none constructor unit (desc ∷ descs) = loads_need_none constructor (unit + units_of_desc desc) descs

pub loads_by_descs : (unit : ℕ) (fields : List Member) → loads_from unit fields ≡ loads_of unit (map (λ field. field.desc) fields)
loads_by_descs unit [] = refl
loads_by_descs unit (field ∷ fields) =
    ap (λ (rest : List CInstr). simple (Load (kind_of (type_of field.desc)) unit) ∷ rest) (loads_by_descs (unit + units_of_desc field.desc) fields)

pub units_by_descs : (fields : List Member) → units_of_fields fields ≡ units_of_descs (map (λ field. field.desc) fields)
units_by_descs [] = refl
units_by_descs (field ∷ fields) = ap (λ (n : ℕ). units_of_desc field.desc + n) (units_by_descs fields)

pub loads_there : (unit : ℕ) (descs : List (List ℕ)) (at : ℕ) (desc : List ℕ) → slice_get descs at ≡ Some desc
    → loads_of unit (drop at descs) ≡ simple (Load (kind_of (type_of desc)) unit) ∷ loads_of (unit + units_of_desc desc) (drop (at + 1) descs)
loads_there unit descs at desc is = ap (loads_of unit) (drop_item descs at desc is)

pub units_there : (descs : List (List ℕ)) (at : ℕ) (desc : List ℕ) → slice_get descs at ≡ Some desc
    → units_of_descs (drop at descs) ≡ units_of_desc desc + units_of_descs (drop (at + 1) descs)
units_there descs at desc is = ap units_of_descs (drop_item descs at desc is)

-- what is written and the rest are all
pub record LoadsRest (descs : List (List ℕ)) (from : ℕ) (before now : List Instr) (unit : ℕ) (rest : List (List ℕ)) : Type 0 where
  pub goes_on : (constructor : Name → List ℕ) (pool : Constants)
      → now ++ map (indexed_instr pool constructor) (loads_of unit rest)
      ≡ before ++ map (indexed_instr pool constructor) (loads_of from descs)

pub loads_step : (descs : List (List ℕ)) (from : ℕ) (before now then_ : List Instr) (unit at : ℕ) (desc : List ℕ)
    → slice_get descs at ≡ Some desc
    → then_ ≡ now ++ Load (kind_of (type_of desc)) unit ∷ []
    → LoadsRest descs from before now unit (drop at descs)
    → LoadsRest descs from before then_ (unit + units_of_desc desc) (drop (at + 1) descs)
loads_step descs from before now then_ unit at desc there is so_far = record {
  goes_on = λ constructor pool.
      let kept = indexed_instr pool constructor in
      let rest = map kept (loads_of (unit + units_of_desc desc) (drop (at + 1) descs)) in
      ap (λ (instrs : List Instr). instrs ++ rest) is
      ∙ append_assoc now (Load (kind_of (type_of desc)) unit ∷ []) rest
      ∙ ap (λ (items : List CInstr). now ++ map kept items) (sym (loads_there unit descs at desc there))
      ∙ so_far.goes_on constructor pool;
}

pub loads_done : (descs : List (List ℕ)) (from : ℕ) (before now : List Instr) (unit at : ℕ) → length descs ≤ at
    → LoadsRest descs from before now unit (drop at descs)
    → (constructor : Name → List ℕ) (pool : Constants) → now ≡ before ++ map (indexed_instr pool constructor) (loads_of from descs)
loads_done descs from before now unit at end so_far constructor pool =
    sym (append-nil now)
    ∙ ap (λ (rest : List (List ℕ)). now ++ map (indexed_instr pool constructor) (loads_of unit rest)) (sym (drop_all at descs end))
    ∙ so_far.goes_on constructor pool

-- ---- stores

abbrev pub instance_of : List Member → List Member
instance_of fields = filter (λ field. not (has field.flags STATIC)) fields

-- what is written and the stores of the rest are all, and so is what does not fit
pub record PutsRest (class : Name) (from : ℕ) (all : List Member) (old : Edit) (before : List Instr) (now : Edit) (instrs : List Instr) (unit : ℕ)
    (rest : List Member)
    : Type 0 where
  pub goes_on : (constructor : Name → List ℕ) (last : Edit) (after : List Instr)
      → Constructs constructor now instrs (puts_from class unit rest) last after
      → Continues now last
      → Constructs constructor old before (puts_from class from all) last after
  pub fills : (constructor : Name → List ℕ) (reason : Reason)
      → IsFull now (flat_map (item_needs constructor) (puts_from class unit rest)) reason
      → IsFull old (flat_map (item_needs constructor) (puts_from class from all)) reason
  pub more : Continues old now

pub puts_start : (class : Name) (from : ℕ) (all : List Member) (old : Edit) (before : List Instr) → Continues old old
    → PutsRest class from all old before old before from all
puts_start class from all old before itself = record { goes_on = λ c last after tail so_far. tail; fills = λ c reason full. full; more = itself }

module _ (class : Name) (from : ℕ) (all : List Member) (old : Edit) (before : List Instr) (now : Edit) (instrs : List Instr) (unit : ℕ) (field : Member)
    (rest later : List Member) (rest_is : rest ≡ field ∷ later) (so_far : PutsRest class from all old before now instrs unit rest) where
  split : (constructor : Name → List ℕ)
      → flat_map (item_needs constructor) (puts_from class unit rest)
      ≡ flat_map (item_needs constructor) (put_items class unit field)
      ++ flat_map (item_needs constructor) (puts_from class (unit + units_of_desc field.desc) later)
  split constructor =
      ap (λ (fields : List Member). flat_map (item_needs constructor) (puts_from class unit fields)) rest_is
      ∙ flat_map-append (item_needs constructor) (put_items class unit field) (puts_from class (unit + units_of_desc field.desc) later)

  pub puts_step : (next : Edit) (then_ : List Instr)
      → ((constructor : Name → List ℕ) → Constructs constructor now instrs (put_items class unit field) next then_)
      → Continues now next
      → PutsRest class from all old before next then_ (unit + units_of_desc field.desc) later
  puts_step next then_ one onwards = record {
    goes_on = λ constructor last after tail behind.
        so_far.goes_on constructor last after
        (subst (λ (fields : List Member). Constructs constructor now instrs (puts_from class unit fields) last after) (sym rest_is)
        (constructs_both constructor now next last instrs then_ after (put_items class unit field) (puts_from class (unit + units_of_desc field.desc) later) (one constructor) tail behind))
        (continues_both now next last onwards behind);
    fills = λ constructor reason full.
        so_far.fills constructor reason
        (subst (λ (needs : List Need). IsFull now needs reason) (sym (split constructor))
        (full_then now next (flat_map (item_needs constructor) (put_items class unit field))
        (flat_map (item_needs constructor) (puts_from class (unit + units_of_desc field.desc) later)) reason (one constructor).grows full));
    more = continues_both old now next so_far.more onwards;
  }

  pub puts_full : (constructor : Name → List ℕ) (reason : Reason)
      → IsFull now (flat_map (item_needs constructor) (put_items class unit field)) reason
      → IsFull old (flat_map (item_needs constructor) (puts_from class from all)) reason
  puts_full constructor reason full =
      so_far.fills constructor reason
      (subst (λ (needs : List Need). IsFull now needs reason) (sym (split constructor))
      (full_first now (flat_map (item_needs constructor) (put_items class unit field))
      (flat_map (item_needs constructor) (puts_from class (unit + units_of_desc field.desc) later)) reason full))

pub puts_done : (class : Name) (from : ℕ) (all : List Member) (old : Edit) (before : List Instr) (now : Edit) (instrs : List Instr) (unit : ℕ) (rest : List Member)
    → rest ≡ []
    → Continues now now
    → PutsRest class from all old before now instrs unit rest
    → (constructor : Name → List ℕ) → Constructs constructor old before (puts_from class from all) now instrs
puts_done class from all old before now instrs unit rest none itself so_far constructor =
    so_far.goes_on constructor now instrs
    (subst (λ (fields : List Member). Constructs constructor now instrs (puts_from class unit fields) now instrs) (sym none) (constructs_none constructor now instrs))
    itself

-- the fields from one on, where it is of objects, and where it is of the class
pub instance_there : (fields : List Member) (at : ℕ) (field : Member) → slice_get fields at ≡ Some field → has field.flags STATIC ≡ false
    → instance_of (drop at fields) ≡ field ∷ instance_of (drop (at + 1) fields)
instance_there fields at field there is =
    ap instance_of (drop_item fields at field there)
    ∙ ap (λ (test : Bool). cond (not test) (field ∷ instance_of (drop (at + 1) fields)) (instance_of (drop (at + 1) fields))) is

pub static_there : (fields : List Member) (at : ℕ) (field : Member) → slice_get fields at ≡ Some field → has field.flags STATIC ≡ true
    → instance_of (drop at fields) ≡ instance_of (drop (at + 1) fields)
static_there fields at field there is =
    ap instance_of (drop_item fields at field there)
    ∙ ap (λ (test : Bool). cond (not test) (field ∷ instance_of (drop (at + 1) fields)) (instance_of (drop (at + 1) fields))) is

pub none_there : (fields : List Member) (at : ℕ) → length fields ≤ at → instance_of (drop at fields) ≡ []
none_there fields at end = ap instance_of (drop_all at fields end)

-- ---- constants fit where there is room for as many

-- a constant of one entry
abbrev pub IsNarrowNeed : Need → Type 0
IsNarrowNeed need = (pool : Constants) → length (entries_of (constant_of pool need)) ≡ 1

one_fits : (limit : ℕ) (pool : Constants) (constant : Const) → length (entries_of constant) ≡ 1 → length pool + 1 ≤ limit
    → (grown_pool : Constants) × (with_constant limit pool constant ≡ Some grown_pool) × (length grown_pool ≤ length pool + 1)
one_fits limit pool constant one room = by (index_of pool constant) refl where
  by : (found : Option ℕ) → index_of pool constant ≡ found
      → (grown_pool : Constants) × (with_constant limit pool constant ≡ Some grown_pool) × (length grown_pool ≤ length pool + 1)
  by (Some index) some = (pool, rw some refl, omega arith)
  by None none =
      let fits : nat_le (length pool + length (entries_of constant)) limit ≡ true =
      le-leb (length pool + length (entries_of constant)) limit (subst (λ (n : ℕ). length pool + n ≤ limit) (sym one) room) in
      let count : length (pool ++ entries_of constant) ≡ length pool + 1 =
      length-append pool (entries_of constant) ∙ ap (λ (n : ℕ). length pool + n) one in (
        pool ++ entries_of constant,
        rw none (ap (λ (test : Bool). cond test (Some (pool ++ entries_of constant)) None) fits),
        omega (arith, count),
      )

pub few_fit : (limit : ℕ) (needs : List Need) (pool : Constants) → AllByRecursion IsNarrowNeed needs → length pool + length needs ≤ limit
    → grow limit pool needs ≢ None
few_fit limit [] pool narrow room full = none-some pool (sym full)
few_fit limit (need ∷ needs) pool narrow room full =
    let next = one_fits limit pool (constant_of pool need) (narrow.0 pool) (omega (arith, room)) in
    let step : grow limit pool (need ∷ needs) ≡ grow limit next.0 needs =
    ap (option_and_then (λ (more : Constants). grow limit more needs)) next.1 in
    few_fit limit needs next.0 narrow.1 (omega (arith, room, next.2)) (sym step ∙ full)

-- ---- calls

module _ (class name desc wanted_class wanted_name wanted_desc : List ℕ) (class_is : class ≡ wanted_class) (name_is : name ≡ wanted_name) (desc_is : desc ≡ wanted_desc) where
  pub member_grows : (old new : Edit) → Grows old (member_needs of_method class name desc) new → Grows old (member_needs of_method wanted_class wanted_name wanted_desc) new
  member_grows old new grows =
      subst (λ (c : List ℕ). Grows old (member_needs of_method c wanted_name wanted_desc) new) class_is
      (subst (λ (n : List ℕ). Grows old (member_needs of_method class n wanted_desc) new) name_is
      (subst (λ (d : List ℕ). Grows old (member_needs of_method class name d) new) desc_is grows))

  pub member_index : (edit : Edit) (index : ℕ) → IsIndex edit (needs_member of_method class name desc) index
      → IsIndex edit (needs_member of_method wanted_class wanted_name wanted_desc) index
  member_index edit index known =
      subst (λ (c : List ℕ). IsIndex edit (needs_member of_method c wanted_name wanted_desc) index) class_is
      (subst (λ (n : List ℕ). IsIndex edit (needs_member of_method class n wanted_desc) index) name_is
      (subst (λ (d : List ℕ). IsIndex edit (needs_member of_method class name d) index) desc_is known))

  pub member_full : (edit : Edit) (reason : Reason) → IsFull edit (member_needs of_method class name desc) reason
      → IsFull edit (member_needs of_method wanted_class wanted_name wanted_desc) reason
  member_full edit reason full =
      subst (λ (c : List ℕ). IsFull edit (member_needs of_method c wanted_name wanted_desc) reason) class_is
      (subst (λ (n : List ℕ). IsFull edit (member_needs of_method class n wanted_desc) reason) name_is
      (subst (λ (d : List ℕ). IsFull edit (member_needs of_method class name d) reason) desc_is full))

pub constructs_call : (constructor : Name → List ℕ) (old new : Edit) (before after : List Instr) (index : ℕ)
    → Grows old (member_needs of_method object init (codes "()V")) new
    → IsIndex new (needs_member of_method object init (codes "()V")) index
    → after ≡ before ++ Invoke INVOKESPECIAL index 0 ∷ []
    → Constructs constructor old before (calls_object ∷ []) new after
constructs_call constructor old new before after index grows known is =
    constructs_one constructor old new before after calls_object (Invoke INVOKESPECIAL index 0) grows is
    (λ more. ap (λ (at : ℕ). Invoke INVOKESPECIAL at 0) (known.is more))

pub constructs_super : (constructor : Name → List ℕ) (old new : Edit) (before after : List Instr) (class : Name) (index : ℕ)
    → Grows old (member_needs of_method class init (constructor class)) new
    → IsIndex new (needs_member of_method class init (constructor class)) index
    → after ≡ before ++ Invoke INVOKESPECIAL index 0 ∷ []
    → Constructs constructor old before (calls_constructor class ∷ []) new after
constructs_super constructor old new before after class index grows known is =
    constructs_one constructor old new before after (calls_constructor class) (Invoke INVOKESPECIAL index 0) grows is
    (λ more. ap (λ (at : ℕ). Invoke INVOKESPECIAL at 0) (known.is more))

-- ---- items at a place, and the call of the superclass's constructor

pub item_there : {A : Type 0} (items : List A) (at : ℕ) (item : A) → at < length items → item ≡ get_or items at item → slice_get items at ≡ Some item
item_there items at item less is = slice_get-get_or items at item less ∙ ap (λ (x : _). Some x) (sym is)

pub super_items : (headers : Headers) (class : Name) (descs : List (List ℕ)) → class ≢ object → descs ≡ field_descs headers class
    → super_call headers class
    ≡ ((simple (Load kinds.Ref 0) ∷ []) ++ loads_of 1 descs) ++ (simple (Push imms.Null) ∷ calls_constructor class ∷ [])
super_items headers class descs apart is =
    ap (λ (test : Bool). cond test (simple (Load kinds.Ref 0) ∷ calls_object ∷ [])
    (((simple (Load kinds.Ref 0) ∷ []) ++ loads_from 1 (instance_fields headers class)) ++ (simple (Push imms.Null) ∷ calls_constructor class ∷ [])))
    (false_from_ne_true (bytes_eq class object) (λ same. apart ((bytes_eq-Decides class object).0 same)))
    ∙ ap (λ (loads : List CInstr). ((simple (Load kinds.Ref 0) ∷ []) ++ loads) ++ (simple (Push imms.Null) ∷ calls_constructor class ∷ []))
    (loads_by_descs 1 (instance_fields headers class) ∙ ap (loads_of 1) (sym is))

pub super_needs : (constructor : Name → List ℕ) (headers : Headers) (class : Name) (descs : List (List ℕ)) → class ≢ object → descs ≡ field_descs headers class
    → flat_map (item_needs constructor) (super_call headers class) ≡ constructor_needs class (constructor class)
super_needs constructor headers class descs apart is =
    ap (flat_map (item_needs constructor)) (super_items headers class descs apart is)
    ∙ flat_map-append (item_needs constructor) ((simple (Load kinds.Ref 0) ∷ []) ++ loads_of 1 descs) (simple (Push imms.Null) ∷ calls_constructor class ∷ [])
    ∙ ap (λ (needs : List Need). needs ++ flat_map (item_needs constructor) (simple (Push imms.Null) ∷ calls_constructor class ∷ []))
    (loads_need_none constructor 1 descs)

pub super_written : (constructor : Name → List ℕ) (headers : Headers) (class : Name) (descs : List (List ℕ)) (old new : Edit) (before one two three after : List Instr) (index : ℕ)
    → class ≢ object → descs ≡ field_descs headers class
    → Continues old old
    → one ≡ before ++ Load kinds.Ref 0 ∷ []
    → ((pool : Constants) → two ≡ one ++ map (indexed_instr pool constructor) (loads_of 1 descs))
    → three ≡ two ++ Push imms.Null ∷ []
    → Constructs constructor old three (calls_constructor class ∷ []) new after
    → Continues old new
    → Constructs constructor old before (super_call headers class) new after
super_written constructor headers class descs old new before one two three after index apart is itself one_is two_is three_is call so_far =
    let first = constructs_simple constructor old before one (Load kinds.Ref 0) one_is in
    let loads : Constructs constructor old one (loads_of 1 descs) old two =
    record { grows = subst (λ (needs : List Need). Grows old needs old) (sym (loads_need_none constructor 1 descs)) (grows_none old); writes = λ more. two_is (grown old ++ more) } in
    let null = constructs_simple constructor old two three (Push imms.Null) three_is in
    let front = constructs_both constructor old old old before one two (simple (Load kinds.Ref 0) ∷ []) (loads_of 1 descs) first loads itself in
    let back = constructs_both constructor old old new two three after (simple (Push imms.Null) ∷ []) (calls_constructor class ∷ []) null call so_far in
    subst (λ (items : List CInstr). Constructs constructor old before items new after) (sym (super_items headers class descs apart is))
    (constructs_both constructor old old new before two after ((simple (Load kinds.Ref 0) ∷ []) ++ loads_of 1 descs) (simple (Push imms.Null) ∷ calls_constructor class ∷ []) front back so_far)

pub above_object : (headers : Headers) (super : Option Name) (class : Name) → super ≡ Some class → class ≡ object
    → call_above headers super ≡ simple (Load kinds.Ref 0) ∷ calls_object ∷ []
above_object headers super class is same = ap (call_above headers) is ∙ ap (super_call headers) same

-- ---- the whole code

pub all_items : (headers : Headers) (header : Header) (above : List (List ℕ)) → IsHeaderOf headers header → above ≡ descs_above headers header
    → constructor_items headers header.name
    ≡ (call_above headers header.super_name ++ puts_from header.name (1 + units_of_descs above) (instance_fields_of header)) ++ (simple (Return None) ∷ [])
all_items headers header above found is =
    ap (λ (super : Option Name). (call_above headers super ++ puts_from header.name (1 + units_of_fields (fields_above headers super)) (own_fields headers header.name)) ++ (simple (Return None) ∷ [])) found.super_is
    ∙ ap (λ (fields : List Member). (call_above headers header.super_name ++ puts_from header.name (1 + units_of_fields (fields_above headers header.super_name)) fields) ++ (simple (Return None) ∷ [])) found.own
    ∙ ap (λ (units : ℕ). (call_above headers header.super_name ++ puts_from header.name (1 + units) (instance_fields_of header)) ++ (simple (Return None) ∷ []))
    (units_by_descs (fields_above headers header.super_name) ∙ ap units_of_descs (sym is))

module _ (constructor : Name → List ℕ) (headers : Headers) (header : Header) (above : List (List ℕ)) (found : IsHeaderOf headers header) (is : above ≡ descs_above headers header) where
  all_needs : flat_map (item_needs constructor) (constructor_items headers header.name)
      ≡ (flat_map (item_needs constructor) (call_above headers header.super_name)
      ++ flat_map (item_needs constructor) (puts_from header.name (1 + units_of_descs above) (instance_fields_of header))) ++ []
  all_needs =
      ap (flat_map (item_needs constructor)) (all_items headers header above found is)
      ∙ flat_map-append (item_needs constructor) (call_above headers header.super_name ++ puts_from header.name (1 + units_of_descs above) (instance_fields_of header)) (simple (Return None) ∷ [])
      ∙ ap (λ (needs : List Need). needs ++ []) (flat_map-append (item_needs constructor) (call_above headers header.super_name) (puts_from header.name (1 + units_of_descs above) (instance_fields_of header)))

  pub call_full : (edit : Edit) (reason : Reason)
      → IsFull edit (flat_map (item_needs constructor) (call_above headers header.super_name)) reason
      → IsFull edit (flat_map (item_needs constructor) (constructor_items headers header.name)) reason
  call_full edit reason full =
      subst (λ (needs : List Need). IsFull edit needs reason) (sym all_needs)
      (full_first edit (flat_map (item_needs constructor) (call_above headers header.super_name)
      ++ flat_map (item_needs constructor) (puts_from header.name (1 + units_of_descs above) (instance_fields_of header))) [] reason
      (full_first edit (flat_map (item_needs constructor) (call_above headers header.super_name))
      (flat_map (item_needs constructor) (puts_from header.name (1 + units_of_descs above) (instance_fields_of header))) reason full))

  pub stores_full : (edit middle : Edit) (reason : Reason)
      → Grows edit (flat_map (item_needs constructor) (call_above headers header.super_name)) middle
      → IsFull middle (flat_map (item_needs constructor) (puts_from header.name (1 + units_of_descs above) (instance_fields_of header))) reason
      → IsFull edit (flat_map (item_needs constructor) (constructor_items headers header.name)) reason
  stores_full edit middle reason grows full =
      subst (λ (needs : List Need). IsFull edit needs reason) (sym all_needs)
      (full_first edit (flat_map (item_needs constructor) (call_above headers header.super_name)
      ++ flat_map (item_needs constructor) (puts_from header.name (1 + units_of_descs above) (instance_fields_of header))) [] reason
      (full_then edit middle (flat_map (item_needs constructor) (call_above headers header.super_name))
      (flat_map (item_needs constructor) (puts_from header.name (1 + units_of_descs above) (instance_fields_of header))) reason grows full))

  pub all_written : (old middle new : Edit) (before called stored after : List Instr)
      → Constructs constructor old before (call_above headers header.super_name) middle called
      → Constructs constructor middle called (puts_from header.name (1 + units_of_descs above) (instance_fields_of header)) new stored
      → Continues middle new
      → Continues new new
      → after ≡ stored ++ Return None ∷ []
      → Constructs constructor old before (constructor_items headers header.name) new after
  all_written old middle new before called stored after call stores so_far itself last =
      subst (λ (items : List CInstr). Constructs constructor old before items new after) (sym (all_items headers header above found is))
      (constructs_both constructor old new new before stored after
      (call_above headers header.super_name ++ puts_from header.name (1 + units_of_descs above) (instance_fields_of header)) (simple (Return None) ∷ [])
      (constructs_both constructor old middle new before called stored (call_above headers header.super_name)
      (puts_from header.name (1 + units_of_descs above) (instance_fields_of header)) call stores so_far)
      (constructs_simple constructor new stored after (Return None) last)
      itself)
