-- Constants that fit their items: those that are needed, and those of a pool that grows by them.
use Rattle.std.proofs.Common.{◌≡◌, ◌≢◌, ◌==◌, ◌++◌, ◌+◌, ◌^◌, ◌≤◌, ◌<◌, ◌∙◌, bytes_eq, ℕ, nat_le, leb, zero, suc, Bool, true, false, codes, List, [], ◌∷◌, length, Option, Some, None, if◌then◌else◌, option_and_then, refl, sym, ap, subst, arith, length-append}
use Rattle.std.specs.List.{AllByRecursion, flat_map}
use Rattle.std.proofs.lemmas.Bool.{false≢true, leb-true}
use Rattle.std.proofs.lemmas.Slice.Eq.{bytes_eq-Decides}
use Rattle.std.proofs.lemmas.Option.{none-some, same_Some}
use Rattle.class_model.specs.Laws.Pools.{IsPool-push}
use Rattle.class_model.specs.Names.{init}
use Rattle.class_model.specs.Pool.{Constants, IsPool, constant_at, entries_of}
use Rattle.class_model.specs.PoolChecks.{class_at, descriptor_at, name_and_type_of, name_at, class_name_of, text_of, utf8_at}
use Rattle.class_model.specs.Values.{TagStands, TagsStand}
use Rattle.class_model.specs.contracts.pool.ConstPartialEq.TheImpl.{ghosts as comparison}
use Rattle.class_model.specs.declared.header.Member.{Member}
use Rattle.class_model.specs.declared.instr.Instr.{Instr}
use Rattle.class_model.specs.declared.pool.Const.{Const}
use Rattle.class_model.specs.declared.pool.Const.TheVariants.{Utf8, Integer, Float, Long, Double, Class, String, Fieldref, Methodref, InterfaceMethodref, NameAndType, MethodHandle, MethodType, InvokeDynamic}
use Rattle.class_tree.specs.Headers.{Headers, Name}
use Rattle.class_tree.specs.Layouts.{instance_fields, own_fields}
use Rattle.class_tree.specs.Names.{object}
use Rattle.making_code.specs.Constants.{MemberKind, Need, class_needs, constant_of, grow, index_from, index_of, index_or_zero, member_needs, needs_at, needs_class, needs_itself, needs_member, needs_name_and_type, needs_of_class, needs_of_constant, needs_of_reference, needs_of_string, needs_string, needs_text, of_field, of_interface_method, of_method, reference_of_kind, string_needs, with_constant}
use Rattle.making_code.specs.FieldConstructor.{CInstr, call_above, constructor_items, constructor_method_needs, fields_above, item_needs as constructor_item_needs, loads_from, puts_from, super_call, superclass_of, units_of_fields}
use Rattle.making_code.specs.Items.{WCatch, WInstr, WItem, carried, constructs, load, makes, plain, store}
use Rattle.plan_flow.specs.PlanScope.{PlanScope, pool_of}
use Rattle.plan_flow.specs.Written.WrittenConstants.{carried_needs, catch_needs, code_needs, instr_needs, item_needs, named_index, needs_of_index}
use Rattle.pool_bytes.specs.Items.{EntryFits, FitsItems, IsU2, PoolFits}
use Rattle.written_files.proofs.GrownPools.{adds_nothing, adds_through}
use Rattle.written_files.specs.GrownPools.{AddsChecked}
use Rattle.written_files.specs.ShortNeeds.{AreFitting, HasShortTexts, IsFittingNeed, IsFittingPool, IsShort, IsShortCatch, IsShortInstr, IsShortItem}
use Rattle.written_files.specs.WrittenClasses.{AreAddedConstants}

both_all : {X : Type 0} (P : X → Type 0) (xs ys : List X) → AllByRecursion P xs → AllByRecursion P ys → AllByRecursion P (xs ++ ys)
both_all P [] ys all more = more
both_all P (x ∷ xs) ys all more = (all.0, both_all P xs ys all.1 more)

pub last_all : {X : Type 0} (P : X → Type 0) (xs ys : List X) → AllByRecursion P (xs ++ ys) → AllByRecursion P ys
last_all P [] ys all = all
last_all P (x ∷ xs) ys all = last_all P xs ys all.1

-- ---- indices

index_within : (at : ℕ) (constant : Const) (pool : Constants) (index : ℕ) → index_from at constant pool ≡ Some index → index < at + length pool
index_within at constant [] index is = absurd (none-some index is)
index_within at constant (None ∷ pool) index is =
    let rest = index_within (suc at) constant pool index is in omega (arith, rest)
index_within at constant (Some one ∷ pool) index is = by (comparison.eq one constant) refl (index_within (suc at) constant pool index) where
  by : (b : Bool) → comparison.eq one constant ≡ b → (index_from (suc at) constant pool ≡ Some index → index < suc at + length pool) → index < at + suc (length pool)
  by true e rest = let same = same_Some at index (sym (rw (e) refl) ∙ is) in omega (arith, same)
  by false e rest = let less = rest (sym (rw (e) refl) ∙ is) in omega (arith, less)

small_index : (pool : Constants) (constant : Const) → length pool ≤ 65535 → IsU2 (index_or_zero pool constant)
small_index pool constant few = by (index_of pool constant) refl where
  by : (found : Option ℕ) → index_of pool constant ≡ found → IsU2 (index_or_zero pool constant)
  by None e = rw (e) (omega arith)
  by (Some index) e = let less = index_within 0 constant pool index e in rw (e) (omega (arith, less, few))

-- ---- a constant that is needed

need_fits : (pool : Constants) (need : Need) → length pool ≤ 65535 → IsFittingNeed need
    → FitsItems (constant_of pool need) × ((major : ℕ) → TagStands major (Some (constant_of pool need)))
need_fits pool (needs_itself constant) few fits = fits
need_fits pool (needs_class name) few fits = (small_index pool (Utf8 name) few, λ major. tt)
need_fits pool (needs_string text) few fits = (small_index pool (Utf8 text) few, λ major. tt)
need_fits pool (needs_name_and_type name desc) few fits = ((small_index pool (Utf8 name) few, small_index pool (Utf8 desc) few), λ major. tt)
need_fits pool (needs_member of_field class name desc) few fits = ((small_index pool _ few, small_index pool _ few), λ major. tt)
need_fits pool (needs_member of_method class name desc) few fits = ((small_index pool _ few, small_index pool _ few), λ major. tt)
need_fits pool (needs_member of_interface_method class name desc) few fits = ((small_index pool _ few, small_index pool _ few), λ major. tt)

-- ---- growth

entries_fit : (major : ℕ) (c : Const) → FitsItems c → TagStands major (Some c) → PoolFits (entries_of c) × TagsStand major (entries_of c)
entries_fit major (Long number) fits stands = ((fits, (tt, tt)), (stands, (tt, tt)))
entries_fit major (Double bits) fits stands = ((fits, (tt, tt)), (stands, (tt, tt)))
entries_fit major c fits stands = ((fits, tt), (stands, tt))

one_grown : (major limit : ℕ) (pool grown : Constants) (need : Need) → limit ≤ 65535 → IsFittingNeed need → IsFittingPool major pool
    → with_constant limit pool (constant_of pool need) ≡ Some grown
    → IsFittingPool major grown
one_grown major limit pool grown need low fits is grows = by (index_of pool (constant_of pool need)) refl where
  constant : Const
  constant = constant_of pool need

  if_fits : (fit : Bool) → nat_le (length pool + length (entries_of (constant_of pool need))) limit ≡ fit
      → (if fit then Some (pool ++ entries_of (constant_of pool need)) else None) ≡ Some grown
      → IsFittingPool major grown
  if_fits false le e = absurd (none-some grown e)
  if_fits true le e =
      let within : length pool + length (entries_of (constant_of pool need)) ≤ limit = leb-true _ _ le in
      let own = need_fits pool need (is.is_pool.count) fits in
      let entries = entries_fit major (constant_of pool need) own.0 (own.1 major) in
      subst (IsFittingPool major) (same_Some (pool ++ entries_of (constant_of pool need)) grown e) (record {
        is_pool = IsPool-push pool (constant_of pool need) is.is_pool (omega (arith, within, low));
        fits = both_all EntryFits pool (entries_of (constant_of pool need)) is.fits entries.0;
        tags = both_all (TagStands major) pool (entries_of (constant_of pool need)) is.tags entries.1;
      })

  by : (found : Option ℕ) → index_of pool (constant_of pool need) ≡ found → IsFittingPool major grown
  by (Some index) found =
      let here : with_constant limit pool (constant_of pool need) ≡ Some pool = rw (found) refl in
      subst (IsFittingPool major) (same_Some pool grown (sym here ∙ grows)) is
  by None found =
      let here : with_constant limit pool (constant_of pool need)
      ≡ (if nat_le (length pool + length (entries_of (constant_of pool need))) limit then Some (pool ++ entries_of (constant_of pool need)) else None) =
      rw (found) refl in
      if_fits (nat_le (length pool + length (entries_of (constant_of pool need))) limit) refl (sym here ∙ grows)

pub all_grown : (major limit : ℕ) (needs : List Need) (pool grown : Constants) → limit ≤ 65535 → AreFitting needs → IsFittingPool major pool
    → grow limit pool needs ≡ Some grown
    → IsFittingPool major grown
all_grown major limit [] pool grown low fits is grows = subst (IsFittingPool major) (same_Some pool grown grows) is
all_grown major limit (need ∷ needs) pool grown low fits is grows =
    by (with_constant limit pool (constant_of pool need)) refl grows (λ middle. all_grown major limit needs middle grown low fits.1) where
      by : (found : Option Constants) → with_constant limit pool (constant_of pool need) ≡ found
          → option_and_then (λ (more : Constants). grow limit more needs) found ≡ Some grown
          → ((middle : Constants) → IsFittingPool major middle → grow limit middle needs ≡ Some grown → IsFittingPool major grown)
          → IsFittingPool major grown
      by None e is_grown rest = absurd (none-some grown is_grown)
      by (Some middle) e is_grown rest = rest middle (one_grown major limit pool middle need low fits.0 is e) is_grown

-- what is added by them
pub added_fit : (major : ℕ) (pool grown : Constants) → AddsChecked major pool grown → IsFittingPool major grown → AreAddedConstants major pool grown
added_fit major pool grown checked is = record {
  checked = checked;
  fits = last_all EntryFits pool checked.added (subst PoolFits checked.is is.fits);
  tags = last_all (TagStands major) pool checked.added (subst (TagsStand major) checked.is is.tags);
  is_pool = is.is_pool;
}

pub added_none : (major : ℕ) (pool : Constants) → IsFittingPool major pool → AreAddedConstants major pool pool
added_none major pool is = added_fit major pool pool (adds_nothing major pool) is

pub grown_fits : (major : ℕ) (pool grown : Constants) → IsFittingPool major pool → AreAddedConstants major pool grown → IsFittingPool major grown
grown_fits major pool grown is added = record {
  is_pool = added.is_pool;
  fits = subst PoolFits (sym added.checked.is) (both_all EntryFits pool added.checked.added is.fits added.fits);
  tags = subst (TagsStand major) (sym added.checked.is) (both_all (TagStands major) pool added.checked.added is.tags added.tags);
}

pub added_both : (major : ℕ) (pool middle grown : Constants) → IsFittingPool major pool → AreAddedConstants major pool middle → AreAddedConstants major middle grown
    → AreAddedConstants major pool grown
added_both major pool middle grown is one other =
    added_fit major pool grown (adds_through major pool middle grown one.checked other.checked)
    (grown_fits major middle grown (grown_fits major pool middle is one) other)

-- ---- needs by texts

text_fits : (text : List ℕ) → IsShort text → AreFitting (needs_text text)
text_fits text short = ((short, λ major. tt), tt)

class_fits : (name : Name) → IsShort name → AreFitting (class_needs name)
class_fits name short = ((short, λ major. tt), (tt, tt))

string_fits : (text : List ℕ) → IsShort text → AreFitting (string_needs text)
string_fits text short = ((short, λ major. tt), (tt, tt))

member_fits : (kind : MemberKind) (class : Name) (name desc : List ℕ) → IsShort class → IsShort name → IsShort desc → AreFitting (member_needs kind class name desc)
member_fits kind class name desc a b c = ((a, λ major. tt), (tt, ((b, λ major. tt), ((c, λ major. tt), (tt, (tt, tt))))))

-- ---- what a pool needs

entry_fits : (entries : Constants) → PoolFits entries → (index : ℕ) (constant : Const) → constant_at entries index ≡ Some constant → FitsItems constant
entry_fits [] fits index constant is = absurd (none-some constant is)
entry_fits (None ∷ entries) fits zero constant is = absurd (none-some constant is)
entry_fits (Some one ∷ entries) fits zero constant is = subst FitsItems (same_Some one constant is) fits.0
entry_fits (one ∷ entries) fits (suc index) constant is = entry_fits entries fits.1 index constant is

module _ (pool : Constants) (fits : PoolFits pool) where
  pub text_short : (index : ℕ) (text : List ℕ) → utf8_at pool index ≡ Some text → IsShort text
  text_short index text is = by (constant_at pool index) refl where
    none : (found : Option Const) → option_and_then text_of found ≡ None → constant_at pool index ≡ found → IsShort text
    none found lacks e = absurd (none-some text (sym (ap (option_and_then text_of) e ∙ lacks) ∙ is))

    by : (found : Option Const) → constant_at pool index ≡ found → IsShort text
    by (Some (Utf8 bytes)) e = subst IsShort (same_Some bytes text (sym (ap (option_and_then text_of) e) ∙ is)) (entry_fits pool fits index (Utf8 bytes) e)
    by None e = none None refl e
    by (Some (Integer number)) e = none (Some (Integer number)) refl e
    by (Some (Float bits)) e = none (Some (Float bits)) refl e
    by (Some (Long number)) e = none (Some (Long number)) refl e
    by (Some (Double bits)) e = none (Some (Double bits)) refl e
    by (Some (Class name)) e = none (Some (Class name)) refl e
    by (Some (String name)) e = none (Some (String name)) refl e
    by (Some (Fieldref class member)) e = none (Some (Fieldref class member)) refl e
    by (Some (Methodref class member)) e = none (Some (Methodref class member)) refl e
    by (Some (InterfaceMethodref class member)) e = none (Some (InterfaceMethodref class member)) refl e
    by (Some (NameAndType name desc)) e = none (Some (NameAndType name desc)) refl e
    by (Some (MethodHandle kind reference)) e = none (Some (MethodHandle kind reference)) refl e
    by (Some (MethodType desc)) e = none (Some (MethodType desc)) refl e
    by (Some (InvokeDynamic bootstrap member)) e = none (Some (InvokeDynamic bootstrap member)) refl e

  through_short : {X : Type 0} (o : Option X) (f : X → ℕ) (text : List ℕ) → option_and_then (λ x. utf8_at pool (f x)) o ≡ Some text → IsShort text
  through_short None f text is = absurd (none-some text is)
  through_short (Some x) f text is = text_short (f x) text is

  pub class_short : (index : ℕ) (name : Name) → class_at pool index ≡ Some name → IsShort name
  class_short index name is = through_short (option_and_then class_name_of (constant_at pool index)) (λ n. n) name is

  reference_fits : (kind : MemberKind) (class : Option Name) (name desc : Option (List ℕ))
      → ((one : Name) → class ≡ Some one → IsShort one)
      → ((one : List ℕ) → name ≡ Some one → IsShort one)
      → ((one : List ℕ) → desc ≡ Some one → IsShort one)
      → AreFitting (needs_of_reference kind class name desc)
  reference_fits kind (Some class) (Some name) (Some desc) a b c = member_fits kind class name desc (a class refl) (b name refl) (c desc refl)
  reference_fits kind None name desc a b c = tt
  reference_fits kind (Some class) None desc a b c = tt
  reference_fits kind (Some class) (Some name) None a b c = tt

  members_fit : (kind : MemberKind) (class member : ℕ) → AreFitting (needs_of_reference kind (class_at pool class) (name_at pool member) (descriptor_at pool member))
  members_fit kind class member =
      reference_fits kind (class_at pool class) (name_at pool member) (descriptor_at pool member) (class_short class)
      (λ one is. through_short (option_and_then name_and_type_of (constant_at pool member)) (λ n. n.0) one is)
      (λ one is. through_short (option_and_then name_and_type_of (constant_at pool member)) (λ n. n.1) one is)

  class_of_text : (o : Option (List ℕ)) → ((one : List ℕ) → o ≡ Some one → IsShort one) → AreFitting (needs_of_class o)
  class_of_text None short = tt
  class_of_text (Some name) short = class_fits name (short name refl)

  string_of_text : (o : Option (List ℕ)) → ((one : List ℕ) → o ≡ Some one → IsShort one) → AreFitting (needs_of_string o)
  string_of_text None short = tt
  string_of_text (Some text) short = string_fits text (short text refl)

  constant_fits : (found : Option Const) → EntryFits found → AreFitting (needs_of_constant pool found)
  constant_fits None is = tt
  constant_fits (Some (Class name)) is = class_of_text (utf8_at pool name) (text_short name)
  constant_fits (Some (String text)) is = string_of_text (utf8_at pool text) (text_short text)
  constant_fits (Some (Integer number)) is = ((is, λ major. tt), tt)
  constant_fits (Some (Float bits)) is = ((is, λ major. tt), tt)
  constant_fits (Some (Long number)) is = ((is, λ major. tt), tt)
  constant_fits (Some (Double bits)) is = ((is, λ major. tt), tt)
  constant_fits (Some (Fieldref class member)) is = members_fit of_field class member
  constant_fits (Some (Methodref class member)) is = members_fit of_method class member
  constant_fits (Some (InterfaceMethodref class member)) is = members_fit of_interface_method class member
  constant_fits (Some (Utf8 text)) is = tt
  constant_fits (Some (NameAndType name desc)) is = tt
  constant_fits (Some (MethodHandle kind reference)) is = tt
  constant_fits (Some (MethodType desc)) is = tt
  constant_fits (Some (InvokeDynamic bootstrap member)) is = tt

  pub needs_fit : (index : ℕ) → AreFitting (needs_at pool index)
  needs_fit index = constant_fits (constant_at pool index) (by (constant_at pool index) refl) where
    by : (found : Option Const) → constant_at pool index ≡ found → EntryFits found
    by None e = tt
    by (Some constant) e = entry_fits pool fits index constant e

-- ---- written code

module _ (s : PlanScope) (constructor : Name → List ℕ) where
  index_fits : (pool : Constants) → PoolFits pool → (index : Option ℕ) → AreFitting (needs_of_index pool index)
  index_fits pool fits None = tt
  index_fits pool fits (Some index) = needs_fit pool fits index

  carried_fits : (class : ℕ) (instr : Instr) → PoolFits (pool_of s class) → AreFitting (carried_needs s class instr)
  carried_fits class instr fits = by (class == s.flat.host.class) where
    by : (b : Bool) → AreFitting (if b then [] else needs_of_index (pool_of s class) (named_index instr))
    by true = tt
    by false = index_fits (pool_of s class) fits (named_index instr)

  init_short : IsShort init
  init_short = omega arith

  instr_fits : (instr : WInstr) → IsShortInstr s constructor instr → AreFitting (instr_needs s constructor instr)
  instr_fits (carried class instr) is = carried_fits class instr is
  instr_fits (plain instr) is = tt
  instr_fits (load kind unit) is = tt
  instr_fits (store kind unit) is = tt
  instr_fits (makes class) is = class_fits class is
  instr_fits (constructs class) is = member_fits of_method class init (constructor class) is.0 init_short is.1

  catch_fits : (class : Option Name) → IsShortCatch class → AreFitting (catch_needs class)
  catch_fits None is = tt
  catch_fits (Some class) is = class_fits class is

  catches_fit : (catches : List WCatch) → AllByRecursion (λ catch. IsShortCatch catch.class) catches
      → AreFitting (flat_map (λ catch. catch_needs catch.class) catches)
  catches_fit [] are = tt
  catches_fit (catch ∷ catches) are =
      both_all IsFittingNeed (catch_needs catch.class) (flat_map (λ catch. catch_needs catch.class) catches) (catch_fits catch.class are.0) (catches_fit catches are.1)

  pub code_fits : (items : List WItem) → AllByRecursion (IsShortItem s constructor) items → AreFitting (code_needs s constructor items)
  code_fits [] are = tt
  code_fits (item ∷ items) are =
      both_all IsFittingNeed (item_needs s constructor item) (flat_map (item_needs s constructor) items)
      (both_all IsFittingNeed (instr_needs s constructor item.instr) (flat_map (λ catch. catch_needs catch.class) item.catches)
      (instr_fits item.instr are.0.instr) (catches_fit item.catches are.0.catches))
      (code_fits items are.1)

-- ---- field constructors

module _ (constructor : Name → List ℕ) where
  abbrev NeedsOf : List CInstr → List Need
  NeedsOf items = flat_map (constructor_item_needs constructor) items

  needs_both : (front back : List CInstr) → AreFitting (NeedsOf front) → AreFitting (NeedsOf back) → AreFitting (NeedsOf (front ++ back))
  needs_both [] back one other = other
  needs_both (item ∷ front) back one other =
      both_all IsFittingNeed (constructor_item_needs constructor item) (NeedsOf (front ++ back)) (first_all (constructor_item_needs constructor item) (NeedsOf front) one)
      (needs_both front back (last_all IsFittingNeed (constructor_item_needs constructor item) (NeedsOf front) one) other) where
        first_all : (xs ys : List Need) → AreFitting (xs ++ ys) → AreFitting xs
        first_all [] ys all = tt
        first_all (x ∷ xs) ys all = (all.0, first_all xs ys all.1)

  loads_fit : (fields : List Member) (unit : ℕ) → AreFitting (NeedsOf (loads_from unit fields))
  loads_fit [] unit = tt
  loads_fit (field ∷ fields) unit = loads_fit fields _

  puts_fit : (class : Name) (fields : List Member) (unit : ℕ) → IsShort class
      → AllByRecursion (λ (field : Member). IsShort field.name × IsShort field.desc) fields
      → AreFitting (NeedsOf (puts_from class unit fields))
  puts_fit class [] unit short all = tt
  puts_fit class (field ∷ fields) unit short all =
      both_all IsFittingNeed (member_needs of_field class field.name field.desc) _ (member_fits of_field class field.name field.desc short all.0.0 all.0.1)
      (puts_fit class fields _ short all.1)

  super_fits : (headers : Headers) (above : Name) → IsShort above → (above ≢ object → IsShort (constructor above)) → AreFitting (NeedsOf (super_call headers above))
  super_fits headers above short text = by (bytes_eq above object) refl where
    by : (b : Bool) → bytes_eq above object ≡ b → AreFitting (NeedsOf (super_call headers above))
    by true e = rw (e) (member_fits of_method object init (codes "()V") (omega arith) (omega arith) (omega arith))
    by false e =
        rw (e) (needs_both (loads_from 1 (instance_fields headers above)) _ (loads_fit (instance_fields headers above) 1)
        (member_fits of_method above init (constructor above) short (omega arith)
        (text (λ same. false≢true (sym e ∙ (bytes_eq-Decides above object).1 same)))))

  pub constructor_fits : (headers : Headers) (class : Name) → HasShortTexts headers constructor class → AreFitting (constructor_method_needs headers constructor class)
  constructor_fits headers class is =
      let fields = own_fields headers class in
      let call : AreFitting (NeedsOf (call_above headers (superclass_of headers class))) =
      subst (λ (o : Option Name). AreFitting (NeedsOf (call_above headers o))) (sym is.is_above) (super_fits headers is.above is.name_above is.text_above) in (
        (omega arith, λ major. tt),
        (
          (is.text, λ major. tt),
          (
            (omega arith, λ major. tt),
            needs_both (call_above headers (superclass_of headers class) ++ puts_from class (1 + units_of_fields (fields_above headers (superclass_of headers class))) fields) _
                (needs_both (call_above headers (superclass_of headers class)) (puts_from class (1 + units_of_fields (fields_above headers (superclass_of headers class))) fields) call
                (puts_fit class fields _ is.name is.fields)) tt,
          ),
        ),
      )
