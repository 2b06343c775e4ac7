-- The indices of written code's constants stay where the pool grows on.
use Rattle.std.proofs.Common.{◌≡◌, ◌≢◌, ◌==◌, ◌++◌, ℕ, zero, suc, Bool, true, false, List, [], ◌∷◌, flat_map, map, Option, Some, None, refl, sym, ap, subst, ◌∙◌}
use Rattle.std.specs.List.{AllByRecursion}
use Rattle.std.proofs.lemmas.Option.{none-some, same_Some}
use Rattle.class_model.specs.Names.{init}
use Rattle.class_model.specs.Pool.{Constants, constant_at, entries_of}
use Rattle.class_model.specs.PoolChecks.{class_at, descriptor_at, name_at, utf8_at}
use Rattle.class_model.specs.declared.instr.Instr.{Instr}
use Rattle.class_model.specs.declared.instr.Instr.TheVariants.{Nop, Const as ConstOf, Ldc, Ldc2, Load, Store, Iinc, ArrayLoad, ArrayStore, Shuffle, Pure, Divide, FloatAsk, If, If2, IfSame, IfNull, Goto, Table, Lookup, Return, GetStatic, PutStatic, GetField, PutField, Invoke, Dynamic, New, NewArray, NewRefArray, NewMulti, Length, Throw, Cast, InstanceOf, Enter, Leave}
use Rattle.class_model.specs.declared.opcodes.TheConstants.{INVOKESPECIAL}
use Rattle.class_model.specs.declared.pool.Const.{Const}
use Rattle.class_model.specs.declared.pool.Const.TheVariants.{Class, Double, Fieldref, Float, Integer, InterfaceMethodref, InvokeDynamic, Long, MethodHandle, MethodType, Methodref, NameAndType, String, Utf8}
use Rattle.making_code.specs.Laws.AddedConstants.{Compares}
use Rattle.making_code.specs.Laws.MeantConstants.{HasClass, HasMember, HasString, Stands, both_same, class_later, class_same, grown_class, grown_itself, grown_member, grown_string, member_later, same_index, stands_later, string_later, text_same}
use Rattle.class_rewrite.proofs.NeededConstants.{HasGrown, each_grown, each_in_form, grown_first, grown_rest, mapped}
use Rattle.class_tree.specs.Headers.{Name}
use Rattle.making_code.specs.Constants.{MemberKind, Need, class_index, class_needs, constructor_needs, grow, index_in, index_or_zero, member_needs, name_and_type_index, needs_at, needs_class, needs_itself, of_field, of_interface_method, of_method, reference_of_kind, string_needs, text_index}
use Rattle.making_code.specs.IndexedMaking.{index_of_last, made_instr}
use Rattle.making_code.specs.Items.{WCatch, WInstr, WItem, carried, constructs, load, makes, plain, store}
use Rattle.making_code.specs.IndexedItems.{IndexedItem}
use Rattle.making_code.specs.Laws.GrownPools.{Begins, begins_itself}
use Rattle.making_code.specs.Opposites.{opposite_instr}
use Rattle.member_link.specs.Machine.Replaced.{map_numbered}
use Rattle.plan_flow.specs.PlanScope.{PlanScope, pool_of}
use Rattle.plan_flow.specs.Written.Finish.{Finished}
use Rattle.plan_flow.specs.Written.WrittenCode.{Form, jumping_to, short, target_number, widened, written_items}
use Rattle.plan_flow.specs.Written.WrittenConstants.{catch_index, catch_needs, code_needs, indexed_instr, indexed_item, indexed_items, instr_needs, is_near, item_needs, named_index, needs_of_index, with_index}

-- ---- lists of needs

module _ (same : Compares) (limit : ℕ) (grown pool : Constants) (begins : Begins grown pool) where
  abbrev Stays : List Need → Type 0
  Stays needs = index_of_last pool needs ≡ index_of_last grown needs

  class_stays_in : (name : Name) → HasGrown limit (class_needs name) grown → Stays (class_needs name)
  class_stays_in name has = class_same grown pool name begins (class_later has.behind grown name has.begins (grown_class same limit has.before has.behind name has.grows))

  string_stays_in : (text : List ℕ) → HasGrown limit (string_needs text) grown → Stays (string_needs text)
  string_stays_in text has =
      let there : HasString grown text = string_later has.behind grown text has.begins (grown_string same limit has.before has.behind text has.grows) in
      ap (λ (n : ℕ). index_or_zero pool (String n)) (text_same grown pool text begins there.of_text)
      ∙ same_index grown pool (String (text_index grown text)) begins there.string

  member_stays_in : (kind : MemberKind) (class : Name) (name desc : List ℕ) → HasGrown limit (member_needs kind class name desc) grown
      → Stays (member_needs kind class name desc)
  member_stays_in kind class name desc has =
      let there : HasMember grown kind class name desc =
      member_later has.behind grown kind class name desc has.begins (grown_member same limit has.before has.behind kind class name desc has.grows) in
      ap (λ (c : ℕ). index_or_zero pool (reference_of_kind kind c (name_and_type_index pool name desc))) (class_same grown pool class begins there.of_class)
      ∙ ap (λ (n : ℕ). index_or_zero pool (reference_of_kind kind (class_index grown class) n)) (both_same grown pool name desc begins there.named)
      ∙ same_index grown pool (reference_of_kind kind (class_index grown class) (name_and_type_index grown name desc)) begins there.member

  itself_stays_in : (constant : Const) (rest : Constants) → entries_of constant ≡ Some constant ∷ rest → HasGrown limit (needs_itself constant ∷ []) grown
      → Stays (needs_itself constant ∷ [])
  itself_stays_in constant rest one has =
      same_index grown pool constant begins
      (stands_later has.behind grown constant has.begins (grown_itself same limit has.before has.behind constant rest one has.grows))

  -- those of an index of another pool
  module _ (old : Constants) (index : ℕ) (has : HasGrown limit (needs_at old index) grown) where
    has_these : (needs : List Need) → needs_at old index ≡ needs → HasGrown limit needs grown
    has_these needs is = subst (λ (n : List Need). HasGrown limit n grown) is has

    to_these : (needs : List Need) → needs_at old index ≡ needs → Stays needs → Stays (needs_at old index)
    to_these needs is stays = subst Stays (sym is) stays

    none_stay : needs_at old index ≡ [] → Stays (needs_at old index)
    none_stay is = to_these [] is refl

    member_stays_at : (kind : MemberKind) (class member : ℕ) → constant_at old index ≡ Some (reference_of_kind kind class member) → Stays (needs_at old index)
    member_stays_at kind class member = by kind where
      by : (k : MemberKind) → constant_at old index ≡ Some (reference_of_kind k class member) → Stays (needs_at old index)
      by of_field is = parts (class_at old class) refl (name_at old member) refl (descriptor_at old member) refl where
        parts : (c : Option Name) → class_at old class ≡ c → (n : Option (List ℕ)) → name_at old member ≡ n → (d : Option (List ℕ)) → descriptor_at old member ≡ d
            → Stays (needs_at old index)
        parts None ic n in_ d id = none_stay (rw (is, ic) refl)
        parts (Some c) ic None in_ d id = none_stay (rw (is, ic, in_) refl)
        parts (Some c) ic (Some n) in_ None id = none_stay (rw (is, ic, in_, id) refl)
        parts (Some c) ic (Some n) in_ (Some d) id =
            let needs : needs_at old index ≡ member_needs of_field c n d = rw (is, ic, in_, id) refl in
            to_these (member_needs of_field c n d) needs (member_stays_in of_field c n d (has_these (member_needs of_field c n d) needs))
      by of_method is = parts (class_at old class) refl (name_at old member) refl (descriptor_at old member) refl where
        parts : (c : Option Name) → class_at old class ≡ c → (n : Option (List ℕ)) → name_at old member ≡ n → (d : Option (List ℕ)) → descriptor_at old member ≡ d
            → Stays (needs_at old index)
        parts None ic n in_ d id = none_stay (rw (is, ic) refl)
        parts (Some c) ic None in_ d id = none_stay (rw (is, ic, in_) refl)
        parts (Some c) ic (Some n) in_ None id = none_stay (rw (is, ic, in_, id) refl)
        parts (Some c) ic (Some n) in_ (Some d) id =
            let needs : needs_at old index ≡ member_needs of_method c n d = rw (is, ic, in_, id) refl in
            to_these (member_needs of_method c n d) needs (member_stays_in of_method c n d (has_these (member_needs of_method c n d) needs))
      by of_interface_method is = parts (class_at old class) refl (name_at old member) refl (descriptor_at old member) refl where
        parts : (c : Option Name) → class_at old class ≡ c → (n : Option (List ℕ)) → name_at old member ≡ n → (d : Option (List ℕ)) → descriptor_at old member ≡ d
            → Stays (needs_at old index)
        parts None ic n in_ d id = none_stay (rw (is, ic) refl)
        parts (Some c) ic None in_ d id = none_stay (rw (is, ic, in_) refl)
        parts (Some c) ic (Some n) in_ None id = none_stay (rw (is, ic, in_, id) refl)
        parts (Some c) ic (Some n) in_ (Some d) id =
            let needs : needs_at old index ≡ member_needs of_interface_method c n d = rw (is, ic, in_, id) refl in
            to_these (member_needs of_interface_method c n d) needs (member_stays_in of_interface_method c n d (has_these (member_needs of_interface_method c n d) needs))

    pub index_stays_at : Stays (needs_at old index)
    index_stays_at = by (constant_at old index) refl where
      texted : (text : ℕ) → constant_at old index ≡ Some (String text) → (found : Option (List ℕ)) → utf8_at old text ≡ found → Stays (needs_at old index)
      texted text is None none = none_stay (rw (is, none) refl)
      texted text is (Some bytes) some =
          let needs : needs_at old index ≡ string_needs bytes = rw (is, some) refl in
          to_these (string_needs bytes) needs (string_stays_in bytes (has_these (string_needs bytes) needs))

      classed : (text : ℕ) → constant_at old index ≡ Some (Class text) → (found : Option (List ℕ)) → utf8_at old text ≡ found → Stays (needs_at old index)
      classed text is None none = none_stay (rw (is, none) refl)
      classed text is (Some name) some =
          let needs : needs_at old index ≡ class_needs name = rw (is, some) refl in
          to_these (class_needs name) needs (class_stays_in name (has_these (class_needs name) needs))

      numbered : (constant : Const) (rest : Constants) → entries_of constant ≡ Some constant ∷ rest → needs_at old index ≡ needs_itself constant ∷ []
          → Stays (needs_at old index)
      numbered constant rest one needs =
          to_these (needs_itself constant ∷ []) needs (itself_stays_in constant rest one (has_these (needs_itself constant ∷ []) needs))

      by : (found : Option Const) → constant_at old index ≡ found → Stays (needs_at old index)
      by None is = none_stay (rw (is) refl)
      by (Some (Utf8 text)) is = none_stay (rw (is) refl)
      by (Some (NameAndType name desc)) is = none_stay (rw (is) refl)
      by (Some (MethodHandle kind reference)) is = none_stay (rw (is) refl)
      by (Some (MethodType desc)) is = none_stay (rw (is) refl)
      by (Some (InvokeDynamic bootstrap member)) is = none_stay (rw (is) refl)
      by (Some (Integer number)) is = numbered (Integer number) [] refl (rw (is) refl)
      by (Some (Float bits)) is = numbered (Float bits) [] refl (rw (is) refl)
      by (Some (Long number)) is = numbered (Long number) (None ∷ []) refl (rw (is) refl)
      by (Some (Double bits)) is = numbered (Double bits) (None ∷ []) refl (rw (is) refl)
      by (Some (Class text)) is = classed text is (utf8_at old text) refl
      by (Some (String text)) is = texted text is (utf8_at old text) refl
      by (Some (Fieldref class member)) is = member_stays_at of_field class member is
      by (Some (Methodref class member)) is = member_stays_at of_method class member is
      by (Some (InterfaceMethodref class member)) is = member_stays_at of_interface_method class member is

-- ---- items

-- the opposite of a conditional jump names no constant
pub opposite_names_none : (instr other : Instr) → opposite_instr instr ≡ Some other → named_index other ≡ None
opposite_names_none (If opcode to) other is = sym (ap named_index (same_Some _ other is))
opposite_names_none (If2 opcode to) other is = sym (ap named_index (same_Some _ other is))
opposite_names_none (IfSame opcode to) other is = sym (ap named_index (same_Some _ other is))
opposite_names_none (IfNull opcode to) other is = sym (ap named_index (same_Some _ other is))
opposite_names_none Nop other is = absurd (none-some other is)
opposite_names_none (ConstOf imm) other is = absurd (none-some other is)
opposite_names_none (Ldc index) other is = absurd (none-some other is)
opposite_names_none (Ldc2 index) other is = absurd (none-some other is)
opposite_names_none (Load kind local) other is = absurd (none-some other is)
opposite_names_none (Store kind local) other is = absurd (none-some other is)
opposite_names_none (Iinc local amount) other is = absurd (none-some other is)
opposite_names_none (ArrayLoad opcode) other is = absurd (none-some other is)
opposite_names_none (ArrayStore opcode) other is = absurd (none-some other is)
opposite_names_none (Shuffle opcode) other is = absurd (none-some other is)
opposite_names_none (Pure opcode) other is = absurd (none-some other is)
opposite_names_none (Divide opcode) other is = absurd (none-some other is)
opposite_names_none (FloatAsk opcode) other is = absurd (none-some other is)
opposite_names_none (Goto to) other is = absurd (none-some other is)
opposite_names_none (Table low default to) other is = absurd (none-some other is)
opposite_names_none (Lookup default pairs) other is = absurd (none-some other is)
opposite_names_none (Return kind) other is = absurd (none-some other is)
opposite_names_none (GetStatic index) other is = absurd (none-some other is)
opposite_names_none (PutStatic index) other is = absurd (none-some other is)
opposite_names_none (GetField index) other is = absurd (none-some other is)
opposite_names_none (PutField index) other is = absurd (none-some other is)
opposite_names_none (Invoke opcode index count) other is = absurd (none-some other is)
opposite_names_none (Dynamic index) other is = absurd (none-some other is)
opposite_names_none (New index) other is = absurd (none-some other is)
opposite_names_none (NewArray code) other is = absurd (none-some other is)
opposite_names_none (NewRefArray index) other is = absurd (none-some other is)
opposite_names_none (NewMulti index dimensions) other is = absurd (none-some other is)
opposite_names_none Length other is = absurd (none-some other is)
opposite_names_none Throw other is = absurd (none-some other is)
opposite_names_none (Cast index) other is = absurd (none-some other is)
opposite_names_none (InstanceOf index) other is = absurd (none-some other is)
opposite_names_none Enter other is = absurd (none-some other is)
opposite_names_none Leave other is = absurd (none-some other is)

module _ (same : Compares) (s : PlanScope) (constructor : Name → List ℕ) (limit : ℕ) (grown pool : Constants) (begins : Begins grown pool) where
  -- an item has the same indices in both pools
  pub record ItemStays (one : WItem) : Type 0 where
    pub instr : indexed_instr s constructor pool one.instr ≡ indexed_instr s constructor grown one.instr
    pub catches : AllByRecursion (λ (catch : WCatch). catch_index pool catch.class ≡ catch_index grown catch.class) one.catches

  instr_stays : (instr : WInstr) → HasGrown limit (instr_needs s constructor instr) grown
      → indexed_instr s constructor pool instr ≡ indexed_instr s constructor grown instr
  instr_stays (carried class instr) has = by (class == s.flat.host.class) refl where
    named : (index : Option ℕ) → named_index instr ≡ index → HasGrown limit (needs_of_index (pool_of s class) index) grown
        → with_index (index_of_last pool (needs_of_index (pool_of s class) index)) instr
        ≡ with_index (index_of_last grown (needs_of_index (pool_of s class) index)) instr
    named None is h = refl
    named (Some index) is h = ap (λ (n : ℕ). with_index n instr) (index_stays_at same limit grown pool begins (pool_of s class) index h)

    by : (own : Bool) → (class == s.flat.host.class) ≡ own → indexed_instr s constructor pool (carried class instr) ≡ indexed_instr s constructor grown (carried class instr)
    by true own = rw (own) refl
    by false own =
        let needs : HasGrown limit (needs_of_index (pool_of s class) (named_index instr)) grown =
        subst (λ (n : List Need). HasGrown limit n grown) (rw (own) refl) has in
        rw (own) (named (named_index instr) refl needs)
  instr_stays (plain instr) has = refl
  instr_stays (load kind unit) has = refl
  instr_stays (store kind unit) has = refl
  instr_stays (makes class) has = ap (λ (n : ℕ). New n) (class_stays_in same limit grown pool begins class has)
  instr_stays (constructs class) has =
      ap (λ (n : ℕ). Invoke INVOKESPECIAL n 0) (member_stays_in same limit grown pool begins of_method class init (constructor class) has)

  catch_stays : (class : Option Name) → HasGrown limit (catch_needs class) grown → catch_index pool class ≡ catch_index grown class
  catch_stays None has = refl
  catch_stays (Some class) has = class_stays_in same limit grown pool begins class has

  item_stays : (one : WItem) → HasGrown limit (item_needs s constructor one) grown → ItemStays one
  item_stays one has = record {
    instr = instr_stays one.instr (grown_first limit (instr_needs s constructor one.instr) (flat_map (λ (catch : WCatch). catch_needs catch.class) one.catches) grown has);
    catches =
        mapped (λ (catch : WCatch). HasGrown limit (catch_needs catch.class) grown) (λ (catch : WCatch). catch_index pool catch.class ≡ catch_index grown catch.class) one.catches
        (λ catch h. catch_stays catch.class h)
        (each_grown (λ (catch : WCatch). catch_needs catch.class) one.catches limit grown
        (grown_rest limit (instr_needs s constructor one.instr) (flat_map (λ (catch : WCatch). catch_needs catch.class) one.catches) grown has));
  }

  opposite_stays : (class : ℕ) (instr other : Instr) → named_index other ≡ None
      → indexed_instr s constructor pool (carried class other) ≡ indexed_instr s constructor grown (carried class other)
  opposite_stays class instr other none = by (class == s.flat.host.class) refl where
    by : (own : Bool) → (class == s.flat.host.class) ≡ own → indexed_instr s constructor pool (carried class other) ≡ indexed_instr s constructor grown (carried class other)
    by true own = rw (own) refl
    by false own = rw (own, none) refl

  widened_stays : (one : WItem) → ItemStays one → AllByRecursion ItemStays (widened one)
  widened_stays one stays = by one.instr refl where
    alone : widened one ≡ one ∷ [] → AllByRecursion ItemStays (widened one)
    alone is = subst (AllByRecursion ItemStays) (sym is) (stays, tt)

    by : (instr : WInstr) → one.instr ≡ instr → AllByRecursion ItemStays (widened one)
    by (carried class instr) is = over (opposite_instr instr) refl where
      over : (other : Option Instr) → opposite_instr instr ≡ other → AllByRecursion ItemStays (widened one)
      over None none = alone (rw (is, none) refl)
      over (Some other) some =
          rw (is, some) (record { instr = opposite_stays class instr other (opposite_names_none instr other some); catches = tt }, (record { instr = refl; catches = tt }, tt))
    by (plain instr) is = alone (rw (is) refl)
    by (load kind unit) is = alone (rw (is) refl)
    by (store kind unit) is = alone (rw (is) refl)
    by (makes class) is = alone (rw (is) refl)
    by (constructs class) is = alone (rw (is) refl)

  catches_stay : (form : Form) (blocks : List Finished) (place : ℕ) (catches : List WCatch)
      → AllByRecursion (λ (catch : WCatch). catch_index pool catch.class ≡ catch_index grown catch.class) catches
      → map {B = ℕ × ℕ} (λ (catch : WCatch). (target_number form blocks place catch.to, catch_index pool catch.class)) catches
      ≡ map {B = ℕ × ℕ} (λ (catch : WCatch). (target_number form blocks place catch.to, catch_index grown catch.class)) catches
  catches_stay form blocks place [] stay = refl
  catches_stay form blocks place (catch ∷ catches) stay =
      ap (λ (n : ℕ). (target_number form blocks place catch.to, n)
      ∷ map {B = ℕ × ℕ} (λ (one : WCatch). (target_number form blocks place one.to, catch_index pool one.class)) catches) stay.0
      ∙ ap (λ (rest : List (ℕ × ℕ)). (target_number form blocks place catch.to, catch_index grown catch.class) ∷ rest)
      (catches_stay form blocks place catches stay.1)

  numbered_stay : (form : Form) (blocks : List Finished) (place : ℕ) (ones : List WItem) → AllByRecursion ItemStays ones
      → map_numbered (indexed_item s constructor pool form blocks) place ones ≡ map_numbered (indexed_item s constructor grown form blocks) place ones
  numbered_stay form blocks place [] stay = refl
  numbered_stay form blocks place (one ∷ ones) stay =
      let numbers : List ℕ = map (target_number form blocks place) one.targets in
      ap (λ (i : Instr). record {
        instr = jumping_to numbers i;
        near = is_near one.targets;
        catches = map {B = ℕ × ℕ} (λ (catch : WCatch). (target_number form blocks place catch.to, catch_index pool catch.class)) one.catches;
      }
      ∷ map_numbered (indexed_item s constructor pool form blocks) (suc place) ones) stay.0.instr
      ∙ ap (λ (c : List (ℕ × ℕ)). record { instr = jumping_to numbers (indexed_instr s constructor grown one.instr); near = is_near one.targets; catches = c }
      ∷ map_numbered (indexed_item s constructor pool form blocks) (suc place) ones) (catches_stay form blocks place one.catches stay.0.catches)
      ∙ ap (λ (rest : List IndexedItem). indexed_item s constructor grown form blocks place one ∷ rest) (numbered_stay form blocks (suc place) ones stay.1)

  -- Written code by its indices is the same in the pool that has grown by what the short form needs and in each that begins with it.
  pub items_stay : (old : Constants) (form : Form) (blocks : List Finished)
      → grow limit old (code_needs s constructor (written_items short blocks)) ≡ Some grown
      → indexed_items s constructor pool form blocks ≡ indexed_items s constructor grown form blocks
  items_stay old form blocks grows =
      numbered_stay form blocks zero (written_items form blocks)
      (each_in_form ItemStays widened_stays form blocks
      (mapped (λ (one : WItem). HasGrown limit (item_needs s constructor one) grown) ItemStays (written_items short blocks) item_stays
      (each_grown (item_needs s constructor) (written_items short blocks) limit grown
      (record { before = old; behind = grown; grows = grows; begins = begins_itself grown }))))
