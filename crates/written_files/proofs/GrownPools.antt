-- Constants that are sound pass the checks of a class file where a pool grows by them.
use Rattle.std.proofs.Common.{◌≡◌, ◌⊎◌, ◌++◌, ◌+◌, ◌∙◌, ℕ, nat_le, Bool, true, false, List, [], ◌∷◌, length, Option, Some, None, IsSome, IfSome, if◌then◌else◌, option_and_then, refl, sym, ap, subst, append-nil, append_assoc}
use Rattle.std.proofs.lemmas.Option.{none-some, same_Some}
use Rattle.class_model.specs.Checks.{AllHold}
use Rattle.class_model.specs.ClassOf.{bootstrap_index_checks}
use Rattle.class_model.specs.Descriptors.{IsReferenceName}
use Rattle.class_model.specs.Laws.Checks.{both_hold, first_holds, others_hold}
use Rattle.class_model.specs.ModifiedUtf8.{IsModifiedUtf8}
use Rattle.class_model.specs.Names.{IsFieldName}
use Rattle.class_model.specs.Pool.{Constants, constant_at, entries_of}
use Rattle.class_model.specs.PoolChecks.{FitsDescriptor, IsCalledName, IsClassAt, IsFieldDescriptor, IsMethodDescriptor, IsNameAndTypeAt, class_at, class_name_of, constant_checks, descriptor_at, entries_checks, name_and_type_of, name_at, utf8_at}
use Rattle.class_model.specs.Spelling.{constant_bytes}
use Rattle.class_model.specs.declared.pool.Const.{Const}
use Rattle.class_model.specs.declared.pool.Const.TheVariants.{Utf8, Integer, Float, Long, Double, Class, String, Fieldref, Methodref, InterfaceMethodref, NameAndType, MethodHandle, MethodType, InvokeDynamic}
use Rattle.class_tree.specs.Headers.{Name}
use Rattle.making_code.specs.Constants.{MemberKind, Need, class_index, class_needs, constant_of, grow, index_of, index_or_zero, member_needs, name_and_type_index, name_and_type_needs, needs_class, needs_itself, needs_member, needs_name_and_type, needs_string, needs_text, of_field, of_interface_method, of_method, reference_of_kind, string_needs, text_index, with_constant}
use Rattle.making_code.specs.Laws.AddedConstants.{Compares, added_with, found_or_zero, grow_one, grow_split, index_there}
use Rattle.making_code.specs.Laws.GrownPools.{Begins, grow_begins}
use Rattle.making_code.specs.Laws.MeantConstants.{class_later, class_read, grown_class, grown_text, text_later, text_read, text_same}
use Rattle.row_frames.specs.Laws.MorePools.{class_more, descriptor_more, name_more, text_more}
use Rattle.written_files.specs.GrownPools.{AddsChecked, AreSound, IsMemberText, IsNumeric, IsReferredTo, sound_class, sound_member, sound_none, sound_number, sound_string, sound_text}

-- ---- entries, one part after the other

entries_hold : (major : ℕ) (pool front back : Constants) → ((at : ℕ) → AllHold (entries_checks major pool at front))
    → ((at : ℕ) → AllHold (entries_checks major pool at back))
    → (at : ℕ) → AllHold (entries_checks major pool at (front ++ back))
entries_hold major pool front back one other at = by front at (one at) where
  by : (entries : Constants) (at : ℕ) → AllHold (entries_checks major pool at entries) → AllHold (entries_checks major pool at (entries ++ back))
  by [] at hold = other at
  by (None ∷ entries) at hold = by entries at hold
  by (Some constant ∷ entries) at hold =
      let first = constant_checks major pool at constant in
      let rest = entries_checks major pool (at + length (constant_bytes constant)) entries in
      both_hold first (entries_checks major pool (at + length (constant_bytes constant)) (entries ++ back))
      (first_holds first rest hold)
      (by entries (at + length (constant_bytes constant)) (others_hold first rest hold))

-- none of these calls a bootstrap method
abbrev NoCall : Const → Type 0
NoCall (InvokeDynamic bootstrap member) = ⊥
NoCall constant = Unit {0}

calls_both : (count : ℕ) (front back : Constants) → ((at : ℕ) → AllHold (bootstrap_index_checks count at front))
    → ((at : ℕ) → AllHold (bootstrap_index_checks count at back))
    → (at : ℕ) → AllHold (bootstrap_index_checks count at (front ++ back))
calls_both count front back one other at = by front at (one at) where
  by : (entries : Constants) (at : ℕ) → AllHold (bootstrap_index_checks count at entries) → AllHold (bootstrap_index_checks count at (entries ++ back))
  by [] at hold = other at
  by (None ∷ entries) at hold = by entries at hold
  by (Some (InvokeDynamic bootstrap member) ∷ entries) at hold =
      (hold.0, by entries (at + length (constant_bytes (InvokeDynamic bootstrap member))) hold.1)
  by (Some (Utf8 text) ∷ entries) at hold = by entries (at + length (constant_bytes (Utf8 text))) hold
  by (Some (Integer number) ∷ entries) at hold = by entries (at + length (constant_bytes (Integer number))) hold
  by (Some (Float bits) ∷ entries) at hold = by entries (at + length (constant_bytes (Float bits))) hold
  by (Some (Long number) ∷ entries) at hold = by entries (at + length (constant_bytes (Long number))) hold
  by (Some (Double bits) ∷ entries) at hold = by entries (at + length (constant_bytes (Double bits))) hold
  by (Some (Class name) ∷ entries) at hold = by entries (at + length (constant_bytes (Class name))) hold
  by (Some (String text) ∷ entries) at hold = by entries (at + length (constant_bytes (String text))) hold
  by (Some (Fieldref class member) ∷ entries) at hold = by entries (at + length (constant_bytes (Fieldref class member))) hold
  by (Some (Methodref class member) ∷ entries) at hold = by entries (at + length (constant_bytes (Methodref class member))) hold
  by (Some (InterfaceMethodref class member) ∷ entries) at hold = by entries (at + length (constant_bytes (InterfaceMethodref class member))) hold
  by (Some (NameAndType name desc) ∷ entries) at hold = by entries (at + length (constant_bytes (NameAndType name desc))) hold
  by (Some (MethodHandle kind reference) ∷ entries) at hold = by entries (at + length (constant_bytes (MethodHandle kind reference))) hold
  by (Some (MethodType desc) ∷ entries) at hold = by entries (at + length (constant_bytes (MethodType desc))) hold

pub adds_nothing : (major : ℕ) (pool : Constants) → AddsChecked major pool pool
adds_nothing major pool = record { added = []; is = sym (append-nil pool); pass = λ more at. tt; calls = λ count at. tt }

pub adds_through : (major : ℕ) (pool middle last : Constants) → AddsChecked major pool middle → AddsChecked major middle last → AddsChecked major pool last
adds_through major pool middle last one other = record {
  added = one.added ++ other.added;
  is = other.is ∙ ap (λ (x : Constants). x ++ other.added) one.is ∙ append_assoc pool one.added other.added;
  pass = λ more. entries_hold major (last ++ more) one.added other.added
      (λ at. subst (λ (all : Constants). AllHold (entries_checks major all at one.added))
      (sym (append_assoc middle other.added more) ∙ ap (λ (x : Constants). x ++ more) (sym other.is)) (one.pass (other.added ++ more) at))
      (other.pass more);
  calls = λ count. calls_both count one.added other.added (one.calls count) (other.calls count);
}

-- ---- one constant

abbrev Passes : ℕ → Constants → Const → Type 0
Passes major grown constant = (more : Constants) (at : ℕ) → AllHold (constant_checks major (grown ++ more) at constant)

one_entry : (major : ℕ) (pool : Constants) (constant : Const) → ((at : ℕ) → AllHold (constant_checks major pool at constant)) → (at : ℕ)
    → AllHold (entries_checks major pool at (entries_of constant))
one_entry major pool (Long number) pass at = tt
one_entry major pool (Double bits) pass at = tt
one_entry major pool constant pass at = both_hold (constant_checks major pool at constant) [] (pass at) tt

one_calls : (count : ℕ) (constant : Const) → NoCall constant → (at : ℕ) → AllHold (bootstrap_index_checks count at (entries_of constant))
one_calls count (InvokeDynamic bootstrap member) none at = absurd none
one_calls count constant none at = tt

adds_one : (major limit : ℕ) (pool grown : Constants) (need : Need) → grow limit pool (need ∷ []) ≡ Some grown
    → NoCall (constant_of pool need)
    → Passes major grown (constant_of pool need)
    → AddsChecked major pool grown
adds_one major limit pool grown need is none pass = by (index_of pool (constant_of pool need)) refl where
  constant : Const
  constant = constant_of pool need

  step : with_constant limit pool (constant_of pool need) ≡ Some grown
  step = grow_one limit pool need grown is

  if_fits : (fits : Bool) → (if fits then Some (pool ++ entries_of (constant_of pool need)) else None) ≡ Some grown → AddsChecked major pool grown
  if_fits true e =
      let same : pool ++ entries_of (constant_of pool need) ≡ grown = same_Some (pool ++ entries_of (constant_of pool need)) grown e in
      record {
        added = entries_of (constant_of pool need);
        is = sym same;
        pass = λ more. one_entry major (grown ++ more) (constant_of pool need) (pass more);
        calls = λ count. one_calls count (constant_of pool need) none;
      }
  if_fits false e = absurd (none-some grown e)

  by : (found : Option ℕ) → index_of pool (constant_of pool need) ≡ found → AddsChecked major pool grown
  by (Some index) found =
      let here : with_constant limit pool (constant_of pool need) ≡ Some pool = rw (found) refl in
      subst (AddsChecked major pool) (same_Some pool grown (sym here ∙ step)) (adds_nothing major pool)
  by None found =
      let here : with_constant limit pool (constant_of pool need)
      ≡ (if nat_le (length pool + length (entries_of (constant_of pool need))) limit then Some (pool ++ entries_of (constant_of pool need)) else None) =
      rw (found) refl in
      if_fits (nat_le (length pool + length (entries_of (constant_of pool need))) limit) (sym here ∙ step)

-- ---- what is read where the pool is longer

-- a pool that begins with another reads what that one reads
module _ (pool grown more : Constants) (begins : Begins pool grown) where
  longer : grown ++ more ≡ pool ++ (begins.more ++ more)
  longer = ap (λ (x : Constants). x ++ more) begins.is ∙ append_assoc pool begins.more more

  text_then : (index : ℕ) (text : List ℕ) → utf8_at pool index ≡ Some text → utf8_at (grown ++ more) index ≡ Some text
  text_then index text is = ap (λ (all : Constants). utf8_at all index) longer ∙ text_more pool (begins.more ++ more) index text is

  class_then : (index : ℕ) (name : Name) → class_at pool index ≡ Some name → class_at (grown ++ more) index ≡ Some name
  class_then index name is = ap (λ (all : Constants). class_at all index) longer ∙ class_more pool (begins.more ++ more) index name is

  name_then : (index : ℕ) (text : List ℕ) → name_at pool index ≡ Some text → name_at (grown ++ more) index ≡ Some text
  name_then index text is = ap (λ (all : Constants). name_at all index) longer ∙ name_more pool (begins.more ++ more) index text is

  desc_then : (index : ℕ) (text : List ℕ) → descriptor_at pool index ≡ Some text → descriptor_at (grown ++ more) index ≡ Some text
  desc_then index text is = ap (λ (all : Constants). descriptor_at all index) longer ∙ descriptor_more pool (begins.more ++ more) index text is

some_there : {X : Type 0} (o : Option X) (x : X) → o ≡ Some x → IsSome o
some_there o x is = subst (λ (p : Option _). IsSome p) (sym is) refl

if_there : {X : Type 0} (P : X → Type 0) (o : Option X) (x : X) → o ≡ Some x → P x → IfSome o P
if_there P o x is holds = subst (λ (p : Option _). IfSome p P) (sym is) holds

class_is_there : (pool : Constants) (index : ℕ) (name : Name) → class_at pool index ≡ Some name → IsClassAt pool index
class_is_there pool index name is = by (option_and_then class_name_of (constant_at pool index)) refl where
  by : (o : Option ℕ) → option_and_then class_name_of (constant_at pool index) ≡ o → IsClassAt pool index
  by None e = absurd (none-some name (sym (ap (option_and_then (utf8_at pool)) e) ∙ is))
  by (Some text) e = some_there (option_and_then class_name_of (constant_at pool index)) text e

type_is_there : (pool : Constants) (index : ℕ) (name : List ℕ) → name_at pool index ≡ Some name → IsNameAndTypeAt pool index
type_is_there pool index name is = by (option_and_then name_and_type_of (constant_at pool index)) refl where
  by : (o : Option (ℕ × ℕ)) → option_and_then name_and_type_of (constant_at pool index) ≡ o → IsNameAndTypeAt pool index
  by None e = absurd (none-some name (sym (ap (option_and_then (λ n. utf8_at pool n.0)) e) ∙ is))
  by (Some both) e = some_there (option_and_then name_and_type_of (constant_at pool index)) both e

-- ---- needs with what they name

module _ (same : Compares) (major limit : ℕ) where
  adds_text : (pool grown : Constants) (text : List ℕ) → IsModifiedUtf8 text → grow limit pool (needs_text text) ≡ Some grown → AddsChecked major pool grown
  adds_text pool grown text is_text is = adds_one major limit pool grown (needs_itself (Utf8 text)) is tt (λ more at. (is_text, tt))

  text_then_read : (pool grown : Constants) (text : List ℕ) → grow limit pool (needs_text text) ≡ Some grown
      → utf8_at grown (text_index grown text) ≡ Some text
  text_then_read pool grown text is = text_read same grown text (grown_text same limit pool grown text is)

  adds_class : (pool grown : Constants) (name : Name) → IsModifiedUtf8 name → IsReferenceName name → grow limit pool (class_needs name) ≡ Some grown
      → AddsChecked major pool grown
  adds_class pool grown name is_text is_name is =
      let cut = grow_split limit pool (needs_text name) (needs_class name ∷ []) grown is in
      let begins = grow_begins limit (needs_class name ∷ []) cut.0 grown cut.2 in
      let read = text_then_read pool cut.0 name cut.1 in
      adds_through major pool cut.0 grown (adds_text pool cut.0 name is_text cut.1)
      (adds_one major limit cut.0 grown (needs_class name) cut.2 tt
      (λ more at.
      let text = text_then cut.0 grown more begins (text_index cut.0 name) name read in (
        some_there (utf8_at (grown ++ more) (text_index cut.0 name)) name text,
        (if_there IsReferenceName (utf8_at (grown ++ more) (text_index cut.0 name)) name text is_name, tt),
      )))

  adds_string : (pool grown : Constants) (text : List ℕ) → IsModifiedUtf8 text → grow limit pool (string_needs text) ≡ Some grown
      → AddsChecked major pool grown
  adds_string pool grown text is_text is =
      let cut = grow_split limit pool (needs_text text) (needs_string text ∷ []) grown is in
      let begins = grow_begins limit (needs_string text ∷ []) cut.0 grown cut.2 in
      let read = text_then_read pool cut.0 text cut.1 in
      adds_through major pool cut.0 grown (adds_text pool cut.0 text is_text cut.1)
      (adds_one major limit cut.0 grown (needs_string text) cut.2 tt
      (λ more at. (some_there (utf8_at (grown ++ more) (text_index cut.0 text)) text (text_then cut.0 grown more begins (text_index cut.0 text) text read), tt)))

  number_passes : (constant : Const) → IsNumeric constant → NoCall constant × ((pool : Constants) (at : ℕ) → AllHold (constant_checks major pool at constant))
  number_passes (Integer number) is = (tt, λ pool at. tt)
  number_passes (Float bits) is = (tt, λ pool at. tt)
  number_passes (Long number) is = (tt, λ pool at. tt)
  number_passes (Double bits) is = (tt, λ pool at. tt)
  number_passes (Utf8 text) is = absurd is
  number_passes (Class name) is = absurd is
  number_passes (String text) is = absurd is
  number_passes (Fieldref class member) is = absurd is
  number_passes (Methodref class member) is = absurd is
  number_passes (InterfaceMethodref class member) is = absurd is
  number_passes (NameAndType name desc) is = absurd is
  number_passes (MethodHandle kind reference) is = absurd is
  number_passes (MethodType desc) is = absurd is
  number_passes (InvokeDynamic bootstrap member) is = absurd is

  -- a name and a descriptor, and what they are read as
  record AddsNamed (pool grown : Constants) (name desc : List ℕ) : Type 0 where
    adds : AddsChecked major pool grown
    name_is : name_at grown (name_and_type_index grown name desc) ≡ Some name
    desc_is : descriptor_at grown (name_and_type_index grown name desc) ≡ Some desc

  adds_named : (pool grown : Constants) (name desc : List ℕ) → IsModifiedUtf8 name → IsModifiedUtf8 desc → FitsDescriptor (Some desc) name
      → (IsFieldDescriptor desc ⊎ IsMethodDescriptor desc)
      → grow limit pool (name_and_type_needs name desc) ≡ Some grown
      → AddsNamed pool grown name desc
  adds_named pool grown name desc name_text desc_text fits is_desc is =
      let cut = grow_split limit pool (needs_text name ++ needs_text desc) (needs_name_and_type name desc ∷ []) grown is in
      let texts = grow_split limit pool (needs_text name) (needs_text desc) cut.0 cut.1 in
      let middle = cut.0 in
      let between = grow_begins limit (needs_text desc) texts.0 middle texts.2 in
      let begins = grow_begins limit (needs_name_and_type name desc ∷ []) middle grown cut.2 in
      let has_name = text_later texts.0 middle name between (grown_text same limit pool texts.0 name texts.1) in
      let has_desc = grown_text same limit texts.0 middle desc texts.2 in
      let name_here = text_read same middle name has_name in
      let desc_here = text_read same middle desc has_desc in
      let last_name = text_later middle grown name begins has_name in
      let last_desc = text_later middle grown desc begins has_desc in
      let both : Const = NameAndType (text_index middle name) (text_index middle desc) in
      let stands = added_with same limit middle both grown [] refl (grow_one limit middle (needs_name_and_type name desc) grown cut.2) in
      let same_both : NameAndType (text_index grown name) (text_index grown desc) ≡ both =
      ap (λ (n : ℕ). NameAndType n (text_index grown desc)) (text_same middle grown name begins has_name)
      ∙ ap (λ (d : ℕ). NameAndType (text_index middle name) d) (text_same middle grown desc begins has_desc) in
      let index : name_and_type_index grown name desc ≡ stands.0 =
      ap (index_or_zero grown) same_both ∙ found_or_zero grown stands.0 both stands.1 in
      let there = index_there same grown stands.0 both stands.1 in
      let name_then_there : utf8_at grown (text_index middle name) ≡ Some name =
      ap (λ (all : Constants). utf8_at all (text_index middle name)) begins.is ∙ text_more middle begins.more (text_index middle name) name name_here in
      let desc_then_there : utf8_at grown (text_index middle desc) ≡ Some desc =
      ap (λ (all : Constants). utf8_at all (text_index middle desc)) begins.is ∙ text_more middle begins.more (text_index middle desc) desc desc_here in
      record {
        adds =
            adds_through major pool texts.0 grown (adds_text pool texts.0 name name_text texts.1)
            (adds_through major texts.0 middle grown (adds_text texts.0 middle desc desc_text texts.2)
            (adds_one major limit middle grown (needs_name_and_type name desc) cut.2 tt
            (λ more at.
            let one = text_then middle grown more begins (text_index middle name) name name_here in
            let other = text_then middle grown more begins (text_index middle desc) desc desc_here in (
              (
                some_there (utf8_at (grown ++ more) (text_index middle name)) name one,
                some_there (utf8_at (grown ++ more) (text_index middle desc)) desc other,
              ),
              (
                if_there (FitsDescriptor (utf8_at (grown ++ more) (text_index middle desc))) (utf8_at (grown ++ more) (text_index middle name)) name one
                    (subst (λ (o : Option (List ℕ)). FitsDescriptor o name) (sym other) fits),
                (if_there (λ text. IsFieldDescriptor text ⊎ IsMethodDescriptor text) (utf8_at (grown ++ more) (text_index middle desc)) desc other is_desc, tt),
              ),
            ))));
        name_is = ap (name_at grown) index ∙ rw (there) name_then_there;
        desc_is = ap (descriptor_at grown) index ∙ rw (there) desc_then_there;
      }

  -- a reference to a member
  reference_passes : (pool : Constants) (kind : MemberKind) (of_class named : ℕ) (class : Name) (name desc : List ℕ) → class_at pool of_class ≡ Some class
      → name_at pool named ≡ Some name
      → descriptor_at pool named ≡ Some desc
      → IsReferredTo kind name desc
      → (at : ℕ) → AllHold (constant_checks major pool at (reference_of_kind kind of_class named))
  reference_passes pool of_field of_class named class name desc c n d is at = (
    (class_is_there pool of_class class c, type_is_there pool named name n),
    (
      if_there IsFieldName (name_at pool named) name n is.0,
      (if_there IsFieldDescriptor (descriptor_at pool named) desc d is.1, tt),
    ),
  )
  reference_passes pool of_method of_class named class name desc c n d is at = (
    (class_is_there pool of_class class c, type_is_there pool named name n),
    (
      if_there (IsCalledName (descriptor_at pool named)) (name_at pool named) name n
          (subst (λ (o : Option (List ℕ)). IsCalledName o name) (sym d) is.0),
      (if_there IsMethodDescriptor (descriptor_at pool named) desc d is.1, tt),
    ),
  )
  reference_passes pool of_interface_method of_class named class name desc c n d is at = (
    (class_is_there pool of_class class c, type_is_there pool named name n),
    (
      if_there (IsCalledName (descriptor_at pool named)) (name_at pool named) name n
          (subst (λ (o : Option (List ℕ)). IsCalledName o name) (sym d) is.0),
      (if_there IsMethodDescriptor (descriptor_at pool named) desc d is.1, tt),
    ),
  )

  no_call : (kind : MemberKind) (of_class named : ℕ) → NoCall (reference_of_kind kind of_class named)
  no_call of_field of_class named = tt
  no_call of_method of_class named = tt
  no_call of_interface_method of_class named = tt

  adds_member : (pool grown : Constants) (kind : MemberKind) (class : Name) (name desc : List ℕ) → IsMemberText kind class name desc
      → grow limit pool (member_needs kind class name desc) ≡ Some grown
      → AddsChecked major pool grown
  adds_member pool grown kind class name desc texts is =
      let cut = grow_split limit pool (class_needs class ++ name_and_type_needs name desc) (needs_member kind class name desc ∷ []) grown is in
      let inner = grow_split limit pool (class_needs class) (name_and_type_needs name desc) cut.0 cut.1 in
      let middle = cut.0 in
      let between = grow_begins limit (name_and_type_needs name desc) inner.0 middle inner.2 in
      let begins = grow_begins limit (needs_member kind class name desc ∷ []) middle grown cut.2 in
      let has_class = class_later inner.0 middle class between (grown_class same limit pool inner.0 class inner.1) in
      let class_here = class_read same middle class has_class in
      let named = adds_named inner.0 middle name desc texts.name_text texts.desc_text texts.fits texts.is_desc inner.2 in
      adds_through major pool inner.0 grown (adds_class pool inner.0 class texts.class_text texts.is_class inner.1)
      (adds_through major inner.0 middle grown named.adds
      (adds_one major limit middle grown (needs_member kind class name desc) cut.2
      (no_call kind (class_index middle class) (name_and_type_index middle name desc))
      (λ more. reference_passes (grown ++ more) kind (class_index middle class) (name_and_type_index middle name desc) class name desc
      (class_then middle grown more begins (class_index middle class) class class_here)
      (name_then middle grown more begins (name_and_type_index middle name desc) name named.name_is)
      (desc_then middle grown more begins (name_and_type_index middle name desc) desc named.desc_is) texts.is_member)))

  -- ---- all

  pub adds_all : (needs : List Need) → AreSound needs → (pool grown : Constants) → grow limit pool needs ≡ Some grown → AddsChecked major pool grown
  adds_all _ sound_none pool grown is = subst (AddsChecked major pool) (same_Some pool grown is) (adds_nothing major pool)
  adds_all _ (sound_text text needs is_text rest) pool grown is =
      let cut = grow_split limit pool (needs_text text) needs grown is in
      adds_through major pool cut.0 grown (adds_text pool cut.0 text is_text cut.1) (adds_all needs rest cut.0 grown cut.2)
  adds_all _ (sound_class name needs is_text is_name rest) pool grown is =
      let cut = grow_split limit pool (class_needs name) needs grown is in
      adds_through major pool cut.0 grown (adds_class pool cut.0 name is_text is_name cut.1) (adds_all needs rest cut.0 grown cut.2)
  adds_all _ (sound_string text needs is_text rest) pool grown is =
      let cut = grow_split limit pool (string_needs text) needs grown is in
      adds_through major pool cut.0 grown (adds_string pool cut.0 text is_text cut.1) (adds_all needs rest cut.0 grown cut.2)
  adds_all _ (sound_member kind class name desc needs texts rest) pool grown is =
      let cut = grow_split limit pool (member_needs kind class name desc) needs grown is in
      adds_through major pool cut.0 grown (adds_member pool cut.0 kind class name desc texts cut.1) (adds_all needs rest cut.0 grown cut.2)
  adds_all _ (sound_number constant needs numeric rest) pool grown is =
      let cut = grow_split limit pool (needs_itself constant ∷ []) needs grown is in
      let passes = number_passes constant numeric in
      adds_through major pool cut.0 grown
      (adds_one major limit pool cut.0 (needs_itself constant) cut.1 passes.0 (λ more. passes.1 (cut.0 ++ more)))
      (adds_all needs rest cut.0 grown cut.2)
