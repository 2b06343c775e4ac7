-- What rows read of a constant is the same in the pool that written code has: where that begins with the pool of the instruction's class, and where
-- it has grown by what the instruction needs.
use Rattle.std.proofs.Common.{◌≡◌, ◌++◌, ℕ, zero, suc, List, [], ◌∷◌, slice_get, Option, Some, None, option_and_then, refl, ap, ◌∙◌}
use Rattle.std.proofs.lemmas.Option.{none-some, same_Some}
use Rattle.class_model.specs.Pool.{Constants, constant_at}
use Rattle.class_model.specs.PoolChecks.{class_at, class_name_of, descriptor_at, name_and_type_of, name_at, text_of, utf8_at}
use Rattle.class_model.specs.declared.frame.VType.{VType}
use Rattle.class_model.specs.declared.pool.Const.{Const}
use Rattle.class_model.specs.declared.pool.Const.TheVariants.{Class, Double, Fieldref, Float, Integer, InterfaceMethodref, InvokeDynamic, Long, MethodHandle, MethodType, Methodref, NameAndType, String, Utf8}
use Rattle.class_tree.specs.Headers.{Name}
use Rattle.making_code.specs.Constants.{MemberKind, of_field, of_interface_method, of_method, reference_of_kind}
use Rattle.making_code.specs.Laws.GrownPools.{Begins}
use Rattle.member_link.specs.References.{Reference, reference_at}
use Rattle.member_link.specs.Signatures.{reference_of}
use Rattle.written_types.proofs.KeptRows.{loaded}
use Rattle.making_code.specs.Laws.MeantConstants.{Means}

-- the descriptor of an invokedynamic
abbrev pub dynamic_desc : Constants → Option Const → Option (List ℕ)
dynamic_desc pool (Some (InvokeDynamic bootstrap member)) = descriptor_at pool member
dynamic_desc pool constant = None

-- An index of one pool and one of another mean the same to the rows of classes and members.
pub record SameNamed (old : Constants) (index : ℕ) (pool : Constants) (other : ℕ) : Type 0 where
  pub class : (name : Name) → class_at old index ≡ Some name → class_at pool other ≡ Some name
  pub member : (r : Reference) → reference_of old (constant_at old index) ≡ Some r → reference_of pool (constant_at pool other) ≡ Some r

-- and to those of what is loaded and of invokedynamic
abbrev pub SameLoaded : Constants → ℕ → Constants → ℕ → Type 0
SameLoaded old index pool other = (type : VType) → loaded (constant_at old index) ≡ Some type → loaded (constant_at pool other) ≡ Some type

abbrev pub SameDynamic : Constants → ℕ → Constants → ℕ → Type 0
SameDynamic old index pool other =
    (desc : List ℕ) → dynamic_desc old (constant_at old index) ≡ Some desc → dynamic_desc pool (constant_at pool other) ≡ Some desc

-- ---- members by their parts

pub record MemberParts (pool : Constants) (class member : ℕ) (r : Reference) : Type 0 where
  pub class_is : class_at pool class ≡ Some r.class
  pub name_is : name_at pool member ≡ Some r.name
  pub desc_is : descriptor_at pool member ≡ Some r.desc

member_parts : (pool : Constants) (class member : ℕ) (r : Reference) → reference_at pool class member ≡ Some r → MemberParts pool class member r
member_parts pool class member r is = by (class_at pool class) refl (name_at pool member) refl (descriptor_at pool member) refl where
  by : (c : Option Name) → class_at pool class ≡ c → (n : Option (List ℕ)) → name_at pool member ≡ n
      → (d : Option (List ℕ)) → descriptor_at pool member ≡ d
      → MemberParts pool class member r
  by (Some c) one (Some n) two (Some d) three =
      let same : record { class = c; name = n; desc = d } ≡ r = same_Some (record { class = c; name = n; desc = d }) r (rw (one, two, three) at is) in
      record {
        class_is = one ∙ ap (λ (x : Reference). Some x.class) same;
        name_is = two ∙ ap (λ (x : Reference). Some x.name) same;
        desc_is = three ∙ ap (λ (x : Reference). Some x.desc) same;
      }
  by None one n two d three = absurd (none-some r (rw (one) at is))
  by (Some c) one None two d three = absurd (none-some r (rw (one, two) at is))
  by (Some c) one (Some n) two None three = absurd (none-some r (rw (one, two, three) at is))

parts_member : (pool : Constants) (class member : ℕ) (r : Reference) → MemberParts pool class member r → reference_at pool class member ≡ Some r
parts_member pool class member r parts = rw (parts.class_is, parts.name_is, parts.desc_is) refl

-- a constant that refers to a member
pub record MemberAt (pool : Constants) (constant : Option Const) (r : Reference) : Type 0 where
  pub kind : MemberKind
  pub class : ℕ
  pub member : ℕ
  pub is : constant ≡ Some (reference_of_kind kind class member)
  pub parts : MemberParts pool class member r

member_at : (pool : Constants) (constant : Option Const) (r : Reference) → reference_of pool constant ≡ Some r → MemberAt pool constant r
member_at pool (Some (Fieldref class member)) r is =
    record { kind = of_field; class = class; member = member; is = refl; parts = member_parts pool class member r is }
member_at pool (Some (Methodref class member)) r is =
    record { kind = of_method; class = class; member = member; is = refl; parts = member_parts pool class member r is }
member_at pool (Some (InterfaceMethodref class member)) r is =
    record { kind = of_interface_method; class = class; member = member; is = refl; parts = member_parts pool class member r is }
member_at pool None r is = absurd (none-some r is)
member_at pool (Some (Utf8 text)) r is = absurd (none-some r is)
member_at pool (Some (Integer number)) r is = absurd (none-some r is)
member_at pool (Some (Float bits)) r is = absurd (none-some r is)
member_at pool (Some (Long number)) r is = absurd (none-some r is)
member_at pool (Some (Double bits)) r is = absurd (none-some r is)
member_at pool (Some (Class name)) r is = absurd (none-some r is)
member_at pool (Some (String text)) r is = absurd (none-some r is)
member_at pool (Some (NameAndType name desc)) r is = absurd (none-some r is)
member_at pool (Some (MethodHandle kind reference)) r is = absurd (none-some r is)
member_at pool (Some (MethodType desc)) r is = absurd (none-some r is)
member_at pool (Some (InvokeDynamic bootstrap member)) r is = absurd (none-some r is)

refers_of_kind : (pool : Constants) (kind : MemberKind) (class member : ℕ) (r : Reference) → MemberParts pool class member r
    → reference_of pool (Some (reference_of_kind kind class member)) ≡ Some r
refers_of_kind pool of_field class member r parts = parts_member pool class member r parts
refers_of_kind pool of_method class member r parts = parts_member pool class member r parts
refers_of_kind pool of_interface_method class member r parts = parts_member pool class member r parts

-- ---- in a pool that has grown by what is needed

module _ (old : Constants) (index : ℕ) (pool : Constants) (other : ℕ) (means : Means old index pool other) where
  meant_member : (r : Reference) → reference_of old (constant_at old index) ≡ Some r → reference_of pool (constant_at pool other) ≡ Some r
  meant_member r is =
      let found = member_at old (constant_at old index) r is in
      let named = means.member found.kind found.class found.member r.class r.name r.desc found.is found.parts.class_is found.parts.name_is found.parts.desc_is in
      ap (reference_of pool) named.is
      ∙ refers_of_kind pool found.kind named.of_class named.named r
      (record { class_is = named.class_is; name_is = named.name_is; desc_is = named.desc_is })

  pub meant_named : SameNamed old index pool other
  meant_named = record { class = means.class; member = meant_member }

  -- what is loaded: a text, a class or a number
  abbrev pub IsReadable : Option Const → Type 0
  IsReadable (Some (String text)) = (bytes : List ℕ) × (utf8_at old text ≡ Some bytes)
  IsReadable (Some (Class text)) = (bytes : List ℕ) × (utf8_at old text ≡ Some bytes)
  IsReadable (Some (MethodHandle kind reference)) = ⊥
  IsReadable (Some (MethodType desc)) = ⊥
  IsReadable constant = Unit {0}

  pub meant_loaded : IsReadable (constant_at old index) → SameLoaded old index pool other
  meant_loaded readable type = by (constant_at old index) refl readable where
    by : (constant : Option Const) → constant_at old index ≡ constant → IsReadable constant → loaded constant ≡ Some type
        → loaded (constant_at pool other) ≡ Some type
    by None at may is = absurd (none-some type is)
    by (Some (Integer number)) at may is = ap loaded (means.number (Integer number) tt at) ∙ is
    by (Some (Float bits)) at may is = ap loaded (means.number (Float bits) tt at) ∙ is
    by (Some (Long number)) at may is = ap loaded (means.number (Long number) tt at) ∙ is
    by (Some (Double bits)) at may is = ap loaded (means.number (Double bits) tt at) ∙ is
    by (Some (String text)) at may is = ap loaded (means.string text may.0 at may.1).is ∙ is
    by (Some (Class text)) at may is =
        let named : class_at old index ≡ Some may.0 = rw (at, may.1) refl in
        class_loaded may.0 (means.class may.0 named) ∙ is where
          class_loaded : (name : Name) → class_at pool other ≡ Some name → loaded (constant_at pool other) ≡ loaded (Some (Class text))
          class_loaded name named = of_constant (constant_at pool other) named where
            of_constant : (found : Option Const) → option_and_then (utf8_at pool) (option_and_then class_name_of found) ≡ Some name
                → loaded found ≡ loaded (Some (Class text))
            of_constant (Some (Class number)) told = refl
            of_constant None told = absurd (none-some name told)
            of_constant (Some (Utf8 bytes)) told = absurd (none-some name told)
            of_constant (Some (Integer number)) told = absurd (none-some name told)
            of_constant (Some (Float bits)) told = absurd (none-some name told)
            of_constant (Some (Long number)) told = absurd (none-some name told)
            of_constant (Some (Double bits)) told = absurd (none-some name told)
            of_constant (Some (String bytes)) told = absurd (none-some name told)
            of_constant (Some (Fieldref class member)) told = absurd (none-some name told)
            of_constant (Some (Methodref class member)) told = absurd (none-some name told)
            of_constant (Some (InterfaceMethodref class member)) told = absurd (none-some name told)
            of_constant (Some (NameAndType called desc)) told = absurd (none-some name told)
            of_constant (Some (MethodHandle kind reference)) told = absurd (none-some name told)
            of_constant (Some (MethodType desc)) told = absurd (none-some name told)
            of_constant (Some (InvokeDynamic bootstrap member)) told = absurd (none-some name told)
    by (Some (Utf8 text)) at may is = absurd (none-some type is)
    by (Some (Fieldref class member)) at may is = absurd (none-some type is)
    by (Some (Methodref class member)) at may is = absurd (none-some type is)
    by (Some (InterfaceMethodref class member)) at may is = absurd (none-some type is)
    by (Some (NameAndType name desc)) at may is = absurd (none-some type is)
    by (Some (MethodHandle kind reference)) at may is = absurd may
    by (Some (MethodType desc)) at may is = absurd may
    by (Some (InvokeDynamic bootstrap member)) at may is = absurd (none-some type is)

-- ---- in a pool that begins with the old one

slot_of : (pool : Constants) (index : ℕ) (constant : Const) → constant_at pool index ≡ Some constant → slice_get pool index ≡ Some (Some constant)
slot_of pool index constant = by (slice_get pool index) refl where
  by : (found : Option (Option Const)) → slice_get pool index ≡ found → constant_at pool index ≡ Some constant
      → slice_get pool index ≡ Some (Some constant)
  by None none is = absurd (none-some constant (rw (none) at is))
  by (Some None) some is = absurd (none-some constant (rw (some) at is))
  by (Some (Some one)) some is = some ∙ ap (λ (c : Const). Some (Some c)) (same_Some one constant (rw (some) at is))

in_left : (left right : Constants) (index : ℕ) (one : Option Const) → slice_get left index ≡ Some one → slice_get (left ++ right) index ≡ Some one
in_left [] right index one is = absurd (none-some one is)
in_left (first ∷ left) right zero one is = is
in_left (first ∷ left) right (suc index) one is = in_left left right index one is

module _ (old pool : Constants) (begins : Begins old pool) where
  constant_stays : (index : ℕ) (constant : Const) → constant_at old index ≡ Some constant → constant_at pool index ≡ Some constant
  constant_stays index constant is =
      ap (λ (all : Constants). constant_at all index) begins.is
      ∙ rw (in_left old begins.more index (Some constant) (slot_of old index constant is)) refl

  -- what is read of a constant by others
  read_stays : {A : Type 0} (index : ℕ) (read : Constants → Const → Option A) (result : A)
      → ((constant : Const) → read old constant ≡ Some result → read pool constant ≡ Some result)
      → option_and_then (read old) (constant_at old index) ≡ Some result
      → option_and_then (read pool) (constant_at pool index) ≡ Some result
  read_stays {A} index read result stays = by (constant_at old index) refl where
    by : (found : Option Const) → constant_at old index ≡ found → option_and_then (read old) found ≡ Some result
        → option_and_then (read pool) (constant_at pool index) ≡ Some result
    by None none is = absurd (none-some result is)
    by (Some constant) some is = ap (option_and_then (read pool)) (constant_stays index constant some) ∙ stays constant is

  text_stays : (index : ℕ) (text : List ℕ) → utf8_at old index ≡ Some text → utf8_at pool index ≡ Some text
  text_stays index text = read_stays index (λ some. text_of) text (λ constant is. is)

  through : {A : Type 0} (take : Const → Option A) (read : Constants → A → Option (List ℕ)) (index : ℕ) (result : List ℕ)
      → ((a : A) → read old a ≡ Some result → read pool a ≡ Some result)
      → option_and_then (read old) (option_and_then take (constant_at old index)) ≡ Some result
      → option_and_then (read pool) (option_and_then take (constant_at pool index)) ≡ Some result
  through {A} take read index result stays = by (constant_at old index) refl where
    by : (found : Option Const) → constant_at old index ≡ found → option_and_then (read old) (option_and_then take found) ≡ Some result
        → option_and_then (read pool) (option_and_then take (constant_at pool index)) ≡ Some result
    by None none is = absurd (none-some result is)
    by (Some constant) some is =
        ap (λ (found : Option Const). option_and_then (read pool) (option_and_then take found)) (constant_stays index constant some)
        ∙ of_part (take constant) is where
          of_part : (part : Option A) → option_and_then (read old) part ≡ Some result → option_and_then (read pool) part ≡ Some result
          of_part None told = absurd (none-some result told)
          of_part (Some a) told = stays a told

  pub class_stays : (index : ℕ) (name : Name) → class_at old index ≡ Some name → class_at pool index ≡ Some name
  class_stays index name = through class_name_of utf8_at index name (λ text is. text_stays text name is)

  name_stays : (index : ℕ) (name : List ℕ) → name_at old index ≡ Some name → name_at pool index ≡ Some name
  name_stays index name = through name_and_type_of (λ some n. utf8_at some n.0) index name (λ n is. text_stays n.0 name is)

  desc_stays : (index : ℕ) (desc : List ℕ) → descriptor_at old index ≡ Some desc → descriptor_at pool index ≡ Some desc
  desc_stays index desc = through name_and_type_of (λ some n. utf8_at some n.1) index desc (λ n is. text_stays n.1 desc is)

  member_stays : (index : ℕ) (r : Reference) → reference_of old (constant_at old index) ≡ Some r → reference_of pool (constant_at pool index) ≡ Some r
  member_stays index r is =
      let found = member_at old (constant_at old index) r is in
      ap (reference_of pool) (constant_stays index (reference_of_kind found.kind found.class found.member) found.is)
      ∙ refers_of_kind pool found.kind found.class found.member r (record {
        class_is = class_stays found.class r.class found.parts.class_is;
        name_is = name_stays found.member r.name found.parts.name_is;
        desc_is = desc_stays found.member r.desc found.parts.desc_is;
      })

  pub begins_named : (index : ℕ) → SameNamed old index pool index
  begins_named index = record { class = class_stays index; member = member_stays index }

  pub begins_loaded : (index : ℕ) → SameLoaded old index pool index
  begins_loaded index type = by (constant_at old index) refl where
    by : (found : Option Const) → constant_at old index ≡ found → loaded found ≡ Some type → loaded (constant_at pool index) ≡ Some type
    by None none is = absurd (none-some type is)
    by (Some constant) some is = ap loaded (constant_stays index constant some) ∙ is

  pub begins_dynamic : (index : ℕ) → SameDynamic old index pool index
  begins_dynamic index desc = by (constant_at old index) refl where
    by : (found : Option Const) → constant_at old index ≡ found → dynamic_desc old found ≡ Some desc → dynamic_desc pool (constant_at pool index) ≡ Some desc
    by None none is = absurd (none-some desc is)
    by (Some (InvokeDynamic bootstrap member)) some is =
        ap (dynamic_desc pool) (constant_stays index (InvokeDynamic bootstrap member) some) ∙ desc_stays member desc is
    by (Some (Utf8 text)) some is = absurd (none-some desc is)
    by (Some (Integer number)) some is = absurd (none-some desc is)
    by (Some (Float bits)) some is = absurd (none-some desc is)
    by (Some (Long number)) some is = absurd (none-some desc is)
    by (Some (Double bits)) some is = absurd (none-some desc is)
    by (Some (Class name)) some is = absurd (none-some desc is)
    by (Some (String text)) some is = absurd (none-some desc is)
    by (Some (Fieldref class member)) some is = absurd (none-some desc is)
    by (Some (Methodref class member)) some is = absurd (none-some desc is)
    by (Some (InterfaceMethodref class member)) some is = absurd (none-some desc is)
    by (Some (NameAndType name called)) some is = absurd (none-some desc is)
    by (Some (MethodHandle kind reference)) some is = absurd (none-some desc is)
    by (Some (MethodType called)) some is = absurd (none-some desc is)
