-- What is needed of the constants of a class file is well formed: that of a constant of its pool, and that of its field constructor.
use Rattle.std.proofs.Common.{◌≡◌, ◌⊎◌, ◌++◌, ◌+◌, ◌∙◌, ℕ, zero, suc, List, [], ◌∷◌, length, Option, Some, None, IfSome, option_and_then, refl, sym, ap, subst, append-nil, append_assoc}
use Rattle.std.proofs.lemmas.Option.{none-some, same_Some}
use Rattle.class_model.specs.Checks.{AllHold}
use Rattle.class_model.specs.Descriptors.{IsReferenceName}
use Rattle.class_model.specs.Laws.Checks.{first_holds, others_hold}
use Rattle.class_model.specs.ModifiedUtf8.{IsModifiedUtf8}
use Rattle.class_model.specs.Names.{IsFieldName}
use Rattle.class_model.specs.Pool.{Constants, constant_at}
use Rattle.class_model.specs.PoolChecks.{FitsDescriptor, IsCalledName, IsFieldDescriptor, IsMethodDescriptor, class_at, class_name_of, constant_checks, descriptor_at, entries_checks, name_and_type_of, name_at, text_of, utf8_at}
use Rattle.class_model.specs.Spelling.{constant_bytes}
use Rattle.class_model.specs.declared.pool.Const.{Const}
use Rattle.class_model.specs.declared.pool.Const.TheVariants.{Utf8, Integer, Float, Long, Double, Class, String, Fieldref, Methodref, InterfaceMethodref, NameAndType}
use Rattle.class_tree.specs.Headers.{Name}
use Rattle.making_code.specs.Constants.{MemberKind, Need, class_needs, member_needs, needs_at, needs_of_class, needs_of_constant, needs_of_reference, needs_of_string, needs_text, of_field, of_interface_method, of_method, string_needs}
use Rattle.written_files.specs.GrownPools.{AreSound, IsMemberText, IsReferredTo, sound_class, sound_member, sound_none, sound_number, sound_string, sound_text}

-- ---- needs, one part after the other

pub both_sound : (front back : List Need) → AreSound front → AreSound back → AreSound (front ++ back)
both_sound _ back sound_none other = other
both_sound _ back (sound_text text needs is rest) other =
    subst AreSound (sym (append_assoc (needs_text text) needs back)) (sound_text text (needs ++ back) is (both_sound needs back rest other))
both_sound _ back (sound_class name needs is is_name rest) other =
    subst AreSound (sym (append_assoc (class_needs name) needs back)) (sound_class name (needs ++ back) is is_name (both_sound needs back rest other))
both_sound _ back (sound_string text needs is rest) other =
    subst AreSound (sym (append_assoc (string_needs text) needs back)) (sound_string text (needs ++ back) is (both_sound needs back rest other))
both_sound _ back (sound_member kind class name desc needs is rest) other =
    subst AreSound (sym (append_assoc (member_needs kind class name desc) needs back))
    (sound_member kind class name desc (needs ++ back) is (both_sound needs back rest other))
both_sound _ back (sound_number constant needs is rest) other =
    sound_number constant (needs ++ back) is (both_sound needs back rest other)

pub one_text : (text : List ℕ) → IsModifiedUtf8 text → AreSound (needs_text text)
one_text text is = sound_text text [] is sound_none

pub one_class : (name : Name) → IsModifiedUtf8 name → IsReferenceName name → AreSound (class_needs name)
one_class name is is_name = subst AreSound (append-nil (class_needs name)) (sound_class name [] is is_name sound_none)

pub one_member : (kind : MemberKind) (class : Name) (name desc : List ℕ) → IsMemberText kind class name desc
    → AreSound (member_needs kind class name desc)
one_member kind class name desc is =
    subst AreSound (append-nil (member_needs kind class name desc)) (sound_member kind class name desc [] is sound_none)

-- ---- a constant of a pool that was checked

record IsChecked (major : ℕ) (pool : Constants) (constant : Const) : Type 0 where
  place : ℕ
  hold : AllHold (constant_checks major pool place constant)

one_checked : (major : ℕ) (pool : Constants) (at : ℕ) (entries : Constants) → AllHold (entries_checks major pool at entries) → (index : ℕ)
    (constant : Const)
    → constant_at entries index ≡ Some constant
    → IsChecked major pool constant
one_checked major pool at [] hold index constant is = absurd (none-some constant is)
one_checked major pool at (None ∷ entries) hold zero constant is = absurd (none-some constant is)
one_checked major pool at (None ∷ entries) hold (suc index) constant is = one_checked major pool at entries hold index constant is
one_checked major pool at (Some one ∷ entries) hold zero constant is =
    subst (IsChecked major pool) (same_Some one constant is)
    (record {
      place = at;
      hold = first_holds (constant_checks major pool at one) (entries_checks major pool (at + length (constant_bytes one)) entries) hold;
    })
one_checked major pool at (Some one ∷ entries) hold (suc index) constant is =
    one_checked major pool (at + length (constant_bytes one)) entries
    (others_hold (constant_checks major pool at one) (entries_checks major pool (at + length (constant_bytes one)) entries) hold) index constant is

if_some : {A : Type 0} (P : A → Type 0) (o : Option A) (x : A) → IfSome o P → o ≡ Some x → P x
if_some P None x h is = absurd (none-some x is)
if_some P (Some y) x h is = subst P (same_Some y x is) h

is_text : (constant : Const) (text : List ℕ) → text_of constant ≡ Some text → constant ≡ Utf8 text
is_text (Utf8 own) text is = ap Utf8 (same_Some own text is)
is_text other text is = absurd (none-some text is)

is_class : (constant : Const) (index : ℕ) → class_name_of constant ≡ Some index → constant ≡ Class index
is_class (Class own) index is = ap Class (same_Some own index is)
is_class other index is = absurd (none-some index is)

is_named : (constant : Const) (indices : ℕ × ℕ) → name_and_type_of constant ≡ Some indices → constant ≡ NameAndType indices.0 indices.1
is_named (NameAndType name desc) indices is =
    ap (λ (n : ℕ × ℕ). NameAndType n.0 n.1) (same_Some (name, desc) indices is)
is_named other indices is = absurd (none-some indices is)

record Through {A B : Type 0} (f : A → Option B) (o : Option A) (y : B) : Type 0 where
  middle : A
  is : o ≡ Some middle
  gives : f middle ≡ Some y

through : {A B : Type 0} (f : A → Option B) (o : Option A) (y : B) → option_and_then f o ≡ Some y → Through f o y
through f None y is = absurd (none-some y is)
through f (Some x) y is = record { middle = x; is = refl; gives = is }

pub record ClassSound (name : Name) : Type 0 where
  pub text : IsModifiedUtf8 name
  pub is_name : IsReferenceName name

record NamedSound (name desc : List ℕ) : Type 0 where
  name_text : IsModifiedUtf8 name
  desc_text : IsModifiedUtf8 desc
  fits : FitsDescriptor (Some desc) name
  is_desc : IsFieldDescriptor desc ⊎ IsMethodDescriptor desc

module _ (major : ℕ) (pool : Constants) (hold : AllHold (entries_checks major pool 10 pool)) where
  at_index : (index : ℕ) (constant : Const) → constant_at pool index ≡ Some constant → IsChecked major pool constant
  at_index = one_checked major pool 10 pool hold

  pub text_sound : (index : ℕ) (text : List ℕ) → utf8_at pool index ≡ Some text → IsModifiedUtf8 text
  text_sound index text is =
      let t = through text_of (constant_at pool index) text is in
      let here = at_index index (Utf8 text) (t.is ∙ ap Some (is_text t.middle text t.gives)) in
      here.hold.0

  pub class_sound : (index : ℕ) (name : Name) → class_at pool index ≡ Some name → ClassSound name
  class_sound index name is =
      let t = through (utf8_at pool) (option_and_then class_name_of (constant_at pool index)) name is in
      let u = through class_name_of (constant_at pool index) t.middle t.is in
      let here = at_index index (Class t.middle) (u.is ∙ ap Some (is_class u.middle t.middle u.gives)) in
      record {
        text = text_sound t.middle name t.gives;
        is_name = if_some IsReferenceName (utf8_at pool t.middle) name here.hold.1.0 t.gives;
      }

  named_sound : (index : ℕ) (name desc : List ℕ) → name_at pool index ≡ Some name → descriptor_at pool index ≡ Some desc → NamedSound name desc
  named_sound index name desc is also =
      let t = through (λ (n : ℕ × ℕ). utf8_at pool n.0) (option_and_then name_and_type_of (constant_at pool index)) name is in
      let u = through name_and_type_of (constant_at pool index) t.middle t.is in
      let here = at_index index (NameAndType t.middle.0 t.middle.1) (u.is ∙ ap Some (is_named u.middle t.middle u.gives)) in
      let other : utf8_at pool t.middle.1 ≡ Some desc =
      sym (ap (option_and_then (λ (n : ℕ × ℕ). utf8_at pool n.1)) t.is) ∙ also in
      record {
        name_text = text_sound t.middle.0 name t.gives;
        desc_text = text_sound t.middle.1 desc other;
        fits =
            subst (λ (o : Option (List ℕ)). FitsDescriptor o name) other
            (if_some (FitsDescriptor (utf8_at pool t.middle.1)) (utf8_at pool t.middle.0) name here.hold.1.0 t.gives);
        is_desc = if_some (λ text. IsFieldDescriptor text ⊎ IsMethodDescriptor text) (utf8_at pool t.middle.1) desc here.hold.1.1.0 other;
      }

  class_needed : (found : Option Name) → ((name : Name) → found ≡ Some name → ClassSound name) → AreSound (needs_of_class found)
  class_needed None sound = sound_none
  class_needed (Some name) sound = let is = sound name refl in one_class name is.text is.is_name

  string_needed : (found : Option (List ℕ)) → ((text : List ℕ) → found ≡ Some text → IsModifiedUtf8 text) → AreSound (needs_of_string found)
  string_needed None sound = sound_none
  string_needed (Some text) sound =
      subst AreSound (append-nil (string_needs text)) (sound_string text [] (sound text refl) sound_none)

  member_needed : (kind : MemberKind) (class name desc : Option (List ℕ))
      → ((c n d : List ℕ) → class ≡ Some c → name ≡ Some n → desc ≡ Some d → IsMemberText kind c n d)
      → AreSound (needs_of_reference kind class name desc)
  member_needed kind None name desc sound = sound_none
  member_needed kind (Some c) None desc sound = sound_none
  member_needed kind (Some c) (Some n) None sound = sound_none
  member_needed kind (Some c) (Some n) (Some d) sound = one_member kind c n d (sound c n d refl refl refl)

  member_text : (kind : MemberKind) (class member : ℕ)
      → ((n d : List ℕ) → name_at pool member ≡ Some n → descriptor_at pool member ≡ Some d → IsReferredTo kind n d)
      → (c n d : List ℕ) → class_at pool class ≡ Some c → name_at pool member ≡ Some n → descriptor_at pool member ≡ Some d
      → IsMemberText kind c n d
  member_text kind class member refers c n d is_c is_n is_d =
      let of_class = class_sound class c is_c in
      let named = named_sound member n d is_n is_d in
      record {
        class_text = of_class.text;
        is_class = of_class.is_name;
        name_text = named.name_text;
        desc_text = named.desc_text;
        fits = named.fits;
        is_desc = named.is_desc;
        is_member = refers n d is_n is_d;
      }

  called : (member : ℕ) → IfSome (name_at pool member) (IsCalledName (descriptor_at pool member))
      → IfSome (descriptor_at pool member) IsMethodDescriptor
      → (n d : List ℕ) → name_at pool member ≡ Some n → descriptor_at pool member ≡ Some d
      → IsCalledName (Some d) n × IsMethodDescriptor d
  called member name desc n d is also = (
    subst (λ (o : Option (List ℕ)). IsCalledName o n) also (if_some (IsCalledName (descriptor_at pool member)) (name_at pool member) n name is),
    if_some IsMethodDescriptor (descriptor_at pool member) d desc also,
  )

  of_constant : (constant : Const) → IsChecked major pool constant → AreSound (needs_of_constant pool (Some constant))
  of_constant (Class name) is =
      class_needed (utf8_at pool name)
      (λ text same. record { text = text_sound name text same; is_name = if_some IsReferenceName (utf8_at pool name) text is.hold.1.0 same })
  of_constant (String text) is = string_needed (utf8_at pool text) (text_sound text)
  of_constant (Integer number) is = sound_number (Integer number) [] tt sound_none
  of_constant (Float bits) is = sound_number (Float bits) [] tt sound_none
  of_constant (Long number) is = sound_number (Long number) [] tt sound_none
  of_constant (Double bits) is = sound_number (Double bits) [] tt sound_none
  of_constant (Fieldref class member) is =
      member_needed of_field (class_at pool class) (name_at pool member) (descriptor_at pool member)
      (member_text of_field class member
      (λ n d same also. (
        if_some IsFieldName (name_at pool member) n is.hold.1.0 same,
        if_some IsFieldDescriptor (descriptor_at pool member) d is.hold.1.1.0 also,
      )))
  of_constant (Methodref class member) is =
      member_needed of_method (class_at pool class) (name_at pool member) (descriptor_at pool member)
      (member_text of_method class member (called member is.hold.1.0 is.hold.1.1.0))
  of_constant (InterfaceMethodref class member) is =
      member_needed of_interface_method (class_at pool class) (name_at pool member) (descriptor_at pool member)
      (member_text of_interface_method class member (called member is.hold.1.0 is.hold.1.1.0))
  of_constant other is = sound_none

  pub needs_sound : (index : ℕ) → AreSound (needs_at pool index)
  needs_sound index = by (constant_at pool index) refl where
    by : (found : Option Const) → constant_at pool index ≡ found → AreSound (needs_of_constant pool found)
    by None is = sound_none
    by (Some constant) is = of_constant constant (at_index index constant is)
