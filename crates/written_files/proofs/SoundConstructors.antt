-- What is needed for the field constructor of a class is well formed, by the texts of its class file.
use Rattle.std.proofs.Common.{◌≡◌, ◌≢◌, ◌==◌, ◌++◌, ◌+◌, ◌∙◌, not, bytes_eq, ℕ, Bool, true, false, codes, filter, List, [], ◌∷◌, length, map, Option, Some, None, IsSome, IfSome, inl, inr, refl, sym, ap, subst, arith, eq-eqb}
use Rattle.std.proofs.lemmas.Bool.{false≢true}
use Rattle.std.proofs.lemmas.Slice.Eq.{bytes_eq-Decides}
use Rattle.std.specs.List.{AllByRecursion, flat_map}
use Rattle.class_model.specs.Checks.{AllHold}
use Rattle.class_model.specs.ClassOf.{class_file_checks, fields_checks}
use Rattle.class_model.specs.Descriptors.{field_type_text, units_of, kind_of, type_of}
use Rattle.class_model.specs.Header.{field_member, header_of}
use Rattle.class_model.specs.Laws.Checks.{first_holds, others_hold}
use Rattle.class_model.specs.Laws.ClassFiles.{fields_place, parts_hold}
use Rattle.class_model.specs.Laws.Descriptors.{array_head, array_text, class_text}
use Rattle.class_model.specs.Laws.Texts.{plain_text}
use Rattle.class_model.specs.Members.{STATIC, Signature, field_checks, field_signature, has as has_flag}
use Rattle.class_model.specs.ModifiedUtf8.{IsModifiedUtf8}
use Rattle.class_model.specs.Names.{IsFieldName, IsNameByte, IsUnqualifiedName, clinit, init}
use Rattle.class_model.specs.Pool.{Constants}
use Rattle.class_model.specs.PoolChecks.{IsFieldDescriptor, IsMethodDescriptor, IsTypeName, ReturnsVoid, class_at, entries_checks, text_or_empty, utf8_at}
use Rattle.class_model.specs.Spelling.{field_bytes}
use Rattle.class_model.specs.declared.class_file.ClassFile.{ClassFile}
use Rattle.class_model.specs.declared.class_file.Field.{Field}
use Rattle.class_model.specs.declared.descriptor.FieldType.{FieldType}
use Rattle.class_model.specs.declared.descriptor.FieldType.TheVariants.{Byte, Char, Short, Bool as BoolType, Int, Long, Float, Double, Named}
use Rattle.class_model.specs.declared.header.Member.{Member}
use Rattle.class_model.specs.declared.descriptor.Kind.TheVariants as kinds
use Rattle.class_model.specs.declared.instr.Imm.TheVariants as imms
use Rattle.class_model.specs.declared.instr.Instr.TheVariants.{Const, Load, Return}
use Rattle.class_tree.specs.Headers.{Headers, IsClassFile, Name}
use Rattle.class_tree.specs.Layouts.{instance_fields, own_fields}
use Rattle.class_tree.specs.Names.{object}
use Rattle.making_code.specs.Constants.{needs_text, of_field, of_method}
use Rattle.making_code.specs.FieldConstructor.{CInstr, call_above, calls_constructor, constructor_items, constructor_method_needs, fields_above, item_needs, loads_from, puts_from, simple, super_call, units_of_fields}
use Rattle.written_files.proofs.SoundNeeds.{ClassSound, both_sound, class_sound, one_member, one_text, text_sound}
use Rattle.written_files.specs.GrownPools.{AreSound, IsMemberText, sound_none}
use Rattle.written_files.specs.SoundConstructors.{HasSoundTexts}

-- ---- numbers that differ

apart : (one other : ℕ) → (one == other) ≡ false → one ≢ other
apart one other test same = false≢true (sym test ∙ eq-eqb one other same)

-- ---- a field descriptor is none of a method

abbrev first_byte : List ℕ → ℕ
first_byte [] = 0
first_byte (byte ∷ bytes) = byte

no_parenthesis : (type : FieldType) → IsTypeName type → first_byte (field_type_text type) ≢ 40
no_parenthesis Byte is = apart 66 40 refl
no_parenthesis Char is = apart 67 40 refl
no_parenthesis Short is = apart 83 40 refl
no_parenthesis BoolType is = apart 90 40 refl
no_parenthesis Int is = apart 73 40 refl
no_parenthesis Long is = apart 74 40 refl
no_parenthesis Float is = apart 70 40 refl
no_parenthesis Double is = apart 68 40 refl
no_parenthesis (Named name) (inl class) = λ e.
    apart 76 40 refl (sym (ap first_byte (class_text name class)) ∙ e)
no_parenthesis (Named name) (inr array) = λ e.
    apart 91 40 refl (sym (ap first_byte (array_text name array ∙ (array_head name array).1)) ∙ e)

not_method : (text : List ℕ) → IsFieldDescriptor text → ¬ IsMethodDescriptor text
not_method text field = λ method.
    no_parenthesis field.type field.named (ap first_byte (sym field.spelled ∙ method.1.spelled))

-- ---- the texts of a class file

record FieldSound (field : Member) : Type 0 where
  name_text : IsModifiedUtf8 field.name
  desc_text : IsModifiedUtf8 field.desc
  is_name : IsFieldName field.name
  is_desc : IsFieldDescriptor field.desc

record FileSound (name : Name) (super : Option Name) (fields : List Member) : Type 0 where
  class : ClassSound name
  above : (one : Name) → super ≡ Some one → ClassSound one
  of_fields : AllByRecursion FieldSound fields

text_known : (found : Option (List ℕ)) → IsSome found → found ≡ Some (text_or_empty found)
text_known None some = absurd (false≢true some)
text_known (Some text) some = refl

if_known : (P : List ℕ → Type 0) (found : Option (List ℕ)) → IsSome found → IfSome found P → P (text_or_empty found)
if_known P None some h = absurd (false≢true some)
if_known P (Some text) some h = h

fields_sound : (major : ℕ) (pool : Constants) → AllHold (entries_checks major pool 10 pool) → (flags : ℕ) (before : List Signature) (at : ℕ)
    (fields : List Field)
    → AllHold (fields_checks pool flags before at fields)
    → AllByRecursion FieldSound (map (field_member pool) fields)
fields_sound major pool entries flags before at [] hold = tt
fields_sound major pool entries flags before at (field ∷ fields) hold =
    let others = fields_checks pool flags (before ++ field_signature field ∷ []) (at + length (field_bytes field)) fields in
    let one = first_holds (field_checks pool flags before at field) others hold in
    let name = one.1.1 in
    let desc = name.1.1 in (
      record {
        name_text = text_sound major pool entries field.name (text_or_empty (utf8_at pool field.name)) (text_known (utf8_at pool field.name) name.0);
        desc_text = text_sound major pool entries field.desc (text_or_empty (utf8_at pool field.desc)) (text_known (utf8_at pool field.desc) desc.0);
        is_name = if_known IsFieldName (utf8_at pool field.name) name.0 name.1.0;
        is_desc = if_known IsFieldDescriptor (utf8_at pool field.desc) desc.0 desc.1.0;
      },
      fields_sound major pool entries flags (before ++ field_signature field ∷ []) (at + length (field_bytes field)) fields
          (others_hold (field_checks pool flags before at field) others hold),
    )

abbrev IsSoundFile : ClassFile → Type 0
IsSoundFile c = FileSound (header_of c).name (header_of c).super_name (header_of c).fields

cut_sound : (c : ClassFile) → AllHold (class_file_checks c) → IsSoundFile c
cut_sound c hold =
    let parts = parts_hold c hold in
    record {
      class = class_sound c.major c.pool parts.pool c.this_class (text_or_empty (class_at c.pool c.this_class))
          (text_known (class_at c.pool c.this_class) parts.this_class.0);
      above = class_sound c.major c.pool parts.pool c.super_class;
      of_fields = fields_sound c.major c.pool parts.pool c.flags [] (fields_place c + 2) c.fields parts.fields;
    }

file_sound : (file : ClassFile) → IsClassFile file → IsSoundFile file
file_sound file is = subst IsSoundFile (sym is.is) (cut_sound is.cut is.holds)

-- ---- texts that are there always

init_byte_0 : IsNameByte 60
init_byte_0 = record { no_dot = apart 60 46 refl; no_slash = apart 60 47 refl; no_semicolon = apart 60 59 refl; no_bracket = apart 60 91 refl }

init_byte_1 : IsNameByte 105
init_byte_1 = record { no_dot = apart 105 46 refl; no_slash = apart 105 47 refl; no_semicolon = apart 105 59 refl; no_bracket = apart 105 91 refl }

init_byte_2 : IsNameByte 110
init_byte_2 = record { no_dot = apart 110 46 refl; no_slash = apart 110 47 refl; no_semicolon = apart 110 59 refl; no_bracket = apart 110 91 refl }

init_byte_3 : IsNameByte 105
init_byte_3 = record { no_dot = apart 105 46 refl; no_slash = apart 105 47 refl; no_semicolon = apart 105 59 refl; no_bracket = apart 105 91 refl }

init_byte_4 : IsNameByte 116
init_byte_4 = record { no_dot = apart 116 46 refl; no_slash = apart 116 47 refl; no_semicolon = apart 116 59 refl; no_bracket = apart 116 91 refl }

init_byte_5 : IsNameByte 62
init_byte_5 = record { no_dot = apart 62 46 refl; no_slash = apart 62 47 refl; no_semicolon = apart 62 59 refl; no_bracket = apart 62 91 refl }

init_unqualified : IsUnqualifiedName init
init_unqualified = record { some = λ e. absurd cc; bytes = (init_byte_0, (init_byte_1, (init_byte_2, (init_byte_3, (init_byte_4, (init_byte_5, tt)))))) }

no_class_initialiser : init ≢ clinit
no_class_initialiser = λ e. absurd cc

no_parameters : ReturnsVoid (codes "()V")
no_parameters = record {
  descriptor = record { params = []; result = None };
  spelled = record { params = tt; units = omega arith; result = tt; spelled = refl };
  no_result = refl;
}

-- ---- members

pub constructor_text : (class : Name) (desc : List ℕ) → ClassSound class → IsModifiedUtf8 desc → ReturnsVoid desc → IsMemberText of_method class init desc
constructor_text class desc is text void = record {
  class_text = is.text;
  is_class = is.is_name;
  name_text = (plain_text init refl).spelling;
  desc_text = text;
  fits = (init_unqualified, λ method. inl refl, λ same method. void);
  is_desc = inr (void.descriptor, void.spelled);
  is_member = ((inl refl, no_class_initialiser, λ same method. void), (void.descriptor, void.spelled));
}

field_text : (class : Name) (field : Member) → ClassSound class → FieldSound field → IsMemberText of_field class field.name field.desc
field_text class field is sound = record {
  class_text = is.text;
  is_class = is.is_name;
  name_text = sound.name_text;
  desc_text = sound.desc_text;
  fits = (
    sound.is_name.unqualified,
    λ method. absurd (not_method field.desc sound.is_desc method),
    λ same method. absurd (not_method field.desc sound.is_desc method),
  );
  is_desc = inl sound.is_desc;
  is_member = (sound.is_name, sound.is_desc);
}

-- ---- instructions

module _ (constructor : Name → List ℕ) where
  abbrev ItemSound : CInstr → Type 0
  ItemSound item = AreSound (item_needs constructor item)

  items_sound : (items : List CInstr) → AllByRecursion ItemSound items → AreSound (flat_map (item_needs constructor) items)
  items_sound [] all = sound_none
  items_sound (item ∷ items) all =
      both_sound (item_needs constructor item) (flat_map (item_needs constructor) items) all.0 (items_sound items all.1)

  all_both : (front back : List CInstr) → AllByRecursion ItemSound front → AllByRecursion ItemSound back → AllByRecursion ItemSound (front ++ back)
  all_both [] back one other = other
  all_both (item ∷ front) back one other = (one.0, all_both front back one.1 other)

  loads_sound : (unit : ℕ) (fields : List Member) → AllByRecursion ItemSound (loads_from unit fields)
  loads_sound unit [] = tt
  loads_sound unit (field ∷ fields) = (sound_none, loads_sound (unit + units_of (kind_of (type_of field.desc))) fields)

  puts_sound : (class : Name) → ClassSound class → (unit : ℕ) (fields : List Member) → AllByRecursion FieldSound fields
      → AllByRecursion ItemSound (puts_from class unit fields)
  puts_sound class is unit [] sound = tt
  puts_sound class is unit (field ∷ fields) sound = (
    sound_none,
    (
      sound_none,
      (
        one_member of_field class field.name field.desc (field_text class field is sound.0),
        puts_sound class is (unit + units_of (kind_of (type_of field.desc))) fields sound.1,
      ),
    ),
  )

  call_sound : (headers : Headers) (above : Name) → ClassSound above → (above ≢ object → IsModifiedUtf8 (constructor above))
      → (above ≢ object → ReturnsVoid (constructor above))
      → AllByRecursion ItemSound (super_call headers above)
  call_sound headers above is text void = by (bytes_eq above object) refl where
    by : (b : Bool) → bytes_eq above object ≡ b → AllByRecursion ItemSound (super_call headers above)
    by true e =
        let same : above ≡ object = (bytes_eq-Decides above object).0 e in
        let known : ClassSound object = subst ClassSound same is in
        rw (e) (
          sound_none,
          (one_member of_method object init (codes "()V") (constructor_text object (codes "()V") known (plain_text (codes "()V") refl).spelling no_parameters), tt),
        )
    by false e =
        let apart : above ≢ object = λ same. absurd (false≢true (sym e ∙ (bytes_eq-Decides above object).1 same)) in
        rw (e) (
        all_both ((simple (Load kinds.Ref 0) ∷ []) ++ loads_from 1 (instance_fields headers above)) (simple (Const imms.Null) ∷ calls_constructor above ∷ [])
        (sound_none, loads_sound 1 (instance_fields headers above))
        (sound_none, (one_member of_method above init (constructor above) (constructor_text above (constructor above) is (text apart) (void apart)), tt))
        )

all_kept : (P : Member → Type 0) (test : Member → Bool) (fields : List Member) → AllByRecursion P fields → AllByRecursion P (filter test fields)
all_kept P test [] all = tt
all_kept P test (field ∷ fields) all = by (test field) refl (all_kept P test fields all.1) where
  by : (b : Bool) → test field ≡ b → AllByRecursion P (filter test fields) → AllByRecursion P (filter test (field ∷ fields))
  by true e rest = rw (e) (all.0, rest)
  by false e rest = rw (e) rest

-- ---- the whole

pub constructor_sound : (headers : Headers) (constructor : Name → List ℕ) (file : ClassFile) → HasSoundTexts headers constructor file
    → AreSound (constructor_method_needs headers constructor (header_of file).name)
constructor_sound headers constructor file has =
    let name : Name = (header_of file).name in
    let own : List Member = own_fields headers name in
    let sound = file_sound file has.is_class_file in
    let fields : AllByRecursion FieldSound own =
    subst (AllByRecursion FieldSound) (sym has.own)
    (all_kept FieldSound (λ field. not (has_flag field.flags STATIC)) (header_of file).fields sound.of_fields) in
    let above = sound.above has.above has.superclass in
    let puts : List CInstr = puts_from name (1 + units_of_fields (instance_fields headers has.above)) own in
    let items : AllByRecursion (ItemSound constructor) ((super_call headers has.above ++ puts) ++ (simple (Return None) ∷ [])) =
    all_both constructor (super_call headers has.above ++ puts) (simple (Return None) ∷ [])
    (all_both constructor (super_call headers has.above) puts (call_sound constructor headers has.above above has.text_above has.void_above)
    (puts_sound constructor name sound.class (1 + units_of_fields (instance_fields headers has.above)) own fields))
    (sound_none, tt) in
    let all : AllByRecursion (ItemSound constructor) (constructor_items headers name) =
    subst (λ (super : Option Name). AllByRecursion (ItemSound constructor)
    ((call_above headers super ++ puts_from name (1 + units_of_fields (fields_above headers super)) own) ++ (simple (Return None) ∷ [])))
    (sym has.is_above) items in
    both_sound (needs_text init ++ needs_text (constructor name) ++ needs_text (codes "Code")) (flat_map (item_needs constructor) (constructor_items headers name))
    (both_sound (needs_text init ++ needs_text (constructor name)) (needs_text (codes "Code"))
    (both_sound (needs_text init) (needs_text (constructor name)) (one_text init (plain_text init refl).spelling) (one_text (constructor name) has.text))
    (one_text (codes "Code") (plain_text (codes "Code") refl).spelling))
    (items_sound constructor (constructor_items headers name) all)
