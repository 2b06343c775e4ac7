-- The texts of field constructors are those that constants may have, and so are the names of the classes that have them.
use Rattle.std.proofs.Common.{◌≡◌, ◌++◌, ◌≤◌, ◌∙◌, not, bytes_eq, ℕ, zero, suc, Bool, true, false, codes, filter, List, [], ◌∷◌, map, replicate, slice_get, Option, Some, None, IfSome, IsTrue, option_and_then, option_map, refl, sym, ap, subst, arith}
use Rattle.std.specs.List.{AllByRecursion, flat_map, list_any}
use Rattle.std.proofs.lemmas.Grind.{flat_map-append}
use Rattle.std.proofs.lemmas.Option.{none-some, same_Some, slice_get-map}
use Rattle.std.proofs.lemmas.Slice.Eq.{bytes_eq-Decides}
use Rattle.class_model.specs.Characters.{boolean_letter, left_bracket}
use Rattle.class_model.specs.Checks.{AllHold}
use Rattle.class_model.specs.Descriptors.{IsReferenceName, parameter_units, type_of}
use Rattle.class_model.specs.Header.{field_member, header_of}
use Rattle.class_model.specs.Laws.Lists.{at_index}
use Rattle.class_model.specs.Laws.Texts.{plain_text}
use Rattle.class_model.specs.Members.{STATIC, has as has_flag}
use Rattle.class_model.specs.ModifiedUtf8.{IsCodeUnit, IsModifiedUtf8, IsText, unit_bytes}
use Rattle.class_model.specs.Pool.{Constants, constant_at}
use Rattle.class_model.specs.PoolChecks.{BytesSpell, ReturnsVoid, class_at, class_name_of, entries_checks, text_of, text_or_empty, utf8_at}
use Rattle.class_model.specs.declared.class_file.ClassFile.{ClassFile}
use Rattle.class_model.specs.declared.class_file.Field.{Field}
use Rattle.class_model.specs.declared.descriptor.Descriptor.{Descriptor}
use Rattle.class_model.specs.declared.descriptor.FieldType.TheVariants.{Named}
use Rattle.class_model.specs.declared.header.Header.{Header}
use Rattle.class_model.specs.declared.header.Member.{Member}
use Rattle.class_model.specs.declared.pool.Const.{Const}
use Rattle.class_model.specs.declared.pool.Const.TheVariants.{Utf8, Integer, Float, Long, Double, Class, String, Fieldref, Methodref, InterfaceMethodref, NameAndType, MethodHandle, MethodType, InvokeDynamic}
use Rattle.class_rewrite.proofs.ForeignOperands.{one_checked}
use Rattle.class_rewrite.proofs.GrownConstants.{entries_hold}
use Rattle.class_rewrite.proofs.MadeClasses.{itself, kept_name}
use Rattle.class_tree.specs.Headers.{Classes, Headers, IsClassFile, Name, headers_of, named}
use Rattle.class_tree.specs.Hierarchy.{IsHierarchy}
use Rattle.class_tree.specs.Layouts.{chain, instance_fields, own_fields, superclasses}
use Rattle.class_tree.specs.Names.{object}
use Rattle.class_tree.specs.Trees.{IsTree}
use Rattle.expanded_code.specs.Candidates.{HasRoom, IsCandidate}
use Rattle.member_link.specs.FieldConstructors.{constructor_descriptor, field_types}
use Rattle.member_link.specs.Laws.FolderClasses.{class_of_folder, folder_index}
use Rattle.plan_flow.specs.Written.WrittenPrograms.{GivesConstructors}
use Rattle.pool_bytes.specs.Items.{FitsItems, PoolFits}
use Rattle.written_files.specs.WrittenClasses.{IsFitting}
use Rattle.written_runs.specs.Laws.AddedConstructors.{each_name, of_chain}
use Rattle.written_runs.specs.Laws.ConstructorTexts.{ReadsParameters, bytes}
use Rattle.written_runs.specs.Laws.FolderFacts.{no_folder_object}
use Rattle.written_runs.specs.Laws.KnownConstructors.{fewer_units}

-- ---- texts joined

no_text : IsModifiedUtf8 []
no_text = record { units = []; each = tt; spelled = refl }

both_units : (one other : List ℕ) → AllByRecursion IsCodeUnit one → AllByRecursion IsCodeUnit other → AllByRecursion IsCodeUnit (one ++ other)
both_units [] other all more = more
both_units (unit ∷ one) other all more = (all.0, both_units one other all.1 more)

pub both_texts : (one other : List ℕ) → IsModifiedUtf8 one → IsModifiedUtf8 other → IsModifiedUtf8 (one ++ other)
both_texts one other a b = record {
  units = a.units ++ b.units;
  each = both_units a.units b.units a.each b.each;
  spelled = ap (λ (t : List ℕ). t ++ other) a.spelled ∙ ap (λ (t : List ℕ). flat_map unit_bytes a.units ++ t) b.spelled ∙ sym (flat_map-append unit_bytes a.units b.units);
}

brackets_text : (dimensions : ℕ) → IsModifiedUtf8 (replicate dimensions left_bracket)
brackets_text zero = no_text
brackets_text (suc dimensions) =
    both_texts (left_bracket ∷ []) (replicate dimensions left_bracket) (plain_text (left_bracket ∷ []) refl).spelling (brackets_text dimensions)

-- ---- texts of a class file

fits_at : (entries : Constants) → PoolFits entries → (index : ℕ) (constant : Const) → constant_at entries index ≡ Some constant → FitsItems constant
fits_at [] fits index constant is = absurd (none-some constant is)
fits_at (None ∷ entries) fits zero constant is = absurd (none-some constant is)
fits_at (Some one ∷ entries) fits zero constant is = subst FitsItems (same_Some one constant is) fits.0
fits_at (one ∷ entries) fits (suc index) constant is = fits_at entries fits.1 index constant is

module _ (file : ClassFile) (fits : IsFitting file) where
  checked : AllHold (entries_checks file.major file.pool 10 file.pool)
  checked = entries_hold file fits

  pub text_at : (index : ℕ) → IsText (text_or_empty (utf8_at file.pool index))
  text_at index = by (constant_at file.pool index) refl where
    none : (found : Option Const) → option_and_then text_of found ≡ None → constant_at file.pool index ≡ found → IsText (text_or_empty (utf8_at file.pool index))
    none found lacks e =
        subst (λ (o : Option (List ℕ)). IsText (text_or_empty o)) (sym (ap (option_and_then text_of) e ∙ lacks)) (record { spelling = no_text; len = omega arith })

    by : (found : Option Const) → constant_at file.pool index ≡ found → IsText (text_or_empty (utf8_at file.pool index))
    by (Some (Utf8 text)) e =
        subst (λ (o : Option (List ℕ)). IsText (text_or_empty o)) (sym (ap (option_and_then text_of) e)) (record {
          spelling = (one_checked file.major file.pool 10 file.pool checked index (Utf8 text) e).hold.0;
          len = fits_at file.pool fits.numbers.constants index (Utf8 text) e;
        })
    by None e = none None refl e
    by (Some (Integer number)) e = none (Some (Integer number)) refl e
    by (Some (Float bits)) e = none (Some (Float bits)) refl e
    by (Some (Long number)) e = none (Some (Long number)) refl e
    by (Some (Double bits)) e = none (Some (Double bits)) refl e
    by (Some (Class name)) e = none (Some (Class name)) refl e
    by (Some (String name)) e = none (Some (String name)) refl e
    by (Some (Fieldref class member)) e = none (Some (Fieldref class member)) refl e
    by (Some (Methodref class member)) e = none (Some (Methodref class member)) refl e
    by (Some (InterfaceMethodref class member)) e = none (Some (InterfaceMethodref class member)) refl e
    by (Some (NameAndType name desc)) e = none (Some (NameAndType name desc)) refl e
    by (Some (MethodHandle kind reference)) e = none (Some (MethodHandle kind reference)) refl e
    by (Some (MethodType desc)) e = none (Some (MethodType desc)) refl e
    by (Some (InvokeDynamic bootstrap member)) e = none (Some (InvokeDynamic bootstrap member)) refl e

  -- the name of a class that its pool names
  pub record IsClassText (name : Name) : Type 0 where
    pub text : IsText name
    pub is_name : IsReferenceName name

  pub class_text_at : (index : ℕ) (name : Name) → class_at file.pool index ≡ Some name → IsClassText name
  class_text_at index name is = by (constant_at file.pool index) refl where
    none : (found : Option Const) → option_and_then class_name_of found ≡ None → constant_at file.pool index ≡ found → IsClassText name
    none found lacks e =
        absurd (none-some name (sym (ap (λ (c : Option Const). option_and_then (utf8_at file.pool) (option_and_then class_name_of c)) e ∙ ap (option_and_then (utf8_at file.pool)) lacks) ∙ is))

    by : (found : Option Const) → constant_at file.pool index ≡ found → IsClassText name
    by (Some (Class text)) e =
        let there : utf8_at file.pool text ≡ Some name = sym (ap (λ (c : Option Const). option_and_then (utf8_at file.pool) (option_and_then class_name_of c)) e) ∙ is in
        let hold = (one_checked file.major file.pool 10 file.pool checked index (Class text) e).hold in
        record {
          text = subst (λ (o : Option (List ℕ)). IsText (text_or_empty o)) there (text_at text);
          is_name = subst (λ (o : Option (List ℕ)). IfSome o IsReferenceName) there hold.1.0;
        }
    by None e = none None refl e
    by (Some (Utf8 text)) e = none (Some (Utf8 text)) refl e
    by (Some (Integer number)) e = none (Some (Integer number)) refl e
    by (Some (Float bits)) e = none (Some (Float bits)) refl e
    by (Some (Long number)) e = none (Some (Long number)) refl e
    by (Some (Double bits)) e = none (Some (Double bits)) refl e
    by (Some (String name)) e = none (Some (String name)) refl e
    by (Some (Fieldref class member)) e = none (Some (Fieldref class member)) refl e
    by (Some (Methodref class member)) e = none (Some (Methodref class member)) refl e
    by (Some (InterfaceMethodref class member)) e = none (Some (InterfaceMethodref class member)) refl e
    by (Some (NameAndType name desc)) e = none (Some (NameAndType name desc)) refl e
    by (Some (MethodHandle kind reference)) e = none (Some (MethodHandle kind reference)) refl e
    by (Some (MethodType desc)) e = none (Some (MethodType desc)) refl e
    by (Some (InvokeDynamic bootstrap member)) e = none (Some (InvokeDynamic bootstrap member)) refl e

  pub record FieldText (field : Member) : Type 0 where
    pub name : IsText field.name
    pub desc : IsText field.desc

-- the fields of a class file have texts
abbrev pub IsTextField : Member → Type 0
IsTextField field = IsText field.name × IsText field.desc

fields_text : (file : ClassFile) → IsFitting file → (fields : List Field) → AllByRecursion IsTextField (map (field_member file.pool) fields)
fields_text file fits [] = tt
fields_text file fits (field ∷ fields) = ((text_at file fits field.name, text_at file fits field.desc), fields_text file fits fields)

all_kept : (P : Member → Type 0) (test : Member → Bool) (fields : List Member) → AllByRecursion P fields → AllByRecursion P (filter test fields)
all_kept P test [] all = tt
all_kept P test (field ∷ fields) all = by (test field) refl (all_kept P test fields all.1) where
  by : (b : Bool) → test field ≡ b → AllByRecursion P (filter test fields) → AllByRecursion P (filter test (field ∷ fields))
  by true e rest = rw (e) (all.0, rest)
  by false e rest = rw (e) rest

both_all : (P : Member → Type 0) (ones others : List Member) → AllByRecursion P ones → AllByRecursion P others → AllByRecursion P (ones ++ others)
both_all P [] others all more = more
both_all P (one ∷ ones) others all more = (all.0, both_all P ones others all.1 more)

module _ (classes : Classes) (tree : IsTree classes) (hierarchy : IsHierarchy (headers_of classes)) (fits : (file : ClassFile) → IsClassFile file → IsFitting file)
    (constructor : Name → List ℕ) (given : GivesConstructors classes constructor) (reads : ReadsParameters) where
  abbrev headers : Headers
  headers = headers_of classes

  -- ---- fields

  of_file : (index : ℕ) (header : Header) (file : Option ClassFile) → slice_get classes.folder index ≡ file → option_map header_of file ≡ Some header
      → AllByRecursion IsTextField header.fields
  of_file index header None is same = absurd (none-some header same)
  of_file index header (Some file) is same =
      subst (λ (h : Header). AllByRecursion IsTextField h.fields) (same_Some (header_of file) header same)
      (fields_text file (fits file (at_index IsClassFile classes.folder index file tree.folder is)) file.fields)

  pub own_text : (name : Name) → AllByRecursion IsTextField (own_fields (headers_of classes) name)
  own_text name = by (named name (headers_of classes).folder) refl where
    by : (found : Option Header) → named name (headers_of classes).folder ≡ found → AllByRecursion IsTextField (own_fields (headers_of classes) name)
    by None none = rw (none) tt
    by (Some header) some =
        let at = folder_index (headers_of classes) name header some in
        rw (some)
        (all_kept IsTextField (λ (field : Member). not (has_flag field.flags STATIC)) header.fields
        (of_file at.0 header (slice_get classes.folder at.0) refl (sym (slice_get-map header_of classes.folder at.0) ∙ at.1)))

  all_text : (names : List Name) → AllByRecursion IsTextField (flat_map (own_fields (headers_of classes)) names)
  all_text [] = tt
  all_text (name ∷ names) = both_all IsTextField (own_fields (headers_of classes) name) (flat_map (own_fields (headers_of classes)) names) (own_text name) (all_text names)

  descs_text : (fields : List Member) → AllByRecursion IsTextField fields → IsModifiedUtf8 (flat_map (λ (field : Member). field.desc) fields)
  descs_text [] all = no_text
  descs_text (field ∷ fields) all = both_texts field.desc (flat_map (λ (field : Member). field.desc) fields) all.0.1.spelling (descs_text fields all.1)

  -- ---- the descriptor of a class of a candidate's chain

  pub record HasText (class : Name) : Type 0 where
    pub text : IsText (constructor class)
    pub descriptor : Descriptor
    pub spells : BytesSpell (constructor class) descriptor
    pub void : ReturnsVoid (constructor class)

  pub chain_text : (candidate : Name) → IsCandidate classes candidate → (class : Name) → IsTrue (list_any (bytes_eq class) (chain (headers_of classes) candidate)) → HasText class
  chain_text candidate is class one =
      let room : HasRoom classes class = each_name (HasRoom classes) (chain (headers_of classes) candidate) class is.room one in
      let dimensions = room.constructor.dimensions in
      let has = room.constructor.has in
      let few = has.few in
      let low : dimensions ≤ 255 = omega (arith, few) in
      let found = class_of_folder (headers_of classes) candidate is.header is.found in
      let least = fewer_units (headers_of classes) hierarchy candidate is.header found class (of_chain (headers_of classes) candidate class one).there in
      let most = is.narrow in
      let thin : parameter_units (field_types (headers_of classes) class) ≤ 64 = omega (arith, least, most) in
      let same : constructor class ≡ constructor_descriptor (headers_of classes) class dimensions = given class dimensions has in
      let spelled = bytes classes tree reads class dimensions has.some low thin in
      let fields = flat_map (λ (field : Member). field.desc) (instance_fields (headers_of classes) class) in
      let text : IsModifiedUtf8 (constructor_descriptor (headers_of classes) class dimensions) =
      both_texts (40 ∷ (fields ++ replicate dimensions left_bracket)) (codes "Z)V")
      (both_texts (40 ∷ []) (fields ++ replicate dimensions left_bracket) (plain_text (40 ∷ []) refl).spelling
      (both_texts fields (replicate dimensions left_bracket) (descs_text (instance_fields (headers_of classes) class) (all_text _)) (brackets_text dimensions)))
      (plain_text (codes "Z)V") refl).spelling in
      let whole : Descriptor = record {
        params = map (λ (field : Member). type_of field.desc) (instance_fields (headers_of classes) class)
            ++ Named (replicate dimensions left_bracket ++ boolean_letter ∷ []) ∷ [];
        result = None;
      } in
      record {
        text = subst IsText (sym same) (record { spelling = text; len = room.constructor.fits });
        descriptor = whole;
        spells = subst (λ (t : List ℕ). BytesSpell t whole) (sym same) spelled;
        void = subst ReturnsVoid (sym same) (record { descriptor = whole; spelled = spelled; no_result = refl });
      }

  -- a candidate is of its own chain
  pub of_itself : (candidate : Name) → IsCandidate classes candidate → IsTrue (list_any (bytes_eq candidate) (chain (headers_of classes) candidate))
  of_itself candidate is =
      kept_name candidate (superclasses (headers_of classes) candidate)
      (itself (headers_of classes) hierarchy candidate is.header (class_of_folder (headers_of classes) candidate is.header is.found))
      (apart (bytes_eq candidate object) refl) where
        apart : (b : Bool) → bytes_eq candidate object ≡ b → bytes_eq candidate object ≡ false
        apart false e = e
        apart true e =
            let same : candidate ≡ object = (bytes_eq-Decides candidate object).0 e in
            absurd (none-some is.header (sym (no_folder_object classes tree hierarchy) ∙ ap (λ (n : Name). named n (headers_of classes).folder) (sym same) ∙ is.found))
