-- The header of a class file that has grown.
use Rattle.std.proofs.Common.{◌≡◌, ◌∙◌, ◌==◌, ◌+◌, ◌++◌, not, ℕ, Bool, true, false, List, [], ◌∷◌, map, length, Option, refl, sym, ap, subst}
use Rattle.std.specs.Prelude.{IsSome}
use Rattle.std.specs.List.{AllByRecursion}
use Rattle.std.proofs.lemmas.Bool.{eqb-true}
use Rattle.std.proofs.lemmas.List.{append-nil, map-append}
use Rattle.class_model.specs.Checks.{AllHold, asked_if}
use Rattle.class_model.specs.ClassOf.{fields_checks}
use Rattle.class_model.specs.Header.{field_member, header_of, method_member}
use Rattle.class_model.specs.Laws.Checks.{first_holds, others_hold}
use Rattle.class_model.specs.Laws.ClassFiles.{fields_place, flags_place, parts_hold}
use Rattle.class_model.specs.Members.{Signature, class_name_checks, field_checks, field_signature, interfaces_checks, super_checks}
use Rattle.class_model.specs.Methods.{IsHandle}
use Rattle.class_model.specs.Names.{init}
use Rattle.class_model.specs.Pool.{Constants}
use Rattle.class_model.specs.PoolChecks.{class_at, text_or_empty, utf8_at}
use Rattle.class_model.specs.Spelling.{field_bytes}
use Rattle.class_model.specs.declared.class_file.ClassFile.{ClassFile}
use Rattle.class_model.specs.declared.class_file.Field.{Field}
use Rattle.class_model.specs.declared.class_file.Method.{Method}
use Rattle.class_model.specs.declared.header.Member.{Member}
use Rattle.class_tree.specs.Alike.{AreFieldsAlike, IsAlike}
use Rattle.class_tree.specs.Headers.{Classes, IsClassFile, headers_of}
use Rattle.member_link.specs.Machine.Classes.{handles_in, starts_from}
use Rattle.type_rules.proofs.Grown.Asked.{class_asked, each_names, named_class}
use Rattle.type_rules.proofs.Grown.Codes.{IsAskedClass, IsAskedNames, grown_file}
use Rattle.type_rules.proofs.Grown.Flags.{nothing_cleared}
use Rattle.type_rules.proofs.Grown.Pools.{class_same, text_same}
use Rattle.type_rules.proofs.Grown.RawParts.{BeginsWithNone, class_cut}
use Rattle.type_rules.proofs.Grown.Starts.{handles_kept, starts_same}
use Rattle.type_rules.specs.Grown.{AreAllGrown, AreAllGrownClasses, AreGrownClasses, AreGrownFields, AreGrownHeaders, AreOpened, AreSameMethods, IsGrownClass, IsGrownHeader, IsNewInitialiser}

-- ---- what reading asked of the other parts

pub record AreAskedParts (class : ClassFile) : Type 0 where
  pub begins : BeginsWithNone class.pool
  pub above : ℕ
  pub superclass : AllHold (super_checks class.pool above class.super_class)
  pub beside : ℕ
  pub interfaces : AllHold (interfaces_checks class.pool beside class.interfaces)
  pub at : ℕ
  pub fields : AllHold (fields_checks class.pool class.flags [] at class.fields)

parts_asked : (class : ClassFile) → IsClassFile class → AreAskedParts class
parts_asked class is =
    let parts = parts_hold is.cut is.holds in
    subst AreAskedParts (sym is.is) (record {
      begins = (class_cut is.version is.rest is.cut is.is_cut).pool;
      above = flags_place is.cut + 4;
      superclass = parts.super_class;
      beside = flags_place is.cut + 8;
      interfaces = parts.interfaces;
      at = fields_place is.cut + 2;
      fields = parts.fields;
    })

-- the name and descriptor of each field are texts
record HasTexts (pool : Constants) (field : Field) : Type 0 where
  name : IsSome (utf8_at pool field.name)
  desc : IsSome (utf8_at pool field.desc)

field_texts : (pool : Constants) (flags : ℕ) (before : List Signature) (at : ℕ) (fields : List Field) → AllHold (fields_checks pool flags before at fields)
    → AllByRecursion (HasTexts pool) fields
field_texts pool flags before at [] h = tt
field_texts pool flags before at (field ∷ fields) h =
    let own = field_checks pool flags before at field in
    let others = fields_checks pool flags (before ++ field_signature field ∷ []) (at + length (field_bytes field)) fields in
    let first = first_holds own others h in (
      record { name = first.1.1.0; desc = first.1.1.1.1.0 },
      field_texts pool flags (before ++ field_signature field ∷ []) (at + length (field_bytes field)) fields (others_hold own others h),
    )

-- ---- a class file that has grown

module _ (old : ClassFile) (is : IsClassFile old) (more : Constants) where
  pub asked : IsAskedClass old
  asked = class_asked old is

  parts : AreAskedParts old
  parts = parts_asked old is

  abbrev pool : Constants
  pool = old.pool ++ more

  class_still : (at index : ℕ) → AllHold (class_name_checks old.pool at index) → class_at pool index ≡ class_at old.pool index
  class_still at index h = class_same old.major old.pool more 10 asked.constants index (named_class old.pool at index h)

  text_still : (index : ℕ) → IsSome (utf8_at old.pool index) → utf8_at pool index ≡ utf8_at old.pool index
  text_still index h = text_same old.major old.pool more 10 asked.constants index h

  super_still : class_at pool old.super_class ≡ class_at old.pool old.super_class
  super_still = by (old.super_class == 0) refl parts.superclass where
    by : (b : Bool) → (old.super_class == 0) ≡ b → AllHold (asked_if (not b) (class_name_checks old.pool parts.above old.super_class)) → class_at pool old.super_class ≡ class_at old.pool old.super_class
    by true e h =
        let at_zero : old.super_class ≡ 0 = eqb-true old.super_class 0 e in
        rw (at_zero, parts.begins.is) refl
    by false e h = class_still parts.above old.super_class h

  interfaces_still : (at : ℕ) (indices : List ℕ) → AllHold (interfaces_checks old.pool at indices)
      → map (λ index. text_or_empty (class_at pool index)) indices ≡ map (λ index. text_or_empty (class_at old.pool index)) indices
  interfaces_still at [] h = refl
  interfaces_still at (index ∷ indices) h =
      let own = class_name_checks old.pool at index in
      let others = interfaces_checks old.pool (at + 2) indices in
      ap (λ (name : Option (List ℕ)). text_or_empty name ∷ map (λ index. text_or_empty (class_at pool index)) indices) (class_still at index (first_holds own others h))
      ∙ ap (λ (names : List (List ℕ)). text_or_empty (class_at old.pool index) ∷ names) (interfaces_still (at + 2) indices (others_hold own others h))

  -- ---- fields

  fields_alike : (olds news : List Field) → AllByRecursion (HasTexts old.pool) olds → AreGrownFields olds news → AreFieldsAlike (map (field_member old.pool) olds) (map (field_member pool) news)
  fields_alike [] [] texts grown = tt
  fields_alike [] (new ∷ news) texts grown = absurd grown
  fields_alike (field ∷ olds) [] texts grown = absurd grown
  fields_alike (field ∷ olds) (new ∷ news) texts grown = (
    record {
      same_name = ap (λ (f : Field). text_or_empty (utf8_at pool f.name)) grown.0.rest ∙ ap text_or_empty (text_still field.name texts.0.name);
      same_desc = ap (λ (f : Field). text_or_empty (utf8_at pool f.desc)) grown.0.rest ∙ ap text_or_empty (text_still field.desc texts.0.desc);
    },
    fields_alike olds news texts.1 grown.1,
  )

  fields_opened : (olds news : List Field) → AreGrownFields olds news → AreOpened (map (field_member old.pool) olds) (map (field_member pool) news)
  fields_opened [] [] grown = tt
  fields_opened [] (new ∷ news) grown = absurd grown
  fields_opened (field ∷ olds) [] grown = absurd grown
  fields_opened (field ∷ olds) (new ∷ news) grown =
      (record { cleared = grown.0.cleared; flags = ap (λ (f : Field). f.flags) grown.0.rest }, fields_opened olds news grown.1)

  -- ---- methods

  methods_same : (olds kept : List Method) → AllByRecursion (IsAskedNames old.pool) olds → AreSameMethods olds kept → map (method_member pool) kept ≡ map (method_member old.pool) olds
  methods_same [] [] names same = refl
  methods_same [] (new ∷ kept) names same = absurd same
  methods_same (method ∷ olds) [] names same = absurd same
  methods_same (method ∷ olds) (new ∷ kept) names same =
      ap (λ (m : Method). method_member pool m ∷ map (method_member pool) kept) same.0.rest
      ∙ ap (λ (name : Option (List ℕ)). record { flags = method.flags; name = text_or_empty name; desc = text_or_empty (utf8_at pool method.desc) } ∷ map (method_member pool) kept) (text_still method.name names.0.name)
      ∙ ap (λ (desc : Option (List ℕ)). record { flags = method.flags; name = text_or_empty (utf8_at old.pool method.name); desc = text_or_empty desc } ∷ map (method_member pool) kept) (text_still method.desc names.0.desc)
      ∙ ap (λ (members : List Member). method_member old.pool method ∷ members) (methods_same olds kept names.1 same.1)

  are_init : (added : List Method) → AllByRecursion (λ method. IsNewInitialiser (header_of old) (method_member pool method)) added
      → AllByRecursion (λ (method : Member). method.name ≡ init) (map (method_member pool) added)
  are_init [] new = tt
  are_init (method ∷ added) new = (new.0.is_init, are_init added new.1)

  are_new : (added : List Method) → AllByRecursion (λ method. IsNewInitialiser (header_of old) (method_member pool method)) added
      → AllByRecursion (IsNewInitialiser (header_of old)) (map (method_member pool) added)
  are_new [] new = tt
  are_new (method ∷ added) new = (new.0, are_new added new.1)

  -- ---- the header

  module _ (fields : List Field) (kept added : List Method) (grown : AreGrownFields old.fields fields) (same : AreSameMethods old.methods kept)
      (new : AllByRecursion (λ method. IsNewInitialiser (header_of old) (method_member pool method)) added) where
    abbrev file : ClassFile
    file = grown_file old more fields (kept ++ added) asked

    pub file_header : IsGrownHeader (header_of old) (header_of file)
    file_header =
        let alike : IsAlike (header_of old) (header_of file) = record {
          same_name = ap text_or_empty (class_same old.major old.pool more 10 asked.constants old.this_class asked.this_class);
          same_flags = refl;
          same_super = super_still;
          same_interfaces = interfaces_still parts.beside old.interfaces parts.interfaces;
          fields = fields_alike old.fields fields (field_texts old.pool old.flags [] parts.at old.fields parts.fields) grown;
          added = map (method_member pool) added;
          methods = map-append (method_member pool) kept added ∙ ap (λ (members : List Member). members ++ map (method_member pool) added) (methods_same old.methods kept (each_names old is) same);
          initialisers = are_init added new;
        } in
        record { alike = alike; opened = fields_opened old.fields fields grown; initialisers = are_new added new }

-- the file as its parts say it
pub grown_is : (old new : ClassFile) (is : IsClassFile old) (grown : IsGrownClass old new) → new ≡ grown_file old grown.more new.fields new.methods (class_asked old is)
grown_is old new is grown = grown.rest ∙ ap (λ (pool : Constants). record old { pool = pool; fields = new.fields; methods = new.methods }) grown.pool

pub header_grown : (old new : ClassFile) → IsClassFile old → IsGrownClass old new → IsGrownHeader (header_of old) (header_of new)
header_grown old new is grown =
    let initialisers = subst (λ (pool : Constants). AllByRecursion (λ method. IsNewInitialiser (header_of old) (method_member pool method)) grown.added) grown.pool grown.initialisers in
    let header = file_header old is grown.more new.fields grown.kept grown.added grown.fields grown.same initialisers in
    let same : new ≡ grown_file old grown.more new.fields (grown.kept ++ grown.added) (class_asked old is) =
    grown_is old new is grown ∙ ap (λ (methods : List Method). record old { pool = old.pool ++ grown.more; fields = new.fields; methods = methods }) grown.methods in
    subst (λ (c : ClassFile). IsGrownHeader (header_of old) (header_of c)) (sym same) header

headers_grown : (olds news : List ClassFile) → AllByRecursion IsClassFile olds → AreAllGrownClasses olds news → AreAllGrown (map header_of olds) (map header_of news)
headers_grown [] [] are grown = tt
headers_grown [] (new ∷ news) are grown = absurd grown
headers_grown (old ∷ olds) [] are grown = absurd grown
headers_grown (old ∷ olds) (new ∷ news) are grown = (header_grown old new are.0 grown.0, headers_grown olds news are.1 grown.1)

pub folder_grown : (old new : Classes) → AllByRecursion IsClassFile old.folder → AreGrownClasses old new → AreGrownHeaders (headers_of old) (headers_of new)
folder_grown old new are grown = record { folder = headers_grown old.folder new.folder are grown.folder; library = grown.library }

-- ---- a class file as it was

fields_itself : (fields : List Field) → AreGrownFields fields fields
fields_itself [] = tt
fields_itself (field ∷ fields) =
    (record { cleared = 0; rest = ap (λ (flags : ℕ). record field { flags = flags }) (sym (nothing_cleared field.flags)) }, fields_itself fields)

methods_itself : (methods : List Method) → AreSameMethods methods methods
methods_itself [] = tt
methods_itself (method ∷ methods) = (record { rest = refl }, methods_itself methods)

pub class_itself : (class : ClassFile) → IsGrownClass class class
class_itself class = record {
  more = [];
  pool = sym (append-nil class.pool);
  fields = fields_itself class.fields;
  kept = class.methods;
  added = [];
  methods = sym (append-nil class.methods);
  same = methods_itself class.methods;
  initialisers = tt;
  rest = refl;
}

-- ---- what static fields begin with, and the method handles

pub starts_kept : (old new : ClassFile) → IsClassFile old → IsGrownClass old new → starts_from new.pool 0 new.fields ≡ starts_from old.pool 0 old.fields
starts_kept old new is grown =
    let file = class_asked old is in
    let parts = parts_asked old is in
    ap (λ (pool : Constants). starts_from pool 0 new.fields) grown.pool
    ∙ starts_same old.major old.pool grown.more 10 file.constants old.flags [] parts.at 0 old.fields new.fields parts.fields grown.fields

pub handles_stay : (old new : ClassFile) → IsClassFile old → (grown : IsGrownClass old new) → AllByRecursion (λ entry. ¬ IsHandle entry) grown.more
    → handles_in new.pool new.pool ≡ handles_in old.pool old.pool
handles_stay old new is grown none =
    ap (λ (pool : Constants). handles_in pool pool) grown.pool ∙ handles_kept old.major old.pool grown.more 10 (class_asked old is).constants none
