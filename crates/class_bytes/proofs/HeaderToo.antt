-- A class file that is read is read as a library's.
use Rattle.std.proofs.Common.{◌≡◌, ◌+◌, ℕ, List, [], ◌∷◌, ◌++◌, length, Some, None, inl, inr, ap, ◌∙◌, arith}
use Rattle.std.proofs.lemmas.Simd.{map-map}
use Rattle.class_model.specs.Checks.{AllHold}
use Rattle.class_model.specs.ClassOf.{ClassOf, IsReadVersion, fields_checks, methods_checks, class_file_checks, entered, entered_method}
use Rattle.class_model.specs.Cutting.{Version}
use Rattle.class_model.specs.Header.{HeaderOf, IsLibraryVersion, texts_checks, header_checks, header_of}
use Rattle.class_model.specs.Laws.Checks.{both_hold, first_holds, others_hold}
use Rattle.class_model.specs.Laws.ClassFiles.{fields_place, flags_place, methods_place, parts_hold}
use Rattle.class_model.specs.Members.{Signature, class_name_checks, super_checks, interfaces_checks, field_checks, field_signature}
use Rattle.class_model.specs.Methods.{Home, method_checks, method_signature, home_of}
use Rattle.class_model.specs.Pool.{Constants}
use Rattle.class_model.specs.PoolChecks.{constant_checks, entries_checks}
use Rattle.class_model.specs.Spelling.{constant_bytes, field_bytes, method_bytes}
use Rattle.class_model.specs.declared.class_file.ClassFile.{ClassFile}
use Rattle.class_model.specs.declared.class_file.Field.{Field}
use Rattle.class_model.specs.declared.class_file.Method.{Method}
use Rattle.class_model.specs.declared.header.Member.{Member}
use Rattle.class_model.specs.declared.pool.Const.TheVariants.{Utf8}
use Rattle.class_bytes.specs.Inner.HeaderParts.{method_head, member_in}
use Rattle.class_bytes.proofs.HeaderSame.{all_fields, all_methods}
use Rattle.class_bytes.proofs.PoolAlone.{IsAlone, pool_alone}

-- ---- what a header is asked

texts_hold : (major : ℕ) (pool : Constants) (at : ℕ) (entries : Constants) → AllHold (entries_checks major pool at entries) → AllHold (texts_checks at entries)
texts_hold major pool at [] h = tt
texts_hold major pool at (None ∷ entries) h = texts_hold major pool at entries h
texts_hold major pool at (Some (Utf8 text) ∷ entries) h = (h.0, texts_hold major pool (at + length (constant_bytes (Utf8 text))) entries h.1)
texts_hold major pool at (Some constant ∷ entries) h =
    let next = at + length (constant_bytes constant) in
    texts_hold major pool next entries (others_hold (constant_checks major pool at constant) (entries_checks major pool next entries) h)

fields_hold : (pool : Constants) (flags : ℕ) (before : List Signature) (at : ℕ) (fields : List Field) → AllHold (fields_checks pool flags before at fields) → AllHold (all_fields pool at fields)
fields_hold pool flags before at [] h = tt
fields_hold pool flags before at (field ∷ fields) h =
    let next = at + length (field_bytes field) in
    let known = before ++ field_signature field ∷ [] in
    let own = field_checks pool flags before at field in
    let others = fields_checks pool flags known next fields in
    let first = first_holds own others h in
    (first.1.1.0, (first.1.1.1.0, (first.1.1.1.1.0, (first.1.1.1.1.1.0, fields_hold pool flags known next fields (others_hold own others h)))))

methods_hold : (home : Home) (before : List Signature) (at : ℕ) (methods : List Method) → AllHold (methods_checks home before at methods) → AllHold (all_methods home.pool at methods)
methods_hold home before at [] h = tt
methods_hold home before at (method ∷ methods) h =
    let next = at + length (method_bytes method) in
    let known = before ++ method_signature method ∷ [] in
    let own = method_checks home before at method in
    let others = methods_checks home known next methods in
    let first = first_holds own others h in
    (first.1.1.1.1.0, (first.1.1.1.1.1.0, (first.1.1.1.1.1.1.0, (first.1.1.1.1.1.1.1.0, methods_hold home known next methods (others_hold own others h)))))

-- what is known of a class file whose checks hold
record Holds (c : ClassFile) : Type 0 where
  entries : AllHold (entries_checks c.major c.pool 10 c.pool)
  header : AllHold (header_checks c)

class_holds : (c : ClassFile) → AllHold (class_file_checks c) → Holds c
class_holds c all =
    let pool = c.pool in
    let asked = parts_hold c all in
    let names = class_name_checks pool (flags_place c + 2) c.this_class in
    let supers = super_checks pool (flags_place c + 4) c.super_class in
    let interfaces = interfaces_checks pool (flags_place c + 8) c.interfaces in
    let texts = texts_checks 10 pool in
    let own = all_fields pool (fields_place c + 2) c.fields in
    let others = all_methods pool (methods_place c + 2) c.methods in
    let three = both_hold (texts ++ names) supers (both_hold texts names (texts_hold c.major pool 10 pool asked.pool) asked.this_class) asked.super_class in
    let four = both_hold (texts ++ names ++ supers) interfaces three asked.interfaces in
    let five = both_hold (texts ++ names ++ supers ++ interfaces) own four (fields_hold pool c.flags [] (fields_place c + 2) c.fields asked.fields) in
    record {
      entries = asked.pool;
      header = both_hold (texts ++ names ++ supers ++ interfaces ++ own) others five (methods_hold (home_of c) [] (methods_place c + 2) c.methods asked.methods);
    }

-- ---- the whole

-- the versions that are read are a library's
library_version : (version : Version) → IsReadVersion version → IsLibraryVersion version
library_version version (inl is) = inl (omega (arith, is), omega (arith, is))
library_version version (inr (inl is)) = inl (omega (arith, is), omega (arith, is))
library_version version (inr (inr is)) = inr is

-- where code is entered, the header is the same
header_entered : (c : ClassFile) → header_of (entered c) ≡ header_of c
header_entered c = ap (λ (methods : List Member). record (header_of c) { methods = methods }) (map-map (λ (method : Method). member_in c.pool (method_head method)) (entered_method c.pool) c.methods)

pub is_library_file : (bytes : List ℕ) (class : ClassFile) → ClassOf bytes class → HeaderOf bytes (header_of class)
is_library_file bytes class is = record {
  version = is.version;
  rest = is.rest;
  head = is.head;
  is_read = library_version is.version is.is_read;
  cut = is.cut;
  is_cut = is.is_cut;
  holds = (class_holds is.cut is.holds).header;
  is = ap header_of is.is ∙ header_entered is.cut;
}

pub has_pool : (bytes : List ℕ) (class : ClassFile) → ClassOf bytes class → IsAlone bytes class.pool
has_pool bytes class is = pool_alone bytes class is (class_holds is.cut is.holds).entries
