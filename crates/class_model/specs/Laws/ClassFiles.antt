-- The parts of what a class file is asked.
use Rattle.std.specs.Prelude.{◌+◌, ◌*◌, ℕ, List, [], ◌∷◌, ◌++◌, length, IsTrue}
use Rattle.std.specs.List.{flat_map}
use Rattle.class_model.specs.Checks.{Check, Fault, check, AllHold}
use Rattle.class_model.specs.ClassOf.{class_file_checks, fields_checks, methods_checks, bootstrap_index_checks}
use Rattle.class_model.specs.Laws.Checks.{first_holds, others_hold}
use Rattle.class_model.specs.Members.{fits_class, class_name_checks, super_checks, interfaces_checks, attrs_checks}
use Rattle.class_model.specs.Methods.{class_attr_checks, bootstrap_count, home_of}
use Rattle.class_model.specs.PoolChecks.{entries_checks}
use Rattle.class_model.specs.Spelling.{entry_bytes, field_bytes, method_bytes}
use Rattle.class_model.specs.declared.class_file.ClassFile.{ClassFile}
use Rattle.class_model.specs.declared.fault.FileRule.TheVariants as rules

-- ---- where parts begin, in bytes

abbrev pub flags_place : ClassFile → ℕ
flags_place c = 10 + length (flat_map entry_bytes c.pool)

abbrev pub fields_place : ClassFile → ℕ
fields_place c = flags_place c + 8 + 2 * length c.interfaces

abbrev pub methods_place : ClassFile → ℕ
methods_place c = fields_place c + 2 + length (flat_map field_bytes c.fields)

abbrev pub attrs_place : ClassFile → ℕ
attrs_place c = methods_place c + 2 + length (flat_map method_bytes c.methods)

-- ---- what holds of each

pub record PartsHold (c : ClassFile) : Type 0 where
  pub pool : AllHold (entries_checks c.major c.pool 10 c.pool)
  pub this_class : AllHold (class_name_checks c.pool (flags_place c + 2) c.this_class)
  pub super_class : AllHold (super_checks c.pool (flags_place c + 4) c.super_class)
  pub interfaces : AllHold (interfaces_checks c.pool (flags_place c + 8) c.interfaces)
  pub fields : AllHold (fields_checks c.pool c.flags [] (fields_place c + 2) c.fields)
  pub methods : AllHold (methods_checks (home_of c) [] (methods_place c + 2) c.methods)

-- the first six of nine parts
record SixHold (a b c d e f : List (Check Fault)) : Type 0 where
  first : AllHold a
  third : AllHold c
  fourth : AllHold d
  fifth : AllHold e
  sixth : AllHold f

six_hold :
    (a b c d e f g : List (Check Fault))
    → AllHold (a ++ b ++ c ++ d ++ e ++ f ++ g)
    → AllHold g × SixHold a b c d e f
six_hold a b c d e f g all =
    let abcdef = first_holds (a ++ b ++ c ++ d ++ e ++ f) g all in
    let abcde = first_holds (a ++ b ++ c ++ d ++ e) f abcdef in
    let abcd = first_holds (a ++ b ++ c ++ d) e abcde in
    let abc = first_holds (a ++ b ++ c) d abcd in
    let ab = first_holds (a ++ b) c abc in (
      others_hold (a ++ b ++ c ++ d ++ e ++ f) g all,
      record {
        first = first_holds a b ab;
        third = others_hold (a ++ b) c abc;
        fourth = others_hold (a ++ b ++ c) d abcd;
        fifth = others_hold (a ++ b ++ c ++ d) e abcde;
        sixth = others_hold (a ++ b ++ c ++ d ++ e) f abcdef;
      },
    )

pub parts_hold : (c : ClassFile) → AllHold (class_file_checks c) → PartsHold c
parts_hold c all =
    let pool = entries_checks c.major c.pool 10 c.pool in
    let flags = check (flags_place c) rules.Flags (IsTrue (fits_class c.flags)) ∷ [] in
    let this_class = class_name_checks c.pool (flags_place c + 2) c.this_class in
    let super_class = super_checks c.pool (flags_place c + 4) c.super_class in
    let interfaces = interfaces_checks c.pool (flags_place c + 8) c.interfaces in
    let fields = fields_checks c.pool c.flags [] (fields_place c + 2) c.fields in
    let methods = methods_checks (home_of c) [] (methods_place c + 2) c.methods in
    let attrs = attrs_checks (class_attr_checks c.pool) [] (attrs_place c + 2) c.attrs in
    let dynamics = bootstrap_index_checks (bootstrap_count c.pool c.attrs) 10 c.pool in
    let front = pool ++ flags ++ this_class ++ super_class ++ interfaces ++ fields ++ methods in
    let seven = first_holds front attrs (first_holds (front ++ attrs) dynamics all) in
    let six = six_hold pool flags this_class super_class interfaces fields methods seven in
    record { pool = six.1.first; this_class = six.1.third; super_class = six.1.fourth; interfaces = six.1.fifth; fields = six.1.sixth; methods = six.0 }
