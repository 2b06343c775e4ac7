-- The parts of the checks of a class file, and the whole of them.
use Rattle.std.proofs.Common.{◌+◌, [], ◌∷◌, ◌++◌}
use Rattle.std.specs.Prelude.{IsTrue}
use Rattle.class_model.specs.Checks.{AllHold}
use Rattle.class_model.specs.PoolChecks.{entries_checks}
use Rattle.class_model.specs.Checks.{check}
use Rattle.class_model.specs.ClassOf.{bootstrap_index_checks, class_file_checks, fields_checks, methods_checks}
use Rattle.class_model.specs.Laws.Checks.{both_hold}
use Rattle.class_model.specs.Laws.ClassFiles.{attrs_place, fields_place, flags_place, methods_place}
use Rattle.class_model.specs.Members.{attrs_checks, class_name_checks, fits_class, interfaces_checks, super_checks}
use Rattle.class_model.specs.Methods.{bootstrap_count, class_attr_checks, home_of}
use Rattle.class_model.specs.declared.class_file.ClassFile.{ClassFile}
use Rattle.class_model.specs.declared.fault.FileRule.TheVariants as rules

pub record PartsHold (c : ClassFile) : Type 0 where
  pub pool : AllHold (entries_checks c.major c.pool 10 c.pool)
  pub flags : IsTrue (fits_class c.flags)
  pub this_class : AllHold (class_name_checks c.pool (flags_place c + 2) c.this_class)
  pub super_class : AllHold (super_checks c.pool (flags_place c + 4) c.super_class)
  pub interfaces : AllHold (interfaces_checks c.pool (flags_place c + 8) c.interfaces)
  pub fields : AllHold (fields_checks c.pool c.flags [] (fields_place c + 2) c.fields)
  pub methods : AllHold (methods_checks (home_of c) [] (methods_place c + 2) c.methods)
  pub attrs : AllHold (attrs_checks (class_attr_checks c.pool) [] (attrs_place c + 2) c.attrs)
  pub dynamics : AllHold (bootstrap_index_checks (bootstrap_count c.pool c.attrs) 10 c.pool)

pub all_hold : (c : ClassFile) → PartsHold c → AllHold (class_file_checks c)
all_hold c parts =
    let pool = entries_checks c.major c.pool 10 c.pool in
    let flags = check (flags_place c) rules.Flags (IsTrue (fits_class c.flags)) ∷ [] in
    let this_class = class_name_checks c.pool (flags_place c + 2) c.this_class in
    let super_class = super_checks c.pool (flags_place c + 4) c.super_class in
    let interfaces = interfaces_checks c.pool (flags_place c + 8) c.interfaces in
    let fields = fields_checks c.pool c.flags [] (fields_place c + 2) c.fields in
    let methods = methods_checks (home_of c) [] (methods_place c + 2) c.methods in
    let attrs = attrs_checks (class_attr_checks c.pool) [] (attrs_place c + 2) c.attrs in
    let dynamics = bootstrap_index_checks (bootstrap_count c.pool c.attrs) 10 c.pool in
    let two = both_hold pool flags parts.pool (parts.flags, tt) in
    let three = both_hold (pool ++ flags) this_class two parts.this_class in
    let four = both_hold (pool ++ flags ++ this_class) super_class three parts.super_class in
    let five = both_hold (pool ++ flags ++ this_class ++ super_class) interfaces four parts.interfaces in
    let six = both_hold (pool ++ flags ++ this_class ++ super_class ++ interfaces) fields five parts.fields in
    let seven = both_hold (pool ++ flags ++ this_class ++ super_class ++ interfaces ++ fields) methods six parts.methods in
    let eight = both_hold (pool ++ flags ++ this_class ++ super_class ++ interfaces ++ fields ++ methods) attrs seven parts.attrs in
    both_hold (pool ++ flags ++ this_class ++ super_class ++ interfaces ++ fields ++ methods ++ attrs) dynamics eight parts.dynamics
