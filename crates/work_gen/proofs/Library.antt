-- The values of the library are the library.
use Rattle.std.proofs.Common.{◌≡◌, ℕ, true, List, [], ◌∷◌, map, Ok, refl, codes}
use Rattle.std.specs.Prelude.{IsTrue}
use Rattle.std.specs.List.{AllByRecursion, join_with_byte}
use Rattle.class_model.specs.ClassOf.{ClassOf}
use Rattle.class_model.specs.Cutting as cutting
use Rattle.class_model.specs.Cutting.{version_at, class_file_at, uncut}
use Rattle.class_model.specs.Instructions as instructions
use Rattle.class_model.specs.Laws.Checks.{◌▸◌}
use Rattle.class_model.specs.Members.{fits_class}
use Rattle.class_model.specs.ModifiedUtf8.{is_plain_text}
use Rattle.class_model.specs.Spelling.{class_bytes}
use Rattle.class_model.specs.declared.class_file.ClassFile.{ClassFile}
use Rattle.class_tree.specs.Headers.{Name}
use Rattle.class_tree.specs.Names.{object, cloneable, serializable, throwable, method_handle, method_type, machine_throwables}
use Rattle.work_gen.specs.BaseLibrary.{IsBaseClass, IsBaseLibrary, Returns, CallsConstructor}
use Rattle.work_gen.proofs.HeldChecks.{object_name, memberless_holds, thrown_holds, root_holds, keeper_holds}
use Rattle.work_gen.proofs.PlainNames.{IsPlainClassName, are_parts, parts_of}
use Rattle.work_gen.proofs.ReadClasses.{IsReadBack, class_file, version, behind_version, raw}
use Rattle.work_gen.specs.Values.{memberless, thrown, thrown_code, root, root_code, keeper, base_classes}

known : {name : Name} → is_plain_text name ≡ true → are_parts (parts_of name) ≡ true → name ≡ join_with_byte 47 (parts_of name) → IsPlainClassName name
known plain parts joined = record { plain = plain; parts = parts; joined = joined }

read_back : {c : ClassFile} → version_at (uncut (class_bytes c)) ≡ Ok (version, behind_version c) → class_file_at version (behind_version c) ≡ Ok (raw c) → IsReadBack c
read_back head cut = record { head = head; cut = cut }

-- ---- classes without members

memberless_is : (flags : ℕ) (name : Name) → IsPlainClassName name → IsTrue (fits_class flags) → IsReadBack (memberless flags name) → IsBaseClass (memberless flags name)
memberless_is flags name plain fits read = record {
  major = refl;
  minor = refl;
  file = class_file (memberless flags name) read (memberless_holds flags name plain fits) refl;
  code = tt;
}

-- ---- throwables

thrown_file : (super_name name : Name) → IsPlainClassName super_name → IsPlainClassName name → IsReadBack (thrown super_name name) → ClassOf (class_bytes (thrown super_name name)) (thrown super_name name)
unfolding cutting.many_at
thrown_file super_name name super_plain plain read = class_file (thrown super_name name) read (thrown_holds super_name name super_plain plain) refl

calls_super : (super_name name : Name) → CallsConstructor (thrown super_name name).pool super_name thrown_code
unfolding instructions.instrs_at instructions.instr_at
calls_super super_name name = record {
  sizes = record { max_stack = refl; max_locals = refl; handlers = refl; attrs = refl };
  constant = 9;
  named = record { owner = 4; member = 8; is_method = refl; is_owner = refl; is_init = refl; is_void = refl };
  code = refl;
}

thrown_is : (super_name name : Name) → IsPlainClassName super_name → IsPlainClassName name → IsReadBack (thrown super_name name) → IsBaseClass (thrown super_name name)
thrown_is super_name name super_plain plain read =
    record { major = refl; minor = refl; file = thrown_file super_name name super_plain plain read; code = (calls_super super_name name, tt) }

record IsThrown (super_name name : Name) : Type 0 where
  plain : IsPlainClassName name
  read : IsReadBack (thrown super_name name)

thrown_one : {super_name name : Name} → IsPlainClassName name → IsReadBack (thrown super_name name) → IsThrown super_name name
thrown_one plain read = record { plain = plain; read = read }

each_thrown : (super_name : Name) → IsPlainClassName super_name → (names : List Name) → AllByRecursion (IsThrown super_name) names → AllByRecursion IsBaseClass (map (thrown super_name) names)
each_thrown super_name super_plain [] are = tt
each_thrown super_name super_plain (name ∷ names) are =
    (thrown_is super_name name super_plain are.0.plain are.0.read, each_thrown super_name super_plain names are.1)

throwable_name : IsPlainClassName throwable
throwable_name = known refl refl refl

machine_throwables_are : AllByRecursion (IsThrown throwable) machine_throwables
unfolding cutting.entries_at cutting.fields_at cutting.many_at
machine_throwables_are =
    thrown_one (known refl refl refl) (read_back refl refl)
    ▸ thrown_one (known refl refl refl) (read_back refl refl)
    ▸ thrown_one (known refl refl refl) (read_back refl refl)
    ▸ thrown_one (known refl refl refl) (read_back refl refl)
    ▸ thrown_one (known refl refl refl) (read_back refl refl)
    ▸ thrown_one (known refl refl refl) (read_back refl refl)
    ▸ thrown_one (known refl refl refl) (read_back refl refl)
    ▸ thrown_one (known refl refl refl) (read_back refl refl)
    ▸ thrown_one (known refl refl refl) (read_back refl refl)
    ▸ thrown_one (known refl refl refl) (read_back refl refl)
    ▸ tt

-- ---- Object and L

root_file : ClassOf (class_bytes root) root
unfolding cutting.entries_at cutting.fields_at cutting.many_at
root_file = class_file root (read_back refl refl) root_holds refl

root_returns : Returns root_code
unfolding instructions.instrs_at instructions.instr_at
root_returns = record { sizes = record { max_stack = refl; max_locals = refl; handlers = refl; attrs = refl }; code = refl }

root_is : IsBaseClass root
root_is = record { major = refl; minor = refl; file = root_file; code = (root_returns, tt) }

keeper_file : ClassOf (class_bytes keeper) keeper
unfolding cutting.entries_at cutting.fields_at cutting.many_at
keeper_file = class_file keeper (read_back refl refl) keeper_holds refl

keeper_is : IsBaseClass keeper
keeper_is = record { major = refl; minor = refl; file = keeper_file; code = tt }

-- ---- the library

pub is_base_library : IsBaseLibrary base_classes
unfolding cutting.entries_at cutting.fields_at cutting.many_at
is_base_library = record {
  headers = refl;
  each =
      root_is
      ▸ memberless_is 0x0601 cloneable (known refl refl refl) refl (read_back refl refl)
      ▸ memberless_is 0x0601 serializable (known refl refl refl) refl (read_back refl refl)
      ▸ memberless_is 0x0031 (codes "java/lang/String") (known refl refl refl) refl (read_back refl refl)
      ▸ memberless_is 0x0031 (codes "java/lang/Class") (known refl refl refl) refl (read_back refl refl)
      ▸ memberless_is 0x0021 method_handle (known refl refl refl) refl (read_back refl refl)
      ▸ memberless_is 0x0021 method_type (known refl refl refl) refl (read_back refl refl)
      ▸ keeper_is
      ▸ thrown_is object throwable object_name throwable_name (read_back refl refl)
      ▸ each_thrown throwable throwable_name machine_throwables machine_throwables_are;
}
