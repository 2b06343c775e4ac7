-- A class file that is read back from its bytes and whose checks hold.
use Rattle.std.proofs.Common.{◌≡◌, Ok, inr, refl, map, drop}
use Rattle.class_model.specs.Checks.{AllHold}
use Rattle.class_model.specs.ClassOf.{ClassOf, class_file_checks, entered}
use Rattle.class_model.specs.Cutting.{Rest, Version, version_at, class_file_at, uncut}
use Rattle.class_model.specs.Spelling.{class_bytes, code_part_bytes}
use Rattle.class_model.specs.declared.class_file.Attr.{Attr}
use Rattle.class_model.specs.declared.class_file.Attr.TheVariants.{Raw, Code}
use Rattle.class_model.specs.declared.class_file.ClassFile.{ClassFile}
use Rattle.class_model.specs.declared.class_file.Method.{Method}

abbrev pub version : Version
version = record { minor = 0; major = 52 }

-- the bytes behind the version
abbrev pub behind_version : ClassFile → Rest
behind_version c = record { at = 8; bytes = drop 8 (class_bytes c) }

-- a class file whose code is not cut apart
abbrev raw_attr : Attr → Attr
raw_attr (Raw name bytes) = Raw name bytes
raw_attr (Code name part) = Raw name (code_part_bytes part)

abbrev raw_method : Method → Method
raw_method method = record method { attrs = map raw_attr method.attrs }

abbrev pub raw : ClassFile → ClassFile
raw c = record c { methods = map raw_method c.methods }

-- The bytes are cut into the class: at a class that is known both compute.
pub record IsReadBack (c : ClassFile) : Type 0 where
  pub head : version_at (uncut (class_bytes c)) ≡ Ok (version, behind_version c)
  pub cut : class_file_at version (behind_version c) ≡ Ok (raw c)

pub class_file : (c : ClassFile) → IsReadBack c → AllHold (class_file_checks (raw c)) → c ≡ entered (raw c) → ClassOf (class_bytes c) c
class_file c read holds is = record {
  version = version;
  rest = behind_version c;
  head = read.head;
  is_read = inr (inr (refl, refl));
  cut = raw c;
  is_cut = read.cut;
  holds = holds;
  is = is;
}
