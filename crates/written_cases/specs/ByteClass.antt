-- class By { byte b; }: its constants and field
use Rattle.std.specs.Prelude.{[], ◌∷◌, codes, Some, None}
use Rattle.class_model.specs.Pool.{Constants}
use Rattle.class_model.specs.declared.class_file.ClassFile.{ClassFile}
use Rattle.class_model.specs.declared.pool.Const.TheVariants.{Class, Methodref, NameAndType, Utf8}

abbrev pub pool : Constants
pool =
    None
    ∷ Some (Utf8 (codes "By"))
    ∷ Some (Class 1)
    ∷ Some (Utf8 (codes "java/lang/Object"))
    ∷ Some (Class 3)
    ∷ Some (Utf8 (codes "b"))
    ∷ Some (Utf8 (codes "B"))
    ∷ Some (Utf8 (codes "<init>"))
    ∷ Some (Utf8 (codes "()V"))
    ∷ Some (Utf8 (codes "Code"))
    ∷ Some (NameAndType 7 8)
    ∷ Some (Methodref 4 10)
    ∷ []

abbrev pub by_file : ClassFile
by_file = record {
  major = 52;
  minor = 0;
  pool = pool;
  flags = 32;
  this_class = 2;
  super_class = 4;
  interfaces = [];
  fields = record { flags = 0; name = 5; desc = 6; attrs = [] }
      ∷ [];
  methods = [];
  attrs = [];
}
