-- class P { int x; int y; P(int a, int b) { x = a; y = b; } int y() { return y; } }: its constants and fields
use Rattle.std.specs.Prelude.{[], ◌∷◌, codes, Some, None}
use Rattle.class_model.specs.Pool.{Constants}
use Rattle.class_model.specs.declared.class_file.ClassFile.{ClassFile}
use Rattle.class_model.specs.declared.pool.Const.TheVariants.{Class, Fieldref, Methodref, NameAndType, Utf8}

abbrev pub pool : Constants
pool =
    None
    ∷ Some (Utf8 (codes "P"))
    ∷ Some (Class 1)
    ∷ Some (Utf8 (codes "java/lang/Object"))
    ∷ Some (Class 3)
    ∷ Some (Utf8 (codes "x"))
    ∷ Some (Utf8 (codes "I"))
    ∷ Some (Utf8 (codes "y"))
    ∷ Some (Utf8 (codes "<init>"))
    ∷ Some (Utf8 (codes "(II)V"))
    ∷ Some (Utf8 (codes "Code"))
    ∷ Some (Utf8 (codes "()V"))
    ∷ Some (NameAndType 8 11)
    ∷ Some (Methodref 4 12)
    ∷ Some (NameAndType 5 6)
    ∷ Some (Fieldref 2 14)
    ∷ Some (NameAndType 7 6)
    ∷ Some (Fieldref 2 16)
    ∷ Some (Utf8 (codes "()I"))
    ∷ []

abbrev pub p_file : ClassFile
p_file = record {
  major = 52;
  minor = 0;
  pool = pool;
  flags = 32;
  this_class = 2;
  super_class = 4;
  interfaces = [];
  fields = record { flags = 0; name = 5; desc = 6; attrs = [] }
      ∷ record { flags = 0; name = 7; desc = 6; attrs = [] }
      ∷ [];
  methods = [];
  attrs = [];
}
