-- class Box { Object v; Box(Object a) { v = a; } }: its constants and field
use Rattle.std.specs.Prelude.{[], ◌∷◌, codes, Some, None}
use Rattle.class_model.specs.Pool.{Constants}
use Rattle.class_model.specs.declared.class_file.ClassFile.{ClassFile}
use Rattle.class_model.specs.declared.pool.Const.TheVariants.{Class, Fieldref, Methodref, NameAndType, Utf8}

abbrev pub pool : Constants
pool =
    None
    ∷ Some (Utf8 (codes "Box"))
    ∷ Some (Class 1)
    ∷ Some (Utf8 (codes "java/lang/Object"))
    ∷ Some (Class 3)
    ∷ Some (Utf8 (codes "v"))
    ∷ Some (Utf8 (codes "Ljava/lang/Object;"))
    ∷ Some (Utf8 (codes "<init>"))
    ∷ Some (Utf8 (codes "(Ljava/lang/Object;)V"))
    ∷ Some (Utf8 (codes "Code"))
    ∷ Some (Utf8 (codes "()V"))
    ∷ Some (NameAndType 7 10)
    ∷ Some (Methodref 4 11)
    ∷ Some (NameAndType 5 6)
    ∷ Some (Fieldref 2 13)
    ∷ []

abbrev pub box_file : ClassFile
box_file = record {
  major = 52;
  minor = 0;
  pool = pool;
  flags = 32;
  this_class = 2;
  super_class = 4;
  interfaces = [];
  fields = record { flags = 0; name = 5; desc = 6; attrs = [] }
      ∷ [];
  methods = [];
  attrs = [];
}
