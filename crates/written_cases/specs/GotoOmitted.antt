-- A goto over another one, which leads to itself: both are written.
use Rattle.std.specs.Prelude.{ℕ, List, [], ◌∷◌, codes, Some, pos, None}
use Rattle.class_model.specs.Pool.{Constants}
use Rattle.class_model.specs.declared.class_file.ClassFile.{ClassFile}
use Rattle.class_model.specs.declared.descriptor.FieldType.TheVariants as fields
use Rattle.class_model.specs.declared.descriptor.Kind.TheVariants as kinds
use Rattle.class_model.specs.declared.frame.VType.{VType}
use Rattle.class_model.specs.declared.frame.VType.TheVariants.{Int, Object, Top, Uninit}
use Rattle.class_model.specs.declared.instr.Imm.TheVariants as imms
use Rattle.class_model.specs.declared.instr.Instr.TheVariants.{Const, GetField, Goto, If, Invoke, Load, New, PutField, Return, Shuffle, Store}
use Rattle.class_model.specs.declared.opcodes.TheConstants.{DUP, IFNE, INVOKESPECIAL}
use Rattle.class_model.specs.declared.pool.Const.TheVariants.{Class, Fieldref, Methodref, NameAndType, String, Utf8}
use Rattle.flow_code.specs.declared.point.FlatInstr.TheVariants.{Of}
use Rattle.plan_flow.specs.Written.WrittenCode.{short}
use Rattle.making_code.specs.IndexedItems.{IndexedItem}
use Rattle.virtual_state.specs.declared.slot.Slot.TheVariants.{Plain}
use Rattle.written_cases.specs.CaseWords.{Case, CasePoint, Held, Wanted, jump, next, planned, uncaught}
use Rattle.written_cases.specs.PointClass.{p_file}

-- ---- the class of the method

abbrev pub pool : Constants
pool =
    None
    ∷ Some (Utf8 (codes "T"))
    ∷ Some (Class 1)
    ∷ Some (Utf8 (codes "java/lang/Object"))
    ∷ Some (Class 3)
    ∷ Some (Utf8 (codes "a"))
    ∷ Some (Utf8 (codes "()V"))
    ∷ Some (Utf8 (codes "Code"))
    ∷ Some (Utf8 (codes "P"))
    ∷ Some (Class 8)
    ∷ Some (Utf8 (codes "<init>"))
    ∷ Some (Utf8 (codes "(II)V"))
    ∷ Some (NameAndType 10 11)
    ∷ Some (Methodref 9 12)
    ∷ Some (Utf8 (codes "StackMapTable"))
    ∷ Some (Utf8 (codes "b"))
    ∷ Some (Utf8 (codes "c"))
    ∷ Some (Utf8 (codes "(I)I"))
    ∷ Some (Utf8 (codes "x"))
    ∷ Some (Utf8 (codes "I"))
    ∷ Some (NameAndType 18 19)
    ∷ Some (Fieldref 9 20)
    ∷ Some (Utf8 (codes "d"))
    ∷ Some (Utf8 (codes "s"))
    ∷ Some (String 23)
    ∷ Some (Utf8 (codes "java/lang/String"))
    ∷ Some (Class 25)
    ∷ Some (Utf8 (codes "e"))
    ∷ []

abbrev pub file : ClassFile
file = record {
  major = 52;
  minor = 0;
  pool = pool;
  flags = 32;
  this_class = 2;
  super_class = 4;
  interfaces = [];
  fields = [];
  methods = record { flags = 8; name = 5; desc = 6; attrs = [] }
      ∷ record { flags = 8; name = 15; desc = 6; attrs = [] }
      ∷ record { flags = 8; name = 16; desc = 17; attrs = [] }
      ∷ record { flags = 8; name = 22; desc = 17; attrs = [] }
      ∷ record { flags = 8; name = 27; desc = 17; attrs = [] }
      ∷ [];
  attrs = [];
}

-- ---- the flat code with its plan

abbrev Fresh : VType
Fresh = Uninit 0

abbrev P : VType
P = Object (codes "P")

abbrev at_start : List VType
at_start = Int ∷ Top ∷ Top ∷ Top ∷ Top ∷ []

abbrev passing_y : List VType
passing_y = Int ∷ Top ∷ Top ∷ Top ∷ Int ∷ []

abbrev passing_both : List VType
passing_both = Int ∷ Top ∷ Top ∷ Int ∷ Int ∷ []

abbrev in_constructor : List VType
in_constructor = Int ∷ Top ∷ Fresh ∷ Int ∷ Int ∷ []

abbrev behind_object_init : List VType
behind_object_init = Int ∷ Top ∷ P ∷ Int ∷ Int ∷ []

abbrev with_point : List VType
with_point = Int ∷ P ∷ Top ∷ Top ∷ Top ∷ []

-- the object, and where it is
abbrev held : List ℕ → Held
held places = record { site = 0; fields = Plain ∷ Plain ∷ []; depth = 0; places = places }

abbrev pub points : List CasePoint
points =
    planned (Of 1 (New 9)) at_start [] [] (next 1 ∷ [])
    ∷ planned (Of 1 (Shuffle DUP)) at_start (Fresh ∷ []) (held (5 ∷ []) ∷ []) (next 2 ∷ [])
    ∷ planned (Of 1 (Const (imms.Int (pos 1)))) at_start (Fresh ∷ Fresh ∷ []) (held (5 ∷ 6 ∷ []) ∷ []) (next 3 ∷ [])
    ∷ planned (Of 1 (Const (imms.Int (pos 2)))) at_start (Fresh ∷ Fresh ∷ Int ∷ []) (held (5 ∷ 6 ∷ []) ∷ []) (next 4 ∷ [])
    ∷ planned (Of 1 (Store kinds.Int 4)) at_start (Fresh ∷ Fresh ∷ Int ∷ Int ∷ []) (held (5 ∷ 6 ∷ []) ∷ []) (next 5 ∷ [])
    ∷ planned (Of 1 (Store kinds.Int 3)) passing_y (Fresh ∷ Fresh ∷ Int ∷ []) (held (5 ∷ 6 ∷ []) ∷ []) (next 6 ∷ [])
    ∷ planned (Of 1 (Store kinds.Ref 2)) passing_both (Fresh ∷ Fresh ∷ []) (held (5 ∷ 6 ∷ []) ∷ []) (next 7 ∷ [])
    ∷ planned (Of 0 (Load kinds.Ref 2)) in_constructor (Fresh ∷ []) (held (2 ∷ 5 ∷ []) ∷ []) (next 8 ∷ [])
    ∷ planned (Of 0 (Invoke INVOKESPECIAL 13 0)) in_constructor (Fresh ∷ Fresh ∷ []) (held (2 ∷ 5 ∷ 6 ∷ []) ∷ []) (next 9 ∷ [])
    ∷ planned (Of 0 (Load kinds.Ref 2)) behind_object_init (Fresh ∷ []) (held (2 ∷ 5 ∷ []) ∷ []) (next 10 ∷ [])
    ∷ planned (Of 0 (Load kinds.Int 3)) behind_object_init (Fresh ∷ P ∷ []) (held (2 ∷ 5 ∷ 6 ∷ []) ∷ []) (next 11 ∷ [])
    ∷ planned (Of 0 (PutField 15)) behind_object_init (Fresh ∷ P ∷ Int ∷ []) (held (2 ∷ 5 ∷ 6 ∷ []) ∷ []) (next 12 ∷ [])
    ∷ planned (Of 0 (Load kinds.Ref 2)) behind_object_init (Fresh ∷ []) (held (2 ∷ 5 ∷ []) ∷ []) (next 13 ∷ [])
    ∷ planned (Of 0 (Load kinds.Int 4)) behind_object_init (Fresh ∷ P ∷ []) (held (2 ∷ 5 ∷ 6 ∷ []) ∷ []) (next 14 ∷ [])
    ∷ planned (Of 0 (PutField 17)) behind_object_init (Fresh ∷ P ∷ Int ∷ []) (held (2 ∷ 5 ∷ 6 ∷ []) ∷ []) (next 15 ∷ [])
    ∷ planned (Of 0 (Goto 16)) behind_object_init (Fresh ∷ []) (held (2 ∷ 5 ∷ []) ∷ []) (jump 0 16 ∷ [])
    ∷ planned (Of 1 (Store kinds.Ref 1)) at_start (P ∷ []) (held (5 ∷ []) ∷ []) (next 17 ∷ [])
    ∷ planned (Of 1 (Load kinds.Int 0)) with_point [] (held (1 ∷ []) ∷ []) (next 18 ∷ [])
    ∷ planned (Of 1 (If IFNE 20)) with_point (Int ∷ []) (held (1 ∷ []) ∷ []) (next 19 ∷ jump 0 20 ∷ [])
    ∷ planned (Of 1 (Goto 21)) with_point [] (held (1 ∷ []) ∷ []) (jump 0 21 ∷ [])
    ∷ planned (Of 1 (Goto 20)) with_point [] (held (1 ∷ []) ∷ []) (jump 0 20 ∷ [])
    ∷ planned (Of 1 (Load kinds.Ref 1)) with_point [] (held (1 ∷ []) ∷ []) (next 22 ∷ [])
    ∷ planned (Of 1 (GetField 21)) with_point (P ∷ []) (held (1 ∷ 5 ∷ []) ∷ []) (next 23 ∷ [])
    ∷ planned (Of 1 (Return (Some kinds.Int))) with_point (Int ∷ []) (held (1 ∷ []) ∷ []) []
    ∷ []

abbrev pub this : Case
this = record {
  folder = p_file ∷ file ∷ [];
  class = 1;
  method = 4;
  locals = 5;
  sites = record { at = 0; class = codes "P"; fields = fields.Int ∷ fields.Int ∷ [] } ∷ [];
  points = points;
  constructor = λ class. codes "(II[Z)V";
  form = short;
}

-- ---- what is written

abbrev pub items : List IndexedItem
items =
    uncaught (Const (imms.Int (pos 0)))
    ∷ uncaught (Store kinds.Int 5)
    ∷ uncaught (Const (imms.Int (pos 0)))
    ∷ uncaught (Store kinds.Int 6)
    ∷ uncaught (Const (imms.Int (pos 1)))
    ∷ uncaught (Const (imms.Int (pos 2)))
    ∷ uncaught (Store kinds.Int 4)
    ∷ uncaught (Store kinds.Int 3)
    ∷ uncaught (Load kinds.Int 3)
    ∷ uncaught (Store kinds.Int 5)
    ∷ uncaught (Load kinds.Int 4)
    ∷ uncaught (Store kinds.Int 6)
    ∷ uncaught (Load kinds.Int 0)
    ∷ uncaught (If IFNE 15)
    ∷ uncaught (Goto 16)
    ∷ uncaught (Goto 15)
    ∷ uncaught (Load kinds.Int 5)
    ∷ uncaught (Return (Some kinds.Int))
    ∷ []

abbrev pub bytes : List ℕ
bytes =
    3 ∷ 54 ∷ 5 ∷ 3 ∷ 54 ∷ 6 ∷ 4 ∷ 5 ∷ 54 ∷ 4 ∷ 62 ∷ 29 ∷ 54 ∷ 5 ∷ 21 ∷ 4 ∷ 54 ∷ 6 ∷ 26
    ∷ 154 ∷ 0 ∷ 6 ∷ 167 ∷ 0 ∷ 6 ∷ 167 ∷ 0 ∷ 0 ∷ 21 ∷ 5 ∷ 172
    ∷ []

abbrev pub wanted : Wanted
wanted = record {
  items = items;
  pool = pool;
  places = [];
  units = 12;
}
