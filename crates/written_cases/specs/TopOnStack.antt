-- An object that comes to lie on the stack where its type is Top: no instruction takes it away, so it is made on the edge behind its new. Another one
-- stays virtual.
use Rattle.std.specs.Prelude.{ℕ, List, [], ◌∷◌, ◌++◌, codes, Some, pos, None}
use Rattle.class_model.specs.Pool.{Constants}
use Rattle.class_model.specs.declared.class_file.ClassFile.{ClassFile}
use Rattle.class_model.specs.declared.descriptor.FieldType.{FieldType}
use Rattle.class_model.specs.declared.descriptor.FieldType.TheVariants as fields
use Rattle.class_model.specs.declared.descriptor.Kind.TheVariants as kinds
use Rattle.class_model.specs.declared.frame.VType.{VType}
use Rattle.class_model.specs.declared.frame.VType.TheVariants.{Int, Object, Top, Uninit}
use Rattle.class_model.specs.declared.instr.Imm.TheVariants as imms
use Rattle.class_model.specs.declared.instr.Instr.TheVariants.{Const, GetField, Goto, Invoke, Load, New, PutField, Return, Shuffle, Store}
use Rattle.class_model.specs.declared.opcodes.TheConstants.{DUP, INVOKESPECIAL}
use Rattle.class_model.specs.declared.pool.Const.TheVariants.{Class, Fieldref, Methodref, NameAndType, Utf8}
use Rattle.flow_code.specs.declared.point.FlatInstr.TheVariants.{Of}
use Rattle.making_code.specs.IndexedItems.{IndexedItem}
use Rattle.plan_flow.specs.Written.Places.{makes_object}
use Rattle.plan_flow.specs.Written.WrittenCode.{short}
use Rattle.virtual_state.specs.declared.slot.Slot.TheVariants.{Plain}
use Rattle.written_cases.specs.CaseWords.{Case, CasePoint, Held, Wanted, jump, making, next, planned, uncaught}
use Rattle.written_cases.specs.PointClass.{p_file}

-- ---- the class of the method

abbrev pub pool : Constants
pool =
    None
    ∷ Some (Utf8 (codes "T"))
    ∷ Some (Class 1)
    ∷ Some (Utf8 (codes "java/lang/Object"))
    ∷ Some (Class 3)
    ∷ Some (Utf8 (codes "a"))
    ∷ Some (Utf8 (codes "(I)I"))
    ∷ Some (Utf8 (codes "Code"))
    ∷ Some (Utf8 (codes "P"))
    ∷ Some (Class 8)
    ∷ Some (Utf8 (codes "<init>"))
    ∷ Some (Utf8 (codes "(II)V"))
    ∷ Some (NameAndType 10 11)
    ∷ Some (Methodref 9 12)
    ∷ Some (Utf8 (codes "x"))
    ∷ Some (Utf8 (codes "I"))
    ∷ Some (NameAndType 14 15)
    ∷ Some (Fieldref 9 16)
    ∷ []

abbrev pub file : ClassFile
file = record {
  major = 52;
  minor = 0;
  pool = pool;
  flags = 32;
  this_class = 2;
  super_class = 4;
  interfaces = [];
  fields = [];
  methods = record { flags = 8; name = 5; desc = 6; attrs = [] } ∷ [];
  attrs = [];
}

-- ---- the flat code with its plan

abbrev Fresh : VType
Fresh = Uninit 0

abbrev P : VType
P = Object (codes "P")

abbrev at_start : List VType
at_start = Int ∷ Top ∷ Top ∷ Top ∷ Top ∷ Top ∷ []

abbrev passing_y : List VType
passing_y = Int ∷ Top ∷ Top ∷ Top ∷ Top ∷ Int ∷ []

abbrev passing_both : List VType
passing_both = Int ∷ Top ∷ Top ∷ Top ∷ Int ∷ Int ∷ []

abbrev in_constructor : List VType
in_constructor = Int ∷ Top ∷ Top ∷ Fresh ∷ Int ∷ Int ∷ []

abbrev behind_object_init : List VType
behind_object_init = Int ∷ Top ∷ Top ∷ P ∷ Int ∷ Int ∷ []

abbrev with_point : List VType
with_point = Int ∷ P ∷ Top ∷ Top ∷ Top ∷ Top ∷ []

-- the object of a site, and where it is
abbrev object_of : ℕ → List ℕ → Held
object_of site places = record { site = site; fields = Plain ∷ Plain ∷ []; depth = 0; places = places }

abbrev held : List ℕ → Held
held places = object_of 0 places

abbrev pub points : List CasePoint
points =
    planned (Of 1 (New 9)) at_start [] [] (next 1 ∷ [])
    ∷ planned (Of 1 (Shuffle DUP)) at_start (Fresh ∷ []) (held (6 ∷ []) ∷ []) (next 2 ∷ [])
    ∷ planned (Of 1 (Const (imms.Int (pos 1)))) at_start (Fresh ∷ Fresh ∷ []) (held (6 ∷ 7 ∷ []) ∷ []) (next 3 ∷ [])
    ∷ planned (Of 1 (Const (imms.Int (pos 2)))) at_start (Fresh ∷ Fresh ∷ Int ∷ []) (held (6 ∷ 7 ∷ []) ∷ []) (next 4 ∷ [])
    ∷ planned (Of 1 (Store kinds.Int 5)) at_start (Fresh ∷ Fresh ∷ Int ∷ Int ∷ []) (held (6 ∷ 7 ∷ []) ∷ []) (next 5 ∷ [])
    ∷ planned (Of 1 (Store kinds.Int 4)) passing_y (Fresh ∷ Fresh ∷ Int ∷ []) (held (6 ∷ 7 ∷ []) ∷ []) (next 6 ∷ [])
    ∷ planned (Of 1 (Store kinds.Ref 3)) passing_both (Fresh ∷ Fresh ∷ []) (held (6 ∷ 7 ∷ []) ∷ []) (next 7 ∷ [])
    ∷ planned (Of 0 (Load kinds.Ref 3)) in_constructor (Fresh ∷ []) (held (3 ∷ 6 ∷ []) ∷ []) (next 8 ∷ [])
    ∷ planned (Of 0 (Invoke INVOKESPECIAL 13 0)) in_constructor (Fresh ∷ Fresh ∷ []) (held (3 ∷ 6 ∷ 7 ∷ []) ∷ []) (next 9 ∷ [])
    ∷ planned (Of 0 (Load kinds.Ref 3)) behind_object_init (Fresh ∷ []) (held (3 ∷ 6 ∷ []) ∷ []) (next 10 ∷ [])
    ∷ planned (Of 0 (Load kinds.Int 4)) behind_object_init (Fresh ∷ P ∷ []) (held (3 ∷ 6 ∷ 7 ∷ []) ∷ []) (next 11 ∷ [])
    ∷ planned (Of 0 (PutField 15)) behind_object_init (Fresh ∷ P ∷ Int ∷ []) (held (3 ∷ 6 ∷ 7 ∷ []) ∷ []) (next 12 ∷ [])
    ∷ planned (Of 0 (Load kinds.Ref 3)) behind_object_init (Fresh ∷ []) (held (3 ∷ 6 ∷ []) ∷ []) (next 13 ∷ [])
    ∷ planned (Of 0 (Load kinds.Int 5)) behind_object_init (Fresh ∷ P ∷ []) (held (3 ∷ 6 ∷ 7 ∷ []) ∷ []) (next 14 ∷ [])
    ∷ planned (Of 0 (PutField 17)) behind_object_init (Fresh ∷ P ∷ Int ∷ []) (held (3 ∷ 6 ∷ 7 ∷ []) ∷ []) (next 15 ∷ [])
    ∷ planned (Of 0 (Goto 16)) behind_object_init (Fresh ∷ []) (held (3 ∷ 6 ∷ []) ∷ []) (jump 0 16 ∷ [])
    ∷ planned (Of 1 (Store kinds.Ref 1)) at_start (P ∷ []) (held (6 ∷ []) ∷ []) (next 17 ∷ [])
    ∷ planned (Of 1 (New 9)) with_point [] (held (1 ∷ []) ∷ []) (making (1 ∷ []) (held (1 ∷ []) ∷ object_of 1 (6 ∷ []) ∷ []) (next 18) ∷ [])
    ∷ planned (Of 1 (Load kinds.Ref 1)) with_point (Top ∷ []) (held (1 ∷ []) ∷ []) (next 19 ∷ [])
    ∷ planned (Of 1 (GetField 17)) with_point (Top ∷ P ∷ []) (held (1 ∷ 7 ∷ []) ∷ []) (next 20 ∷ [])
    ∷ planned (Of 1 (Return (Some kinds.Int))) with_point (Top ∷ Int ∷ []) (held (1 ∷ []) ∷ []) []
    ∷ []

abbrev fields_of_point : List FieldType
fields_of_point = fields.Int ∷ fields.Int ∷ []

abbrev pub this : Case
this = record {
  folder = p_file ∷ file ∷ [];
  class = 1;
  method = 0;
  locals = 6;
  sites = record { at = 0; class = codes "P"; fields = fields_of_point }
      ∷ record { at = 17; class = codes "P"; fields = fields_of_point }
      ∷ [];
  points = points;
  constructor = λ class. codes "(II[Z)V";
  form = short;
}

-- ---- what is written

abbrev pub items : List IndexedItem
items =
    uncaught (Const (imms.Int (pos 0)))
    ∷ uncaught (Store kinds.Int 6)
    ∷ uncaught (Const (imms.Int (pos 0)))
    ∷ uncaught (Store kinds.Int 7)
    ∷ uncaught (Const (imms.Int (pos 1)))
    ∷ uncaught (Const (imms.Int (pos 2)))
    ∷ uncaught (Store kinds.Int 5)
    ∷ uncaught (Store kinds.Int 4)
    ∷ uncaught (Load kinds.Int 4)
    ∷ uncaught (Store kinds.Int 6)
    ∷ uncaught (Load kinds.Int 5)
    ∷ uncaught (Store kinds.Int 7)
    ∷ uncaught (Const (imms.Int (pos 0)))
    ∷ uncaught (Store kinds.Int 8)
    ∷ uncaught (Const (imms.Int (pos 0)))
    ∷ uncaught (Store kinds.Int 9)
    ∷ uncaught (New 9)
    ∷ uncaught (Shuffle DUP)
    ∷ uncaught (Load kinds.Int 8)
    ∷ uncaught (Load kinds.Int 9)
    ∷ uncaught (Const imms.Null)
    ∷ uncaught (Invoke INVOKESPECIAL 20 0)
    ∷ uncaught (Store kinds.Ref 11)
    ∷ uncaught (Load kinds.Ref 11)
    ∷ uncaught (Load kinds.Int 6)
    ∷ uncaught (Return (Some kinds.Int))
    ∷ []

abbrev pub bytes : List ℕ
bytes =
    3 ∷ 54 ∷ 6 ∷ 3 ∷ 54 ∷ 7 ∷ 4 ∷ 5 ∷ 54 ∷ 5 ∷ 54 ∷ 4 ∷ 21 ∷ 4 ∷ 54 ∷ 6 ∷ 21 ∷ 5
    ∷ 54 ∷ 7 ∷ 3 ∷ 54 ∷ 8 ∷ 3 ∷ 54 ∷ 9 ∷ 187 ∷ 0 ∷ 9 ∷ 89 ∷ 21 ∷ 8 ∷ 21 ∷ 9 ∷ 1
    ∷ 183 ∷ 0 ∷ 20 ∷ 58 ∷ 11 ∷ 25 ∷ 11 ∷ 21 ∷ 6 ∷ 172
    ∷ []

abbrev grown : Constants
grown =
    pool
    ++ (Some (Utf8 (codes "(II[Z)V"))
    ∷ Some (NameAndType 10 18)
    ∷ Some (Methodref 9 19)
    ∷ [])

abbrev pub wanted : Wanted
wanted = record {
  items = items;
  pool = grown;
  places = makes_object (codes "P") ∷ [];
  units = 16;
}
