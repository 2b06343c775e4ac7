-- By b = new By(); b.b = 300; return b.b; without a cast, where b is a byte: the value is narrowed where it is stored.
use Rattle.std.specs.Prelude.{ℕ, List, [], ◌∷◌, codes, Some, pos, None}
use Rattle.class_model.specs.Pool.{Constants}
use Rattle.class_model.specs.declared.class_file.ClassFile.{ClassFile}
use Rattle.class_model.specs.declared.descriptor.FieldType.TheVariants as fields
use Rattle.class_model.specs.declared.descriptor.Kind.TheVariants as kinds
use Rattle.class_model.specs.declared.frame.VType.{VType}
use Rattle.class_model.specs.declared.frame.VType.TheVariants.{Int, Object, Top, Uninit}
use Rattle.class_model.specs.declared.instr.Imm.TheVariants as imms
use Rattle.class_model.specs.declared.instr.Instr.TheVariants.{Const, GetField, Goto, Invoke, Load, New, Pure, PutField, Return, Shuffle, Store}
use Rattle.class_model.specs.declared.opcodes.TheConstants.{DUP, I2B, INVOKESPECIAL}
use Rattle.class_model.specs.declared.pool.Const.TheVariants.{Class, Fieldref, Methodref, NameAndType, Utf8}
use Rattle.flow_code.specs.declared.point.FlatInstr.TheVariants.{Of}
use Rattle.plan_flow.specs.Written.WrittenCode.{short}
use Rattle.making_code.specs.IndexedItems.{IndexedItem}
use Rattle.virtual_state.specs.declared.slot.Slot.TheVariants.{Plain}
use Rattle.written_cases.specs.CaseWords.{Case, CasePoint, Held, Wanted, jump, next, planned, uncaught}
use Rattle.written_cases.specs.ByteClass.{by_file}

-- ---- the class of the method

abbrev pub pool : Constants
pool =
    None
    ∷ Some (Utf8 (codes "T"))
    ∷ Some (Class 1)
    ∷ Some (Utf8 (codes "java/lang/Object"))
    ∷ Some (Class 3)
    ∷ Some (Utf8 (codes "<init>"))
    ∷ Some (Utf8 (codes "()V"))
    ∷ Some (Utf8 (codes "Code"))
    ∷ Some (NameAndType 5 6)
    ∷ Some (Methodref 4 8)
    ∷ Some (Utf8 (codes "q"))
    ∷ Some (Utf8 (codes "()I"))
    ∷ Some (Utf8 (codes "By"))
    ∷ Some (Class 12)
    ∷ Some (Methodref 13 8)
    ∷ Some (Utf8 (codes "b"))
    ∷ Some (Utf8 (codes "B"))
    ∷ Some (NameAndType 15 16)
    ∷ Some (Fieldref 13 17)
    ∷ []

abbrev pub file : ClassFile
file = record {
  major = 52;
  minor = 0;
  pool = pool;
  flags = 33;
  this_class = 2;
  super_class = 4;
  interfaces = [];
  fields = [];
  methods = record { flags = 0; name = 5; desc = 6; attrs = [] }
      ∷ record { flags = 8; name = 10; desc = 11; attrs = [] }
      ∷ [];
  attrs = [];
}

-- ---- the flat code with its plan

abbrev Fresh : VType
Fresh = Uninit 0

abbrev By : VType
By = Object (codes "By")

abbrev at_start : List VType
at_start = Top ∷ Top ∷ []

abbrev in_constructor : List VType
in_constructor = Top ∷ Fresh ∷ []

abbrev behind_object_init : List VType
behind_object_init = Top ∷ By ∷ []

abbrev with_object : List VType
with_object = By ∷ Top ∷ []

-- the object, and where it is
abbrev held : List ℕ → Held
held places = record { site = 0; fields = Plain ∷ []; depth = 0; places = places }

abbrev pub points : List CasePoint
points =
    planned (Of 1 (New 13)) at_start [] [] (next 1 ∷ [])
    ∷ planned (Of 1 (Shuffle DUP)) at_start (Fresh ∷ []) (held (2 ∷ []) ∷ []) (next 2 ∷ [])
    ∷ planned (Of 1 (Store kinds.Ref 1)) at_start (Fresh ∷ Fresh ∷ []) (held (2 ∷ 3 ∷ []) ∷ []) (next 3 ∷ [])
    ∷ planned (Of 0 (Load kinds.Ref 1)) in_constructor (Fresh ∷ []) (held (1 ∷ 2 ∷ []) ∷ []) (next 4 ∷ [])
    ∷ planned (Of 0 (Invoke INVOKESPECIAL 11 0)) in_constructor (Fresh ∷ Fresh ∷ []) (held (1 ∷ 2 ∷ 3 ∷ []) ∷ []) (next 5 ∷ [])
    ∷ planned (Of 0 (Goto 6)) behind_object_init (Fresh ∷ []) (held (1 ∷ 2 ∷ []) ∷ []) (jump 0 6 ∷ [])
    ∷ planned (Of 1 (Store kinds.Ref 0)) at_start (By ∷ []) (held (2 ∷ []) ∷ []) (next 7 ∷ [])
    ∷ planned (Of 1 (Load kinds.Ref 0)) with_object [] (held (0 ∷ []) ∷ []) (next 8 ∷ [])
    ∷ planned (Of 1 (Const (imms.Int (pos 300)))) with_object (By ∷ []) (held (0 ∷ 2 ∷ []) ∷ []) (next 9 ∷ [])
    ∷ planned (Of 1 (PutField 18)) with_object (By ∷ Int ∷ []) (held (0 ∷ 2 ∷ []) ∷ []) (next 10 ∷ [])
    ∷ planned (Of 1 (Load kinds.Ref 0)) with_object [] (held (0 ∷ []) ∷ []) (next 11 ∷ [])
    ∷ planned (Of 1 (GetField 18)) with_object (By ∷ []) (held (0 ∷ 2 ∷ []) ∷ []) (next 12 ∷ [])
    ∷ planned (Of 1 (Return (Some kinds.Int))) with_object (Int ∷ []) (held (0 ∷ []) ∷ []) []
    ∷ []

abbrev pub this : Case
this = record {
  folder = by_file ∷ file ∷ [];
  class = 1;
  method = 1;
  locals = 2;
  sites = record { at = 0; class = codes "By"; fields = fields.Byte ∷ [] } ∷ [];
  points = points;
  constructor = λ class. codes "(B[Z)V";
  form = short;
}

-- ---- what is written

abbrev pub items : List IndexedItem
items =
    uncaught (Const (imms.Int (pos 0)))
    ∷ uncaught (Store kinds.Int 2)
    ∷ uncaught (Const (imms.Int (pos 300)))
    ∷ uncaught (Pure I2B)
    ∷ uncaught (Store kinds.Int 2)
    ∷ uncaught (Load kinds.Int 2)
    ∷ uncaught (Return (Some kinds.Int))
    ∷ []

abbrev pub bytes : List ℕ
bytes =
    3 ∷ 61 ∷ 17 ∷ 1 ∷ 44 ∷ 145 ∷ 61 ∷ 28 ∷ 172
    ∷ []

abbrev pub wanted : Wanted
wanted = record {
  items = items;
  pool = pool;
  places = [];
  units = 6;
}
