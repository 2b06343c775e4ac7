-- static int g(P p) { P q = new P(1, 1); return p.y() + q.x; }, with y() in place of its call: the receiver is tested for null.
use Rattle.std.specs.Prelude.{ℕ, List, [], ◌∷◌, codes, Some, pos, ◌++◌, None}
use Rattle.class_model.specs.Pool.{Constants}
use Rattle.class_model.specs.declared.class_file.ClassFile.{ClassFile}
use Rattle.class_model.specs.declared.descriptor.FieldType.TheVariants as fields
use Rattle.class_model.specs.declared.descriptor.Kind.TheVariants as kinds
use Rattle.class_model.specs.declared.frame.VType.{VType}
use Rattle.class_model.specs.declared.frame.VType.TheVariants.{Int, Object, Top, Uninit}
use Rattle.class_model.specs.declared.instr.Imm.TheVariants as imms
use Rattle.class_model.specs.declared.instr.Instr.TheVariants.{Const, GetField, Goto, IfNull, Invoke, Load, New, Pure, PutField, Return, Shuffle, Store, Throw}
use Rattle.class_model.specs.declared.opcodes.TheConstants.{DUP, IADD, IFNONNULL, INVOKESPECIAL}
use Rattle.class_model.specs.declared.pool.Const.TheVariants.{Class, Fieldref, Methodref, NameAndType, Utf8}
use Rattle.flow_code.specs.declared.point.FlatInstr.TheVariants.{Of, NullTest}
use Rattle.plan_flow.specs.Written.WrittenCode.{short, wide}
use Rattle.making_code.specs.IndexedItems.{IndexedItem}
use Rattle.virtual_state.specs.declared.slot.Slot.TheVariants.{Plain}
use Rattle.written_cases.specs.CaseWords.{Case, CasePoint, Held, Wanted, jump, near, next, planned, uncaught}
use Rattle.written_cases.specs.PointClass.{p_file}

-- ---- the class of the method

abbrev pub pool : Constants
pool =
    None
    ∷ Some (Utf8 (codes "T"))
    ∷ Some (Class 1)
    ∷ Some (Utf8 (codes "java/lang/Object"))
    ∷ Some (Class 3)
    ∷ Some (Utf8 (codes "<init>"))
    ∷ Some (Utf8 (codes "()V"))
    ∷ Some (Utf8 (codes "Code"))
    ∷ Some (NameAndType 5 6)
    ∷ Some (Methodref 4 8)
    ∷ Some (Utf8 (codes "g"))
    ∷ Some (Utf8 (codes "(LP;)I"))
    ∷ Some (Utf8 (codes "P"))
    ∷ Some (Class 12)
    ∷ Some (Utf8 (codes "(II)V"))
    ∷ Some (NameAndType 5 14)
    ∷ Some (Methodref 13 15)
    ∷ Some (Utf8 (codes "y"))
    ∷ Some (Utf8 (codes "()I"))
    ∷ Some (NameAndType 17 18)
    ∷ Some (Methodref 13 19)
    ∷ Some (Utf8 (codes "x"))
    ∷ Some (Utf8 (codes "I"))
    ∷ Some (NameAndType 21 22)
    ∷ Some (Fieldref 13 23)
    ∷ []

abbrev pub file : ClassFile
file = record {
  major = 52;
  minor = 0;
  pool = pool;
  flags = 33;
  this_class = 2;
  super_class = 4;
  interfaces = [];
  fields = [];
  methods = record { flags = 0; name = 5; desc = 6; attrs = [] }
      ∷ record { flags = 8; name = 10; desc = 11; attrs = [] }
      ∷ [];
  attrs = [];
}

-- ---- the flat code with its plan

abbrev P : VType
P = Object (codes "P")

abbrev Fresh : VType
Fresh = Uninit 0

abbrev at_start : List VType
at_start = P ∷ Top ∷ Top ∷ Top ∷ Top ∷ Top ∷ []

abbrev passing_y : List VType
passing_y = P ∷ Top ∷ Top ∷ Top ∷ Int ∷ Top ∷ []

abbrev passing_both : List VType
passing_both = P ∷ Top ∷ Top ∷ Int ∷ Int ∷ Top ∷ []

abbrev in_constructor : List VType
in_constructor = P ∷ Top ∷ Fresh ∷ Int ∷ Int ∷ Top ∷ []

abbrev behind_object_init : List VType
behind_object_init = P ∷ Top ∷ P ∷ Int ∷ Int ∷ Top ∷ []

abbrev with_point : List VType
with_point = P ∷ P ∷ Top ∷ Top ∷ Top ∷ Top ∷ []

abbrev in_y : List VType
in_y = P ∷ P ∷ Top ∷ Top ∷ Top ∷ P ∷ []

-- the object, and where it is
abbrev held : List ℕ → Held
held places = record { site = 0; fields = Plain ∷ Plain ∷ []; depth = 0; places = places }

abbrev pub points : List CasePoint
points =
    planned (Of 1 (New 13)) at_start [] [] (next 1 ∷ [])
    ∷ planned (Of 1 (Shuffle DUP)) at_start (Fresh ∷ []) (held (6 ∷ []) ∷ []) (next 2 ∷ [])
    ∷ planned (Of 1 (Const (imms.Int (pos 1)))) at_start (Fresh ∷ Fresh ∷ []) (held (6 ∷ 7 ∷ []) ∷ []) (next 3 ∷ [])
    ∷ planned (Of 1 (Const (imms.Int (pos 1)))) at_start (Fresh ∷ Fresh ∷ Int ∷ []) (held (6 ∷ 7 ∷ []) ∷ []) (next 4 ∷ [])
    ∷ planned (Of 1 (Store kinds.Int 4)) at_start (Fresh ∷ Fresh ∷ Int ∷ Int ∷ []) (held (6 ∷ 7 ∷ []) ∷ []) (next 5 ∷ [])
    ∷ planned (Of 1 (Store kinds.Int 3)) passing_y (Fresh ∷ Fresh ∷ Int ∷ []) (held (6 ∷ 7 ∷ []) ∷ []) (next 6 ∷ [])
    ∷ planned (Of 1 (Store kinds.Ref 2)) passing_both (Fresh ∷ Fresh ∷ []) (held (6 ∷ 7 ∷ []) ∷ []) (next 7 ∷ [])
    ∷ planned (Of 0 (Load kinds.Ref 2)) in_constructor (Fresh ∷ []) (held (2 ∷ 6 ∷ []) ∷ []) (next 8 ∷ [])
    ∷ planned (Of 0 (Invoke INVOKESPECIAL 13 0)) in_constructor (Fresh ∷ Fresh ∷ []) (held (2 ∷ 6 ∷ 7 ∷ []) ∷ []) (next 9 ∷ [])
    ∷ planned (Of 0 (Load kinds.Ref 2)) behind_object_init (Fresh ∷ []) (held (2 ∷ 6 ∷ []) ∷ []) (next 10 ∷ [])
    ∷ planned (Of 0 (Load kinds.Int 3)) behind_object_init (Fresh ∷ P ∷ []) (held (2 ∷ 6 ∷ 7 ∷ []) ∷ []) (next 11 ∷ [])
    ∷ planned (Of 0 (PutField 15)) behind_object_init (Fresh ∷ P ∷ Int ∷ []) (held (2 ∷ 6 ∷ 7 ∷ []) ∷ []) (next 12 ∷ [])
    ∷ planned (Of 0 (Load kinds.Ref 2)) behind_object_init (Fresh ∷ []) (held (2 ∷ 6 ∷ []) ∷ []) (next 13 ∷ [])
    ∷ planned (Of 0 (Load kinds.Int 4)) behind_object_init (Fresh ∷ P ∷ []) (held (2 ∷ 6 ∷ 7 ∷ []) ∷ []) (next 14 ∷ [])
    ∷ planned (Of 0 (PutField 17)) behind_object_init (Fresh ∷ P ∷ Int ∷ []) (held (2 ∷ 6 ∷ 7 ∷ []) ∷ []) (next 15 ∷ [])
    ∷ planned (Of 0 (Goto 16)) behind_object_init (Fresh ∷ []) (held (2 ∷ 6 ∷ []) ∷ []) (jump 0 16 ∷ [])
    ∷ planned (Of 1 (Store kinds.Ref 1)) at_start (P ∷ []) (held (6 ∷ []) ∷ []) (next 17 ∷ [])
    ∷ planned (Of 1 (Load kinds.Ref 0)) with_point [] (held (1 ∷ []) ∷ []) (next 18 ∷ [])
    ∷ planned (Of 1 (Store kinds.Ref 5)) with_point (P ∷ []) (held (1 ∷ []) ∷ []) (next 19 ∷ [])
    ∷ planned (NullTest 5) in_y [] (held (1 ∷ []) ∷ []) (next 20 ∷ [])
    ∷ planned (Of 0 (Load kinds.Ref 5)) in_y [] (held (1 ∷ []) ∷ []) (next 21 ∷ [])
    ∷ planned (Of 0 (GetField 17)) in_y (P ∷ []) (held (1 ∷ []) ∷ []) (next 22 ∷ [])
    ∷ planned (Of 0 (Goto 23)) in_y (Int ∷ []) (held (1 ∷ []) ∷ []) (jump 0 23 ∷ [])
    ∷ planned (Of 1 (Load kinds.Ref 1)) with_point (Int ∷ []) (held (1 ∷ []) ∷ []) (next 24 ∷ [])
    ∷ planned (Of 1 (GetField 24)) with_point (Int ∷ P ∷ []) (held (1 ∷ 7 ∷ []) ∷ []) (next 25 ∷ [])
    ∷ planned (Of 1 (Pure IADD)) with_point (Int ∷ Int ∷ []) (held (1 ∷ []) ∷ []) (next 26 ∷ [])
    ∷ planned (Of 1 (Return (Some kinds.Int))) with_point (Int ∷ []) (held (1 ∷ []) ∷ []) []
    ∷ []

abbrev pub this : Case
this = record {
  folder = p_file ∷ file ∷ [];
  class = 1;
  method = 1;
  locals = 6;
  sites = record { at = 0; class = codes "P"; fields = fields.Int ∷ fields.Int ∷ [] } ∷ [];
  points = points;
  constructor = λ class. codes "(II[Z)V";
  form = short;
}

-- ---- what is written

abbrev pub items : List IndexedItem
items =
    uncaught (Const (imms.Int (pos 0)))
    ∷ uncaught (Store kinds.Int 6)
    ∷ uncaught (Const (imms.Int (pos 0)))
    ∷ uncaught (Store kinds.Int 7)
    ∷ uncaught (Const (imms.Int (pos 1)))
    ∷ uncaught (Const (imms.Int (pos 1)))
    ∷ uncaught (Store kinds.Int 4)
    ∷ uncaught (Store kinds.Int 3)
    ∷ uncaught (Load kinds.Int 3)
    ∷ uncaught (Store kinds.Int 6)
    ∷ uncaught (Load kinds.Int 4)
    ∷ uncaught (Store kinds.Int 7)
    ∷ uncaught (Load kinds.Ref 0)
    ∷ uncaught (Store kinds.Ref 5)
    ∷ uncaught (Load kinds.Ref 5)
    ∷ near (IfNull IFNONNULL 18)
    ∷ uncaught (Const imms.Null)
    ∷ uncaught Throw
    ∷ uncaught (Load kinds.Ref 5)
    ∷ uncaught (GetField 26)
    ∷ uncaught (Load kinds.Int 6)
    ∷ uncaught (Pure IADD)
    ∷ uncaught (Return (Some kinds.Int))
    ∷ []

abbrev pub bytes : List ℕ
bytes =
    3 ∷ 54 ∷ 6 ∷ 3 ∷ 54 ∷ 7 ∷ 4 ∷ 4 ∷ 54 ∷ 4 ∷ 62 ∷ 29 ∷ 54 ∷ 6 ∷ 21 ∷ 4 ∷ 54 ∷ 7 ∷ 42
    ∷ 58 ∷ 5 ∷ 25 ∷ 5 ∷ 199 ∷ 0 ∷ 5 ∷ 1 ∷ 191 ∷ 25 ∷ 5 ∷ 180 ∷ 0 ∷ 26 ∷ 21 ∷ 6 ∷ 96 ∷ 172
    ∷ []

abbrev pub wanted : Wanted
wanted = record {
  items = items;
  pool = pool ++ (
      Some (NameAndType 17 22)
      ∷ Some (Fieldref 13 25)
      ∷ []);
  places = [];
  units = 13;
}

-- ---- the wide form

abbrev pub this_wide : Case
this_wide = record this { form = wide }
