-- static int t(int d) { P p = new P(d, 1); if (d == 7) return 7; try { int q = 10 / d; L.use(p); return q; } catch (ArithmeticException e) {
-- return p.x; } }: a pad makes the object for the handler.
use Rattle.std.specs.Prelude.{ℕ, List, [], ◌∷◌, codes, Some, pos, ◌++◌, None}
use Rattle.class_model.specs.Pool.{Constants}
use Rattle.class_model.specs.declared.class_file.ClassFile.{ClassFile}
use Rattle.class_model.specs.declared.descriptor.FieldType.TheVariants as fields
use Rattle.class_model.specs.declared.descriptor.Kind.TheVariants as kinds
use Rattle.class_model.specs.declared.frame.VType.{VType}
use Rattle.class_model.specs.declared.frame.VType.TheVariants.{Int, Object, Top, Uninit}
use Rattle.class_model.specs.declared.instr.Imm.TheVariants as imms
use Rattle.class_model.specs.declared.instr.Instr.TheVariants.{Const, Divide, GetField, Goto, If2, Invoke, Load, New, PutField, Return, Shuffle, Store}
use Rattle.class_model.specs.declared.opcodes.TheConstants.{DUP, IDIV, IF_ICMPNE, INVOKESPECIAL, INVOKESTATIC}
use Rattle.class_model.specs.declared.pool.Const.TheVariants.{Class, Fieldref, Methodref, NameAndType, Utf8}
use Rattle.flow_code.specs.declared.handlers.FlatHandler.{FlatHandler}
use Rattle.flow_code.specs.declared.point.FlatInstr.TheVariants.{Of}
use Rattle.plan_flow.specs.Written.Places.{makes_object}
use Rattle.plan_flow.specs.Written.WrittenCode.{short}
use Rattle.making_code.specs.IndexedItems.{IndexedItem}
use Rattle.virtual_state.specs.declared.slot.Slot.TheVariants.{Plain}
use Rattle.written_cases.specs.CaseWords.{Case, CasePoint, Held, Wanted, caught, handler, jump, made_before, making, next, planned, uncaught, within}
use Rattle.written_cases.specs.PointClass.{p_file}

-- ---- the class of the method

abbrev pub pool : Constants
pool =
    None
    ∷ Some (Utf8 (codes "T"))
    ∷ Some (Class 1)
    ∷ Some (Utf8 (codes "java/lang/Object"))
    ∷ Some (Class 3)
    ∷ Some (Utf8 (codes "<init>"))
    ∷ Some (Utf8 (codes "()V"))
    ∷ Some (Utf8 (codes "Code"))
    ∷ Some (NameAndType 5 6)
    ∷ Some (Methodref 4 8)
    ∷ Some (Utf8 (codes "t"))
    ∷ Some (Utf8 (codes "(I)I"))
    ∷ Some (Utf8 (codes "P"))
    ∷ Some (Class 12)
    ∷ Some (Utf8 (codes "(II)V"))
    ∷ Some (NameAndType 5 14)
    ∷ Some (Methodref 13 15)
    ∷ Some (Utf8 (codes "L"))
    ∷ Some (Class 17)
    ∷ Some (Utf8 (codes "use"))
    ∷ Some (Utf8 (codes "(Ljava/lang/Object;)V"))
    ∷ Some (NameAndType 19 20)
    ∷ Some (Methodref 18 21)
    ∷ Some (Utf8 (codes "x"))
    ∷ Some (Utf8 (codes "I"))
    ∷ Some (NameAndType 23 24)
    ∷ Some (Fieldref 13 25)
    ∷ Some (Utf8 (codes "java/lang/ArithmeticException"))
    ∷ Some (Class 27)
    ∷ Some (Utf8 (codes "StackMapTable"))
    ∷ []

abbrev pub file : ClassFile
file = record {
  major = 52;
  minor = 0;
  pool = pool;
  flags = 33;
  this_class = 2;
  super_class = 4;
  interfaces = [];
  fields = [];
  methods = record { flags = 0; name = 5; desc = 6; attrs = [] }
      ∷ record { flags = 8; name = 10; desc = 11; attrs = [] }
      ∷ [];
  attrs = [];
}

-- ---- the flat code with its plan

abbrev Fresh : VType
Fresh = Uninit 0

abbrev P : VType
P = Object (codes "P")

abbrev Arithmetic : VType
Arithmetic = Object (codes "java/lang/ArithmeticException")

abbrev at_start : List VType
at_start = Int ∷ Top ∷ Top ∷ Top ∷ Top ∷ Top ∷ Top ∷ []

abbrev passing_y : List VType
passing_y = Int ∷ Top ∷ Top ∷ Top ∷ Top ∷ Top ∷ Int ∷ []

abbrev passing_both : List VType
passing_both = Int ∷ Top ∷ Top ∷ Top ∷ Top ∷ Int ∷ Int ∷ []

abbrev in_constructor : List VType
in_constructor = Int ∷ Top ∷ Top ∷ Top ∷ Fresh ∷ Int ∷ Int ∷ []

abbrev behind_object_init : List VType
behind_object_init = Int ∷ Top ∷ Top ∷ Top ∷ P ∷ Int ∷ Int ∷ []

abbrev with_point : List VType
with_point = Int ∷ P ∷ Top ∷ Top ∷ Top ∷ Top ∷ Top ∷ []

abbrev with_quotient : List VType
with_quotient = Int ∷ P ∷ Int ∷ Top ∷ Top ∷ Top ∷ Top ∷ []

abbrev with_thrown : List VType
with_thrown = Int ∷ P ∷ Top ∷ Arithmetic ∷ Top ∷ Top ∷ Top ∷ []

abbrev handlers : List FlatHandler
handlers = record { to = 30; catch_class = Some (codes "java/lang/ArithmeticException") } ∷ []

-- the object, and where it is
abbrev held : List ℕ → Held
held places = record { site = 0; fields = Plain ∷ Plain ∷ []; depth = 0; places = places }

abbrev pub points : List CasePoint
points =
    planned (Of 1 (New 13)) at_start [] [] (next 1 ∷ [])
    ∷ planned (Of 1 (Shuffle DUP)) at_start (Fresh ∷ []) (held (7 ∷ []) ∷ []) (next 2 ∷ [])
    ∷ planned (Of 1 (Load kinds.Int 0)) at_start (Fresh ∷ Fresh ∷ []) (held (7 ∷ 8 ∷ []) ∷ []) (next 3 ∷ [])
    ∷ planned (Of 1 (Const (imms.Int (pos 1)))) at_start (Fresh ∷ Fresh ∷ Int ∷ []) (held (7 ∷ 8 ∷ []) ∷ []) (next 4 ∷ [])
    ∷ planned (Of 1 (Store kinds.Int 6)) at_start (Fresh ∷ Fresh ∷ Int ∷ Int ∷ []) (held (7 ∷ 8 ∷ []) ∷ []) (next 5 ∷ [])
    ∷ planned (Of 1 (Store kinds.Int 5)) passing_y (Fresh ∷ Fresh ∷ Int ∷ []) (held (7 ∷ 8 ∷ []) ∷ []) (next 6 ∷ [])
    ∷ planned (Of 1 (Store kinds.Ref 4)) passing_both (Fresh ∷ Fresh ∷ []) (held (7 ∷ 8 ∷ []) ∷ []) (next 7 ∷ [])
    ∷ planned (Of 0 (Load kinds.Ref 4)) in_constructor (Fresh ∷ []) (held (4 ∷ 7 ∷ []) ∷ []) (next 8 ∷ [])
    ∷ planned (Of 0 (Invoke INVOKESPECIAL 13 0)) in_constructor (Fresh ∷ Fresh ∷ []) (held (4 ∷ 7 ∷ 8 ∷ []) ∷ []) (next 9 ∷ [])
    ∷ planned (Of 0 (Load kinds.Ref 4)) behind_object_init (Fresh ∷ []) (held (4 ∷ 7 ∷ []) ∷ []) (next 10 ∷ [])
    ∷ planned (Of 0 (Load kinds.Int 5)) behind_object_init (Fresh ∷ P ∷ []) (held (4 ∷ 7 ∷ 8 ∷ []) ∷ []) (next 11 ∷ [])
    ∷ planned (Of 0 (PutField 15)) behind_object_init (Fresh ∷ P ∷ Int ∷ []) (held (4 ∷ 7 ∷ 8 ∷ []) ∷ []) (next 12 ∷ [])
    ∷ planned (Of 0 (Load kinds.Ref 4)) behind_object_init (Fresh ∷ []) (held (4 ∷ 7 ∷ []) ∷ []) (next 13 ∷ [])
    ∷ planned (Of 0 (Load kinds.Int 6)) behind_object_init (Fresh ∷ P ∷ []) (held (4 ∷ 7 ∷ 8 ∷ []) ∷ []) (next 14 ∷ [])
    ∷ planned (Of 0 (PutField 17)) behind_object_init (Fresh ∷ P ∷ Int ∷ []) (held (4 ∷ 7 ∷ 8 ∷ []) ∷ []) (next 15 ∷ [])
    ∷ planned (Of 0 (Goto 16)) behind_object_init (Fresh ∷ []) (held (4 ∷ 7 ∷ []) ∷ []) (jump 0 16 ∷ [])
    ∷ planned (Of 1 (Store kinds.Ref 1)) at_start (P ∷ []) (held (7 ∷ []) ∷ []) (next 17 ∷ [])
    ∷ planned (Of 1 (Load kinds.Int 0)) with_point [] (held (1 ∷ []) ∷ []) (next 18 ∷ [])
    ∷ planned (Of 1 (Const (imms.Int (pos 7)))) with_point (Int ∷ []) (held (1 ∷ []) ∷ []) (next 19 ∷ [])
    ∷ planned (Of 1 (If2 IF_ICMPNE 22)) with_point (Int ∷ Int ∷ []) (held (1 ∷ []) ∷ []) (next 20 ∷ jump 0 22 ∷ [])
    ∷ planned (Of 1 (Const (imms.Int (pos 7)))) with_point [] (held (1 ∷ []) ∷ []) (next 21 ∷ [])
    ∷ planned (Of 1 (Return (Some kinds.Int))) with_point (Int ∷ []) (held (1 ∷ []) ∷ []) []
    ∷ within handlers (planned (Of 1 (Const (imms.Int (pos 10)))) with_point [] (held (1 ∷ []) ∷ []) (next 23 ∷ []))
    ∷ within handlers (planned (Of 1 (Load kinds.Int 0)) with_point (Int ∷ []) (held (1 ∷ []) ∷ []) (next 24 ∷ []))
    ∷ within handlers (planned (Of 1 (Divide IDIV)) with_point (Int ∷ Int ∷ []) (held (1 ∷ []) ∷ []) (next 25 ∷ making (0 ∷ []) (held (1 ∷ []) ∷ []) (handler 0 30) ∷ []))
    ∷ within handlers (planned (Of 1 (Store kinds.Int 2)) with_point (Int ∷ []) (held (1 ∷ []) ∷ []) (next 26 ∷ []))
    ∷ within handlers (planned (Of 1 (Load kinds.Ref 1)) with_quotient [] (held (1 ∷ []) ∷ []) (next 27 ∷ []))
    ∷ within handlers (made_before (0 ∷ []) (planned (Of 1 (Invoke INVOKESTATIC 22 0)) with_quotient (P ∷ []) (held (1 ∷ 7 ∷ []) ∷ []) (next 28 ∷ handler 0 30 ∷ [])))
    ∷ within handlers (planned (Of 1 (Load kinds.Int 2)) with_quotient [] [] (next 29 ∷ []))
    ∷ planned (Of 1 (Return (Some kinds.Int))) with_quotient (Int ∷ []) [] []
    ∷ planned (Of 1 (Store kinds.Ref 3)) with_point (Arithmetic ∷ []) [] (next 31 ∷ [])
    ∷ planned (Of 1 (Load kinds.Ref 1)) with_thrown [] [] (next 32 ∷ [])
    ∷ planned (Of 1 (GetField 26)) with_thrown (P ∷ []) [] (next 33 ∷ [])
    ∷ planned (Of 1 (Return (Some kinds.Int))) with_thrown (Int ∷ []) [] []
    ∷ []

abbrev pub this : Case
this = record {
  folder = p_file ∷ file ∷ [];
  class = 1;
  method = 1;
  locals = 7;
  sites = record { at = 0; class = codes "P"; fields = fields.Int ∷ fields.Int ∷ [] } ∷ [];
  points = points;
  constructor = λ class. codes "(II[Z)V";
  form = short;
}

-- ---- what is written

abbrev pub items : List IndexedItem
items =
    uncaught (Const (imms.Int (pos 0)))
    ∷ uncaught (Store kinds.Int 7)
    ∷ uncaught (Const (imms.Int (pos 0)))
    ∷ uncaught (Store kinds.Int 8)
    ∷ uncaught (Load kinds.Int 0)
    ∷ uncaught (Const (imms.Int (pos 1)))
    ∷ uncaught (Store kinds.Int 6)
    ∷ uncaught (Store kinds.Int 5)
    ∷ uncaught (Load kinds.Int 5)
    ∷ uncaught (Store kinds.Int 7)
    ∷ uncaught (Load kinds.Int 6)
    ∷ uncaught (Store kinds.Int 8)
    ∷ uncaught (Load kinds.Int 0)
    ∷ uncaught (Const (imms.Int (pos 7)))
    ∷ uncaught (If2 IF_ICMPNE 17)
    ∷ uncaught (Const (imms.Int (pos 7)))
    ∷ uncaught (Return (Some kinds.Int))
    ∷ uncaught (Const (imms.Int (pos 10)))
    ∷ uncaught (Load kinds.Int 0)
    ∷ caught ((38, 28) ∷ []) (Divide IDIV)
    ∷ uncaught (Store kinds.Int 2)
    ∷ uncaught (New 13)
    ∷ uncaught (Shuffle DUP)
    ∷ uncaught (Load kinds.Int 7)
    ∷ uncaught (Load kinds.Int 8)
    ∷ uncaught (Const imms.Null)
    ∷ uncaught (Invoke INVOKESPECIAL 32 0)
    ∷ uncaught (Store kinds.Ref 9)
    ∷ uncaught (Load kinds.Ref 9)
    ∷ uncaught (Store kinds.Ref 1)
    ∷ uncaught (Load kinds.Ref 9)
    ∷ caught ((34, 28) ∷ []) (Invoke INVOKESTATIC 22 0)
    ∷ uncaught (Load kinds.Int 2)
    ∷ uncaught (Return (Some kinds.Int))
    ∷ uncaught (Store kinds.Ref 3)
    ∷ uncaught (Load kinds.Ref 1)
    ∷ uncaught (GetField 26)
    ∷ uncaught (Return (Some kinds.Int))
    ∷ uncaught (New 13)
    ∷ uncaught (Shuffle DUP)
    ∷ uncaught (Load kinds.Int 7)
    ∷ uncaught (Load kinds.Int 8)
    ∷ uncaught (Const imms.Null)
    ∷ uncaught (Invoke INVOKESPECIAL 32 0)
    ∷ uncaught (Store kinds.Ref 9)
    ∷ uncaught (Load kinds.Ref 9)
    ∷ uncaught (Store kinds.Ref 1)
    ∷ uncaught (Goto 34)
    ∷ []

abbrev pub bytes : List ℕ
bytes =
    3 ∷ 54 ∷ 7 ∷ 3 ∷ 54 ∷ 8 ∷ 26 ∷ 4 ∷ 54 ∷ 6 ∷ 54 ∷ 5 ∷ 21 ∷ 5 ∷ 54 ∷ 7 ∷ 21 ∷ 6
    ∷ 54 ∷ 8 ∷ 26 ∷ 16 ∷ 7 ∷ 160 ∷ 0 ∷ 6 ∷ 16 ∷ 7 ∷ 172 ∷ 16 ∷ 10 ∷ 26 ∷ 108 ∷ 61
    ∷ 187 ∷ 0 ∷ 13 ∷ 89 ∷ 21 ∷ 7 ∷ 21 ∷ 8 ∷ 1 ∷ 183 ∷ 0 ∷ 32 ∷ 58 ∷ 9 ∷ 25 ∷ 9 ∷ 76
    ∷ 25 ∷ 9 ∷ 184 ∷ 0 ∷ 22 ∷ 28 ∷ 172 ∷ 78 ∷ 43 ∷ 180 ∷ 0 ∷ 26 ∷ 172 ∷ 187 ∷ 0 ∷ 13 ∷ 89
    ∷ 21 ∷ 7 ∷ 21 ∷ 8 ∷ 1 ∷ 183 ∷ 0 ∷ 32 ∷ 58 ∷ 9 ∷ 25 ∷ 9 ∷ 76 ∷ 167 ∷ 255 ∷ 233
    ∷ []

abbrev pub wanted : Wanted
wanted = record {
  items = items;
  pool = pool ++ (
      Some (Utf8 (codes "(II[Z)V"))
      ∷ Some (NameAndType 5 30)
      ∷ Some (Methodref 13 31)
      ∷ []);
  places = makes_object (codes "P") ∷ makes_object (codes "P") ∷ [];
  units = 14;
}
