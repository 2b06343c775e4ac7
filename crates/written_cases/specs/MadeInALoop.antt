-- static int l(int n) { int s = 0; for (int i = 0; i < n; i++) { P p = new P(i, i); s += p.x; } return s; }: nothing is made.
use Rattle.std.specs.Prelude.{ℕ, List, [], ◌∷◌, codes, Some, pos, None}
use Rattle.class_model.specs.Pool.{Constants}
use Rattle.class_model.specs.declared.class_file.ClassFile.{ClassFile}
use Rattle.class_model.specs.declared.descriptor.FieldType.TheVariants as fields
use Rattle.class_model.specs.declared.descriptor.Kind.TheVariants as kinds
use Rattle.class_model.specs.declared.frame.VType.{VType}
use Rattle.class_model.specs.declared.frame.VType.TheVariants.{Int, Object, Top, Uninit}
use Rattle.class_model.specs.declared.instr.Imm.TheVariants as imms
use Rattle.class_model.specs.declared.instr.Instr.TheVariants.{Const, GetField, Goto, If2, Iinc, Invoke, Load, New, Pure, PutField, Return, Shuffle, Store}
use Rattle.class_model.specs.declared.opcodes.TheConstants.{DUP, IADD, IF_ICMPGE, INVOKESPECIAL}
use Rattle.class_model.specs.declared.pool.Const.TheVariants.{Class, Fieldref, Methodref, NameAndType, Utf8}
use Rattle.flow_code.specs.declared.point.FlatInstr.TheVariants.{Of}
use Rattle.plan_flow.specs.Written.WrittenCode.{short}
use Rattle.making_code.specs.IndexedItems.{IndexedItem}
use Rattle.virtual_state.specs.declared.slot.Slot.TheVariants.{Plain}
use Rattle.written_cases.specs.CaseWords.{Case, CasePoint, Held, Wanted, jump, next, planned, uncaught}
use Rattle.written_cases.specs.PointClass.{p_file}

-- ---- the class of the method

abbrev pub pool : Constants
pool =
    None
    ∷ Some (Utf8 (codes "T"))
    ∷ Some (Class 1)
    ∷ Some (Utf8 (codes "java/lang/Object"))
    ∷ Some (Class 3)
    ∷ Some (Utf8 (codes "<init>"))
    ∷ Some (Utf8 (codes "()V"))
    ∷ Some (Utf8 (codes "Code"))
    ∷ Some (NameAndType 5 6)
    ∷ Some (Methodref 4 8)
    ∷ Some (Utf8 (codes "l"))
    ∷ Some (Utf8 (codes "(I)I"))
    ∷ Some (Utf8 (codes "P"))
    ∷ Some (Class 12)
    ∷ Some (Utf8 (codes "(II)V"))
    ∷ Some (NameAndType 5 14)
    ∷ Some (Methodref 13 15)
    ∷ Some (Utf8 (codes "x"))
    ∷ Some (Utf8 (codes "I"))
    ∷ Some (NameAndType 17 18)
    ∷ Some (Fieldref 13 19)
    ∷ Some (Utf8 (codes "StackMapTable"))
    ∷ []

abbrev pub file : ClassFile
file = record {
  major = 52;
  minor = 0;
  pool = pool;
  flags = 33;
  this_class = 2;
  super_class = 4;
  interfaces = [];
  fields = [];
  methods = record { flags = 0; name = 5; desc = 6; attrs = [] }
      ∷ record { flags = 8; name = 10; desc = 11; attrs = [] }
      ∷ [];
  attrs = [];
}

-- ---- the flat code with its plan

abbrev Fresh : VType
Fresh = Uninit 7

abbrev P : VType
P = Object (codes "P")

abbrev at_start : List VType
at_start = Int ∷ Top ∷ Top ∷ Top ∷ Top ∷ Top ∷ Top ∷ []

abbrev with_sum : List VType
with_sum = Int ∷ Int ∷ Top ∷ Top ∷ Top ∷ Top ∷ Top ∷ []

abbrev with_counter : List VType
with_counter = Int ∷ Int ∷ Int ∷ Top ∷ Top ∷ Top ∷ Top ∷ []

abbrev passing_y : List VType
passing_y = Int ∷ Int ∷ Int ∷ Top ∷ Top ∷ Top ∷ Int ∷ []

abbrev passing_both : List VType
passing_both = Int ∷ Int ∷ Int ∷ Top ∷ Top ∷ Int ∷ Int ∷ []

abbrev in_constructor : List VType
in_constructor = Int ∷ Int ∷ Int ∷ Top ∷ Fresh ∷ Int ∷ Int ∷ []

abbrev behind_object_init : List VType
behind_object_init = Int ∷ Int ∷ Int ∷ Top ∷ P ∷ Int ∷ Int ∷ []

abbrev with_point : List VType
with_point = Int ∷ Int ∷ Int ∷ P ∷ Top ∷ Top ∷ Top ∷ []

-- the object, and where it is
abbrev held : List ℕ → Held
held places = record { site = 0; fields = Plain ∷ Plain ∷ []; depth = 0; places = places }

abbrev pub points : List CasePoint
points =
    planned (Of 1 (Const (imms.Int (pos 0)))) at_start [] [] (next 1 ∷ [])
    ∷ planned (Of 1 (Store kinds.Int 1)) at_start (Int ∷ []) [] (next 2 ∷ [])
    ∷ planned (Of 1 (Const (imms.Int (pos 0)))) with_sum [] [] (next 3 ∷ [])
    ∷ planned (Of 1 (Store kinds.Int 2)) with_sum (Int ∷ []) [] (next 4 ∷ [])
    ∷ planned (Of 1 (Load kinds.Int 2)) with_counter [] [] (next 5 ∷ [])
    ∷ planned (Of 1 (Load kinds.Int 0)) with_counter (Int ∷ []) [] (next 6 ∷ [])
    ∷ planned (Of 1 (If2 IF_ICMPGE 31)) with_counter (Int ∷ Int ∷ []) [] (next 7 ∷ jump 0 31 ∷ [])
    ∷ planned (Of 1 (New 13)) with_counter [] [] (next 8 ∷ [])
    ∷ planned (Of 1 (Shuffle DUP)) with_counter (Fresh ∷ []) (held (7 ∷ []) ∷ []) (next 9 ∷ [])
    ∷ planned (Of 1 (Load kinds.Int 2)) with_counter (Fresh ∷ Fresh ∷ []) (held (7 ∷ 8 ∷ []) ∷ []) (next 10 ∷ [])
    ∷ planned (Of 1 (Load kinds.Int 2)) with_counter (Fresh ∷ Fresh ∷ Int ∷ []) (held (7 ∷ 8 ∷ []) ∷ []) (next 11 ∷ [])
    ∷ planned (Of 1 (Store kinds.Int 6)) with_counter (Fresh ∷ Fresh ∷ Int ∷ Int ∷ []) (held (7 ∷ 8 ∷ []) ∷ []) (next 12 ∷ [])
    ∷ planned (Of 1 (Store kinds.Int 5)) passing_y (Fresh ∷ Fresh ∷ Int ∷ []) (held (7 ∷ 8 ∷ []) ∷ []) (next 13 ∷ [])
    ∷ planned (Of 1 (Store kinds.Ref 4)) passing_both (Fresh ∷ Fresh ∷ []) (held (7 ∷ 8 ∷ []) ∷ []) (next 14 ∷ [])
    ∷ planned (Of 0 (Load kinds.Ref 4)) in_constructor (Fresh ∷ []) (held (4 ∷ 7 ∷ []) ∷ []) (next 15 ∷ [])
    ∷ planned (Of 0 (Invoke INVOKESPECIAL 13 0)) in_constructor (Fresh ∷ Fresh ∷ []) (held (4 ∷ 7 ∷ 8 ∷ []) ∷ []) (next 16 ∷ [])
    ∷ planned (Of 0 (Load kinds.Ref 4)) behind_object_init (Fresh ∷ []) (held (4 ∷ 7 ∷ []) ∷ []) (next 17 ∷ [])
    ∷ planned (Of 0 (Load kinds.Int 5)) behind_object_init (Fresh ∷ P ∷ []) (held (4 ∷ 7 ∷ 8 ∷ []) ∷ []) (next 18 ∷ [])
    ∷ planned (Of 0 (PutField 15)) behind_object_init (Fresh ∷ P ∷ Int ∷ []) (held (4 ∷ 7 ∷ 8 ∷ []) ∷ []) (next 19 ∷ [])
    ∷ planned (Of 0 (Load kinds.Ref 4)) behind_object_init (Fresh ∷ []) (held (4 ∷ 7 ∷ []) ∷ []) (next 20 ∷ [])
    ∷ planned (Of 0 (Load kinds.Int 6)) behind_object_init (Fresh ∷ P ∷ []) (held (4 ∷ 7 ∷ 8 ∷ []) ∷ []) (next 21 ∷ [])
    ∷ planned (Of 0 (PutField 17)) behind_object_init (Fresh ∷ P ∷ Int ∷ []) (held (4 ∷ 7 ∷ 8 ∷ []) ∷ []) (next 22 ∷ [])
    ∷ planned (Of 0 (Goto 23)) behind_object_init (Fresh ∷ []) (held (4 ∷ 7 ∷ []) ∷ []) (jump 0 23 ∷ [])
    ∷ planned (Of 1 (Store kinds.Ref 3)) with_counter (P ∷ []) (held (7 ∷ []) ∷ []) (next 24 ∷ [])
    ∷ planned (Of 1 (Load kinds.Int 1)) with_point [] (held (3 ∷ []) ∷ []) (next 25 ∷ [])
    ∷ planned (Of 1 (Load kinds.Ref 3)) with_point (Int ∷ []) (held (3 ∷ []) ∷ []) (next 26 ∷ [])
    ∷ planned (Of 1 (GetField 20)) with_point (Int ∷ P ∷ []) (held (3 ∷ 8 ∷ []) ∷ []) (next 27 ∷ [])
    ∷ planned (Of 1 (Pure IADD)) with_point (Int ∷ Int ∷ []) (held (3 ∷ []) ∷ []) (next 28 ∷ [])
    ∷ planned (Of 1 (Store kinds.Int 1)) with_point (Int ∷ []) (held (3 ∷ []) ∷ []) (next 29 ∷ [])
    ∷ planned (Of 1 (Iinc 2 (pos 1))) with_point [] (held (3 ∷ []) ∷ []) (next 30 ∷ [])
    ∷ planned (Of 1 (Goto 4)) with_point [] (held (3 ∷ []) ∷ []) (jump 0 4 ∷ [])
    ∷ planned (Of 1 (Load kinds.Int 1)) with_sum [] [] (next 32 ∷ [])
    ∷ planned (Of 1 (Return (Some kinds.Int))) with_sum (Int ∷ []) [] []
    ∷ []

abbrev pub this : Case
this = record {
  folder = p_file ∷ file ∷ [];
  class = 1;
  method = 1;
  locals = 7;
  sites = record { at = 7; class = codes "P"; fields = fields.Int ∷ fields.Int ∷ [] } ∷ [];
  points = points;
  constructor = λ class. codes "(II[Z)V";
  form = short;
}

-- ---- what is written

abbrev pub items : List IndexedItem
items =
    uncaught (Const (imms.Int (pos 0)))
    ∷ uncaught (Store kinds.Int 1)
    ∷ uncaught (Const (imms.Int (pos 0)))
    ∷ uncaught (Store kinds.Int 2)
    ∷ uncaught (Load kinds.Int 2)
    ∷ uncaught (Load kinds.Int 0)
    ∷ uncaught (If2 IF_ICMPGE 25)
    ∷ uncaught (Const (imms.Int (pos 0)))
    ∷ uncaught (Store kinds.Int 7)
    ∷ uncaught (Const (imms.Int (pos 0)))
    ∷ uncaught (Store kinds.Int 8)
    ∷ uncaught (Load kinds.Int 2)
    ∷ uncaught (Load kinds.Int 2)
    ∷ uncaught (Store kinds.Int 6)
    ∷ uncaught (Store kinds.Int 5)
    ∷ uncaught (Load kinds.Int 5)
    ∷ uncaught (Store kinds.Int 7)
    ∷ uncaught (Load kinds.Int 6)
    ∷ uncaught (Store kinds.Int 8)
    ∷ uncaught (Load kinds.Int 1)
    ∷ uncaught (Load kinds.Int 7)
    ∷ uncaught (Pure IADD)
    ∷ uncaught (Store kinds.Int 1)
    ∷ uncaught (Iinc 2 (pos 1))
    ∷ uncaught (Goto 4)
    ∷ uncaught (Load kinds.Int 1)
    ∷ uncaught (Return (Some kinds.Int))
    ∷ []

abbrev pub bytes : List ℕ
bytes =
    3 ∷ 60 ∷ 3 ∷ 61 ∷ 28 ∷ 26 ∷ 162 ∷ 0 ∷ 34 ∷ 3 ∷ 54 ∷ 7 ∷ 3 ∷ 54 ∷ 8 ∷ 28 ∷ 28
    ∷ 54 ∷ 6 ∷ 54 ∷ 5 ∷ 21 ∷ 5 ∷ 54 ∷ 7 ∷ 21 ∷ 6 ∷ 54 ∷ 8 ∷ 27 ∷ 21 ∷ 7 ∷ 96 ∷ 60
    ∷ 132 ∷ 2 ∷ 1 ∷ 167 ∷ 255 ∷ 223 ∷ 27 ∷ 172
    ∷ []

abbrev pub wanted : Wanted
wanted = record {
  items = items;
  pool = pool;
  places = [];
  units = 14;
}
