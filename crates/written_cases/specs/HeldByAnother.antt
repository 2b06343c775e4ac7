-- static int o() { Box b = new Box(new Box(null)); L.use(b.v); return 1; }: the inner object is made, and goes to the field unit of the outer
-- one, which stays virtual.
use Rattle.std.specs.Prelude.{ℕ, List, [], ◌∷◌, codes, Some, pos, ◌++◌, None}
use Rattle.class_model.specs.Pool.{Constants}
use Rattle.class_model.specs.declared.class_file.ClassFile.{ClassFile}
use Rattle.class_model.specs.declared.descriptor.FieldType.TheVariants as fields
use Rattle.class_model.specs.declared.descriptor.Kind.TheVariants as kinds
use Rattle.class_model.specs.declared.frame.VType.{VType}
use Rattle.class_model.specs.declared.frame.VType.TheVariants.{Int, Null, Object, Top, Uninit}
use Rattle.class_model.specs.declared.instr.Imm.TheVariants as imms
use Rattle.class_model.specs.declared.instr.Instr.TheVariants.{Const, GetField, Goto, Invoke, Load, New, Nop, PutField, Return, Shuffle, Store}
use Rattle.class_model.specs.declared.opcodes.TheConstants.{DUP, INVOKESPECIAL, INVOKESTATIC}
use Rattle.class_model.specs.declared.pool.Const.TheVariants.{Class, Fieldref, Methodref, NameAndType, Utf8}
use Rattle.flow_code.specs.declared.point.FlatInstr.TheVariants.{Of}
use Rattle.plan_flow.specs.Written.Places.{makes_object}
use Rattle.plan_flow.specs.Written.WrittenCode.{short}
use Rattle.making_code.specs.IndexedItems.{IndexedItem}
use Rattle.virtual_state.specs.declared.slot.Slot.TheVariants.{Plain, Virt}
use Rattle.written_cases.specs.CaseWords.{Case, CasePoint, Held, Wanted, jump, made_before, next, planned, uncaught}
use Rattle.written_cases.specs.BoxClass.{box_file}

-- ---- the class of the method

abbrev pub pool : Constants
pool =
    None
    ∷ Some (Utf8 (codes "T"))
    ∷ Some (Class 1)
    ∷ Some (Utf8 (codes "java/lang/Object"))
    ∷ Some (Class 3)
    ∷ Some (Utf8 (codes "<init>"))
    ∷ Some (Utf8 (codes "()V"))
    ∷ Some (Utf8 (codes "Code"))
    ∷ Some (NameAndType 5 6)
    ∷ Some (Methodref 4 8)
    ∷ Some (Utf8 (codes "o"))
    ∷ Some (Utf8 (codes "()I"))
    ∷ Some (Utf8 (codes "Box"))
    ∷ Some (Class 12)
    ∷ Some (Utf8 (codes "(Ljava/lang/Object;)V"))
    ∷ Some (NameAndType 5 14)
    ∷ Some (Methodref 13 15)
    ∷ Some (Utf8 (codes "v"))
    ∷ Some (Utf8 (codes "Ljava/lang/Object;"))
    ∷ Some (NameAndType 17 18)
    ∷ Some (Fieldref 13 19)
    ∷ Some (Utf8 (codes "L"))
    ∷ Some (Class 21)
    ∷ Some (Utf8 (codes "use"))
    ∷ Some (NameAndType 23 14)
    ∷ Some (Methodref 22 24)
    ∷ []

abbrev pub file : ClassFile
file = record {
  major = 52;
  minor = 0;
  pool = pool;
  flags = 33;
  this_class = 2;
  super_class = 4;
  interfaces = [];
  fields = [];
  methods = record { flags = 0; name = 5; desc = 6; attrs = [] }
      ∷ record { flags = 8; name = 10; desc = 11; attrs = [] }
      ∷ [];
  attrs = [];
}

-- ---- the flat code with its plan

abbrev First : VType
First = Uninit 0

abbrev Second : VType
Second = Uninit 2

abbrev Any : VType
Any = Object (codes "java/lang/Object")

abbrev Box : VType
Box = Object (codes "Box")

abbrev at_start : List VType
at_start = Top ∷ Top ∷ Top ∷ Top ∷ Top ∷ []

abbrev passing_inner : List VType
passing_inner = Top ∷ Top ∷ Null ∷ Top ∷ Top ∷ []

abbrev in_inner : List VType
in_inner = Top ∷ Second ∷ Any ∷ Top ∷ Top ∷ []

abbrev behind_inner : List VType
behind_inner = Top ∷ Box ∷ Any ∷ Top ∷ Top ∷ []

abbrev passing_outer : List VType
passing_outer = Top ∷ Top ∷ Top ∷ Top ∷ Box ∷ []

abbrev in_outer : List VType
in_outer = Top ∷ Top ∷ Top ∷ First ∷ Any ∷ []

abbrev behind_outer : List VType
behind_outer = Top ∷ Top ∷ Top ∷ Box ∷ Any ∷ []

abbrev with_box : List VType
with_box = Box ∷ Top ∷ Top ∷ Top ∷ Top ∷ []

-- the first object, and where it is
abbrev first : List ℕ → Held
first places = record { site = 0; fields = Plain ∷ []; depth = 0; places = places }

-- the second object, and where it is
abbrev second : List ℕ → Held
second places = record { site = 1; fields = Plain ∷ []; depth = 0; places = places }

-- the first object, whose field holds another one, and where it is
abbrev first_holding : List ℕ → Held
first_holding places = record { site = 0; fields = Virt 1 ∷ []; depth = 0; places = places }

abbrev pub points : List CasePoint
points =
    planned (Of 1 (New 13)) at_start [] [] (next 1 ∷ [])
    ∷ planned (Of 1 (Shuffle DUP)) at_start (First ∷ []) (first (5 ∷ []) ∷ []) (next 2 ∷ [])
    ∷ planned (Of 1 (New 13)) at_start (First ∷ First ∷ []) (first (5 ∷ 6 ∷ []) ∷ []) (next 3 ∷ [])
    ∷ planned (Of 1 (Shuffle DUP)) at_start (First ∷ First ∷ Second ∷ []) (first (5 ∷ 6 ∷ []) ∷ second (7 ∷ []) ∷ []) (next 4 ∷ [])
    ∷ planned (Of 1 (Const imms.Null)) at_start (First ∷ First ∷ Second ∷ Second ∷ []) (first (5 ∷ 6 ∷ []) ∷ second (7 ∷ 8 ∷ []) ∷ []) (next 5 ∷ [])
    ∷ planned (Of 1 (Store kinds.Ref 2)) at_start (First ∷ First ∷ Second ∷ Second ∷ Null ∷ []) (first (5 ∷ 6 ∷ []) ∷ second (7 ∷ 8 ∷ []) ∷ []) (next 6 ∷ [])
    ∷ planned (Of 1 (Store kinds.Ref 1)) passing_inner (First ∷ First ∷ Second ∷ Second ∷ []) (first (5 ∷ 6 ∷ []) ∷ second (7 ∷ 8 ∷ []) ∷ []) (next 7 ∷ [])
    ∷ planned (Of 0 (Load kinds.Ref 1)) in_inner (First ∷ First ∷ Second ∷ []) (first (5 ∷ 6 ∷ []) ∷ second (1 ∷ 7 ∷ []) ∷ []) (next 8 ∷ [])
    ∷ planned (Of 0 (Invoke INVOKESPECIAL 12 0)) in_inner (First ∷ First ∷ Second ∷ Second ∷ []) (first (5 ∷ 6 ∷ []) ∷ second (1 ∷ 7 ∷ 8 ∷ []) ∷ []) (next 9 ∷ [])
    ∷ planned (Of 0 (Load kinds.Ref 1)) behind_inner (First ∷ First ∷ Second ∷ []) (first (5 ∷ 6 ∷ []) ∷ second (1 ∷ 7 ∷ []) ∷ []) (next 10 ∷ [])
    ∷ planned (Of 0 (Load kinds.Ref 2)) behind_inner (First ∷ First ∷ Second ∷ Box ∷ []) (first (5 ∷ 6 ∷ []) ∷ second (1 ∷ 7 ∷ 8 ∷ []) ∷ []) (next 11 ∷ [])
    ∷ planned (Of 0 (PutField 14)) behind_inner (First ∷ First ∷ Second ∷ Box ∷ Any ∷ []) (first (5 ∷ 6 ∷ []) ∷ second (1 ∷ 7 ∷ 8 ∷ []) ∷ []) (next 12 ∷ [])
    ∷ planned (Of 0 (Goto 13)) behind_inner (First ∷ First ∷ Second ∷ []) (first (5 ∷ 6 ∷ []) ∷ second (1 ∷ 7 ∷ []) ∷ []) (jump 0 13 ∷ [])
    ∷ planned (Of 1 (Store kinds.Ref 4)) at_start (First ∷ First ∷ Box ∷ []) (first (5 ∷ 6 ∷ []) ∷ second (7 ∷ []) ∷ []) (next 14 ∷ [])
    ∷ planned (Of 1 (Store kinds.Ref 3)) passing_outer (First ∷ First ∷ []) (first (5 ∷ 6 ∷ []) ∷ second (4 ∷ []) ∷ []) (next 15 ∷ [])
    ∷ planned (Of 0 (Load kinds.Ref 3)) in_outer (First ∷ []) (first (3 ∷ 5 ∷ []) ∷ second (4 ∷ []) ∷ []) (next 16 ∷ [])
    ∷ planned (Of 0 (Invoke INVOKESPECIAL 12 0)) in_outer (First ∷ First ∷ []) (first (3 ∷ 5 ∷ 6 ∷ []) ∷ second (4 ∷ []) ∷ []) (next 17 ∷ [])
    ∷ planned (Of 0 (Load kinds.Ref 3)) behind_outer (First ∷ []) (first (3 ∷ 5 ∷ []) ∷ second (4 ∷ []) ∷ []) (next 18 ∷ [])
    ∷ planned (Of 0 (Load kinds.Ref 4)) behind_outer (First ∷ Box ∷ []) (first (3 ∷ 5 ∷ 6 ∷ []) ∷ second (4 ∷ []) ∷ []) (next 19 ∷ [])
    ∷ planned (Of 0 (PutField 14)) behind_outer (First ∷ Box ∷ Any ∷ []) (first (3 ∷ 5 ∷ 6 ∷ []) ∷ second (4 ∷ 7 ∷ []) ∷ []) (next 20 ∷ [])
    ∷ planned (Of 0 (Goto 21)) behind_outer (First ∷ []) (first_holding (3 ∷ 5 ∷ []) ∷ second (4 ∷ []) ∷ []) (jump 0 21 ∷ [])
    ∷ planned (Of 1 (Store kinds.Ref 0)) at_start (Box ∷ []) (first_holding (5 ∷ []) ∷ second [] ∷ []) (next 22 ∷ [])
    ∷ planned (Of 1 (Load kinds.Ref 0)) with_box [] (first_holding (0 ∷ []) ∷ second [] ∷ []) (next 23 ∷ [])
    ∷ planned (Of 1 (GetField 20)) with_box (Box ∷ []) (first_holding (0 ∷ 5 ∷ []) ∷ second [] ∷ []) (next 24 ∷ [])
    ∷ made_before (1 ∷ []) (planned (Of 1 (Invoke INVOKESTATIC 25 0)) with_box (Any ∷ []) (first_holding (0 ∷ []) ∷ second (5 ∷ []) ∷ []) (next 25 ∷ []))
    ∷ planned (Of 1 (Const (imms.Int (pos 1)))) with_box [] (first (0 ∷ []) ∷ []) (next 26 ∷ [])
    ∷ planned (Of 1 (Return (Some kinds.Int))) with_box (Int ∷ []) (first (0 ∷ []) ∷ []) []
    ∷ []

abbrev pub this : Case
this = record {
  folder = box_file ∷ file ∷ [];
  class = 1;
  method = 1;
  locals = 5;
  sites =
      record { at = 0; class = codes "Box"; fields = fields.Named (codes "java/lang/Object") ∷ [] }
      ∷ record { at = 2; class = codes "Box"; fields = fields.Named (codes "java/lang/Object") ∷ [] } ∷ [];
  points = points;
  constructor = λ class. codes "(Ljava/lang/Object;[Z)V";
  form = short;
}

-- ---- what is written

abbrev pub items : List IndexedItem
items =
    uncaught (Const imms.Null)
    ∷ uncaught (Store kinds.Ref 5)
    ∷ uncaught (Const imms.Null)
    ∷ uncaught (Store kinds.Ref 6)
    ∷ uncaught (Const imms.Null)
    ∷ uncaught (Store kinds.Ref 2)
    ∷ uncaught Nop
    ∷ uncaught (Load kinds.Ref 2)
    ∷ uncaught (Store kinds.Ref 6)
    ∷ uncaught (New 13)
    ∷ uncaught (Shuffle DUP)
    ∷ uncaught (Load kinds.Ref 6)
    ∷ uncaught (Const imms.Null)
    ∷ uncaught (Invoke INVOKESPECIAL 28 0)
    ∷ uncaught (Store kinds.Ref 8)
    ∷ uncaught (Load kinds.Ref 8)
    ∷ uncaught (Store kinds.Ref 5)
    ∷ uncaught (Load kinds.Ref 8)
    ∷ uncaught (Invoke INVOKESTATIC 25 0)
    ∷ uncaught (Const (imms.Int (pos 1)))
    ∷ uncaught (Return (Some kinds.Int))
    ∷ []

abbrev pub bytes : List ℕ
bytes =
    1 ∷ 58 ∷ 5 ∷ 1 ∷ 58 ∷ 6 ∷ 1 ∷ 77 ∷ 0 ∷ 44 ∷ 58 ∷ 6 ∷ 187 ∷ 0 ∷ 13 ∷ 89 ∷ 25 ∷ 6 ∷ 1
    ∷ 183 ∷ 0 ∷ 28 ∷ 58 ∷ 8 ∷ 25 ∷ 8 ∷ 58 ∷ 5 ∷ 25 ∷ 8 ∷ 184 ∷ 0 ∷ 25 ∷ 4 ∷ 172
    ∷ []

abbrev pub wanted : Wanted
wanted = record {
  items = items;
  pool = pool ++ (
      Some (Utf8 (codes "(Ljava/lang/Object;[Z)V"))
      ∷ Some (NameAndType 5 26)
      ∷ Some (Methodref 13 27)
      ∷ []);
  places = makes_object (codes "Box") ∷ [];
  units = 14;
}
