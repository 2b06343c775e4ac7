-- static int c(int n) { P p = new P(0, 0); while (n-- > 0) p = new P(p.x + 1, 0); return p.x; }: the object is made where the loop begins, and
-- on the back edge, before its goto.
use Rattle.std.specs.Prelude.{ℕ, List, [], ◌∷◌, codes, Some, pos, negsuc, ◌++◌, None}
use Rattle.class_model.specs.Pool.{Constants}
use Rattle.class_model.specs.declared.class_file.ClassFile.{ClassFile}
use Rattle.class_model.specs.declared.descriptor.FieldType.TheVariants as fields
use Rattle.class_model.specs.declared.descriptor.Kind.TheVariants as kinds
use Rattle.class_model.specs.declared.frame.VType.{VType}
use Rattle.class_model.specs.declared.frame.VType.TheVariants.{Int, Object, Top, Uninit}
use Rattle.class_model.specs.declared.instr.Imm.TheVariants as imms
use Rattle.class_model.specs.declared.instr.Instr.TheVariants.{Const, GetField, Goto, If, Iinc, Invoke, Load, New, Pure, PutField, Return, Shuffle, Store}
use Rattle.class_model.specs.declared.opcodes.TheConstants.{DUP, IADD, IFLE, INVOKESPECIAL}
use Rattle.class_model.specs.declared.pool.Const.TheVariants.{Class, Fieldref, Methodref, NameAndType, Utf8}
use Rattle.flow_code.specs.declared.point.FlatInstr.TheVariants.{Of}
use Rattle.plan_flow.specs.Written.Places.{makes_object}
use Rattle.plan_flow.specs.Written.WrittenCode.{short}
use Rattle.making_code.specs.IndexedItems.{IndexedItem}
use Rattle.virtual_state.specs.declared.slot.Slot.TheVariants.{Plain}
use Rattle.written_cases.specs.CaseWords.{Case, CasePoint, Held, Wanted, jump, making, next, planned, uncaught}
use Rattle.written_cases.specs.PointClass.{p_file}

-- ---- the class of the method

abbrev pub pool : Constants
pool =
    None
    ∷ Some (Utf8 (codes "T"))
    ∷ Some (Class 1)
    ∷ Some (Utf8 (codes "java/lang/Object"))
    ∷ Some (Class 3)
    ∷ Some (Utf8 (codes "<init>"))
    ∷ Some (Utf8 (codes "()V"))
    ∷ Some (Utf8 (codes "Code"))
    ∷ Some (NameAndType 5 6)
    ∷ Some (Methodref 4 8)
    ∷ Some (Utf8 (codes "c"))
    ∷ Some (Utf8 (codes "(I)I"))
    ∷ Some (Utf8 (codes "P"))
    ∷ Some (Class 12)
    ∷ Some (Utf8 (codes "(II)V"))
    ∷ Some (NameAndType 5 14)
    ∷ Some (Methodref 13 15)
    ∷ Some (Utf8 (codes "x"))
    ∷ Some (Utf8 (codes "I"))
    ∷ Some (NameAndType 17 18)
    ∷ Some (Fieldref 13 19)
    ∷ Some (Utf8 (codes "StackMapTable"))
    ∷ []

abbrev pub file : ClassFile
file = record {
  major = 52;
  minor = 0;
  pool = pool;
  flags = 33;
  this_class = 2;
  super_class = 4;
  interfaces = [];
  fields = [];
  methods = record { flags = 0; name = 5; desc = 6; attrs = [] }
      ∷ record { flags = 8; name = 10; desc = 11; attrs = [] }
      ∷ [];
  attrs = [];
}

-- ---- the flat code with its plan

abbrev First : VType
First = Uninit 0

abbrev P : VType
P = Object (codes "P")

abbrev Second : VType
Second = Uninit 20

abbrev at_start : List VType
at_start = Int ∷ Top ∷ Top ∷ Top ∷ Top ∷ Top ∷ Top ∷ Top ∷ []

abbrev passing_y : List VType
passing_y = Int ∷ Top ∷ Top ∷ Top ∷ Int ∷ Top ∷ Top ∷ Top ∷ []

abbrev passing_both : List VType
passing_both = Int ∷ Top ∷ Top ∷ Int ∷ Int ∷ Top ∷ Top ∷ Top ∷ []

abbrev in_constructor : List VType
in_constructor = Int ∷ Top ∷ First ∷ Int ∷ Int ∷ Top ∷ Top ∷ Top ∷ []

abbrev behind_object_init : List VType
behind_object_init = Int ∷ Top ∷ P ∷ Int ∷ Int ∷ Top ∷ Top ∷ Top ∷ []

abbrev with_point : List VType
with_point = Int ∷ P ∷ Top ∷ Top ∷ Top ∷ Top ∷ Top ∷ Top ∷ []

abbrev passing_y_again : List VType
passing_y_again = Int ∷ P ∷ Top ∷ Top ∷ Top ∷ Top ∷ Top ∷ Int ∷ []

abbrev passing_both_again : List VType
passing_both_again = Int ∷ P ∷ Top ∷ Top ∷ Top ∷ Top ∷ Int ∷ Int ∷ []

abbrev in_constructor_again : List VType
in_constructor_again = Int ∷ P ∷ Top ∷ Top ∷ Top ∷ Second ∷ Int ∷ Int ∷ []

abbrev behind_object_init_again : List VType
behind_object_init_again = Int ∷ P ∷ Top ∷ Top ∷ Top ∷ P ∷ Int ∷ Int ∷ []

-- the first object, and where it is
abbrev first : List ℕ → Held
first places = record { site = 0; fields = Plain ∷ Plain ∷ []; depth = 0; places = places }

-- the second object, and where it is
abbrev second : List ℕ → Held
second places = record { site = 1; fields = Plain ∷ Plain ∷ []; depth = 0; places = places }

abbrev pub points : List CasePoint
points =
    planned (Of 1 (New 13)) at_start [] [] (next 1 ∷ [])
    ∷ planned (Of 1 (Shuffle DUP)) at_start (First ∷ []) (first (8 ∷ []) ∷ []) (next 2 ∷ [])
    ∷ planned (Of 1 (Const (imms.Int (pos 0)))) at_start (First ∷ First ∷ []) (first (8 ∷ 9 ∷ []) ∷ []) (next 3 ∷ [])
    ∷ planned (Of 1 (Const (imms.Int (pos 0)))) at_start (First ∷ First ∷ Int ∷ []) (first (8 ∷ 9 ∷ []) ∷ []) (next 4 ∷ [])
    ∷ planned (Of 1 (Store kinds.Int 4)) at_start (First ∷ First ∷ Int ∷ Int ∷ []) (first (8 ∷ 9 ∷ []) ∷ []) (next 5 ∷ [])
    ∷ planned (Of 1 (Store kinds.Int 3)) passing_y (First ∷ First ∷ Int ∷ []) (first (8 ∷ 9 ∷ []) ∷ []) (next 6 ∷ [])
    ∷ planned (Of 1 (Store kinds.Ref 2)) passing_both (First ∷ First ∷ []) (first (8 ∷ 9 ∷ []) ∷ []) (next 7 ∷ [])
    ∷ planned (Of 0 (Load kinds.Ref 2)) in_constructor (First ∷ []) (first (2 ∷ 8 ∷ []) ∷ []) (next 8 ∷ [])
    ∷ planned (Of 0 (Invoke INVOKESPECIAL 13 0)) in_constructor (First ∷ First ∷ []) (first (2 ∷ 8 ∷ 9 ∷ []) ∷ []) (next 9 ∷ [])
    ∷ planned (Of 0 (Load kinds.Ref 2)) behind_object_init (First ∷ []) (first (2 ∷ 8 ∷ []) ∷ []) (next 10 ∷ [])
    ∷ planned (Of 0 (Load kinds.Int 3)) behind_object_init (First ∷ P ∷ []) (first (2 ∷ 8 ∷ 9 ∷ []) ∷ []) (next 11 ∷ [])
    ∷ planned (Of 0 (PutField 15)) behind_object_init (First ∷ P ∷ Int ∷ []) (first (2 ∷ 8 ∷ 9 ∷ []) ∷ []) (next 12 ∷ [])
    ∷ planned (Of 0 (Load kinds.Ref 2)) behind_object_init (First ∷ []) (first (2 ∷ 8 ∷ []) ∷ []) (next 13 ∷ [])
    ∷ planned (Of 0 (Load kinds.Int 4)) behind_object_init (First ∷ P ∷ []) (first (2 ∷ 8 ∷ 9 ∷ []) ∷ []) (next 14 ∷ [])
    ∷ planned (Of 0 (PutField 17)) behind_object_init (First ∷ P ∷ Int ∷ []) (first (2 ∷ 8 ∷ 9 ∷ []) ∷ []) (next 15 ∷ [])
    ∷ planned (Of 0 (Goto 16)) behind_object_init (First ∷ []) (first (2 ∷ 8 ∷ []) ∷ []) (jump 0 16 ∷ [])
    ∷ planned (Of 1 (Store kinds.Ref 1)) at_start (P ∷ []) (first (8 ∷ []) ∷ []) (making (0 ∷ []) (first (1 ∷ []) ∷ []) (next 17) ∷ [])
    ∷ planned (Of 1 (Load kinds.Int 0)) with_point [] [] (next 18 ∷ [])
    ∷ planned (Of 1 (Iinc 0 (negsuc 0))) with_point (Int ∷ []) [] (next 19 ∷ [])
    ∷ planned (Of 1 (If IFLE 41)) with_point (Int ∷ []) [] (next 20 ∷ jump 0 41 ∷ [])
    ∷ planned (Of 1 (New 13)) with_point [] [] (next 21 ∷ [])
    ∷ planned (Of 1 (Shuffle DUP)) with_point (Second ∷ []) (second (8 ∷ []) ∷ []) (next 22 ∷ [])
    ∷ planned (Of 1 (Load kinds.Ref 1)) with_point (Second ∷ Second ∷ []) (second (8 ∷ 9 ∷ []) ∷ []) (next 23 ∷ [])
    ∷ planned (Of 1 (GetField 20)) with_point (Second ∷ Second ∷ P ∷ []) (second (8 ∷ 9 ∷ []) ∷ []) (next 24 ∷ [])
    ∷ planned (Of 1 (Const (imms.Int (pos 1)))) with_point (Second ∷ Second ∷ Int ∷ []) (second (8 ∷ 9 ∷ []) ∷ []) (next 25 ∷ [])
    ∷ planned (Of 1 (Pure IADD)) with_point (Second ∷ Second ∷ Int ∷ Int ∷ []) (second (8 ∷ 9 ∷ []) ∷ []) (next 26 ∷ [])
    ∷ planned (Of 1 (Const (imms.Int (pos 0)))) with_point (Second ∷ Second ∷ Int ∷ []) (second (8 ∷ 9 ∷ []) ∷ []) (next 27 ∷ [])
    ∷ planned (Of 1 (Store kinds.Int 7)) with_point (Second ∷ Second ∷ Int ∷ Int ∷ []) (second (8 ∷ 9 ∷ []) ∷ []) (next 28 ∷ [])
    ∷ planned (Of 1 (Store kinds.Int 6)) passing_y_again (Second ∷ Second ∷ Int ∷ []) (second (8 ∷ 9 ∷ []) ∷ []) (next 29 ∷ [])
    ∷ planned (Of 1 (Store kinds.Ref 5)) passing_both_again (Second ∷ Second ∷ []) (second (8 ∷ 9 ∷ []) ∷ []) (next 30 ∷ [])
    ∷ planned (Of 0 (Load kinds.Ref 5)) in_constructor_again (Second ∷ []) (second (5 ∷ 8 ∷ []) ∷ []) (next 31 ∷ [])
    ∷ planned (Of 0 (Invoke INVOKESPECIAL 13 0)) in_constructor_again (Second ∷ Second ∷ []) (second (5 ∷ 8 ∷ 9 ∷ []) ∷ []) (next 32 ∷ [])
    ∷ planned (Of 0 (Load kinds.Ref 5)) behind_object_init_again (Second ∷ []) (second (5 ∷ 8 ∷ []) ∷ []) (next 33 ∷ [])
    ∷ planned (Of 0 (Load kinds.Int 6)) behind_object_init_again (Second ∷ P ∷ []) (second (5 ∷ 8 ∷ 9 ∷ []) ∷ []) (next 34 ∷ [])
    ∷ planned (Of 0 (PutField 15)) behind_object_init_again (Second ∷ P ∷ Int ∷ []) (second (5 ∷ 8 ∷ 9 ∷ []) ∷ []) (next 35 ∷ [])
    ∷ planned (Of 0 (Load kinds.Ref 5)) behind_object_init_again (Second ∷ []) (second (5 ∷ 8 ∷ []) ∷ []) (next 36 ∷ [])
    ∷ planned (Of 0 (Load kinds.Int 7)) behind_object_init_again (Second ∷ P ∷ []) (second (5 ∷ 8 ∷ 9 ∷ []) ∷ []) (next 37 ∷ [])
    ∷ planned (Of 0 (PutField 17)) behind_object_init_again (Second ∷ P ∷ Int ∷ []) (second (5 ∷ 8 ∷ 9 ∷ []) ∷ []) (next 38 ∷ [])
    ∷ planned (Of 0 (Goto 39)) behind_object_init_again (Second ∷ []) (second (5 ∷ 8 ∷ []) ∷ []) (jump 0 39 ∷ [])
    ∷ planned (Of 1 (Store kinds.Ref 1)) with_point (P ∷ []) (second (8 ∷ []) ∷ []) (next 40 ∷ [])
    ∷ planned (Of 1 (Goto 17)) with_point [] (second (1 ∷ []) ∷ []) (making (1 ∷ []) (second (1 ∷ []) ∷ []) (jump 0 17) ∷ [])
    ∷ planned (Of 1 (Load kinds.Ref 1)) with_point [] [] (next 42 ∷ [])
    ∷ planned (Of 1 (GetField 20)) with_point (P ∷ []) [] (next 43 ∷ [])
    ∷ planned (Of 1 (Return (Some kinds.Int))) with_point (Int ∷ []) [] []
    ∷ []

abbrev pub this : Case
this = record {
  folder = p_file ∷ file ∷ [];
  class = 1;
  method = 1;
  locals = 8;
  sites =
      record { at = 0; class = codes "P"; fields = fields.Int ∷ fields.Int ∷ [] }
      ∷ record { at = 20; class = codes "P"; fields = fields.Int ∷ fields.Int ∷ [] } ∷ [];
  points = points;
  constructor = λ class. codes "(II[Z)V";
  form = short;
}

-- ---- what is written

abbrev pub items : List IndexedItem
items =
    uncaught (Const (imms.Int (pos 0)))
    ∷ uncaught (Store kinds.Int 8)
    ∷ uncaught (Const (imms.Int (pos 0)))
    ∷ uncaught (Store kinds.Int 9)
    ∷ uncaught (Const (imms.Int (pos 0)))
    ∷ uncaught (Const (imms.Int (pos 0)))
    ∷ uncaught (Store kinds.Int 4)
    ∷ uncaught (Store kinds.Int 3)
    ∷ uncaught (Load kinds.Int 3)
    ∷ uncaught (Store kinds.Int 8)
    ∷ uncaught (Load kinds.Int 4)
    ∷ uncaught (Store kinds.Int 9)
    ∷ uncaught (New 13)
    ∷ uncaught (Shuffle DUP)
    ∷ uncaught (Load kinds.Int 8)
    ∷ uncaught (Load kinds.Int 9)
    ∷ uncaught (Const imms.Null)
    ∷ uncaught (Invoke INVOKESPECIAL 24 0)
    ∷ uncaught (Store kinds.Ref 12)
    ∷ uncaught (Load kinds.Ref 12)
    ∷ uncaught (Store kinds.Ref 1)
    ∷ uncaught (Load kinds.Int 0)
    ∷ uncaught (Iinc 0 (negsuc 0))
    ∷ uncaught (If IFLE 49)
    ∷ uncaught (Const (imms.Int (pos 0)))
    ∷ uncaught (Store kinds.Int 10)
    ∷ uncaught (Const (imms.Int (pos 0)))
    ∷ uncaught (Store kinds.Int 11)
    ∷ uncaught (Load kinds.Ref 1)
    ∷ uncaught (GetField 20)
    ∷ uncaught (Const (imms.Int (pos 1)))
    ∷ uncaught (Pure IADD)
    ∷ uncaught (Const (imms.Int (pos 0)))
    ∷ uncaught (Store kinds.Int 7)
    ∷ uncaught (Store kinds.Int 6)
    ∷ uncaught (Load kinds.Int 6)
    ∷ uncaught (Store kinds.Int 10)
    ∷ uncaught (Load kinds.Int 7)
    ∷ uncaught (Store kinds.Int 11)
    ∷ uncaught (New 13)
    ∷ uncaught (Shuffle DUP)
    ∷ uncaught (Load kinds.Int 10)
    ∷ uncaught (Load kinds.Int 11)
    ∷ uncaught (Const imms.Null)
    ∷ uncaught (Invoke INVOKESPECIAL 24 0)
    ∷ uncaught (Store kinds.Ref 13)
    ∷ uncaught (Load kinds.Ref 13)
    ∷ uncaught (Store kinds.Ref 1)
    ∷ uncaught (Goto 21)
    ∷ uncaught (Load kinds.Ref 1)
    ∷ uncaught (GetField 20)
    ∷ uncaught (Return (Some kinds.Int))
    ∷ []

abbrev pub wanted : Wanted
wanted = record {
  items = items;
  pool = pool ++ (
      Some (Utf8 (codes "(II[Z)V"))
      ∷ Some (NameAndType 5 22)
      ∷ Some (Methodref 13 23)
      ∷ []);
  places = makes_object (codes "P") ∷ makes_object (codes "P") ∷ [];
  units = 18;
}
