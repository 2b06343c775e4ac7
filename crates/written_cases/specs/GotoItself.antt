-- A loop that copies a virtual object from one local to another: nothing of it is written but its goto, which leads to itself.
use Rattle.std.specs.Prelude.{ℕ, List, [], ◌∷◌, codes, Some, pos, None}
use Rattle.class_model.specs.Pool.{Constants}
use Rattle.class_model.specs.declared.class_file.ClassFile.{ClassFile}
use Rattle.class_model.specs.declared.descriptor.FieldType.TheVariants as fields
use Rattle.class_model.specs.declared.descriptor.Kind.TheVariants as kinds
use Rattle.class_model.specs.declared.frame.VType.{VType}
use Rattle.class_model.specs.declared.frame.VType.TheVariants.{Int, Object, Top, Uninit}
use Rattle.class_model.specs.declared.instr.Imm.TheVariants as imms
use Rattle.class_model.specs.declared.instr.Instr.TheVariants.{Const, Goto, Invoke, Load, New, PutField, Shuffle, Store}
use Rattle.class_model.specs.declared.opcodes.TheConstants.{DUP, INVOKESPECIAL, POP}
use Rattle.class_model.specs.declared.pool.Const.TheVariants.{Class, Fieldref, Methodref, NameAndType, String, Utf8}
use Rattle.flow_code.specs.declared.point.FlatInstr.TheVariants.{Of}
use Rattle.plan_flow.specs.Written.WrittenCode.{short}
use Rattle.making_code.specs.IndexedItems.{IndexedItem}
use Rattle.virtual_state.specs.declared.slot.Slot.TheVariants.{Plain}
use Rattle.written_cases.specs.CaseWords.{Case, CasePoint, Held, Wanted, jump, next, planned, uncaught}
use Rattle.written_cases.specs.PointClass.{p_file}

-- ---- the class of the method

abbrev pub pool : Constants
pool =
    None
    ∷ Some (Utf8 (codes "T"))
    ∷ Some (Class 1)
    ∷ Some (Utf8 (codes "java/lang/Object"))
    ∷ Some (Class 3)
    ∷ Some (Utf8 (codes "a"))
    ∷ Some (Utf8 (codes "()V"))
    ∷ Some (Utf8 (codes "Code"))
    ∷ Some (Utf8 (codes "P"))
    ∷ Some (Class 8)
    ∷ Some (Utf8 (codes "<init>"))
    ∷ Some (Utf8 (codes "(II)V"))
    ∷ Some (NameAndType 10 11)
    ∷ Some (Methodref 9 12)
    ∷ Some (Utf8 (codes "StackMapTable"))
    ∷ Some (Utf8 (codes "b"))
    ∷ Some (Utf8 (codes "c"))
    ∷ Some (Utf8 (codes "(I)I"))
    ∷ Some (Utf8 (codes "x"))
    ∷ Some (Utf8 (codes "I"))
    ∷ Some (NameAndType 18 19)
    ∷ Some (Fieldref 9 20)
    ∷ Some (Utf8 (codes "d"))
    ∷ Some (Utf8 (codes "s"))
    ∷ Some (String 23)
    ∷ Some (Utf8 (codes "java/lang/String"))
    ∷ Some (Class 25)
    ∷ Some (Utf8 (codes "e"))
    ∷ []

abbrev pub file : ClassFile
file = record {
  major = 52;
  minor = 0;
  pool = pool;
  flags = 32;
  this_class = 2;
  super_class = 4;
  interfaces = [];
  fields = [];
  methods = record { flags = 8; name = 5; desc = 6; attrs = [] }
      ∷ record { flags = 8; name = 15; desc = 6; attrs = [] }
      ∷ record { flags = 8; name = 16; desc = 17; attrs = [] }
      ∷ record { flags = 8; name = 22; desc = 17; attrs = [] }
      ∷ record { flags = 8; name = 27; desc = 17; attrs = [] }
      ∷ [];
  attrs = [];
}

-- ---- the flat code with its plan

abbrev First : VType
First = Uninit 0

abbrev P : VType
P = Object (codes "P")

abbrev Second : VType
Second = Uninit 17

abbrev at_start : List VType
at_start = Top ∷ Top ∷ Top ∷ Top ∷ Top ∷ Top ∷ Top ∷ Top ∷ []

abbrev passing_y : List VType
passing_y = Top ∷ Top ∷ Top ∷ Top ∷ Int ∷ Top ∷ Top ∷ Top ∷ []

abbrev passing_both : List VType
passing_both = Top ∷ Top ∷ Top ∷ Int ∷ Int ∷ Top ∷ Top ∷ Top ∷ []

abbrev in_constructor : List VType
in_constructor = Top ∷ Top ∷ First ∷ Int ∷ Int ∷ Top ∷ Top ∷ Top ∷ []

abbrev behind_object_init : List VType
behind_object_init = Top ∷ Top ∷ P ∷ Int ∷ Int ∷ Top ∷ Top ∷ Top ∷ []

abbrev passing_y_again : List VType
passing_y_again = Top ∷ Top ∷ Top ∷ Top ∷ Top ∷ Top ∷ Top ∷ Int ∷ []

abbrev passing_both_again : List VType
passing_both_again = Top ∷ Top ∷ Top ∷ Top ∷ Top ∷ Top ∷ Int ∷ Int ∷ []

abbrev in_constructor_again : List VType
in_constructor_again = Top ∷ Top ∷ Top ∷ Top ∷ Top ∷ Second ∷ Int ∷ Int ∷ []

abbrev behind_object_init_again : List VType
behind_object_init_again = Top ∷ Top ∷ Top ∷ Top ∷ Top ∷ P ∷ Int ∷ Int ∷ []

abbrev with_one : List VType
with_one = P ∷ Top ∷ Top ∷ Top ∷ Top ∷ Top ∷ Top ∷ Top ∷ []

abbrev with_both : List VType
with_both = P ∷ P ∷ Top ∷ Top ∷ Top ∷ Top ∷ Top ∷ Top ∷ []

-- the first object, and where it is
abbrev first : List ℕ → Held
first places = record { site = 0; fields = Plain ∷ Plain ∷ []; depth = 0; places = places }

-- the second object, and where it is
abbrev second : List ℕ → Held
second places = record { site = 1; fields = Plain ∷ Plain ∷ []; depth = 0; places = places }

abbrev pub points : List CasePoint
points =
    planned (Of 1 (New 9)) at_start [] [] (next 1 ∷ [])
    ∷ planned (Of 1 (Shuffle DUP)) at_start (First ∷ []) (first (8 ∷ []) ∷ []) (next 2 ∷ [])
    ∷ planned (Of 1 (Const (imms.Int (pos 1)))) at_start (First ∷ First ∷ []) (first (8 ∷ 9 ∷ []) ∷ []) (next 3 ∷ [])
    ∷ planned (Of 1 (Const (imms.Int (pos 2)))) at_start (First ∷ First ∷ Int ∷ []) (first (8 ∷ 9 ∷ []) ∷ []) (next 4 ∷ [])
    ∷ planned (Of 1 (Store kinds.Int 4)) at_start (First ∷ First ∷ Int ∷ Int ∷ []) (first (8 ∷ 9 ∷ []) ∷ []) (next 5 ∷ [])
    ∷ planned (Of 1 (Store kinds.Int 3)) passing_y (First ∷ First ∷ Int ∷ []) (first (8 ∷ 9 ∷ []) ∷ []) (next 6 ∷ [])
    ∷ planned (Of 1 (Store kinds.Ref 2)) passing_both (First ∷ First ∷ []) (first (8 ∷ 9 ∷ []) ∷ []) (next 7 ∷ [])
    ∷ planned (Of 0 (Load kinds.Ref 2)) in_constructor (First ∷ []) (first (2 ∷ 8 ∷ []) ∷ []) (next 8 ∷ [])
    ∷ planned (Of 0 (Invoke INVOKESPECIAL 13 0)) in_constructor (First ∷ First ∷ []) (first (2 ∷ 8 ∷ 9 ∷ []) ∷ []) (next 9 ∷ [])
    ∷ planned (Of 0 (Load kinds.Ref 2)) behind_object_init (First ∷ []) (first (2 ∷ 8 ∷ []) ∷ []) (next 10 ∷ [])
    ∷ planned (Of 0 (Load kinds.Int 3)) behind_object_init (First ∷ P ∷ []) (first (2 ∷ 8 ∷ 9 ∷ []) ∷ []) (next 11 ∷ [])
    ∷ planned (Of 0 (PutField 15)) behind_object_init (First ∷ P ∷ Int ∷ []) (first (2 ∷ 8 ∷ 9 ∷ []) ∷ []) (next 12 ∷ [])
    ∷ planned (Of 0 (Load kinds.Ref 2)) behind_object_init (First ∷ []) (first (2 ∷ 8 ∷ []) ∷ []) (next 13 ∷ [])
    ∷ planned (Of 0 (Load kinds.Int 4)) behind_object_init (First ∷ P ∷ []) (first (2 ∷ 8 ∷ 9 ∷ []) ∷ []) (next 14 ∷ [])
    ∷ planned (Of 0 (PutField 17)) behind_object_init (First ∷ P ∷ Int ∷ []) (first (2 ∷ 8 ∷ 9 ∷ []) ∷ []) (next 15 ∷ [])
    ∷ planned (Of 0 (Goto 16)) behind_object_init (First ∷ []) (first (2 ∷ 8 ∷ []) ∷ []) (jump 0 16 ∷ [])
    ∷ planned (Of 1 (Shuffle POP)) at_start (P ∷ []) (first (8 ∷ []) ∷ []) (next 17 ∷ [])
    ∷ planned (Of 1 (New 9)) at_start [] [] (next 18 ∷ [])
    ∷ planned (Of 1 (Shuffle DUP)) at_start (Second ∷ []) (second (8 ∷ []) ∷ []) (next 19 ∷ [])
    ∷ planned (Of 1 (Const (imms.Int (pos 1)))) at_start (Second ∷ Second ∷ []) (second (8 ∷ 9 ∷ []) ∷ []) (next 20 ∷ [])
    ∷ planned (Of 1 (Const (imms.Int (pos 2)))) at_start (Second ∷ Second ∷ Int ∷ []) (second (8 ∷ 9 ∷ []) ∷ []) (next 21 ∷ [])
    ∷ planned (Of 1 (Store kinds.Int 7)) at_start (Second ∷ Second ∷ Int ∷ Int ∷ []) (second (8 ∷ 9 ∷ []) ∷ []) (next 22 ∷ [])
    ∷ planned (Of 1 (Store kinds.Int 6)) passing_y_again (Second ∷ Second ∷ Int ∷ []) (second (8 ∷ 9 ∷ []) ∷ []) (next 23 ∷ [])
    ∷ planned (Of 1 (Store kinds.Ref 5)) passing_both_again (Second ∷ Second ∷ []) (second (8 ∷ 9 ∷ []) ∷ []) (next 24 ∷ [])
    ∷ planned (Of 0 (Load kinds.Ref 5)) in_constructor_again (Second ∷ []) (second (5 ∷ 8 ∷ []) ∷ []) (next 25 ∷ [])
    ∷ planned (Of 0 (Invoke INVOKESPECIAL 13 0)) in_constructor_again (Second ∷ Second ∷ []) (second (5 ∷ 8 ∷ 9 ∷ []) ∷ []) (next 26 ∷ [])
    ∷ planned (Of 0 (Load kinds.Ref 5)) behind_object_init_again (Second ∷ []) (second (5 ∷ 8 ∷ []) ∷ []) (next 27 ∷ [])
    ∷ planned (Of 0 (Load kinds.Int 6)) behind_object_init_again (Second ∷ P ∷ []) (second (5 ∷ 8 ∷ 9 ∷ []) ∷ []) (next 28 ∷ [])
    ∷ planned (Of 0 (PutField 15)) behind_object_init_again (Second ∷ P ∷ Int ∷ []) (second (5 ∷ 8 ∷ 9 ∷ []) ∷ []) (next 29 ∷ [])
    ∷ planned (Of 0 (Load kinds.Ref 5)) behind_object_init_again (Second ∷ []) (second (5 ∷ 8 ∷ []) ∷ []) (next 30 ∷ [])
    ∷ planned (Of 0 (Load kinds.Int 7)) behind_object_init_again (Second ∷ P ∷ []) (second (5 ∷ 8 ∷ 9 ∷ []) ∷ []) (next 31 ∷ [])
    ∷ planned (Of 0 (PutField 17)) behind_object_init_again (Second ∷ P ∷ Int ∷ []) (second (5 ∷ 8 ∷ 9 ∷ []) ∷ []) (next 32 ∷ [])
    ∷ planned (Of 0 (Goto 33)) behind_object_init_again (Second ∷ []) (second (5 ∷ 8 ∷ []) ∷ []) (jump 0 33 ∷ [])
    ∷ planned (Of 1 (Store kinds.Ref 0)) at_start (P ∷ []) (second (8 ∷ []) ∷ []) (next 34 ∷ [])
    ∷ planned (Of 1 (Load kinds.Ref 0)) with_one [] (second (0 ∷ []) ∷ []) (next 35 ∷ [])
    ∷ planned (Of 1 (Store kinds.Ref 1)) with_one (P ∷ []) (second (0 ∷ 8 ∷ []) ∷ []) (next 36 ∷ [])
    ∷ planned (Of 1 (Goto 34)) with_both [] (second (0 ∷ 1 ∷ []) ∷ []) (jump 0 34 ∷ [])
    ∷ []

abbrev pub this : Case
this = record {
  folder = p_file ∷ file ∷ [];
  class = 1;
  method = 0;
  locals = 8;
  sites =
      record { at = 0; class = codes "P"; fields = fields.Int ∷ fields.Int ∷ [] }
      ∷ record { at = 17; class = codes "P"; fields = fields.Int ∷ fields.Int ∷ [] } ∷ [];
  points = points;
  constructor = λ class. codes "(II[Z)V";
  form = short;
}

-- ---- what is written

abbrev pub items : List IndexedItem
items =
    uncaught (Const (imms.Int (pos 0)))
    ∷ uncaught (Store kinds.Int 8)
    ∷ uncaught (Const (imms.Int (pos 0)))
    ∷ uncaught (Store kinds.Int 9)
    ∷ uncaught (Const (imms.Int (pos 1)))
    ∷ uncaught (Const (imms.Int (pos 2)))
    ∷ uncaught (Store kinds.Int 4)
    ∷ uncaught (Store kinds.Int 3)
    ∷ uncaught (Load kinds.Int 3)
    ∷ uncaught (Store kinds.Int 8)
    ∷ uncaught (Load kinds.Int 4)
    ∷ uncaught (Store kinds.Int 9)
    ∷ uncaught (Const (imms.Int (pos 0)))
    ∷ uncaught (Store kinds.Int 10)
    ∷ uncaught (Const (imms.Int (pos 0)))
    ∷ uncaught (Store kinds.Int 11)
    ∷ uncaught (Const (imms.Int (pos 1)))
    ∷ uncaught (Const (imms.Int (pos 2)))
    ∷ uncaught (Store kinds.Int 7)
    ∷ uncaught (Store kinds.Int 6)
    ∷ uncaught (Load kinds.Int 6)
    ∷ uncaught (Store kinds.Int 10)
    ∷ uncaught (Load kinds.Int 7)
    ∷ uncaught (Store kinds.Int 11)
    ∷ uncaught (Goto 24)
    ∷ []

abbrev pub bytes : List ℕ
bytes =
    3 ∷ 54 ∷ 8 ∷ 3 ∷ 54 ∷ 9 ∷ 4 ∷ 5 ∷ 54 ∷ 4 ∷ 62 ∷ 29 ∷ 54 ∷ 8 ∷ 21 ∷ 4 ∷ 54 ∷ 9 ∷ 3
    ∷ 54 ∷ 10 ∷ 3 ∷ 54 ∷ 11 ∷ 4 ∷ 5 ∷ 54 ∷ 7 ∷ 54 ∷ 6 ∷ 21 ∷ 6 ∷ 54 ∷ 10 ∷ 21 ∷ 7
    ∷ 54 ∷ 11 ∷ 167 ∷ 0 ∷ 0
    ∷ []

abbrev pub wanted : Wanted
wanted = record {
  items = items;
  pool = pool;
  places = [];
  units = 18;
}
