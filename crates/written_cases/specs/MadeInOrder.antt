-- An object that holds another one lies on the stack below an entry whose type is forgotten: both are made, the held one first.
use Rattle.std.specs.Prelude.{ℕ, List, [], ◌∷◌, codes, Some, pos, ◌++◌, None, bytes_eq, if◌then◌else◌}
use Rattle.class_model.specs.Pool.{Constants}
use Rattle.class_model.specs.declared.class_file.ClassFile.{ClassFile}
use Rattle.class_model.specs.declared.descriptor.FieldType.TheVariants as fields
use Rattle.class_model.specs.declared.descriptor.Kind.TheVariants as kinds
use Rattle.class_model.specs.declared.frame.VType.{VType}
use Rattle.class_model.specs.declared.frame.VType.TheVariants.{Int, Object, Top, Uninit}
use Rattle.class_model.specs.declared.instr.Imm.TheVariants as imms
use Rattle.class_model.specs.declared.instr.Instr.TheVariants.{Const, GetField, Goto, Invoke, Load, New, PutField, Return, Shuffle, Store}
use Rattle.class_model.specs.declared.opcodes.TheConstants.{DUP, INVOKESPECIAL}
use Rattle.class_model.specs.declared.pool.Const.TheVariants.{Class, Fieldref, Methodref, NameAndType, Utf8}
use Rattle.flow_code.specs.declared.point.FlatInstr.TheVariants.{Of}
use Rattle.making_code.specs.MakeOrder.{IsMakeOrder}
use Rattle.plan_flow.specs.Written.Places.{makes_object}
use Rattle.plan_flow.specs.Written.WrittenCode.{short}
use Rattle.making_code.specs.IndexedItems.{IndexedItem}
use Rattle.virtual_state.specs.declared.slot.Slot.TheVariants.{Plain, Virt}
use Rattle.virtual_state.specs.declared.slot.VObject.{VObject}
use Rattle.written_cases.specs.CaseWords.{Case, CasePoint, Held, Wanted, in_order, jump, made_before, next, planned, uncaught}
use Rattle.written_cases.specs.BoxClass.{box_file}
use Rattle.written_cases.specs.PointClass.{p_file}

-- ---- the class of the method

abbrev pub pool : Constants
pool =
    None
    ∷ Some (Utf8 (codes "T"))
    ∷ Some (Class 1)
    ∷ Some (Utf8 (codes "java/lang/Object"))
    ∷ Some (Class 3)
    ∷ Some (Utf8 (codes "mk"))
    ∷ Some (Utf8 (codes "()LP;"))
    ∷ Some (Utf8 (codes "Code"))
    ∷ Some (Utf8 (codes "P"))
    ∷ Some (Class 8)
    ∷ Some (Utf8 (codes "<init>"))
    ∷ Some (Utf8 (codes "(II)V"))
    ∷ Some (NameAndType 10 11)
    ∷ Some (Methodref 9 12)
    ∷ Some (Utf8 (codes "a"))
    ∷ Some (Utf8 (codes "(I)I"))
    ∷ Some (Utf8 (codes "x"))
    ∷ Some (Utf8 (codes "I"))
    ∷ Some (NameAndType 16 17)
    ∷ Some (Fieldref 9 18)
    ∷ Some (Utf8 (codes "StackMapTable"))
    ∷ Some (Utf8 (codes "b"))
    ∷ Some (Utf8 (codes "c"))
    ∷ Some (Utf8 (codes "d"))
    ∷ Some (Utf8 (codes "e"))
    ∷ Some (Utf8 (codes "f"))
    ∷ Some (Utf8 (codes "g"))
    ∷ Some (Utf8 (codes "Box"))
    ∷ Some (Class 27)
    ∷ Some (Utf8 (codes "(Ljava/lang/Object;)V"))
    ∷ Some (NameAndType 10 29)
    ∷ Some (Methodref 28 30)
    ∷ Some (Utf8 (codes "v"))
    ∷ Some (Utf8 (codes "Ljava/lang/Object;"))
    ∷ Some (NameAndType 32 33)
    ∷ Some (Fieldref 28 34)
    ∷ Some (Utf8 (codes "h"))
    ∷ Some (Utf8 (codes "i"))
    ∷ Some (Utf8 (codes "j"))
    ∷ Some (Utf8 (codes "k"))
    ∷ Some (NameAndType 5 6)
    ∷ Some (Methodref 2 40)
    ∷ Some (Utf8 (codes "l"))
    ∷ Some (Utf8 (codes "m"))
    ∷ Some (Utf8 (codes "n"))
    ∷ Some (Utf8 (codes "o"))
    ∷ []

abbrev pub file : ClassFile
file = record {
  major = 52;
  minor = 0;
  pool = pool;
  flags = 32;
  this_class = 2;
  super_class = 4;
  interfaces = [];
  fields = [];
  methods = record { flags = 8; name = 5; desc = 6; attrs = [] }
      ∷ record { flags = 8; name = 14; desc = 15; attrs = [] }
      ∷ record { flags = 8; name = 21; desc = 15; attrs = [] }
      ∷ record { flags = 8; name = 22; desc = 15; attrs = [] }
      ∷ record { flags = 8; name = 23; desc = 15; attrs = [] }
      ∷ record { flags = 8; name = 24; desc = 15; attrs = [] }
      ∷ record { flags = 8; name = 25; desc = 15; attrs = [] }
      ∷ record { flags = 8; name = 26; desc = 15; attrs = [] }
      ∷ record { flags = 8; name = 36; desc = 15; attrs = [] }
      ∷ record { flags = 8; name = 37; desc = 15; attrs = [] }
      ∷ record { flags = 8; name = 38; desc = 15; attrs = [] }
      ∷ record { flags = 8; name = 39; desc = 15; attrs = [] }
      ∷ record { flags = 8; name = 42; desc = 15; attrs = [] }
      ∷ record { flags = 8; name = 43; desc = 15; attrs = [] }
      ∷ record { flags = 8; name = 44; desc = 15; attrs = [] }
      ∷ record { flags = 8; name = 45; desc = 15; attrs = [] }
      ∷ [];
  attrs = [];
}

-- ---- the flat code with its plan

abbrev First : VType
First = Uninit 0

abbrev P : VType
P = Object (codes "P")

abbrev Second : VType
Second = Uninit 17

abbrev Third : VType
Third = Uninit 19

abbrev Any : VType
Any = Object (codes "java/lang/Object")

abbrev Box : VType
Box = Object (codes "Box")

abbrev at_start : List VType
at_start = Int ∷ Top ∷ Top ∷ Top ∷ Top ∷ Top ∷ Top ∷ Top ∷ Top ∷ Top ∷ Top ∷ []

abbrev passing_y : List VType
passing_y = Int ∷ Top ∷ Top ∷ Top ∷ Top ∷ Int ∷ Top ∷ Top ∷ Top ∷ Top ∷ Top ∷ []

abbrev passing_both : List VType
passing_both = Int ∷ Top ∷ Top ∷ Top ∷ Int ∷ Int ∷ Top ∷ Top ∷ Top ∷ Top ∷ Top ∷ []

abbrev in_constructor : List VType
in_constructor = Int ∷ Top ∷ Top ∷ First ∷ Int ∷ Int ∷ Top ∷ Top ∷ Top ∷ Top ∷ Top ∷ []

abbrev behind_object_init : List VType
behind_object_init = Int ∷ Top ∷ Top ∷ P ∷ Int ∷ Int ∷ Top ∷ Top ∷ Top ∷ Top ∷ Top ∷ []

abbrev with_point : List VType
with_point = Int ∷ P ∷ Top ∷ Top ∷ Top ∷ Top ∷ Top ∷ Top ∷ Top ∷ Top ∷ Top ∷ []

abbrev passing_y_again : List VType
passing_y_again = Int ∷ P ∷ Top ∷ Top ∷ Top ∷ Top ∷ Top ∷ Top ∷ Int ∷ Top ∷ Top ∷ []

abbrev passing_both_again : List VType
passing_both_again = Int ∷ P ∷ Top ∷ Top ∷ Top ∷ Top ∷ Top ∷ Int ∷ Int ∷ Top ∷ Top ∷ []

abbrev in_constructor_again : List VType
in_constructor_again = Int ∷ P ∷ Top ∷ Top ∷ Top ∷ Top ∷ Third ∷ Int ∷ Int ∷ Top ∷ Top ∷ []

abbrev behind_object_init_again : List VType
behind_object_init_again = Int ∷ P ∷ Top ∷ Top ∷ Top ∷ Top ∷ P ∷ Int ∷ Int ∷ Top ∷ Top ∷ []

abbrev passing_inner : List VType
passing_inner = Int ∷ P ∷ Top ∷ Top ∷ Top ∷ Top ∷ Top ∷ Top ∷ Top ∷ Top ∷ P ∷ []

abbrev in_outer : List VType
in_outer = Int ∷ P ∷ Top ∷ Top ∷ Top ∷ Top ∷ Top ∷ Top ∷ Top ∷ Second ∷ Any ∷ []

abbrev behind_outer : List VType
behind_outer = Int ∷ P ∷ Top ∷ Top ∷ Top ∷ Top ∷ Top ∷ Top ∷ Top ∷ Box ∷ Any ∷ []

-- the first object, and where it is
abbrev first : List ℕ → Held
first places = record { site = 0; fields = Plain ∷ Plain ∷ []; depth = 0; places = places }

-- the second object, and where it is
abbrev second : List ℕ → Held
second places = record { site = 1; fields = Plain ∷ []; depth = 0; places = places }

-- the third object, and where it is
abbrev third : List ℕ → Held
third places = record { site = 2; fields = Plain ∷ Plain ∷ []; depth = 0; places = places }

-- the second object, whose field holds another one, and where it is
abbrev second_holding : List ℕ → Held
second_holding places = record { site = 1; fields = Virt 2 ∷ []; depth = 0; places = places }

abbrev pub points : List CasePoint
points =
    planned (Of 2 (New 9)) at_start [] [] (next 1 ∷ [])
    ∷ planned (Of 2 (Shuffle DUP)) at_start (First ∷ []) (first (11 ∷ []) ∷ []) (next 2 ∷ [])
    ∷ planned (Of 2 (Const (imms.Int (pos 1)))) at_start (First ∷ First ∷ []) (first (11 ∷ 12 ∷ []) ∷ []) (next 3 ∷ [])
    ∷ planned (Of 2 (Const (imms.Int (pos 2)))) at_start (First ∷ First ∷ Int ∷ []) (first (11 ∷ 12 ∷ []) ∷ []) (next 4 ∷ [])
    ∷ planned (Of 2 (Store kinds.Int 5)) at_start (First ∷ First ∷ Int ∷ Int ∷ []) (first (11 ∷ 12 ∷ []) ∷ []) (next 5 ∷ [])
    ∷ planned (Of 2 (Store kinds.Int 4)) passing_y (First ∷ First ∷ Int ∷ []) (first (11 ∷ 12 ∷ []) ∷ []) (next 6 ∷ [])
    ∷ planned (Of 2 (Store kinds.Ref 3)) passing_both (First ∷ First ∷ []) (first (11 ∷ 12 ∷ []) ∷ []) (next 7 ∷ [])
    ∷ planned (Of 1 (Load kinds.Ref 3)) in_constructor (First ∷ []) (first (3 ∷ 11 ∷ []) ∷ []) (next 8 ∷ [])
    ∷ planned (Of 1 (Invoke INVOKESPECIAL 13 0)) in_constructor (First ∷ First ∷ []) (first (3 ∷ 11 ∷ 12 ∷ []) ∷ []) (next 9 ∷ [])
    ∷ planned (Of 1 (Load kinds.Ref 3)) behind_object_init (First ∷ []) (first (3 ∷ 11 ∷ []) ∷ []) (next 10 ∷ [])
    ∷ planned (Of 1 (Load kinds.Int 4)) behind_object_init (First ∷ P ∷ []) (first (3 ∷ 11 ∷ 12 ∷ []) ∷ []) (next 11 ∷ [])
    ∷ planned (Of 1 (PutField 15)) behind_object_init (First ∷ P ∷ Int ∷ []) (first (3 ∷ 11 ∷ 12 ∷ []) ∷ []) (next 12 ∷ [])
    ∷ planned (Of 1 (Load kinds.Ref 3)) behind_object_init (First ∷ []) (first (3 ∷ 11 ∷ []) ∷ []) (next 13 ∷ [])
    ∷ planned (Of 1 (Load kinds.Int 5)) behind_object_init (First ∷ P ∷ []) (first (3 ∷ 11 ∷ 12 ∷ []) ∷ []) (next 14 ∷ [])
    ∷ planned (Of 1 (PutField 17)) behind_object_init (First ∷ P ∷ Int ∷ []) (first (3 ∷ 11 ∷ 12 ∷ []) ∷ []) (next 15 ∷ [])
    ∷ planned (Of 1 (Goto 16)) behind_object_init (First ∷ []) (first (3 ∷ 11 ∷ []) ∷ []) (jump 0 16 ∷ [])
    ∷ planned (Of 2 (Store kinds.Ref 1)) at_start (P ∷ []) (first (11 ∷ []) ∷ []) (next 17 ∷ [])
    ∷ planned (Of 2 (New 28)) with_point [] (first (1 ∷ []) ∷ []) (next 18 ∷ [])
    ∷ planned (Of 2 (Shuffle DUP)) with_point (Second ∷ []) (first (1 ∷ []) ∷ second (11 ∷ []) ∷ []) (next 19 ∷ [])
    ∷ planned (Of 2 (New 9)) with_point (Second ∷ Second ∷ []) (first (1 ∷ []) ∷ second (11 ∷ 12 ∷ []) ∷ []) (next 20 ∷ [])
    ∷ planned (Of 2 (Shuffle DUP)) with_point (Second ∷ Second ∷ Third ∷ []) (first (1 ∷ []) ∷ second (11 ∷ 12 ∷ []) ∷ third (13 ∷ []) ∷ []) (next 21 ∷ [])
    ∷ planned (Of 2 (Const (imms.Int (pos 1)))) with_point (Second ∷ Second ∷ Third ∷ Third ∷ []) (first (1 ∷ []) ∷ second (11 ∷ 12 ∷ []) ∷ third (13 ∷ 14 ∷ []) ∷ []) (next 22 ∷ [])
    ∷ planned (Of 2 (Const (imms.Int (pos 2)))) with_point (Second ∷ Second ∷ Third ∷ Third ∷ Int ∷ []) (first (1 ∷ []) ∷ second (11 ∷ 12 ∷ []) ∷ third (13 ∷ 14 ∷ []) ∷ []) (next 23 ∷ [])
    ∷ planned (Of 2 (Store kinds.Int 8)) with_point (Second ∷ Second ∷ Third ∷ Third ∷ Int ∷ Int ∷ []) (first (1 ∷ []) ∷ second (11 ∷ 12 ∷ []) ∷ third (13 ∷ 14 ∷ []) ∷ []) (next 24 ∷ [])
    ∷ planned (Of 2 (Store kinds.Int 7)) passing_y_again (Second ∷ Second ∷ Third ∷ Third ∷ Int ∷ []) (first (1 ∷ []) ∷ second (11 ∷ 12 ∷ []) ∷ third (13 ∷ 14 ∷ []) ∷ []) (next 25 ∷ [])
    ∷ planned (Of 2 (Store kinds.Ref 6)) passing_both_again (Second ∷ Second ∷ Third ∷ Third ∷ []) (first (1 ∷ []) ∷ second (11 ∷ 12 ∷ []) ∷ third (13 ∷ 14 ∷ []) ∷ []) (next 26 ∷ [])
    ∷ planned (Of 1 (Load kinds.Ref 6)) in_constructor_again (Second ∷ Second ∷ Third ∷ []) (first (1 ∷ []) ∷ second (11 ∷ 12 ∷ []) ∷ third (6 ∷ 13 ∷ []) ∷ []) (next 27 ∷ [])
    ∷ planned (Of 1 (Invoke INVOKESPECIAL 13 0)) in_constructor_again (Second ∷ Second ∷ Third ∷ Third ∷ []) (first (1 ∷ []) ∷ second (11 ∷ 12 ∷ []) ∷ third (6 ∷ 13 ∷ 14 ∷ []) ∷ []) (next 28 ∷ [])
    ∷ planned (Of 1 (Load kinds.Ref 6)) behind_object_init_again (Second ∷ Second ∷ Third ∷ []) (first (1 ∷ []) ∷ second (11 ∷ 12 ∷ []) ∷ third (6 ∷ 13 ∷ []) ∷ []) (next 29 ∷ [])
    ∷ planned (Of 1 (Load kinds.Int 7)) behind_object_init_again (Second ∷ Second ∷ Third ∷ P ∷ []) (first (1 ∷ []) ∷ second (11 ∷ 12 ∷ []) ∷ third (6 ∷ 13 ∷ 14 ∷ []) ∷ []) (next 30 ∷ [])
    ∷ planned (Of 1 (PutField 15)) behind_object_init_again (Second ∷ Second ∷ Third ∷ P ∷ Int ∷ []) (first (1 ∷ []) ∷ second (11 ∷ 12 ∷ []) ∷ third (6 ∷ 13 ∷ 14 ∷ []) ∷ []) (next 31 ∷ [])
    ∷ planned (Of 1 (Load kinds.Ref 6)) behind_object_init_again (Second ∷ Second ∷ Third ∷ []) (first (1 ∷ []) ∷ second (11 ∷ 12 ∷ []) ∷ third (6 ∷ 13 ∷ []) ∷ []) (next 32 ∷ [])
    ∷ planned (Of 1 (Load kinds.Int 8)) behind_object_init_again (Second ∷ Second ∷ Third ∷ P ∷ []) (first (1 ∷ []) ∷ second (11 ∷ 12 ∷ []) ∷ third (6 ∷ 13 ∷ 14 ∷ []) ∷ []) (next 33 ∷ [])
    ∷ planned (Of 1 (PutField 17)) behind_object_init_again (Second ∷ Second ∷ Third ∷ P ∷ Int ∷ []) (first (1 ∷ []) ∷ second (11 ∷ 12 ∷ []) ∷ third (6 ∷ 13 ∷ 14 ∷ []) ∷ []) (next 34 ∷ [])
    ∷ planned (Of 1 (Goto 35)) behind_object_init_again (Second ∷ Second ∷ Third ∷ []) (first (1 ∷ []) ∷ second (11 ∷ 12 ∷ []) ∷ third (6 ∷ 13 ∷ []) ∷ []) (jump 0 35 ∷ [])
    ∷ planned (Of 2 (Store kinds.Ref 10)) with_point (Second ∷ Second ∷ P ∷ []) (first (1 ∷ []) ∷ second (11 ∷ 12 ∷ []) ∷ third (13 ∷ []) ∷ []) (next 36 ∷ [])
    ∷ planned (Of 2 (Store kinds.Ref 9)) passing_inner (Second ∷ Second ∷ []) (first (1 ∷ []) ∷ second (11 ∷ 12 ∷ []) ∷ third (10 ∷ []) ∷ []) (next 37 ∷ [])
    ∷ planned (Of 0 (Load kinds.Ref 9)) in_outer (Second ∷ []) (first (1 ∷ []) ∷ second (9 ∷ 11 ∷ []) ∷ third (10 ∷ []) ∷ []) (next 38 ∷ [])
    ∷ planned (Of 0 (Invoke INVOKESPECIAL 12 0)) in_outer (Second ∷ Second ∷ []) (first (1 ∷ []) ∷ second (9 ∷ 11 ∷ 12 ∷ []) ∷ third (10 ∷ []) ∷ []) (next 39 ∷ [])
    ∷ planned (Of 0 (Load kinds.Ref 9)) behind_outer (Second ∷ []) (first (1 ∷ []) ∷ second (9 ∷ 11 ∷ []) ∷ third (10 ∷ []) ∷ []) (next 40 ∷ [])
    ∷ planned (Of 0 (Load kinds.Ref 10)) behind_outer (Second ∷ Box ∷ []) (first (1 ∷ []) ∷ second (9 ∷ 11 ∷ 12 ∷ []) ∷ third (10 ∷ []) ∷ []) (next 41 ∷ [])
    ∷ planned (Of 0 (PutField 14)) behind_outer (Second ∷ Box ∷ Any ∷ []) (first (1 ∷ []) ∷ second (9 ∷ 11 ∷ 12 ∷ []) ∷ third (10 ∷ 13 ∷ []) ∷ []) (next 42 ∷ [])
    ∷ planned (Of 0 (Goto 43)) behind_outer (Second ∷ []) (first (1 ∷ []) ∷ second_holding (9 ∷ 11 ∷ []) ∷ third (10 ∷ []) ∷ []) (jump 0 43 ∷ [])
    ∷ in_order (2 ∷ 1 ∷ []) (made_before (1 ∷ 2 ∷ []) (planned (Of 2 (Const (imms.Int (pos 8)))) with_point (Box ∷ []) (first (1 ∷ []) ∷ second_holding (11 ∷ []) ∷ third [] ∷ []) (next 44 ∷ [])))
    ∷ planned (Of 2 (Load kinds.Ref 1)) with_point (Box ∷ Top ∷ []) (first (1 ∷ []) ∷ []) (next 45 ∷ [])
    ∷ planned (Of 2 (GetField 19)) with_point (Box ∷ Top ∷ P ∷ []) (first (1 ∷ 13 ∷ []) ∷ []) (next 46 ∷ [])
    ∷ planned (Of 2 (Return (Some kinds.Int))) with_point (Box ∷ Top ∷ Int ∷ []) (first (1 ∷ []) ∷ []) []
    ∷ []

abbrev pub this : Case
this = record {
  folder = box_file ∷ p_file ∷ file ∷ [];
  class = 2;
  method = 15;
  locals = 11;
  sites =
      record { at = 0; class = codes "P"; fields = fields.Int ∷ fields.Int ∷ [] }
      ∷ record { at = 17; class = codes "Box"; fields = fields.Named (codes "java/lang/Object") ∷ [] }
      ∷ record { at = 19; class = codes "P"; fields = fields.Int ∷ fields.Int ∷ [] } ∷ [];
  points = points;
  constructor = λ class. if bytes_eq class (codes "Box") then codes "(Ljava/lang/Object;[Z)V" else codes "(II[Z)V";
  form = short;
}

-- ---- what is written

abbrev pub items : List IndexedItem
items =
    uncaught (Const (imms.Int (pos 0)))
    ∷ uncaught (Store kinds.Int 11)
    ∷ uncaught (Const (imms.Int (pos 0)))
    ∷ uncaught (Store kinds.Int 12)
    ∷ uncaught (Const (imms.Int (pos 1)))
    ∷ uncaught (Const (imms.Int (pos 2)))
    ∷ uncaught (Store kinds.Int 5)
    ∷ uncaught (Store kinds.Int 4)
    ∷ uncaught (Load kinds.Int 4)
    ∷ uncaught (Store kinds.Int 11)
    ∷ uncaught (Load kinds.Int 5)
    ∷ uncaught (Store kinds.Int 12)
    ∷ uncaught (Const imms.Null)
    ∷ uncaught (Store kinds.Ref 13)
    ∷ uncaught (Const (imms.Int (pos 0)))
    ∷ uncaught (Store kinds.Int 14)
    ∷ uncaught (Const (imms.Int (pos 0)))
    ∷ uncaught (Store kinds.Int 15)
    ∷ uncaught (Const (imms.Int (pos 1)))
    ∷ uncaught (Const (imms.Int (pos 2)))
    ∷ uncaught (Store kinds.Int 8)
    ∷ uncaught (Store kinds.Int 7)
    ∷ uncaught (Load kinds.Int 7)
    ∷ uncaught (Store kinds.Int 14)
    ∷ uncaught (Load kinds.Int 8)
    ∷ uncaught (Store kinds.Int 15)
    ∷ uncaught (New 9)
    ∷ uncaught (Shuffle DUP)
    ∷ uncaught (Load kinds.Int 14)
    ∷ uncaught (Load kinds.Int 15)
    ∷ uncaught (Const imms.Null)
    ∷ uncaught (Invoke INVOKESPECIAL 48 0)
    ∷ uncaught (Store kinds.Ref 18)
    ∷ uncaught (New 28)
    ∷ uncaught (Shuffle DUP)
    ∷ uncaught (Load kinds.Ref 18)
    ∷ uncaught (Const imms.Null)
    ∷ uncaught (Invoke INVOKESPECIAL 51 0)
    ∷ uncaught (Store kinds.Ref 17)
    ∷ uncaught (Load kinds.Ref 17)
    ∷ uncaught (Const (imms.Int (pos 8)))
    ∷ uncaught (Load kinds.Int 11)
    ∷ uncaught (Return (Some kinds.Int))
    ∷ []

abbrev pub bytes : List ℕ
bytes =
    3 ∷ 54 ∷ 11 ∷ 3 ∷ 54 ∷ 12 ∷ 4 ∷ 5 ∷ 54 ∷ 5 ∷ 54 ∷ 4 ∷ 21 ∷ 4 ∷ 54 ∷ 11 ∷ 21 ∷ 5
    ∷ 54 ∷ 12 ∷ 1 ∷ 58 ∷ 13 ∷ 3 ∷ 54 ∷ 14 ∷ 3 ∷ 54 ∷ 15 ∷ 4 ∷ 5 ∷ 54 ∷ 8 ∷ 54 ∷ 7
    ∷ 21 ∷ 7 ∷ 54 ∷ 14 ∷ 21 ∷ 8 ∷ 54 ∷ 15 ∷ 187 ∷ 0 ∷ 9 ∷ 89 ∷ 21 ∷ 14 ∷ 21 ∷ 15 ∷ 1
    ∷ 183 ∷ 0 ∷ 48 ∷ 58 ∷ 18 ∷ 187 ∷ 0 ∷ 28 ∷ 89 ∷ 25 ∷ 18 ∷ 1 ∷ 183 ∷ 0 ∷ 51 ∷ 58 ∷ 17
    ∷ 25 ∷ 17 ∷ 16 ∷ 8 ∷ 21 ∷ 11 ∷ 172
    ∷ []

abbrev pub wanted : Wanted
wanted = record {
  items = items;
  pool = pool ++ (
      Some (Utf8 (codes "(II[Z)V"))
      ∷ Some (NameAndType 10 46)
      ∷ Some (Methodref 9 47)
      ∷ Some (Utf8 (codes "(Ljava/lang/Object;[Z)V"))
      ∷ Some (NameAndType 10 49)
      ∷ Some (Methodref 28 50)
      ∷ []);
  places = makes_object (codes "P") ∷ makes_object (codes "Box") ∷ [];
  units = 25;
}

-- ---- the order of making

-- the objects where two are made
abbrev pub objects : List VObject
objects =
    record { site = 0; fields = Plain ∷ Plain ∷ []; depth = 0 }
    ∷ record { site = 1; fields = Virt 2 ∷ []; depth = 0 }
    ∷ record { site = 2; fields = Plain ∷ Plain ∷ []; depth = 0 }
    ∷ []

abbrev pub IsOrdered : Type 0
IsOrdered = IsMakeOrder objects (1 ∷ 2 ∷ []) (2 ∷ 1 ∷ [])
