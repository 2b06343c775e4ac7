-- An object lies on the stack below an entry whose type a join forgets: it is made before the jump to the join, and what lies above it is
-- saved and loaded again.
use Rattle.std.specs.Prelude.{ℕ, List, [], ◌∷◌, codes, Some, pos, ◌++◌, None}
use Rattle.class_model.specs.Pool.{Constants}
use Rattle.class_model.specs.declared.class_file.ClassFile.{ClassFile}
use Rattle.class_model.specs.declared.descriptor.FieldType.TheVariants as fields
use Rattle.class_model.specs.declared.descriptor.Kind.TheVariants as kinds
use Rattle.class_model.specs.declared.frame.VType.{VType}
use Rattle.class_model.specs.declared.frame.VType.TheVariants.{Int, Object, Top, Uninit}
use Rattle.class_model.specs.declared.instr.Imm.TheVariants as imms
use Rattle.class_model.specs.declared.instr.Instr.TheVariants.{Const, GetField, Goto, If, Iinc, Invoke, Load, New, PutField, Return, Shuffle, Store}
use Rattle.class_model.specs.declared.opcodes.TheConstants.{DUP, IFNE, INVOKESPECIAL}
use Rattle.class_model.specs.declared.pool.Const.TheVariants.{Class, Fieldref, Methodref, NameAndType, Utf8}
use Rattle.flow_code.specs.declared.point.FlatInstr.TheVariants.{Of}
use Rattle.plan_flow.specs.Written.Places.{makes_object}
use Rattle.plan_flow.specs.Written.WrittenCode.{short}
use Rattle.making_code.specs.IndexedItems.{IndexedItem}
use Rattle.virtual_state.specs.declared.slot.Slot.TheVariants.{Plain}
use Rattle.written_cases.specs.CaseWords.{Case, CasePoint, Held, Wanted, jump, made_before, next, planned, uncaught}
use Rattle.written_cases.specs.BoxClass.{box_file}
use Rattle.written_cases.specs.PointClass.{p_file}

-- ---- the class of the method

abbrev pub pool : Constants
pool =
    None
    ∷ Some (Utf8 (codes "T"))
    ∷ Some (Class 1)
    ∷ Some (Utf8 (codes "java/lang/Object"))
    ∷ Some (Class 3)
    ∷ Some (Utf8 (codes "mk"))
    ∷ Some (Utf8 (codes "()LP;"))
    ∷ Some (Utf8 (codes "Code"))
    ∷ Some (Utf8 (codes "P"))
    ∷ Some (Class 8)
    ∷ Some (Utf8 (codes "<init>"))
    ∷ Some (Utf8 (codes "(II)V"))
    ∷ Some (NameAndType 10 11)
    ∷ Some (Methodref 9 12)
    ∷ Some (Utf8 (codes "a"))
    ∷ Some (Utf8 (codes "(I)I"))
    ∷ Some (Utf8 (codes "x"))
    ∷ Some (Utf8 (codes "I"))
    ∷ Some (NameAndType 16 17)
    ∷ Some (Fieldref 9 18)
    ∷ Some (Utf8 (codes "StackMapTable"))
    ∷ Some (Utf8 (codes "b"))
    ∷ Some (Utf8 (codes "c"))
    ∷ Some (Utf8 (codes "d"))
    ∷ Some (Utf8 (codes "e"))
    ∷ Some (Utf8 (codes "f"))
    ∷ Some (Utf8 (codes "g"))
    ∷ Some (Utf8 (codes "Box"))
    ∷ Some (Class 27)
    ∷ Some (Utf8 (codes "(Ljava/lang/Object;)V"))
    ∷ Some (NameAndType 10 29)
    ∷ Some (Methodref 28 30)
    ∷ Some (Utf8 (codes "v"))
    ∷ Some (Utf8 (codes "Ljava/lang/Object;"))
    ∷ Some (NameAndType 32 33)
    ∷ Some (Fieldref 28 34)
    ∷ Some (Utf8 (codes "h"))
    ∷ Some (Utf8 (codes "i"))
    ∷ Some (Utf8 (codes "j"))
    ∷ Some (Utf8 (codes "k"))
    ∷ Some (NameAndType 5 6)
    ∷ Some (Methodref 2 40)
    ∷ Some (Utf8 (codes "l"))
    ∷ Some (Utf8 (codes "m"))
    ∷ Some (Utf8 (codes "n"))
    ∷ Some (Utf8 (codes "o"))
    ∷ []

abbrev pub file : ClassFile
file = record {
  major = 52;
  minor = 0;
  pool = pool;
  flags = 32;
  this_class = 2;
  super_class = 4;
  interfaces = [];
  fields = [];
  methods = record { flags = 8; name = 5; desc = 6; attrs = [] }
      ∷ record { flags = 8; name = 14; desc = 15; attrs = [] }
      ∷ record { flags = 8; name = 21; desc = 15; attrs = [] }
      ∷ record { flags = 8; name = 22; desc = 15; attrs = [] }
      ∷ record { flags = 8; name = 23; desc = 15; attrs = [] }
      ∷ record { flags = 8; name = 24; desc = 15; attrs = [] }
      ∷ record { flags = 8; name = 25; desc = 15; attrs = [] }
      ∷ record { flags = 8; name = 26; desc = 15; attrs = [] }
      ∷ record { flags = 8; name = 36; desc = 15; attrs = [] }
      ∷ record { flags = 8; name = 37; desc = 15; attrs = [] }
      ∷ record { flags = 8; name = 38; desc = 15; attrs = [] }
      ∷ record { flags = 8; name = 39; desc = 15; attrs = [] }
      ∷ record { flags = 8; name = 42; desc = 15; attrs = [] }
      ∷ record { flags = 8; name = 43; desc = 15; attrs = [] }
      ∷ record { flags = 8; name = 44; desc = 15; attrs = [] }
      ∷ record { flags = 8; name = 45; desc = 15; attrs = [] }
      ∷ [];
  attrs = [];
}

-- ---- the flat code with its plan

abbrev First : VType
First = Uninit 0

abbrev P : VType
P = Object (codes "P")

abbrev Second : VType
Second = Uninit 18

abbrev at_start : List VType
at_start = Int ∷ Top ∷ Top ∷ Top ∷ Top ∷ Top ∷ Top ∷ Top ∷ Top ∷ []

abbrev passing_y : List VType
passing_y = Int ∷ Top ∷ Top ∷ Top ∷ Top ∷ Int ∷ Top ∷ Top ∷ Top ∷ []

abbrev passing_both : List VType
passing_both = Int ∷ Top ∷ Top ∷ Top ∷ Int ∷ Int ∷ Top ∷ Top ∷ Top ∷ []

abbrev in_constructor : List VType
in_constructor = Int ∷ Top ∷ Top ∷ First ∷ Int ∷ Int ∷ Top ∷ Top ∷ Top ∷ []

abbrev behind_object_init : List VType
behind_object_init = Int ∷ Top ∷ Top ∷ P ∷ Int ∷ Int ∷ Top ∷ Top ∷ Top ∷ []

abbrev with_point : List VType
with_point = Int ∷ P ∷ Top ∷ Top ∷ Top ∷ Top ∷ Top ∷ Top ∷ Top ∷ []

abbrev passing_y_again : List VType
passing_y_again = Int ∷ P ∷ Top ∷ Top ∷ Top ∷ Top ∷ Top ∷ Top ∷ Int ∷ []

abbrev passing_both_again : List VType
passing_both_again = Int ∷ P ∷ Top ∷ Top ∷ Top ∷ Top ∷ Top ∷ Int ∷ Int ∷ []

abbrev in_constructor_again : List VType
in_constructor_again = Int ∷ P ∷ Top ∷ Top ∷ Top ∷ Top ∷ Second ∷ Int ∷ Int ∷ []

abbrev behind_object_init_again : List VType
behind_object_init_again = Int ∷ P ∷ Top ∷ Top ∷ Top ∷ Top ∷ P ∷ Int ∷ Int ∷ []

-- the first object, and where it is
abbrev first : List ℕ → Held
first places = record { site = 0; fields = Plain ∷ Plain ∷ []; depth = 0; places = places }

-- the second object, and where it is
abbrev second : List ℕ → Held
second places = record { site = 1; fields = Plain ∷ Plain ∷ []; depth = 0; places = places }

abbrev pub points : List CasePoint
points =
    planned (Of 2 (New 9)) at_start [] [] (next 1 ∷ [])
    ∷ planned (Of 2 (Shuffle DUP)) at_start (First ∷ []) (first (9 ∷ []) ∷ []) (next 2 ∷ [])
    ∷ planned (Of 2 (Const (imms.Int (pos 1)))) at_start (First ∷ First ∷ []) (first (9 ∷ 10 ∷ []) ∷ []) (next 3 ∷ [])
    ∷ planned (Of 2 (Const (imms.Int (pos 2)))) at_start (First ∷ First ∷ Int ∷ []) (first (9 ∷ 10 ∷ []) ∷ []) (next 4 ∷ [])
    ∷ planned (Of 2 (Store kinds.Int 5)) at_start (First ∷ First ∷ Int ∷ Int ∷ []) (first (9 ∷ 10 ∷ []) ∷ []) (next 5 ∷ [])
    ∷ planned (Of 2 (Store kinds.Int 4)) passing_y (First ∷ First ∷ Int ∷ []) (first (9 ∷ 10 ∷ []) ∷ []) (next 6 ∷ [])
    ∷ planned (Of 2 (Store kinds.Ref 3)) passing_both (First ∷ First ∷ []) (first (9 ∷ 10 ∷ []) ∷ []) (next 7 ∷ [])
    ∷ planned (Of 1 (Load kinds.Ref 3)) in_constructor (First ∷ []) (first (3 ∷ 9 ∷ []) ∷ []) (next 8 ∷ [])
    ∷ planned (Of 1 (Invoke INVOKESPECIAL 13 0)) in_constructor (First ∷ First ∷ []) (first (3 ∷ 9 ∷ 10 ∷ []) ∷ []) (next 9 ∷ [])
    ∷ planned (Of 1 (Load kinds.Ref 3)) behind_object_init (First ∷ []) (first (3 ∷ 9 ∷ []) ∷ []) (next 10 ∷ [])
    ∷ planned (Of 1 (Load kinds.Int 4)) behind_object_init (First ∷ P ∷ []) (first (3 ∷ 9 ∷ 10 ∷ []) ∷ []) (next 11 ∷ [])
    ∷ planned (Of 1 (PutField 15)) behind_object_init (First ∷ P ∷ Int ∷ []) (first (3 ∷ 9 ∷ 10 ∷ []) ∷ []) (next 12 ∷ [])
    ∷ planned (Of 1 (Load kinds.Ref 3)) behind_object_init (First ∷ []) (first (3 ∷ 9 ∷ []) ∷ []) (next 13 ∷ [])
    ∷ planned (Of 1 (Load kinds.Int 5)) behind_object_init (First ∷ P ∷ []) (first (3 ∷ 9 ∷ 10 ∷ []) ∷ []) (next 14 ∷ [])
    ∷ planned (Of 1 (PutField 17)) behind_object_init (First ∷ P ∷ Int ∷ []) (first (3 ∷ 9 ∷ 10 ∷ []) ∷ []) (next 15 ∷ [])
    ∷ planned (Of 1 (Goto 16)) behind_object_init (First ∷ []) (first (3 ∷ 9 ∷ []) ∷ []) (jump 0 16 ∷ [])
    ∷ planned (Of 2 (Store kinds.Ref 1)) at_start (P ∷ []) (first (9 ∷ []) ∷ []) (next 17 ∷ [])
    ∷ planned (Of 2 (Const (imms.Int (pos 7)))) with_point [] (first (1 ∷ []) ∷ []) (next 18 ∷ [])
    ∷ planned (Of 2 (New 9)) with_point (Int ∷ []) (first (1 ∷ []) ∷ []) (next 19 ∷ [])
    ∷ planned (Of 2 (Shuffle DUP)) with_point (Int ∷ Second ∷ []) (first (1 ∷ []) ∷ second (10 ∷ []) ∷ []) (next 20 ∷ [])
    ∷ planned (Of 2 (Const (imms.Int (pos 1)))) with_point (Int ∷ Second ∷ Second ∷ []) (first (1 ∷ []) ∷ second (10 ∷ 11 ∷ []) ∷ []) (next 21 ∷ [])
    ∷ planned (Of 2 (Const (imms.Int (pos 2)))) with_point (Int ∷ Second ∷ Second ∷ Int ∷ []) (first (1 ∷ []) ∷ second (10 ∷ 11 ∷ []) ∷ []) (next 22 ∷ [])
    ∷ planned (Of 2 (Store kinds.Int 8)) with_point (Int ∷ Second ∷ Second ∷ Int ∷ Int ∷ []) (first (1 ∷ []) ∷ second (10 ∷ 11 ∷ []) ∷ []) (next 23 ∷ [])
    ∷ planned (Of 2 (Store kinds.Int 7)) passing_y_again (Int ∷ Second ∷ Second ∷ Int ∷ []) (first (1 ∷ []) ∷ second (10 ∷ 11 ∷ []) ∷ []) (next 24 ∷ [])
    ∷ planned (Of 2 (Store kinds.Ref 6)) passing_both_again (Int ∷ Second ∷ Second ∷ []) (first (1 ∷ []) ∷ second (10 ∷ 11 ∷ []) ∷ []) (next 25 ∷ [])
    ∷ planned (Of 1 (Load kinds.Ref 6)) in_constructor_again (Int ∷ Second ∷ []) (first (1 ∷ []) ∷ second (6 ∷ 10 ∷ []) ∷ []) (next 26 ∷ [])
    ∷ planned (Of 1 (Invoke INVOKESPECIAL 13 0)) in_constructor_again (Int ∷ Second ∷ Second ∷ []) (first (1 ∷ []) ∷ second (6 ∷ 10 ∷ 11 ∷ []) ∷ []) (next 27 ∷ [])
    ∷ planned (Of 1 (Load kinds.Ref 6)) behind_object_init_again (Int ∷ Second ∷ []) (first (1 ∷ []) ∷ second (6 ∷ 10 ∷ []) ∷ []) (next 28 ∷ [])
    ∷ planned (Of 1 (Load kinds.Int 7)) behind_object_init_again (Int ∷ Second ∷ P ∷ []) (first (1 ∷ []) ∷ second (6 ∷ 10 ∷ 11 ∷ []) ∷ []) (next 29 ∷ [])
    ∷ planned (Of 1 (PutField 15)) behind_object_init_again (Int ∷ Second ∷ P ∷ Int ∷ []) (first (1 ∷ []) ∷ second (6 ∷ 10 ∷ 11 ∷ []) ∷ []) (next 30 ∷ [])
    ∷ planned (Of 1 (Load kinds.Ref 6)) behind_object_init_again (Int ∷ Second ∷ []) (first (1 ∷ []) ∷ second (6 ∷ 10 ∷ []) ∷ []) (next 31 ∷ [])
    ∷ planned (Of 1 (Load kinds.Int 8)) behind_object_init_again (Int ∷ Second ∷ P ∷ []) (first (1 ∷ []) ∷ second (6 ∷ 10 ∷ 11 ∷ []) ∷ []) (next 32 ∷ [])
    ∷ planned (Of 1 (PutField 17)) behind_object_init_again (Int ∷ Second ∷ P ∷ Int ∷ []) (first (1 ∷ []) ∷ second (6 ∷ 10 ∷ 11 ∷ []) ∷ []) (next 33 ∷ [])
    ∷ planned (Of 1 (Goto 34)) behind_object_init_again (Int ∷ Second ∷ []) (first (1 ∷ []) ∷ second (6 ∷ 10 ∷ []) ∷ []) (jump 0 34 ∷ [])
    ∷ planned (Of 2 (Const (imms.Int (pos 8)))) with_point (Int ∷ P ∷ []) (first (1 ∷ []) ∷ second (10 ∷ []) ∷ []) (next 35 ∷ [])
    ∷ planned (Of 2 (Load kinds.Int 0)) with_point (Int ∷ P ∷ Int ∷ []) (first (1 ∷ []) ∷ second (10 ∷ []) ∷ []) (next 36 ∷ [])
    ∷ made_before (1 ∷ []) (planned (Of 2 (If IFNE 38)) with_point (Int ∷ P ∷ Int ∷ Int ∷ []) (first (1 ∷ []) ∷ second (10 ∷ []) ∷ []) (next 37 ∷ jump 0 38 ∷ []))
    ∷ planned (Of 2 (Iinc 0 (pos 1))) with_point (Int ∷ P ∷ Int ∷ []) (first (1 ∷ []) ∷ []) (next 38 ∷ [])
    ∷ planned (Of 2 (Load kinds.Ref 1)) with_point (Top ∷ P ∷ Top ∷ []) (first (1 ∷ []) ∷ []) (next 39 ∷ [])
    ∷ planned (Of 2 (GetField 19)) with_point (Top ∷ P ∷ Top ∷ P ∷ []) (first (1 ∷ 12 ∷ []) ∷ []) (next 40 ∷ [])
    ∷ planned (Of 2 (Return (Some kinds.Int))) with_point (Top ∷ P ∷ Top ∷ Int ∷ []) (first (1 ∷ []) ∷ []) []
    ∷ []

abbrev pub this : Case
this = record {
  folder = box_file ∷ p_file ∷ file ∷ [];
  class = 2;
  method = 2;
  locals = 9;
  sites =
      record { at = 0; class = codes "P"; fields = fields.Int ∷ fields.Int ∷ [] }
      ∷ record { at = 18; class = codes "P"; fields = fields.Int ∷ fields.Int ∷ [] } ∷ [];
  points = points;
  constructor = λ class. codes "(II[Z)V";
  form = short;
}

-- ---- what is written

abbrev pub items : List IndexedItem
items =
    uncaught (Const (imms.Int (pos 0)))
    ∷ uncaught (Store kinds.Int 9)
    ∷ uncaught (Const (imms.Int (pos 0)))
    ∷ uncaught (Store kinds.Int 10)
    ∷ uncaught (Const (imms.Int (pos 1)))
    ∷ uncaught (Const (imms.Int (pos 2)))
    ∷ uncaught (Store kinds.Int 5)
    ∷ uncaught (Store kinds.Int 4)
    ∷ uncaught (Load kinds.Int 4)
    ∷ uncaught (Store kinds.Int 9)
    ∷ uncaught (Load kinds.Int 5)
    ∷ uncaught (Store kinds.Int 10)
    ∷ uncaught (Const (imms.Int (pos 7)))
    ∷ uncaught (Const (imms.Int (pos 0)))
    ∷ uncaught (Store kinds.Int 11)
    ∷ uncaught (Const (imms.Int (pos 0)))
    ∷ uncaught (Store kinds.Int 12)
    ∷ uncaught (Const (imms.Int (pos 1)))
    ∷ uncaught (Const (imms.Int (pos 2)))
    ∷ uncaught (Store kinds.Int 8)
    ∷ uncaught (Store kinds.Int 7)
    ∷ uncaught (Load kinds.Int 7)
    ∷ uncaught (Store kinds.Int 11)
    ∷ uncaught (Load kinds.Int 8)
    ∷ uncaught (Store kinds.Int 12)
    ∷ uncaught (Const (imms.Int (pos 8)))
    ∷ uncaught (Load kinds.Int 0)
    ∷ uncaught (Store kinds.Int 18)
    ∷ uncaught (Store kinds.Int 17)
    ∷ uncaught (New 9)
    ∷ uncaught (Shuffle DUP)
    ∷ uncaught (Load kinds.Int 11)
    ∷ uncaught (Load kinds.Int 12)
    ∷ uncaught (Const imms.Null)
    ∷ uncaught (Invoke INVOKESPECIAL 48 0)
    ∷ uncaught (Store kinds.Ref 14)
    ∷ uncaught (Load kinds.Ref 14)
    ∷ uncaught (Load kinds.Int 17)
    ∷ uncaught (Load kinds.Int 18)
    ∷ uncaught (If IFNE 41)
    ∷ uncaught (Iinc 0 (pos 1))
    ∷ uncaught (Load kinds.Int 9)
    ∷ uncaught (Return (Some kinds.Int))
    ∷ []

abbrev pub bytes : List ℕ
bytes =
    3 ∷ 54 ∷ 9 ∷ 3 ∷ 54 ∷ 10 ∷ 4 ∷ 5 ∷ 54 ∷ 5 ∷ 54 ∷ 4 ∷ 21 ∷ 4 ∷ 54 ∷ 9 ∷ 21 ∷ 5
    ∷ 54 ∷ 10 ∷ 16 ∷ 7 ∷ 3 ∷ 54 ∷ 11 ∷ 3 ∷ 54 ∷ 12 ∷ 4 ∷ 5 ∷ 54 ∷ 8 ∷ 54 ∷ 7 ∷ 21 ∷ 7
    ∷ 54 ∷ 11 ∷ 21 ∷ 8 ∷ 54 ∷ 12 ∷ 16 ∷ 8 ∷ 26 ∷ 54 ∷ 18 ∷ 54 ∷ 17 ∷ 187 ∷ 0 ∷ 9 ∷ 89
    ∷ 21 ∷ 11 ∷ 21 ∷ 12 ∷ 1 ∷ 183 ∷ 0 ∷ 48 ∷ 58 ∷ 14 ∷ 25 ∷ 14 ∷ 21 ∷ 17 ∷ 21 ∷ 18
    ∷ 154 ∷ 0 ∷ 6 ∷ 132 ∷ 0 ∷ 1 ∷ 21 ∷ 9 ∷ 172
    ∷ []

abbrev pub wanted : Wanted
wanted = record {
  items = items;
  pool = pool ++ (
      Some (Utf8 (codes "(II[Z)V"))
      ∷ Some (NameAndType 10 46)
      ∷ Some (Methodref 9 47)
      ∷ []);
  places = makes_object (codes "P") ∷ [];
  units = 20;
}
