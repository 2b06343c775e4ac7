-- static int hit(int k) { Key q = new Key(k); if (last != null && q.same(last)) return 1; last = q; return 0; }, with the code of Key's
-- constructor and of same(Key) in place of their calls. The object stays virtual past both joins, and is made on one path alone.
use Rattle.std.specs.Prelude.{ℕ, List, [], ◌∷◌, codes, Some, pos, ◌++◌, None}
use Rattle.class_model.specs.Pool.{Constants}
use Rattle.class_model.specs.declared.class_file.ClassFile.{ClassFile}
use Rattle.class_model.specs.declared.descriptor.FieldType.TheVariants as fields
use Rattle.class_model.specs.declared.descriptor.Kind.TheVariants as kinds
use Rattle.class_model.specs.declared.frame.VType.{VType}
use Rattle.class_model.specs.declared.frame.VType.TheVariants.{Int, Object, Top, Uninit}
use Rattle.class_model.specs.declared.instr.Imm.TheVariants as imms
use Rattle.class_model.specs.declared.instr.Instr.TheVariants.{Const, GetField, GetStatic, Goto, If, If2, IfNull, Invoke, Load, New, Pure, PutField, PutStatic, Return, Shuffle, Store}
use Rattle.class_model.specs.declared.opcodes.TheConstants.{DUP, IAND, IFEQ, IFNE, IFNONNULL, IFNULL, IF_ICMPEQ, IF_ICMPNE, INVOKESPECIAL}
use Rattle.class_model.specs.declared.pool.Const.TheVariants.{Class, Fieldref, Methodref, NameAndType, Utf8}
use Rattle.flow_code.specs.declared.point.FlatInstr.TheVariants.{Of, NullTest}
use Rattle.plan_flow.specs.Written.Places.{makes_object}
use Rattle.plan_flow.specs.Written.WrittenCode.{short, wide}
use Rattle.making_code.specs.IndexedItems.{IndexedItem}
use Rattle.virtual_state.specs.declared.slot.Slot.TheVariants.{Plain}
use Rattle.written_cases.specs.CaseWords.{Case, CasePoint, Held, Wanted, jump, made_before, next, planned, uncaught}
use Rattle.written_cases.specs.KeyClass.{key_file}

-- ---- the class of the method

abbrev pub pool : Constants
pool =
    None
    ∷ Some (Utf8 (codes "T"))
    ∷ Some (Class 1)
    ∷ Some (Utf8 (codes "java/lang/Object"))
    ∷ Some (Class 3)
    ∷ Some (Utf8 (codes "<init>"))
    ∷ Some (Utf8 (codes "()V"))
    ∷ Some (Utf8 (codes "Code"))
    ∷ Some (NameAndType 5 6)
    ∷ Some (Methodref 4 8)
    ∷ Some (Utf8 (codes "last"))
    ∷ Some (Utf8 (codes "LKey;"))
    ∷ Some (Utf8 (codes "hit"))
    ∷ Some (Utf8 (codes "(I)I"))
    ∷ Some (Utf8 (codes "Key"))
    ∷ Some (Class 14)
    ∷ Some (Utf8 (codes "(I)V"))
    ∷ Some (NameAndType 5 16)
    ∷ Some (Methodref 15 17)
    ∷ Some (NameAndType 10 11)
    ∷ Some (Fieldref 2 19)
    ∷ Some (Utf8 (codes "same"))
    ∷ Some (Utf8 (codes "(LKey;)Z"))
    ∷ Some (NameAndType 21 22)
    ∷ Some (Methodref 15 23)
    ∷ Some (Utf8 (codes "StackMapTable"))
    ∷ []

abbrev pub file : ClassFile
file = record {
  major = 52;
  minor = 0;
  pool = pool;
  flags = 33;
  this_class = 2;
  super_class = 4;
  interfaces = [];
  fields = record { flags = 8; name = 10; desc = 11; attrs = [] }
      ∷ [];
  methods = record { flags = 0; name = 5; desc = 6; attrs = [] }
      ∷ record { flags = 8; name = 12; desc = 13; attrs = [] }
      ∷ [];
  attrs = [];
}

-- ---- the flat code with its plan

abbrev Fresh : VType
Fresh = Uninit 0

abbrev Key : VType
Key = Object (codes "Key")

abbrev at_start : List VType
at_start = Int ∷ Top ∷ Top ∷ Top ∷ Top ∷ Top ∷ []

abbrev passing : List VType
passing = Int ∷ Top ∷ Top ∷ Int ∷ Top ∷ Top ∷ []

abbrev in_constructor : List VType
in_constructor = Int ∷ Top ∷ Fresh ∷ Int ∷ Top ∷ Top ∷ []

abbrev behind_object_init : List VType
behind_object_init = Int ∷ Top ∷ Key ∷ Int ∷ Top ∷ Top ∷ []

abbrev with_key : List VType
with_key = Int ∷ Key ∷ Top ∷ Top ∷ Top ∷ Top ∷ []

abbrev passing_other : List VType
passing_other = Int ∷ Key ∷ Top ∷ Top ∷ Top ∷ Key ∷ []

abbrev in_same : List VType
in_same = Int ∷ Key ∷ Top ∷ Top ∷ Key ∷ Key ∷ []

-- the object, and where it is
abbrev held : List ℕ → Held
held places = record { site = 0; fields = Plain ∷ []; depth = 0; places = places }

abbrev pub points : List CasePoint
points =
    planned (Of 1 (New 15)) at_start [] [] (next 1 ∷ [])
    ∷ planned (Of 1 (Shuffle DUP)) at_start (Fresh ∷ []) (held (6 ∷ []) ∷ []) (next 2 ∷ [])
    ∷ planned (Of 1 (Load kinds.Int 0)) at_start (Fresh ∷ Fresh ∷ []) (held (6 ∷ 7 ∷ []) ∷ []) (next 3 ∷ [])
    ∷ planned (Of 1 (Store kinds.Int 3)) at_start (Fresh ∷ Fresh ∷ Int ∷ []) (held (6 ∷ 7 ∷ []) ∷ []) (next 4 ∷ [])
    ∷ planned (Of 1 (Store kinds.Ref 2)) passing (Fresh ∷ Fresh ∷ []) (held (6 ∷ 7 ∷ []) ∷ []) (next 5 ∷ [])
    ∷ planned (Of 0 (Load kinds.Ref 2)) in_constructor (Fresh ∷ []) (held (2 ∷ 6 ∷ []) ∷ []) (next 6 ∷ [])
    ∷ planned (Of 0 (Invoke INVOKESPECIAL 12 0)) in_constructor (Fresh ∷ Fresh ∷ []) (held (2 ∷ 6 ∷ 7 ∷ []) ∷ []) (next 7 ∷ [])
    ∷ planned (Of 0 (Load kinds.Ref 2)) behind_object_init (Fresh ∷ []) (held (2 ∷ 6 ∷ []) ∷ []) (next 8 ∷ [])
    ∷ planned (Of 0 (Load kinds.Int 3)) behind_object_init (Fresh ∷ Key ∷ []) (held (2 ∷ 6 ∷ 7 ∷ []) ∷ []) (next 9 ∷ [])
    ∷ planned (Of 0 (PutField 14)) behind_object_init (Fresh ∷ Key ∷ Int ∷ []) (held (2 ∷ 6 ∷ 7 ∷ []) ∷ []) (next 10 ∷ [])
    ∷ planned (Of 0 (Goto 11)) behind_object_init (Fresh ∷ []) (held (2 ∷ 6 ∷ []) ∷ []) (jump 0 11 ∷ [])
    ∷ planned (Of 1 (Store kinds.Ref 1)) at_start (Key ∷ []) (held (6 ∷ []) ∷ []) (next 12 ∷ [])
    ∷ planned (Of 1 (GetStatic 20)) with_key [] (held (1 ∷ []) ∷ []) (next 13 ∷ [])
    ∷ planned (Of 1 (IfNull IFNULL 33)) with_key (Key ∷ []) (held (1 ∷ []) ∷ []) (next 14 ∷ jump 0 33 ∷ [])
    ∷ planned (Of 1 (Load kinds.Ref 1)) with_key [] (held (1 ∷ []) ∷ []) (next 15 ∷ [])
    ∷ planned (Of 1 (GetStatic 20)) with_key (Key ∷ []) (held (1 ∷ 6 ∷ []) ∷ []) (next 16 ∷ [])
    ∷ planned (Of 1 (Store kinds.Ref 5)) with_key (Key ∷ Key ∷ []) (held (1 ∷ 6 ∷ []) ∷ []) (next 17 ∷ [])
    ∷ planned (Of 1 (Store kinds.Ref 4)) passing_other (Key ∷ []) (held (1 ∷ 6 ∷ []) ∷ []) (next 18 ∷ [])
    ∷ planned (NullTest 4) in_same [] (held (1 ∷ 4 ∷ []) ∷ []) (next 19 ∷ [])
    ∷ planned (Of 0 (Load kinds.Ref 4)) in_same [] (held (1 ∷ 4 ∷ []) ∷ []) (next 20 ∷ [])
    ∷ planned (Of 0 (GetField 14)) in_same (Key ∷ []) (held (1 ∷ 4 ∷ 6 ∷ []) ∷ []) (next 21 ∷ [])
    ∷ planned (Of 0 (Load kinds.Ref 5)) in_same (Int ∷ []) (held (1 ∷ 4 ∷ []) ∷ []) (next 22 ∷ [])
    ∷ planned (Of 0 (GetField 14)) in_same (Int ∷ Key ∷ []) (held (1 ∷ 4 ∷ []) ∷ []) (next 23 ∷ [])
    ∷ planned (Of 0 (If2 IF_ICMPNE 26)) in_same (Int ∷ Int ∷ []) (held (1 ∷ 4 ∷ []) ∷ []) (next 24 ∷ jump 0 26 ∷ [])
    ∷ planned (Of 0 (Const (imms.Int (pos 1)))) in_same [] (held (1 ∷ 4 ∷ []) ∷ []) (next 25 ∷ [])
    ∷ planned (Of 0 (Goto 27)) in_same (Int ∷ []) (held (1 ∷ 4 ∷ []) ∷ []) (jump 0 27 ∷ [])
    ∷ planned (Of 0 (Const (imms.Int (pos 0)))) in_same [] (held (1 ∷ 4 ∷ []) ∷ []) (next 27 ∷ [])
    ∷ planned (Of 0 (Const (imms.Int (pos 1)))) in_same (Int ∷ []) (held (1 ∷ 4 ∷ []) ∷ []) (next 28 ∷ [])
    ∷ planned (Of 0 (Pure IAND)) in_same (Int ∷ Int ∷ []) (held (1 ∷ 4 ∷ []) ∷ []) (next 29 ∷ [])
    ∷ planned (Of 0 (Goto 30)) in_same (Int ∷ []) (held (1 ∷ 4 ∷ []) ∷ []) (jump 0 30 ∷ [])
    ∷ planned (Of 1 (If IFEQ 33)) with_key (Int ∷ []) (held (1 ∷ []) ∷ []) (next 31 ∷ jump 0 33 ∷ [])
    ∷ planned (Of 1 (Const (imms.Int (pos 1)))) with_key [] (held (1 ∷ []) ∷ []) (next 32 ∷ [])
    ∷ planned (Of 1 (Return (Some kinds.Int))) with_key (Int ∷ []) (held (1 ∷ []) ∷ []) []
    ∷ planned (Of 1 (Load kinds.Ref 1)) with_key [] (held (1 ∷ []) ∷ []) (next 34 ∷ [])
    ∷ made_before (0 ∷ []) (planned (Of 1 (PutStatic 20)) with_key (Key ∷ []) (held (1 ∷ 6 ∷ []) ∷ []) (next 35 ∷ []))
    ∷ planned (Of 1 (Const (imms.Int (pos 0)))) with_key [] [] (next 36 ∷ [])
    ∷ planned (Of 1 (Return (Some kinds.Int))) with_key (Int ∷ []) [] []
    ∷ []

abbrev pub this : Case
this = record {
  folder = key_file ∷ file ∷ [];
  class = 1;
  method = 1;
  locals = 6;
  sites = record { at = 0; class = codes "Key"; fields = fields.Int ∷ [] } ∷ [];
  points = points;
  constructor = λ class. codes "(I[Z)V";
  form = short;
}

-- ---- what is written

abbrev pub items : List IndexedItem
items =
    uncaught (Const (imms.Int (pos 0)))
    ∷ uncaught (Store kinds.Int 6)
    ∷ uncaught (Load kinds.Int 0)
    ∷ uncaught (Store kinds.Int 3)
    ∷ uncaught (Load kinds.Int 3)
    ∷ uncaught (Store kinds.Int 6)
    ∷ uncaught (GetStatic 20)
    ∷ uncaught (IfNull IFNULL 22)
    ∷ uncaught (GetStatic 20)
    ∷ uncaught (Store kinds.Ref 5)
    ∷ uncaught (Load kinds.Int 6)
    ∷ uncaught (Load kinds.Ref 5)
    ∷ uncaught (GetField 29)
    ∷ uncaught (If2 IF_ICMPNE 16)
    ∷ uncaught (Const (imms.Int (pos 1)))
    ∷ uncaught (Goto 17)
    ∷ uncaught (Const (imms.Int (pos 0)))
    ∷ uncaught (Const (imms.Int (pos 1)))
    ∷ uncaught (Pure IAND)
    ∷ uncaught (If IFEQ 22)
    ∷ uncaught (Const (imms.Int (pos 1)))
    ∷ uncaught (Return (Some kinds.Int))
    ∷ uncaught (New 15)
    ∷ uncaught (Shuffle DUP)
    ∷ uncaught (Load kinds.Int 6)
    ∷ uncaught (Const imms.Null)
    ∷ uncaught (Invoke INVOKESPECIAL 32 0)
    ∷ uncaught (Store kinds.Ref 7)
    ∷ uncaught (Load kinds.Ref 7)
    ∷ uncaught (Store kinds.Ref 1)
    ∷ uncaught (Load kinds.Ref 7)
    ∷ uncaught (PutStatic 20)
    ∷ uncaught (Const (imms.Int (pos 0)))
    ∷ uncaught (Return (Some kinds.Int))
    ∷ []

abbrev pub bytes : List ℕ
bytes =
    3 ∷ 54 ∷ 6 ∷ 26 ∷ 62 ∷ 29 ∷ 54 ∷ 6 ∷ 178 ∷ 0 ∷ 20 ∷ 198 ∷ 0 ∷ 30 ∷ 178 ∷ 0 ∷ 20
    ∷ 58 ∷ 5 ∷ 21 ∷ 6 ∷ 25 ∷ 5 ∷ 180 ∷ 0 ∷ 29 ∷ 160 ∷ 0 ∷ 7 ∷ 4 ∷ 167 ∷ 0 ∷ 4 ∷ 3 ∷ 4
    ∷ 126 ∷ 153 ∷ 0 ∷ 5 ∷ 4 ∷ 172 ∷ 187 ∷ 0 ∷ 15 ∷ 89 ∷ 21 ∷ 6 ∷ 1 ∷ 183 ∷ 0 ∷ 32
    ∷ 58 ∷ 7 ∷ 25 ∷ 7 ∷ 76 ∷ 25 ∷ 7 ∷ 179 ∷ 0 ∷ 20 ∷ 3 ∷ 172
    ∷ []

abbrev pub wanted : Wanted
wanted = record {
  items = items;
  pool = pool ++ (
      Some (Utf8 (codes "n"))
      ∷ Some (Utf8 (codes "I"))
      ∷ Some (NameAndType 26 27)
      ∷ Some (Fieldref 15 28)
      ∷ Some (Utf8 (codes "(I[Z)V"))
      ∷ Some (NameAndType 5 30)
      ∷ Some (Methodref 15 31)
      ∷ []);
  places = makes_object (codes "Key") ∷ [];
  units = 11;
}

-- ---- the wide form

abbrev pub this_wide : Case
this_wide = record this { form = wide }

abbrev pub wide_items : List IndexedItem
wide_items =
    uncaught (Const (imms.Int (pos 0)))
    ∷ uncaught (Store kinds.Int 6)
    ∷ uncaught (Load kinds.Int 0)
    ∷ uncaught (Store kinds.Int 3)
    ∷ uncaught (Load kinds.Int 3)
    ∷ uncaught (Store kinds.Int 6)
    ∷ uncaught (GetStatic 20)
    ∷ uncaught (IfNull IFNONNULL 9)
    ∷ uncaught (Goto 25)
    ∷ uncaught (GetStatic 20)
    ∷ uncaught (Store kinds.Ref 5)
    ∷ uncaught (Load kinds.Int 6)
    ∷ uncaught (Load kinds.Ref 5)
    ∷ uncaught (GetField 29)
    ∷ uncaught (If2 IF_ICMPEQ 16)
    ∷ uncaught (Goto 18)
    ∷ uncaught (Const (imms.Int (pos 1)))
    ∷ uncaught (Goto 19)
    ∷ uncaught (Const (imms.Int (pos 0)))
    ∷ uncaught (Const (imms.Int (pos 1)))
    ∷ uncaught (Pure IAND)
    ∷ uncaught (If IFNE 23)
    ∷ uncaught (Goto 25)
    ∷ uncaught (Const (imms.Int (pos 1)))
    ∷ uncaught (Return (Some kinds.Int))
    ∷ uncaught (New 15)
    ∷ uncaught (Shuffle DUP)
    ∷ uncaught (Load kinds.Int 6)
    ∷ uncaught (Const imms.Null)
    ∷ uncaught (Invoke INVOKESPECIAL 32 0)
    ∷ uncaught (Store kinds.Ref 7)
    ∷ uncaught (Load kinds.Ref 7)
    ∷ uncaught (Store kinds.Ref 1)
    ∷ uncaught (Load kinds.Ref 7)
    ∷ uncaught (PutStatic 20)
    ∷ uncaught (Const (imms.Int (pos 0)))
    ∷ uncaught (Return (Some kinds.Int))
    ∷ []

abbrev pub wanted_wide : Wanted
wanted_wide = record wanted { items = wide_items }
