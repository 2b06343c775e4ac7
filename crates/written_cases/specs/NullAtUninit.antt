-- A flat code that is not ready for plans: where its types say an uninitialised object of a site, there is null. The type is read as the class of
-- the site, to which null is assignable, so the frames type it. What is written does not ask whether the object is null.
use Rattle.std.specs.Prelude.{ℕ, List, [], ◌∷◌, codes, Some, pos}
use Rattle.class_model.specs.declared.descriptor.FieldType.TheVariants as fields
use Rattle.class_model.specs.declared.descriptor.Kind.TheVariants as kinds
use Rattle.class_model.specs.declared.frame.VType.{VType}
use Rattle.class_model.specs.declared.frame.VType.TheVariants.{Int, Null, Object, Top, Uninit}
use Rattle.class_model.specs.declared.instr.Imm.TheVariants as imms
use Rattle.class_model.specs.declared.instr.Instr.TheVariants.{Const, Invoke, Load, New, Return, Shuffle, Store}
use Rattle.class_model.specs.declared.opcodes.TheConstants.{INVOKESPECIAL, POP}
use Rattle.flow_code.specs.declared.point.FlatInstr.TheVariants.{Of}
use Rattle.making_code.specs.IndexedItems.{IndexedItem}
use Rattle.plan_flow.specs.PlanScope.{PlanScope}
use Rattle.plan_flow.specs.Written.WrittenCode.{short}
use Rattle.virtual_state.specs.declared.slot.Slot.TheVariants.{Plain}
use Rattle.written_cases.specs.CaseWords.{Case, CasePoint, Held, Wanted, next, planned, scope_in, uncaught}
use Rattle.written_cases.specs.PointClass.{p_file}
use Rattle.written_cases.specs.TopOnStack.{file, pool}

-- ---- the flat code with its plan

abbrev Fresh : VType
Fresh = Uninit 0

abbrev at_start : List VType
at_start = Int ∷ Top ∷ []

abbrev with_fresh : List VType
with_fresh = Int ∷ Fresh ∷ []

abbrev behind_object_init : List VType
behind_object_init = Int ∷ Object (codes "P") ∷ []

-- the object of the site, and where it is
abbrev held : List ℕ → Held
held places = record { site = 0; fields = Plain ∷ Plain ∷ []; depth = 0; places = places }

-- local 1 is null from point 4 on
abbrev pub points : List CasePoint
points =
    planned (Of 1 (New 9)) at_start [] [] (next 1 ∷ [])
    ∷ planned (Of 1 (Store kinds.Ref 1)) at_start (Fresh ∷ []) (held (2 ∷ []) ∷ []) (next 2 ∷ [])
    ∷ planned (Of 1 (Const imms.Null)) with_fresh [] (held (1 ∷ []) ∷ []) (next 3 ∷ [])
    ∷ planned (Of 1 (Store kinds.Ref 1)) with_fresh (Null ∷ []) (held (1 ∷ []) ∷ []) (next 4 ∷ [])
    ∷ planned (Of 0 (Load kinds.Ref 1)) with_fresh [] [] (next 5 ∷ [])
    ∷ planned (Of 0 (Invoke INVOKESPECIAL 13 0)) with_fresh (Fresh ∷ []) [] (next 6 ∷ [])
    ∷ planned (Of 1 (Const (imms.Int (pos 0)))) behind_object_init [] [] (next 7 ∷ [])
    ∷ planned (Of 1 (Return (Some kinds.Int))) behind_object_init (Int ∷ []) [] []
    ∷ []

abbrev pub this : Case
this = record {
  folder = p_file ∷ file ∷ [];
  class = 1;
  method = 0;
  locals = 2;
  sites = record { at = 0; class = codes "P"; fields = fields.Int ∷ fields.Int ∷ [] } ∷ [];
  points = points;
  constructor = λ class. codes "(II[Z)V";
  form = short;
}

abbrev pub scope : PlanScope
scope = scope_in this

-- ---- what would be written

-- a pop in place of the call, which raises on null
abbrev pub items : List IndexedItem
items =
    uncaught (Const (imms.Int (pos 0)))
    ∷ uncaught (Store kinds.Int 2)
    ∷ uncaught (Const (imms.Int (pos 0)))
    ∷ uncaught (Store kinds.Int 3)
    ∷ uncaught (Const imms.Null)
    ∷ uncaught (Store kinds.Ref 1)
    ∷ uncaught (Load kinds.Ref 1)
    ∷ uncaught (Shuffle POP)
    ∷ uncaught (Const (imms.Int (pos 0)))
    ∷ uncaught (Return (Some kinds.Int))
    ∷ []

abbrev pub wanted : Wanted
wanted = record { items = items; pool = pool; places = []; units = 6 }
