-- A static field is read in a try. What is written there has no handler, since the read throws nothing; the flat code has one. While the class of
-- the field begins, its initialiser stands above both frames, and no object could be thrown through them as through two frames that are alike.
-- None is: out of an initialiser no object goes further.
use Rattle.std.specs.Prelude.{◌≡◌, List, [], ◌∷◌, codes, Some, None, IsTrue}
use Rattle.class_model.specs.Pool.{Constants}
use Rattle.class_model.specs.declared.class_file.ClassFile.{ClassFile}
use Rattle.class_model.specs.declared.descriptor.Kind.TheVariants as kinds
use Rattle.class_model.specs.declared.frame.VType.{VType}
use Rattle.class_model.specs.declared.frame.VType.TheVariants.{Int, Object}
use Rattle.class_model.specs.declared.instr.Instr.TheVariants.{GetStatic, Return, Throw}
use Rattle.class_model.specs.declared.pool.Const.TheVariants.{Class, Fieldref, NameAndType, Utf8}
use Rattle.flow_code.specs.declared.handlers.FlatHandler.{FlatHandler}
use Rattle.flow_code.specs.declared.point.FlatInstr.TheVariants.{Of}
use Rattle.machine_values.specs.Frames.{MethodState}
use Rattle.machine_values.specs.declared.frame.RunFrame.{RunFrame}
use Rattle.machine_values.specs.declared.frame.RunFrame.TheVariants.{Method}
use Rattle.making_code.specs.IndexedItems.{IndexedItem}
use Rattle.member_link.specs.Machine.Performing.{is_initialiser}
use Rattle.member_link.specs.Machine.Programs.{Catch, Program}
use Rattle.plan_flow.specs.Written.WrittenCode.{short}
use Rattle.same_runs.specs.Renamings.{Names, SameHeld}
use Rattle.same_runs.specs.SameFrames.{EndSame, SameCatches, Unwinds, catches_at}
use Rattle.written_cases.specs.CaseWords.{Case, CasePoint, Wanted, next, planned, uncaught, unreached, within}

-- ---- the class of the method

abbrev pub pool : Constants
pool =
    None
    ∷ Some (Utf8 (codes "T"))
    ∷ Some (Class 1)
    ∷ Some (Utf8 (codes "java/lang/Object"))
    ∷ Some (Class 3)
    ∷ Some (Utf8 (codes "a"))
    ∷ Some (Utf8 (codes "()I"))
    ∷ Some (Utf8 (codes "Code"))
    ∷ Some (Utf8 (codes "C"))
    ∷ Some (Class 8)
    ∷ Some (Utf8 (codes "x"))
    ∷ Some (Utf8 (codes "I"))
    ∷ Some (NameAndType 10 11)
    ∷ Some (Fieldref 9 12)
    ∷ []

abbrev pub file : ClassFile
file = record {
  major = 52;
  minor = 0;
  pool = pool;
  flags = 32;
  this_class = 2;
  super_class = 4;
  interfaces = [];
  fields = [];
  methods = record { flags = 8; name = 5; desc = 6; attrs = [] } ∷ [];
  attrs = [];
}

-- ---- the flat code with its plan

abbrev Thrown : VType
Thrown = Object (codes "java/lang/Throwable")

abbrev pub all : FlatHandler
all = record { to = 2; catch_class = None }

abbrev pub points : List CasePoint
points =
    within (all ∷ []) (planned (Of 0 (GetStatic 13)) [] [] [] (next 1 ∷ []))
    ∷ planned (Of 0 (Return (Some kinds.Int))) [] (Int ∷ []) [] []
    ∷ unreached (Of 0 Throw) [] (Thrown ∷ [])
    ∷ []

abbrev pub this : Case
this = record {
  folder = file ∷ [];
  class = 0;
  method = 0;
  locals = 0;
  sites = [];
  points = points;
  constructor = λ class. codes "([Z)V";
  form = short;
}

abbrev pub items : List IndexedItem
items = uncaught (GetStatic 13) ∷ uncaught (Return (Some kinds.Int)) ∷ []

abbrev pub wanted : Wanted
wanted = record { items = items; pool = pool; places = []; units = 1 }

-- ---- frames that stand there

-- A frame of the flat code, whose point has a handler, and one of the written code, whose point has none.
pub record StandThere (P Q : Program) (f g : MethodState) : Type 0 where
  pub catch : Catch
  pub has_one : catches_at P f ≡ catch ∷ []
  pub has_none : catches_at Q g ≡ []

-- whatever frames stand or land together
abbrev pub Any : Names → List RunFrame → List RunFrame → Type 0
Any names ones others = Unit {0}

-- no object is thrown through them as through two frames that are alike
abbrev pub NoneThroughBoth : Type 0
NoneThroughBoth =
    (P Q : Program) (names : Names) (f g : MethodState) (ones others : List RunFrame)
    → StandThere P Q f g
    → ¬ Unwinds P Q Any Any names (Method f ∷ ones) (Method g ∷ others)

-- two frames of an initialiser are alike, whatever stands below them
abbrev pub InitialisersAlike : Type 0
InitialisersAlike =
    (P Q : Program) (names : Names) (f g : MethodState) (ones others : List RunFrame)
    (ends : EndSame P Q f g)
    → IsTrue (is_initialiser ends.method)
    → SameHeld names f.held g.held
    → SameCatches Any names f g ones others (catches_at P f) (catches_at Q g)
    → Any names ones others
    → Unwinds P Q Any Any names (Method f ∷ ones) (Method g ∷ others)
