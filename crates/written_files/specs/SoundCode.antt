-- What is asked of written code so that the constants that it needs are well formed. It is this project's profile.
use Rattle.std.specs.Prelude.{ℕ, List, Option, Some, None}
use Rattle.std.specs.List.{AllByRecursion}
use Rattle.class_model.specs.Checks.{AllHold}
use Rattle.class_model.specs.Descriptors.{IsReferenceName}
use Rattle.class_model.specs.ModifiedUtf8.{IsModifiedUtf8}
use Rattle.class_model.specs.PoolChecks.{ReturnsVoid, entries_checks}
use Rattle.class_tree.specs.Headers.{Name}
use Rattle.making_code.specs.Items.{WInstr, WItem, carried, constructs, makes}
use Rattle.plan_flow.specs.PlanScope.{PlanScope, pool_of}

-- a class's name
pub record IsSoundName (name : Name) : Type 0 where
  pub text : IsModifiedUtf8 name
  pub is_name : IsReferenceName name

-- a class and the descriptor of its field constructor
pub record IsSoundCall (constructor : Name → List ℕ) (class : Name) : Type 0 where
  pub name : IsSoundName class
  pub text : IsModifiedUtf8 (constructor class)
  pub void : ReturnsVoid (constructor class)

-- the pool of the class that an instruction comes from was checked, and the classes of make code have names and constructors
abbrev pub IsSoundInstr : PlanScope → (Name → List ℕ) → WInstr → Type 0
IsSoundInstr s constructor (carried class instr) =
    (major : ℕ) × AllHold (entries_checks major (pool_of s class) 10 (pool_of s class))
IsSoundInstr s constructor (makes class) = IsSoundName class
IsSoundInstr s constructor (constructs class) = IsSoundCall constructor class
IsSoundInstr s constructor instr = Unit {0}

abbrev pub IsSoundCatch : Option Name → Type 0
IsSoundCatch None = Unit {0}
IsSoundCatch (Some class) = IsSoundName class

pub record IsSoundItem (s : PlanScope) (constructor : Name → List ℕ) (item : WItem) : Type 0 where
  pub instr : IsSoundInstr s constructor item.instr
  pub catches : AllByRecursion (λ catch. IsSoundCatch catch.class) item.catches
