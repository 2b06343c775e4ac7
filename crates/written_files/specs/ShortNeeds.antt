-- Constants that a pool grows by and that fit their items (JVM Specification SE 8, 4.4): texts have at most 65,535 bytes, and numbers are those of the
-- constants' types. It is this project's profile.
use Rattle.std.specs.Prelude.{◌≡◌, ◌≢◌, ◌≤◌, ℕ, List, length, Option, Some, None}
use Rattle.std.specs.List.{AllByRecursion}
use Rattle.class_model.specs.Pool.{Constants, IsPool}
use Rattle.class_model.specs.Values.{TagStands, TagsStand}
use Rattle.class_model.specs.declared.header.Member.{Member}
use Rattle.class_tree.specs.Headers.{Headers, Name}
use Rattle.class_tree.specs.Layouts.{own_fields}
use Rattle.class_tree.specs.Names.{object}
use Rattle.making_code.specs.Constants.{Need, needs_class, needs_itself, needs_member, needs_name_and_type, needs_string}
use Rattle.making_code.specs.FieldConstructor.{superclass_of}
use Rattle.making_code.specs.Items.{WInstr, WItem, carried, constructs, makes}
use Rattle.plan_flow.specs.PlanScope.{PlanScope, pool_of}
use Rattle.pool_bytes.specs.Items.{FitsItems, PoolFits}

abbrev pub IsShort : List ℕ → Type 0
IsShort text = length text ≤ 65535

-- a pool whose constants fit their items, and whose tags stand in a class file of this major version
pub record IsFittingPool (major : ℕ) (pool : Constants) : Type 0 where
  pub is_pool : IsPool pool
  pub fits : PoolFits pool
  pub tags : TagsStand major pool

-- ---- needs

-- a constant that names no other one fits its items, and each version has its tag; others name constants of the pool
abbrev pub IsFittingNeed : Need → Type 0
IsFittingNeed (needs_itself constant) =
    FitsItems constant × ((major : ℕ) → TagStands major (Some constant))
IsFittingNeed need = Unit {0}

abbrev pub AreFitting : List Need → Type 0
AreFitting needs = AllByRecursion IsFittingNeed needs

-- ---- written code

-- the pool of the class that an instruction comes from fits its items, and the names and descriptors of make code are short
abbrev pub IsShortInstr : PlanScope → (Name → List ℕ) → WInstr → Type 0
IsShortInstr s constructor (carried class instr) = PoolFits (pool_of s class)
IsShortInstr s constructor (makes class) = IsShort class
IsShortInstr s constructor (constructs class) = IsShort class × IsShort (constructor class)
IsShortInstr s constructor instr = Unit {0}

abbrev pub IsShortCatch : Option Name → Type 0
IsShortCatch None = Unit {0}
IsShortCatch (Some class) = IsShort class

pub record IsShortItem (s : PlanScope) (constructor : Name → List ℕ) (item : WItem) : Type 0 where
  pub instr : IsShortInstr s constructor item.instr
  pub catches : AllByRecursion (λ catch. IsShortCatch catch.class) item.catches

-- ---- field constructors

-- the names and descriptors of a class's field constructor are short
pub record HasShortTexts (headers : Headers) (constructor : Name → List ℕ) (class : Name)
    : Type 0 where
  pub above : Name
  pub is_above : superclass_of headers class ≡ Some above
  pub name : IsShort class
  pub name_above : IsShort above
  pub text : IsShort (constructor class)
  pub text_above : above ≢ object → IsShort (constructor above)
  pub fields : AllByRecursion (λ (field : Member). IsShort field.name × IsShort field.desc)
      (own_fields headers class)
