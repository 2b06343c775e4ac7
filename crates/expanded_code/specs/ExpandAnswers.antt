-- What is answered where the expanded code of a method is asked for: the first reason why it is kept, else its flat code.
use Rattle.std.specs.Prelude.{◌≡◌, ◌<◌, ◌⊎◌, ◌+◌, [], length, slice_get, Some, None, Result, Ok, Err, IsTrue, ℕ}
use Rattle.class_model.specs.declared.class_file.MethodAt.{MethodAt}
use Rattle.class_model.specs.declared.instr.Instr.TheVariants.{FloatAsk}
use Rattle.class_model.specs.declared.instr.Placed.{Placed}
use Rattle.class_tree.specs.Headers.{Classes}
use Rattle.expanded_code.specs.Expanded.{expanded}
use Rattle.expanded_code.specs.Expansions.{Coded, Expands, Expansion}
use Rattle.expanded_code.specs.Sites.{HasFrames}
use Rattle.flow_code.specs.FlatCode.{FlatCode}
use Rattle.flow_code.specs.TypedFrames.{FolderFrames}
use Rattle.flow_code.specs.WrittenUnits.{field_units, greatest_depth, written_units}
use Rattle.flow_code.specs.declared.reason.KeptFault.{KeptFault}
use Rattle.flow_code.specs.declared.reason.KeptFault.TheVariants as faults
use Rattle.flow_code.specs.declared.reason.Reason.TheVariants as reasons
use Rattle.member_link.specs.Scope.{Scope, instructions, is_clinit, is_init, scope_at}

-- it is the flat code of a method with its callees in place of their calls
pub record IsExpanded (classes : Classes) (typed : FolderFrames) (at : MethodAt) (flat : FlatCode)
    : Type 0 where
  pub host : Coded
  pub own : host.at ≡ at
  pub is_host : HasFrames classes typed at host.scope host.frames
  pub expansion : Expansion
  pub expands : Expands classes typed at [] at (instructions host.scope) expansion
  pub is : flat ≡ expanded host expansion

-- ---- reasons

-- the method has no code, or is an initialiser
pub data IsNoHost (classes : Classes) (at : MethodAt) : Type 0 where
  has_no_code : scope_at classes at ≡ None → IsNoHost classes at
  is_initialiser : (scope : Scope)
      → scope_at classes at ≡ Some scope
      → IsTrue (is_init scope) ⊎ IsTrue (is_clinit scope)
      → IsNoHost classes at

-- its own code has arithmetic of float or double
pub record HasFloat (classes : Classes) (at : MethodAt) : Type 0 where
  pub scope : Scope
  pub is_scope : scope_at classes at ≡ Some scope
  pub number : ℕ
  pub placed : Placed
  pub is : slice_get (instructions scope) number ≡ Some placed
  pub opcode : ℕ
  pub float : placed.instr ≡ FloatAsk opcode

-- more than 8,000 points
abbrev pub IsTooLong : FlatCode → Type 0
IsTooLong flat = 8000 < length flat.points

abbrev pub HasNoSite : FlatCode → Type 0
HasNoSite flat = flat.sites ≡ []

-- it has more sites, fields, local units or stack than written code may have
pub data IsWide (flat : FlatCode) : Type 0 where
  many_sites : 256 < length flat.sites → IsWide flat
  many_fields : 4096 < field_units flat.sites → IsWide flat
  many_units : 65535 < written_units flat → IsWide flat
  deep : 65535 < greatest_depth flat.points + 70 → IsWide flat

-- ---- the answer

-- the method is a host without such arithmetic
pub record IsOpenHost (classes : Classes) (at : MethodAt) : Type 0 where
  pub host : ¬ IsNoHost classes at
  pub no_float : ¬ HasFloat classes at

abbrev pub AnswersExpanded : Classes → FolderFrames → MethodAt → Result FlatCode KeptFault → Type 0
AnswersExpanded classes typed at (Ok flat) =
    IsOpenHost classes at
    × IsExpanded classes typed at flat
    × (¬ IsTooLong flat)
    × (¬ HasNoSite flat)
    × (¬ IsWide flat)
AnswersExpanded classes typed at (Err (faults.Kept reasons.Host)) = IsNoHost classes at
AnswersExpanded classes typed at (Err (faults.Kept reasons.Float)) =
    (¬ IsNoHost classes at) × HasFloat classes at
AnswersExpanded classes typed at (Err (faults.Kept reasons.Expanded)) =
    IsOpenHost classes at
    × (flat : FlatCode)
    × IsExpanded classes typed at flat
    × IsTooLong flat
AnswersExpanded classes typed at (Err (faults.Kept reasons.NoSite)) =
    IsOpenHost classes at
    × (flat : FlatCode)
    × IsExpanded classes typed at flat
    × (¬ IsTooLong flat)
    × HasNoSite flat
AnswersExpanded classes typed at (Err (faults.Kept reasons.Wide)) =
    IsOpenHost classes at
    × (flat : FlatCode)
    × IsExpanded classes typed at flat
    × (¬ IsTooLong flat)
    × (¬ HasNoSite flat)
    × IsWide flat
AnswersExpanded classes typed at (Err (faults.Kept reason)) = ⊥
AnswersExpanded classes typed at (Err faults.NoMemory) = Unit {0}
