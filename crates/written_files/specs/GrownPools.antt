-- Constants that a pool grows by, and that they pass the checks of a class file (JVM Specification SE 8, 4.4). It is this project's profile.
use Rattle.std.specs.Prelude.{◌≡◌, ◌⊎◌, ◌++◌, ℕ, List, [], ◌∷◌, Some}
use Rattle.class_model.specs.Checks.{AllHold}
use Rattle.class_model.specs.ClassOf.{bootstrap_index_checks}
use Rattle.class_model.specs.Descriptors.{IsReferenceName}
use Rattle.class_model.specs.ModifiedUtf8.{IsModifiedUtf8}
use Rattle.class_model.specs.Names.{IsFieldName}
use Rattle.class_model.specs.Pool.{Constants}
use Rattle.class_model.specs.PoolChecks.{FitsDescriptor, IsCalledName, IsFieldDescriptor, IsMethodDescriptor, entries_checks}
use Rattle.class_model.specs.declared.pool.Const.{Const}
use Rattle.class_model.specs.declared.pool.Const.TheVariants.{Double, Float, Integer, Long}
use Rattle.class_tree.specs.Headers.{Name}
use Rattle.making_code.specs.Constants.{MemberKind, Need, class_needs, member_needs, needs_itself, needs_text, of_field, of_interface_method, of_method, string_needs}

-- ---- what is needed is well formed

-- a member's name and descriptor, by what refers to it
abbrev pub IsReferredTo : MemberKind → List ℕ → List ℕ → Type 0
IsReferredTo of_field name desc = IsFieldName name × IsFieldDescriptor desc
IsReferredTo of_method name desc = IsCalledName (Some desc) name × IsMethodDescriptor desc
IsReferredTo of_interface_method name desc = IsCalledName (Some desc) name × IsMethodDescriptor desc

pub record IsMemberText (kind : MemberKind) (class : Name) (name desc : List ℕ) : Type 0 where
  pub class_text : IsModifiedUtf8 class
  pub is_class : IsReferenceName class
  pub name_text : IsModifiedUtf8 name
  pub desc_text : IsModifiedUtf8 desc
  pub fits : FitsDescriptor (Some desc) name
  pub is_desc : IsFieldDescriptor desc ⊎ IsMethodDescriptor desc
  pub is_member : IsReferredTo kind name desc

-- a number that stands by itself
abbrev pub IsNumeric : Const → Type 0
IsNumeric (Integer number) = Unit {0}
IsNumeric (Float bits) = Unit {0}
IsNumeric (Long number) = Unit {0}
IsNumeric (Double bits) = Unit {0}
IsNumeric constant = ⊥

-- texts, classes, strings, numbers and members, each with what it names in front of it
pub data AreSound : List Need → Type 0 where
  sound_none : AreSound []
  sound_text : (text : List ℕ) (needs : List Need)
      → IsModifiedUtf8 text
      → AreSound needs
      → AreSound (needs_text text ++ needs)
  sound_class : (name : Name) (needs : List Need)
      → IsModifiedUtf8 name
      → IsReferenceName name
      → AreSound needs
      → AreSound (class_needs name ++ needs)
  sound_string : (text : List ℕ) (needs : List Need)
      → IsModifiedUtf8 text
      → AreSound needs
      → AreSound (string_needs text ++ needs)
  sound_member : (kind : MemberKind) (class : Name) (name desc : List ℕ) (needs : List Need)
      → IsMemberText kind class name desc
      → AreSound needs
      → AreSound (member_needs kind class name desc ++ needs)
  sound_number : (constant : Const) (needs : List Need)
      → IsNumeric constant
      → AreSound needs
      → AreSound (needs_itself constant ∷ needs)

-- ---- what is added passes

-- Behind the old constants stand others that pass in whatever the pool grows to, and none of them calls a bootstrap method.
pub record AddsChecked (major : ℕ) (pool grown : Constants) : Type 0 where
  pub added : Constants
  pub is : grown ≡ pool ++ added
  pub pass : (more : Constants) (at : ℕ)
      → AllHold (entries_checks major (grown ++ more) at added)
  pub calls : (count at : ℕ) → AllHold (bootstrap_index_checks count at added)
