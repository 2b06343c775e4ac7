-- Stores into the final fields of classes.
use Rattle.std.specs.Prelude.{◌≡◌, ◌≢◌, ◌==◌, ◌&&◌, ◌<◌, ◌⊎◌, ◌↔◌, not, ℕ, Bool, true, false, List, [], get_or, length, slice_get, Option, Some, None, Result, Ok, Err, IsTrue}
use Rattle.std.specs.List.{list_any}
use Rattle.class_model.specs.Checks.{Fault}
use Rattle.class_model.specs.Instructions.{decoded}
use Rattle.class_model.specs.Members.{FINAL, has, is_text}
use Rattle.class_model.specs.MethodCode.{code_of}
use Rattle.class_model.specs.Names.{init}
use Rattle.class_model.specs.Pool.{Constants, constant_at}
use Rattle.class_model.specs.PoolChecks.{utf8_at}
use Rattle.class_model.specs.declared.class_file.ClassFile.{ClassFile}
use Rattle.class_model.specs.declared.class_file.CodePart.{CodePart}
use Rattle.class_model.specs.declared.class_file.Method.{Method}
use Rattle.class_model.specs.declared.class_file.MethodAt.{MethodAt}
use Rattle.class_model.specs.declared.instr.Instr.{Instr}
use Rattle.class_model.specs.declared.instr.Instr.TheVariants.{PutField}
use Rattle.class_model.specs.declared.instr.Placed.{Placed}
use Rattle.class_tree.specs.Headers.{Name, Classes, Headers}
use Rattle.class_tree.specs.Order.{place_of}
use Rattle.class_tree.specs.declared.place.Place.TheVariants.{Folder}
use Rattle.expanded_code.specs.Candidates.{Initialises, StoresInto}
use Rattle.member_link.specs.DeclaredMembers.{Declared}
use Rattle.member_link.specs.Fields.{FindsField}
use Rattle.member_link.specs.References.{Reference}
use Rattle.member_link.specs.Scope.{Scope, instructions, scope_at}
use Rattle.member_link.specs.Signatures.{reference_of}

-- a method of the folder stores into a final field of a class, and is none of its instance initialisers
pub record IsStored (classes : Classes) (class : Name) : Type 0 where
  pub at : MethodAt
  pub scope : Scope
  pub number : ℕ
  pub placed : Placed
  pub field : Declared
  pub is_scope : scope_at classes at ≡ Some scope
  pub there : slice_get (instructions scope) number ≡ Some placed
  pub stores : StoresInto scope placed.instr field
  pub own : field.class ≡ class
  pub is_final : IsTrue (has field.member.flags FINAL)
  pub other : ¬ Initialises scope class

-- ---- by the constants of a class file

-- the instructions of a method, which are none where it has no code
abbrev pub method_instrs : Method → List Placed
method_instrs method = of_code (code_of method.attrs) where
  or_none : Result (List Placed) Fault → List Placed
  or_none (Ok instrs) = instrs
  or_none (Err fault) = []

  of_code : Option CodePart → List Placed
  of_code None = []
  of_code (Some part) = or_none (decoded part.code)

-- it stores into the field of a constant
abbrev pub is_store : ℕ → Placed → Bool
is_store index placed = by placed.instr where
  by : Instr → Bool
  by (PutField at) = at == index
  by other = false

-- the method is an instance initialiser, or none
abbrev pub is_wanted : ClassFile → Bool → Method → Bool
is_wanted class true method = is_text init (utf8_at class.pool method.name)
is_wanted class false method = not (is_text init (utf8_at class.pool method.name))

-- one of the initialisers of a class file, or one of its other methods, stores into the field of a constant
abbrev pub stores_into : ClassFile → Bool → ℕ → Method → Bool
stores_into class of_initialisers index method =
    is_wanted class of_initialisers method && list_any (is_store index) (method_instrs method)

abbrev pub is_stored_by : ClassFile → Bool → ℕ → Bool
is_stored_by class of_initialisers index = list_any (stores_into class of_initialisers index) class.methods

-- marks that say of each number below a count whether it passes
pub record AreMarks (marks : List Bool) (count : ℕ) (test : ℕ → Bool) : Type 0 where
  pub len : length marks ≡ count
  pub each : (number : ℕ) → number < count → get_or marks number false ≡ test number

-- the constant refers to a final field of the class of this number in the folder
pub record FindsFinal (headers : Headers) (pool : Constants) (index number : ℕ) : Type 0 where
  pub reference : Reference
  pub names : reference_of pool (constant_at pool index) ≡ Some reference
  pub field : Declared
  pub finds : FindsField headers reference.class reference.name reference.desc (Some field)
  pub is_final : IsTrue (has field.member.flags FINAL)
  pub stands : place_of headers field.class ≡ Some (Folder number)

abbrev pub IsFinalClass : Headers → Constants → ℕ → Option ℕ → Type 0
IsFinalClass headers pool index result =
    (number : ℕ) → (result ≡ Some number) ↔ FindsFinal headers pool index number

-- A class file of this number stores into a final field of the class of another number: outside its own initialisers.
pub record StoresAt (headers : Headers) (class : ClassFile) (from index number : ℕ) : Type 0 where
  pub finds : FindsFinal headers class.pool index number
  pub stored : IsTrue (is_stored_by class false index)
      ⊎ (IsTrue (is_stored_by class true index) × (from ≢ number))

-- one of its constants below a count does
abbrev pub StoresFrom : Headers → ClassFile → ℕ → ℕ → ℕ → Type 0
StoresFrom headers class from count number =
    (index : ℕ) × (index < count) × StoresAt headers class from index number

-- One of the first class files of a folder stores into a final field of the class of this number.
pub record StoredBefore (headers : Headers) (files : List ClassFile) (count number : ℕ) : Type 0 where
  pub from : ℕ
  pub before : from < count
  pub class : ClassFile
  pub there : slice_get files from ≡ Some class
  pub stores : StoresFrom headers class from (length class.pool) number

-- the numbers that are marked are those that were, and those of which something holds
pub record Adds (Holds : ℕ → Type 0) (before after : List Bool) : Type 0 where
  pub len : length after ≡ length before
  pub each : (number : ℕ)
      → number < length before
      → IsTrue (get_or after number false) ↔ (IsTrue (get_or before number false) ⊎ Holds number)
