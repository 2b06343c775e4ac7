-- Folders with a class, and folders without.
use Rattle.std.specs.Prelude.{◌≡◌, ◌<◌, ◌⊎◌, List, [], ◌∷◌, length, Some, None}
use Rattle.std.proofs.Common.{arith, inl, inr, refl}
use Rattle.class_model.specs.declared.class_file.ClassFile.{ClassFile}
use Rattle.class_model.specs.declared.class_file.MethodAt.{MethodAt}
use Rattle.class_tree.specs.Headers.{Classes}
use Rattle.member_link.specs.Machine.Classes.{program_of}
use Rattle.member_link.specs.Machine.Programs.{Links}
use Rattle.member_link.specs.Machine.Replaced.{Replacement, replaced}
use Rattle.member_link.specs.Scope.{Scope, scope_at}

-- where no class is, nothing is replaced
pub none_or_some : (classes : Classes) (links : Links) (r : Replacement)
    → (program_of classes links ≡ replaced (program_of classes links) r) ⊎ (0 < length classes.folder)
none_or_some classes links r = by classes.folder refl where
  by : (folder : List ClassFile) → classes.folder ≡ folder
      → (program_of classes links ≡ replaced (program_of classes links) r) ⊎ (0 < length classes.folder)
  by [] e = inl (rw e refl)
  by (class ∷ folder) e = inr (rw e (omega arith))

-- a method stands in a class
pub some_class : (classes : Classes) (at : MethodAt) (s : Scope) → scope_at classes at ≡ Some s → 0 < length classes.folder
some_class classes at s there = by classes.folder refl where
  by : (folder : List ClassFile) → classes.folder ≡ folder → 0 < length classes.folder
  by [] e = let no : None ≡ Some s = rw e at there in absurd cc
  by (class ∷ folder) e = rw e (omega arith)
