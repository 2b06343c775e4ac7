-- The classes of a folder by index.
use Rattle.std.proofs.Common.{◌≡◌, ◌<◌, ℕ, zero, suc, List, [], ◌∷◌, length, get_or, sym, subst, arith}
use Rattle.std.specs.List.{AllByRecursion}
use Rattle.class_model.specs.ClassOf.{ClassOf}
use Rattle.class_model.specs.Spelling.{class_bytes}
use Rattle.class_model.specs.declared.class_file.ClassFile.{ClassFile}
use Rattle.class_tree.specs.Headers.{IsClassFile}
use Rattle.code_bytes.specs.Codes.{HasReadMethods}

-- what is said of each class file
record Law : Type 0 where
  said : (bytes : List ℕ) (class : ClassFile) → ClassOf bytes class → HasReadMethods class

of_class : Law → (folder : List ClassFile) (i : ℕ) (class d : ClassFile) → AllByRecursion IsClassFile folder → i < length folder → class ≡ get_or folder i d → HasReadMethods class
of_class law [] i class d all within is = absurd (omega arith)
of_class law (first ∷ folder) zero class d all within is = subst HasReadMethods (sym is) (law.said (class_bytes first) first all.0)
of_class law (first ∷ folder) (suc i) class d all within is = of_class law folder i class d all.1 (omega arith) is

pub methods_of_class : ((bytes : List ℕ) (class : ClassFile) → ClassOf bytes class → HasReadMethods class) → (folder : List ClassFile) (i : ℕ) (class d : ClassFile) → AllByRecursion IsClassFile folder → i < length folder → class ≡ get_or folder i d → HasReadMethods class
methods_of_class law = of_class (record { said = law })
