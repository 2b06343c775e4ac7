-- A written folder has a class for each class of the folder.
use Rattle.std.proofs.Common.{◌≡◌, ℕ, zero, suc, List, [], ◌∷◌, length, refl, ap}
use Rattle.class_model.specs.declared.class_file.ClassFile.{ClassFile}
use Rattle.class_rewrite.specs.Rewriting.Folders.{AreClassesWritten, IsFolderWritten}
use Rattle.class_rewrite.specs.Rewriting.Methods.{Rewriting}
use Rattle.member_link.specs.Machine.Replaced.{Replacement}
use Rattle.plan_flow.specs.Written.WrittenPrograms.{WrittenMethods}

classes_len : (r : Rewriting) (written : WrittenMethods) (s : Replacement) (number : ℕ) (files others : List ClassFile)
    → AreClassesWritten r written s number files others
    → length others ≡ length files
classes_len r written s number [] [] are = refl
classes_len r written s number [] (other ∷ others) are = absurd are
classes_len r written s number (file ∷ files) [] are = absurd are
classes_len r written s number (file ∷ files) (other ∷ others) are = ap suc (classes_len r written s (suc number) files others are.1)

pub written_len : (r : Rewriting) (files : List ClassFile) → IsFolderWritten r files → length files ≡ length r.classes.folder
written_len r files w = classes_len r w.written w.s zero r.classes.folder files w.classes
