-- What is asked of a written folder, beside what it is by its definition, so that it runs as the folder. It is this project's profile.
use Rattle.class_model.specs.declared.class_file.ClassFile.{ClassFile}
use Rattle.class_model.specs.declared.class_file.MethodAt.{MethodAt}
use Rattle.class_rewrite.specs.Rewriting.Folders.{IsFolderWritten, IsRewrittenAt}
use Rattle.class_rewrite.specs.Rewriting.Methods.{Rewriting, Rewritten}
use Rattle.code_layout.specs.Emitting.{IsEmitted}
use Rattle.std.specs.Prelude.{List}

-- The items of rewritten methods are emitted code: they jump to items, and so do their handlers.
pub record IsWellWritten (r : Rewriting) (files : List ClassFile) (w : IsFolderWritten r files)
    : Type 0 where
  pub emitted : (at : MethodAt) (v : Rewritten) → IsRewrittenAt r at v → IsEmitted v.items
