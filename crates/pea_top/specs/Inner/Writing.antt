-- What writing files one after the other leaves of a host's files.
use Rattle.std.specs.Prelude.{◌≡◌, ◌≢◌, List, [], ◌∷◌, ◌++◌, bytes_eq, Option, Some, if◌then◌else◌}
use Rattle.host_tree.specs.Host.{Bytes, Files}
use Rattle.pea_top.specs.declared.folder.NamedFile.{NamedFile}

-- what stands under a name after files were put in the place of what was there, in their order
abbrev pub content_after : List NamedFile → Bytes → Option Bytes → Option Bytes
content_after [] name old = old
content_after (file ∷ files) name old =
    content_after files name (if bytes_eq name file.name then Some file.bytes else old)

-- the files were put under the root, and all else is as before
pub record Puts (root : Bytes) (files : List NamedFile) (old new : Files) : Type 0 where
  pub put : (name : Bytes) → new root name ≡ content_after files name (old root name)
  pub others : (other name : Bytes) → other ≢ root → new other name ≡ old other name

-- The first files were put under the root, of the next name nothing is said, and all else is as before.
pub record PutsSome (root : Bytes) (files : List NamedFile) (old new : Files) : Type 0 where
  pub done : List NamedFile
  pub failing : NamedFile
  pub left : List NamedFile
  pub parts : files ≡ done ++ failing ∷ left
  pub put :
      (name : Bytes) → name ≢ failing.name → new root name ≡ content_after done name (old root name)
  pub others : (other name : Bytes) → other ≢ root → new other name ≡ old other name
