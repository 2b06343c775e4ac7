-- The files of a folder as a list in byte order of their names.
use Rattle.std.specs.Prelude.{◌≡◌, ◌-◌, Bool, List, [], ◌∷◌, drop, length, codes, bytes_eq, Some, IsSorted, IsTrue}
use Rattle.std.specs.Ordering.{nat_cmp}
use Rattle.std.specs.Cmp.Lexicographic.{slice_cmp}
use Rattle.std.specs.declared.cmp.Ordering.TheVariants.{Less}
use Rattle.host_tree.specs.Host.{Bytes, Folder, HasEachOnce}

-- the one name stands before the other in byte order
abbrev pub IsBytesBefore : Bytes → Bytes → Type 0
IsBytesBefore one other = slice_cmp nat_cmp one other ≡ Less

-- the names of the folder, each once, in byte order
pub record AreNames (folder : Folder) (names : List Bytes) : Type 0 where
  pub once : HasEachOnce folder names
  pub in_order : IsSorted (slice_cmp nat_cmp) names

-- the name is that of a class file: its last six bytes are .class
abbrev pub names_class_file : Bytes → Bool
names_class_file name = bytes_eq (drop (length name - 6) name) (codes ".class")

-- The class files among these names, in their order, are read as these values. The relation says what bytes are read as.
pub data AreReadAs {X : Type 0} (Of : Bytes → X → Type 0) (folder : Folder)
    : List Bytes → List X → Type 0 where
  no_name : AreReadAs Of folder [] []
  class_file :
      (name bytes : Bytes) (names : List Bytes) (value : X) (values : List X)
      → IsTrue (names_class_file name)
      → folder name ≡ Some bytes
      → Of bytes value
      → AreReadAs Of folder names values
      → AreReadAs Of folder (name ∷ names) (value ∷ values)
  other_file :
      (name : Bytes) (names : List Bytes) (values : List X)
      → ¬ IsTrue (names_class_file name)
      → AreReadAs Of folder names values
      → AreReadAs Of folder (name ∷ names) values

-- the class files of the folder, in byte order of file names, are read as these values
pub record HasClassFiles {X : Type 0} (Of : Bytes → X → Type 0) (folder : Folder) (values : List X)
    : Type 0 where
  pub names : List Bytes
  pub are_names : AreNames folder names
  pub are_read : AreReadAs Of folder names values
