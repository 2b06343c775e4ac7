-- What a host tells of its files and of what was printed, and what its calls leave.
use Rattle.std.specs.Prelude.{◌≡◌, ℕ, ◌<◌, ◌≤◌, ◌⊎◌, List, ◌++◌, length, take, sum_by, bytes_eq, Option, Some, is_some, if◌then◌else◌}

-- a name, a root and a content are lists of bytes
abbrev pub Bytes : Type 0
Bytes = List ℕ

-- the bytes under each name of a root, if it has the name
abbrev pub Folder : Type 0
Folder = Bytes → Option Bytes

-- the folder of each root
abbrev pub Files : Type 0
Files = Bytes → Folder

-- no file is other than before
abbrev pub SameFiles : Files → Files → Type 0
SameFiles old new = (root name : Bytes) → new root name ≡ old root name

-- no file but this one is other than before
abbrev pub SameElsewhere : Bytes → Bytes → Files → Files → Type 0
SameElsewhere root name old new = (r n : Bytes) → ¬ ((r ≡ root) × (n ≡ name)) → new r n ≡ old r n

-- how often a name stands in a list
abbrev pub times : Bytes → List Bytes → ℕ
times name names = sum_by (λ other. if bytes_eq name other then 1 else 0) names

-- 1 for a name that the folder has, and else 0
abbrev pub held : Folder → Bytes → ℕ
held folder name = if is_some (folder name) then 1 else 0

-- the names of the folder, each once
abbrev pub HasEachOnce : Folder → List Bytes → Type 0
HasEachOnce folder names = (name : Bytes) → times name names ≡ held folder name

-- the folder has a name that the list has not
pub record LacksSome (folder : Folder) (names : List Bytes) : Type 0 where
  pub name : Bytes
  pub lacked : times name names < held folder name

-- names of the folder, none twice: all of them, or where there are more than most, most of them
pub record IsListing (folder : Folder) (most : ℕ) (names : List Bytes) : Type 0 where
  pub none_twice : (name : Bytes) → times name names ≤ held folder name
  pub not_more : length names ≤ most
  pub all_or_most : HasEachOnce folder names ⊎ ((length names ≡ most) × LacksSome folder names)

-- what is read of a file: it is there, and these are its first bytes, most of them or all
pub record IsReadOf (file : Option Bytes) (most : ℕ) (bytes : Bytes) : Type 0 where
  pub whole : Bytes
  pub there : file ≡ Some whole
  pub first : bytes ≡ take most whole

-- some prefix of the bytes was appended to what was printed
pub record IsPrefixPrinted (bytes old new : Bytes) : Type 0 where
  pub count : ℕ
  pub appended : new ≡ old ++ take count bytes
