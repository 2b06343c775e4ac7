-- How the superinterfaces of each class are found: as numbers of classes, from the lists of those that it names.
use Rattle.std.specs.Prelude.{◌≡◌, ◌<◌, ◌==◌, ℕ, Bool, false, List, [], ◌∷◌, ◌++◌, length, map, slice_index_or, slice_get, Some, if◌then◌else◌}
use Rattle.std.specs.List.{All, flat_map, list_any}
use Rattle.class_model.specs.declared.header.Header.{Header}
use Rattle.class_tree.specs.Headers.{Name, Headers, all_headers}
use Rattle.class_tree.specs.Interfaces.{IsInterfaceWalk}
use Rattle.class_tree.specs.Inner.Nodes.{number_of}

-- the list, and behind it the number where the list does not have it
abbrev pub with_number : List ℕ → ℕ → List ℕ
with_number list number = if list_any (λ one. one == number) list then list else list ++ number ∷ []

-- the list, and behind it each of the numbers where it stands first
abbrev pub with_numbers : List ℕ → List ℕ → List ℕ
with_numbers list [] = list
with_numbers list (number ∷ numbers) = with_numbers (with_number list number) numbers

-- no number stands twice in the list
abbrev pub IsOnce : List ℕ → Type 0
IsOnce list = with_numbers [] list ≡ list

-- marks tell of each number below so many whether a list has it
pub record AreMarks (marks : List Bool) (list : List ℕ) : Type 0 where
  pub within : All (λ number. number < length marks) list
  pub told : (number : ℕ)
      → number < length marks
      → slice_index_or marks number false ≡ list_any (λ one. one == number) list

-- lists of numbers, by number, for so many numbers
pub record AreLists (count : ℕ) (lists : List (List ℕ)) : Type 0 where
  pub len : length lists ≡ count
  pub within : All (All (λ number. number < count)) lists

-- each number, followed by its list
abbrev pub with_lists : List (List ℕ) → List ℕ → List ℕ
with_lists lists numbers = flat_map (λ number. number ∷ slice_index_or lists number []) numbers

-- numbers of the superinterfaces of a class, each once
pub record AreNumbersOf (headers : Headers) (class : Name) (numbers : List ℕ) : Type 0 where
  pub walk : List Name
  pub walked : IsInterfaceWalk headers class walk
  pub met : List ℕ
  pub same : map (number_of headers) walk ≡ map Some met
  pub once : numbers ≡ with_numbers [] met

-- those of each class
pub record AreNumberLists (headers : Headers) (lists : List (List ℕ)) : Type 0 where
  pub len : length lists ≡ length (all_headers headers)
  pub each : (number : ℕ) (header : Header)
      → slice_get (all_headers headers) number ≡ Some header
      → AreNumbersOf headers header.name (slice_index_or lists number [])
