-- Memories of two runs that are the same but for the numbers of references, for objects that only one of them has, and for classes that
-- the first alone has begun: the second has not yet had a reason to.
use Rattle.std.specs.Prelude.{◌≡◌, ◌+◌, ◌==◌, ℕ, List, [], ◌∷◌, slice_get, Option, Some, None, IsSome, IsTrue, IsFalse, option_map, if◌then◌else◌}
use Rattle.std.specs.List.{AllByRecursion}
use Rattle.class_model.specs.Descriptors.{type_of}
use Rattle.machine_values.specs.Heaps.{Heap, Kept, class_of_constant, constant_in, kept_in, object_at}
use Rattle.machine_values.specs.Values.{narrowed}
use Rattle.machine_values.specs.declared.object.Constant.{Constant}
use Rattle.machine_values.specs.declared.object.Constant.TheVariants.{Str}
use Rattle.machine_values.specs.declared.object.Object.{Object}
use Rattle.machine_values.specs.declared.object.Shape.TheVariants.{External}
use Rattle.machine_values.specs.declared.value.Value.{Value}
use Rattle.machine_values.specs.declared.value.Value.TheVariants as values
use Rattle.member_link.specs.Machine.Beginnings.{come_first, initialiser_of, starts_of}
use Rattle.member_link.specs.Machine.Programs.{Program, RunClass, StartValue, StaticStart, start_string, start_value, folder_number, name_of_class}
use Rattle.member_link.specs.Machine.Worlds.{Memory, field_desc, is_begun, static_value, written_static}
use Rattle.same_runs.specs.Renamings.{IsRenaming, Names, SameObject, SameValue}

-- ---- heaps

-- Each constant of a heap has a reference of its own, which is there.
pub record HasOwnConstants (heap : Heap) : Type 0 where
  pub there : (constant : Constant) (reference : ℕ)
      → kept_in heap.constants constant ≡ Some reference
      → (object : Object) × (object_at heap reference ≡ Some object)
  pub is_of : (constant : Constant) (reference : ℕ)
      → kept_in heap.constants constant ≡ Some reference
      → constant_in heap.constants reference ≡ Some constant
  pub has : (constant : Constant) (reference : ℕ)
      → constant_in heap.constants reference ≡ Some constant
      → kept_in heap.constants constant ≡ Some reference

-- an object of a constant that nothing has touched
abbrev pub fresh_constant : Constant → Object
fresh_constant constant =
    record { shape = External (class_of_constant constant) []; values = []; monitor = 0 }

-- Objects of the first run that the second has not, by their references: what a theorem says of them itself.
abbrev pub Apart : Type 0
Apart = List (ℕ × Object)

-- One of them is in the first heap exactly so. It has no name, and is no constant's.
pub record StaysApart (names : Names) (heap : Heap) (apart : ℕ × Object) : Type 0 where
  pub there : object_at heap apart.0 ≡ Some apart.1
  pub unnamed : names apart.0 ≡ None
  pub no_constant : (constant : Constant) → kept_in heap.constants constant ≡ Some apart.0 → ⊥

-- A reference that has a name is that of the same object under its name. The second heap has no constant that the first has not; one that
-- the first alone has is as it was made. Objects that are said to be apart stay in the first alone.
pub record SameHeaps (apart : Apart) (names : Names) (one other : Heap) : Type 0 where
  pub renaming : IsRenaming names
  pub objects : (reference named : ℕ)
      → names reference ≡ Some named
      → (object also : Object)
      × (object_at one reference ≡ Some object)
      × (object_at other named ≡ Some also)
      × SameObject names object also
  pub own : HasOwnConstants one
  pub own_also : HasOwnConstants other
  pub kept : (constant : Constant) (named : ℕ)
      → kept_in other.constants constant ≡ Some named
      → (reference : ℕ)
      × (kept_in one.constants constant ≡ Some reference)
      × (names reference ≡ Some named)
  pub named : (constant : Constant) (reference named : ℕ)
      → kept_in one.constants constant ≡ Some reference
      → names reference ≡ Some named
      → kept_in other.constants constant ≡ Some named
  pub fresh : (constant : Constant) (reference : ℕ)
      → kept_in one.constants constant ≡ Some reference
      → names reference ≡ None
      → object_at one reference ≡ Some (fresh_constant constant)
  pub stays : AllByRecursion (StaysApart names one) apart

-- ---- classes that are begun

-- a class of the folder and each one above it have no class initialiser with code: where they begin, nothing runs
abbrev pub IsInert : Program → ℕ → Type 0
IsInert P class =
    (above : ℕ)
    → IsTrue (P.links.below (name_of_class P class) (name_of_class P above))
    → initialiser_of P above ≡ None

-- the classes that come before it are begun
abbrev pub HasFirstBegun : Program → Memory → ℕ → Type 0
HasFirstBegun P memory class =
    (found : RunClass) (name : List ℕ) (number first : ℕ)
    → slice_get P.classes class ≡ Some found
    → slice_get (come_first P found.header) number ≡ Some name
    → folder_number P name ≡ Some first
    → IsTrue (is_begun memory first)

-- what a static field begins with, by the constants of a heap
abbrev pub start_in : List Kept → StartValue → Option Value
start_in constants (start_value value) = Some value
start_in constants (start_string text) = option_map values.Ref (kept_in constants (Str text))

-- What the static field of a number is set to where its class begins: by the last of its ConstantValues, if it has one.
abbrev pub started : Program → ℕ → List Kept → List StaticStart → ℕ → Option Value
started P class constants [] field = None
started P class constants (start ∷ starts) field =
    or_else (started P class constants starts field)
    (if start.field == field then set_to start else None) where
      set_to : StaticStart → Option Value
      set_to start =
          option_map (narrowed (type_of (field_desc P class start.field)))
          (start_in constants start.value)

      or_else : Option Value → Option Value → Option Value
      or_else None value = value
      or_else (Some later) value = Some later

-- a string that a field begins with is a constant of a heap
abbrev pub IsKeptStart : List Kept → StaticStart → Type 0
IsKeptStart constants start = IsSome (start_in constants start.value)

-- its static fields are as they were when it began
pub record IsAsBegun (P : Program) (memory : Memory) (class : ℕ) : Type 0 where
  pub kept : AllByRecursion (IsKeptStart memory.heap.constants) (starts_of P class)
  pub statics : (field : ℕ)
      → written_static memory.statics class field
      ≡ started P class memory.heap.constants (starts_of P class) field

-- A class of the first run alone: it is inert, as it began, and no beginning above it is still to come, unless it is one of those that
-- are begun just now.
pub record IsBegunAlone (P : Program) (now : List ℕ) (memory : Memory) (class : ℕ) : Type 0 where
  pub inert : IsInert P class
  pub as_begun : IsAsBegun P memory class
  pub first : ((number : ℕ) → slice_get now number ≡ Some class → ⊥) → HasFirstBegun P memory class

-- a class of the folder whose beginning runs nothing, and before which no class is still to begin
pub record BeginsQuietly (P : Program) (memory : Memory) (class : ℕ) : Type 0 where
  pub found : RunClass
  pub is : slice_get P.classes class ≡ Some found
  pub inert : IsInert P class
  pub first : HasFirstBegun P memory class

-- Classes that the second has begun the first has begun too, and then their static fields are the same. A class that is not begun has no
-- static field that was written.
pub record SameStatics (P : Program) (names : Names) (now : List ℕ) (one other : Memory)
    : Type 0 where
  pub begun : (class : ℕ) → IsTrue (is_begun other class) → IsTrue (is_begun one class)
  pub values : (class field : ℕ)
      → IsTrue (is_begun other class)
      → SameValue names (static_value P one class field) (static_value P other class field)
  pub alone : (class : ℕ)
      → IsTrue (is_begun one class)
      → IsFalse (is_begun other class)
      → IsBegunAlone P now one class
  pub unwritten : (class field : ℕ)
      → IsFalse (is_begun one class)
      → written_static one.statics class field ≡ None
  pub unwritten_also : (class field : ℕ)
      → IsFalse (is_begun other class)
      → written_static other.statics class field ≡ None

-- ---- memories

-- How counts of the two runs compare: both may rise together.
pub record IsComparison (Compares : ℕ → ℕ → Type 0) : Type 0 where
  pub both : (one other more : ℕ) → Compares one other → Compares (one + more) (other + more)

-- The same memories: `now` has the classes whose beginnings stand on top of the first run alone.
pub record SameMemories (P : Program) (Allocated Entered : ℕ → ℕ → Type 0) (apart : Apart) (names : Names)
    (now : List ℕ) (one other : Memory)
    : Type 0 where
  pub heaps : SameHeaps apart names one.heap other.heap
  pub statics : SameStatics P names now one other
  pub allocations : Allocated one.allocations other.allocations
  pub entries : Entered one.entries other.entries
