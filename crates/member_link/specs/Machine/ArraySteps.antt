-- Arrays (JVM Specification SE 8, 6.5: newarray, anewarray, multianewarray, arraylength, the loads and stores of elements). Of an
-- access null is tested first, then the index, then of a store into an array of references the value. An array of more than
-- 1,000,000 elements ends the run, and so do arrays of arrays of which one level has more: this
-- project's profile.
use Rattle.std.specs.Prelude.{◌==◌, ◌||◌, ◌*◌, ◌+◌, ℕ, zero, suc, ℤ, pos, negsuc, nat_lt, Bool, true, false, List, [], ◌∷◌, replicate, slice_get, bytes_eq, codes, Option, Some, None, is_some, if◌then◌else◌}
use Rattle.class_model.specs.Descriptors.{type_of}
use Rattle.class_tree.specs.Headers.{Name}
use Rattle.machine_values.specs.declared.object.Object.{Object}
use Rattle.machine_values.specs.declared.object.Shape.{Shape}
use Rattle.machine_values.specs.declared.object.Shape.TheVariants.{Array}
use Rattle.machine_values.specs.declared.value.Value.{Value}
use Rattle.machine_values.specs.declared.value.Value.TheVariants.{Int, Long, Float, Double, Null, Ref}
use Rattle.member_link.specs.Machine.Completions.{Completion, gives, raises, ends}
use Rattle.machine_values.specs.Heaps.{Heap, Made, object_at, allocated, with_value}
use Rattle.member_link.specs.Machine.Programs.{Program}
use Rattle.member_link.specs.Machine.Shapes.{component_named, is_instance}
use Rattle.member_link.specs.Machine.Throwables.{null_pointer, index_outside, array_store, negative_size}
use Rattle.machine_values.specs.Values.{blank_value, narrowed, component_text}
use Rattle.member_link.specs.Machine.Worlds.{Memory, with_heap, stuck, array_too_long}

-- the most elements of an array, and of any product of the leading counts of a multianewarray
abbrev pub most_elements : ℕ
most_elements = 1000000

-- ---- arrays that are made

-- an array of a descriptor, of so many elements that are zero or null
abbrev pub blank_array : Heap → Name → ℕ → Made
blank_array heap desc count =
    allocated heap (Array desc count) (replicate count (blank_value (component_text desc)))

abbrev pub gives_array : Memory → Made → Completion
gives_array memory made =
    gives (record memory { heap = made.heap; allocations = memory.allocations + 1 })
    (Ref made.reference ∷ [])

abbrev pub new_array_work : Memory → Name → List Value → Completion
new_array_work memory desc (Int (negsuc n) ∷ []) = raises negative_size
new_array_work memory desc (Int (pos count) ∷ []) =
    if nat_lt most_elements count
    then ends array_too_long
    else gives_array memory (blank_array memory.heap desc count)
new_array_work memory desc operands = ends stuck

-- a heap, and the elements that were made in it
pub record MadeElements : Type 0 where
  pub heap : Heap
  pub values : List Value

-- so many arrays one after the other, each made by the same rule
abbrev pub made_times : (Heap → Made) → ℕ → Heap → MadeElements
made_times make zero heap = record { heap = heap; values = [] }
made_times make (suc left) heap =
    let made = make heap in
    let others = made_times make left made.heap in
    record others { values = Ref made.reference ∷ others.values }

-- an array of these elements
abbrev pub array_with : Name → ℕ → MadeElements → Made
array_with desc count made = allocated made.heap (Array desc count) made.values

-- An array of arrays to the depth of the counts: its elements are made before it. Behind the last count its elements are zero or null.
abbrev pub nested : Name → ℕ → List ℕ → Heap → Made
nested desc count [] heap = blank_array heap desc count
nested desc count (next ∷ counts) heap =
    array_with desc count (made_times (nested (component_text desc) next counts) count heap)

-- the counts as numbers, if none is negative
pub data Counts : Type 0 where
  all_counts : List ℕ → Counts
  negative_count : Counts
  no_counts : Counts

abbrev pub counts_of : List Value → Counts
counts_of [] = all_counts []
counts_of (Int (pos count) ∷ values) = before count (counts_of values) where
  before : ℕ → Counts → Counts
  before count (all_counts counts) = all_counts (count ∷ counts)
  before count other = other
counts_of (Int (negsuc n) ∷ values) = if_counts (counts_of values) where
  if_counts : Counts → Counts
  if_counts no_counts = no_counts
  if_counts other = negative_count
counts_of (value ∷ values) = no_counts

-- a product of the leading counts is above the most elements
abbrev pub is_too_long : ℕ → List ℕ → Bool
is_too_long product [] = false
is_too_long product (count ∷ counts) =
    nat_lt most_elements (product * count) || is_too_long (product * count) counts

-- how many arrays are made of these counts
abbrev pub arrays_made : List ℕ → ℕ
arrays_made [] = 0
arrays_made (count ∷ []) = 1
arrays_made (count ∷ counts) = 1 + count * arrays_made counts

abbrev pub gives_arrays : Memory → ℕ → Made → Completion
gives_arrays memory count made =
    gives (record memory { heap = made.heap; allocations = memory.allocations + count })
    (Ref made.reference ∷ [])

abbrev pub arrays_of_counts : Memory → Name → Counts → Completion
arrays_of_counts memory desc (all_counts []) = ends stuck
arrays_of_counts memory desc (all_counts (count ∷ counts)) =
    if is_too_long 1 (count ∷ counts) then ends array_too_long
    else gives_arrays memory (arrays_made (count ∷ counts)) (nested desc count counts memory.heap)
arrays_of_counts memory desc negative_count = raises negative_size
arrays_of_counts memory desc no_counts = ends stuck

abbrev pub new_arrays_work : Memory → Name → List Value → Completion
new_arrays_work memory desc operands = arrays_of_counts memory desc (counts_of operands)

-- ---- elements

abbrev pub length_of : Memory → Option Object → Completion
length_of memory None = ends stuck
length_of memory (Some object) = of_shape object.shape where
  of_shape : Shape → Completion
  of_shape (Array desc len) = gives memory (Int (pos len) ∷ [])
  of_shape shape = ends stuck

abbrev pub array_length_work : Memory → List Value → Completion
array_length_work memory (Null ∷ []) = raises null_pointer
array_length_work memory (Ref reference ∷ []) = length_of memory (object_at memory.heap reference)
array_length_work memory operands = ends stuck

-- the arrays that a load or store of elements takes, by its opcode counted from iaload or iastore; the fifth takes each array of
-- references, and the sixth is of bytes and booleans
abbrev pub takes_array : ℕ → Name → Bool
takes_array number desc =
    if number == 0 then bytes_eq desc (codes "[I")
    else (if number == 1 then bytes_eq desc (codes "[J")
    else (if number == 2 then bytes_eq desc (codes "[F")
    else (if number == 3 then bytes_eq desc (codes "[D")
    else (if number == 4 then is_some (component_named (component_text desc))
    else (if number == 5 then bytes_eq desc (codes "[B") || bytes_eq desc (codes "[Z")
    else (if number == 6 then bytes_eq desc (codes "[C")
    else (if number == 7 then bytes_eq desc (codes "[S")
    else false)))))))

-- an index that the array has
abbrev pub index_in : ℤ → ℕ → Option ℕ
index_in (pos index) len = if nat_lt index len then Some index else None
index_in (negsuc n) len = None

abbrev pub element_of : Memory → ℕ → ℤ → Option Object → Completion
element_of memory number index None = ends stuck
element_of memory number index (Some object) = of_shape object.shape where
  of_value : Option Value → Completion
  of_value None = ends stuck
  of_value (Some value) = gives memory (value ∷ [])

  of_index : Option ℕ → Completion
  of_index None = raises index_outside
  of_index (Some at) = of_value (slice_get object.values at)

  of_shape : Shape → Completion
  of_shape (Array desc len) =
      if takes_array number desc then of_index (index_in index len) else ends stuck
  of_shape shape = ends stuck

-- a load by the number of its opcode, counted from iaload; of null each load raises
abbrev pub load_element_work : Memory → ℕ → List Value → Completion
load_element_work memory number (Null ∷ Int index ∷ []) = raises null_pointer
load_element_work memory number (Ref reference ∷ Int index ∷ []) =
    element_of memory number index (object_at memory.heap reference)
load_element_work memory number operands = ends stuck

-- the kind of the values that a store takes
abbrev pub stores_value : ℕ → Value → Bool
stores_value number (Int value) = number == 0 || (number == 5 || (number == 6 || number == 7))
stores_value number (Long value) = number == 1
stores_value number (Float bits) = number == 2
stores_value number (Double bits) = number == 3
stores_value number Null = number == 4
stores_value number (Ref reference) = number == 4

-- a value is null or an instance of an array's component
abbrev pub fits_component : Program → Memory → Name → Value → Bool
fits_component P memory desc (Ref reference) =
    of_component (component_named (component_text desc)) (object_at memory.heap reference) where
      of_component : Option Name → Option Object → Bool
      of_component (Some name) (Some object) = is_instance P object.shape name
      of_component name object = false
fits_component P memory desc value = true

abbrev pub put_element : Program → Memory → ℕ → ℕ → ℤ → Value → Option Object → Completion
put_element P memory number reference index value None = ends stuck
put_element P memory number reference index value (Some object) = of_shape object.shape where
  of_index : Name → Option ℕ → Completion
  of_index desc None = raises index_outside
  of_index desc (Some at) =
      if fits_component P memory desc value
      then gives
      (with_heap memory
      (with_value memory.heap reference at
      (narrowed (type_of (component_text desc)) value))) []
      else raises array_store

  of_shape : Shape → Completion
  of_shape (Array desc len) =
      if takes_array number desc then of_index desc (index_in index len) else ends stuck
  of_shape shape = ends stuck

-- a store by the number of its opcode, counted from iastore
abbrev pub store_element_work : Program → Memory → ℕ → List Value → Completion
store_element_work P memory number (array ∷ Int index ∷ value ∷ []) =
    if stores_value number value then into array else ends stuck where
      into : Value → Completion
      into Null = raises null_pointer
      into (Ref reference) =
          put_element P memory number reference index value (object_at memory.heap reference)
      into other = ends stuck
store_element_work P memory number operands = ends stuck
