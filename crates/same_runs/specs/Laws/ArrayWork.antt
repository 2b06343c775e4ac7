-- Arrays come to the same in both runs.
use Rattle.std.proofs.Common.{◌≡◌, ◌+◌, nat_lt, ℕ, zero, suc, ℤ, pos, negsuc, Bool, true, false, List, [], ◌∷◌, length, replicate, Option, Some, None, if◌then◌else◌, refl, sym, ap, subst, ◌∙◌, inl, inr}
use Rattle.class_model.specs.Descriptors.{type_of}
use Rattle.class_tree.specs.Headers.{Name}
use Rattle.machine_values.specs.Heaps.{Heap, Made, object_at, with_value}
use Rattle.machine_values.specs.Values.{blank_value, component_text, narrowed}
use Rattle.machine_values.specs.declared.object.Object.{Object}
use Rattle.machine_values.specs.declared.object.Shape.{Shape}
use Rattle.machine_values.specs.declared.object.Shape.TheVariants as shapes
use Rattle.machine_values.specs.declared.value.Value.{Value}
use Rattle.machine_values.specs.declared.value.Value.TheVariants as values
use Rattle.member_link.specs.Machine.ArraySteps.{MadeElements, Counts, all_counts, negative_count, no_counts, array_length_work, arrays_made, arrays_of_counts, blank_array, counts_of, element_of, fits_component, index_in, is_too_long, length_of, load_element_work, made_times, most_elements, nested, new_array_work, new_arrays_work, put_element, store_element_work, stores_value, takes_array}
use Rattle.member_link.specs.Machine.Completions.{Completion, ends, gives}
use Rattle.member_link.specs.Machine.Programs.{Program}
use Rattle.member_link.specs.Machine.Shapes.{component_named, is_instance}
use Rattle.member_link.specs.Machine.Worlds.{Memory, array_too_long}
use Rattle.same_runs.specs.Renamings.{Names, NamesMore, SameObject, SameValue, same_int, same_long, same_float, same_double, same_null, same_reference, SameValues, no_values, and_value}
use Rattle.same_runs.specs.SameCompletions.{SameCompletions, both_end, both_give, both_raise}
use Rattle.same_runs.specs.SameMemories.{Apart, IsComparison, SameHeaps, SameMemories}
use Rattle.same_runs.specs.SamePrograms.{SamePrograms}
use Rattle.same_runs.specs.Laws.FieldWork.{allocates, blank_itself, narrowed_same, value_at}
use Rattle.same_runs.specs.Laws.Heaps.{both_write, value_constants}
use Rattle.same_runs.specs.Laws.Made.{SameMade, made_both}
use Rattle.same_runs.specs.Laws.Names.{more_and_more, named_too, names_themselves}
use Rattle.same_runs.specs.Laws.OperandWork.{gives_value}
use Rattle.same_runs.specs.Laws.Shapes.{same_instance}
use Rattle.same_runs.specs.Laws.Statics.{keeps_all, memories_counted, memories_still}

-- ---- elements that are zero or null

blanks : (names : Names) (desc : List ℕ) (count : ℕ)
    → SameValues names (replicate count (blank_value desc)) (replicate count (blank_value desc))
blanks names desc zero = no_values
blanks names desc (suc count) = and_value (blank_itself names desc) (blanks names desc count)

-- ---- arrays that are made in both

pub record SameElements (apart : Apart) (names : Names) (one other : Heap) (made also : MadeElements) : Type 0 where
  pub more : Names
  pub grows : NamesMore names more
  pub heaps : SameHeaps apart more made.heap also.heap
  pub are : SameValues more made.values also.values
  pub constants : made.heap.constants ≡ one.constants

pub blank_both : {apart : Apart} {names : Names} {one other : Heap} → SameHeaps apart names one other → (desc : Name) (count : ℕ)
    → SameMade apart names one other (blank_array one desc count) (blank_array other desc count)
blank_both {names = names} same desc count = made_both same (shapes.Array desc count) _ _ (blanks names (component_text desc) count)

-- what makes one in both, under any names
abbrev MakesBoth : (Heap → Made) → Type 0
MakesBoth make = (apart : Apart) (names : Names) (one other : Heap) → SameHeaps apart names one other → SameMade apart names one other (make one) (make other)

times_both : (make : Heap → Made) → MakesBoth make → (count : ℕ) {apart : Apart} {names : Names} {one other : Heap} → SameHeaps apart names one other
    → SameElements apart names one other (made_times make count one) (made_times make count other)
times_both make both zero {names = names} same = record { more = names; grows = names_themselves names; heaps = same; are = no_values; constants = refl }
times_both make both (suc count) {apart = apart} {names = names} {one = one} {other = other} same =
    let first = both apart names one other same in
    let rest = times_both make both count first.heaps in
    record {
      more = rest.more;
      grows = more_and_more first.grows rest.grows;
      heaps = rest.heaps;
      are = and_value (same_reference (rest.grows.keeps _ _ first.is)) rest.are;
      constants = rest.constants ∙ first.constants;
    }

nested_both : (desc : Name) (count : ℕ) (counts : List ℕ) → MakesBoth (nested desc count counts)
nested_both desc count [] apart names one other same = blank_both same desc count
nested_both desc count (next ∷ counts) apart names one other same =
    let elements = times_both (nested (component_text desc) next counts) (nested_both (component_text desc) next counts) count same in
    let made = made_both elements.heaps (shapes.Array desc count) _ _ elements.are in
    record {
      more = made.more;
      grows = more_and_more elements.grows made.grows;
      heaps = made.heaps;
      is = made.is;
      constants = made.constants ∙ elements.constants;
    }

-- ---- counts

counts_same : {names : Names} {ones others : List Value} → SameValues names ones others → counts_of others ≡ counts_of ones
counts_same no_values = refl
counts_same (and_value (same_int {number = pos n}) are) = rw (counts_same are) refl
counts_same (and_value (same_int {number = negsuc n}) are) = rw (counts_same are) refl
counts_same (and_value same_long are) = refl
counts_same (and_value same_float are) = refl
counts_same (and_value same_double are) = refl
counts_same (and_value same_null are) = refl
counts_same (and_value (same_reference is) are) = refl

stores_same : {names : Names} (number : ℕ) {value also : Value} → SameValue names value also
    → stores_value number also ≡ stores_value number value
stores_same number same_int = refl
stores_same number same_long = refl
stores_same number same_float = refl
stores_same number same_double = refl
stores_same number same_null = refl
stores_same number (same_reference is) = refl

module _ {P Q : Program} {Allocated Entered : ℕ → ℕ → Type 0} {apart : Apart} {names : Names} {one other : Memory}
    (same : SamePrograms P Q) (memories : SameMemories P Allocated Entered apart names [] one other) where
  abbrev Both : Completion → Completion → Type 0
  Both completion also = SameCompletions P Allocated Entered apart names one other completion also

  pub makes_array : IsComparison Allocated → (desc : Name) {ones others : List Value} → SameValues names ones others
      → Both (new_array_work one desc ones) (new_array_work other desc others)
  makes_array compares desc no_values = both_end
  makes_array compares desc (and_value same_long are) = both_end
  makes_array compares desc (and_value same_float are) = both_end
  makes_array compares desc (and_value same_double are) = both_end
  makes_array compares desc (and_value same_null are) = both_end
  makes_array compares desc (and_value (same_reference is) are) = both_end
  makes_array compares desc (and_value (same_int {number = negsuc n}) no_values) = both_raise
  makes_array compares desc (and_value (same_int {number = negsuc n}) (and_value more are)) = both_end
  makes_array compares desc (and_value (same_int {number = pos count}) (and_value more are)) = both_end
  makes_array compares desc (and_value (same_int {number = pos count}) no_values) = by (nat_lt most_elements count) where
    by : (b : Bool) → Both
        (if b then ends array_too_long else gives
        (record one { heap = (blank_array one.heap desc count).heap; allocations = one.allocations + 1 })
        (values.Ref (length one.heap.objects) ∷ []))
        (if b then ends array_too_long else gives
        (record other { heap = (blank_array other.heap desc count).heap; allocations = other.allocations + 1 })
        (values.Ref (length other.heap.objects) ∷ []))
    by true = both_end
    by false = allocates same memories compares (shapes.Array desc count) _ _ 1
        (blanks (named_too names (length one.heap.objects) (length other.heap.objects)) (component_text desc) count)

  gives_made : IsComparison Allocated → (made also : Made) (more : ℕ) → SameMade apart names one.heap other.heap made also
      → Both (gives (record one { heap = made.heap; allocations = one.allocations + more }) (values.Ref made.reference ∷ []))
      (gives (record other { heap = also.heap; allocations = other.allocations + more }) (values.Ref also.reference ∷ []))
  gives_made compares made also more both =
      both_give both.more both.grows
      (memories_counted (one.allocations + more) (other.allocations + more) one.entries other.entries
      (compares.both one.allocations other.allocations more memories.allocations) memories.entries
      (memories_still both.grows (keeps_all one.heap made.heap both.constants) both.heaps memories))
      (and_value (same_reference both.is) no_values)

  makes_counted : IsComparison Allocated → (desc : Name) (counts : Counts)
      → Both (arrays_of_counts one desc counts) (arrays_of_counts other desc counts)
  makes_counted compares desc no_counts = both_end
  makes_counted compares desc negative_count = both_raise
  makes_counted compares desc (all_counts []) = both_end
  makes_counted compares desc (all_counts (count ∷ counts)) = by (is_too_long 1 (count ∷ counts)) where
    by : (b : Bool) → Both
        (if b then ends array_too_long else gives
        (record one { heap = (nested desc count counts one.heap).heap; allocations = one.allocations + arrays_made (count ∷ counts) })
        (values.Ref (nested desc count counts one.heap).reference ∷ []))
        (if b then ends array_too_long else gives
        (record other {
          heap = (nested desc count counts other.heap).heap;
          allocations = other.allocations + arrays_made
              (count ∷ counts);
        }) (values.Ref (nested desc count counts other.heap).reference ∷ []))
    by true = both_end
    by false = gives_made compares _ _ (arrays_made (count ∷ counts))
        (nested_both desc count counts _ names one.heap other.heap memories.heaps)

  pub makes_arrays : IsComparison Allocated → (desc : Name) {ones others : List Value} → SameValues names ones others
      → Both (new_arrays_work one desc ones) (new_arrays_work other desc others)
  makes_arrays compares desc {ones = ones} are =
      subst (λ (counts : Counts). Both (arrays_of_counts one desc (counts_of ones)) (arrays_of_counts other desc counts))
      (sym (counts_same are)) (makes_counted compares desc (counts_of ones))

  -- ---- lengths and elements

  length_same : (object also : Object) → SameObject names object also → Both (length_of one (Some object)) (length_of other (Some also))
  length_same object also alike = by object.shape refl where
    by : (shape : Shape) → object.shape ≡ shape → Both (length_of one (Some object)) (length_of other (Some also))
    by (shapes.Folder class) e = rw (e, alike.shape ∙ e) both_end
    by (shapes.External class interfaces) e = rw (e, alike.shape ∙ e) both_end
    by (shapes.Array desc len) e = rw (e, alike.shape ∙ e) (gives_value same memories same_int)

  pub lengths : {ones others : List Value} → SameValues names ones others
      → Both (array_length_work one ones) (array_length_work other others)
  lengths no_values = both_end
  lengths (and_value same_int are) = both_end
  lengths (and_value same_long are) = both_end
  lengths (and_value same_float are) = both_end
  lengths (and_value same_double are) = both_end
  lengths (and_value same_null no_values) = both_raise
  lengths (and_value same_null (and_value more are)) = both_end
  lengths (and_value (same_reference is) (and_value more are)) = both_end
  lengths (and_value (same_reference {reference = reference} {named = named} is) no_values) =
      let old = memories.heaps.objects reference named is in
      rw (old.2, old.3) (length_same old.0 old.1 old.4)

  element_same : (number : ℕ) (index : ℤ) (object also : Object) → SameObject names object also
      → Both (element_of one number index (Some object)) (element_of other number index (Some also))
  element_same number index object also alike = by object.shape refl where
    at_index : (desc : Name) (len : ℕ) → object.shape ≡ shapes.Array desc len → takes_array number desc ≡ true → (found : Option ℕ)
        → index_in index len ≡ found
        → Both (element_of one number index (Some object)) (element_of other number index (Some also))
    at_index desc len e takes None found = rw (e, alike.shape ∙ e, takes, found) both_raise
    at_index desc len e takes (Some at) found = elim (value_at same memories object.values also.values at alike.values) [
      | inl none ↦ rw (e, alike.shape ∙ e, takes, found, none.0, none.1) both_end
      | inr there ↦ rw (e, alike.shape ∙ e, takes, found, there.2, there.3) (gives_value same memories there.4)
    ]

    of_array : (desc : Name) (len : ℕ) → object.shape ≡ shapes.Array desc len → (b : Bool) → takes_array number desc ≡ b
        → Both (element_of one number index (Some object)) (element_of other number index (Some also))
    of_array desc len e false takes = rw (e, alike.shape ∙ e, takes) both_end
    of_array desc len e true takes = at_index desc len e takes (index_in index len) refl

    by : (shape : Shape) → object.shape ≡ shape
        → Both (element_of one number index (Some object)) (element_of other number index (Some also))
    by (shapes.Folder class) e = rw (e, alike.shape ∙ e) both_end
    by (shapes.External class interfaces) e = rw (e, alike.shape ∙ e) both_end
    by (shapes.Array desc len) e = of_array desc len e (takes_array number desc) refl

  pub loads : (number : ℕ) {ones others : List Value} → SameValues names ones others
      → Both (load_element_work one number ones) (load_element_work other number others)
  loads number no_values = both_end
  loads number (and_value same_int are) = both_end
  loads number (and_value same_long are) = both_end
  loads number (and_value same_float are) = both_end
  loads number (and_value same_double are) = both_end
  loads number (and_value same_null no_values) = both_end
  loads number (and_value same_null (and_value same_int no_values)) = both_raise
  loads number (and_value same_null (and_value same_int (and_value more are))) = both_end
  loads number (and_value same_null (and_value same_long are)) = both_end
  loads number (and_value same_null (and_value same_float are)) = both_end
  loads number (and_value same_null (and_value same_double are)) = both_end
  loads number (and_value same_null (and_value same_null are)) = both_end
  loads number (and_value same_null (and_value (same_reference is) are)) = both_end
  loads number (and_value (same_reference is) no_values) = both_end
  loads number (and_value (same_reference {reference = reference} {named = named} is) (and_value (same_int {number = index}) no_values)) =
      let old = memories.heaps.objects reference named is in
      rw (old.2, old.3) (element_same number index old.0 old.1 old.4)
  loads number (and_value (same_reference is) (and_value same_int (and_value more are))) = both_end
  loads number (and_value (same_reference is) (and_value same_long are)) = both_end
  loads number (and_value (same_reference is) (and_value same_float are)) = both_end
  loads number (and_value (same_reference is) (and_value same_double are)) = both_end
  loads number (and_value (same_reference is) (and_value same_null are)) = both_end
  loads number (and_value (same_reference is) (and_value (same_reference also) are)) = both_end

  component_same : (desc : Name) {value also : Value} → SameValue names value also
      → fits_component Q other desc also ≡ fits_component P one desc value
  component_same desc same_int = refl
  component_same desc same_long = refl
  component_same desc same_float = refl
  component_same desc same_double = refl
  component_same desc same_null = refl
  component_same desc (same_reference {reference = reference} {named = named} is) = by (component_named (component_text desc)) refl where
    old : (object also : Object) × (object_at one.heap reference ≡ Some object) × (object_at other.heap named ≡ Some also)
        × SameObject names object also
    old = memories.heaps.objects reference named is

    by : (found : Option Name) → component_named (component_text desc) ≡ found
        → fits_component Q other desc (values.Ref named) ≡ fits_component P one desc (values.Ref reference)
    by None e = rw (e) refl
    by (Some name) e = rw (e, old.2, old.3) (ap (λ (shape : Shape). is_instance Q shape name) old.4.shape
        ∙ same_instance same old.0.shape name)

  put_same : (number : ℕ) (reference named : ℕ) (index : ℤ) {value also : Value} (object object_also : Object)
      → names reference ≡ Some named → SameValue names value also → SameObject names object object_also
      → Both (put_element P one number reference index value (Some object)) (put_element Q other number named index also (Some object_also))
  put_same number reference named index {value = value} {also = also} object object_also is alike_value alike = by object.shape refl where
    fitting : (desc : Name) (len at : ℕ) → object.shape ≡ shapes.Array desc len → takes_array number desc ≡ true
        → index_in index len ≡ Some at → (b : Bool) → fits_component P one desc value ≡ b
        → Both (put_element P one number reference index value (Some object))
        (put_element Q other number named index also (Some object_also))
    fitting desc len at e takes found false fits = rw (
      e,
      alike.shape ∙ e,
      takes,
      found,
      fits,
      component_same desc alike_value
          ∙ fits,
    ) both_raise
    fitting desc len at e takes found true fits = rw (e, alike.shape ∙ e, takes, found, fits, component_same desc alike_value ∙ fits)
        (both_give names (names_themselves names)
        (memories_still (names_themselves names)
        (keeps_all one.heap (with_value one.heap reference at (narrowed (type_of (component_text desc)) value))
        (value_constants one.heap reference at (narrowed (type_of (component_text desc)) value)))
        (both_write memories.heaps reference named at is (narrowed_same (type_of (component_text desc)) alike_value)) memories) no_values)

    at_index : (desc : Name) (len : ℕ) → object.shape ≡ shapes.Array desc len → takes_array number desc ≡ true → (found : Option ℕ)
        → index_in index len ≡ found
        → Both (put_element P one number reference index value (Some object))
        (put_element Q other number named index also (Some object_also))
    at_index desc len e takes None found = rw (e, alike.shape ∙ e, takes, found) both_raise
    at_index desc len e takes (Some at) found = fitting desc len at e takes found (fits_component P one desc value) refl

    of_array : (desc : Name) (len : ℕ) → object.shape ≡ shapes.Array desc len → (b : Bool) → takes_array number desc ≡ b
        → Both (put_element P one number reference index value (Some object))
        (put_element Q other number named index also (Some object_also))
    of_array desc len e false takes = rw (e, alike.shape ∙ e, takes) both_end
    of_array desc len e true takes = at_index desc len e takes (index_in index len) refl

    by : (shape : Shape) → object.shape ≡ shape
        → Both (put_element P one number reference index value (Some object))
        (put_element Q other number named index also (Some object_also))
    by (shapes.Folder class) e = rw (e, alike.shape ∙ e) both_end
    by (shapes.External class interfaces) e = rw (e, alike.shape ∙ e) both_end
    by (shapes.Array desc len) e = of_array desc len e (takes_array number desc) refl

  into_same : (number : ℕ) (index : ℤ) {array array_also value also : Value} → SameValue names array array_also
      → SameValue names value also → stores_value number value ≡ true
      → Both (store_element_work P one number (array ∷ values.Int index ∷ value ∷ []))
      (store_element_work Q other number (array_also ∷ values.Int index ∷ also ∷ []))
  into_same number index same_int alike fits = rw (fits, stores_same number alike ∙ fits) both_end
  into_same number index same_long alike fits = rw (fits, stores_same number alike ∙ fits) both_end
  into_same number index same_float alike fits = rw (fits, stores_same number alike ∙ fits) both_end
  into_same number index same_double alike fits = rw (fits, stores_same number alike ∙ fits) both_end
  into_same number index same_null alike fits = rw (fits, stores_same number alike ∙ fits) both_raise
  into_same number index (same_reference {reference = reference} {named = named} is) alike fits =
      let old = memories.heaps.objects reference named is in
      rw (fits, stores_same number alike ∙ fits, old.2, old.3) (put_same number reference named index old.0 old.1 is alike old.4)

  pub stores : (number : ℕ) {ones others : List Value} → SameValues names ones others
      → Both (store_element_work P one number ones) (store_element_work Q other number others)
  stores number no_values = both_end
  stores number (and_value array no_values) = both_end
  stores number (and_value array (and_value same_long are)) = both_end
  stores number (and_value array (and_value same_float are)) = both_end
  stores number (and_value array (and_value same_double are)) = both_end
  stores number (and_value array (and_value same_null are)) = both_end
  stores number (and_value array (and_value (same_reference is) are)) = both_end
  stores number (and_value array (and_value same_int no_values)) = both_end
  stores number (and_value array (and_value same_int (and_value value (and_value more are)))) = both_end
  stores number (and_value {one = first} {other = first_also} array
      (and_value (same_int {number = index}) (and_value {one = value} {other = also} alike no_values))) = by
      (stores_value number value) refl where
        by : (b : Bool) → stores_value number value ≡ b
            → Both (store_element_work P one number (first ∷ values.Int index ∷ value ∷ []))
            (store_element_work Q other number (first_also ∷ values.Int index ∷ also ∷ []))
        by true fits = into_same number index array alike fits
        by false fits = rw (fits, stores_same number alike ∙ fits) both_end
