-- An action of the library changes both worlds alike.
use Rattle.std.proofs.Common.{◌≡◌, ◌+◌, ◌&&◌, nat_le, ℕ, ℤ, pos, negsuc, Bool, true, false, not, List, [], ◌∷◌, slice_get, is_some, Option, Some, None, if◌then◌else◌, refl, sym, ap, subst, ◌∙◌, inl, inr}
use Rattle.std.specs.List.{list_any}
use Rattle.std.proofs.lemmas.Bool.{and_parts, false≢true}
use Rattle.class_model.specs.Descriptors.{parameters_of, type_of}
use Rattle.class_model.specs.Members.{has, STATIC}
use Rattle.class_model.specs.Names.{init}
use Rattle.class_model.specs.declared.class_file.MethodAt.{MethodAt}
use Rattle.class_model.specs.declared.descriptor.FieldType.{FieldType}
use Rattle.class_model.specs.declared.descriptor.FieldType.TheVariants as types
use Rattle.class_model.specs.declared.header.Header.{Header}
use Rattle.class_tree.specs.Headers.{Name}
use Rattle.class_tree.specs.Names.{throwable}
use Rattle.machine_values.specs.Heaps.{Made, with_value}
use Rattle.machine_values.specs.Values.{component_text, narrowed}
use Rattle.machine_values.specs.declared.action.Action.{Action}
use Rattle.machine_values.specs.declared.action.Action.TheVariants as actions
use Rattle.machine_values.specs.declared.action.Given.{Given}
use Rattle.machine_values.specs.declared.event.EventKind.TheVariants as kinds
use Rattle.machine_values.specs.declared.frame.RunFrame.{RunFrame}
use Rattle.machine_values.specs.declared.frame.RunFrame.TheVariants.{Library, Method}
use Rattle.machine_values.specs.declared.object.Object.{Object}
use Rattle.machine_values.specs.declared.object.Shape.{Shape}
use Rattle.machine_values.specs.declared.object.Shape.TheVariants as shapes
use Rattle.machine_values.specs.declared.value.Value.{Value}
use Rattle.member_link.specs.Machine.Acting.{Pending, Waiting, act, acted, act_call, act_construct, all_conform, answered, beginning_if, beginning_of_number, begins_with_angle, call_at, call_by_sort, call_of_instance, call_of_method, call_of_static, call_on, construct_at, constructed, given_values, is_handled, act_array_get, act_array_length, act_array_set, act_new_array, act_new_external, act_return, act_throw, answer_with, answer_without, fault, given_value, is_array_descriptor, is_concrete, is_fault, is_throwable, known_object, set_at, set_of_shape, unless_fault, waiting_in}
use Rattle.member_link.specs.Machine.ArraySteps.{blank_array, index_in, most_elements}
use Rattle.member_link.specs.Machine.ObjectSteps.{blank_object}
use Rattle.member_link.specs.Machine.Performing.{called, locked, resumed}
use Rattle.member_link.specs.Machine.Programs.{Program, RunMethod, code_at, folder_number, header_named, is_interface_named, place_of_method, run_method}
use Rattle.member_link.specs.Machine.Shapes.{is_instance, value_conforms}
use Rattle.member_link.specs.Machine.Showing.{shows_got, shows_made}
use Rattle.member_link.specs.Machine.Stepping.{is_library_turn}
use Rattle.member_link.specs.Machine.Throwables.{null_pointer}
use Rattle.member_link.specs.Machine.Worlds.{World, going, stopped, is_begun, with_heap}
use Rattle.member_link.specs.References.{Reference}
use Rattle.same_runs.specs.Renamings.{Names, NamesMore, SameObject, SameUnit, no_value, has_value, SameValue, same_int, same_long, same_float, same_double, same_null, same_reference, SameValues, no_values, and_value}
use Rattle.same_runs.specs.SameMemories.{SameMemories}
use Rattle.same_runs.specs.SameFrames.{Unwinds}
use Rattle.same_runs.specs.SamePrograms.{SamePrograms}
use Rattle.same_runs.specs.SameWorlds.{AtLibrary, Comparison, Compares, SameAfter, both_go, both_landed, both_over, second_begins, SameSeen, SameWaiting, none_waits, both_wait}
use Rattle.same_runs.specs.Laws.ArrayWork.{blank_both}
use Rattle.same_runs.specs.Laws.Made.{SameMade, made_both}
use Rattle.same_runs.specs.Laws.Begun.{begin_both}
use Rattle.same_runs.specs.Laws.BegunAlone.{second_has_begun}
use Rattle.same_runs.specs.Laws.BegunClasses.{folder_class}
use Rattle.same_runs.specs.Laws.FieldWork.{blank_object_both, narrowed_same, value_at}
use Rattle.same_runs.specs.Laws.GivenValues.{SameKnown, not_known, is_known, SameGiven, not_given, are_given, SameObjects, no_object, one_object, all_conform_both, conforms_both, known_at, objects_known, value_given, values_given}
use Rattle.same_runs.specs.Laws.Handled.{added_unhandled, same_handled}
use Rattle.same_runs.specs.Laws.Heaps.{both_write, value_constants}
use Rattle.same_runs.specs.Laws.Methods.{place_is, same_code, same_no_place, same_place, same_run_method}
use Rattle.same_runs.specs.Laws.Names.{more_and_more, names_themselves, references_more, values_more}
use Rattle.same_runs.specs.Laws.Numbering.{reference_numbered, value_numbered}
use Rattle.same_runs.specs.Laws.Performed.{locked_same, raised_same, shown_same, thrown_same}
use Rattle.same_runs.specs.Laws.QuietBeginnings.{alone_quietly}
use Rattle.same_runs.specs.Laws.Programs.{SameNamed, named_none, named_both, same_header, same_interface, same_number}
use Rattle.same_runs.specs.Laws.Shapes.{same_instance}
use Rattle.same_runs.specs.Laws.Statics.{keeps_all, memories_still}

no_fault : (before after : World) → after.halt ≡ going → unless_fault before after ≡ after
no_fault before after goes = by (ap is_fault goes) where
  by : is_fault after.halt ≡ false → unless_fault before after ≡ after
  by e = rw (e) refl

both_kept : {P : Program} {c : Comparison} {names : Names} (first second after also : World) → after.halt ≡ going → also.halt ≡ going
    → SameAfter P c names after also
    → SameAfter P c names (unless_fault first after) (unless_fault second also)
both_kept {P = P} {c = c} {names = names} first second after also goes goes_also same =
    subst (λ (w : World). SameAfter P c names w (unless_fault second also)) (sym (no_fault first after goes))
    (subst (SameAfter P c names after) (sym (no_fault second also goes_also)) same)

-- an action that is a fault in both leaves both worlds
pub unless_fault_same :
    {P : Program} {c : Comparison} {names : Names} (first second after also : World)
    → SameSeen c names first second
    → SameAfter P c names after also
    → SameAfter P c names (unless_fault first after) (unless_fault second also)
unless_fault_same first second after also seen (both_go more grows frames memories later goes goes_also) =
    both_kept first second after also goes goes_also (both_go more grows frames memories later goes goes_also)
unless_fault_same first second after also seen (both_landed more grows lands memories later goes goes_also) =
    both_kept first second after also goes goes_also (both_landed more grows lands memories later goes goes_also)
unless_fault_same first second after also seen (second_begins more class rest grows is no_turn quiet frames memories later goes goes_also) =
    both_kept first second after also goes goes_also
    (second_begins more class rest grows is no_turn quiet frames memories later goes goes_also)
unless_fault_same {P = P} {c = c} {names = names} first second after also seen (both_over more later over same) = by
    (is_fault after.halt) refl where
      by : (b : Bool) → is_fault after.halt ≡ b → SameAfter P c names (unless_fault first after) (unless_fault second also)
      by true e = rw (
        e,
        ap is_fault same
            ∙ e,
      ) (both_over names (record { known = seen.known; events = seen.events }) (λ impossible. cc impossible) refl)
      by false e = rw (e, ap is_fault same ∙ e) (both_over more later over same)

module _ {P Q : Program} {c : Comparison} {names : Names} {first second : World} {made made_also : Option ℕ} {rest rest_also : List RunFrame}
    (same : SamePrograms P Q) (compares : Compares c)
    (memories : SameMemories P c.allocated c.entered c.apart names [] first.memory second.memory) (seen : SameSeen c names first second)
    (goes : first.halt ≡ going) (goes_also : second.halt ≡ going)
    (is : first.frames ≡ Library made ∷ rest) (is_also : second.frames ≡ Library made_also ∷ rest_also)
    (at : AtLibrary P Q c names made made_also rest rest_also) where
  abbrev After : World → World → Type 0
  After one other = SameAfter P c names one other

  pub faults : After (fault first) (fault second)
  faults = both_over names (record { known = seen.known; events = seen.events }) (λ impossible. cc impossible) refl

  pub stops : After (record first { halt = stopped }) (record second { halt = stopped })
  stops = both_over names (record { known = seen.known; events = seen.events }) (λ impossible. cc impossible) refl

  stay : (more : Names) → NamesMore names more → c.frames more first.frames second.frames
  stay more grows = rw (is, is_also) (at.stays more grows)

  -- ---- arrays

  gets_value : {value also : Value} → SameValue names value also → After (shows_got P first value) (shows_got Q second also)
  gets_value alike =
      let number = value_numbered same memories.heaps seen.known alike in
      both_go names (names_themselves names) (stay names (names_themselves names)) memories
      (shown_same same compares first second memories seen.events
      (record { seen = ap kinds.Got number.seen; known = number.known })) goes goes_also

  gets_of : (index : ℤ) (object also : Object) → SameObject names object also
      → After (act_array_get P first (Some object) index) (act_array_get Q second (Some also) index)
  gets_of index object also alike = by object.shape refl where
    at_index : (desc : Name) (len : ℕ) → object.shape ≡ shapes.Array desc len → (found : Option ℕ) → index_in index len ≡ found
        → After (act_array_get P first (Some object) index) (act_array_get Q second (Some also) index)
    at_index desc len e None found = rw (e, alike.shape ∙ e, found) faults
    at_index desc len e (Some number) found = elim (value_at same memories object.values also.values number alike.values) [
      | inl none ↦ rw (e, alike.shape ∙ e, found, none.0, none.1) faults
      | inr there ↦ rw (e, alike.shape ∙ e, found, there.2, there.3) (gets_value there.4)
    ]

    by : (shape : Shape) → object.shape ≡ shape
        → After (act_array_get P first (Some object) index) (act_array_get Q second (Some also) index)
    by (shapes.Folder class) e = rw (e, alike.shape ∙ e) faults
    by (shapes.External class interfaces) e = rw (e, alike.shape ∙ e) faults
    by (shapes.Array desc len) e = at_index desc len e (index_in index len) refl

  pub gets : (index : ℤ) {object also : Option Object} → SameObjects names object also
      → After (act_array_get P first object index) (act_array_get Q second also index)
  gets index no_object = faults
  gets index (one_object {object = object} {also = also} alike) = gets_of index object also alike

  pub measures : {object also : Option Object} → SameObjects names object also
      → After (act_array_length first object) (act_array_length second also)
  measures no_object = faults
  measures (one_object {object = object} {also = also} alike) = by object.shape refl where
    by : (shape : Shape) → object.shape ≡ shape → After (act_array_length first (Some object)) (act_array_length second (Some also))
    by (shapes.Folder class) e = rw (e, alike.shape ∙ e) faults
    by (shapes.External class interfaces) e = rw (e, alike.shape ∙ e) faults
    by (shapes.Array desc len) e = rw (e, alike.shape ∙ e)
        (both_go names (names_themselves names) (stay names (names_themselves names)) memories
        (shown_same same compares first second memories seen.events (record { seen = refl; known = seen.known })) goes goes_also)

  sets_at : (reference named : ℕ) (type : FieldType) {value also : Value} (found : Option ℕ) → names reference ≡ Some named
      → SameValue names value also
      → After (set_at P first reference type value found) (set_at Q second named type also found)
  sets_at reference named type None there alike = faults
  sets_at reference named type {value = value} {also = also} (Some index) there alike = by
      (value_conforms P first.memory.heap type value) refl where
        by : (b : Bool) → value_conforms P first.memory.heap type value ≡ b
            → After (set_at P first reference type value (Some index)) (set_at Q second named type also (Some index))
        by false e = rw (e, conforms_both same memories type alike ∙ e) faults
        by true e = rw (e, conforms_both same memories type alike ∙ e)
            (both_go names (names_themselves names) (stay names (names_themselves names))
            (memories_still (names_themselves names)
            (keeps_all first.memory.heap (with_value first.memory.heap reference index (narrowed type value))
            (value_constants first.memory.heap reference index (narrowed type value)))
            (both_write memories.heaps reference named index there (narrowed_same type alike)) memories)
            (record { known = seen.known; events = seen.events }) goes goes_also)

  sets_of : (reference named : ℕ) (index : ℤ) {value also : Value} (object object_also : Object) → names reference ≡ Some named
      → SameValue names value also → SameObject names object object_also
      → After (set_of_shape P first reference index value object.shape) (set_of_shape Q second named index also object_also.shape)
  sets_of reference named index {value = value} {also = also} object object_also there alike_value alike = by object.shape refl where
    by : (shape : Shape) → object.shape ≡ shape
        → After (set_of_shape P first reference index value object.shape) (set_of_shape Q second named index also object_also.shape)
    by (shapes.Folder class) e = rw (e, alike.shape ∙ e) faults
    by (shapes.External class interfaces) e = rw (e, alike.shape ∙ e) faults
    by (shapes.Array desc len) e = rw (
      e,
      alike.shape
          ∙ e,
    ) (sets_at reference named (type_of (component_text desc)) (index_in index len) there alike_value)

  pub sets : (index : ℤ) {reference named : Option ℕ} {object object_also : Option Object} {value also : Option Value}
      → SameKnown names reference named → SameObjects names object object_also → SameUnit names value also
      → After (act_array_set P first reference object index value) (act_array_set Q second named object_also index also)
  sets index not_known objects value = faults
  sets index (is_known there) no_object value = faults
  sets index (is_known there) (one_object alike) no_value = faults
  sets index (is_known {reference = reference} {named = named} there) (one_object {object = object} {also = object_also} alike)
      (has_value given) = sets_of reference named index object object_also there given alike

  -- ---- objects that the library makes

  shows_both : (new also : Made) → SameMade c.apart names first.memory.heap second.memory.heap new also
      → After (shows_made P (record first { memory = with_heap first.memory new.heap }) new.reference)
      (shows_made Q (record second { memory = with_heap second.memory also.heap }) also.reference)
  shows_both new also both =
      let still = memories_still both.grows (keeps_all first.memory.heap new.heap both.constants) both.heaps memories in
      let number = reference_numbered same still.heaps (references_more both.grows seen.known) new.reference also.reference both.is in
      both_go both.more both.grows (stay both.more both.grows) still
      (shown_same same compares (record first { memory = with_heap first.memory new.heap })
      (record second { memory = with_heap second.memory also.heap }) still seen.events
      (record { seen = ap kinds.Made number.seen; known = number.known })) goes goes_also

  pub makes_array : (desc : Name) (count : ℤ) → After (act_new_array P first desc count) (act_new_array Q second desc count)
  makes_array desc (negsuc n) = faults
  makes_array desc (pos count) = by (is_array_descriptor desc && nat_le count most_elements) where
    by : (b : Bool)
        → After (if b then shows_made P (record first { memory = with_heap first.memory (blank_array first.memory.heap desc count).heap })
        (blank_array first.memory.heap desc count).reference else fault first)
        (if b then shows_made Q (record second { memory = with_heap second.memory (blank_array second.memory.heap desc count).heap })
        (blank_array second.memory.heap desc count).reference else fault second)
    by false = faults
    by true = shows_both (blank_array first.memory.heap desc count) (blank_array second.memory.heap desc count)
        (blank_both memories.heaps desc count)

  concrete_same : (name : Name) → is_concrete (header_named Q name) ≡ is_concrete (header_named P name)
  concrete_same name = by (header_named P name) (header_named Q name) (same_header same name) where
    by : (one other : Option Header) → SameNamed one other → is_concrete other ≡ is_concrete one
    by None None named_none = refl
    by None (Some other) impossible = elim impossible [ ]
    by (Some one) None impossible = elim impossible [ ]
    by (Some one) (Some other) (named_both alike) = rw (alike.flags) refl

  any_same : (also : List Name)
      → list_any (λ (name : Name). not (is_interface_named Q name)) also
      ≡ list_any (λ (name : Name). not (is_interface_named P name)) also
  any_same [] = refl
  any_same (name ∷ also) = rw (same_interface same name, any_same also) refl

  pub makes_external : (class : Name) (also : List Name)
      → After (act_new_external P first class also) (act_new_external Q second class also)
  makes_external class also = by (test P) refl where
    test : Program → Bool
    test R = not (is_some (folder_number R class)) &&
        (is_concrete (header_named R class) && not (list_any (λ (name : Name). not (is_interface_named R name)) also))

    tests_same : test Q ≡ test P
    tests_same = rw (same_number same class, concrete_same class, any_same also) refl

    by : (b : Bool) → test P ≡ b → After (act_new_external P first class also) (act_new_external Q second class also)
    by false e = rw (e, tests_same ∙ e) faults
    by true e = rw (e, tests_same ∙ e) (shows_both _ _ (made_both memories.heaps (shapes.External class also) [] [] no_values))

  -- ---- answers

  answers : (waiting also : Waiting) {ones others : List Value}
      → ((more : Names) (given given_also : List Value)
      → NamesMore names more
      → SameValues more given given_also
      → c.frames more (Method (resumed waiting.frame given) ∷ waiting.rest) (Method (resumed also.frame given_also) ∷ also.rest))
      → SameValues names ones others
      → After (answered first waiting ones) (answered second also others)
  answers waiting also {ones = ones} {others = others} resumes are =
      both_go names (names_themselves names) (resumes names ones others (names_themselves names) are) memories
      (record { known = seen.known; events = seen.events }) goes goes_also

  answers_with : (waiting also : Waiting) {value value_also : Option Value} (type : Option FieldType)
      → ((more : Names) (given given_also : List Value)
      → NamesMore names more
      → SameValues more given given_also
      → c.frames more (Method (resumed waiting.frame given) ∷ waiting.rest) (Method (resumed also.frame given_also) ∷ also.rest))
      → SameUnit names value value_also
      → After (answer_with P first waiting type value) (answer_with Q second also type value_also)
  answers_with waiting also None resumes no_value = faults
  answers_with waiting also None resumes (has_value alike) = faults
  answers_with waiting also (Some type) resumes no_value = faults
  answers_with waiting also (Some type) resumes (has_value {one = value} {other = value_also} alike) = by
      (value_conforms P first.memory.heap type value) refl where
        by : (b : Bool) → value_conforms P first.memory.heap type value ≡ b
            → After (answer_with P first waiting (Some type) (Some value)) (answer_with Q second also (Some type) (Some value_also))
        by false e = rw (e, conforms_both same memories type alike ∙ e) faults
        by true e = rw (
          e,
          conforms_both same memories type alike
              ∙ e,
        ) (answers waiting also resumes (and_value (narrowed_same type alike) no_values))

  answers_without : (waiting also : Waiting) (type : Option FieldType)
      → ((more : Names) (given given_also : List Value)
      → NamesMore names more
      → SameValues more given given_also
      → c.frames more (Method (resumed waiting.frame given) ∷ waiting.rest) (Method (resumed also.frame given_also) ∷ also.rest))
      → After (answer_without first waiting type) (answer_without second also type)
  answers_without waiting also None resumes = answers waiting also resumes no_values
  answers_without waiting also (Some type) resumes = faults

  pub returns : {waiting also : Option Waiting} (value : Option Given) → SameWaiting P Q c names waiting also
      → After (act_return P first waiting value) (act_return Q second also value)
  returns value none_waits = faults
  returns None (both_wait {one = waiting} {other = also} pending resumes unwinds) =
      subst (λ (p : Pending). After (answer_without first waiting waiting.pending.answer) (answer_without second also p.answer))
      (sym pending) (answers_without waiting also waiting.pending.answer resumes)
  returns (Some value) (both_wait {one = waiting} {other = also} pending resumes unwinds) =
      subst (λ (p : Pending). After (answer_with P first waiting waiting.pending.answer (given_value first.known value))
      (answer_with Q second also p.answer (given_value second.known value))) (sym pending)
      (answers_with waiting also waiting.pending.answer resumes (value_given value seen.known))

  throwable_same : (reference named : ℕ) → names reference ≡ Some named → is_throwable Q second named ≡ is_throwable P first reference
  throwable_same reference named there =
      let old = memories.heaps.objects reference named there in
      rw (old.2, old.3) (ap (λ (shape : Shape). is_instance Q shape throwable) old.4.shape ∙ same_instance same old.0.shape throwable)

  pub throws : {waiting also : Option Waiting} {reference named : Option ℕ} → SameWaiting P Q c names waiting also
      → SameKnown names reference named
      → After (act_throw P first waiting reference) (act_throw Q second also named)
  throws none_waits not_known = faults
  throws none_waits (is_known there) = faults
  throws (both_wait pending resumes unwinds) not_known = faults
  throws (both_wait {one = waiting} {other = also} pending resumes unwinds) (is_known {reference = reference} {named = named} there) = by
      (waiting.pending.may_throw && is_throwable P first reference) refl where
        tests_same : (also.pending.may_throw && is_throwable Q second named) ≡ (waiting.pending.may_throw && is_throwable P first reference)
        tests_same = ap (λ (p : Pending). p.may_throw && is_throwable Q second named) pending
            ∙ ap (λ (b : Bool). waiting.pending.may_throw && b) (throwable_same reference named there)

        by : (b : Bool) → (waiting.pending.may_throw && is_throwable P first reference) ≡ b
            → After (act_throw P first (Some waiting) (Some reference)) (act_throw Q second (Some also) (Some named))
        by false e = rw (e, tests_same ∙ e) faults
        by true e = rw (e, tests_same ∙ e)
            (thrown_same same compares reference named first.memory second.memory (names_themselves names) there seen goes goes_also memories
            (unwinds names (and_parts waiting.pending.may_throw (is_throwable P first reference) e).0 (names_themselves names)))

  -- ---- calls

  -- a class that an action begins: in both, or in the second alone, or in none
  begins_number :
      (class : Name) (one other : World) (more : Names) (found : Option ℕ)
      → folder_number P class ≡ found
      → is_library_turn other.frames ≡ false
      → NamesMore names more
      → c.frames more one.frames other.frames
      → SameMemories P c.allocated c.entered c.apart more [] one.memory other.memory
      → SameSeen c more one other
      → one.halt ≡ going
      → other.halt ≡ going
      → After (beginning_of_number P one found) (beginning_of_number Q other found)
  begins_number class one other more None where_ no_turn grows frames now later on on_also = both_go more grows frames now later on on_also
  begins_number class one other more (Some number) where_ no_turn grows frames now later on on_also = by (is_begun one.memory number)
      (is_begun other.memory number) refl refl where
        by : (b d : Bool) → is_begun one.memory number ≡ b → is_begun other.memory number ≡ d
            → After (beginning_of_number P one (Some number)) (beginning_of_number Q other (Some number))
        by true true e e_also = rw (e, e_also) (both_go more grows frames now later on on_also)
        by false true e e_also = absurd (false≢true (sym e ∙ now.statics.begun number e_also))
        by false false e e_also = rw (e, e_also)
            (let begun = begin_both same number e now in
            both_go begun.0 (more_and_more grows begun.1)
            (at.begins begun.0 number one.frames other.frames
            (compares.frames more begun.0 one.frames other.frames begun.1 frames)) begun.2
            (record { known = references_more begun.1 later.known; events = later.events }) on on_also)
        by true false e e_also = rw (e, e_also)
            (let begun = second_has_begun same number e e_also now in
            let class_there = folder_class P class number where_ in
            second_begins begun.0 number other.frames (more_and_more grows begun.1) refl no_turn
            (alone_quietly number class_there.0 class_there.1 e e_also now)
            (compares.frames more begun.0 one.frames other.frames begun.1 frames) begun.2
            (record { known = references_more begun.1 later.known; events = later.events }) on on_also)

  begins_if :
      (class : Name) (one other : World) (more : Names)
      → is_library_turn other.frames ≡ false
      → NamesMore names more
      → c.frames more one.frames other.frames
      → SameMemories P c.allocated c.entered c.apart more [] one.memory other.memory
      → SameSeen c more one other
      → one.halt ≡ going
      → other.halt ≡ going
      → After (beginning_if P class one) (beginning_if Q class other)
  begins_if class one other more no_turn grows frames now later on on_also =
      subst (λ (found : Option ℕ). After (beginning_if P class one) (beginning_of_number Q other found)) (sym (same_number same class))
      (begins_number class one other more (folder_number P class) refl no_turn grows frames now later on on_also)

  -- a method of both is called by the library, and its class begins first if it is static
  calls_begun : (class : Name) (to : MethodAt) (method : RunMethod) → run_method P to ≡ Some method → {ones others : List Value}
      → SameValues names ones others
      → After (beginning_if P class (called P first to ones first.frames)) (beginning_if Q class (called Q second to others second.frames))
  calls_begun class to method there {ones = ones} {others = others} are =
      let held = locked_same same compares to method there memories are in
      begins_if class (called P first to ones first.frames) (called Q second to others second.frames) held.more refl held.grows
      (rw (is, is_also) (at.called held.more to method ones others (locked P first.memory to ones).held
      (locked Q second.memory to others).held there held.grows (values_more held.grows are) held.held))
      held.memories (record { known = references_more held.grows seen.known; events = seen.events }) goes goes_also

  calls_only : (to : MethodAt) (method : RunMethod) → run_method P to ≡ Some method → {ones others : List Value}
      → SameValues names ones others
      → After (called P first to ones first.frames) (called Q second to others second.frames)
  calls_only to method there {ones = ones} {others = others} are =
      let held = locked_same same compares to method there memories are in
      both_go held.more held.grows
      (rw (is, is_also) (at.called held.more to method ones others (locked P first.memory to ones).held
      (locked Q second.memory to others).held there held.grows (values_more held.grows are) held.held))
      held.memories (record { known = references_more held.grows seen.known; events = seen.events }) goes goes_also

  unwinds_frames : (more : Names) → NamesMore names more → Unwinds P Q c.frames c.lands more first.frames second.frames
  unwinds_frames more grows = rw (is, is_also) (at.unwinds more grows)

  calls_on : (to : MethodAt) (method : RunMethod) → run_method P to ≡ Some method → {receiver also : Value} {ones others : List Value}
      → SameValue names receiver also → SameValues names ones others
      → After (call_on P first to ones receiver) (call_on Q second to others also)
  calls_on to method there same_null are = raised_same same compares null_pointer memories seen goes goes_also unwinds_frames
  calls_on to method there same_int are = calls_only to method there (and_value same_int are)
  calls_on to method there same_long are = calls_only to method there (and_value same_long are)
  calls_on to method there same_float are = calls_only to method there (and_value same_float are)
  calls_on to method there same_double are = calls_only to method there (and_value same_double are)
  calls_on to method there (same_reference known) are = calls_only to method there (and_value (same_reference known) are)

  calls_sort : (class : Name) (desc : List ℕ) (to : MethodAt) (method : RunMethod) → run_method P to ≡ Some method
      → {ones others : List Value} → SameValues names ones others → (static : Bool)
      → After (call_by_sort P first class desc to ones static) (call_by_sort Q second class desc to others static)
  calls_sort class desc to method there {ones = ones} {others = others} are true = by
      (all_conform P first (parameters_of desc) ones) refl where
        by : (b : Bool) → all_conform P first (parameters_of desc) ones ≡ b
            → After (call_of_static P first class desc to ones) (call_of_static Q second class desc to others)
        by false e = rw (e, all_conform_both same memories first second refl refl (parameters_of desc) are ∙ e) faults
        by true e = rw (
          e,
          all_conform_both same memories first second refl refl (parameters_of desc) are
              ∙ e,
        ) (calls_begun class to method there are)
  calls_sort class desc to method there no_values false = faults
  calls_sort class desc to method there (and_value {one = receiver} {other = also} {ones = ones} {others = others} here are) false =
      by (all_conform P first (types.Named class ∷ parameters_of desc) (receiver ∷ ones)) refl where
        by : (b : Bool) → all_conform P first (types.Named class ∷ parameters_of desc) (receiver ∷ ones) ≡ b
            → After (call_of_instance P first class desc to (receiver ∷ ones)) (call_of_instance Q second class desc to (also ∷ others))
        by false e = rw (
          e,
          all_conform_both same memories first second refl refl (types.Named class ∷ parameters_of desc)
              (and_value here are) ∙ e,
        ) faults
        by true e = rw (
          e,
          all_conform_both same memories first second refl refl (types.Named class ∷ parameters_of desc)
              (and_value here are) ∙ e,
        ) (calls_on to method there here are)

  -- a call of a method that stands in both
  calls_at : (class : Name) (desc : List ℕ) (to : MethodAt) (method : RunMethod) → run_method P to ≡ Some method
      → {ones others : List Value} → SameValues names ones others
      → After (call_of_method P first class desc to ones (run_method P to)) (call_of_method Q second class desc to others (run_method Q to))
  calls_at class desc to method there {ones = ones} {others = others} are =
      let found = same_run_method same to method there in
      by found.0 found.1 found.2.member (is_some (code_at P to)) refl where
        by : (other : RunMethod) → run_method Q to ≡ Some other → other.member ≡ method.member → (b : Bool) → is_some (code_at P to) ≡ b
            → After (call_of_method P first class desc to ones (run_method P to))
            (call_of_method Q second class desc to others (run_method Q to))
        by other there_also member false e = rw (there, there_also, e, same_code same to method there ∙ e) faults
        by other there_also member true e = rw (
          there,
          there_also,
          e,
          same_code same to method there
              ∙ e,
          member,
        ) (calls_sort class desc to method there are (has method.member.flags STATIC))

  calls_placed : (class : Name) (desc : List ℕ) (to : MethodAt) (method : RunMethod) → run_method P to ≡ Some method
      → {given given_also : Option (List Value)} → SameGiven names given given_also
      → After (call_at P first class desc (Some to) given) (call_at Q second class desc (Some to) given_also)
  calls_placed class desc to method there not_given = faults
  calls_placed class desc to method there (are_given are) = calls_at class desc to method there are

  pub calls : (class : Name) (name desc : List ℕ) (given_all : List Given)
      → After (act_call P first class name desc given_all) (act_call Q second class name desc given_all)
  calls class name desc given_all = by (begins_with_angle name) refl where
    r : Reference
    r = record { class = class; name = name; desc = desc }

    placed : begins_with_angle name ≡ false → (found : Option MethodAt) → place_of_method P r ≡ found
        → After (call_at P first class desc (place_of_method P r) (given_values first.known given_all))
        (call_at Q second class desc (place_of_method Q r) (given_values second.known given_all))
    placed e None where_ = rw (
      where_,
      same_no_place same r (λ same_name. false≢true (sym e
          ∙ ap begins_with_angle same_name)) where_,
    ) faults
    placed e (Some to) where_ =
        let method = place_is P r to where_ in
        rw (where_, same_place same r to where_) (calls_placed class desc to method.0 method.1 (values_given given_all seen.known))

    by : (b : Bool) → begins_with_angle name ≡ b
        → After (act_call P first class name desc given_all) (act_call Q second class name desc given_all)
    by true e = rw (e) faults
    by false e = rw (e) (placed e (place_of_method P r) refl)

  -- ---- constructions

  constructs_at : (class : Name) (number : ℕ) (to : MethodAt) (method : RunMethod) → run_method P to ≡ Some method
      → {ones others : List Value} → SameValues names ones others
      → After (constructed P first class to ones (blank_object P first.memory.heap number))
      (constructed Q second class to others (blank_object Q second.memory.heap number))
  constructs_at class number to method there {ones = ones} {others = others} are =
      let new = blank_object_both same memories.heaps number in
      let still = memories_still new.grows
      (keeps_all first.memory.heap (blank_object P first.memory.heap number).heap new.constants) new.heaps memories in
      let values_then = and_value (same_reference new.is) (values_more new.grows are) in
      let held = locked_same same compares to method there still values_then in
      rw (is, is_also)
      (begins_if class _ _ held.more refl (more_and_more new.grows held.grows)
      (at.constructs held.more to method _ _ _ _ (blank_object P first.memory.heap number).reference
      (blank_object Q second.memory.heap number).reference there (more_and_more new.grows held.grows)
      (held.grows.keeps _ _ new.is) (values_more held.grows values_then) held.held)
      held.memories (record {
        known = references_more
            (more_and_more new.grows held.grows) seen.known;
        events = seen.events;
      }) goes goes_also)

  pub constructs : (class : Name) (desc : List ℕ) (given_all : List Given)
      → After (act_construct P first class desc given_all) (act_construct Q second class desc given_all)
  constructs class desc given_all = by (folder_number P class) refl where
    r : Reference
    r = record { class = class; name = init; desc = desc }

    tests : Program → World → MethodAt → List Value → Bool
    tests R w to ones = is_some (code_at R to) &&
        (is_concrete (header_named R class) && (is_handled R class desc && all_conform R w (parameters_of desc) ones))

    unhandled : (R : Program) (w : World) (to : MethodAt) (ones : List Value) → is_handled R class desc ≡ false → tests R w to ones ≡ false
    unhandled R w to ones e = rw (e) (go (is_some (code_at R to)) (is_concrete (header_named R class))) where
      go : (a b : Bool) → (a && (b && false)) ≡ false
      go true true = refl
      go true false = refl
      go false b = refl

    of_given : (number : ℕ) (to : MethodAt) (method : RunMethod) → run_method P to ≡ Some method
        → {given given_also : Option (List Value)} → SameGiven names given given_also
        → After (construct_at P first class desc (Some number) (Some to) given)
        (construct_at Q second class desc (Some number) (Some to) given_also)
    of_given number to method there not_given = faults
    of_given number to method there (are_given {ones = ones} {others = others} are) = tested (tests P first to ones) refl where
      tests_same : tests Q second to others ≡ tests P first to ones
      tests_same = rw (same_code same to method there, concrete_same class, same_handled same class desc, all_conform_both same memories first second refl refl (parameters_of desc) are) refl

      tested : (b : Bool) → tests P first to ones ≡ b
          → After (construct_at P first class desc (Some number) (Some to) (Some ones))
          (construct_at Q second class desc (Some number) (Some to) (Some others))
      tested false e = rw (e, tests_same ∙ e) faults
      tested true e = rw (e, tests_same ∙ e) (constructs_at class number to method there are)

    only_added : (number : ℕ) (to : MethodAt) → is_handled Q class desc ≡ false → {given given_also : Option (List Value)}
        → SameGiven names given given_also
        → After (construct_at P first class desc (Some number) None given)
        (construct_at Q second class desc (Some number) (Some to) given_also)
    only_added number to e not_given = faults
    only_added number to e (are_given {others = others} are) = rw (unhandled Q second to others e) faults

    placed : (number : ℕ) (found also : Option MethodAt) → place_of_method P r ≡ found → place_of_method Q r ≡ also
        → After (construct_at P first class desc (Some number) (place_of_method P r) (given_values first.known given_all))
        (construct_at Q second class desc (Some number) (place_of_method Q r) (given_values second.known given_all))
    placed number None None where_ where_also = rw (where_, where_also) faults
    placed number None (Some to) where_ where_also = rw (where_, where_also) (only_added number to (same_handled same class desc
        ∙ added_unhandled same r to where_ where_also) (values_given given_all seen.known))
    placed number (Some to) also where_ where_also =
        let method = place_is P r to where_ in
        rw (where_, same_place same r to where_) (of_given number to method.0 method.1 (values_given given_all seen.known))

    by : (found : Option ℕ) → folder_number P class ≡ found
        → After (act_construct P first class desc given_all) (act_construct Q second class desc given_all)
    by None where_ = rw (where_, same_number same class ∙ where_) faults
    by (Some number) where_ =
        subst (λ (n : Option ℕ). After (construct_at P first class desc n (place_of_method P r) (given_values first.known given_all))
        (act_construct Q second class desc given_all)) (sym where_)
        (subst (λ (n : Option ℕ). After
        (construct_at P first class desc (Some number) (place_of_method P r) (given_values first.known given_all))
        (construct_at Q second class desc n (place_of_method Q r) (given_values second.known given_all)))
        (sym (same_number same class ∙ where_))
        (placed number (place_of_method P r) (place_of_method Q r) refl refl))

-- ---- an action

-- An action of the library, where its frame is on top in both, changes both worlds alike.
pub act_same :
    {P Q : Program} {c : Comparison} {names : Names} {first second : World} {made made_also : Option ℕ} {rest rest_also : List RunFrame}
    → SamePrograms P Q
    → Compares c
    → SameMemories P c.allocated c.entered c.apart names [] first.memory second.memory
    → SameSeen c names first second
    → first.halt ≡ going
    → second.halt ≡ going
    → first.frames ≡ Library made ∷ rest
    → second.frames ≡ Library made_also ∷ rest_also
    → AtLibrary P Q c names made made_also rest rest_also
    → (action : Action)
    → SameAfter P c names (act P action first) (act Q action second)
act_same {P = P} {Q = Q} {c = c} {names = names} {first = first} {second = second} {made = made} {made_also = made_also} {rest = rest} {rest_also = rest_also} same compares memories seen goes goes_also is is_also at action =
    unless_fault_same first second _ _ seen (by action) where
      counted : World
      counted = record first { steps = first.steps + 1 }

      counted_also : World
      counted_also = record second { steps = second.steps + 1 }

      seen_counted : SameSeen c names counted counted_also
      seen_counted = record { known = seen.known; events = seen.events }

      waits : SameWaiting P Q c names (waiting_in P first.frames) (waiting_in Q second.frames)
      waits = rw (is, is_also) at.waits

      known : (number : ℕ) → SameKnown names (slice_get first.known number) (slice_get second.known number)
      known number = known_at number seen.known

      objects : (number : ℕ)
          → SameObjects names (known_object counted (slice_get first.known number))
          (known_object counted_also (slice_get second.known number))
      objects number = objects_known counted counted_also memories (known number)

      by : (action : Action) → SameAfter P c names (acted P action counted) (acted Q action counted_also)
      by (actions.Call class name desc given_all) = calls {first = counted} {second = counted_also} same compares memories seen_counted goes goes_also is is_also at class name desc given_all
      by (actions.Construct class desc given_all) = constructs {first = counted} {second = counted_also} same compares memories seen_counted goes goes_also is is_also at class desc given_all
      by (actions.Return value) = returns {first = counted} {second = counted_also} same compares memories seen_counted goes goes_also is is_also at value waits
      by (actions.Throw number) = throws {first = counted} {second = counted_also} same compares memories seen_counted goes goes_also is is_also at waits (known number)
      by (actions.ArrayGet number index) = gets {first = counted} {second = counted_also} same compares memories seen_counted goes goes_also is is_also at index (objects number)
      by (actions.ArraySet number index value) =
          sets {first = counted} {second = counted_also} same compares memories seen_counted goes goes_also is is_also at index
          (known number) (objects number) (value_given value seen.known)
      by (actions.ArrayLength number) = measures {first = counted} {second = counted_also} same compares memories seen_counted goes goes_also is is_also at (objects number)
      by (actions.NewArray desc count) = makes_array {first = counted} {second = counted_also} same compares memories seen_counted goes goes_also is is_also at desc count
      by (actions.NewExternal class also) = makes_external {first = counted} {second = counted_also} same compares memories seen_counted goes goes_also is is_also at class also
      by actions.Stop = stops {first = counted} {second = counted_also} same compares memories seen_counted goes goes_also is is_also at
