-- Fields and new objects come to the same in both runs.
use Rattle.std.proofs.Common.{◌≡◌, ◌==◌, ◌&&◌, ◌+◌, ℕ, zero, suc, Bool, true, false, not, List, [], ◌∷◌, length, slice_get, Option, Some, None, IsTrue, IsFalse, refl, sym, ap, subst, ◌∙◌, inl, inr, ◌⊎◌}
use Rattle.std.proofs.lemmas.Bool.{and_parts, eqb-true, false≢true}
use Rattle.std.proofs.lemmas.Option.{none-some, same_Some}
use Rattle.class_model.specs.Descriptors.{kind_of, type_of}
use Rattle.class_model.specs.Members.{STATIC}
use Rattle.class_model.specs.declared.descriptor.FieldType.{FieldType}
use Rattle.class_model.specs.declared.descriptor.FieldType.TheVariants as types
use Rattle.class_model.specs.declared.descriptor.Kind.{Kind}
use Rattle.class_model.specs.declared.descriptor.Kind.TheVariants as kinds
use Rattle.class_model.specs.declared.header.Member.{Member}
use Rattle.class_tree.specs.Headers.{Name}
use Rattle.class_tree.specs.Layouts.{instance_fields}
use Rattle.machine_values.specs.Heaps.{Heap, allocated, with_value}
use Rattle.machine_values.specs.Values.{blank_of_kind, blank_value, blank_values, has_kind, narrowed}
use Rattle.machine_values.specs.declared.object.Object.{Object}
use Rattle.machine_values.specs.declared.object.Shape.{Shape}
use Rattle.machine_values.specs.declared.object.Shape.TheVariants as shapes
use Rattle.machine_values.specs.declared.value.Value.{Value}
use Rattle.machine_values.specs.declared.value.Value.TheVariants as values
use Rattle.member_link.specs.Machine.Completions.{Completion, gives}
use Rattle.member_link.specs.Machine.FieldSteps.{begun_first, get_field_work, get_from, get_static_work, got_field, got_static, if_fits, is_barred, put_field_in, put_field_tested, put_field_value, put_field_work, put_into, put_static_begun, put_static_value, put_static_work, static_number}
use Rattle.member_link.specs.Machine.Layouts.{slot_number}
use Rattle.member_link.specs.Machine.ObjectSteps.{blank_object, new_object_work}
use Rattle.member_link.specs.Machine.Programs.{Program, field_of, folder_number, has_flag, headers_in, name_of_class}
use Rattle.member_link.specs.Machine.Shapes.{reference_conforms, shape_conforms}
use Rattle.member_link.specs.Machine.Worlds.{Memory, is_begun, static_value, with_static, written_static}
use Rattle.member_link.specs.References.{Reference}
use Rattle.same_runs.specs.Renamings.{Names, SameObject, SameValue, same_int, same_long, same_float, same_double, same_null, same_reference, SameValues, no_values, and_value, no_value, has_value}
use Rattle.same_runs.specs.SameCompletions.{same_get, same_put, SameCompletions, begins_alone, both_ask, both_begin, both_end, both_give, both_raise}
use Rattle.same_runs.specs.SameMemories.{Apart, IsComparison, SameHeaps, SameMemories}
use Rattle.same_runs.specs.SamePrograms.{IsNoReference, SamePrograms}
use Rattle.same_runs.specs.Laws.Heaps.{both_allocate, both_write, new_unnamed, value_constants}
use Rattle.same_runs.specs.Laws.Made.{SameMade, made_both}
use Rattle.same_runs.specs.Laws.Layouts.{same_blanks, same_slot}
use Rattle.same_runs.specs.Laws.Names.{named_here, named_too, named_too_more, names_themselves}
use Rattle.same_runs.specs.Laws.OperandWork.{gives_value, itself, kind_same}
use Rattle.same_runs.specs.Laws.Programs.{same_field_desc, same_name, same_number, same_static_field, same_static_number}
use Rattle.same_runs.specs.Laws.Shapes.{same_conforms}
use Rattle.same_runs.specs.Laws.Statics.{keeps_all, memories_counted, memories_still}
use Rattle.same_runs.specs.Laws.Written.{written_elsewhere, written_here}

-- ---- values

pub narrowed_same : {names : Names} {value also : Value} (type : FieldType) → SameValue names value also
    → SameValue names (narrowed type value) (narrowed type also)
narrowed_same types.Byte same_int = same_int
narrowed_same types.Byte same_long = same_long
narrowed_same types.Byte same_float = same_float
narrowed_same types.Byte same_double = same_double
narrowed_same types.Byte same_null = same_null
narrowed_same types.Byte (same_reference is) = same_reference is
narrowed_same types.Short same_int = same_int
narrowed_same types.Short same_long = same_long
narrowed_same types.Short same_float = same_float
narrowed_same types.Short same_double = same_double
narrowed_same types.Short same_null = same_null
narrowed_same types.Short (same_reference is) = same_reference is
narrowed_same types.Char same_int = same_int
narrowed_same types.Char same_long = same_long
narrowed_same types.Char same_float = same_float
narrowed_same types.Char same_double = same_double
narrowed_same types.Char same_null = same_null
narrowed_same types.Char (same_reference is) = same_reference is
narrowed_same types.Bool same_int = same_int
narrowed_same types.Bool same_long = same_long
narrowed_same types.Bool same_float = same_float
narrowed_same types.Bool same_double = same_double
narrowed_same types.Bool same_null = same_null
narrowed_same types.Bool (same_reference is) = same_reference is
narrowed_same types.Int same = same
narrowed_same types.Long same = same
narrowed_same types.Float same = same
narrowed_same types.Double same = same
narrowed_same (types.Named name) same = same

blank_kind : (kind : Kind) → IsNoReference (blank_of_kind kind)
blank_kind kinds.Int = tt
blank_kind kinds.Long = tt
blank_kind kinds.Float = tt
blank_kind kinds.Double = tt
blank_kind kinds.Ref = tt

pub blank_itself : (names : Names) (desc : List ℕ) → SameValue names (blank_value desc) (blank_value desc)
blank_itself names desc = itself names (blank_value desc) (blank_kind (kind_of (type_of desc)))

blanks_themselves : (names : Names) (fields : List Member) → SameValues names (blank_values fields) (blank_values fields)
blanks_themselves names [] = no_values
blanks_themselves names (field ∷ fields) = and_value (blank_itself names field.desc) (blanks_themselves names fields)

-- a blank object of a class of the folder is made in both
pub blank_object_both : {P Q : Program} {apart : Apart} {names : Names} {one other : Heap} → SamePrograms P Q → SameHeaps apart names one other → (number : ℕ)
    → SameMade apart names one other (blank_object P one number) (blank_object Q other number)
blank_object_both {P = P} {Q = Q} {apart = apart} {names = names} {one = one} {other = other} same heaps number =
    subst (λ (blank : List Value). SameMade apart names one other (blank_object P one number) (allocated other (shapes.Folder number) blank))
    (sym (ap (λ (name : Name). blank_values (instance_fields (headers_in Q) name)) (same_name same number)
    ∙ same_blanks same (name_of_class P number)))
    (made_both heaps (shapes.Folder number) _ _ (blanks_themselves names (instance_fields (headers_in P) (name_of_class P number))))

module _ {P Q : Program} {Allocated Entered : ℕ → ℕ → Type 0} {apart : Apart} {names : Names} {one other : Memory}
    (same : SamePrograms P Q) (memories : SameMemories P Allocated Entered apart names [] one other) where
  abbrev Both : Completion → Completion → Type 0
  Both completion also = SameCompletions P Allocated Entered apart names one other completion also

  -- ---- classes that are begun first

  pub begun_both :
      (class : Name) (completion also : Completion)
      → (folder_number P class ≡ None → Both completion also)
      → ((number : ℕ) → folder_number P class ≡ Some number → IsTrue (is_begun other number) → Both completion also)
      → Both (begun_first P one class completion) (begun_first Q other class also)
  begun_both class completion also outside inside = by (folder_number P class) refl where
    with_number : (number : ℕ) → folder_number P class ≡ Some number → (b c : Bool) → is_begun one number ≡ b → is_begun other number ≡ c
        → Both (begun_first P one class completion) (begun_first Q other class also)
    with_number number is true true here there = rw (is, same_number same class ∙ is, here, there) (inside number is there)
    with_number number is true false here there = rw (is, same_number same class ∙ is, there) (begins_alone here there)
    with_number number is false false here there = rw (is, same_number same class ∙ is, here, there) (both_begin here)
    with_number number is false true here there = absurd (false≢true (sym here ∙ memories.statics.begun number there))

    by : (found : Option ℕ) → folder_number P class ≡ found → Both (begun_first P one class completion) (begun_first Q other class also)
    by None is = rw (is, same_number same class ∙ is) (outside is)
    by (Some number) is = with_number number is (is_begun one number) (is_begun other number) refl refl

  -- ---- new objects

  pub allocates :
      IsComparison Allocated
      → (shape : Shape) (blank also : List Value) (more : ℕ)
      → SameValues (named_too names (length one.heap.objects) (length other.heap.objects)) blank also
      → Both
      (gives (record one { heap = (allocated one.heap shape blank).heap; allocations = one.allocations + more })
      (values.Ref (length one.heap.objects) ∷ []))
      (gives (record other { heap = (allocated other.heap shape also).heap; allocations = other.allocations + more })
      (values.Ref (length other.heap.objects) ∷ []))
  allocates compares shape blank also more are =
      let grows = named_too_more names (length one.heap.objects) (length other.heap.objects) (new_unnamed memories.heaps) in
      let still = memories_still grows (keeps_all one.heap (allocated one.heap shape blank).heap refl)
      (both_allocate memories.heaps shape blank also are) memories in
      both_give (named_too names (length one.heap.objects) (length other.heap.objects)) grows
      (memories_counted (one.allocations + more) (other.allocations + more) one.entries other.entries
      (compares.both one.allocations other.allocations more memories.allocations) memories.entries still)
      (and_value (same_reference (named_here names (length one.heap.objects) (length other.heap.objects))) no_values)

  pub makes_object : IsComparison Allocated → (class : Name) → Both (new_object_work P one class) (new_object_work Q other class)
  makes_object compares class =
      begun_both class _ _
      (λ none. rw (none, same_number same class ∙ none) (allocates compares (shapes.External class []) [] [] 1 no_values))
      (λ number is begun.
      rw (is, same_number same class ∙ is, same_name same number, same_blanks same (name_of_class P number))
      (allocates compares (shapes.Folder number) (blank_values (instance_fields (headers_in P) (name_of_class P number)))
      (blank_values (instance_fields (headers_in P) (name_of_class P number))) 1
      (blanks_themselves (named_too names (length one.heap.objects) (length other.heap.objects))
      (instance_fields (headers_in P) (name_of_class P number)))))

  -- ---- static fields

  static_value_same : (memory : Memory) (class field : ℕ) → static_value Q memory class field ≡ static_value P memory class field
  static_value_same memory class field = by (written_static memory.statics class field) refl where
    by : (found : Option Value) → written_static memory.statics class field ≡ found
        → static_value Q memory class field ≡ static_value P memory class field
    by None is = rw (is) (ap blank_value (same_field_desc same class field))
    by (Some value) is = rw (is) refl

  got_static_same : (field : Reference) (found : Option ℕ) → ((number : ℕ) → found ≡ Some number → IsTrue (is_begun other number))
      → Both (got_static P one field found) (got_static Q other field found)
  got_static_same field None begun = both_ask (same_get no_value)
  got_static_same field (Some class) begun = by (static_number P class field) refl where
    by : (found : Option ℕ) → static_number P class field ≡ found
        → Both (got_static P one field (Some class)) (got_static Q other field (Some class))
    by None is = rw (is, same_static_number same class field ∙ is) both_end
    by (Some number) is = rw (is, same_static_number same class field ∙ is) (gives_value same memories
        (subst (SameValue names (static_value P one class number)) (sym (static_value_same other class number))
        (memories.statics.values class number (begun class refl))))

  pub gets_static : (found : Option Reference) → Both (get_static_work P one found) (get_static_work Q other found)
  gets_static None = both_end
  gets_static (Some field) = by (has_flag (field_of P field) STATIC) refl where
    by : (b : Bool) → has_flag (field_of P field) STATIC ≡ b
        → Both (get_static_work P one (Some field)) (get_static_work Q other (Some field))
    by false e = rw (e, same_static_field same field ∙ e) both_end
    by true e = rw (e, same_static_field same field ∙ e)
        (subst (λ (number : Option ℕ). Both (begun_first P one field.class (got_static P one field (folder_number P field.class)))
        (begun_first Q other field.class (got_static Q other field number)))
        (sym (same_number same field.class))
        (begun_both field.class _ _
        (λ none. got_static_same field (folder_number P field.class) (λ number is. absurd (none-some number (sym none ∙ is))))
        (λ number is begun. got_static_same field (folder_number P field.class)
        (λ also is_also. subst (λ (n : ℕ). IsTrue (is_begun other n)) (same_Some number also (sym is ∙ is_also)) begun))))

  pub put_both : (class field : ℕ) {value also : Value} → IsTrue (is_begun other class) → SameValue names value also
      → SameMemories P Allocated Entered apart names [] (with_static one class field value) (with_static other class field also)
  put_both class field {value = value} {also = also} begun is = record {
    heaps = memories.heaps;
    statics = record {
      begun = memories.statics.begun;
      values = λ at index at_begun. values_then at index at_begun ((class == at) && (field == index)) refl;
      alone = λ at at_begun at_none.
          let alone = memories.statics.alone at at_begun at_none in
          record {
            inert = alone.inert;
            as_begun = record {
              kept = alone.as_begun.kept;
              statics = λ index. written_elsewhere one.statics class field value at index (elsewhere at index at_none)
                  ∙ alone.as_begun.statics index;
            };
            first = alone.first;
          };
      unwritten = λ at index at_none.
          written_elsewhere one.statics class field value at index (not_begun at index at_none)
          ∙ memories.statics.unwritten at index at_none;
      unwritten_also = λ at index at_none.
          written_elsewhere other.statics class field also at index (elsewhere at index at_none)
          ∙ memories.statics.unwritten_also at index at_none;
    };
    allocations = memories.allocations;
    entries = memories.entries;
  } where
    elsewhere : (at index : ℕ) → IsFalse (is_begun other at) → ((class == at) && (field == index)) ≡ false
    elsewhere at index none = by (class == at) refl where
      by : (b : Bool) → (class == at) ≡ b → ((class == at) && (field == index)) ≡ false
      by false e = rw (e) refl
      by true e = absurd (false≢true (sym none ∙ ap (is_begun other) (sym (eqb-true class at e)) ∙ begun))

    not_begun : (at index : ℕ) → IsFalse (is_begun one at) → ((class == at) && (field == index)) ≡ false
    not_begun at index none = by (class == at) refl where
      by : (b : Bool) → (class == at) ≡ b → ((class == at) && (field == index)) ≡ false
      by false e = rw (e) refl
      by true e = absurd (false≢true (sym none ∙ ap (is_begun one) (sym (eqb-true class at e)) ∙ memories.statics.begun class begun))

    values_then : (at index : ℕ) → IsTrue (is_begun other at) → (b : Bool) → ((class == at) && (field == index)) ≡ b
        → SameValue names (static_value P (with_static one class field value) at index)
        (static_value P (with_static other class field also) at index)
    values_then at index at_begun false e =
        rw (written_elsewhere one.statics class field value at index e, written_elsewhere other.statics class field also at index e)
        (memories.statics.values at index at_begun)
    values_then at index at_begun true e =
        let parts = and_parts (class == at) (field == index) e in
        subst (λ (n : ℕ). SameValue names (static_value P (with_static one class field value) n index)
        (static_value P (with_static other class field also) n index)) (eqb-true class at parts.0)
        (subst (λ (n : ℕ). SameValue names (static_value P (with_static one class field value) class n)
        (static_value P (with_static other class field also) class n)) (eqb-true field index parts.1)
        (rw (written_here one.statics class field value, written_here other.statics class field also) is))

  put_static_same : (field : Reference) {value also : Value} (found : Option ℕ) → SameValue names value also
      → ((number : ℕ) → found ≡ Some number → IsTrue (is_begun other number))
      → Both (put_static_value P one field value found) (put_static_value Q other field also found)
  put_static_same field None is begun = both_ask (same_put no_value is)
  put_static_same field {value = value} {also = also} (Some class) is begun = by (static_number P class field) refl where
    by : (found : Option ℕ) → static_number P class field ≡ found
        → Both (put_static_value P one field value (Some class)) (put_static_value Q other field also (Some class))
    by None e = rw (e, same_static_number same class field ∙ e) both_end
    by (Some number) e = rw (
      e,
      same_static_number same class field
          ∙ e,
    ) (both_give names (names_themselves names) (put_both class number (begun class refl) is) no_values)

  put_begun_same :
      (field : Reference) (initialises : Option Name) {value also : Value}
      → is_barred Q field initialises ≡ is_barred P field initialises
      → SameValue names value also
      → ((number : ℕ) → folder_number P field.class ≡ Some number → IsTrue (is_begun other number))
      → Both (put_static_begun P one field initialises value) (put_static_begun Q other field initialises also)
  put_begun_same field initialises {value = value} {also = also} bar is begun = by (is_barred P field initialises) refl where
    by : (b : Bool) → is_barred P field initialises ≡ b
        → Both (put_static_begun P one field initialises value) (put_static_begun Q other field initialises also)
    by true e = rw (e, bar ∙ e) both_raise
    by false e = rw (e, bar ∙ e)
        (subst (λ (number : Option ℕ). Both
        (put_static_value P one field (narrowed (type_of field.desc) value) (folder_number P field.class))
        (put_static_value Q other field (narrowed (type_of field.desc) also) number))
        (sym (same_number same field.class))
        (put_static_same field (folder_number P field.class) (narrowed_same (type_of field.desc) is) begun))

  fits_same : (field : Reference) {value also : Value} (completion completion_also : Completion) → SameValue names value also
      → Both completion completion_also → Both (if_fits field value completion) (if_fits field also completion_also)
  fits_same field {value = value} {also = also} completion completion_also is both = by
      (has_kind (kind_of (type_of field.desc)) value) refl where
        by : (b : Bool) → has_kind (kind_of (type_of field.desc)) value ≡ b
            → Both (if_fits field value completion) (if_fits field also completion_also)
        by true e = rw (e, kind_same same memories (kind_of (type_of field.desc)) is ∙ e) both
        by false e = rw (e, kind_same same memories (kind_of (type_of field.desc)) is ∙ e) both_end

  pub puts_static : (found : Option Reference) (initialises : Option Name) {ones others : List Value}
      → ((field : Reference) → found ≡ Some field → is_barred Q field initialises ≡ is_barred P field initialises)
      → SameValues names ones others
      → Both (put_static_work P one found initialises ones) (put_static_work Q other found initialises others)
  puts_static None initialises bar are = both_end
  puts_static (Some field) initialises bar no_values = both_end
  puts_static (Some field) initialises bar (and_value is (and_value more rest)) = both_end
  puts_static (Some field) initialises bar (and_value {one = value} {other = also} is no_values) = by
      (has_flag (field_of P field) STATIC) refl where
        by : (b : Bool) → has_flag (field_of P field) STATIC ≡ b
            → Both (put_static_work P one (Some field) initialises (value ∷ []))
            (put_static_work Q other (Some field) initialises (also ∷ []))
        by false e = rw (e, same_static_field same field ∙ e) both_end
        by true e = rw (e, same_static_field same field ∙ e)
            (fits_same field _ _ is
            (begun_both field.class _ _
            (λ none. put_begun_same field initialises (bar field refl) is (λ number found. absurd (none-some number (sym none ∙ found))))
            (λ number found begun. put_begun_same field initialises (bar field refl) is
            (λ n found_also. subst (λ (m : ℕ). IsTrue (is_begun other m)) (same_Some number n (sym found ∙ found_also)) begun))))

  -- ---- instance fields

  pub conforms_same : (reference named : ℕ) (name : Name) → names reference ≡ Some named
      → reference_conforms Q other.heap named name ≡ reference_conforms P one.heap reference name
  conforms_same reference named name is =
      let old = memories.heaps.objects reference named is in
      rw (old.2, old.3) (ap (λ (shape : Shape). shape_conforms Q shape name) old.4.shape ∙ same_conforms same old.0.shape name)

  -- a value of an object of both, by its number
  pub value_at : (ones others : List Value) (number : ℕ) → SameValues names ones others
      → ((slice_get ones number ≡ None) × (slice_get others number ≡ None))
      ⊎ ((value also : Value) × (slice_get ones number ≡ Some value) × (slice_get others number ≡ Some also) × SameValue names value also)
  value_at [] [] number no_values = inl (refl, refl)
  value_at [] (also ∷ others) number impossible = elim impossible [ ]
  value_at (value ∷ ones) [] number impossible = elim impossible [ ]
  value_at (value ∷ ones) (also ∷ others) zero (and_value is are) = inr (value, also, refl, refl, is)
  value_at (value ∷ ones) (also ∷ others) (suc number) (and_value is are) = value_at ones others number are

  got_field_same : (field : Reference) (object also : Object) → SameObject names object also
      → Both (got_field P one field (Some object)) (got_field Q other field (Some also))
  got_field_same field object also alike = by object.shape refl where
    with_slot : (class : ℕ) → object.shape ≡ shapes.Folder class → (found : Option ℕ) → slot_number P (name_of_class P class) field ≡ found
        → Both (got_field P one field (Some object)) (got_field Q other field (Some also))
    with_slot class e None found = rw (
      e,
      alike.shape ∙ e,
      found,
      same_name same class,
      same_slot same (name_of_class P class) field
          ∙ found,
    ) both_end
    with_slot class e (Some number) found = elim (value_at object.values also.values number alike.values) [
      | inl none ↦ rw (e, alike.shape ∙ e, found, same_name same class, same_slot same (name_of_class P class) field ∙ found, none.0, none.1) both_end
      | inr there ↦ rw (e, alike.shape ∙ e, found, same_name same class, same_slot same (name_of_class P class) field ∙ found, there.2, there.3) (gives_value same memories there.4)
    ]

    by : (shape : Shape) → object.shape ≡ shape → Both (got_field P one field (Some object)) (got_field Q other field (Some also))
    by (shapes.Array desc len) e = rw (e, alike.shape ∙ e) both_end
    by (shapes.External class interfaces) e = rw (e, alike.shape ∙ e) both_end
    by (shapes.Folder class) e = with_slot class e (slot_number P (name_of_class P class) field) refl

  gets_from : (field : Reference) (reference named : ℕ) (found : Option ℕ) → names reference ≡ Some named
      → Both (get_from P one field reference found) (get_from Q other field named found)
  gets_from field reference named None is = both_ask (same_get (has_value (same_reference is)))
  gets_from field reference named (Some class) is =
      let old = memories.heaps.objects reference named is in
      rw (old.2, old.3) (got_field_same field old.0 old.1 old.4)

  pub gets_field : (name : Name) (found : Option Reference) {ones others : List Value} → SameValues names ones others
      → Both (get_field_work P one name found ones) (get_field_work Q other name found others)
  gets_field name None no_values = both_end
  gets_field name None (and_value is are) = both_end
  gets_field name (Some field) no_values = both_end
  gets_field name (Some field) (and_value same_int are) = both_end
  gets_field name (Some field) (and_value same_long are) = both_end
  gets_field name (Some field) (and_value same_float are) = both_end
  gets_field name (Some field) (and_value same_double are) = both_end
  gets_field name (Some field) (and_value same_null (and_value more are)) = both_end
  gets_field name (Some field) (and_value (same_reference is) (and_value more are)) = both_end
  gets_field name (Some field) (and_value same_null no_values) = by (has_flag (field_of P field) STATIC) refl where
    by : (b : Bool) → has_flag (field_of P field) STATIC ≡ b
        → Both (get_field_work P one name (Some field) (values.Null ∷ [])) (get_field_work Q other name (Some field) (values.Null ∷ []))
    by true e = rw (e, same_static_field same field ∙ e) both_end
    by false e = rw (e, same_static_field same field ∙ e) both_raise
  gets_field name (Some field) (and_value (same_reference {reference = reference} {named = named} is) no_values) = by
      (not (has_flag (field_of P field) STATIC) && reference_conforms P one.heap reference name) refl where
        test : (not (has_flag (field_of Q field) STATIC) && reference_conforms Q other.heap named name)
            ≡ (not (has_flag (field_of P field) STATIC) && reference_conforms P one.heap reference name)
        test = rw (same_static_field same field, conforms_same reference named name is) refl

        by : (b : Bool) → (not (has_flag (field_of P field) STATIC) && reference_conforms P one.heap reference name) ≡ b
            → Both (get_field_work P one name (Some field) (values.Ref reference ∷ []))
            (get_field_work Q other name (Some field) (values.Ref named ∷ []))
        by false e = rw (e, test ∙ e) both_end
        by true e = rw (e, test ∙ e)
            (subst (λ (number : Option ℕ). Both (get_from P one field reference (folder_number P field.class))
            (get_from Q other field named number)) (sym (same_number same field.class))
            (gets_from field reference named (folder_number P field.class) is))

  put_value_same : (field : Reference) (reference named : ℕ) {value also : Value} (object object_also : Object)
      → names reference ≡ Some named
      → SameValue names value also
      → SameObject names object object_also
      → Both (put_field_value P one field reference value (Some object)) (put_field_value Q other field named also (Some object_also))
  put_value_same field reference named {value = value} {also = also} object object_also is alike_value alike = by object.shape refl where
    with_slot : (class : ℕ) → object.shape ≡ shapes.Folder class → (found : Option ℕ) → slot_number P (name_of_class P class) field ≡ found
        → Both (put_field_value P one field reference value (Some object)) (put_field_value Q other field named also (Some object_also))
    with_slot class e None found = rw (
      e,
      alike.shape ∙ e,
      found,
      same_name same class,
      same_slot same (name_of_class P class) field
          ∙ found,
    ) both_end
    with_slot class e (Some number) found = rw (
      e,
      alike.shape
          ∙ e,
      found,
      same_name same class,
      same_slot same (name_of_class P class) field ∙ found,
    )
        (both_give names (names_themselves names)
        (memories_still (names_themselves names)
        (keeps_all one.heap (with_value one.heap reference number value) (value_constants one.heap reference number value))
        (both_write memories.heaps reference named number is alike_value) memories) no_values)

    by : (shape : Shape) → object.shape ≡ shape
        → Both (put_field_value P one field reference value (Some object)) (put_field_value Q other field named also (Some object_also))
    by (shapes.Array desc len) e = rw (e, alike.shape ∙ e) both_end
    by (shapes.External class interfaces) e = rw (e, alike.shape ∙ e) both_end
    by (shapes.Folder class) e = with_slot class e (slot_number P (name_of_class P class) field) refl

  puts_into : (field : Reference) (reference named : ℕ) {value also : Value} (found : Option ℕ) → names reference ≡ Some named
      → SameValue names value also
      → Both (put_into P one field reference value found) (put_into Q other field named also found)
  puts_into field reference named None is alike = both_ask (same_put (has_value (same_reference is)) alike)
  puts_into field reference named (Some class) is alike =
      let old = memories.heaps.objects reference named is in
      rw (old.2, old.3) (put_value_same field reference named old.0 old.1 is alike old.4)

  puts_in : (name : Name) (field : Reference) {receiver receiver_also value also : Value} → SameValue names receiver receiver_also
      → SameValue names value also
      → Both (put_field_in P one name field receiver value) (put_field_in Q other name field receiver_also also)
  puts_in name field same_int alike = both_end
  puts_in name field same_long alike = both_end
  puts_in name field same_float alike = both_end
  puts_in name field same_double alike = both_end
  puts_in name field same_null alike = both_raise
  puts_in name field {value = value} {also = also} (same_reference {reference = reference} {named = named} is) alike = by
      (reference_conforms P one.heap reference name) refl where
        by : (b : Bool) → reference_conforms P one.heap reference name ≡ b
            → Both (put_field_in P one name field (values.Ref reference) value) (put_field_in Q other name field (values.Ref named) also)
        by false e = rw (e, conforms_same reference named name is ∙ e) both_end
        by true e = rw (e, conforms_same reference named name is ∙ e)
            (subst (λ (number : Option ℕ). Both
            (put_into P one field reference (narrowed (type_of field.desc) value) (folder_number P field.class))
            (put_into Q other field named (narrowed (type_of field.desc) also) number))
            (sym (same_number same field.class))
            (puts_into field reference named (folder_number P field.class) is (narrowed_same (type_of field.desc) alike)))

  pub puts_field : (name : Name) (found : Option Reference) (initialises initialises_also : Option Name) {ones others : List Value}
      → ((field : Reference) → found ≡ Some field → is_barred Q field initialises_also ≡ is_barred P field initialises)
      → SameValues names ones others
      → Both (put_field_work P one name found initialises ones) (put_field_work Q other name found initialises_also others)
  puts_field name None initialises initialises_also bar no_values = both_end
  puts_field name None initialises initialises_also bar (and_value receiver no_values) = both_end
  puts_field name None initialises initialises_also bar (and_value receiver (and_value value no_values)) = both_end
  puts_field name None initialises initialises_also bar (and_value receiver (and_value value (and_value more are))) = both_end
  puts_field name (Some field) initialises initialises_also bar no_values = both_end
  puts_field name (Some field) initialises initialises_also bar (and_value receiver no_values) = both_end
  puts_field name (Some field) initialises initialises_also bar (and_value receiver (and_value value (and_value more are))) = both_end
  puts_field name (Some field) initialises initialises_also bar
      (and_value {one = receiver} {other = receiver_also} is (and_value {one = value} {other = also} alike no_values)) =
      by (has_flag (field_of P field) STATIC) refl where
        tested : (b : Bool) → is_barred P field initialises ≡ b
            → Both (put_field_tested P one name field initialises receiver value)
            (put_field_tested Q other name field initialises_also receiver_also also)
        tested true e = rw (e, bar field refl ∙ e) both_raise
        tested false e = rw (e, bar field refl ∙ e) (puts_in name field is alike)

        by : (b : Bool) → has_flag (field_of P field) STATIC ≡ b
            → Both (put_field_work P one name (Some field) initialises (receiver ∷ value ∷ []))
            (put_field_work Q other name (Some field) initialises_also (receiver_also ∷ also ∷ []))
        by true e = rw (e, same_static_field same field ∙ e) both_end
        by false e = rw (e, same_static_field same field ∙ e) (fits_same field _ _ alike (tested (is_barred P field initialises) refl))
