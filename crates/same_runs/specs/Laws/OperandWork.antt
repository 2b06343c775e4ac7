-- Operations on operands come to the same in both runs: constants, arithmetic, casts, tests of classes, monitors and throwing.
use Rattle.std.proofs.Common.{◌≡◌, ◌==◌, ◌+◌, ℕ, Bool, true, false, List, [], ◌∷◌, Some, if◌then◌else◌, refl, ap, ◌∙◌, arith}
use Rattle.class_model.specs.declared.descriptor.Kind.{Kind}
use Rattle.class_tree.specs.Headers.{Name}
use Rattle.class_tree.specs.Names.{throwable}
use Rattle.machine_values.specs.Heaps.{entered, left, object_at}
use Rattle.machine_values.specs.Values.{has_kind}
use Rattle.machine_values.specs.declared.object.Constant.{Constant}
use Rattle.machine_values.specs.declared.object.Object.{Object}
use Rattle.machine_values.specs.declared.object.Shape.{Shape}
use Rattle.machine_values.specs.declared.value.Value.{Value}
use Rattle.machine_values.specs.declared.value.Value.TheVariants as values
use Rattle.member_link.specs.Machine.Completions.{Completion, ends, gives, raises, throws}
use Rattle.member_link.specs.Machine.ObjectSteps.{check_cast_work, enter_monitor_work, if_there, instance_of_work, leave_monitor_work, throw_work, with_entered}
use Rattle.member_link.specs.Machine.Programs.{Program}
use Rattle.member_link.specs.Machine.Shapes.{is_instance, shape_conforms}
use Rattle.member_link.specs.Machine.Throwables.{class_cast, illegal_monitor}
use Rattle.member_link.specs.Machine.Work.{push_constant_work}
use Rattle.member_link.specs.Machine.Worlds.{Memory, with_heap, stuck}
use Rattle.same_runs.specs.Renamings.{Names, SameObject, SameValue, same_int, same_long, same_float, same_double, same_null, same_reference, SameValues, no_values, and_value}
use Rattle.same_runs.specs.SameCompletions.{SameCompletions, both_end, both_give, both_raise, both_throw}
use Rattle.same_runs.specs.SameMemories.{Apart, IsComparison, SameMemories}
use Rattle.same_runs.specs.SamePrograms.{IsNoReference, SamePrograms}
use Rattle.same_runs.specs.Laws.Names.{names_themselves}
use Rattle.same_runs.specs.Laws.Heaps.{both_enter, both_leave, entered_constants, left_constants}
use Rattle.same_runs.specs.Laws.Constants.{both_have}
use Rattle.same_runs.specs.Laws.Shapes.{same_conforms, same_instance}
use Rattle.same_runs.specs.Laws.Statics.{keeps_all, keeps_made, memories_counted, memories_still}

-- ---- operands without references

pub itself : (names : Names) (value : Value) → IsNoReference value → SameValue names value value
itself names (values.Int number) none = same_int
itself names (values.Long number) none = same_long
itself names (values.Float bits) none = same_float
itself names (values.Double bits) none = same_double
itself names values.Null none = same_null
itself names (values.Ref reference) none = absurd none

module _ {P Q : Program} {Allocated Entered : ℕ → ℕ → Type 0} {apart : Apart} {names : Names} {one other : Memory}
    (same : SamePrograms P Q) (memories : SameMemories P Allocated Entered apart names [] one other) where
  abbrev pub Both : Completion → Completion → Type 0
  Both completion also = SameCompletions P Allocated Entered apart names one other completion also

  -- ---- what is given

  pub gives_same : {ones others : List Value} → SameValues names ones others → Both (gives one ones) (gives other others)
  gives_same are = both_give names (names_themselves names) memories are

  pub gives_value : {value also : Value} → SameValue names value also → Both (gives one (value ∷ [])) (gives other (also ∷ []))
  gives_value is = gives_same (and_value is no_values)

  pub gives_nothing : Both (gives one []) (gives other [])
  gives_nothing = gives_same no_values

  -- ---- constants

  pub pushes_constant : (constant : Constant) → Both (push_constant_work one constant) (push_constant_work other constant)
  pushes_constant constant =
      let made = both_have memories.heaps constant in
      both_give made.more made.grows (memories_still made.grows (keeps_made one.heap constant) made.heaps memories)
      (and_value (same_reference made.is) no_values)

  -- ---- objects of references

  pub of_objects :
      (reference named : ℕ) (f g : Object → Completion)
      → names reference ≡ Some named
      → ((object also : Object) → object_at one.heap reference ≡ Some object → object_at other.heap named ≡ Some also
      → SameObject names object also → Both (f object) (g also))
      → Both (if_there one reference f) (if_there other named g)
  of_objects reference named f g is each =
      let old = memories.heaps.objects reference named is in
      rw (old.2, old.3) (each old.0 old.1 old.2 old.3 old.4)

  pub casts : (name : Name) {ones others : List Value} → SameValues names ones others
      → Both (check_cast_work P one name ones) (check_cast_work Q other name others)
  casts name no_values = both_end
  casts name (and_value same_int rest) = both_end
  casts name (and_value same_long rest) = both_end
  casts name (and_value same_float rest) = both_end
  casts name (and_value same_double rest) = both_end
  casts name (and_value same_null no_values) = gives_value same_null
  casts name (and_value same_null (and_value more rest)) = both_end
  casts name (and_value (same_reference {reference = reference} {named = named} is) no_values) =
      of_objects reference named _ _ is
      (λ object also there there_also alike. tested object also alike (is_instance P object.shape name) refl) where
        tested : (object also : Object) → SameObject names object also → (b : Bool) → is_instance P object.shape name ≡ b
            → Both (if is_instance P object.shape name then gives one (values.Ref reference ∷ []) else raises class_cast)
            (if is_instance Q also.shape name then gives other (values.Ref named ∷ []) else raises class_cast)
        tested object also alike true e =
            rw (
              e,
              ap (λ (s : Shape). is_instance Q s name) alike.shape ∙ same_instance same object.shape name
                  ∙ e,
            ) (gives_value (same_reference is))
        tested object also alike false e =
            rw (e, ap (λ (s : Shape). is_instance Q s name) alike.shape ∙ same_instance same object.shape name ∙ e) both_raise
  casts name (and_value (same_reference is) (and_value more rest)) = both_end

  pub tests : (name : Name) {ones others : List Value} → SameValues names ones others
      → Both (instance_of_work P one name ones) (instance_of_work Q other name others)
  tests name no_values = both_end
  tests name (and_value same_int rest) = both_end
  tests name (and_value same_long rest) = both_end
  tests name (and_value same_float rest) = both_end
  tests name (and_value same_double rest) = both_end
  tests name (and_value same_null no_values) = gives_value same_int
  tests name (and_value same_null (and_value more rest)) = both_end
  tests name (and_value (same_reference {reference = reference} {named = named} is) no_values) =
      of_objects reference named _ _ is (λ object also there there_also alike.
      rw (ap (λ (s : Shape). is_instance Q s name) alike.shape ∙ same_instance same object.shape name) (gives_value same_int))
  tests name (and_value (same_reference is) (and_value more rest)) = both_end

  pub throws_same : {ones others : List Value} → SameValues names ones others → Both (throw_work P one ones) (throw_work Q other others)
  throws_same no_values = both_end
  throws_same (and_value same_int rest) = both_end
  throws_same (and_value same_long rest) = both_end
  throws_same (and_value same_float rest) = both_end
  throws_same (and_value same_double rest) = both_end
  throws_same (and_value same_null no_values) = both_raise
  throws_same (and_value same_null (and_value more rest)) = both_end
  throws_same (and_value (same_reference {reference = reference} {named = named} is) no_values) =
      of_objects reference named _ _ is
      (λ object also there there_also alike. tested object also alike (shape_conforms P object.shape throwable) refl) where
        tested : (object also : Object) → SameObject names object also → (b : Bool) → shape_conforms P object.shape throwable ≡ b
            → Both (if shape_conforms P object.shape throwable then throws reference else ends stuck)
            (if shape_conforms Q also.shape throwable then throws named else ends stuck)
        tested object also alike true e =
            rw (
              e,
              ap (λ (s : Shape). shape_conforms Q s throwable) alike.shape ∙ same_conforms same object.shape throwable
                  ∙ e,
            ) (both_throw is)
        tested object also alike false e =
            rw (e, ap (λ (s : Shape). shape_conforms Q s throwable) alike.shape ∙ same_conforms same object.shape throwable ∙ e) both_end
  throws_same (and_value (same_reference is) (and_value more rest)) = both_end

  -- ---- monitors

  pub entered_same : IsComparison Entered → (reference named : ℕ) → names reference ≡ Some named
      → Both (gives (with_entered one reference) []) (gives (with_entered other named) [])
  entered_same compares reference named is =
      let still = memories_still (names_themselves names)
      (keeps_all one.heap (entered one.heap reference) (entered_constants one.heap reference))
      (both_enter memories.heaps reference named is) memories in
      both_give names (names_themselves names)
      (memories_counted one.allocations other.allocations (one.entries + 1) (other.entries + 1) memories.allocations
      (compares.both one.entries other.entries 1 memories.entries) still) no_values

  pub enters : IsComparison Entered → {ones others : List Value} → SameValues names ones others
      → Both (enter_monitor_work one ones) (enter_monitor_work other others)
  enters compares no_values = both_end
  enters compares (and_value same_int rest) = both_end
  enters compares (and_value same_long rest) = both_end
  enters compares (and_value same_float rest) = both_end
  enters compares (and_value same_double rest) = both_end
  enters compares (and_value same_null no_values) = both_raise
  enters compares (and_value same_null (and_value more rest)) = both_end
  enters compares (and_value (same_reference {reference = reference} {named = named} is) no_values) =
      of_objects reference named _ _ is (λ object also there there_also alike. entered_same compares reference named is)
  enters compares (and_value (same_reference is) (and_value more rest)) = both_end

  pub leaves : {ones others : List Value} → SameValues names ones others
      → Both (leave_monitor_work one ones) (leave_monitor_work other others)
  leaves no_values = both_end
  leaves (and_value same_int rest) = both_end
  leaves (and_value same_long rest) = both_end
  leaves (and_value same_float rest) = both_end
  leaves (and_value same_double rest) = both_end
  leaves (and_value same_null no_values) = both_raise
  leaves (and_value same_null (and_value more rest)) = both_end
  leaves (and_value (same_reference {reference = reference} {named = named} is) no_values) =
      of_objects reference named _ _ is (λ object also there there_also alike. tested object also alike (object.monitor == 0) refl) where
        tested : (object also : Object) → SameObject names object also → (b : Bool) → (object.monitor == 0) ≡ b
            → Both (if object.monitor == 0 then raises illegal_monitor else gives (with_heap one (left one.heap reference)) [])
            (if also.monitor == 0 then raises illegal_monitor else gives (with_heap other (left other.heap named)) [])
        tested object also alike true e = rw (e, ap (λ (count : ℕ). count == 0) alike.monitor ∙ e) both_raise
        tested object also alike false e =
            rw (e, ap (λ (count : ℕ). count == 0) alike.monitor ∙ e)
            (both_give names (names_themselves names)
            (memories_still (names_themselves names) (keeps_all one.heap (left one.heap reference) (left_constants one.heap reference))
            (both_leave memories.heaps reference named is) memories)
            no_values)
  leaves (and_value (same_reference is) (and_value more rest)) = both_end

  -- ---- what is asked of the library

  pub kind_same : (kind : Kind) {value also : Value} → SameValue names value also → has_kind kind also ≡ has_kind kind value
  kind_same kind same_int = refl
  kind_same kind same_long = refl
  kind_same kind same_float = refl
  kind_same kind same_double = refl
  kind_same kind same_null = refl
  kind_same kind (same_reference is) = grind (arith)
