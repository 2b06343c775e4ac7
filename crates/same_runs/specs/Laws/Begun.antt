-- Classes that begin: in both runs, in the first alone, or in the second, which the first has begun before.
use Rattle.std.proofs.Common.{◌≡◌, ◌==◌, ◌||◌, ℕ, Bool, true, false, List, [], ◌∷◌, ◌++◌, slice_get, Option, Some, None, IsTrue, IsFalse, refl, sym, subst, ◌∙◌, inl, inr, ◌⊎◌}
use Rattle.std.specs.List.{AllByRecursion, list_any}
use Rattle.std.proofs.lemmas.Bool.{eq-eqb, eqb-true, false≢true, or_cases, or_left, or_right}
use Rattle.class_model.specs.Descriptors.{type_of}
use Rattle.machine_values.specs.declared.object.Constant.TheVariants.{Str}
use Rattle.member_link.specs.Machine.Beginnings.{begun_memory, starts_of, with_start, with_starts}
use Rattle.member_link.specs.Machine.Programs.{Program, RunClass, StartValue, StaticStart, start_string, start_value}
use Rattle.member_link.specs.Machine.Worlds.{Memory, field_desc, is_begun, static_value}
use Rattle.same_runs.specs.Renamings.{Names, NamesMore, SameValue, same_reference}
use Rattle.same_runs.specs.SameMemories.{Apart, HasFirstBegun, SameMemories}
use Rattle.same_runs.specs.SamePrograms.{IsPlainStart, SamePrograms}
use Rattle.same_runs.specs.Laws.Constants.{both_have}
use Rattle.same_runs.specs.Laws.FieldWork.{blank_itself, narrowed_same, put_both}
use Rattle.same_runs.specs.Laws.Names.{more_and_more, names_themselves}
use Rattle.same_runs.specs.Laws.OperandWork.{itself}
use Rattle.same_runs.specs.Laws.Programs.{SameAt, at_none, at_both, at_number, same_field_desc}
use Rattle.same_runs.specs.Laws.Statics.{keeps_made, memories_still}

-- ---- a class is marked

abbrev pub marked : Memory → ℕ → Memory
marked memory class = record memory { begun = memory.begun ++ class ∷ [] }

any_more : (begun : List ℕ) (class at : ℕ)
    → list_any (λ (other : ℕ). other == at) (begun ++ class ∷ []) ≡ (list_any (λ (other : ℕ). other == at) begun || (class == at))
any_more [] class at = by (class == at) where
  by : (b : Bool) → (b || false) ≡ (false || b)
  by true = refl
  by false = refl
any_more (first ∷ begun) class at = by (first == at) (any_more begun class at) where
  by : (b : Bool) → list_any (λ (other : ℕ). other == at) (begun ++ class ∷ [])
      ≡ (list_any (λ (other : ℕ). other == at) begun || (class == at))
      → (b || list_any (λ (other : ℕ). other == at) (begun ++ class ∷ []))
      ≡ ((b || list_any (λ (other : ℕ). other == at) begun) || (class == at))
  by true rest = refl
  by false rest = rest

pub begun_where_marked : (memory : Memory) (class at : ℕ) → is_begun (marked memory class) at ≡ (is_begun memory at || (class == at))
begun_where_marked memory class at = any_more memory.begun class at

pub marked_itself : (memory : Memory) (class : ℕ) → IsTrue (is_begun (marked memory class) class)
marked_itself memory class = begun_where_marked memory class class
    ∙ or_right (is_begun memory class) (class == class) (eq-eqb class class refl)

pub marked_still : (memory : Memory) (class at : ℕ) → IsTrue (is_begun memory at) → IsTrue (is_begun (marked memory class) at)
marked_still memory class at is = begun_where_marked memory class at ∙ or_left (is_begun memory at) (class == at) is

-- begun before, or the class that is marked
pub marked_cases : (memory : Memory) (class at : ℕ) → IsTrue (is_begun (marked memory class) at)
    → (IsTrue (is_begun memory at)) ⊎ (class ≡ at)
marked_cases memory class at is = elim (or_cases (is_begun memory at) (class == at) (sym (begun_where_marked memory class at) ∙ is)) [
  | inl before ↦ inl before
  | inr same ↦ inr (eqb-true class at same)
]

pub unmarked : (memory : Memory) (class at : ℕ) → IsFalse (is_begun (marked memory class) at)
    → IsFalse (is_begun memory at) × ((class ≡ at) → ⊥)
unmarked memory class at none = (
  by (is_begun memory at) refl,
  λ same. false≢true (sym none ∙ subst (λ (n : ℕ). IsTrue (is_begun (marked memory class) n)) same (marked_itself memory class)),
) where
  by : (b : Bool) → is_begun memory at ≡ b → IsFalse (is_begun memory at)
  by false e = e
  by true e = absurd (false≢true (sym none ∙ marked_still memory class at e))

-- what is begun before a class stays begun
pub first_still : (P : Program) (before after : Memory) (class : ℕ)
    → ((at : ℕ) → IsTrue (is_begun before at) → IsTrue (is_begun after at)) → HasFirstBegun P before class → HasFirstBegun P after class
first_still P before after class more first = λ found name number at is is_name is_number. more at
    (first found name number at is is_name is_number)

pub start_begun : (R : Program) (class at : ℕ) (memory : Memory) (start : StaticStart)
    → is_begun (with_start R class memory start) at ≡ is_begun memory at
start_begun R class at memory start = by start.value refl where
  by : (value : StartValue) → start.value ≡ value → is_begun (with_start R class memory start) at ≡ is_begun memory at
  by (start_value value) is = rw (is) refl
  by (start_string text) is = rw (is) refl

module _ {P Q : Program} (same : SamePrograms P Q) where
  pub same_starts : (class : ℕ) → starts_of Q class ≡ starts_of P class
  same_starts class = by (slice_get P.classes class) (slice_get Q.classes class) refl refl (at_number same class) where
    by : (one other : Option RunClass) → slice_get P.classes class ≡ one → slice_get Q.classes class ≡ other → SameAt P one other
        → starts_of Q class ≡ starts_of P class
    by None None is is_also at_none = rw (is, is_also) refl
    by None (Some other) is is_also impossible = elim impossible [ ]
    by (Some one) None is is_also impossible = elim impossible [ ]
    by (Some one) (Some other) is is_also (at_both alike) = rw (is, is_also) alike.starts

  pub plain_starts : (class : ℕ) → AllByRecursion IsPlainStart (starts_of P class)
  plain_starts class = by (slice_get P.classes class) (slice_get Q.classes class) refl refl (at_number same class) where
    by : (one other : Option RunClass) → slice_get P.classes class ≡ one → slice_get Q.classes class ≡ other → SameAt P one other
        → AllByRecursion IsPlainStart (starts_of P class)
    by None None is is_also at_none = rw (is) tt
    by None (Some other) is is_also impossible = elim impossible [ ]
    by (Some one) None is is_also impossible = elim impossible [ ]
    by (Some one) (Some other) is is_also (at_both alike) = rw (is) alike.plain_starts

module _ {P Q : Program} {Allocated Entered : ℕ → ℕ → Type 0} {apart : Apart} (same : SamePrograms P Q) where
  -- ---- in both

  mark_both : {names : Names} {now : List ℕ} {one other : Memory} (class : ℕ) → IsFalse (is_begun one class)
      → SameMemories P Allocated Entered apart names now one other
      → SameMemories P Allocated Entered apart names now (marked one class) (marked other class)
  mark_both {names = names} {now = now} {one = one} {other = other} class none memories = record {
    heaps = memories.heaps;
    statics = record {
      begun = λ at is. elim (marked_cases other class at is) [
        | inl before ↦ marked_still one class at (memories.statics.begun at before)
        | inr same_one ↦ subst (λ (n : ℕ). IsTrue (is_begun (marked one class) n)) same_one (marked_itself one class)
      ];
      values = λ at field is. elim (marked_cases other class at is) [
        | inl before ↦ memories.statics.values at field before
        | inr same_one ↦ subst (λ (n : ℕ). SameValue names (static_value P (marked one class) n field) (static_value P (marked other class) n field)) same_one (blank_values field)
      ];
      alone = λ at is none_also.
          let alone = memories.statics.alone at (begun_before at is none_also) (unmarked other class at none_also).0 in
          record {
            inert = alone.inert;
            as_begun = record { kept = alone.as_begun.kept; statics = alone.as_begun.statics };
            first = λ no. first_still P one (marked one class) at (marked_still one class) (alone.first no);
          };
      unwritten = λ at field is. memories.statics.unwritten at field (unmarked one class at is).0;
      unwritten_also = λ at field is. memories.statics.unwritten_also at field (unmarked other class at is).0;
    };
    allocations = memories.allocations;
    entries = memories.entries;
  } where
    none_other : IsFalse (is_begun other class)
    none_other = by (is_begun other class) refl where
      by : (b : Bool) → is_begun other class ≡ b → IsFalse (is_begun other class)
      by false e = e
      by true e = absurd (false≢true (sym none ∙ memories.statics.begun class e))

    blank_values : (field : ℕ)
        → SameValue names (static_value P (marked one class) class field) (static_value P (marked other class) class field)
    blank_values field =
        rw (memories.statics.unwritten class field none, memories.statics.unwritten_also class field none_other)
        (blank_itself names (field_desc P class field))

    begun_before : (at : ℕ) → IsTrue (is_begun (marked one class) at) → IsFalse (is_begun (marked other class) at)
        → IsTrue (is_begun one at)
    begun_before at is none_also = elim (marked_cases one class at is) [
      | inl before ↦ before
      | inr same_one ↦ absurd ((unmarked other class at none_also).1 same_one)
    ]

  -- both set a field
  start_both :
      {names : Names} {one other : Memory} (class : ℕ) (start : StaticStart)
      → IsPlainStart start
      → IsTrue (is_begun other class)
      → SameMemories P Allocated Entered apart names [] one other
      → (more : Names) × NamesMore names more
      × SameMemories P Allocated Entered apart more [] (with_start P class one start) (with_start Q class other start)
  start_both {names = names} {one = one} {other = other} class start plain begun memories = by start.value refl plain where
    by : (value : StartValue) → start.value ≡ value → IsPlainStart (record start { value = value })
        → (more : Names) × NamesMore names more
        × SameMemories P Allocated Entered apart more [] (with_start P class one start) (with_start Q class other start)
    by (start_value value) is plain_value = (
      names,
      names_themselves names,
      rw (is, same_field_desc same class start.field)
          (put_both same memories class start.field begun
          (narrowed_same (type_of (field_desc P class start.field)) (itself names value plain_value))),
    )
    by (start_string text) is plain_value =
        let made = both_have memories.heaps (Str text) in
        let still = memories_still made.grows (keeps_made one.heap (Str text)) made.heaps memories in (
          made.more,
          made.grows,
          rw (is, same_field_desc same class start.field)
              (put_both same still class start.field begun
              (narrowed_same (type_of (field_desc P class start.field)) (same_reference made.is))),
        )

  starts_both :
      (class : ℕ) (starts : List StaticStart) (names : Names) (one other : Memory)
      → AllByRecursion IsPlainStart starts
      → IsTrue (is_begun other class)
      → SameMemories P Allocated Entered apart names [] one other
      → (more : Names) × NamesMore names more
      × SameMemories P Allocated Entered apart more [] (with_starts P class one starts) (with_starts Q class other starts)
  starts_both class [] names one other plain begun memories = (names, names_themselves names, memories)
  starts_both class (start ∷ starts) names one other plain begun memories =
      let first = start_both class start plain.0 begun memories in
      let rest = starts_both class starts first.0 (with_start P class one start) (with_start Q class other start) plain.1
      (start_begun Q class class other start ∙ begun) first.2 in
      (rest.0, more_and_more first.1 rest.1, rest.2)

  -- a class that is begun in neither begins in both
  pub begin_both :
      {names : Names} {one other : Memory} (class : ℕ)
      → IsFalse (is_begun one class)
      → SameMemories P Allocated Entered apart names [] one other
      → (more : Names) × NamesMore names more
      × SameMemories P Allocated Entered apart more [] (begun_memory P class one) (begun_memory Q class other)
  begin_both {names = names} {one = one} {other = other} class none memories =
      subst (λ (starts : List StaticStart). (more : Names) × NamesMore names more
      × SameMemories P Allocated Entered apart more [] (begun_memory P class one) (with_starts Q class (marked other class) starts))
      (sym (same_starts same class))
      (starts_both class (starts_of P class) names (marked one class) (marked other class) (plain_starts same class)
      (marked_itself other class) (mark_both class none memories))
