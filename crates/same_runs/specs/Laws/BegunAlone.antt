-- A class that begins in one of two runs alone: in the first, where nothing runs; or in the second, where the first has begun it before.
use Rattle.std.proofs.Common.{◌≡◌, ◌==◌, ℕ, suc, Bool, true, false, List, [], ◌∷◌, Option, Some, None, option_map, if◌then◌else◌, IsSome, IsTrue, IsFalse, refl, sym, ap, subst, ◌∙◌, inl, inr, ◌⊎◌}
use Rattle.std.specs.List.{AllByRecursion}
use Rattle.std.proofs.lemmas.Bool.{false≢true, ne_eqb}
use Rattle.class_model.specs.Descriptors.{type_of}
use Rattle.machine_values.specs.Heaps.{Heap, Made, constant_made, kept_in}
use Rattle.machine_values.specs.Values.{blank_value, narrowed}
use Rattle.machine_values.specs.declared.object.Constant.TheVariants.{Str}
use Rattle.machine_values.specs.declared.value.Value.{Value}
use Rattle.machine_values.specs.declared.value.Value.TheVariants as values
use Rattle.member_link.specs.Machine.Beginnings.{begun_memory, starts_of, with_start, with_starts}
use Rattle.member_link.specs.Machine.Programs.{Program, StartValue, StaticStart, start_string, start_value}
use Rattle.member_link.specs.Machine.Worlds.{Memory, field_desc, is_begun, static_value, written_static}
use Rattle.same_runs.specs.Renamings.{Names, NamesMore, SameUnit, no_value, has_value, SameValue, same_reference}
use Rattle.same_runs.specs.SameMemories.{Apart, IsAsBegun, IsBegunAlone, IsInert, IsKeptStart, SameHeaps, SameMemories, start_in, started}
use Rattle.same_runs.specs.SamePrograms.{IsPlainStart, SamePrograms}
use Rattle.same_runs.specs.Laws.Begun.{first_still, marked, marked_cases, marked_still, plain_starts, same_starts, start_begun, unmarked}
use Rattle.same_runs.specs.Laws.Constants.{SameConstant, both_have, first_has, made_kept}
use Rattle.same_runs.specs.Laws.FieldWork.{blank_itself, narrowed_same}
use Rattle.same_runs.specs.Laws.Names.{more_and_more, names_themselves, value_more}
use Rattle.same_runs.specs.Laws.OperandWork.{itself}
use Rattle.same_runs.specs.Laws.Programs.{same_field_desc}
use Rattle.same_runs.specs.Laws.Starts.{all_kept, or_before, starts_leave, starts_set, with_starts_keeps}
use Rattle.same_runs.specs.Laws.Statics.{KeepsConstants, kept_still, started_same}

-- ---- what setting static fields leaves as it was

pub starts_begun : (R : Program) (class at : ℕ) (memory : Memory) (starts : List StaticStart)
    → is_begun (with_starts R class memory starts) at ≡ is_begun memory at
starts_begun R class at memory [] = refl
starts_begun R class at memory (start ∷ starts) = starts_begun R class at (with_start R class memory start) starts
    ∙ start_begun R class at memory start

start_allocations : (R : Program) (class : ℕ) (memory : Memory) (start : StaticStart)
    → (with_start R class memory start).allocations ≡ memory.allocations
start_allocations R class memory start = by start.value refl where
  by : (value : StartValue) → start.value ≡ value → (with_start R class memory start).allocations ≡ memory.allocations
  by (start_value value) is = rw (is) refl
  by (start_string text) is = rw (is) refl

start_entries : (R : Program) (class : ℕ) (memory : Memory) (start : StaticStart)
    → (with_start R class memory start).entries ≡ memory.entries
start_entries R class memory start = by start.value refl where
  by : (value : StartValue) → start.value ≡ value → (with_start R class memory start).entries ≡ memory.entries
  by (start_value value) is = rw (is) refl
  by (start_string text) is = rw (is) refl

starts_allocations : (R : Program) (class : ℕ) (memory : Memory) (starts : List StaticStart)
    → (with_starts R class memory starts).allocations ≡ memory.allocations
starts_allocations R class memory [] = refl
starts_allocations R class memory (start ∷ starts) = starts_allocations R class (with_start R class memory start) starts
    ∙ start_allocations R class memory start

starts_entries : (R : Program) (class : ℕ) (memory : Memory) (starts : List StaticStart)
    → (with_starts R class memory starts).entries ≡ memory.entries
starts_entries R class memory [] = refl
starts_entries R class memory (start ∷ starts) = starts_entries R class (with_start R class memory start) starts
    ∙ start_entries R class memory start

before_none : (value : Option Value) → or_before value None ≡ value
before_none None = refl
before_none (Some value) = refl

differs : (class at : ℕ) → (class ≡ at → ⊥) → (class == at) ≡ false
differs class at differ = ne_eqb class at differ

-- ---- in the first alone

heap_first : {apart : Apart} {names : Names} (R : Program) (class : ℕ) (memory : Memory) (starts : List StaticStart) (other : Heap)
    → SameHeaps apart names memory.heap other → SameHeaps apart names (with_starts R class memory starts).heap other
heap_first R class memory [] other same = same
heap_first {apart = apart} {names = names} R class memory (start ∷ starts) other same = heap_first R class
    (with_start R class memory start) starts other (by start.value refl) where
      by : (value : StartValue) → start.value ≡ value → SameHeaps apart names (with_start R class memory start).heap other
      by (start_value value) is = rw (is) same
      by (start_string text) is = rw (is) (first_has same (Str text))

-- An inert class begins in the first run alone: its beginning is then on top there.
pub first_begins :
    {P : Program} {Allocated Entered : ℕ → ℕ → Type 0} {apart : Apart} {names : Names} {now : List ℕ} {one other : Memory} (class : ℕ)
    → IsFalse (is_begun one class)
    → IsInert P class
    → SameMemories P Allocated Entered apart names now one other
    → SameMemories P Allocated Entered apart names (class ∷ now) (begun_memory P class one) other
first_begins {P = P} {Allocated = Allocated} {Entered = Entered} {apart = apart} {names = names} {now = now} {one = one} {other = other} class none inert
    memories = record {
      heaps = heap_first P class (marked one class) (starts_of P class) other.heap memories.heaps;
      statics = record {
        begun = λ at is. starts_begun P class at (marked one class) (starts_of P class)
            ∙ marked_still one class at (memories.statics.begun at is);
        values = λ at field is.
            subst (λ (written : Option Value). SameValue names (or_blank at field written) (static_value P other at field))
            (sym (starts_leave P class (marked one class) (starts_of P class) at field (differs class at (is_other at is))))
            (memories.statics.values at field is);
        alone = λ at is none_also. elim (marked_cases one class at (sym (starts_begun P class at (marked one class) (starts_of P class))
            ∙ is)) [
              | inl before ↦ old_alone at before none_also
              | inr same_one ↦ subst (IsBegunAlone P (class ∷ now) (begun_memory P class one)) same_one new_alone
            ];
        unwritten = λ at field is.
            let before = unmarked one class at (sym (starts_begun P class at (marked one class) (starts_of P class)) ∙ is) in
            starts_leave P class (marked one class) (starts_of P class) at field (differs class at before.1)
            ∙ memories.statics.unwritten at field before.0;
        unwritten_also = memories.statics.unwritten_also;
      };
      allocations = subst (λ (count : ℕ). Allocated count other.allocations) (sym (starts_allocations P class (marked one class)
          (starts_of P class))) memories.allocations;
      entries = subst (λ (count : ℕ). Entered count other.entries) (sym (starts_entries P class (marked one class)
          (starts_of P class))) memories.entries;
    } where
      or_blank : ℕ → ℕ → Option Value → Value
      or_blank at field None = blank_value (field_desc P at field)
      or_blank at field (Some value) = value

      is_other : (at : ℕ) → IsTrue (is_begun other at) → class ≡ at → ⊥
      is_other at is same_one = false≢true (sym none ∙ ap (is_begun one) same_one ∙ memories.statics.begun at is)

      keeps : KeepsConstants one.heap (begun_memory P class one).heap
      keeps = with_starts_keeps P class (marked one class) (starts_of P class)

      old_alone : (at : ℕ) → IsTrue (is_begun one at) → IsFalse (is_begun other at)
          → IsBegunAlone P (class ∷ now) (begun_memory P class one) at
      old_alone at before none_also =
          let alone = memories.statics.alone at before none_also in
          record {
            inert = alone.inert;
            as_begun = record {
              kept = kept_still one.heap (begun_memory P class one).heap (starts_of P at) keeps alone.as_begun.kept;
              statics = λ field.
                  starts_leave P class (marked one class) (starts_of P class) at field (differs class at (λ same_one. false≢true (sym none
                  ∙ ap (is_begun one) same_one ∙ before)))
                  ∙ alone.as_begun.statics field
                  ∙ sym (started_same P at field one.heap (begun_memory P class one).heap (starts_of P at) keeps alone.as_begun.kept);
            };
            first = λ no. first_still P one (begun_memory P class one) at (λ n is. starts_begun P class n (marked one class)
                (starts_of P class) ∙ marked_still one class n is)
                (alone.first (λ number is. no (suc number) is));
          }

      new_alone : IsBegunAlone P (class ∷ now) (begun_memory P class one) class
      new_alone = record {
        inert = inert;
        as_begun = record {
          kept = all_kept P class (marked one class) (starts_of P class);
          statics = λ field.
              starts_set P class field (marked one class) (starts_of P class)
              ∙ ap (or_before (started P class (begun_memory P class one).heap.constants (starts_of P class) field))
              (memories.statics.unwritten class field none)
              ∙ before_none (started P class (begun_memory P class one).heap.constants (starts_of P class) field);
        };
        first = λ no. absurd (no 0 refl);
      }

-- ---- in the second, where the first has begun it before

heap_second :
    {apart : Apart} (R : Program) (class : ℕ) (memory : Memory) (starts : List StaticStart) (names : Names) (one : Heap)
    → AllByRecursion (IsKeptStart one.constants) starts
    → SameHeaps apart names one memory.heap
    → (more : Names) × NamesMore names more × SameHeaps apart more one (with_starts R class memory starts).heap
heap_second R class memory [] names one kept same = (names, names_themselves names, same)
heap_second {apart = apart} R class memory (start ∷ starts) names one kept same =
    let first = by start.value refl kept.0 in
    let rest = heap_second R class (with_start R class memory start) starts first.0 one kept.1 first.2 in
    (rest.0, more_and_more first.1 rest.1, rest.2) where
      by : (value : StartValue) → start.value ≡ value → IsSome (start_in one.constants value)
          → (more : Names) × NamesMore names more × SameHeaps apart more one (with_start R class memory start).heap
      by (start_value value) is some = (names, names_themselves names, rw (is) same)
      by (start_string text) is some = at_kept (kept_in one.constants (Str text)) refl some where
        made : SameConstant apart names one memory.heap (Str text)
        made = both_have same (Str text)

        at_kept : (found : Option ℕ) → kept_in one.constants (Str text) ≡ found → IsSome (option_map values.Ref found)
            → (more : Names) × NamesMore names more × SameHeaps apart more one (with_start R class memory start).heap
        at_kept None none some = absurd (false≢true some)
        at_kept (Some reference) there some = (
          made.more,
          made.grows,
          rw (is) (subst (λ (m : Made). SameHeaps apart made.more m.heap (constant_made memory.heap (Str text)).heap) (made_kept one
              (Str text) reference there) made.heaps),
        )

-- what a field begins with, by the constants of both heaps
start_units : {apart : Apart} {names : Names} {one other : Heap} (start : StaticStart) → IsPlainStart start
    → IsSome (start_in other.constants start.value) → SameHeaps apart names one other
    → SameUnit names (start_in one.constants start.value) (start_in other.constants start.value)
start_units {names = names} {one = one} {other = other} start plain some same = by start.value refl plain some where
  by : (value : StartValue) → start.value ≡ value → IsPlainStart (record start { value = value }) → IsSome (start_in other.constants value)
      → SameUnit names (start_in one.constants start.value) (start_in other.constants start.value)
  by (start_value value) is plain_value some_value = rw (is) (has_value (itself names value plain_value))
  by (start_string text) is plain_value some_value = at_kept (kept_in other.constants (Str text)) refl some_value where
    at_kept : (found : Option ℕ) → kept_in other.constants (Str text) ≡ found → IsSome (option_map values.Ref found)
        → SameUnit names (start_in one.constants start.value) (start_in other.constants start.value)
    at_kept None none found = absurd (false≢true found)
    at_kept (Some named) there found =
        let was = same.kept (Str text) named there in
        rw (is, there, was.1) (has_value (same_reference was.2))

mapped_units : {names : Names} {one other : Option Value} (desc : List ℕ) → SameUnit names one other
    → SameUnit names (option_map (narrowed (type_of desc)) one) (option_map (narrowed (type_of desc)) other)
mapped_units desc no_value = no_value
mapped_units desc (has_value same) = has_value (narrowed_same (type_of desc) same)

-- what fields are set to, by the constants of both heaps
started_units :
    {apart : Apart} {names : Names} {one other : Heap} (R : Program) (class field : ℕ) (starts : List StaticStart)
    → AllByRecursion IsPlainStart starts
    → AllByRecursion (IsKeptStart other.constants) starts
    → SameHeaps apart names one other
    → SameUnit names (started R class one.constants starts field) (started R class other.constants starts field)
started_units R class field [] plain kept same = no_value
started_units {names = names} {one = one} {other = other} R class field (start ∷ starts) plain kept same =
    by (started R class one.constants starts field) (started R class other.constants starts field) refl refl
    (started_units R class field starts plain.1 kept.1 same) where
      here : (b : Bool) → SameUnit names (if b then option_map (narrowed (type_of (field_desc R class start.field)))
          (start_in one.constants start.value) else None)
          (if b then option_map (narrowed (type_of (field_desc R class start.field))) (start_in other.constants start.value) else None)
      here true = mapped_units (field_desc R class start.field) (start_units start plain.0 kept.0 same)
      here false = no_value

      by : (first second : Option Value) → started R class one.constants starts field ≡ first
          → started R class other.constants starts field ≡ second → SameUnit names first second
          → SameUnit names (started R class one.constants (start ∷ starts) field) (started R class other.constants (start ∷ starts) field)
      by None None is is_also no_value = rw (is, is_also) (here (start.field == field))
      by None (Some second) is is_also impossible = elim impossible [ ]
      by (Some first) None is is_also impossible = elim impossible [ ]
      by (Some first) (Some second) is is_also (has_value alike) = rw (is, is_also) (has_value alike)

-- where static fields are set by their numbers, both programs do the same
start_alike : {P Q : Program} → SamePrograms P Q → (class : ℕ) (memory : Memory) (start : StaticStart)
    → with_start Q class memory start ≡ with_start P class memory start
start_alike {P = P} {Q = Q} same class memory start = by start.value refl where
  by : (value : StartValue) → start.value ≡ value → with_start Q class memory start ≡ with_start P class memory start
  by (start_value value) is = rw (is, same_field_desc same class start.field) refl
  by (start_string text) is = rw (is, same_field_desc same class start.field) refl

starts_alike : {P Q : Program} → SamePrograms P Q → (class : ℕ) (memory : Memory) (starts : List StaticStart)
    → with_starts Q class memory starts ≡ with_starts P class memory starts
starts_alike same class memory [] = refl
starts_alike {P = P} {Q = Q} same class memory (start ∷ starts) =
    starts_alike same class (with_start Q class memory start) starts
    ∙ ap (λ (m : Memory). with_starts P class m starts) (start_alike same class memory start)

-- a class begins in the same way in both programs
pub begun_alike : {P Q : Program} → SamePrograms P Q → (class : ℕ) (memory : Memory)
    → begun_memory Q class memory ≡ begun_memory P class memory
begun_alike {P = P} {Q = Q} same class memory =
    ap (with_starts Q class (marked memory class)) (same_starts same class)
    ∙ starts_alike same class (marked memory class) (starts_of P class)

-- A class that the first has begun begins in the second.
second_begins_it :
    {P : Program} {Allocated Entered : ℕ → ℕ → Type 0} {apart : Apart} {names : Names} {now : List ℕ} {one other : Memory} (class : ℕ)
    → AllByRecursion IsPlainStart (starts_of P class)
    → IsTrue (is_begun one class)
    → IsFalse (is_begun other class)
    → SameMemories P Allocated Entered apart names now one other
    → (more : Names) × NamesMore names more × SameMemories P Allocated Entered apart more now one (begun_memory P class other)
second_begins_it {P = P} {Allocated = Allocated} {Entered = Entered} {apart = apart} {names = names} {now = now} {one = one} {other = other} class plain
    begun none memories = (
      made.0,
      made.1,
      record {
        heaps = made.2;
        statics = record {
          begun = λ at is. elim (cases at is) [
            | inl before ↦ memories.statics.begun at before
            | inr same_one ↦ subst (λ (n : ℕ). IsTrue (is_begun one n)) same_one begun
          ];
          values = λ at field is. elim (cases at is) [
            | inl before ↦ subst (λ (written : Option Value). SameValue made.0 (static_value P one at field) (or_blank at field written))
                (sym (starts_leave P class (marked other class) (starts_of P class) at field (differs class at (is_other at before))))
                (value_more made.1 (memories.statics.values at field before))
            | inr same_one ↦ subst (λ (n : ℕ). SameValue made.0 (static_value P one n field) (static_value P later n field)) same_one
                (values_here field)
          ];
          alone = λ at is none_also. memories.statics.alone at is (not_before at none_also).0;
          unwritten = memories.statics.unwritten;
          unwritten_also = λ at field is.
              let before = not_before at is in
              starts_leave P class (marked other class) (starts_of P class) at field (differs class at before.1)
              ∙ memories.statics.unwritten_also at field before.0;
        };
        allocations = subst (λ (count : ℕ). Allocated one.allocations count) (sym (starts_allocations P class (marked other class)
            (starts_of P class))) memories.allocations;
        entries = subst (λ (count : ℕ). Entered one.entries count) (sym (starts_entries P class (marked other class)
            (starts_of P class))) memories.entries;
      },
    ) where
      later : Memory
      later = begun_memory P class other

      as_begun : IsAsBegun P one class
      as_begun = (memories.statics.alone class begun none).as_begun

      made : (more : Names) × NamesMore names more × SameHeaps apart more one.heap later.heap
      made = heap_second P class (marked other class) (starts_of P class) names one.heap as_begun.kept memories.heaps

      or_blank : ℕ → ℕ → Option Value → Value
      or_blank at field None = blank_value (field_desc P at field)
      or_blank at field (Some value) = value

      cases : (at : ℕ) → IsTrue (is_begun later at) → (IsTrue (is_begun other at)) ⊎ (class ≡ at)
      cases at is = marked_cases other class at (sym (starts_begun P class at (marked other class) (starts_of P class)) ∙ is)

      not_before : (at : ℕ) → IsFalse (is_begun later at) → IsFalse (is_begun other at) × ((class ≡ at) → ⊥)
      not_before at is = unmarked other class at (sym (starts_begun P class at (marked other class) (starts_of P class)) ∙ is)

      is_other : (at : ℕ) → IsTrue (is_begun other at) → class ≡ at → ⊥
      is_other at is same_one = false≢true (sym none ∙ ap (is_begun other) same_one ∙ is)

      units_here : (field : ℕ) → SameUnit made.0 (started P class one.heap.constants (starts_of P class) field)
          (started P class later.heap.constants (starts_of P class) field)
      units_here field = started_units P class field (starts_of P class) plain (all_kept P class (marked other class)
          (starts_of P class)) made.2

      written_later : (field : ℕ) → written_static later.statics class field
          ≡ started P class later.heap.constants (starts_of P class) field
      written_later field =
          starts_set P class field (marked other class) (starts_of P class)
          ∙ ap (or_before (started P class later.heap.constants (starts_of P class) field))
          (memories.statics.unwritten_also class field none)
          ∙ before_none (started P class later.heap.constants (starts_of P class) field)

      filled : (field : ℕ) (first second : Option Value) → SameUnit made.0 first second
          → SameValue made.0 (or_blank class field first) (or_blank class field second)
      filled field None None no_value = blank_itself made.0 (field_desc P class field)
      filled field None (Some second) impossible = elim impossible [ ]
      filled field (Some first) None impossible = elim impossible [ ]
      filled field (Some first) (Some second) (has_value alike) = alike

      values_here : (field : ℕ) → SameValue made.0 (static_value P one class field) (static_value P later class field)
      values_here field =
          subst (λ (written : Option Value). SameValue made.0 (or_blank class field written) (static_value P later class field)) (sym
          (as_begun.statics field))
          (subst (λ (written : Option Value). SameValue made.0 (or_blank class field (started P class one.heap.constants
          (starts_of P class) field)) (or_blank class field written)) (sym (written_later field))
          (filled field _ _ (units_here field)))

-- A class that the first has begun begins in the second: memories are then the same still, under names that are perhaps more.
pub second_has_begun :
    {P Q : Program} {Allocated Entered : ℕ → ℕ → Type 0} {apart : Apart} {names : Names} {now : List ℕ} {one other : Memory}
    → SamePrograms P Q
    → (class : ℕ)
    → IsTrue (is_begun one class)
    → IsFalse (is_begun other class)
    → SameMemories P Allocated Entered apart names now one other
    → (more : Names) × NamesMore names more × SameMemories P Allocated Entered apart more now one (begun_memory Q class other)
second_has_begun {P = P} {Q = Q} {Allocated = Allocated} {Entered = Entered} {apart = apart} {names = names} {now = now} {one = one} {other = other} same
    class begun none memories =
    subst (λ (m : Memory). (more : Names) × NamesMore names more × SameMemories P Allocated Entered apart more now one m) (sym
    (begun_alike same class other))
    (second_begins_it class (plain_starts same class) begun none memories)
