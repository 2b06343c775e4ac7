-- What the static fields of a class hold where it begins.
use Rattle.std.proofs.Common.{◌≡◌, ◌==◌, ◌&&◌, ℕ, Bool, true, false, List, [], ◌∷◌, Option, Some, None, option_map, IsSome, refl, sym, ap, subst, ◌∙◌}
use Rattle.std.specs.List.{AllByRecursion}
use Rattle.std.proofs.lemmas.Bool.{eq-eqb, eqb-true}
use Rattle.class_model.specs.Descriptors.{type_of}
use Rattle.machine_values.specs.Heaps.{Heap, constant_made}
use Rattle.machine_values.specs.Values.{narrowed}
use Rattle.machine_values.specs.declared.object.Constant.TheVariants.{Str}
use Rattle.machine_values.specs.declared.value.Value.{Value}
use Rattle.machine_values.specs.declared.value.Value.TheVariants as values
use Rattle.member_link.specs.Machine.Beginnings.{with_start, with_starts}
use Rattle.member_link.specs.Machine.Programs.{Program, StartValue, StaticStart, start_string, start_value}
use Rattle.member_link.specs.Machine.Worlds.{Memory, field_desc, written_static}
use Rattle.same_runs.specs.SameMemories.{IsKeptStart, start_in, started}
use Rattle.same_runs.specs.Laws.Constants.{made_is_kept}
use Rattle.same_runs.specs.Laws.Statics.{KeepsConstants, keeps_made, start_same}
use Rattle.same_runs.specs.Laws.Written.{written_elsewhere, written_here}

pub keeps_itself : (heap : Heap) → KeepsConstants heap heap
keeps_itself heap = record { keeps = λ constant reference is. is }

pub keeps_through : {one other more : Heap} → KeepsConstants one other → KeepsConstants other more → KeepsConstants one more
keeps_through first second = record { keeps = λ constant reference is. second.keeps constant reference (first.keeps constant reference is) }

-- ---- one field

with_start_keeps : (P : Program) (class : ℕ) (memory : Memory) (start : StaticStart)
    → KeepsConstants memory.heap (with_start P class memory start).heap
with_start_keeps P class memory start = by start.value refl where
  by : (value : StartValue) → start.value ≡ value → KeepsConstants memory.heap (with_start P class memory start).heap
  by (start_value value) is = rw (is) (keeps_itself memory.heap)
  by (start_string text) is = rw (is) (keeps_made memory.heap (Str text))

start_kept : (P : Program) (class : ℕ) (memory : Memory) (start : StaticStart)
    → IsSome (start_in (with_start P class memory start).heap.constants start.value)
start_kept P class memory start = by start.value refl where
  by : (value : StartValue) → start.value ≡ value → IsSome (start_in (with_start P class memory start).heap.constants start.value)
  by (start_value value) is = rw (is) refl
  by (start_string text) is = rw (is, made_is_kept memory.heap (Str text)) refl

-- the value that it is set to, by the constants that are there then
start_set : (P : Program) (class : ℕ) (memory : Memory) (start : StaticStart)
    → written_static (with_start P class memory start).statics class start.field
    ≡ option_map (narrowed (type_of (field_desc P class start.field)))
    (start_in (with_start P class memory start).heap.constants start.value)
start_set P class memory start = by start.value refl where
  by : (value : StartValue) → start.value ≡ value
      → written_static (with_start P class memory start).statics class start.field
      ≡ option_map (narrowed (type_of (field_desc P class start.field)))
      (start_in (with_start P class memory start).heap.constants start.value)
  by (start_value value) is = rw (is)
      (written_here memory.statics class start.field (narrowed (type_of (field_desc P class start.field)) value))
  by (start_string text) is = rw (is, made_is_kept memory.heap (Str text))
      (written_here memory.statics class start.field
      (narrowed (type_of (field_desc P class start.field)) (values.Ref (constant_made memory.heap (Str text)).reference)))

start_leaves : (P : Program) (class : ℕ) (memory : Memory) (start : StaticStart) (at field : ℕ)
    → ((class == at) && (start.field == field)) ≡ false
    → written_static (with_start P class memory start).statics at field ≡ written_static memory.statics at field
start_leaves P class memory start at field differ = by start.value refl where
  by : (value : StartValue) → start.value ≡ value
      → written_static (with_start P class memory start).statics at field ≡ written_static memory.statics at field
  by (start_value value) is = rw (is)
      (written_elsewhere memory.statics class start.field (narrowed (type_of (field_desc P class start.field)) value) at field differ)
  by (start_string text) is = rw (is)
      (written_elsewhere memory.statics class start.field
      (narrowed (type_of (field_desc P class start.field)) (values.Ref (constant_made memory.heap (Str text)).reference)) at field differ)

-- ---- all of them

pub with_starts_keeps : (P : Program) (class : ℕ) (memory : Memory) (starts : List StaticStart)
    → KeepsConstants memory.heap (with_starts P class memory starts).heap
with_starts_keeps P class memory [] = keeps_itself memory.heap
with_starts_keeps P class memory (start ∷ starts) = keeps_through (with_start_keeps P class memory start)
    (with_starts_keeps P class (with_start P class memory start) starts)

some_same : (one other : Option Value) → one ≡ other → IsSome other → IsSome one
some_same one other same some = subst IsSome (sym same) some

pub all_kept : (P : Program) (class : ℕ) (memory : Memory) (starts : List StaticStart)
    → AllByRecursion (IsKeptStart (with_starts P class memory starts).heap.constants) starts
all_kept P class memory [] = tt
all_kept P class memory (start ∷ starts) = (
  some_same _ _ (start_same (with_start P class memory start).heap
      (with_starts P class (with_start P class memory start) starts).heap start.value
      (with_starts_keeps P class (with_start P class memory start) starts) (start_kept P class memory start))
      (start_kept P class memory start),
  all_kept P class (with_start P class memory start) starts,
)

-- other classes keep their static fields
pub starts_leave : (P : Program) (class : ℕ) (memory : Memory) (starts : List StaticStart) (at field : ℕ) → (class == at) ≡ false
    → written_static (with_starts P class memory starts).statics at field ≡ written_static memory.statics at field
starts_leave P class memory [] at field differ = refl
starts_leave P class memory (start ∷ starts) at field differ =
    starts_leave P class (with_start P class memory start) starts at field differ
    ∙ start_leaves P class memory start at field (rw (differ) refl)

abbrev pub or_before : Option Value → Option Value → Option Value
or_before None value = value
or_before (Some later) value = Some later

-- what is written in the end is what each field is started with, or what was written before
pub starts_set : (P : Program) (class field : ℕ) (memory : Memory) (starts : List StaticStart)
    → written_static (with_starts P class memory starts).statics class field
    ≡ or_before (started P class (with_starts P class memory starts).heap.constants starts field)
    (written_static memory.statics class field)
starts_set P class field memory [] = refl
starts_set P class field memory (start ∷ starts) =
    starts_set P class field (with_start P class memory start) starts
    ∙ by (started P class (with_starts P class (with_start P class memory start) starts).heap.constants starts field) refl
    (start.field == field) refl where
      final : Memory
      final = with_starts P class (with_start P class memory start) starts

      value_same : start_in final.heap.constants start.value ≡ start_in (with_start P class memory start).heap.constants start.value
      value_same = start_same (with_start P class memory start).heap final.heap start.value
          (with_starts_keeps P class (with_start P class memory start) starts) (start_kept P class memory start)

      here : (start.field == field) ≡ true
          → written_static (with_start P class memory start).statics class field
          ≡ option_map (narrowed (type_of (field_desc P class start.field))) (start_in final.heap.constants start.value)
      here e = ap (λ (n : ℕ). written_static (with_start P class memory start).statics class n) (sym (eqb-true start.field field e))
          ∙ start_set P class memory start
          ∙ ap (option_map (narrowed (type_of (field_desc P class start.field)))) (sym value_same)

      by : (later : Option Value) → started P class final.heap.constants starts field ≡ later → (b : Bool) → (start.field == field) ≡ b
          → or_before (started P class final.heap.constants starts field)
          (written_static (with_start P class memory start).statics class field)
          ≡ or_before (started P class final.heap.constants (start ∷ starts) field) (written_static memory.statics class field)
      by (Some value) is b e = rw (is) refl
      by None is true e = rw (is, e) (here e
          ∙ some_before (option_map (narrowed (type_of (field_desc P class start.field))) (start_in final.heap.constants start.value))
          (all_kept P class memory (start ∷ starts)).0) where
            some_before : (found : Option Value) → IsSome (start_in final.heap.constants start.value)
                → option_map (narrowed (type_of (field_desc P class start.field))) (start_in final.heap.constants start.value)
                ≡ or_before (option_map (narrowed (type_of (field_desc P class start.field))) (start_in final.heap.constants start.value))
                (written_static memory.statics class field)
            some_before found some = go (start_in final.heap.constants start.value) some where
              go : (v : Option Value) → IsSome v
                  → option_map (narrowed (type_of (field_desc P class start.field))) v
                  ≡ or_before (option_map (narrowed (type_of (field_desc P class start.field))) v) (written_static memory.statics class field)
              go None some = absurd (Rattle.std.proofs.lemmas.Bool.false≢true some)
              go (Some v) some = refl
      by None is false e = rw (is, e) (start_leaves P class memory start class field (rw (e, eq-eqb class class refl) refl))
