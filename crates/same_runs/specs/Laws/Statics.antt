-- Static fields of two runs stay the same where heaps grow.
use Rattle.std.proofs.Common.{◌≡◌, ℕ, List, [], ◌∷◌, Option, Some, None, option_map, IsSome, refl, sym, ap, subst, ◌∙◌}
use Rattle.std.specs.List.{AllByRecursion}
use Rattle.std.proofs.lemmas.Bool.{false≢true}
use Rattle.machine_values.specs.Heaps.{Heap, Kept, kept_in, constant_made}
use Rattle.machine_values.specs.declared.object.Constant.{Constant}
use Rattle.machine_values.specs.declared.object.Constant.TheVariants.{Str}
use Rattle.machine_values.specs.declared.value.Value.TheVariants as values
use Rattle.member_link.specs.Machine.Beginnings.{starts_of}
use Rattle.member_link.specs.Machine.Programs.{Program, StartValue, StaticStart, start_string, start_value}
use Rattle.member_link.specs.Machine.Worlds.{Memory, with_heap}
use Rattle.same_runs.specs.Renamings.{Names, NamesMore}
use Rattle.same_runs.specs.SameMemories.{Apart, IsAsBegun, IsKeptStart, SameHeaps, SameMemories, SameStatics, start_in, started}
use Rattle.same_runs.specs.Laws.Constants.{kept_by_made}
use Rattle.same_runs.specs.Laws.Names.{value_more}

-- ---- constants that are kept

pub record KeepsConstants (before after : Heap) : Type 0 where
  pub keeps : (constant : Constant) (reference : ℕ)
      → kept_in before.constants constant ≡ Some reference
      → kept_in after.constants constant ≡ Some reference

pub keeps_all : (before after : Heap) → after.constants ≡ before.constants → KeepsConstants before after
keeps_all before after same = record { keeps = λ constant reference is. ap (λ (kept : List Kept). kept_in kept constant) same ∙ is }

pub keeps_made : (heap : Heap) (constant : Constant) → KeepsConstants heap (constant_made heap constant).heap
keeps_made heap constant = record { keeps = kept_by_made heap constant }

-- ---- what a class was begun with

pub start_same : (before after : Heap) (value : StartValue) → KeepsConstants before after → IsSome (start_in before.constants value)
    → start_in after.constants value ≡ start_in before.constants value
start_same before after (start_value value) keeps some = refl
start_same before after (start_string text) keeps some = by (kept_in before.constants (Str text)) refl some where
  by : (found : Option ℕ) → kept_in before.constants (Str text) ≡ found → IsSome (option_map values.Ref found)
      → option_map values.Ref (kept_in after.constants (Str text)) ≡ option_map values.Ref (kept_in before.constants (Str text))
  by None is some = absurd (false≢true some)
  by (Some reference) is some = rw (is, keeps.keeps (Str text) reference is) refl

pub kept_still : (before after : Heap) (starts : List StaticStart) → KeepsConstants before after
    → AllByRecursion (IsKeptStart before.constants) starts → AllByRecursion (IsKeptStart after.constants) starts
kept_still before after [] keeps all = tt
kept_still before after (start ∷ starts) keeps all =
    (subst IsSome (sym (start_same before after start.value keeps all.0)) all.0, kept_still before after starts keeps all.1)

pub started_same : (P : Program) (class field : ℕ) (before after : Heap) (starts : List StaticStart) → KeepsConstants before after
    → AllByRecursion (IsKeptStart before.constants) starts
    → started P class after.constants starts field ≡ started P class before.constants starts field
started_same P class field before after [] keeps all = refl
started_same P class field before after (start ∷ starts) keeps all =
    rw (start_same before after start.value keeps all.0, started_same P class field before after starts keeps all.1) refl

pub as_begun_still : (P : Program) (class : ℕ) (memory : Memory) (heap : Heap) → KeepsConstants memory.heap heap
    → IsAsBegun P memory class → IsAsBegun P (with_heap memory heap) class
as_begun_still P class memory heap keeps as_begun = record {
  kept = kept_still memory.heap heap (starts_of P class) keeps as_begun.kept;
  statics = λ field. as_begun.statics field ∙ sym (started_same P class field memory.heap heap (starts_of P class) keeps as_begun.kept);
}

-- ---- static fields

pub statics_still :
    {P : Program} {names more : Names} {now : List ℕ} {one other : Memory} {heap also : Heap}
    → NamesMore names more
    → KeepsConstants one.heap heap
    → SameStatics P names now one other
    → SameStatics P more now (with_heap one heap) (with_heap other also)
statics_still {P = P} {one = one} {heap = heap} grows keeps same = record {
  begun = same.begun;
  values = λ class field is. value_more grows (same.values class field is);
  alone = λ class is none.
      let alone = same.alone class is none in
      record { inert = alone.inert; as_begun = as_begun_still P class one heap keeps alone.as_begun; first = alone.first };
  unwritten = same.unwritten;
  unwritten_also = same.unwritten_also;
}

-- the same memories, with other heaps
pub memories_still :
    {P : Program} {Allocated Entered : ℕ → ℕ → Type 0} {apart : Apart} {names more : Names} {now : List ℕ} {one other : Memory} {heap also : Heap}
    → NamesMore names more
    → KeepsConstants one.heap heap
    → SameHeaps apart more heap also
    → SameMemories P Allocated Entered apart names now one other
    → SameMemories P Allocated Entered apart more now (with_heap one heap) (with_heap other also)
memories_still grows keeps heaps same = record {
  heaps = heaps;
  statics = statics_still grows keeps same.statics;
  allocations = same.allocations;
  entries = same.entries;
}

-- counts do not matter to static fields
pub statics_counted :
    {P : Program} {names : Names} {now : List ℕ} {one other : Memory}
    → (allocations also entries entries_also : ℕ)
    → SameStatics P names now one other
    → SameStatics P names now (record one { allocations = allocations; entries = entries })
    (record other { allocations = also; entries = entries_also })
statics_counted {P = P} {one = one} allocations also entries entries_also same = record {
  begun = same.begun;
  values = same.values;
  alone = λ class is none.
      let alone = same.alone class is none in
      record {
        inert = alone.inert;
        as_begun = record { kept = alone.as_begun.kept; statics = alone.as_begun.statics };
        first = alone.first;
      };
  unwritten = same.unwritten;
  unwritten_also = same.unwritten_also;
}

-- the same memories, with counts that compare
pub memories_counted :
    {P : Program} {Allocated Entered : ℕ → ℕ → Type 0} {apart : Apart} {names : Names} {now : List ℕ} {one other : Memory}
    → (allocations also entries entries_also : ℕ)
    → Allocated allocations also
    → Entered entries entries_also
    → SameMemories P Allocated Entered apart names now one other
    → SameMemories P Allocated Entered apart names now (record one { allocations = allocations; entries = entries })
    (record other { allocations = also; entries = entries_also })
memories_counted allocations also entries entries_also allocated entered same = record {
  heaps = same.heaps;
  statics = statics_counted allocations also entries entries_also same.statics;
  allocations = allocated;
  entries = entered;
}
