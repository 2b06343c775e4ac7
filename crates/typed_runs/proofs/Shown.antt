use Rattle.std.specs.Prelude.{◌≡◌, refl, ℕ, List, [], ◌∷◌, ◌++◌, Option, Some, None}
use Rattle.std.specs.List.{AllByRecursion}
use Rattle.machine_values.specs.Heaps.{Heap}
use Rattle.machine_values.specs.declared.event.EventKind.{EventKind}
use Rattle.machine_values.specs.declared.value.Value.{Value}
use Rattle.machine_values.specs.declared.value.Value.TheVariants as values
use Rattle.member_link.specs.Machine.Completions.{Asked, asks_call, asks_dynamic, asks_get, asks_put, asks_float}
use Rattle.member_link.specs.Machine.Programs.{Program}
use Rattle.member_link.specs.Machine.Showing.{Numbered, numbered_reference, numbered, numbered_all, numbered_option, known_number, asked_kind, showing}
use Rattle.member_link.specs.Machine.Worlds.{World}
use Rattle.typed_runs.specs.Conforming.{IsInHeap, IsValueInHeap}
use Rattle.typed_runs.specs.TypedPrograms.{Typings}
use Rattle.typed_runs.specs.TypedWorlds.{TypedWorld}

pub one_more : (Q : ℕ → Type 0) (xs : List ℕ) (x : ℕ) → AllByRecursion Q xs → Q x → AllByRecursion Q (xs ++ x ∷ [])
one_more Q [] x all is = (is, tt)
one_more Q (y ∷ xs) x all is = (all.0, one_more Q xs x all.1 is)

pub reference_known : (P : Program) (heap h : Heap) (known : List ℕ) (r : ℕ) → AllByRecursion (IsInHeap h) known → IsInHeap h r → AllByRecursion (IsInHeap h) (numbered_reference P heap known r).known
reference_known P heap h known r all is = by (known_number known r) refl where
  by : (n : Option ℕ) → known_number known r ≡ n → AllByRecursion (IsInHeap h) (numbered_reference P heap known r).known
  by (Some n) e = rw e all
  by None e = rw e (one_more (IsInHeap h) known r all is)

pub value_known : (P : Program) (heap h : Heap) (known : List ℕ) (v : Value) → AllByRecursion (IsInHeap h) known → IsValueInHeap h v → AllByRecursion (IsInHeap h) (numbered P heap known v).known
value_known P heap h known (values.Ref r) all is = reference_known P heap h known r all is
value_known P heap h known (values.Int n) all is = all
value_known P heap h known (values.Long n) all is = all
value_known P heap h known (values.Float n) all is = all
value_known P heap h known (values.Double n) all is = all
value_known P heap h known values.Null all is = all

pub values_known : (P : Program) (heap h : Heap) (known : List ℕ) (vs : List Value) → AllByRecursion (IsInHeap h) known → AllByRecursion (IsValueInHeap h) vs → AllByRecursion (IsInHeap h) (numbered_all P heap known vs).known
values_known P heap h known [] all is = all
values_known P heap h known (v ∷ vs) all is = values_known P heap h (numbered P heap known v).known vs (value_known P heap h known v all is.0) is.1

abbrev pub IsOptionInHeap : Heap → Option Value → Type 0
IsOptionInHeap h None = Unit {0}
IsOptionInHeap h (Some v) = IsValueInHeap h v

pub option_known : (P : Program) (heap h : Heap) (known : List ℕ) (v : Option Value) → AllByRecursion (IsInHeap h) known → IsOptionInHeap h v → AllByRecursion (IsInHeap h) (numbered_option P heap known v).known
option_known P heap h known None all is = all
option_known P heap h known (Some v) all is = value_known P heap h known v all is

-- the values that the library is asked with are in the heap
abbrev pub AskedInHeap : Heap → Asked → Type 0
AskedInHeap h (asks_call method vs) = AllByRecursion (IsValueInHeap h) vs
AskedInHeap h (asks_dynamic class bootstrap name desc vs) = AllByRecursion (IsValueInHeap h) vs
AskedInHeap h (asks_get field receiver) = IsOptionInHeap h receiver
AskedInHeap h (asks_put field receiver value) = IsOptionInHeap h receiver × IsValueInHeap h value
AskedInHeap h (asks_float opcode vs) = AllByRecursion (IsValueInHeap h) vs

pub asked_known : (P : Program) (heap h : Heap) (known : List ℕ) (a : Asked) → AllByRecursion (IsInHeap h) known → AskedInHeap h a → AllByRecursion (IsInHeap h) (asked_kind P heap known a).known
asked_known P heap h known (asks_call method vs) all is = values_known P heap h known vs all is
asked_known P heap h known (asks_dynamic class bootstrap name desc vs) all is = values_known P heap h known vs all is
asked_known P heap h known (asks_get field receiver) all is = option_known P heap h known receiver all is
asked_known P heap h known (asks_put field receiver value) all is = value_known P heap h (numbered_option P heap known receiver).known value (option_known P heap h known receiver all is.0) is.1
asked_known P heap h known (asks_float opcode vs) all is = values_known P heap h known vs all is

-- an event leaves a typed world
pub showing_stays : (P : Program) (T : Typings) (w : World) (k : Numbered EventKind) → TypedWorld P T w → AllByRecursion (IsInHeap w.memory.heap) k.known → TypedWorld P T (showing w k)
showing_stays P T w k typed known = record { program = typed.program; memory = typed.memory; frames = typed.frames; known = known }
