use Rattle.std.specs.Prelude.{◌≡◌, ◌≤◌, ◌+◌, refl, ℕ, List, [], ◌∷◌, Option, Some, None}
use Rattle.std.proofs.Common.{arith, ◌∙◌}
use Rattle.machine_values.specs.declared.event.EventKind.{EventKind}
use Rattle.machine_values.specs.declared.value.Value.{Value}
use Rattle.machine_values.specs.declared.value.Value.TheVariants as values
use Rattle.machine_laws.proofs.Grows.{shapes_through}
use Rattle.machine_laws.proofs.Rises.{Rises, rises_through, rises_more, rises_if, rises_grows, memory_same, prefix_same, prefix_added, prefix_through}
use Rattle.member_link.specs.Machine.Completions.{Asked, asks_call, asks_dynamic, asks_get, asks_put, asks_float}
use Rattle.machine_laws.specs.Growth.{IsPrefix, WorldGrows}
use Rattle.machine_values.specs.Heaps.{Heap}
use Rattle.member_link.specs.Machine.Programs.{Program}
use Rattle.member_link.specs.Machine.Showing.{Numbered, numbered_reference, numbered, numbered_all, numbered_option, asked_kind, showing, shows_asked, shows_result, shows_threw, shows_got, shows_made, shows_length}
use Rattle.member_link.specs.Machine.Worlds.{World}

-- What a part of a turn does to the world but for its steps: it enters at most so many monitors, and allocates, if a premise holds,
-- no more than so many steps may.
pub record Goes (F : Type 0) (k : ℕ) (before after : World) : Type 0 where
  pub memory : Rises F k before.memory after.memory
  pub known : IsPrefix before.known after.known
  pub events : IsPrefix before.events after.events
  pub steps : after.steps ≡ before.steps

-- it enters none and allocates nothing
abbrev pub Quiet : World → World → Type 0
Quiet before after = Goes (Unit {0}) 0 before after

pub world_same : {F : Type 0} (k : ℕ) (w : World) → Goes F k w w
world_same k w = record { memory = rises_if (memory_same k _); known = prefix_same _; events = prefix_same _; steps = refl }

pub goes_through : {F G H : Type 0} {j k : ℕ} {a b c : World} → (H → F) → (H → G) → Goes F j a b → Goes G k b c → Goes H (j + k) a c
goes_through one other p q = record {
  memory = rises_through one other p.memory q.memory;
  known = prefix_through p.known q.known;
  events = prefix_through p.events q.events;
  steps = q.steps ∙ p.steps;
}

pub goes_more : {F G : Type 0} {j : ℕ} (k : ℕ) {a b : World} → j ≤ k → (G → F) → Goes F j a b → Goes G k a b
goes_more k le from p = record { memory = rises_more k le from p.memory; known = p.known; events = p.events; steps = p.steps }

pub world_grows : {F : Type 0} {k : ℕ} {a b : World} → Goes F k a b → WorldGrows a b
world_grows p = record { memory = rises_grows p.memory; known = p.known; events = p.events; steps = omega (arith, p.steps) }

pub growth_through : {a b c : World} → WorldGrows a b → WorldGrows b c → WorldGrows a c
growth_through p q = record {
  memory = record {
    objects = shapes_through _ _ _ p.memory.objects q.memory.objects;
    constants = prefix_through p.memory.constants q.memory.constants;
    begun = prefix_through p.memory.begun q.memory.begun;
    allocations = omega (arith, p.memory.allocations, q.memory.allocations);
    entries = omega (arith, p.memory.entries, q.memory.entries);
  };
  known = prefix_through p.known q.known;
  events = prefix_through p.events q.events;
  steps = omega (arith, p.steps, q.steps);
}

-- the part of a turn that is quiet is one of any
pub more : {F : Type 0} {a b : World} → Quiet a b → Goes F 1 a b
more p = goes_more 1 (omega arith) (λ f. tt) p

pub quiet_through : {a b c : World} → Quiet a b → Quiet b c → Quiet a c
quiet_through p q = goes_through (λ u. u) (λ u. u) p q

pub then_quiet : {F : Type 0} {a b c : World} → Goes F 1 a b → Quiet b c → Goes F 1 a c
then_quiet p q = goes_through (λ f. f) (λ f. tt) p q

pub quiet_then : {F : Type 0} {a b c : World} → Quiet a b → Goes F 1 b c → Goes F 1 a c
quiet_then p q = goes_through (λ f. tt) (λ f. f) p q

pub reference_known : (P : Program) (heap : Heap) (known : List ℕ) (r : ℕ) → IsPrefix known (numbered_reference P heap known r).known
reference_known P heap known r = grind (arith, prefix_same, prefix_added)

pub value_known : (P : Program) (heap : Heap) (known : List ℕ) (v : Value) → IsPrefix known (numbered P heap known v).known
value_known P heap known (values.Ref r) = reference_known P heap known r
value_known P heap known (values.Int n) = prefix_same known
value_known P heap known (values.Long n) = prefix_same known
value_known P heap known (values.Float n) = prefix_same known
value_known P heap known (values.Double n) = prefix_same known
value_known P heap known values.Null = prefix_same known

pub all_known : (P : Program) (heap : Heap) (known : List ℕ) (vs : List Value) → IsPrefix known (numbered_all P heap known vs).known
all_known P heap known [] = prefix_same known
all_known P heap known (v ∷ vs) = prefix_through (value_known P heap known v) (all_known P heap (numbered P heap known v).known vs)

pub option_known : (P : Program) (heap : Heap) (known : List ℕ) (v : Option Value) → IsPrefix known (numbered_option P heap known v).known
option_known P heap known None = prefix_same known
option_known P heap known (Some v) = value_known P heap known v

pub asked_known : (P : Program) (heap : Heap) (known : List ℕ) (asked : Asked) → IsPrefix known (asked_kind P heap known asked).known
asked_known P heap known (asks_call method vs) = all_known P heap known vs
asked_known P heap known (asks_dynamic class bootstrap name desc vs) = all_known P heap known vs
asked_known P heap known (asks_get field receiver) = option_known P heap known receiver
asked_known P heap known (asks_put field receiver value) = prefix_through (option_known P heap known receiver) (value_known P heap _ value)
asked_known P heap known (asks_float opcode vs) = all_known P heap known vs

pub showing_grows : (w : World) (kind : Numbered EventKind) → IsPrefix w.known kind.known → Quiet w (showing w kind)
showing_grows w kind known = record { memory = memory_same 0 _; known = known; events = prefix_added _ _; steps = refl }

pub asked_grows : (P : Program) (w : World) (asked : Asked) → Quiet w (shows_asked P w asked)
asked_grows P w asked = showing_grows w _ (asked_known P w.memory.heap w.known asked)

pub result_grows : (P : Program) (w : World) (v : Option Value) → Quiet w (shows_result P w v)
result_grows P w v = showing_grows w _ (option_known P w.memory.heap w.known v)

pub threw_grows : (P : Program) (w : World) (r : ℕ) → Quiet w (shows_threw P w r)
threw_grows P w r = showing_grows w _ (reference_known P w.memory.heap w.known r)

pub got_grows : (P : Program) (w : World) (v : Value) → Quiet w (shows_got P w v)
got_grows P w v = showing_grows w _ (value_known P w.memory.heap w.known v)

pub made_grows : (P : Program) (w : World) (r : ℕ) → Quiet w (shows_made P w r)
made_grows P w r = showing_grows w _ (reference_known P w.memory.heap w.known r)

pub length_grows : (w : World) (n : ℕ) → Quiet w (shows_length w n)
length_grows w n = showing_grows w _ (prefix_same _)
