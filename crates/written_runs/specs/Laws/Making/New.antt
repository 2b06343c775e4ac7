-- A new object of the second run: its class is begun first, quietly, where the first run has begun it alone.
use Rattle.std.proofs.Common.{◌≡◌, ◌+◌, ℕ, Bool, true, false, List, [], ◌∷◌, length, Some, IsTrue, refl, arith}
use Rattle.std.proofs.lemmas.Bool.{le-leb}
use Rattle.class_tree.specs.Headers.{Name}
use Rattle.machine_values.specs.declared.frame.RunFrame.TheVariants.{Method}
use Rattle.machine_values.specs.declared.value.Value.{Value}
use Rattle.machine_values.specs.declared.value.Value.TheVariants.{Ref}
use Rattle.making_code.specs.Items.{WInstr, makes}
use Rattle.member_link.specs.Machine.ObjectSteps.{blank_object}
use Rattle.member_link.specs.Machine.Programs.{folder_number}
use Rattle.member_link.specs.Machine.Worlds.{Memory, is_begun}
use Rattle.plan_flow.specs.Written.WrittenPrograms.{WrittenMethod}
use Rattle.same_runs.specs.Laws.Names.{names_themselves}
use Rattle.same_runs.specs.Laws.QuietBeginnings.{BeginAlike, GoesBy, operation_goes_by, quietly_then}
use Rattle.same_runs.specs.Laws.QuietCalls.{quiet_gives}
use Rattle.same_runs.specs.Laws.Stored.{Units}
use Rattle.same_runs.specs.Renamings.{Names, NamesMore}
use Rattle.same_runs.specs.SameMemories.{Apart, SameMemories}
use Rattle.same_runs.specs.SamePrograms.{SamePrograms}
use Rattle.same_runs.specs.Simulations.{Quietly}
use Rattle.written_runs.specs.Inner.MadeObjects.{StandAt}
use Rattle.written_runs.specs.Inner.Setup.{Setup, first, second}
use Rattle.written_runs.specs.Laws.Making.Steps.{Doing, Done, at_point, frame_of, point_for, run_at}

-- memory with a new object of a class that is begun
abbrev pub with_new : Setup → Memory → ℕ → Memory
with_new u begun number =
    record begun { heap = (blank_object (second u) begun.heap number).heap; allocations = begun.allocations + 1 }

module _ {u : Setup} {w : WrittenMethod} (d : Doing u w) where
  -- behind a new: perhaps more classes are begun before the object is made
  pub record NewMade (Allocated Entered : ℕ → ℕ → Type 0) (apart : Apart) (names : Names) (one memory : Memory) (class : Name) (number : ℕ)
      (place steps : ℕ) (locals : Units) (stack : List Value)
      : Type 0 where
    pub begun : Memory
    pub more : Names
    pub grows : NamesMore names more
    pub memories : SameMemories (first u) Allocated Entered apart more [] one begun
    pub done : Done d (makes class ∷ []) place steps memory (with_new u begun number) locals locals stack
        (Ref (length begun.heap.objects) ∷ stack)

  module _ {class : Name} {number place : ℕ} {instrs : List WInstr} (is_number : folder_number (second u) class ≡ Some number)
      (stand : StandAt u w place (makes class ∷ instrs)) (locals : Units) (stack : List Value) where
    -- where the class is begun
    gives_new : (memory : Memory) (steps : ℕ) → IsTrue (is_begun memory number)
        → Quietly (second u) (run_at d place memory locals stack steps)
        (run_at d (place + 1) (with_new u memory number) locals (Ref (length memory.heap.objects) ∷ stack) (steps + 1))
    gives_new memory steps is =
        quiet_gives d.run (frame_of d place locals stack) memory (with_new u memory number) steps (point_for d place (makes class))
        (Ref (length memory.heap.objects) ∷ []) d.goes (at_point d stand) tt (le-leb 0 (length stack) (omega arith))
        (rw (is_number, is) refl)

    pub new_made : {Allocated Entered : ℕ → ℕ → Type 0} {apart : Apart} {names : Names} {one memory : Memory} (steps : ℕ)
        → SamePrograms (first u) (second u)
        → BeginAlike (first u) (second u)
        → IsTrue (is_begun one number)
        → SameMemories (first u) Allocated Entered apart names [] one memory
        → NewMade Allocated Entered apart names one memory class number place steps locals stack
    new_made {Allocated = Allocated} {Entered = Entered} {apart = apart} {names = names} {one = one} {memory = memory} steps same alike begun_one
        memories = by (is_begun memory number) refl where
          by : (b : Bool) → is_begun memory number ≡ b
              → NewMade Allocated Entered apart names one memory class number place steps locals stack
          by true is = record {
            begun = memory;
            more = names;
            grows = names_themselves names;
            memories = memories;
            done = record { then_steps = steps + 1; quietly = gives_new memory steps is };
          }
          by false is = record {
            begun = gone.0.after;
            more = gone.0.more;
            grows = gone.0.grows;
            memories = gone.0.memories;
            done = record {
              then_steps = gone.0.steps + 1;
              quietly = quietly_then gone.0.quietly (gives_new gone.0.after gone.0.steps gone.1);
            };
          } where
            gone : (goes_by : GoesBy (first u) (second u) Allocated Entered apart names one (run_at d place memory locals stack steps)
                (run_at d place memory locals stack steps) (Method (frame_of d place locals stack) ∷ d.others) memory)
                × IsTrue (is_begun goes_by.after number)
            gone =
                operation_goes_by {P = first u} {Q = second u} {r = run_at d place memory locals stack steps} (frame_of d place locals stack) d.others
                (point_for d place (makes class)) number same alike d.goes refl (at_point d stand) (λ world. refl)
                (le-leb 0 (length stack) (omega arith)) (rw (is_number, is) refl) begun_one is memories
