-- The monitor of a new object is entered as often as that of the virtual one.
use Rattle.std.proofs.Common.{◌≡◌, ◌+◌, ℕ, zero, suc, List, [], ◌∷◌, Some, refl, ap, ◌∙◌, arith}
use Rattle.class_model.specs.declared.descriptor.Kind.TheVariants as kinds
use Rattle.class_model.specs.declared.instr.Instr.TheVariants.{Enter}
use Rattle.machine_values.specs.Heaps.{Heap, entered, object_at, with_monitor}
use Rattle.machine_values.specs.declared.object.Object.{Object}
use Rattle.machine_values.specs.declared.value.Value.{Value}
use Rattle.machine_values.specs.declared.value.Value.TheVariants.{Ref}
use Rattle.making_code.specs.Items.{load, plain}
use Rattle.making_code.specs.MakeCode.{enters}
use Rattle.making_code.specs.Units.{object_unit, unit_number}
use Rattle.member_link.specs.Machine.ObjectSteps.{with_entered}
use Rattle.member_link.specs.Machine.Programs.{Program}
use Rattle.member_link.specs.Machine.Worlds.{Memory}
use Rattle.plan_flow.specs.Written.WrittenPrograms.{WrittenMethod}
use Rattle.same_runs.specs.Laws.Apart.{IsNoName, second_enters}
use Rattle.same_runs.specs.Laws.Heaps.{monitor_there}
use Rattle.same_runs.specs.Laws.Names.{value_more}
use Rattle.same_runs.specs.Laws.Objects.{set_here}
use Rattle.same_runs.specs.Laws.Stored.{Has, Units}
use Rattle.same_runs.specs.Renamings.{Names, NamesMore}
use Rattle.same_runs.specs.SameMemories.{Apart, SameHeaps, SameStatics}
use Rattle.written_runs.specs.Inner.MadeObjects.{StandAt}
use Rattle.written_runs.specs.Inner.Setup.{Setup}
use Rattle.written_runs.specs.Laws.Making.Steps.{Doing, Done, done_none, done_then, enters_one, loads_unit, stand_behind}

-- another heap and other counts of the second leave what is said of static fields
pub statics_second : {P : Program} {names more : Names} {now : List ℕ} {one other : Memory} (heap : Heap) (allocations entries : ℕ)
    → NamesMore names more
    → SameStatics P names now one other
    → SameStatics P more now one (record other { heap = heap; allocations = allocations; entries = entries })
statics_second heap allocations entries grows same = record {
  begun = same.begun;
  values = λ class field is. value_more grows (same.values class field is);
  alone = same.alone;
  unwritten = same.unwritten;
  unwritten_also = same.unwritten_also;
}

-- an object whose monitor is entered
pub entered_there : (heap : Heap) (reference : ℕ) (one : Object) → object_at heap reference ≡ Some one
    → object_at (entered heap reference) reference ≡ Some (record one { monitor = one.monitor + 1 })
entered_there heap reference one is =
    ap (λ (count : ℕ). object_at (with_monitor heap reference (count + 1)) reference) (monitor_there heap reference one is)
    ∙ there where
      there : object_at (with_monitor heap reference (one.monitor + 1)) reference ≡ Some (record one { monitor = one.monitor + 1 })
      there = rw (is) (set_here heap.objects reference one (record one { monitor = one.monitor + 1 }) is)

-- memory behind so many entries
abbrev pub entered_times : ℕ → Memory → ℕ → Memory
entered_times zero memory reference = memory
entered_times (suc count) memory reference = entered_times count (with_entered memory reference) reference

-- What is there behind them: the second heap alone has changed, in an object without a name.
pub record IsEntered (P : Program) (apart : Apart) (names : Names) (one : Memory) (object : Object) (reference count allocations entries : ℕ)
    (later : Memory)
    : Type 0 where
  pub heaps : SameHeaps apart names one.heap later.heap
  pub statics : SameStatics P names [] one later
  pub there : object_at later.heap reference ≡ Some (record object { monitor = object.monitor + count })
  pub allocated : later.allocations ≡ allocations
  pub counted : later.entries ≡ entries + count

entered_once : {P : Program} {apart : Apart} {names : Names} {one : Memory} (count : ℕ) (memory : Memory) (object : Object) (reference : ℕ)
    {later : Memory}
    → IsEntered P apart names one (record object { monitor = object.monitor + 1 }) reference count memory.allocations (memory.entries + 1) later
    → IsEntered P apart names one object reference (suc count) memory.allocations memory.entries later
entered_once count memory object reference rest = record {
  heaps = rest.heaps;
  statics = rest.statics;
  there =
      let more : object.monitor + 1 + count ≡ object.monitor + suc count = omega arith in
      rest.there ∙ ap (λ (n : ℕ). Some (record object { monitor = n })) more;
  allocated = rest.allocated;
  counted = let c = rest.counted in omega (arith, c);
}

pub is_entered : {P : Program} {apart : Apart} {names : Names} {one : Memory} (count : ℕ) (memory : Memory) (object : Object) (reference : ℕ)
    → IsNoName names reference
    → SameHeaps apart names one.heap memory.heap
    → SameStatics P names [] one memory
    → object_at memory.heap reference ≡ Some object
    → IsEntered P apart names one object reference count memory.allocations memory.entries (entered_times count memory reference)
is_entered zero memory object reference no_name heaps statics there = record {
  heaps = heaps;
  statics = statics;
  there =
      let none : object.monitor ≡ object.monitor + 0 = omega arith in
      there ∙ ap (λ (n : ℕ). Some (record object { monitor = n })) none;
  allocated = refl;
  counted = omega arith;
}
is_entered (suc count) memory object reference no_name heaps statics there =
    entered_once count memory object reference
    (is_entered count (with_entered memory reference) (record object { monitor = object.monitor + 1 }) reference no_name
    (second_enters heaps reference object no_name there)
    (statics_second (entered memory.heap reference) memory.allocations (memory.entries + 1) (record { keeps = λ r n is. is }) statics)
    (entered_there memory.heap reference object there))

module _ {u : Setup} {w : WrittenMethod} (d : Doing u w) (site : ℕ) (units : Units) (reference : ℕ)
    (held : Has units (unit_number w.flat (object_unit site)) (Ref reference)) where
  pub enters_all : (count place steps : ℕ) (memory : Memory) (stack : List Value) (object : Object)
      → object_at memory.heap reference ≡ Some object
      → StandAt u w place (enters site count)
      → Done d (enters site count) place steps memory (entered_times count memory reference) units units stack stack
  enters_all zero place steps memory stack object there stand = done_none d place steps memory units stack
  enters_all (suc count) place steps memory stack object there stand =
      done_then d first (done_then d second
      (enters_all count (place + 1 + 1) second.then_steps (with_entered memory reference) stack (record object { monitor = object.monitor + 1 })
      (entered_there memory.heap reference object there)
      (stand_behind (plain Enter ∷ []) (enters site count) stand_then))) where
        first : Done d (load kinds.Ref (object_unit site) ∷ []) place steps memory memory units units stack (Ref reference ∷ stack)
        first = loads_unit d kinds.Ref (object_unit site) steps memory units stack (Ref reference) stand held refl

        stand_then : StandAt u w (place + 1) (plain Enter ∷ enters site count)
        stand_then = stand_behind (load kinds.Ref (object_unit site) ∷ []) (plain Enter ∷ enters site count) stand

        second : Done d (plain Enter ∷ []) (place + 1) first.then_steps memory (with_entered memory reference) units units
            (Ref reference ∷ stack) stack
        second = enters_one d first.then_steps memory units stack reference object stand_then there
