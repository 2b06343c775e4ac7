-- A step of both runs at the same operation of the frame alone, where stacks and units are the same.
use Rattle.std.proofs.Common.{◌≡◌, ◌+◌, ℕ, ℤ, Bool, true, false, List, [], Option, if◌then◌else◌, refl, ap}
use Rattle.class_model.specs.declared.descriptor.Kind.{Kind}
use Rattle.class_model.specs.declared.descriptor.Kind.TheVariants as kinds
use Rattle.machine_values.specs.Frames.{MethodState}
use Rattle.machine_values.specs.Values.{has_kind}
use Rattle.machine_values.specs.declared.frame.RunFrame.{RunFrame}
use Rattle.machine_values.specs.declared.value.Value.{Value}
use Rattle.member_link.specs.Machine.Locals.{Jump, lookup_target, stored, table_target}
use Rattle.member_link.specs.Machine.Ops.{Op}
use Rattle.member_link.specs.Machine.Programs.{Program}
use Rattle.member_link.specs.Machine.Stepping.{ends_stuck, increment_step, jump_step, load_step, next_with, op_step, shuffle_step, store_step, store_units, switch_step, test_step, with_top}
use Rattle.member_link.specs.Machine.Throwables.{null_pointer}
use Rattle.member_link.specs.Machine.Worlds.{World, going}
use Rattle.same_runs.specs.Renamings.{Names, SameUnit, no_value, has_value, SameUnits, same_int, same_long, same_float, same_double, same_null, same_reference, SameValues, no_values, and_value}
use Rattle.same_runs.specs.SameMemories.{SameMemories}
use Rattle.same_runs.specs.SameMoves.{IsMove, is_no_operation, is_load, is_store, is_increment, is_test, is_shuffle, is_jump_by_int, is_jump_by_ints, is_jump_by_references, is_jump_by_null, is_jump, is_table_switch, is_lookup_switch, MovesAlike, SameJumps, no_jump, have_jump, SameStacks, no_stack, have_stack, SameStores, no_store, have_store}
use Rattle.same_runs.specs.SamePrograms.{SamePrograms}
use Rattle.same_runs.specs.SameWorlds.{Comparison, Compares, SameAfter, both_go, both_over, SameSeen}
use Rattle.same_runs.specs.Laws.Moves.{same_jump_of_int, same_jump_of_ints, same_jump_of_null, same_jump_of_references, same_kind, same_shuffled}
use Rattle.same_runs.specs.Laws.Names.{names_themselves}
use Rattle.same_runs.specs.Laws.Performed.{raised_same}
use Rattle.same_runs.specs.Laws.Units.{same_incremented, same_local, same_stored}

module _ {P Q : Program} {c : Comparison} {names : Names} {first second : World} {f g : MethodState} {rest rest_also : List RunFrame}
    (same : SamePrograms P Q) (compares : Compares c)
    (memories : SameMemories P c.allocated c.entered c.apart names [] first.memory second.memory) (seen : SameSeen c names first second)
    (goes : first.halt ≡ going) (goes_also : second.halt ≡ going)
    (moves : MovesAlike P Q c names f g rest rest_also) where
  abbrev After : World → World → Type 0
  After one other = SameAfter P c names one other

  ends_both : After (ends_stuck first) (ends_stuck second)
  ends_both = both_over names (record { known = seen.known; events = seen.events }) (λ impossible. cc impossible) refl

  goes_at : (place place_also : ℕ) (ones others : List Value) (units units_also : List (Option Value))
      → place_also ≡ place
      → SameValues names ones others
      → SameUnits names units units_also
      → After (with_top first rest (record f { place = place; stack = ones; locals = units }))
      (with_top second rest_also (record g { place = place_also; stack = others; locals = units_also }))
  goes_at place place_also ones others units units_also at are alike =
      rw at
      (both_go names (names_themselves names) (moves.goes place ones others units units_also are alike) memories
      (record { known = seen.known; events = seen.events }) goes goes_also)

  next_place : g.place + 1 ≡ f.place + 1
  next_place = ap (λ (n : ℕ). n + 1) moves.place

  goes_next : {ones others : List Value} → SameValues names ones others
      → After (with_top first rest (next_with f ones)) (with_top second rest_also (next_with g others))
  goes_next {ones = ones} {others = others} are =
      goes_at (f.place + 1) (g.place + 1) ones others f.locals g.locals next_place are moves.units

  shuffles : {one other : Option (List Value)} → SameStacks names one other
      → After (shuffle_step first f rest one) (shuffle_step second g rest_also other)
  shuffles no_stack = ends_both
  shuffles (have_stack are) = goes_next are

  jumps : (to : ℕ) {one other : Jump} → SameJumps names one other
      → After (jump_step first f rest to one) (jump_step second g rest_also to other)
  jumps to no_jump = ends_both
  jumps to (have_jump {taken = taken} {ones = ones} {others = others} are) = by taken where
    by : (b : Bool)
        → After (with_top first rest (record f { place = if b then to else f.place + 1; stack = ones }))
        (with_top second rest_also (record g { place = if b then to else g.place + 1; stack = others }))
    by true = goes_at to to ones others f.locals g.locals refl are moves.units
    by false = goes_next are

  switches : (target : ℤ → ℕ) {ones others : List Value} → SameValues names ones others
      → After (switch_step first f rest target ones) (switch_step second g rest_also target others)
  switches target no_values = ends_both
  switches target (and_value {ones = ones} {others = others} (same_int {number = key}) are) =
      goes_at (target key) (target key) ones others f.locals g.locals refl are moves.units
  switches target (and_value same_long are) = ends_both
  switches target (and_value same_float are) = ends_both
  switches target (and_value same_double are) = ends_both
  switches target (and_value same_null are) = ends_both
  switches target (and_value (same_reference is) are) = ends_both

  loads : {one other : Option Value} → SameUnit names one other → After (load_step first f rest one) (load_step second g rest_also other)
  loads no_value = ends_both
  loads (has_value is) = goes_next (and_value is moves.same)

  stores_units : {ones others : List Value} {one other : Option (List (Option Value))} → SameValues names ones others
      → SameStores names one other
      → After (store_units first f rest ones one) (store_units second g rest_also others other)
  stores_units are no_store = ends_both
  stores_units {ones = ones} {others = others} are (have_store {ones = units} {others = units_also} alike) =
      goes_at (f.place + 1) (g.place + 1) ones others units units_also next_place are alike

  stores : (kind : Kind) (at : ℕ) {ones others : List Value} → SameValues names ones others
      → After (store_step first f rest kind at ones) (store_step second g rest_also kind at others)
  stores kind at no_values = ends_both
  stores kind at (and_value {one = value} {other = also} {ones = ones} {others = others} is are) =
      rw (same_kind kind is) (by (has_kind kind value)) where
        by : (b : Bool)
            → After (if b then store_units first f rest ones (stored at value f.locals) else ends_stuck first)
            (if b then store_units second g rest_also others (stored at also g.locals) else ends_stuck second)
        by true = stores_units are (same_stored at is moves.units)
        by false = ends_both

  increments : (at : ℕ) (by : ℤ) {one other : Option Value} → SameUnit names one other
      → After (increment_step first f rest at by one) (increment_step second g rest_also at by other)
  increments at by no_value = ends_both
  increments at by (has_value is) = stores_units moves.same (same_stored at (same_incremented by is) moves.units)

  tests : {one other : Option Value} → SameUnit names one other
      → After (test_step P first f rest one) (test_step Q second g rest_also other)
  tests no_value = ends_both
  tests (has_value same_int) = ends_both
  tests (has_value same_long) = ends_both
  tests (has_value same_float) = ends_both
  tests (has_value same_double) = ends_both
  tests (has_value same_null) = raised_same same compares null_pointer memories seen goes goes_also moves.unwinds
  tests (has_value (same_reference is)) = goes_next moves.same

  -- The same operation of the frame alone: both worlds go on in the same way, or both are stuck.
  pub moved_alike : (op : Op) → IsMove op → SameAfter P c names (op_step P first f rest op) (op_step Q second g rest_also op)
  moved_alike op is_no_operation = goes_next moves.same
  moved_alike op (is_load {kind = kind} {at = at}) = loads (same_local kind at moves.units)
  moved_alike op (is_store {kind = kind} {at = at}) = stores kind at moves.same
  moved_alike op (is_increment {at = at} {by = by}) = increments at by (same_local kinds.Int at moves.units)
  moved_alike op (is_test {at = at}) = tests (same_local kinds.Ref at moves.units)
  moved_alike op (is_shuffle {opcode = opcode}) = shuffles (same_shuffled opcode moves.same)
  moved_alike op (is_jump_by_int {opcode = opcode} {to = to}) = jumps to (same_jump_of_int opcode moves.same)
  moved_alike op (is_jump_by_ints {opcode = opcode} {to = to}) = jumps to (same_jump_of_ints opcode moves.same)
  moved_alike op (is_jump_by_references {opcode = opcode} {to = to}) =
      jumps to (same_jump_of_references memories.heaps.renaming opcode moves.same)
  moved_alike op (is_jump_by_null {opcode = opcode} {to = to}) = jumps to (same_jump_of_null opcode moves.same)
  moved_alike op (is_jump {to = to}) = goes_at to to f.stack g.stack f.locals g.locals refl moves.same moves.units
  moved_alike op (is_table_switch {low = low} {other = other} {targets = targets}) = switches (table_target low other targets) moves.same
  moved_alike op (is_lookup_switch {other = other} {pairs = pairs}) = switches (lookup_target other pairs) moves.same
