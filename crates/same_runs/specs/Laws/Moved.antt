-- A step of both runs at an operation of the frame alone, which is moved in the second.
use Rattle.std.proofs.Common.{◌≡◌, ◌≢◌, ◌+◌, ◌≤◌, ℕ, ℤ, Bool, true, false, List, [], ◌∷◌, ◌++◌, map, slice_get, Option, Some, None, if◌then◌else◌, refl, sym, ap, ◌∙◌, arith}
use Rattle.std.proofs.lemmas.Option.{slice_get_within}
use Rattle.class_model.specs.declared.descriptor.Kind.{Kind}
use Rattle.class_model.specs.declared.descriptor.Kind.TheVariants as kinds
use Rattle.class_model.specs.declared.instr.Pair.{Pair}
use Rattle.machine_values.specs.Frames.{MethodState}
use Rattle.machine_values.specs.Values.{has_kind}
use Rattle.machine_values.specs.declared.frame.RunFrame.{RunFrame}
use Rattle.machine_values.specs.declared.value.Value.{Value}
use Rattle.machine_values.specs.declared.value.Value.TheVariants as values
use Rattle.member_link.specs.Machine.Locals.{Jump, incremented, jump_of_int, jump_of_ints, jump_of_null, jump_of_references, local_value, lookup_target, shuffled, stored, table_target, width_of}
use Rattle.member_link.specs.Machine.Ops.{Op}
use Rattle.member_link.specs.Machine.Programs.{Program}
use Rattle.member_link.specs.Machine.Stepping.{ends_stuck, increment_step, jump_step, load_step, next_with, op_step, shuffle_step, store_step, store_units, switch_step, test_step, with_top}
use Rattle.member_link.specs.Machine.Throwables.{null_pointer}
use Rattle.member_link.specs.Machine.Worlds.{World, going, stuck}
use Rattle.same_runs.specs.Renamings.{Names, SameValue, same_int, same_long, same_float, same_double, same_null, same_reference, SameValues, no_values, and_value}
use Rattle.same_runs.specs.SameMemories.{SameMemories}
use Rattle.same_runs.specs.SameMoves.{IsMove, is_no_operation, is_load, is_store, is_increment, is_test, is_shuffle, is_jump_by_int, is_jump_by_ints, is_jump_by_references, is_jump_by_null, is_jump, is_table_switch, is_lookup_switch, LoadFits, moved, Moves, SameJumps, no_jump, have_jump, SameStacks, no_stack, have_stack, KeepsOutside, ShiftedUnits}
use Rattle.same_runs.specs.SamePrograms.{SameOp, same_op, SamePrograms}
use Rattle.same_runs.specs.SameWorlds.{Comparison, Compares, SameAfter, both_go, SameSeen}
use Rattle.same_runs.specs.Laws.LongerStacks.{jump_over, jump_of_int_over, jump_of_ints_over, jump_of_null_over, jump_of_references_over, shuffled_over}
use Rattle.same_runs.specs.Laws.Moves.{renumbered_lookup, renumbered_table, same_jump_of_int, same_jump_of_ints, same_jump_of_null, same_jump_of_references, same_kind, same_shuffled, same_width}
use Rattle.same_runs.specs.Laws.Names.{names_themselves}
use Rattle.same_runs.specs.Laws.Performed.{raised_same}
use Rattle.same_runs.specs.Laws.ShiftedUnits.{local_is, outside_itself, shifted_local, shifted_stored, stored_outside}
use Rattle.same_runs.specs.Laws.Stored.{stored_is}
use Rattle.same_runs.specs.Laws.Units.{same_incremented}

int_width : (value : Value) → has_kind kinds.Int value ≡ true → width_of value ≡ 1
int_width (values.Int number) is = refl
int_width (values.Long number) is = cc is
int_width (values.Float bits) is = refl
int_width (values.Double bits) is = cc is
int_width values.Null is = refl
int_width (values.Ref reference) is = refl

reference_width : (value : Value) → has_kind kinds.Ref value ≡ true → width_of value ≡ 1
reference_width (values.Int number) is = refl
reference_width (values.Long number) is = cc is
reference_width (values.Float bits) is = refl
reference_width (values.Double bits) is = cc is
reference_width values.Null is = refl
reference_width (values.Ref reference) is = refl

-- what is the same in the second as an operation of the frame alone that is moved
pub moved_is : {P Q : Program} (base : ℕ) (start : ℕ → ℕ) {op also : Op} → IsMove op → SameOp P Q (moved base start op) also
    → also ≡ moved base start op
moved_is base start is_no_operation (same_op both) = refl
moved_is base start is_load (same_op both) = refl
moved_is base start is_store (same_op both) = refl
moved_is base start is_increment (same_op both) = refl
moved_is base start is_test (same_op both) = refl
moved_is base start is_shuffle (same_op both) = refl
moved_is base start is_jump_by_int (same_op both) = refl
moved_is base start is_jump_by_ints (same_op both) = refl
moved_is base start is_jump_by_references (same_op both) = refl
moved_is base start is_jump_by_null (same_op both) = refl
moved_is base start is_jump (same_op both) = refl
moved_is base start is_table_switch (same_op both) = refl
moved_is base start is_lookup_switch (same_op both) = refl

module _ {P Q : Program} {c : Comparison} {names : Names} {first second : World} {base size : ℕ} {start : ℕ → ℕ} {below : List Value}
    {f g : MethodState} {rest rest_also : List RunFrame}
    (same : SamePrograms P Q) (compares : Compares c)
    (memories : SameMemories P c.allocated c.entered c.apart names [] first.memory second.memory) (seen : SameSeen c names first second)
    (goes : first.halt ≡ going) (goes_also : second.halt ≡ going)
    (moves : Moves P Q c names base size start below f g rest rest_also) where
  abbrev After : World → World → Type 0
  After one other = SameAfter P c names one other

  -- both go on at a place, with these stacks and units
  goes_at : (place place_also : ℕ) (ones others : List Value) (units units_also : List (Option Value))
      → place_also ≡ start place
      → SameValues names ones others
      → ShiftedUnits names base size units units_also
      → KeepsOutside base size g.locals units_also
      → After (with_top first rest (record f { place = place; stack = ones; locals = units }))
      (with_top second rest_also (record g { place = place_also; stack = others ++ below; locals = units_also }))
  goes_at place place_also ones others units units_also at are shifted outside =
      rw at
      (both_go names (names_themselves names) (moves.goes place ones others units units_also are shifted outside) memories
      (record { known = seen.known; events = seen.events }) goes goes_also)

  -- the units stay as they are
  same_units : KeepsOutside base size g.locals g.locals
  same_units = outside_itself base size g.locals

  next_place : g.place + 1 ≡ start (f.place + 1)
  next_place = ap (λ (n : ℕ). n + 1) moves.place ∙ sym moves.next

  -- nothing but the place changes
  goes_next : After (with_top first rest (next_with f f.stack)) (with_top second rest_also (next_with g g.stack))
  goes_next =
      rw moves.stack (goes_at (f.place + 1) (g.place + 1) f.stack moves.top f.locals g.locals next_place moves.same moves.units same_units)

  shuffles : (opcode : ℕ) → (shuffle_step first f rest (shuffled opcode f.stack)).halt ≢ stuck
      → After (shuffle_step first f rest (shuffled opcode f.stack)) (shuffle_step second g rest_also (shuffled opcode g.stack))
  shuffles opcode goes_on =
      rw moves.stack (by (shuffled opcode f.stack) (shuffled opcode moves.top) refl goes_on (same_shuffled opcode moves.same)) where
        by : (one other : Option (List Value)) → shuffled opcode moves.top ≡ other → (shuffle_step first f rest one).halt ≢ stuck
            → SameStacks names one other
            → After (shuffle_step first f rest one) (shuffle_step second g rest_also (shuffled opcode (moves.top ++ below)))
        by None None is goes_on no_stack = absurd (goes_on refl)
        by None (Some others) is goes_on none = elim none [ ]
        by (Some ones) None is goes_on none = elim none [ ]
        by (Some ones) (Some others) is goes_on (have_stack are) =
            rw (shuffled_over opcode moves.top below others is)
            (goes_at (f.place + 1) (g.place + 1) ones others f.locals g.locals next_place are moves.units same_units)

  jumps : (to : ℕ) (one other over : Jump)
      → ((jump : Bool × List Value) → other ≡ Some jump → over ≡ Some (jump_over below jump))
      → SameJumps names one other
      → (jump_step first f rest to one).halt ≢ stuck
      → After (jump_step first f rest to one) (jump_step second g rest_also (start to) over)
  jumps to one other over longer no_jump goes_on = absurd (goes_on refl)
  jumps to one other over longer (have_jump {taken = taken} {ones = ones} {others = others} are) goes_on =
      rw (longer (taken, others) refl) (by taken) where
        by : (b : Bool)
            → After (with_top first rest (record f { place = if b then to else f.place + 1; stack = ones }))
            (with_top second rest_also (record g { place = if b then start to else g.place + 1; stack = others ++ below }))
        by true = goes_at to (start to) ones others f.locals g.locals refl are moves.units same_units
        by false = goes_at (f.place + 1) (g.place + 1) ones others f.locals g.locals next_place are moves.units same_units

  switches : (target target_also : ℤ → ℕ) → ((key : ℤ) → target_also key ≡ start (target key))
      → (switch_step first f rest target f.stack).halt ≢ stuck
      → After (switch_step first f rest target f.stack) (switch_step second g rest_also target_also g.stack)
  switches target target_also renumbered goes_on = rw moves.stack (by f.stack moves.top moves.same goes_on) where
    by : (ones others : List Value) → SameValues names ones others → (switch_step first f rest target ones).halt ≢ stuck
        → After (switch_step first f rest target ones) (switch_step second g rest_also target_also (others ++ below))
    by ones others no_values goes_on = absurd (goes_on refl)
    by ones others (and_value {ones = more} {others = more_also} (same_int {number = key}) are) goes_on =
        goes_at (target key) (target_also key) more more_also f.locals g.locals (renumbered key) are moves.units same_units
    by ones others (and_value same_long are) goes_on = absurd (goes_on refl)
    by ones others (and_value same_float are) goes_on = absurd (goes_on refl)
    by ones others (and_value same_double are) goes_on = absurd (goes_on refl)
    by ones others (and_value same_null are) goes_on = absurd (goes_on refl)
    by ones others (and_value (same_reference is) are) goes_on = absurd (goes_on refl)

  -- ---- locals

  loads : (kind : Kind) (at : ℕ) → ((value : Value) → local_value kind f.locals at ≡ Some value → at + width_of value ≤ size)
      → (load_step first f rest (local_value kind f.locals at)).halt ≢ stuck
      → After (load_step first f rest (local_value kind f.locals at)) (load_step second g rest_also (local_value kind g.locals (base + at)))
  loads kind at fits goes_on = by (local_value kind f.locals at) refl goes_on where
    by : (found : Option Value) → local_value kind f.locals at ≡ found → (load_step first f rest found).halt ≢ stuck
        → After (load_step first f rest found) (load_step second g rest_also (local_value kind g.locals (base + at)))
    by None e goes_on = absurd (goes_on refl)
    by (Some value) e goes_on =
        let found = shifted_local moves.units kind at value e (fits value e) in
        rw (found.1, moves.stack)
        (goes_at (f.place + 1) (g.place + 1) (value ∷ f.stack) (found.0 ∷ moves.top) f.locals g.locals next_place
        (and_value found.2 moves.same) moves.units same_units)

  stores_units : (at : ℕ) (value also : Value) (ones others : List Value) → SameValue names value also → SameValues names ones others
      → (store_units first f rest ones (stored at value f.locals)).halt ≢ stuck
      → After (store_units first f rest ones (stored at value f.locals))
      (store_units second g rest_also (others ++ below) (stored (base + at) also g.locals))
  stores_units at value also ones others is are goes_on = by (stored at value f.locals) refl goes_on where
    by : (found : Option (List (Option Value))) → stored at value f.locals ≡ found → (store_units first f rest ones found).halt ≢ stuck
        → After (store_units first f rest ones found) (store_units second g rest_also (others ++ below) (stored (base + at) also g.locals))
    by None e goes_on = absurd (goes_on refl)
    by (Some units) e goes_on =
        let found = shifted_stored moves.units at value also units is e in
        let room = (stored_is at value f.locals units e).room in
        let count = moves.units.count in
        let wide = same_width is in
        rw (found.1)
        (goes_at (f.place + 1) (g.place + 1) ones others units found.0 next_place are found.2
        (stored_outside base size at also g.locals found.0 (omega (arith, room, count, wide)) found.1))

  stores_kind : (kind : Kind) (at : ℕ) → (store_step first f rest kind at f.stack).halt ≢ stuck
      → After (store_step first f rest kind at f.stack) (store_step second g rest_also kind (base + at) g.stack)
  stores_kind kind at goes_on = rw moves.stack (by f.stack moves.top moves.same goes_on) where
    of : (b : Bool) (value also : Value) (ones others : List Value) → SameValue names value also → SameValues names ones others
        → (if b then store_units first f rest ones (stored at value f.locals) else ends_stuck first).halt ≢ stuck
        → After (if b then store_units first f rest ones (stored at value f.locals) else ends_stuck first)
        (if b then store_units second g rest_also (others ++ below) (stored (base + at) also g.locals) else ends_stuck second)
    of true value also ones others is are goes_on = stores_units at value also ones others is are goes_on
    of false value also ones others is are goes_on = absurd (goes_on refl)

    by : (ones others : List Value) → SameValues names ones others → (store_step first f rest kind at ones).halt ≢ stuck
        → After (store_step first f rest kind at ones) (store_step second g rest_also kind (base + at) (others ++ below))
    by ones others no_values goes_on = absurd (goes_on refl)
    by ones others (and_value {one = value} {other = also} {ones = more} {others = more_also} is are) goes_on =
        rw (same_kind kind is) (of (has_kind kind value) value also more more_also is are goes_on)

  narrow_fits : (at : ℕ) (value : Value) → slice_get f.locals at ≡ Some (Some value) → width_of value ≡ 1 → at + width_of value ≤ size
  narrow_fits at value is one =
      let low = slice_get_within f.locals at (Some value) is in
      let count = moves.units.count in
      omega (arith, low, count, one)

  increments_value : (at : ℕ) (by : ℤ) (value also : Value) → SameValue names value also
      → (increment_step first f rest at by (Some value)).halt ≢ stuck
      → After (increment_step first f rest at by (Some value)) (increment_step second g rest_also (base + at) by (Some also))
  increments_value at by value also is goes_on =
      rw moves.stack
      (stores_units at (incremented by value) (incremented by also) f.stack moves.top (same_incremented by is) moves.same goes_on)

  increments : (at : ℕ) (by : ℤ) → (increment_step first f rest at by (local_value kinds.Int f.locals at)).halt ≢ stuck
      → After (increment_step first f rest at by (local_value kinds.Int f.locals at))
      (increment_step second g rest_also (base + at) by (local_value kinds.Int g.locals (base + at)))
  increments at number goes_on = by (local_value kinds.Int f.locals at) refl goes_on where
    by : (found : Option Value) → local_value kinds.Int f.locals at ≡ found → (increment_step first f rest at number found).halt ≢ stuck
        → After (increment_step first f rest at number found)
        (increment_step second g rest_also (base + at) number (local_value kinds.Int g.locals (base + at)))
    by None e goes_on = absurd (goes_on refl)
    by (Some value) e goes_on =
        let has = local_is kinds.Int at value f.locals e in
        let found = shifted_local moves.units kinds.Int at value e (narrow_fits at value has.0 (int_width value has.1)) in
        rw (found.1) (increments_value at number value found.0 found.2 goes_on)

  tests : (at : ℕ) → (test_step P first f rest (local_value kinds.Ref f.locals at)).halt ≢ stuck
      → After (test_step P first f rest (local_value kinds.Ref f.locals at))
      (test_step Q second g rest_also (local_value kinds.Ref g.locals (base + at)))
  tests at goes_on = by (local_value kinds.Ref f.locals at) refl goes_on where
    of : (value also : Value) → SameValue names value also → (test_step P first f rest (Some value)).halt ≢ stuck
        → After (test_step P first f rest (Some value)) (test_step Q second g rest_also (Some also))
    of value also same_int goes_on = absurd (goes_on refl)
    of value also same_long goes_on = absurd (goes_on refl)
    of value also same_float goes_on = absurd (goes_on refl)
    of value also same_double goes_on = absurd (goes_on refl)
    of value also same_null goes_on = raised_same same compares null_pointer memories seen goes goes_also moves.unwinds
    of value also (same_reference is) goes_on = goes_next

    by : (found : Option Value) → local_value kinds.Ref f.locals at ≡ found → (test_step P first f rest found).halt ≢ stuck
        → After (test_step P first f rest found) (test_step Q second g rest_also (local_value kinds.Ref g.locals (base + at)))
    by None e goes_on = absurd (goes_on refl)
    by (Some value) e goes_on =
        let has = local_is kinds.Ref at value f.locals e in
        let found = shifted_local moves.units kinds.Ref at value e (narrow_fits at value has.0 (reference_width value has.1)) in
        rw (found.1) (of value found.0 found.2 goes_on)

  -- An operation of the frame alone, and the same one as it is moved: both worlds go on in the same way, unless the first is stuck.
  pub moved_same : (op : Op) → IsMove op → LoadFits size f.locals op → (op_step P first f rest op).halt ≢ stuck
      → SameAfter P c names (op_step P first f rest op) (op_step Q second g rest_also (moved base start op))
  moved_same op is_no_operation fits goes_on = goes_next
  moved_same op (is_load {kind = kind} {at = at}) fits goes_on = loads kind at fits goes_on
  moved_same op (is_store {kind = kind} {at = at}) fits goes_on = stores_kind kind at goes_on
  moved_same op (is_increment {at = at} {by = by}) fits goes_on = increments at by goes_on
  moved_same op (is_test {at = at}) fits goes_on = tests at goes_on
  moved_same op (is_shuffle {opcode = opcode}) fits goes_on = shuffles opcode goes_on
  moved_same op (is_jump_by_int {opcode = opcode} {to = to}) fits goes_on =
      rw moves.stack
      (jumps to (jump_of_int opcode f.stack) (jump_of_int opcode moves.top) (jump_of_int opcode (moves.top ++ below))
      (jump_of_int_over opcode moves.top below) (same_jump_of_int opcode moves.same) goes_on)
  moved_same op (is_jump_by_ints {opcode = opcode} {to = to}) fits goes_on =
      rw moves.stack
      (jumps to (jump_of_ints opcode f.stack) (jump_of_ints opcode moves.top) (jump_of_ints opcode (moves.top ++ below))
      (jump_of_ints_over opcode moves.top below) (same_jump_of_ints opcode moves.same) goes_on)
  moved_same op (is_jump_by_references {opcode = opcode} {to = to}) fits goes_on =
      rw moves.stack
      (jumps to (jump_of_references opcode f.stack) (jump_of_references opcode moves.top) (jump_of_references opcode (moves.top ++ below))
      (jump_of_references_over opcode moves.top below) (same_jump_of_references memories.heaps.renaming opcode moves.same) goes_on)
  moved_same op (is_jump_by_null {opcode = opcode} {to = to}) fits goes_on =
      rw moves.stack
      (jumps to (jump_of_null opcode f.stack) (jump_of_null opcode moves.top) (jump_of_null opcode (moves.top ++ below))
      (jump_of_null_over opcode moves.top below) (same_jump_of_null opcode moves.same) goes_on)
  moved_same op (is_jump {to = to}) fits goes_on =
      rw moves.stack (goes_at to (start to) f.stack moves.top f.locals g.locals refl moves.same moves.units same_units)
  moved_same op (is_table_switch {low = low} {other = other} {targets = targets}) fits goes_on =
      switches (table_target low other targets) (table_target low (start other) (map start targets))
      (renumbered_table start low other targets) goes_on
  moved_same op (is_lookup_switch {other = other} {pairs = pairs}) fits goes_on =
      switches (lookup_target other pairs)
      (lookup_target (start other) (map (λ (pair : Pair). record pair { to = start pair.to }) pairs))
      (renumbered_lookup start other pairs) goes_on
