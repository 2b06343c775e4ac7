-- A turn of the first at a call that flat code replaces: its class begins in the first alone, its receiver is null in both, or its frame
-- is put on top in the first alone.
use Rattle.std.proofs.Common.{◌≡◌, ◌<◌, ◌≤◌, ◌+◌, ◌-◌, ◌++◌, ℕ, zero, suc, Bool, true, false, List, [], ◌∷◌, drop, length, map, replicate, reverse, slice_get, take, Option, Some, None, IsTrue, IsFalse, if◌then◌else◌, refl, sym, ap, subst, ◌∙◌, arith}
use Rattle.std.proofs.lemmas.Bool.{leb-true}
use Rattle.std.proofs.lemmas.Option.{slice_get_within}
use Rattle.std.proofs.lemmas.List.{append-nil, append_assoc, reverse-reverse, take-append-drop}
use Rattle.class_model.specs.declared.class_file.MethodAt.{MethodAt}
use Rattle.class_model.specs.declared.descriptor.Kind.TheVariants as kinds
use Rattle.class_model.specs.declared.frame.Frame.{Frame}
use Rattle.class_model.specs.declared.instr.Placed.{Placed}
use Rattle.expanded_code.specs.Expanded.{Argument, arguments, tests_receiver}
use Rattle.expanded_code.specs.Expansions.{Coded, Expansion}
use Rattle.expanded_runs.proofs.Runs.Entries.{GoesTo, Stores}
use Rattle.expanded_runs.proofs.Runs.EntryLaws.{fit_units, stores_quietly, units_of_arguments}
use Rattle.expanded_runs.proofs.Runs.FlatFacts.{FlatFacts}
use Rattle.expanded_runs.proofs.Runs.FlatOps.{EntryStands, OpAt, catches_in}
use Rattle.expanded_runs.proofs.Runs.OpTurns.{AtMethod, keeps_both}
use Rattle.expanded_runs.proofs.Runs.PositionLaws.{length_arguments}
use Rattle.expanded_runs.proofs.Runs.Positions.{IsReplacedAt, Standing, block_of, inner_standing, scope_of, start_of}
use Rattle.expanded_runs.proofs.Runs.ReplacedCalls.{ComesTo, FitArguments, ReplacedCall, comes_to_begin, comes_to_call, comes_to_null}
use Rattle.expanded_runs.proofs.Runs.SameStanding.{InFlat, InPlace, Inside, SameStanding, WaitsInFlat, flat_stands, in_callee, is_awaited}
use Rattle.expanded_runs.proofs.Runs.Setup.{Setup, after, before}
use Rattle.expanded_runs.proofs.Runs.StandingBegins.{typed_at_points}
use Rattle.expanded_runs.proofs.Runs.StandingCodes.{AtPoints}
use Rattle.expanded_runs.proofs.Runs.StandingMore.{in_place_more, inside_more, standing_more}
use Rattle.expanded_runs.proofs.Runs.StandingMoves.{block_up, inside_with, kept_before, own_before}
use Rattle.expanded_runs.proofs.Runs.StandingUnwinds.{ThrowsInFlat, at_below, flat_unwinds, stands_unwind}
use Rattle.expanded_runs.proofs.Runs.Standings.{Stands}
use Rattle.expanded_runs.proofs.Runs.Together.{Basis, Related, alone_keeps, turn_typed, weight}
use Rattle.flow_code.specs.FlatCode.{FlatCode}
use Rattle.machine_values.specs.Frames.{MethodState}
use Rattle.machine_values.specs.Values.{has_kind, units_of_values}
use Rattle.machine_values.specs.declared.frame.RunFrame.{RunFrame}
use Rattle.machine_values.specs.declared.frame.RunFrame.TheVariants.{Method}
use Rattle.machine_values.specs.declared.value.Value.{Value}
use Rattle.machine_values.specs.declared.value.Value.TheVariants.{Int, Long, Float, Double, Null, Ref}
use Rattle.member_link.specs.Machine.Beginnings.{begun_memory, begun_on, frame_with}
use Rattle.member_link.specs.Machine.Codes.{method_code}
use Rattle.member_link.specs.Machine.Completions.{Completion, calls, raises}
use Rattle.member_link.specs.Machine.Locals.{local_value, width_of}
use Rattle.member_link.specs.Machine.Ops.{Op, store_local, test_local}
use Rattle.member_link.specs.Machine.Performing.{called, perform, raised}
use Rattle.member_link.specs.Machine.Programs.{Point, Program, RunClass, code_at, point_at}
use Rattle.member_link.specs.Machine.Runs.{Run, turn}
use Rattle.member_link.specs.Machine.Stepping.{is_library_turn, next_with, op_step, test_step, with_top}
use Rattle.member_link.specs.Machine.Throwables.{null_pointer}
use Rattle.member_link.specs.Machine.Work.{arity, work}
use Rattle.member_link.specs.Machine.Worlds.{World, is_begun}
use Rattle.same_runs.specs.Laws.AloneTurn.{begins_fewer, operation_begins_alone}
use Rattle.same_runs.specs.Laws.BothBegin.{counted}
use Rattle.same_runs.specs.Laws.CaughtUp.{less, operands_of, turned_by_work}
use Rattle.same_runs.specs.Laws.Moves.{same_kind, same_reversed}
use Rattle.same_runs.specs.Laws.Operations.{step_works, taken_same}
use Rattle.same_runs.specs.Laws.Performed.{raised_same}
use Rattle.same_runs.specs.Laws.QuietBeginnings.{quietly_then, standing}
use Rattle.same_runs.specs.Laws.QuietMoves.{turns_quietly}
use Rattle.same_runs.specs.Laws.ShiftedUnits.{local_has, shifted_local}
use Rattle.same_runs.specs.Laws.Stored.{Has}
use Rattle.same_runs.specs.Laws.Turns.{turned_by_op}
use Rattle.same_runs.specs.Renamings.{Names, NamesMore, SameValue, SameValues, and_value, no_values, same_null, same_reference}
use Rattle.same_runs.specs.SameMemories.{IsInert, SameMemories}
use Rattle.same_runs.specs.SameMoves.{ShiftedUnits}
use Rattle.same_runs.specs.Simulations.{Keeps, at_once}
use Rattle.typed_runs.specs.TypedWorlds.{TypedWorld}

-- ---- arguments

-- values that are the same fit the same arguments
fit_same : {names : Names} (args : List Argument) {ones others : List Value} → SameValues names ones others → FitArguments args ones
    → FitArguments args others
fit_same [] no_values fit = tt
fit_same [] (and_value is rest) fit = absurd fit
fit_same (argument ∷ args) no_values fit = absurd fit
fit_same (argument ∷ args) (and_value is rest) fit = (same_kind argument.kind is ∙ fit.0, fit_same args rest fit.1)

drop_over : (count : ℕ) (ones others : List Value) {names : Names} {values : List Value} → SameValues names values ones → count ≤ length values
    → drop count (ones ++ others) ≡ drop count ones ++ others
drop_over zero ones others same low = refl
drop_over (suc count) ones others no_values low = absurd (omega (arith, low))
drop_over (suc count) ones others (and_value is rest) low = drop_over count _ others rest (omega (arith, low))

dropped_same : {names : Names} (count : ℕ) {ones others : List Value} → SameValues names ones others
    → SameValues names (drop count ones) (drop count others)
dropped_same zero same = same
dropped_same (suc count) no_values = no_values
dropped_same (suc count) (and_value is rest) = dropped_same count rest

-- a value that is the same as null, or as a reference
null_is : {names : Names} {also : Value} → SameValue names Null also → also ≡ Null
null_is same_null = refl

reference_is : {names : Names} {reference : ℕ} {also : Value} → SameValue names (Ref reference) also → (named : ℕ) × (also ≡ Ref named)
reference_is (same_reference {named = named} is) = (named, refl)

-- a reference or null is the first unit, and takes one
first_unit : (value : Value) (values : List Value) (more : List (Option Value)) → has_kind kinds.Ref value ≡ true
    → slice_get (units_of_values (value ∷ values) ++ more) 0 ≡ Some (Some value)
first_unit (Int number) values more is = absurd (cc is)
first_unit (Long number) values more is = absurd (cc is)
first_unit (Float bits) values more is = absurd (cc is)
first_unit (Double bits) values more is = absurd (cc is)
first_unit Null values more is = refl
first_unit (Ref reference) values more is = refl

reference_width : (value : Value) → has_kind kinds.Ref value ≡ true → width_of value ≡ 1
reference_width (Int number) is = absurd (cc is)
reference_width (Long number) is = absurd (cc is)
reference_width (Float bits) is = absurd (cc is)
reference_width (Double bits) is = absurd (cc is)
reference_width Null is = refl
reference_width (Ref reference) is = refl

module _ (u : Setup) (basis : Basis u) (facts : FlatFacts u) {names : Names} {one other : Run} {f g : MethodState}
    {waiting : List MethodState} {ones others : List RunFrame} {point : Point} (measure : ℕ)
    (at : AtMethod u names one other f g (map Method waiting ++ ones) others) (is : point_at (before u) f.at f.place ≡ Some point)
    (in_flat : InFlat u names f waiting g) (below : SameStanding u (is_awaited u g.at) names ones others)
    (low : weight (before u) one.world.memory [] (length in_flat.chain) ≤ measure)
    (own : in_flat.expanded.host.at ≡ g.at) {placed : Placed} {frame : Frame} {h : Coded} {inner : Expansion}
    (here : IsReplacedAt in_flat.p f.place placed frame h inner)
    (entry : EntryStands u in_flat.expanded.host in_flat.p f.place placed h)
    (call : ReplacedCall u one.world.memory f point h) (short : length in_flat.chain < 6)
    (stands_inner : Stands u.classes u.typed in_flat.expanded.host in_flat.expanded.expansion (h.at ∷ in_flat.chain)
    (inner_standing in_flat.p f.place placed frame h inner))
    (few : units_of_arguments (arguments h.scope (block_of in_flat.p f.place)) ≤ h.scope.part.max_locals) where
  abbrev P : Program
  P = before u

  abbrev Q : Program
  Q = after u

  abbrev rest : List RunFrame
  rest = map Method waiting ++ ones

  abbrev p : Standing
  p = in_flat.p

  abbrev unit : ℕ
  unit = block_of p f.place

  abbrev size : ℕ
  size = h.scope.part.max_locals

  abbrev args : List Argument
  args = arguments h.scope unit

  abbrev count : ℕ
  count = arity point.op

  abbrev operands : List Value
  operands = operands_of count f

  never_waits : IsTrue false → WaitsInFlat u in_flat.expanded.host in_flat.p f.at f.place
  never_waits never = absurd (cc never)

  abbrev frames : SameStanding u false names (Method f ∷ rest) (Method g ∷ others)
  frames = flat_stands in_flat never_waits below

  turned : turn P one ≡ record one { world = perform P (counted one) f (less count f) rest (work P one.world.memory point.op operands) }
  turned = turned_by_work P one f rest point at.both.goes at.both.stands is (step_works P f rest point.op call.works) call.enough

  enough : count ≤ length f.stack
  enough = leb-true count (length f.stack) call.enough

  typed : (w : World) → turn P one ≡ record one { world = w } → TypedWorld P u.typings w
  typed w led = (turn_typed u basis at.both.goes (ap is_library_turn at.both.stands) at.typed led).0

  -- ---- its class begins

  begins : (class : ℕ) (found : RunClass)
      → slice_get P.classes class ≡ Some found
      → IsInert P class
      → IsFalse (is_begun one.world.memory class)
      → (turn P one ≡ record one { world = begun_on P class (counted one) (Method f ∷ rest) })
      × SameMemories P (λ n m. n ≡ m) (λ n m. n ≡ m) [] names (class ∷ []) (begun_memory P class one.world.memory) other.world.memory
      → Keeps P Q (Related u) measure one other
  begins class found is_class inert none led =
      alone_keeps u basis {later = weight P (begun_memory P class one.world.memory) (class ∷ []) (length in_flat.chain)} at_once led.0
      (let fewer = begins_fewer P P class found one.world.memory is_class none in omega (arith, fewer, low))
      (record {
        names = names;
        now = class ∷ [];
        ones = Method f ∷ rest;
        stands = refl;
        others = Method g ∷ others;
        stands_also = at.both.stands_also;
        frames = frames;
        alone = (record { found = found; is = is_class; inert = inert }, tt);
        no_turn = refl;
        memories = led.1;
        seen = record { known = at.both.seen.known; events = at.both.seen.events };
        goes = at.both.goes;
        goes_also = at.both.goes_also;
        actions = at.actions;
        used = at.used;
        typed = typed (begun_on P class (counted one) (Method f ∷ rest)) led.0;
        low = omega arith;
      })

  -- ---- the second stores the arguments

  -- the arguments on the second's stack, the first one first, and what is below them
  abbrev given : List Value
  given = reverse (take count in_flat.top)

  abbrev under : List Value
  under = drop count in_flat.top ++ in_flat.below

  same_given : SameValues names operands given
  same_given = same_reversed (subst (SameValues names (take count f.stack)) taken (taken_same count [] enough in_flat.in_place.same)) where
    taken : take count (in_flat.top ++ []) ≡ take count in_flat.top
    taken = ap (take count) (append-nil in_flat.top)

  stack : g.stack ≡ reverse given ++ under
  stack =
      in_flat.stack
      ∙ ap (λ (values : List Value). values ++ in_flat.below) (sym (take-append-drop count in_flat.top))
      ∙ append_assoc (take count in_flat.top) (drop count in_flat.top) in_flat.below
      ∙ ap (λ (values : List Value). values ++ under) (sym (reverse-reverse (take count in_flat.top)))

  fit : FitArguments args given
  fit = fit_same args same_given (call.fit unit)

  on_host : (number : ℕ) (op : Op) → OpAt u in_flat.expanded.host p placed.at number op
      → point_at Q g.at number ≡ Some (record { op = op; catches = catches_in p placed.at })
  on_host number op there = subst (λ (m : MethodAt). point_at Q m number ≡ Some (record { op = op; catches = catches_in p placed.at })) own there

  stored : Stores Q other others g unit size (length args) given under
  stored =
      stores_quietly (λ i. catches_in p placed.at) h.scope unit size given under at.both.goes_also at.both.stands_also
      (λ i argument there. on_host (g.place + i) _
      (subst (λ (n : ℕ). OpAt u in_flat.expanded.host p placed.at (n + i) (store_local argument.kind argument.unit)) (sym in_flat.place)
      (entry.stores i argument there)))
      fit stack
      (let many = fit_units args given fit in omega (arith, many, few))
      (let inner_units = stands_inner.own_units in
      let all = stands_inner.all_units in
      let room = in_flat.room in
      let is_flat = ap (λ (flat : FlatCode). flat.locals) in_flat.expanded.is in
      omega (arith, inner_units, all, room, is_flat))

  -- the frame behind the stores
  abbrev behind : MethodState
  behind = record g { place = g.place + length args; stack = under; locals = stored.locals }

  abbrev waits : Run
  waits = standing other (Method behind ∷ others) other.world.memory stored.goes.steps

  -- units of the callee, and of all that wait
  block : ShiftedUnits names unit size (units_of_values operands ++ replicate (size - length (units_of_values operands)) None) stored.locals
  block = stored.units names operands same_given

  abbrev host : Coded
  host = in_flat.expanded.host

  behind_own : p.setting.unit + (scope_of p).part.max_locals ≤ unit
  behind_own =
      let mine = own_before in_flat.inside in
      let grows = block_up p.block p.expansion f.place in
      omega (arith, mine, grows)

  outer : Inside names host in_flat.expanded.expansion g.held stored.locals in_flat.chain p waiting in_flat.below
  outer = inside_with stored.outside (let before = behind_own in omega (arith, before)) in_flat.inside

  taken : InPlace names in_flat.chain p (less count f) g.held stored.locals (drop count in_flat.top)
  taken = record {
    at = in_flat.in_place.at;
    units = kept_before in_flat.in_place.units behind_own stored.outside;
    same = dropped_same count in_flat.in_place.same;
    held = in_flat.in_place.held;
  }

  -- ---- its receiver is null

  test_stands : IsTrue (tests_receiver h.scope)
      → point_at Q behind.at behind.place ≡ Some (record { op = test_local unit; catches = catches_in p placed.at })
  test_stands tests = on_host behind.place (test_local unit)
      (subst (λ (n : ℕ). OpAt u host p placed.at (n + length args) (test_local unit)) (sym in_flat.place) (entry.tests tests))

  -- what the callee's first unit holds
  first_local : (value : Value) (values : List Value) → operands ≡ value ∷ values → has_kind kinds.Ref value ≡ true
      → (also : Value) × (local_value kinds.Ref stored.locals unit ≡ Some also) × SameValue names value also
  first_local value values is_first is_reference =
      let found = shifted_local block kinds.Ref 0 value local fits in
      (found.0, ap (λ (n : ℕ). local_value kinds.Ref stored.locals n) none ∙ found.1, found.2) where
        none : unit ≡ unit + 0
        none = omega arith

        here_first : Has (units_of_values operands ++ replicate (size - length (units_of_values operands)) None) 0 value
        here_first =
            ap (λ (all : List Value). slice_get (units_of_values all ++ replicate (size - length (units_of_values operands)) None) 0) is_first
            ∙ first_unit value values (replicate (size - length (units_of_values operands)) None) is_reference

        fits : 0 + width_of value ≤ size
        fits =
            let low_count = slice_get_within (units_of_values operands ++ replicate (size - length (units_of_values operands)) None) 0 (Some value) here_first in
            let many = block.count in
            let wide = reference_width value is_reference in
            omega (arith, low_count, many, wide)

        local : local_value kinds.Ref (units_of_values operands ++ replicate (size - length (units_of_values operands)) None) 0 ≡ Some value
        local = local_has kinds.Ref 0 value (units_of_values operands ++ replicate (size - length (units_of_values operands)) None) here_first is_reference

  null_receiver : (values : List Value)
      → IsTrue (tests_receiver h.scope)
      → operands ≡ Null ∷ values
      → work P one.world.memory point.op operands ≡ raises null_pointer
      → Keeps P Q (Related u) measure one other
  null_receiver values tests is_first raising = keeps_both u basis at is measure (record {
    waits = waits;
    quietly = stored.goes.quietly;
    first = raised P (counted one) null_pointer (Method (less count f) ∷ rest);
    second = raised Q (counted waits) null_pointer (Method behind ∷ others);
    turned = turned ∙ ap (λ (completion : Completion). record one { world = perform P (counted one) f (less count f) rest completion }) raising;
    turned_also =
        turned_by_op Q waits behind others (record { op = test_local unit; catches = catches_in p placed.at }) at.both.goes_also refl (test_stands tests)
        ∙ ap (λ (found : Option Value). record waits { world = test_step Q (counted waits) behind others found }) null;
    after = raised_same basis.same basis.compares null_pointer at.both.memories
        (record { known = at.both.seen.known; events = at.both.seen.events }) at.both.goes at.both.goes_also
        (λ more grows. flat_unwinds facts basis.same (throws more grows) (standing_more grows below)
        (stands_unwind facts basis.same (standing_more grows below) ones_at));
  }) where
    found : (also : Value) × (local_value kinds.Ref stored.locals unit ≡ Some also) × SameValue names Null also
    found = first_local Null values is_first refl

    null : local_value kinds.Ref stored.locals unit ≡ Some Null
    null = found.1 ∙ ap Some (null_is found.2)

    points : AtPoints u (Method f ∷ rest)
    points = subst (AtPoints u) at.both.stands (typed_at_points u one.world at.typed)

    ones_at : AtPoints u ones
    ones_at = at_below facts basis.same waiting ones points.1

    throws : (more : Names) → NamesMore names more → ThrowsInFlat u more (less count f) waiting behind
    throws more grows = record {
      flat = in_flat.flat;
      is_flat = in_flat.is_flat;
      expanded = in_flat.expanded;
      chain = in_flat.chain;
      p = p;
      below = in_flat.below;
      inside = inside_more grows outer;
      top = drop count in_flat.top;
      in_place = in_place_more grows taken;
      room = let before = in_flat.room in let as_many = stored.outside.count in omega (arith, before, as_many);
      placed = placed;
      is_placed = here.is;
      catches = rw (test_stands tests) refl;
    }

  -- ---- its frame is put on top

  abbrev inner_p : Standing
  inner_p = inner_standing p f.place placed frame h inner

  -- the frame of the second at the callee's first instruction
  abbrev inside : MethodState
  inside = record g { place = start_of inner_p 0; stack = under; locals = stored.locals }

  goes_inside : ((tested : IsTrue (tests_receiver h.scope)) → (reference : ℕ) × (values : List Value) × (operands ≡ Ref reference ∷ values))
      → GoesTo Q other others inside
  goes_inside receiver = by (tests_receiver h.scope) refl where
    same_count : length args ≡ length (arguments h.scope 0)
    same_count = length_arguments h.scope unit

    by : (tests : Bool) → tests_receiver h.scope ≡ tests → GoesTo Q other others inside
    by false none = subst (λ (place : ℕ). GoesTo Q other others (record g { place = place; stack = under; locals = stored.locals })) there stored.goes where
      there : g.place + length args ≡ start_of inner_p 0
      there =
          let nothing : (let n : ℕ = (if tests_receiver h.scope then 1 else 0) in n) ≡ 0 = rw (none) refl in
          let same_place = in_flat.place in
          let as_many = same_count in
          omega (arith, nothing, same_place, as_many)
    by true tests =
        subst (λ (place : ℕ). GoesTo Q other others (record g { place = place; stack = under; locals = stored.locals })) there
        (record {
          steps = stored.goes.steps + 1;
          quietly = quietly_then stored.goes.quietly
              (turns_quietly other behind (next_with behind behind.stack) stored.goes.steps
              (record { op = test_local unit; catches = catches_in p placed.at }) at.both.goes_also (test_stands tests) passes);
        }) where
          given_one : (reference : ℕ) × (values : List Value) × (operands ≡ Ref reference ∷ values)
          given_one = receiver tests

          found : (also : Value) × (local_value kinds.Ref stored.locals unit ≡ Some also) × SameValue names (Ref given_one.0) also
          found = first_local (Ref given_one.0) given_one.1 given_one.2 refl

          passes : (w : World) → w.memory ≡ other.world.memory
              → op_step Q w behind others (test_local unit) ≡ with_top w others (next_with behind behind.stack)
          passes w same =
              let named = reference_is found.2 in
              ap (λ (local : Option Value). test_step Q w behind others local) (found.1 ∙ ap Some named.1)

          there : g.place + length args + 1 ≡ start_of inner_p 0
          there =
              let one_more : (let n : ℕ = (if tests_receiver h.scope then 1 else 0) in n) ≡ 1 = rw (tests) refl in
              let same_place = in_flat.place in
              let as_many = same_count in
              omega (arith, one_more, same_place, as_many)

  -- the callee's frame in the first
  abbrev entered : MethodState
  entered = record {
    at = h.at;
    place = 0;
    locals = units_of_values operands ++ replicate (size - length (units_of_values operands)) None;
    stack = [];
    held = None;
  }

  frame_is : frame_with P h.at (units_of_values operands) None ≡ entered
  frame_is = rw (code) refl where
    code : code_at P h.at ≡ Some (method_code u.links h.scope)
    code = rw (call.callee.is) call.callee.code

  called_is : called P (counted one) h.at operands (Method (less count f) ∷ rest)
      ≡ record (counted one) { frames = Method entered ∷ Method (less count f) ∷ rest }
  called_is =
      (let made : called P (counted one) h.at operands (Method (less count f) ∷ rest)
      ≡ record (counted one) { frames = Method (frame_with P h.at (units_of_values operands) None) ∷ Method (less count f) ∷ rest }
      = rw (call.callee.is, call.callee.unlocked) refl in made)
      ∙ ap (λ (top : MethodState). record (counted one) { frames = Method top ∷ Method (less count f) ∷ rest }) frame_is

  abbrev in_callee_now : InFlat u names entered (less count f ∷ waiting) inside
  in_callee_now = record {
    flat = in_flat.flat;
    is_flat = in_flat.is_flat;
    expanded = in_flat.expanded;
    chain = h.at ∷ in_flat.chain;
    p = inner_p;
    below = under;
    inside = in_callee (less count f) (drop count in_flat.top) placed frame h inner outer taken here;
    top = [];
    in_place = record { at = refl; units = block; same = no_values; held = refl };
    place = refl;
    stack = refl;
    room = let before = in_flat.room in let as_many = stored.outside.count in omega (arith, before, as_many);
  }

  frame_on_top : ((tested : IsTrue (tests_receiver h.scope)) → (reference : ℕ) × (values : List Value) × (operands ≡ Ref reference ∷ values))
      → work P one.world.memory point.op operands ≡ calls h.at operands
      → Keeps P Q (Related u) measure one other
  frame_on_top receiver calling =
      alone_keeps u basis {later = weight P one.world.memory [] (suc (length in_flat.chain))} goes.quietly led (omega (arith, low, short))
      (record {
        names = names;
        now = [];
        ones = Method entered ∷ Method (less count f) ∷ rest;
        stands = refl;
        others = Method inside ∷ others;
        stands_also = refl;
        frames = flat_stands in_callee_now (λ never. absurd (cc never)) below;
        alone = tt;
        no_turn = tt;
        memories = at.both.memories;
        seen = record { known = at.both.seen.known; events = at.both.seen.events };
        goes = at.both.goes;
        goes_also = at.both.goes_also;
        actions = at.actions;
        used = at.used;
        typed = typed (record (counted one) { frames = Method entered ∷ Method (less count f) ∷ rest }) led;
        low = omega arith;
      }) where
        goes : GoesTo Q other others inside
        goes = goes_inside receiver

        led : turn P one ≡ record one { world = record (counted one) { frames = Method entered ∷ Method (less count f) ∷ rest } }
        led =
            turned
            ∙ ap (λ (completion : Completion). record one { world = perform P (counted one) f (less count f) rest completion }) calling
            ∙ ap (λ (w : World). record one { world = w }) called_is

  -- ---- one turn

  pub call_turn : Keeps P Q (Related u) measure one other
  call_turn = by call.comes where
    by : ComesTo P one.world.memory point.op operands h → Keeps P Q (Related u) measure one other
    by (comes_to_begin class found is_class inert none begins_it) =
        begins class found is_class inert none
        (operation_begins_alone one f point class at.both.goes at.both.stands is call.works call.enough begins_it none inert at.both.memories)
    by (comes_to_null values tests is_first raising) = null_receiver values tests is_first raising
    by (comes_to_call receiver calling) = frame_on_top receiver calling
