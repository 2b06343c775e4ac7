-- A turn of both where the first returns from a callee that stands in flat code: the second narrows the result, and goes behind the call.
use Rattle.std.proofs.Common.{◌≡◌, ◌≢◌, ◌+◌, ◌++◌, ℕ, suc, Bool, true, false, List, [], ◌∷◌, length, map, reverse, slice_get, Option, Some, None, if◌then◌else◌, refl, sym, ap, subst, ◌∙◌, arith}
use Rattle.std.proofs.lemmas.List.{append_assoc}
use Rattle.std.proofs.lemmas.Option.{same_Some}
use Rattle.class_model.specs.Descriptors.{kind_of}
use Rattle.class_model.specs.declared.class_file.MethodAt.{MethodAt}
use Rattle.class_model.specs.declared.descriptor.FieldType.{FieldType}
use Rattle.class_model.specs.declared.descriptor.Kind.{Kind}
use Rattle.class_model.specs.declared.frame.Frame.{Frame}
use Rattle.class_model.specs.declared.instr.Placed.{Placed}
use Rattle.expanded_code.specs.Expanded.{callee_of, points_of_callee}
use Rattle.expanded_code.specs.Expansions.{Coded, Expansion}
use Rattle.expanded_runs.proofs.Runs.Entries.{GoesTo}
use Rattle.expanded_runs.proofs.Runs.EntryLaws.{NarrowingStands, narrows_nothing, narrows_quietly}
use Rattle.expanded_runs.proofs.Runs.FlatOps.{OpAt, ReturnStands, catches_in, narrowing_ops, own_result}
use Rattle.expanded_runs.proofs.Runs.OpTurns.{AtMethod, keeps_both, step_goes_on}
use Rattle.expanded_runs.proofs.Runs.PositionLaws.{next_start, width}
use Rattle.expanded_runs.proofs.Runs.Positions.{Becomes, IsReplacedAt, Standing, inner_standing, instrs_of, start_of}
use Rattle.expanded_runs.proofs.Runs.ReplacedCalls.{IsPlainMethod}
use Rattle.expanded_runs.proofs.Runs.SameStanding.{InFlat, InPlace, Inside, SameStanding, flat_stands, in_callee, in_host, settled, is_awaited}
use Rattle.expanded_runs.proofs.Runs.Setup.{Setup, after, before}
use Rattle.expanded_runs.proofs.Runs.Together.{Basis, Related}
use Rattle.machine_values.specs.Frames.{MethodState}
use Rattle.machine_values.specs.Values.{has_kind, narrowed}
use Rattle.machine_values.specs.declared.frame.RunFrame.{RunFrame}
use Rattle.machine_values.specs.declared.frame.RunFrame.TheVariants.{Method}
use Rattle.machine_values.specs.declared.value.Value.{Value}
use Rattle.member_link.specs.Machine.Codes.{return_op, same_kind as same_kinds}
use Rattle.member_link.specs.Machine.Ops.{Op, jump_to, meaningless, return_nothing, return_value}
use Rattle.member_link.specs.Machine.Performing.{resumed, returned}
use Rattle.member_link.specs.Machine.Programs.{Point, Program, point_at, run_method}
use Rattle.member_link.specs.Machine.Runs.{Run, turn}
use Rattle.member_link.specs.Machine.Stepping.{ends_stuck, op_step, return_step}
use Rattle.member_link.specs.Machine.Worlds.{World}
use Rattle.same_runs.specs.Laws.BothBegin.{counted}
use Rattle.same_runs.specs.Laws.FieldWork.{narrowed_same}
use Rattle.same_runs.specs.Laws.Moves.{same_joined, same_kind}
use Rattle.same_runs.specs.Laws.Names.{names_themselves}
use Rattle.same_runs.specs.Laws.QuietBeginnings.{standing}
use Rattle.same_runs.specs.Laws.Turns.{has_meaning, turned_by_op}
use Rattle.same_runs.specs.Renamings.{Names, SameValue, SameValues, and_value, no_values}
use Rattle.same_runs.specs.SameWorlds.{both_go}
use Rattle.same_runs.specs.Simulations.{Keeps}

-- ---- what is returned

-- nothing, or a value of the declared type
pub data ReturnsAs (result : Option FieldType) (op : Op) : Type 0 where
  returns_none : result ≡ None → op ≡ return_nothing → ReturnsAs result op
  returns_one : (type : FieldType) → result ≡ Some type → op ≡ return_value type → ReturnsAs result op

pub returns_as : (result : Option FieldType) (kind : Option Kind) (op : Op) → op ≡ return_op result kind → op ≢ meaningless → ReturnsAs result op
returns_as None None op is means = returns_none refl is
returns_as None (Some kind) op is means = absurd (means is)
returns_as (Some type) None op is means = absurd (means is)
returns_as (Some type) (Some kind) op is means = by (same_kinds (kind_of type) kind) is where
  by : (b : Bool) → op ≡ (if b then return_value type else meaningless) → ReturnsAs (Some type) op
  by true same = returns_one type refl same
  by false same = absurd (means same)

-- the values that the stack has, and no others
abbrev pub ReturnsAlone : Option FieldType → List Value → Type 0
ReturnsAlone None stack = stack ≡ []
ReturnsAlone (Some type) stack = (value : Value) × (stack ≡ value ∷ [])

-- the values that are the same as one, or as none
none_same : {names : Names} {others : List Value} → SameValues names [] others → others ≡ []
none_same no_values = refl

one_same : {names : Names} {value : Value} {others : List Value} → SameValues names (value ∷ []) others
    → (also : Value) × (others ≡ also ∷ []) × SameValue names value also
one_same (and_value {other = other} is no_values) = (other, refl, is)

-- a frame that waits at a replaced call, and what it waits for
pub record Caller (u : Setup) (names : Names) (host : Coded) (expansion : Expansion) (held : Option ℕ) (locals : List (Option Value))
    (chain : List MethodAt) (p : Standing) (waiting : List MethodState) (below : List Value)
    : Type 0 where
  pub caller : MethodState
  pub top : List Value
  pub placed : Placed
  pub frame : Frame
  pub g : Coded
  pub inner : Expansion
  pub chain_below : List MethodAt
  pub q : Standing
  pub waiting_below : List MethodState
  pub values_below : List Value
  pub outer : Inside names host expansion held locals chain_below q waiting_below values_below
  pub in_place : InPlace names chain_below q caller held locals top
  pub here : IsReplacedAt q caller.place placed frame g inner
  pub is_waiting : waiting ≡ caller ∷ waiting_below
  pub is_below : below ≡ top ++ values_below
  pub is_p : p ≡ inner_standing q caller.place placed frame g inner

-- a callee has a caller
pub caller_of : {u : Setup} {names : Names} {host : Coded} {expansion : Expansion} {held : Option ℕ} {locals : List (Option Value)}
    {chain : List MethodAt} {p : Standing} {waiting : List MethodState} {below : List Value} (callee : MethodAt) (more : List MethodAt)
    → Inside names host expansion held locals chain p waiting below
    → chain ≡ callee ∷ more
    → Caller u names host expansion held locals chain p waiting below
caller_of callee more in_host is = absurd (cc is)
caller_of callee more (in_callee {chain = chain} {p = q} {waiting = waiting} {below = below} f top placed frame g inner outer in_place here) is = record {
  caller = f;
  top = top;
  placed = placed;
  frame = frame;
  g = g;
  inner = inner;
  chain_below = chain;
  q = q;
  waiting_below = waiting;
  values_below = below;
  outer = outer;
  in_place = in_place;
  here = here;
  is_waiting = refl;
  is_below = refl;
  is_p = refl;
}

-- what is behind a call that is replaced
behind_replaced : (p : Standing) (k : ℕ) (placed : Placed) (frame : Frame) (g : Coded) (inner : Expansion)
    → IsReplacedAt p k placed frame g inner
    → start_of p (k + 1) ≡ start_of p k + points_of_callee g inner
behind_replaced p k placed frame g inner here =
    let one_more : k + 1 ≡ suc k = omega arith in
    ap (start_of p) one_more
    ∙ next_start (callee_of p.setting) p.first (instrs_of p) p.expansion k placed here.is
    ∙ ap (λ (b : Becomes). start_of p k + width (callee_of p.setting) placed b) here.becomes

module _ (u : Setup) (basis : Basis u) {names : Names} {one other : Run} {f g : MethodState}
    {waiting : List MethodState} {ones others : List RunFrame} {point : Point} (measure : ℕ)
    (at : AtMethod u names one other f g (map Method waiting ++ ones) others) (is : point_at (before u) f.at f.place ≡ Some point)
    (in_flat : InFlat u names f waiting g) (below : SameStanding u (is_awaited u g.at) names ones others)
    (own : in_flat.expanded.host.at ≡ g.at) {placed : Placed} (kind : Option Kind)
    (caller : Caller u names in_flat.expanded.host in_flat.expanded.expansion g.held g.locals in_flat.chain in_flat.p waiting in_flat.below)
    (none_held : f.held ≡ None) (plain : IsPlainMethod u caller.g)
    (op : point.op ≡ return_op (own_result in_flat.p) kind) (stands : ReturnStands u in_flat.expanded.host in_flat.p f.place placed)
    (alone : ReturnsAlone (own_result in_flat.p) f.stack) where
  abbrev P : Program
  P = before u

  abbrev Q : Program
  Q = after u

  abbrev p : Standing
  p = in_flat.p

  abbrev host : Coded
  host = in_flat.expanded.host

  abbrev below_caller : List RunFrame
  below_caller = map Method caller.waiting_below ++ ones

  -- the frames of the first with the caller's below
  rest_is : map Method waiting ++ ones ≡ Method caller.caller ∷ below_caller
  rest_is = ap (λ (all : List MethodState). map Method all ++ ones) caller.is_waiting

  -- ---- the first returns

  -- to the caller, with values
  returned_is : (values : List Value)
      → returned P (counted one) f (map Method waiting ++ ones) values
      ≡ record (counted one) { frames = Method (resumed caller.caller values) ∷ below_caller }
  returned_is values =
      ap (λ (rest : List RunFrame). returned P (counted one) f rest values) rest_is
      ∙ (let made : returned P (counted one) f (Method caller.caller ∷ below_caller) values
      ≡ record (counted one) { frames = Method (resumed caller.caller values) ∷ below_caller }
      = rw (method, plain.no_initialiser, none_held) refl in made) where
        method : run_method P f.at ≡ Some plain.method
        method = ap (run_method P) (in_flat.in_place.at ∙ ap (λ (s : Standing). s.setting.coded.at) caller.is_p) ∙ plain.is

  -- ---- the second narrows, and goes behind

  on_host : (number : ℕ) (op : Op) → OpAt u host p placed.at number op
      → point_at Q g.at number ≡ Some (record { op = op; catches = catches_in p placed.at })
  on_host number op there = subst (λ (m : MethodAt). point_at Q m number ≡ Some (record { op = op; catches = catches_in p placed.at })) own there

  narrowing_stands : (type : Option FieldType) → own_result p ≡ type → NarrowingStands Q g (λ i. catches_in p placed.at) type
  narrowing_stands type same i op there =
      on_host (g.place + i) op (subst (λ (n : ℕ). OpAt u host p placed.at (n + i) op) (sym in_flat.place)
      (stands.narrows i op (ap (λ (result : Option FieldType). slice_get (narrowing_ops result) i) same ∙ there)))

  -- the frame of the second before the goto, and behind it
  abbrev narrowed_frame : Option FieldType → List Value → MethodState
  narrowed_frame type stack = record g { place = g.place + length (narrowing_ops type); stack = stack }

  abbrev later : List Value → MethodState
  later stack = record g { place = stands.behind; stack = stack }

  goto_stands : (type : Option FieldType) (stack : List Value) → own_result p ≡ type
      → point_at Q g.at (narrowed_frame type stack).place ≡ Some (record { op = jump_to stands.behind; catches = catches_in p placed.at })
  goto_stands type stack same =
      on_host (g.place + length (narrowing_ops type)) (jump_to stands.behind)
      (subst (λ (n : ℕ). OpAt u host p placed.at (n + length (narrowing_ops type)) (jump_to stands.behind)) (sym in_flat.place)
      (subst (λ (result : Option FieldType). OpAt u host p placed.at (start_of p f.place + length (narrowing_ops result)) (jump_to stands.behind))
      same stands.goes))

  behind_is : stands.behind ≡ start_of caller.q (caller.caller.place + 1)
  behind_is =
      same_Some stands.behind (start_of caller.q caller.caller.place + points_of_callee caller.g caller.inner)
      (sym stands.is_behind ∙ ap (λ (s : Standing). s.setting.behind) caller.is_p)
      ∙ sym (behind_replaced caller.q caller.caller.place caller.placed caller.frame caller.g caller.inner caller.here)

  -- the caller's frame behind the call
  resumed_in : (values values_also : List Value) → SameValues names (reverse values) values_also
      → InFlat u names (resumed caller.caller values) caller.waiting_below (later (values_also ++ in_flat.below))
  resumed_in values values_also same = record {
    flat = in_flat.flat;
    is_flat = in_flat.is_flat;
    expanded = in_flat.expanded;
    chain = caller.chain_below;
    p = caller.q;
    below = caller.values_below;
    inside = caller.outer;
    top = values_also ++ caller.top;
    in_place = record {
      at = caller.in_place.at;
      units = caller.in_place.units;
      same = same_joined same caller.in_place.same;
      held = caller.in_place.held;
    };
    place = behind_is;
    stack = ap (λ (stack : List Value). values_also ++ stack) caller.is_below ∙ sym (append_assoc values_also caller.top caller.values_below);
    room = in_flat.room;
  }

  -- the second where it has narrowed
  abbrev narrowed_run : Option FieldType → List Value → ℕ → Run
  narrowed_run type stack steps = standing other (Method (narrowed_frame type stack) ∷ others) other.world.memory steps

  -- both, where the second has narrowed
  both_return : (type : Option FieldType) (values values_also : List Value)
      → own_result p ≡ type
      → SameValues names (reverse values) values_also
      → (turn P one ≡ record one { world = returned P (counted one) f (map Method waiting ++ ones) values })
      → GoesTo Q other others (narrowed_frame type (values_also ++ in_flat.below))
      → Keeps P Q (Related u) measure one other
  both_return type values values_also result same turned goes = keeps_both u basis at is measure (record {
    waits = narrowed_run type (values_also ++ in_flat.below) goes.steps;
    quietly = goes.quietly;
    first = record (counted one) { frames = Method (resumed caller.caller values) ∷ below_caller };
    second = record (counted (narrowed_run type (values_also ++ in_flat.below) goes.steps)) { frames = Method (later (values_also ++ in_flat.below)) ∷ others };
    turned = turned ∙ ap (λ (w : World). record one { world = w }) (returned_is values);
    turned_also =
        turned_by_op Q (narrowed_run type (values_also ++ in_flat.below) goes.steps) (narrowed_frame type (values_also ++ in_flat.below)) others
        (record { op = jump_to stands.behind; catches = catches_in p placed.at }) at.both.goes_also refl
        (goto_stands type (values_also ++ in_flat.below) result);
    after = both_go names (names_themselves names)
        (settled (flat_stands (resumed_in values values_also same) (λ never. absurd (cc never)) below)) at.both.memories
        (record { known = at.both.seen.known; events = at.both.seen.events }) at.both.goes at.both.goes_also;
  })

  turned : turn P one ≡ record one { world = op_step P (counted one) f (map Method waiting ++ ones) point.op }
  turned = turned_by_op P one f (map Method waiting ++ ones) point at.both.goes at.both.stands is

  -- ---- one turn

  with_nothing : own_result p ≡ None → point.op ≡ return_nothing → Keeps P Q (Related u) measure one other
  with_nothing result is_op =
      both_return None [] [] result no_values
      (turned ∙ ap (λ (o : Op). record one { world = op_step P (counted one) f (map Method waiting ++ ones) o }) is_op)
      (subst (λ (stack : List Value). GoesTo Q other others (narrowed_frame None stack)) stack (narrows_nothing at.both.stands_also)) where
        empty : f.stack ≡ []
        empty = subst (λ (type : Option FieldType). ReturnsAlone type f.stack) result alone

        stack : g.stack ≡ [] ++ in_flat.below
        stack = in_flat.stack
            ∙ ap (λ (values : List Value). values ++ in_flat.below)
            (none_same (subst (λ (values : List Value). SameValues names values in_flat.top) empty in_flat.in_place.same))

  with_value : (type : FieldType) → own_result p ≡ Some type → point.op ≡ return_value type → Keeps P Q (Related u) measure one other
  with_value type result is_op = by (has_kind (kind_of type) one_value.0) refl where
    one_value : (value : Value) × (f.stack ≡ value ∷ [])
    one_value = subst (λ (t : Option FieldType). ReturnsAlone t f.stack) result alone

    also : (also : Value) × (in_flat.top ≡ also ∷ []) × SameValue names one_value.0 also
    also = one_same (subst (λ (values : List Value). SameValues names values in_flat.top) one_value.1 in_flat.in_place.same)

    stack : g.stack ≡ also.0 ∷ in_flat.below
    stack = in_flat.stack ∙ ap (λ (values : List Value). values ++ in_flat.below) also.1

    step_is : op_step P (counted one) f (map Method waiting ++ ones) point.op
        ≡ return_step P (counted one) f (map Method waiting ++ ones) type (one_value.0 ∷ [])
    step_is =
        ap (λ (o : Op). op_step P (counted one) f (map Method waiting ++ ones) o) is_op
        ∙ ap (return_step P (counted one) f (map Method waiting ++ ones) type) one_value.1

    by : (b : Bool) → has_kind (kind_of type) one_value.0 ≡ b → Keeps P Q (Related u) measure one other
    by false e =
        let stuck_one : return_step P (counted one) f (map Method waiting ++ ones) type (one_value.0 ∷ []) ≡ ends_stuck (counted one) = rw (e) refl in
        absurd (step_goes_on u basis at is (ap (λ (w : World). w.halt) (step_is ∙ stuck_one)))
    by true e =
        both_return (Some type) (narrowed type one_value.0 ∷ []) (narrowed type also.0 ∷ []) result (and_value (narrowed_same type also.2) no_values)
        (let returned_one : return_step P (counted one) f (map Method waiting ++ ones) type (one_value.0 ∷ [])
        ≡ returned P (counted one) f (map Method waiting ++ ones) (narrowed type one_value.0 ∷ []) = rw (e) refl in
        turned ∙ ap (λ (w : World). record one { world = w }) (step_is ∙ returned_one))
        (narrows_quietly (λ i. catches_in p placed.at) at.both.goes_also at.both.stands_also type also.0 in_flat.below
        (narrowing_stands (Some type) result) stack (same_kind (kind_of type) also.2 ∙ e))

  pub return_turn : Keeps P Q (Related u) measure one other
  return_turn = by
      (returns_as (own_result p) kind point.op op (has_meaning P (counted one) f (map Method waiting ++ ones) point.op (step_goes_on u basis at is))) where
        by : ReturnsAs (own_result p) point.op → Keeps P Q (Related u) measure one other
        by (returns_none result is_op) = with_nothing result is_op
        by (returns_one type result is_op) = with_value type result is_op
