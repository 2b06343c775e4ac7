-- A turn of both where the first stands in a method that has a place in flat code, at an instruction that stays.
use Rattle.std.proofs.Common.{◌≡◌, ◌++◌, ℕ, List, Option, [], ◌∷◌, length, map, Some, refl, sym, ap, subst, ◌∙◌}
use Rattle.std.proofs.lemmas.Bool.{leb-true}
use Rattle.std.proofs.lemmas.List.{append-nil}
use Rattle.class_model.specs.declared.class_file.MethodAt.{MethodAt}
use Rattle.class_model.specs.declared.descriptor.FieldType.{FieldType}
use Rattle.class_model.specs.declared.instr.Placed.{Placed}
use Rattle.expanded_code.specs.Expansions.{Coded, Expansion}
use Rattle.expanded_runs.proofs.Runs.FlatFacts.{FlatFacts}
use Rattle.expanded_runs.proofs.Runs.FlatOps.{EndsHost, OpStands, catches_in}
use Rattle.expanded_runs.proofs.Runs.OpTurns.{AtMethod, keeps_both, step_goes_on}
use Rattle.expanded_runs.proofs.Runs.Positions.{Standing, start_of}
use Rattle.expanded_runs.proofs.Runs.SameStanding.{InFlat, Inside, SameStanding, WaitsInFlat, comparison, in_callee, in_host, is_awaited}
use Rattle.expanded_runs.proofs.Runs.Setup.{Setup, after, before}
use Rattle.expanded_runs.proofs.Runs.StandingBegins.{typed_at_points}
use Rattle.expanded_runs.proofs.Runs.StandingCodes.{AtPoints}
use Rattle.expanded_runs.proofs.Runs.StandingFrames.{flat_goes, host_returns}
use Rattle.expanded_runs.proofs.Runs.StandingMoves.{flat_moves}
use Rattle.expanded_runs.proofs.Runs.Together.{Basis, Related}
use Rattle.machine_values.specs.Frames.{MethodState}
use Rattle.machine_values.specs.declared.frame.RunFrame.{RunFrame}
use Rattle.machine_values.specs.declared.frame.RunFrame.TheVariants.{Method}
use Rattle.machine_values.specs.declared.value.Value.{Value}
use Rattle.member_link.specs.Machine.Ops.{Op, no_operation, meaningless, push_value, push_constant, load_local, store_local, increment_local, test_local, shuffle_stack, pure_arithmetic, division, float_arithmetic, jump_by_int, jump_by_ints, jump_by_references, jump_by_null, jump_to, table_switch, lookup_switch, return_nothing, return_value, throw_reference, get_static, put_static, get_field, put_field, call_static, call_virtual, call_interface, call_special, call_dynamic, new_object, new_array, new_arrays, load_element, store_element, array_length, check_cast, instance_of, enter_monitor, leave_monitor}
use Rattle.member_link.specs.Machine.Programs.{Point, Program, point_at}
use Rattle.member_link.specs.Machine.Runs.{Run}
use Rattle.member_link.specs.Machine.Stepping.{op_step}
use Rattle.member_link.specs.Machine.Work.{arity, work}
use Rattle.same_runs.specs.Laws.BothBegin.{counted}
use Rattle.same_runs.specs.Laws.BothTurns.{both_step, both_work_on}
use Rattle.same_runs.specs.Laws.CaughtUp.{less, operands_of}
use Rattle.same_runs.specs.Laws.Moved.{moved_is, moved_same}
use Rattle.same_runs.specs.Laws.Operations.{WorksOnOperands, same_arity}
use Rattle.same_runs.specs.Laws.Returned.{return_step_same, returned_same}
use Rattle.same_runs.specs.Laws.Turns.{Family, family_of, has_meaning, has_operands, means_nothing, moves, returns_nothing, returns_value, works}
use Rattle.same_runs.specs.Renamings.{Names, no_values, SameValues}
use Rattle.same_runs.specs.SameMoves.{IsMove, moved}
use Rattle.same_runs.specs.SamePrograms.{SameOp, same_op, same_store, same_initialiser}
use Rattle.same_runs.specs.SameWorlds.{Goes, SameAfter, SameSeen}
use Rattle.same_runs.specs.Simulations.{Keeps}

-- ---- operations that are moved

-- an operation on operands names no local and no point
pub moved_works : (base : ℕ) (start : ℕ → ℕ) (op : Op) → WorksOnOperands op → moved base start op ≡ op
moved_works base start no_operation is = absurd is
moved_works base start meaningless is = absurd is
moved_works base start (load_local kind at) is = absurd is
moved_works base start (store_local kind at) is = absurd is
moved_works base start (increment_local at by) is = absurd is
moved_works base start (test_local at) is = absurd is
moved_works base start (shuffle_stack opcode) is = absurd is
moved_works base start (jump_by_int opcode to) is = absurd is
moved_works base start (jump_by_ints opcode to) is = absurd is
moved_works base start (jump_by_references opcode to) is = absurd is
moved_works base start (jump_by_null opcode to) is = absurd is
moved_works base start (jump_to to) is = absurd is
moved_works base start (table_switch low other targets) is = absurd is
moved_works base start (lookup_switch other pairs) is = absurd is
moved_works base start return_nothing is = absurd is
moved_works base start (return_value type) is = absurd is
moved_works base start (push_value value) is = refl
moved_works base start (push_constant constant) is = refl
moved_works base start (pure_arithmetic opcode) is = refl
moved_works base start (division opcode) is = refl
moved_works base start (float_arithmetic opcode) is = refl
moved_works base start throw_reference is = refl
moved_works base start (get_static r) is = refl
moved_works base start (put_static r initialises) is = refl
moved_works base start (get_field r) is = refl
moved_works base start (put_field r initialises) is = refl
moved_works base start (call_static r) is = refl
moved_works base start (call_virtual r) is = refl
moved_works base start (call_interface r) is = refl
moved_works base start (call_special r from) is = refl
moved_works base start (call_dynamic class bootstrap name desc) is = refl
moved_works base start (new_object name) is = refl
moved_works base start (new_array desc) is = refl
moved_works base start (new_arrays desc dimensions) is = refl
moved_works base start (load_element opcode) is = refl
moved_works base start (store_element opcode) is = refl
moved_works base start array_length is = refl
moved_works base start (check_cast name) is = refl
moved_works base start (instance_of name) is = refl
moved_works base start enter_monitor is = refl
moved_works base start leave_monitor is = refl

-- a return is the same return
same_return : {P Q : Program} {op also : Op} → SameOp P Q op also → op ≡ return_nothing → also ≡ return_nothing
same_return (same_op both) is = is
same_return (same_store bar) is = absurd (cc is)
same_return (same_initialiser name there) is = absurd (cc is)

same_return_value : {P Q : Program} {op also : Op} (type : FieldType) → SameOp P Q op also → op ≡ return_value type → also ≡ return_value type
same_return_value type (same_op both) is = is
same_return_value type (same_store bar) is = absurd (cc is)
same_return_value type (same_initialiser name there) is = absurd (cc is)

-- nothing stands below the stack of a host
pub host_below : {names : Names} {host : Coded} {expansion : Expansion} {held : Option ℕ} {locals : List (Option Value)} {chain : List MethodAt}
    {p : Standing} {waiting : List MethodState} {below : List Value}
    → Inside names host expansion held locals chain p waiting below
    → chain ≡ []
    → below ≡ []
host_below in_host none = refl
host_below (in_callee f top placed frame g inner inside in_place is) none = absurd (cc none)

module _ (u : Setup) (basis : Basis u) (facts : FlatFacts u) {names : Names} {one other : Run} {f g : MethodState}
    {waiting : List MethodState} {ones others : List RunFrame} {point : Point} {placed : Placed} (measure : ℕ)
    (at : AtMethod u names one other f g (map Method waiting ++ ones) others) (is : point_at (before u) f.at f.place ≡ Some point)
    (in_flat : InFlat u names f waiting g) (below : SameStanding u (is_awaited u g.at) names ones others)
    (stands : OpStands u in_flat.expanded.host in_flat.p f.place placed point) (ends : EndsHost in_flat.chain point.op)
    (own : in_flat.expanded.host.at ≡ g.at) where
  abbrev P : Program
  P = before u

  abbrev Q : Program
  Q = after u

  abbrev rest : List RunFrame
  rest = map Method waiting ++ ones

  abbrev also : Point
  also = record { op = stands.also; catches = catches_in in_flat.p placed.at }

  is_also : point_at Q g.at g.place ≡ Some also
  is_also = subst (λ (m : MethodAt). point_at Q m g.place ≡ Some also) own
      (ap (point_at Q in_flat.expanded.host.at) in_flat.place ∙ stands.is_also)

  points : AtPoints u (Method f ∷ rest)
  points = subst (AtPoints u) at.both.stands (typed_at_points u one.world at.typed)

  waits_here : WaitsInFlat u in_flat.expanded.host in_flat.p f.at f.place
  waits_here = record { placed = placed; point = point; is_point = is; stands = stands }

  seen : SameSeen (comparison u) names (counted one) (counted other)
  seen = record { known = at.both.seen.known; events = at.both.seen.events }

  abbrev After : Op → Op → Type 0
  After op second = SameAfter P (comparison u) names (op_step P (counted one) f rest op) (op_step Q (counted other) g others second)

  steps : After point.op stands.also → Keeps P Q (Related u) measure one other
  steps then = keeps_both u basis at is measure (both_step at.both is also is_also then)

  abbrev base : ℕ
  base = in_flat.p.setting.unit

  abbrev start : ℕ → ℕ
  start = start_of in_flat.p

  moves_on : IsMove point.op → Keeps P Q (Related u) measure one other
  moves_on move =
      steps (subst (After point.op) (sym (moved_is base start move stands.same))
      (moved_same {first = counted one} {second = counted other} basis.same basis.compares at.both.memories seen at.both.goes at.both.goes_also
      (flat_moves facts basis.same in_flat stands.next points below) point.op move (stands.fits f.locals)
      (step_goes_on u basis at is)))

  works_on : WorksOnOperands point.op → Keeps P Q (Related u) measure one other
  works_on working =
      keeps_both u basis at is measure
      (both_work_on at.both is basis.same basis.alike basis.compares (step_goes_on u basis at is) also in_flat.top in_flat.below is_also working same
      in_flat.stack in_flat.in_place.same
      (subst (λ (n : ℕ). Goes P Q (comparison u) names (work P one.world.memory point.op (operands_of (arity point.op) f)) f
      (less (arity point.op) f) g (less n g) rest others) (sym (same_arity same))
      (flat_goes facts basis.same (arity point.op) in_flat waits_here
      (leb-true (arity point.op) (length f.stack) (has_operands P (counted one) f rest point.op working (step_goes_on u basis at is))) points below))) where
        same : SameOp P Q point.op stands.also
        same = subst (λ (op : Op). SameOp P Q op stands.also) (moved_works base start point.op working) stands.same

  -- the host ends
  ends_host : in_flat.chain ≡ [] → Family point.op → Keeps P Q (Related u) measure one other
  ends_host none (moves move) = moves_on move
  ends_host none (works work) = works_on work
  ends_host none (means_nothing op) = absurd (has_meaning P (counted one) f rest point.op (step_goes_on u basis at is) op)
  ends_host none (returns_nothing op) =
      steps (subst (λ (o : Op). After o stands.also) (sym op)
      (subst (After return_nothing) (sym (same_return stands.same (ap (moved base start) op)))
      (returned_same basis.same basis.compares (counted one) (counted other) at.both.memories seen at.both.goes at.both.goes_also
      (host_returns facts basis.same in_flat none below) no_values)))
  ends_host none (returns_value type op) =
      steps (subst (λ (o : Op). After o stands.also) (sym op)
      (subst (After (return_value type)) (sym (same_return_value type stands.same (ap (moved base start) op)))
      (return_step_same basis.same basis.compares (counted one) (counted other) at.both.memories seen at.both.goes at.both.goes_also type
      (host_returns facts basis.same in_flat none below)
      (subst (SameValues names f.stack) (sym stack) in_flat.in_place.same)))) where
        stack : g.stack ≡ in_flat.top
        stack = in_flat.stack ∙ ap (λ (values : List Value). in_flat.top ++ values) (host_below in_flat.inside none) ∙ append-nil in_flat.top

  -- one turn
  pub flat_turn : Keeps P Q (Related u) measure one other
  flat_turn = by in_flat.chain refl (family_of point.op) where
    by : (chain : List MethodAt) → in_flat.chain ≡ chain → Family point.op → Keeps P Q (Related u) measure one other
    by [] none family = ends_host none family
    by (callee ∷ chain) some (moves move) = moves_on move
    by (callee ∷ chain) some (works work) = works_on work
    by (callee ∷ chain) some (means_nothing op) = absurd (has_meaning P (counted one) f rest point.op (step_goes_on u basis at is) op)
    by (callee ∷ chain) some (returns_nothing op) =
        let never : EndsHost (callee ∷ chain) return_nothing = subst (EndsHost (callee ∷ chain)) op (subst (λ (c : List MethodAt). EndsHost c point.op) some ends) in
        absurd never
    by (callee ∷ chain) some (returns_value type op) =
        let never : EndsHost (callee ∷ chain) (return_value type) = subst (EndsHost (callee ∷ chain)) op (subst (λ (c : List MethodAt). EndsHost c point.op) some ends) in
        absurd never
