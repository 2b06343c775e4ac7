-- What is known where a planned frame's instruction is written as it is: its typed row, its operation, and that it is not stuck.
use Rattle.std.proofs.Common.{◌≡◌, ◌≤◌, ℕ, zero, suc, Bool, true, false, List, [], ◌∷◌, drop, length, slice_get, Option, Some, None, refl, sym, ap, subst, ◌∙◌, arith}
use Rattle.std.proofs.lemmas.Option.{none-some, same_Some}
use Rattle.class_model.specs.declared.descriptor.Kind.{Kind}
use Rattle.class_model.specs.declared.descriptor.Kind.TheVariants as kinds
use Rattle.class_model.specs.declared.frame.VType.{VType}
use Rattle.class_model.specs.declared.frame.VType.TheVariants as types
use Rattle.class_model.specs.declared.instr.Instr.{Instr}
use Rattle.class_model.specs.Frames.{is_top}
use Rattle.flow_code.specs.ReadTypes.{read_frame}
use Rattle.flow_code.specs.declared.point.FlatInstr.{FlatInstr}
use Rattle.flow_code.specs.declared.point.FlatInstr.TheVariants.{Of}
use Rattle.flow_code.specs.declared.point.Point.{Point}
use Rattle.machine_values.specs.Frames.{MethodState}
use Rattle.machine_values.specs.Values.{has_kind}
use Rattle.machine_values.specs.declared.value.Value.{Value}
use Rattle.member_link.specs.BodyTyping.{RowHolds}
use Rattle.member_link.specs.Bodies.{item_row}
use Rattle.member_link.specs.Machine.Codes.{item_op, number_at}
use Rattle.member_link.specs.Machine.Locals.{local_value}
use Rattle.member_link.specs.Machine.Ops.{Op}
use Rattle.member_link.specs.Machine.Programs.{Program}
use Rattle.member_link.specs.Machine.Runs.{Run}
use Rattle.member_link.specs.Machine.Stepping.{op_step}
use Rattle.member_link.specs.Machine.Worlds.{World, stuck}
use Rattle.member_link.specs.Rows.Operands.{IsOfKind}
use Rattle.member_link.specs.Rows.Readings.{row_by}
use Rattle.plan_flow.specs.PlanScope.{PlanScope}
use Rattle.plan_flow.specs.Written.Blocks.{state_written}
use Rattle.plan_flow.specs.Written.Routes.{Route}
use Rattle.plan_flow.specs.Written.WrittenPrograms.{WrittenMethod}
use Rattle.same_runs.specs.Flats.{flat_item, flat_points, instr_scope}
use Rattle.same_runs.specs.Laws.BothBegin.{counted}
use Rattle.same_runs.specs.TypedFlats.{reading_of}
use Rattle.virtual_state.specs.States.{State}
use Rattle.virtual_state.specs.declared.slot.Slot.{Slot}
use Rattle.written_runs.specs.Inner.PlannedFrames.{scope_in}
use Rattle.written_runs.specs.Inner.Setup.{Setup, first}
use Rattle.written_runs.specs.Inner.Waiting.{IsNoJump}
use Rattle.written_runs.specs.Laws.Carried.Knowing.{CarriedLaws}
use Rattle.written_runs.specs.Laws.Carried.Operands.{AreReal}
use Rattle.written_runs.specs.Laws.Carried.Planned.{carried_here, known_here, knowing_here, own_start}
use Rattle.written_runs.specs.Laws.Carried.Turns.{not_stuck_here, turned_here}
use Rattle.written_runs.specs.Laws.Carried.Waiting.{AtCarried}
use Rattle.written_runs.specs.Laws.Carried.Works.{at_first, at_first_is, own}
use Rattle.written_runs.specs.Laws.Halfway.{Halfway}
use Rattle.written_runs.specs.Laws.PlannedTurns.{AtPlanned, written_at}
use Rattle.written_runs.specs.Laws.Settling.{SettleLaws}
use Rattle.written_runs.specs.WrittenRuns.{IsReadyMethod}
use Rattle.member_link.specs.Scope.{Scope}

-- a type of a kind is not Top
pub kind_is_no_top : (kind : Kind) (type : VType) → IsOfKind kind type → is_top type ≡ false
kind_is_no_top kind types.Int told = refl
kind_is_no_top kind types.Long told = refl
kind_is_no_top kind types.Float told = refl
kind_is_no_top kind types.Double told = refl
kind_is_no_top kind types.Null told = refl
kind_is_no_top kind types.UninitThis told = refl
kind_is_no_top kind (types.Object name) told = refl
kind_is_no_top kind (types.Uninit new) told = refl
kind_is_no_top kinds.Int types.Top told = absurd (cc told)
kind_is_no_top kinds.Long types.Top told = absurd (cc told)
kind_is_no_top kinds.Float types.Top told = absurd (cc told)
kind_is_no_top kinds.Double types.Top told = absurd (cc told)
kind_is_no_top kinds.Ref types.Top told = absurd told

pub no_real : (slots : List Slot) (count : ℕ) → length slots ≤ count → AreReal (drop count slots)
no_real [] zero few = tt
no_real [] (suc count) few = tt
no_real (slot ∷ slots) zero few = absurd (omega (arith, few))
no_real (slot ∷ slots) (suc count) few = no_real slots count (omega (arith, few))

-- a value of a kind in a local is there
pub value_there : (kind : Kind) (locals : List (Option Value)) (local : ℕ) (value : Value) → local_value kind locals local ≡ Some value
    → (slice_get locals local ≡ Some (Some value)) × (has_kind kind value ≡ true)
value_there kind locals local value there = by (slice_get locals local) refl where
  of_value : (held_value : Value) → slice_get locals local ≡ Some (Some held_value) → (b : Bool) → has_kind kind held_value ≡ b
      → (slice_get locals local ≡ Some (Some value)) × (has_kind kind value ≡ true)
  of_value held_value here_it true kind_is =
      let found : Some held_value ≡ Some value = rw (here_it, kind_is) at there in
      let same = same_Some held_value value found in
      (here_it ∙ ap (λ (v : Value). Some (Some v)) same, ap (has_kind kind) (sym same) ∙ kind_is)
  of_value held_value here_it false kind_is = let found : None ≡ Some value = rw (here_it, kind_is) at there in absurd (none-some value found)

  by : (found : Option (Option Value)) → slice_get locals local ≡ found → (slice_get locals local ≡ Some (Some value)) × (has_kind kind value ≡ true)
  by None none = let found : None ≡ Some value = rw (none) at there in absurd (none-some value found)
  by (Some None) none = let found : None ≡ Some value = rw (none) at there in absurd (none-some value found)
  by (Some (Some held_value)) some = of_value held_value some (has_kind kind held_value) refl

module _ (u : Setup) (laws : CarriedLaws u) {measure : ℕ} {one other : Run} (a : AtPlanned u measure one other) (class : ℕ) (instr : Instr)
    (is : a.settled.point.instr ≡ Of class instr) (none : written_at a class instr ≡ None) where
  abbrev P : Program
  P = first u

  abbrev settle : SettleLaws u
  settle = laws.turns.settle

  abbrev w : WrittenMethod
  w = a.in_planned.one

  abbrev s : PlanScope
  s = scope_in u w

  abbrev route : Route
  route = a.settled.route

  abbrev point : Point
  point = a.settled.point

  abbrev before : State
  before = state_written route

  abbrev f : MethodState
  f = a.f

  abbrev h : Halfway u one other f a.ones w (known_here u settle a) point before (own_start u w f.place route)
  h = knowing_here u settle a

  abbrev c : AtCarried u h.virtuals (known_here u settle a) h.names (length a.ones) f h.g
  c = carried_here u settle a class instr is none

  -- what the row of the point says, as it is read
  abbrev pub TypedRow : (host : Scope) → FlatInstr → Type 0
  TypedRow host i =
      RowHolds (instr_scope u.classes host w.flat i) (read_frame w.flat point.typed)
      (row_by (reading_of u.classes w.flat f.place point.typed i) (read_frame w.flat point.typed)
      (item_row (instr_scope u.classes host w.flat i) (read_frame w.flat point.typed) f.place (flat_item i)))

  pub ready_there : IsReadyMethod u.classes u.links h.g.at w
  ready_there = settle.is_setup.ready h.g.at w h.is_written

  pub typed_row : TypedRow ready_there.scope (Of class instr)
  typed_row = subst (TypedRow ready_there.scope) is (ready_there.code.typed.points f.place point a.settled.of_instruction.reached.is_point).row

  module _ (straight : IsNoJump c.carried.instr) where
    -- the operation, by the instruction that stands there
    abbrev pub OpOf : FlatInstr → Op
    OpOf i =
        item_op u.links (number_at (flat_points u.classes (own u laws measure h c straight).host w.flat))
        (instr_scope u.classes (own u laws measure h c straight).host w.flat i) (flat_item i)

    pub not_stuck_there : (now : World) → op_step P (counted one) f a.ones (OpOf point.instr) ≡ now → now.halt ≡ stuck → ⊥
    not_stuck_there now steps is_stuck =
        not_stuck_here u laws.turns measure h (op_step P (counted one) f a.ones (OpOf point.instr))
        (turned_here u laws.turns measure h (at_first u laws measure h c straight) (at_first_is u laws measure h c straight))
        (ap (λ (world : World). world.halt) steps ∙ is_stuck)
