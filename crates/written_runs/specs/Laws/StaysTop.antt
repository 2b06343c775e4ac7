-- Where rows fit the types of flat code, a local unit that is Top and that an instruction does not store into is Top behind it.
use Rattle.std.proofs.Common.{◌≡◌, ◌<◌, ◌+◌, ℕ, Bool, true, false, Some, length, slice_get, refl, sym, ap, ◌∙◌, arith}
use Rattle.std.proofs.lemmas.Bool.{false≢true}
use Rattle.std.proofs.lemmas.Option.{same_Some, slice_get_within}
use Rattle.class_model.specs.Frames.{is_top}
use Rattle.class_model.specs.declared.frame.VType.{VType}
use Rattle.class_model.specs.declared.frame.VType.TheVariants.{Top, Int, Float, Long, Double, Null, UninitThis, Object, Uninit}
use Rattle.flow_code.specs.FlatCode.{point_at}
use Rattle.flow_code.specs.declared.point.Point.{Point}
use Rattle.plan_flow.specs.Must.{row_of_point}
use Rattle.plan_flow.specs.PlanRows.{RowEdge, from_place}
use Rattle.plan_flow.specs.PlanScope.{PlanScope, local_types}
use Rattle.plan_flow.specs.PlanSlots.{edge_locals}
use Rattle.plan_flow.specs.PlanTable.{edges_of}
use Rattle.plan_flow.specs.declared.edge.EdgeKind.{EdgeKind}
use Rattle.plan_flow.specs.declared.edge.EdgeKind.TheVariants as edges
use Rattle.written_runs.specs.Laws.Carried.PlannedEdges.{FitsAlong, RowsFit, all_at}
use Rattle.written_runs.specs.Laws.Carried.Slots.{got_left}
use Rattle.written_runs.specs.Laws.Templates.Stacks.{held_at}

pub top_is : (type : VType) → is_top type ≡ true → type ≡ Top
top_is Top is = refl
top_is Int is = absurd (false≢true is)
top_is Float is = absurd (false≢true is)
top_is Long is = absurd (false≢true is)
top_is Double is = absurd (false≢true is)
top_is Null is = absurd (false≢true is)
top_is UninitThis is = absurd (false≢true is)
top_is (Object name) is = absurd (false≢true is)
top_is (Uninit at) is = absurd (false≢true is)

pub stays_top_by : (s : PlanScope) (at : ℕ) (point : Point) (number : ℕ) (edge : RowEdge) (unit : ℕ) (type : VType)
    → RowsFit s
    → point_at s.flat at ≡ Some point
    → slice_get (edges_of at point (row_of_point s at point)) number ≡ Some edge
    → slice_get point.typed.locals unit ≡ Some Top
    → slice_get (row_of_point s at point).locals unit ≡ Some (from_place unit)
    → slice_get (local_types s.flat edge.to) unit ≡ Some type
    → type ≡ Top
stays_top_by s at point number edge unit type fit is_point is_edge top stays is_type = by (is_top type) refl where
  fits : FitsAlong s at point edge
  fits = all_at (FitsAlong s at point) (edges_of at point (row_of_point s at point)) number edge (fit.along at point is_point) is_edge

  within : unit < length point.typed.locals
  within = slice_get_within point.typed.locals unit Top top

  comes : (by : EdgeKind) → slice_get (edge_locals (row_of_point s at point) (length point.typed.locals) by) unit ≡ Some (from_place unit)
  comes edges.Next = stays
  comes (edges.Jump jump) = stays
  comes (edges.Handler handler) =
      let zeroth : 0 + unit ≡ unit = omega arith in
      held_at 0 (length point.typed.locals) unit within ∙ ap (λ (n : ℕ). Some (from_place n)) zeroth

  by : (b : Bool) → is_top type ≡ b → type ≡ Top
  by true is = top_is type is
  by false is =
      let before = fits.usable unit unit type is_type is (comes edge.by) in
      let same : Top ≡ before.0 =
      same_Some Top before.0 (sym top ∙ sym (got_left point.typed.locals point.typed.stack unit within) ∙ before.1) in
      absurd (false≢true (sym before.2 ∙ ap is_top (sym same)))
