-- The edges of flat code lead to points.
use Rattle.std.proofs.Common.{◌≡◌, ℕ, ◌<◌, ◌+◌, zero, suc, Bool, true, false, cond, List, [], ◌∷◌, ◌++◌, length, slice_get, Option, Some, None, IsTrue, refl, subst}
use Rattle.std.specs.List.{AllByRecursion, filter}
use Rattle.std.proofs.lemmas.Option.{none-some, same_Some}
use Rattle.flow_code.specs.FlatCode.{NamesPoint, FitsFlat, IsPoint, IsFlat, point_at}
use Rattle.flow_code.specs.declared.handlers.FlatHandler.{FlatHandler}
use Rattle.flow_code.specs.declared.point.FlatInstr.{FlatInstr}
use Rattle.flow_code.specs.declared.point.FlatInstr.TheVariants.{Of, NullTest}
use Rattle.flow_code.specs.declared.point.Point.{Point}
use Rattle.plan_flow.specs.Must.{row_of_point, open_edges}
use Rattle.plan_flow.specs.PlanRows.{Guard, PlanRow, RowEdge}
use Rattle.plan_flow.specs.PlanScope.{PlanScope}
use Rattle.plan_flow.specs.PlanSlots.{is_open}
use Rattle.plan_flow.specs.PlanTable.{next_edges, jump_edges, handler_edges, thrown_edges, falls_on, targets_at, edges_of}
use Rattle.plan_flow.specs.Plans.{FlowsInside}
use Rattle.virtual_state.specs.States.{State}

-- each edge of a list leads to one of so many points
pub record LeadInside (points : ℕ) (edges : List RowEdge) : Type 0 where
  pub each : (number : ℕ) (edge : RowEdge) → slice_get edges number ≡ Some edge → edge.to < points

none_inside : (points : ℕ) → LeadInside points []
none_inside points = record { each = λ number edge is. absurd (none-some edge is) }

one_inside : (points : ℕ) (first : RowEdge) (edges : List RowEdge) → first.to < points → LeadInside points edges → LeadInside points (first ∷ edges)
one_inside points first edges here rest = record { each = go } where
  go : (number : ℕ) (edge : RowEdge) → slice_get (first ∷ edges) number ≡ Some edge → edge.to < points
  go zero edge is = subst (λ (one : RowEdge). one.to < points) (same_Some first edge is) here
  go (suc number) edge is = rest.each number edge is

rest_inside : (points : ℕ) (first : RowEdge) (edges : List RowEdge) → LeadInside points (first ∷ edges) → LeadInside points edges
rest_inside points first edges all = record { each = λ number edge is. all.each (suc number) edge is }

both_inside : (points : ℕ) (one other : List RowEdge) → LeadInside points one → LeadInside points other → LeadInside points (one ++ other)
both_inside points [] other first second = second
both_inside points (edge ∷ one) other first second = one_inside points edge (one ++ other) (first.each 0 edge refl) (both_inside points one other (rest_inside points edge one first) second)

filter_inside : (points : ℕ) (test : RowEdge → Bool) (edges : List RowEdge) → LeadInside points edges → LeadInside points (filter test edges)
filter_inside points test [] all = all
filter_inside points test (edge ∷ edges) all = go (test edge) (filter_inside points test edges (rest_inside points edge edges all)) where
  go : (b : Bool) → LeadInside points (filter test edges) → LeadInside points (cond b (edge ∷ filter test edges) (filter test edges))
  go true rest = one_inside points edge (filter test edges) (all.each 0 edge refl) rest
  go false rest = rest

jumps_inside : (points : ℕ) (row : PlanRow) (number : ℕ) (list : List ℕ) → AllByRecursion (NamesPoint points) list → LeadInside points (jump_edges row number list)
jumps_inside points row number [] all = none_inside points
jumps_inside points row number (to ∷ others) all = one_inside points _ (jump_edges row (number + 1) others) all.0 (jumps_inside points row (number + 1) others all.1)

handlers_inside : (points : ℕ) (guard : Guard) (number : ℕ) (list : List FlatHandler) → AllByRecursion (λ handler. NamesPoint points handler.to) list → LeadInside points (handler_edges guard number list)
handlers_inside points guard number [] all = none_inside points
handlers_inside points guard number (handler ∷ others) all = one_inside points _ (handler_edges guard (number + 1) others) all.0 (handlers_inside points guard (number + 1) others all.1)

thrown_inside : (points : ℕ) (guard : Option Guard) (list : List FlatHandler) → AllByRecursion (λ handler. NamesPoint points handler.to) list → LeadInside points (thrown_edges guard list)
thrown_inside points None list all = none_inside points
thrown_inside points (Some guard) list all = handlers_inside points guard 0 list all

next_inside : (points at : ℕ) (row : PlanRow) (falls : Bool) → (IsTrue falls → at + 1 < points) → LeadInside points (next_edges at row falls)
next_inside points at row true inside = one_inside points _ [] (inside refl) (none_inside points)
next_inside points at row false inside = none_inside points

targets_inside : (points locals : ℕ) (instr : FlatInstr) → FitsFlat points locals instr → AllByRecursion (NamesPoint points) (targets_at instr)
targets_inside points locals (Of class instr) fits = fits.0
targets_inside points locals (NullTest local) fits = tt

-- a point of a list that is well formed
point_in : (points locals : ℕ) (list : List Point) (at : ℕ) (point : Point) → AllByRecursion (IsPoint points locals) list → slice_get list at ≡ Some point → IsPoint points locals point
point_in points locals [] at point all is = absurd (none-some point is)
point_in points locals (first ∷ list) zero point all is = subst (IsPoint points locals) (same_Some first point is) all.0
point_in points locals (first ∷ list) (suc at) point all is = point_in points locals list at point all.1 is

pub edges_inside :
    (s : PlanScope) (at : ℕ) (point : Point) (state : State)
    → IsFlat s.flat
    → FlowsInside s.flat
    → point_at s.flat at ≡ Some point
    → LeadInside (length s.flat.points) (open_edges s at point state)
edges_inside s at point state flat flows is =
    let points = length s.flat.points in
    let row = row_of_point s at point in
    let fits = point_in points s.flat.locals s.flat.points at point flat.points is in
    let next = next_inside points at row (falls_on point.instr) (flows.next at point is) in
    let jumps = jumps_inside points row 0 (targets_at point.instr) (targets_inside points s.flat.locals point.instr fits.instr) in
    let thrown = thrown_inside points row.throws point.handlers fits.handlers in
    filter_inside points (λ edge. is_open state edge.guard) (edges_of at point row)
    (both_inside points (next_edges at row (falls_on point.instr) ++ jump_edges row 0 (targets_at point.instr)) (thrown_edges row.throws point.handlers)
    (both_inside points (next_edges at row (falls_on point.instr)) (jump_edges row 0 (targets_at point.instr)) next jumps) thrown)
