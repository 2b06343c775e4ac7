-- Behind each edge of a point the state fits the types of the edge's target.
use Rattle.std.proofs.Common.{◌≡◌, ◌+◌, ◌⊎◌, ℕ, Bool, true, false, List, [], ◌∷◌, ◌++◌, length, Option, Some, None, IfSome, if◌then◌else◌, refl, sym, ap, subst, ◌∙◌, inl, inr, slice_get}
use Rattle.std.specs.List.{AllByRecursion, filter}
use Rattle.class_model.specs.declared.frame.Frame.{Frame}
use Rattle.class_model.specs.declared.instr.Instr.TheVariants.{New, Return, Throw}
use Rattle.class_tree.specs.Headers.{Name, headers_of}
use Rattle.flow_code.specs.ReadTypes.{read_frame}
use Rattle.flow_code.specs.declared.handlers.FlatHandler.{FlatHandler}
use Rattle.flow_code.specs.declared.point.FlatInstr.{FlatInstr}
use Rattle.flow_code.specs.declared.point.FlatInstr.TheVariants.{Of, NullTest}
use Rattle.flow_code.specs.declared.point.Point.{Point}
use Rattle.member_link.specs.Bodies.{catch_frame, caught_type, item_falls_through, item_targets}
use Rattle.member_link.specs.Rows.Row.{Row, row_frame, stack_behind}
use Rattle.member_link.specs.Scope.{Scope}
use Rattle.plan_flow.specs.Effect.{AreEdges, IsEffect, IsEffectIn}
use Rattle.plan_flow.specs.Must.{AsksFor, open_edges, row_of_point}
use Rattle.plan_flow.specs.PlanRows.{Guard, PlanRow, Position, RowEdge}
use Rattle.plan_flow.specs.PlanScope.{PlanScope, local_types, stack_types}
use Rattle.plan_flow.specs.PlanSlots.{changed, edge_objects, fit_locals, fit_stack, is_open, local_slots, slots_from, stack_slots}
use Rattle.plan_flow.specs.PlanTable.{edges_of, falls_on, handler_edges, held_locals, jump_edges, next_edges, positions, targets_at, thrown_edges}
use Rattle.plan_flow.specs.declared.edge.Edge.{Edge}
use Rattle.plan_flow.specs.declared.edge.EdgeKind.TheVariants as kinds
use Rattle.same_runs.specs.FlatBodies.{caught_class}
use Rattle.same_runs.specs.Flats.{flat_item}
use Rattle.same_runs.specs.TypedFlats.{MayGoToPoint, TypesPoint, read_row}
use Rattle.virtual_state.specs.Making.{IsStateOf}
use Rattle.virtual_state.specs.States.{State}
use Rattle.virtual_state.specs.declared.slot.Slot.TheVariants.{Plain}
use Rattle.written_types.proofs.Arrivals.{FitsPoint, arrives, begins}
use Rattle.written_types.proofs.RowTable.{CallsObjectInit, GoesOn, instr_leaves}
use Rattle.written_types.proofs.SiteFields.{SitesKnown}
use Rattle.written_types.proofs.SlotTypes.{sources_usable}
use Rattle.written_types.proofs.Standing.{Left, all_joined, kept_locals}
use Rattle.written_types.specs.FitsTypes.{FitsTypes, HasItsNew, IsReachedNew}

-- ---- instructions

-- control goes on, or there is no edge but to handlers
pub going : (i : FlatInstr) → GoesOn i ⊎ ((falls_on i ≡ false) × (targets_at i ≡ []))
going (Of class (Return kind)) = inr (refl, refl)
going (Of class Throw) = inr (refl, refl)
going (Of class instr) = inl tt
going (NullTest local) = inl tt

pub same_falls : (i : FlatInstr) → falls_on i ≡ item_falls_through (flat_item i)
same_falls (Of class instr) = refl
same_falls (NullTest local) = refl

pub same_targets : (i : FlatInstr) → item_targets (flat_item i) ≡ targets_at i
same_targets (Of class instr) = refl
same_targets (NullTest local) = refl

-- ---- lists

filtered : {A : Type 0} (P : A → Type 0) (test : A → Bool) (items : List A) → AllByRecursion P items → AllByRecursion P (filter test items)
filtered P test [] all = tt
filtered P test (item ∷ items) all = by (test item) (filtered P test items all.1) where
  by : (b : Bool) → AllByRecursion P (filter test items) → AllByRecursion P (if b then item ∷ filter test items else filter test items)
  by true below = (all.0, below)
  by false below = below

-- What is known of a point: it is typed, its new is reached, it calls java/lang/Object.<init> as it may, and its instruction asks for no
-- object that is virtual.
pub record PointKnown (s : PlanScope) (reached : ℕ → Bool) (scope : Scope) (number : ℕ) (point : Point) (before : State) : Type 0 where
  pub typed : TypesPoint s.classes scope s.flat number point
  pub here : (class index : ℕ) → point.instr ≡ Of class (New index) → IsReachedNew s reached number
  pub inits : CallsObjectInit s point.instr
  pub asks : (at : ℕ) (position : Position) (site : ℕ) → slice_get (positions (row_of_point s number point)) at ≡ Some position
      → AsksFor s before position site
      → ⊥

module _ (s : PlanScope) (reached : ℕ → Bool) (scope : Scope) (sites : SitesKnown s) (headers_are : scope.headers ≡ headers_of s.classes)
    (number : ℕ) (point : Point) (before : State) (fits : FitsPoint s reached number point before)
    (known : PointKnown s reached scope number point before) where
  abbrev p : PlanRow
  p = row_of_point s number point

  abbrev rf : Frame
  rf = read_frame s.flat point.typed

  abbrev rr : Row
  rr = read_row s.classes scope s.flat number point

  -- each state behind an edge fits the edge's target
  abbrev EdgeFits : RowEdge → Type 0
  EdgeFits edge =
      (state : State)
      → IsStateOf (local_slots s before p (length point.typed.locals) edge ++ stack_slots s before p edge) (edge_objects s before p edge.by) state
      → FitsTypes s reached edge.to state

  left : GoesOn point.instr → Left s reached before p rr.locals (stack_behind rf rr) rr.goes_on
  left goes =
      instr_leaves s reached point.typed before (begins fits) scope sites headers_are number point.instr goes known.here known.inits known.asks
      known.typed.row

  abbrev behind : Frame
  behind = record { locals = rr.locals; stack = stack_behind rf rr }

  frame_goes : rr.goes_on ≡ true → row_frame rf rr ≡ Some behind
  frame_goes goes = ap (λ (b : Bool). if b then Some behind else None) goes

  -- ---- to the next point, and to targets

  edge_behind : GoesOn point.instr → (edge : RowEdge) → MayGoToPoint s.classes scope s.flat (Some behind) edge.to
      → (state : State)
      → IsStateOf (fit_locals (local_types s.flat edge.to) (slots_from s before p.change p.locals)
      ++ fit_stack (stack_types s.flat edge.to) (slots_from s before p.change p.stack)) (changed s before p.change ++ before.objects) state
      → FitsTypes s reached edge.to state
  edge_behind goes edge may state is =
      let l = left goes in
      arrives s reached scope sites headers_are edge.to (slots_from s before p.change p.locals) (slots_from s before p.change p.stack) rr.locals
      (stack_behind rf rr) (changed s before p.change ++ before.objects) l.have_locals l.have_stack (sources_usable s before p.change p.locals)
      (sources_usable s before p.change p.stack) l.new_locals l.new_stack l.pairs l.objects may state is

  next_fits : GoesOn point.instr → (falls : Bool) → falls_on point.instr ≡ falls → AllByRecursion EdgeFits (next_edges number p falls)
  next_fits goes false is = tt
  next_fits goes true is =
      let flows : (if item_falls_through (flat_item point.instr) then row_frame rf rr else None) ≡ Some behind =
      ap (λ (b : Bool). if b then row_frame rf rr else None) (sym (same_falls point.instr) ∙ is) ∙ frame_goes (left goes).goes in
      let may : MayGoToPoint s.classes scope s.flat (Some behind) (number + 1) =
      subst (λ (found : Option Frame). IfSome found (λ frame. MayGoToPoint s.classes scope s.flat (Some frame) (number + 1))) flows known.typed.next in
      (λ state is. edge_behind goes (record { by = kinds.Next; to = number + 1; guard = p.next }) may state is, tt)

  jumps_fit : GoesOn point.instr → (targets : List ℕ) (at : ℕ) → AllByRecursion (MayGoToPoint s.classes scope s.flat (row_frame rf rr)) targets
      → AllByRecursion EdgeFits (jump_edges p at targets)
  jumps_fit goes [] at may = tt
  jumps_fit goes (to ∷ targets) at may = (
    λ state is.
        edge_behind goes (record { by = kinds.Jump at; to = to; guard = p.jump })
        (subst (λ (found : Option Frame). MayGoToPoint s.classes scope s.flat found to) (frame_goes (left goes).goes) may.0) state is,
    jumps_fit goes targets (at + 1) may.1,
  )

  -- ---- to handlers

  caught_new : (class : Option Name) → HasItsNew s reached (caught_type class)
  caught_new None = tt
  caught_new (Some class) = tt

  handlers_fit : (guard : Guard) (handlers : List FlatHandler) (at : ℕ)
      → AllByRecursion (λ handler. MayGoToPoint s.classes scope s.flat (Some (catch_frame rf (caught_class handler.catch_class))) handler.to) handlers
      → AllByRecursion EdgeFits (handler_edges guard at handlers)
  handlers_fit guard [] at may = tt
  handlers_fit guard (handler ∷ handlers) at may = (
    λ state is.
        arrives s reached scope sites headers_are handler.to (slots_from s before p.change (held_locals point.typed)) (Plain ∷ []) rf.locals
        (caught_type (caught_class handler.catch_class) ∷ []) before.objects (kept_locals s reached point.typed before (begins fits) p.change) (tt, tt)
        (sources_usable s before p.change (held_locals point.typed)) (refl, tt) fits.locals (caught_new (caught_class handler.catch_class), tt)
        (begins fits).pairs fits.objects may.0 state is,
    handlers_fit guard handlers (at + 1) may.1,
  )

  thrown_fit : (throws : Option Guard) → AllByRecursion EdgeFits (thrown_edges throws point.handlers)
  thrown_fit None = tt
  thrown_fit (Some guard) = handlers_fit guard point.handlers 0 known.typed.handlers

  -- ---- all

  edges_fit : AllByRecursion EdgeFits (edges_of number point p)
  edges_fit =
      all_joined EdgeFits (next_edges number p (falls_on point.instr) ++ jump_edges p 0 (targets_at point.instr)) (thrown_edges p.throws point.handlers)
      (all_joined EdgeFits (next_edges number p (falls_on point.instr)) (jump_edges p 0 (targets_at point.instr)) (next (going point.instr))
      (jumps (going point.instr))) (thrown_fit p.throws) where
        next : GoesOn point.instr ⊎ ((falls_on point.instr ≡ false) × (targets_at point.instr ≡ []))
            → AllByRecursion EdgeFits (next_edges number p (falls_on point.instr))
        next (inl goes) = next_fits goes (falls_on point.instr) refl
        next (inr ends) = subst (λ (b : Bool). AllByRecursion EdgeFits (next_edges number p b)) (sym ends.0) tt

        jumps : GoesOn point.instr ⊎ ((falls_on point.instr ≡ false) × (targets_at point.instr ≡ []))
            → AllByRecursion EdgeFits (jump_edges p 0 (targets_at point.instr))
        jumps (inl goes) =
            jumps_fit goes (targets_at point.instr) 0
            (subst (AllByRecursion (MayGoToPoint s.classes scope s.flat (row_frame rf rr))) (same_targets point.instr) known.typed.targets)
        jumps (inr ends) = subst (λ (targets : List ℕ). AllByRecursion EdgeFits (jump_edges p 0 targets)) (sym ends.1) tt

  abbrev pub EdgeFitsTypes : Edge → Type 0
  EdgeFitsTypes edge = FitsTypes s reached edge.to edge.state

  along : (rows : List RowEdge) (edges : List Edge) → AllByRecursion EdgeFits rows → AreEdges s point number before rows edges
      → AllByRecursion EdgeFitsTypes edges
  along [] [] fit are = tt
  along [] (edge ∷ edges) fit are = absurd are
  along (one ∷ rows) [] fit are = absurd are
  along (one ∷ rows) (edge ∷ edges) fit are = (
    subst (λ (to : ℕ). FitsTypes s reached to edge.state) (sym are.1) (fit.0 edge.state are.2.is),
    along rows edges fit.1 are.3,
  )

  -- The states of the edges that control may take.
  pub effect_fits : (edges : List Edge) → IsEffect s number before edges → AllByRecursion EdgeFitsTypes edges
  effect_fits edges is =
      along (open_edges s number point before) edges
      (filtered EdgeFits (λ edge. is_open before edge.guard) (edges_of number point p) edges_fit)
      (subst (λ (found : Option Point). IsEffectIn s number found before edges) fits.there is)
