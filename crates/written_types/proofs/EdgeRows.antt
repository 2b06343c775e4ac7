-- What comes along each edge of a typed point, read: it may go to the edge's target, and it has a slot for each type.
use Rattle.std.proofs.Common.{◌≡◌, ◌+◌, ◌⊎◌, ℕ, suc, Bool, true, false, List, [], ◌∷◌, ◌++◌, length, Option, Some, None, IfSome, if◌then◌else◌, refl, sym, ap, subst, ◌∙◌, inl, inr, slice_get, arith}
use Rattle.std.specs.List.{AllByRecursion}
use Rattle.class_model.specs.declared.frame.Frame.{Frame}
use Rattle.class_model.specs.declared.frame.VType.{VType}
use Rattle.class_tree.specs.Headers.{headers_of}
use Rattle.flow_code.specs.ReadTypes.{read_frame}
use Rattle.flow_code.specs.declared.handlers.FlatHandler.{FlatHandler}
use Rattle.flow_code.specs.declared.point.Point.{Point}
use Rattle.member_link.specs.Bodies.{catch_frame, caught_type, item_falls_through}
use Rattle.member_link.specs.Rows.Row.{Row, row_frame, stack_behind}
use Rattle.member_link.specs.Scope.{Scope}
use Rattle.plan_flow.specs.Must.{row_of_point}
use Rattle.plan_flow.specs.PlanRows.{Guard, PlanRow, RowEdge}
use Rattle.plan_flow.specs.PlanScope.{PlanScope}
use Rattle.plan_flow.specs.PlanSlots.{edge_locals, edge_stack, slots_from}
use Rattle.plan_flow.specs.PlanTable.{edges_of, falls_on, handler_edges, jump_edges, next_edges, targets_at, thrown_edges}
use Rattle.plan_flow.specs.declared.edge.EdgeKind.{EdgeKind}
use Rattle.same_runs.specs.FlatBodies.{caught_class}
use Rattle.same_runs.specs.Flats.{flat_item}
use Rattle.same_runs.specs.TypedFlats.{MayGoToPoint, read_row}
use Rattle.virtual_state.specs.States.{State}
use Rattle.virtual_state.specs.declared.slot.Slot.TheVariants.{Plain}
use Rattle.written_types.proofs.Arrivals.{FitsPoint, begins}
use Rattle.written_types.proofs.Edges.{PointKnown, going, same_falls, same_targets}
use Rattle.written_types.proofs.Given.{caught_at, read_by}
use Rattle.written_types.proofs.RowTable.{GoesOn, instr_leaves}
use Rattle.written_types.proofs.SiteFields.{SitesKnown}
use Rattle.written_types.proofs.Standing.{Left, all_joined, kept_locals}
use Rattle.written_types.specs.FitsTypes.{HaveTypes}

pub record ComesAlong (s : PlanScope) (scope : Scope) (number : ℕ) (point : Point) (before : State) (by : EdgeKind) (to : ℕ) : Type 0 where
  pub may : MayGoToPoint s.classes scope s.flat (Some (read_by s scope number point by)) to
  pub have_locals : HaveTypes s (read_by s scope number point by).locals
      (slots_from s before (row_of_point s number point).change (edge_locals (row_of_point s number point) (length point.typed.locals) by))
  pub have_stack : HaveTypes s (read_by s scope number point by).stack
      (slots_from s before (row_of_point s number point).change (edge_stack (row_of_point s number point) by))

module _ (s : PlanScope) (reached : ℕ → Bool) (scope : Scope) (sites : SitesKnown s) (headers_are : scope.headers ≡ headers_of s.classes)
    (number : ℕ) (point : Point) (before : State) (fits : FitsPoint s reached number point before)
    (known : PointKnown s reached scope number point before) where
  abbrev p : PlanRow
  p = row_of_point s number point

  abbrev rf : Frame
  rf = read_frame s.flat point.typed

  abbrev rr : Row
  rr = read_row s.classes scope s.flat number point

  abbrev behind : Frame
  behind = record { locals = rr.locals; stack = stack_behind rf rr }

  abbrev Comes : RowEdge → Type 0
  Comes edge = ComesAlong s scope number point before edge.by edge.to

  left : GoesOn point.instr → Left s reached before p rr.locals (stack_behind rf rr) rr.goes_on
  left goes =
      instr_leaves s reached point.typed before (begins fits) scope sites headers_are number point.instr goes known.here known.inits known.asks
      known.typed.row

  frame_goes : rr.goes_on ≡ true → row_frame rf rr ≡ Some behind
  frame_goes goes = ap (λ (b : Bool). if b then Some behind else None) goes

  next_comes : GoesOn point.instr → (falls : Bool) → falls_on point.instr ≡ falls → AllByRecursion Comes (next_edges number p falls)
  next_comes goes false is = tt
  next_comes goes true is =
      let l = left goes in
      let flows : (if item_falls_through (flat_item point.instr) then row_frame rf rr else None) ≡ Some behind =
      ap (λ (b : Bool). if b then row_frame rf rr else None) (sym (same_falls point.instr) ∙ is) ∙ frame_goes l.goes in
      let may : MayGoToPoint s.classes scope s.flat (Some behind) (number + 1) =
      subst (λ (found : Option Frame). IfSome found (λ frame. MayGoToPoint s.classes scope s.flat (Some frame) (number + 1))) flows known.typed.next in
      (record { may = may; have_locals = l.have_locals; have_stack = l.have_stack }, tt)

  jumps_come : GoesOn point.instr → (targets : List ℕ) (at : ℕ) → AllByRecursion (MayGoToPoint s.classes scope s.flat (row_frame rf rr)) targets
      → AllByRecursion Comes (jump_edges p at targets)
  jumps_come goes [] at may = tt
  jumps_come goes (to ∷ targets) at may =
      let l = left goes in (
        record {
          may = subst (λ (found : Option Frame). MayGoToPoint s.classes scope s.flat found to) (frame_goes l.goes) may.0;
          have_locals = l.have_locals;
          have_stack = l.have_stack;
        },
        jumps_come goes targets (at + 1) may.1,
      )

  handlers_come : (guard : Guard) (handlers : List FlatHandler) (at : ℕ)
      → ((n : ℕ) → slice_get point.handlers (at + n) ≡ slice_get handlers n)
      → AllByRecursion (λ handler. MayGoToPoint s.classes scope s.flat (Some (catch_frame rf (caught_class handler.catch_class))) handler.to) handlers
      → AllByRecursion Comes (handler_edges guard at handlers)
  handlers_come guard [] at there may = tt
  handlers_come guard (handler ∷ handlers) at there may =
      let here : slice_get point.handlers at ≡ Some handler =
      ap (slice_get point.handlers) (the_same at (at + 0) (omega arith)) ∙ there 0 in (
        record {
          may =
              subst (λ (stack : List VType). MayGoToPoint s.classes scope s.flat (Some (record { locals = rf.locals; stack = stack })) handler.to)
              (sym (ap caught_at here)) may.0;
          have_locals = kept_locals s reached point.typed before (begins fits) p.change;
          have_stack = subst (λ (stack : List VType). HaveTypes s stack (Plain ∷ [])) (sym (ap caught_at here)) (let one : HaveTypes s (caught_type (caught_class handler.catch_class) ∷ []) (Plain ∷ []) = (tt, tt) in one);
        },
        handlers_come guard handlers (at + 1)
            (λ n. ap (slice_get point.handlers) (the_same (at + 1 + n) (at + suc n) (omega arith)) ∙ there (suc n)) may.1,
      )
    where
      the_same : (a b : ℕ) → a ≡ b → a ≡ b
      the_same a b e = e

  thrown_come : (throws : Option Guard) → AllByRecursion Comes (thrown_edges throws point.handlers)
  thrown_come None = tt
  thrown_come (Some guard) =
      handlers_come guard point.handlers 0 (λ n. ap (slice_get point.handlers) (the_same (0 + n) n (omega arith))) known.typed.handlers where
        the_same : (a b : ℕ) → a ≡ b → a ≡ b
        the_same a b e = e

  -- Each edge of the point's row.
  pub edges_come : AllByRecursion Comes (edges_of number point p)
  edges_come =
      all_joined Comes (next_edges number p (falls_on point.instr) ++ jump_edges p 0 (targets_at point.instr)) (thrown_edges p.throws point.handlers)
      (all_joined Comes (next_edges number p (falls_on point.instr)) (jump_edges p 0 (targets_at point.instr)) (next (going point.instr))
      (jumps (going point.instr))) (thrown_come p.throws) where
        next : GoesOn point.instr ⊎ ((falls_on point.instr ≡ false) × (targets_at point.instr ≡ []))
            → AllByRecursion Comes (next_edges number p (falls_on point.instr))
        next (inl goes) = next_comes goes (falls_on point.instr) refl
        next (inr ends) = subst (λ (b : Bool). AllByRecursion Comes (next_edges number p b)) (sym ends.0) tt

        jumps : GoesOn point.instr ⊎ ((falls_on point.instr ≡ false) × (targets_at point.instr ≡ []))
            → AllByRecursion Comes (jump_edges p 0 (targets_at point.instr))
        jumps (inl goes) =
            jumps_come goes (targets_at point.instr) 0
            (subst (AllByRecursion (MayGoToPoint s.classes scope s.flat (row_frame rf rr))) (same_targets point.instr) known.typed.targets)
        jumps (inr ends) = subst (λ (targets : List ℕ). AllByRecursion Comes (jump_edges p 0 targets)) (sym ends.1) tt
