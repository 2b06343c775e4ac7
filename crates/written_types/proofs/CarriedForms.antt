-- The items of an instruction that is written as it is carry each frame to the block behind, in both forms.
use Rattle.std.proofs.Common.{◌≡◌, ◌≢◌, ◌+◌, ℕ, suc, Bool, true, false, List, [], ◌∷◌, length, map, slice_get, Option, Some, None, if◌then◌else◌, refl, sym, ap, subst, ◌∙◌, arith}
use Rattle.std.specs.List.{AllByRecursion}
use Rattle.std.proofs.lemmas.List.{append-nil, length-map}
use Rattle.class_model.specs.Instructions.{targets}
use Rattle.class_model.specs.declared.frame.Frame.{Frame}
use Rattle.class_model.specs.declared.frame.VType.{VType}
use Rattle.class_model.specs.declared.frame.VType.TheVariants as types
use Rattle.class_model.specs.declared.instr.Instr.{Instr}
use Rattle.class_model.specs.declared.instr.Instr.TheVariants.{Goto}
use Rattle.flow_code.specs.FlatCode.{point_at}
use Rattle.flow_code.specs.declared.point.FlatInstr.TheVariants.{Of}
use Rattle.flow_code.specs.declared.point.Point.{Point}
use Rattle.making_code.specs.Items.{WItem, ahead, carried, plain}
use Rattle.making_code.specs.Opposites.{opposite_instr}
use Rattle.member_link.specs.Bodies.{falls_through, flows_on, frame_behind, point_row}
use Rattle.member_link.specs.Rows.Operands.{AllFit, under}
use Rattle.member_link.specs.Rows.Row.{Row, access_aside, row_frame}
use Rattle.member_link.specs.Rows.Table.{row_of}
use Rattle.plan_flow.specs.Written.Blocks.{state_written}
use Rattle.plan_flow.specs.Written.FramedCode.{frame_by_item}
use Rattle.plan_flow.specs.Written.Routes.{Route, RouteEdge, edge_by}
use Rattle.plan_flow.specs.Written.Templates.{jump_targets, template}
use Rattle.plan_flow.specs.Written.WrittenCode.{jumping_to, target_number}
use Rattle.plan_flow.specs.Written.WrittenConstants.{carried_instr}
use Rattle.plan_flow.specs.declared.edge.EdgeKind.TheVariants as edges
use Rattle.virtual_state.specs.States.{State}
use Rattle.written_types.proofs.BlockEnds.{topmost_none, under_none}
use Rattle.written_types.proofs.CarriedHolds.{behind_is, carried_item, index, own_row}
use Rattle.written_types.proofs.CarriedWays.{goes_on}
use Rattle.written_types.proofs.ChangedTypes.{new_item}
use Rattle.written_types.proofs.Given.{EdgesFit, FitsState, Given, TargetsStand, written_before}
use Rattle.written_types.proofs.ItemRows.{jumping_falls, jumping_row, jumping_targets}
use Rattle.written_types.proofs.ReadyPoints.{FindsOne}
use Rattle.written_types.proofs.RowTable.{IsGoing}
use Rattle.written_types.proofs.WrittenPool.{PoolLaws}
use Rattle.written_types.specs.HeldRows.{RowFits}
use Rattle.written_types.specs.Inner.CarriedFrames.{Agrees, Carries, ItemHolds, LeadsIn, carries_away, carries_none, carries_on, instr_in}
use Rattle.written_types.specs.Writing.{Writing, point_in, scope_in}
use Rattle.written_types.proofs.CarriedHolds.{kept, next_frame}
use Rattle.written_types.proofs.CarriedItems.{targets_many}
use Rattle.written_types.proofs.CarriedHolds.{falls_as, fits_next}
use Rattle.written_types.proofs.CarriedLeads.{item_holds, jumps_lead, next_found}
use Rattle.written_types.proofs.OppositeRows.{opposite_carried, opposite_falls, opposite_jumps, same_row}

module _ (w : Writing) (given : Given w) (laws : PoolLaws) (one : FindsOne) (fit : EdgesFit w given) (stand : TargetsStand w given) (at : ℕ) (base : Point)
    (route : Route) (class : ℕ) (instr : Instr) (there : point_at w.s.flat at ≡ Some (record base { instr = Of class instr }))
    (is_route : slice_get given.setting.routes at ≡ Some (Some route))
    (none : template w.s at base.typed (state_written route) route class instr ≡ None) (number : ℕ) (frame : Frame)
    (agree : Agrees frame (frame_by_item w.form w.blocks (written_before w (record base { instr = Of class instr }) (state_written route))))
    (here : new_item w at ≡ number) (fresh : AllByRecursion (λ type. type ≢ types.Uninit number) frame.stack) where
  abbrev point : Point
  point = record base { instr = Of class instr }

  abbrev before : State
  before = state_written route

  abbrev item : WItem
  item = carried_item at point route class instr

  abbrev pub next : Frame
  next = next_frame w given laws one at base route class instr there is_route none number frame agree here fresh

  holds : ItemHolds w number item frame
  holds = item_holds w given laws one fit stand at base route class instr there is_route none number frame agree here fresh

  next_is : IsGoing instr → frame_behind (point_in w number item) frame ≡ Some next
  next_is = behind_is w given laws one at base route class instr there is_route none number frame agree here fresh

  flows_next : falls_through instr ≡ true → flows_on (point_in w number item) frame ≡ Some next
  flows_next falls =
      falls_as w given laws one at base route class instr there is_route none number frame agree here fresh true falls ∙ next_is (goes_on instr falls)

  flows_away : falls_through instr ≡ false → flows_on (point_in w number item) frame ≡ None
  flows_away ends = falls_as w given laws one at base route class instr there is_route none number frame agree here fresh false ends

  pub fits_behind : falls_through instr ≡ true → (edge : RouteEdge) × (edge_by route edges.Next ≡ Some edge) × FitsState w next edge.to edge.state
  fits_behind falls =
      let found = next_found w given laws one fit stand at base route class instr there is_route none number frame agree here fresh falls in (
        found.0,
        found.1,
        fits_next w given laws one at base route class instr there is_route none number frame agree here fresh fit (goes_on instr falls) found.0 found.1,
      )

  -- ---- one item

  pub carries_one : falls_through instr ≡ true → Carries w number (item ∷ []) frame (Some next)
  carries_one falls = carries_on number item [] frame next (Some next) holds (flows_next falls) (carries_none (suc number) next)

  pub ends_one : falls_through instr ≡ false → Carries w number (item ∷ []) frame None
  ends_one ends = carries_away number item frame holds (flows_away ends)

  -- ---- the opposite over a goto

  module _ (other : Instr) (is_opposite : opposite_instr instr ≡ Some other) where
    abbrev pub over : WItem
    over = record { instr = carried class other; targets = ahead 2 ∷ []; catches = [] }

    abbrev pub goto : WItem
    goto = record { instr = plain (Goto 0); targets = item.targets; catches = [] }

    falls : falls_through instr ≡ true
    falls = opposite_falls instr other is_opposite

    goes : IsGoing instr
    goes = goes_on instr falls

    whole_row : row_of (scope_in w) frame number (instr_in w number over) ≡ row_of (scope_in w) frame number (instr_in w number item)
    whole_row =
        let found = index w given laws one at base route class instr there is_route none number frame agree here fresh in
        jumping_row (scope_in w) frame number ((number + 2) ∷ []) (carried_instr w.s w.pool class other)
        ∙ ap (row_of (scope_in w) frame number) (opposite_carried w.s w.pool class instr other is_opposite)
        ∙ same_row (scope_in w) frame number found.new instr other is_opposite
        (kept w given laws one at base route class instr there is_route none number frame agree here fresh).fits
        ∙ sym (own_row w given laws one at base route class instr there is_route none number frame agree here fresh)

    over_row : point_row (point_in w number over) frame ≡ point_row (point_in w number item) frame
    over_row = ap access_aside whole_row

    over_behind : frame_behind (point_in w number over) frame ≡ Some next
    over_behind = ap (row_frame frame) over_row ∙ next_is goes

    over_instr : jumping_to ((number + 2) ∷ []) (carried_instr w.s w.pool class other) ≡ jumping_to ((number + 2) ∷ []) other
    over_instr = ap (jumping_to ((number + 2) ∷ [])) (opposite_carried w.s w.pool class instr other is_opposite)

    over_flows : flows_on (point_in w number over) frame ≡ Some next
    over_flows =
        ap (λ (b : Bool). if b then frame_behind (point_in w number over) frame else None)
        (ap falls_through over_instr ∙ (opposite_jumps (number + 2) instr other is_opposite).1)
        ∙ over_behind

    over_holds : LeadsIn w (Some next) (number + 2) → ItemHolds w number over frame
    over_holds leads = record {
      row = subst (RowFits (scope_in w) frame) (sym over_row) holds.row;
      targets =
          subst (AllByRecursion (LeadsIn w (frame_behind (point_in w number over) frame)))
          (sym (ap targets over_instr ∙ (opposite_jumps (number + 2) instr other is_opposite).0))
          (subst (λ (found : Option Frame). LeadsIn w found (number + 2)) (sym over_behind) leads, tt);
      handlers = tt;
      access = λ usable. subst (λ (row : Row). row.access) (sym whole_row) (holds.access usable);
    }

    goto_behind : frame_behind (point_in w (suc number) goto) next ≡ Some next
    goto_behind =
        ap (row_frame next) (ap access_aside (jumping_row (scope_in w) next (suc number)
        (map (target_number w.form w.blocks (suc number)) item.targets) (Goto 0)))
        ∙ ap (λ (stack : List VType). Some (record { locals = next.locals; stack = stack })) (append-nil (under 0 next.stack) ∙ under_none next.stack)

    goto_targets : (all : List ℕ) → targets instr ≡ all → length all ≡ 1
        → targets (jumping_to (map (target_number w.form w.blocks (suc number)) (jump_targets at route 0 all)) (Goto 0))
        ≡ map (target_number w.form w.blocks (suc number)) (jump_targets at route 0 all)
    goto_targets all is long =
        jumping_targets (map (target_number w.form w.blocks (suc number)) (jump_targets at route 0 all)) (Goto 0)
        (sym (length-map (jump_targets at route 0 all) (target_number w.form w.blocks (suc number)) ∙ targets_many at route 0 all ∙ long))

    goto_holds : length (targets instr) ≡ 1 → ItemHolds w (suc number) goto next
    goto_holds long = record {
      row = subst (RowFits (scope_in w) next)
          (sym (ap access_aside (jumping_row (scope_in w) next (suc number)
          (map (target_number w.form w.blocks (suc number)) item.targets) (Goto 0))))
          (record { operands = subst (AllFit (scope_in w) []) (sym (topmost_none next.stack)) tt; local = tt; further = tt; access = tt });
      targets =
          subst (AllByRecursion (LeadsIn w (frame_behind (point_in w (suc number) goto) next))) (sym (goto_targets (targets instr) refl long))
          (subst (λ (found : Option Frame). AllByRecursion (LeadsIn w found) (map (target_number w.form w.blocks (suc number)) item.targets))
          (sym goto_behind)
          (jumps_lead w given laws one fit stand at base route class instr there is_route none number frame agree here fresh goes (suc number) 0
          (targets instr) (λ k. let same : k ≡ 0 + k = omega arith in ap (slice_get (targets instr)) same)));
      handlers = tt;
      access = λ usable.
          subst (λ (row : Row). row.access)
          (sym (jumping_row (scope_in w) next (suc number) (map (target_number w.form w.blocks (suc number)) item.targets) (Goto 0))) tt;
    }

    goto_away : flows_on (point_in w (suc number) goto) next ≡ None
    goto_away =
        ap (λ (b : Bool). if b then frame_behind (point_in w (suc number) goto) next else None)
        (jumping_falls (map (target_number w.form w.blocks (suc number)) item.targets) (Goto 0))

    -- the goto's targets are those of the jump, and the next block is two items ahead
    pub carries_over : length (targets instr) ≡ 1 → LeadsIn w (Some next) (number + 2) → Carries w number (over ∷ goto ∷ []) frame None
    carries_over long leads =
        carries_on number over (goto ∷ []) frame next None (over_holds leads) over_flows
        (carries_away (suc number) goto next (goto_holds long) goto_away)
