-- Each point of the flat code of a method by itself fits its typed frame.
use Rattle.std.proofs.Common.{◌≡◌, ◌≤◌, ◌<◌, ◌+◌, ℕ, suc, Bool, true, false, List, length, map, slice_get, Option, Some, None, option_map, if◌then◌else◌, refl, sym, ap, subst, ◌∙◌, arith}
use Rattle.std.specs.List.{AllByRecursion}
use Rattle.std.proofs.lemmas.List.{length-map}
use Rattle.std.proofs.lemmas.Option.{same_Some, slice_get-map, slice_get_within}
use Rattle.class_model.specs.Frames.{depth}
use Rattle.class_model.specs.Instructions.{targets}
use Rattle.class_model.specs.Laws.Lists.{at_index}
use Rattle.class_model.specs.Pool.{Constants}
use Rattle.class_model.specs.declared.class_file.MethodAt.{MethodAt}
use Rattle.class_model.specs.declared.frame.Frame.{Frame}
use Rattle.class_model.specs.declared.frame.VType.{VType}
use Rattle.class_model.specs.declared.instr.Placed.{Placed}
use Rattle.class_tree.specs.Headers.{Name, Classes}
use Rattle.expanded_code.specs.Alone.{alone_point, flat_alone, handlers_at, number_at, numbered_frame, numbered_type}
use Rattle.row_frames.specs.Laws.RenumberedMembers.{KeepsNews}
use Rattle.row_frames.specs.Laws.RenumberedRows.{Moves, frame_moves, operands_fit, stack_moves}
use Rattle.row_frames.specs.Laws.RenumberedTable.{row_moves}
use Rattle.row_frames.specs.Laws.RenumberedTargets.{falls_same, targets_numbered}
use Rattle.row_frames.specs.Laws.RenumberedTypes.{renumbered}
use Rattle.expanded_runs.proofs.StackRoom.{two_each}
use Rattle.expanded_runs.proofs.TypedAloneEdges.{IsTypedMethod, all_go, counted, few_behind, flows_carried, goes_carried, is_there}
use Rattle.expanded_runs.proofs.TypedAloneHandlers.{all_catch}
use Rattle.expanded_runs.proofs.TypedAloneNews.{new_is_same, some_point}
use Rattle.expanded_runs.proofs.TypedAloneNumbers.{apart, number_of_next, number_of_placed, point_parts, points_counted}
use Rattle.flow_code.specs.FlatCode.{FlatCode, point_at}
use Rattle.flow_code.specs.FlatRoom.{deepest, stack_room}
use Rattle.flow_code.specs.declared.point.Point.{Point}
use Rattle.member_link.specs.Bodies.{Body, BodyCatch, BodyPoint, catch_frame, falls_through, flows_on, frame_behind, item_instr}
use Rattle.member_link.specs.BodyTyping.{FlowsInto, GoesInto, GoesToStated, MayGoTo, PointFits, RowHolds}
use Rattle.member_link.specs.RowScope.{RowScope}
use Rattle.member_link.specs.Rows.Row.{Row, access_aside, stack_behind}
use Rattle.member_link.specs.Rows.Table.{row_of}
use Rattle.member_link.specs.Scope.{Scope, instructions, row_scope}
use Rattle.member_link.specs.Targets.{with_targets}
use Rattle.same_runs.specs.FlatBodies.{body_of_flat, body_point, body_catch, typed_points}
use Rattle.same_runs.specs.Flats.{class_of_flat_new, pool_of}
use Rattle.type_rules.specs.MethodBodies.{body_of, point_of}

-- a point at a number, in a scope of rows
abbrev point_in : Scope → Placed → RowScope → ℕ → BodyPoint
point_in s placed t k = record {
  place = k;
  next = k + 1;
  scope = t;
  item = item_instr (with_targets (number_at s) placed.instr);
  asks_access = false;
  catches = map body_catch (handlers_at s placed.at);
}

module _ (classes : Classes) (s : Scope) (at : MethodAt) (frames : List Frame) (m : IsTypedMethod classes s at frames) where
  abbrev number : ℕ → ℕ
  number = number_at s

  abbrev own : Body
  own = body_of s

  abbrev flat : FlatCode
  flat = flat_alone s at frames

  abbrev body : Body
  body = body_of_flat classes s flat

  abbrev typed : List Frame
  typed = typed_points flat

  abbrev news : ℕ → Option Name
  news = class_of_flat_new classes flat

  abbrev scope : RowScope
  scope = renumbered (row_scope s) (stack_room flat) news

  keeps : KeepsNews number (row_scope s) (stack_room flat) news
  keeps = record {
    apart = λ there class is other.
        let found = some_point _ (point_at flat (number there)) class
        (new_is_same classes s at m.pool_is frames (counted classes s at frames m) there ∙ is) in
        let within : number there < length flat.points = slice_get_within flat.points (number there) found.0 found.1 in
        apart (instructions s) there
        (subst (λ (n : ℕ). number there < n)
        (points_counted s at.class (instructions s) frames (counted classes s at frames m)) within) other;
    class_kept = λ there class is. new_is_same classes s at m.pool_is frames (counted classes s at frames m) there ∙ is;
  }

  -- what holds of the instruction of a number in the body of the method
  fits_at : (n : ℕ) (placed : Placed) → slice_get (instructions s) n ≡ Some placed
      → PointFits own frames (point_of s placed) × GoesToStated own frames (point_of s placed)
  fits_at n placed stands =
      let is_point : slice_get own.points n ≡ Some (point_of s placed) =
      slice_get-map (point_of s) (instructions s) n ∙ ap (option_map (point_of s)) stands in (
        at_index (PointFits own frames) own.points n (point_of s placed) m.has.points is_point,
        at_index (GoesToStated own frames) own.points n (point_of s placed) m.goes is_point,
      )

  module _ (n : ℕ) (placed : Placed) (stands : slice_get (instructions s) n ≡ Some placed) (fits : PointFits own frames (point_of s placed))
      (edges : GoesToStated own frames (point_of s placed)) where
    abbrev before : Frame
    before = fits.frame

    number_is : number placed.at ≡ n
    number_is = number_of_placed s (instructions s) m.order n placed stands

    next_is : number (placed.at + placed.len) ≡ number placed.at + 1
    next_is =
        let next : number (placed.at + placed.len) ≡ suc n = number_of_next s (instructions s) m.order n placed stands in
        omega (arith, next, number_is)

    same_before : edges.frame ≡ before
    same_before = same_Some edges.frame before (sym edges.is_at ∙ fits.is_at)

    targets_go : AllByRecursion (GoesInto own frames (frame_behind (point_of s placed) before)) (targets placed.instr)
    targets_go =
        subst (λ (f : Frame). AllByRecursion (GoesInto own frames (frame_behind (point_of s placed) f))
        (targets placed.instr)) same_before edges.targets

    abbrev here : BodyPoint
    here = point_in s placed scope (number placed.at)

    abbrev row : Row
    row = row_of (row_scope s) before placed.at placed.instr

    abbrev also : Row
    also = row_of scope (numbered_frame number before) (number placed.at) (with_targets number placed.instr)

    moves : Moves number row also
    moves =
        let within : number placed.at < length (instructions s) =
        subst (λ (k : ℕ). k < length (instructions s)) (sym number_is) (slice_get_within (instructions s) n placed stands) in
        row_moves number (row_scope s) (stack_room flat) news keeps before placed.at
        (apart (instructions s) placed.at within) placed.instr fits.row.further

    row_fits : RowHolds scope (numbered_frame number before) (access_aside also)
    row_fits = record {
      operands = operands_fit number before row also moves (row_scope s) (stack_room flat) news fits.row.operands;
      local = moves.local fits.row.local;
      depth_fits = deep;
      further = moves.further fits.row.further;
      access = tt;
    } where
      left : length (stack_behind before row) ≤ deepest flat.points
      left =
          few_behind classes s at frames m before placed.at (placed.at + placed.len) placed.instr fits.is_at moves.ends fits.next targets_go

      deep : depth (stack_behind (numbered_frame number before) also) ≤ stack_room flat
      deep =
          let many : length (stack_behind (numbered_frame number before) also) ≡ length (stack_behind before row) =
          ap (λ (entries : List VType). length entries) (stack_moves number before row also moves)
          ∙ length-map (stack_behind before row) (numbered_type number) in
          let two = two_each (stack_behind (numbered_frame number before) also) in
          omega (arith, left, many, two)

    behind_same : frame_behind here (numbered_frame number before) ≡ option_map (numbered_frame number)
        (frame_behind (point_of s placed) before)
    behind_same = frame_moves number before row also moves

    flows_same : flows_on here (numbered_frame number before) ≡ option_map (numbered_frame number) (flows_on (point_of s placed) before)
    flows_same =
        ap (λ (falls : Bool). if falls then frame_behind here (numbered_frame number before) else None) (falls_same number placed.instr)
        ∙ ap (λ (goes : Option Frame). if falls_through placed.instr then goes else None) behind_same
        ∙ chosen (falls_through placed.instr)
      where
        chosen : (falls : Bool)
            → (if falls then option_map (numbered_frame number) (frame_behind (point_of s placed) before) else None) ≡ option_map
            (numbered_frame number) (if falls then frame_behind (point_of s placed) before else None)
        chosen true = refl
        chosen false = refl

    next_flows : FlowsInto body typed here.next (flows_on here (numbered_frame number before))
    next_flows =
        subst (λ (k : ℕ). FlowsInto body typed k (flows_on here (numbered_frame number before))) next_is
        (subst (FlowsInto body typed (number (placed.at + placed.len))) (sym flows_same)
        (flows_carried classes s at frames m (placed.at + placed.len) (flows_on (point_of s placed) before) fits.next))

    targets_fit : AllByRecursion (λ target. MayGoTo body.scope (frame_behind here (numbered_frame number before)) (body.stated target))
        (targets (with_targets number placed.instr))
    targets_fit =
        subst (λ (places : List ℕ). AllByRecursion
        (λ target. MayGoTo body.scope (frame_behind here (numbered_frame number before)) (body.stated target)) places)
        (sym (targets_numbered number placed.instr))
        (subst (λ (from : Option Frame). AllByRecursion (λ target. MayGoTo body.scope from (body.stated target))
        (map number (targets placed.instr))) (sym behind_same)
        (all_go classes s at frames m (frame_behind (point_of s placed) before) (targets placed.instr) targets_go))

    -- ---- its handlers

    handlers_go : AllByRecursion (λ (catch : BodyCatch). GoesInto own frames (Some (catch_frame before catch.class)) catch.to)
        (point_of s placed).catches
    handlers_go =
        subst (λ (f : Frame). AllByRecursion (λ (catch : BodyCatch). GoesInto own frames (Some (catch_frame f catch.class)) catch.to)
        (point_of s placed).catches) same_before edges.handlers

    may_go : (class : Option Name) (to : ℕ) → GoesInto own frames (Some (catch_frame before class)) to
        → MayGoTo body.scope (Some (catch_frame (numbered_frame number before) class)) (body.stated (number to))
    may_go None to goes = goes_carried classes s at frames m (Some (catch_frame before None)) to goes
    may_go (Some class) to goes = goes_carried classes s at frames m (Some (catch_frame before (Some class))) to goes

    handlers_fit : AllByRecursion
        (λ (catch : BodyCatch). MayGoTo body.scope (Some (catch_frame (numbered_frame number before) catch.class))
        (body.stated catch.to)) here.catches
    handlers_fit = all_catch s placed.at (λ class to. GoesInto own frames (Some (catch_frame before class)) to)
        (λ catch. MayGoTo body.scope (Some (catch_frame (numbered_frame number before) catch.class))
        (body.stated catch.to)) may_go s.part.handlers handlers_go

    -- ---- the whole

    fits_numbered : PointFits body typed here
    fits_numbered = record {
      frame = numbered_frame number before;
      is_at = is_there classes s at frames m placed.at before fits.is_at;
      row = row_fits;
      next = next_flows;
      targets = targets_fit;
      handlers = handlers_fit;
    }

    -- with the constants of its class
    fits_flat : (frame : Frame) → PointFits body typed (body_point classes s flat n (alone_point s at.class placed frame))
    fits_flat frame =
        let same : (record scope { pool = pool_of classes at.class }) ≡ scope = ap
        (λ (pool : Constants). record scope { pool = pool }) m.pool_is in
        subst (λ (t : RowScope). PointFits body typed (point_in s placed t n)) (sym same)
        (subst (λ (k : ℕ). PointFits body typed (point_in s placed scope k)) number_is fits_numbered)

  pub each_fits : (n : ℕ) (point : Point) → slice_get flat.points n ≡ Some point → PointFits body typed (body_point classes s flat n point)
  each_fits n point is =
      let parts = point_parts s at.class (instructions s) frames n point is in
      let fits = fits_at n parts.placed parts.stands in
      subst (λ (p : Point). PointFits body typed (body_point classes s flat n p)) parts.point_is
      (fits_flat n parts.placed parts.stands fits.0 fits.1 parts.frame)
