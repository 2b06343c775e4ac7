-- Control does not run past the last point of flat code.
use Rattle.std.proofs.Common.{◌≡◌, ◌+◌, ◌<◌, ℕ, zero, suc, Bool, true, false, List, [], ◌∷◌, ◌++◌, length, map, slice_get, Option, Some, None, if◌then◌else◌, IsTrue, refl, sym, ap, subst, ◌∙◌, arith, append-nil}
use Rattle.std.proofs.lemmas.Bool.{false≢true}
use Rattle.std.proofs.lemmas.Option.{none-some, same_Some}
use Rattle.class_model.specs.declared.class_file.MethodAt.{MethodAt}
use Rattle.class_model.specs.declared.frame.Frame.{Frame}
use Rattle.class_model.specs.declared.instr.Instr.{Instr}
use Rattle.class_model.specs.declared.instr.Instr.TheVariants.{Goto, Return}
use Rattle.class_model.specs.declared.instr.Placed.{Placed}
use Rattle.class_tree.specs.Headers.{Classes}
use Rattle.expanded_code.specs.Alone.{alone_points, number_at}
use Rattle.expanded_code.specs.Expanded.{Narrowing, Setting, callee_of, callee_setting, instr_points, own_narrowing, own_points, point_in, points_before, points_from, points_of_callee, points_of_entry, return_points, set_frame, units_in}
use Rattle.expanded_code.specs.Expansions.{Expands, Expansion, expands_none, expands_replaced, expands_site, expands_stays}
use Rattle.expanded_code.specs.Sites.{HasFrames}
use Rattle.expanded_runs.proofs.Plans.RowsGoOn.{goes_on}
use Rattle.row_frames.specs.Laws.RenumberedTargets.{falls_same}
use Rattle.expanded_runs.proofs.Types.OwnPoints.{falls_set}
use Rattle.flow_code.specs.FlatCode.{FlatCode}
use Rattle.flow_code.specs.TypedFrames.{FolderFrames}
use Rattle.flow_code.specs.declared.point.Point.{Point}
use Rattle.member_link.specs.Bodies.{Body, falls_through, flows_on}
use Rattle.member_link.specs.Rows.Row.{row_frame, stack_behind}
use Rattle.member_link.specs.Rows.Table.{row_of}
use Rattle.member_link.specs.Scope.{Scope, instructions, row_scope}
use Rattle.plan_flow.specs.PlanTable.{falls_on}
use Rattle.plan_flow.specs.Plans.{FlowsInside}
use Rattle.type_rules.specs.MethodBodies.{body_of, point_of}
use Rattle.type_rules.specs.Typed.{AreTyped, TypesBody}

-- ---- points

-- there is a point, and control does not fall through the last
abbrev pub EndsStill : List Point → Type 0
EndsStill [] = ⊥
EndsStill (point ∷ []) = falls_on point.instr ≡ false
EndsStill (point ∷ second ∷ points) = EndsStill (second ∷ points)

append_still : (ones others : List Point) → EndsStill others → EndsStill (ones ++ others)
append_still [] others ends = ends
append_still (one ∷ []) [] ends = absurd ends
append_still (one ∷ []) (other ∷ others) ends = ends
append_still (one ∷ second ∷ ones) others ends = append_still (second ∷ ones) others ends

alone_still : (points : List Point) → EndsStill points → EndsStill (points ++ [])
alone_still points ends = subst EndsStill (sym (append-nil points)) ends

some_point : (points : List Point) → EndsStill points → 0 < length points
some_point [] ends = absurd ends
some_point (point ∷ points) ends = omega arith

next_point : (points : List Point) → EndsStill points → (at : ℕ) (point : Point) → slice_get points at ≡ Some point
    → IsTrue (falls_on point.instr) → at + 1 < length points
next_point [] ends at point is falls = absurd ends
next_point (one ∷ []) ends zero point is falls =
    absurd (false≢true (sym ends ∙ ap (λ (p : Point). falls_on p.instr) (same_Some one point is) ∙ falls))
next_point (one ∷ []) ends (suc at) point is falls = absurd (none-some point is)
next_point (one ∷ second ∷ points) ends zero point is falls = omega arith
next_point (one ∷ second ∷ points) ends (suc at) point is falls =
    let rest = next_point (second ∷ points) ends at point is falls in
    omega (arith, rest)

pub flows_inside : (flat : FlatCode) → EndsStill flat.points → FlowsInside flat
flows_inside flat ends = record {
  some = some_point flat.points ends;
  next = λ at point is falls. next_point flat.points ends at point is falls;
}

-- ---- the instructions of a method

-- there is an instruction, and control does not fall through the last
abbrev pub Stops : List Placed → Type 0
Stops [] = ⊥
Stops (placed ∷ []) = falls_through placed.instr ≡ false
Stops (placed ∷ second ∷ instrs) = Stops (second ∷ instrs)

module _ (s : Scope) where
  falls_not : (placed : Placed) (frame : Frame) → flows_on (point_of s placed) frame ≡ None → falls_through placed.instr ≡ false
  falls_not placed frame none = by (falls_through placed.instr) refl none where
    by : (falls : Bool) → falls_through placed.instr ≡ falls
        → (if falls then row_frame frame (row_of (row_scope s) frame placed.at placed.instr) else None) ≡ None
        → falls_through placed.instr ≡ false
    by false is nothing = is
    by true is nothing =
        let row = row_of (row_scope s) frame placed.at placed.instr in
        let goes : row.goes_on ≡ true = goes_on (row_scope s) frame placed.at placed.instr is in
        let behind : row_frame frame row ≡ Some (record { locals = row.locals; stack = stack_behind frame row }) = rw goes refl in
        absurd (none-some (record { locals = row.locals; stack = stack_behind frame row }) (sym nothing ∙ behind))

  stops_from : (b : Body) (flows : Option Frame) (placed : Placed) (instrs : List Placed) (frames : List Frame)
      → AreTyped b flows (map (point_of s) (placed ∷ instrs)) frames
      → Stops (placed ∷ instrs)
  stops_from b flows placed instrs [] typed = absurd typed
  stops_from b flows placed [] (frame ∷ []) typed = falls_not placed frame typed.1
  stops_from b flows placed [] (frame ∷ other ∷ frames) typed = absurd typed.1
  stops_from b flows placed (second ∷ instrs) (frame ∷ frames) typed =
      stops_from b (flows_on (point_of s placed) frame) second instrs frames typed.1

  -- Where frames type a method, control does not run past its code.
  pub typed_stops : (frames : List Frame) → TypesBody (body_of s) frames → Stops (instructions s)
  typed_stops frames typed = by (instructions s) frames typed.instrs where
    by : (instrs : List Placed) (frames : List Frame) → AreTyped (body_of s) (Some (body_of s).entry) (map (point_of s) instrs) frames → Stops instrs
    by [] [] is = absurd (none-some _ (sym is))
    by [] (frame ∷ frames) is = absurd is
    by (placed ∷ instrs) frames is = stops_from (body_of s) (Some (body_of s).entry) placed instrs frames is

-- ---- a method by itself

pub alone_ends : (s : Scope) (class : ℕ) (instrs : List Placed) (frames : List Frame) → length frames ≡ length instrs → Stops instrs
    → EndsStill (alone_points s class instrs frames)
alone_ends s class [] frames many stops = absurd stops
alone_ends s class (placed ∷ instrs) [] many stops = absurd (omega (arith, many))
alone_ends s class (placed ∷ []) (frame ∷ []) many stops = falls_same (number_at s) placed.instr ∙ stops
alone_ends s class (placed ∷ []) (frame ∷ other ∷ frames) many stops = absurd (omega (arith, many))
alone_ends s class (placed ∷ second ∷ instrs) (frame ∷ []) many stops = absurd (omega (arith, many))
alone_ends s class (placed ∷ second ∷ instrs) (frame ∷ other ∷ frames) many stops =
    alone_ends s class (second ∷ instrs) (other ∷ frames) (omega (arith, many)) stops

-- ---- a method in its place

returns_end : (t : Setting) (at : ℕ) (typed : Frame) (behind : ℕ) → EndsStill (return_points t at typed behind)
returns_end t at typed behind =
    append_still
    (map (λ (n : Narrowing). point_in t at (record typed { stack = typed.stack ++ n.above }) n.instr) (own_narrowing t.coded.scope))
    (point_in t at typed (Goto behind) ∷ []) refl

own_ends : (t : Setting) (placed : Placed) (frame : Frame) → falls_through placed.instr ≡ false → EndsStill (instr_points t placed frame)
own_ends t placed frame still = by t.behind refl placed.instr refl where
  by : (behind : Option ℕ) → t.behind ≡ behind → (instr : Instr) → placed.instr ≡ instr → EndsStill (instr_points t placed frame)
  by None e instr is = rw (e) (falls_set t placed.instr ∙ still)
  by (Some behind) e (Return kind) is = rw (e, is) (returns_end t placed.at (set_frame t frame) behind)
  by (Some behind) e instr is = rw (e, is) (falls_set t instr ∙ ap falls_through (sym is) ∙ still)

-- what is known of each method
pub record StopsSo (s : Scope) (frames : List Frame) : Type 0 where
  pub one_each : length frames ≡ length (instructions s)
  pub stops : Stops (instructions s)

module _ {classes : Classes} {typed : FolderFrames} {host : MethodAt}
    (each : (at : MethodAt) (s : Scope) (frames : List Frame) → HasFrames classes typed at s frames → StopsSo s frames) where
  pub expanded_ends : {chain : List MethodAt} {from : MethodAt} {instrs : List Placed} {e : Expansion} → Expands classes typed host chain from instrs e
      → (frames : List Frame) → length frames ≡ length instrs → Stops instrs
      → (t : Setting) (number unit : ℕ)
      → EndsStill (points_from t number unit instrs frames e)
  expanded_ends (expands_none chain from) frames many stops t number unit = absurd stops
  expanded_ends (expands_stays chain from placed instrs more no_callee no_site rest) [] many stops t number unit = absurd (omega (arith, many))
  expanded_ends (expands_stays chain from placed [] more no_callee no_site rest) (frame ∷ frames) many stops t number unit =
      alone_still (instr_points t placed frame) (own_ends t placed frame stops)
  expanded_ends (expands_stays chain from placed (second ∷ instrs) more no_callee no_site rest) (frame ∷ frames) many stops t number unit =
      let next = number + own_points (callee_of t) placed.instr in
      append_still (instr_points t placed frame) (points_from t next unit (second ∷ instrs) frames more)
      (expanded_ends rest frames (omega (arith, many)) stops t next unit)
  expanded_ends (expands_site chain from placed instrs class more site rest) [] many stops t number unit = absurd (omega (arith, many))
  expanded_ends (expands_site chain from placed [] class more site rest) (frame ∷ frames) many stops t number unit =
      alone_still (instr_points t placed frame) (own_ends t placed frame stops)
  expanded_ends (expands_site chain from placed (second ∷ instrs) class more site rest) (frame ∷ frames) many stops t number unit =
      let next = number + own_points (callee_of t) placed.instr in
      append_still (instr_points t placed frame) (points_from t next unit (second ∷ instrs) frames more)
      (expanded_ends rest frames (omega (arith, many)) stops t next unit)
  expanded_ends (expands_replaced chain from placed instrs g inner more replaces has within rest) [] many stops t number unit =
      absurd (omega (arith, many))
  expanded_ends (expands_replaced chain from placed [] g inner more replaces has within rest) (frame ∷ frames) many stops t number unit =
      let own = each g.at g.scope g.frames has in
      let q = callee_setting t placed.at (set_frame t frame) number unit g inner in
      let before = points_of_entry t placed.at (set_frame t frame) g.scope unit in
      let body = points_from q (number + points_before g.scope) (unit + g.scope.part.max_locals) (instructions g.scope) g.frames inner in
      let ends = expanded_ends within g.frames own.one_each own.stops q (number + points_before g.scope) (unit + g.scope.part.max_locals) in
      alone_still (before ++ body) (append_still before body ends)
  expanded_ends (expands_replaced chain from placed (second ∷ instrs) g inner more replaces has within rest) (frame ∷ frames) many stops t number unit =
      let q = callee_setting t placed.at (set_frame t frame) number unit g inner in
      let before = points_of_entry t placed.at (set_frame t frame) g.scope unit in
      let body = points_from q (number + points_before g.scope) (unit + g.scope.part.max_locals) (instructions g.scope) g.frames inner in
      let next = number + points_of_callee g inner in
      let free = unit + g.scope.part.max_locals + units_in inner in
      append_still (before ++ body) (points_from t next free (second ∷ instrs) frames more)
      (expanded_ends rest frames (omega (arith, many)) stops t next free)
