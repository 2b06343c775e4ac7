-- Where what stands for an instruction begins, flat code has a point with the handlers of the instruction.
use Rattle.std.proofs.Common.{◌≡◌, ◌+◌, ◌≤◌, ℕ, Bool, true, false, List, [], ◌∷◌, ◌++◌, length, map, reverse, slice_get, Option, Some, None, refl, sym, ap, subst, ◌∙◌, arith}
use Rattle.std.specs.List.{AllByRecursion}
use Rattle.std.proofs.lemmas.Option.{slice_get_within}
use Rattle.class_model.specs.Laws.Lists.{none_behind}
use Rattle.class_model.specs.declared.class_file.MethodAt.{MethodAt}
use Rattle.class_model.specs.declared.frame.Frame.{Frame}
use Rattle.class_model.specs.declared.instr.Instr.{Instr}
use Rattle.class_model.specs.declared.instr.Instr.TheVariants.{Goto, Return}
use Rattle.class_model.specs.declared.instr.Placed.{Placed}
use Rattle.expanded_code.specs.ExpandAnswers.{IsExpanded}
use Rattle.expanded_code.specs.Expanded.{Argument, Narrowing, Setting, arguments, callee_setting, expanded, frame_behind_stores, instr_points, own_narrowing, point_in, points_before, points_from, points_of_entry, return_points, set_frame, set_instr, store_points, test_points, tests_receiver}
use Rattle.expanded_code.specs.Expansions.{Coded, Expands, Expansion}
use Rattle.expanded_code.specs.Sites.{HasFrames}
use Rattle.expanded_runs.proofs.AloneProgram.{EachTyped, OneEach}
use Rattle.expanded_runs.proofs.Runs.FlatCodes.{code_after, code_before, point_after}
use Rattle.expanded_runs.proofs.Runs.FlatHandlers.{begin_within}
use Rattle.expanded_runs.proofs.Runs.FlatOps.{catches_in}
use Rattle.expanded_runs.proofs.Runs.PositionLaws.{Fits, fits_none, fits_replaced, fits_site, fits_stays, length_fits, part_stands, points_at, slice_left}
use Rattle.expanded_runs.proofs.Runs.Positions.{Becomes, Standing, becomes, block_of, frames_of, instrs_of, start_of}
use Rattle.expanded_runs.proofs.Runs.Setup.{IsSetup, Setup, after, before}
use Rattle.expanded_runs.proofs.Runs.StandingLaws.{BecomesAs, as_many, becomes_as, expands_fit, has_first, it_is_replaced, it_makes_site, it_remains, stands_so}
use Rattle.expanded_runs.proofs.Runs.Standings.{IsStanding, Stands, host_stands}
use Rattle.flow_code.specs.FlatCode.{FlatCode}
use Rattle.flow_code.specs.declared.handlers.FlatHandler.{FlatHandler}
use Rattle.flow_code.specs.declared.point.Point.{Point as FlatPoint}
use Rattle.member_link.specs.Machine.Codes.{method_code}
use Rattle.member_link.specs.Machine.Programs.{Code, Point, code_at, point_at}
use Rattle.member_link.specs.Scope.{Scope, instructions}
use Rattle.same_runs.specs.Flats.{flat_catch, flat_code}
use Rattle.same_runs.specs.Laws.FlatRuns.{flat_run_point}

-- ---- the first of some points

-- points begin with one that has these handlers
pub record Begins (points : List FlatPoint) (handlers : List FlatHandler) : Type 0 where
  pub point : FlatPoint
  pub is : slice_get points 0 ≡ Some point
  pub same : point.handlers ≡ handlers

begins_left : {handlers : List FlatHandler} (ones others : List FlatPoint) → Begins ones handlers → Begins (ones ++ others) handlers
begins_left ones others first = record { point = first.point; is = slice_left ones others 0 first.point first.is; same = first.same }

returned_begins : (t : Setting) (at : ℕ) (typed : Frame) (behind : ℕ) → Begins (return_points t at typed behind) (t.handlers at)
returned_begins t at typed behind = by (own_narrowing t.coded.scope) refl where
  by : (all : List Narrowing) → own_narrowing t.coded.scope ≡ all → Begins (return_points t at typed behind) (t.handlers at)
  by [] is = record { point = point_in t at typed (Goto behind); is = rw (is) refl; same = refl }
  by (n ∷ all) is = record { point = point_in t at (record typed { stack = typed.stack ++ n.above }) n.instr; is = rw (is) refl; same = refl }

instr_begins : (t : Setting) (placed : Placed) (frame : Frame) → Begins (instr_points t placed frame) (t.handlers placed.at)
instr_begins t placed frame = by t.behind refl placed.instr refl where
  itself : instr_points t placed frame ≡ point_in t placed.at (set_frame t frame) (set_instr t placed.instr) ∷ []
      → Begins (instr_points t placed frame) (t.handlers placed.at)
  itself is = record {
    point = point_in t placed.at (set_frame t frame) (set_instr t placed.instr);
    is = ap (λ (all : List FlatPoint). slice_get all 0) is;
    same = refl;
  }

  by : (behind : Option ℕ) → t.behind ≡ behind → (instr : Instr) → placed.instr ≡ instr
      → Begins (instr_points t placed frame) (t.handlers placed.at)
  by None b instr i = itself (rw (b) refl)
  by (Some behind) b (Return kind) i = rw (b, i) (returned_begins t placed.at (set_frame t frame) behind)
  by (Some behind) b instr i = itself (rw (b, i) refl)

-- what stands before a callee begins with such a point, or there is nothing
data Entry (handlers : List FlatHandler) : List FlatPoint → Type 0 where
  nothing_stands : Entry handlers []
  something_stands : {points : List FlatPoint} → Begins points handlers → Entry handlers points

entry_of : (t : Setting) (at : ℕ) (frame : Frame) (callee : Scope) (unit : ℕ) → Entry (t.handlers at) (points_of_entry t at frame callee unit)
entry_of t at frame callee unit = stored (reverse (arguments callee unit)) where
  tested : (frame : Frame) → Entry (t.handlers at) (test_points t at frame callee unit)
  tested frame = by (tests_receiver callee) refl where
    by : (tests : Bool) → tests_receiver callee ≡ tests → Entry (t.handlers at) (test_points t at frame callee unit)
    by false is = rw (is) nothing_stands
    by true is = rw (is) (something_stands (record { point = _; is = refl; same = refl }))

  stored : (all : List Argument)
      → Entry (t.handlers at) (store_points t at frame all ++ test_points t at (frame_behind_stores frame all) callee unit)
  stored [] = tested frame
  stored (argument ∷ others) = something_stands (record { point = _; is = refl; same = refl })

entry_begins : {handlers : List FlatHandler} {entry : List FlatPoint} (body : List FlatPoint) → Entry handlers entry → Begins body handlers
    → Begins (entry ++ body) handlers
entry_begins body nothing_stands inside = inside
entry_begins body (something_stands {points = points} begins) inside = begins_left points body begins

-- the points of a method begin with one that has the handlers of some offset
pub record BeginsAt (t : Setting) (points : List FlatPoint) : Type 0 where
  pub at : ℕ
  pub begins : Begins points (t.handlers at)

first_begins : (t : Setting) (number unit : ℕ) {instrs : List Placed} {frames : List Frame} {e : Expansion}
    → Fits instrs frames e
    → (start : Placed) → slice_get instrs 0 ≡ Some start
    → BeginsAt t (points_from t number unit instrs frames e)
first_begins t number unit fits_none start starts = absurd cc
first_begins t number unit (fits_stays placed frame fits) start starts = record { at = placed.at; begins = begins_left _ _ (instr_begins t placed frame) }
first_begins t number unit (fits_site placed frame class fits) start starts =
    record { at = placed.at; begins = begins_left _ _ (instr_begins t placed frame) }
first_begins t number unit (fits_replaced {inner = inner} placed frame g first first_is within fits) start starts =
    let own = callee_setting t placed.at (set_frame t frame) number unit g inner in
    let body = points_from own (number + points_before g.scope) (unit + g.scope.part.max_locals) (instructions g.scope) g.frames inner in
    let inside = first_begins own (number + points_before g.scope) (unit + g.scope.part.max_locals) within first first_is in
    record {
      at = placed.at;
      begins = begins_left _ _ (entry_begins body (entry_of t placed.at (set_frame t frame) g.scope unit) inside.begins);
    }

-- ---- in the flat code of a host

module _ (each : EachTyped) (one : OneEach) (u : Setup) (is_setup : IsSetup u) (host : Coded) (e : Expansion)
    (is_flat : u.flats host.at ≡ Some (expanded host e))
    (has : HasFrames u.classes u.typed host.at host.scope host.frames)
    (expands : Expands u.classes u.typed host.at [] host.at (instructions host.scope) e) where
  stands : {chain : List MethodAt} {p : Standing} → IsStanding host e chain p → Stands u.classes u.typed host e chain p
  stands standing = stands_so each one u.classes u.typed is_setup.types host e has expands standing

  -- what stands for the instruction of a number
  points_begin : {chain : List MethodAt} {p : Standing} (standing : IsStanding host e chain p) (k : ℕ) (placed : Placed) (frame : Frame)
      → slice_get (instrs_of p) k ≡ Some placed
      → (b : Becomes)
      → BecomesAs u.classes u.typed host.at chain p.setting.coded.at placed.at b
      → Begins (points_at p.setting (start_of p k) (block_of p k) placed frame b) (p.setting.handlers placed.at)
  points_begin {p = p} standing k placed frame there _ (it_remains no_call no_site) = instr_begins p.setting placed frame
  points_begin {p = p} standing k placed frame there _ (it_makes_site site) = instr_begins p.setting placed frame
  points_begin {p = p} standing k placed frame there _ (it_is_replaced {g = g} {inner = inner} call own within) =
      let start = has_first each one u.classes u.typed is_setup.types g own in
      let fits = expands_fit each one u.classes u.typed is_setup.types g.frames within (as_many each one u.classes u.typed is_setup.types g own) in
      let t = callee_setting p.setting placed.at (set_frame p.setting frame) (start_of p k) (block_of p k) g inner in
      let inside = first_begins t (start_of p k + points_before g.scope) (block_of p k + g.scope.part.max_locals) fits start.0 start.1 in
      entry_begins
      (points_from t (start_of p k + points_before g.scope) (block_of p k + g.scope.part.max_locals) (instructions g.scope) g.frames inner)
      (entry_of p.setting placed.at (set_frame p.setting frame) g.scope (block_of p k)) inside.begins

  -- The flat code has a point there, with the handlers of the instruction.
  pub point_there : {chain : List MethodAt} {p : Standing} → IsStanding host e chain p → (k : ℕ) (placed : Placed)
      → slice_get (instrs_of p) k ≡ Some placed
      → (point : Point) × (point_at (after u) host.at (start_of p k) ≡ Some point) × (point.catches ≡ catches_in p placed.at)
  point_there {chain} {p} standing k placed there = by (slice_get (frames_of p) k) refl where
    s : Stands u.classes u.typed host e chain p
    s = stands standing

    by : (frame : Option Frame) → slice_get (frames_of p) k ≡ frame
        → (point : Point) × (point_at (after u) host.at (start_of p k) ≡ Some point) × (point.catches ≡ catches_in p placed.at)
    by None none =
        let many = length_fits s.fits in
        let behind = none_behind (frames_of p) k none in
        let within = slice_get_within (instrs_of p) k placed there in
        absurd (omega (arith, many, behind, within))
    by (Some frame) has_frame =
        let part = part_stands (expanded host e).points p.setting p.first p.block s.fits k placed frame there has_frame s.points in
        let known = becomes_as chain p.setting.coded.at (instrs_of p) p.expansion s.expands k placed there in
        let first = points_begin standing k placed frame there (becomes p.expansion k) known in
        let here : start_of p k + 0 ≡ start_of p k = omega arith in
        let at_number = subst (λ (n : ℕ). slice_get (expanded host e).points n ≡ Some first.point) here (part 0 first.point first.is) in
        let within = begin_within host e (stands host_stands).fits standing placed.at in (
          flat_run_point u.classes u.links host.scope (expanded host e) first.point,
          point_after u is_setup host.at (expanded host e) host.scope is_flat has.is_scope (start_of p k) first.point at_number
              (subst (AllByRecursion (λ (handler : FlatHandler). handler.to ≤ length (expanded host e).points)) (sym first.same) within),
          ap (map flat_catch) first.same,
        )

-- ---- by the flat code of a method

module _ (u : Setup) (at : MethodAt) (flat : FlatCode) (is_flat : u.flats at ≡ Some flat) (expanded_is : IsExpanded u.classes u.typed at flat) where
  pub host_flat : u.flats expanded_is.host.at ≡ Some (expanded expanded_is.host expanded_is.expansion)
  host_flat = ap u.flats expanded_is.own ∙ is_flat ∙ ap Some expanded_is.is

  pub host_frames : HasFrames u.classes u.typed expanded_is.host.at expanded_is.host.scope expanded_is.host.frames
  host_frames = subst (λ (a : MethodAt). HasFrames u.classes u.typed a expanded_is.host.scope expanded_is.host.frames) (sym expanded_is.own)
      expanded_is.is_host

  pub host_expands : Expands u.classes u.typed expanded_is.host.at [] expanded_is.host.at (instructions expanded_is.host.scope) expanded_is.expansion
  host_expands = subst (λ (a : MethodAt). Expands u.classes u.typed a [] a (instructions expanded_is.host.scope) expanded_is.expansion)
      (sym expanded_is.own) expanded_is.expands

module _ (u : Setup) (is_setup : IsSetup u) (at : MethodAt) (flat : FlatCode) (is_flat : u.flats at ≡ Some flat)
    (expanded_is : IsExpanded u.classes u.typed at flat) where
  -- a host runs its own code in the first, and its flat code in the second
  pub host_code : code_at (before u) expanded_is.host.at ≡ Some (method_code u.links expanded_is.host.scope)
  host_code = code_before u is_setup expanded_is.host.at expanded_is.host.scope (host_frames u at flat is_flat expanded_is).is_scope

  pub flat_code_at : (code : Code) × (code_at (after u) at ≡ Some code) × (code.locals ≡ flat.locals)
  flat_code_at = (
    flat_code u.classes u.links expanded_is.host.scope flat,
    code_after u is_setup at flat expanded_is.host.scope is_flat expanded_is.is_host.is_scope,
    refl,
  )

  pub catches_there : EachTyped → OneEach → (chain : List MethodAt) (p : Standing) (k : ℕ) (placed : Placed)
      → IsStanding expanded_is.host expanded_is.expansion chain p
      → slice_get (instrs_of p) k ≡ Some placed
      → (point : Point) × (point_at (after u) at (start_of p k) ≡ Some point) × (point.catches ≡ catches_in p placed.at)
  catches_there each one chain p k placed standing there =
      subst (λ (a : MethodAt). (point : Point) × (point_at (after u) a (start_of p k) ≡ Some point) × (point.catches ≡ catches_in p placed.at))
      expanded_is.own
      (point_there each one u is_setup expanded_is.host expanded_is.expansion (host_flat u at flat is_flat expanded_is)
      (host_frames u at flat is_flat expanded_is) (host_expands u at flat is_flat expanded_is) standing k placed there)
