use Rattle.std.specs.Prelude.{◌≡◌, ◌+◌, ◌<◌, ◌≤◌, ◌==◌, refl, ℕ, suc, Bool, true, false, List, [], ◌∷◌, ◌++◌, map, length, slice_get, Option, Some, None, IfSome, option_map}
use Rattle.std.specs.List.{AllByRecursion}
use Rattle.std.proofs.Common.{arith, inl, ap, sym, ◌∙◌, subst}
use Rattle.std.proofs.lemmas.List.{length-map}
use Rattle.std.proofs.lemmas.Option.{slice_get-map, slice_get_within}
use Rattle.class_model.specs.Laws.Lists.{AllByRecursion-weaker, at_index, none_behind}
use Rattle.class_model.specs.PoolChecks.{class_at}
use Rattle.class_model.specs.declared.class_file.Handler.{Handler}
use Rattle.class_model.specs.declared.frame.Frame.{Frame}
use Rattle.class_model.specs.declared.frame.VType.{VType}
use Rattle.class_model.specs.declared.instr.Placed.{Placed}
use Rattle.class_tree.specs.Headers.{Name, Headers}
use Rattle.class_tree.specs.Names.{throwable}
use Rattle.member_link.specs.Assignability.{to_same}
use Rattle.member_link.specs.Bodies.{BodyPoint, item_instr, item_targets, catch_frame, flows_on, frame_behind}
use Rattle.member_link.specs.BodyTyping.{RowHolds, AreInOrder, GoesInto, GoesToStated, HasFrames, PointFits, frame_at}
use Rattle.member_link.specs.Machine.Codes.{CodePoint, number_at, item_op, catch_in, catches_at, code_point, code_points, covers, method_code}
use Rattle.member_link.specs.Machine.Programs.{Program, Catch, Point, Links, number_of_first}
use Rattle.member_link.specs.Rows.Assigning.{IsFrameAssignableIn}
use Rattle.member_link.specs.Rows.FrameAssignability.{AreAssignable}
use Rattle.member_link.specs.Rows.Readings.{reads_itself}
use Rattle.member_link.specs.Rows.Row.{access_aside}
use Rattle.member_link.specs.Rows.Table.{row_of}
use Rattle.member_link.specs.Scope.{Scope, instructions, row_scope}
use Rattle.typed_programs.proofs.Folders.{some_of}
use Rattle.typed_programs.proofs.PlacedFrames.{number_found, FrameThere, frame_there, frame_placed}
use Rattle.type_rules.specs.Laws.InstructionOrder.{Ascend, ascend}
use Rattle.type_rules.specs.Checks.{IsTypedAt, MayFlowIn, frame_before}
use Rattle.type_rules.specs.Handlers as handlers
use Rattle.type_rules.specs.MethodBodies.{body_of, point_of}
use Rattle.type_rules.specs.Stated.{stated_at}
use Rattle.type_rules.specs.Typed.{flows_into}
use Rattle.typed_runs.specs.LinkedInstrs.{IsLinkedAt}
use Rattle.typed_runs.specs.TypedPoints.{Typing, LeadsTo, LeadsToHandler, TypedPoint}

-- what the laws of typing say of a method's code
pub record IsTypedCode (s : Scope) (frames : List Frame) : Type 0 where
  pub count : length frames ≡ length (body_of s).points
  pub each : (number : ℕ) (point : BodyPoint)
      → slice_get (body_of s).points number ≡ Some point
      → (frame : Frame) × (slice_get frames number ≡ Some frame) × IsTypedAt (body_of s) (flows_into (body_of s) frames number) point
      frame
  pub past : flows_into (body_of s) frames (length (body_of s).points) ≡ None
  pub has : HasFrames (body_of s) frames
  pub edges : AllByRecursion (GoesToStated (body_of s) frames) (body_of s).points
  pub order : AreInOrder (body_of s).points

-- ---- assignability is reflexive

pub all_to_same : (headers : Headers) (ts : List VType) → AreAssignable headers ts ts
all_to_same headers [] = tt
all_to_same headers (t ∷ ts) = (to_same t, all_to_same headers ts)

pub to_itself : (headers : Headers) (major : ℕ) (f : Frame) → IsFrameAssignableIn headers major f f
to_itself headers major f = record { locals = all_to_same headers f.locals; stack = all_to_same headers f.stack; keeps_this = λ is. is }

module _ (s : Scope) (frames : List Frame) (typed : IsTypedCode s frames) where
  abbrev pub t : Typing
  t = record { scope = row_scope s; frames = frames }

  ascends : Ascend (instructions s)
  ascends = ascend s (instructions s) typed.order

  -- the point of an instruction in the body
  in_body : (number : ℕ) (placed : Placed) → slice_get (instructions s) number ≡ Some placed
      → slice_get (body_of s).points number ≡ Some (point_of s placed)
  in_body number placed is = slice_get-map (point_of s) (instructions s) number ∙ (rw is refl)

  -- ---- edges

  -- what flows into a frame may stand for it
  pub flows_lead : (number : ℕ) (flows : Frame) → flows_into (body_of s) frames number ≡ Some flows → (placed : Placed)
      → slice_get (instructions s) number ≡ Some placed → LeadsTo t number flows
  flows_lead number flows into placed is =
      let e = typed.each number (point_of s placed) (in_body number placed is) in
      by e.0 e.1 (subst (λ (o : Option Frame). frame_before o (stated_at s placed.at) ≡ Some e.0) into e.2.before_is)
      (subst (λ (o : Option Frame). MayFlowIn (row_scope s) o (stated_at s placed.at)) into e.2.holds.0) where
        by_stated : (frame : Frame) → slice_get frames number ≡ Some frame → (o : Option Frame) → frame_before (Some flows) o ≡ Some frame
            → MayFlowIn (row_scope s) (Some flows) o → LeadsTo t number flows
        by_stated frame there (Some stated) before may =
            let same : stated ≡ frame = some_of before in
            record {
              to = frame;
              is_frame = there;
              assignable = subst (λ (f : Frame). IsFrameAssignableIn s.headers s.class.major flows f)
                  same may;
            }
        by_stated frame there None before may =
            let same : flows ≡ frame = some_of before in
            record {
              to = frame;
              is_frame = there;
              assignable = subst (λ (f : Frame). IsFrameAssignableIn s.headers s.class.major flows f)
                  same (to_itself s.headers s.class.major flows);
            }

        by : (frame : Frame) → slice_get frames number ≡ Some frame → frame_before (Some flows) (stated_at s placed.at) ≡ Some frame
            → MayFlowIn (row_scope s) (Some flows) (stated_at s placed.at) → LeadsTo t number flows
        by frame there before may = by_stated frame there (stated_at s placed.at) before may

  -- an edge to a place goes to the point there
  pub goes_lead : (o : Option Frame) (place : ℕ) → GoesInto (body_of s) frames o place
      → IfSome o (LeadsTo t (number_at (code_points s) place))
  goes_lead o place g =
      let there : FrameThere (instructions s) frames place g.stated = frame_there s (instructions s) frames place g.stated g.is_at in
      let number : number_of_first (λ (c : CodePoint). c.place == place) (map (code_point s) (instructions s)) ≡ Some there.number =
      subst (λ a. number_of_first (λ (c : CodePoint). c.place == a) (map (code_point s) (instructions s)) ≡ Some there.number)
      there.is_place (number_found s (instructions s) ascends there.number there.placed there.is_placed) in
      let same : number_at (code_points s) place ≡ there.number = rw number refl in
      subst (λ (x : Option Frame). IfSome x (LeadsTo t (number_at (code_points s) place))) (sym g.goes_is)
      (subst (λ n. LeadsTo t n g.frame) (sym same) (record { to = g.stated; is_frame = there.is_frame; assignable = g.assignable }))

  -- ---- handlers

  abbrev pub with_number : Catch → Catch
  with_number catch = record catch { to = number_at (code_points s) catch.to }

  catch_leads : (before : Frame) (handler : Handler) → GoesInto (body_of s) frames (Some (catch_frame before (handlers.caught s handler)))
      handler.at
      → AllByRecursion (LeadsToHandler t before) (map with_number (catch_in s.class.pool handler))
  catch_leads before handler g = by (handler.catch_type == 0) refl (class_at s.class.pool handler.catch_type) refl where
    lead : (caught : Option Name) → handlers.caught s handler ≡ caught
        → LeadsTo t (number_at (code_points s) handler.at) (catch_frame before caught)
    lead caught e = goes_lead (Some (catch_frame before caught)) handler.at (subst
        (λ (c : Option Name). GoesInto (body_of s) frames (Some (catch_frame before c)) handler.at) e g)

    by : (b : Bool) → (handler.catch_type == 0) ≡ b → (c : Option Name) → class_at s.class.pool handler.catch_type ≡ c
        → AllByRecursion (LeadsToHandler t before) (map with_number (catch_in s.class.pool handler))
    by true e c d = rw e (lead (Some throwable) (rw e refl), tt)
    by false e None d = rw e (rw d tt)
    by false e (Some name) d = rw e (rw d (lead (Some name) (rw e d), tt))

  append_all : (P : Catch → Type 0) (xs ys : List Catch) → AllByRecursion P (map with_number xs) → AllByRecursion P (map with_number ys)
      → AllByRecursion P (map with_number (xs ++ ys))
  append_all P [] ys one other = other
  append_all P (x ∷ xs) ys one other = (one.0, append_all P xs ys one.1 other)

  catches_lead : (before : Frame) (at : ℕ) (hs : List Handler) → AllByRecursion
      (λ catch. GoesInto (body_of s) frames (Some (catch_frame before catch.class)) catch.to) (handlers.catches_at s at hs)
      → AllByRecursion (LeadsToHandler t before) (map with_number (catches_at s.class.pool hs at))
  catches_lead before at [] all = tt
  catches_lead before at (h ∷ hs) all = by (covers h at) refl (catches_lead before at hs) where
    by : (b : Bool) → covers h at ≡ b
        → (AllByRecursion (λ catch. GoesInto (body_of s) frames (Some (catch_frame before catch.class)) catch.to)
        (handlers.catches_at s at hs) → AllByRecursion (LeadsToHandler t before) (map with_number (catches_at s.class.pool hs at)))
        → AllByRecursion (LeadsToHandler t before) (map with_number (catches_at s.class.pool (h ∷ hs) at))
    by true e next =
        let both = rw e at all in
        rw e (append_all (LeadsToHandler t before) (catch_in s.class.pool h) (catches_at s.class.pool hs at) (catch_leads before h both.0)
        (next both.1))
    by false e next = rw e (next (rw e at all))

  -- ---- a point

  -- what an instruction leaves leads to the next one
  next_leads : (number : ℕ) (placed : Placed) (frame : Frame) → slice_get (instructions s) number ≡ Some placed
      → slice_get frames number ≡ Some frame
      → IfSome (flows_on (point_of s placed) frame) (LeadsTo t (number + 1))
  next_leads number placed frame is there = by (flows_on (point_of s placed) frame) refl where
    goes : (flows : Frame) → flows_into (body_of s) frames (suc number) ≡ Some flows → (o : Option Placed)
        → slice_get (instructions s) (suc number) ≡ o → LeadsTo t (number + 1) flows
    goes flows into (Some placed') e = subst (λ n. LeadsTo t n flows) (omega arith) (flows_lead (suc number) flows into placed' e)
    goes flows into None e =
        let end : length (instructions s) ≤ suc number = none_behind (instructions s) (suc number) e in
        let within : number < length (instructions s) = slice_get_within (instructions s) number placed is in
        let many : length (body_of s).points ≡ length (instructions s) = length-map (instructions s) (point_of s) in
        let last : length (body_of s).points ≡ suc number = omega (arith, end, within, many) in
        let no : None ≡ Some flows = sym typed.past ∙ (ap (flows_into (body_of s) frames) last ∙ into) in
        cc

    by : (o : Option Frame) → flows_on (point_of s placed) frame ≡ o → IfSome o (LeadsTo t (number + 1))
    by None e = tt
    by (Some flows) e = goes flows (rw (in_body number placed is) (rw there e)) (slice_get (instructions s) (suc number)) refl

  abbrev pub run_point : Links → Placed → Point
  run_point links placed = record {
    op = item_op links (number_at (code_points s)) (row_scope s) (item_instr placed.instr);
    catches = map with_number (catches_at s.class.pool s.part.handlers placed.at);
  }

  -- what linking says of an instruction that its row allows
  abbrev pub IsLinkedInstr : Program → Links → Placed → Type 0
  IsLinkedInstr P links placed =
      (frame : Frame) → RowHolds (row_scope s) frame (access_aside (row_of (row_scope s) frame placed.at placed.instr))
      → IsLinkedAt P (row_scope s) placed.at (item_op links (number_at (code_points s)) (row_scope s) (item_instr placed.instr))

  pub point_fits : (P : Program) (number : ℕ) (placed : Placed) → slice_get (instructions s) number ≡ Some placed
      → IsLinkedInstr P P.links placed → TypedPoint P t number (run_point P.links placed)
  point_fits P number placed is linked = record {
    frame = fits.frame;
    is_frame = there;
    scope = row_scope s;
    place = placed.at;
    item = item_instr placed.instr;
    numbered = number_at (code_points s);
    is_op = refl;
    reads = record { headers = refl; news = λ at. refl; own = inl refl };
    reading = reads_itself;
    read = tt;
    row = row;
    linked = (linked fits.frame row).linked;
    call = (linked fits.frame row).call;
    next = next_leads number placed fits.frame is there;
    targets = AllByRecursion-weaker (GoesInto (body_of s) frames (frame_behind (point_of s placed) fits.frame))
        (λ target. IfSome (frame_behind (point_of s placed) fits.frame) (LeadsTo t (number_at (code_points s) target)))
        (λ target g. goes_lead (frame_behind (point_of s placed) fits.frame) target g) (item_targets (item_instr placed.instr)) goes.0;
    handlers = catches_lead fits.frame placed.at s.part.handlers goes.1;
  } where
    fits : PointFits (body_of s) frames (point_of s placed)
    fits = at_index (PointFits (body_of s) frames) (body_of s).points number (point_of s placed) typed.has.points
        (in_body number placed is)

    one : (frame : Frame) × (slice_get frames number ≡ Some frame)
    one = let e = typed.each number (point_of s placed) (in_body number placed is) in (e.0, e.1)

    same : (frame : Frame) → frame_at (body_of s) frames placed.at ≡ Some frame → one.0 ≡ frame
    same frame at = some_of (sym (frame_placed s (instructions s) frames ascends number placed one.0 is one.1) ∙ at)

    there : slice_get frames number ≡ Some fits.frame
    there = one.1 ∙ ap Some (same fits.frame fits.is_at)

    row : RowHolds (row_scope s) fits.frame (access_aside (row_of (row_scope s) fits.frame placed.at placed.instr))
    row = record {
      operands = fits.row.operands;
      local = fits.row.local;
      depth_fits = fits.row.depth_fits;
      further = fits.row.further;
      access = tt;
    }

    edges : GoesToStated (body_of s) frames (point_of s placed)
    edges = at_index (GoesToStated (body_of s) frames) (body_of s).points number (point_of s placed) typed.edges
        (in_body number placed is)

    goes : AllByRecursion (GoesInto (body_of s) frames (frame_behind (point_of s placed) fits.frame))
        (item_targets (item_instr placed.instr))
        × AllByRecursion (λ catch. GoesInto (body_of s) frames (Some (catch_frame fits.frame catch.class)) catch.to)
        (handlers.catches_at s placed.at s.part.handlers)
    goes =
        subst (λ (f : Frame). AllByRecursion (GoesInto (body_of s) frames (frame_behind (point_of s placed) f))
        (item_targets (item_instr placed.instr))
        × AllByRecursion (λ catch. GoesInto (body_of s) frames (Some (catch_frame f catch.class)) catch.to)
        (handlers.catches_at s placed.at s.part.handlers))
        (sym (same edges.frame edges.is_at) ∙ same fits.frame fits.is_at) (edges.targets, edges.handlers)

  abbrev pub run_of : Links → CodePoint → Point
  run_of links point = record {
    op = item_op links (number_at (code_points s)) point.scope point.item;
    catches = map with_number point.catches;
  }

  pub point_typed : (P : Program) (number : ℕ) (point : Point) → slice_get (method_code P.links s).points number ≡ Some point
      → ((placed : Placed) → slice_get (instructions s) number ≡ Some placed → IsLinkedInstr P P.links placed)
      → TypedPoint P t number point
  point_typed P number point at linked = by (slice_get (instructions s) number) refl there where
    there : option_map (run_of P.links) (option_map (code_point s) (slice_get (instructions s) number)) ≡ Some point
    there = sym (slice_get-map (run_of P.links) (map (code_point s) (instructions s)) number
        ∙ ap (option_map (run_of P.links)) (slice_get-map (code_point s) (instructions s) number)) ∙ at

    by : (o : Option Placed) → slice_get (instructions s) number ≡ o
        → option_map (run_of P.links) (option_map (code_point s) o) ≡ Some point → TypedPoint P t number point
    by None e m = cc
    by (Some placed) e m = subst (λ (p : Point). TypedPoint P t number p) (some_of m) (point_fits P number placed e (linked placed e))

  -- ---- the first point

  pub entry_lead : LeadsTo t 0 (body_of s).entry
  entry_lead = by (slice_get (instructions s) 0) refl where
    by : (o : Option Placed) → slice_get (instructions s) 0 ≡ o → LeadsTo t 0 (body_of s).entry
    by (Some placed) e = flows_lead 0 (body_of s).entry refl placed e
    by None e =
        let end : length (instructions s) ≤ 0 = none_behind (instructions s) 0 e in
        let many : length (body_of s).points ≡ length (instructions s) = length-map (instructions s) (point_of s) in
        let none : length (body_of s).points ≡ 0 = omega (arith, end, many) in
        let no : None ≡ Some (body_of s).entry = sym typed.past ∙ ap (flows_into (body_of s) frames) none in
        cc

  pub as_many_points : (links : Links) → length frames ≡ length (method_code links s).points
  as_many_points links = typed.count ∙ (length-map (instructions s) (point_of s)
      ∙ sym (length-map (map (code_point s) (instructions s)) (run_of links) ∙ length-map (instructions s) (code_point s)))
