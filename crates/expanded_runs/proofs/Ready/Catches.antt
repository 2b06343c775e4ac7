-- The handlers around what stands in flat code are the host's: what their points have of objects of sites was there before.
use Rattle.std.proofs.Common.{◌≡◌, ◌+◌, ◌<◌, ◌≤◌, ℕ, zero, suc, List, [], ◌∷◌, length, map, slice_get, Option, Some, None, IsTrue, sym, ap, subst, ◌∙◌, arith}
use Rattle.std.specs.List.{AllByRecursion}
use Rattle.std.proofs.lemmas.List.{length-map}
use Rattle.std.proofs.lemmas.Option.{none-some, same_Some, slice_get_within}
use Rattle.class_model.specs.Laws.Lists.{AllByRecursion-weaker}
use Rattle.class_model.specs.declared.class_file.MethodAt.{MethodAt}
use Rattle.class_model.specs.declared.frame.Frame.{Frame}
use Rattle.class_model.specs.declared.frame.VType.{VType}
use Rattle.class_model.specs.declared.frame.VType.TheVariants as types
use Rattle.class_model.specs.declared.instr.Placed.{Placed}
use Rattle.class_tree.specs.Headers.{Classes, Headers, Name, headers_of}
use Rattle.expanded_code.specs.Alone.{number_in}
use Rattle.expanded_code.specs.Expanded.{Setting, expanded, set_frame, set_type}
use Rattle.expanded_code.specs.Expansions.{Coded, Expansion}
use Rattle.expanded_runs.proofs.Ready.Comes.{CatchKept, FrameThere, set_site, top_no_site}
use Rattle.expanded_runs.proofs.Ready.RowKeeps.{local_outside, local_set, new_before}
use Rattle.expanded_runs.proofs.Runs.Positions.{Standing, frames_of, host_standing, inner_setting, instrs_of, start_of}
use Rattle.expanded_runs.proofs.Runs.Standings.{IsStanding, Stands, callee_stands, host_stands}
use Rattle.expanded_runs.proofs.TypedAloneNumbers.{frame_found}
use Rattle.expanded_runs.proofs.Types.Edges.{set_unit}
use Rattle.expanded_runs.proofs.Types.FrameFacts.{FrameFacts, frame_fits, has_room, own_long}
use Rattle.expanded_runs.proofs.Types.Handlers.{callee_before, host_caught}
use Rattle.expanded_runs.proofs.Types.OwnPoints.{TypingLaws, instr_there, own_headers}
use Rattle.expanded_runs.proofs.Types.Starts.{start_typed}
use Rattle.expanded_runs.proofs.Types.Units.{get_inside, inside, outside, where_is}
use Rattle.flow_code.specs.ReadTypes.{is_site_object}
use Rattle.flow_code.specs.TypedFrames.{FolderFrames}
use Rattle.flow_code.specs.declared.handlers.FlatHandler.{FlatHandler}
use Rattle.member_link.specs.Bodies.{catch_frame, caught_type}
use Rattle.member_link.specs.BodyTyping.{GoesInto}
use Rattle.member_link.specs.Rows.FrameAssignability.{IsFrameAssignable}
use Rattle.member_link.specs.Rows.Operands.{IsUninitialised}
use Rattle.member_link.specs.Scope.{Scope, instructions}
use Rattle.same_runs.specs.FlatBodies.{caught_class}
use Rattle.type_rules.specs.MethodBodies.{body_of}
use Rattle.type_rules.specs.Verified.{TypesFolder}

caught_known : (class : Option Name) (n : ℕ) (type : VType) → slice_get (caught_type class ∷ []) n ≡ Some type → IsUninitialised type → ⊥
caught_known None zero type is new = subst IsUninitialised (sym (same_Some types.Top type is)) new
caught_known (Some name) zero type is new = subst IsUninitialised (sym (same_Some (types.Object name) type is)) new
caught_known class (suc n) type is new = none-some type is

module _ (laws : TypingLaws) {classes : Classes} {typed : FolderFrames} (folder : TypesFolder classes typed) (facts : FrameFacts classes typed)
    (host : Coded) (e : Expansion) (stands : (chain : List MethodAt) (p : Standing) → IsStanding host e chain p → Stands classes typed host e chain p)
    (s : Scope) (headers : s.headers ≡ headers_of classes) where
  -- the frame of an instruction of a method that stands there
  pub frame_there : {chain : List MethodAt} {p : Standing} → IsStanding host e chain p → (k : ℕ) (frame : Frame)
      → slice_get (frames_of p) k ≡ Some frame
      → FrameThere (expanded host e) (start_of p k) (set_frame p.setting frame)
  frame_there standing k frame is =
      let placed = instr_there laws folder facts host e stands s headers standing k frame is in
      let start = start_typed facts host e stands standing k placed.0 frame placed.1 is in
      record { point = start.0; is = start.1; typed = start.2 }

  -- What a handler's point has of objects of sites stands in these locals, in units of the host.
  pub record Catches (locals : List VType) (target : ℕ) : Type 0 where
    pub to : Frame
    pub there : FrameThere (expanded host e) target to
    pub kept : (n : ℕ) (type : VType) → slice_get to.locals n ≡ Some type → IsTrue (is_site_object (expanded host e) type)
        → (n < host.scope.part.max_locals) × (slice_get locals n ≡ Some type)
    pub none : (n : ℕ) (type : VType) → slice_get to.stack n ≡ Some type → ¬ IsTrue (is_site_object (expanded host e) type)

  -- ---- of the host

  module _ (k : ℕ) (placed : Placed) (frame : Frame) (is : slice_get (instrs_of (host_standing host e)) k ≡ Some placed)
      (has : slice_get (frames_of (host_standing host e)) k ≡ Some frame) where
    abbrev t : Setting
    t = (host_standing host e).setting

    one_catches : (class : Option Name) (to : ℕ)
        → GoesInto (body_of host.scope) host.frames (Some (catch_frame frame (caught_class class))) to
        → Catches (set_frame t frame).locals (t.number to)
    one_catches class to into = record {
      to = set_frame t into.stated;
      there =
          subst (λ (n : ℕ). FrameThere (expanded host e) n (set_frame t into.stated)) (sym ((stands [] _ host_stands).numbers to))
          (frame_there host_stands (number_in (instructions host.scope) to) into.stated found);
      kept = λ n type at site. elim (where_is 0 (length into.stated.locals) n) [
        | outside out ↦
            let below = sym (local_outside t into.stated fits_to n out) ∙ at in
            let top = (has_room facts host e stands host_stands).tops.each n (omega arith) (slice_get_within t.below.locals n type below) in
            absurd (top_no_site (expanded host e) type (same_Some type types.Top (sym below ∙ top)) site)
        | inside m place within ↦
            let inner = get_inside 0 (map (set_type t) into.stated.locals) t.below.locals (omega (arith, fits_to, long_set)) m
            (omega (arith, within, long_set)) in
            let one = set_unit (expanded host e) t into.stated.locals m type
            (sym inner ∙ ap (slice_get (set_frame t into.stated).locals) (sym place) ∙ at) in
            let new = set_site (expanded host e) t one.0 (subst (λ (x : VType). IsTrue (is_site_object (expanded host e) x)) one.2 site) in
            let before = new_before s.headers frame.locals into.stated.locals own.locals m one.0 new one.1 in (
              omega (arith, place, within, own_long facts host e stands host_stands (number_in (instructions host.scope) to) into.stated found),
              ap (slice_get (set_frame t frame).locals) place
                  ∙ local_set t frame (frame_fits facts host e stands host_stands k frame has) m one.0 before
                  ∙ ap Some (sym one.2),
            )
      ];
      none = λ n type at site.
          let one = set_unit (expanded host e) t into.stated.stack n type at in
          let new = set_site (expanded host e) t one.0 (subst (λ (x : VType). IsTrue (is_site_object (expanded host e) x)) one.2 site) in
          caught_known (caught_class class) n one.0
          (new_before s.headers (caught_type (caught_class class) ∷ []) into.stated.stack own.stack n one.0 new one.1) new;
    } where
      own : IsFrameAssignable s.headers (catch_frame frame (caught_class class)) into.stated
      own =
          subst (λ (f : Frame). IsFrameAssignable s.headers f into.stated)
          (same_Some into.frame (catch_frame frame (caught_class class)) (sym into.goes_is))
          (subst (λ (h : Headers). IsFrameAssignable h into.frame into.stated) (own_headers laws folder facts host e stands s headers host_stands)
          into.assignable)

      found : slice_get host.frames (number_in (instructions host.scope) to) ≡ Some into.stated
      found = frame_found host.scope (instructions host.scope) host.frames to into.stated into.is_at

      fits_to : t.unit + length into.stated.locals ≤ length t.below.locals
      fits_to = frame_fits facts host e stands host_stands (number_in (instructions host.scope) to) into.stated found

      long_set : length (map (set_type t) into.stated.locals) ≡ length into.stated.locals
      long_set = length-map into.stated.locals (set_type t)

    host_catches : AllByRecursion (λ (handler : FlatHandler). Catches (set_frame t frame).locals handler.to) (t.handlers placed.at)
    host_catches =
        host_caught laws folder facts host e stands s headers k placed frame is has
        (λ (handler : FlatHandler). Catches (set_frame t frame).locals handler.to) one_catches

  -- ---- of each

  all_catch : {chain : List MethodAt} {p : Standing} → IsStanding host e chain p → (k : ℕ) (placed : Placed) (frame : Frame)
      → slice_get (instrs_of p) k ≡ Some placed
      → slice_get (frames_of p) k ≡ Some frame
      → AllByRecursion (λ (handler : FlatHandler). Catches (set_frame p.setting frame).locals handler.to) (p.setting.handlers placed.at)
  all_catch host_stands k placed frame is has = host_catches k placed frame is has
  all_catch (callee_stands {p = p} k_at call before g inner below at) k placed frame is has =
      AllByRecursion-weaker (λ (handler : FlatHandler). Catches (set_frame p.setting before).locals handler.to)
      (λ (handler : FlatHandler). Catches (set_frame (inner_setting p k_at call before g inner) frame).locals handler.to)
      (λ handler catches. record {
        to = catches.to;
        there = catches.there;
        kept = λ n type there site.
            let found = catches.kept n type there site in (
              found.0,
              callee_before laws folder facts host e stands s headers k_at call before g inner below at k frame has n found.0 ∙ found.1,
            );
        none = catches.none;
      }) (p.setting.handlers call.at) (all_catch below k_at call before at.is at.has_frame)

  -- Each handler around an instruction, from locals that are the same in units of the host.
  pub handlers_kept : {chain : List MethodAt} {p : Standing} → IsStanding host e chain p → (k : ℕ) (placed : Placed) (frame : Frame)
      → slice_get (instrs_of p) k ≡ Some placed
      → slice_get (frames_of p) k ≡ Some frame
      → (others : List VType)
      → ((n : ℕ) → n < host.scope.part.max_locals → slice_get others n ≡ slice_get (set_frame p.setting frame).locals n)
      → AllByRecursion (λ (handler : FlatHandler). CatchKept (expanded host e) others handler.to) (p.setting.handlers placed.at)
  handlers_kept {p = p} standing k placed frame is has others same =
      AllByRecursion-weaker (λ (handler : FlatHandler). Catches (set_frame p.setting frame).locals handler.to)
      (λ (handler : FlatHandler). CatchKept (expanded host e) others handler.to)
      (λ handler catches. record {
        to = catches.to;
        there = catches.there;
        kept = λ n type there site.
            let found = catches.kept n type there site in
            same n found.0 ∙ found.1;
        none = catches.none;
      }) (p.setting.handlers placed.at) (all_catch standing k placed frame is has)
