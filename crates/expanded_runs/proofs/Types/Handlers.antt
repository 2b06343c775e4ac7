-- The handlers around what stands in flat code are the host's, and each begins with what stands there: units of callees are Top in its frame.
use Rattle.flow_code.specs.ReadTypes.{read_frame, read_type}
use Rattle.same_runs.specs.TypedFlats.{MayGoToPoint}
use Rattle.std.proofs.Common.{◌≡◌, ◌≢◌, ◌==◌, ◌+◌, ◌≤◌, ◌<◌, ℕ, Bool, true, false, List, [], ◌∷◌, ◌++◌, length, map, slice_get, Option, Some, None, if◌then◌else◌, refl, sym, ap, subst, ◌∙◌, arith, inl, inr}
use Rattle.std.specs.Prelude.{IsSome}
use Rattle.std.specs.List.{AllByRecursion, flat_map}
use Rattle.std.proofs.lemmas.List.{length-map}
use Rattle.std.proofs.lemmas.Option.{same_Some, slice_get_within}
use Rattle.class_model.specs.Laws.Lists.{AllByRecursion-weaker}
use Rattle.class_model.specs.PoolChecks.{class_at}
use Rattle.class_model.specs.declared.class_file.Handler.{Handler}
use Rattle.class_model.specs.declared.class_file.MethodAt.{MethodAt}
use Rattle.class_model.specs.declared.frame.Frame.{Frame}
use Rattle.class_model.specs.declared.frame.VType.{VType}
use Rattle.class_model.specs.declared.frame.VType.TheVariants as types
use Rattle.class_model.specs.declared.instr.Placed.{Placed}
use Rattle.class_tree.specs.Headers.{Classes, Headers, Name, headers_of}
use Rattle.class_tree.specs.Names.{throwable}
use Rattle.expanded_code.specs.Alone.{handler_by, number_in}
use Rattle.expanded_code.specs.Expanded.{Setting, expanded, set_frame, set_type}
use Rattle.expanded_code.specs.Expansions.{Coded, Expansion}
use Rattle.expanded_runs.proofs.Runs.PositionLaws.{block_least}
use Rattle.expanded_runs.proofs.Runs.Positions.{IsReplacedAt, Standing, frames_of, host_standing, inner_setting, inner_standing, instrs_of}
use Rattle.expanded_runs.proofs.Runs.Standings.{IsStanding, Stands, callee_stands, host_stands}
use Rattle.expanded_runs.proofs.TypedAloneNumbers.{frame_found}
use Rattle.expanded_runs.proofs.Types.Edges.{frame_kept, placed_frame, read_this, read_unit, set_this, set_unit, unit_read}
use Rattle.expanded_runs.proofs.Types.FrameFacts.{FrameFacts, frame_fits, tops_behind, whole}
use Rattle.expanded_runs.proofs.Types.OwnPoints.{TypingLaws, edges_at, goes_to_place, one_frame, own_headers}
use Rattle.expanded_runs.proofs.Types.Units.{TopsFrom, all_assignable, as_long, each_assignable, get_inside, get_outside, has_this, inside, le_cases, outside, this_at, where_is}
use Rattle.flow_code.specs.FlatCode.{FlatCode}
use Rattle.flow_code.specs.TypedFrames.{FolderFrames}
use Rattle.flow_code.specs.declared.handlers.FlatHandler.{FlatHandler}
use Rattle.member_link.specs.Assignability.{IsAssignable, to_top}
use Rattle.member_link.specs.Bodies.{BodyCatch, catch_frame, caught_type}
use Rattle.member_link.specs.BodyTyping.{GoesInto, GoesToStated, frame_at}
use Rattle.member_link.specs.Machine.Codes.{covers}
use Rattle.member_link.specs.Rows.FrameAssignability.{IsFrameAssignable}
use Rattle.member_link.specs.Scope.{Scope, instructions}
use Rattle.same_runs.specs.FlatBodies.{caught_class}
use Rattle.type_rules.specs.Handlers.{catch_of, catches_at, caught}
use Rattle.type_rules.specs.MethodBodies.{body_of, point_of}
use Rattle.type_rules.specs.Verified.{TypesFolder}

-- ---- from the exception table

module _ (s : Scope) (number : ℕ → ℕ) (place : ℕ) (Goes : Option Name → ℕ → Type 0) (May : FlatHandler → Type 0)
    (may : (class : Option Name) (to : ℕ) → Goes (caught_class class) to → May (record { to = number to; catch_class = class })) where
  abbrev Going : BodyCatch → Type 0
  Going catch = Goes catch.class catch.to

  one_caught : (handler : Handler) (others : List FlatHandler) → Goes (caught s handler) handler.at → AllByRecursion May others
      → AllByRecursion May (handler_by s number handler ++ others)
  one_caught handler others goes rest = by (handler.catch_type == 0) refl (class_at s.class.pool handler.catch_type) refl where
    by : (any : Bool) → (handler.catch_type == 0) ≡ any → (class : Option Name) → class_at s.class.pool handler.catch_type ≡ class
        → AllByRecursion May (handler_by s number handler ++ others)
    by true any class is =
        let all : Goes (Some throwable) handler.at =
        subst (λ (b : Bool). Goes (if b then Some throwable else class_at s.class.pool handler.catch_type) handler.at) any goes in
        rw (any) (may None handler.at all, rest)
    by false any None is = rw (any, is) rest
    by false any (Some name) is =
        let one : Goes (Some name) handler.at =
        subst (λ (o : Option Name). Goes o handler.at) is
        (subst (λ (b : Bool). Goes (if b then Some throwable else class_at s.class.pool handler.catch_type) handler.at) any goes) in
        rw (any, is) (may (Some name) handler.at one, rest)

  pub all_caught : (handlers : List Handler) → AllByRecursion Going (catches_at s place handlers)
      → AllByRecursion May (flat_map (λ (handler : Handler). if covers handler place then handler_by s number handler else []) handlers)
  all_caught [] all = tt
  all_caught (handler ∷ handlers) all = by (covers handler place) refl (all_caught handlers) where
    by : (around : Bool) → covers handler place ≡ around
        → (AllByRecursion Going (catches_at s place handlers)
        → AllByRecursion May (flat_map (λ (handler : Handler). if covers handler place then handler_by s number handler else []) handlers))
        → AllByRecursion May
        (flat_map (λ (handler : Handler). if covers handler place then handler_by s number handler else []) (handler ∷ handlers))
    by true is later =
        let own : AllByRecursion Going (catch_of s handler ∷ catches_at s place handlers) =
        subst (λ (b : Bool). AllByRecursion Going (if b then catch_of s handler ∷ catches_at s place handlers else catches_at s place handlers)) is
        all in
        rw (is) (one_caught handler _ own.0 (later own.1))
    by false is later =
        let own : AllByRecursion Going (catches_at s place handlers) =
        subst (λ (b : Bool). AllByRecursion Going (if b then catch_of s handler ∷ catches_at s place handlers else catches_at s place handlers)) is
        all in
        rw (is) (later own)

-- ---- locals that are the same but for units that are Top there

-- as many units, the same before a unit, and no uninitialised this from it on
pub record SameBefore (most : ℕ) (ones others : List VType) : Type 0 where
  pub long : length others ≡ length ones
  pub same : (n : ℕ) → n < most → slice_get others n ≡ slice_get ones n
  pub no_this : (n : ℕ) → most ≤ n → slice_get others n ≢ Some types.UninitThis

module _ (flat : FlatCode) (headers : Headers) (most : ℕ) (ones others : List VType) (stack : List VType) (to : Frame)
    (is : IsFrameAssignable headers (record { locals = map (read_type flat) ones; stack = stack }) (read_frame flat to))
    (tops : TopsFrom most to.locals) (same : SameBefore most ones others) where
  long_to : length others ≡ length to.locals
  long_to =
      let all = as_long headers (map (read_type flat) ones) (map (read_type flat) to.locals) is.locals in
      omega (arith, same.long, all, length-map ones (read_type flat), length-map to.locals (read_type flat))

  each_unit : (n : ℕ) (low high : VType) → slice_get (map (read_type flat) others) n ≡ Some low
      → slice_get (map (read_type flat) to.locals) n ≡ Some high
      → IsAssignable headers low high
  each_unit n low high low_is high_is = elim (le_cases most n) [
    | inl behind ↦
        let one = read_unit flat to.locals n high high_is in
        let within = slice_get_within to.locals n one.0 one.1 in
        let top : one.0 ≡ types.Top = same_Some one.0 types.Top (sym one.1 ∙ tops.each n behind within) in
        subst (IsAssignable headers low) (sym (one.2 ∙ ap (read_type flat) top)) (to_top low)
    | inr before ↦
        let own = read_unit flat others n low low_is in
        let there = unit_read flat ones n own.0 (sym (same.same n before) ∙ own.1) in
        each_assignable headers (map (read_type flat) ones) (map (read_type flat) to.locals) is.locals n low high
        (there ∙ ap Some (sym own.2)) high_is
  ]

  pub same_before_assignable : IsFrameAssignable headers (record { locals = map (read_type flat) others; stack = stack }) (read_frame flat to)
  same_before_assignable = record {
    locals = all_assignable headers (map (read_type flat) others) (map (read_type flat) to.locals)
        (omega (arith, long_to, length-map others (read_type flat), length-map to.locals (read_type flat))) each_unit;
    stack = is.stack;
    keeps_this = λ has.
        let found = this_at (map (read_type flat) others) has in
        let own = read_unit flat others found.n types.UninitThis found.is in
        let this = read_this flat own.0 (sym own.2) in
        elim (le_cases most found.n) [
          | inl behind ↦ absurd (same.no_this found.n behind (own.1 ∙ ap Some this))
          | inr before ↦
              is.keeps_this (has_this (map (read_type flat) ones) found.n
              (unit_read flat ones found.n types.UninitThis (sym (same.same found.n before) ∙ own.1 ∙ ap Some this)))
        ];
  }

-- ---- in flat code

module _ (laws : TypingLaws) {classes : Classes} {typed : FolderFrames} (folder : TypesFolder classes typed) (facts : FrameFacts classes typed)
    (host : Coded) (e : Expansion) (stands : (chain : List MethodAt) (p : Standing) → IsStanding host e chain p → Stands classes typed host e chain p)
    (s : Scope) (headers : s.headers ≡ headers_of classes) where
  abbrev most : ℕ
  most = host.scope.part.max_locals

  -- what is the same as these locals but for units of callees may go to a handler
  pub record Catches (locals : List VType) (handler : FlatHandler) : Type 0 where
    pub goes : (others : List VType)
        → SameBefore host.scope.part.max_locals locals others
        → MayGoToPoint classes s (expanded host e)
        (Some (record {
          locals = map (read_type (expanded host e)) others;
          stack = caught_type (caught_class handler.catch_class) ∷ [];
        })) handler.to

  -- ---- of the host

  -- what holds of the place of each handler that catches holds of each handler around an instruction
  pub host_caught : (k : ℕ) (placed : Placed) (frame : Frame) → slice_get (instrs_of (host_standing host e)) k ≡ Some placed
      → slice_get (frames_of (host_standing host e)) k ≡ Some frame
      → (May : FlatHandler → Type 0)
      → ((class : Option Name) (to : ℕ)
      → GoesInto (body_of host.scope) host.frames (Some (catch_frame frame (caught_class class))) to
      → May (record { to = (host_standing host e).setting.number to; catch_class = class }))
      → AllByRecursion May ((host_standing host e).setting.handlers placed.at)
  host_caught k placed frame is has May may =
      all_caught host.scope (host_standing host e).setting.number placed.at
      (λ class to. GoesInto (body_of host.scope) host.frames (Some (catch_frame frame class)) to) May may host.scope.part.handlers
      (subst (λ (f : Frame). AllByRecursion (λ (catch : BodyCatch). GoesInto (body_of host.scope) host.frames (Some (catch_frame f catch.class)) catch.to)
      (catches_at host.scope placed.at host.scope.part.handlers)) frame_same edges.handlers)
    where
      edges : GoesToStated (body_of host.scope) host.frames (point_of host.scope placed)
      edges = edges_at laws folder facts host e stands s headers host_stands k placed frame is has

      frame_same : edges.frame ≡ frame
      frame_same = one_frame laws folder facts host e stands s headers host_stands k placed frame is has edges.frame edges.is_at

  module _ (k : ℕ) (placed : Placed) (frame : Frame) (is : slice_get (instrs_of (host_standing host e)) k ≡ Some placed)
      (has : slice_get (frames_of (host_standing host e)) k ≡ Some frame) where
    abbrev t : Setting
    t = (host_standing host e).setting

    one_goes : (class : Option Name) (to : ℕ)
        → GoesInto (body_of host.scope) host.frames (Some (catch_frame frame (caught_class class))) to
        → Catches (set_frame t frame).locals (record { to = t.number to; catch_class = class })
    one_goes class to into = record {
      goes = λ others same.
          let same_from : into.frame ≡ catch_frame frame (caught_class class) =
          same_Some into.frame (catch_frame frame (caught_class class)) (sym into.goes_is) in
          let own : IsFrameAssignable s.headers (catch_frame frame (caught_class class)) into.stated =
          subst (λ (f : Frame). IsFrameAssignable s.headers f into.stated) same_from
          (subst (λ (h : Headers). IsFrameAssignable h into.frame into.stated) (own_headers laws folder facts host e stands s headers host_stands)
          into.assignable) in
          let kept = frame_kept (expanded host e) t s.headers (catch_frame frame (caught_class class)) into.stated
          (frame_fits facts host e stands host_stands k frame has) own in
          let found = there to into.stated into.is_at in
          goes_to_place laws folder facts host e stands s headers host_stands to into.stated into.is_at _
          (same_before_assignable (expanded host e) s.headers host.scope.part.max_locals (set_frame t frame).locals others
          (caught_type (caught_class class) ∷ []) (set_frame t into.stated) (by class kept) (tops into.stated (number_in (instructions host.scope) to) found) same);
    } where
      by : (class : Option Name) {to : Frame}
          → IsFrameAssignable s.headers (placed_frame (expanded host e) t (catch_frame frame (caught_class class))) to
          → IsFrameAssignable s.headers
          (record {
            locals = map (read_type (expanded host e)) (set_frame t frame).locals;
            stack = caught_type (caught_class class) ∷ [];
          }) to
      by None kept = kept
      by (Some name) kept = kept

      there : (place : ℕ) (to : Frame) → frame_at (body_of host.scope) host.frames place ≡ Some to
          → slice_get host.frames (number_in (instructions host.scope) place) ≡ Some to
      there place to at = frame_found host.scope (instructions host.scope) host.frames place to at

      tops : (to : Frame) (n : ℕ) → slice_get host.frames n ≡ Some to → TopsFrom host.scope.part.max_locals (set_frame t to).locals
      tops to n at =
          subst (λ (from : ℕ). TopsFrom from (set_frame t to).locals) (omega arith)
          (tops_behind facts host e stands host_stands n to at)

    host_catches : AllByRecursion (Catches (set_frame t frame).locals) (t.handlers placed.at)
    host_catches = host_caught k placed frame is has (Catches (set_frame t frame).locals) one_goes

  -- ---- of each

  -- the units of callees are behind the host's
  pub least_block : {chain : List MethodAt} {p : Standing} → IsStanding host e chain p → host.scope.part.max_locals ≤ p.block
  least_block host_stands = omega arith
  least_block (callee_stands {p = p} k placed frame g inner below at) =
      let least = least_block below in
      omega (arith, least, block_least p.block p.expansion k)

  -- a callee's locals leave those of the host as they are
  pub callee_before : {chain : List MethodAt} {p : Standing} (k : ℕ) (placed : Placed) (frame : Frame) (g : Coded) (inner : Expansion)
      → (standing : IsStanding host e chain p)
      → (at : IsReplacedAt p k placed frame g inner)
      → (n : ℕ) (within : Frame) → slice_get g.frames n ≡ Some within
      → (m : ℕ) → m < host.scope.part.max_locals
      → slice_get (set_frame (inner_setting p k placed frame g inner) within).locals m ≡ slice_get (set_frame p.setting frame).locals m
  callee_before {p = p} k placed frame g inner standing at n within has m before =
      let own = callee_stands k placed frame g inner standing at in
      let q = inner_setting p k placed frame g inner in
      let fits = frame_fits facts host e stands own n within has in
      let least = least_block standing in
      get_outside q.unit (map (set_type q) within.locals) q.below.locals
      (omega (arith, fits, length-map within.locals (set_type q))) m
      (inl (omega (arith, before, least, block_least p.block p.expansion k)))

  module _ (this_known : (chain : List MethodAt) (p : Standing) → IsStanding host e chain p → IsSome p.setting.behind → p.setting.this ≢ types.UninitThis) where
    -- no uninitialised this stands in units of callees
    pub no_this_behind : {chain : List MethodAt} {p : Standing} → IsStanding host e chain p → (k : ℕ) (frame : Frame)
        → slice_get (frames_of p) k ≡ Some frame
        → (n : ℕ) → host.scope.part.max_locals ≤ n
        → slice_get (set_frame p.setting frame).locals n ≢ Some types.UninitThis
    no_this_behind host_stands k frame is n behind this =
        let within = slice_get_within (set_frame (host_standing host e).setting frame).locals n types.UninitThis this in
        let top = (tops_behind facts host e stands host_stands k frame is).each n (omega (arith, behind)) within in
        let same : types.Top ≡ types.UninitThis = same_Some types.Top types.UninitThis (sym top ∙ this) in
        absurd cc
    no_this_behind (callee_stands {p = p} k_at placed before g inner below at) k frame is n behind this =
        let own = callee_stands k_at placed before g inner below at in
        let q = inner_setting p k_at placed before g inner in
        let fits = frame_fits facts host e stands own k frame is in
        let block : q.unit + length (map (set_type q) frame.locals) ≤ length q.below.locals =
        omega (arith, fits, length-map frame.locals (set_type q)) in
        elim (where_is q.unit (length (map (set_type q) frame.locals)) n) [
          | outside out ↦
              no_this_behind below k_at before at.has_frame n behind
              (sym (get_outside q.unit (map (set_type q) frame.locals) q.below.locals block n out) ∙ this)
          | inside m place within ↦
              let there = get_inside q.unit (map (set_type q) frame.locals) q.below.locals block m within in
              let one = set_unit (expanded host e) q frame.locals m types.UninitThis
              (sym there ∙ ap (slice_get (set_frame q frame).locals) (sym place) ∙ this) in
              let is_this = set_this (expanded host e) q one.0 (sym one.2) in
              this_known _ (inner_standing p k_at placed before g inner) own refl (sym (one.2 ∙ ap (set_type q) is_this))
        ]

    -- Each handler around an instruction takes over from its locals.
    pub all_catch : {chain : List MethodAt} {p : Standing} → IsStanding host e chain p → (k : ℕ) (placed : Placed) (frame : Frame)
        → slice_get (instrs_of p) k ≡ Some placed
        → slice_get (frames_of p) k ≡ Some frame
        → AllByRecursion (Catches (set_frame p.setting frame).locals) (p.setting.handlers placed.at)
    all_catch host_stands k placed frame is has = host_catches k placed frame is has
    all_catch (callee_stands {p = p} k_at call before g inner below at) k placed frame is has =
        let own = callee_stands k_at call before g inner below at in
        AllByRecursion-weaker (Catches (set_frame p.setting before).locals)
        (Catches (set_frame (inner_setting p k_at call before g inner) frame).locals)
        (λ handler catches. record {
          goes = λ others same. catches.goes others (record {
            long = same.long ∙ whole facts host e stands own k frame has ∙ sym (whole facts host e stands below k_at before at.has_frame);
            same = λ n within. same.same n within ∙ callee_before k_at call before g inner below at k frame has n within;
            no_this = same.no_this;
          });
        }) (p.setting.handlers call.at) (all_catch below k_at call before at.is at.has_frame)

    -- so it does where an instruction begins
    pub handlers_typed : {chain : List MethodAt} {p : Standing} → IsStanding host e chain p → (k : ℕ) (placed : Placed) (frame : Frame)
        → slice_get (instrs_of p) k ≡ Some placed
        → slice_get (frames_of p) k ≡ Some frame
        → (others : List VType)
        → SameBefore host.scope.part.max_locals (set_frame p.setting frame).locals others
        → AllByRecursion
        (λ handler. MayGoToPoint classes s (expanded host e)
        (Some (record {
          locals = map (read_type (expanded host e)) others;
          stack = caught_type (caught_class handler.catch_class) ∷ [];
        })) handler.to) (p.setting.handlers placed.at)
    handlers_typed {p = p} standing k placed frame is has others same =
        AllByRecursion-weaker (Catches (set_frame p.setting frame).locals)
        (λ handler. MayGoToPoint classes s (expanded host e)
        (Some (record {
          locals = map (read_type (expanded host e)) others;
          stack = caught_type (caught_class handler.catch_class) ∷ [];
        })) handler.to)
        (λ handler catches. catches.goes others same) (p.setting.handlers placed.at) (all_catch standing k placed frame is has)

    pub same_itself : {chain : List MethodAt} {p : Standing} → IsStanding host e chain p → (k : ℕ) (frame : Frame)
        → slice_get (frames_of p) k ≡ Some frame
        → SameBefore host.scope.part.max_locals (set_frame p.setting frame).locals (set_frame p.setting frame).locals
    same_itself standing k frame has = record {
      long = refl;
      same = λ n within. refl;
      no_this = no_this_behind standing k frame has;
    }
