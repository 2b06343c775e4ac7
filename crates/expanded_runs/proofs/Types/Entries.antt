-- The points before a callee's instructions are typed.
use Rattle.flow_code.specs.ReadTypes.{read_frame, read_type}
use Rattle.same_runs.specs.TypedFlats.{MayGoToPoint, TypesPoint}
use Rattle.std.proofs.Common.{◌≡◌, ◌≢◌, ◌+◌, ◌-◌, ◌≤◌, ◌<◌, ℕ, zero, suc, Bool, true, false, List, [], ◌∷◌, ◌++◌, length, map, drop, replicate, reverse, slice_get, Some, IsTrue, if◌then◌else◌, refl, sym, ap, subst, ◌∙◌, arith, inl, inr, append-nil}
use Rattle.std.specs.Prelude.{IsSome}
use Rattle.std.specs.List.{AllByRecursion, list_any}
use Rattle.std.proofs.lemmas.Bool.{false≢true}
use Rattle.std.proofs.lemmas.List.{drop-map, length-append, length-map, length-replicate, length-reverse, take-append-drop}
use Rattle.std.proofs.lemmas.Option.{none-some, same_Some, slice_get_within}
use Rattle.std.proofs.Math.Seq.{drop-append-add}
use Rattle.class_model.specs.Descriptors.{parameters_of}
use Rattle.class_model.specs.Frames.{depth, units_of_entries}
use Rattle.class_model.specs.Methods.{this_units}
use Rattle.class_model.specs.declared.class_file.MethodAt.{MethodAt}
use Rattle.class_model.specs.declared.descriptor.Kind.TheVariants as kinds
use Rattle.class_model.specs.declared.frame.Frame.{Frame}
use Rattle.class_model.specs.declared.frame.VType.{VType}
use Rattle.class_model.specs.declared.frame.VType.TheVariants as types
use Rattle.class_model.specs.declared.instr.Placed.{Placed}
use Rattle.class_tree.specs.Headers.{Classes, Headers, headers_of}
use Rattle.class_tree.specs.Hierarchy.{IsHierarchy}
use Rattle.expanded_code.specs.Callees.{SayAtMost}
use Rattle.expanded_code.specs.Expanded.{Setting, arguments, expanded, frame_behind_stores, overlaid, points_before, points_of_entry, set_frame, set_type, store_points, test_points, tests_receiver}
use Rattle.expanded_code.specs.Expansions.{Coded, Expansion}
use Rattle.expanded_runs.proofs.Runs.PositionLaws.{block_least, length_arguments, length_fits, length_stores, part_stands, points_at, slice_left}
use Rattle.expanded_runs.proofs.Runs.Positions.{Becomes, IsReplacedAt, Standing, block_of, inner_setting, inner_standing, start_of}
use Rattle.expanded_runs.proofs.Runs.Standings.{IsStanding, Stands, callee_stands}
use Rattle.expanded_runs.proofs.Types.CallFacts.{CallFacts}
use Rattle.expanded_runs.proofs.Types.Edges.{placed_frame, unit_read}
use Rattle.expanded_runs.proofs.Types.EntryFrames.{IsEntered, ref_unit, PassedValues, is_entered, over_assignable, over_keeps, passed_object, passed_static, tops_more}
use Rattle.expanded_runs.proofs.Types.FlatParts.{slice_either}
use Rattle.expanded_runs.proofs.Types.FrameFacts.{FrameFacts, has_room as room_of_standing, whole}
use Rattle.expanded_runs.proofs.Types.Handlers.{SameBefore, handlers_typed, least_block, no_this_behind}
use Rattle.expanded_runs.proofs.Types.OwnPoints.{TypingLaws, goes_to, itself, own_headers}
use Rattle.expanded_runs.proofs.Types.PlainPoints.{goes_typed, has_room, read_there, topmost_none, under_none}
use Rattle.expanded_runs.proofs.Types.Returns.{callee_there}
use Rattle.expanded_runs.proofs.Types.Starts.{callee_starts}
use Rattle.expanded_runs.proofs.Types.StorePoints.{same_over, stores_typed, units_free}
use Rattle.expanded_runs.proofs.Types.StoredUnits.{IsClear, read_kind, stores_over}
use Rattle.expanded_runs.proofs.Types.ThroughClass.{ArrayInterfaces}
use Rattle.expanded_runs.proofs.Types.Units.{TopsFrom, as_long, get_replicate, get_back, get_inside, item_there, to_themselves}
use Rattle.flow_code.specs.FlatCode.{FlatCode, point_at}
use Rattle.flow_code.specs.FlatRoom.{stack_room}
use Rattle.flow_code.specs.TypedFrames.{FolderFrames}
use Rattle.flow_code.specs.declared.point.FlatInstr.TheVariants.{NullTest}
use Rattle.flow_code.specs.declared.point.Point.{Point}
use Rattle.member_link.specs.Bodies.{caught_type}
use Rattle.member_link.specs.BodyTyping.{MayGoTo}
use Rattle.member_link.specs.Rows.FrameAssignability.{AreAssignable, IsFrameAssignable, is_uninit_this}
use Rattle.member_link.specs.Rows.LocalRows.{HoldsKind}
use Rattle.member_link.specs.Rows.Operands.{AllFit, topmost, under}
use Rattle.member_link.specs.Scope.{Scope, instructions, own_descriptor}
use Rattle.same_runs.specs.FlatBodies.{caught_class}
use Rattle.same_runs.specs.Flats.{host_scope, instr_scope}
use Rattle.type_rules.specs.Stated.{entry}
use Rattle.type_rules.specs.Verified.{TypesFolder}

-- What is known of what a call that is replaced passes, and that no value of two units stands across where the callee's units begin.
pub record EntryFacts (flat : FlatCode) (headers : Headers) (p : Standing) (k : ℕ) (placed : Placed) (frame : Frame) (g : Coded) (inner : Expansion)
    : Type 0 where
  pub enough : length (arguments g.scope 0) ≤ length frame.stack
  pub passed : PassedValues flat headers p.setting (inner_setting p k placed frame g inner) g.scope
      (topmost (length (arguments g.scope 0)) frame.stack)
  pub clear : IsClear (block_of p k) (set_frame p.setting frame).locals

pub topmost_set : (t : Setting) (count : ℕ) (below stack : List VType) → count ≤ length stack
    → topmost count (below ++ map (set_type t) stack) ≡ map (set_type t) (topmost count stack)
topmost_set t count below stack enough =
    let long : length (below ++ map (set_type t) stack) - count ≡ length below + (length stack - count) =
    omega (arith, enough, length-append below (map (set_type t) stack), length-map stack (set_type t)) in
    ap (λ (n : ℕ). drop n (below ++ map (set_type t) stack)) long
    ∙ drop-append-add below (map (set_type t) stack) (length stack - count)
    ∙ drop-map (set_type t) (length stack - count) stack

module _ (laws : TypingLaws) {classes : Classes} {typed : FolderFrames} (folder : TypesFolder classes typed) (facts : FrameFacts classes typed)
    (host : Coded) (e : Expansion) (stands : (chain : List MethodAt) (p : Standing) → IsStanding host e chain p → Stands classes typed host e chain p)
    (s : Scope) (headers : s.headers ≡ headers_of classes)
    (this_known : (chain : List MethodAt) (p : Standing) → IsStanding host e chain p → IsSome p.setting.behind → p.setting.this ≢ types.UninitThis)
    (hierarchy : IsHierarchy s.headers) (arrays : ArrayInterfaces s.headers)
    (calls : (chain : List MethodAt) (p : Standing) → IsStanding host e chain p → (k : ℕ) (placed : Placed) (frame : Frame) (g : Coded) (inner : Expansion)
    → IsReplacedAt p k placed frame g inner
    → CallFacts (expanded host e) s.headers p placed frame g) where
  module _ {chain : List MethodAt} {p : Standing} (standing : IsStanding host e chain p) (k : ℕ) (placed : Placed) (frame : Frame) (g : Coded)
      (inner : Expansion) (at : IsReplacedAt p k placed frame g inner) (known : EntryFacts (expanded host e) s.headers p k placed frame g inner) where
    abbrev flat : FlatCode
    flat = expanded host e

    abbrev t : Setting
    t = p.setting

    abbrev q : Setting
    q = inner_setting p k placed frame g inner

    abbrev locals : List VType
    locals = (set_frame p.setting frame).locals

    abbrev entries : List VType
    entries = map (set_type p.setting) (topmost (length (arguments g.scope 0)) frame.stack)

    abbrev below : List VType
    below = (inner_setting p k placed frame g inner).below.stack

    own_stands : IsStanding host e (g.at ∷ chain) (inner_standing p k placed frame g inner)
    own_stands = callee_stands k placed frame g inner standing at

    pub count_same : length (arguments g.scope (block_of p k)) ≡ length (arguments g.scope 0)
    count_same = length_arguments g.scope (block_of p k)

    pub stack_is : (set_frame p.setting frame).stack ≡ below ++ entries
    stack_is =
        let stack = (set_frame p.setting frame).stack in
        let count = length (arguments g.scope (block_of p k)) in
        let tops : topmost count stack ≡ entries =
        ap (λ (n : ℕ). topmost n stack) count_same
        ∙ topmost_set t (length (arguments g.scope 0)) t.below.stack frame.stack known.enough in
        sym (take-append-drop (length stack - count) stack) ∙ ap (λ (l : List VType). below ++ l) tops

    pub frame_split : set_frame p.setting frame ≡ record { locals = locals; stack = below ++ entries }
    frame_split = λ i. record { locals = locals; stack = stack_is i }

    -- ---- the first frame

    pub record FirstFrame : Type 0 where
      pub begin : Frame
      pub is : slice_get g.frames 0 ≡ Some begin

    pub first_frame : FirstFrame
    first_frame =
        let start = callee_starts (stands chain p standing).fits k at.becomes in
        let fits = (stands _ _ own_stands).fits in
        let found = item_there g.frames 0
        (omega (arith, length_fits fits, slice_get_within (instructions g.scope) 0 start.0 start.1)) in
        record { begin = found.0; is = found.1 }

    module _ (first : FirstFrame) where
      pub begins : IsFrameAssignable s.headers (entry g.scope) first.begin
      begins =
          subst (λ (h : Headers). IsFrameAssignable h (entry g.scope) first.begin)
          (own_headers laws folder facts host e stands s headers own_stands)
          (facts.entered g.at g.scope g.frames (stands _ _ own_stands).has first.begin first.is)

      pub entered : IsEntered (expanded host e) s.headers p.setting (inner_setting p k placed frame g inner) g.scope (block_of p k)
          (topmost (length (arguments g.scope 0)) frame.stack) first.begin.locals
      entered =
          let callee = callee_there laws folder facts host e stands s headers this_known hierarchy arrays calls standing k placed frame g inner at in
          is_entered (expanded host e) s.headers hierarchy arrays t q g.scope (block_of p k) first.begin.locals begins.locals
          (subst (λ (h : Headers). SayAtMost h (parameters_of (own_descriptor g.scope)) (drop (this_units g.scope.method.flags) first.begin.locals)) (sym headers) (callee.may.parameters first.begin first.is))
          (topmost (length (arguments g.scope 0)) frame.stack) known.passed

      module _ (x : IsEntered (expanded host e) s.headers p.setting (inner_setting p k placed frame g inner) g.scope (block_of p k)
          (topmost (length (arguments g.scope 0)) frame.stack) first.begin.locals) where
        pub long : length (units_of_entries entries) + x.count ≡ length first.begin.locals
        long =
            let all = as_long s.headers _ _ x.pass in
            omega (
              arith,
              all,
              length-map (units_of_entries entries ++ replicate x.count types.Top) (read_type flat),
              length-map (map (set_type q) first.begin.locals) (read_type flat),
              length-map first.begin.locals (set_type q),
              length-append (units_of_entries entries) (replicate x.count types.Top),
              length-replicate x.count types.Top,
            )

        pub room : block_of p k + length first.begin.locals ≤ length locals
        room =
            let st = stands _ _ own_stands in
            let own = facts.long g.at g.scope g.frames st.has 0 first.begin first.is in
            let all = whole facts host e stands standing k frame at.has_frame in
            omega (arith, own, all, st.own_units, st.all_units)

        pub fits : block_of p k + length (units_of_entries entries) ≤ length locals
        fits = omega (arith, long, room)

        pub tops : TopsFrom (block_of p k) locals
        tops = (room_of_standing facts host e stands own_stands).tops

        abbrev behind : Frame
        behind = record { locals = overlaid (block_of p k) (units_of_entries entries) locals; stack = below }

        pub behind_is : frame_behind_stores (set_frame p.setting frame) (reverse (arguments g.scope (block_of p k))) ≡ behind
        behind_is =
            ap (λ (f : Frame). frame_behind_stores f (reverse (arguments g.scope (block_of p k)))) frame_split
            ∙ stores_over (block_of p k) (arguments g.scope (block_of p k)) entries locals below x.laid fits known.clear tops

        -- it may stand for the first frame
        final : IsFrameAssignable s.headers (read_frame flat behind) (placed_frame flat q first.begin)
        final =
            let more = units_of_entries entries ++ replicate x.count types.Top in
            let many : length more ≡ length first.begin.locals =
            omega (arith, long, length-append (units_of_entries entries) (replicate x.count types.Top), length-replicate x.count types.Top) in
            let same : length more ≡ length (map (set_type q) first.begin.locals) = many ∙ sym (length-map first.begin.locals (set_type q)) in
            let inside : block_of p k + length more ≤ length locals = omega (arith, many, room) in
            let wider : overlaid (block_of p k) more locals ≡ overlaid (block_of p k) (units_of_entries entries) locals =
            tops_more (block_of p k) x.count (units_of_entries entries) locals (omega (arith, long, room)) tops in
            let none : first.begin.stack ≡ [] = no_stack first.begin.stack begins.stack in
            let stack : (set_frame q first.begin).stack ≡ below =
            ap (λ (l : List VType). below ++ map (set_type q) l) none ∙ append-nil below in
            record {
              locals =
                  subst (λ (l : List VType). AreAssignable s.headers (map (read_type flat) l) (map (read_type flat) (set_frame q first.begin).locals)) wider
                  (over_assignable flat s.headers (block_of p k) more (map (set_type q) first.begin.locals) locals same inside x.pass);
              stack =
                  subst (λ (l : List VType). AreAssignable s.headers (map (read_type flat) below) (map (read_type flat) l)) (sym stack)
                  (to_themselves s.headers (map (read_type flat) below));
              keeps_this = λ has_any.
                  over_keeps flat s.headers (block_of p k) more (map (set_type q) first.begin.locals) locals same inside more_free
                  (subst (λ (l : List VType). IsTrue (list_any is_uninit_this (map (read_type flat) l))) (sym wider) has_any);
            }
          where
            more_free : (n : ℕ) → slice_get (units_of_entries entries ++ replicate x.count types.Top) n ≢ Some types.UninitThis
            more_free n is = elim (slice_either (units_of_entries entries) (replicate x.count types.Top) n types.UninitThis is) [
              | inl front ↦ units_free entries x.free n front
              | inr back ↦
                  let within = slice_get_within (replicate x.count types.Top) back.behind types.UninitThis back.there in
                  let top = get_replicate x.count types.Top back.behind (omega (arith, within, length-replicate x.count types.Top)) in
                  let same : types.Top ≡ types.UninitThis = same_Some types.Top types.UninitThis (sym top ∙ back.there) in
                  absurd cc
            ]

            no_stack : (stack : List VType) → AreAssignable s.headers [] stack → stack ≡ []
            no_stack [] are = refl
            no_stack (entry ∷ stack) are = absurd are

        -- ---- its points

        abbrev entry_points : List Point
        entry_points = points_of_entry p.setting placed.at (set_frame p.setting frame) g.scope (block_of p k)

        pub stands_there : (n : ℕ) (point : Point)
            → slice_get (points_of_entry p.setting placed.at (set_frame p.setting frame) g.scope (block_of p k)) n ≡ Some point
            → point_at (expanded host e) (start_of p k + n) ≡ Some point
        stands_there n point is =
            let st = stands chain p standing in
            let part = part_stands (expanded host e).points p.setting p.first p.block st.fits k placed frame at.is at.has_frame st.points in
            part n point
            (subst (λ (b : Becomes). slice_get (points_at p.setting (start_of p k) (block_of p k) placed frame b) n ≡ Some point) (sym at.becomes)
            (slice_left _ _ n point is))

        -- into the callee
        goes_in : MayGoToPoint classes s (expanded host e) (Some (read_frame (expanded host e) behind)) (start_of p k + points_before g.scope)
        goes_in = goes_to laws folder facts host e stands s headers own_stands 0 first.begin first.is (read_frame (expanded host e) behind) final

        pub args_before : length (arguments g.scope (block_of p k)) + (if tests_receiver g.scope then 1 else 0) ≡ points_before g.scope
        args_before = ap (λ (n : ℕ). n + (if tests_receiver g.scope then 1 else 0)) count_same

        abbrev stores : List Point
        stores = store_points p.setting placed.at (set_frame p.setting frame) (reverse (arguments g.scope (block_of p k)))

        pub stores_long : length stores ≡ length (arguments g.scope (block_of p k))
        stores_long =
            length_stores p.setting placed.at (set_frame p.setting frame) (reverse (arguments g.scope (block_of p k)))
            ∙ length-reverse (arguments g.scope (block_of p k))

        abbrev test : Point
        test = record { instr = NullTest (block_of p k); typed = behind; handlers = p.setting.handlers placed.at }

        pub tests_is : tests_receiver g.scope ≡ true
            → test_points p.setting placed.at (frame_behind_stores (set_frame p.setting frame) (reverse (arguments g.scope (block_of p k)))) g.scope (block_of p k)
            ≡ test ∷ []
        tests_is yes_tests =
            ap (λ (f : Frame). test_points p.setting placed.at f g.scope (block_of p k)) behind_is
            ∙ ap (λ (b : Bool). if b then test ∷ [] else []) yes_tests

        pub tests_none : tests_receiver g.scope ≡ false
            → test_points p.setting placed.at (frame_behind_stores (set_frame p.setting frame) (reverse (arguments g.scope (block_of p k)))) g.scope (block_of p k)
            ≡ []
        tests_none no_tests = ap (λ (b : Bool). if b then (record {
          instr = NullTest (block_of p k);
          typed = frame_behind_stores (set_frame p.setting frame) (reverse (arguments g.scope (block_of p k)));
          handlers = p.setting.handlers placed.at;
        }) ∷ [] else []) no_tests

        catches : (others : List VType) → SameBefore host.scope.part.max_locals locals others
            → AllByRecursion
            (λ handler. MayGoToPoint classes s (expanded host e)
            (Some (record { locals = map (read_type (expanded host e)) others; stack = caught_type (caught_class handler.catch_class) ∷ [] })) handler.to)
            (p.setting.handlers placed.at)
        catches = handlers_typed laws folder facts host e stands s headers this_known standing k placed frame at.is at.has_frame

        pub least : host.scope.part.max_locals ≤ block_of p k
        least =
            let one = least_block laws folder facts host e stands s headers standing in
            omega (arith, one, block_least p.block p.expansion k)

        behind_same : SameBefore host.scope.part.max_locals locals (overlaid (block_of p k) (units_of_entries entries) locals)
        behind_same =
            same_over classes s (expanded host e) p.setting placed.at locals host.scope.part.max_locals
            (no_this_behind laws folder facts host e stands s headers this_known standing k frame at.has_frame) catches
            (block_of p k) entries least fits x.free

        -- the test
        pub test_there : tests_receiver g.scope ≡ true → point_at (expanded host e) (start_of p k + length (arguments g.scope (block_of p k))) ≡ Some test
        test_there yes_tests =
            stands_there (length (arguments g.scope (block_of p k))) test
            (ap (slice_get entry_points) (sym stores_long ∙ omega arith)
            ∙ get_back stores (test_points p.setting placed.at
            (frame_behind_stores (set_frame p.setting frame) (reverse (arguments g.scope (block_of p k)))) g.scope (block_of p k)) 0
            ∙ ap (λ (points : List Point). slice_get points 0) (tests_is yes_tests))

        receiver_there : tests_receiver g.scope ≡ true → HoldsKind kinds.Ref (map (read_type (expanded host e)) (overlaid (block_of p k) (units_of_entries entries) locals)) (block_of p k)
        receiver_there yes_tests = by (topmost (length (arguments g.scope 0)) frame.stack) refl known.passed where
          by : (values : List VType) → topmost (length (arguments g.scope 0)) frame.stack ≡ values
              → PassedValues (expanded host e) s.headers p.setting (inner_setting p k placed frame g inner) g.scope values
              → HoldsKind kinds.Ref (map (read_type (expanded host e)) (overlaid (block_of p k) (units_of_entries entries) locals)) (block_of p k)
          by values are (passed_static static args) =
              let untested : tests_receiver g.scope ≡ false = rw (static) refl in
              absurd (false≢true (sym untested ∙ yes_tests))
          by _ are (passed_object {object = object} {values = values} static kind other passes args) =
              let own : entries ≡ set_type p.setting object ∷ map (set_type p.setting) values = ap (map (set_type p.setting)) are in
              let first_unit : slice_get (units_of_entries entries) 0 ≡ Some (set_type p.setting object) =
              ap (λ (l : List VType). slice_get (units_of_entries l) 0) own
              ∙ ap (λ (u : List VType). slice_get (u ++ units_of_entries (map (set_type p.setting) values)) 0) (ref_unit (set_type p.setting object) kind) in
              let some : 0 < length (units_of_entries entries) = slice_get_within (units_of_entries entries) 0 (set_type p.setting object) first_unit in
              let there : slice_get (overlaid (block_of p k) (units_of_entries entries) locals) (block_of p k) ≡ Some (set_type p.setting object) =
              ap (slice_get (overlaid (block_of p k) (units_of_entries entries) locals)) (omega arith)
              ∙ get_inside (block_of p k) (units_of_entries entries) locals fits 0 some
              ∙ first_unit in (
                read_type (expanded host e) (set_type p.setting object),
                unit_read (expanded host e) (overlaid (block_of p k) (units_of_entries entries) locals) (block_of p k) (set_type p.setting object) there,
                read_kind (expanded host e) kinds.Ref (set_type p.setting object) kind,
              )

        test_typed : (yes_tests : tests_receiver g.scope ≡ true)
            → TypesPoint classes s (expanded host e) (start_of p k + length (arguments g.scope (block_of p k))) test
        test_typed yes_tests =
            let number = start_of p k + length (arguments g.scope (block_of p k)) in
            let stack = map (read_type (expanded host e)) below in
            let left : under 0 stack ++ [] ≡ stack = append-nil (under 0 stack) ∙ under_none stack in
            let one : length (arguments g.scope (block_of p k)) + 1 ≡ points_before g.scope =
            subst (λ (b : Bool). length (arguments g.scope (block_of p k)) + (if b then 1 else 0) ≡ points_before g.scope) yes_tests args_before in
            goes_typed classes s (expanded host e) number test (read_frame (expanded host e) behind)
            (record {
              operands = subst (AllFit (instr_scope classes s (expanded host e) test.instr) []) (sym (topmost_none stack)) tt;
              local = receiver_there yes_tests;
              depth_fits =
                  subst (λ (l : List VType). depth l ≤ stack_room (expanded host e)) (sym left)
                  (has_room classes s (expanded host e) stack number test (test_there yes_tests) (length-map below (read_type (expanded host e))));
              further = tt;
              access = tt;
            })
            (ap (λ (l : List VType). Some (record {
              locals = map (read_type (expanded host e)) (overlaid (block_of p k) (units_of_entries entries) locals);
              stack = l;
            })) left)
            (subst (MayGoToPoint classes s (expanded host e) (Some (read_frame (expanded host e) behind))) (omega (arith, one)) goes_in)
            refl (catches (overlaid (block_of p k) (units_of_entries entries) locals) behind_same)

        -- behind the stores
        after_stores : MayGoToPoint classes s (expanded host e) (Some (read_frame (expanded host e) behind))
            (start_of p k + length (arguments g.scope (block_of p k)))
        after_stores = by (tests_receiver g.scope) refl where
          by : (tests : Bool) → tests_receiver g.scope ≡ tests
              → MayGoToPoint classes s (expanded host e) (Some (read_frame (expanded host e) behind))
              (start_of p k + length (arguments g.scope (block_of p k)))
          by true is =
              subst (MayGoTo (host_scope classes s (expanded host e)) (Some (read_frame (expanded host e) behind)))
              (sym (read_there classes s (expanded host e) (start_of p k + length (arguments g.scope (block_of p k))) test behind (test_there is) refl))
              (itself s.headers (read_frame (expanded host e) behind))
          by false is =
              let none : length (arguments g.scope (block_of p k)) + 0 ≡ points_before g.scope =
              subst (λ (b : Bool). length (arguments g.scope (block_of p k)) + (if b then 1 else 0) ≡ points_before g.scope) is args_before in
              subst (MayGoToPoint classes s (expanded host e) (Some (read_frame (expanded host e) behind))) (omega (arith, none)) goes_in

        -- Each is typed.
        entry_typed : (n : ℕ) (point : Point)
            → slice_get (points_of_entry p.setting placed.at (set_frame p.setting frame) g.scope (block_of p k)) n ≡ Some point
            → TypesPoint classes s (expanded host e) (start_of p k + n) point
        entry_typed n point is =
            elim (slice_either stores (test_points p.setting placed.at
            (frame_behind_stores (set_frame p.setting frame) (reverse (arguments g.scope (block_of p k)))) g.scope (block_of p k)) n point is) [
              | inl front ↦
                  let split_is = frame_split in
                  stores_typed classes s (expanded host e) p.setting placed.at locals host.scope.part.max_locals
                  (no_this_behind laws folder facts host e stands s headers this_known standing k frame at.has_frame) catches
                  (block_of p k) (arguments g.scope (block_of p k)) entries below x.laid least fits known.clear tops x.free (start_of p k)
                  (λ m one one_is. stands_there m one
                  (slice_left stores _ m one
                  (subst (λ (f : Frame). slice_get (store_points p.setting placed.at f (reverse (arguments g.scope (block_of p k)))) m ≡ Some one)
                  (sym split_is) one_is))) after_stores n point
                  (subst (λ (f : Frame). slice_get (store_points p.setting placed.at f (reverse (arguments g.scope (block_of p k)))) n ≡ Some point) split_is
                  front)
              | inr back ↦ by (tests_receiver g.scope) refl back.behind back.there back.number_is
            ] where
              by : (tests : Bool) → tests_receiver g.scope ≡ tests → (m : ℕ)
                  → slice_get (test_points p.setting placed.at
                  (frame_behind_stores (set_frame p.setting frame) (reverse (arguments g.scope (block_of p k)))) g.scope (block_of p k)) m ≡ Some point
                  → n ≡ length (store_points p.setting placed.at (set_frame p.setting frame) (reverse (arguments g.scope (block_of p k)))) + m
                  → TypesPoint classes s (expanded host e) (start_of p k + n) point
              by false none m there same =
                  absurd (none-some point (ap (λ (points : List Point). slice_get points m) (sym (tests_none none)) ∙ there))
              by true some zero there same =
                  let is_test : test ≡ point = same_Some test point (ap (λ (points : List Point). slice_get points 0) (sym (tests_is some)) ∙ there) in
                  let place : start_of p k + length (arguments g.scope (block_of p k)) ≡ start_of p k + n = omega (arith, same, stores_long) in
                  subst (λ (number : ℕ). TypesPoint classes s (expanded host e) number point) place
                  (subst (TypesPoint classes s (expanded host e) (start_of p k + length (arguments g.scope (block_of p k)))) is_test (test_typed some))
              by true some (suc m) there same =
                  absurd (none-some point (ap (λ (points : List Point). slice_get points (suc m)) (sym (tests_is some)) ∙ there))

    -- with its first frame
    pub entry_point_typed : (n : ℕ) (point : Point)
        → slice_get (points_of_entry p.setting placed.at (set_frame p.setting frame) g.scope (block_of p k)) n ≡ Some point
        → TypesPoint classes s (expanded host e) (start_of p k + n) point
    entry_point_typed = entry_typed first_frame (entered first_frame)
