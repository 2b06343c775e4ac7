-- Along the edges of the points before a callee's instructions, types of uninitialised objects of sites come from the same types: the object of a
-- callee is stored in its first unit.
use Rattle.std.proofs.Common.{◌≡◌, ◌≢◌, ◌+◌, ◌-◌, ◌≤◌, ◌<◌, ◌⊎◌, ℕ, zero, suc, Bool, true, false, List, [], ◌∷◌, ◌++◌, length, map, reverse, slice_get, Some, IsTrue, if◌then◌else◌, refl, sym, ap, subst, ◌∙◌, arith, inl, inr}
use Rattle.std.specs.Prelude.{IsSome}
use Rattle.std.specs.List.{AllByRecursion}
use Rattle.std.proofs.lemmas.List.{length-map}
use Rattle.std.proofs.lemmas.Option.{none-some, same_Some, slice_get_within}
use Rattle.class_model.specs.Frames.{units_of_entries}
use Rattle.class_model.specs.declared.class_file.MethodAt.{MethodAt}
use Rattle.class_model.specs.declared.descriptor.Kind.TheVariants as kinds
use Rattle.class_model.specs.declared.frame.Frame.{Frame}
use Rattle.class_model.specs.declared.frame.VType.{VType}
use Rattle.class_model.specs.declared.frame.VType.TheVariants as types
use Rattle.class_model.specs.declared.instr.Instr.TheVariants.{Store}
use Rattle.class_model.specs.declared.instr.Placed.{Placed}
use Rattle.class_tree.specs.Headers.{Classes, headers_of}
use Rattle.class_tree.specs.Hierarchy.{IsHierarchy}
use Rattle.expanded_code.specs.Expanded.{Argument, Setting, arguments, expanded, points_before, points_of_entry, point_in, set_frame, set_type, store_points, test_points, tests_receiver, frame_behind_stores, overlaid}
use Rattle.expanded_code.specs.Expansions.{Coded, Expansion}
use Rattle.expanded_runs.proofs.Ready.Catches.{frame_there, handlers_kept}
use Rattle.expanded_runs.proofs.Ready.Comes.{CatchKept, FrameThere, Reaches, SameSites, edges_kept, keeps_more, moving_to, same_frame, set_site, store_to}
use Rattle.expanded_runs.proofs.Ready.EntryTypes.{object_known, static_known}
use Rattle.expanded_runs.proofs.Ready.RowKeeps.{local_outside, new_before}
use Rattle.expanded_runs.proofs.Ready.StoredBack.{room_within}
use Rattle.expanded_runs.proofs.Runs.PositionLaws.{slice_left}
use Rattle.expanded_runs.proofs.Runs.Positions.{IsReplacedAt, Standing, block_of, inner_setting, inner_standing, start_of}
use Rattle.expanded_runs.proofs.Runs.Standings.{IsStanding, Stands, callee_stands}
use Rattle.expanded_runs.proofs.Types.CallFacts.{CallFacts}
use Rattle.expanded_runs.proofs.Types.Edges.{set_unit}
use Rattle.expanded_runs.proofs.Types.Entries.{EntryFacts, FirstFrame, args_before, begins, count_same, entered, first_frame, fits, frame_split, least, long, stands_there, stores_long, test_there, tests_is, tests_none, topmost_set, tops}
use Rattle.expanded_runs.proofs.Types.EntryFrames.{IsEntered, PassedValues, passed_object, passed_static, ref_unit}
use Rattle.expanded_runs.proofs.Types.FlatParts.{slice_either}
use Rattle.expanded_runs.proofs.Types.FrameFacts.{FrameFacts, frame_fits}
use Rattle.expanded_runs.proofs.Types.OwnPoints.{TypingLaws}
use Rattle.expanded_runs.proofs.Types.ReturnFrames.{no_entries}
use Rattle.expanded_runs.proofs.Types.StorePoints.{AreFree, stores_hold}
use Rattle.expanded_runs.proofs.Types.ThroughClass.{ArrayInterfaces}
use Rattle.expanded_runs.proofs.Types.Units.{get_inside, get_outside, inside, outside, where_is}
use Rattle.flow_code.specs.FlatCode.{point_at}
use Rattle.flow_code.specs.ReadTypes.{is_site_object}
use Rattle.flow_code.specs.TypedFrames.{FolderFrames}
use Rattle.flow_code.specs.declared.handlers.FlatHandler.{FlatHandler}
use Rattle.flow_code.specs.declared.point.FlatInstr.TheVariants.{NullTest}
use Rattle.flow_code.specs.declared.point.Point.{Point}
use Rattle.member_link.specs.Machine.Programs.{Links}
use Rattle.member_link.specs.Rows.LocalRows.{HasRoom, stored}
use Rattle.member_link.specs.Rows.Operands.{IsOfKind, IsUninitialised, lowest_of, topmost}
use Rattle.member_link.specs.Scope.{Scope}
use Rattle.plan_flow.specs.Must.{row_of_point}
use Rattle.plan_flow.specs.PlanScope.{scope_of as plan_scope}
use Rattle.plan_flow.specs.PlanTable.{edges_of}
use Rattle.plan_flow.specs.ReadyForPlans.{KeepsAlong}
use Rattle.type_rules.specs.Stated.{entry}
use Rattle.type_rules.specs.Verified.{TypesFolder}

lowest_is : (count : ℕ) (stack rest : List VType) (first : VType) → topmost count stack ≡ first ∷ rest → lowest_of count stack ≡ first
lowest_is count stack rest first are = rw (are) refl

module _ (laws : TypingLaws) {classes : Classes} {typed : FolderFrames} (folder : TypesFolder classes typed) (facts : FrameFacts classes typed)
    (host : Coded) (e : Expansion) (stands : (chain : List MethodAt) (p : Standing) → IsStanding host e chain p → Stands classes typed host e chain p)
    (s : Scope) (headers : s.headers ≡ headers_of classes)
    (this_known : (chain : List MethodAt) (p : Standing) → IsStanding host e chain p → IsSome p.setting.behind → p.setting.this ≢ types.UninitThis)
    (hierarchy : IsHierarchy s.headers) (arrays : ArrayInterfaces s.headers)
    (calls : (chain : List MethodAt) (p : Standing) → IsStanding host e chain p → (k : ℕ) (placed : Placed) (frame : Frame) (g : Coded) (inner : Expansion)
    → IsReplacedAt p k placed frame g inner
    → CallFacts (expanded host e) s.headers p placed frame g) (links : Links) where
  module _ {chain : List MethodAt} {p : Standing} (standing : IsStanding host e chain p) (k : ℕ) (placed : Placed) (frame : Frame) (g : Coded)
      (inner : Expansion) (at : IsReplacedAt p k placed frame g inner) (known : EntryFacts (expanded host e) s.headers p k placed frame g inner) where
    abbrev t : Setting
    t = p.setting

    abbrev q : Setting
    q = inner_setting p k placed frame g inner

    abbrev locals : List VType
    locals = (set_frame p.setting frame).locals

    abbrev entries : List VType
    entries = map (set_type p.setting) (topmost (length (arguments g.scope 0)) frame.stack)

    abbrev below : List VType
    below = (inner_setting p k placed frame g inner).below.stack

    abbrev behind : Frame
    behind = record {
      locals = overlaid (block_of p k) (units_of_entries (map (set_type p.setting) (topmost (length (arguments g.scope 0)) frame.stack)))
          (set_frame p.setting frame).locals;
      stack = (inner_setting p k placed frame g inner).below.stack;
    }

    abbrev Along : ℕ → Point → Type 0
    Along number point =
        AllByRecursion (KeepsAlong (plan_scope classes links (expanded host e)) number point)
        (edges_of number point (row_of_point (plan_scope classes links (expanded host e)) number point))

    own_stands : IsStanding host e (g.at ∷ chain) (inner_standing p k placed frame g inner)
    own_stands = callee_stands k placed frame g inner standing at

    first : FirstFrame laws folder facts host e stands s headers this_known hierarchy arrays calls standing k placed frame g inner at known
    first = first_frame laws folder facts host e stands s headers this_known hierarchy arrays calls standing k placed frame g inner at known

    x : IsEntered (expanded host e) s.headers p.setting (inner_setting p k placed frame g inner) g.scope (block_of p k)
        (topmost (length (arguments g.scope 0)) frame.stack) first.begin.locals
    x = entered laws folder facts host e stands s headers this_known hierarchy arrays calls standing k placed frame g inner at known first

    block_fits : block_of p k + length (units_of_entries entries) ≤ length locals
    block_fits = fits laws folder facts host e stands s headers this_known hierarchy arrays calls standing k placed frame g inner at known first x

    first_fits : block_of p k + length first.begin.locals ≤ length locals
    first_fits = frame_fits facts host e stands own_stands 0 first.begin first.is

    no_more : length (units_of_entries entries) ≤ length first.begin.locals
    no_more =
        let all = long laws folder facts host e stands s headers this_known hierarchy arrays calls standing k placed
        frame g inner at known first x in omega (arith, all)

    -- ---- the first frame

    -- the object of a callee is the first of what is passed
    this_is : (object : VType) (values : List VType) → topmost (length (arguments g.scope 0)) frame.stack ≡ object ∷ values
        → (inner_setting p k placed frame g inner).this ≡ set_type p.setting object
    this_is object values are =
        lowest_is (length (arguments g.scope (block_of p k))) (set_frame p.setting frame).stack (map (set_type p.setting) values)
        (set_type p.setting object)
        (ap (λ (n : ℕ). topmost n (set_frame p.setting frame).stack) (count_same laws folder facts host e stands s headers this_known hierarchy arrays calls standing k placed
        frame g inner at known)
        ∙ topmost_set p.setting (length (arguments g.scope 0)) p.setting.below.stack frame.stack known.enough
        ∙ ap (map (set_type p.setting)) are)

    -- and lies in its first unit
    stored_there : (object : VType) (values : List VType) → topmost (length (arguments g.scope 0)) frame.stack ≡ object ∷ values
        → IsOfKind kinds.Ref (set_type p.setting object)
        → slice_get behind.locals (block_of p k + 0) ≡ Some (set_type p.setting object)
    stored_there object values are kind =
        let own : entries ≡ set_type p.setting object ∷ map (set_type p.setting) values = ap (map (set_type p.setting)) are in
        let unit : slice_get (units_of_entries entries) 0 ≡ Some (set_type p.setting object) =
        ap (λ (l : List VType). slice_get (units_of_entries l) 0) own
        ∙ ap (λ (u : List VType). slice_get (u ++ units_of_entries (map (set_type p.setting) values)) 0) (ref_unit (set_type p.setting object) kind) in
        get_inside (block_of p k) (units_of_entries entries) locals block_fits 0
        (slice_get_within (units_of_entries entries) 0 (set_type p.setting object) unit)
        ∙ unit

    own_unit : (m : ℕ) (own : VType) → IsUninitialised own → slice_get (entry g.scope).locals m ≡ Some own
        → slice_get behind.locals (block_of p k + m) ≡ Some (set_type (inner_setting p k placed frame g inner) own)
    own_unit m own new is = by (topmost (length (arguments g.scope 0)) frame.stack) refl known.passed where
      by : (values : List VType) → topmost (length (arguments g.scope 0)) frame.stack ≡ values
          → PassedValues (expanded host e) s.headers p.setting (inner_setting p k placed frame g inner) g.scope values
          → slice_get behind.locals (block_of p k + m) ≡ Some (set_type (inner_setting p k placed frame g inner) own)
      by values are (passed_static static args) = absurd (static_known g.scope static m own is new)
      by _ are (passed_object {object = object} {values = values} static kind other passes args) =
          let found = object_known g.scope static m own is new in
          subst (λ (n : ℕ). slice_get behind.locals (block_of p k + n) ≡ Some (set_type (inner_setting p k placed frame g inner) own)) (sym found.0)
          (stored_there object values are kind
          ∙ ap Some (sym (this_is object values are) ∙ ap (set_type (inner_setting p k placed frame g inner)) (sym found.1)))

    one_local : (n : ℕ) (type : VType) → slice_get (set_frame (inner_setting p k placed frame g inner) first.begin).locals n ≡ Some type
        → IsTrue (is_site_object (expanded host e) type)
        → slice_get behind.locals n ≡ Some type
    one_local n type is site = elim (where_is (block_of p k) (length first.begin.locals) n) [
      | outside out ↦
          get_outside (block_of p k) (units_of_entries entries) locals block_fits n (narrow out)
          ∙ sym (local_outside q first.begin first_fits n out)
          ∙ is
      | inside m place within ↦
          let inner_is = get_inside (block_of p k) (map (set_type q) first.begin.locals) q.below.locals
          (omega (arith, first_fits, length-map first.begin.locals (set_type q))) m (omega (arith, within, length-map first.begin.locals (set_type q))) in
          let one = set_unit (expanded host e) q first.begin.locals m type
          (sym inner_is ∙ ap (slice_get (set_frame q first.begin).locals) (sym place) ∙ is) in
          let new = set_site (expanded host e) q one.0 (subst (λ (y : VType). IsTrue (is_site_object (expanded host e) y)) one.2 site) in
          let before = new_before s.headers (entry g.scope).locals first.begin.locals (begins laws folder facts host e stands s headers this_known hierarchy arrays calls standing k placed
          frame g inner at known first).locals m one.0 new one.1 in
          ap (slice_get behind.locals) place ∙ own_unit m one.0 new before ∙ ap Some (sym one.2)
    ] where
      narrow : (n < block_of p k) ⊎ (block_of p k + length first.begin.locals ≤ n)
          → (n < block_of p k) ⊎ (block_of p k + length (units_of_entries entries) ≤ n)
      narrow (inl before) = inl before
      narrow (inr after) = inr (omega (arith, after, no_more))

    one_entry : (n : ℕ) (type : VType) → slice_get (set_frame (inner_setting p k placed frame g inner) first.begin).stack n ≡ Some type
        → slice_get behind.stack n ≡ Some type
    one_entry n type is = elim (slice_either below (map (set_type q) first.begin.stack) n type is) [
      | inl front ↦ front
      | inr back ↦
          let one = set_unit (expanded host e) q first.begin.stack back.behind type back.there in
          let none = no_entries s.headers first.begin.stack (begins laws folder facts host e stands s headers this_known hierarchy arrays calls standing k placed
          frame g inner at known first).stack in
          absurd (none-some one.0 (sym (ap (λ (l : List VType). slice_get l back.behind) none) ∙ one.1))
    ]

    -- what is behind the stores goes to the callee
    into_callee : SameSites (expanded host e) behind (set_frame (inner_setting p k placed frame g inner) first.begin)
    into_callee = record { locals = one_local; stack = λ n type is site. one_entry n type is }

    callee_there : FrameThere (expanded host e) (start_of p k + points_before g.scope) (set_frame (inner_setting p k placed frame g inner) first.begin)
    callee_there = frame_there laws folder facts host e stands s headers own_stands 0 first.begin first.is

    -- ---- the points

    host_least : host.scope.part.max_locals ≤ block_of p k
    host_least = least laws folder facts host e stands s headers this_known hierarchy arrays calls standing k placed frame g inner at known first x

    catches : (others : List VType)
        → ((n : ℕ) → n < host.scope.part.max_locals → slice_get others n ≡ slice_get (set_frame p.setting frame).locals n)
        → AllByRecursion (λ (handler : FlatHandler). CatchKept (expanded host e) others handler.to) (p.setting.handlers placed.at)
    catches = handlers_kept laws folder facts host e stands s headers standing k placed frame at.is at.has_frame

    store_along : (next : ℕ) (more : List VType) (number : ℕ) (under : List VType) (type : VType) (argument : Argument)
        → host.scope.part.max_locals ≤ next
        → next + length (units_of_entries more) ≤ length (set_frame p.setting frame).locals
        → AreFree more
        → IsOfKind argument.kind type
        → HasRoom argument.kind (overlaid next (units_of_entries more) (set_frame p.setting frame).locals) argument.unit
        → point_at (expanded host e) number
        ≡ Some (point_in p.setting placed.at
        (record { locals = overlaid next (units_of_entries more) (set_frame p.setting frame).locals; stack = under ++ type ∷ [] })
        (Store argument.kind argument.unit))
        → Reaches (expanded host e)
        (record { locals = stored argument.unit type (overlaid next (units_of_entries more) (set_frame p.setting frame).locals); stack = under })
        (number + 1)
        → Along number
        (point_in p.setting placed.at
        (record { locals = overlaid next (units_of_entries more) (set_frame p.setting frame).locals; stack = under ++ type ∷ [] })
        (Store argument.kind argument.unit))
    store_along next more number under type argument behind_host fits_more free kind room here reaches =
        let now = overlaid next (units_of_entries more) (set_frame p.setting frame).locals in
        edges_kept (plan_scope classes links (expanded host e)) number
        (point_in p.setting placed.at (record { locals = now; stack = under ++ type ∷ [] }) (Store argument.kind argument.unit))
        (λ falls. record {
          to = reaches.to;
          there = reaches.there;
          keeps = keeps_more (store_to (expanded host e) number now under type argument.unit (room_within argument.kind now argument.unit room))
              reaches.same;
        }) tt
        (catches now (λ n before.
        get_outside next (units_of_entries more) (set_frame p.setting frame).locals fits_more n (inl (omega (arith, before, behind_host)))))

    abbrev test : Point
    test = record { instr = NullTest (block_of p k); typed = behind; handlers = p.setting.handlers placed.at }

    one_test : tests_receiver g.scope ≡ true → length (arguments g.scope (block_of p k)) + 1 ≡ points_before g.scope
    one_test some =
        subst (λ (b : Bool). length (arguments g.scope (block_of p k)) + (if b then 1 else 0) ≡ points_before g.scope) some (args_before laws folder facts host e stands s headers this_known hierarchy arrays calls standing k placed
        frame g inner at known first x)

    test_along : tests_receiver g.scope ≡ true → Along (start_of p k + length (arguments g.scope (block_of p k))) test
    test_along some =
        let number = start_of p k + length (arguments g.scope (block_of p k)) in
        let count = one_test some in
        edges_kept (plan_scope classes links (expanded host e)) number test
        (λ falls. record {
          to = set_frame q first.begin;
          there = subst (λ (n : ℕ). FrameThere (expanded host e) n (set_frame q first.begin)) (omega (arith, count)) callee_there;
          keeps = moving_to (expanded host e) number behind (row_of_point (plan_scope classes links (expanded host e)) number test) (set_frame q first.begin)
              (length behind.stack - 0) [] refl refl one_local
              (λ n type is site. let there = one_entry n type is in (omega (arith, slice_get_within behind.stack n type there), there));
        }) tt
        (catches behind.locals (λ n before.
        get_outside (block_of p k) (units_of_entries entries) locals block_fits n (inl (omega (arith, before, host_least)))))

    -- behind the stores
    after_stores : Reaches (expanded host e) behind (start_of p k + length (arguments g.scope (block_of p k)))
    after_stores = by (tests_receiver g.scope) refl where
      by : (tests : Bool) → tests_receiver g.scope ≡ tests
          → Reaches (expanded host e) behind (start_of p k + length (arguments g.scope (block_of p k)))
      by true some = record {
        to = behind;
        there =
            record {
              point = test;
              is = test_there laws folder facts host e stands s headers this_known hierarchy arrays calls standing k placed
                  frame g inner at known first x some;
              typed = refl;
            };
        same = same_frame (expanded host e) behind;
      }
      by false none =
          let count : length (arguments g.scope (block_of p k)) + 0 ≡ points_before g.scope =
          subst (λ (b : Bool). length (arguments g.scope (block_of p k)) + (if b then 1 else 0) ≡ points_before g.scope) none (args_before laws folder facts host e stands s headers this_known hierarchy arrays calls standing k placed
          frame g inner at known first x) in
          record {
            to = set_frame q first.begin;
            there = subst (λ (n : ℕ). FrameThere (expanded host e) n (set_frame q first.begin)) (omega (arith, count)) callee_there;
            same = into_callee;
          }

    -- The edges of each.
    pub entry_edges : (n : ℕ) (point : Point)
        → slice_get (points_of_entry p.setting placed.at (set_frame p.setting frame) g.scope (block_of p k)) n ≡ Some point
        → AllByRecursion (KeepsAlong (plan_scope classes links (expanded host e)) (start_of p k + n) point)
        (edges_of (start_of p k + n) point (row_of_point (plan_scope classes links (expanded host e)) (start_of p k + n) point))
    entry_edges n point is =
        elim (slice_either stores (test_points p.setting placed.at
        (frame_behind_stores (set_frame p.setting frame) (reverse (arguments g.scope (block_of p k)))) g.scope (block_of p k)) n point is) [
          | inl front ↦
              let split_is = frame_split laws folder facts host e stands s headers this_known hierarchy arrays calls standing k placed
              frame g inner at known in
              stores_hold (expanded host e) p.setting placed.at locals host.scope.part.max_locals (Reaches (expanded host e)) Along
              (λ number one here. record {
                to = one.typed;
                there = record { point = one; is = here; typed = refl };
                same = same_frame (expanded host e) one.typed;
              }) store_along (block_of p k) (arguments g.scope (block_of p k)) entries below x.laid host_least block_fits known.clear (tops laws folder facts host e stands s headers this_known hierarchy arrays calls standing k placed
              frame g inner at known first x) x.free
              (start_of p k)
              (λ m one one_is. stands_there laws folder facts host e stands s headers this_known hierarchy arrays calls standing k placed
              frame g inner at known first x m one
              (slice_left stores _ m one
              (subst (λ (f : Frame). slice_get (store_points p.setting placed.at f (reverse (arguments g.scope (block_of p k)))) m ≡ Some one)
              (sym split_is) one_is))) after_stores n point
              (subst (λ (f : Frame). slice_get (store_points p.setting placed.at f (reverse (arguments g.scope (block_of p k)))) n ≡ Some point) split_is
              front)
          | inr back ↦ by (tests_receiver g.scope) refl back.behind back.there back.number_is
        ] where
          stores : List Point
          stores = store_points p.setting placed.at (set_frame p.setting frame) (reverse (arguments g.scope (block_of p k)))

          by : (tests : Bool) → tests_receiver g.scope ≡ tests → (m : ℕ)
              → slice_get (test_points p.setting placed.at
              (frame_behind_stores (set_frame p.setting frame) (reverse (arguments g.scope (block_of p k)))) g.scope (block_of p k)) m ≡ Some point
              → n ≡ length (store_points p.setting placed.at (set_frame p.setting frame) (reverse (arguments g.scope (block_of p k)))) + m
              → Along (start_of p k + n) point
          by false none m there same =
              absurd (none-some point (ap (λ (points : List Point). slice_get points m) (sym (tests_none laws folder facts host e stands s headers this_known hierarchy arrays calls standing k placed
              frame g inner at known first x none)) ∙ there))
          by true some zero there same =
              let is_test : test ≡ point = same_Some test point (ap (λ (points : List Point). slice_get points 0) (sym (tests_is laws folder facts host e stands s headers this_known hierarchy arrays calls standing k placed
              frame g inner at known first x some)) ∙ there) in
              let place : start_of p k + length (arguments g.scope (block_of p k)) ≡ start_of p k + n = omega (
                arith,
                same,
                stores_long laws folder facts host e stands s headers this_known hierarchy arrays calls standing k placed
                    frame g inner at known first x,
              ) in
              subst (λ (number : ℕ). Along number point) place
              (subst (Along (start_of p k + length (arguments g.scope (block_of p k)))) is_test (test_along some))
          by true some (suc m) there same =
              absurd (none-some point (ap (λ (points : List Point). slice_get points (suc m)) (sym (tests_is laws folder facts host e stands s headers this_known hierarchy arrays calls standing k placed
              frame g inner at known first x some)) ∙ there))
