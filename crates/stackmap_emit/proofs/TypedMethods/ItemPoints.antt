-- Each instruction of the method is typed where its item is, one after the other.
use Rattle.std.proofs.Common.{◌≡◌, ◌==◌, ◌++◌, ◌≤◌, ◌<◌, ◌+◌, ◌∙◌, ℕ, suc, Bool, true, false, List, [], ◌∷◌, length, map, slice_get, Option, Some, None, option_map, if◌then◌else◌, refl, sym, ap, subst, arith}
use Rattle.std.specs.List.{AllByRecursion}
use Rattle.std.proofs.lemmas.Option.{slice_get_within}
use Rattle.class_model.specs.Checks.{AllHold, Check}
use Rattle.class_model.specs.Instructions.{targets}
use Rattle.class_model.specs.Laws.Checks.{both_hold, first_holds, others_hold}
use Rattle.class_model.specs.Pool.{Constants}
use Rattle.class_model.specs.PoolChecks.{class_at}
use Rattle.class_model.specs.declared.class_file.Handler.{Handler}
use Rattle.class_model.specs.declared.frame.Frame.{Frame}
use Rattle.class_model.specs.declared.instr.Instr.{Instr}
use Rattle.class_model.specs.declared.instr.Placed.{Placed}
use Rattle.class_tree.specs.Headers.{Name}
use Rattle.class_tree.specs.Names.{throwable}
use Rattle.code_layout.specs.Emitting.{IsEmitted, NamesItem}
use Rattle.code_layout.specs.Layout.{Spelled, len_of, placed_from, range_of, ranges_from, start_in, starts_from}
use Rattle.code_layout.specs.PlainItems.{plain_item, plain_items}
use Rattle.code_layout.specs.declared.emitted.Catch.{Catch}
use Rattle.code_layout.specs.declared.emitted.EmitItem.{EmitItem}
use Rattle.member_link.specs.Bodies.{Body, BodyCatch, BodyCaught, BodyPoint, catch_frame, falls_through, flows_on, frame_behind, item_targets, point_row}
use Rattle.member_link.specs.BodyTyping.{IsThrowable, MayGoTo, RowHolds}
use Rattle.member_link.specs.Machine.Replaced.{map_numbered}
use Rattle.member_link.specs.RowScope.{RowScope}
use Rattle.member_link.specs.Rows.Assigning.{IsFrameAssignableIn}
use Rattle.member_link.specs.Rows.Row.{Row, row_frame}
use Rattle.member_link.specs.Rows.Table.{row_of}
use Rattle.member_link.specs.Scope.{Scope, row_scope}
use Rattle.member_link.specs.Targets.{with_targets}
use Rattle.plan_flow.specs.Written.FramedCode.{body_catch, caught_name, item_body, item_table}
use Rattle.row_frames.specs.Laws.NumberedFrames.{numbered_frame}
use Rattle.row_frames.specs.Laws.RenumberedTargets.{falls_same, targets_numbered}
use Rattle.row_frames.specs.Laws.RenumberedTypes.{frame_assignable_kept}
use Rattle.stackmap_emit.proofs.TypedMethods.ItemHandlers.{none_behind, own_catches}
use Rattle.stackmap_emit.proofs.TypedMethods.ItemRows.{StandsIn, holds_there}
use Rattle.row_frames.specs.Laws.MorePools.{class_more}
use Rattle.stackmap_emit.proofs.TypedMethods.Offsets.{TakeBytes, offset, targets_by}
use Rattle.stackmap_emit.proofs.TypedMethods.PlacedStates.{place_is}
use Rattle.stackmap_emit.specs.PlacedFrames.{spelled_in}
use Rattle.stackmap_emit.specs.TypedMethods.{LaidCode, PassAccess, laid_body}
use Rattle.type_rules.specs.Checks.{IsTypedAt, MayFlowIn, frame_before, handler_checks, target_checks}
use Rattle.type_rules.specs.Handlers.{catch_of, catches_at, caught, caught_in}
use Rattle.type_rules.specs.MethodBodies.{body_of, point_of}
use Rattle.type_rules.specs.Rule.{row_checks}
use Rattle.type_rules.specs.Stated.{stated_at}
use Rattle.type_rules.specs.Typed.{AreTyped, CaughtIsThrowable}
use Rattle.type_rules.specs.declared.fault.TypeRule.{TypeRule}

-- what is known of the method
pub record Known (w : LaidCode) (s : Scope) : Type 0 where
  pub in_class : StandsIn w.host s w.pool (spelled_in w.form) w.items
  pub emitted : IsEmitted w.items
  pub access : PassAccess w s
  pub stated : (n : ℕ) → n < length w.items
      → stated_at s (offset (spelled_in w.form) 0 w.items n)
      ≡ option_map (numbered_frame (offset (spelled_in w.form) 0 w.items)) (w.state n)
  pub assign : (from to : Frame)
      → IsFrameAssignableIn w.host.headers w.host.class.major from to
      → IsFrameAssignableIn s.headers s.class.major from to
  pub throws : (caught : Option Name) → IsThrowable w.host.headers caught → IsThrowable s.headers caught

module _ (w : LaidCode) (s : Scope) (known : Known w s) where
  abbrev spelled : Spelled
  spelled = spelled_in w.form

  abbrev number : ℕ → ℕ
  number = offset spelled 0 w.items

  abbrev place : ℕ → ℕ
  place = start_in (starts_from spelled 0 w.items)

  abbrev fa : Frame → Frame
  fa = numbered_frame number

  abbrev before_body : Body
  before_body = laid_body w s.part.max_stack

  abbrev own : Body
  own = body_of s

  abbrev item_point : ℕ → EmitItem → BodyPoint
  item_point n item = item_body w.pool before_body.scope n (plain_item item)

  abbrev placed_item : ℕ → EmitItem → Placed
  placed_item at item = record { at = at; len = len_of spelled at item.instr; instr = with_targets place item.instr }

  -- ---- where control may go

  goes : (from stated : Option Frame) → MayGoTo before_body.scope from stated
      → MayGoTo own.scope (option_map fa from) (option_map fa stated)
  goes None stated may = absurd may
  goes (Some from) None may = absurd may
  goes (Some from) (Some to) may = frame_assignable_kept number s.headers from to (known.assign from to may)

  flows_in : (flows stated : Option Frame) → MayFlowIn before_body.scope flows stated
      → MayFlowIn own.scope (option_map fa flows) (option_map fa stated)
  flows_in None None may = tt
  flows_in None (Some to) may = tt
  flows_in (Some from) None may = tt
  flows_in (Some from) (Some to) may = frame_assignable_kept number s.headers from to (known.assign from to may)

  before_same : (flows stated : Option Frame) → frame_before (option_map fa flows) (option_map fa stated) ≡ option_map fa (frame_before flows stated)
  before_same flows None = refl
  before_same flows (Some to) = refl

  goes_there : (from : Option Frame) (to : ℕ) → to < length w.items → MayGoTo before_body.scope from (w.state to)
      → MayGoTo own.scope (option_map fa from) (own.stated (place to))
  goes_there from to within may =
      subst (MayGoTo own.scope (option_map fa from))
      (sym (ap own.stated (place_is spelled w.items known.in_class.take to within) ∙ known.stated to within)) (goes from (w.state to) may)

  targets_go : (from : Option Frame) (numbers : List ℕ) → AllByRecursion (NamesItem (length w.items)) numbers
      → AllHold (target_checks before_body from numbers)
      → AllHold (target_checks own (option_map fa from) (map place numbers))
  targets_go from [] names may = tt
  targets_go from (to ∷ numbers) names may = (goes_there from to names.0 may.0, targets_go from numbers names.1 may.1)

  -- ---- handlers

  -- a catch type that names a class in the pool of the items names it in the method's class
  caught_same : (catch_type : ℕ) (name : Name) → caught_name w.pool catch_type ≡ Some name
      → (if catch_type == 0 then Some throwable else class_at s.class.pool catch_type) ≡ Some name
  caught_same catch_type name is = by (catch_type == 0) is where
    by : (b : Bool) → (if b then Some throwable else class_at w.pool catch_type) ≡ Some name
        → (if b then Some throwable else class_at s.class.pool catch_type) ≡ Some name
    by true e = e
    by false e =
        subst (λ (all : Constants). class_at all catch_type ≡ Some name) (sym known.in_class.has)
        (class_more w.pool known.in_class.more catch_type name e)

  -- each of these catches something
  abbrev Throw : List Catch → Type 0
  Throw catches = AllByRecursion (λ (catch : Catch). IsThrowable w.host.headers (caught_name w.pool catch.catch_type)) catches

  catch_goes : (frame : Frame) (start end : ℕ) (catch : Catch) → NamesItem (length w.items) catch.to
      → IsThrowable w.host.headers (caught_name w.pool catch.catch_type)
      → MayGoTo before_body.scope (Some (catch_frame frame (caught_name w.pool catch.catch_type))) (w.state catch.to)
      → MayGoTo own.scope (Some (catch_frame (fa frame) (caught s (range_of place start end catch)))) (own.stated (place catch.to))
  catch_goes frame start end catch names throws may =
      let there : caught s (range_of place start end catch) ≡ Some throws.class = caught_same catch.catch_type throws.class throws.is_caught in
      subst (λ (class : Option Name). MayGoTo own.scope (Some (catch_frame (fa frame) class)) (own.stated (place catch.to))) (sym there)
      (goes_there (Some (catch_frame frame (Some throws.class))) catch.to names
      (subst (λ (class : Option Name). MayGoTo before_body.scope (Some (catch_frame frame class)) (w.state catch.to)) throws.is_caught may))

  catches_go : (frame : Frame) (start end : ℕ) (catches : List Catch) → AllByRecursion (λ (catch : Catch). NamesItem (length w.items) catch.to) catches
      → Throw catches
      → AllHold (handler_checks before_body frame (map (body_catch w.pool) (map (λ (catch : Catch). (catch.to, catch.catch_type)) catches)))
      → AllHold (handler_checks own (fa frame) (map (λ (catch : Catch). catch_of s (range_of place start end catch)) catches))
  catches_go frame start end [] names throws may = tt
  catches_go frame start end (catch ∷ catches) names throws may =
      (catch_goes frame start end catch names.0 throws.0 may.0, catches_go frame start end catches names.1 throws.1 may.1)

  -- ---- an instruction

  row_parts : (t : RowScope) (f : Frame) (row : Row) → AllHold (row_checks t f row) → RowHolds t f row
  row_parts t f row (fits, (held, (deep, (kind, done)))) =
      record { operands = fits; local = held; depth_fits = deep; further = kind.0; access = kind.1 }

  row_all : (t : RowScope) (f : Frame) (row : Row) → RowHolds t f row → AllHold (row_checks t f row)
  row_all t f row h = (h.operands, (h.local, (h.depth_fits, ((h.further, h.access), tt))))

  module _ (n at : ℕ) (item : EmitItem) (frame : Frame) (here : number n ≡ at) (is_item : slice_get w.items n ≡ Some item)
      (is_frame : slice_get w.frames n ≡ Some frame)
      (catches_are : catches_at s at s.part.handlers
      ≡ map (λ (catch : Catch). catch_of s (range_of place at (at + len_of spelled at item.instr) catch)) item.catches)
      (throws : Throw item.catches) where
    within : n < length w.items
    within = slice_get_within w.items n item is_item

    abbrev point : BodyPoint
    point = item_point n item

    abbrev also : BodyPoint
    also = point_of s (placed_item at item)

    instr_same : with_targets number item.instr ≡ with_targets place item.instr
    instr_same =
        targets_by number place item.instr (agree (targets item.instr) (known.emitted.each n item is_item).targets) where
          agree : (numbers : List ℕ) → AllByRecursion (NamesItem (length w.items)) numbers
              → AllByRecursion (λ (t : ℕ). number t ≡ place t) numbers
          agree [] names = tt
          agree (t ∷ numbers) names = (sym (place_is spelled w.items known.in_class.take t names.0), agree numbers names.1)

    record Behind : Type 0 where
      held : RowHolds (row_scope s) (fa frame) (point_row also (fa frame))
      left : frame_behind also (fa frame) ≡ option_map fa (frame_behind point frame)

    behind : RowHolds before_body.scope frame (point_row point frame) → Behind
    behind holds =
        let there = holds_there w.host s w.pool spelled w.items known.in_class n item.instr frame within holds (known.access n item frame is_item is_frame) in
        let by_place = subst (λ (instr : Instr). RowHolds (row_scope s) (fa frame) (row_of (row_scope s) (fa frame) (number n) instr)) instr_same there.held in
        let left_place = subst (λ (instr : Instr). row_frame (fa frame) (row_of (row_scope s) (fa frame) (number n) instr)
        ≡ option_map fa (frame_behind point frame)) instr_same there.left in
        record {
          held = subst (λ (k : ℕ). RowHolds (row_scope s) (fa frame) (row_of (row_scope s) (fa frame) k (with_targets place item.instr))) here by_place;
          left = subst (λ (k : ℕ). row_frame (fa frame) (row_of (row_scope s) (fa frame) k (with_targets place item.instr))
              ≡ option_map fa (frame_behind point frame)) here left_place;
        }

    abbrev of_handlers : List (Check TypeRule)
    of_handlers = handler_checks before_body frame point.catches

    abbrev of_row : List (Check TypeRule)
    of_row = row_checks point.scope frame (point_row point frame)

    abbrev of_targets : List (Check TypeRule)
    of_targets = target_checks before_body (frame_behind point frame) (item_targets point.item)

    abbrev own_handlers : List (Check TypeRule)
    own_handlers = handler_checks own (fa frame) also.catches

    abbrev own_row : List (Check TypeRule)
    own_row = row_checks also.scope (fa frame) (point_row also (fa frame))

    abbrev own_targets : List (Check TypeRule)
    own_targets = target_checks own (frame_behind also (fa frame)) (item_targets also.item)

    module _ (flows : Option Frame) (typed : IsTypedAt before_body flows point frame) where
      first : AllHold (of_handlers ++ of_row)
      first = first_holds (of_handlers ++ of_row) of_targets typed.holds.1

      row_behind : Behind
      row_behind = behind (row_parts point.scope frame (point_row point frame) (others_hold of_handlers of_row first))

      stated_same : own.stated at ≡ option_map fa (w.state n)
      stated_same = ap own.stated (sym here) ∙ known.stated n within

      handlers_hold : AllHold own_handlers
      handlers_hold =
          subst (λ (catches : List BodyCatch). AllHold (handler_checks own (fa frame) catches)) (sym catches_are)
          (catches_go frame at (at + len_of spelled at item.instr) item.catches (known.emitted.each n item is_item).catches throws
          (first_holds of_handlers of_row first))

      targets_hold : AllHold own_targets
      targets_hold =
          subst (λ (numbers : List ℕ). AllHold (target_checks own (frame_behind also (fa frame)) numbers))
          (sym (targets_numbered place item.instr))
          (subst (λ (from : Option Frame). AllHold (target_checks own from (map place (targets item.instr)))) (sym row_behind.left)
          (targets_go (frame_behind point frame) (targets item.instr) (known.emitted.each n item is_item).targets
          (others_hold (of_handlers ++ of_row) of_targets typed.holds.1)))

      may_flow : MayFlowIn own.scope (option_map fa flows) (own.stated at)
      may_flow =
          subst (MayFlowIn own.scope (option_map fa flows)) (sym stated_same) (flows_in flows (w.state n) typed.holds.0)

      pub typed_there : IsTypedAt own (option_map fa flows) also (fa frame)
      typed_there = record {
        before_is =
            ap (frame_before (option_map fa flows)) stated_same ∙ before_same flows (w.state n) ∙ ap (option_map fa) typed.before_is;
        holds = (
          may_flow,
          both_hold (own_handlers ++ own_row) own_targets
              (both_hold own_handlers own_row handlers_hold (row_all also.scope (fa frame) (point_row also (fa frame)) row_behind.held)) targets_hold,
        );
      }

      pub flows_same : flows_on also (fa frame) ≡ option_map fa (flows_on point frame)
      flows_same =
          ap (λ (falls : Bool). if falls then frame_behind also (fa frame) else None) (falls_same place item.instr)
          ∙ ap (λ (from : Option Frame). if falls_through item.instr then from else None) row_behind.left
          ∙ chosen (falls_through item.instr)
        where
          chosen : (falls : Bool)
              → (if falls then option_map fa (frame_behind point frame) else None)
              ≡ option_map fa (if falls then frame_behind point frame else None)
          chosen true = refl
          chosen false = refl

  -- ---- one after the other

  -- what the exception table says of the items from a number on
  abbrev Throws : ℕ → List EmitItem → Type 0
  Throws n rest = AllByRecursion (CaughtIsThrowable w.host.headers) (item_table w.pool n (plain_items rest))

  throws_first : (n : ℕ) (catches : List Catch) (others : List BodyCaught)
      → AllByRecursion (CaughtIsThrowable w.host.headers)
      (map (λ (catch : ℕ × ℕ). record { start = n; class = caught_name w.pool catch.1 }) (map (λ (catch : Catch). (catch.to, catch.catch_type)) catches) ++ others)
      → Throw catches × AllByRecursion (CaughtIsThrowable w.host.headers) others
  throws_first n [] others all = (tt, all)
  throws_first n (catch ∷ catches) others all =
      let rest = throws_first n catches others all.1 in ((all.0, rest.0), rest.1)

  -- items from a number and an offset on, among all items
  pub record From (n at : ℕ) (rest : List EmitItem) (typed : List Frame) : Type 0 where
    pub items : (gap : ℕ) → slice_get rest gap ≡ slice_get w.items (n + gap)
    pub frames : (gap : ℕ) → slice_get typed gap ≡ slice_get w.frames (n + gap)
    pub offsets : (gap : ℕ) → number (n + gap) ≡ offset spelled at rest gap
    pub handlers : (behind : ℕ) → at ≤ behind
        → catches_at s behind s.part.handlers ≡ catches_at s behind (ranges_from spelled place at rest)

  next_from : (n at : ℕ) (item : EmitItem) (rest : List EmitItem) (frame : Frame) (frames : List Frame)
      → From n at (item ∷ rest) (frame ∷ frames)
      → From (suc n) (at + len_of spelled at item.instr) rest frames
  next_from n at item rest frame frames from = record {
    items = λ gap. from.items (suc gap) ∙ ap (slice_get w.items) (omega arith);
    frames = λ gap. from.frames (suc gap) ∙ ap (slice_get w.frames) (omega arith);
    offsets = λ gap. ap number (omega arith) ∙ from.offsets (suc gap);
    handlers = λ behind least. from.handlers behind (omega (arith, least)) ∙ none_behind spelled s place at item rest behind least;
  }

  pub typed_from : (n at : ℕ) (rest : List EmitItem) (frames : List Frame) (flows : Option Frame) → From n at rest frames
      → TakeBytes spelled at rest
      → Throws n rest
      → AreTyped before_body flows (map_numbered (item_body w.pool before_body.scope) n (plain_items rest)) frames
      → AreTyped own (option_map fa flows) (map (point_of s) (placed_from spelled place at rest)) (map fa frames)
  typed_from n at [] [] flows from take throws typed = ap (option_map fa) typed
  typed_from n at [] (frame ∷ frames) flows from take throws typed = absurd typed
  typed_from n at (item ∷ rest) [] flows from take throws typed = absurd typed
  typed_from n at (item ∷ rest) (frame ∷ frames) flows from take throws typed =
      let none : n + 0 ≡ n = omega arith in
      let here : number n ≡ at = ap number (sym none) ∙ from.offsets 0 in
      let is_item : slice_get w.items n ≡ Some item = ap (slice_get w.items) (sym none) ∙ sym (from.items 0) in
      let is_frame : slice_get w.frames n ≡ Some frame = ap (slice_get w.frames) (sym none) ∙ sym (from.frames 0) in
      let catches = from.handlers at (omega arith) ∙ own_catches spelled s place at item rest take.0 in
      let both = throws_first n item.catches (item_table w.pool (suc n) (plain_items rest)) throws in
      let next = typed_from (suc n) (at + len_of spelled at item.instr) rest frames (flows_on (item_point n item) frame)
      (next_from n at item rest frame frames from) take.1 both.1 typed.1 in (
        typed_there n at item frame here is_item is_frame catches both.0 flows typed.0,
        subst (λ (flow : Option Frame). AreTyped own flow (map (point_of s) (placed_from spelled place (at + len_of spelled at item.instr) rest)) (map fa frames))
            (sym (flows_same n at item frame here is_item is_frame catches both.0 flows typed.0)) next,
      )

  -- ---- the exception table

  table_first : (start end : ℕ) (catches : List Catch) (others : List BodyCaught) → Throw catches
      → AllByRecursion (CaughtIsThrowable s.headers) others
      → AllByRecursion (CaughtIsThrowable s.headers) (map (caught_in s) (map (range_of place start end) catches) ++ others)
  table_first start end [] others throws all = all
  table_first start end (catch ∷ catches) others throws all =
      let first = throws.0 in
      let there : caught s (range_of place start end catch) ≡ caught_name w.pool catch.catch_type =
      caught_same catch.catch_type first.class first.is_caught ∙ sym first.is_caught in (
        subst (IsThrowable s.headers) (sym there) (known.throws (caught_name w.pool catch.catch_type) first),
        table_first start end catches others throws.1 all,
      )

  map_both : (f : Handler → BodyCaught) (xs ys : List Handler) → map f (xs ++ ys) ≡ map f xs ++ map f ys
  map_both f [] ys = refl
  map_both f (x ∷ xs) ys = ap (λ (all : List BodyCaught). f x ∷ all) (map_both f xs ys)

  pub table_throws : (n at : ℕ) (rest : List EmitItem) → Throws n rest
      → AllByRecursion (CaughtIsThrowable s.headers) (map (caught_in s) (ranges_from spelled place at rest))
  table_throws n at [] throws = tt
  table_throws n at (item ∷ rest) throws =
      let next = at + len_of spelled at item.instr in
      let both = throws_first n item.catches (item_table w.pool (suc n) (plain_items rest)) throws in
      subst (AllByRecursion (CaughtIsThrowable s.headers)) (sym (map_both (caught_in s) (map (range_of place at next) item.catches) (ranges_from spelled place next rest)))
      (table_first at next item.catches (map (caught_in s) (ranges_from spelled place next rest)) both.0 (table_throws (suc n) next rest both.1))
