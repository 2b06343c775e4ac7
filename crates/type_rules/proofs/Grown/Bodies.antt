-- Frames that type a body type it too where the rows of its points are kept.
use Rattle.std.proofs.Common.{◌≡◌, ℕ, List, [], ◌∷◌, ◌++◌, Option, Some, None, if◌then◌else◌, sym, ap, subst, ◌∙◌}
use Rattle.std.specs.List.{AllByRecursion}
use Rattle.class_model.specs.Checks.{AllHold}
use Rattle.class_model.specs.Laws.Checks.{both_hold, first_holds, others_hold}
use Rattle.class_model.specs.Laws.Lists.{AllByRecursion-weaker}
use Rattle.class_model.specs.declared.frame.Frame.{Frame}
use Rattle.class_tree.specs.Laws.Alike.{shapes}
use Rattle.member_link.specs.Bodies.{Body, BodyCatch, BodyCaught, BodyPoint, catch_frame, flows_on, frame_behind, item_falls_through, item_targets, point_row}
use Rattle.member_link.specs.BodyTyping.{MayGoTo}
use Rattle.member_link.specs.RowScope.{RowScope}
use Rattle.type_rules.proofs.ByPlace.{row_asked, row_holds}
use Rattle.type_rules.proofs.Grown.Assigning.{frame_assigned, throwable_still}
use Rattle.type_rules.proofs.Grown.Rows.{KeepsRow, left_same, row_held}
use Rattle.type_rules.specs.Checks.{IsTypedAt, MayFlowIn, frame_before, handler_checks, target_checks}
use Rattle.type_rules.specs.Rule.{row_checks}
use Rattle.type_rules.specs.Typed.{AreTyped, CaughtIsThrowable, TypesBody}

-- a point in another scope, in which its row asks no more and leaves the same
pub record KeepsPoint (old : BodyPoint) (scope : RowScope) : Type 0 where
  pub shape : shapes old.scope.headers ≡ shapes scope.headers
  pub room : scope.max_stack ≡ old.scope.max_stack
  pub row : (f : Frame) → KeepsRow (point_row old f) (point_row (record old { scope = scope }) f)

abbrev pub KeepPoints : List BodyPoint → List BodyPoint → Type 0
KeepPoints [] [] = Unit {0}
KeepPoints (old ∷ olds) (new ∷ news) =
    (KeepsPoint old new.scope × (new ≡ record old { scope = new.scope })) × KeepPoints olds news
KeepPoints olds news = ⊥

pub record KeepsBody (old new : Body) : Type 0 where
  pub shape : shapes old.scope.headers ≡ shapes new.scope.headers
  pub entry : new.entry ≡ old.entry
  pub points : KeepPoints old.points new.points
  pub stated : (place : ℕ) → new.stated place ≡ old.stated place
  pub table : new.table ≡ old.table

module _ (old new : Body) (keeps : KeepsBody old new) where
  goes : (frame stated now : Option Frame) → now ≡ stated → MayGoTo old.scope frame stated → MayGoTo new.scope frame now
  goes (Some frame) (Some stated) now e may = subst (MayGoTo new.scope (Some frame)) (sym e) (frame_assigned old.scope.headers new.scope.headers keeps.shape may)
  goes (Some frame) None now e may = absurd may
  goes None stated now e may = absurd may

  flows_in : (flows stated now : Option Frame) → now ≡ stated → MayFlowIn old.scope flows stated → MayFlowIn new.scope flows now
  flows_in (Some flows) (Some stated) now e may = subst (MayFlowIn new.scope (Some flows)) (sym e) (frame_assigned old.scope.headers new.scope.headers keeps.shape may)
  flows_in (Some flows) None now e may = subst (MayFlowIn new.scope (Some flows)) (sym e) tt
  flows_in None stated now e may = tt

  handlers_still : (before : Frame) (catches : List BodyCatch) → AllHold (handler_checks old before catches) → AllHold (handler_checks new before catches)
  handlers_still before [] h = tt
  handlers_still before (catch ∷ catches) h =
      (goes (Some (catch_frame before catch.class)) (old.stated catch.to) (new.stated catch.to) (keeps.stated catch.to) h.0, handlers_still before catches h.1)

  targets_still : (behind now : Option Frame) → now ≡ behind → (targets : List ℕ) → AllHold (target_checks old behind targets) → AllHold (target_checks new now targets)
  targets_still behind now e [] h = tt
  targets_still behind now e (target ∷ targets) h =
      (subst (λ (o : Option Frame). MayGoTo new.scope o (new.stated target)) (sym e) (goes behind (old.stated target) (new.stated target) (keeps.stated target) h.0), targets_still behind now e targets h.1)

  module _ (point : BodyPoint) (scope : RowScope) (kept : KeepsPoint point scope) where
    abbrev moved : BodyPoint
    moved = record point { scope = scope }

    behind_same : (before : Frame) → frame_behind moved before ≡ frame_behind point before
    behind_same before = left_same before (kept.row before)

    flows_same : (before : Frame) → flows_on moved before ≡ flows_on point before
    flows_same before = ap (λ (o : Option Frame). if item_falls_through point.item then o else None) (behind_same before)

    typed_still : (flows : Option Frame) (before : Frame) → IsTypedAt old flows point before → IsTypedAt new flows moved before
    typed_still flows before typed =
        let handlers = handler_checks old before point.catches in
        let rows = row_checks point.scope before (point_row point before) in
        let targets = target_checks old (frame_behind point before) (item_targets point.item) in
        let now_handlers = handler_checks new before point.catches in
        let now_rows = row_checks scope before (point_row moved before) in
        let now_targets = target_checks new (frame_behind moved before) (item_targets point.item) in
        let two = first_holds (handlers ++ rows) targets typed.holds.1 in
        let row = row_held before (kept.row before) point.scope scope kept.shape kept.room (row_holds point.scope before (point_row point before) (others_hold handlers rows two)) in
        record {
          before_is = ap (frame_before flows) (keeps.stated point.place) ∙ typed.before_is;
          holds = (
            flows_in flows (old.stated point.place) (new.stated point.place) (keeps.stated point.place) typed.holds.0,
            both_hold (now_handlers ++ now_rows) now_targets
                (both_hold now_handlers now_rows (handlers_still before point.catches (first_holds handlers rows two)) (row_asked scope before (point_row moved before) row))
                (targets_still (frame_behind point before) (frame_behind moved before) (behind_same before) (item_targets point.item) (others_hold (handlers ++ rows) targets typed.holds.1)),
          );
        }

  all_typed : (flows now : Option Frame) → now ≡ flows → (olds news : List BodyPoint) (frames : List Frame) → KeepPoints olds news → AreTyped old flows olds frames → AreTyped new now news frames
  all_typed flows now e [] [] [] kept typed = e ∙ typed
  all_typed flows now e [] [] (frame ∷ frames) kept typed = absurd typed
  all_typed flows now e [] (point ∷ news) frames kept typed = absurd kept
  all_typed flows now e (point ∷ olds) [] frames kept typed = absurd kept
  all_typed flows now e (point ∷ olds) (other ∷ news) [] kept typed = absurd typed
  all_typed flows now e (point ∷ olds) (other ∷ news) (frame ∷ frames) kept typed =
      let scope = other.scope in
      let here = typed_still point scope kept.0.0 flows frame typed.0 in
      let rest = all_typed (flows_on point frame) (flows_on (record point { scope = scope }) frame) (flows_same point scope kept.0.0 frame) olds news frames kept.1 typed.1 in
      let both : IsTypedAt new flows (record point { scope = scope }) frame × AreTyped new (flows_on (record point { scope = scope }) frame) news frames = (here, rest) in
      subst (λ (o : Option Frame). IsTypedAt new o other frame × AreTyped new (flows_on other frame) news frames) (sym e)
      (subst (λ (p : BodyPoint). IsTypedAt new flows p frame × AreTyped new (flows_on p frame) news frames) (sym kept.0.1) both)

  pub body_typed : (frames : List Frame) → TypesBody old frames → TypesBody new frames
  body_typed frames types = record {
    catch_types = subst (λ (table : List BodyCaught). AllByRecursion (CaughtIsThrowable new.scope.headers) table) (sym keeps.table)
        (AllByRecursion-weaker (CaughtIsThrowable old.scope.headers) (CaughtIsThrowable new.scope.headers) (λ caught is. throwable_still old.scope.headers new.scope.headers keeps.shape is) old.table types.catch_types);
    instrs = all_typed (Some old.entry) (Some new.entry) (ap Some keeps.entry) old.points new.points frames keeps.points types.instrs;
  }
