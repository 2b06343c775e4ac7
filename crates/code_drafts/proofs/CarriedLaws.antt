-- Targets, handlers and constants of instructions that are carried into the host.
use Rattle.std.proofs.Common.{◌≡◌, ◌==◌, ◌+◌, ◌<◌, ◌^◌, ℕ, suc, true, false, List, [], ◌∷◌, ◌++◌, length, map, drop, slice_get, Option, Some, None, option_map, refl, sym, ap, subst, ◌∙◌, append_assoc, append-nil, arith}
use Rattle.std.specs.List.{flat_map}
use Rattle.std.proofs.lemmas.Grind.{flat_map-append}
use Rattle.std.proofs.lemmas.List.{map-append}
use Rattle.std.proofs.lemmas.Option.{none-some, same_Some}
use Rattle.class_model.specs.Laws.Lists.{at_index, drop_item}
use Rattle.class_model.specs.Pool.{Constants, entries_of}
use Rattle.class_model.specs.declared.class_file.ClassFile.{ClassFile}
use Rattle.class_model.specs.declared.instr.Instr.{Instr}
use Rattle.class_tree.specs.Headers.{Name}
use Rattle.materialise.specs.Laws.GrownEdits.{continues_both, full_first, full_then, grown_more, grows_both, grows_none}
use Rattle.code_drafts.proofs.SameEnds.{IsEnd}
use Rattle.code_drafts.proofs.FieldLaws.{drop_past}
use Rattle.code_drafts.specs.Inner.CarriedWords.{Catches, IsCarried, IsCatchIndex, IsDraft, all_catch_needs, carried_item, catch_on}
use Rattle.code_drafts.specs.Drafts.{Meant, catch_of, meant_catch, target_of}
use Rattle.code_drafts.specs.declared.draft.DraftCatch.{DraftCatch}
use Rattle.code_drafts.specs.declared.draft.DraftItem.{DraftItem}
use Rattle.code_drafts.specs.declared.draft.Target.{Target}
use Rattle.flow_code.specs.FlatCode.{FlatCode, point_at}
use Rattle.flow_code.specs.declared.handlers.FlatHandler.{FlatHandler}
use Rattle.flow_code.specs.declared.point.FlatInstr.{FlatInstr}
use Rattle.flow_code.specs.declared.point.Point.{Point}
use Rattle.flow_code.specs.declared.reason.Reason.{Reason}
use Rattle.making_code.specs.Constants.{Need, needs_at}
use Rattle.making_code.specs.Items.{WCatch, WTarget, to_handler_pad, to_jump_pad, to_point}
use Rattle.materialise.specs.Growing.{Grows, IsFull}
use Rattle.materialise.specs.Indices.{IsIndexOfLast}
use Rattle.plan_flow.specs.Narrow.{IsNarrow, IsNarrowPoint}
use Rattle.plan_flow.specs.PlanScope.{PlanScope, pool_of}
use Rattle.plan_flow.specs.PlanTable.{targets_at}
use Rattle.plan_flow.specs.Written.Routes.{Route, RouteEdge, edge_by}
use Rattle.plan_flow.specs.Written.Templates.{catches_at, catches_from, jump_target, jump_targets, to_or_pad}
use Rattle.plan_flow.specs.Written.WrittenConstants.{carried_instr, carried_needs, catch_needs, item_needs, named_index, needs_of_index, with_index}
use Rattle.plan_flow.specs.declared.edge.EdgeKind.TheVariants as edges
use Rattle.pool_edit.specs.Edits.{Continues, Edit, grown}

-- ---- targets

pub jump_some : (at : ℕ) (route : Route) (number to leads : ℕ) (made : List ℕ) (target : WTarget)
    → IsEnd (edge_by route (edges.Jump number)) leads made
    → target ≡ to_or_pad made (to_point leads) (to_jump_pad at number)
    → target ≡ jump_target at route number to
jump_some at route number to leads made target end is =
    is
    ∙ ap (λ (list : List ℕ). to_or_pad list (to_point leads) (to_jump_pad at number)) (sym end.same_made)
    ∙ ap (λ (n : ℕ). to_or_pad end.edge.made (to_point n) (to_jump_pad at number)) (sym end.same_to)
    ∙ sym (rw end.is_found refl)

pub jump_none : (at : ℕ) (route : Route) (number to : ℕ) → edge_by route (edges.Jump number) ≡ None → to_point to ≡ jump_target at route number to
jump_none at route number to none = sym (rw none refl)

-- where targets are found, and those that are left, make all
pub record TargetsLeft (at : ℕ) (route : Route) (all : List ℕ) (list : List Target) (number : ℕ) : Type 0 where
  pub are : map target_of list ++ jump_targets at route number (drop number all) ≡ jump_targets at route 0 all

pub targets_first : (at : ℕ) (route : Route) (all : List ℕ) (list : List Target) → list ≡ [] → TargetsLeft at route all list 0
targets_first at route all list none = record { are = ap (λ (l : List Target). map target_of l ++ jump_targets at route 0 all) none }

pub targets_next : (at : ℕ) (route : Route) (all : List ℕ) (list more : List Target) (number to : ℕ) (one : Target)
    → TargetsLeft at route all list number
    → slice_get all number ≡ Some to
    → target_of one ≡ jump_target at route number to
    → more ≡ list ++ one ∷ []
    → TargetsLeft at route all more (number + 1)
targets_next at route all list more number to one so_far there is adds = record {
  are =
      let next : suc number ≡ number + 1 = omega arith in
      ap (λ (l : List Target). map target_of l ++ jump_targets at route (number + 1) (drop (number + 1) all)) adds
      ∙ ap (λ (l : List WTarget). l ++ jump_targets at route (number + 1) (drop (number + 1) all)) (map-append target_of list (one ∷ []))
      ∙ append_assoc (map target_of list) (target_of one ∷ []) (jump_targets at route (number + 1) (drop (number + 1) all))
      ∙ ap (λ (t : WTarget). map target_of list ++ t ∷ jump_targets at route (number + 1) (drop (number + 1) all)) is
      ∙ ap (λ (n : ℕ). map target_of list ++ jump_target at route number to ∷ jump_targets at route n (drop (number + 1) all)) (sym next)
      ∙ ap (λ (l : List ℕ). map target_of list ++ jump_targets at route number l) (sym (drop_item all number to there))
      ∙ so_far.are;
}

pub targets_end : (at : ℕ) (route : Route) (all : List ℕ) (list : List Target) (number : ℕ)
    → TargetsLeft at route all list number
    → slice_get all number ≡ None
    → map target_of list ≡ jump_targets at route 0 all
targets_end at route all list number so_far none =
    sym (append-nil (map target_of list))
    ∙ ap (λ (l : List ℕ). map target_of list ++ jump_targets at route number l) (sym (drop_past all number none))
    ∙ so_far.are

-- ---- how many there are

pub narrow_point : (flat : FlatCode) (at : ℕ) (point : Point) → IsNarrow flat → point_at flat at ≡ Some point → IsNarrowPoint point
narrow_point flat at point narrow is = at_index IsNarrowPoint flat.points at point narrow.points is

pub few_targets : (flat : FlatCode) (at : ℕ) (instr : FlatInstr) → IsNarrow flat → option_map (λ (point : Point). point.instr) (point_at flat at) ≡ Some instr
    → length (targets_at instr) < 2 ^ 32
few_targets flat at instr narrow is = by (point_at flat at) refl is where
  by : (found : Option Point) → point_at flat at ≡ found → option_map (λ (point : Point). point.instr) found ≡ Some instr → length (targets_at instr) < 2 ^ 32
  by None at_is same = absurd (none-some instr same)
  by (Some point) at_is same =
      subst (λ (i : FlatInstr). length (targets_at i) < 2 ^ 32) (same_Some point.instr instr same) (narrow_point flat at point narrow at_is).targets

pub few_handlers : (flat : FlatCode) (at : ℕ) (handlers : List FlatHandler) → IsNarrow flat
    → Some handlers ≡ option_map (λ (point : Point). point.handlers) (point_at flat at)
    → length handlers < 2 ^ 32
few_handlers flat at handlers narrow is = by (point_at flat at) refl is where
  by : (found : Option Point) → point_at flat at ≡ found → Some handlers ≡ option_map (λ (point : Point). point.handlers) found → length handlers < 2 ^ 32
  by None at_is same = absurd (none-some handlers (sym same))
  by (Some point) at_is same =
      subst (λ (list : List FlatHandler). length list < 2 ^ 32) (same_Some point.handlers handlers (sym same)) (narrow_point flat at point narrow at_is).handlers

-- ---- handlers

pub catches_none : (edit : Edit) (list : List DraftCatch) → Catches [] edit list edit list
catches_none edit list = record { grows = grows_none edit; are = λ more. sym (append-nil (map catch_of list)) }

pub catches_both : (first middle last : Edit) (before between after : List DraftCatch) (front back : List WCatch)
    → Catches front first before middle between
    → Catches back middle between last after
    → Continues middle last
    → Catches (front ++ back) first before last after
catches_both first middle last before between after front back one other so_far = record {
  grows =
      subst (λ (needs : List Need). Grows first needs last) (sym (flat_map-append (λ (catch : WCatch). catch_needs catch.class) front back))
      (grows_both first middle last (all_catch_needs front) (all_catch_needs back) one.grows other.grows);
  are = λ more.
      let entries = flat_map entries_of so_far.more in
      let same : grown middle ++ (entries ++ more) ≡ grown last ++ more =
      sym (append_assoc (grown middle) entries more) ∙ ap (λ (pool : Constants). pool ++ more) (sym (grown_more middle last so_far)) in
      other.are more
      ∙ ap (λ (list : List (WTarget × ℕ)). list ++ map (meant_catch (grown last ++ more)) back) (one.are (entries ++ more))
      ∙ ap (λ (pool : Constants). (map catch_of before ++ map (meant_catch pool) front) ++ map (meant_catch (grown last ++ more)) back) same
      ∙ append_assoc (map catch_of before) (map (meant_catch (grown last ++ more)) front) (map (meant_catch (grown last ++ more)) back)
      ∙ ap (λ (list : List (WTarget × ℕ)). map catch_of before ++ list) (sym (map-append (meant_catch (grown last ++ more)) front back));
}

abbrev catch_to : WTarget → Option Name → WCatch
catch_to to class = record { to = to; class = class }

abbrev drafted : Target → ℕ → DraftCatch
drafted to class = record { to = to; class = class }

pub catch_some : (at number leads index : ℕ) (handler : FlatHandler) (found : Option RouteEdge) (made : List ℕ) (to : Target) (old new : Edit) (list after : List DraftCatch)
    → IsEnd found leads made
    → target_of to ≡ to_or_pad made (to_point leads) (to_handler_pad at number)
    → Grows old (catch_needs handler.catch_class) new
    → IsCatchIndex new handler.catch_class index
    → after ≡ list ++ drafted to index ∷ []
    → Catches (catch_on at number handler found) old list new after
catch_some at number leads index handler found made to old new list after end is grows same adds =
    let edge = end.edge in
    let leads_to : target_of to ≡ to_or_pad edge.made (to_point edge.to) (to_handler_pad at number) =
    is
    ∙ ap (λ (l : List ℕ). to_or_pad l (to_point leads) (to_handler_pad at number)) (sym end.same_made)
    ∙ ap (λ (n : ℕ). to_or_pad edge.made (to_point n) (to_handler_pad at number)) (sym end.same_to) in
    subst (λ (f : Option RouteEdge). Catches (catch_on at number handler f) old list new after) (sym end.is_found)
    (record {
      grows = subst (λ (needs : List Need). Grows old needs new) (sym (append-nil (catch_needs handler.catch_class))) grows;
      are = λ more.
          ap (map catch_of) adds
          ∙ map-append catch_of list (drafted to index ∷ [])
          ∙ ap (λ (t : WTarget). map catch_of list ++ (t, index) ∷ []) leads_to
          ∙ ap (λ (n : ℕ). map catch_of list ++ (to_or_pad edge.made (to_point edge.to) (to_handler_pad at number), n) ∷ []) (sym (same.is more));
    })

pub catch_none : (at number : ℕ) (handler : FlatHandler) (found : Option RouteEdge) (edit : Edit) (list : List DraftCatch)
    → found ≡ None
    → Catches (catch_on at number handler found) edit list edit list
catch_none at number handler found edit list none =
    subst (λ (f : Option RouteEdge). Catches (catch_on at number handler f) edit list edit list) (sym none) (catches_none edit list)

pub catch_full : (at number leads : ℕ) (handler : FlatHandler) (found : Option RouteEdge) (made : List ℕ) (old : Edit) (reason : Reason)
    → IsEnd found leads made
    → IsFull old (catch_needs handler.catch_class) reason
    → IsFull old (all_catch_needs (catch_on at number handler found)) reason
catch_full at number leads handler found made old reason end full =
    subst (λ (f : Option RouteEdge). IsFull old (all_catch_needs (catch_on at number handler f)) reason) (sym end.is_found)
    (subst (λ (needs : List Need). IsFull old needs reason) (sym (append-nil (catch_needs handler.catch_class))) full)

-- the handlers from one on
catches_more : (at : ℕ) (route : Route) (number : ℕ) (handler : FlatHandler) (others : List FlatHandler)
    → catches_from at route number (handler ∷ others)
    ≡ catch_on at number handler (edge_by route (edges.Handler number)) ++ catches_from at route (suc number) others
catches_more at route number handler others = by (edge_by route (edges.Handler number)) refl where
  by : (found : Option RouteEdge) → edge_by route (edges.Handler number) ≡ found
      → catches_from at route number (handler ∷ others)
      ≡ catch_on at number handler (edge_by route (edges.Handler number)) ++ catches_from at route (suc number) others
  by None is = rw is refl
  by (Some edge) is = rw is refl

-- once the rest is written, all are
pub record CatchesLeft (old : Edit) (all : List WCatch) (now : Edit) (list : List DraftCatch) (rest : List WCatch) : Type 0 where
  pub so_far : Continues old now
  pub goes_on : (end : Edit) (after : List DraftCatch) → Continues now end → Catches rest now list end after → Catches all old [] end after
  pub full : (reason : Reason) → IsFull now (all_catch_needs rest) reason → IsFull old (all_catch_needs all) reason

pub left_first : (edit : Edit) (all : List WCatch) (list : List DraftCatch) → Continues edit edit → list ≡ [] → CatchesLeft edit all edit list all
left_first edit all list itself none = record {
  so_far = itself;
  goes_on = λ end after more catches. subst (λ (l : List DraftCatch). Catches all edit l end after) none catches;
  full = λ reason full. full;
}

pub left_next : (old now next : Edit) (all : List WCatch) (list more : List DraftCatch) (at : ℕ) (route : Route) (handlers : List FlatHandler) (number : ℕ)
    (handler : FlatHandler)
    → CatchesLeft old all now list (catches_from at route number (drop number handlers))
    → slice_get handlers number ≡ Some handler
    → Catches (catch_on at number handler (edge_by route (edges.Handler number))) now list next more
    → Continues now next
    → CatchesLeft old all next more (catches_from at route (number + 1) (drop (number + 1) handlers))
left_next old now next all list more at route handlers number handler left there catches goes =
    let behind = catches_from at route (number + 1) (drop (number + 1) handlers) in
    let one = catch_on at number handler (edge_by route (edges.Handler number)) in
    let same : catches_from at route number (drop number handlers) ≡ one ++ behind =
    ap (catches_from at route number) (drop_item handlers number handler there)
    ∙ catches_more at route number handler (drop (number + 1) handlers)
    ∙ ap (λ (n : ℕ). one ++ catches_from at route n (drop (number + 1) handlers)) {x = suc number} {y = number + 1} (omega arith) in
    record {
      so_far = continues_both old now next left.so_far goes;
      goes_on = λ end after further rest.
          left.goes_on end after (continues_both now next end goes further)
          (subst (λ (l : List WCatch). Catches l now list end after) (sym same) (catches_both now next end list more after one behind catches rest further));
      full = λ reason full.
          left.full reason
          (subst (λ (l : List WCatch). IsFull now (all_catch_needs l) reason) (sym same)
          (subst (λ (needs : List Need). IsFull now needs reason) (sym (flat_map-append (λ (catch : WCatch). catch_needs catch.class) one behind))
          (full_then now next (all_catch_needs one) (all_catch_needs behind) reason catches.grows full)));
    }

-- the one of a number does not fit
pub left_full : (old now : Edit) (all : List WCatch) (list : List DraftCatch) (at : ℕ) (route : Route) (handlers : List FlatHandler) (number : ℕ) (handler : FlatHandler)
    (reason : Reason)
    → CatchesLeft old all now list (catches_from at route number (drop number handlers))
    → slice_get handlers number ≡ Some handler
    → IsFull now (all_catch_needs (catch_on at number handler (edge_by route (edges.Handler number)))) reason
    → IsFull old (all_catch_needs all) reason
left_full old now all list at route handlers number handler reason left there full =
    let behind = catches_from at route (suc number) (drop (number + 1) handlers) in
    let one = catch_on at number handler (edge_by route (edges.Handler number)) in
    let same : catches_from at route number (drop number handlers) ≡ one ++ behind =
    ap (catches_from at route number) (drop_item handlers number handler there) ∙ catches_more at route number handler (drop (number + 1) handlers) in
    left.full reason
    (subst (λ (l : List WCatch). IsFull now (all_catch_needs l) reason) (sym same)
    (subst (λ (needs : List Need). IsFull now needs reason) (sym (flat_map-append (λ (catch : WCatch). catch_needs catch.class) one behind))
    (full_first now (all_catch_needs one) (all_catch_needs behind) reason full)))

pub left_end : (old now : Edit) (all : List WCatch) (list : List DraftCatch) (at : ℕ) (route : Route) (handlers : List FlatHandler) (number : ℕ)
    → CatchesLeft old all now list (catches_from at route number (drop number handlers))
    → slice_get handlers number ≡ None
    → Continues now now
    → Catches all old [] now list
left_end old now all list at route handlers number left none itself =
    left.goes_on now list itself
    (subst (λ (l : List WCatch). Catches l now list now list) (ap (catches_from at route number) (sym (drop_past handlers number none))) (catches_none now list))

-- the handlers of a point
pub handlers_are : (inside flat : FlatCode) (at : ℕ) (point : Point) (handlers : List FlatHandler)
    → Some handlers ≡ option_map (λ (one : Point). one.handlers) (point_at inside at)
    → inside ≡ flat
    → point_at flat at ≡ Some point
    → handlers ≡ point.handlers
handlers_are inside flat at point handlers is same there =
    same_Some handlers point.handlers
    (is ∙ ap (λ (f : FlatCode). option_map (λ (one : Point). one.handlers) (point_at f at)) same ∙ ap (option_map (λ (one : Point). one.handlers)) there)

-- ---- constants

pub own_carried : (s : PlanScope) (edit : Edit) (class : ℕ) (instr one : Instr) → (class == s.flat.host.class) ≡ true → one ≡ instr → IsCarried s edit class instr one
own_carried s edit class instr one own same = record { is = λ more. rw own (sym same) }

pub own_needs : (s : PlanScope) (class : ℕ) (instr : Instr) → (class == s.flat.host.class) ≡ true → carried_needs s class instr ≡ []
own_needs s class instr own = rw own refl

pub other_needs : (s : PlanScope) (class : ℕ) (instr : Instr) → (class == s.flat.host.class) ≡ false
    → needs_of_index (pool_of s class) (named_index instr) ≡ carried_needs s class instr
other_needs s class instr other = rw other refl

pub other_carried : (s : PlanScope) (edit : Edit) (class index : ℕ) (instr one : Instr) → (class == s.flat.host.class) ≡ false
    → IsIndexOfLast edit (needs_of_index (pool_of s class) (named_index instr)) index
    → one ≡ with_index index instr
    → IsCarried s edit class instr one
other_carried s edit class index instr one other last same = record {
  is = λ more.
      rw other
      (ap (λ (n : ℕ). with_index n instr) (last.is more) ∙ sym same);
}

-- ---- the item

abbrev meant_of : Instr → List WTarget → List (WTarget × ℕ) → Meant
meant_of instr targets catches = record { instr = instr; targets = targets; catches = catches }

abbrev item_of : Instr → List Target → List DraftCatch → DraftItem
item_of instr targets catches = record { instr = instr; targets = targets; catches = catches }

pub draft_carried : (s : PlanScope) (constructor : Name → List ℕ) (at : ℕ) (point : Point) (route : Route) (class : ℕ) (instr one : Instr) (targets : List Target)
    (catches : List DraftCatch) (old middle new : Edit)
    → Grows old (carried_needs s class instr) middle
    → IsCarried s middle class instr one
    → map target_of targets ≡ jump_targets at route 0 (targets_at point.instr)
    → Catches (catches_at at point route) middle [] new catches
    → Continues middle new
    → IsDraft s constructor old new (carried_item at point route class instr) (item_of one targets catches)
draft_carried s constructor at point route class instr one targets catches old middle new grows is leads caught goes = record {
  grows = grows_both old middle new (carried_needs s class instr) (all_catch_needs (catches_at at point route)) grows caught.grows;
  means = λ more.
      let entries = flat_map entries_of goes.more in
      let same : grown middle ++ (entries ++ more) ≡ grown new ++ more =
      sym (append_assoc (grown middle) entries more) ∙ ap (λ (pool : Constants). pool ++ more) (sym (grown_more middle new goes)) in
      let instr_is : one ≡ carried_instr s (grown new ++ more) class instr =
      sym (is.is (entries ++ more)) ∙ ap (λ (pool : Constants). carried_instr s pool class instr) same in
      ap (λ (i : Instr). meant_of i (map target_of targets) (map catch_of catches)) instr_is
      ∙ ap (λ (list : List WTarget). meant_of (carried_instr s (grown new ++ more) class instr) list (map catch_of catches)) leads
      ∙ ap (λ (list : List (WTarget × ℕ)). meant_of (carried_instr s (grown new ++ more) class instr) (jump_targets at route 0 (targets_at point.instr)) list) (caught.are more);
}

pub carried_full : (s : PlanScope) (constructor : Name → List ℕ) (at : ℕ) (point : Point) (route : Route) (class : ℕ) (instr : Instr) (old : Edit) (reason : Reason)
    → IsFull old (carried_needs s class instr) reason
    → IsFull old (item_needs s constructor (carried_item at point route class instr)) reason
carried_full s constructor at point route class instr old reason full =
    full_first old (carried_needs s class instr) (all_catch_needs (catches_at at point route)) reason full

pub caught_full : (s : PlanScope) (constructor : Name → List ℕ) (at : ℕ) (point : Point) (route : Route) (class : ℕ) (instr : Instr) (old middle : Edit) (reason : Reason)
    → Grows old (carried_needs s class instr) middle
    → IsFull middle (all_catch_needs (catches_at at point route)) reason
    → IsFull old (item_needs s constructor (carried_item at point route class instr)) reason
caught_full s constructor at point route class instr old middle reason grows full =
    full_then old middle (carried_needs s class instr) (all_catch_needs (catches_at at point route)) reason grows full

-- what an index of a class needs
pub host_needs : (s : PlanScope) (class index : ℕ) (named : Option ℕ) (file : ClassFile)
    → slice_get s.classes.folder class ≡ Some file
    → named ≡ Some index
    → needs_at file.pool index ≡ needs_of_index (pool_of s class) named
host_needs s class index named file is_file is_named = sym (rw (is_named, is_file) refl)
