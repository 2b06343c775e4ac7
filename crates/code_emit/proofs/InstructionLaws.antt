-- What is written of an instruction, put together.
use Rattle.std.proofs.Common.{◌≡◌, ◌++◌, ℕ, List, [], map, Option, Some, None, option_map, refl, sym, ap, subst, ◌∙◌, append-nil}
use Rattle.std.proofs.lemmas.List.{map-append}
use Rattle.std.proofs.lemmas.Option.{none-some}
use Rattle.class_model.specs.declared.frame.Frame.{Frame}
use Rattle.class_model.specs.declared.instr.Instr.{Instr}
use Rattle.class_tree.specs.Headers.{Name, headers_of}
use Rattle.code_drafts.specs.Emits.{Emits, Kept, Writing}
use Rattle.code_drafts.specs.Laws.EmittedParts.{emits_none, puts_full, puts_then}
use Rattle.code_drafts.specs.Laws.LedRoutes.{left_is_written, typed_is}
use Rattle.code_drafts.specs.Puts.{Puts, PutsItems}
use Rattle.code_drafts.specs.TemplateWords.{left_of, pop_if, template_meant}
use Rattle.code_drafts.specs.Writable.{AreMeant, IsLeftAt, IsRouteAt, making_on, scope}
use Rattle.code_drafts.specs.declared.template.Template.{Template}
use Rattle.code_drafts.specs.declared.template.Template.TheVariants as variants
use Rattle.code_emit.specs.Inner.ReachedPoints.{AreFullAt, EmitsAt, IsReached, ItemsOf, own_items, rest_of}
use Rattle.flow_code.specs.FlatCode.{FlatCode, point_at}
use Rattle.flow_code.specs.declared.point.FlatInstr.TheVariants.{Of, NullTest}
use Rattle.flow_code.specs.declared.point.Point.{Point}
use Rattle.flow_code.specs.declared.reason.Reason.{Reason}
use Rattle.making_code.specs.Items.{WItem, item}
use Rattle.materialise.specs.Growing.{IsFull}
use Rattle.member_link.specs.Machine.Links.{AreLinksOf}
use Rattle.member_link.specs.Machine.Programs.{Links}
use Rattle.plan_flow.specs.PlanScope.{PlanScope}
use Rattle.plan_flow.specs.Written.Routes.{Route, RouteEdge, edge_by}
use Rattle.plan_flow.specs.Written.Templates.{as_it_is, items_at, made_on_jump, template}
use Rattle.plan_flow.specs.Written.WrittenConstants.{code_needs}
use Rattle.plan_flow.specs.declared.edge.EdgeKind.TheVariants as edges
use Rattle.pool_edit.specs.Edits.{Edit}
use Rattle.virtual_state.specs.States.{State}

-- ---- nothing is written

pub none_emitted : (w : Writing) (at : ℕ) (items : ItemsOf) (edit : Edit) (kept : Kept)
    → ((links : Links) (constructor : Name → List ℕ) (point : Point) (route : Route)
    → IsReached w links constructor at point route
    → items (scope w links) at point route ≡ [])
    → EmitsAt w at items edit edit kept kept
none_emitted w at items edit kept none = record {
  each = λ links constructor point route reached.
      subst (λ (list : List WItem). Emits (scope w links) constructor edit list edit kept kept) (sym (none links constructor point route reached))
      (emits_none (scope w links) constructor edit kept);
}

-- there is no such point
pub no_point : {A : Type 0} (w : Writing) (at : ℕ) (inside : FlatCode) (of : Point → A) (point : Point)
    → None ≡ option_map of (point_at inside at)
    → inside ≡ w.flat
    → point_at w.flat at ≡ Some point
    → ⊥
no_point w at inside of point none same there =
    none-some (of point) (none ∙ ap (λ (f : FlatCode). option_map of (point_at f at)) same ∙ ap (option_map of) there)

-- ---- an instruction as it is

module _ (w : Writing) (at class : ℕ) (instr : Instr) where
  pub as_it_is_written : (old new : Edit) (before after : Kept)
      → ((links : Links) (constructor : Name → List ℕ) (point : Point) (route : Route)
      → AreMeant w links constructor
      → point_at w.flat at ≡ Some point
      → IsRouteAt w links at route
      → Emits (scope w links) constructor old (as_it_is at point route class instr) new before after)
      → EmitsAt w at (λ s n point route. as_it_is n point route class instr) old new before after
  as_it_is_written old new before after emits = record {
    each = λ links constructor point route reached. emits links constructor point route reached.meant reached.there reached.here;
  }

  pub as_it_is_full : (edit : Edit) (reason : Reason)
      → ((links : Links) (constructor : Name → List ℕ) (point : Point) (route : Route)
      → AreMeant w links constructor
      → point_at w.flat at ≡ Some point
      → IsRouteAt w links at route
      → IsFull edit (code_needs (scope w links) constructor (as_it_is at point route class instr)) reason)
      → AreFullAt w at (λ s n point route. as_it_is n point route class instr) edit reason
  as_it_is_full edit reason full = record {
    each = λ links constructor point route reached. full links constructor point route reached.meant reached.there reached.here;
  }

-- ---- make code on a jump

pub made_is : (s : PlanScope) (route : Route) → making_on s (edge_by route (edges.Jump 0)) ≡ map item (made_on_jump s route)
made_is s route = by (edge_by route (edges.Jump 0)) refl where
  by : (found : Option RouteEdge) → edge_by route (edges.Jump 0) ≡ found
      → making_on s (edge_by route (edges.Jump 0)) ≡ map item (made_on_jump s route)
  by None is = rw is refl
  by (Some edge) is = rw is refl

pub jump_emits : (w : Writing) (at : ℕ) (old new : Edit) (before after : Kept)
    → EmitsAt w at (λ s at point route. making_on s (edge_by route (edges.Jump 0))) old new before after
    → EmitsAt w at (λ s at point route. map item (made_on_jump s route)) old new before after
jump_emits w at old new before after emits = record {
  each = λ links constructor point route reached.
      subst (λ (items : List WItem). Emits (scope w links) constructor old items new before after) (made_is (scope w links) route)
      (emits.each links constructor point route reached);
}

pub jump_full : (w : Writing) (at : ℕ) (edit : Edit) (reason : Reason)
    → AreFullAt w at (λ s at point route. making_on s (edge_by route (edges.Jump 0))) edit reason
    → AreFullAt w at (λ s at point route. map item (made_on_jump s route)) edit reason
jump_full w at edit reason full = record {
  each = λ links constructor point route reached.
      subst (λ (items : List WItem). IsFull edit (code_needs (scope w links) constructor items) reason) (made_is (scope w links) route)
      (full.each links constructor point route reached);
}

-- ---- templates

-- all that is written
abbrev both_of : PlanScope → ℕ → Point → State → Route → ℕ → Instr → Template → List WItem
both_of s at point state route class instr chosen =
    map item (left_of s.flat point.typed state chosen) ++ rest_of s at point route class instr chosen

module _ (s : PlanScope) (at : ℕ) (point : Point) (state : State) (route : Route) (class : ℕ) (instr : Instr) (is : point.instr ≡ Of class instr) where
  both_are : (chosen : Template)
      → template_meant s point.typed state route chosen ≡ template s at point.typed state route class instr
      → both_of s at point state route class instr chosen ≡ items_at s at point state route
  both_are variants.AsItIs meant = rw (is, sym meant) refl
  both_are variants.Nothing meant = rw (is, sym meant) refl
  both_are (variants.Clear site) meant = rw (is, sym meant) (append-nil (map item (left_of s.flat point.typed state (variants.Clear site))))
  both_are (variants.Load site number) meant = rw (is, sym meant) (append-nil (map item (left_of s.flat point.typed state (variants.Load site number))))
  both_are (variants.Store site number) meant = rw (is, sym meant) (append-nil (map item (left_of s.flat point.typed state (variants.Store site number))))
  both_are (variants.Answer holds) meant = rw (is, sym meant) refl
  both_are (variants.Pop count) meant = rw (is, sym meant) (append-nil (map item (left_of s.flat point.typed state (variants.Pop count))))
  both_are (variants.Move opcode) meant = rw (is, sym meant) (append-nil (map item (left_of s.flat point.typed state (variants.Move opcode))))
  both_are (variants.Jump pops) meant = rw (is, sym meant) (sym (map-append item (pop_if pops) (made_on_jump s route)))

-- what a template leaves, and the rest
module _ (w : Writing) (at : ℕ) (state : State) (class : ℕ) (instr : Instr) (types : Frame) (inside flat : FlatCode) (chosen : Template)
    (left : IsLeftAt w at state)
    (is : (point : Point) → point_at w.flat at ≡ Some point → point.instr ≡ Of class instr)
    (typed : Some types ≡ option_map (λ (p : Point). p.typed) (point_at inside at))
    (same_inside : inside ≡ w.flat)
    (same : flat ≡ w.flat)
    (meant : (links : Links) (route : Route) → AreLinksOf (headers_of w.classes) links
    → template_meant (scope w links) types state route chosen ≡ template (scope w links) at types state route class instr) where
  all_are : (links : Links) (constructor : Name → List ℕ) (point : Point) (route : Route) → IsReached w links constructor at point route
      → map item (left_of w.flat types state chosen) ++ rest_of (scope w links) at point route class instr chosen ≡ own_items (scope w links) at point route
  all_are links constructor point route reached =
      let s = scope w links in
      let types_are = typed_is inside w at point types typed same_inside reached.there in
      ap (λ (f : Frame). map item (left_of w.flat f state chosen) ++ rest_of s at point route class instr chosen) types_are
      ∙ both_are s at point state route class instr (is point reached.there) chosen
      (subst (λ (f : Frame). template_meant s f state route chosen ≡ template s at f state route class instr) types_are (meant links route reached.meant.is_links))
      ∙ ap (λ (before : State). items_at s at point before route) (left_is_written w links at state route left reached.here)

  there_too : (before middle : Kept) → Puts flat (left_of flat types state chosen) before middle
      → PutsItems w.flat (map item (left_of w.flat types state chosen)) before middle
  there_too before middle puts = subst (λ (f : FlatCode). Puts f (left_of f types state chosen) before middle) same puts

  pub all_written : (old new : Edit) (before middle after : Kept)
      → Puts flat (left_of flat types state chosen) before middle
      → EmitsAt w at (λ s at point route. rest_of s at point route class instr chosen) old new middle after
      → EmitsAt w at own_items old new before after
  all_written old new before middle after puts emits = record {
    each = λ links constructor point route reached.
        subst (λ (items : List WItem). Emits (scope w links) constructor old items new before after) (all_are links constructor point route reached)
        (puts_then w.classes links w.flat constructor old new (map item (left_of w.flat types state chosen))
        (rest_of (scope w links) at point route class instr chosen) before middle after (there_too before middle puts)
        (emits.each links constructor point route reached));
  }

  pub all_full : (old : Edit) (before middle : Kept) (reason : Reason)
      → Puts flat (left_of flat types state chosen) before middle
      → AreFullAt w at (λ s at point route. rest_of s at point route class instr chosen) old reason
      → AreFullAt w at own_items old reason
  all_full old before middle reason puts full = record {
    each = λ links constructor point route reached.
        subst (λ (items : List WItem). IsFull old (code_needs (scope w links) constructor items) reason) (all_are links constructor point route reached)
        (puts_full w.classes links w.flat constructor old (map item (left_of w.flat types state chosen))
        (rest_of (scope w links) at point route class instr chosen) before middle reason (there_too before middle puts)
        (full.each links constructor point route reached));
  }

-- ---- tests for null

module _ (w : Writing) (at : ℕ) (state : State) (left : IsLeftAt w at state) where
  state_is : (links : Links) (constructor : Name → List ℕ) (point : Point) (route : Route) → IsReached w links constructor at point route
      → items_at (scope w links) at point state route ≡ own_items (scope w links) at point route
  state_is links constructor point route reached =
      ap (λ (before : State). items_at (scope w links) at point before route) (left_is_written w links at state route left reached.here)

  pub test_written : (local : ℕ) (old new : Edit) (before after : Kept)
      → ((point : Point) → point_at w.flat at ≡ Some point → point.instr ≡ NullTest local)
      → ((links : Links) (constructor : Name → List ℕ) (point : Point) (route : Route)
      → AreMeant w links constructor
      → point_at w.flat at ≡ Some point
      → point.instr ≡ NullTest local
      → IsRouteAt w links at route
      → Emits (scope w links) constructor old (items_at (scope w links) at point state route) new before after)
      → EmitsAt w at own_items old new before after
  test_written local old new before after is emits = record {
    each = λ links constructor point route reached.
        subst (λ (items : List WItem). Emits (scope w links) constructor old items new before after) (state_is links constructor point route reached)
        (emits links constructor point route reached.meant reached.there (is point reached.there) reached.here);
  }

  pub test_full : (local : ℕ) (edit : Edit) (reason : Reason)
      → ((point : Point) → point_at w.flat at ≡ Some point → point.instr ≡ NullTest local)
      → ((links : Links) (constructor : Name → List ℕ) (point : Point) (route : Route)
      → AreMeant w links constructor
      → point_at w.flat at ≡ Some point
      → point.instr ≡ NullTest local
      → IsRouteAt w links at route
      → IsFull edit (code_needs (scope w links) constructor (items_at (scope w links) at point state route)) reason)
      → AreFullAt w at own_items edit reason
  test_full local edit reason is full = record {
    each = λ links constructor point route reached.
        subst (λ (items : List WItem). IsFull edit (code_needs (scope w links) constructor items) reason) (state_is links constructor point route reached)
        (full links constructor point route reached.meant reached.there (is point reached.there) reached.here);
  }
