-- A state behind an edge fits the types of the point to which the edge leads.
use Rattle.std.proofs.Common.{◌≡◌, ℕ, Bool, true, false, List, [], ◌∷◌, ◌++◌, map, Option, Some, None, refl, sym, ap, subst, ◌∙◌}
use Rattle.std.specs.List.{AllByRecursion}
use Rattle.std.proofs.lemmas.List.{map-append}
use Rattle.class_model.specs.Code.{verification_type}
use Rattle.class_model.specs.Frames.{is_top}
use Rattle.class_model.specs.declared.frame.VType.{VType}
use Rattle.class_tree.specs.Headers.{Headers, headers_of}
use Rattle.flow_code.specs.FlatCode.{point_at}
use Rattle.flow_code.specs.ReadTypes.{read_frame, read_type}
use Rattle.flow_code.specs.declared.point.Point.{Point}
use Rattle.member_link.specs.Assignability.{IsAssignable, from_null, of_names, to_same, to_top}
use Rattle.member_link.specs.Rows.FrameAssignability.{AreAssignable, IsFrameAssignable}
use Rattle.member_link.specs.Scope.{Scope}
use Rattle.plan_flow.specs.PlanScope.{PlanScope, local_types, stack_types}
use Rattle.plan_flow.specs.PlanSlots.{fit_locals, fit_stack}
use Rattle.plan_flow.specs.ReadyForPlans.{place_types}
use Rattle.same_runs.specs.TypedFlats.{MayGoToPoint}
use Rattle.virtual_state.specs.Laws.Objects.{present_found}
use Rattle.virtual_state.specs.Laws.Removals.{was_found}
use Rattle.virtual_state.specs.Making.{IsStateOf}
use Rattle.virtual_state.specs.States.{State, is_unusable}
use Rattle.virtual_state.specs.Without.{made_plain, without}
use Rattle.virtual_state.specs.declared.slot.Slot.{Slot}
use Rattle.virtual_state.specs.declared.slot.Slot.TheVariants.{Plain, Virt, Unusable}
use Rattle.virtual_state.specs.declared.slot.VObject.{VObject}
use Rattle.written_types.proofs.SiteFields.{SitesKnown}
use Rattle.written_types.proofs.SlotTypes.{AreUsable, assigned, fitted_locals, fitted_stack, joined, made_slots, read_wide, unusable_locals, usable_stack}
use Rattle.written_types.proofs.Standing.{HaveFieldTypes, Standing}
use Rattle.written_types.proofs.TwoUnits.{assigned_pairs, mapped_pairs, plain_pairs, written_pairs}
use Rattle.written_types.specs.FitsTypes.{FitsTypes, HasFieldTypes, HasItsNew, HavePairs, HaveTypes}

-- ---- types that are assigned

new_assigned : (s : PlanScope) (reached : ℕ → Bool) {headers : Headers} {low high : VType} → IsAssignable headers low high
    → HasItsNew s reached low
    → HasItsNew s reached high
new_assigned s reached (to_same type) new = new
new_assigned s reached (to_top type) new = tt
new_assigned s reached (from_null name) new = tt
new_assigned s reached (of_names low high names) new = tt

pub news_assigned : (s : PlanScope) (reached : ℕ → Bool) (headers : Headers) (lows highs : List VType) → AreAssignable headers lows highs
    → AllByRecursion (HasItsNew s reached) lows
    → AllByRecursion (HasItsNew s reached) highs
news_assigned s reached headers lows [] are all = tt
news_assigned s reached headers [] (high ∷ highs) are all = absurd are
news_assigned s reached headers (low ∷ lows) (high ∷ highs) are all =
    (new_assigned s reached are.0 all.0, news_assigned s reached headers lows highs are.1 all.1)

-- ---- types of a point

pub types_there : (s : PlanScope) (at : ℕ) (point : Point) → point_at s.flat at ≡ Some point
    → (local_types s.flat at ≡ point.typed.locals) × (stack_types s.flat at ≡ point.typed.stack)
types_there s at point there = (rw there refl, rw there refl)

-- What holds of a state at a typed point, without what follows from it.
pub record FitsPoint (s : PlanScope) (reached : ℕ → Bool) (at : ℕ) (point : Point) (state : State) : Type 0 where
  pub there : point_at s.flat at ≡ Some point
  pub slots : HaveTypes s (map (read_type s.flat) (place_types point.typed)) state.slots
  pub unusable : map is_unusable state.slots ≡ map is_top point.typed.locals ++ map (λ type. false) point.typed.stack
  pub objects : HaveFieldTypes s state.objects
  pub locals : AllByRecursion (HasItsNew s reached) (map (read_type s.flat) point.typed.locals)
  pub stack : AllByRecursion (HasItsNew s reached) (map (read_type s.flat) point.typed.stack)
  pub pairs : HavePairs point.typed.locals

pub fits_types : {s : PlanScope} {reached : ℕ → Bool} {at : ℕ} {point : Point} {state : State} → FitsPoint s reached at point state
    → FitsTypes s reached at state
fits_types {s} {reached} {at} {point} {state} fits =
    let types = types_there s at point fits.there in record {
      point = point;
      there = fits.there;
      slots = fits.slots;
      unusable = fits.unusable ∙ sym (λ i. map is_top (types.0 i) ++ map (λ type. false) (types.1 i));
      objects = fits.objects;
      locals = fits.locals;
      stack = fits.stack;
      pairs = fits.pairs;
      plain_pairs = plain_pairs s point.typed.locals point.typed.stack state.slots _ fits.slots fits.unusable;
      written_pairs = written_pairs s point.typed.locals point.typed.stack state.slots fits.slots fits.pairs;
    }

pub fits_point : {s : PlanScope} {reached : ℕ → Bool} {at : ℕ} {state : State} (fits : FitsTypes s reached at state)
    → FitsPoint s reached at fits.point state
fits_point {s} {reached} {at} {state} fits =
    let types = types_there s at fits.point fits.there in record {
      there = fits.there;
      slots = fits.slots;
      unusable = fits.unusable ∙ (λ i. map is_top (types.0 i) ++ map (λ type. false) (types.1 i));
      objects = fits.objects;
      locals = fits.locals;
      stack = fits.stack;
      pairs = fits.pairs;
    }

-- an instruction begins so
pub begins : {s : PlanScope} {reached : ℕ → Bool} {at : ℕ} {point : Point} {state : State} → FitsPoint s reached at point state
    → Standing s reached point.typed state
begins {s} {point = point} fits = record {
  slots = fits.slots;
  objects = fits.objects;
  locals = fits.locals;
  stack = fits.stack;
  pairs = mapped_pairs (read_type s.flat) (read_wide s.flat) refl point.typed.locals fits.pairs;
}

-- ---- where objects are made

made_unusable : (away : ℕ → Bool) (slot : Slot) → is_unusable (made_plain away slot) ≡ is_unusable slot
made_unusable away Plain = refl
made_unusable away (Virt site) = by (away site) refl where
  by : (b : Bool) → away site ≡ b → is_unusable (made_plain away (Virt site)) ≡ false
  by true is = rw is refl
  by false is = rw is refl
made_unusable away Unusable = refl

all_made_unusable : (away : ℕ → Bool) (slots : List Slot) → map is_unusable (map (made_plain away) slots) ≡ map is_unusable slots
all_made_unusable away [] = refl
all_made_unusable away (slot ∷ slots) = λ i. made_unusable away slot i ∷ all_made_unusable away slots i

pub made_fits : {s : PlanScope} {reached : ℕ → Bool} {at : ℕ} {point : Point} {state : State} (away : ℕ → Bool) → FitsPoint s reached at point state
    → FitsPoint s reached at point (without state away)
made_fits {s} {point = point} {state = state} away fits = record {
  there = fits.there;
  slots = made_slots s away (map (read_type s.flat) (place_types point.typed)) state.slots fits.slots;
  unusable = all_made_unusable away state.slots ∙ fits.unusable;
  objects = λ number object is.
      let was = was_found away state.objects number object is in
      let known = fits.objects number was.before was.there in
      subst (HasFieldTypes s number) (sym was.is) (record {
        site = known.site;
        there = known.there;
        fields = made_slots s away (map verification_type known.site.fields) was.before.fields known.fields;
      });
  locals = fits.locals;
  stack = fits.stack;
  pairs = fits.pairs;
}

-- ---- behind an edge

module _ (s : PlanScope) (reached : ℕ → Bool) (scope : Scope) (known : SitesKnown s) (headers_are : scope.headers ≡ headers_of s.classes) where
  kept_objects : (slots : List Slot) (objects : List VObject) (state : State) → IsStateOf slots objects state → HaveFieldTypes s objects
      → HaveFieldTypes s state.objects
  kept_objects slots objects state is have number object found =
      have number object (sym (is.kept number (is.reached number (present_found state.objects number object found))) ∙ found)

  arrived : (to : ℕ) (point : Point) → point_at s.flat to ≡ Some point → (locals stack : List Slot) (lows entries : List VType) (objects : List VObject)
      → HaveTypes s lows locals
      → HaveTypes s entries stack
      → AreUsable s locals
      → AreUsable s stack
      → AllByRecursion (HasItsNew s reached) lows
      → AllByRecursion (HasItsNew s reached) entries
      → HavePairs lows
      → HaveFieldTypes s objects
      → IsFrameAssignable (headers_of s.classes) (record { locals = lows; stack = entries }) (read_frame s.flat point.typed)
      → (state : State)
      → IsStateOf (fit_locals point.typed.locals locals ++ fit_stack point.typed.stack stack) objects state
      → FitsPoint s reached to point state
  arrived to point there locals stack lows entries objects have_locals have_stack usable_locals usable new_locals new_stack pairs have_objects goes state is = record {
    there = there;
    slots = subst (HaveTypes s (map (read_type s.flat) (place_types point.typed))) (sym is.same_slots)
        (subst (λ (all : List VType). HaveTypes s all (fit_locals point.typed.locals locals ++ fit_stack point.typed.stack stack))
        (sym (map-append (read_type s.flat) point.typed.locals point.typed.stack))
        (joined s _ _ _ _
        (fitted_locals s point.typed.locals locals (assigned s known.hierarchy known.there lows _ locals have_locals goes.locals))
        (fitted_stack s point.typed.stack stack (assigned s known.hierarchy known.there entries _ stack have_stack goes.stack))));
    unusable =
        ap (map is_unusable) is.same_slots
        ∙ map-append is_unusable (fit_locals point.typed.locals locals) (fit_stack point.typed.stack stack)
        ∙ (λ i. unusable_locals s point.typed.locals locals usable_locals i ++ usable_stack s point.typed.stack stack usable i);
    objects = kept_objects _ objects state is have_objects;
    locals = news_assigned s reached (headers_of s.classes) lows _ goes.locals new_locals;
    stack = news_assigned s reached (headers_of s.classes) entries _ goes.stack new_stack;
    pairs = assigned_pairs (headers_of s.classes) s.flat lows point.typed.locals goes.locals pairs;
  }

  pub arrives : (to : ℕ) (locals stack : List Slot) (lows entries : List VType) (objects : List VObject)
      → HaveTypes s lows locals
      → HaveTypes s entries stack
      → AreUsable s locals
      → AreUsable s stack
      → AllByRecursion (HasItsNew s reached) lows
      → AllByRecursion (HasItsNew s reached) entries
      → HavePairs lows
      → HaveFieldTypes s objects
      → MayGoToPoint s.classes scope s.flat (Some (record { locals = lows; stack = entries })) to
      → (state : State)
      → IsStateOf (fit_locals (local_types s.flat to) locals ++ fit_stack (stack_types s.flat to) stack) objects state
      → FitsTypes s reached to state
  arrives to locals stack lows entries objects have_locals have_stack usable_locals usable new_locals new_stack pairs have_objects goes state is =
      by (point_at s.flat to) refl where
        by : (found : Option Point) → point_at s.flat to ≡ found → FitsTypes s reached to state
        by None none = absurd (rw none at goes)
        by (Some point) there =
            let types = types_there s to point there in
            fits_types (arrived to point there locals stack lows entries objects have_locals have_stack usable_locals usable new_locals new_stack pairs
            have_objects
            (subst (λ (headers : Headers). IsFrameAssignable headers (record { locals = lows; stack = entries }) (read_frame s.flat point.typed))
            headers_are (rw there at goes))
            state
            (subst (λ (all : List VType). IsStateOf (fit_locals all locals ++ fit_stack point.typed.stack stack) objects state) types.0
            (subst (λ (all : List VType). IsStateOf (fit_locals (local_types s.flat to) locals ++ fit_stack all stack) objects state) types.1 is)))
