-- A state is below another one exactly where its slots and objects fit.
use Rattle.std.proofs.Common.{◌≡◌, ◌==◌, ◌||◌, ◌+◌, ◌<◌, ◌≤◌, ℕ, zero, suc, Bool, true, false, not, List, [], ◌∷◌, ◌++◌, map, length, take, get_or, Option, Some, None, is_some, IsTrue, IsFalse, refl, sym, ap, subst, ◌∙◌, inl, inr}
use Rattle.std.specs.List.{list_any}
use Rattle.std.proofs.lemmas.Bool.{cases_Bool, or_cases, or_parts, or_from, not-true, not_from_false, eq-eqb, eqb-true, false≢true}
use Rattle.std.proofs.lemmas.List.{take_all, take_more, map_push, length-map}
use Rattle.virtual_state.specs.Inner.Comparing.{ObjectFits, ObjectsFit, absent_from}
use Rattle.virtual_state.specs.Inner.Filling.{is_away, stays_as}
use Rattle.virtual_state.specs.Orders.{IsBelow}
use Rattle.virtual_state.specs.States.{State, IsState, is_virtual, is_present, names, object_of}
use Rattle.virtual_state.specs.Without.{IsClosed, made_plain, object_without, objects_without, without}
use Rattle.virtual_state.specs.declared.slot.Slot.{Slot}
use Rattle.virtual_state.specs.declared.slot.Slot.TheVariants.{Plain, Virt, Unusable}
use Rattle.virtual_state.specs.declared.slot.VObject.{VObject}
use Rattle.virtual_state.specs.Laws.Objects.{found_site, not_found_absent, same_objects}
use Rattle.virtual_state.specs.Laws.Orders.{absent, below_without, below_is_without, below_is_closed}
use Rattle.virtual_state.specs.Laws.Removals.{without_in_order}
use Rattle.virtual_state.proofs.Filling.{stays_found}
use Rattle.virtual_state.proofs.Joining.{gone_rest, kept_rest}

-- ---- slots that hold none of some objects

pub none_held : (test : ℕ → Bool) (slots : List Slot) → ((site : ℕ) → IsTrue (names slots site) → IsFalse (test site)) → list_any (is_away test) slots ≡ false
none_held test [] none = refl
none_held test (Plain ∷ slots) none = none_held test slots none
none_held test (Unusable ∷ slots) none = none_held test slots none
none_held test (Virt site ∷ slots) none =
    or_from (test site) (list_any (is_away test) slots) (none site (here site (names slots site))) (none_held test slots (λ one named. none one (there (is_virtual one (Virt site)) (names slots one) named))) where
      here : (site : ℕ) (b : Bool) → ((site == site) || b) ≡ true
      here site b = ap (λ (a : Bool). a || b) (eq-eqb site site refl)

      there : (a b : Bool) → b ≡ true → (a || b) ≡ true
      there true b is = refl
      there false b is = is

pub held_none : (test : ℕ → Bool) (slots : List Slot) (site : ℕ) → list_any (is_away test) slots ≡ false → IsTrue (names slots site) → IsFalse (test site)
held_none test [] site none named = absurd (false≢true named)
held_none test (Plain ∷ slots) site none named = held_none test slots site none named
held_none test (Unusable ∷ slots) site none named = held_none test slots site none named
held_none test (Virt one ∷ slots) site none named =
    let parts = or_parts (test one) (list_any (is_away test) slots) none in
    elim (or_cases (one == site) (names slots site) named) [
      | inl same ↦ ap test (sym (eqb-true one site same)) ∙ parts.0
      | inr behind ↦ held_none test slots site parts.1 behind
    ]

-- ---- both directions

fits_above : (objects : List VObject) (object other : Option VObject) → other ≡ stays_as (absent_from objects) object → ((one : VObject) → object ≡ Some one → IsTrue (absent_from objects one.site) → (to : ℕ) → IsTrue (names one.fields to) → IsTrue (absent_from objects to)) → ObjectFits objects object other
fits_above objects None other is closed = subst (ObjectFits objects None) (sym is) tt
fits_above objects (Some object) other is closed =
    let away = absent_from objects in
    elim (cases_Bool (away object.site)) [
      | inl gone ↦ subst (ObjectFits objects (Some object)) (sym (is ∙ gone_rest away object gone)) (none_held (is_present objects) object.fields (λ to named. not-true (is_present objects to) (closed object refl gone to named)))
      | inr stays ↦ subst (ObjectFits objects (Some object)) (sym (is ∙ kept_rest away object stays)) (refl, refl)
    ]

pub below_fits : (state other : State) → IsState state → IsBelow state other → (other.slots ≡ map (made_plain (absent_from other.objects)) state.slots) × ObjectsFit state.objects other.objects
below_fits state other is below =
    let whole = below_is_without state other is below in
    let closed = below_is_closed state other is below in (
      ap (λ (above : State). above.slots) whole,
      record {
        each = λ site. fits_above other.objects (object_of state.objects site) (object_of other.objects site) (ap (λ (above : State). object_of above.objects site) whole ∙ stays_found (absent other) state.objects site) (λ one there away to named.
            let own = found_site state.objects site one there in
            closed one.site to (record { object = one; there = ap (object_of state.objects) own ∙ there; named = named }) away);
      },
    )

looks_up : (objects : List VObject) (site : ℕ) (object other : Option VObject) → object_of objects site ≡ other → ((one : VObject) → object ≡ Some one → one.site ≡ site) → ((one : VObject) → other ≡ Some one → one.site ≡ site) → ObjectFits objects object other → other ≡ stays_as (absent_from objects) object
looks_up objects site None None is left right fits = refl
looks_up objects site None (Some other) is left right fits = absurd fits
looks_up objects site (Some object) None is left right fits =
    let gone : absent_from objects object.site ≡ true = ap (absent_from objects) (left object refl) ∙ ap (λ (o : Option VObject). not (is_some o)) is in
    sym (gone_rest (absent_from objects) object gone)
looks_up objects site (Some object) (Some other) is left right fits =
    let stays : absent_from objects object.site ≡ false = ap (absent_from objects) (left object refl) ∙ ap (λ (o : Option VObject). not (is_some o)) is in
    let same : other ≡ object_without (absent_from objects) object = λ i. record { site = (right other refl ∙ sym (left object refl)) i; fields = fits.1 i; depth = sym fits.0 i } in
    ap (λ (one : VObject). Some one) same ∙ sym (kept_rest (absent_from objects) object stays)

pub fits_below : (state other : State) → IsState state → IsState other → other.slots ≡ map (made_plain (absent_from other.objects)) state.slots → ObjectsFit state.objects other.objects → IsBelow state other
fits_below state other is above slots fit =
    let away = absent other in
    let closed : IsClosed away state.objects = λ from to edge gone.
    let none = not_found_absent other.objects from (not-true (is_present other.objects from) gone) in
    let fits = subst (λ (o : Option VObject). ObjectFits other.objects (Some edge.object) o) none (subst (λ (o : Option VObject). ObjectFits other.objects o (object_of other.objects from)) edge.there (fit.each from)) in
    not_from_false (is_present other.objects to) (held_none (is_present other.objects) edge.object.fields to fits edge.named) in
    let objects = same_objects other.objects (objects_without away state.objects) above.order (without_in_order away state.objects is.order) (λ site.
    looks_up other.objects site (object_of state.objects site) (object_of other.objects site) refl (λ one there. found_site state.objects site one there) (λ one there. found_site other.objects site one there) (fit.each site)
    ∙ sym (stays_found away state.objects site)) in
    let whole : other ≡ without state away = λ i. record { slots = slots i; objects = objects i } in
    subst (IsBelow state) (sym whole) (below_without state away is closed)

-- ---- slots one by one

pub made_more : (test : ℕ → Bool) (slots others : List Slot) (at : ℕ) → at < length slots → at < length others → take at others ≡ map (made_plain test) (take at slots) → made_plain test (get_or slots at Plain) ≡ get_or others at Plain → take (at + 1) others ≡ map (made_plain test) (take (at + 1) slots)
made_more test slots others at low also front here =
    take_more others at Plain also
    ∙ (λ i. front i ++ sym here i ∷ [])
    ∙ sym (map_push (made_plain test) (take at slots) (get_or slots at Plain))
    ∙ sym (ap (map (made_plain test)) (take_more slots at Plain low))

pub made_all : (test : ℕ → Bool) (slots others : List Slot) (at : ℕ) → length slots ≤ at → length others ≤ at → take at others ≡ map (made_plain test) (take at slots) → others ≡ map (made_plain test) slots
made_all test slots others at left right front = sym (take_all at others right) ∙ front ∙ ap (map (made_plain test)) (take_all at slots left)

pub made_at : (test : ℕ → Bool) (slots others : List Slot) (at : ℕ) → others ≡ map (made_plain test) slots → made_plain test (get_or slots at Plain) ≡ get_or others at Plain
made_at test slots others at same = sym (at_map at slots) ∙ ap (λ (list : List Slot). get_or list at Plain) (sym same) where
  at_map : (at : ℕ) (slots : List Slot) → get_or (map (made_plain test) slots) at Plain ≡ made_plain test (get_or slots at Plain)
  at_map zero [] = refl
  at_map (suc at) [] = refl
  at_map zero (slot ∷ slots) = refl
  at_map (suc at) (slot ∷ slots) = at_map at slots

pub made_len : (test : ℕ → Bool) (slots others : List Slot) → others ≡ map (made_plain test) slots → length others ≡ length slots
made_len test slots others same = ap {B = ℕ} (λ (list : List Slot). length list) same ∙ length-map slots (made_plain test)
