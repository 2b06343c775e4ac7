-- The steps of a walk over the methods that a method needs.
use Rattle.std.proofs.Common.{◌≡◌, ◌≢◌, ◌⊎◌, ℕ, true, false, List, [], ◌∷◌, Option, Some, None, refl, sym, subst, inl, inr, ◌∙◌, ap, is_some, slice_get, option_and_then, ◌<◌, Bool, ◌&&◌, nat_eq, eqb-true}
use Rattle.std.proofs.lemmas.Bool.{cases_eq}
use Rattle.std.proofs.lemmas.Option.{none-some}
use Rattle.class_model.specs.declared.class_file.ClassFile.{ClassFile}
use Rattle.class_model.specs.declared.class_file.Method.{Method}
use Rattle.class_model.specs.declared.class_file.MethodAt.{MethodAt}
use Rattle.class_tree.specs.Headers.{Classes, headers_of}
use Rattle.flow_code.specs.TypedFrames.{FolderFrames}
use Rattle.inline_expand.proofs.Founding.{led_is_founded, needed_is_founded, no_circle, then_needs}
use Rattle.inline_expand.proofs.Seeing.{fewer_unseen}
use Rattle.inline_expand.specs.Inner.Founded.{Leads, founded, leads_at_once}
use Rattle.inline_expand.specs.Inner.Ready.{Fits, IsReady, Needs}
use Rattle.inline_expand.specs.Inner.Stacks.{IsAmong, IsLeft, method_of, nearest, stacked}
use Rattle.inline_expand.specs.Inner.Unseen.{unseen}
use Rattle.inline_expand.specs.Inner.Verdicts.{Judges, verdict}
use Rattle.inline_expand.specs.Inner.Walks.{Advances, GoesOn, AreLed, AreRight, AreSettled, IsDone, IsLed, NeedsThese, Settles, Walks}
use Rattle.inline_expand.specs.declared.verdicts.Verdicts.{Verdicts}
use Rattle.inline_expand.specs.declared.visits.Visit.{Visit}
use Rattle.inline_expand.specs.declared.visits.Visit.TheVariants.{Enter, Leave}
use Rattle.member_link.specs.Scope.{Scope, scope_at, scope_of}

-- ---- keys

module _ where
  keys_differ : (same_class same_method : Bool) (one other : MethodAt)
      → nat_eq one.class other.class ≡ same_class
      → nat_eq one.method other.method ≡ same_method
      → other ≢ one
      → same_class && same_method ≡ false
  keys_differ false same_method one other is_class is_method apart = refl
  keys_differ true false one other is_class is_method apart = refl
  keys_differ true true one other is_class is_method apart =
      let class : other.class ≡ one.class = sym (eqb-true one.class other.class is_class) in
      let method : other.method ≡ one.method = sym (eqb-true one.method other.method is_method) in
      absurd (apart (λ i. record { class = class i; method = method i }))

  pub apart_keys : (one other : MethodAt) → other ≢ one → nat_eq one.class other.class && nat_eq one.method other.method ≡ false
  apart_keys one other apart = keys_differ (nat_eq one.class other.class) (nat_eq one.method other.method) one other refl refl apart

  pub same_method : (one other : MethodAt) → (one ≡ other) ⊎ (one ≢ other)
  same_method one other = of_parts (cases_eq one.class other.class) (cases_eq one.method other.method) where
    of_parts : (one.class ≡ other.class) ⊎ (one.class ≢ other.class) → (one.method ≡ other.method) ⊎ (one.method ≢ other.method) → (one ≡ other) ⊎ (one ≢ other)
    of_parts (inl class) (inl method) = inl (λ i. record { class = class i; method = method i })
    of_parts (inl class) (inr apart) = inr (λ e. apart (λ i. (e i).method))
    of_parts (inr apart) method = inr (λ e. apart (λ i. (e i).class))

module _ (classes : Classes) (typed : FolderFrames) (host : ℕ) (root : MethodAt) where
  -- ---- what is led to

  -- where a method on the stack is ready, so is each that the walk came to from it
  pub left_leads : (stack : List Visit) (at left : MethodAt) → AreLed classes typed root stack → IsLed classes typed root (nearest stack) at → IsLeft stack left → Leads (Needs classes typed) left at
  left_leads [] at left led here is = elim is [ ]
  left_leads (Enter other ∷ below) at left led here is = left_leads below at left led.1 here is
  left_leads (Leave from ∷ below) at left led here (inl e) = subst (λ (m : MethodAt). Leads (Needs classes typed) m at) (sym e) (leads_at_once from at here)
  left_leads (Leave from ∷ below) at left led here (inr is) = then_needs left from at (left_leads below from left led.1 led.0 is) here

  pub root_leads : (stack : List Visit) (at : MethodAt) → AreLed classes typed root stack → IsLed classes typed root (nearest stack) at → IsReady classes typed host root → IsReady classes typed host at
  root_leads [] at led here is = subst (IsReady classes typed host) (sym here) is
  root_leads (Enter other ∷ below) at led here is = root_leads below at led.1 here is
  root_leads (Leave from ∷ below) at led here is = needed_is_founded from at (root_leads below from led.1 led.0 is) here

  -- ---- what is settled

  pub stays_settled : (before after : Verdicts) (above over : List MethodAt) (stack : List Visit)
      → ((at : MethodAt) → IsDone before above at → IsDone after over at)
      → AreSettled classes typed host root before above stack
      → AreSettled classes typed host root after over stack
  stays_settled before after above over [] more settled = more root settled
  stays_settled before after above over (visit ∷ below) more settled = (
    each visit settled.0,
    stays_settled before after (method_of visit ∷ above) (method_of visit ∷ over) below (under (method_of visit)) settled.1,
  ) where
    each : (visit : Visit) → Settles classes typed host before above visit → Settles classes typed host after over visit
    each (Enter at) is = tt
    each (Leave at) is = (is.0, λ need needs. more need (is.1 need needs))

    under : (method at : MethodAt) → IsDone before (method ∷ above) at → IsDone after (method ∷ over) at
    under method at (inl ready) = passed (more at (inl ready)) where
      passed : IsDone after over at → IsDone after (method ∷ over) at
      passed (inl ready) = inl ready
      passed (inr is) = inr (inr is)
    under method at (inr (inl e)) = inr (inl e)
    under method at (inr (inr is)) = passed (more at (inr is)) where
      passed : IsDone after over at → IsDone after (method ∷ over) at
      passed (inl ready) = inl ready
      passed (inr is) = inr (inr is)

  -- ---- an entry that is ready

  pub skipped : (verdicts : Verdicts) (stack : List Visit) (at : MethodAt)
      → Walks classes typed host root verdicts (Enter at ∷ stack)
      → verdict verdicts at ≡ Some true
      → Walks classes typed host root verdicts stack
  skipped verdicts stack at walk ready = record {
    ready = walk.ready;
    unready = walk.unready;
    settled = stays_settled verdicts verdicts (at ∷ []) [] stack more walk.settled.1;
    led = walk.led.1;
  } where
    more : (other : MethodAt) → IsDone verdicts (at ∷ []) other → IsDone verdicts [] other
    more other (inl is) = inl is
    more other (inr (inl e)) = inl (subst (λ (m : MethodAt). verdict verdicts m ≡ Some true) (sym e) ready)
    more other (inr (inr none)) = elim none [ ]

  -- ---- a method that is left

  left_is_ready : (verdicts : Verdicts) (stack : List Visit) (at : MethodAt) → Walks classes typed host root verdicts (Leave at ∷ stack) → IsReady classes typed host at
  left_is_ready verdicts stack at walk = founded at walk.settled.0.0 (λ need needs. of_done need (walk.settled.0.1 need needs)) where
    of_done : (need : MethodAt) → IsDone verdicts [] need → IsReady classes typed host need
    of_done need (inl is) = walk.ready need is
    of_done need (inr none) = elim none [ ]

  pub left : (before after : Verdicts) (stack : List Visit) (at : MethodAt)
      → Walks classes typed host root before (Leave at ∷ stack)
      → Judges before after at true
      → Walks classes typed host root after stack
  left before after stack at walk judges = record {
    ready = λ other is. of_ready other (same_method other at) is;
    unready = λ other is. of_unready other (same_method other at) is;
    settled = stays_settled before after (at ∷ []) [] stack more walk.settled.1;
    led = walk.led.1;
  } where
    of_ready : (other : MethodAt) → (other ≡ at) ⊎ (other ≢ at) → verdict after other ≡ Some true → IsReady classes typed host other
    of_ready other (inl e) is = subst (IsReady classes typed host) (sym e) (left_is_ready before stack at walk)
    of_ready other (inr apart) is = walk.ready other (sym (judges.apart other apart) ∙ is)

    of_unready : (other : MethodAt) → (other ≡ at) ⊎ (other ≢ at) → verdict after other ≡ Some false → IsLeft stack other ⊎ (¬ IsReady classes typed host other)
    of_unready other (inl e) is =
        let here : verdict after other ≡ Some true = subst (λ (m : MethodAt). verdict after m ≡ Some true) (sym e) judges.here in
        absurd (cc (sym is ∙ here))
    of_unready other (inr apart) is = below (walk.unready other (sym (judges.apart other apart) ∙ is)) where
      below : IsLeft (Leave at ∷ stack) other ⊎ (¬ IsReady classes typed host other) → IsLeft stack other ⊎ (¬ IsReady classes typed host other)
      below (inl (inl e)) = absurd (apart e)
      below (inl (inr is)) = inl is
      below (inr none) = inr none

    more : (other : MethodAt) → IsDone before (at ∷ []) other → IsDone after [] other
    more other (inl is) = kept (same_method other at) where
      kept : (other ≡ at) ⊎ (other ≢ at) → IsDone after [] other
      kept (inl e) = inl (subst (λ (m : MethodAt). verdict after m ≡ Some true) (sym e) judges.here)
      kept (inr apart) = inl (judges.apart other apart ∙ is)
    more other (inr (inl e)) = inl (subst (λ (m : MethodAt). verdict after m ≡ Some true) (sym e) judges.here)
    more other (inr (inr none)) = elim none [ ]

  -- ---- a method that is entered

  -- what is put on top keeps what is below
  stacked_settles : (verdicts : Verdicts) (needs : List MethodAt) (above : List MethodAt) (stack : List Visit)
      → ((over : List MethodAt) → ((need : MethodAt) → IsAmong needs need ⊎ IsAmong above need → IsAmong over need) → AreSettled classes typed host root verdicts over stack)
      → AreSettled classes typed host root verdicts above (stacked needs stack)
  stacked_settles verdicts [] above stack settled = settled above (λ need is. either need is) where
    either : (need : MethodAt) → IsAmong [] need ⊎ IsAmong above need → IsAmong above need
    either need (inl none) = elim none [ ]
    either need (inr is) = is
  stacked_settles verdicts (first ∷ needs) above stack settled =
      stacked_settles verdicts needs above (Enter first ∷ stack) (λ over more. (tt, settled (first ∷ over) (λ need is. put need over more is))) where
        put : (need : MethodAt) (over : List MethodAt)
            → ((need : MethodAt) → IsAmong needs need ⊎ IsAmong above need → IsAmong over need)
            → IsAmong (first ∷ needs) need ⊎ IsAmong above need
            → IsAmong (first ∷ over) need
        put need over more (inl (inl e)) = inl e
        put need over more (inl (inr is)) = inr (more need (inl is))
        put need over more (inr is) = inr (more need (inr is))

  stacked_left : (needs : List MethodAt) (stack : List Visit) (at : MethodAt) → IsLeft stack at → IsLeft (stacked needs stack) at
  stacked_left [] stack at is = is
  stacked_left (first ∷ needs) stack at is = stacked_left needs (Enter first ∷ stack) at is

  stacked_led : (needs : List MethodAt) (stack : List Visit) (at : MethodAt)
      → ((need : MethodAt) → IsAmong needs need → IsLed classes typed root (nearest stack) need)
      → AreLed classes typed root stack
      → AreLed classes typed root (stacked needs stack)
  stacked_led [] stack at led are = are
  stacked_led (first ∷ needs) stack at led are =
      stacked_led needs (Enter first ∷ stack) at (λ need is. led need (inr is)) (led first (inl refl), are)

  pub entered : (before after : Verdicts) (stack : List Visit) (at : MethodAt) (needs : List MethodAt)
      → Walks classes typed host root before (Enter at ∷ stack)
      → verdict before at ≡ None
      → NeedsThese classes typed host at needs
      → Judges before after at false
      → Walks classes typed host root after (stacked needs (Leave at ∷ stack))
  entered before after stack at needs walk new has judges = record {
    ready = λ other is. of_ready other (same_method other at) is;
    unready = λ other is. of_unready other (same_method other at) is;
    settled = stacked_settles after needs [] (Leave at ∷ stack) settled;
    led = stacked_led needs (Leave at ∷ stack) at has.only walk.led;
  } where
    of_ready : (other : MethodAt) → (other ≡ at) ⊎ (other ≢ at) → verdict after other ≡ Some true → IsReady classes typed host other
    of_ready other (inl e) is =
        let here : verdict after other ≡ Some false = subst (λ (m : MethodAt). verdict after m ≡ Some false) (sym e) judges.here in
        absurd (cc (sym is ∙ here))
    of_ready other (inr apart) is = walk.ready other (sym (judges.apart other apart) ∙ is)

    of_unready : (other : MethodAt) → (other ≡ at) ⊎ (other ≢ at) → verdict after other ≡ Some false → IsLeft (stacked needs (Leave at ∷ stack)) other ⊎ (¬ IsReady classes typed host other)
    of_unready other (inl e) is = inl (stacked_left needs (Leave at ∷ stack) other (inl e))
    of_unready other (inr apart) is = below (walk.unready other (sym (judges.apart other apart) ∙ is)) where
      below : IsLeft (Enter at ∷ stack) other ⊎ (¬ IsReady classes typed host other) → IsLeft (stacked needs (Leave at ∷ stack)) other ⊎ (¬ IsReady classes typed host other)
      below (inl is) = inl (stacked_left needs (Leave at ∷ stack) other (inr is))
      below (inr none) = inr none

    kept : (other : MethodAt) → verdict before other ≡ Some true → (other ≡ at) ⊎ (other ≢ at) → verdict after other ≡ Some true
    kept other is (inl e) = absurd (cc (sym is ∙ subst (λ (m : MethodAt). verdict before m ≡ None) (sym e) new))
    kept other is (inr apart) = judges.apart other apart ∙ is

    more : (over : List MethodAt) (other : MethodAt) → IsDone before (at ∷ []) other → IsDone after (at ∷ over) other
    more over other (inl is) = inl (kept other is (same_method other at))
    more over other (inr (inl e)) = inr (inl e)
    more over other (inr (inr none)) = elim none [ ]

    settled : (over : List MethodAt) → ((need : MethodAt) → IsAmong needs need ⊎ IsAmong [] need → IsAmong over need) → AreSettled classes typed host root after over (Leave at ∷ stack)
    settled over among = (
      (has.fits, λ need is. inr (among need (inl (has.each need is)))),
      stays_settled before after (at ∷ []) (at ∷ over) stack (more over) walk.settled.1,
    )

  -- ---- how the walk begins and ends

  pub begun : (verdicts : Verdicts) → AreRight classes typed host verdicts → Walks classes typed host root verdicts (Enter root ∷ [])
  begun verdicts right = record {
    ready = right.ready;
    unready = λ at is. inr (right.unready at is);
    settled = (tt, inr (inl refl));
    led = (refl, tt);
  }

  pub ended_right : (verdicts : Verdicts) → Walks classes typed host root verdicts [] → AreRight classes typed host verdicts
  ended_right verdicts walk = record { ready = walk.ready; unready = λ at is. alone at (walk.unready at is) } where
    alone : (at : MethodAt) → IsLeft [] at ⊎ (¬ IsReady classes typed host at) → ¬ IsReady classes typed host at
    alone at (inl none) = elim none [ ]
    alone at (inr none) = none

  pub ended_ready : (verdicts : Verdicts) → Walks classes typed host root verdicts [] → IsReady classes typed host root
  ended_ready verdicts walk = of_done walk.settled where
    of_done : IsDone verdicts [] root → IsReady classes typed host root
    of_done (inl is) = walk.ready root is
    of_done (inr none) = elim none [ ]

  -- a method that is not ready is met
  pub fails : (verdicts : Verdicts) (stack : List Visit) (at : MethodAt)
      → Walks classes typed host root verdicts (Enter at ∷ stack)
      → ¬ IsReady classes typed host at
      → AreRight classes typed host verdicts × (¬ IsReady classes typed host root)
  fails verdicts stack at walk none = (
    record { ready = walk.ready; unready = λ other is. of_unready other (walk.unready other is) },
    λ is. none (root_leads stack at walk.led.1 walk.led.0 is),
  ) where
    of_unready : (other : MethodAt) → IsLeft stack other ⊎ (¬ IsReady classes typed host other) → ¬ IsReady classes typed host other
    of_unready other (inl is) = λ ready. none (led_is_founded other at (left_leads stack at other walk.led.1 walk.led.0 is) ready)
    of_unready other (inr apart) = apart

  -- a method that is to be left needs itself
  pub met_again : (verdicts : Verdicts) (stack : List Visit) (at : MethodAt)
      → Walks classes typed host root verdicts (Enter at ∷ stack)
      → verdict verdicts at ≡ Some false
      → ¬ IsReady classes typed host at
  met_again verdicts stack at walk is = of_unready (walk.unready at is) where
    of_unready : IsLeft stack at ⊎ (¬ IsReady classes typed host at) → ¬ IsReady classes typed host at
    of_unready (inl left) = λ ready. no_circle at ready (left_leads stack at at walk.led.1 walk.led.0 left)
    of_unready (inr none) = none

-- ---- what is not seen

pub judged_is_seen : (before after : Verdicts) (at other : MethodAt) (is_ready : Bool) → Judges before after at is_ready → verdict after other ≡ None → verdict before other ≡ None
judged_is_seen before after at other is_ready judges none = of_place (same_method other at) where
  of_place : (other ≡ at) ⊎ (other ≢ at) → verdict before other ≡ None
  of_place (inl e) = absurd (cc (sym none ∙ subst (λ (m : MethodAt). verdict after m ≡ Some is_ready) (sym e) judges.here))
  of_place (inr apart) = sym (judges.apart other apart) ∙ none

-- ---- the next method

found_false : (found : Option Bool) → is_some found ≡ true → found ≢ Some true → found ≡ Some false
found_false None is not = absurd cc
found_false (Some true) is not = absurd (not refl)
found_false (Some false) is not = refl

found_none : (found : Option Bool) → is_some found ≡ false → found ≡ None
found_none None is = refl
found_none (Some is_ready) is = absurd cc

module _ (classes : Classes) (typed : FolderFrames) (host : ℕ) (root : MethodAt) (before : Verdicts) (old : List Visit) (after : Verdicts) (new : List Visit)
    (walk : Walks classes typed host root before old) where
  pub next_walks : (next : Option MethodAt) (at : MethodAt) → GoesOn before old after new next → next ≡ Some at
      → Walks classes typed host root after (Enter at ∷ new) × (verdict after at ≢ Some true)
  next_walks next at on is = subst (Advances classes typed host root after new) is (on.walks classes typed host root walk)

  pub next_ends : (next : Option MethodAt) → GoesOn before old after new next → next ≡ None → Walks classes typed host root after []
  next_ends next on is = subst (Advances classes typed host root after new) is (on.walks classes typed host root walk)

  pub met_fails : (next : Option MethodAt) (at : MethodAt) (found : Option Bool)
      → GoesOn before old after new next
      → next ≡ Some at
      → found ≡ verdict after at
      → is_some found ≡ true
      → AreRight classes typed host after × (¬ IsReady classes typed host root)
  met_fails next at found on is is_found some =
      let h = next_walks next at on is in
      let seen : verdict after at ≡ Some false = found_false (verdict after at) (ap is_some (sym is_found) ∙ some) h.1 in
      fails classes typed host root after new at h.0 (met_again classes typed host root after new at h.0 seen)

  pub unneeded_fails : (next : Option MethodAt) (at : MethodAt)
      → GoesOn before old after new next
      → next ≡ Some at
      → ¬ IsReady classes typed host at
      → AreRight classes typed host after × (¬ IsReady classes typed host root)
  unneeded_fails next at on is none = fails classes typed host root after new at (next_walks next at on is).0 none

  pub goes_down : (next : Option MethodAt) (at : MethodAt) (found : Option Bool) (needs : List MethodAt) (last : Verdicts) (stack : List Visit)
      → GoesOn before old after new next
      → next ≡ Some at
      → found ≡ verdict after at
      → is_some found ≡ false
      → NeedsThese classes typed host at needs
      → Judges after last at false
      → stack ≡ stacked needs (Leave at ∷ new)
      → Walks classes typed host root last stack
  goes_down next at found needs last stack on is is_found none has judges is_stack =
      subst (Walks classes typed host root last) (sym is_stack)
      (entered classes typed host root after last new at needs (next_walks next at on is).0 (sym is_found ∙ found_none found none) has judges)

-- a method with code stands in the folder
record StandsInFolder (classes : Classes) (at : MethodAt) : Type 0 where
  class : ClassFile
  is_class : slice_get classes.folder at.class ≡ Some class
  method : Method
  is_method : slice_get class.methods at.method ≡ Some method

stands_in_folder : (classes : Classes) (at : MethodAt) (scope : Scope) → scope_at classes at ≡ Some scope → StandsInFolder classes at
stands_in_folder classes at scope is = of_class (slice_get classes.folder at.class) refl is where
  of_method : (class : ClassFile) (method : Option Method)
      → slice_get classes.folder at.class ≡ Some class
      → slice_get class.methods at.method ≡ method
      → option_and_then (scope_of (headers_of classes) class) method ≡ Some scope
      → StandsInFolder classes at
  of_method class None is_class is_method is = absurd (none-some scope is)
  of_method class (Some method) is_class is_method is = record { class = class; is_class = is_class; method = method; is_method = is_method }

  of_class : (class : Option ClassFile)
      → slice_get classes.folder at.class ≡ class
      → option_and_then (λ class. option_and_then (scope_of (headers_of classes) class) (slice_get class.methods at.method)) class ≡ Some scope
      → StandsInFolder classes at
  of_class None is_class is = absurd (none-some scope is)
  of_class (Some class) is_class is = of_method class (slice_get class.methods at.method) is_class refl is

pub sees_more : (classes : Classes) (typed : FolderFrames) (host : ℕ) (before : Verdicts) (old : List Visit) (after : Verdicts) (new : List Visit) (next : Option MethodAt) (at : MethodAt) (found : Option Bool) (last : Verdicts)
    → GoesOn before old after new next
    → found ≡ verdict after at
    → is_some found ≡ false
    → Fits classes typed host at
    → Judges after last at false
    → unseen (verdict last) 0 classes.folder < unseen (verdict before) 0 classes.folder
sees_more classes typed host before old after new next at found last on is_found none fits judges =
    let there = stands_in_folder classes at fits.scope fits.is.is_scope in
    fewer_unseen (verdict before) (verdict last)
    (λ other none. on.unseen other (judged_is_seen after last at other false judges none))
    at (on.unseen at (sym is_found ∙ found_none found none))
    (λ is. absurd (cc (sym judges.here ∙ is)))
    classes.folder there.class there.method there.is_class there.is_method
