-- What is founded has no circle of needs.
use Rattle.std.proofs.Common.{◌≡◌, refl, sym, subst}
use Rattle.inline_expand.specs.Inner.Founded.{Founded, Leads, founded, leads_at_once, leads_on}

module _ {A : Type 0} {Needs : A → A → Type 0} where
  pub then_needs : (one other last : A) → Leads Needs one other → Needs other last → Leads Needs one last
  then_needs _ _ last (leads_at_once one other needs) more = leads_on one other last needs (leads_at_once other last more)
  then_needs _ _ last (leads_on one middle other needs leads) more = leads_on one middle last needs (then_needs middle other last leads more)

  -- a circle through one is a circle through what it needs
  turned : (one last : A) → Leads Needs one last → last ≡ one → ((other : A) → Needs one other → ¬ Leads Needs other other) → ⊥
  turned _ _ (leads_at_once one last needs) e none =
      none last needs (leads_at_once last last (subst (λ (a : A). Needs a last) (sym e) needs))
  turned _ _ (leads_on one other last needs leads) e none =
      none other needs (then_needs other one other (subst (λ (a : A). Leads Needs other a) e leads) needs)

module _ {A : Type 0} {Needs : A → A → Type 0} {Fits : A → Type 0} where
  pub needed_is_founded : (one other : A) → Founded Needs Fits one → Needs one other → Founded Needs Fits other
  needed_is_founded _ other (founded one fits parts) needs = parts other needs

  pub led_is_founded : (one other : A) → Leads Needs one other → Founded Needs Fits one → Founded Needs Fits other
  led_is_founded _ _ (leads_at_once one other needs) is = needed_is_founded one other is needs
  led_is_founded _ _ (leads_on one other last needs leads) is = led_is_founded other last leads (needed_is_founded one other is needs)

  -- by induction over what is founded
  pub no_circle : (one : A) → Founded Needs Fits one → ¬ Leads Needs one one
  no_circle _ (founded one fits parts) = λ circle. turned one one circle refl (λ other needs. no_circle other (parts other needs))
