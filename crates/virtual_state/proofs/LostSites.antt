-- The sites that another state does not have, one by one.
use Rattle.std.proofs.Common.{◌≡◌, ◌||◌, ◌&&◌, ◌+◌, ◌<◌, ◌≤◌, ℕ, Bool, true, false, List, [], Option, None, is_some, refl, sym, ap, ◌∙◌, inl, inr, arith}
use Rattle.std.proofs.lemmas.Bool.{cases_lt, eq-eqb, ne_eqb}
use Rattle.virtual_state.specs.Inner.Comparing.{is_lost, absent_from}
use Rattle.virtual_state.specs.Laws.Objects.{same_or_not, some_or_none, found_site}
use Rattle.virtual_state.specs.Laws.Orders.{has_where}
use Rattle.virtual_state.specs.Sites.{has, differing}
use Rattle.virtual_state.specs.States.{State, is_present, object_of}
use Rattle.virtual_state.specs.declared.slot.VObject.{VObject}

-- the sites below a number that are lost
pub record AreLostBelow (sites : List ℕ) (objects others : List VObject) (end : ℕ) : Type 0 where
  pub before : (site : ℕ) → site < end → has sites site ≡ (is_present objects site && absent_from others site)
  pub behind : (site : ℕ) → end ≤ site → has sites site ≡ false

pub lost_none : (objects others : List VObject) → AreLostBelow [] objects others 0
lost_none objects others = record { before = λ site low. absurd (omega arith); behind = λ site high. refl }

lost_here : (objects others : List VObject) (site : ℕ) → is_lost others (object_of objects site) site ≡ (is_present objects site && absent_from others site)
lost_here objects others site =
    elim (some_or_none (object_of objects site)) [
      | inl found ↦
          let own = found_site objects site found.0 found.1 in
          ap (λ (o : Option VObject). is_lost others o site) found.1
          ∙ (λ i. eq-eqb found.0.site site own i && absent_from others (own i))
          ∙ sym (ap (λ (o : Option VObject). is_some o && absent_from others site) found.1)
      | inr none ↦ ap (λ (o : Option VObject). is_lost others o site) none ∙ sym (ap (λ (o : Option VObject). is_some o && absent_from others site) none)
    ]

lost_other : (objects others : List VObject) (site other : ℕ) → ¬ (other ≡ site) → is_lost others (object_of objects site) other ≡ false
lost_other objects others site other differ =
    elim (some_or_none (object_of objects site)) [
      | inl found ↦
          let own = found_site objects site found.0 found.1 in
          ap (λ (o : Option VObject). is_lost others o other) found.1
          ∙ ap (λ (b : Bool). b && absent_from others found.0.site) (ne_eqb found.0.site other (λ same. differ (sym same ∙ own)))
      | inr none ↦ ap (λ (o : Option VObject). is_lost others o other) none
    ]

pub lost_more : (before after : List ℕ) (objects others : List VObject) (site : ℕ) → AreLostBelow before objects others site → ((one : ℕ) → has after one ≡ (has before one || is_lost others (object_of objects site) one)) → AreLostBelow after objects others (site + 1)
lost_more before after objects others site lost added = record {
  before = λ one low. elim (same_or_not one site) [
    | inl same ↦
        added one
        ∙ ap (λ (b : Bool). b || is_lost others (object_of objects site) one) (lost.behind one (omega (arith, same)))
        ∙ ap (is_lost others (object_of objects site)) same
        ∙ lost_here objects others site
        ∙ ap (λ (n : ℕ). is_present objects n && absent_from others n) (sym same)
    | inr differ ↦
        added one
        ∙ ap (λ (b : Bool). has before one || b) (lost_other objects others site one differ)
        ∙ or_no (has before one)
        ∙ lost.before one (less_of one differ low)
  ];
  behind = λ one high.
      let differ : ¬ (one ≡ site) = λ same. too_high one high same in
      added one
      ∙ ap (λ (b : Bool). has before one || b) (lost_other objects others site one differ)
      ∙ or_no (has before one)
      ∙ lost.behind one (omega arith);
} where
  or_no : (b : Bool) → (b || false) ≡ b
  or_no true = refl
  or_no false = refl

  less_of : (one : ℕ) → ¬ (one ≡ site) → one < site + 1 → one < site
  less_of one differ low = elim (cases_lt one site) [ inl less ↦ less | inr more ↦ absurd (differ (omega arith)) ]

  too_high : (one : ℕ) → site + 1 ≤ one → ¬ (one ≡ site)
  too_high one high same = omega arith

pub lost_all : (sites : List ℕ) (state other : State) (end : ℕ) → AreLostBelow sites state.objects other.objects end → ((site : ℕ) → end ≤ site → object_of state.objects site ≡ None) → (site : ℕ) → has sites site ≡ has (differing state other) site
lost_all sites state other end lost past site =
    elim (cases_lt site end) [
      | inl less ↦ lost.before site less ∙ sym (has_where (absent_from other.objects) state.objects site)
      | inr more ↦ lost.behind site more ∙ sym (has_where (absent_from other.objects) state.objects site ∙ ap (λ (o : Option VObject). is_some o && absent_from other.objects site) (past site more))
    ]
