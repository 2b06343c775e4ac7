-- The least state that two are below.
use Rattle.std.proofs.Common.{◌≡◌, ◌||◌, ℕ, Bool, true, false, cond, List, [], Option, Some, None, refl, sym, ap, subst, ◌∙◌, inl, inr}
use Rattle.std.proofs.lemmas.Bool.{cases_Bool, or_left, false≢true}
use Rattle.std.proofs.lemmas.Option.{none-some, same_Some}
use Rattle.virtual_state.specs.Inner.Agreement.{IsPart, AgreeWithout, ObjectsAgree, HasMarkedDifferences, HaveMarkedObjects}
use Rattle.virtual_state.specs.Inner.Filling.{stays_as}
use Rattle.virtual_state.specs.Inner.Marks.{HasSpread}
use Rattle.virtual_state.specs.Orders.{IsBelow, IsJoin}
use Rattle.virtual_state.specs.Sites.{has}
use Rattle.virtual_state.specs.States.{State, IsState, object_of}
use Rattle.virtual_state.specs.Without.{IsClosed, object_without, objects_without, without}
use Rattle.virtual_state.specs.declared.slot.VObject.{VObject}
use Rattle.virtual_state.specs.Laws.Fields.{agree_more}
use Rattle.virtual_state.specs.Laws.Objects.{found_site, same_objects}
use Rattle.virtual_state.specs.Laws.Orders.{absent, below_without, below_is_without, below_is_closed}
use Rattle.virtual_state.specs.Laws.Removals.{either, edge_before, without_in_order, without_is_state, without_twice}
use Rattle.virtual_state.proofs.Agreeing.{objects_agree_part}
use Rattle.virtual_state.proofs.Filling.{stays_found}
use Rattle.virtual_state.proofs.Spreading.{spread_in_closed}

-- ---- objects that agree

same_rest : (away : ℕ → Bool) (one other : VObject) → one.site ≡ other.site → one.depth ≡ other.depth → AgreeWithout away one.fields other.fields → object_without away one ≡ object_without away other
same_rest away one other site depth fields = λ i. record { site = site i; fields = fields i; depth = depth i }

pub gone_rest : (away : ℕ → Bool) (object : VObject) → away object.site ≡ true → stays_as away (Some object) ≡ None
gone_rest away object is_away = ap (λ (b : Bool). cond b None (Some (object_without away object))) is_away

pub kept_rest : (away : ℕ → Bool) (object : VObject) → away object.site ≡ false → stays_as away (Some object) ≡ Some (object_without away object)
kept_rest away object stays = ap (λ (b : Bool). cond b None (Some (object_without away object))) stays

-- objects that agree stay as the same one
pub agree_stays : (away : ℕ → Bool) (site : ℕ) (one other : Option VObject) → ((object : VObject) → one ≡ Some object → object.site ≡ site) → ((object : VObject) → other ≡ Some object → object.site ≡ site) → ObjectsAgree away one other → stays_as away one ≡ stays_as away other
agree_stays away site None None left right agree = refl
agree_stays away site None (Some other) left right agree = sym (gone_rest away other agree)
agree_stays away site (Some one) None left right agree = gone_rest away one agree
agree_stays away site (Some one) (Some other) left right agree =
    let same : one.site ≡ other.site = left one refl ∙ sym (right other refl) in
    elim (cases_Bool (away one.site)) [
      | inl is_away ↦ gone_rest away one is_away ∙ sym (gone_rest away other (sym (ap away same) ∙ is_away))
      | inr stays ↦
          let alike = agree stays in
          kept_rest away one stays
          ∙ ap (λ (object : VObject). Some object) (same_rest away one other same alike.0 alike.1)
          ∙ sym (kept_rest away other (sym (ap away same) ∙ stays))
    ]

-- objects that stay as the same one agree
pub stays_agree : (away : ℕ → Bool) (one other : Option VObject) → stays_as away one ≡ stays_as away other → ObjectsAgree away one other
stays_agree away None None same = tt
stays_agree away None (Some other) same =
    elim (cases_Bool (away other.site)) [
      | inl is_away ↦ is_away
      | inr stays ↦ absurd (none-some (object_without away other) (same ∙ kept_rest away other stays))
    ]
stays_agree away (Some one) None same =
    elim (cases_Bool (away one.site)) [
      | inl is_away ↦ is_away
      | inr stays ↦ absurd (none-some (object_without away one) (sym same ∙ kept_rest away one stays))
    ]
stays_agree away (Some one) (Some other) same = λ stays.
    elim (cases_Bool (away other.site)) [
      | inl is_away ↦ absurd (none-some (object_without away one) (sym (gone_rest away other is_away) ∙ sym same ∙ kept_rest away one stays))
      | inr also ↦
          let is = same_Some (object_without away one) (object_without away other) (sym (kept_rest away one stays) ∙ same ∙ kept_rest away other also) in
          (ap (λ (object : VObject). object.depth) is, ap (λ (object : VObject). object.fields) is)
    ]

-- ---- states that agree

-- two states agree without a set that is closed in both
pub record StatesAgree (away : ℕ → Bool) (one other : State) : Type 0 where
  pub slots : AgreeWithout away one.slots other.slots
  pub objects : (site : ℕ) → ObjectsAgree away (object_of one.objects site) (object_of other.objects site)
  pub left : IsClosed away one.objects
  pub right : IsClosed away other.objects

pub same_without : (one other : State) (away : ℕ → Bool) → IsState one → IsState other → StatesAgree away one other → without one away ≡ without other away
same_without one other away left right agree =
    let objects = same_objects (objects_without away one.objects) (objects_without away other.objects) (without_in_order away one.objects left.order) (without_in_order away other.objects right.order) (λ site.
    stays_found away one.objects site
    ∙ agree_stays away site (object_of one.objects site) (object_of other.objects site) (λ object is. found_site one.objects site object is) (λ object is. found_site other.objects site object is) (agree.objects site)
    ∙ sym (stays_found away other.objects site)) in
    λ i. record { slots = agree.slots i; objects = objects i }

-- two states agree without what a state above both lacks
pub above_agrees : (one other above : State) → IsState one → IsState other → IsBelow one above → IsBelow other above → StatesAgree (absent above) one other
above_agrees one other above left right first second =
    let away = absent above in
    let up = below_is_without one above left first in
    let also = below_is_without other above right second in
    record {
      slots = sym (ap (λ (state : State). state.slots) up) ∙ ap (λ (state : State). state.slots) also;
      objects = λ site. stays_agree away (object_of one.objects site) (object_of other.objects site) (
          sym (stays_found away one.objects site)
          ∙ sym (ap (λ (state : State). object_of state.objects site) up)
          ∙ ap (λ (state : State). object_of state.objects site) also
          ∙ stays_found away other.objects site
          );
      left = below_is_closed one above left first;
      right = below_is_closed other above right second;
    }

-- more is taken away
more_taken : (state : State) (one other : ℕ → Bool) → IsPart one other → without (without state one) other ≡ without state other
more_taken state one other part = without_twice state one other ∙ ap (without state) (λ i site. same site i) where
  same : (site : ℕ) → either one other site ≡ other site
  same site = elim (cases_Bool (one site)) [
    | inl is_one ↦ or_left (one site) (other site) is_one ∙ sym (part site is_one)
    | inr not_one ↦ ap (λ (b : Bool). b || other site) not_one
  ]

-- the least set without which they agree gives their join
pub least_joins : (one other : State) (away : ℕ → Bool) → IsState one → IsState other → StatesAgree away one other → ((test : ℕ → Bool) → StatesAgree test one other → IsPart away test) → IsJoin one other (without one away)
least_joins one other away left right agree least = record {
  left = below_without one away left agree.left;
  right = subst (IsBelow other) (sym (same_without one other away left right agree)) (below_without other away right agree.right);
  least = λ above first second.
      let test = absent above in
      let whole = above_agrees one other above left right first second in
      let part = least test whole in
      let joined = without_is_state one away left agree.left in
      let closed : IsClosed test (objects_without away one.objects) = λ from to edge. whole.left from to (edge_before away one.objects from to edge).edge in
      let is : without (without one away) test ≡ above = more_taken one away test part ∙ sym (below_is_without one above left first) in
      subst (IsBelow (without one away)) is (below_without (without one away) test joined closed);
}

-- what was marked and what was reached from it is that set
pub marks_join : (one other : State) (none slots objects sites : List ℕ) → IsState one → IsState other → none ≡ [] → HasMarkedDifferences none slots one.slots other.slots → HaveMarkedObjects slots objects one.objects other.objects → HasSpread objects sites one.objects other.objects → IsJoin one other (without one (has sites))
marks_join one other none slots objects sites left right empty first second third =
    let from_objects : IsPart (has objects) (has sites) = third.kept in
    let from_slots : IsPart (has slots) (has sites) = λ site there. from_objects site (second.kept site there) in
    least_joins one other (has sites) left right (record {
      slots = agree_more (has slots) (has sites) one.slots other.slots from_slots first.agree;
      objects = λ site. objects_agree_part (has objects) (has sites) from_objects (object_of one.objects site) (object_of other.objects site) (second.agree site);
      left = third.in_one;
      right = third.in_other;
    }) (λ test agree site there.
    let begins : IsPart (has none) test = λ one_site among. absurd (false≢true (sym (ap (λ (list : List ℕ). has list one_site) empty) ∙ among)) in
    let in_slots = first.forced test agree.slots begins in
    let in_objects = second.forced test agree.objects agree.left agree.right in_slots in
    spread_in_closed objects one.objects other.objects test agree.left agree.right in_objects (third.reached site there))
