-- Sites that are noted, and the classes of sites.
use Rattle.std.proofs.Common.{◌≡◌, ◌<◌, ◌+◌, ◌==◌, ◌||◌, ℕ, zero, suc, Bool, true, false, List, [], ◌∷◌, ◌++◌, length, min, take, get_or, slice_get, Option, Some, None, option_map, option_and_then, refl, sym, ap, subst, ◌∙◌, arith, add-one}
use Rattle.std.proofs.lemmas.Grind.{flat_map-append}
use Rattle.std.proofs.lemmas.List.{append-nil, append_assoc, length-append}
use Rattle.std.proofs.lemmas.Option.{none-some, same_Some}
use Rattle.class_rewrite.specs.Inner.MadeSites.{IsNoted, class_of, classes_of, edges_behind, made_before, made_on, made_there, made_to}
use Rattle.class_rewrite.specs.declared.made_sites.Making.{Making}
use Rattle.class_tree.specs.Headers.{Name}
use Rattle.flow_code.specs.declared.point.Site.{Site}
use Rattle.plan_flow.specs.PlanEdges.{made_edge_meant}
use Rattle.plan_flow.specs.Plans.{MadeEdge, Plan, PlannedPoint, planned}
use Rattle.plan_flow.specs.declared.plan.PlanEdge.{PlanEdge}
use Rattle.virtual_state.specs.Sites.{has}

-- ---- lists

either_none : (a : Bool) → (a || false) ≡ a
either_none true = refl
either_none false = refl

either_grouped : (a b c : Bool) → ((a || b) || c) ≡ (a || (b || c))
either_grouped true b c = refl
either_grouped false b c = refl

pub has_both : (left right : List ℕ) (site : ℕ) → has (left ++ right) site ≡ (has left site || has right site)
has_both [] right site = refl
has_both (one ∷ left) right site =
    ap (λ (b : Bool). (one == site) || b) (has_both left right site) ∙ sym (either_grouped (one == site) (has left site) (has right site))

pub take_next : {A : Type 0} (items : List A) (number : ℕ) (item : A) → slice_get items number ≡ Some item
    → take (number + 1) items ≡ take number items ++ item ∷ []
take_next items number item is = rw (add-one) (by items number is) where
  by : {A : Type 0} {item : A} (items : List A) (number : ℕ) → slice_get items number ≡ Some item
      → take (suc number) items ≡ take number items ++ item ∷ []
  by {item = item} [] number is = absurd (none-some item is)
  by {A = A} {item = item} (first ∷ items) zero is = ap (λ (one : A). one ∷ []) (same_Some first item is)
  by {A = A} (first ∷ items) (suc number) is = ap (λ (others : List A). first ∷ others) (by items number is)

pub take_all_of : {A : Type 0} (items : List A) (number : ℕ) → slice_get items number ≡ None → take number items ≡ items
take_all_of [] zero is = refl
take_all_of [] (suc number) is = refl
take_all_of (first ∷ items) zero is = absurd (none-some first (sym is))
take_all_of {A = A} (first ∷ items) (suc number) is = ap (λ (others : List A). first ∷ others) (take_all_of items number is)

pub item_there : (items : List ℕ) (number : ℕ) → number < length items → slice_get items number ≡ Some (get_or items number 0)
item_there [] number few = absurd (omega (arith, few))
item_there (first ∷ items) zero few = refl
item_there (first ∷ items) (suc number) few = item_there items number (omega (arith, few))

-- ---- what is noted

pub noted_none : (before : Making) → IsNoted before [] before
noted_none before = record { count = λ few. omega arith; sites = λ one. sym (either_none (has before.sites one)) }

pub noted_both : (before middle after : Making) (first then : List ℕ)
    → IsNoted before first middle
    → IsNoted middle then after
    → IsNoted before (first ++ then) after
noted_both before middle after first then one other = record {
  count = λ few.
      let long = length-append first then in
      let at_first = one.count (omega (arith, few, long)) in
      let at_last = other.count (omega (arith, few, long, at_first)) in
      omega (arith, long, at_first, at_last);
  sites = λ site.
      other.sites site ∙ ap (λ (b : Bool). b || has then site) (one.sites site)
      ∙ either_grouped (has before.sites site) (has first site) (has then site)
      ∙ ap (λ (b : Bool). has before.sites site || b) (sym (has_both first then site));
}

pub noted_one : (before after : Making) (site : ℕ)
    → after.count ≡ min (before.count + 1) 4294967295
    → ((one : ℕ) → has after.sites one ≡ (has before.sites one || site == one))
    → IsNoted before (site ∷ []) after
noted_one before after site counted adds = record {
  count = λ few. omega (arith, few, counted);
  sites = λ one. adds one ∙ ap (λ (b : Bool). has before.sites one || b) (sym (either_none (site == one)));
}

-- one more of a list
pub noted_next : (sites : List ℕ) (number site : ℕ) (before middle after : Making)
    → slice_get sites number ≡ Some site
    → IsNoted before (take number sites) middle
    → after.count ≡ min (middle.count + 1) 4294967295
    → ((one : ℕ) → has after.sites one ≡ (has middle.sites one || site == one))
    → IsNoted before (take (number + 1) sites) after
noted_next sites number site before middle after is so_far counted adds =
    subst (λ (all : List ℕ). IsNoted before all after) (sym (take_next sites number site is))
    (noted_both before middle after (take number sites) (site ∷ []) so_far (noted_one middle after site counted adds))

-- ---- edges

given_here : (point : Option PlannedPoint) (number : ℕ)
    → option_and_then (λ (one : PlannedPoint). slice_get one.edges number) point ≡ slice_get (edges_behind point) number
given_here None number = refl
given_here (Some point) number = refl

-- one more edge
pub noted_edge : (point : Option PlannedPoint) (number : ℕ) (found : Option PlanEdge) (edge : PlanEdge) (before middle after : Making)
    → option_map made_edge_meant found ≡ option_and_then (λ (one : PlannedPoint). slice_get one.edges number) point
    → found ≡ Some edge
    → IsNoted before (made_on (take number (edges_behind point))) middle
    → IsNoted middle edge.made.now after
    → IsNoted before (made_on (take (number + 1) (edges_behind point))) after
noted_edge point number found edge before middle after given is so_far more =
    let there : slice_get (edges_behind point) number ≡ Some (made_edge_meant edge) =
    sym (given_here point number) ∙ sym given ∙ ap (λ (one : Option PlanEdge). option_map made_edge_meant one) is in
    let all : made_on (take (number + 1) (edges_behind point)) ≡ made_on (take number (edges_behind point)) ++ edge.made.now =
    ap made_on (take_next (edges_behind point) number (made_edge_meant edge) there)
    ∙ flat_map-append (λ (one : MadeEdge). one.made) (take number (edges_behind point)) (made_edge_meant edge ∷ [])
    ∙ ap (λ (last : List ℕ). made_on (take number (edges_behind point)) ++ last) (append-nil edge.made.now) in
    subst (λ (sites : List ℕ). IsNoted before sites after) (sym all)
    (noted_both before middle after (made_on (take number (edges_behind point))) edge.made.now so_far more)

-- behind the last edge
pub noted_edges : (point : Option PlannedPoint) (number : ℕ) (found : Option PlanEdge) (before after : Making)
    → option_map made_edge_meant found ≡ option_and_then (λ (one : PlannedPoint). slice_get one.edges number) point
    → found ≡ None
    → IsNoted before (made_on (take number (edges_behind point))) after
    → IsNoted before (made_on (edges_behind point)) after
noted_edges point number found before after given is so_far =
    let none : slice_get (edges_behind point) number ≡ None =
    sym (given_here point number) ∙ sym given ∙ ap (λ (one : Option PlanEdge). option_map made_edge_meant one) is in
    subst (λ (edges : List MadeEdge). IsNoted before (made_on edges) after) (take_all_of (edges_behind point) number none) so_far

-- ---- points

planned_none : (number : ℕ) → made_there (planned [] number) ≡ []
planned_none zero = refl
planned_none (suc number) = refl

pub made_more : (count : ℕ) (plan : Plan) → made_to (count + 1) plan ≡ made_to count plan ++ made_there (planned plan count)
made_more count plan = rw (add-one) (by count plan) where
  by : (count : ℕ) (plan : Plan) → made_to (suc count) plan ≡ made_to count plan ++ made_there (planned plan count)
  by zero [] = refl
  by zero (point ∷ plan) = append-nil (made_there point)
  by (suc count) [] = sym (planned_none (suc count))
  by (suc count) (point ∷ plan) =
      ap (λ (rest : List ℕ). made_there point ++ rest) (by count plan)
      ∙ sym (append_assoc (made_there point) (made_to count plan) (made_there (planned plan count)))

pub noted_point : (plan : Plan) (count : ℕ) (before middle after : Making)
    → IsNoted before (made_to count plan) middle
    → IsNoted middle (made_there (planned plan count)) after
    → IsNoted before (made_to (count + 1) plan) after
noted_point plan count before middle after so_far more =
    subst (λ (sites : List ℕ). IsNoted before sites after) (sym (made_more count plan))
    (noted_both before middle after (made_to count plan) (made_there (planned plan count)) so_far more)

-- what is made before the instruction of a point
pub before_is : (found : Option (List ℕ)) (point : Option PlannedPoint) (sites : List ℕ)
    → found ≡ option_map (λ (one : PlannedPoint). one.made) point
    → found ≡ Some sites
    → made_before point ≡ sites
before_is found None sites given is = absurd (none-some sites (sym given ∙ is))
before_is found (Some point) sites given is = same_Some point.made sites (sym given ∙ is)

pub before_none : (found : Option (List ℕ)) (point : Option PlannedPoint)
    → found ≡ option_map (λ (one : PlannedPoint). one.made) point
    → found ≡ None
    → made_before point ≡ []
before_none found None given is = refl
before_none found (Some point) given is = absurd (none-some point.made (sym is ∙ given))

-- ---- classes

pub classes_next : (sites : List Site) (numbers : List ℕ) (at number : ℕ) → slice_get numbers at ≡ Some number
    → classes_of sites (take (at + 1) numbers) ≡ classes_of sites (take at numbers) ++ class_of (slice_get sites number)
classes_next sites numbers at number is =
    ap (classes_of sites) (take_next numbers at number is)
    ∙ flat_map-append (λ (one : ℕ). class_of (slice_get sites one)) (take at numbers) (number ∷ [])
    ∙ ap (λ (last : List Name). classes_of sites (take at numbers) ++ last) (append-nil (class_of (slice_get sites number)))
