-- What the parts of a class are asked one after the other, while the resolver stays as it is.
use Rattle.std.proofs.Common.{◌≡◌, ◌+◌, ◌<◌, ℕ, zero, suc, List, [], ◌++◌, length, drop, replicate, get_or, Some, Result, Err, refl, sym, ap, subst, ◌∙◌}
use Rattle.std.proofs.lemmas.List.{get_or_default}
use Rattle.std.proofs.lemmas.Option.{get_or_from_slice_get, slice_get_within}
use Rattle.std.specs.List.{slice_get}
use Rattle.class_model.specs.Checks.{Check, asked_each, AllHold}
use Rattle.class_model.specs.Laws.Checks.{Remain, all_remain, remain, asked_at}
use Rattle.class_tree.specs.Answers.{Answers}
use Rattle.class_tree.specs.Laws.Links.{refused, answered}
use Rattle.class_tree.specs.Problems.{Problem}
use Rattle.class_tree.specs.declared.fault.LinkFault.{LinkFault}
use Rattle.member_link.specs.Inner.Resolving.{Resolved}

-- Items below an index have been asked.
pub record AskedBelow {X : Type 0} (asks : X → List (Check Problem)) (items : List X) (i : ℕ) : Type 0 where
  pub left : Remain (asked_each asks items) (asked_each asks (drop i items))

pub one_asked : {X : Type 0} (asks : X → List (Check Problem)) (items : List X) (i : ℕ) (item : X) → i < length items → item ≡ get_or items i item → AskedBelow asks items i → AllHold (asks item) → AskedBelow asks items (i + 1)
one_asked asks items i item within is asked holds = record {
  left = remain (asks item) (asked_each asks (drop (i + 1) items)) (asked_at asks items i item within is asked.left) holds;
}

pub one_refused : {X : Type 0} (asks : X → List (Check Problem)) (items : List X) (i : ℕ) (item : X) (e : LinkFault) → i < length items → item ≡ get_or items i item → AskedBelow asks items i → Answers {X = Unit {0}} (asks item) (Err e) → Answers {X = Unit {0}} (asked_each asks items) (Err e)
one_refused asks items i item e within is asked told =
    refused (asks item) (asked_each asks (drop (i + 1) items)) e (asked_at asks items i item within is asked.left) told

-- an item that is read at another default
pub read_again : {X : Type 0} (items : List X) (i : ℕ) (d : X) → i < length items → get_or items i d ≡ get_or items i (get_or items i d)
read_again items i d within = get_or_default items i d (get_or items i d) within

-- ---- a list whose items are looked up

pub found_asked : {X : Type 0} (asks : X → List (Check Problem)) (items : List X) (i : ℕ) (item : X) → Some item ≡ slice_get items i → AskedBelow asks items i → AllHold (asks item) → AskedBelow asks items (i + 1)
found_asked asks items i item found is holds =
    one_asked asks items i item (slice_get_within items i item (sym found)) (sym (get_or_from_slice_get items i item item (sym found))) is holds

pub found_refused : {X : Type 0} (asks : X → List (Check Problem)) (items : List X) (i : ℕ) (item : X) (e : LinkFault) → Some item ≡ slice_get items i → AskedBelow asks items i → Answers {X = Unit {0}} (asks item) (Err e) → Answers {X = Unit {0}} (asked_each asks items) (Err e)
found_refused asks items i item e found is told =
    one_refused asks items i item e (slice_get_within items i item (sym found)) (sym (get_or_from_slice_get items i item item (sym found))) is told

-- items of which nothing is asked
pub nothing_asked : {X : Type 0} (asks : X → List (Check Problem)) (n : ℕ) (item : X) → asks item ≡ [] → asked_each asks (replicate n item) ≡ []
nothing_asked asks zero item none = refl
nothing_asked asks (suc n) item none = ap (λ first. first ++ asked_each asks (replicate n item)) none ∙ nothing_asked asks n item none

pub rest_unasked : {X : Type 0} (asks : X → List (Check Problem)) (items : List X) (i end n : ℕ) (item : X) → i ≡ end → asks item ≡ [] → drop end items ≡ replicate n item → AskedBelow asks items i → AllHold (asked_each asks items)
rest_unasked asks items i end n item ended none rest is =
    is.left.hold (subst AllHold (sym (ap (λ at. asked_each asks (drop at items)) ended ∙ (ap (asked_each asks) rest ∙ nothing_asked asks n item none))) tt)

-- ---- with a resolver

-- Items below an index have been asked, and the resolver is what it was.
pub record UsedBelow {X : Type 0} (asks : Resolved → X → List (Check Problem)) (items : List X) (was now : Resolved) (i : ℕ) : Type 0 where
  pub same : now ≡ was
  pub below : AskedBelow (asks was) items i

pub one_used : {X : Type 0} (asks : Resolved → X → List (Check Problem)) (items : List X) (was now next : Resolved) (i : ℕ) (item : X) → i < length items → item ≡ get_or items i item → UsedBelow asks items was now i → next ≡ now → AllHold (asks now item) → UsedBelow asks items was next (i + 1)
one_used asks items was now next i item within is used kept holds = record {
  same = kept ∙ used.same;
  below = one_asked (asks was) items i item within is used.below (subst (λ resolver. AllHold (asks resolver item)) used.same holds);
}

pub one_use_refused : {X : Type 0} (asks : Resolved → X → List (Check Problem)) (items : List X) (was now : Resolved) (i : ℕ) (item : X) (e : LinkFault) → i < length items → item ≡ get_or items i item → UsedBelow asks items was now i → Answers {X = Unit {0}} (asks now item) (Err e) → Answers {X = Unit {0}} (asked_each (asks was) items) (Err e)
one_use_refused asks items was now i item e within is used told =
    one_refused (asks was) items i item e within is used.below (subst (λ resolver. Answers {X = Unit {0}} (asks resolver item) (Err e)) used.same told)

-- ---- two lists and three

-- checks of two lists, each of which is asked as a slice
pub first_list_refused : {X : Type 0} (asks : X → List (Check Problem)) (slice first second : List X) (e : LinkFault) → slice ≡ first → Answers {X = Unit {0}} (asked_each asks slice) (Err e) → Answers {X = Unit {0}} (asked_each asks first ++ asked_each asks second) (Err e)
first_list_refused asks slice first second e same told =
    refused (asked_each asks first) (asked_each asks second) e (all_remain (asked_each asks first ++ asked_each asks second)) (subst (λ items. Answers {X = Unit {0}} (asked_each asks items) (Err e)) same told)

pub second_list : {X : Type 0} (asks : X → List (Check Problem)) (one first two second : List X) (result : Result (Unit {0}) LinkFault) → one ≡ first → AllHold (asked_each asks one) → two ≡ second → Answers (asked_each asks two) result → Answers (asked_each asks first ++ asked_each asks second) result
second_list asks one first two second result same hold other told =
    answered result (remain (asked_each asks first) (asked_each asks second) (all_remain (asked_each asks first ++ asked_each asks second)) (subst (λ items. AllHold (asked_each asks items)) same hold))
    (subst (λ items. Answers (asked_each asks items) result) other told)

-- three parts
pub first_refused : (a b c : List (Check Problem)) (e : LinkFault) → Answers {X = Unit {0}} a (Err e) → Answers {X = Unit {0}} (a ++ b ++ c) (Err e)
first_refused a b c e told = refused (a ++ b) c e (all_remain (a ++ b ++ c)) (refused a b e (all_remain (a ++ b)) told)

pub second_refused : (a b c : List (Check Problem)) (e : LinkFault) → AllHold a → Answers {X = Unit {0}} b (Err e) → Answers {X = Unit {0}} (a ++ b ++ c) (Err e)
second_refused a b c e hold told = refused (a ++ b) c e (all_remain (a ++ b ++ c)) (answered (Err e) (remain a b (all_remain (a ++ b)) hold) told)

pub third_answers : (a b c : List (Check Problem)) (result : Result (Unit {0}) LinkFault) → AllHold a → AllHold b → Answers c result → Answers (a ++ b ++ c) result
third_answers a b c result hold also told = answered result (remain (a ++ b) c (all_remain (a ++ b ++ c)) ((remain a b (all_remain (a ++ b)) hold).hold also)) told
