-- Look-ups among objects.
use Rattle.std.proofs.Common.{◌≡◌, ◌≢◌, ◌⊎◌, ◌==◌, ℕ, ◌<◌, Bool, true, false, cond, List, [], ◌∷◌, map, Option, Some, None, is_some, IsTrue, IsFalse, refl, sym, ap, subst, ◌∙◌, inl, inr, arith}
use Rattle.std.specs.List.{filter, AllByRecursion}
use Rattle.std.specs.Option.{option_map}
use Rattle.std.proofs.lemmas.Bool.{cases_Bool, cases_order, eq-eqb, eqb-true, eqb-false, ne_eqb, true≢false, false≢true}
use Rattle.std.proofs.lemmas.Option.{none-some, same_Some}
use Rattle.class_model.specs.Laws.Lists.{AllByRecursion-weaker}
use Rattle.virtual_state.specs.States.{object_of, is_present, sites_of, IsIncreasing}
use Rattle.virtual_state.specs.declared.slot.VObject.{VObject}

pub same_or_not : (one other : ℕ) → (one ≡ other) ⊎ (one ≢ other)
same_or_not one other = elim (cases_Bool (one == other)) [ inl same ↦ inl (eqb-true one other same) | inr differ ↦ inr (eqb-false one other differ) ]

pub some_or_none :
    {A : Type 0} (option : Option A) → ((item : A) × (option ≡ Some item)) ⊎ (option ≡ None)
some_or_none (Some item) = inl (item, refl)
some_or_none None = inr refl

-- ---- the first object and those behind it

-- a look-up where the first object is another one's
pub object_behind :
    (object : VObject) (objects : List VObject) (site : ℕ)
    → object.site ≢ site
    → object_of (object ∷ objects) site ≡ object_of objects site
object_behind object objects site differ = ap (λ (test : Bool). cond test (Some object) (object_of objects site)) (ne_eqb object.site site differ)

-- a look-up where the first object is of this site
pub object_first :
    (object : VObject) (objects : List VObject) (site : ℕ)
    → object.site ≡ site
    → object_of (object ∷ objects) site ≡ Some object
object_first object objects site same = ap (λ (test : Bool). cond test (Some object) (object_of objects site)) (eq-eqb object.site site same)

-- what is found is of the site
pub found_site :
    (objects : List VObject) (site : ℕ) (object : VObject)
    → object_of objects site ≡ Some object
    → object.site ≡ site
found_site [] site object is = absurd (none-some object is)
found_site (first ∷ objects) site object is =
    elim (same_or_not first.site site) [
      | inl same ↦ subst (λ (one : VObject). one.site ≡ site) (same_Some first object (sym (object_first first objects site same) ∙ is)) same
      | inr differ ↦ found_site objects site object (sym (object_behind first objects site differ) ∙ is)
    ]

-- ---- sites that are present

pub present_found :
    (objects : List VObject) (site : ℕ) (object : VObject)
    → object_of objects site ≡ Some object
    → IsTrue (is_present objects site)
present_found objects site object is = ap is_some is

pub found_present :
    (objects : List VObject) (site : ℕ)
    → IsTrue (is_present objects site)
    → (object : VObject) × (object_of objects site ≡ Some object)
found_present objects site present =
    elim (some_or_none (object_of objects site)) [
      | inl found ↦ found
      | inr none ↦ absurd (false≢true (sym (ap is_some none) ∙ present))
    ]

pub not_found_absent :
    (objects : List VObject) (site : ℕ)
    → IsFalse (is_present objects site)
    → object_of objects site ≡ None
not_found_absent objects site absent =
    elim (some_or_none (object_of objects site)) [
      | inl found ↦ absurd (true≢false (sym (ap is_some found.1) ∙ absent))
      | inr none ↦ none
    ]

-- no object is found before the sites
pub none_below :
    (objects : List VObject) (site : ℕ)
    → AllByRecursion (λ other. site < other) (sites_of objects)
    → object_of objects site ≡ None
none_below [] site above = refl
none_below (object ∷ objects) site above = object_behind object objects site (λ same. absurd (omega (arith, above.0))) ∙ none_below objects site above.1

-- ---- two lists in order that look-ups can't tell apart are one

pub same_objects :
    (one other : List VObject)
    → IsIncreasing (sites_of one)
    → IsIncreasing (sites_of other)
    → ((site : ℕ) → object_of one site ≡ object_of other site)
    → one ≡ other
same_objects [] [] first second same = refl
same_objects [] (object ∷ other) first second same = absurd (none-some object (same object.site ∙ object_first object other object.site refl))
same_objects (object ∷ one) [] first second same = absurd (none-some object (sym (same object.site) ∙ object_first object one object.site refl))
same_objects (left ∷ one) (right ∷ other) first second same =
    elim (cases_order left.site right.site) [
      | inl equal ↦
          let heads : left ≡ right = same_Some left right (sym (object_first left one left.site refl) ∙ same left.site ∙ object_first right other left.site (sym equal)) in
          let tails : (site : ℕ) → object_of one site ≡ object_of other site = λ site. elim (same_or_not left.site site) [
            | inl here ↦
                none_below one site (subst (λ (low : ℕ). AllByRecursion (λ number. low < number) (sites_of one)) here first.0)
                ∙ sym (none_below other site (subst (λ (low : ℕ). AllByRecursion (λ number. low < number) (sites_of other)) (sym equal ∙ here) second.0))
            | inr differ ↦
                sym (object_behind left one site differ) ∙ same site ∙ object_behind right other site (λ here. differ (equal ∙ here))
          ] in
          λ i. heads i ∷ same_objects one other first.1 second.1 tails i
      | inr (inl less) ↦
          let above : AllByRecursion (λ number. left.site < number) (sites_of (right ∷ other)) =
          (less, AllByRecursion-weaker (λ number. right.site < number) (λ number. left.site < number) (λ number far. omega arith) (sites_of other) second.0) in
          absurd (none-some left (sym (none_below (right ∷ other) left.site above) ∙ sym (same left.site) ∙ object_first left one left.site refl))
      | inr (inr more) ↦
          let above : AllByRecursion (λ number. right.site < number) (sites_of (left ∷ one)) =
          (more, AllByRecursion-weaker (λ number. left.site < number) (λ number. right.site < number) (λ number far. omega arith) (sites_of one) first.0) in
          absurd (none-some right (sym (none_below (left ∷ one) right.site above) ∙ same right.site ∙ object_first right other right.site refl))
    ]

-- ---- objects that change, and that are left out

-- a change that keeps each site
pub object_of-map :
    (change : VObject → VObject)
    → ((object : VObject) → (change object).site ≡ object.site)
    → (objects : List VObject) (site : ℕ)
    → object_of (map change objects) site ≡ option_map change (object_of objects site)
object_of-map change keeps [] site = refl
object_of-map change keeps (object ∷ objects) site =
    elim (same_or_not object.site site) [
      | inl same ↦
          object_first (change object) (map change objects) site (keeps object ∙ same)
          ∙ sym (ap (option_map change) (object_first object objects site same))
      | inr differ ↦
          object_behind (change object) (map change objects) site (λ same. differ (sym (keeps object) ∙ same))
          ∙ object_of-map change keeps objects site
          ∙ sym (ap (option_map change) (object_behind object objects site differ))
    ]

pub sites_of-map :
    (change : VObject → VObject)
    → ((object : VObject) → (change object).site ≡ object.site)
    → (objects : List VObject)
    → sites_of (map change objects) ≡ sites_of objects
sites_of-map change keeps [] = refl
sites_of-map change keeps (object ∷ objects) = λ i. keeps object i ∷ sites_of-map change keeps objects i

-- a test of sites
abbrev pub of_sites : (ℕ → Bool) → List VObject → List VObject
of_sites test objects = filter (λ object. test object.site) objects

pub filter_first :
    (test : ℕ → Bool) (object : VObject) (objects : List VObject)
    → test object.site ≡ true
    → of_sites test (object ∷ objects) ≡ object ∷ of_sites test objects
filter_first test object objects passes = ap (λ (b : Bool). cond b (object ∷ of_sites test objects) (of_sites test objects)) passes

pub filter_behind :
    (test : ℕ → Bool) (object : VObject) (objects : List VObject)
    → test object.site ≡ false
    → of_sites test (object ∷ objects) ≡ of_sites test objects
filter_behind test object objects fails = ap (λ (b : Bool). cond b (object ∷ of_sites test objects) (of_sites test objects)) fails

pub object_of-filter :
    (test : ℕ → Bool) (objects : List VObject) (site : ℕ)
    → object_of (of_sites test objects) site ≡ cond (test site) (object_of objects site) None
object_of-filter test [] site = neither (test site) where
  neither : (b : Bool) → ◌≡◌ {A = Option VObject} None (cond b None None)
  neither true = refl
  neither false = refl
object_of-filter test (object ∷ objects) site =
    elim (same_or_not object.site site) [
      | inl same ↦ elim (cases_Bool (test object.site)) [
        | inl passes ↦
            ap (λ (list : List VObject). object_of list site) (filter_first test object objects passes)
            ∙ object_first object (of_sites test objects) site same
            ∙ sym (object_first object objects site same)
            ∙ sym (ap (λ (b : Bool). cond b (object_of (object ∷ objects) site) None) (sym (ap test same) ∙ passes))
        | inr fails ↦
            let fails_here : test site ≡ false = sym (ap test same) ∙ fails in
            ap (λ (list : List VObject). object_of list site) (filter_behind test object objects fails)
            ∙ object_of-filter test objects site
            ∙ ap (λ (b : Bool). cond b (object_of objects site) None) fails_here
            ∙ sym (ap (λ (b : Bool). cond b (object_of (object ∷ objects) site) None) fails_here)
      ]
      | inr differ ↦
          let rest = object_of-filter test objects site ∙ ap (λ (o : Option VObject). cond (test site) o None) (sym (object_behind object objects site differ)) in
          elim (cases_Bool (test object.site)) [
            | inl passes ↦
                ap (λ (list : List VObject). object_of list site) (filter_first test object objects passes)
                ∙ object_behind object (of_sites test objects) site differ
                ∙ rest
            | inr fails ↦ ap (λ (list : List VObject). object_of list site) (filter_behind test object objects fails) ∙ rest
          ]
    ]

-- what holds of each site holds of those that are kept
all_kept :
    (P : ℕ → Type 0) (test : ℕ → Bool) (objects : List VObject)
    → AllByRecursion P (sites_of objects)
    → AllByRecursion P (sites_of (of_sites test objects))
all_kept P test [] all = tt
all_kept P test (object ∷ objects) all =
    elim (cases_Bool (test object.site)) [
      | inl passes ↦ subst (λ (list : List VObject). AllByRecursion P (sites_of list)) (sym (filter_first test object objects passes)) (all.0, all_kept P test objects all.1)
      | inr fails ↦ subst (λ (list : List VObject). AllByRecursion P (sites_of list)) (sym (filter_behind test object objects fails)) (all_kept P test objects all.1)
    ]

pub filter_in_order :
    (test : ℕ → Bool) (objects : List VObject)
    → IsIncreasing (sites_of objects)
    → IsIncreasing (sites_of (of_sites test objects))
filter_in_order test [] order = tt
filter_in_order test (object ∷ objects) order =
    elim (cases_Bool (test object.site)) [
      | inl passes ↦ subst (λ (list : List VObject). IsIncreasing (sites_of list)) (sym (filter_first test object objects passes)) (all_kept (λ number. object.site < number) test objects order.0, filter_in_order test objects order.1)
      | inr fails ↦ subst (λ (list : List VObject). IsIncreasing (sites_of list)) (sym (filter_behind test object objects fails)) (filter_in_order test objects order.1)
    ]
