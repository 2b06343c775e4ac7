-- Tables of objects that are filled site by site.
use Rattle.std.proofs.Common.{◌≡◌, ◌==◌, ◌||◌, map, length, ◌+◌, ◌<◌, ◌≤◌, ℕ, Bool, true, false, cond, List, [], ◌∷◌, Option, Some, None, refl, sym, ap, ◌∙◌, inl, inr, arith}
use Rattle.std.specs.List.{list_any}
use Rattle.std.specs.Option.{option_map}
use Rattle.std.proofs.lemmas.Bool.{cases_Bool, cases_lt, eqb-true, or_parts}
use Rattle.virtual_state.specs.Inner.Filling.{is_away, stays_as, if_among, of_sites, HasPut, IsFilled}
use Rattle.virtual_state.specs.Inner.Marks.{HasMarked}
use Rattle.virtual_state.specs.Laws.Objects.{same_or_not, some_or_none, found_site, same_objects, object_of-filter}
use Rattle.virtual_state.specs.Laws.Fields.{kept_slot}
use Rattle.virtual_state.specs.Laws.Removals.{gone, stays, without_none}
use Rattle.virtual_state.specs.Sites.{has}
use Rattle.virtual_state.specs.States.{State, object_of, sites_of, IsIncreasing}
use Rattle.virtual_state.specs.Without.{IsClosed, made_plain, object_without, objects_without, without}
use Rattle.virtual_state.specs.declared.slot.Slot.{Slot}
use Rattle.virtual_state.specs.declared.slot.Slot.TheVariants.{Plain, Virt, Unusable}
use Rattle.virtual_state.specs.declared.slot.VObject.{VObject}

pub filled_none : (whole : List VObject) → IsFilled whole [] 0
filled_none whole = record { before = λ site low. absurd (omega arith); behind = λ site high. refl }

pub filled_more : (whole before after : List VObject) (site : ℕ) → IsFilled whole before site → (object : Option VObject) → object_of whole site ≡ object → HasPut before after object → IsFilled whole after (site + 1)
filled_more whole before after site filled None is same = record {
  before = λ other low. ap (λ (part : List VObject). object_of part other) same ∙ elim (cases_lt other site) [
    | inl less ↦ filled.before other less
    | inr more ↦
        let here : other ≡ site = omega arith in
        filled.behind other more ∙ sym is ∙ ap (object_of whole) (sym here)
  ];
  behind = λ other high. ap (λ (part : List VObject). object_of part other) same ∙ filled.behind other (omega arith);
}
filled_more whole before after site filled (Some object) is has =
    let own = found_site whole site object is in
    record {
      before = λ other low. elim (same_or_not other site) [
        | inl same ↦ ap (object_of after) (same ∙ sym own) ∙ has.here ∙ sym is ∙ ap (object_of whole) (sym same)
        | inr differ ↦ has.others other (λ same. differ (same ∙ own)) ∙ filled.before other (less_of other differ low)
      ];
      behind = λ other high. has.others other (λ same. absurd (too_high other high (same ∙ own))) ∙ filled.behind other (omega arith);
    } where
      less_of : (other : ℕ) → ¬ (other ≡ site) → other < site + 1 → other < site
      less_of other differ low = elim (cases_lt other site) [ inl less ↦ less | inr more ↦ absurd (differ (omega arith)) ]

      too_high : (other : ℕ) → site + 1 ≤ other → ¬ (other ≡ site)
      too_high other high same = omega arith

pub filled_all : (whole part : List VObject) (end : ℕ) → IsFilled whole part end → ((site : ℕ) → end ≤ site → object_of whole site ≡ None) → IsIncreasing (sites_of part) → IsIncreasing (sites_of whole) → part ≡ whole
filled_all whole part end filled past first second = same_objects part whole first second (λ site. elim (cases_lt site end) [
  | inl less ↦ filled.before site less
  | inr more ↦ filled.behind site more ∙ sym (past site more)
])

-- ---- what stays

pub stays_found : (away : ℕ → Bool) (objects : List VObject) (site : ℕ) → object_of (objects_without away objects) site ≡ stays_as away (object_of objects site)
stays_found away objects site =
    elim (some_or_none (object_of objects site)) [
      | inl found ↦
          let own = found_site objects site found.0 found.1 in
          elim (cases_Bool (away site)) [
            | inl is_away ↦
                gone away objects site is_away
                ∙ sym (ap (stays_as away) found.1 ∙ ap (λ (b : Bool). cond b None (Some (object_without away found.0))) (ap away own ∙ is_away))
            | inr not_away ↦
                stays away objects site not_away
                ∙ ap (option_map (object_without away)) found.1
                ∙ sym (ap (stays_as away) found.1 ∙ ap (λ (b : Bool). cond b None (Some (object_without away found.0))) (ap away own ∙ not_away))
          ]
      | inr none ↦ elim (cases_Bool (away site)) [
        | inl is_away ↦ gone away objects site is_away ∙ sym (ap (stays_as away) none)
        | inr not_away ↦ stays away objects site not_away ∙ ap (option_map (object_without away)) none ∙ sym (ap (stays_as away) none)
      ]
    ]

pub stays_past : (away : ℕ → Bool) (objects : List VObject) (site : ℕ) → object_of objects site ≡ None → object_of (objects_without away objects) site ≡ None
stays_past away objects site none = stays_found away objects site ∙ ap (stays_as away) none

pub among_found : (test : ℕ → Bool) (objects : List VObject) (site : ℕ) → object_of (of_sites test objects) site ≡ if_among test (object_of objects site)
among_found test objects site =
    elim (some_or_none (object_of objects site)) [
      | inl found ↦
          let own = found_site objects site found.0 found.1 in
          object_of-filter test objects site
          ∙ ap (λ (o : Option VObject). cond (test site) o None) found.1
          ∙ ap (λ (n : ℕ). cond (test n) (Some found.0) None) (sym own)
          ∙ sym (ap (if_among test) found.1)
      | inr none ↦
          object_of-filter test objects site
          ∙ ap (λ (o : Option VObject). cond (test site) o None) none
          ∙ neither (test site)
          ∙ sym (ap (if_among test) none)
    ] where
      neither : (b : Bool) → ◌≡◌ {A = Option VObject} (cond b None None) None
      neither true = refl
      neither false = refl

pub among_past : (test : ℕ → Bool) (objects : List VObject) (site : ℕ) → object_of objects site ≡ None → object_of (of_sites test objects) site ≡ None
among_past test objects site none = among_found test objects site ∙ ap (if_among test) none

-- ---- where none is away

pub none_made : (away : ℕ → Bool) (slots : List Slot) → list_any (is_away away) slots ≡ false → map (made_plain away) slots ≡ slots
none_made away [] none = refl
none_made away (Plain ∷ slots) none = ap (λ (rest : List Slot). Plain ∷ rest) (none_made away slots none)
none_made away (Unusable ∷ slots) none = ap (λ (rest : List Slot). Unusable ∷ rest) (none_made away slots none)
none_made away (Virt site ∷ slots) none =
    let parts = or_parts (away site) (list_any (is_away away) slots) none in
    λ i. kept_slot away site parts.0 i ∷ none_made away slots parts.1 i

pub none_made_within : (away : ℕ → Bool) (object : VObject) → list_any (is_away away) object.fields ≡ false → object_without away object ≡ object
none_made_within away object none = ap (λ (fields : List Slot). record object { fields = fields }) (none_made away object.fields none)

pub empty_takes_none : (state : State) (sites : List ℕ) → (length sites == 0) ≡ true → without state (has sites) ≡ state
empty_takes_none state [] empty = without_none state (λ site. false) (λ site. refl)
empty_takes_none state (site ∷ sites) empty = absurd (omega (arith, eqb-true (length (site ∷ sites)) 0 empty))

pub marked_from_none : {before after : List ℕ} {test : ℕ → Bool} → HasMarked before after test → before ≡ [] → (site : ℕ) → has after site ≡ test site
marked_from_none {before} {after} {test} marked none site = marked.marked site ∙ ap (λ (sites : List ℕ). has sites site || test site) none

-- a test in other words
pub closed_as : {one other : ℕ → Bool} (objects : List VObject) → ((site : ℕ) → one site ≡ other site) → IsClosed other objects → IsClosed one objects
closed_as objects same closed = λ from to edge there. same to ∙ closed from to edge (sym (same from) ∙ there)

pub without_as : {one other : ℕ → Bool} (state : State) → ((site : ℕ) → one site ≡ other site) → without state one ≡ without state other
without_as state same = ap (without state) (λ i site. same site i)
