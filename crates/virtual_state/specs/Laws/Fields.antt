-- Slots where objects are made.
use Rattle.std.proofs.Common.{◌≡◌, ◌==◌, ℕ, Bool, true, false, cond, not, ◌&&◌, ◌||◌, List, [], ◌∷◌, map, IsTrue, IsFalse, refl, sym, ap, ◌∙◌, inl, inr}
use Rattle.std.specs.List.{list_any}
use Rattle.std.proofs.lemmas.Bool.{cases_Bool, and_parts, and_from, not-true, not_from_false, or_left, or_right, eq-eqb, eqb-true}
use Rattle.virtual_state.specs.States.{is_virtual, is_unusable, names}
use Rattle.virtual_state.specs.Without.{made_plain}
use Rattle.virtual_state.specs.declared.slot.Slot.{Slot}
use Rattle.virtual_state.specs.declared.slot.Slot.TheVariants.{Plain, Virt, Unusable}

-- slots where the objects of some sites are made
abbrev pub made : (ℕ → Bool) → List Slot → List Slot
made away slots = map (made_plain away) slots

-- ---- one slot

virtual_here : (site : ℕ) → is_virtual site (Virt site) ≡ true
virtual_here site = eq-eqb site site refl

pub plain_slot : (away : ℕ → Bool) (one : ℕ) → away one ≡ true → made_plain away (Virt one) ≡ Plain
plain_slot away one gone = ap (λ (b : Bool). cond b Plain (Virt one)) gone

pub kept_slot :
    (away : ℕ → Bool) (one : ℕ) → away one ≡ false → made_plain away (Virt one) ≡ Virt one
kept_slot away one stays = ap (λ (b : Bool). cond b Plain (Virt one)) stays

virtual_still :
    (away : ℕ → Bool) (site : ℕ) (slot : Slot)
    → is_virtual site (made_plain away slot) ≡ (is_virtual site slot && not (away site))
virtual_still away site Plain = refl
virtual_still away site Unusable = refl
virtual_still away site (Virt one) =
    elim (cases_Bool (away one)) [
      | inl gone ↦ ap (is_virtual site) (plain_slot away one gone) ∙ sym (elim (cases_Bool (one == site)) [
        | inl same ↦ ap (λ (b : Bool). b && not (away site)) same ∙ ap not (sym (ap away (eqb-true one site same)) ∙ gone)
        | inr differ ↦ ap (λ (b : Bool). b && not (away site)) differ
      ])
      | inr stays ↦ ap (is_virtual site) (kept_slot away one stays) ∙ sym (elim (cases_Bool (one == site)) [
        | inl same ↦ ap (λ (b : Bool). b && not (away site)) same ∙ ap not (sym (ap away (eqb-true one site same)) ∙ stays) ∙ sym same
        | inr differ ↦ ap (λ (b : Bool). b && not (away site)) differ ∙ sym differ
      ])
    ]

-- ---- sites that slots name

or_and : (a b c : Bool) → ((a && c) || (b && c)) ≡ ((a || b) && c)
or_and true true true = refl
or_and true true false = refl
or_and true false true = refl
or_and true false false = refl
or_and false true true = refl
or_and false true false = refl
or_and false false true = refl
or_and false false false = refl

pub names_made :
    (away : ℕ → Bool) (slots : List Slot) (site : ℕ)
    → names (made away slots) site ≡ (names slots site && not (away site))
names_made away [] site = refl
names_made away (slot ∷ slots) site =
    (λ i. virtual_still away site slot i || names_made away slots site i)
    ∙ or_and (is_virtual site slot) (names slots site) (not (away site))

pub named_before :
    (away : ℕ → Bool) (slots : List Slot) (site : ℕ)
    → IsTrue (names (made away slots) site)
    → (names slots site ≡ true) × (away site ≡ false)
named_before away slots site named =
    let parts = and_parts (names slots site) (not (away site)) (sym (names_made away slots site) ∙ named) in
    (parts.0, not-true (away site) parts.1)

pub named_behind :
    (away : ℕ → Bool) (slots : List Slot) (site : ℕ)
    → IsTrue (names slots site)
    → IsFalse (away site)
    → IsTrue (names (made away slots) site)
named_behind away slots site named stays = names_made away slots site ∙ and_from (names slots site) (not (away site)) named (not_from_false (away site) stays)

-- ---- tests that agree

made_plain_same :
    (one other : ℕ → Bool) (slot : Slot)
    → ((site : ℕ) → IsTrue (is_virtual site slot) → one site ≡ other site)
    → made_plain one slot ≡ made_plain other slot
made_plain_same one other Plain same = refl
made_plain_same one other Unusable same = refl
made_plain_same one other (Virt site) same = ap (λ (b : Bool). cond b Plain (Virt site)) (same site (virtual_here site))

-- only the sites that are named count
pub made_same :
    (one other : ℕ → Bool) (slots : List Slot)
    → ((site : ℕ) → IsTrue (names slots site) → one site ≡ other site)
    → made one slots ≡ made other slots
made_same one other [] same = refl
made_same one other (slot ∷ slots) same =
    let here = made_plain_same one other slot (λ site virtual. same site (or_left (is_virtual site slot) (names slots site) virtual)) in
    let there = made_same one other slots (λ site named. same site (or_right (is_virtual site slot) (names slots site) named)) in
    λ i. here i ∷ there i

-- where none is made, the slots stay
pub made_none :
    (away : ℕ → Bool) (slots : List Slot)
    → ((site : ℕ) → IsTrue (names slots site) → away site ≡ false)
    → made away slots ≡ slots
made_none away slots none = made_same away (λ site. false) slots none ∙ kept slots where
  kept : (slots : List Slot) → made (λ site. false) slots ≡ slots
  kept [] = refl
  kept (Plain ∷ slots) = ap (λ (rest : List Slot). Plain ∷ rest) (kept slots)
  kept (Virt site ∷ slots) = ap (λ (rest : List Slot). Virt site ∷ rest) (kept slots)
  kept (Unusable ∷ slots) = ap (λ (rest : List Slot). Unusable ∷ rest) (kept slots)

-- ---- one after the other

pub made_plain_twice :
    (one other : ℕ → Bool) (slot : Slot)
    → made_plain other (made_plain one slot) ≡ made_plain (λ site. one site || other site) slot
made_plain_twice one other Plain = refl
made_plain_twice one other Unusable = refl
made_plain_twice one other (Virt site) =
    elim (one site) as (λ b. made_plain other (cond b Plain (Virt site)) ≡ cond (b || other site) Plain (Virt site)) [ true ↦ refl | false ↦ refl ]

pub made_twice :
    (one other : ℕ → Bool) (slots : List Slot)
    → made other (made one slots) ≡ made (λ site. one site || other site) slots
made_twice one other [] = refl
made_twice one other (slot ∷ slots) = λ i. made_plain_twice one other slot i ∷ made_twice one other slots i

-- where the first is part of the second, the second alone counts
pub made_more :
    (one other : ℕ → Bool) (slots : List Slot)
    → ((site : ℕ) → IsTrue (one site) → IsTrue (other site))
    → made other (made one slots) ≡ made other slots
made_more one other slots part = made_twice one other slots ∙ made_same (λ site. one site || other site) other slots (λ site named. elim (cases_Bool (one site)) [
  | inl first ↦ or_left (one site) (other site) first ∙ sym (part site first)
  | inr rest ↦ ap (λ (b : Bool). b || other site) rest
])

-- slots that agree where some are made, agree where more are
pub agree_more :
    (one other : ℕ → Bool) (left right : List Slot)
    → ((site : ℕ) → IsTrue (one site) → IsTrue (other site))
    → made one left ≡ made one right
    → made other left ≡ made other right
agree_more one other left right part agree = sym (made_more one other left part) ∙ ap (made other) agree ∙ made_more one other right part

-- ---- slots that are unusable

pub unusable_made :
    (away : ℕ → Bool) (slots : List Slot)
    → map is_unusable (made away slots) ≡ map is_unusable slots
unusable_made away [] = refl
unusable_made away (Plain ∷ slots) = ap (λ (rest : List Bool). false ∷ rest) (unusable_made away slots)
unusable_made away (Unusable ∷ slots) = ap (λ (rest : List Bool). true ∷ rest) (unusable_made away slots)
unusable_made away (Virt site ∷ slots) =
    elim (away site) as (λ b. is_unusable (cond b Plain (Virt site)) ∷ map is_unusable (made away slots) ≡ false ∷ map is_unusable slots) [
      | true ↦ ap (λ (rest : List Bool). false ∷ rest) (unusable_made away slots)
      | false ↦ ap (λ (rest : List Bool). false ∷ rest) (unusable_made away slots)
    ]

pub usable_made :
    (away : ℕ → Bool) (slots : List Slot)
    → list_any is_unusable (made away slots) ≡ list_any is_unusable slots
usable_made away [] = refl
usable_made away (Plain ∷ slots) = usable_made away slots
usable_made away (Unusable ∷ slots) = refl
usable_made away (Virt site ∷ slots) =
    elim (away site) as (λ b. (is_unusable (cond b Plain (Virt site)) || list_any is_unusable (made away slots)) ≡ list_any is_unusable slots) [
      | true ↦ usable_made away slots
      | false ↦ usable_made away slots
    ]
