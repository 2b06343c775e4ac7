-- Types that differ, one after the other.
use Rattle.std.proofs.Common.{◌≡◌, ◌+◌, ◌-◌, ◌≤◌, ℕ, zero, suc, min, Bool, true, false, List, [], ◌∷◌, length, drop, replicate, slice_get, Some, inl, inr, refl, sym, ap, ◌∙◌, arith, if◌then◌else◌}
use Rattle.std.proofs.lemmas.Bool.{cases_lt}
use Rattle.std.proofs.lemmas.List.{drop_all}
use Rattle.class_model.specs.Frames.{is_top}
use Rattle.class_model.specs.Laws.Lists.{drop_item}
use Rattle.class_model.specs.contracts.frame.VTypePartialEq.TheImpl.{ghosts as comparison}
use Rattle.class_model.specs.declared.frame.VType.{VType}
use Rattle.class_model.specs.declared.frame.VType.TheVariants.{Top}
use Rattle.making_code.specs.StateFrames.{differs_in}
use Rattle.written_frames.specs.Inner.Differences.{is_lost}

-- a first place
first_differs : (type later : VType) (types others : List VType) → differs_in (type ∷ types) (later ∷ others) ≡ if is_lost type later then true else differs_in types others
first_differs type later types others = by (is_top later) (comparison.eq type later) where
  by : (top same : Bool) → (if top then differs_in types others else if same then differs_in types others else true)
      ≡ (if (if top then false else if same then false else true) then true else differs_in types others)
  by true same = refl
  by false true = refl
  by false false = refl

pub differs_next : (one later : List VType) (at : ℕ) (type other : VType)
    → slice_get one at ≡ Some type
    → slice_get later at ≡ Some other
    → differs_in (drop at one) (drop at later) ≡ if is_lost type other then true else differs_in (drop (at + 1) one) (drop (at + 1) later)
differs_next one later at type other is there =
    ap (λ (list : List VType). differs_in list (drop at later)) (drop_item one at type is)
    ∙ ap (λ (list : List VType). differs_in (type ∷ drop (at + 1) one) list) (drop_item later at other there)
    ∙ first_differs type other (drop (at + 1) one) (drop (at + 1) later)

pub differs_there : (one later : List VType) (at : ℕ) (type other : VType) (lost whole : Bool)
    → slice_get one at ≡ Some type
    → slice_get later at ≡ Some other
    → lost ≡ is_lost type other
    → lost ≡ true
    → differs_in (drop at one) (drop at later) ≡ whole
    → true ≡ whole
differs_there one later at type other lost whole is there lost_is passes before =
    ap (λ (test : Bool). if test then true else differs_in (drop (at + 1) one) (drop (at + 1) later)) (sym passes ∙ lost_is)
    ∙ sym (differs_next one later at type other is there)
    ∙ before

pub differs_later : (one later : List VType) (at : ℕ) (type other : VType) (lost whole : Bool)
    → slice_get one at ≡ Some type
    → slice_get later at ≡ Some other
    → lost ≡ is_lost type other
    → lost ≡ false
    → differs_in (drop at one) (drop at later) ≡ whole
    → differs_in (drop (at + 1) one) (drop (at + 1) later) ≡ whole
differs_later one later at type other lost whole is there lost_is fails before =
    ap (λ (test : Bool). if test then true else differs_in (drop (at + 1) one) (drop (at + 1) later)) (sym fails ∙ lost_is)
    ∙ sym (differs_next one later at type other is there)
    ∙ before

no_tops_differ : (types others : List VType) (n : ℕ) → others ≡ replicate n Top → differs_in types others ≡ false
no_tops_differ [] others n is = refl
no_tops_differ (type ∷ types) [] n is = refl
no_tops_differ (type ∷ types) (other ∷ others) zero is = absurd cc
no_tops_differ (type ∷ types) (other ∷ others) (suc n) is =
    let first : other ≡ Top = cc is in
    let rest : others ≡ replicate n Top = cc is in
    ap (λ (one : VType). differs_in (type ∷ types) (one ∷ others)) first ∙ no_tops_differ types others n rest

none_differs : (types : List VType) → differs_in types [] ≡ false
none_differs [] = refl
none_differs (type ∷ types) = refl

-- behind the last place, or where all is Top
pub no_more_differ : (one later : List VType) (at listed : ℕ) (whole : Bool)
    → drop listed later ≡ replicate (length later - listed) Top
    → at ≡ min (length one) listed
    → differs_in (drop at one) (drop at later) ≡ whole
    → false ≡ whole
no_more_differ one later at listed whole tops at_is before =
    elim (cases_lt listed (length one)) [
      | inl less ↦
          let same : at ≡ listed = grind (arith, at_is, less) in
          sym (no_tops_differ (drop at one) (drop at later) (length later - listed) (ap (λ (n : ℕ). drop n later) same ∙ tops)) ∙ before
      | inr more ↦
          let past : length one ≤ at = grind (arith, at_is, more) in
          ap (λ (list : List VType). differs_in list (drop at later)) (sym (drop_all at one past)) ∙ before
    ]

pub no_entries_differ : (one later : List VType) (at : ℕ) (whole : Bool)
    → at ≡ min (length one) (length later)
    → differs_in (drop at one) (drop at later) ≡ whole
    → false ≡ whole
no_entries_differ one later at whole at_is before =
    elim (cases_lt (length later) (length one)) [
      | inl less ↦
          let past : length later ≤ at = grind (arith, at_is, less) in
          sym (none_differs (drop at one)) ∙ ap (λ (list : List VType). differs_in (drop at one) list) (sym (drop_all at later past)) ∙ before
      | inr more ↦
          let past : length one ≤ at = grind (arith, at_is, more) in
          ap (λ (list : List VType). differs_in list (drop at later)) (sym (drop_all at one past)) ∙ before
    ]
