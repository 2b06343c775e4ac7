-- The units up to the last that is not Top, one after the other.
use Rattle.std.proofs.Common.{◌≡◌, inl, inr, ℕ, zero, suc, ◌+◌, ◌-◌, ◌<◌, ◌≤◌, min, true, false, cond, List, [], ◌∷◌, ◌++◌, length, take, drop, get_or, reverse, replicate, Some, refl, sym, ap, ◌∙◌, append_assoc, add-one, arith}
use Rattle.std.proofs.Math.ListN.{drop_of_length-le}
use Rattle.std.proofs.Math.Seq.{drop-cons}
use Rattle.std.specs.List.{slice_get}
use Rattle.std.proofs.lemmas.Bool.{cases_Bool, cases_lt, false≢true}
use Rattle.std.proofs.lemmas.List.{append-nil, reverse-append, reverse-reverse, take-append-drop, length-take, get_or-take, drop-drop}
use Rattle.std.proofs.lemmas.Option.{slice_get_cases, slice_get_within, get_or_from_slice_get}
use Rattle.class_model.specs.Frames.{is_top, is_wide, depth, entries_of_units}
use Rattle.class_model.specs.Laws.Lists.{take_item}
use Rattle.class_model.specs.declared.frame.VType.{VType}
use Rattle.class_model.specs.declared.frame.VType.TheVariants.{Top}
use Rattle.map_frames.specs.Inner.Units.{is_top_there}
use Rattle.map_frames.proofs.EntryUnits.{listed_more, listed_all}
use Rattle.map_frames.proofs.FrameUnits.{kept, wide_units, single_unit}

kept_with_top : (types : List VType) (type : VType) → is_top type ≡ true → kept (types ++ type ∷ []) ≡ kept types
kept_with_top types type top = rw (reverse-append types (type ∷ []), top) refl

kept_with_other : (types : List VType) (type : VType) → is_top type ≡ false → kept (types ++ type ∷ []) ≡ types ++ type ∷ []
kept_with_other types type other = rw (reverse-append types (type ∷ []), other) (reverse-append (type ∷ []) (reverse types) ∙ ap (λ (l : List VType). l ++ type ∷ []) (reverse-reverse types))

kept_with_tops : (n : ℕ) (types : List VType) → kept (types ++ replicate n Top) ≡ kept types
kept_with_tops zero types = ap kept (append-nil types)
kept_with_tops (suc n) types = ap kept (sym (append_assoc types (Top ∷ []) (replicate n Top))) ∙ kept_with_tops n (types ++ Top ∷ []) ∙ kept_with_top types Top refl

-- nothing but Top is behind these units
pub before_tops : (types : List VType) (n : ℕ) → drop n types ≡ replicate (length types - n) Top → kept (take n types) ≡ kept types
before_tops types n tops =
    let whole : take n types ++ replicate (length types - n) Top ≡ types = ap (λ (l : List VType). take n types ++ l) (sym tops) ∙ take-append-drop n types in
    sym (kept_with_tops (length types - n) (take n types)) ∙ ap kept whole

module _ (types : List VType) (n : ℕ) where
  -- a unit is Top, and so those before it do
  pub without_top : is_top_there (slice_get types n) ≡ true → kept (take (n + 1) types) ≡ kept (take n types)
  without_top top =
      elim (slice_get_cases types n).1 [
        | inl here ↦ ap kept (take_item types n here.0 here.2) ∙ kept_with_top (take n types) here.0 (ap is_top_there (sym here.2) ∙ top)
        | inr behind ↦ absurd (false≢true (ap is_top_there (sym behind.1) ∙ top))
      ]

  -- a unit is not Top, and so it is the last
  pub up_to_other : n + 1 ≤ length types → is_top_there (slice_get types n) ≡ false → kept (take (n + 1) types) ≡ take (n + 1) types
  up_to_other few other =
      elim (slice_get_cases types n).1 [
        | inl here ↦ let more = take_item types n here.0 here.2 in ap kept more ∙ kept_with_other (take n types) here.0 (ap is_top_there (sym here.2) ∙ other) ∙ sym more
        | inr behind ↦ absurd (omega arith)
      ]

-- ---- entries of the units in front of a place

-- a place that is the greatest there is, in place of a later one
drop_min : {X : Type 0} (xs : List X) (n most at : ℕ) → at ≡ min n most → length xs ≤ most → drop at xs ≡ drop n xs
drop_min xs n most at is few =
    elim (cases_lt most n) [
      | inl past ↦ drop_of_length-le xs (omega arith) ∙ sym (drop_of_length-le xs (omega arith))
      | inr within ↦ let same : at ≡ n = omega arith in ap (λ (k : ℕ). drop k xs) same
    ]

behind_entry : (type : VType) (n : ℕ) (types : List VType) → drop (n + depth (type ∷ [])) types ≡ cond (is_wide type) (drop 1 (drop (n + 1) types)) (drop (n + 1) types)
behind_entry type n types =
    elim (cases_Bool (is_wide type)) [
      | inl wide ↦
          let two : n + depth (type ∷ []) ≡ n + 1 + 1 = omega (arith, ap (λ (l : List VType). length (l ++ [])) (wide_units type wide)) in
          rw wide (ap (λ (k : ℕ). drop k types) two ∙ sym (drop-drop 1 (n + 1) types))
      | inr single ↦
          let one : n + depth (type ∷ []) ≡ n + 1 = omega (arith, ap (λ (l : List VType). length (l ++ [])) (single_unit type single)) in
          rw single (ap (λ (k : ℕ). drop k types) one)
    ]

next_is : (types : List VType) (end at : ℕ) (type : VType) → at < end → slice_get types at ≡ Some type → drop at (take end types) ≡ type ∷ drop (at + 1) (take end types)
next_is types end at type lt is =
    let within : at < length (take end types) = omega (arith, length-take end types, slice_get_within types at type is) in
    let first : get_or (take end types) at type ≡ type = get_or-take end types at type lt ∙ get_or_from_slice_get types at type type is in
    rw (add-one, drop-cons (take end types) at type) (ap (λ (t : VType). t ∷ drop (suc at) (take end types)) first)

-- one entry was listed
pub entry_listed : (entries more all types : List VType) (end at most next : ℕ) (type : VType) → at < end → end ≤ most → slice_get types at ≡ Some type → next ≡ min (at + depth (type ∷ [])) most → more ≡ entries ++ type ∷ []
    → entries ++ entries_of_units (drop at (take end types)) ≡ all → more ++ entries_of_units (drop next (take end types)) ≡ all
entry_listed entries more all types end at most next type lt few is next_at pushed so_far =
    let front = take end types in
    let next_are = drop_min front (at + depth (type ∷ [])) most next next_at (omega (arith, length-take end types)) in
    listed_more entries (drop at front) more (drop (at + 1) front) (drop next front) all type so_far (next_is types end at type lt is) (next_are ∙ behind_entry type at front) pushed

-- all were
pub entries_listed : (entries all types : List VType) (end at : ℕ) → end ≤ at → entries ++ entries_of_units (drop at (take end types)) ≡ all → entries ≡ all
entries_listed entries all types end at le so_far =
    let none : drop at (take end types) ≡ [] = drop_of_length-le (take end types) (omega (arith, length-take end types)) in
    listed_all entries (drop at (take end types)) all so_far (ap length none)
