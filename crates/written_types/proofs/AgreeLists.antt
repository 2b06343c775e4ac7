-- Lists of types that agree with written ones: their parts, and where places are changed.
use Rattle.std.proofs.Common.{◌≡◌, ◌⊎◌, ◌-◌, ◌≤◌, ℕ, zero, suc, List, [], ◌∷◌, ◌++◌, drop, length, slice_get, take, Some, refl, sym, ap, subst, inl, arith}
use Rattle.std.specs.Prelude.{slice_set}
use Rattle.std.proofs.lemmas.List.{length-append}
use Rattle.std.proofs.lemmas.Option.{none-some, same_Some}
use Rattle.class_model.specs.declared.frame.VType.{VType}
use Rattle.class_model.specs.declared.frame.VType.TheVariants as types
use Rattle.member_link.specs.Rows.Operands.{topmost, under}
use Rattle.written_types.specs.Inner.CarriedFrames.{AgreeIn}

abbrev pub AgreeAt : VType → VType → Type 0
AgreeAt type written = (written ≡ types.Top) ⊎ (type ≡ written)

-- ---- parts

pub agree_long : (ones written : List VType) → AgreeIn ones written → length ones ≡ length written
agree_long [] [] agree = refl
agree_long [] (other ∷ written) agree = absurd agree
agree_long (one ∷ ones) [] agree = absurd agree
agree_long (one ∷ ones) (other ∷ written) agree = ap suc (agree_long ones written agree.1)

pub agree_drop : (count : ℕ) (ones written : List VType) → AgreeIn ones written → AgreeIn (drop count ones) (drop count written)
agree_drop zero ones written agree = agree
agree_drop (suc count) [] [] agree = tt
agree_drop (suc count) [] (other ∷ written) agree = absurd agree
agree_drop (suc count) (one ∷ ones) [] agree = absurd agree
agree_drop (suc count) (one ∷ ones) (other ∷ written) agree = agree_drop count ones written agree.1

pub agree_take : (count : ℕ) (ones written : List VType) → AgreeIn ones written → AgreeIn (take count ones) (take count written)
agree_take zero ones written agree = tt
agree_take (suc count) [] [] agree = tt
agree_take (suc count) [] (other ∷ written) agree = absurd agree
agree_take (suc count) (one ∷ ones) [] agree = absurd agree
agree_take (suc count) (one ∷ ones) (other ∷ written) agree = (agree.0, agree_take count ones written agree.1)

pub agree_joined : (ones written others more : List VType) → AgreeIn ones written → AgreeIn others more
    → AgreeIn (ones ++ others) (written ++ more)
agree_joined [] [] others more agree rest = rest
agree_joined [] (other ∷ written) others more agree rest = absurd agree
agree_joined (one ∷ ones) [] others more agree rest = absurd agree
agree_joined (one ∷ ones) (other ∷ written) others more agree rest = (agree.0, agree_joined ones written others more agree.1 rest)

take_left : (left right : List VType) → take (length left) (left ++ right) ≡ left
take_left [] right = refl
take_left (first ∷ left) right = ap (λ (found : List VType). first ∷ found) (take_left left right)

drop_left : (left right : List VType) → drop (length left) (left ++ right) ≡ right
drop_left [] right = refl
drop_left (first ∷ left) right = drop_left left right

-- the topmost entries and those under them
pub record Apart (stack lower upper : List VType) : Type 0 where
  pub top : AgreeIn (topmost (length upper) stack) upper
  pub under : AgreeIn (under (length upper) stack) lower

pub apart : (stack lower upper : List VType) → AgreeIn stack (lower ++ upper) → Apart stack lower upper
apart stack lower upper agree =
    let long = agree_long stack (lower ++ upper) agree in
    let both = length-append lower upper in
    let count : length stack - length upper ≡ length lower = omega (arith, long, both) in
    record {
      top = subst (λ (n : ℕ). AgreeIn (drop n stack) upper) (sym count)
          (subst (AgreeIn (drop (length lower) stack)) (drop_left lower upper) (agree_drop (length lower) stack (lower ++ upper) agree));
      under = subst (λ (n : ℕ). AgreeIn (take n stack) lower) (sym count)
          (subst (AgreeIn (take (length lower) stack)) (take_left lower upper) (agree_take (length lower) stack (lower ++ upper) agree));
    }

-- ---- places

pub record AgreeEntry (ones : List VType) (number : ℕ) (written : VType) : Type 0 where
  pub type : VType
  pub is : slice_get ones number ≡ Some type
  pub agrees : AgreeAt type written

pub agree_entry : (ones written : List VType) (number : ℕ) (other : VType) → AgreeIn ones written → slice_get written number ≡ Some other
    → AgreeEntry ones number other
agree_entry [] [] number other agree is = absurd (none-some other is)
agree_entry [] (first ∷ written) number other agree is = absurd agree
agree_entry (one ∷ ones) [] number other agree is = absurd agree
agree_entry (one ∷ ones) (first ∷ written) zero other agree is =
    record { type = one; is = refl; agrees = subst (AgreeAt one) (same_Some first other is) agree.0 }
agree_entry (one ∷ ones) (first ∷ written) (suc number) other agree is =
    let rest = agree_entry ones written number other agree.1 is in
    record { type = rest.type; is = rest.is; agrees = rest.agrees }

pub agree_set : (ones written : List VType) (number : ℕ) (type other : VType) → AgreeIn ones written → AgreeAt type other
    → AgreeIn (slice_set ones number type) (slice_set written number other)
agree_set [] [] number type other agree at = tt
agree_set [] (first ∷ written) number type other agree at = absurd agree
agree_set (one ∷ ones) [] number type other agree at = absurd agree
agree_set (one ∷ ones) (first ∷ written) zero type other agree at = (at, agree.1)
agree_set (one ∷ ones) (first ∷ written) (suc number) type other agree at = (agree.0, agree_set ones written number type other agree.1 at)

-- a written place that says nothing any more
pub agree_top : (ones written : List VType) (number : ℕ) → AgreeIn ones written → AgreeIn ones (slice_set written number types.Top)
agree_top [] [] number agree = tt
agree_top [] (first ∷ written) number agree = absurd agree
agree_top (one ∷ ones) [] number agree = absurd agree
agree_top (one ∷ ones) (first ∷ written) zero agree = (inl refl, agree.1)
agree_top (one ∷ ones) (first ∷ written) (suc number) agree = (agree.0, agree_top ones written number agree.1)

-- what is in the front of a list that is set
pub set_left : (left right : List VType) (number : ℕ) (type : VType) → suc number ≤ length left
    → slice_set (left ++ right) number type ≡ slice_set left number type ++ right
set_left [] right number type within = absurd (omega (arith, within))
set_left (first ∷ left) right zero type within = refl
set_left (first ∷ left) right (suc number) type within =
    ap (λ (rest : List VType). first ∷ rest) (set_left left right number type (omega (arith, within)))
