-- The units that entries take.
use Rattle.std.proofs.Common.{◌≡◌, ℕ, ◌+◌, ◌*◌, ◌^◌, ◌<◌, ◌≤◌, List, [], ◌∷◌, ◌++◌, length, drop, Bool, true, false, cond, refl, ap, sym, ◌∙◌, arith, length-append, append_assoc}
use Rattle.std.proofs.lemmas.List.{append-nil}
use Rattle.class_model.specs.Frames.{units, depth, units_of_entries, is_wide, entries_of_units}
use Rattle.class_model.specs.Laws.Frames.{depth-append}
use Rattle.class_model.specs.declared.frame.VType.{VType}
use Rattle.class_model.specs.declared.frame.VType.TheVariants.{Top, Int, Float, Long, Double, Null, UninitThis, Object, Uninit}

few_units : (t : VType) → length (units t) ≤ 2
few_units Top = omega arith
few_units Int = omega arith
few_units Float = omega arith
few_units Long = omega arith
few_units Double = omega arith
few_units Null = omega arith
few_units UninitThis = omega arith
few_units (Object name) = omega arith
few_units (Uninit at) = omega arith

-- at most two an entry
pub depth_few : (xs : List VType) → depth xs ≤ 2 * length xs
depth_few [] = omega arith
depth_few (x ∷ xs) = omega (arith, few_units x, depth_few xs, length-append (units x) (units_of_entries xs))

-- one entry more
pub depth_more : (xs : List VType) (t : VType) → depth (xs ++ t ∷ []) ≡ depth xs + depth (t ∷ [])
depth_more xs t = depth-append xs (t ∷ [])

-- so their number fits
pub depth_fits : (old new : List VType) (t : VType) (was more : ℕ) → was ≡ depth old → more ≡ depth (t ∷ []) → new ≡ old ++ t ∷ [] → length new < 2 ^ 63 → was + more < 2 ^ 64
depth_fits old new t was more is_was is_more now small =
    omega (arith, depth_few new, ap depth now ∙ depth_more old t)

-- the entries that list locals, from the first on
pub entries-cons : (t : VType) (after : List VType) → entries_of_units (t ∷ after) ≡ t ∷ entries_of_units (cond (is_wide t) (drop 1 after) after)
unfolding entries_of_units
entries-cons t [] = cond_same (is_wide t)
  where
    cond_same : (b : Bool) → t ∷ [] ≡ t ∷ entries_of_units (cond b (drop 1 []) [])
    cond_same true = refl
    cond_same false = refl
entries-cons t (u ∷ types) = by_width (is_wide t)
  where
    by_width : (b : Bool) → cond b (t ∷ entries_of_units types) (t ∷ entries_of_units (u ∷ types)) ≡ t ∷ entries_of_units (cond b types (u ∷ types))
    by_width true = refl
    by_width false = refl

-- one entry was listed
pub listed_more : (entries rest more after behind all : List VType) (t : VType) → entries ++ entries_of_units rest ≡ all → rest ≡ t ∷ after → behind ≡ cond (is_wide t) (drop 1 after) after → more ≡ entries ++ t ∷ [] → more ++ entries_of_units behind ≡ all
listed_more entries rest more after behind all t so_far is next pushed =
    rw (pushed, next, append_assoc) (ap (λ (l : List VType). entries ++ l) (sym (ap entries_of_units is ∙ entries-cons t after)) ∙ so_far)

pub listed_all : (entries rest all : List VType) → entries ++ entries_of_units rest ≡ all → length rest ≡ 0 → entries ≡ all
unfolding entries_of_units
listed_all entries [] all so_far none = sym (append-nil entries) ∙ so_far
listed_all entries (t ∷ rest) all so_far none = absurd (omega arith)
