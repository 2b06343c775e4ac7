-- An uninitialised this among types.
use Rattle.std.proofs.Common.{◌≡◌, ◌≢◌, ℕ, zero, suc, ◌+◌, List, [], ◌∷◌, Some, drop, take, replicate, sym, subst, ap, add-one}
use Rattle.std.proofs.lemmas.Option.{same_Some}
use Rattle.std.specs.List.{slice_get}
use Rattle.class_model.specs.declared.frame.VType.{VType}
use Rattle.class_model.specs.declared.frame.VType.TheVariants.{Top, UninitThis}
use Rattle.member_link.specs.Rows.MemberRows.{NoUninitThis}

-- one type more
next_without : (types : List VType) (i : ℕ) → slice_get types i ≢ Some UninitThis → NoUninitThis (take i types) → NoUninitThis (take (suc i) types)
next_without [] i other all = tt
next_without (type ∷ types) zero other all = (λ is. other (ap Some is), tt)
next_without (type ∷ types) (suc i) other all = (all.0, next_without types i other all.1)

pub more_without : (types : List VType) (i : ℕ) → slice_get types i ≢ Some UninitThis → NoUninitThis (take i types) → NoUninitThis (take (i + 1) types)
more_without types i other all = rw (add-one i) (next_without types i other all)

-- where it is, it is not so of all
pub there_not : (types : List VType) (i : ℕ) → slice_get types i ≡ Some UninitThis → ¬ NoUninitThis types
there_not [] zero is all = absurd cc
there_not [] (suc i) is all = absurd cc
there_not (type ∷ types) zero is all = all.0 (same_Some type UninitThis is)
there_not (type ∷ types) (suc i) is all = there_not types i is all.1

tops_without : (count : ℕ) → NoUninitThis (replicate count Top)
tops_without zero = tt
tops_without (suc count) = (λ is. cc, tops_without count)

-- all behind is Top
pub rest_without : (types : List VType) (i count : ℕ) → drop i types ≡ replicate count Top → NoUninitThis (take i types) → NoUninitThis types
rest_without types zero count tops all = subst NoUninitThis (sym tops) (tops_without count)
rest_without [] (suc i) count tops all = tt
rest_without (type ∷ types) (suc i) count tops all = (all.0, rest_without types i count tops all.1)
