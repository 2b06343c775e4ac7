-- Objects that an earlier run of a new left uninitialised.
use Rattle.std.proofs.Common.{◌≡◌, ◌≢◌, ◌==◌, ℕ, Bool, true, ◌+◌, ◌<◌, List, length, get_or, slice_get, slice_set, Some, if◌then◌else◌, refl, ap, sym, ◌∙◌}
use Rattle.std.proofs.Math.Numerals.{add-one}
use Rattle.std.proofs.lemmas.Bool.{eq-eqb, ne_eqb}
use Rattle.std.proofs.lemmas.Option.{slice_get-get_or}
use Rattle.class_model.specs.declared.frame.VType.{VType}
use Rattle.class_model.specs.declared.frame.VType.TheVariants.{Top, Int, Float, Long, Double, Null, UninitThis, Object, Uninit}
use Rattle.member_link.specs.Rows.Table.{without_older}
use Rattle.row_frames.proofs.MappedSoFar.{mapped_to, next_mapped, next_kept}

same_number : (n : ℕ) → (n == n) ≡ true
same_number n = eq-eqb n n refl

older : (at : ℕ) → without_older at (Uninit at) ≡ Top
older at = ap (λ (b : Bool). if b then Top else Uninit at) (same_number at)

other : (at : ℕ) (type : VType) → type ≢ Uninit at → without_older at type ≡ type
other at Top differs = refl
other at Int differs = refl
other at Float differs = refl
other at Long differs = refl
other at Double differs = refl
other at Null differs = refl
other at UninitThis differs = refl
other at (Object name) differs = refl
other at (Uninit made) differs =
    ap (λ (b : Bool). if b then Top else Uninit made) (ne_eqb made at (λ (same : made ≡ at). differs (ap Uninit same)))

-- the next local is an older object
pub next_older : (at : ℕ) (locals after : List VType) (i : ℕ) → slice_get locals i ≡ Some (Uninit at) → after ≡ mapped_to (without_older at) i locals → slice_set after i Top ≡ mapped_to (without_older at) (i + 1) locals
next_older at locals after i there is =
    rw add-one (ap (λ (type : VType). slice_set after i type) (sym (older at)) ∙ next_mapped (without_older at) locals after i (Uninit at) there is)

-- it is none
pub next_other : (at : ℕ) (locals after : List VType) (i : ℕ) → i < length locals → slice_get locals i ≢ Some (Uninit at) → after ≡ mapped_to (without_older at) i locals → after ≡ mapped_to (without_older at) (i + 1) locals
next_other at locals after i within differs is =
    let unit : VType = get_or locals i Top in
    let there : slice_get locals i ≡ Some unit = slice_get-get_or locals i Top within in
    rw add-one (next_kept (without_older at) locals after i unit there (other at unit (λ (same : unit ≡ Uninit at). differs (there ∙ ap Some same))) is)
