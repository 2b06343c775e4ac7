-- A table of resolutions in which one more is kept.
use Rattle.std.proofs.Common.{◌≡◌, ◌<◌, ℕ, zero, suc, List, [], ◌∷◌, length, set, slice_get, Option, Some, refl, sym, ap, subst, inl, inr}
use Rattle.std.proofs.lemmas.Bool.{cases_eq}
use Rattle.std.proofs.lemmas.List.{length-set, get_or-set_same}
use Rattle.std.proofs.lemmas.Option.{slice_get_read}
use Rattle.member_link.specs.Inner.Resolutions.{Resolves, IfFilled, AreResolutions}
use Rattle.member_link.specs.Inner.Resolving.{Resolved}
use Rattle.member_link.specs.declared.resolution.Resolution.{Resolution}

-- the item at another index stays
other_stays : {X : Type 0} (items : List X) (at : ℕ) (item : X) (index : ℕ) → ¬ (index ≡ at) → slice_get (set items at item) index ≡ slice_get items index
other_stays [] at item index differs = refl
other_stays (first ∷ items) zero item zero differs = absurd (differs refl)
other_stays (first ∷ items) zero item (suc index) differs = refl
other_stays (first ∷ items) (suc at) item zero differs = refl
other_stays (first ∷ items) (suc at) item (suc index) differs = other_stays items at item index (λ same. differs (ap suc same))

pub resolution_kept : (class : Resolved) (entries : List (Option Resolution)) (at : ℕ) (resolution : Resolution) → at < length entries → Resolves class at resolution → AreResolutions class entries → AreResolutions class (set entries at (Some resolution))
resolution_kept class entries at resolution within resolves are = λ index. elim (cases_eq index at) [
  | inl same ↦
      let here : slice_get (set entries at (Some resolution)) at ≡ Some (Some resolution) = slice_get_read (set entries at (Some resolution)) (length entries) at (Some resolution) (sym (length-set entries at (Some resolution))) within (sym (get_or-set_same entries at (Some resolution) (Some resolution) within)) in
      subst (λ i. IfFilled (Resolves class i) (slice_get (set entries at (Some resolution)) i)) (sym same) (subst (IfFilled (Resolves class at)) (sym here) resolves)
  | inr differs ↦ subst (IfFilled (Resolves class index)) (sym (other_stays entries at (Some resolution) index differs)) (are index)
]
