-- Pools, constant by constant.
use Rattle.std.proofs.Common.{◌≡◌, ◌≢◌, ◌+◌, ◌≤◌, [], ◌∷◌, ◌++◌, length, Some, None, refl, ap, ◌∙◌, append_assoc, arith}
use Rattle.std.specs.List.{flat_map}
use Rattle.std.proofs.lemmas.List.{append-nil, length-append}
use Rattle.std.proofs.lemmas.List.Concat.{flat_map-append}
use Rattle.class_model.specs.Pool.{Constants, entries_of, IsPool}
use Rattle.class_model.specs.Spelling.{constant_bytes, entry_bytes}
use Rattle.class_model.specs.declared.pool.Const.{Const}
use Rattle.class_model.specs.declared.pool.Const.TheVariants.{Long, Double}

-- the constants, and one more
pub IsPool-push :
    (pool : Constants) (value : Const)
    → IsPool pool
    → length pool + length (entries_of value) ≤ 65535
    → IsPool (pool ++ entries_of value)
IsPool-push pool value is fits = record {
  constants = is.constants ++ value ∷ [];
  all = ap (λ (entries : Constants). entries ++ entries_of value) is.all ∙ ap (λ (entries : Constants). None ∷ entries) (rw (flat_map-append, append-nil) refl);
  count = omega (arith, length-append pool (entries_of value));
}

-- a constant of two indices
pub wide_entries :
    (value : Const) → length (entries_of value) ≡ 2 → entries_of value ≡ Some value ∷ None ∷ []
wide_entries (Long number) e = refl
wide_entries (Double bits) e = refl
wide_entries other e = absurd cc

-- any other
pub narrow_entries :
    (value : Const) → length (entries_of value) ≢ 2 → entries_of value ≡ Some value ∷ []
narrow_entries (Long number) ne = absurd (ne refl)
narrow_entries (Double bits) ne = absurd (ne refl)
narrow_entries other ne = refl

-- with the entries behind index 0
module _ (pool items : Constants) (value : Const) (view : None ∷ items ≡ pool) (is : IsPool (None ∷ items)) (fits : length pool + length (entries_of value) ≤ 65535) where
  pushed : IsPool (None ∷ (items ++ entries_of value))
  pushed = IsPool-push (None ∷ items) value is (omega (arith, ap length view))

  pub wide_pushed :
      length (entries_of value) ≡ 2 → IsPool (None ∷ ((items ++ Some value ∷ []) ++ None ∷ []))
  wide_pushed two = rw append_assoc (rw (wide_entries value two) at pushed)

  pub narrow_pushed : length (entries_of value) ≢ 2 → IsPool (None ∷ (items ++ Some value ∷ []))
  narrow_pushed not_two = rw (narrow_entries value not_two) at pushed

-- the entries of a constant have its bytes
pub entry_spelled : (c : Const) → flat_map entry_bytes (entries_of c) ≡ constant_bytes c
entry_spelled (Long number) = append-nil (constant_bytes (Long number))
entry_spelled c = append-nil (constant_bytes c)
