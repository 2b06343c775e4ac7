use Rattle.std.proofs.Common.{◌≡◌, ◌⊎◌, inl, inr, ◌+◌, ℕ, Ok, Err, refl}
use Rattle.class_model.specs.Checks.{Fault, AllHold, IsFirstFault}
use Rattle.class_model.specs.Cutting.{Rest, Cut, pool_at}
use Rattle.class_model.specs.Pool.{Constants}
use Rattle.class_model.specs.PoolChecks.{entries_checks}
use Rattle.pool_bytes.specs.Reading.{pool_checks}
use Rattle.pool_bytes.proofs.laws.each_pool_is_told.Goals as goal

abbrev Decided : Type 0
Decided =
    (major : ℕ) (pool : Constants) (at : ℕ) (entries : Constants)
    → AllHold (entries_checks major pool at entries) ⊎ ((f : Fault) × IsFirstFault (entries_checks major pool at entries) f)

abbrev Told : ℕ → Rest → Type 0
Told major rest = (AllHold (pool_checks major rest) × ((pool : Constants) × (after : Rest) × (pool_at major rest ≡ Ok (pool, after)))) ⊎ ((f : Fault) × IsFirstFault (pool_checks major rest) f)

-- what is asked where a pool could be cut, or not
told : Decided → (major : ℕ) (rest : Rest) (cut : Cut Constants) → pool_at major rest ≡ cut → Told major rest
told decided major rest (Ok x) e = elim (decided major x.0 (rest.at + 2) x.0) [
  | inl holds ↦ inl (rw e holds, (x.0, x.1, e))
  | inr first ↦ inr (first.0, rw e first.1)
]
told decided major rest (Err f) e = inr (f, rw e (inl (λ h. h, refl)))

pub returns : goal.returns
returns c major rest = told c.each_pool_is_decided.ensures major rest (pool_at major rest) refl
