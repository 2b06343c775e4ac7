-- Words of frames of methods in their places.
use Rattle.std.specs.Prelude.{ℕ, zero, suc, List, [], ◌∷◌}

-- an item at an index, or at the end where there is none
abbrev pub put_at : {A : Type 0} → List A → ℕ → A → List A
put_at [] at item = item ∷ []
put_at (first ∷ items) zero item = item ∷ items
put_at (first ∷ items) (suc at) item = first ∷ put_at items at item
