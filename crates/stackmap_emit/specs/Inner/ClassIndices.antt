-- The indices of the classes of frames, as the pool grows by them.
use Rattle.std.specs.Prelude.{◌≡◌, ◌⊎◌, ◌++◌, ℕ, List, [], ◌∷◌, slice_get, Some}
use Rattle.std.specs.List.{AllByRecursion}
use Rattle.class_tree.specs.Headers.{Name}
use Rattle.making_code.specs.Constants.{Need, needs_class}
use Rattle.map_frames.specs.declared.writing.NamedIndex.{NamedIndex}
use Rattle.materialise.specs.Growing.{Grows}
use Rattle.materialise.specs.Indices.{IsIndex}
use Rattle.pool_edit.specs.Edits.{Continues, Edit}
use Rattle.stackmap_emit.specs.FramesAttribute.{IsNamed}

-- a class has an index among these
abbrev pub HasClass : List NamedIndex → Name → Type 0
HasClass names name =
    (number : ℕ) × (named : NamedIndex) × (slice_get names number ≡ Some named)
    × (named.class ≡ name)

-- they are as before and have the class, or it stands behind the others with its index
abbrev pub Notes : List NamedIndex → Name → ℕ → List NamedIndex → Type 0
Notes old name index new =
    ((new ≡ old) × HasClass old name)
    ⊎ (new ≡ old ++ record { class = name; index = index } ∷ [])

-- the indices are those in a pool and in whatever it grows to
abbrev pub AreIndices : Edit → List NamedIndex → Type 0
AreIndices edit names =
    AllByRecursion (λ named. IsIndex edit (needs_class named.class) named.index) names

-- What classes need was added to a pool, and their indices to these.
pub record Adds (old : Edit) (names : List NamedIndex) (needs : List Need) (new : Edit)
    (more : List NamedIndex) : Type 0 where
  pub grows : Grows old needs new
  pub indices : AreIndices old names → AreIndices new more
  pub stays : (need : Need) → IsNamed names need → IsNamed more need
  pub each : AllByRecursion (IsNamed more) needs

-- That was done of what classes need, but for the rest.
pub record AddsBefore (old : Edit) (names : List NamedIndex) (needs rest : List Need) (new : Edit)
    (more : List NamedIndex) : Type 0 where
  pub done : List Need
  pub is : needs ≡ done ++ rest
  pub adds : Adds old names done new more
  pub continues : Continues old new
