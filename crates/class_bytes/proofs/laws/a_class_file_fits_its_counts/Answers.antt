use Rattle.std.proofs.Common.{◌≡◌, ◌+◌, ℕ, List, ◌++◌, length, Ok, sym, subst}
use Rattle.class_model.specs.ClassOf.{ClassOf}
use Rattle.class_model.specs.Cutting.{IsBytes, Rest, pool_at}
use Rattle.class_model.specs.Laws.Cuts.{bind_ok, IsBytes-drop, IsBytes-parts}
use Rattle.class_model.specs.Pool.{Constants}
use Rattle.class_model.specs.Spelling.{pool_bytes}
use Rattle.class_model.specs.declared.class_file.ClassFile.{ClassFile}
use Rattle.class_bytes.specs.Counts.{FitsCounts}
use Rattle.class_bytes.proofs.Fits.{class_fits}
use Rattle.class_bytes.proofs.PoolAlone.{behind_version}
use Rattle.class_bytes.proofs.laws.a_class_file_fits_its_counts.Goals as goal

abbrev Spelled : Type 0
Spelled =
    (major : ℕ) (rest after : Rest) (pool : Constants) → IsBytes rest.bytes → pool_at major rest ≡ Ok (pool, after)
    → (rest.bytes ≡ pool_bytes pool ++ after.bytes) × (after.at ≡ rest.at + length (pool_bytes pool))

fits : Spelled → (bytes : List ℕ) (class : ClassFile) → IsBytes bytes → (is : ClassOf bytes class) → FitsCounts class
fits spelled bytes class are is =
    let place = behind_version bytes (is.version, is.rest) is.head in
    let left : IsBytes is.rest.bytes = subst (λ (r : Rest). IsBytes r.bytes) (sym place) (IsBytes-drop 8 bytes are) in
    let got = bind_ok (pool_at is.version.major is.rest) _ is.cut is.is_cut in
    let parts = (spelled is.version.major is.rest got.0.1 got.0.0 left got.1).0 in
    let after = (IsBytes-parts (pool_bytes got.0.0) got.0.1.bytes (subst IsBytes parts left)).1 in
    subst FitsCounts (sym is.is) (class_fits is.version got.0.0 got.0.1 is.cut after got.2)

pub returns : goal.returns
returns c = fits c.a_cut_pool_is_spelled.ensures
