-- A pool that is cut, checked and copied.
use Rattle.std.proofs.Common.{◌≡◌, ℕ, ◌+◌, ◌<◌, ◌^◌, List, ◌++◌, length, drop, get_or, Ok, sym, ap, ◌∙◌, arith}
use Rattle.std.specs.List.{flat_map}
use Rattle.std.proofs.Math.Seq.{drop-append_seam}
use Rattle.std.proofs.lemmas.List.{drop-drop}
use Rattle.class_model.specs.Checks.{AllHold}
use Rattle.class_model.specs.Cutting.{IsBytes, Rest, pool_at}
use Rattle.class_model.specs.Laws.Cuts.{are_bytes, IsBytes-drop}
use Rattle.class_model.specs.Pool.{Constants}
use Rattle.class_model.specs.PoolChecks.{entries_checks}
use Rattle.class_model.specs.Spelling.{entry_bytes, pool_bytes}
use Rattle.pool_bytes.specs.Reading.{rest_at, pool_checks, Stands}

-- ---- bytes

-- ---- a pool that was cut out

-- It is spelled by the bytes that it took.
abbrev pub TakesSpelling : Type 0
TakesSpelling =
    (major : ℕ) (rest after : Rest) (pool : Constants) → IsBytes rest.bytes → pool_at major rest ≡ Ok (pool, after)
    → (rest.bytes ≡ pool_bytes pool ++ after.bytes) × (after.at ≡ rest.at + length (pool_bytes pool))

module _ (law : TakesSpelling) (bytes : List ℕ) (are : (i : ℕ) → get_or bytes i 0 < 256) (at : ℕ) (pool : Constants) (after : Rest) (taken : pool_at 52 (rest_at bytes at) ≡ Ok (pool, after)) where
  took : (drop at bytes ≡ pool_bytes pool ++ after.bytes) × (after.at ≡ at + length (pool_bytes pool))
  took = law 52 (rest_at bytes at) after pool (IsBytes-drop at bytes (are_bytes bytes are)) taken

  -- its place and bytes fit a place
  pub has_room : after.at + length after.bytes < 2 ^ 64 → at + 2 + length (flat_map entry_bytes pool) < 2 ^ 64
  has_room within = omega (arith, took.1)

  -- what is left
  others : after.bytes ≡ drop after.at bytes
  others =
      let text = pool_bytes pool in
      sym (drop-append_seam text after.bytes) ∙ ap (drop (length text)) (sym took.0) ∙ drop-drop (length text) at bytes ∙ ap (λ (n : ℕ). drop n bytes) (sym took.1)

  pub stands : Stands 52 bytes at pool after.at
  stands = taken ∙ ap (λ (left : List ℕ). Ok (pool, record { at = after.at; bytes = left })) others

  pub is_spelled : drop at bytes ≡ pool_bytes pool ++ drop after.at bytes
  is_spelled = took.0 ∙ ap (λ (left : List ℕ). pool_bytes pool ++ left) others

-- what is asked of it
pub all_asked : (major : ℕ) (rest after : Rest) (pool : Constants) → pool_at major rest ≡ Ok (pool, after) → AllHold (entries_checks major pool (rest.at + 2) pool) → AllHold (pool_checks major rest)
all_asked major rest after pool taken h = rw taken h
