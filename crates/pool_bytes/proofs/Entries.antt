-- Writing the constants of a pool one after the other.
use Rattle.std.proofs.Common.{◌≡◌, ℕ, ◌+◌, ◌<◌, List, [], ◌∷◌, ◌++◌, length, take, get_or, None, refl, ap, ◌∙◌, append_assoc}
use Rattle.std.specs.List.{flat_map}
use Rattle.std.proofs.lemmas.List.{append-nil, take_more}
use Rattle.std.proofs.lemmas.List.Concat.{flat_map-append}
use Rattle.std.proofs.lemmas.Option.{slice_get-get_or}
use Rattle.class_model.specs.Pool.{Constants, constant_at}
use Rattle.class_model.specs.Spelling.{entry_bytes}
use Rattle.pool_bytes.specs.Items.{EntryFits, PoolFits}

one_more : (pool : Constants) (index : ℕ) → index < length pool → flat_map entry_bytes (take (index + 1) pool) ≡ flat_map entry_bytes (take index pool) ++ entry_bytes (constant_at pool index)
one_more pool index lt =
    ap (flat_map entry_bytes) (take_more pool index None lt) ∙ flat_map-append entry_bytes (take index pool) (get_or pool index None ∷ [])
    ∙ rw (slice_get-get_or pool index None lt, append-nil) refl

pub entries_more : (old count before after : List ℕ) (pool : Constants) (index : ℕ) → index < length pool → before ≡ old ++ (count ++ flat_map entry_bytes (take index pool))
    → after ≡ before ++ entry_bytes (constant_at pool index) → after ≡ old ++ (count ++ flat_map entry_bytes (take (index + 1) pool))
entries_more old count before after pool index lt so_far pushed = rw (pushed, so_far, one_more pool index lt) (simp append_assoc)

PoolFits-append : (a b : Constants) → PoolFits a → PoolFits b → PoolFits (a ++ b)
PoolFits-append [] b ha hb = hb
PoolFits-append (x ∷ a) b ha hb = (ha.0, PoolFits-append a b ha.1 hb)

pub fits_more : (pool : Constants) (index : ℕ) → index < length pool → PoolFits (take index pool) → EntryFits (constant_at pool index) → PoolFits (take (index + 1) pool)
fits_more pool index lt before here =
    rw (take_more pool index None lt)
    (PoolFits-append (take index pool) (get_or pool index None ∷ []) before ((rw (slice_get-get_or pool index None lt) at here), tt))
