-- The target of a tableswitch, by how far the key is above the lowest.
use Rattle.std.proofs.Common.{◌≡◌, ℕ, ◌<◌, ◌≤◌, ℤ, pos, ◌-ℤ◌, List, length, get_or, false, refl, ap, sym, ◌∙◌, arith}
use Rattle.std.specs.Prelude.{int_lt, unsigned_abs, negsuc}
use Rattle.std.specs.Int.{int_gap}
use Rattle.std.proofs.lemmas.Int.{ints}
use Rattle.std.proofs.lemmas.Option.{slice_get-get_or, slice_get_past}
use Rattle.member_link.specs.Machine.Locals.{table_target}

gap_is : (low key : ℤ) → int_lt key low ≡ false → unsigned_abs (key -ℤ low) ≡ int_gap low key
gap_is (pos low) (pos key) above = grind (arith, ints)
gap_is (pos low) (negsuc key) above = grind (arith, ints)
gap_is (negsuc low) (pos key) above = grind (arith, ints)
gap_is (negsuc low) (negsuc key) above = grind (arith, ints)

-- the number of the target, computed from a key and a lowest one that are these
pub record IsGap (low key : ℤ) (at : ℕ) : Type 0 where
  pub above : int_lt key low ≡ false
  pub at_is : at ≡ int_gap low key

pub is_gap :
    (low key low' key' : ℤ) (at : ℕ) → low' ≡ low → key' ≡ key → int_lt key' low' ≡ false
    → at ≡ unsigned_abs (key' -ℤ low') → IsGap low key at
is_gap low key low' key' at low_is key_is above at_is =
    let above' : int_lt key low ≡ false =
    ap (λ low. int_lt key low) (sym low_is)
    ∙ ap (λ key. int_lt key low') (sym key_is)
    ∙ above
    in
    record {
      above = above';
      at_is =
          at_is
          ∙ ap (λ low. unsigned_abs (key' -ℤ low)) low_is
          ∙ ap (λ key. unsigned_abs (key -ℤ low)) key_is
          ∙ gap_is low key above';
    }

pub target_within :
    (low : ℤ) (other : ℕ) (targets : List ℕ) (key : ℤ) (at : ℕ) → IsGap low key at
    → at < length targets → get_or targets at 0 ≡ table_target low other targets key
target_within low other targets key at gap within =
    rw gap.above
    (rw (sym gap.at_is) (rw (slice_get-get_or targets at 0 within) refl))

pub target_past :
    (low : ℤ) (other : ℕ) (targets : List ℕ) (key : ℤ) (at : ℕ) → IsGap low key at
    → length targets ≤ at → other ≡ table_target low other targets key
target_past low other targets key at gap past =
    rw gap.above (rw (sym gap.at_is) (rw (slice_get_past targets at past) refl))
