-- An uninitialised this among types.
use Rattle.std.proofs.Common.{◌≡◌, ◌≢◌, ◌⊎◌, inl, inr, ℕ, zero, suc, true, false, List, [], ◌∷◌, Some, slice_get, refl, sym, ap}
use Rattle.std.proofs.lemmas.Bool.{false≢true}
use Rattle.std.specs.List.{list_any}
use Rattle.class_model.specs.declared.frame.VType.{VType}
use Rattle.class_model.specs.declared.frame.VType.TheVariants.{Top, Int, Float, Long, Double, Null, UninitThis, Object, Uninit}
use Rattle.member_link.specs.Rows.FrameAssignability.{is_uninit_this}
use Rattle.member_link.specs.Rows.MemberRows.{NoUninitThis}

-- a type is one, or is not
decide : (type : VType) → ((type ≡ UninitThis) × (is_uninit_this type ≡ true)) ⊎ ((type ≢ UninitThis) × (is_uninit_this type ≡ false))
decide Top = inr (λ e. cc, refl)
decide Int = inr (λ e. cc, refl)
decide Float = inr (λ e. cc, refl)
decide Long = inr (λ e. cc, refl)
decide Double = inr (λ e. cc, refl)
decide Null = inr (λ e. cc, refl)
decide UninitThis = inl (refl, refl)
decide (Object name) = inr (λ e. cc, refl)
decide (Uninit at) = inr (λ e. cc, refl)

abbrev Decided : VType → Type 0
Decided type = ((type ≡ UninitThis) × (is_uninit_this type ≡ true)) ⊎ ((type ≢ UninitThis) × (is_uninit_this type ≡ false))

first_found : (type : VType) (types : List VType) → Decided type → list_any is_uninit_this (type ∷ types) ≡ false → (list_any is_uninit_this types ≡ false → NoUninitThis types) → NoUninitThis (type ∷ types)
first_found type types (inl this) none rest = absurd (false≢true (sym (rw this.1 at none)))
first_found type types (inr other) none rest = (other.0, rest (rw other.1 at none))

pub none_found : (types : List VType) → list_any is_uninit_this types ≡ false → NoUninitThis types
none_found [] none = tt
none_found (type ∷ types) none = first_found type types (decide type) none (none_found types)

first_there : (type : VType) (types : List VType) → Decided type → type ≢ UninitThis → list_any is_uninit_this types ≡ false → list_any is_uninit_this (type ∷ types) ≡ false
first_there type types (inl this) none rest = absurd (none this.0)
first_there type types (inr other) none rest = rw other.1 rest

pub none_there : (types : List VType) → NoUninitThis types → list_any is_uninit_this types ≡ false
none_there [] none = refl
none_there (type ∷ types) none = first_there type types (decide type) none.0 (none_there types none.1)

first_at : (type : VType) (types : List VType) → Decided type → list_any is_uninit_this (type ∷ types) ≡ true → (list_any is_uninit_this types ≡ true → (at : ℕ) × (slice_get types at ≡ Some UninitThis)) → (at : ℕ) × (slice_get (type ∷ types) at ≡ Some UninitThis)
first_at type types (inl this) any rest = (zero, ap Some this.0)
first_at type types (inr other) any rest =
    let found = rest (rw other.1 at any) in
    (suc found.0, found.1)

-- where it is
pub found_at : (types : List VType) → list_any is_uninit_this types ≡ true → (at : ℕ) × (slice_get types at ≡ Some UninitThis)
found_at [] any = absurd (false≢true any)
found_at (type ∷ types) any = first_at type types (decide type) any (found_at types)
