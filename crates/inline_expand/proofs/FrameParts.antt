-- Stores, and frames behind them.
use Rattle.std.proofs.Common.{◌≡◌, ◌∷◌, ◌+◌, ℕ, Bool, true, false, List, [], map, reverse, take, slice_get, slice_set, Some, refl, ap, ◌∙◌, if◌then◌else◌}
use Rattle.std.proofs.lemmas.List.{map-append, reverse-append}
use Rattle.class_model.specs.Frames.{is_wide, units}
use Rattle.class_model.specs.Laws.Lists.{take_item}
use Rattle.class_model.specs.declared.frame.VType.{VType}
use Rattle.class_model.specs.declared.frame.VType.TheVariants.{Double, Long, Top}
use Rattle.member_link.specs.Rows.LocalRows.{cut_before, stored, with_units}

-- the units that a store writes
stored-units : (type : VType) → units type ≡ (if is_wide type then type ∷ Top ∷ [] else type ∷ [])
stored-units Long = refl
stored-units Double = refl
stored-units type = refl

pub stored-wide : (type : VType) (at : ℕ) (locals : List VType) → is_wide type ≡ true → stored at type locals ≡ slice_set (slice_set (cut_before at locals) at type) (at + 1) Top
stored-wide type at locals wide = ap (λ (all : List VType). with_units at all (cut_before at locals)) (stored-units type ∙ ap (λ (both : Bool). if both then type ∷ Top ∷ [] else type ∷ []) wide)

pub stored-single : (type : VType) (at : ℕ) (locals : List VType) → is_wide type ≡ false → stored at type locals ≡ slice_set (cut_before at locals) at type
stored-single type at locals single = ap (λ (all : List VType). with_units at all (cut_before at locals)) (stored-units type ∙ ap (λ (both : Bool). if both then type ∷ Top ∷ [] else type ∷ []) single)

-- from the last on
pub last-first : {A B : Type 0} (f : A → B) (items : List A) (at : ℕ) (item : A) → slice_get items at ≡ Some item → reverse (map f (take (at + 1) items)) ≡ f item ∷ reverse (map f (take at items))
last-first {A} {B} f items at item is =
    ap (λ (some : List A). reverse (map f some)) (take_item items at item is)
    ∙ ap reverse (map-append f (take at items) (item ∷ []))
    ∙ reverse-append (map f (take at items)) (f item ∷ [])
