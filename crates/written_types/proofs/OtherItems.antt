-- Types that items name: of those in slots, and of units behind them, none is the object of an item that no new of theirs has.
use Rattle.std.proofs.Common.{◌≡◌, ℕ, Bool, List, [], ◌∷◌, length, map, replicate, refl, sym, subst}
use Rattle.std.specs.List.{AllByRecursion}
use Rattle.std.proofs.lemmas.List.{append_assoc}
use Rattle.class_model.specs.declared.frame.VType.{VType}
use Rattle.class_model.specs.declared.frame.VType.TheVariants as types
use Rattle.flow_code.specs.FlatCode.{FlatCode}
use Rattle.flow_code.specs.WrittenUnits.{greatest_depth}
use Rattle.making_code.specs.StateFrames.{site_types_from}
use Rattle.plan_flow.specs.Written.FramedCode.{type_by_item}
use Rattle.virtual_state.specs.declared.slot.Slot.{Slot}
use Rattle.virtual_state.specs.declared.slot.Slot.TheVariants.{Plain, Virt, Unusable}
use Rattle.virtual_state.specs.declared.slot.VObject.{VObject}
use Rattle.written_types.proofs.ChangedTypes.{HasOwnNew, IsOwnNew, new_item}
use Rattle.written_types.proofs.Given.{entries_in, locals_in}
use Rattle.written_types.proofs.OtherRows.{Other}
use Rattle.written_types.proofs.PointFrames.{rest_steady}
use Rattle.written_types.proofs.SlotFrames.{units_behind}
use Rattle.written_types.proofs.WrittenTypes.{IsSteady}
use Rattle.written_types.specs.Writing.{Writing}

-- ---- types in slots

pub all_locals : (P : VType → Type 0) → P types.Top → (all : List VType) (slots : List Slot) → AllByRecursion P all → AllByRecursion P (locals_in all slots)
all_locals P top [] slots have = tt
all_locals P top (type ∷ all) [] have = tt
all_locals P top (type ∷ all) (Plain ∷ slots) have = (have.0, all_locals P top all slots have.1)
all_locals P top (type ∷ all) (Virt site ∷ slots) have = (top, all_locals P top all slots have.1)
all_locals P top (type ∷ all) (Unusable ∷ slots) have = (top, all_locals P top all slots have.1)

pub all_entries : (P : VType → Type 0) (all : List VType) (slots : List Slot) → AllByRecursion P all → AllByRecursion P (entries_in all slots)
all_entries P [] slots have = tt
all_entries P (type ∷ all) [] have = tt
all_entries P (type ∷ all) (Plain ∷ slots) have = (have.0, all_entries P all slots have.1)
all_entries P (type ∷ all) (Virt site ∷ slots) have = all_entries P all slots have.1
all_entries P (type ∷ all) (Unusable ∷ slots) have = all_entries P all slots have.1

pub all_by_item : (P : VType → Type 0) (change : VType → VType) (all : List VType) → AllByRecursion (λ type. P (change type)) all
    → AllByRecursion P (map change all)
all_by_item P change [] have = tt
all_by_item P change (type ∷ all) have = (have.0, all_by_item P change all have.1)

-- ---- what an item says of types

module _ (w : Writing) (place : ℕ) where
  abbrev pub By : VType → VType
  By = type_by_item w.form w.blocks

  steady_other : (type : VType) → IsSteady type → Other place (By type)
  steady_other (types.Uninit at) steady = absurd steady
  steady_other types.Top steady = tt
  steady_other types.Int steady = tt
  steady_other types.Float steady = tt
  steady_other types.Long steady = tt
  steady_other types.Double steady = tt
  steady_other types.Null steady = tt
  steady_other types.UninitThis steady = tt
  steady_other (types.Object name) steady = tt

  all_steady : (all : List VType) → AllByRecursion IsSteady all → AllByRecursion (λ type. Other place (By type)) all
  all_steady [] steady = tt
  all_steady (type ∷ all) steady = (steady_other type steady.0, all_steady all steady.1)

  pub units_other : (flat : FlatCode) (objects : List VObject) → AllByRecursion (λ type. Other place (By type)) (units_behind flat objects)
  units_other flat objects =
      all_steady (units_behind flat objects)
      (subst (AllByRecursion IsSteady)
      (sym (append_assoc (site_types_from (record { slots = []; objects = objects }) 0 flat.sites) (replicate (length flat.sites) types.Top)
      (replicate (greatest_depth flat.points) types.Top))) (rest_steady flat objects))

  module _ (reached : ℕ → Bool) where
    type_other : (type : VType) → HasOwnNew w.s reached type
        → ((at : ℕ) → IsOwnNew w.s reached at → new_item w at ≡ place → Other at type)
        → Other place (By type)
    type_other (types.Uninit at) own none = λ same. none at own same refl
    type_other types.UninitThis own none = absurd own
    type_other types.Top own none = tt
    type_other types.Int own none = tt
    type_other types.Float own none = tt
    type_other types.Long own none = tt
    type_other types.Double own none = tt
    type_other types.Null own none = tt
    type_other (types.Object name) own none = tt

    pub types_other : (all : List VType) → AllByRecursion (HasOwnNew w.s reached) all
        → ((at : ℕ) → IsOwnNew w.s reached at → new_item w at ≡ place → AllByRecursion (Other at) all)
        → AllByRecursion (λ type. Other place (By type)) all
    types_other [] own none = tt
    types_other (type ∷ all) own none = (
      type_other type own.0 (λ at new same. (none at new same).0),
      types_other all own.1 (λ at new same. (none at new same).1),
    )
