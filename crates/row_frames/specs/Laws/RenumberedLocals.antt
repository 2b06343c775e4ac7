-- Constants, and instructions on locals, behind frames whose uninitialised objects have other numbers.
use Rattle.std.proofs.Common.{◌≡◌, inl, ◌+◌, ℕ, zero, suc, Bool, true, false, List, [], ◌∷◌, map, slice_get, Option, Some, None, option_map, if◌then◌else◌, refl, sym, ap, ◌∙◌}
use Rattle.std.specs.Prelude.{slice_set}
use Rattle.std.proofs.lemmas.List.{length-map, map-set}
use Rattle.std.proofs.lemmas.Option.{slice_get-map}
use Rattle.class_model.specs.Frames.{is_wide, units}
use Rattle.class_model.specs.declared.descriptor.Kind.{Kind}
use Rattle.class_model.specs.declared.descriptor.Kind.TheVariants as kinds
use Rattle.class_model.specs.declared.frame.Frame.{Frame}
use Rattle.class_model.specs.declared.frame.VType.{VType}
use Rattle.class_model.specs.declared.frame.VType.TheVariants as types
use Rattle.class_model.specs.declared.instr.Imm.{Imm}
use Rattle.class_model.specs.declared.instr.Imm.TheVariants as imms
use Rattle.class_model.specs.declared.pool.Const.{Const}
use Rattle.class_model.specs.declared.pool.Const.TheVariants as consts
use Rattle.row_frames.specs.Laws.NumberedFrames.{numbered_type, numbered_frame}
use Rattle.row_frames.specs.Laws.RenumberedRows.{Moves, no_row_moves, plain_moves}
use Rattle.row_frames.specs.Laws.RenumberedTypes.{kind_kept, lowest_same, units_same, wide_same}
use Rattle.member_link.specs.Rows.LocalRows.{HasRoom, HoldsKind, const_row, cut_before, iinc_row, imm_row, load_row, local_entry, null_test_row, store_row, stored, type_of_imm, with_units}
use Rattle.member_link.specs.Rows.Operands.{lowest_of}

module _ (number : ℕ → ℕ) where
  -- ---- constants

  imm_same : (imm : Imm) → type_of_imm imm ≡ numbered_type number (type_of_imm imm)
  imm_same imms.Null = refl
  imm_same (imms.Int n) = refl
  imm_same (imms.Long n) = refl
  imm_same (imms.Float bits) = refl
  imm_same (imms.Double bits) = refl

  pub imm_moves : (f : Frame) (imm : Imm) → Moves number (imm_row f imm) (imm_row (numbered_frame number f) imm)
  imm_moves f imm = plain_moves number f _ _ _ _ refl (ap (λ (type : VType). type ∷ []) (imm_same imm))

  pub const_moves : (f : Frame) (constant : Option Const)
      → Moves number (const_row f constant) (const_row (numbered_frame number f) constant)
  const_moves f None = no_row_moves number f
  const_moves f (Some (consts.Integer n)) = plain_moves number f _ _ _ _ refl refl
  const_moves f (Some (consts.Float bits)) = plain_moves number f _ _ _ _ refl refl
  const_moves f (Some (consts.Long n)) = plain_moves number f _ _ _ _ refl refl
  const_moves f (Some (consts.Double bits)) = plain_moves number f _ _ _ _ refl refl
  const_moves f (Some (consts.String text)) = plain_moves number f _ _ _ _ refl refl
  const_moves f (Some (consts.Class name)) = plain_moves number f _ _ _ _ refl refl
  const_moves f (Some (consts.MethodHandle kind reference)) = plain_moves number f _ _ _ _ refl refl
  const_moves f (Some (consts.MethodType descriptor)) = plain_moves number f _ _ _ _ refl refl
  const_moves f (Some other) = no_row_moves number f

  -- ---- locals

  holds_kept : (kind : Kind) (locals : List VType) (at : ℕ) → HoldsKind kind locals at
      → HoldsKind kind (map (numbered_type number) locals) at
  holds_kept kind locals at (type, is, of) = (
    numbered_type number type,
    slice_get-map (numbered_type number) locals at ∙ ap (option_map (numbered_type number)) is,
    kind_kept number kind type of,
  )

  entry_same : (locals : List VType) (at : ℕ)
      → local_entry (map (numbered_type number) locals) at ≡ map (numbered_type number) (local_entry locals at)
  entry_same locals at = by (slice_get locals at) refl where
    by : (found : Option VType) → slice_get locals at ≡ found
        → local_entry (map (numbered_type number) locals) at ≡ map (numbered_type number) (local_entry locals at)
    by None is = rw (slice_get-map (numbered_type number) locals at, is) refl
    by (Some type) is = rw (slice_get-map (numbered_type number) locals at, is) refl

  pub load_moves : (f : Frame) (kind : Kind) (at : ℕ) → Moves number (load_row f kind at) (load_row (numbered_frame number f) kind at)
  load_moves f kind at = record {
    takes = refl;
    local = holds_kept kind f.locals at;
    gives = entry_same f.locals at;
    further = λ held. held;
    access = λ held. held;
    locals = refl;
    becomes = λ entries. refl;
    goes_on = refl;
    ends = inl refl;
  }

  set_same : (locals : List VType) (at : ℕ) (type : VType)
      → slice_set (map (numbered_type number) locals) at (numbered_type number type) ≡ map (numbered_type number) (slice_set locals at type)
  set_same locals at type = sym (map-set (numbered_type number) locals at type)

  with_units_same : (at : ℕ) (unit_types locals : List VType)
      → with_units at (map (numbered_type number) unit_types) (map (numbered_type number) locals) ≡ map (numbered_type number)
      (with_units at unit_types locals)
  with_units_same at [] locals = refl
  with_units_same at (type ∷ rest) locals =
      ap (with_units (at + 1) (map (numbered_type number) rest)) (set_same locals at type)
      ∙ with_units_same (at + 1) rest (slice_set locals at type)

  cut_same : (at : ℕ) (locals : List VType)
      → cut_before at (map (numbered_type number) locals) ≡ map (numbered_type number) (cut_before at locals)
  cut_same zero locals = refl
  cut_same (suc at) locals = by (slice_get locals at) refl where
    chosen : (wide : Bool)
        → (if wide then slice_set (map (numbered_type number) locals) at types.Top else map (numbered_type number) locals) ≡ map
        (numbered_type number) (if wide then slice_set locals at types.Top else locals)
    chosen true = set_same locals at types.Top
    chosen false = refl

    by : (found : Option VType) → slice_get locals at ≡ found
        → cut_before (suc at) (map (numbered_type number) locals) ≡ map (numbered_type number) (cut_before (suc at) locals)
    by None is = rw (slice_get-map (numbered_type number) locals at, is) refl
    by (Some type) is = rw (slice_get-map (numbered_type number) locals at, is, wide_same number type) (chosen (is_wide type))

  stored_same : (at : ℕ) (type : VType) (locals : List VType)
      → stored at (numbered_type number type) (map (numbered_type number) locals) ≡ map (numbered_type number) (stored at type locals)
  stored_same at type locals =
      ap (λ (written : List VType). with_units at written (cut_before at (map (numbered_type number) locals))) (units_same number type)
      ∙ ap (with_units at (map (numbered_type number) (units type))) (cut_same at locals)
      ∙ with_units_same at (units type) (cut_before at locals)

  room_kept : (kind : Kind) (locals : List VType) (at : ℕ) → HasRoom kind locals at → HasRoom kind (map (numbered_type number) locals) at
  room_kept kinds.Long locals at has = rw (length-map locals (numbered_type number)) has
  room_kept kinds.Double locals at has = rw (length-map locals (numbered_type number)) has
  room_kept other locals at has = rw (length-map locals (numbered_type number)) has

  pub store_moves : (f : Frame) (kind : Kind) (at : ℕ) → Moves number (store_row f kind at) (store_row (numbered_frame number f) kind at)
  store_moves f kind at = record {
    takes = refl;
    local = room_kept kind f.locals at;
    gives = refl;
    further = λ held. held;
    access = λ held. held;
    locals =
        ap (λ (type : VType). stored at type (map (numbered_type number) f.locals)) (lowest_same number 1 f.stack)
        ∙ stored_same at (lowest_of 1 f.stack) f.locals;
    becomes = λ entries. refl;
    goes_on = refl;
    ends = inl refl;
  }

  pub null_test_moves : (f : Frame) (at : ℕ) → Moves number (null_test_row f at) (null_test_row (numbered_frame number f) at)
  null_test_moves f at = record {
    takes = refl;
    local = holds_kept kinds.Ref f.locals at;
    gives = refl;
    further = λ held. held;
    access = λ held. held;
    locals = refl;
    becomes = λ entries. refl;
    goes_on = refl;
    ends = inl refl;
  }

  pub iinc_moves : (f : Frame) (at : ℕ) → Moves number (iinc_row f at) (iinc_row (numbered_frame number f) at)
  iinc_moves f at = record {
    takes = refl;
    local = holds_kept kinds.Int f.locals at;
    gives = refl;
    further = λ held. held;
    access = λ held. held;
    locals = refl;
    becomes = λ entries. refl;
    goes_on = refl;
    ends = inl refl;
  }
