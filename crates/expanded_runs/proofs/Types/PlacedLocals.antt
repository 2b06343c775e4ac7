-- Constants, and instructions on locals, in their place in flat code.
use Rattle.std.proofs.Common.{◌≡◌, ◌+◌, ◌≤◌, ◌<◌, ℕ, zero, suc, Bool, true, false, List, [], ◌∷◌, length, map, slice_get, Option, Some, None, option_map, if◌then◌else◌, refl, sym, ap, ◌∙◌, inl, arith}
use Rattle.std.specs.Prelude.{slice_set}
use Rattle.std.proofs.lemmas.List.{length-map, length-set, map-set}
use Rattle.std.proofs.lemmas.Option.{slice_get-map, slice_get_within}
use Rattle.class_model.specs.Frames.{is_wide, units}
use Rattle.class_model.specs.declared.descriptor.Kind.{Kind}
use Rattle.class_model.specs.declared.descriptor.Kind.TheVariants as kinds
use Rattle.class_model.specs.declared.frame.Frame.{Frame}
use Rattle.class_model.specs.declared.frame.VType.{VType}
use Rattle.class_model.specs.declared.frame.VType.TheVariants as types
use Rattle.class_model.specs.declared.instr.Imm.{Imm}
use Rattle.class_model.specs.declared.instr.Imm.TheVariants as imms
use Rattle.class_model.specs.declared.pool.Const.{Const}
use Rattle.class_model.specs.declared.pool.Const.TheVariants as consts
use Rattle.expanded_code.specs.Expanded.{overlaid}
use Rattle.expanded_runs.proofs.Types.Blocks.{get_before_block, get_in_block, length_block, set_in_block}
use Rattle.expanded_runs.proofs.Types.PlacedRows.{HasOperands, Moves, has_enough, no_row_moves, plain_moves}
use Rattle.expanded_runs.proofs.Types.PlacedTypes.{Place, all_fit_kept, kind_kept, lowest_same, placed_frame, placed_locals, placed_type, units_same, wide_same}
use Rattle.member_link.specs.Rows.LocalRows.{HasRoom, HoldsKind, const_row, cut_before, iinc_row, imm_row, load_row, local_entry, store_row, stored, type_of_imm, with_units}
use Rattle.member_link.specs.Rows.Operands.{AllFit, IsOfKind, lowest_of, of_kind, topmost}

-- A block of units of a method in flat code: its locals are there, and no value of two units stands across where it begins.
pub record HasBlock (p : Place) (f : Frame) : Type 0 where
  pub within : p.unit + length f.locals ≤ length p.below.locals
  pub narrow : (before : ℕ) (type : VType)
      → p.unit ≡ suc before
      → slice_get p.below.locals before ≡ Some type
      → is_wide type ≡ false

module _ (p : Place) (f : Frame) where
  -- ---- constants

  imm_same : (imm : Imm) → type_of_imm imm ≡ placed_type p (type_of_imm imm)
  imm_same imms.Null = refl
  imm_same (imms.Int n) = refl
  imm_same (imms.Long n) = refl
  imm_same (imms.Float bits) = refl
  imm_same (imms.Double bits) = refl

  pub imm_moves : (imm : Imm) → HasOperands p f (imm_row f imm) → Moves p f (imm_row f imm) (imm_row (placed_frame p f) imm)
  imm_moves imm fit = plain_moves p f _ _ _ tt (ap (λ (type : VType). type ∷ []) (imm_same imm)) fit

  pub const_moves : (constant : Option Const) → HasOperands p f (const_row f constant)
      → Moves p f (const_row f constant) (const_row (placed_frame p f) constant)
  const_moves None fit = no_row_moves p f fit
  const_moves (Some (consts.Integer n)) fit = plain_moves p f _ _ _ tt refl fit
  const_moves (Some (consts.Float bits)) fit = plain_moves p f _ _ _ tt refl fit
  const_moves (Some (consts.Long n)) fit = plain_moves p f _ _ _ tt refl fit
  const_moves (Some (consts.Double bits)) fit = plain_moves p f _ _ _ tt refl fit
  const_moves (Some (consts.String text)) fit = plain_moves p f _ _ _ tt refl fit
  const_moves (Some (consts.Class name)) fit = plain_moves p f _ _ _ tt refl fit
  const_moves (Some (consts.MethodHandle kind reference)) fit = plain_moves p f _ _ _ tt refl fit
  const_moves (Some (consts.MethodType descriptor)) fit = plain_moves p f _ _ _ tt refl fit
  const_moves (Some other) fit = no_row_moves p f fit

  module _ (block : HasBlock p f) where
    -- ---- units

    abbrev locals : List VType
    locals = f.locals

    own_within : (own : List VType) → length own ≡ length locals → p.unit + length (map (placed_type p) own) ≤ length p.below.locals
    own_within own same = omega (arith, block.within, same, length-map own (placed_type p))

    get_same : (at : ℕ) → at < length locals
        → slice_get (placed_locals p locals) (p.unit + at) ≡ option_map (placed_type p) (slice_get locals at)
    get_same at within =
        get_in_block p.unit (map (placed_type p) locals) p.below.locals at (own_within locals refl)
        (omega (arith, within, length-map locals (placed_type p)))
        ∙ slice_get-map (placed_type p) locals at

    set_same : (own : List VType) → length own ≡ length locals → (at : ℕ) (type : VType) → at < length own
        → slice_set (placed_locals p own) (p.unit + at) (placed_type p type) ≡ placed_locals p (slice_set own at type)
    set_same own same at type within =
        set_in_block p.unit (map (placed_type p) own) p.below.locals at (placed_type p type) (own_within own same)
        (omega (arith, within, length-map own (placed_type p)))
        ∙ ap (λ (all : List VType). overlaid p.unit all p.below.locals) (sym (map-set (placed_type p) own at type))

    -- ---- loads

    holds_kept : (kind : Kind) (at : ℕ) → HoldsKind kind locals at → HoldsKind kind (placed_locals p locals) (p.unit + at)
    holds_kept kind at (type, is, of) = (
      placed_type p type,
      get_same at (slice_get_within locals at type is) ∙ ap (option_map (placed_type p)) is,
      kind_kept p kind type of,
    )

    entry_same : (at : ℕ) (kind : Kind) → HoldsKind kind locals at
        → local_entry (placed_locals p locals) (p.unit + at) ≡ map (placed_type p) (local_entry locals at)
    entry_same at kind (type, is, of) = rw (get_same at (slice_get_within locals at type is), is) refl

    pub load_moves : (kind : Kind) (at : ℕ) → HoldsKind kind locals at → HasOperands p f (load_row f kind at)
        → Moves p f (load_row f kind at) (load_row (placed_frame p f) kind (p.unit + at))
    load_moves kind at holds fit = record {
      takes = refl;
      fits = λ further. all_fit_kept p [] _ tt fit;
      local = holds_kept kind at;
      gives = entry_same at kind holds;
      further = λ held. held;
      locals = λ held. refl;
      becomes = λ entries. refl;
      goes_on = refl;
      ends = inl refl;
    }

    pub iinc_moves : (at : ℕ) → HasOperands p f (iinc_row f at)
        → Moves p f (iinc_row f at) (iinc_row (placed_frame p f) (p.unit + at))
    iinc_moves at fit = record {
      takes = refl;
      fits = λ further. all_fit_kept p [] _ tt fit;
      local = holds_kept kinds.Int at;
      gives = refl;
      further = λ held. held;
      locals = λ held. refl;
      becomes = λ entries. refl;
      goes_on = refl;
      ends = inl refl;
    }

    -- ---- stores

    with_units_same : (own : List VType) → length own ≡ length locals → (at : ℕ) (written : List VType)
        → at + length written ≤ length own
        → with_units (p.unit + at) (map (placed_type p) written) (placed_locals p own) ≡ placed_locals p (with_units at written own)
    with_units_same own same at [] few = refl
    with_units_same own same at (type ∷ rest) few =
        let next : p.unit + at + 1 ≡ p.unit + (at + 1) = omega arith in
        ap (λ (n : ℕ). with_units n (map (placed_type p) rest) (slice_set (placed_locals p own) (p.unit + at) (placed_type p type))) next
        ∙ ap (with_units (p.unit + (at + 1)) (map (placed_type p) rest)) (set_same own same at type (omega (arith, few)))
        ∙ with_units_same (slice_set own at type) (length-set own at type ∙ same) (at + 1) rest
        (omega (arith, few, length-set own at type))

    -- nothing stands across where the block begins
    cut_first : (unit : ℕ) → p.unit ≡ unit → cut_before unit (placed_locals p locals) ≡ placed_locals p locals
    cut_first zero is = refl
    cut_first (suc unit) is = by (slice_get p.below.locals unit) refl where
      same : slice_get (placed_locals p locals) unit ≡ slice_get p.below.locals unit
      same = get_before_block p.unit (map (placed_type p) locals) p.below.locals unit (omega (arith, is)) (omega (arith, block.within))

      by : (found : Option VType) → slice_get p.below.locals unit ≡ found
          → cut_before (suc unit) (placed_locals p locals) ≡ placed_locals p locals
      by None none = rw (same, none) refl
      by (Some type) found = rw (same, found, block.narrow unit type is found) refl

    cut_same : (at : ℕ) → at < length locals → cut_before (p.unit + at) (placed_locals p locals) ≡ placed_locals p (cut_before at locals)
    cut_same zero within =
        let same : p.unit + 0 ≡ p.unit = omega arith in
        ap (λ (n : ℕ). cut_before n (placed_locals p locals)) same ∙ cut_first p.unit refl
    cut_same (suc at) within =
        ap (λ (n : ℕ). cut_before n (placed_locals p locals)) next ∙ by (slice_get locals at) refl
      where
        next : p.unit + suc at ≡ suc (p.unit + at)
        next = omega arith

        there : at < length locals
        there = omega (arith, within)

        chosen : (wide : Bool)
            → (if wide then slice_set (placed_locals p locals) (p.unit + at) types.Top else placed_locals p locals) ≡ placed_locals p
            (if wide then slice_set locals at types.Top else locals)
        chosen true = set_same locals refl at types.Top there
        chosen false = refl

        by : (found : Option VType) → slice_get locals at ≡ found
            → cut_before (suc (p.unit + at)) (placed_locals p locals) ≡ placed_locals p (cut_before (suc at) locals)
        by None is = rw (get_same at there, is) refl
        by (Some type) is = rw (get_same at there, is, wide_same p type) (chosen (is_wide type))

    cut_length : (at : ℕ) → length (cut_before at locals) ≡ length locals
    cut_length zero = refl
    cut_length (suc at) = by (slice_get locals at) refl where
      chosen : (wide : Bool) → length (if wide then slice_set locals at types.Top else locals) ≡ length locals
      chosen true = length-set locals at types.Top
      chosen false = refl

      by : (found : Option VType) → slice_get locals at ≡ found → length (cut_before (suc at) locals) ≡ length locals
      by None is = rw is refl
      by (Some type) is = rw is (chosen (is_wide type))

    stored_same : (at : ℕ) (type : VType) → at + length (units type) ≤ length locals → at < length locals
        → stored (p.unit + at) (placed_type p type) (placed_locals p locals) ≡ placed_locals p (stored at type locals)
    stored_same at type few within =
        ap (λ (written : List VType). with_units (p.unit + at) written (cut_before (p.unit + at) (placed_locals p locals)))
        (units_same p type)
        ∙ ap (with_units (p.unit + at) (map (placed_type p) (units type))) (cut_same at within)
        ∙ with_units_same (cut_before at locals) (cut_length at) at (units type) (omega (arith, few, cut_length at))

    -- a value's units are there
    units_fit : (kind : Kind) (at : ℕ) (type : VType) → HasRoom kind locals at → IsOfKind kind type
        → at + length (units type) ≤ length locals
    units_fit kinds.Int at type has is = rw is has
    units_fit kinds.Long at type has is = rw is has
    units_fit kinds.Float at type has is = rw is has
    units_fit kinds.Double at type has is = rw is has
    units_fit kinds.Ref at types.Null has is = has
    units_fit kinds.Ref at (types.Object name) has is = has
    units_fit kinds.Ref at types.UninitThis has is = has
    units_fit kinds.Ref at (types.Uninit n) has is = has
    units_fit kinds.Ref at other has is = absurd is

    room_within : (kind : Kind) (at : ℕ) → HasRoom kind locals at → at < length locals
    room_within kinds.Long at has = omega (arith, has)
    room_within kinds.Double at has = omega (arith, has)
    room_within other at has = omega (arith, has)

    as_many : length (placed_locals p locals) ≡ length p.below.locals
    as_many = length_block p.unit (map (placed_type p) locals) p.below.locals (own_within locals refl)

    room_kept : (kind : Kind) (at : ℕ) → HasRoom kind locals at → HasRoom kind (placed_locals p locals) (p.unit + at)
    room_kept kinds.Long at has = omega (arith, has, block.within, as_many)
    room_kept kinds.Double at has = omega (arith, has, block.within, as_many)
    room_kept other at has = omega (arith, has, block.within, as_many)

    topmost_fits : (kind : Kind) → AllFit p.scope (of_kind kind ∷ []) (topmost 1 f.stack) → IsOfKind kind (lowest_of 1 f.stack)
    topmost_fits kind fit = by (topmost 1 f.stack) refl fit where
      by : (entries : List VType) → topmost 1 f.stack ≡ entries → AllFit p.scope (of_kind kind ∷ []) entries
          → IsOfKind kind (lowest_of 1 f.stack)
      by [] are fits = absurd fits
      by (value ∷ entries) are fits = rw are fits.0

    pub store_moves : (kind : Kind) (at : ℕ) → HasOperands p f (store_row f kind at)
        → Moves p f (store_row f kind at) (store_row (placed_frame p f) kind (p.unit + at))
    store_moves kind at fit = record {
      takes = refl;
      fits = λ further. all_fit_kept p (of_kind kind ∷ []) _ (tt, tt) fit;
      local = room_kept kind at;
      gives = refl;
      further = λ held. held;
      locals = λ has.
          ap (λ (type : VType). stored (p.unit + at) type (placed_locals p locals))
          (lowest_same p 1 f.stack (has_enough p.scope (of_kind kind ∷ []) f.stack fit))
          ∙ stored_same at (lowest_of 1 f.stack) (units_fit kind at (lowest_of 1 f.stack) has (topmost_fits kind fit))
          (room_within kind at has);
      becomes = λ entries. refl;
      goes_on = refl;
      ends = inl refl;
    }
