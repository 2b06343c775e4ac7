-- A frame that is stated: in which state of which typed point, and which types it has.
use Rattle.std.proofs.Common.{◌≡◌, ◌+◌, ◌≤◌, ℕ, zero, suc, max, Bool, true, false, List, [], ◌∷◌, ◌++◌, drop, length, map, replicate, slice_get, take, Option, Some, None, if◌then◌else◌, refl, sym, ap, subst, ◌∙◌, arith}
use Rattle.std.specs.List.{AllByRecursion}
use Rattle.std.proofs.lemmas.List.{length-append, length-map, length-replicate}
use Rattle.std.proofs.lemmas.Option.{none-some, same_Some}
use Rattle.class_model.specs.Frames.{depth, units}
use Rattle.class_model.specs.declared.frame.Frame.{Frame}
use Rattle.class_model.specs.declared.frame.VType.{VType}
use Rattle.class_model.specs.declared.frame.VType.TheVariants as types
use Rattle.flow_code.specs.ReadTypes.{read_frame, read_type}
use Rattle.flow_code.specs.WrittenUnits.{greatest_depth, written_units}
use Rattle.flow_code.specs.declared.point.Point.{Point}
use Rattle.plan_flow.specs.Laws.WrittenBlocks.{split_at}
use Rattle.plan_flow.specs.Written.FramedCode.{frame_by_item, frame_of_item, stands, stated_by, type_by_item}
use Rattle.virtual_state.specs.declared.slot.Slot.{Slot}
use Rattle.virtual_state.specs.declared.slot.Slot.TheVariants.{Plain, Virt, Unusable}
use Rattle.written_types.proofs.BlockKinds.{kind_of_block}
use Rattle.written_types.proofs.BlockPlaces.{HasBlock, has_block}
use Rattle.written_types.proofs.Given.{EdgesFit, Given, entries_in, frame_at_state, locals_in}
use Rattle.written_types.proofs.LowBlocks.{LowBlock, low_block}
use Rattle.written_types.proofs.NextBlocks.{begins_next}
use Rattle.written_types.proofs.OtherItems.{all_by_item, all_entries, all_locals}
use Rattle.written_types.proofs.OwnUnits.{have_long}
use Rattle.written_types.proofs.SlotFrames.{slots_frame, state_is, units_behind}
use Rattle.written_types.proofs.Standing.{all_at, all_joined}
use Rattle.written_types.proofs.UnitTypes.{UnitTypes, both_paired, field_region, own_region, tops_paired, units_left, units_typed}
use Rattle.written_types.specs.FitsTypes.{HavePairs}
use Rattle.written_types.specs.Writing.{Writing}

-- ---- what is stated is the frame of a block

pub block_stated : (led : Bool) (flow found : Option Frame) (frame : Frame) → stated_by led flow found ≡ Some frame → found ≡ Some frame
block_stated led flow None frame is = absurd (none-some frame is)
block_stated led flow (Some one) frame is = by (stands led flow one) is where
  by : (b : Bool) → (if b then Some one else None) ≡ Some frame → Some one ≡ Some frame
  by true same = same
  by false none = absurd (none-some frame none)

-- ---- as many units

locals_long : (all : List VType) (slots : List Slot) → length all ≤ length slots → length (locals_in all slots) ≡ length all
locals_long [] slots few = refl
locals_long (type ∷ all) [] few = absurd (omega (arith, few))
locals_long (type ∷ all) (slot ∷ slots) few = ap suc (locals_long all slots (omega (arith, few)))

entries_few : (all : List VType) (slots : List Slot) → length (entries_in all slots) ≤ length all
entries_few [] slots = omega arith
entries_few (type ∷ all) [] = omega arith
entries_few (type ∷ all) (Plain ∷ slots) = let rest = entries_few all slots in omega (arith, rest)
entries_few (type ∷ all) (Virt site ∷ slots) = let rest = entries_few all slots in omega (arith, rest)
entries_few (type ∷ all) (Unusable ∷ slots) = let rest = entries_few all slots in omega (arith, rest)

some_unit : (type : VType) → 1 ≤ length (units type)
some_unit types.Long = omega arith
some_unit types.Double = omega arith
some_unit types.Top = omega arith
some_unit types.Int = omega arith
some_unit types.Float = omega arith
some_unit types.Null = omega arith
some_unit types.UninitThis = omega arith
some_unit (types.Object name) = omega arith
some_unit (types.Uninit at) = omega arith

-- a stack has no more entries than units
entries_deep : (all : List VType) → length all ≤ depth all
entries_deep [] = omega arith
entries_deep (type ∷ all) =
    let rest = entries_deep all in
    let one = some_unit type in
    let apart : depth (type ∷ all) ≡ length (units type) + depth all = length-append (units type) _ in
    omega (arith, rest, one, apart)

deepest_at : (points : List Point) (at : ℕ) (point : Point) → slice_get points at ≡ Some point → depth point.typed.stack ≤ greatest_depth points
deepest_at [] at point is = absurd (none-some point is)
deepest_at (first ∷ points) zero point is =
    subst (λ (p : Point). depth p.typed.stack ≤ greatest_depth (first ∷ points)) (same_Some first point is) (greater (depth first.typed.stack) (greatest_depth points)) where
      greater : (a b : ℕ) → a ≤ max a b
      greater a b = omega arith
deepest_at (first ∷ points) (suc at) point is = greater (depth first.typed.stack) (greatest_depth points) (deepest_at points at point is) where
  greater : (a b : ℕ) {c : ℕ} → c ≤ b → c ≤ max a b
  greater a b less = omega (arith, less)

-- ---- a frame that a block has

module _ (w : Writing) (given : Given w) (fit : EdgesFit w given) (number : ℕ) (frame : Frame)
    (is : frame_of_item w.s.flat w.form w.blocks number ≡ Some frame) where
  pub here : HasBlock w number frame
  here = has_block w number frame is

  pub low : LowBlock w given here.one
  low =
      low_block w given here.one (drop (suc here.begins.index) w.blocks) (begins_next w given here.begins.index here.one here.begins.is)
      (kind_of_block w given fit (take here.begins.index w.blocks) (drop (suc here.begins.index) w.blocks) here.one
      (split_at w.blocks here.begins.index here.one here.begins.is))

  abbrev entries : List Slot
  entries = drop (length low.fits.point.typed.locals) low.state.slots

  whole : frame ≡ frame_by_item w.form w.blocks (slots_frame w.s.flat (read_frame w.s.flat low.fits.point.typed) low.state.slots entries low.state.objects)
  whole = here.is_frame
      ∙ ap (frame_by_item w.form w.blocks) (low.frame_is ∙ state_is w.s.flat low.at low.fits.point low.state low.fits.there)

  -- What holds of Top, of the types before the point, read and by item, and of the units of fields, holds of all its types.
  pub all_types : (P : VType → Type 0) → P types.Top
      → AllByRecursion (λ type. P (type_by_item w.form w.blocks type)) (read_frame w.s.flat low.fits.point.typed).locals
      → AllByRecursion (λ type. P (type_by_item w.form w.blocks type)) (read_frame w.s.flat low.fits.point.typed).stack
      → AllByRecursion (λ type. P (type_by_item w.form w.blocks type)) (units_behind w.s.flat low.state.objects)
      → AllByRecursion P frame.locals × AllByRecursion P frame.stack
  all_types P top locals stack behind =
      subst (λ (f : Frame). AllByRecursion P f.locals × AllByRecursion P f.stack) (sym whole) (
        all_by_item P change (locals_in read_types.locals low.state.slots ++ units_behind w.s.flat low.state.objects)
            (all_joined Q (locals_in read_types.locals low.state.slots) (units_behind w.s.flat low.state.objects)
            (all_locals Q top read_types.locals low.state.slots locals) behind),
        all_by_item P change (entries_in read_types.stack entries) (all_entries Q read_types.stack entries stack),
      )
    where
      change : VType → VType
      change = type_by_item w.form w.blocks

      Q : VType → Type 0
      Q type = P (type_by_item w.form w.blocks type)

      read_types : Frame
      read_types = read_frame w.s.flat low.fits.point.typed

  -- ---- units

  widths : length low.fits.point.typed.locals ≡ w.s.flat.locals
  widths =
      all_at (λ (p : Point). length p.typed.locals ≡ w.s.flat.locals) w.s.flat.points low.at low.fits.point given.setting.for_plans.widths low.fits.there

  room : length low.fits.point.typed.locals ≤ length low.state.slots
  room =
      let long = have_long w.s (map (read_type w.s.flat) (low.fits.point.typed.locals ++ low.fits.point.typed.stack)) low.state.slots low.fits.slots in
      let mapped = length-map (low.fits.point.typed.locals ++ low.fits.point.typed.stack) (read_type w.s.flat) in
      let apart = length-append low.fits.point.typed.locals low.fits.point.typed.stack in
      omega (arith, long, mapped, apart)

  typed : UnitTypes w low.at low.fits.point low.state
  typed = units_typed w low.at low.fits.point low.state low.fits.there widths room low.fits.written_pairs

  at_state : frame ≡ frame_at_state w low.at low.state
  at_state = here.is_frame ∙ ap (frame_by_item w.form w.blocks) low.frame_is

  pub locals_are_all : length frame.locals ≡ written_units w.s.flat
  locals_are_all =
      let all = ap (λ (f : Frame). length f.locals) at_state ∙ ap length typed.is in
      let apart =
      length-append (own_region w low.fits.point low.state ++ field_region w low.state) (replicate (units_left w.s.flat) types.Top) in
      let tops = length-replicate (units_left w.s.flat) types.Top in
      let long = typed.long in
      omega (arith, all, apart, tops, long)

  pub locals_pair : HavePairs frame.locals
  locals_pair =
      subst HavePairs (sym (ap (λ (f : Frame). f.locals) at_state ∙ typed.is))
      (both_paired (own_region w low.fits.point low.state ++ field_region w low.state) (replicate (units_left w.s.flat) types.Top) typed.pairs
      (tops_paired (units_left w.s.flat)))

  pub few_entries : length frame.stack ≤ greatest_depth w.s.flat.points
  few_entries =
      let same = ap (λ (f : Frame). length f.stack) whole in
      let mapped = length-map (entries_in (map (read_type w.s.flat) low.fits.point.typed.stack) entries) (type_by_item w.form w.blocks) in
      let few = entries_few (map (read_type w.s.flat) low.fits.point.typed.stack) entries in
      let long = length-map low.fits.point.typed.stack (read_type w.s.flat) in
      let deep = entries_deep low.fits.point.typed.stack in
      let most = deepest_at w.s.flat.points low.at low.fits.point low.fits.there in
      omega (arith, same, mapped, few, long, deep, most)
