-- The frame of no block has an uninitialised this, and that of the code fits the first one.
use Rattle.std.proofs.Common.{◌≡◌, ◌≢◌, ℕ, zero, suc, Bool, true, false, List, [], ◌∷◌, ◌++◌, length, map, replicate, Option, refl, sym, ap, subst}
use Rattle.std.specs.List.{AllByRecursion, flat_map}
use Rattle.class_model.specs.Code.{verification_type}
use Rattle.class_model.specs.Descriptors.{parameter_units}
use Rattle.class_model.specs.Frames.{units}
use Rattle.class_model.specs.declared.descriptor.FieldType.{FieldType}
use Rattle.class_model.specs.declared.descriptor.FieldType.TheVariants as field_types
use Rattle.class_model.specs.declared.frame.Frame.{Frame}
use Rattle.class_model.specs.declared.frame.VType.{VType}
use Rattle.class_model.specs.declared.frame.VType.TheVariants as types
use Rattle.flow_code.specs.ReadTypes.{read_type}
use Rattle.flow_code.specs.WrittenUnits.{greatest_depth}
use Rattle.flow_code.specs.declared.point.Point.{Point}
use Rattle.flow_code.specs.declared.point.Site.{Site}
use Rattle.making_code.specs.StateFrames.{field_types as unit_types, frame_in, local_types_from, site_types_from, type_of_slot}
use Rattle.plan_flow.specs.PlanScope.{PlanScope}
use Rattle.plan_flow.specs.Written.Blocks.{Block}
use Rattle.plan_flow.specs.Written.Finish.{Finished}
use Rattle.plan_flow.specs.Written.FramedCode.{type_by_item}
use Rattle.plan_flow.specs.Written.WrittenCode.{Form}
use Rattle.virtual_state.specs.States.{State, is_present}
use Rattle.virtual_state.specs.declared.slot.Slot.{Slot}
use Rattle.virtual_state.specs.declared.slot.Slot.TheVariants.{Plain, Virt, Unusable}
use Rattle.written_types.proofs.BlockKinds.{BlockKind, kind_of_block, makes_before_point, makes_on_next, of_instruction, of_pad}
use Rattle.written_types.proofs.EdgeTargets.{edges_fit}
use Rattle.written_types.proofs.Given.{Given, frame_at_state}
use Rattle.written_types.proofs.Standing.{all_joined}
use Rattle.written_types.specs.FitsTypes.{FitsTypes, HasItsNew, is_reached}
use Rattle.written_types.specs.Inner.CarriedFrames.{frame_in as frame_of_block}
use Rattle.written_types.specs.Writing.{Writing}

-- ---- types that are none

abbrev pub NotThis : VType → Type 0
NotThis type = type ≢ types.UninitThis

pub by_item_not_this : (form : Form) (blocks : List Finished) (type : VType) → NotThis type → NotThis (type_by_item form blocks type)
by_item_not_this form blocks types.UninitThis none = absurd (none refl)
by_item_not_this form blocks (types.Uninit at) none = λ e. absurd cc
by_item_not_this form blocks (types.Object name) none = λ e. absurd cc
by_item_not_this form blocks types.Top none = λ e. absurd cc
by_item_not_this form blocks types.Int none = λ e. absurd cc
by_item_not_this form blocks types.Float none = λ e. absurd cc
by_item_not_this form blocks types.Long none = λ e. absurd cc
by_item_not_this form blocks types.Double none = λ e. absurd cc
by_item_not_this form blocks types.Null none = λ e. absurd cc

all_not_this : (form : Form) (blocks : List Finished) (all : List VType) → AllByRecursion NotThis all
    → AllByRecursion NotThis (map (type_by_item form blocks) all)
all_not_this form blocks [] none = tt
all_not_this form blocks (type ∷ all) none = (by_item_not_this form blocks type none.0, all_not_this form blocks all none.1)

pub new_not_this : (s : PlanScope) (reached : ℕ → Bool) (type : VType) → HasItsNew s reached type → NotThis type
new_not_this s reached types.UninitThis new = absurd new
new_not_this s reached (types.Uninit at) new = λ e. absurd cc
new_not_this s reached (types.Object name) new = λ e. absurd cc
new_not_this s reached types.Top new = λ e. absurd cc
new_not_this s reached types.Int new = λ e. absurd cc
new_not_this s reached types.Float new = λ e. absurd cc
new_not_this s reached types.Long new = λ e. absurd cc
new_not_this s reached types.Double new = λ e. absurd cc
new_not_this s reached types.Null new = λ e. absurd cc

top_not_this : NotThis types.Top
top_not_this = λ e. absurd cc

tops_not_this : (count : ℕ) → AllByRecursion NotThis (replicate count types.Top)
tops_not_this zero = tt
tops_not_this (suc count) = (top_not_this, tops_not_this count)

locals_not_this : (s : PlanScope) (reached : ℕ → Bool) (all : List VType) (slots : List Slot)
    → AllByRecursion (HasItsNew s reached) (map (read_type s.flat) all)
    → AllByRecursion NotThis (local_types_from s.flat all slots)
locals_not_this s reached [] slots new = tt
locals_not_this s reached (type ∷ all) [] new = tt
locals_not_this s reached (type ∷ all) (slot ∷ slots) new = (by slot, locals_not_this s reached all slots new.1) where
  by : (slot : Slot) → NotThis (type_of_slot s.flat type slot)
  by Plain = new_not_this s reached (read_type s.flat type) new.0
  by (Virt site) = top_not_this
  by Unusable = top_not_this

units_not_this : (type : FieldType) → AllByRecursion NotThis (units (verification_type type))
units_not_this (field_types.Named name) = (λ e. absurd cc, tt)
units_not_this field_types.Bool = (λ e. absurd cc, tt)
units_not_this field_types.Byte = (λ e. absurd cc, tt)
units_not_this field_types.Char = (λ e. absurd cc, tt)
units_not_this field_types.Short = (λ e. absurd cc, tt)
units_not_this field_types.Int = (λ e. absurd cc, tt)
units_not_this field_types.Long = (λ e. absurd cc, (λ e. absurd cc, tt))
units_not_this field_types.Float = (λ e. absurd cc, tt)
units_not_this field_types.Double = (λ e. absurd cc, (λ e. absurd cc, tt))

fields_not_this : (all : List FieldType) → AllByRecursion NotThis (flat_map (λ type. units (verification_type type)) all)
fields_not_this [] = tt
fields_not_this (type ∷ all) =
    all_joined NotThis (units (verification_type type)) (flat_map (λ one. units (verification_type one)) all) (units_not_this type)
    (fields_not_this all)

unit_types_not_this : (present : Bool) (all : List FieldType) → AllByRecursion NotThis (unit_types present all)
unit_types_not_this true all = fields_not_this all
unit_types_not_this false all = tops_not_this (parameter_units all)

sites_not_this : (state : State) (number : ℕ) (sites : List Site) → AllByRecursion NotThis (site_types_from state number sites)
sites_not_this state number [] = tt
sites_not_this state number (site ∷ sites) =
    all_joined NotThis (unit_types (is_present state.objects number) site.fields) (site_types_from state (suc number) sites)
    (unit_types_not_this (is_present state.objects number) site.fields) (sites_not_this state (suc number) sites)

-- ---- frames of states, and of blocks

pub state_not_this : (w : Writing) (reached : ℕ → Bool) (at : ℕ) (state : State)
    → FitsTypes w.s reached at state
    → AllByRecursion NotThis (frame_at_state w at state).locals
state_not_this w reached at state fits =
    subst (λ (frame : Frame). AllByRecursion NotThis (map (type_by_item w.form w.blocks) frame.locals))
    (sym (ap (λ (found : Option Point). frame_in w.s.flat found state) fits.there))
    (all_not_this w.form w.blocks _
    (all_joined NotThis
    (local_types_from w.s.flat fits.point.typed.locals state.slots ++ site_types_from state 0 w.s.flat.sites
    ++ replicate (length w.s.flat.sites) types.Top)
    (replicate (greatest_depth w.s.flat.points) types.Top)
    (all_joined NotThis (local_types_from w.s.flat fits.point.typed.locals state.slots ++ site_types_from state 0 w.s.flat.sites)
    (replicate (length w.s.flat.sites) types.Top)
    (all_joined NotThis (local_types_from w.s.flat fits.point.typed.locals state.slots) (site_types_from state 0 w.s.flat.sites)
    (locals_not_this w.s reached fits.point.typed.locals state.slots fits.locals) (sites_not_this state 0 w.s.flat.sites))
    (tops_not_this (length w.s.flat.sites)))
    (tops_not_this (greatest_depth w.s.flat.points))))

module _ (w : Writing) (given : Given w) where
  abbrev FitsBlock : Block → Type 0
  FitsBlock block = FitsTypes w.s (is_reached given.setting.routes) block.at block.state

  pub kind_fits : (one : Finished) (behind : List Finished) → BlockKind w given one behind → FitsBlock one.block
  kind_fits one behind (makes_before_point at point route there is_route is next) = subst FitsBlock (sym is) (given.fits.before at route is_route)
  kind_fits one behind (of_instruction at point route here behind_is) =
      subst FitsBlock (sym here.is_block) (given.fits.written at route here.is_route)
  kind_fits one behind (makes_on_next at number point route edge there is_route is_edge is next) =
      subst FitsBlock (sym is) (given.fits.edges at number route edge is_route is_edge)
  kind_fits one behind (of_pad at number point route edge of there is_route is_edge pad is rest) =
      subst FitsBlock (sym is) (given.fits.edges at number route edge is_route is_edge)

  -- Each block's state fits its types.
  pub block_fits : (front behind : List Finished) (one : Finished) → w.blocks ≡ front ++ (one ∷ behind) → FitsBlock one.block
  block_fits front behind one is = kind_fits one behind (kind_of_block w given (edges_fit w given) front behind one is)

  pub no_this : (front behind : List Finished) (one : Finished)
      → w.blocks ≡ front ++ (one ∷ behind)
      → AllByRecursion (λ type. type ≢ types.UninitThis) (frame_of_block w one).locals
  no_this front behind one is =
      state_not_this w (is_reached given.setting.routes) one.block.at one.block.state (block_fits front behind one is)
