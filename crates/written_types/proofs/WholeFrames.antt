-- The frames that written code states are whole.
use Rattle.std.proofs.Common.{◌≡◌, ℕ, List, [], ◌∷◌, length, map, replicate, Option, Some, sym, subst, ◌∙◌}
use Rattle.std.specs.List.{AllByRecursion}
use Rattle.std.proofs.lemmas.List.{append_assoc}
use Rattle.class_model.specs.declared.frame.Frame.{Frame}
use Rattle.class_model.specs.declared.frame.VType.{VType}
use Rattle.class_model.specs.declared.frame.VType.TheVariants as types
use Rattle.flow_code.specs.FlatCode.{FlatCode}
use Rattle.flow_code.specs.ReadTypes.{read_type}
use Rattle.flow_code.specs.WrittenUnits.{greatest_depth}
use Rattle.making_code.specs.StateFrames.{site_types_from}
use Rattle.plan_flow.specs.Written.FramedCode.{IsFramed, flow_into, frame_of_item, is_led_to, type_by_item}
use Rattle.virtual_state.specs.declared.slot.VObject.{VObject}
use Rattle.written_types.proofs.ChangedTypes.{HasOwnNew, all_own}
use Rattle.written_types.proofs.Given.{EdgesFit, Given}
use Rattle.written_types.proofs.NewsApart.{new_there}
use Rattle.written_types.proofs.PointFrames.{rest_steady}
use Rattle.written_types.proofs.SlotFrames.{units_behind}
use Rattle.written_types.proofs.StatedAt.{all_types, block_stated, few_entries, locals_are_all, low, locals_pair}
use Rattle.written_types.proofs.WrittenPool.{PoolLaws}
use Rattle.written_types.proofs.WrittenTypes.{IsSteady}
use Rattle.written_types.specs.FitsTypes.{is_reached}
use Rattle.written_types.specs.StatedFrames.{HasNewItem, IsWholeFrame}
use Rattle.written_types.specs.Writing.{Writing, body_in, items_in}

-- types of the units behind those of the flat code are none of uninitialised objects
pub behind_steady : (flat : FlatCode) (objects : List VObject) → AllByRecursion IsSteady (units_behind flat objects)
behind_steady flat objects =
    subst (AllByRecursion IsSteady)
    (sym (append_assoc (site_types_from (record { slots = []; objects = objects }) 0 flat.sites) (replicate (length flat.sites) types.Top)
    (replicate (greatest_depth flat.points) types.Top))) (rest_steady flat objects)

module _ (w : Writing) (given : Given w) (laws : PoolLaws) where
  abbrev By : VType → VType
  By = type_by_item w.form w.blocks

  abbrev Has : VType → Type 0
  Has = HasNewItem (items_in w)

  steady_has : (type : VType) → IsSteady type → Has (By type)
  steady_has (types.Uninit at) steady = absurd steady
  steady_has types.Top steady = tt
  steady_has types.Int steady = tt
  steady_has types.Float steady = tt
  steady_has types.Long steady = tt
  steady_has types.Double steady = tt
  steady_has types.Null steady = tt
  steady_has types.UninitThis steady = tt
  steady_has (types.Object name) steady = tt

  all_steady : (all : List VType) → AllByRecursion IsSteady all → AllByRecursion (λ type. Has (By type)) all
  all_steady [] steady = tt
  all_steady (type ∷ all) steady = (steady_has type steady.0, all_steady all steady.1)

  own_has : (type : VType) → HasOwnNew w.s (is_reached given.setting.routes) type → Has (By type)
  own_has (types.Uninit at) own = new_there w given laws at own
  own_has types.UninitThis own = absurd own
  own_has types.Top own = tt
  own_has types.Int own = tt
  own_has types.Float own = tt
  own_has types.Long own = tt
  own_has types.Double own = tt
  own_has types.Null own = tt
  own_has (types.Object name) own = tt

  all_have : (all : List VType) → AllByRecursion (HasOwnNew w.s (is_reached given.setting.routes)) all → AllByRecursion (λ type. Has (By type)) all
  all_have [] own = tt
  all_have (type ∷ all) own = (own_has type own.0, all_have all own.1)

  -- the frame of a block
  pub block_whole : (fit : EdgesFit w given) (number : ℕ) (frame : Frame) → frame_of_item w.s.flat w.form w.blocks number ≡ Some frame
      → IsWholeFrame w frame
  block_whole fit number frame is = record {
    all_locals = locals_are_all w given fit number frame is;
    pairs = locals_pair w given fit number frame is;
    few_entries = few_entries w given fit number frame is;
    locals = all.0;
    stack = all.1;
  } where
    all : AllByRecursion Has frame.locals × AllByRecursion Has frame.stack
    all =
        let block = low w given fit number frame is in
        all_types w given fit number frame is Has tt
        (all_have (map (read_type w.s.flat) block.fits.point.typed.locals)
        (all_own w.s (is_reached given.setting.routes) block.fits.point.typed.locals block.fits.locals))
        (all_have (map (read_type w.s.flat) block.fits.point.typed.stack)
        (all_own w.s (is_reached given.setting.routes) block.fits.point.typed.stack block.fits.stack))
        (all_steady _ (behind_steady w.s.flat _))

  -- Each frame that is stated.
  pub stated_whole : (fit : EdgesFit w given) (state : ℕ → Option Frame) (frames : List Frame)
      → IsFramed w.s.flat w.form w.blocks (items_in w) (body_in w state) frames
      → (number : ℕ) (frame : Frame) → state number ≡ Some frame
      → IsWholeFrame w frame
  stated_whole fit state frames framed number frame is =
      block_whole fit number frame
      (block_stated (is_led_to (items_in w) number) (flow_into (body_in w state) frames number) (frame_of_item w.s.flat w.form w.blocks number) frame
      (sym (framed.stated number) ∙ is))
