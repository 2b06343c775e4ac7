-- Frames at offsets need the constants of the frames that are stated.
use Rattle.std.proofs.Common.{◌≡◌, ◌++◌, ℕ, suc, List, [], ◌∷◌, length, map, Option, Some, None, refl, sym, ap, ◌∙◌}
use Rattle.std.specs.List.{flat_map}
use Rattle.std.proofs.lemmas.Grind.{flat_map-append}
use Rattle.class_model.specs.declared.frame.Frame.{Frame}
use Rattle.class_model.specs.declared.frame.VType.{VType}
use Rattle.class_model.specs.declared.frame.VType.TheVariants.{Object, Uninit}
use Rattle.making_code.specs.Constants.{Need}
use Rattle.stackmap_emit.specs.FrameConstants.{frame_needs, needs_named, stated_frames, table_needs, type_needs}
use Rattle.stackmap_emit.specs.FramesAttribute.{all_stated}
use Rattle.stackmap_emit.specs.PlacedFrames.{frame_at, placed_frames, type_at}

module _ (start : ℕ → ℕ) where
  type_stays : (type : VType) → type_needs (type_at start type) ≡ type_needs type
  type_stays (Object name) = refl
  type_stays (Uninit number) = refl
  type_stays type = refl

  types_stay : (types : List VType) → flat_map type_needs (map (type_at start) types) ≡ flat_map type_needs types
  types_stay [] = refl
  types_stay (type ∷ types) =
      ap (λ (needs : List Need). needs ++ flat_map type_needs (map (type_at start) types)) (type_stays type)
      ∙ ap (λ (needs : List Need). type_needs type ++ needs) (types_stay types)

  frame_stays : (frame : Frame) → frame_needs (Some (frame_at start frame)) ≡ frame_needs (Some frame)
  frame_stays frame =
      flat_map-append type_needs (map (type_at start) frame.locals) (map (type_at start) frame.stack)
      ∙ ap (λ (needs : List Need). needs ++ flat_map type_needs (map (type_at start) frame.stack)) (types_stay frame.locals)
      ∙ ap (λ (needs : List Need). flat_map type_needs frame.locals ++ needs) (types_stay frame.stack)
      ∙ sym (flat_map-append type_needs frame.locals frame.stack)

  stated_stay : (number : ℕ) (stated : List (Option Frame))
      → flat_map frame_needs (all_stated (placed_frames start number stated)) ≡ flat_map frame_needs stated
  stated_stay number [] = refl
  stated_stay number (None ∷ stated) = stated_stay (suc number) stated
  stated_stay number (Some frame ∷ stated) =
      ap (λ (needs : List Need). needs ++ flat_map frame_needs (all_stated (placed_frames start (suc number) stated))) (frame_stays frame)
      ∙ ap (λ (needs : List Need). frame_needs (Some frame) ++ needs) (stated_stay (suc number) stated)

  stated_many : (number : ℕ) (stated : List (Option Frame))
      → length (stated_frames (all_stated (placed_frames start number stated))) ≡ length (stated_frames stated)
  stated_many number [] = refl
  stated_many number (None ∷ stated) = stated_many (suc number) stated
  stated_many number (Some frame ∷ stated) = ap suc (stated_many (suc number) stated)

named_alike : (needs : List Need) (frames others : List Frame) → length frames ≡ length others → needs_named needs frames ≡ needs_named needs others
named_alike needs [] [] same = refl
named_alike needs [] (other ∷ others) same = absurd cc
named_alike needs (frame ∷ frames) [] same = absurd cc
named_alike needs (frame ∷ frames) (other ∷ others) same = refl

-- the constants of frames at offsets are those of the frames
pub placed_needs_are : (start : ℕ → ℕ) (stated : List (Option Frame)) → table_needs (all_stated (placed_frames start 0 stated)) ≡ table_needs stated
placed_needs_are start stated =
    ap (λ (needs : List Need). needs_named needs (stated_frames (all_stated (placed_frames start 0 stated)))) (stated_stay start 0 stated)
    ∙ named_alike (flat_map frame_needs stated) (stated_frames (all_stated (placed_frames start 0 stated))) (stated_frames stated) (stated_many start 0 stated)
