-- The constants of the frames of a rewritten method fit their items, and the written method states those frames.
use Rattle.std.proofs.Common.{◌≡◌, ◌∙◌, ◌≤◌, ℕ, suc, List, [], ◌∷◌, ◌++◌, flat_map, length, Option, Some, None, refl, sym, ap, subst, arith}
use Rattle.class_model.specs.declared.frame.Frame.{Frame}
use Rattle.class_model.specs.declared.frame.VType.{VType}
use Rattle.class_model.specs.declared.frame.VType.TheVariants as types
use Rattle.class_model.specs.declared.class_file.MethodAt.{MethodAt}
use Rattle.class_rewrite.specs.Inner.FittingFolders.{HasSoundTables, frames_placed}
use Rattle.class_rewrite.specs.Inner.SoundFrames.{HasSoundFrames}
use Rattle.class_rewrite.specs.Rewriting.Folders.{IsRewrittenAt}
use Rattle.class_rewrite.specs.Rewriting.Methods.{Rewriting, Rewritten}
use Rattle.class_tree.specs.Headers.{Headers, Name, headers_of}
use Rattle.code_layout.specs.Layout.{start_in, starts_from}
use Rattle.code_layout.specs.declared.emitted.EmitItem.{EmitItem}
use Rattle.expanded_runs.specs.NamedFrames.{FrameHas, IsFramedName, TypeHas, TypesHave}
use Rattle.making_code.specs.Constants.{class_needs}
use Rattle.member_link.specs.Bodies.{Body}
use Rattle.member_link.specs.Scope.{Scope}
use Rattle.plan_flow.specs.Laws.WrittenBlocks.{holds_of_both}
use Rattle.stackmap_emit.specs.FrameConstants.{frame_needs, needs_named, stated_frames, table_needs, type_needs}
use Rattle.stackmap_emit.specs.PlacedFrames.{placed_frames, spelled_in, stated_from}
use Rattle.type_rules.specs.Stated.{stated}
use Rattle.written_files.specs.ShortNeeds.{AreFitting, IsFittingNeed}

-- ---- constants of frames

class_fits : (name : Name) → length name ≤ 65535 → AreFitting (class_needs name)
class_fits name few = ((few, λ major. tt), (tt, tt))

module _ (headers : Headers) where
  type_fits : (type : VType) → TypeHas (IsFramedName headers) type → AreFitting (type_needs type)
  type_fits (types.Object name) has = class_fits name has.spelled.text.len
  type_fits types.Top has = tt
  type_fits types.Int has = tt
  type_fits types.Float has = tt
  type_fits types.Long has = tt
  type_fits types.Double has = tt
  type_fits types.Null has = tt
  type_fits types.UninitThis has = tt
  type_fits (types.Uninit at) has = tt

  types_fit : (all : List VType) → TypesHave (IsFramedName headers) all → AreFitting (flat_map type_needs all)
  types_fit [] has = tt
  types_fit (type ∷ all) has =
      holds_of_both IsFittingNeed (type_needs type) (flat_map type_needs all) (type_fits type has.0) (types_fit all has.1)

  all_fit : (state : ℕ → Option Frame)
      → ((number : ℕ) (frame : Frame) → state number ≡ Some frame → FrameHas (IsFramedName headers) frame)
      → (number : ℕ) (items : List EmitItem)
      → AreFitting (flat_map frame_needs (stated_from state number items))
  all_fit state named number [] = tt
  all_fit state named number (item ∷ items) =
      holds_of_both IsFittingNeed (frame_needs (state number)) (flat_map frame_needs (stated_from state (suc number) items)) (by (state number) refl)
      (all_fit state named (suc number) items) where
        by : (stated : Option Frame) → state number ≡ stated → AreFitting (frame_needs stated)
        by None is = tt
        by (Some frame) is =
            let known = named number frame is in
            types_fit (frame.locals ++ frame.stack) (holds_of_both (TypeHas (IsFramedName headers)) frame.locals frame.stack known.locals known.stack)

-- with the name of their attribute
table_fits : (frames : List (Option Frame)) → AreFitting (flat_map frame_needs frames) → AreFitting (table_needs frames)
table_fits frames fit = by (stated_frames frames) where
  by : (some : List Frame) → AreFitting (needs_named (flat_map frame_needs frames) some)
  by [] = tt
  by (frame ∷ some) = ((omega arith, λ major. tt), fit)

-- ---- of a method

module _ (r : Rewriting) (at : MethodAt) (v : Rewritten) (is : IsRewrittenAt r at v) where
  abbrev state : ℕ → Option Frame
  state = is.is.framed.state

  stated_is : v.stated ≡ stated_from state 0 v.items
  stated_is = is.is.framed.stated ∙ ap (λ (b : Body). stated_from b.stated 0 v.items) is.is.framed.body

  pub tables_sound : (host : Scope) → HasSoundFrames r v host state → HasSoundTables v
  tables_sound host sound = record {
    frames = sound.needs;
    short_frames =
        subst (λ (frames : List (Option Frame)). AreFitting (table_needs frames)) (sym stated_is)
        (table_fits (stated_from state 0 v.items) (all_fit (headers_of r.classes) state sound.names 0 v.items));
  }

  pub states_placed : (now : Scope)
      → stated now ≡ placed_frames (start_in (starts_from (spelled_in v.one.form) 0 v.items)) 0 (stated_from state 0 v.items)
      → stated now ≡ frames_placed v
  states_placed now states =
      states
      ∙ ap (λ (starts : List ℕ). placed_frames (start_in starts) 0 (stated_from state 0 v.items)) (sym is.is.framed.laid.starts)
      ∙ ap (λ (frames : List (Option Frame)). placed_frames (start_in v.laid.starts) 0 frames) (sym stated_is)
