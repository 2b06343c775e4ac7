-- The values of a frame that does an instruction of flat code.
use Rattle.std.specs.Prelude.{◌≡◌, List, [], ◌∷◌, map, slice_get, Option, Some, option_map}
use Rattle.std.proofs.Common.{ap, sym, ◌∙◌, subst}
use Rattle.std.proofs.lemmas.Option.{slice_get-map}
use Rattle.class_model.specs.declared.class_file.MethodAt.{MethodAt}
use Rattle.class_model.specs.declared.frame.Frame.{Frame}
use Rattle.flow_code.specs.FlatCode.{FlatCode}
use Rattle.flow_code.specs.ReadTypes.{read_frame}
use Rattle.flow_code.specs.declared.point.Point.{Point as FlatPoint}
use Rattle.machine_values.specs.Frames.{MethodState}
use Rattle.machine_values.specs.declared.frame.RunFrame.{RunFrame}
use Rattle.machine_values.specs.declared.frame.RunFrame.TheVariants as frames
use Rattle.member_link.specs.Machine.Programs.{Program}
use Rattle.member_link.specs.Machine.Worlds.{World}
use Rattle.typed_runs.proofs.Basics.{some_of}
use Rattle.typed_runs.specs.FolderTypings.{HasFlatTypings}
use Rattle.typed_runs.specs.TypedFrames.{ConformsTo, Does, FramesConform, nothing_awaited, upon}
use Rattle.typed_runs.specs.TypedPrograms.{Typings}
use Rattle.typed_runs.specs.TypedWorlds.{TypedWorld}

pub flat_frames_conform : (P : Program) (T : Typings) (flats : MethodAt → Option FlatCode) (w : World) (f : MethodState) (rest : List RunFrame)
    (flat : FlatCode) (point : FlatPoint) → TypedWorld P T w → HasFlatTypings flats T → w.frames ≡ frames.Method f ∷ rest
    → flats f.at ≡ Some flat
    → slice_get flat.points f.place ≡ Some point
    → ConformsTo P T w.memory.heap (read_frame flat point.typed) f
flat_frames_conform P T flats w f rest flat point typed has same is there = by (subst (FramesConform P T w.memory.heap nothing_awaited) same typed.frames) where
  of_frame : Does P T w.memory.heap f → ConformsTo P T w.memory.heap (read_frame flat point.typed) f
  of_frame d =
      let here : slice_get (T f.at).frames f.place ≡ Some (read_frame flat point.typed) =
      ap (λ (all : List Frame). slice_get all f.place) (has f.at flat is)
      ∙ slice_get-map (λ (p : FlatPoint). read_frame flat p.typed) flat.points f.place
      ∙ ap (option_map (λ (p : FlatPoint). read_frame flat p.typed)) there in
      let frame : d.stands.fits.frame ≡ read_frame flat point.typed = some_of (sym d.stands.fits.is_frame ∙ here) in
      subst (λ (types : Frame). ConformsTo P T w.memory.heap types f) frame (record { locals = d.locals; stack = d.stack })

  by : FramesConform P T w.memory.heap nothing_awaited (frames.Method f ∷ rest) → ConformsTo P T w.memory.heap (read_frame flat point.typed) f
  by (upon d below) = of_frame d
