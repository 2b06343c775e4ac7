use Rattle.std.specs.Prelude.{◌+◌, ℕ, List, [], ◌∷◌, IfSome, if◌then◌else◌}
use Rattle.std.proofs.Common.{sym, subst}
use Rattle.class_model.specs.declared.frame.Frame.{Frame}
use Rattle.machine_values.specs.Frames.{MethodState}
use Rattle.machine_values.specs.declared.frame.RunFrame.{RunFrame}
use Rattle.machine_values.specs.declared.frame.RunFrame.TheVariants as frames
use Rattle.member_link.specs.Bodies.{CodeItem, item_row, item_targets, item_falls_through}
use Rattle.member_link.specs.Machine.Codes.{item_op}
use Rattle.member_link.specs.Machine.Ops.{Op}
use Rattle.member_link.specs.Machine.Programs.{Program, Point}
use Rattle.member_link.specs.Machine.Stepping.{op_step, point_step, frames_step, is_library_turn, step}
use Rattle.member_link.specs.Machine.Worlds.{World}
use Rattle.member_link.specs.RowScope.{RowScope}
use Rattle.member_link.specs.Rows.Readings.{Reading, row_by}
use Rattle.member_link.specs.Rows.Row.{access_aside}
use Rattle.typed_runs.proofs.Here.{Here, here_of, counted, uncounted}
use Rattle.typed_runs.proofs.ReadOps.{IsReadAsItIs, reads_as_it_is}
use Rattle.typed_runs.specs.Families.{NextIs}
use Rattle.typed_runs.specs.LinkedCalls.{IsLinkedCall}
use Rattle.typed_runs.specs.TypedFrames.{nothing_awaited, above_of, Does, FramesConform, upon}
use Rattle.typed_runs.specs.TypedPoints.{MayBeRead}
use Rattle.typed_runs.specs.TypedPrograms.{Typings}
use Rattle.typed_runs.specs.TypedWorlds.{TypedWorld, StaysTyped}

-- what is shown of each item whose operation is of a family, where it is read as it is
abbrev pub EachStays : Program → Typings → (Op → Type 0) → Type 0
EachStays P T Family =
    (w : World) (f : MethodState) (rest : List RunFrame) (s : RowScope) (frame : Frame) (place : ℕ) (numbered : ℕ → ℕ) (item : CodeItem)
    → Family (item_op P.links numbered s item)
    → Does P T w.memory.heap f
    → Here P T w f rest s frame place numbered (access_aside (item_row s frame place item)) (item_op P.links numbered s item) (item_falls_through item) (item_targets item)
    → StaysTyped P T w (op_step P w f rest (item_op P.links numbered s item))

-- the same, however it is read
abbrev pub EachReadStays : Program → Typings → (Op → Type 0) → Type 0
EachReadStays P T Family =
    (w : World) (f : MethodState) (rest : List RunFrame) (s : RowScope) (frame : Frame) (place : ℕ) (numbered : ℕ → ℕ) (item : CodeItem) (reading : Reading)
    → MayBeRead reading frame (item_op P.links numbered s item)
    → Family (item_op P.links numbered s item)
    → IsLinkedCall P s (item_op P.links numbered s item)
    → Does P T w.memory.heap f
    → Here P T w f rest s frame place numbered (row_by reading frame (item_row s frame place item)) (item_op P.links numbered s item) (item_falls_through item) (item_targets item)
    → StaysTyped P T w (op_step P w f rest (item_op P.links numbered s item))

-- a family that is read as it is
pub as_it_is : (P : Program) (T : Typings) (Family : Op → Type 0) → IsReadAsItIs Family → EachStays P T Family → EachReadStays P T Family
as_it_is P T Family plain each w f rest s frame place numbered item reading read is linked d h =
    each w f rest s frame place numbered item is d
    (subst (λ (by : Reading). Here P T w f rest s frame place numbered (row_by by frame (item_row s frame place item)) (item_op P.links numbered s item) (item_falls_through item) (item_targets item))
    (reads_as_it_is Family plain reading frame (item_op P.links numbered s item) read is) h)

module _ (P : Program) (T : Typings) (Family : Op → Type 0) (each : EachReadStays P T Family) where
  family_op : (w : World) (f : MethodState) (rest : List RunFrame) → TypedWorld P T w → (d : Does P T w.memory.heap f)
      → FramesConform P T w.memory.heap (above_of P (frames.Method f)) rest
      → Family d.stands.point.op → StaysTyped P T w (op_step P w f rest d.stands.point.op)
  family_op w f rest typed d below is =
      let p = d.stands.fits in
      subst (λ op. StaysTyped P T w (op_step P w f rest op)) (sym p.is_op)
      (each w f rest p.scope p.frame p.place p.numbered p.item p.reading (subst (MayBeRead p.reading p.frame) p.is_op p.read)
      (subst Family p.is_op is) (subst (IsLinkedCall P p.scope) p.is_op p.call) d (here_of P T w f rest typed d below))

  family_frames : (w : World) (fs : List RunFrame) → TypedWorld P T w → FramesConform P T w.memory.heap nothing_awaited fs → NextIs Family P fs
      → StaysTyped P T w (if is_library_turn fs then w else frames_step P (record w { steps = w.steps + 1 }) fs)
  family_frames w [] typed conform next = absurd next
  family_frames w (frames.Library made ∷ rest) typed conform next = absurd next
  family_frames w (frames.Beginning class ∷ rest) typed conform next = absurd next
  family_frames w (frames.Method f ∷ rest) typed (upon d below) next =
      let v : World = record w { steps = w.steps + 1 } in
      subst (λ p. StaysTyped P T w (point_step P v f rest p)) (sym d.stands.is_point)
      (uncounted P T w _ (family_op v f rest (counted P T w typed) d below (subst (λ p. IfSome p (λ (q : Point). Family q.op)) d.stands.is_point next)))

  -- a step of an operation of the family
  pub family_step : (w : World) → TypedWorld P T w → NextIs Family P w.frames → StaysTyped P T w (step P w)
  family_step w typed next = family_frames w w.frames typed typed.frames next
