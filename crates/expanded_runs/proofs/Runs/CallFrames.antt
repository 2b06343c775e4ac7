-- The frame of the folder's program that stands at a call: it is typed, and the call does not end the run.
use Rattle.std.specs.Prelude.{◌≡◌, ◌≢◌, ◌+◌, nat_le, refl, ℕ, Bool, true, false, List, ◌∷◌, ◌++◌, drop, length, slice_get, Option, Some, option_map}
use Rattle.std.proofs.Common.{ap, sym, subst, ◌∙◌}
use Rattle.std.proofs.lemmas.Bool.{false≢true}
use Rattle.std.proofs.lemmas.Option.{slice_get-map}
use Rattle.class_model.specs.Checks.{AllHold}
use Rattle.class_model.specs.Laws.Checks.{first_holds, others_hold}
use Rattle.class_model.specs.declared.class_file.MethodAt.{MethodAt}
use Rattle.class_model.specs.declared.frame.Frame.{Frame}
use Rattle.class_model.specs.declared.instr.Placed.{Placed}
use Rattle.class_tree.specs.Headers.{Classes}
use Rattle.expanded_code.specs.Sites.{HasFrames}
use Rattle.flow_code.specs.TypedFrames.{FolderFrames, typed_frames_at}
use Rattle.machine_values.specs.Frames.{MethodState}
use Rattle.machine_values.specs.declared.frame.RunFrame.{RunFrame}
use Rattle.machine_values.specs.declared.frame.RunFrame.TheVariants.{Method}
use Rattle.member_link.specs.Bodies.{Body, BodyPoint, frame_behind, item_instr, item_row, item_targets, point_row}
use Rattle.member_link.specs.Machine.Completions.{ends}
use Rattle.member_link.specs.Machine.Ops.{Op}
use Rattle.member_link.specs.Machine.Performing.{perform}
use Rattle.member_link.specs.Machine.Programs.{Point, Program, point_at}
use Rattle.member_link.specs.Machine.Stepping.{op_step, point_step, step, work_step}
use Rattle.member_link.specs.Machine.Work.{arity, work}
use Rattle.member_link.specs.Machine.Worlds.{World, going, stuck}
use Rattle.member_link.specs.Scope.{Scope, instructions, row_scope, scope_at}
use Rattle.same_runs.specs.Laws.CaughtUp.{operands_of}
use Rattle.same_runs.specs.Laws.Operations.{WorksOnOperands, step_works}
use Rattle.type_rules.specs.Checks.{IsTypedAt, handler_checks, target_checks}
use Rattle.type_rules.specs.MethodBodies.{body_of, point_of}
use Rattle.type_rules.specs.Rule.{row_checks}
use Rattle.type_rules.specs.Typed.{Typed, TypesBody, flows_into}
use Rattle.type_rules.specs.Verified.{TypesFolder, TypesMethod}
use Rattle.typed_runs.specs.TypedFrames.{Does, FramesConform, nothing_awaited, upon}
use Rattle.typed_runs.specs.TypedPrograms.{Typings}
use Rattle.typed_runs.specs.TypedWorlds.{StaysTyped, TypedWorld}

-- ---- it does not end the run

going_on : going ≡ stuck → ⊥
going_on e = absurd cc

-- what the law of steps says
abbrev pub StepsTyped : Type 0
StepsTyped = (P : Program) (T : Typings) (w : World) → TypedWorld P T w → StaysTyped P T w (step P w)

module _ (P : Program) (T : Typings) (steps : StepsTyped) (w : World) (f : MethodState) (rest : List RunFrame) (typed : TypedWorld P T w)
    (frames : w.frames ≡ Method f ∷ rest) where
  frames_conform : FramesConform P T w.memory.heap nothing_awaited (Method f ∷ rest)
  frames_conform = subst (FramesConform P T w.memory.heap nothing_awaited) frames typed.frames

  does_of : {all : List RunFrame} → FramesConform P T w.memory.heap nothing_awaited all → all ≡ Method f ∷ rest → Does P T w.memory.heap f
  does_of (upon {frame = Method g} does below) e = let same : g ≡ f = cc in subst (Does P T w.memory.heap) same does
  does_of other e = absurd cc

  -- it does its instruction
  pub does : Does P T w.memory.heap f
  does = does_of typed.frames frames

  abbrev v : World
  v = record w { frames = Method f ∷ rest; halt = going }

  abbrev counted : World
  counted = record w { frames = Method f ∷ rest; halt = going; steps = w.steps + 1 }

  not_stuck : (step P v).halt ≢ stuck
  not_stuck =
      let after = steps P T v (record { program = typed.program; memory = typed.memory; frames = frames_conform; known = typed.known }) in
      after.not_stuck going_on

  -- An operation on operands has enough of them, and what it comes to is not the end of the run.
  pub record GoesOn (op : Op) : Type 0 where
    pub enough : nat_le (arity op) (length f.stack) ≡ true
    pub works : work P w.memory op (operands_of (arity op) f) ≢ ends stuck

  pub goes_on : (point : Point) (op : Op) → point_at P f.at f.place ≡ Some point → point.op ≡ op → WorksOnOperands op → GoesOn op
  goes_on point op is op_is works =
      record { enough = enough (nat_le (arity op) (length f.stack)) refl; works = λ e. never (nat_le (arity op) (length f.stack)) refl e } where
        steps_so : step P v ≡ work_step P counted f rest op
        steps_so = ap (point_step P counted f rest) is ∙ ap (op_step P counted f rest) op_is ∙ step_works P f rest op works counted

        enough : (b : Bool) → nat_le (arity op) (length f.stack) ≡ b → nat_le (arity op) (length f.stack) ≡ true
        enough true e = e
        enough false e =
            let ended : (work_step P counted f rest op).halt ≡ stuck = rw e refl in
            absurd (not_stuck (ap (λ (x : World). x.halt) steps_so ∙ ended))

        never : (b : Bool) → nat_le (arity op) (length f.stack) ≡ b → work P w.memory op (operands_of (arity op) f) ≡ ends stuck → ⊥
        never false e done = false≢true (sym e ∙ enough (nat_le (arity op) (length f.stack)) refl)
        never true e done =
            let performed : work_step P counted f rest op ≡ perform P counted f (record f { stack = drop (arity op) f.stack }) rest
            (work P w.memory op (operands_of (arity op) f)) =
            rw e refl in
            let ended :
            (perform P counted f (record f { stack = drop (arity op) f.stack }) rest (work P w.memory op (operands_of (arity op) f))).halt ≡ stuck =
            ap (λ c. (perform P counted f (record f { stack = drop (arity op) f.stack }) rest c).halt) done in
            not_stuck (ap (λ (x : World). x.halt) (steps_so ∙ performed) ∙ ended)

-- ---- the row of an instruction

-- what the laws of typing say
abbrev pub EachMethodTyped : Type 0
EachMethodTyped = (classes : Classes) (typed : FolderFrames) → TypesFolder classes typed → (at : MethodAt)
    → TypesMethod (scope_at classes at) (typed_frames_at typed at)

abbrev pub EachInstrTyped : Type 0
EachInstrTyped = (b : Body) (frames : List Frame) → TypesBody b frames → (number : ℕ) (point : BodyPoint)
    → slice_get b.points number ≡ Some point
    → (frame : Frame) × (slice_get frames number ≡ Some frame) × IsTypedAt b (flows_into b frames number) point frame

-- the row of the instruction of a number holds behind its frame
pub record HasRow (s : Scope) (frames : List Frame) (number : ℕ) (placed : Placed) : Type 0 where
  pub frame : Frame
  pub is_frame : slice_get frames number ≡ Some frame
  pub checks : AllHold (row_checks (row_scope s) frame (item_row (row_scope s) frame placed.at (item_instr placed.instr)))

pub row_of_instr : EachMethodTyped → EachInstrTyped → (classes : Classes) (typed : FolderFrames) → TypesFolder classes typed
    → (at : MethodAt) (s : Scope) (frames : List Frame) → HasFrames classes typed at s frames
    → (number : ℕ) (placed : Placed) → slice_get (instructions s) number ≡ Some placed
    → HasRow s frames number placed
row_of_instr methods each classes typed types at s frames has number placed is =
    let named = subst (λ (found : Option Scope). TypesMethod found (typed_frames_at typed at)) has.is_scope (methods classes typed types at) in
    let typing : Typed s frames = subst (λ (found : Option (List Frame)). TypesMethod (Some s) found) has.are_frames named in
    let point : slice_get (body_of s).points number ≡ Some (point_of s placed) =
    slice_get-map (point_of s) (instructions s) number ∙ ap (option_map (point_of s)) is in
    let t = each (body_of s) frames typing number (point_of s placed) point in
    let row = point_row (point_of s placed) t.0 in
    let handlers = handler_checks (body_of s) t.0 (point_of s placed).catches in
    let rows = row_checks (row_scope s) t.0 row in
    let targets = target_checks (body_of s) (frame_behind (point_of s placed) t.0) (item_targets (item_instr placed.instr)) in
    record {
      frame = t.0;
      is_frame = t.1;
      checks = others_hold handlers rows (first_holds (handlers ++ rows) targets t.2.holds.1);
    }
