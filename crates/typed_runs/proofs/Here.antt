use Rattle.std.specs.Prelude.{◌≡◌, ◌+◌, ◌≤◌, nat_le, refl, ℕ, Bool, true, false, List, ◌∷◌, ◌++◌, length, take, drop, reverse, Option, None, IfSome, if◌then◌else◌}
use Rattle.std.specs.List.{AllByRecursion}
use Rattle.std.proofs.Common.{ap, sym, ◌∙◌, subst}
use Rattle.std.proofs.lemmas.Bool.{le-leb}
use Rattle.std.proofs.lemmas.List.{reverse-append, reverse-reverse}
use Rattle.class_model.specs.declared.frame.Frame.{Frame}
use Rattle.class_model.specs.declared.frame.VType.{VType}
use Rattle.machine_values.specs.Frames.{MethodState}
use Rattle.machine_values.specs.Heaps.{Heap}
use Rattle.machine_values.specs.declared.frame.RunFrame.{RunFrame}
use Rattle.machine_values.specs.declared.frame.RunFrame.TheVariants as frames
use Rattle.machine_values.specs.declared.value.Value.{Value}
use Rattle.member_link.specs.Bodies.{item_targets, item_falls_through}
use Rattle.member_link.specs.BodyTyping.{RowHolds}
use Rattle.member_link.specs.Machine.Codes.{item_op}
use Rattle.member_link.specs.Machine.Completions.{gives}
use Rattle.member_link.specs.Machine.Ops.{Op, meaningless}
use Rattle.member_link.specs.Machine.Performing.{perform}
use Rattle.member_link.specs.Machine.Programs.{Program}
use Rattle.member_link.specs.Machine.Stepping.{with_top, work_step, op_step}
use Rattle.member_link.specs.Machine.Work.{arity, work}
use Rattle.member_link.specs.Machine.Worlds.{World, Memory, stuck}
use Rattle.member_link.specs.RowScope.{RowScope}
use Rattle.member_link.specs.Rows.Operands.{Need, under}
use Rattle.member_link.specs.Rows.Row.{Row, access_aside, row_frame, stack_left, stack_behind, plain, either, no_row}
use Rattle.typed_runs.proofs.Kept.{Keeps, keeps_same, frames_kept, known_kept, units_kept, all_kept, stands_kept}
use Rattle.typed_runs.proofs.Points.{does_there}
use Rattle.typed_runs.proofs.Stacks.{Operands, operands, conform_append}
use Rattle.typed_runs.specs.Conforming.{AllConform, UnitsConform, IsTypedMemory}
use Rattle.typed_runs.specs.TypedFrames.{ArePaired, Above, nothing_awaited, called_method, asked_library, FitsCall, ShowsEvent, MethodConforms, above_of, StandsAt, Does, FramesConform, upon}
use Rattle.typed_runs.specs.TypedPoints.{LeadsTo, row_at, ReadsAs, IsLinkedOp}
use Rattle.typed_runs.specs.TypedPrograms.{Typings}
use Rattle.typed_runs.specs.TypedWorlds.{TypedWorld, StaysTyped}

-- what an instruction for which its frame waits is
abbrev pub IsAwaited : Above → Op → Type 0
IsAwaited nothing_awaited op = ⊥
IsAwaited (called_method member) op = FitsCall member op
IsAwaited asked_library op = ShowsEvent op

-- The world before an instruction of the top frame: its row and its operation, whether control falls through, and the places to which it
-- may jump.
pub record Here (P : Program) (T : Typings) (w : World) (f : MethodState) (rest : List RunFrame)
    (s : RowScope) (frame : Frame) (place : ℕ) (numbered : ℕ → ℕ) (row : Row) (op : Op) (falls : Bool) (places : List ℕ) : Type 0 where
  pub typed : TypedWorld P T w
  pub stands : StandsAt P T w.memory.heap f
  pub below : FramesConform P T w.memory.heap (above_of P (frames.Method f)) rest
  pub locals : UnitsConform P (T f.at).scope w.memory.heap frame.locals f.locals
  pub stack : AllConform P (T f.at).scope w.memory.heap frame.stack (reverse f.stack)
  pub before : UnitsConform P (T f.at).scope w.memory.heap stands.fits.frame.locals f.locals
  pub reads : ReadsAs s (T f.at).scope frame
  pub holds : RowHolds s frame row
  pub linked : IsLinkedOp P (T f.at).scope place op
  pub waits : (stack : List Value) → UnitsConform P (T f.at).scope w.memory.heap row.locals f.locals → AllConform P (T f.at).scope w.memory.heap (stack_left frame row) (reverse stack)
      → (above : Above) → IsAwaited above op → MethodConforms P T w.memory.heap (record f { stack = stack }) above
  pub next : IfSome (if falls then row_frame frame row else None) (LeadsTo (T f.at) (f.place + 1))
  pub targets : AllByRecursion (λ target. IfSome (row_frame frame row) (LeadsTo (T f.at) (numbered target))) places

-- ---- what another memory and other frames need to be those of a typed world

pub stays : (P : Program) (T : Typings) (w : World) (m : Memory) (fs : List RunFrame) → TypedWorld P T w
    → Keeps w.memory.heap m.heap → IsTypedMemory P m → FramesConform P T m.heap nothing_awaited fs
    → StaysTyped P T w (record w { memory = m; frames = fs })
stays P T w m fs typed keep memory conform = record {
  typed = record {
    program = typed.program;
    memory = memory;
    frames = conform;
    known = known_kept keep w.known typed.known;
  };
  not_stuck = λ no. no;
}

-- values are pushed onto what an operation leaves
pub pushed : {P : Program} {s : RowScope} {h : Heap} {ts gs : List VType} (stack vs : List Value) → AllConform P s h ts (reverse stack) → AllConform P s h gs vs → AllConform P s h (ts ++ gs) (reverse (reverse vs ++ stack))
pushed {P = P} {s = s} {h = h} {ts = ts} {gs = gs} stack vs under given =
    subst (λ xs. AllConform P s h (ts ++ gs) xs) (sym (reverse-append (reverse vs) stack ∙ ap (λ xs. reverse stack ++ xs) (reverse-reverse vs))) (conform_append under given)

-- ---- the top frame goes on

module _ {P : Program} {T : Typings} {w : World} {f : MethodState} {rest : List RunFrame} {s : RowScope} {frame : Frame} {place : ℕ} {numbered : ℕ → ℕ} {row : Row} {op : Op} {falls : Bool} {places : List ℕ} (h : Here P T w f rest s frame place numbered row op falls places) where
  -- with a memory in which each object is kept
  pub goes_with : (m : Memory) → Keeps w.memory.heap m.heap → IsTypedMemory P m
      → (n : ℕ) (from : Frame) → LeadsTo (T f.at) n from → (locals : List (Option Value)) (stack : List Value)
      → ArePaired locals → UnitsConform P (T f.at).scope m.heap from.locals locals → AllConform P (T f.at).scope m.heap from.stack (reverse stack)
      → StaysTyped P T w (record w { memory = m; frames = frames.Method (record f { place = n; locals = locals; stack = stack }) ∷ rest })
  goes_with m keep memory n from leads locals stack paired units values =
      stays P T w m _ h.typed keep memory
      (upon (does_there P T m h.typed.program memory f (stands_kept keep h.stands) n from leads locals stack paired units values) (frames_kept keep h.below))

  pub goes : (n : ℕ) (from : Frame) → LeadsTo (T f.at) n from → (locals : List (Option Value)) (stack : List Value)
      → ArePaired locals → UnitsConform P (T f.at).scope w.memory.heap from.locals locals → AllConform P (T f.at).scope w.memory.heap from.stack (reverse stack)
      → StaysTyped P T w (with_top w rest (record f { place = n; locals = locals; stack = stack }))
  goes n from leads locals stack paired units values = goes_with w.memory (keeps_same _) h.typed.memory n from leads locals stack paired units values

  -- ---- operands

  pub operands_here : Operands P (T f.at).scope w.memory.heap frame.stack f.stack (length row.takes)
  operands_here = operands s row.takes frame.stack f.stack h.holds.operands h.stack

  -- an operation that takes its operands off the stack
  pub worked : (n : ℕ) → arity op ≡ n → n ≤ length f.stack
      → StaysTyped P T w (perform P w f (record f { stack = drop n f.stack }) rest (work P w.memory op (reverse (take n f.stack))))
      → StaysTyped P T w (work_step P w f rest op)
  worked n same enough done =
      subst (λ k. StaysTyped P T w (if nat_le k (length f.stack) then perform P w f (record f { stack = drop k f.stack }) rest (work P w.memory op (reverse (take k f.stack))) else record w { halt = stuck })) (sym same)
      (let yes : nat_le n (length f.stack) ≡ true = le-leb n (length f.stack) enough in
      subst (λ b. StaysTyped P T w (if b then perform P w f (record f { stack = drop n f.stack }) rest (work P w.memory op (reverse (take n f.stack))) else record w { halt = stuck })) (sym yes) done)

  -- what an operation gives is pushed onto what it leaves
  pub gives_goes : (n : ℕ) (m : Memory) → Keeps w.memory.heap m.heap → IsTypedMemory P m → (vs : List Value)
      → LeadsTo (T f.at) (f.place + 1) (record { locals = row.locals; stack = stack_behind frame row })
      → UnitsConform P (T f.at).scope m.heap row.locals f.locals → AllConform P (T f.at).scope m.heap (stack_left frame row) (reverse (drop n f.stack))
      → AllConform P (T f.at).scope m.heap row.gives vs
      → StaysTyped P T w (perform P w f (record f { stack = drop n f.stack }) rest (gives m vs))
  gives_goes n m keep memory vs leads locals under given =
      goes_with m keep memory (f.place + 1) _ leads f.locals (reverse vs ++ drop n f.stack) h.stands.paired locals (pushed (drop n f.stack) vs under given)

-- an operation behind a test, which without it is no instruction
pub tested : {P : Program} {T : Typings} {w : World} {f : MethodState} {rest : List RunFrame} {s : RowScope} {frame : Frame} {place : ℕ} {numbered : ℕ → ℕ} {falls : Bool} {places : List ℕ}
    (b : Bool) (row : Row) (op : Op)
    → (b ≡ true → Here P T w f rest s frame place numbered (access_aside row) op falls places → StaysTyped P T w (op_step P w f rest op))
    → Here P T w f rest s frame place numbered (access_aside (either b row (no_row frame))) (if b then op else meaningless) falls places
    → StaysTyped P T w (op_step P w f rest (if b then op else meaningless))
tested true row op proved h = proved refl h
tested false row op proved h = absurd h.linked

-- of a row that asks and gives, and nothing else
pub gives_values : {P : Program} {T : Typings} {w : World} {f : MethodState} {rest : List RunFrame} {s : RowScope} {frame : Frame} {place : ℕ} {numbered : ℕ → ℕ} {op : Op} {places : List ℕ} {takes : List Need} {gs : List VType}
    (h : Here P T w f rest s frame place numbered (plain frame takes gs) op true places) (m : Memory) → Keeps w.memory.heap m.heap → IsTypedMemory P m → (vs : List Value)
    → AllConform P (T f.at).scope m.heap gs vs
    → StaysTyped P T w (perform P w f (record f { stack = drop (length takes) f.stack }) rest (gives m vs))
gives_values {takes = takes} h m keep memory vs given = gives_goes h (length takes) m keep memory vs h.next (units_kept keep h.locals) (all_kept keep (operands_here h).rest) given

-- with the same memory
pub gives_same : {P : Program} {T : Typings} {w : World} {f : MethodState} {rest : List RunFrame} {s : RowScope} {frame : Frame} {place : ℕ} {numbered : ℕ → ℕ} {op : Op} {places : List ℕ} {takes : List Need} {gs : List VType}
    (h : Here P T w f rest s frame place numbered (plain frame takes gs) op true places) (vs : List Value)
    → AllConform P (T f.at).scope w.memory.heap gs vs
    → StaysTyped P T w (perform P w f (record f { stack = drop (length takes) f.stack }) rest (gives w.memory vs))
gives_same {w = w} h vs given = gives_values h w.memory (keeps_same w.memory.heap) h.typed.memory vs given

-- ---- a step

-- a frame stands where it stood, whatever its stack
abbrev pub stands_with : {P : Program} {T : Typings} {heap : Heap} {f : MethodState} (stack : List Value) → StandsAt P T heap f → StandsAt P T heap (record f { stack = stack })
stands_with stack s = record { point = s.point; is_point = s.is_point; fits = s.fits; paired = s.paired; held = s.held }

-- it waits with what its instruction leaves
pub waits_of : (P : Program) (T : Typings) (heap : Heap) (f : MethodState) (d : Does P T heap f) (stack : List Value)
    → UnitsConform P (T f.at).scope heap (row_at d.stands.fits).locals f.locals → AllConform P (T f.at).scope heap (stack_left d.stands.fits.frame (row_at d.stands.fits)) (reverse stack)
    → (above : Above) → IsAwaited above d.stands.point.op → MethodConforms P T heap (record f { stack = stack }) above
waits_of P T heap f d stack locals under nothing_awaited awaited = absurd awaited
waits_of P T heap f d stack locals under (called_method m) awaited =
    record { stands = record { point = d.stands.point; is_point = d.stands.is_point; fits = d.stands.fits; paired = d.stands.paired; held = d.stands.held }; before = d.locals; locals = locals; stack = under; waited = awaited }
waits_of P T heap f d stack locals under asked_library awaited =
    record { stands = record { point = d.stands.point; is_point = d.stands.is_point; fits = d.stands.fits; paired = d.stands.paired; held = d.stands.held }; before = d.locals; locals = locals; stack = under; waited = awaited }

-- the world at a typed point
pub here_of : (P : Program) (T : Typings) (w : World) (f : MethodState) (rest : List RunFrame) → TypedWorld P T w → (d : Does P T w.memory.heap f) → FramesConform P T w.memory.heap (above_of P (frames.Method f)) rest
    → Here P T w f rest d.stands.fits.scope d.stands.fits.frame d.stands.fits.place d.stands.fits.numbered
    (row_at d.stands.fits) (item_op P.links d.stands.fits.numbered d.stands.fits.scope d.stands.fits.item)
    (item_falls_through d.stands.fits.item) (item_targets d.stands.fits.item)
here_of P T w f rest typed d below = record {
  typed = typed;
  stands = d.stands;
  below = below;
  locals = d.locals;
  stack = d.stack;
  before = d.locals;
  reads = d.stands.fits.reads;
  holds = d.stands.fits.row;
  linked = subst (λ op. IsLinkedOp P (T f.at).scope d.stands.fits.place op) d.stands.fits.is_op d.stands.fits.linked;
  waits = λ stack locals under above awaited. waits_of P T w.memory.heap f d stack locals under above (subst (IsAwaited above) (sym d.stands.fits.is_op) awaited);
  next = d.stands.fits.next;
  targets = d.stands.fits.targets;
}

-- the same world, with its step counted
pub counted : (P : Program) (T : Typings) (w : World) → TypedWorld P T w → TypedWorld P T (record w { steps = w.steps + 1 })
counted P T w typed = record { program = typed.program; memory = typed.memory; frames = typed.frames; known = typed.known }

pub uncounted : (P : Program) (T : Typings) (w after : World) → StaysTyped P T (record w { steps = w.steps + 1 }) after → StaysTyped P T w after
uncounted P T w after stays = record { typed = stays.typed; not_stuck = stays.not_stuck }
