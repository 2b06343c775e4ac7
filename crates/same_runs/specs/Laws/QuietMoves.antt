-- Moves, jumps and pushes of values by themselves are quiet turns of a run, so many as there are.
use Rattle.std.proofs.Common.{◌≡◌, ◌+◌, ℕ, zero, suc, ℤ, Bool, true, false, List, [], ◌∷◌, length, slice_get, Option, Some, None, option_and_then, option_map, if◌then◌else◌, refl, sym, ap, subst, ◌∙◌, arith}
use Rattle.std.proofs.lemmas.Bool.{le-leb}
use Rattle.std.proofs.lemmas.Option.{none-some, same_Some}
use Rattle.class_model.specs.declared.descriptor.Kind.{Kind}
use Rattle.class_model.specs.declared.descriptor.Kind.TheVariants as kinds
use Rattle.machine_values.specs.Frames.{MethodState}
use Rattle.machine_values.specs.Values.{has_kind}
use Rattle.machine_values.specs.declared.frame.RunFrame.{RunFrame}
use Rattle.machine_values.specs.declared.frame.RunFrame.TheVariants.{Method}
use Rattle.machine_values.specs.declared.value.Value.{Value}
use Rattle.machine_values.specs.declared.value.Value.TheVariants.{Int, Long, Float, Double, Null, Ref}
use Rattle.member_link.specs.Machine.Locals.{Jump, incremented, jump_of_int, jump_of_ints, jump_of_null, jump_of_references, local_value, lookup_target, shuffled, stored, table_target}
use Rattle.member_link.specs.Machine.Ops.{Op, no_operation, push_value, load_local, store_local, increment_local, test_local, shuffle_stack, jump_by_int, jump_by_ints, jump_by_references, jump_by_null, jump_to, table_switch, lookup_switch}
use Rattle.member_link.specs.Machine.Programs.{Code, Point, Program, code_at, point_at}
use Rattle.member_link.specs.Machine.Runs.{Run, shown, turn}
use Rattle.member_link.specs.Machine.Stepping.{ends_stuck, frames_step, increment_step, is_library_turn, jump_step, load_step, next_with, op_step, point_step, shuffle_step, store_step, store_units, switch_step, test_step, with_top}
use Rattle.member_link.specs.Machine.Worlds.{Memory, World, going, start}
use Rattle.same_runs.specs.QuietMoves.{jumped, kept, moved_at, moved_by, moves, popped, pushed, switched, tested}
use Rattle.same_runs.specs.Simulations.{Quietly, at_once, turn_first}
use Rattle.same_runs.specs.Laws.CaughtUp.{turned_going}
use Rattle.same_runs.specs.Laws.QuietBeginnings.{quietly_then, shows_running, standing}

-- ---- a quiet turn

-- A turn of a run that goes on with these frames and this memory, where it is not the library's turn.
pub turned_to :
    (Q : Program) (r : Run) (before after : List RunFrame) (memory later : Memory) (steps : ℕ)
    → r.world.halt ≡ going
    → is_library_turn before ≡ false
    → frames_step Q (standing r before memory (steps + 1)).world before
    ≡ record (standing r before memory (steps + 1)).world { memory = later; frames = after }
    → turn Q (standing r before memory steps) ≡ standing r after later (steps + 1)
turned_to Q r before after memory later steps goes none worked =
    turned_going Q (standing r before memory steps) before goes refl none
    ∙ ap (λ (now : World). record (standing r before memory steps) { world = now }) worked

-- It is quiet where it is not the library's turn behind it either.
pub quiet_turn :
    {Q : Program} (r : Run) (before after : List RunFrame) (memory later : Memory) (steps : ℕ)
    → r.world.halt ≡ going
    → is_library_turn before ≡ false
    → is_library_turn after ≡ false
    → frames_step Q (standing r before memory (steps + 1)).world before
    ≡ record (standing r before memory (steps + 1)).world { memory = later; frames = after }
    → Quietly Q (standing r before memory steps) (standing r after later (steps + 1))
quiet_turn {Q = Q} r before after memory later steps goes none none_after worked =
    turn_first
    (ap shown turned ∙ shows_running r after later (steps + 1) goes none_after ∙ sym (shows_running r before memory steps goes none))
    (subst (λ (now : Run). Quietly Q now (standing r after later (steps + 1))) (sym turned) at_once) where
      turned : turn Q (standing r before memory steps) ≡ standing r after later (steps + 1)
      turned = turned_to Q r before after memory later steps goes none worked

-- An operation after which the top frame goes on as another one, and the memory is as before.
pub turns_quietly :
    {Q : Program} {others : List RunFrame} (r : Run) (f after : MethodState) (steps : ℕ) (point : Point)
    → r.world.halt ≡ going
    → point_at Q f.at f.place ≡ Some point
    → ((w : World) → w.memory ≡ r.world.memory → op_step Q w f others point.op ≡ with_top w others after)
    → Quietly Q (standing r (Method f ∷ others) r.world.memory steps) (standing r (Method after ∷ others) r.world.memory (steps + 1))
turns_quietly {Q = Q} {others = others} r f after steps point goes is worked =
    quiet_turn r (Method f ∷ others) (Method after ∷ others) r.world.memory r.world.memory steps goes refl refl
    (ap (point_step Q counted f others) is ∙ worked counted refl) where
      counted : World
      counted = (standing r (Method f ∷ others) r.world.memory (steps + 1)).world

-- ---- one operation

module _ (Q : Program) (w : World) (f after : MethodState) (rest : List RunFrame) where
  -- a world with the frame behind the operation on top: one of the same method, which holds what it held
  abbrev Tops : World → Type 0
  Tops now = (now ≡ with_top w rest after) × (after.at ≡ f.at) × (after.held ≡ f.held)

  to_top : (now : MethodState) → now.at ≡ f.at → now.held ≡ f.held → Some now ≡ Some after → Tops (with_top w rest now)
  to_top now at held is =
      let same = same_Some now after is in
      (ap (with_top w rest) same, ap (λ (m : MethodState). m.at) (sym same) ∙ at, ap (λ (m : MethodState). m.held) (sym same) ∙ held)

  loads : (found : Option Value) → option_map (pushed f) found ≡ Some after → Tops (load_step w f rest found)
  loads None is = absurd (none-some after is)
  loads (Some value) is = to_top (pushed f value) refl refl is

  keeps : (stack : List Value) (units : Option (List (Option Value)))
      → option_map (λ now. record (next_with f stack) { locals = now }) units ≡ Some after
      → Tops (store_units w f rest stack units)
  keeps stack None is = absurd (none-some after is)
  keeps stack (Some units) is = to_top (record (next_with f stack) { locals = units }) refl refl is

  stores : (kind : Kind) (at : ℕ) (stack : List Value) → popped f kind at stack ≡ Some after
      → Tops (store_step w f rest kind at stack)
  stores kind at [] is = absurd (none-some after is)
  stores kind at (value ∷ stack) is = by (has_kind kind value) is where
    by : (b : Bool) → (if b then kept f stack at value else None) ≡ Some after
        → Tops (if b then store_units w f rest stack (stored at value f.locals) else ends_stuck w)
    by true given = keeps stack (stored at value f.locals) given
    by false none = absurd (none-some after none)

  increments : (at : ℕ) (by : ℤ) (found : Option Value)
      → option_and_then (λ value. kept f f.stack at (incremented by value)) found ≡ Some after
      → Tops (increment_step w f rest at by found)
  increments at by None is = absurd (none-some after is)
  increments at by (Some value) is = keeps f.stack (stored at (incremented by value) f.locals) is

  tests : (found : Option Value) → tested f found ≡ Some after → Tops (test_step Q w f rest found)
  tests None is = absurd (none-some after is)
  tests (Some Null) is = absurd (none-some after is)
  tests (Some (Ref reference)) is = to_top (next_with f f.stack) refl refl is
  tests (Some (Int number)) is = absurd (none-some after is)
  tests (Some (Long number)) is = absurd (none-some after is)
  tests (Some (Float bits)) is = absurd (none-some after is)
  tests (Some (Double bits)) is = absurd (none-some after is)

  shuffles : (stack : Option (List Value)) → option_map (next_with f) stack ≡ Some after → Tops (shuffle_step w f rest stack)
  shuffles None is = absurd (none-some after is)
  shuffles (Some stack) is = to_top (next_with f stack) refl refl is

  jumps : (to : ℕ) (jump : Jump) → jumped f to jump ≡ Some after → Tops (jump_step w f rest to jump)
  jumps to None is = absurd (none-some after is)
  jumps to (Some jump) is =
      to_top (record f { place = if jump.0 then to else f.place + 1; stack = jump.1 }) refl refl is

  switches : (target : ℤ → ℕ) (stack : List Value) → switched f target stack ≡ Some after
      → Tops (switch_step w f rest target stack)
  switches target [] is = absurd (none-some after is)
  switches target (Int key ∷ stack) is = to_top (record f { place = target key; stack = stack }) refl refl is
  switches target (Long number ∷ stack) is = absurd (none-some after is)
  switches target (Float bits ∷ stack) is = absurd (none-some after is)
  switches target (Double bits ∷ stack) is = absurd (none-some after is)
  switches target (Null ∷ stack) is = absurd (none-some after is)
  switches target (Ref reference ∷ stack) is = absurd (none-some after is)

  pushes : (value : Value) → Some (pushed f value) ≡ Some after → Tops (op_step Q w f rest (push_value value))
  pushes value is = rw (le-leb 0 (length f.stack) (omega arith)) (to_top (pushed f value) refl refl is)

  -- its step puts the frame behind it on top
  pub moved_step : (op : Op) → moved_by f op ≡ Some after → Tops (op_step Q w f rest op)
  moved_step no_operation is = to_top (next_with f f.stack) refl refl is
  moved_step (push_value value) is = pushes value is
  moved_step (load_local kind at) is = loads (local_value kind f.locals at) is
  moved_step (store_local kind at) is = stores kind at f.stack is
  moved_step (increment_local at by) is = increments at by (local_value kinds.Int f.locals at) is
  moved_step (test_local at) is = tests (local_value kinds.Ref f.locals at) is
  moved_step (shuffle_stack opcode) is = shuffles (shuffled opcode f.stack) is
  moved_step (jump_by_int opcode to) is = jumps to (jump_of_int opcode f.stack) is
  moved_step (jump_by_ints opcode to) is = jumps to (jump_of_ints opcode f.stack) is
  moved_step (jump_by_references opcode to) is = jumps to (jump_of_references opcode f.stack) is
  moved_step (jump_by_null opcode to) is = jumps to (jump_of_null opcode f.stack) is
  moved_step (jump_to to) is = to_top (record f { place = to }) refl refl is
  moved_step (table_switch low other targets) is = switches (table_target low other targets) f.stack is
  moved_step (lookup_switch other pairs) is = switches (lookup_target other pairs) f.stack is
  moved_step op is = absurd (none-some after is)

-- ---- one after the other

-- what the step of the frame on top leads to
moved_frames : (Q : Program) (others : List RunFrame) (r : Run) (code : Code) (f after : MethodState) (memory : Memory) (steps : ℕ) (point : Point)
    → code_at Q f.at ≡ Some code
    → slice_get code.points f.place ≡ Some point
    → moved_by f point.op ≡ Some after
    → frames_step Q (standing r (Method f ∷ others) memory (steps + 1)).world (Method f ∷ others)
    ≡ record (standing r (Method f ∷ others) memory (steps + 1)).world { memory = memory; frames = Method after ∷ others }
moved_frames Q others r code f after memory steps point is_code here moved =
    ap (point_step Q counted f others) (ap (option_and_then (λ (c : Code). slice_get c.points f.place)) is_code ∙ here)
    ∙ (moved_step Q counted f after others point.op moved).0 where
      counted : World
      counted = (standing r (Method f ∷ others) memory (steps + 1)).world

-- One move, jump or push, as the turn of a run.
pub moved_turn :
    (Q : Program) (others : List RunFrame) (r : Run) (code : Code) (f after : MethodState) (memory : Memory) (steps : ℕ) (point : Point)
    → r.world.halt ≡ going
    → code_at Q f.at ≡ Some code
    → slice_get code.points f.place ≡ Some point
    → moved_by f point.op ≡ Some after
    → turn Q (standing r (Method f ∷ others) memory steps) ≡ standing r (Method after ∷ others) memory (steps + 1)
moved_turn Q others r code f after memory steps point goes is_code here moved =
    turned_to Q r (Method f ∷ others) (Method after ∷ others) memory memory steps goes refl
    (moved_frames Q others r code f after memory steps point is_code here moved)

-- So many moves, jumps and pushes are quiet turns.
pub moves_quietly :
    {Q : Program} {others : List RunFrame} (r : Run) (code : Code) (count : ℕ) (f after : MethodState) (memory : Memory) (steps : ℕ)
    → r.world.halt ≡ going
    → code_at Q f.at ≡ Some code
    → moves code count f ≡ Some after
    → (later : ℕ) × Quietly Q (standing r (Method f ∷ others) memory steps) (standing r (Method after ∷ others) memory later)
moves_quietly {Q = Q} {others = others} r code zero f after memory steps goes is_code is = (
  steps,
  subst (λ (g : MethodState). Quietly Q (standing r (Method f ∷ others) memory steps) (standing r (Method g ∷ others) memory steps))
      (same_Some f after is) at_once,
)
moves_quietly {Q = Q} {others = others} r code (suc count) f after memory steps goes is_code is =
    by (slice_get code.points f.place) refl is
    (λ next at rest. moves_quietly r code count next after memory (steps + 1) goes (ap (code_at Q) at ∙ is_code) rest) where
      Goes : MethodState → ℕ → Type 0
      Goes g begun =
          (later : ℕ) × Quietly Q (standing r (Method g ∷ others) memory begun) (standing r (Method after ∷ others) memory later)

      step : (point : Point) → slice_get code.points f.place ≡ Some point → (next : Option MethodState) → moved_by f point.op ≡ next
          → option_and_then (moves code count) next ≡ Some after
          → ((g : MethodState) → g.at ≡ f.at → moves code count g ≡ Some after → Goes g (steps + 1))
          → Goes f steps
      step point here None moved rest again = absurd (none-some after rest)
      step point here (Some next) moved rest again =
          let first = moved_step Q r.world f next others point.op moved in
          let more = again next first.1 rest in (
            more.0,
            quietly_then (quiet_turn r (Method f ∷ others) (Method next ∷ others) memory memory steps goes refl refl
                (moved_frames Q others r code f next memory steps point is_code here moved)) more.1,
          )

      by : (found : Option Point) → slice_get code.points f.place ≡ found
          → option_and_then (moves code count) (moved_at f found) ≡ Some after
          → ((g : MethodState) → g.at ≡ f.at → moves code count g ≡ Some after → Goes g (steps + 1))
          → Goes f steps
      by None here none again = absurd (none-some after none)
      by (Some point) here rest again = step point here (moved_by f point.op) refl rest again

-- the frame is one of the same method, which holds what it held
pub moves_in_method : (Q : Program) (code : Code) (count : ℕ) (f after : MethodState) → moves code count f ≡ Some after
    → (after.at ≡ f.at) × (after.held ≡ f.held)
moves_in_method Q code zero f after is =
    let same = same_Some f after is in (ap (λ (m : MethodState). m.at) (sym same), ap (λ (m : MethodState). m.held) (sym same))
moves_in_method Q code (suc count) f after is = by (slice_get code.points f.place) is (λ next rest. moves_in_method Q code count next after rest) where
  Stays : MethodState → Type 0
  Stays g = (after.at ≡ g.at) × (after.held ≡ g.held)

  step : (op : Op) (next : Option MethodState) → moved_by f op ≡ next → option_and_then (moves code count) next ≡ Some after
      → ((g : MethodState) → moves code count g ≡ Some after → Stays g)
      → Stays f
  step op None moved rest again = absurd (none-some after rest)
  step op (Some next) moved rest again =
      let first = moved_step Q start f next [] op moved in
      let more = again next rest in (more.0 ∙ first.1, more.1 ∙ first.2)

  by : (found : Option Point) → option_and_then (moves code count) (moved_at f found) ≡ Some after
      → ((g : MethodState) → moves code count g ≡ Some after → Stays g)
      → Stays f
  by None none again = absurd (none-some after none)
  by (Some point) rest again = step point.op (moved_by f point.op) refl rest again
