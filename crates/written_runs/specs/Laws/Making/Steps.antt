-- The instructions of make code, one by one, as quiet turns of the second run.
use Rattle.std.proofs.Common.{◌≡◌, ◌+◌, ◌<◌, ℕ, zero, suc, List, [], ◌∷◌, ◌++◌, length, slice_get, Option, Some, option_map, option_and_then, IsTrue, refl, ap, subst, ◌∙◌, arith}
use Rattle.std.proofs.lemmas.Bool.{le-leb}
use Rattle.std.proofs.lemmas.List.{length-append}
use Rattle.class_model.specs.declared.class_file.MethodAt.{MethodAt}
use Rattle.class_model.specs.declared.descriptor.Kind.{Kind}
use Rattle.class_model.specs.declared.instr.Imm.TheVariants as imms
use Rattle.class_model.specs.declared.instr.Instr.TheVariants.{Const, Enter, Shuffle}
use Rattle.class_model.specs.declared.opcodes.TheConstants.{DUP}
use Rattle.machine_values.specs.Frames.{MethodState}
use Rattle.machine_values.specs.Heaps.{object_at}
use Rattle.machine_values.specs.Values.{has_kind}
use Rattle.machine_values.specs.declared.frame.RunFrame.{RunFrame}
use Rattle.machine_values.specs.declared.frame.RunFrame.TheVariants.{Method}
use Rattle.machine_values.specs.declared.object.Object.{Object}
use Rattle.machine_values.specs.declared.value.Value.{Value}
use Rattle.machine_values.specs.declared.value.Value.TheVariants.{Null, Ref}
use Rattle.making_code.specs.Items.{WInstr, item, load, plain, store}
use Rattle.making_code.specs.Units.{WUnit, unit_number}
use Rattle.member_link.specs.Machine.Locals.{local_value, stored}
use Rattle.member_link.specs.Machine.ObjectSteps.{with_entered}
use Rattle.member_link.specs.Machine.Ops.{Op}
use Rattle.member_link.specs.Machine.Programs.{Code, Point, code_at, point_at}
use Rattle.member_link.specs.Machine.Runs.{Run}
use Rattle.member_link.specs.Machine.Worlds.{Memory, going}
use Rattle.member_link.specs.Scope.{Scope}
use Rattle.plan_flow.specs.Written.WrittenCode.{written_code, written_op, written_point}
use Rattle.plan_flow.specs.Written.WrittenPrograms.{WrittenMethod, items_of}
use Rattle.same_runs.specs.Laws.Numbered.{slice_numbered}
use Rattle.same_runs.specs.Laws.QuietBeginnings.{quietly_then, standing}
use Rattle.same_runs.specs.Laws.QuietCalls.{quiet_gives}
use Rattle.same_runs.specs.Laws.QuietMoves.{moves_quietly}
use Rattle.same_runs.specs.Laws.Stored.{Units}
use Rattle.same_runs.specs.QuietMoves.{moved_by, moves}
use Rattle.same_runs.specs.Simulations.{Quietly, at_once}
use Rattle.written_runs.specs.Inner.MadeObjects.{StandAt}
use Rattle.written_runs.specs.Inner.PlannedFrames.{blocks_in, scope_in}
use Rattle.written_runs.specs.Inner.Setup.{Setup, second}

-- ---- where make code is done

-- A run that goes on with a frame of a written method on top: the frames below, and what of the frame stays.
pub record Doing (u : Setup) (w : WrittenMethod) : Type 0 where
  pub host : Scope
  pub run : Run
  pub others : List RunFrame
  pub at : MethodAt
  pub held : Option ℕ
  pub code : code_at (second u) at
      ≡ Some (written_code (scope_in u w) host u.constructor w.form (blocks_in u w))
  pub goes : run.world.halt ≡ going

abbrev pub frame_of : {u : Setup} {w : WrittenMethod} → Doing u w → ℕ → Units → List Value → MethodState
frame_of d place locals stack = record { at = d.at; place = place; locals = locals; stack = stack; held = d.held }

-- the run with the frame at an item
abbrev pub run_at : {u : Setup} {w : WrittenMethod} → Doing u w → ℕ → Memory → Units → List Value → ℕ → Run
run_at d place memory locals stack steps = standing d.run (Method (frame_of d place locals stack) ∷ d.others) memory steps

-- Instructions are done quietly, from one place on: memory, local units and stack before and behind them.
pub record Done {u : Setup} {w : WrittenMethod} (d : Doing u w) (instrs : List WInstr) (place steps : ℕ) (memory later : Memory) (locals units : Units)
    (stack after : List Value)
    : Type 0 where
  pub then_steps : ℕ
  pub quietly : Quietly (second u) (run_at d place memory locals stack steps)
      (run_at d (place + length instrs) later units after then_steps)

module _ {u : Setup} {w : WrittenMethod} (d : Doing u w) where
  pub done_none : (place steps : ℕ) (memory : Memory) (locals : Units) (stack : List Value)
      → Done d [] place steps memory memory locals locals stack stack
  done_none place steps memory locals stack =
      let same : place ≡ place + 0 = omega arith in
      record {
        then_steps = steps;
        quietly =
            subst (λ (n : ℕ). Quietly (second u) (run_at d place memory locals stack steps) (run_at d n memory locals stack steps)) same at_once;
      }

  -- some instructions and others behind them
  pub done_then : {one more : List WInstr} {place steps : ℕ} {memory middle later : Memory} {locals between units : Units}
      {stack before after : List Value}
      → (first : Done d one place steps memory middle locals between stack before)
      → Done d more (place + length one) first.then_steps middle later between units before after
      → Done d (one ++ more) place steps memory later locals units stack after
  done_then {one = one} {more = more} {place = place} {steps = steps} {memory = memory} {later = later} {locals = locals} {units = units}
      {stack = stack} {after = after} first rest = record {
        then_steps = rest.then_steps;
        quietly =
            subst (λ (n : ℕ). Quietly (second u) (run_at d place memory locals stack steps) (run_at d n later units after rest.then_steps)) same
            (quietly_then first.quietly rest.quietly);
      } where
        same : (place + length one) + length more ≡ place + length (one ++ more)
        same = omega (arith, length-append one more)

  -- the same, said of lists that are the same
  pub done_as : {one more : List WInstr} {place steps : ℕ} {memory later : Memory} {locals units : Units} {stack before after behind : List Value}
      → one ≡ more
      → stack ≡ before
      → after ≡ behind
      → Done d one place steps memory later locals units stack after
      → Done d more place steps memory later locals units before behind
  done_as {one = one} {more = more} {place = place} {steps = steps} {memory = memory} {later = later} {locals = locals} {units = units}
      {stack = stack} {before = before} {after = after} {behind = behind} same same_stack same_after done =
      subst (λ (instrs : List WInstr). Done d instrs place steps memory later locals units before behind) same
      (subst (λ (values : List Value). Done d one place steps memory later locals units values behind) same_stack
      (subst (Done d one place steps memory later locals units stack) same_after done))

  -- ---- where instructions stand

  abbrev code : Code
  code = written_code (scope_in u w) d.host u.constructor w.form (blocks_in u w)

  -- what an instruction of make code does
  abbrev pub op_of : WInstr → Op
  op_of instr = written_op (scope_in u w) d.host u.constructor [] instr

  -- the point of an instruction at a place
  abbrev pub point_for : ℕ → WInstr → Point
  point_for place instr =
      written_point (scope_in u w) d.host u.constructor w.form (blocks_in u w) (0 + place) (item instr)

  pub item_is : {place : ℕ} {instr : WInstr} {instrs : List WInstr} → StandAt u w place (instr ∷ instrs)
      → slice_get (items_of u.classes u.links w) place ≡ Some (item instr)
  item_is {place = place} {instr = instr} {instrs = instrs} stand =
      let zeroth : place ≡ place + 0 = omega arith in
      let low : 0 < length (instr ∷ instrs) = omega arith in
      ap (slice_get (items_of u.classes u.links w)) zeroth ∙ stand.each 0 low

  is_point : {place : ℕ} {instr : WInstr} {instrs : List WInstr} → StandAt u w place (instr ∷ instrs)
      → slice_get code.points place ≡ Some (point_for place instr)
  is_point {place = place} {instr = instr} stand =
      slice_numbered (written_point (scope_in u w) d.host u.constructor w.form (blocks_in u w)) 0 (items_of u.classes u.links w) place
      ∙ ap (option_map (written_point (scope_in u w) d.host u.constructor w.form (blocks_in u w) (0 + place))) (item_is stand)

  pub at_point : {place : ℕ} {instr : WInstr} {instrs : List WInstr} → StandAt u w place (instr ∷ instrs)
      → point_at (second u) d.at place ≡ Some (point_for place instr)
  at_point {place = place} stand = ap (option_and_then (λ (c : Code). slice_get c.points place)) d.code ∙ is_point stand

  -- ---- moves

  moved : {place : ℕ} {instr : WInstr} {instrs : List WInstr} (steps : ℕ) (memory : Memory) (locals units : Units) (stack after : List Value)
      → StandAt u w place (instr ∷ instrs)
      → moved_by (frame_of d place locals stack) (op_of instr) ≡ Some (frame_of d (place + 1) units after)
      → Done d (instr ∷ []) place steps memory memory locals units stack after
  moved {place = place} {instr = instr} steps memory locals units stack after stand moves_on =
      record { then_steps = quiet.0; quietly = quiet.1 } where
        one_move : moves code 1 (frame_of d place locals stack) ≡ Some (frame_of d (place + 1) units after)
        one_move = rw (is_point stand, moves_on) refl

        quiet : (later : ℕ) × Quietly (second u) (run_at d place memory locals stack steps) (run_at d (place + 1) memory units after later)
        quiet =
            moves_quietly d.run code 1 (frame_of d place locals stack) (frame_of d (place + 1) units after) memory steps d.goes d.code one_move

  -- a local unit is loaded
  pub loads_unit : {place : ℕ} {instrs : List WInstr} (kind : Kind) (unit : WUnit) (steps : ℕ) (memory : Memory) (locals : Units)
      (stack : List Value) (value : Value)
      → StandAt u w place (load kind unit ∷ instrs)
      → slice_get locals (unit_number w.flat unit) ≡ Some (Some value)
      → IsTrue (has_kind kind value)
      → Done d (load kind unit ∷ []) place steps memory memory locals locals stack (value ∷ stack)
  loads_unit {place = place} kind unit steps memory locals stack value stand is fits =
      moved steps memory locals locals stack (value ∷ stack) stand (rw (there) refl) where
        there : local_value kind locals (unit_number w.flat unit) ≡ Some value
        there = rw (is, fits) refl

  -- and stored
  pub stores_unit : {place : ℕ} {instrs : List WInstr} (kind : Kind) (unit : WUnit) (steps : ℕ) (memory : Memory) (locals units : Units)
      (stack : List Value) (value : Value)
      → StandAt u w place (store kind unit ∷ instrs)
      → stored (unit_number w.flat unit) value locals ≡ Some units
      → IsTrue (has_kind kind value)
      → Done d (store kind unit ∷ []) place steps memory memory locals units (value ∷ stack) stack
  stores_unit {place = place} kind unit steps memory locals units stack value stand is fits =
      moved steps memory locals units (value ∷ stack) stack stand (rw (fits, is) refl)

  -- a reference is there twice
  pub doubles : {place : ℕ} {instrs : List WInstr} (steps : ℕ) (memory : Memory) (locals : Units) (stack : List Value) (reference : ℕ)
      → StandAt u w place (plain (Shuffle DUP) ∷ instrs)
      → Done d (plain (Shuffle DUP) ∷ []) place steps memory memory locals locals (Ref reference ∷ stack) (Ref reference ∷ Ref reference ∷ stack)
  doubles {place = place} steps memory locals stack reference stand =
      moved steps memory locals locals (Ref reference ∷ stack) (Ref reference ∷ Ref reference ∷ stack) stand refl

  -- null is pushed
  pub pushes_null : {place : ℕ} {instrs : List WInstr} (steps : ℕ) (memory : Memory) (locals : Units) (stack : List Value)
      → StandAt u w place (plain (Const imms.Null) ∷ instrs)
      → Done d (plain (Const imms.Null) ∷ []) place steps memory memory locals locals stack (Null ∷ stack)
  pushes_null {place = place} steps memory locals stack stand =
      moved steps memory locals locals stack (Null ∷ stack) stand refl

  -- ---- monitors

  pub enters_one : {place : ℕ} {instrs : List WInstr} (steps : ℕ) (memory : Memory) (locals : Units) (stack : List Value) (reference : ℕ)
      (one : Object)
      → StandAt u w place (plain Enter ∷ instrs)
      → object_at memory.heap reference ≡ Some one
      → Done d (plain Enter ∷ []) place steps memory (with_entered memory reference) locals locals (Ref reference ∷ stack) stack
  enters_one {place = place} steps memory locals stack reference one stand is = record {
    then_steps = steps + 1;
    quietly =
        quiet_gives d.run (frame_of d place locals (Ref reference ∷ stack)) memory (with_entered memory reference) steps
        (point_for place (plain Enter)) [] d.goes (at_point stand) tt (le-leb 1 (suc (length stack)) (omega arith)) (rw (is) refl);
  }

-- ---- parts of what stands

pub stand_first : {u : Setup} {w : WrittenMethod} {place : ℕ} (one more : List WInstr) → StandAt u w place (one ++ more) → StandAt u w place one
stand_first {u = u} {w = w} {place = place} one more stand = record {
  each = λ number low.
      stand.each number (let counted = length-append one more in omega (arith, low, counted))
      ∙ ap (option_map item) (in_front one more number low);
} where
  in_front : (left right : List WInstr) (number : ℕ) → number < length left → slice_get (left ++ right) number ≡ slice_get left number
  in_front [] right number low = absurd (omega (arith, low))
  in_front (first ∷ left) right zero low = refl
  in_front (first ∷ left) right (suc number) low = in_front left right number (omega (arith, low))

pub stand_behind : {u : Setup} {w : WrittenMethod} {place : ℕ} (one more : List WInstr) → StandAt u w place (one ++ more)
    → StandAt u w (place + length one) more
stand_behind {u = u} {w = w} {place = place} one more stand = record {
  each = λ number low.
      let counted = length-append one more in
      let same : (place + length one) + number ≡ place + (length one + number) = omega arith in
      ap (slice_get (items_of u.classes u.links w)) same
      ∙ stand.each (length one + number) (omega (arith, low, counted))
      ∙ ap (option_map item) (at_back one more number);
} where
  at_back : (left right : List WInstr) (number : ℕ) → slice_get (left ++ right) (length left + number) ≡ slice_get right number
  at_back [] right number = let zeroth : 0 + number ≡ number = omega arith in ap (slice_get right) zeroth
  at_back (first ∷ left) right number =
      let next : suc (length left) + number ≡ suc (length left + number) = omega arith in
      ap (slice_get (first ∷ left ++ right)) next ∙ at_back left right number
