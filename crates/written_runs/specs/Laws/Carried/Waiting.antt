-- A planned frame at an instruction that is written as it is: with its operands, and where it waits without them.
use Rattle.std.proofs.Common.{◌≡◌, ◌≤◌, ◌-◌, ℕ, List, [], drop, length, reverse, slice_get, Some, IsTrue, sym, ap, subst, ◌∙◌}
use Rattle.std.proofs.lemmas.Bool.{false≢true}
use Rattle.std.proofs.lemmas.Option.{same_Some}
use Rattle.flow_code.specs.declared.point.Point.{Point}
use Rattle.machine_values.specs.Frames.{MethodState}
use Rattle.machine_values.specs.declared.value.Value.{Value}
use Rattle.plan_flow.specs.Written.Blocks.{Block, state_written}
use Rattle.plan_flow.specs.Written.Routes.{Route}
use Rattle.plan_flow.specs.Written.WrittenPrograms.{WrittenMethod}
use Rattle.same_runs.specs.Laws.CaughtUp.{less}
use Rattle.same_runs.specs.Laws.Names.{held_more, value_more}
use Rattle.same_runs.specs.Renamings.{Names, NamesMore, SameHeld}
use Rattle.virtual_state.specs.States.{State, is_present}
use Rattle.written_runs.specs.Inner.PlannedFrames.{AtBlock, InPlanned, IsCarried, IsInstructionOf, IsMet, Keeps, Known, KeptIn, Moment, arrives, scope_in, stays, waits}
use Rattle.written_runs.specs.Inner.Setup.{Setup, first}
use Rattle.written_runs.specs.Inner.Standing.{IsWaiting}
use Rattle.written_runs.specs.Inner.Waiting.{Awaits}
use Rattle.written_runs.specs.Laws.Carried.Operands.{HaveOperands}
use Rattle.written_runs.specs.Laws.Carried.Slots.{got_before, lowest_left}
use Rattle.written_runs.specs.Laws.StandingMore.{keeps_more}
use Rattle.written_runs.specs.VirtualObjects.{Tells, Virtual, Virtuals, stack_slots}

-- Two frames that stand at the block of an instruction, by the state in which it is written.
pub record AtInstruction (u : Setup) (virtuals : Virtuals) (names : Names) (frame : ℕ) (f g : MethodState) : Type 0 where
  pub w : WrittenMethod
  pub is_written : u.written g.at ≡ Some w
  pub at : f.at ≡ g.at
  pub held : SameHeld names f.held g.held
  pub point : Point
  pub route : Route
  pub block : Block
  pub here : AtBlock u w f g block
  pub of_instruction : IsInstructionOf u w f.place point route block
  pub tells : Tells (first u) (scope_in u w) virtuals frame point (state_written route) f
  pub keeps : Keeps w.flat names virtuals frame [] point (state_written route) f g

-- The same, where it is written as it is, and it is known of which classes virtual objects are.
pub record AtCarried (u : Setup) (virtuals : Virtuals) (known : Known) (names : Names) (frame : ℕ) (f g : MethodState) : Type 0 where
  pub w : WrittenMethod
  pub is_written : u.written g.at ≡ Some w
  pub at : f.at ≡ g.at
  pub held : SameHeld names f.held g.held
  pub point : Point
  pub route : Route
  pub block : Block
  pub here : AtBlock u w f g block
  pub of_instruction : IsInstructionOf u w f.place point route block
  pub met : IsMet u known w point route.state f
  pub carried : IsCarried u w f.place point route
  pub tells : Tells (first u) (scope_in u w) virtuals frame point (state_written route) f
  pub keeps : Keeps w.flat names virtuals frame [] point (state_written route) f g
  pub own : (number : ℕ) (virtual : Virtual)
      → slice_get virtuals number ≡ Some virtual
      → virtual.frame ≡ frame
      → IsTrue (is_present (state_written route).objects virtual.site)

abbrev pub instruction_of : {u : Setup} {virtuals : Virtuals} {known : Known} {names : Names} {frame : ℕ} {f g : MethodState}
    → AtCarried u virtuals known names frame f g
    → AtInstruction u virtuals names frame f g
instruction_of c = record {
  w = c.w;
  is_written = c.is_written;
  at = c.at;
  held = c.held;
  point = c.point;
  route = c.route;
  block = c.block;
  here = c.here;
  of_instruction = c.of_instruction;
  tells = c.tells;
  keeps = c.keeps;
}

-- under more names
abbrev pub instruction_more : {u : Setup} {virtuals : Virtuals} {names more : Names} {frame : ℕ} {f g : MethodState}
    → NamesMore names more
    → AtInstruction u virtuals names frame f g
    → AtInstruction u virtuals more frame f g
instruction_more {f = f} {g = g} grows c = record {
  w = c.w;
  is_written = c.is_written;
  at = c.at;
  held = held_more grows c.held;
  point = c.point;
  route = c.route;
  block = c.block;
  here = c.here;
  of_instruction = c.of_instruction;
  tells = c.tells;
  keeps =
      keeps_more (record { forth = λ site virtual there. there; back = λ site virtual there. there }) c.w.flat c.point (state_written c.route) f g grows
      c.keeps;
}

-- the same of a frame that waits there
pub record WaitsCarried (u : Setup) (virtuals : Virtuals) (known : Known) (names : Names) (frame : ℕ) (f g : MethodState) : Type 0 where
  pub c : AtCarried u virtuals known names frame f g
  pub awaits : Awaits u c.w f c.point c.route c.carried.instr

pub at_waiting : {u : Setup} {virtuals : Virtuals} {known : Known} {names : Names} {frame : ℕ} {f g : MethodState}
    (in_planned : InPlanned u virtuals known names frame f g)
    → IsWaiting in_planned.moment
    → WaitsCarried u virtuals known names frame f g
at_waiting {u = u} {virtuals = virtuals} {known = known} {names = names} {frame = frame} {f = f} {g = g} in_planned waiting =
    by in_planned.moment waiting where
      by : (moment : Moment u known in_planned.one f g in_planned.block) → IsWaiting moment → WaitsCarried u virtuals known names frame f g
      by (arrives here told) waits_there = absurd waits_there
      by (stays point route here of_instruction met) waits_there = absurd waits_there
      by (waits point route here of_instruction met carried awaits) waits_there = record {
        awaits = awaits;
        c = record {
          w = in_planned.one;
          is_written = in_planned.is_written;
          at = in_planned.at;
          held = in_planned.held;
          point = point;
          route = route;
          block = in_planned.block;
          here = here;
          of_instruction = of_instruction;
          met = met;
          carried = carried;
          tells =
              subst (λ (p : Point). Tells (first u) (scope_in u in_planned.one) virtuals frame p (state_written route) f) same_point
              (subst (λ (state : State). Tells (first u) (scope_in u in_planned.one) virtuals frame in_planned.point state f) same_state
              in_planned.tells);
          keeps =
              subst (λ (p : Point). Keeps in_planned.one.flat names virtuals frame [] p (state_written route) f g) same_point
              (subst (λ (state : State). Keeps in_planned.one.flat names virtuals frame [] in_planned.point state f g) same_state
              in_planned.keeps);
          own = λ number virtual is of_frame.
              subst (λ (state : State). IsTrue (is_present state.objects virtual.site)) same_state (in_planned.own number virtual is of_frame);
        };
      } where
        same_state : in_planned.block.state ≡ state_written route
        same_state = ap (λ (b : Block). b.state) of_instruction.is

        same_point : in_planned.point ≡ point
        same_point =
            same_Some in_planned.point point
            (sym in_planned.is_point ∙ ap (slice_get in_planned.one.flat.points) (ap (λ (b : Block). b.at) of_instruction.is)
            ∙ of_instruction.reached.is_point)

-- ---- where they stand as planned frames

module _ {u : Setup} {virtuals : Virtuals} {known : Known} {names : Names} {frame : ℕ} {f g : MethodState}
    (c : AtCarried u virtuals known names frame f g) where
  same_state : c.block.state ≡ state_written c.route
  same_state = ap (λ (b : Block). b.state) c.of_instruction.is

  planned_with : Moment u known c.w f g c.block → InPlanned u virtuals known names frame f g
  planned_with moment = record {
    one = c.w;
    is_written = c.is_written;
    at = c.at;
    held = c.held;
    block = c.block;
    moment = moment;
    point = c.point;
    is_point = ap (slice_get c.w.flat.points) (ap (λ (b : Block). b.at) c.of_instruction.is) ∙ c.of_instruction.reached.is_point;
    tells = subst (λ (state : State). Tells (first u) (scope_in u c.w) virtuals frame c.point state f) (sym same_state) c.tells;
    keeps = subst (λ (state : State). Keeps c.w.flat names virtuals frame [] c.point state f g) (sym same_state) c.keeps;
    own = λ number virtual is of_frame.
        subst (λ (state : State). IsTrue (is_present state.objects virtual.site)) (sym same_state) (c.own number virtual is of_frame);
  }

  -- at the instruction
  pub stays_with : InPlanned u virtuals known names frame f g
  stays_with = planned_with (stays c.point c.route c.here c.of_instruction c.met)

  -- without its operands
  module _ (awaits : Awaits u c.w f c.point c.route c.carried.instr) where
    pub waits_with : InPlanned u virtuals known names frame f g
    waits_with = planned_with (waits c.point c.route c.here c.of_instruction c.met c.carried awaits)

    pub waits_there : IsWaiting waits_with.moment
    unfolding waits_with planned_with
    waits_there = tt

-- ---- less operands

module _ {u : Setup} {virtuals : Virtuals} {known : Known} {names more : Names} {frame : ℕ} {f g : MethodState}
    (c : AtCarried u virtuals known names frame f g) (taken : ℕ) (enough : taken ≤ length f.stack) (grows : NamesMore names more)
    (operands : HaveOperands more (stack_slots c.point (state_written c.route)) taken f.stack g.stack) where
  -- an entry that is left was there
  pub left_entry : (place : ℕ) (value : Value)
      → slice_get (reverse (drop taken f.stack)) place ≡ Some value
      → slice_get (reverse f.stack) place ≡ Some value
  left_entry place value is =
      got_before (length f.stack - taken) (reverse f.stack) place value
      (ap (λ (values : List Value). slice_get values place) (sym (lowest_left taken f.stack enough)) ∙ is)

  pub in_unit : (unit : ℕ) (value : Value) → KeptIn names g unit value → KeptIn more (less taken g) unit value
  in_unit unit value kept = record { also = kept.also; is = kept.is; same = value_more grows kept.same }

  abbrev pub carried_less : AtCarried u virtuals known more frame (less taken f) (less taken g)
  carried_less = record {
    w = c.w;
    is_written = c.is_written;
    at = c.at;
    held = held_more grows c.held;
    point = c.point;
    route = c.route;
    block = c.block;
    here = record { number = c.here.number; is_block = c.here.is_block; place = c.here.place; place_also = c.here.place_also };
    of_instruction = record { reached = c.of_instruction.reached; is = c.of_instruction.is };
    met = record { locals = c.met.locals; stack = λ place site value is here. c.met.stack place site value is (left_entry place value here) };
    carried = record { class = c.carried.class; instr = c.carried.instr; is_instr = c.carried.is_instr; items = c.carried.items };
    tells = record {
      locals = c.tells.locals;
      stack = λ place site value is here. c.tells.stack place site value is (left_entry place value here);
      uninit_locals = c.tells.uninit_locals;
      uninit_stack = λ place type value is here site. c.tells.uninit_stack place type value is (left_entry place value here) site;
      objects = c.tells.objects;
    };
    keeps = record {
      locals = λ unit value is here. in_unit unit value (c.keeps.locals unit value is here);
      stack = operands.waiting;
      fields = λ site number told virtual value is there plain here. in_unit _ value (c.keeps.fields site number told virtual value is there plain here);
      made = λ site done. absurd (false≢true done);
      room = c.keeps.room;
    };
    own = c.own;
  }
