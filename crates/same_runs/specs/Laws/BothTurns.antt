-- Turns of both runs where frames of methods, or of the library, are on top of both; and what goes together behind a turn of both.
use Rattle.std.proofs.Common.{◌≡◌, ◌≢◌, ◌+◌, ◌++◌, ℕ, Bool, true, false, List, [], ◌∷◌, Option, Some, refl, sym, ap, subst, ◌∙◌}
use Rattle.std.proofs.lemmas.List.{append-nil}
use Rattle.machine_values.specs.Frames.{MethodState}
use Rattle.machine_values.specs.declared.action.Action.{Action}
use Rattle.machine_values.specs.declared.frame.RunFrame.{RunFrame}
use Rattle.machine_values.specs.declared.frame.RunFrame.TheVariants.{Library, Method}
use Rattle.machine_values.specs.declared.value.Value.{Value}
use Rattle.member_link.specs.Machine.Acting.{act, is_fault}
use Rattle.member_link.specs.Machine.Ops.{Op}
use Rattle.member_link.specs.Machine.Programs.{Point, Program, point_at}
use Rattle.member_link.specs.Machine.Runs.{Run, at_library_turn, behind_action, turn}
use Rattle.member_link.specs.Machine.Stepping.{op_step}
use Rattle.member_link.specs.Machine.Work.{arity, work}
use Rattle.member_link.specs.Machine.Worlds.{World, going, stuck}
use Rattle.same_runs.specs.Renamings.{Names, SameValues, no_values}
use Rattle.same_runs.specs.SameMemories.{SameMemories}
use Rattle.same_runs.specs.SameMoves.{MovesAlike}
use Rattle.same_runs.specs.SamePrograms.{SameOp, SamePrograms}
use Rattle.same_runs.specs.SameWorlds.{AtLibrary, Comparison, Compares, Goes, Returns, SameAfter, SameSeen, both_go, both_landed, both_over, second_begins}
use Rattle.same_runs.specs.Simulations.{Quietly, at_once}
use Rattle.same_runs.specs.Laws.Acted.{act_same}
use Rattle.same_runs.specs.Laws.BothBegin.{counted}
use Rattle.same_runs.specs.Laws.CaughtUp.{BothTurn, less, operands_of, operation_kept}
use Rattle.same_runs.specs.Laws.MovedAlike.{moved_alike}
use Rattle.same_runs.specs.Laws.Operations.{WorksOnOperands, at_operation}
use Rattle.same_runs.specs.Laws.QuietBeginnings.{BeginAlike}
use Rattle.same_runs.specs.Laws.Returned.{return_step_same, returned_same}
use Rattle.same_runs.specs.Laws.Settled.{SameSettled, SettlesTo, settled_going, settled_landed, settled_over, settles}
use Rattle.same_runs.specs.Laws.Turns.{Family, family_of, has_meaning, has_operands, means_nothing, moves, returns_nothing, returns_value, turned_by_library, turned_by_op, works}

-- ---- frames of methods on top

-- Runs with frames of methods on top, where all else goes together.
pub record AtMethods (P : Program) (c : Comparison) (names : Names) (one other : Run) (f g : MethodState) (rest others : List RunFrame) : Type 0 where
  pub stands : one.world.frames ≡ Method f ∷ rest
  pub stands_also : other.world.frames ≡ Method g ∷ others
  pub memories : SameMemories P c.allocated c.entered c.apart names [] one.world.memory other.world.memory
  pub seen : SameSeen c names one.world other.world
  pub goes : one.world.halt ≡ going
  pub goes_also : other.world.halt ≡ going

module _ {P Q : Program} {c : Comparison} {names : Names} {one other : Run} {f g : MethodState} {rest others : List RunFrame} {point : Point}
    (at : AtMethods P c names one other f g rest others) (is : point_at P f.at f.place ≡ Some point) where
  -- a step of each
  pub both_step : (also : Point)
      → point_at Q g.at g.place ≡ Some also
      → SameAfter P c names (op_step P (counted one) f rest point.op) (op_step Q (counted other) g others also.op)
      → BothTurn P Q c names one other
  both_step also is_also then = record {
    waits = other;
    quietly = at_once;
    first = op_step P (counted one) f rest point.op;
    second = op_step Q (counted other) g others also.op;
    turned = turned_by_op P one f rest point at.goes at.stands is;
    turned_also = turned_by_op Q other g others also at.goes_also at.stands_also is_also;
    after = then;
  }

  module _ (same : SamePrograms P Q) (alike : BeginAlike P Q) (compares : Compares c) (goes_on : (op_step P (counted one) f rest point.op).halt ≢ stuck) where
    -- an operation on operands that is in both, over a stack that may go on below in the second
    pub both_work_on : (also : Point) (top below : List Value)
        → point_at Q g.at g.place ≡ Some also
        → WorksOnOperands point.op
        → SameOp P Q point.op also.op
        → g.stack ≡ top ++ below
        → SameValues names f.stack top
        → Goes P Q c names (work P one.world.memory point.op (operands_of (arity point.op) f)) f (less (arity point.op) f) g
        (less (arity also.op) g) rest others
        → BothTurn P Q c names one other
    both_work_on also top below is_also work_is same_ops stack are goes =
        operation_kept same alike compares one
        (at_operation top below at.goes at.goes_also at.stands at.stands_also is is_also work_is same_ops
        (has_operands P (counted one) f rest point.op work_is goes_on) stack are at.memories at.seen goes)

    -- One turn of a method that runs its own code in both.
    pub own_turned : point_at Q g.at g.place ≡ Some point
        → (WorksOnOperands point.op → SameOp P Q point.op point.op)
        → SameValues names f.stack g.stack
        → Goes P Q c names (work P one.world.memory point.op (operands_of (arity point.op) f)) f (less (arity point.op) f) g
        (less (arity point.op) g) rest others
        → MovesAlike P Q c names f g rest others
        → Returns P Q c names f g rest others
        → BothTurn P Q c names one other
    own_turned is_also same_ops are goes moved returns = by (family_of point.op) where
      seen : SameSeen c names (counted one) (counted other)
      seen = record { known = at.seen.known; events = at.seen.events }

      done : (op : Op) → point.op ≡ op
          → SameAfter P c names (op_step P (counted one) f rest op) (op_step Q (counted other) g others op)
          → BothTurn P Q c names one other
      done op e then =
          both_step point is_also
          (subst (λ (o : Op). SameAfter P c names (op_step P (counted one) f rest o) (op_step Q (counted other) g others o)) (sym e) then)

      by : Family point.op → BothTurn P Q c names one other
      by (moves move) =
          both_step point is_also
          (moved_alike {first = counted one} {second = counted other} same compares at.memories seen at.goes at.goes_also moved point.op move)
      by (works work_is) = both_work_on point g.stack [] is_also work_is (same_ops work_is) (sym (append-nil g.stack)) are goes
      by (returns_nothing e) =
          done _ e (returned_same same compares (counted one) (counted other) at.memories seen at.goes at.goes_also returns no_values)
      by (returns_value type e) =
          done _ e (return_step_same same compares (counted one) (counted other) at.memories seen at.goes at.goes_also type returns are)
      by (means_nothing e) = absurd (has_meaning P (counted one) f rest point.op goes_on e)

-- ---- frames of the library on top

-- worlds behind a turn of both halt the same
pub same_halt : {P : Program} {c : Comparison} {names : Names} {one other : World} → SameAfter P c names one other → other.halt ≡ one.halt
same_halt (both_go more grows frames memories seen goes goes_also) = goes_also ∙ sym goes
same_halt (both_landed more grows frames memories seen goes goes_also) = goes_also ∙ sym goes
same_halt (second_begins more class rest grows is no_turn quiet frames memories seen goes goes_also) = goes_also ∙ sym goes
same_halt (both_over more seen over same) = same

-- The library's turn in both: no action is left, and they stay; or they take the same.
pub data LibraryTurn (P Q : Program) (c : Comparison) (names : Names) (one other : Run) : Type 0 where
  waits_for_action : turn P one ≡ one → turn Q other ≡ other → LibraryTurn P Q c names one other
  takes_action : (action : Action) (ones others : Run)
      → turn P one ≡ ones
      → turn Q other ≡ others
      → ones.world ≡ act P action one.world
      → others.actions ≡ ones.actions
      → others.used ≡ ones.used
      → SameAfter P c names ones.world others.world
      → LibraryTurn P Q c names one other

module _ {P Q : Program} {c : Comparison} {names : Names} {one other : Run} {made made_also : Option ℕ} {rest others : List RunFrame}
    (same : SamePrograms P Q) (compares : Compares c) (stands : one.world.frames ≡ Library made ∷ rest)
    (stands_also : other.world.frames ≡ Library made_also ∷ others)
    (memories : SameMemories P c.allocated c.entered c.apart names [] one.world.memory other.world.memory)
    (seen : SameSeen c names one.world other.world) (goes : one.world.halt ≡ going) (goes_also : other.world.halt ≡ going)
    (actions_same : other.actions ≡ one.actions) (used : other.used ≡ one.used) (at : AtLibrary P Q c names made made_also rest others) where
  waits : one.actions ≡ [] → LibraryTurn P Q c names one other
  waits none =
      waits_for_action (turned_by_library P one made rest goes stands ∙ ap (at_library_turn P one) none)
      (turned_by_library Q other made_also others goes_also stands_also ∙ ap (at_library_turn Q other) (actions_same ∙ none))

  -- an action is taken
  module _ (action : Action) (actions : List Action) (left : one.actions ≡ action ∷ actions) where
    first : World
    first = act P action one.world

    second : World
    second = act Q action other.world

    then : SameAfter P c names first second
    unfolding first second
    then = act_same same compares memories seen goes goes_also stands stands_also at action

    turned : turn P one ≡ behind_action one actions first
    unfolding first
    turned = turned_by_library P one made rest goes stands ∙ ap (at_library_turn P one) left

    turned_also : turn Q other ≡ behind_action other actions second
    unfolding second
    turned_also = turned_by_library Q other made_also others goes_also stands_also ∙ ap (at_library_turn Q other) (actions_same ∙ left)

    first_is : first ≡ act P action one.world
    unfolding first
    first_is = refl

    takes : LibraryTurn P Q c names one other
    takes = by (is_fault first.halt) refl where
      by : (b : Bool) → is_fault first.halt ≡ b → LibraryTurn P Q c names one other
      by true e =
          let also : is_fault second.halt ≡ true = ap is_fault (same_halt then) ∙ e in
          let led : behind_action one actions first ≡ record one { world = first } = rw (e) refl in
          let led_also : behind_action other actions second ≡ record other { world = second } = rw (also) refl in
          takes_action action (record one { world = first }) (record other { world = second }) (turned ∙ led) (turned_also ∙ led_also) first_is actions_same
          used then
      by false e =
          let also : is_fault second.halt ≡ false = ap is_fault (same_halt then) ∙ e in
          let ones : Run = record { world = first; actions = actions; used = one.used + 1 } in
          let ones_also : Run = record { world = second; actions = actions; used = other.used + 1 } in
          let led : behind_action one actions first ≡ ones = rw (e) refl in
          let led_also : behind_action other actions second ≡ ones_also = rw (also) refl in
          takes_action action ones ones_also (turned ∙ led) (turned_also ∙ led_also) first_is refl (ap (λ (n : ℕ). n + 1) used) then

  -- One turn of the library.
  pub library_turned : LibraryTurn P Q c names one other
  library_turned = by one.actions refl where
    by : (actions : List Action) → one.actions ≡ actions → LibraryTurn P Q c names one other
    by [] left = waits left
    by (action ∷ actions) left = takes action actions left

-- ---- behind a turn of both

-- The second goes on quietly, and both go on then, or both are over.
pub data BehindBoth (P Q : Program) (c : Comparison) (one : World) (other : Run) : Type 0 where
  both_go_on : (waits : Run) (more : Names)
      → Quietly Q other waits
      → waits.actions ≡ other.actions
      → waits.used ≡ other.used
      → c.frames more one.frames waits.world.frames
      → SameMemories P c.allocated c.entered c.apart more [] one.memory waits.world.memory
      → SameSeen c more one waits.world
      → one.halt ≡ going
      → waits.world.halt ≡ going
      → BehindBoth P Q c one other
  both_are_over : (waits : Run) (more : Names)
      → Quietly Q other waits
      → waits.actions ≡ other.actions
      → waits.used ≡ other.used
      → SameSeen c more one waits.world
      → one.halt ≢ going
      → waits.world.halt ≡ one.halt
      → BehindBoth P Q c one other

-- Where frames in which an object has landed go together as others do.
pub behind_both : {P Q : Program} {c : Comparison} {names : Names} {one : World} {other : Run}
    → SamePrograms P Q
    → BeginAlike P Q
    → Compares c
    → ((more : Names) (ones others : List RunFrame) → c.lands more ones others → c.frames more ones others)
    → SameAfter P c names one other.world
    → BehindBoth P Q c one other
behind_both {P = P} {Q = Q} {c = c} {names = names} {one = one} {other = other} same alike compares lands then = by (settles same alike compares then) where
  settled : (waits : Run) → Quietly Q other waits → waits.actions ≡ other.actions → waits.used ≡ other.used
      → SameSettled P c names one waits.world
      → BehindBoth P Q c one other
  settled waits quietly left taken (settled_going more grows frames memories seen goes goes_also) =
      both_go_on waits more quietly left taken frames memories seen goes goes_also
  settled waits quietly left taken (settled_landed more grows frames memories seen goes goes_also) =
      both_go_on waits more quietly left taken (lands more one.frames waits.world.frames frames) memories seen goes goes_also
  settled waits quietly left taken (settled_over more seen over same_halts) = both_are_over waits more quietly left taken seen over same_halts

  by : SettlesTo P Q c names one other → BehindBoth P Q c one other
  by to = settled to.waits to.quietly to.actions to.used to.same
