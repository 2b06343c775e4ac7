-- Turns of a run as the code takes them.
use Rattle.std.proofs.Common.{◌≡◌, ◌+◌, ◌-◌, ◌<◌, ◌≤◌, ℕ, zero, suc, List, [], ◌∷◌, length, drop, slice_get, Some, true, false, refl, sym, ap, subst, arith, ◌∙◌}
use Rattle.machine_values.specs.declared.action.Action.{Action}
use Rattle.machine_values.specs.declared.event.End.{End}
use Rattle.machine_values.specs.declared.event.End.TheVariants as ends
use Rattle.member_link.specs.Machine.Acting.{act, is_fault}
use Rattle.member_link.specs.Machine.Programs.{Program}
use Rattle.member_link.specs.Machine.Runs.{Run, at_library_turn, begins_with, behind_action, end_of, end_of_going, going_turn, shown, turn, turns}
use Rattle.member_link.specs.Machine.Stepping.{is_library_turn, step}
use Rattle.member_link.specs.Machine.Worlds.{World, Halt, going, stopped, faulted, init_threw, array_too_long, stuck}
use Rattle.machine_step.specs.declared.world.Outcome.{Outcome}
use Rattle.machine_step.specs.declared.world.Outcome.TheVariants as outcomes
use Rattle.machine_run.specs.Outcomes.{ended, halt_of}
use Rattle.machine_run.specs.Inner.RunWords.{run_at, end_behind, HasEnded, IsTurned, HasRun}
use Rattle.machine_run.specs.Inner.StepWords.{Leads}

-- ---- how a run ends

-- a run that has halted stays as it is
pub halted_stays : (P : Program) (r : Run) (halt : Halt) (end : End) → r.world.halt ≡ halt → end_behind halt ≡ Some end → turn P r ≡ r
halted_stays P r going end is same = cc
halted_stays P r stopped end is same = rw is refl
halted_stays P r faulted end is same = cc
halted_stays P r init_threw end is same = rw is refl
halted_stays P r array_too_long end is same = rw is refl
halted_stays P r stuck end is same = rw is refl

pub halted_ends : (r : Run) (halt : Halt) (end : End) → r.world.halt ≡ halt → end_behind halt ≡ Some end → end_of r ≡ end
halted_ends r going end is same = cc
halted_ends r stopped end is same = (let e : ends.Stopped ≡ end = cc in rw is e)
halted_ends r faulted end is same = cc
halted_ends r init_threw end is same = (let e : ends.InitThrew ≡ end = cc in rw is e)
halted_ends r array_too_long end is same = (let e : ends.ArrayTooLong ≡ end = cc in rw is e)
halted_ends r stuck end is same = (let e : ends.Stuck ≡ end = cc in rw is e)

-- a world that goes on, but for how it halts
pub goes_on : (w : World) → w.halt ≡ going → ended going w ≡ w
goes_on w is = rw (← is) refl

-- ---- one turn

over : (P : Program) (actions : List Action) (count : ℕ) (before : World) (used : ℕ) (after : World) (more : ℕ) (halt : Halt) (end : End)
    → end_behind halt ≡ Some end
    → turns P count (run_at before actions used) ≡ run_at (ended halt after) actions more
    → HasEnded P (turns P count (run_at before actions used)) after end
over P actions count before used after more halt end ends is =
    let r = turns P count (run_at before actions used) in
    let halted : r.world.halt ≡ halt = ap (λ (s : Run). s.world.halt) is in
    record {
      stays = halted_stays P r halt end halted ends;
      events = ap (λ (s : Run). s.world.events) is;
      ended = halted_ends r halt end halted ends;
    }

-- turns by their world, where an end is told beside it
pub turned_by : (P : Program) (actions : List Action) (count : ℕ) (before : World) (used : ℕ) (after : World) (more : ℕ) (halt : Halt)
    → after.halt ≡ going
    → is_fault halt ≡ false
    → turns P count (run_at before actions used) ≡ run_at (ended halt after) actions more
    → IsTurned P actions count before used after more (end_behind halt)
turned_by P actions count before used after more going on fault is = is ∙ ap (λ (w : World). run_at w actions more) (goes_on after on)
turned_by P actions count before used after more stopped on fault is = over P actions count before used after more stopped ends.Stopped refl is
turned_by P actions count before used after more faulted on fault is = absurd cc
turned_by P actions count before used after more init_threw on fault is = over P actions count before used after more init_threw ends.InitThrew refl is
turned_by P actions count before used after more array_too_long on fault is = over P actions count before used after more array_too_long ends.ArrayTooLong refl is
turned_by P actions count before used after more stuck on fault is = over P actions count before used after more stuck ends.Stuck refl is

turn_of_going : (P : Program) (r : Run) → r.world.halt ≡ going → turn P r ≡ going_turn P r
turn_of_going P r is = rw is refl

-- a step
pub turn_of_step : (P : Program) (actions : List Action) (w : World) (used : ℕ)
    → w.halt ≡ going
    → is_library_turn w.frames ≡ false
    → turn P (run_at w actions used) ≡ run_at (step P w) actions used
turn_of_step P actions w used on own =
    let stepped : going_turn P (run_at w actions used) ≡ run_at (step P w) actions used = rw own refl in
    turn_of_going P (run_at w actions used) on ∙ stepped

pub no_step_is_fault : (outcome : Outcome) → is_fault (halt_of outcome) ≡ false
no_step_is_fault outcomes.Running = refl
no_step_is_fault outcomes.LibraryTurn = refl
no_step_is_fault outcomes.ArrayTooLong = refl
no_step_is_fault outcomes.InitThrew = refl
no_step_is_fault outcomes.Stuck = refl

-- steps
pub turned_by_steps : (P : Program) (actions : List Action) (count : ℕ) (before after : World) (used : ℕ) (halt : Halt)
    → after.halt ≡ going
    → is_fault halt ≡ false
    → Leads P count before (ended halt after)
    → IsTurned P actions count before used after used (end_behind halt)
turned_by_steps P actions count before after used halt on fault leads =
    turned_by P actions count before used after used halt on fault (leads.turned actions used)

-- the library's turn without an action
pub waits : (P : Program) (actions : List Action) (w : World) (used : ℕ)
    → w.halt ≡ going
    → is_library_turn w.frames ≡ true
    → drop used actions ≡ []
    → HasEnded P (turn P (run_at w actions used)) w ends.Waits
waits P actions w used now own none =
    let r = run_at w actions used in
    let stays : turn P r ≡ r = turn_of_going P r now ∙ rw (own, none) refl in
    subst (λ (s : Run). HasEnded P s w ends.Waits) (sym stays)
    (record { stays = stays; events = refl; ended = rw (now, own, none) refl })

-- an action of the library
pub action_turn : (P : Program) (actions rest : List Action) (action : Action) (w : World) (used : ℕ)
    → w.halt ≡ going
    → is_library_turn w.frames ≡ true
    → drop used actions ≡ action ∷ rest
    → turn P (run_at w actions used) ≡ behind_action (run_at w actions used) rest (act P action w)
action_turn P actions rest action w used now own next =
    turn_of_going P (run_at w actions used) now
    ∙ rw own (ap (at_library_turn P (run_at w actions used)) next)

-- an action that is a fault
pub turned_by_fault : (P : Program) (actions rest : List Action) (action : Action) (before after : World) (used : ℕ)
    → before.halt ≡ going
    → is_library_turn before.frames ≡ true
    → drop used actions ≡ action ∷ rest
    → ended faulted after ≡ act P action before
    → HasEnded P (turn P (run_at before actions used)) after (ends.LibraryFault used)
turned_by_fault P actions rest action before after used now own next is =
    let r = run_at before actions used in
    let found : Run = record r { world = ended faulted after } in
    let same : turn P r ≡ found =
    action_turn P actions rest action before used now own next ∙ ap (behind_action r rest) (sym is)
    in
    subst (λ (s : Run). HasEnded P s after (ends.LibraryFault used)) (sym same) (record { stays = refl; events = refl; ended = refl })

-- an action that is none
pub turned_by_action : (P : Program) (actions : List Action) (action : Action) (before after : World) (used : ℕ) (halt : Halt)
    → before.halt ≡ going
    → after.halt ≡ going
    → is_library_turn before.frames ≡ true
    → drop used actions ≡ action ∷ drop (used + 1) actions
    → is_fault halt ≡ false
    → ended halt after ≡ act P action before
    → IsTurned P actions 1 before used after (used + 1) (end_behind halt)
turned_by_action P actions action before after used halt now on own next fault is =
    let r = run_at before actions used in
    let left = drop (used + 1) actions in
    let done : behind_action r left (ended halt after) ≡ run_at (ended halt after) actions (used + 1) = rw fault refl in
    turned_by P actions 1 before used after (used + 1) halt on fault
    (action_turn P actions left action before used now own next ∙ ap (behind_action r left) (sym is) ∙ done)

-- the actions from one on
pub next_action : (actions : List Action) (used : ℕ) (action : Action) → slice_get actions used ≡ Some action
    → drop used actions ≡ action ∷ drop (suc used) actions
next_action [] used action is = cc
next_action (first ∷ others) zero action is = (let e : Some first ≡ Some action = is in cc)
next_action (first ∷ others) (suc used) action is = next_action others used action is

-- where as many are used as there are, none is left
pub none_left : (actions : List Action) (used : ℕ) → length actions ≤ used → drop used actions ≡ []
none_left [] zero many = refl
none_left [] (suc used) many = refl
none_left (first ∷ others) zero many = absurd (omega (arith, many))
none_left (first ∷ others) (suc used) many = none_left others used (omega (arith, many))

-- ---- many turns

-- a run that stays is as it is after more turns
pub stays_on : (P : Program) (count : ℕ) (r : Run) → turn P r ≡ r → turns P count r ≡ r
stays_on P zero r is = refl
stays_on P (suc count) r is = ap (turns P count) is ∙ stays_on P count r is

pub one_more : (P : Program) (count : ℕ) (r : Run) → turns P (suc count) r ≡ turn P (turns P count r)
one_more P zero r = refl
one_more P (suc count) r = one_more P count (turn P r)

pub turns_left : (P : Program) (done left total : ℕ) (r : Run) → total ≡ done + left → turns P total r ≡ turns P left (turns P done r)
turns_left P zero left total r is = (let e : total ≡ left = omega (arith, is) in ap (λ n. turns P n r) e)
turns_left P (suc done) left total r is =
    let e : total ≡ suc (done + left) = omega (arith, is) in
    ap (λ n. turns P n r) e ∙ turns_left P done left (done + left) (turn P r) refl

-- the run ended before its turns were used up
pub ended_run : (P : Program) (actions : List Action) (done count total : ℕ) (before after : World) (used : ℕ) (end : End)
    → done + count ≤ total
    → turns P done (begins_with actions) ≡ run_at before actions used
    → HasEnded P (turns P count (run_at before actions used)) after end
    → HasRun P actions total after end
ended_run P actions done count total before after used end within is over =
    let r = turns P count (run_at before actions used) in
    let left = total - (done + count) in
    let parts : total ≡ done + (count + left) = omega (arith, within) in
    let same : turns P total (begins_with actions) ≡ r =
    turns_left P done (count + left) total (begins_with actions) parts
    ∙ ap (turns P (count + left)) is
    ∙ turns_left P count left (count + left) (run_at before actions used) refl
    ∙ stays_on P left r over.stays
    in
    ap shown same ∙ rw (over.events, over.ended) refl

-- the turns of a run are used up
pub left_run : (P : Program) (actions : List Action) (total : ℕ) (w : World) (used : ℕ)
    → w.halt ≡ going
    → turns P total (begins_with actions) ≡ run_at w actions used
    → HasRun P actions total w (end_of_going (run_at w actions used))
left_run P actions total w used on is = ap shown is ∙ rw on refl

-- ---- actions that are left

-- there is one behind those that are used, if these are not all
pub one_left : (actions : List Action) (used : ℕ) → used < length actions
    → (action : Action) × (rest : List Action) × (drop used actions ≡ action ∷ rest)
one_left [] used few = absurd (omega (arith, few))
one_left (first ∷ others) zero few = (first, others, refl)
one_left (first ∷ others) (suc used) few = one_left others used (omega (arith, few))

-- then a run at the library's turn does not wait
pub runs_on : (w : World) (actions : List Action) (used : ℕ) → is_library_turn w.frames ≡ true → used < length actions
    → end_of_going (run_at w actions used) ≡ ends.Running
runs_on w actions used own few =
    let left = one_left actions used few in
    rw (own, left.2) refl
