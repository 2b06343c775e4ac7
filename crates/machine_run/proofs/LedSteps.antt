-- How several steps of a run are taken together.
use Rattle.std.proofs.Common.{◌≡◌, ◌∷◌, ◌+◌, ◌<◌, ◌≤◌, ℕ, suc, List, [], false, refl, sym, ap, subst, arith, ◌∙◌}
use Rattle.machine_values.specs.Frames.{MethodState}
use Rattle.machine_values.specs.declared.frame.RunFrame.{RunFrame}
use Rattle.machine_values.specs.declared.frame.RunFrame.TheVariants.{Method}
use Rattle.member_link.specs.Machine.Bounds.{HasBoundedCounts, NextHasFewDimensions}
use Rattle.member_link.specs.Machine.Programs.{Program, point_at}
use Rattle.member_link.specs.Machine.Runs.{Run, turn, turns}
use Rattle.member_link.specs.Machine.Stepping.{frames_step, is_library_turn, point_step, step}
use Rattle.member_link.specs.Machine.Worlds.{Halt, Memory, World, going}
use Rattle.machine_step.specs.Bounded.{CanGoOn, IsBoundedWorld}
use Rattle.machine_step.specs.Room.{HasRoom}
use Rattle.machine_run.specs.Inner.Performed.{HasBoundedNext, IsKept, IsNextBounded, TopHasNext, operated_world, world_operated}
use Rattle.machine_run.specs.Inner.RunWords.{run_at}
use Rattle.machine_run.specs.Inner.StepWords.{Leads, Runs, behind}
use Rattle.machine_run.specs.Outcomes.{ended}
use Rattle.machine_run.specs.declared.stepping.Operated.{Operated}
use Rattle.machine_run.proofs.OperatedWorlds.{operated_is}
use Rattle.machine_run.proofs.RunTurns.{one_more, turn_of_step}
use Rattle.machine_run.proofs.StepParts.{few_next, has_next, step_is}

-- what steps keep
pub record KeepsBounds (P : Program) : Type 0 where
  pub counts : (w : World) → NextHasFewDimensions P w.frames → HasBoundedCounts w → HasBoundedCounts (step P w)
  pub places : (w : World) → TopHasNext P w.frames → CanGoOn w.frames → CanGoOn (step P w).frames

-- no step
pub none_led : (P : Program) (w : World) → IsBoundedWorld w → Leads P 0 w w
none_led P w bounded = record { turned = λ actions used. refl; bounded = bounded }

-- one step
pub step_led :
    (P : Program) (w v : World)
    → KeepsBounds P
    → w.halt ≡ going
    → is_library_turn w.frames ≡ false
    → IsNextBounded P w.frames
    → IsBoundedWorld w
    → v ≡ step P w
    → Leads P 1 w v
step_led P w v keeps on own next bounded is =
    let stepped : IsBoundedWorld (step P w) = record {
      counts = keeps.counts w (few_next P w.frames next) bounded.counts;
      places = keeps.places w (has_next P w.frames next) bounded.places;
    } in
    record {
      turned = λ actions used. turn_of_step P actions w used on own ∙ ap (λ (u : World). run_at u actions used) (sym is);
      bounded = subst IsBoundedWorld (sym is) stepped;
    }

-- one step more
pub led_on : (P : Program) (count : ℕ) (w v u : World) → Leads P count w v → Leads P 1 v u → Leads P (count + 1) w u
led_on P count w v u first then = record {
  turned = λ actions used.
      let more : count + 1 ≡ suc count = omega arith in
      ap (λ (n : ℕ). turns P n (run_at w actions used)) more
      ∙ one_more P count (run_at w actions used)
      ∙ ap (turn P) (first.turned actions used)
      ∙ then.turned actions used;
  bounded = then.bounded;
}

pub led_bounded : (P : Program) (count : ℕ) (w v : World) (halt : Halt) → Leads P count w (ended halt v) → IsBoundedWorld v
led_bounded P count w v halt leads = record { counts = leads.bounded.counts; places = leads.bounded.places }

-- the only step of one
pub step_of_led :
    (P : Program) (count : ℕ) (w v : World)
    → w.halt ≡ going
    → is_library_turn w.frames ≡ false
    → 0 < count
    → count ≤ 1
    → Leads P count w v
    → v ≡ step P w
step_of_led P count w v on own some few leads =
    let one : count ≡ 1 = omega (arith, some, few) in
    let turned : turn P (run_at w [] 0) ≡ run_at v [] 0 = subst (λ (n : ℕ). turns P n (run_at w [] 0) ≡ run_at v [] 0) one (leads.turned [] 0) in
    ap (λ (r : Run). r.world) (sym turned ∙ turn_of_step P [] w 0 on own)

-- ---- operations of a frame

pub start_led :
    (P : Program) (w : World) (rest : List RunFrame) (f : MethodState) (memory : Memory) (left : ℕ)
    → Runs w rest f memory left
    → Leads P 0 w (behind w rest f memory 0)
start_led P w rest f memory left runs =
    let none : w.steps ≡ w.steps + 0 = omega arith in
    let same : w ≡ behind w rest f memory 0 =
    ap (λ (frames : List RunFrame). let v : World = record w { frames = frames } in v) runs.top
    ∙ ap (λ (m : Memory). let v : World = record w { frames = Method f ∷ rest; memory = m } in v) runs.remembers
    ∙ ap (λ (n : ℕ). let v : World = record w { frames = Method f ∷ rest; memory = memory; steps = n } in v) none
    in
    subst (Leads P 0 w) same (none_led P w runs.bounded)

own_step :
    (P : Program) (w : World) (f : MethodState) (rest : List RunFrame)
    → w.frames ≡ Method f ∷ rest
    → step P w ≡ point_step P (record w { steps = w.steps + 1 }) f rest (point_at P f.at f.place)
own_step P w f rest top =
    step_is P w (ap is_library_turn top) ∙ ap (frames_step P (record w { steps = w.steps + 1 })) top

pub operation_led :
    (P : Program) (w : World) (f g : MethodState) (rest : List RunFrame) (new : Memory) (operated : Operated)
    → KeepsBounds P
    → w.frames ≡ Method f ∷ rest
    → w.halt ≡ going
    → IsBoundedWorld w
    → HasBoundedNext P f
    → IsKept f g w.memory new operated
    → operated_world P (record w { steps = w.steps + 1 }) f g rest new operated
    ≡ point_step P (record w { steps = w.steps + 1 }) f rest (point_at P f.at f.place)
    → Leads P 1 w (world_operated P (behind w rest g new 1) g rest operated)
operation_led P w f g rest new operated keeps top on bounded next kept is =
    step_led P w (world_operated P (behind w rest g new 1) g rest operated) keeps on (ap is_library_turn top)
    (subst (IsNextBounded P) (sym top) next) bounded
    (operated_is P (record w { steps = w.steps + 1 }) f g rest new operated top kept
    ∙ is ∙ sym (own_step P w f rest top))

-- one operation more
pub operation_led_on :
    (P : Program) (w : World) (count : ℕ) (f g : MethodState) (rest : List RunFrame) (memory new : Memory) (operated : Operated)
    → KeepsBounds P
    → w.halt ≡ going
    → Leads P count w (behind w rest f memory count)
    → HasBoundedNext P f
    → IsKept f g memory new operated
    → ((v : World) → v.memory ≡ memory → operated_world P v f g rest new operated ≡ point_step P v f rest (point_at P f.at f.place))
    → Leads P (count + 1) w (world_operated P (behind w rest g new (count + 1)) g rest operated)
operation_led_on P w count f g rest memory new operated keeps on first next kept is =
    let v = behind w rest f memory count in
    let one : Leads P 1 v (world_operated P (behind v rest g new 1) g rest operated) =
    operation_led P v f g rest new operated keeps refl on first.bounded next kept (is (record v { steps = v.steps + 1 }) refl)
    in
    let sum : w.steps + count + 1 ≡ w.steps + (count + 1) = omega arith in
    subst (λ (n : ℕ). Leads P (count + 1) w (world_operated P (record w { frames = Method g ∷ rest; memory = new; steps = n }) g rest operated)) sum
    (led_on P count w v (world_operated P (behind v rest g new 1) g rest operated) first one)

-- a world that can count one step more has room
pub room_behind :
    (P : Program) (w : World) (rest : List RunFrame) (f g : MethodState) (memory new : Memory) (count left : ℕ)
    → Runs w rest f memory left
    → count < left
    → Leads P count w (behind w rest g new count)
    → HasRoom new
room_behind P w rest f g memory new count left runs more leads = record {
  steps = w.steps + count;
  few = omega (arith, runs.few, more);
  bounded = leads.bounded.counts;
}
