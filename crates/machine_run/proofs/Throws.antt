-- The world in which a thrown object has landed.
use Rattle.std.proofs.Common.{◌≡◌, ◌<◌, ℕ, List, [], ◌∷◌, length, Option, Some, None, IfSome, IfNone, refl, ap, sym, subst, ◌∙◌, arith}
use Rattle.machine_values.specs.Frames.{MethodState}
use Rattle.machine_values.specs.declared.frame.RunFrame.{RunFrame}
use Rattle.machine_values.specs.declared.frame.RunFrame.TheVariants.{Library, Method}
use Rattle.machine_values.specs.declared.value.Value.TheVariants.{Ref}
use Rattle.member_link.specs.Machine.Performing.{landed, thrown_in, unlocked, unwind}
use Rattle.member_link.specs.Machine.Programs.{Program}
use Rattle.member_link.specs.Machine.Showing.{shows_threw}
use Rattle.member_link.specs.Machine.Worlds.{World, Memory, init_threw, stuck}
use Rattle.machine_run.proofs.Handlers.{shape_unlocked}
use Rattle.machine_run.proofs.Landings.{EndsInHandler, EndsInInitialiser, EndsInLibrary, Passed, nowhere_is, passed}
use Rattle.machine_run.specs.Inner.ThrowTargets.{shape_at, target_in}
use Rattle.machine_run.specs.Inner.Unwinding.{AreEnding, LandsAlike}
use Rattle.machine_run.specs.declared.throw_targets.ThrowTarget.{ThrowTarget}

-- ---- methods that end

pub none_ended : (left : ℕ) (w : World) → AreEnding left w w
none_ended left w = record {
  rest = refl;
  lands = λ P reference target same lands. record { lands = lands; unwound = refl };
}

pub one_ended :
    (left : ℕ) (before now next : World)
    → AreEnding left before now
    → left < length now.frames
    → ((f : MethodState) (rest : List RunFrame) → now.frames ≡ Method f ∷ rest
    → next ≡ record now { memory = unlocked now.memory f.held; frames = rest })
    → next ≡ record now { memory = next.memory; frames = next.frames }
    → AreEnding left before next
one_ended left before now next ending more ends same = record {
  rest = same ∙ ap (λ (w : World). record w { memory = next.memory; frames = next.frames }) ending.rest;
  lands = λ P reference target is lands. by P reference target (ending.lands P reference target is lands)
      (passed P (shape_at now.memory.heap reference) reference target now.frames now.memory refl (ending.lands P reference target is lands).lands
      (omega (arith, is)));
}
  where
    by : (P : Program) (reference : ℕ) (target : ThrowTarget)
        → LandsAlike P reference target before now
        → Passed P (shape_at now.memory.heap reference) reference target now.frames now.memory
        → LandsAlike P reference target before next
    by P reference target alike past =
        let step = ends past.top past.rest past.same in
        subst (LandsAlike P reference target before) (sym step)
        (record {
          lands = ap (λ (shape : Option _). target_in P shape past.rest) (shape_unlocked now.memory past.top.held reference) ∙ past.lands;
          unwound = alike.unwound ∙ past.unwound;
        })

-- ---- where it lands

module _ (P : Program) (before w now : World) (reference : ℕ)
    (since : w ≡ record before { memory = w.memory })
    (rest : now ≡ record w { memory = now.memory; frames = now.frames })
    (unwound : unwind P reference w.frames w.memory ≡ unwind P reference now.frames now.memory)
  where
    with_frames : (frames : List RunFrame) → record now { frames = frames } ≡ record before { memory = now.memory; frames = frames }
    with_frames frames =
        ap (λ (v : World). record v { frames = frames }) rest
        ∙ ap (λ (v : World). record v { memory = now.memory; frames = frames }) since

    pub landed_in_handler :
        (to : ℕ) (frames : List RunFrame)
        → EndsInHandler reference now.frames now.memory (unwind P reference now.frames now.memory) to
        → ((f : MethodState) (others : List RunFrame) → now.frames ≡ Method f ∷ others
        → frames ≡ Method (record f { place = to; stack = Ref reference ∷ [] }) ∷ others)
        → record now { frames = frames } ≡ thrown_in P before reference w.frames w.memory
    landed_in_handler to frames ends handles =
        with_frames frames
        ∙ ap (λ (others : List RunFrame). record before { memory = now.memory; frames = others }) (handles ends.top ends.rest ends.same)
        ∙ sym (ap (landed P before reference) (unwound ∙ ends.lands))

    pub landed_in_library :
        (frames : List RunFrame)
        → EndsInLibrary now.frames now.memory (unwind P reference now.frames now.memory)
        → ((made : Option ℕ) (others : List RunFrame) → now.frames ≡ Library made ∷ others
        → frames ≡ Library None ∷ others)
        → shows_threw P (record now { frames = frames }) reference ≡ thrown_in P before reference w.frames w.memory
    landed_in_library frames ends clears =
        ap (λ (v : World). shows_threw P v reference)
        (with_frames frames
        ∙ ap (λ (others : List RunFrame). record before { memory = now.memory; frames = others }) (clears ends.made ends.rest ends.same))
        ∙ sym (ap (landed P before reference) (unwound ∙ ends.lands))

    pub landed_in_initialiser :
        (frames : List RunFrame)
        → EndsInInitialiser now.frames now.memory (unwind P reference now.frames now.memory)
        → ((top : RunFrame) (others : List RunFrame) → now.frames ≡ top ∷ others → frames ≡ others)
        → record now { frames = frames; halt = init_threw } ≡ thrown_in P before reference w.frames w.memory
    landed_in_initialiser frames ends pops =
        ap (λ (v : World). record v { halt = init_threw })
        (with_frames frames
        ∙ ap (λ (others : List RunFrame). record before { memory = now.memory; frames = others }) (pops ends.top ends.rest ends.same))
        ∙ sym (ap (landed P before reference) (unwound ∙ ends.lands))

pub landed_nowhere :
    (P : Program) (w : World) (reference : ℕ) (memory : Memory)
    → target_in P (shape_at memory.heap reference) w.frames ≡ None
    → record w { halt = stuck } ≡ thrown_in P w reference w.frames memory
landed_nowhere P w reference memory none =
    sym (ap (landed P w reference) (nowhere_is P (shape_at memory.heap reference) reference w.frames memory refl none))

pub popped :
    (top : Option RunFrame) (old new : List RunFrame)
    → IfSome top (λ frame. old ≡ frame ∷ new) → IfNone top (old ≡ [])
    → (first : RunFrame) (others : List RunFrame) → old ≡ first ∷ others → new ≡ others
popped None old new some none first others is = absurd cc
popped (Some frame) old new some none first others is = cc
