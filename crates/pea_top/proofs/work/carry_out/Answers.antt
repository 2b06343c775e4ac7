use Rattle.std.proofs.Common.{subst, sym}
use Rattle.pea_top.specs.Inner.Ended.{ended}
use Rattle.pea_top.proofs.Kept.{NeedsFrames, frames_type}
use Rattle.pea_top.proofs.Outcomes.{stop_carried}
use Rattle.pea_top.proofs.work.carry_out.Goals as goal

pub returns-in-Print-clause-stop : goal.returns-in-Print-clause-stop
returns-in-Print-clause-stop g c = λ input library task words spelled tells ready.
    let left = rw c.as_slice.ensures.value at (c.finish.ensures.left tells) in
    stop_carried words _ _ _ _ input library task spelled _ (rw c.in-Print.is at ready) (ended c.finish.result) left

pub returns-in-Ok-clause-stop : goal.returns-in-Ok-clause-stop
returns-in-Ok-clause-stop g c = λ input library task words spelled tells ready.
    let types = frames_type c.args.tree.now c.args.work.now _ c.kept-typed.result.now c.requires.kept (subst NeedsFrames (sym c.in-Optimise.is) tt) c.kept-typed.ensures in
    let left = rw (c.as_slice-in-Ok.ensures.value, c.as_slice-in-Ok-2.ensures.value) at (c.write_out.ensures.left tells) in
    stop_carried words _ _ _ _ input library task spelled _ (rw c.in-Optimise.is at ready) (ended c.write_out.result) (c.kept-typed.result.now, types, c.in-Ok.written, c.in-Ok.ensures, left)

pub returns-in-Ok-plan_text-clause-stop : goal.returns-in-Ok-plan_text-clause-stop
returns-in-Ok-plan_text-clause-stop g c = λ input library task words spelled tells ready.
    let types = frames_type c.args.tree.now c.args.work.now _ c.kept-typed-in-Plan.result.now c.requires.kept (subst NeedsFrames (sym c.in-Plan.is) tt) c.kept-typed-in-Plan.ensures in
    let left = rw c.as_slice-in-Ok-plan_text.ensures.value at (c.finish-in-Ok-plan_text.ensures.left tells) in
    stop_carried words _ _ _ _ input library task spelled _ (rw c.in-Plan.is at ready) (ended c.finish-in-Ok-plan_text.result) (c.kept-typed-in-Plan.result.now, types, c.in-Ok-plan_text.text.items, c.in-Ok-plan_text.ensures, left)

pub returns-in-Ok-both_text-clause-stop : goal.returns-in-Ok-both_text-clause-stop
returns-in-Ok-both_text-clause-stop g c = λ input library task words spelled tells ready.
    let types = frames_type c.args.tree.now c.args.work.now _ c.kept-typed-in-Both.result.now c.requires.kept (subst NeedsFrames (sym c.in-Both.is) tt) c.kept-typed-in-Both.ensures in
    let left = rw c.as_slice-in-Ok-both_text.ensures.value at (c.finish_noted-in-Ok-both_text.ensures.left tells) in
    stop_carried words _ _ _ _ input library task spelled _ (rw c.in-Both.is at ready) (ended c.finish_noted-in-Ok-both_text.result) (c.kept-typed-in-Both.result.now, types, c.in-Ok-both_text.text.items, c.in-Ok-both_text.ensures, left)
