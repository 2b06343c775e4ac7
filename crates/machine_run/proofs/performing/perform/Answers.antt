use Rattle.std.proofs.Common.{◌≡◌, ◌∷◌, None, drop, sym, ap, subst, ◌∙◌}
use Rattle.std.proofs.lemmas.Result.{IfOk-weaker}
use Rattle.class_tree.specs.Headers.{Classes}
use Rattle.machine_values.specs.declared.frame.RunFrame.TheVariants.{Library, Method}
use Rattle.member_link.specs.Machine.Beginnings.{begun_on}
use Rattle.member_link.specs.Machine.Performing.{called, raised, thrown}
use Rattle.member_link.specs.Machine.Showing.{shows_asked}
use Rattle.member_link.specs.Machine.Worlds.{Halt, World, going}
use Rattle.machine_step.specs.Completing.{asked_of}
use Rattle.member_link.specs.TreePrograms.{IsProgram}
use Rattle.member_link.specs.RunOps.{throwable_name}
use Rattle.machine_run.specs.Inner.Performed.{operands_in, performed, without_operands}
use Rattle.machine_run.specs.Outcomes.{ended}
use Rattle.machine_run.proofs.StackUnseen.{raised_same, thrown_same}
use Rattle.machine_run.proofs.performing.perform.Goals as goal

pub returns-in-Raises-clause-performed : goal.returns-in-Raises-clause-performed
returns-in-Raises-clause-performed c =
    let w = c.args.w.now in
    let name = throwable_name c.in-Raises.throwable in
    IfOk-weaker c.raise.result _ _
    (λ outcome raises P f rest program is.
    raises P program
    ∙ ap (raised P w name) is
    ∙ sym (raised_same P w name f (drop c.args.count f.stack) rest)
    ∙ ap (performed P w f rest c.args.count) (sym c.in-Raises.is))
    c.raise.ensures.raised

pub returns-in-Throws-clause-performed : goal.returns-in-Throws-clause-performed
returns-in-Throws-clause-performed c =
    let w = c.args.w.now in
    IfOk-weaker c.throw.result _ _
    (λ outcome throws P f rest program is.
    throws P program
    ∙ ap (thrown P w c.in-Throws.at) is
    ∙ sym (thrown_same P w c.in-Throws.at f (drop c.args.count f.stack) rest)
    ∙ ap (performed P w f rest c.args.count) (sym c.in-Throws.is))
    c.throw.ensures.thrown

-- a world that goes on is one with this halt
goes_on : (w : World) → w.halt ≡ going → ended going w ≡ w
goes_on w is = ap (λ (h : Halt). ended h w) (sym is)

pub returns-in_ok-begin_class-in-Begins-clause-performed :
    goal.returns-in_ok-begin_class-in-Begins-clause-performed
returns-in_ok-begin_class-in-Begins-clause-performed c = λ P f rest program is.
    let w = c.args.w.now in
    ap (ended going) (c.in_ok-begin_class-in-Begins.ensures P program)
    ∙ goes_on (begun_on P c.in-Begins.class w w.frames) c.a_state_goes_on.ensures
    ∙ ap (begun_on P c.in-Begins.class w) is
    ∙ ap (performed P w f rest c.args.count) (sym c.in-Begins.is)

pub returns-in_ok-call-in-Calls-clause-performed : goal.returns-in_ok-call-in-Calls-clause-performed
returns-in_ok-call-in-Calls-clause-performed c = λ P f rest program is.
    let w = c.args.w.now in
    ap (ended going) (c.in_ok-call-in-Calls.ensures.called P f rest program is)
    ∙ goes_on (called P w c.in-Calls.at (operands_in c.args.count f) (Method (without_operands c.args.count f) ∷ rest)) c.a_state_goes_on.ensures
    ∙ ap (performed P w f rest c.args.count) (sym c.in-Calls.is)

pub returns-in_ok-ask-in-Asks-clause-performed : goal.returns-in_ok-ask-in-Asks-clause-performed
returns-in_ok-ask-in-Asks-clause-performed c = λ P f rest program is.
    let w = c.args.w.now in
    let tree : IsProgram c.tree.result.now P = subst (λ (classes : Classes). IsProgram classes P) (sym c.tree.ensures) program in
    let asking : World = record w { frames = Library None ∷ Method (without_operands c.args.count f) ∷ rest } in
    ap (ended going) (c.in_ok-ask-in-Asks.ensures P f rest tree is)
    ∙ goes_on (shows_asked P asking (asked_of (operands_in c.args.count f) c.in-Asks.asked)) c.a_state_goes_on.ensures
    ∙ ap (performed P w f rest c.args.count) (sym c.in-Asks.is)
