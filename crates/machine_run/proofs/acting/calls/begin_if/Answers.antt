use Rattle.std.proofs.Common.{sym, ap, subst, ◌∙◌}
use Rattle.std.proofs.lemmas.Result.{on_ok_weaker}
use Rattle.class_tree.specs.Headers.{Classes}
use Rattle.member_link.specs.Machine.Programs.{folder_number}
use Rattle.member_link.specs.Machine.Worlds.{World, is_begun}
use Rattle.member_link.specs.TreePrograms.{IsProgram}
use Rattle.machine_run.proofs.BegunIf.{begins, stays}
use Rattle.machine_run.proofs.acting.calls.begin_if.Goals as goal

pub returns-then-is_begun : goal.returns-then-is_begun
returns-then-is_begun c = λ P is.
    stays P c.args.w.now c.in-Some.number (folder_number P c.args.class.now)
    (ap (λ (w : World). is_begun w.memory c.in-Some.number) (sym c.w.view_is) ∙ sym c.is_begun.ensures ∙ c.if-is_begun.true)
    (sym (c.folder_number.ensures P (subst (λ (classes : Classes). IsProgram classes P) (sym c.tree.ensures) is)) ∙ c.in-Some.is)

pub returns-else-is_begun : goal.returns-else-is_begun
returns-else-is_begun c =
    on_ok_weaker c.begin_class.result
    (λ begun P is.
    begun P is
    ∙ begins P c.args.w.now c.in-Some.number (folder_number P c.args.class.now)
    (ap (λ (w : World). is_begun w.memory c.in-Some.number) (sym c.w.view_is) ∙ sym c.is_begun.ensures ∙ c.if-is_begun.false)
    (sym (c.folder_number.ensures P (subst (λ (classes : Classes). IsProgram classes P) (sym c.tree.ensures) is)) ∙ c.in-Some.is))
    c.begin_class.ensures
