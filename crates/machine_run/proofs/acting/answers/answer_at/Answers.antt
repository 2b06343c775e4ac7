use Rattle.std.proofs.Common.{◌≡◌, List, length, slice_get, Option, Some, None, refl, sym, ap, ◌∙◌}
use Rattle.std.proofs.lemmas.Option.{slice_get_past, slice_get_read}
use Rattle.member_link.specs.declared.run_op.RunOp.{RunOp}
use Rattle.member_link.specs.Machine.Acting.{Pending}
use Rattle.machine_run.specs.Inner.ActingWords.{answer_for}
use Rattle.machine_run.proofs.Waiting.{awaited_by_place, awaited_of}
use Rattle.machine_run.proofs.acting.answers.answer_at.Goals as goal

pub returns-in-Some : goal.returns-in-Some
returns-in-Some c = λ P at program is.
    let found : slice_get c.args.method.now.ops.items c.args.place ≡ Some c.in-Some.op.now =
    ap (λ (ops : List RunOp). slice_get ops c.args.place) (sym c.deref.ensures.value)
    ∙ slice_get_read c.deref.result.now (length c.deref.result.now) c.args.place c.in-Some.op.now refl c.in-Some.ensures.lookup.3.0 c.in-Some.ensures.lookup.1
    in
    c.answer_of.ensures P program
    ∙ ap (λ (pending : Option Pending). answer_for P c.args.w.now pending c.args.value)
    (ap awaited_of (sym found) ∙ awaited_by_place P at c.args.method.now c.args.place is)

pub returns-in-None : goal.returns-in-None
returns-in-None c = λ P at program is.
    let found : slice_get c.args.method.now.ops.items c.args.place ≡ None =
    ap (λ (ops : List RunOp). slice_get ops c.args.place) (sym c.deref.ensures.value)
    ∙ slice_get_past c.deref.result.now c.args.place c.in-None.ensures.lookup.3
    in
    ap (λ (pending : Option Pending). answer_for P c.args.w.now pending c.args.value)
    (ap awaited_of (sym found) ∙ awaited_by_place P at c.args.method.now c.args.place is)
