use Rattle.std.proofs.Common.{rules, sym, ap, ◌∙◌, arith}
use Rattle.std.specs.Result.{IsErrOf}
use Rattle.std.specs.Option.{option_copied}
use Rattle.std.proofs.lemmas.Option.{slice_get_within}
use Rattle.code_drafts.proofs.CarriedLaws.{left_end, left_full, left_next}
use Rattle.materialise.specs.Laws.GrownEdits.{continues_both, continues_itself}
use Rattle.code_drafts.proofs.carried.catches_of.Goals as goal
use Rattle.flow_code.specs.declared.reason.KeptFault.TheVariants.{Kept}
use Rattle.plan_flow.specs.Written.Templates.{catches_from}

pub returns-in_err-push_catch-clause-full : goal.returns-in_err-push_catch-clause-full
returns-in_err-push_catch-clause-full c = λ reason links route is are here.
    let handlers = c.args.handlers.now in
    let fails : IsErrOf c.push_catch.result (Kept reason) = search rules in
    left_full c.args.pool.now c.loop-handler.pool (catches_from c.args.at route 0 handlers) c.loop-handler.list c.args.at route handlers c.loop-handler.number c.in-Some.handler.now reason
    (c.loop-handler.invariant.0 links route are here) (sym c.in-Some.ensures) (c.push_catch.ensures.full reason links route fails are here)

pub overflow_add-number : goal.overflow_add-number
overflow_add-number c =
    let low = slice_get_within c.args.handlers.now c.loop-handler.number c.in-Some.handler.now (sym c.in-Some.ensures) in
    let few = c.requires.few in
    search rules

pub loop-handler-smaller : goal.loop-handler-smaller
loop-handler-smaller c =
    let low = slice_get_within c.args.handlers.now c.loop-handler.number c.in-Some.handler.now (sym c.in-Some.ensures) in
    omega (arith, low)

pub loop-handler-preserved : goal.loop-handler-preserved
loop-handler-preserved c = (
  λ links route are here.
      left_next c.args.pool.now c.loop-handler.pool c.push_catch.new.pool (catches_from c.args.at route 0 c.args.handlers.now) c.loop-handler.list c.push_catch.new.list c.args.at route
      c.args.handlers.now c.loop-handler.number c.in-Some.handler.now (c.loop-handler.invariant.0 links route are here) (sym c.in-Some.ensures)
      (c.in_ok-push_catch.ensures.ok links route are here) c.push_catch.ensures.more,
  continues_both c.args.pool.now c.loop-handler.pool c.push_catch.new.pool c.loop-handler.invariant.1 c.push_catch.ensures.more,
)

pub returns-clause-ok : goal.returns-clause-ok
returns-clause-ok c = λ links route are here.
    left_end c.args.pool.now c.loop-handler.pool (catches_from c.args.at route 0 c.args.handlers.now) c.loop-handler.list c.args.at route c.args.handlers.now c.loop-handler.number
    (c.loop-handler.invariant.0 links route are here) (sym c.handler_at.ensures ∙ ap option_copied c.in_default.is) (continues_itself c.loop-handler.pool)
