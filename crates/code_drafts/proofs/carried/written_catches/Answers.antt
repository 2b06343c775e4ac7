use Rattle.std.proofs.Common.{List, [], ap, subst, ◌∙◌}
use Rattle.std.proofs.lemmas.Result.{IfOk-weaker}
use Rattle.code_drafts.proofs.CarriedLaws.{handlers_are}
use Rattle.code_drafts.proofs.carried.written_catches.Goals as goal
use Rattle.code_drafts.specs.Inner.CarriedWords.{Catches, all_catch_needs}
use Rattle.code_drafts.specs.Emits.{Writing}
use Rattle.flow_code.specs.declared.handlers.FlatHandler.{FlatHandler}
use Rattle.materialise.specs.Growing.{IsFull}
use Rattle.plan_flow.specs.Written.Templates.{catches_from}

pub returns-in-Some-clause-ok : goal.returns-in-Some-clause-ok
returns-in-Some-clause-ok c =
    IfOk-weaker c.catches_of.result _ _
    (λ list catches links point route are there here.
    subst (λ (handlers : List FlatHandler). Catches (catches_from c.args.at route 0 handlers) c.args.pool.now [] c.catches_of.new.pool list)
    (c.as_slice.ensures
    ∙ handlers_are c.setting.inside.flat.now c.args.setting.now.flat c.args.at point c.in-Some.handlers.now c.in-Some.ensures (ap (λ (one : Writing). one.flat) c.setting.view_is) there)
    (catches links route are here))
    c.catches_of.ensures.ok

pub returns-in-Some-clause-full : goal.returns-in-Some-clause-full
returns-in-Some-clause-full c = λ reason links point route fails are there here.
    subst (λ (handlers : List FlatHandler). IsFull c.args.pool.now (all_catch_needs (catches_from c.args.at route 0 handlers)) reason)
    (c.as_slice.ensures
    ∙ handlers_are c.setting.inside.flat.now c.args.setting.now.flat c.args.at point c.in-Some.handlers.now c.in-Some.ensures (ap (λ (one : Writing). one.flat) c.setting.view_is) there)
    (c.catches_of.ensures.full reason links route fails are here)
