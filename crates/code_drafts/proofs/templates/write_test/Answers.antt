use Rattle.std.proofs.Common.{◌≡◌, List, sym, ap, subst, ◌∙◌}
use Rattle.std.proofs.lemmas.Result.{on_ok_weaker}
use Rattle.code_drafts.specs.Emits.{Emits}
use Rattle.code_drafts.specs.Writable.{scope}
use Rattle.making_code.specs.Items.{WItem}
use Rattle.materialise.specs.Growing.{IsFull}
use Rattle.plan_flow.specs.Written.WrittenConstants.{code_needs}
use Rattle.code_drafts.proofs.WrittenLaws.{test_plain}
use Rattle.code_drafts.proofs.templates.write_test.Goals as goal
use Rattle.plan_flow.specs.PlanSlots.{held}
use Rattle.virtual_state.specs.declared.slot.Slot.TheVariants.{Plain}

pub returns-in-Plain-clause-ok : goal.returns-in-Plain-clause-ok
returns-in-Plain-clause-ok c =
    let w = c.args.setting.now in
    let holds : held c.args.state.now c.args.local ≡ Plain = ap (held c.args.state.now) (sym c.from.ensures) ∙ sym c.held.ensures ∙ c.in-Plain.is in
    on_ok_weaker c.write_null_test.result
    (λ emits links constructor point route meant there is here.
    subst (λ (items : List WItem). Emits (scope w links) constructor c.args.pool.now items c.write_null_test.new.pool c.args.kept.now c.write_null_test.new.kept)
    (test_plain (scope w links) c.args.at point c.args.state.now route c.args.local is holds) (emits links constructor point route meant there here))
    c.write_null_test.ensures.ok

pub returns-in-Plain-clause-full : goal.returns-in-Plain-clause-full
returns-in-Plain-clause-full c = λ reason links constructor point route fails meant there is here.
    let w = c.args.setting.now in
    let holds : held c.args.state.now c.args.local ≡ Plain = ap (held c.args.state.now) (sym c.from.ensures) ∙ sym c.held.ensures ∙ c.in-Plain.is in
    subst (λ (items : List WItem). IsFull c.args.pool.now (code_needs (scope w links) constructor items) reason)
    (test_plain (scope w links) c.args.at point c.args.state.now route c.args.local is holds)
    (c.write_null_test.ensures.full reason links constructor point route fails meant there here)
