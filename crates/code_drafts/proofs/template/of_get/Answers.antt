use Rattle.std.proofs.Common.{sym, ap, ◌∙◌}
use Rattle.code_drafts.proofs.TemplateLaws.{get_none}
use Rattle.code_drafts.proofs.template.of_get.Goals as goal
use Rattle.code_drafts.specs.Writable.{scope}
use Rattle.plan_flow.specs.Written.Templates.{get_template}
use Rattle.virtual_state.specs.declared.slot.Slot.{Slot}
use Rattle.virtual_state.specs.declared.slot.Slot.TheVariants.{Virt}

pub returns-in-Some-field_at : goal.returns-in-Some-field_at
returns-in-Some-field_at c = λ links f route.
    let s = scope c.args.setting.now links in
    c.of_get_at.ensures s f route c.in-Some.field ((c.field_at.ensures links).some c.in-Some-field_at.number c.in-Some-field_at.is)
    ∙ ap (get_template s c.args.state.now (Virt c.in-Virt.site)) (sym c.in-Some.is)
    ∙ ap (λ (slot : Slot). get_template s c.args.state.now slot c.args.field) (sym c.in-Virt.is)

pub returns : goal.returns
returns c = λ links f route.
    let s = scope c.args.setting.now links in
    get_none s f c.args.state.now route c.in-Virt.site c.in-Some.field c.field_at.result (c.field_at.ensures links) c.in-None.is
    ∙ ap (get_template s c.args.state.now (Virt c.in-Virt.site)) (sym c.in-Some.is)
    ∙ ap (λ (slot : Slot). get_template s c.args.state.now slot c.args.field) (sym c.in-Virt.is)
