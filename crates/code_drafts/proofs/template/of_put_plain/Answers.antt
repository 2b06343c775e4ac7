use Rattle.std.proofs.Common.{sym, ap, ◌∙◌}
use Rattle.code_drafts.proofs.TemplateLaws.{put_none, put_some}
use Rattle.code_drafts.proofs.template.of_put_plain.Goals as goal
use Rattle.code_drafts.specs.Writable.{scope}
use Rattle.plan_flow.specs.Written.Templates.{put_template}
use Rattle.virtual_state.specs.declared.slot.Slot.TheVariants.{Plain, Virt}

pub returns-in-Some-field_at : goal.returns-in-Some-field_at
returns-in-Some-field_at c = λ links f state route.
    let s = scope c.args.setting.now links in
    put_some s f state route c.args.site c.in-Some.field c.field_at.result c.in-Some-field_at.number (c.field_at.ensures links) c.in-Some-field_at.is
    ∙ ap (put_template s (Virt c.args.site) Plain) (sym c.in-Some.is)

pub returns : goal.returns
returns c = λ links f state route.
    let s = scope c.args.setting.now links in
    put_none s f state route c.args.site c.in-Some.field c.field_at.result (c.field_at.ensures links) c.in-None.is
    ∙ ap (put_template s (Virt c.args.site) Plain) (sym c.in-Some.is)
