use Rattle.std.proofs.Common.{option_and_then, sym, ap, ◌∙◌}
use Rattle.plan_flow.proofs.fields.field_of.Goals as goal

pub returns-in_ok-field-in-Some : goal.returns-in_ok-field-in-Some
returns-in_ok-field-in-Some c = λ links flat are.
    c.in_ok-field-in-Some.ensures links are
    ∙ ap (option_and_then links.field) (sym c.in-Some.is ∙ c.in_ok-named.ensures links flat)

pub returns-in-None : goal.returns-in-None
returns-in-None c = λ links flat are.
    ap (option_and_then links.field) (sym c.in-None.is ∙ c.in_ok-named.ensures links flat)
