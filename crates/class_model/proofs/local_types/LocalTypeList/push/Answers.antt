use Rattle.std.proofs.Common.{◌+◌, length, ap, arith, rules, sym, ◌∙◌}
use Rattle.class_model.specs.LocalTypes.{unit_in}
use Rattle.class_model.proofs.LocalUnits.{length-units_below, units_below-push}
use Rattle.class_model.proofs.local_types.LocalTypeList.push.Goals as goal

pub overflow_add-self : goal.overflow_add-self
overflow_add-self c =
    let len = ap length (sym c.self.view_is) ∙ length-units_below c.self.inside.len (unit_in c.self.inside.parts.items) in
    omega (arith, c.requires, len)

pub returns-clause-ok : goal.returns-clause-ok
returns-clause-ok c =
    rw (← c.self.view_is) (units_below-push c.self.inside.len (c.self.inside.len + 1) c.in_ok-put.ensures.ok (search rules))
