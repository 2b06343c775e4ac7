use Rattle.std.proofs.Common.{◌↔◌, IsTrue, sym, subst}
use Rattle.class_model.specs.declared.instr.Instr.{Instr}
use Rattle.expanded_code.specs.Callees.{NamesOpen}
use Rattle.inline_expand.proofs.OpenMembers.{names_field}
use Rattle.inline_expand.proofs.open.names_open.Goals as goal

pub returns-in-Invoke : goal.returns-in-Invoke
returns-in-Invoke c =
    subst (λ (instr : Instr). IsTrue c.is_open_method_at.result ↔ NamesOpen c.args.scope.now c.args.host.now instr) (sym c.in-Invoke.is) c.is_open_method_at.ensures

pub returns-in-GetStatic : goal.returns-in-GetStatic
returns-in-GetStatic c =
    names_field c.args.scope.now c.args.host.now c.in-GetStatic.index c.args.instr.now c.is_open_field_at.result c.in-GetStatic.is c.is_open_field_at.ensures
