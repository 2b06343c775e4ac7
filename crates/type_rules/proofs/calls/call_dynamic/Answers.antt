use Rattle.std.proofs.Common.{Some, ap, sym, ◌∙◌}
use Rattle.type_rules.proofs.PoolFacts.{site_descriptor}
use Rattle.type_rules.proofs.calls.call_dynamic.Goals as goal

pub method_descriptor-requires : goal.method_descriptor-requires
method_descriptor-requires c =
    site_descriptor c.rules.inside.class.now c.rules.invariant.class_file c.args.index c.in-Some-InvokeDynamic.field-0-0 c.in-Some-InvokeDynamic.member c.in-Some.desc.now
    (sym c.in-Some-InvokeDynamic.ensures ∙ ap Some c.in-Some-InvokeDynamic.field-0-is) (sym c.in-Some.ensures)
