use Rattle.std.proofs.Common.{List, sym, ap, ◌∙◌}
use Rattle.member_link.specs.Machine.Worlds.{StaticValue, written_static}
use Rattle.machine_step.specs.contracts.statics.StaticFieldPartialEq.TheImpl.{ghosts as comparison}
use Rattle.machine_step.proofs.Entries.{written-lookup}
use Rattle.machine_step.proofs.statics.StaticValueList.get.Goals as goal

pub returns : goal.returns
returns c =
    c.copied.ensures
    ∙ c.get.ensures.value
    ∙ sym (written-lookup comparison.eq c.fields_compare_by_value.ensures c.args.class c.args.field c.self.inside.values.entries)
    ∙ ap (λ (all : List StaticValue). written_static all c.args.class c.args.field) c.self.view_is
