use Rattle.std.proofs.Common.{List, map, ap, ◌∙◌}
use Rattle.machine_values.specs.declared.value.Value.{Value}
use Rattle.member_link.specs.Machine.Worlds.{StaticValue, put_static_in}
use Rattle.machine_step.specs.Inner.Statics.{static_of}
use Rattle.machine_step.specs.contracts.statics.StaticFieldPartialEq.TheImpl.{ghosts as comparison}
use Rattle.machine_step.specs.declared.statics.StaticField.{StaticField}
use Rattle.machine_step.proofs.Entries.{put-insert}
use Rattle.machine_step.proofs.statics.StaticValueList.put.Goals as goal

pub returns-clause-ok : goal.returns-clause-ok
returns-clause-ok c =
    ap (λ (all : List (StaticField × Value)). map static_of all) c.in_ok-insert.ensures.entries
    ∙ put-insert comparison.eq c.fields_compare_by_value.ensures c.args.class c.args.field c.args.value c.self.inside.values.entries
    ∙ ap (λ (all : List StaticValue). put_static_in all c.args.class c.args.field c.args.value) c.self.view_is
