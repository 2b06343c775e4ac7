use Rattle.std.proofs.Common.{List, Result, Ok, Err, IfOk}
use Rattle.class_model.specs.Pool.{Constants}
use Rattle.class_model.specs.declared.memory.NoMemory.{NoMemory}
use Rattle.class_rewrite.specs.Inner.Meanings.{AreItemsOf, IsMeant, Meaning}
use Rattle.class_rewrite.specs.Inner.Outcomes.{AreFieldsOf}
use Rattle.class_rewrite.specs.Inner.UsedFields.{AreUsedFields, OfSome, StoresFinal, UsesPrivate}
use Rattle.class_rewrite.specs.Inner.WrittenCodes.{AreUsed}
use Rattle.class_rewrite.specs.declared.used_fields.UsedFields.{UsedFields}
use Rattle.code_drafts.specs.Emits.{Writing}
use Rattle.code_layout.specs.declared.emitted.EmitItem.{EmitItem}
use Rattle.plan_flow.specs.Written.Routes.{Routes}
use Rattle.class_rewrite.proofs.used_fields.used_fields.Goals as goal

by : (law : AreUsedFields) (of : Writing) (pool : Constants) (items : List EmitItem) (result : Result UsedFields NoMemory)
    → IfOk result (λ used. AreFieldsOf (OfSome (StoresFinal of.classes of.flat pool) items) used.finals)
    → IfOk result (λ used. AreFieldsOf (OfSome (UsesPrivate of.classes of.flat pool) items) used.privates)
    → IfOk result (λ used. (m : Meaning) (routes : Routes)
    → IsMeant of m
    → AreItemsOf of m routes pool items
    → AreUsed of m routes used.finals used.privates)
by law of pool items (Ok used) finals privates = λ m routes meant are. law of m routes pool items used.finals used.privates meant are finals privates
by law of pool items (Err fault) finals privates = finals

pub returns : goal.returns
returns c =
    by c.fields_of_written_code_are_those_of_its_items.ensures c.args.setting.now c.args.pool.now c.args.items.now c.fields_of_items.result
    c.fields_of_items.ensures.finals c.fields_of_items.ensures.privates
