use Rattle.std.proofs.Common.{take}
use Rattle.class_rewrite.specs.Inner.Outcomes.{AreFieldsOf}
use Rattle.class_rewrite.specs.Inner.UsedFields.{OfSome, StoresFinal, UsesPrivate}
use Rattle.class_rewrite.proofs.used_fields.fields_of_items.Given as goal

abbrev pub invariant-loop-item : goal.invariant-loop-item
invariant-loop-item l = record {
  finals : AreFieldsOf (OfSome (StoresFinal l.setting.classes l.setting.flat l.pool) (take l.item-index l.items)) l.used.finals;
  privates : AreFieldsOf (OfSome (UsesPrivate l.setting.classes l.setting.flat l.pool) (take l.item-index l.items)) l.used.privates;
}
