use Rattle.std.proofs.Common.{take}
use Rattle.field_constructors.proofs.free.opened.Given as goal
use Rattle.field_constructors.specs.Inner.ConstructorWords.{IsOpened}

abbrev pub invariant-loop-field : goal.invariant-loop-field
invariant-loop-field l = IsOpened (take l.field-index l.fields) l.desc.items
