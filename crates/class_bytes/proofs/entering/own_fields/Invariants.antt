use Rattle.std.proofs.Common.{◌≡◌, take}
use Rattle.class_bytes.specs.Inner.Cut.{fields_of}
use Rattle.class_bytes.proofs.entering.own_fields.Given as goal

abbrev pub invariant-loop-field : goal.invariant-loop-field
invariant-loop-field l = l.all ≡ fields_of (take l.field-index l.fields)
