use Rattle.std.proofs.Common.{◌≡◌, ◌++◌, take}
use Rattle.class_rewrite.proofs.decided.add_fields.Given as goal

abbrev pub invariant-loop-field : goal.invariant-loop-field
invariant-loop-field l = l.fields ≡ l.fn.fields ++ take l.field-index l.more
