use Rattle.std.proofs.Common.{◌≡◌, ◌++◌, take}
use Rattle.inline_expand.proofs.FieldLists.{descs_of}
use Rattle.inline_expand.proofs.candidates.with_own_fields.Given as goal

abbrev pub invariant-loop-field : goal.invariant-loop-field
invariant-loop-field l = l.all ≡ l.initial.all ++ descs_of (take l.field-index l.field-items)
