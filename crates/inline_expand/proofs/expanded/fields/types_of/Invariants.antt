use Rattle.std.proofs.Common.{◌≡◌, map, take}
use Rattle.class_model.specs.Descriptors.{type_of}
use Rattle.inline_expand.proofs.expanded.fields.types_of.Given as goal

abbrev pub invariant-loop-desc : goal.invariant-loop-desc
invariant-loop-desc l = l.types.items ≡ map type_of (take l.desc-index l.descs)
