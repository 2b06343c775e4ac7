use Rattle.std.proofs.Common.{◌≡◌, ◌++◌, replicate}
use Rattle.class_model.specs.Characters.{left_bracket}
use Rattle.field_constructors.proofs.free.constructor_descriptor.Given as goal

abbrev pub invariant-loop : goal.invariant-loop
invariant-loop l = l.desc.items ≡ l.initial.desc.items ++ replicate l.counter left_bracket
