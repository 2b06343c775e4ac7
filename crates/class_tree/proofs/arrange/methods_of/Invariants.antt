use Rattle.std.proofs.Common.{◌≡◌, map, take}
use Rattle.class_tree.proofs.HeaderParts.{member}
use Rattle.class_tree.proofs.arrange.methods_of.Given as goal

abbrev pub invariant-loop-method : goal.invariant-loop-method
invariant-loop-method l = l.members ≡ map (λ method. member l.class.pool method.flags method.name method.desc) (take l.method-index l.class.methods)
