use Rattle.std.proofs.Common.{◌≡◌, drop, max}
use Rattle.making_code.specs.ConstructorCode.{depth_of_stores}
use Rattle.constructor_methods.proofs.ConstructLaws.{instance_of}
use Rattle.constructor_methods.proofs.constructor_method.stores_depth.Given as goal

abbrev pub invariant-loop-field : goal.invariant-loop-field
invariant-loop-field l =
    max l.depth (depth_of_stores (instance_of (drop l.field-index l.header.fields))) ≡ depth_of_stores (instance_of l.header.fields)
