use Rattle.std.proofs.Common.{◌≡◌, slice_get, Some, sym, subst}
use Rattle.class_model.specs.declared.header.Header.{Header}
use Rattle.class_tree.specs.Headers.{Classes, headers_of}
use Rattle.constructor_methods.proofs.constructor_method.field_constructor.Goals as goal
use Rattle.constructor_methods.specs.ConstructorMethods.{HasWrittenConstructor}

pub field_constructor_with-method-requires-clause-may :
    goal.field_constructor_with-method-requires-clause-may
field_constructor_with-method-requires-clause-may c =
    subst (λ (classes : Classes). (header : Header)
    → slice_get (headers_of classes).folder c.args.class ≡ Some header
    → HasWrittenConstructor classes header)
    (sym c.in_ok-constructors.ensures) c.requires.may
