use Rattle.std.proofs.Common.{sym, subst}
use Rattle.class_tree.specs.Headers.{Classes, IsThere, headers_of}
use Rattle.constructor_methods.proofs.constructor_method.fields_above.Goals as goal

pub field_texts-requires : goal.field_texts-requires
field_texts-requires c =
    subst (λ (classes : Classes). IsThere (headers_of classes) c.in-Some.class) (sym c.tree.ensures) (c.requires.found.there c.in-Some.class c.in-Some.is)
