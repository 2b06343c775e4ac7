use Rattle.std.proofs.Common.{Option, IfSome, IsSome, sym, subst}
use Rattle.class_tree.specs.Headers.{headers_of}
use Rattle.class_tree.specs.Laws.Headers.{place_there}
use Rattle.class_tree.specs.Order.{header_at}
use Rattle.class_tree.specs.declared.place.Place.{Place}
use Rattle.plan_flow.proofs.fields.field_number.Goals as goal

pub slot_number-requires : goal.slot_number-requires
slot_number-requires c =
    subst (λ (place : Option Place). IfSome place (λ place. IsSome (header_at (headers_of c.args.tree.now) place))) (sym c.place.ensures)
    (place_there (headers_of c.args.tree.now) c.in-Some.one.now.class)
