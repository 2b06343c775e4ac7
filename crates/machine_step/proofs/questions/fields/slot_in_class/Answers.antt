use Rattle.std.proofs.Common.{ℕ, [], List, Option, IfSome, IsSome, ◌-◌, ◌^◌, sym, ap, subst, ◌∙◌}
use Rattle.class_tree.specs.Headers.{Name, Headers, headers_of}
use Rattle.class_tree.specs.Laws.Headers.{place_there}
use Rattle.class_tree.specs.Order.{header_at}
use Rattle.class_tree.specs.declared.place.Place.{Place}
use Rattle.member_link.specs.Machine.Layouts.{capped, slot_number, slot_number_in}
use Rattle.member_link.specs.Laws.ProgramHeaders.{headers_are, no_name}
use Rattle.machine_step.proofs.questions.fields.slot_in_class.Goals as goal

pub slot_number-requires : goal.slot_number-requires
slot_number-requires c =
    subst (λ (place : Option Place). IfSome place (λ place. IsSome (header_at (headers_of c.args.tree.now) place))) (sym c.place.ensures) (place_there (headers_of c.args.tree.now) c.in-Some.name.now)

pub slot_number-requires-in-None : goal.slot_number-requires-in-None
slot_number-requires-in-None c =
    subst (λ (place : Option Place). IfSome place (λ place. IsSome (header_at (headers_of c.args.tree.now) place))) (sym c.find.ensures.same) (place_there (headers_of c.args.tree.now) [])

pub returns-in-Some : goal.returns-in-Some
returns-in-Some c = λ P is.
    c.slot_number.ensures c.in-Some.name.now c.place.ensures
    ∙ ap (capped (2 ^ 64 - 1)) (ap (λ (headers : Headers). slot_number_in headers c.in-Some.name.now c.args.field.now) (sym (headers_are c.args.tree.now P is)) ∙ ap (λ (name : Name). slot_number P name c.args.field.now) (c.in-Some.ensures.some P is))

pub returns-in-None : goal.returns-in-None
returns-in-None c = λ P is.
    c.slot_number-in-None.ensures [] c.find.ensures.same
    ∙ ap (capped (2 ^ 64 - 1)) (ap (λ (headers : Headers). slot_number_in headers [] c.args.field.now) (sym (headers_are c.args.tree.now P is)) ∙ ap (λ (name : Name). slot_number P name c.args.field.now) (no_name P c.args.class (c.in-None.ensures.none P is)))
