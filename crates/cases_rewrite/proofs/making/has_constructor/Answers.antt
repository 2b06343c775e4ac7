use Rattle.std.proofs.Common.{◌≡◌, Some, sym, subst}
use Rattle.class_tree.specs.Headers.{Classes, headers_of}
use Rattle.class_tree.specs.Order.{place_of}
use Rattle.class_tree.specs.declared.place.Place.TheVariants.{Folder}
use Rattle.cases_rewrite.proofs.making.has_constructor.Goals as goal
use Rattle.field_constructors.specs.Constructors.{IsConstructor}

pub returns-in-Some-2 : goal.returns-in-Some-2
returns-in-Some-2 c = λ yes.
    let class = c.args.class.now in
    let number = c.in-Some._number in
    let place = (c.folder_number.ensures number).0 c.in-Some.is in
    let there = subst (λ (k : Classes). place_of (headers_of k) class ≡ Some (Folder number)) (sym c.requires) place in
    let found = subst (IsConstructor c.args.constructors.now class) c.in-Some-2.is (c.in_ok-_desc.ensures number there) in
    let is = subst (λ (k : Classes). IsConstructor k class (Some c.in-Some-2._desc)) c.requires found in
    record { number = number; of_folder = place; may = is.0 }
