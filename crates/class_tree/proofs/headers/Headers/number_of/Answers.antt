use Rattle.std.proofs.Common.{◌≡◌, Some, length, ap, rules, arith}
use Rattle.class_tree.specs.Headers.{Headers}
use Rattle.class_tree.specs.Order.{place_of}
use Rattle.class_tree.specs.declared.place.Place.TheVariants.{Library}
use Rattle.class_tree.proofs.Places.{number_of_place, library_place_within}
use Rattle.class_tree.proofs.headers.Headers.number_of.Goals as goal

pub returns-in_err-place : goal.returns-in_err-place
returns-in_err-place c = search (rules, number_of_place c.args.self.now c.args.name.now)

pub overflow_add-result : goal.overflow_add-result
overflow_add-result c =
    let found : place_of c.args.self.now c.args.name.now ≡ Some (Library c.in-Library.place) = search rules in
    let within = library_place_within c.args.self.now c.args.name.now c.in-Library.place found in
    let len : length c.self.inside.library.now ≡ length c.args.self.now.library = ap (λ (h : Headers). length h.library) c.self.view_is in
    let told = c.self.told in
    omega (arith, within, len, told.0, told.1)

pub returns-in-Folder : goal.returns-in-Folder
returns-in-Folder c = search (rules, number_of_place c.args.self.now c.args.name.now)

pub returns-in-Library : goal.returns-in-Library
returns-in-Library c = search (rules, number_of_place c.args.self.now c.args.name.now)
