use Rattle.std.proofs.Common.{◌≡◌, Some, slice_get, option_map, sym, ap, subst, ◌∙◌, rules}
use Rattle.class_tree.specs.Headers.{all_headers}
use Rattle.class_tree.specs.Inner.Nodes.{number_of, place_at}
use Rattle.class_tree.proofs.Places.{number_of_itself, place_of_number}
use Rattle.class_tree.proofs.headers.Headers.guess.Goals as goal

pub returns-then-eq : goal.returns-then-eq
returns-then-eq c =
    let headers = c.args.self.now in
    let header = c.in_ok-header.header.now in
    let there : slice_get (all_headers headers) c.in_ok-number.number ≡ Some header = sym c.in_ok-header.ensures in
    let same : header.name ≡ c.args.name.now = search rules in
    let number : number_of headers c.args.name.now ≡ Some c.in_ok-number.number = subst (λ name. number_of headers name ≡ Some c.in_ok-number.number) same (number_of_itself headers c.requires c.in_ok-number.number header there).is in
    place_of_number headers c.args.name.now ∙ ap (option_map (place_at headers)) number ∙ ap Some (sym c.place.ensures)
