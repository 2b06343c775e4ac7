use Rattle.std.proofs.Common.{◌≡◌, ◌≤◌, ℕ, List, count_by, None, option_map, rules, ap, sym, subst, ◌∙◌}
use Rattle.class_tree.specs.Headers.{Headers}
use Rattle.class_tree.specs.Order.{first_place, place_of}
use Rattle.class_tree.specs.declared.place.Place.TheVariants.{Library}
use Rattle.class_tree.proofs.Places.{has_name, once_in_folder, once_in_library, place_in_back}
use Rattle.class_tree.proofs.headers.Headers.search.Goals as goal

pub find_header-requires-clause-once : goal.find_header-requires-clause-once
find_header-requires-clause-once c = subst (λ (h : Headers). (name : List ℕ) → count_by (has_name name) h.folder ≤ 1) (sym c.self.view_is) (once_in_folder c.args.self.now c.requires)

pub find_header-requires-in-None-clause-once : goal.find_header-requires-in-None-clause-once
find_header-requires-in-None-clause-once c = subst (λ (h : Headers). (name : List ℕ) → count_by (has_name name) h.library ≤ 1) (sym c.self.view_is) (once_in_library c.args.self.now c.requires)

pub returns-in-None : goal.returns-in-None
returns-in-None c =
    let none : first_place (has_name c.args.name.now) c.self.inside.folder.now ≡ None = sym c.find_header.ensures ∙ c.in-None.is in
    let view : Headers = record { folder = c.self.inside.folder.now; library = c.self.inside.library.now } in
    let mapped : c.map.result ≡ option_map Library c.find_header-in-None.result = search rules in
    let place : place_of view c.args.name.now ≡ option_map Library c.find_header-in-None.result = place_in_back view c.args.name.now none ∙ ap (option_map Library) (sym c.find_header-in-None.ensures) in
    mapped ∙ sym place ∙ ap (λ (h : Headers). place_of h c.args.name.now) c.self.view_is
