use Rattle.std.proofs.Common.{◌≡◌, refl, sym}
use Rattle.class_tree.specs.Alike.{AreAlike}
use Rattle.class_tree.specs.Headers.{Name, Headers}
use Rattle.class_tree.specs.Laws.Alike.{alike_shapes}
use Rattle.class_tree.specs.Order.{place_of}
use Rattle.member_link.proofs.AlikeLookUps.{AreTwins, twins_back, field_alike, method_found_alike, overrides_alike, selected_alike, special_selected_alike}
use Rattle.member_link.proofs.AlikeMembers.{alike_classes, pair_back}
use Rattle.member_link.proofs.SpecialStarts.{starts_alike}
use Rattle.member_link.proofs.laws_alike.alike_classes_have_one_look_up.Goals as goal

-- classes that are alike stand at the same places
abbrev HaveOnePlace : Type 0
HaveOnePlace = (one other : Headers) (name : Name) → AreAlike one other → place_of one name ≡ place_of other name

twins : HaveOnePlace → (one other : Headers) → AreAlike one other → AreTwins one other
twins places one other alike = record { shape = alike_shapes one other alike; places = λ name. places one other name alike; pairs = alike_classes one other alike }

back : HaveOnePlace → (one other : Headers) → AreAlike one other → AreTwins other one
back places one other alike = twins_back (λ header twin. pair_back) (twins places one other alike)

pub returns-clause-fields : goal.returns-clause-fields
returns-clause-fields c = λ one other class name desc answer alike.
    (field_alike one other (twins c.alike_classes_have_one_hierarchy.ensures.places one other alike) name desc class answer, field_alike other one (back c.alike_classes_have_one_hierarchy.ensures.places one other alike) name desc class answer)

pub returns-clause-methods : goal.returns-clause-methods
returns-clause-methods c = λ one other class name desc found alike differ.
    let are = twins c.alike_classes_have_one_hierarchy.ensures.places one other alike in
    let also = back c.alike_classes_have_one_hierarchy.ensures.places one other alike in
    (λ finds. method_found_alike one other are also name desc differ class finds, λ finds. method_found_alike other one also are name desc differ class finds)

pub returns-clause-overriding : goal.returns-clause-overriding
returns-clause-overriding c = λ one other low high alike.
    (λ over. overrides_alike one other (twins c.alike_classes_have_one_hierarchy.ensures.places one other alike) over, λ over. overrides_alike other one (back c.alike_classes_have_one_hierarchy.ensures.places one other alike) over)

pub returns-clause-selections : goal.returns-clause-selections
returns-clause-selections c = λ one other receiver resolved form choice alike differ.
    let are = twins c.alike_classes_have_one_hierarchy.ensures.places one other alike in
    let also = back c.alike_classes_have_one_hierarchy.ensures.places one other alike in
    (λ selects. selected_alike one other are also receiver resolved differ selects, λ selects. selected_alike other one also are receiver resolved differ selects)

pub returns-clause-special_selections : goal.returns-clause-special_selections
returns-clause-special_selections c = λ one other receiver resolved choice alike.
    let are = twins c.alike_classes_have_one_hierarchy.ensures.places one other alike in
    let also = back c.alike_classes_have_one_hierarchy.ensures.places one other alike in
    (λ selects. special_selected_alike one other are also receiver resolved selects refl, λ selects. special_selected_alike other one also are receiver resolved selects refl)

pub returns-clause-starts : goal.returns-clause-starts
returns-clause-starts c = λ one other current named start alike.
    let same = alike_shapes one other alike in
    (λ starts. starts_alike one other same starts, λ starts. starts_alike other one (sym same) starts)
