use Rattle.std.proofs.Common.{◌↔◌, sym}
use Rattle.class_tree.specs.Headers.{Name}
use Rattle.class_tree.specs.Subtype.{IsSubtype}
use Rattle.type_rules.proofs.Grown.Headers.{grown_alike}
use Rattle.type_rules.proofs.Grown.SameLinks.{links_still, own_same}
use Rattle.type_rules.proofs.laws.grown_classes_have_the_same_links.Goals as goal

pub returns : goal.returns
returns c = λ old new links grown.
    let alike = grown_alike old new grown in
    let look_up = c.alike_classes_have_one_look_up.ensures in
    let subtypes : (low high : Name) → IsSubtype old low high ↔ IsSubtype new low high = λ low high.
    c.alike_classes_have_one_hierarchy.ensures.subtypes old new low high alike in (
      λ are. links_still old new (record {
        subtypes = subtypes;
        fields = λ class name desc answer finds. (look_up.fields old new class name desc answer alike).0 finds;
        methods = λ class name desc found differ finds. (look_up.methods old new class name desc found alike differ).0 finds;
        selections = λ receiver resolved form choice differ selects. (look_up.selections old new receiver resolved form choice alike differ).0 selects;
        own = λ class name desc differ. own_same name desc differ old new grown class;
      }) links are,
      λ are. links_still new old (record {
        subtypes = λ low high. let sub = subtypes low high in (sub.1, sub.0);
        fields = λ class name desc answer finds. (look_up.fields old new class name desc answer alike).1 finds;
        methods = λ class name desc found differ finds. (look_up.methods old new class name desc found alike differ).1 finds;
        selections = λ receiver resolved form choice differ selects. (look_up.selections old new receiver resolved form choice alike differ).1 selects;
        own = λ class name desc differ. sym (own_same name desc differ old new grown class);
      }) links are,
    )
