use Rattle.std.proofs.Common.{◌≡◌, ◌<◌, ◌++◌, List, [], ◌∷◌, Option, Some, None, is_some, sym, ap, subst, ◌∙◌}
use Rattle.std.proofs.lemmas.Bool.{false≢true}
use Rattle.std.specs.Option.{option_copied}
use Rattle.class_tree.specs.Headers.{Name, Classes, headers_of}
use Rattle.class_tree.specs.Hierarchy.{IsHierarchy, height, superclass_of}
use Rattle.class_tree.specs.Order.{header_at, place_of}
use Rattle.class_tree.specs.declared.place.Place.{Place}
use Rattle.inline_expand.proofs.JudgedChains.{IsClimbing, climbing_more, first_climbing, left_all, left_below}
use Rattle.inline_expand.specs.Inner.CandidateWords.{IsKnown}
use Rattle.inline_expand.proofs.candidates.Candidates.climb.Goals as goal

pub unreachable-requires : goal.unreachable-requires
unreachable-requires c =
    let none : header_at (headers_of c.args.self.now) c.in-Some.place ≡ None =
    ap (λ (k : Classes). header_at (headers_of k) c.in-Some.place) (sym c.self.view_is) ∙ sym c.header.ensures ∙ ap option_copied c.in_default-header.is in
    false≢true (sym (ap is_some none) ∙ c.loop-next.invariant.there c.in-Some.place c.in-Some.is)

pub loop-next-init : goal.loop-next-init
loop-next-init c =
    let classes = c.args.self.now in
    let hierarchy : IsHierarchy (headers_of classes) = subst (λ (k : Classes). IsHierarchy (headers_of k)) c.self.view_is c.a_tree_is_a_hierarchy.ensures in
    subst (λ (l : List Name). IsClimbing (headers_of classes) c.args.class.now l c.place-next.result) (sym c.new-names.ensures.items)
    (first_climbing (headers_of classes) hierarchy c.args.class.now c.requires c.place-next.result (c.place-next.ensures ∙ ap (λ (k : Classes). place_of (headers_of k) c.args.class.now) c.self.view_is))

pub returns-in-Some-2 : goal.returns-in-Some-2
returns-in-Some-2 c =
    let classes = c.args.self.now in
    let hierarchy : IsHierarchy (headers_of classes) = subst (λ (k : Classes). IsHierarchy (headers_of k)) c.self.view_is c.a_tree_is_a_hierarchy.ensures in
    let headers = headers_of classes in
    let at : header_at headers c.in-Some.place ≡ Some c.in-Some-header.header.now =
    ap (λ (k : Classes). header_at (headers_of k) c.in-Some.place) (sym c.self.view_is) ∙ sym c.header.ensures ∙ ap option_copied c.in-Some-header.is in
    let name = c.in-Some-header.header.now.name in
    let known : IsKnown classes c.in-Some.place (Some c.in-Some-2.fields) = subst (IsKnown classes c.in-Some.place) c.in-Some-2.is c.in_ok-fields.ensures in
    left_below classes hierarchy c.args.class.now c.loop-next.names.items c.loop-next.next c.in-Some.place c.in-Some-header.header.now c.in-Some-2.fields c.loop-next.invariant c.in-Some.is at
    (known name (hierarchy.of_place c.in-Some.place c.in-Some-header.header.now at).is_place)

pub loop-next-smaller : goal.loop-next-smaller
loop-next-smaller c =
    let classes = c.args.self.now in
    let hierarchy : IsHierarchy (headers_of classes) = subst (λ (k : Classes). IsHierarchy (headers_of k)) c.self.view_is c.a_tree_is_a_hierarchy.ensures in
    let headers = headers_of classes in
    let at : header_at headers c.in-Some.place ≡ Some c.in-Some-header.header.now =
    ap (λ (k : Classes). header_at (headers_of k) c.in-Some.place) (sym c.self.view_is) ∙ sym c.header.ensures ∙ ap option_copied c.in-Some-header.is in
    let up : c.superclass-next.result ≡ superclass_of headers c.in-Some.place = c.superclass-next.ensures ∙ ap (λ (k : Classes). superclass_of (headers_of k) c.in-Some.place) c.self.view_is in
    let falls = hierarchy.falls c.in-Some.place c.in-Some-header.header.now at in
    subst (λ (next : Option Place). height headers next < height headers c.loop-next.next) (sym up)
    (subst (λ (next : Option Place). height headers (superclass_of headers c.in-Some.place) < height headers next) (sym c.in-Some.is) falls)

pub loop-next-preserved : goal.loop-next-preserved
loop-next-preserved c =
    let classes = c.args.self.now in
    let hierarchy : IsHierarchy (headers_of classes) = subst (λ (k : Classes). IsHierarchy (headers_of k)) c.self.view_is c.a_tree_is_a_hierarchy.ensures in
    let headers = headers_of classes in
    let at : header_at headers c.in-Some.place ≡ Some c.in-Some-header.header.now =
    ap (λ (k : Classes). header_at (headers_of k) c.in-Some.place) (sym c.self.view_is) ∙ sym c.header.ensures ∙ ap option_copied c.in-Some-header.is in
    let up : c.superclass-next.result ≡ superclass_of headers c.in-Some.place = c.superclass-next.ensures ∙ ap (λ (k : Classes). superclass_of (headers_of k) c.in-Some.place) c.self.view_is in
    let items : c.push.new.self.items ≡ c.loop-next.names.items ++ c.in-Some-header.header.now.name ∷ [] =
    c.in_ok-push.ensures.items ∙ ap (λ (name : Name). c.loop-next.names.items ++ name ∷ []) c.in_ok-copy.ensures in
    subst (λ (l : List Name). IsClimbing headers c.args.class.now l c.superclass-next.result) (sym items)
    (climbing_more headers hierarchy c.args.class.now c.loop-next.names.items c.loop-next.next c.superclass-next.result c.in-Some.place c.in-Some-header.header.now c.loop-next.invariant c.in-Some.is at up)

pub returns : goal.returns
returns c = left_all c.args.self.now c.args.class.now c.loop-next.names.items c.loop-next.next None c.loop-next.invariant c.in_default.is
