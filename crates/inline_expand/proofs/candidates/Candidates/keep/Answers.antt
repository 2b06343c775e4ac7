use Rattle.std.proofs.Common.{◌≡◌, List, ℕ, Option, Some, None, sym, ap, subst, ◌∙◌}
use Rattle.std.specs.Option.{option_copied}
use Rattle.class_tree.specs.Headers.{Name, Classes, headers_of}
use Rattle.class_tree.specs.Hierarchy.{IsHierarchy}
use Rattle.class_tree.specs.Order.{place_of}
use Rattle.class_tree.specs.declared.place.Place.TheVariants.{Folder}
use Rattle.inline_expand.proofs.JudgedClasses.{one_name}
use Rattle.inline_expand.specs.Inner.CandidateWords.{IsJudged}
use Rattle.inline_expand.proofs.candidates.Candidates.keep.Goals as goal

pub put-requires : goal.put-requires
put-requires c = λ name there.
    let classes = c.args.self.now in
    let hierarchy : IsHierarchy (headers_of classes) = subst (λ (k : Classes). IsHierarchy (headers_of k)) c.self.view_is c.a_tree_is_a_hierarchy.ensures in
    let placed : place_of (headers_of classes) c.args.class.now ≡ Some (Folder c.in-Some.number) =
    ap (λ (k : Classes). place_of (headers_of k) c.args.class.now) (sym c.self.view_is) ∙ (c.folder_number.ensures c.in-Some.number).0 c.in-Some.is in
    let same = one_name (headers_of classes) hierarchy c.args.class.now name (Folder c.in-Some.number) placed there in
    subst (λ (n : Name). IsJudged classes n (Some c.in_ok-copy_of-in-Some-fields.field-0)) same
    (subst (λ (o : Option (List (List ℕ))). IsJudged classes c.args.class.now o)
    (ap option_copied c.in-Some-fields.is ∙ ap Some (sym c.as_slice.ensures) ∙ ap Some (sym c.in_ok-copy_of-in-Some-fields.ensures)) c.requires)

pub put-requires-in-None : goal.put-requires-in-None
put-requires-in-None c = λ name there.
    let classes = c.args.self.now in
    let hierarchy : IsHierarchy (headers_of classes) = subst (λ (k : Classes). IsHierarchy (headers_of k)) c.self.view_is c.a_tree_is_a_hierarchy.ensures in
    let placed : place_of (headers_of classes) c.args.class.now ≡ Some (Folder c.in-Some.number) =
    ap (λ (k : Classes). place_of (headers_of k) c.args.class.now) (sym c.self.view_is) ∙ (c.folder_number.ensures c.in-Some.number).0 c.in-Some.is in
    let same = one_name (headers_of classes) hierarchy c.args.class.now name (Folder c.in-Some.number) placed there in
    subst (λ (n : Name). IsJudged classes n None) same
    (subst (λ (o : Option (List (List ℕ))). IsJudged classes c.args.class.now o) (ap option_copied c.in-None.is) c.requires)
