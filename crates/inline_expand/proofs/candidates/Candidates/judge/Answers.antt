use Rattle.std.proofs.Common.{◌≡◌, ◌≢◌, ◌↔◌, ℕ, List, Option, Some, sym, subst, ◌∙◌}
use Rattle.std.proofs.lemmas.Bool.{false≢true}
use Rattle.std.proofs.lemmas.Option.{none-some}
use Rattle.std.proofs.lemmas.Slice.Eq.{bytes_eq-Decides}
use Rattle.class_model.specs.declared.header.Header.{Header}
use Rattle.class_tree.specs.Headers.{Name, Classes, class_named, headers_of, named}
use Rattle.class_tree.specs.Hierarchy.{IsHierarchy}
use Rattle.class_tree.specs.Laws.Headers.{class_there}
use Rattle.class_tree.specs.Names.{object}
use Rattle.class_tree.specs.Order.{place_of}
use Rattle.class_tree.specs.declared.place.Place.TheVariants.{Folder}
use Rattle.inline_expand.proofs.FolderNames.{not_in_folder, object_outside}
use Rattle.inline_expand.proofs.JudgedClasses.{file_there, not_above, number_within}
use Rattle.inline_expand.proofs.SoundClasses.{object_judged, outside_judged}
use Rattle.inline_expand.specs.Inner.CandidateWords.{IsJudged}
use Rattle.inline_expand.proofs.candidates.Candidates.judge.Goals as goal

pub returns-then-eq : goal.returns-then-eq
returns-then-eq c =
    let classes = c.args.self.now in
    let hierarchy : IsHierarchy (headers_of classes) = subst (λ (k : Classes). IsHierarchy (headers_of k)) c.self.view_is c.a_tree_is_a_hierarchy.ensures in
    let outside : (header : Header) → named object (headers_of classes).folder ≡ Some header → ⊥ =
    subst (λ (k : Classes). (header : Header) → named object (headers_of k).folder ≡ Some header → ⊥) c.self.view_is (object_outside c.self.inside.tree.now c.folder-folder.ensures.tree) in
    let name = c.args.class.now in
    let top : name ≡ object = sym c.bytes.ensures.same ∙ (bytes_eq-Decides c.bytes.result.now object).0 (sym c.eq.ensures ∙ c.if-eq.true) in
    let there = class_there (headers_of classes) name c.requires.there in
    let judged = object_judged classes hierarchy outside there.0 (subst (λ (n : Name). class_named (headers_of classes) n ≡ Some there.0) top there.1) in
    subst (λ (n : Name). IsJudged classes n (Some c.new.result)) (sym top) (subst (λ (l : List (List ℕ)). IsJudged classes object (Some l)) (sym c.new.ensures) judged)

pub returns-in_default : goal.returns-in_default
returns-in_default c =
    let classes = c.args.self.now in
    let hierarchy : IsHierarchy (headers_of classes) = subst (λ (k : Classes). IsHierarchy (headers_of k)) c.self.view_is c.a_tree_is_a_hierarchy.ensures in
    let outside : (header : Header) → named object (headers_of classes).folder ≡ Some header → ⊥ =
    subst (λ (k : Classes). (header : Header) → named object (headers_of k).folder ≡ Some header → ⊥) c.self.view_is (object_outside c.self.inside.tree.now c.folder-folder.ensures.tree) in
    let name = c.args.class.now in
    let placed : (number : ℕ) → (c.folder_number.result ≡ Some number) ↔ (place_of (headers_of classes) name ≡ Some (Folder number)) =
    subst (λ (k : Classes). (number : ℕ) → (c.folder_number.result ≡ Some number) ↔ (place_of (headers_of k) name ≡ Some (Folder number))) c.self.view_is c.folder_number.ensures in
    let there = class_there (headers_of classes) name c.requires.there in
    let differ : name ≢ object = λ same. false≢true (sym c.if-eq.false ∙ c.eq.ensures ∙ (bytes_eq-Decides c.bytes.result.now object).1 (c.bytes.ensures.same ∙ same)) in
    outside_judged classes hierarchy outside name there.0 there.1 differ
    (not_in_folder (headers_of classes) name (λ number is. none-some number (sym c.in_default.is ∙ (placed number).1 is)))

pub judge_class-requires-clause-number : goal.judge_class-requires-clause-number
judge_class-requires-clause-number c =
    let classes = c.args.self.now in
    let hierarchy : IsHierarchy (headers_of classes) = subst (λ (k : Classes). IsHierarchy (headers_of k)) c.self.view_is c.a_tree_is_a_hierarchy.ensures in
    let outside : (header : Header) → named object (headers_of classes).folder ≡ Some header → ⊥ =
    subst (λ (k : Classes). (header : Header) → named object (headers_of k).folder ≡ Some header → ⊥) c.self.view_is (object_outside c.self.inside.tree.now c.folder-folder.ensures.tree) in
    let name = c.args.class.now in
    let placed : (number : ℕ) → (c.folder_number.result ≡ Some number) ↔ (place_of (headers_of classes) name ≡ Some (Folder number)) =
    subst (λ (k : Classes). (number : ℕ) → (c.folder_number.result ≡ Some number) ↔ (place_of (headers_of k) name ≡ Some (Folder number))) c.self.view_is c.folder_number.ensures in
    (placed c.in-Some.number).0 c.in-Some.is

pub judge_class-requires-clause-above : goal.judge_class-requires-clause-above
judge_class-requires-clause-above c =
    λ header super is differ some. subst (λ (o : Option (List (List ℕ))). IsJudged c.args.self.now super o) c.in-Some-above.is (c.requires.above header super is differ some)

pub returns-in-None : goal.returns-in-None
returns-in-None c =
    let classes = c.args.self.now in
    let hierarchy : IsHierarchy (headers_of classes) = subst (λ (k : Classes). IsHierarchy (headers_of k)) c.self.view_is c.a_tree_is_a_hierarchy.ensures in
    let outside : (header : Header) → named object (headers_of classes).folder ≡ Some header → ⊥ =
    subst (λ (k : Classes). (header : Header) → named object (headers_of k).folder ≡ Some header → ⊥) c.self.view_is (object_outside c.self.inside.tree.now c.folder-folder.ensures.tree) in
    let name = c.args.class.now in
    let placed : (number : ℕ) → (c.folder_number.result ≡ Some number) ↔ (place_of (headers_of classes) name ≡ Some (Folder number)) =
    subst (λ (k : Classes). (number : ℕ) → (c.folder_number.result ≡ Some number) ↔ (place_of (headers_of k) name ≡ Some (Folder number))) c.self.view_is c.folder_number.ensures in
    let at = (placed c.in-Some.number).0 c.in-Some.is in
    let file = file_there classes.folder c.in-Some.number (number_within classes hierarchy name c.in-Some.number at) in
    not_above classes hierarchy outside name c.in-Some.number at file.0 file.1
    (λ header super is differ some. subst (λ (o : Option (List (List ℕ))). IsJudged classes super o) c.in-None.is (c.requires.above header super is differ some))
