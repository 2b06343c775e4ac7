use Rattle.std.proofs.Common.{◌≡◌, Some, sym, ap, subst, ◌∙◌, is_some}
use Rattle.std.specs.Option.{option_copied}
use Rattle.class_model.specs.declared.header.Header.{Header}
use Rattle.class_tree.specs.Headers.{Classes, headers_of, named}
use Rattle.class_tree.specs.Hierarchy.{IsHierarchy}
use Rattle.class_tree.specs.Names.{object}
use Rattle.inline_expand.proofs.FolderNames.{object_outside, of_folder}
use Rattle.inline_expand.proofs.JudgedChains.{sound_where_some}
use Rattle.inline_expand.proofs.SoundClasses.{candidate_is}
use Rattle.inline_expand.proofs.candidates.Candidates.is_candidate.Goals as goal

pub fields_of-requires : goal.fields_of-requires
fields_of-requires c =
    let classes = c.args.self.now in
    let found : named c.args.class.now (headers_of classes).folder ≡ Some c.in-Some.header.now =
    ap (λ (k : Classes). named c.args.class.now (headers_of k).folder) (sym c.self.view_is) ∙ sym c.folder_class.ensures ∙ ap option_copied c.in-Some.is in
    ap is_some (of_folder (headers_of classes) c.args.class.now c.in-Some.header.now found)

pub returns-clause-decides : goal.returns-clause-decides
returns-clause-decides c =
    let classes = c.args.self.now in
    let hierarchy : IsHierarchy (headers_of classes) = subst (λ (k : Classes). IsHierarchy (headers_of k)) c.self.view_is c.a_tree_is_a_hierarchy.ensures in
    let outside : (header : Header) → named object (headers_of classes).folder ≡ Some header → ⊥ =
    subst (λ (k : Classes). (header : Header) → named object (headers_of k).folder ≡ Some header → ⊥) c.self.view_is (object_outside c.self.inside.tree.now c.folder-folder.ensures.tree) in
    let found : named c.args.class.now (headers_of classes).folder ≡ Some c.in-Some.header.now =
    ap (λ (k : Classes). named c.args.class.now (headers_of k).folder) (sym c.self.view_is) ∙ sym c.folder_class.ensures ∙ ap option_copied c.in-Some.is in
    let is = candidate_is classes hierarchy outside c.args.class.now c.in-Some.header.now found in
    let sound = sound_where_some classes c.args.class.now c.in_ok-fields.fields c.in_ok-fields.ensures.judged in
    (λ some. is.1 (sym c.has.ensures ∙ c.if-has.false, sym c.has-else-has.ensures ∙ c.if-has-2.false, sound.0 (sym c.is_some.ensures ∙ some)), λ candidate. c.is_some.ensures ∙ sound.1 (is.0 candidate).2)
