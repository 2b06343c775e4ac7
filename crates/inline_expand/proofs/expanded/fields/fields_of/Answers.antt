use Rattle.std.proofs.Common.{◌≡◌, map, is_some, sym, ap, subst, ◌∙◌}
use Rattle.std.specs.List.{AllByRecursion}
use Rattle.class_model.specs.Descriptors.{type_of}
use Rattle.class_tree.specs.Headers.{Classes, IsThere, headers_of}
use Rattle.inline_expand.proofs.FieldTexts.{field-types-are, fields-are-short}
use Rattle.inline_expand.proofs.FolderNames.{object_outside, of_folder}
use Rattle.inline_expand.proofs.SoundClasses.{candidate_is}
use Rattle.inline_expand.proofs.expanded.fields.fields_of.Goals as goal
use Rattle.inline_expand.specs.Inner.CandidateWords.{IsJudged, IsSound}
use Rattle.field_constructors.specs.Constructors.{field_descs}
use Rattle.inline_expand.specs.Inner.FieldTypes.{IsShortDescriptor}

pub fields_of-requires : goal.fields_of-requires
fields_of-requires c =
    let candidate = c.requires.candidate in
    let there : IsThere (headers_of c.args.tree.now) c.args.class.now = ap is_some (of_folder (headers_of c.args.tree.now) c.args.class.now candidate.header candidate.found) in
    subst (λ (k : Classes). IsThere (headers_of k) c.args.class.now) (sym c.requires.classes) there

pub unreachable-requires : goal.unreachable-requires
unreachable-requires c =
    let classes = c.args.tree.now in
    let candidate = c.requires.candidate in
    let sound = ((candidate_is classes c.a_tree_is_a_hierarchy.ensures (object_outside classes c.folder-folder.ensures.tree) c.args.class.now candidate.header candidate.found).0 candidate).2 in
    let unsound = subst (IsJudged c.args.candidates.now c.args.class.now) c.in_default.is c.in_ok-descs.ensures.judged in
    unsound (subst (λ (k : Classes). IsSound k c.args.class.now) (sym c.requires.classes) sound)

pub types_of-requires : goal.types_of-requires
types_of-requires c =
    let classes = c.args.tree.now in
    let judged = subst (IsJudged c.args.candidates.now c.args.class.now) c.in-Some.is c.in_ok-descs.ensures.judged in
    let are : c.as_slice.result.now ≡ field_descs (headers_of classes) c.args.class.now =
    c.as_slice.ensures ∙ judged.1 ∙ ap (λ (k : Classes). field_descs (headers_of k) c.args.class.now) c.requires.classes in
    let tree = c.folder-folder.ensures.tree in
    subst (AllByRecursion IsShortDescriptor) (sym are)
    (fields-are-short classes c.a_tree_is_a_hierarchy.ensures (object_outside classes tree) tree.folder c.args.class.now c.requires.candidate)

pub returns-clause-types : goal.returns-clause-types
returns-clause-types c =
    let classes = c.args.tree.now in
    let judged = subst (IsJudged c.args.candidates.now c.args.class.now) c.in-Some.is c.in_ok-descs.ensures.judged in
    let are : c.as_slice.result.now ≡ field_descs (headers_of classes) c.args.class.now =
    c.as_slice.ensures ∙ judged.1 ∙ ap (λ (k : Classes). field_descs (headers_of k) c.args.class.now) c.requires.classes in
    c.in_ok-types.ensures ∙ ap (map type_of) are ∙ field-types-are (headers_of classes) c.args.class.now
