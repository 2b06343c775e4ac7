use Rattle.std.proofs.Common.{◌<◌, List, length, get_or, sym, ap, subst, ◌∙◌}
use Rattle.std.proofs.lemmas.Option.{get_or_from_slice_get}
use Rattle.std.specs.List.{AllByRecursion}
use Rattle.class_model.specs.declared.class_file.ClassFile.{ClassFile}
use Rattle.class_tree.specs.Answers.{Answers}
use Rattle.class_tree.specs.Headers.{headers_of, IsClassFile}
use Rattle.member_link.specs.Uses.{use_checks}
use Rattle.member_link.proofs.FolderClasses.{methods_of_class}
use Rattle.member_link.proofs.uses.check_uses.Goals as goal

pub check_class_uses-requires-clause-methods : goal.check_class_uses-requires-clause-methods
check_class_uses-requires-clause-methods c =
    let items = sym (c.as_slice.ensures ∙ c.folder.ensures.same) in
    let class = c.index-as_slice-place.result in
    let within = subst (λ folder. c.args.place < length folder) items c.requires in
    methods_of_class c.a_class_file_has_read_methods.ensures.methods c.as_slice.result.now c.args.place class class (subst (AllByRecursion IsClassFile) items c.folder.ensures.tree.folder) within c.index-as_slice-place.is

-- the class is the one at the place
pub returns : goal.returns
returns c = λ class found.
    let items = c.as_slice.ensures ∙ c.folder.ensures.same in
    let at = c.index-as_slice-place.result in
    let is = c.index-as_slice-place.is ∙ ap (λ (folder : List ClassFile). get_or folder c.args.place at) items ∙ get_or_from_slice_get c.args.tree.now.folder c.args.place class at found in
    subst (λ (file : ClassFile). Answers (use_checks (headers_of c.args.tree.now) file) c.check_class_uses.result) is c.check_class_uses.ensures
