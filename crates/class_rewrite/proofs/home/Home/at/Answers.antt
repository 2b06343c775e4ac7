use Rattle.std.proofs.Common.{◌≡◌, ◌∙◌, List, slice_get, Some, option_map, sym, ap}
use Rattle.std.proofs.lemmas.Option.{same_Some, slice_get-map}
use Rattle.class_model.specs.Header.{header_of}
use Rattle.class_model.specs.Laws.Lists.{at_index}
use Rattle.class_model.specs.Spelling.{class_bytes}
use Rattle.class_model.specs.declared.class_file.ClassFile.{ClassFile}
use Rattle.class_model.specs.declared.header.Header.{Header}
use Rattle.class_rewrite.proofs.home.Home.at.Goals as goal
use Rattle.class_tree.specs.Headers.{IsClassFile}
use Rattle.code_bytes.specs.Codes.{IsReadMethod}

pub invariant_of-result : goal.invariant_of-result
invariant_of-result c =
    let class = c.in-Some.class.now in
    let folder = c.args.tree.now.folder in
    let found : slice_get folder c.args.at.class ≡ Some class =
    sym (c.in-Some.ensures ∙ ap (λ (files : List ClassFile). slice_get files c.args.at.class) c.folder.ensures.same) in
    let class_file = at_index IsClassFile folder c.args.at.class class c.folder.ensures.tree.folder found in
    let read = at_index (IsReadMethod class.pool) class.methods c.args.at.method c.in-Some-get.method.now
    (c.a_class_file_has_read_methods.ensures.methods (class_bytes class) class class_file) (sym c.in-Some-get.ensures) in
    let header : Some c.in-Some-header.header.now ≡ Some (header_of class) =
    c.in-Some-header.ensures ∙ slice_get-map header_of folder c.args.at.class ∙ ap (option_map header_of) found in
    (read, ap (λ (h : Header). h.name) (same_Some c.in-Some-header.header.now (header_of class) header))
