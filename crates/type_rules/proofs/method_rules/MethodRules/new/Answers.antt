use Rattle.std.proofs.Common.{◌∙◌, List, slice_get, sym, ap}
use Rattle.class_model.specs.Laws.Lists.{at_index}
use Rattle.class_model.specs.Spelling.{class_bytes}
use Rattle.class_model.specs.declared.class_file.ClassFile.{ClassFile}
use Rattle.class_tree.specs.Headers.{IsClassFile}
use Rattle.type_rules.proofs.MethodParts.{header_of_class, method_has_operands, method_is_read}
use Rattle.type_rules.proofs.method_rules.MethodRules.new.Goals as goal

pub of_method-requires-clause-class_file : goal.of_method-requires-clause-class_file
of_method-requires-clause-class_file c =
    let found = sym (c.in-Some.ensures ∙ ap (λ (folder : List ClassFile). slice_get folder c.args.at.class) c.folder.ensures.same) in
    at_index IsClassFile c.args.tree.now.folder c.args.at.class c.in-Some.class.now c.folder.ensures.tree.folder found

pub of_method-requires-clause-header : goal.of_method-requires-clause-header
of_method-requires-clause-header c =
    let found = sym (c.in-Some.ensures ∙ ap (λ (folder : List ClassFile). slice_get folder c.args.at.class) c.folder.ensures.same) in
    header_of_class c.args.tree.now c.args.at c.in-Some.class.now c.in-Some-header.header.now found (sym c.in-Some-header.ensures)

pub of_method-requires-clause-read : goal.of_method-requires-clause-read
of_method-requires-clause-read c =
    let found = sym (c.in-Some.ensures ∙ ap (λ (folder : List ClassFile). slice_get folder c.args.at.class) c.folder.ensures.same) in
    let class_file = at_index IsClassFile c.args.tree.now.folder c.args.at.class c.in-Some.class.now c.folder.ensures.tree.folder found in
    method_is_read c.in-Some.class.now c.args.at.method c.in-Some-get.method.now (c.a_class_file_has_read_methods.ensures.methods (class_bytes c.in-Some.class.now) c.in-Some.class.now class_file) (sym c.in-Some-get.ensures)

pub of_method-requires-clause-operands : goal.of_method-requires-clause-operands
of_method-requires-clause-operands c =
    let found = sym (c.in-Some.ensures ∙ ap (λ (folder : List ClassFile). slice_get folder c.args.at.class) c.folder.ensures.same) in
    let class_file = at_index IsClassFile c.args.tree.now.folder c.args.at.class c.in-Some.class.now c.folder.ensures.tree.folder found in
    method_has_operands c.in-Some.class.now c.args.at.method c.in-Some-get.method.now (c.a_class_file_has_read_methods.ensures.operands (class_bytes c.in-Some.class.now) c.in-Some.class.now class_file) (sym c.in-Some-get.ensures)
