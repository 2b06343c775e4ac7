use Rattle.std.proofs.Common.{◌∙◌, List, slice_get, sym, ap}
use Rattle.std.specs.List.{AllByRecursion}
use Rattle.class_model.specs.Laws.Lists.{at_index}
use Rattle.class_model.specs.Spelling.{class_bytes}
use Rattle.class_model.specs.declared.class_file.ClassFile.{ClassFile}
use Rattle.class_model.specs.declared.class_file.Method.{Method}
use Rattle.class_tree.specs.Headers.{IsClassFile}
use Rattle.code_bytes.specs.Codes.{HasOperands, IsReadMethod}
use Rattle.machine_code.proofs.translating.methods.run_code_at.Goals as goal

pub run_code_in-requires-clause-read : goal.run_code_in-requires-clause-read
run_code_in-requires-clause-read c =
    let class = c.in-Some.class.now in
    let found = sym (c.in-Some.ensures ∙ ap (λ (folder : List ClassFile). slice_get folder c.args.at.class) c.folder.ensures.same) in
    let class_file = at_index IsClassFile c.args.tree.now.folder c.args.at.class class c.folder.ensures.tree.folder found in
    at_index (IsReadMethod class.pool) class.methods c.args.at.method c.in-Some-get.method.now (c.a_class_file_has_read_methods.ensures.methods (class_bytes class) class class_file) (sym c.in-Some-get.ensures)

pub run_code_in-requires-clause-operands : goal.run_code_in-requires-clause-operands
run_code_in-requires-clause-operands c =
    let class = c.in-Some.class.now in
    let found = sym (c.in-Some.ensures ∙ ap (λ (folder : List ClassFile). slice_get folder c.args.at.class) c.folder.ensures.same) in
    let class_file = at_index IsClassFile c.args.tree.now.folder c.args.at.class class c.folder.ensures.tree.folder found in
    at_index (λ (m : Method). AllByRecursion (HasOperands class.pool class.major) m.attrs) class.methods c.args.at.method c.in-Some-get.method.now (c.a_class_file_has_read_methods.ensures.operands (class_bytes class) class class_file) (sym c.in-Some-get.ensures)
