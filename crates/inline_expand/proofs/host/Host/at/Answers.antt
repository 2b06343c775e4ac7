use Rattle.std.proofs.Common.{◌∙◌, List, slice_get, sym, ap, subst}
use Rattle.std.specs.List.{AllByRecursion}
use Rattle.class_model.specs.Laws.Lists.{at_index}
use Rattle.class_model.specs.MethodCode.{code_of}
use Rattle.class_model.specs.Spelling.{class_bytes}
use Rattle.class_model.specs.declared.class_file.ClassFile.{ClassFile}
use Rattle.class_model.specs.declared.class_file.Method.{Method}
use Rattle.class_tree.specs.Headers.{IsClassFile, headers_of}
use Rattle.code_bytes.specs.Codes.{HasOperands, IsReadMethod}
use Rattle.inline_expand.proofs.HostCodes.{read-instrs, read-units}
use Rattle.inline_expand.proofs.host.Host.at.Goals as goal
use Rattle.inline_expand.specs.Inner.Hosts.{HasUnits}
use Rattle.member_link.specs.Scope.{Scope}

pub new-requires : goal.new-requires
new-requires c =
    let class = c.in-Some.class.now in
    let found = sym (c.in-Some.ensures ∙ ap (λ (folder : List ClassFile). slice_get folder c.args.at.class) c.folder.ensures.same) in
    let class_file = at_index IsClassFile c.args.tree.now.folder c.args.at.class class c.folder.ensures.tree.folder found in
    let read = at_index (IsReadMethod class.pool) class.methods c.args.at.method c.in-Some-get.method.now (c.a_class_file_has_read_methods.ensures.methods (class_bytes class) class class_file) (sym c.in-Some-get.ensures) in
    read-instrs class.pool c.in-Some-get.method.now c.in-Some-code_of.part.now read (sym (c.in-Some-code_of.ensures ∙ ap code_of c.as_slice.ensures))

pub returns-clause-units : goal.returns-clause-units
returns-clause-units c =
    let class = c.in-Some.class.now in
    let method = c.in-Some-get.method.now in
    let found = sym (c.in-Some.ensures ∙ ap (λ (folder : List ClassFile). slice_get folder c.args.at.class) c.folder.ensures.same) in
    let class_file = at_index IsClassFile c.args.tree.now.folder c.args.at.class class c.folder.ensures.tree.folder found in
    let operands = at_index (λ (m : Method). AllByRecursion (HasOperands class.pool class.major) m.attrs) class.methods c.args.at.method method (c.a_class_file_has_read_methods.ensures.operands (class_bytes class) class class_file) (sym c.in-Some-get.ensures) in
    let scope : Scope = record { headers = headers_of c.args.tree.now; class = class; method = method; part = c.in-Some-code_of.part.now } in
    subst HasUnits (sym c.in_ok-new.ensures) (read-units scope operands (sym (c.in-Some-code_of.ensures ∙ ap code_of c.as_slice.ensures)))
