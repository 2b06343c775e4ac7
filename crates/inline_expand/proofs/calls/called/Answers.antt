use Rattle.std.proofs.Common.{◌≡◌, sym, ap, subst, ◌∙◌}
use Rattle.class_model.specs.Header.{header_of}
use Rattle.class_model.specs.declared.class_file.ClassFile.{ClassFile}
use Rattle.class_tree.specs.Headers.{Name}
use Rattle.expanded_code.specs.Callees.{own_name}
use Rattle.inline_expand.proofs.CalledMethods.{decides_call}
use Rattle.inline_expand.proofs.calls.called.Goals as goal
use Rattle.inline_expand.specs.Inner.Calls.{DecidesRun, call_meant}

pub returns : goal.returns
returns c =
    let s = c.args.from.now in
    let call = call_meant c.in-Some.call in
    let own : c.in_ok-own.own ≡ own_name s = c.in_ok-own.ensures ∙ ap (λ (class : ClassFile). (header_of class).name) c.class.ensures in
    let run = subst (λ (name : Name). DecidesRun c.args.methods.now name call.reference call.opcode c.callee_of.result) own c.callee_of.ensures in
    decides_call c.args.methods.now s c.args.at call (sym c.in-Some.ensures) c.callee_of.result run
