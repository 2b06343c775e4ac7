use Rattle.std.proofs.Common.{◌≡◌, [], length, sym, ap, ◌∙◌, arith}
use Rattle.std.proofs.lemmas.List.{length-map}
use Rattle.class_model.specs.Header.{header_of}
use Rattle.class_tree.specs.Headers.{headers_of}
use Rattle.field_constructors.proofs.HandledLists.{none_handled}
use Rattle.field_constructors.proofs.handles.handled_initialisers.Goals as goal

pub returns : goal.returns
returns c =
    let long : c.len-end.result ≡ length (headers_of c.args.tree.now).folder = c.len-end.ensures ∙ ap length c.folder.ensures.same ∙ sym (length-map c.args.tree.now.folder header_of) in
    c.in_ok-add_folder.ensures (λ class. []) (none_handled (headers_of c.args.tree.now) c.loop.lists.items c.loop.counter c.loop.invariant (omega (arith, long, c.loop-test.false, c.loop.auto.counter-end)))
