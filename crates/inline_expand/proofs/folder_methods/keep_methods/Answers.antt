use Rattle.std.proofs.Common.{List, length, take, refl, sym, subst}
use Rattle.std.proofs.lemmas.Option.{slice_get_read}
use Rattle.class_model.specs.Laws.Lists.{take_item}
use Rattle.class_model.specs.declared.header.Member.{Member}
use Rattle.class_tree.specs.Headers.{headers_of}
use Rattle.inline_expand.specs.Inner.FolderMethods.{AreKept}
use Rattle.inline_expand.proofs.MethodBuckets.{kept_more}
use Rattle.inline_expand.proofs.folder_methods.keep_methods.Goals as goal

pub loop-method-preserved : goal.loop-method-preserved
loop-method-preserved c =
    let headers = headers_of c.args.tree.now in
    let methods = c.args.methods.now in
    let index = c.loop-method.method-index in
    let method = c.method-item.result in
    let at = slice_get_read methods (length methods) index method refl c.loop-method-test.true c.method-item.is in
    let more = kept_more headers c.args.class (take index methods) method c.loop-method.invariant c.in_ok-keep.ensures in
    subst (λ (done : List Member). AreKept headers c.args.class done c.args.buckets.now c.keep.new.buckets) (sym (take_item methods index method at)) more
