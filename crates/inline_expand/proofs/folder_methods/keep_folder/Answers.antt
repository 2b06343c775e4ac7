use Rattle.std.proofs.Common.{◌<◌, ◌≤◌, length, ap, arith}
use Rattle.std.proofs.lemmas.List.{length-map}
use Rattle.class_model.specs.Header.{header_of}
use Rattle.class_tree.specs.Headers.{headers_of}
use Rattle.inline_expand.proofs.FoundMethods.{class_at}
use Rattle.inline_expand.proofs.MethodBuckets.{class_kept, folder_kept}
use Rattle.inline_expand.proofs.folder_methods.keep_folder.Goals as goal

pub loop-class-preserved : goal.loop-class-preserved
loop-class-preserved c =
    let classes = c.args.tree.now in
    let class = c.loop-class.class in
    let within : class < length classes.folder = omega (arith, c.loop-class-test.true, c.len-class-end.ensures, ap length c.folder.ensures.same) in
    let header = class_at classes class within in
    class_kept (headers_of classes) class header.0 header.1 c.loop-class.invariant (c.in_ok-keep_class.ensures header.0 header.1)

pub returns : goal.returns
returns c =
    let classes = c.args.tree.now in
    let headers = headers_of classes in
    let past : length headers.folder ≤ c.loop-class.class = omega (arith, c.loop-class-test.false, c.len-class-end.ensures, ap length c.folder.ensures.same, length-map classes.folder header_of) in
    folder_kept headers c.loop-class.class c.loop-class.buckets past c.loop-class.invariant
