use Rattle.std.proofs.Common.{◌≡◌, List, Some, length, slice_get, refl, sym, ap, ◌∙◌}
use Rattle.std.proofs.lemmas.Option.{slice_get_read}
use Rattle.class_model.specs.Laws.Lists.{at_index}
use Rattle.class_model.specs.Spelling.{class_bytes}
use Rattle.class_model.specs.declared.class_file.ClassFile.{ClassFile}
use Rattle.class_tree.specs.Headers.{IsClassFile, headers_of}
use Rattle.inline_expand.proofs.AddedMarks.{adds_file, adds_no_file}
use Rattle.inline_expand.proofs.final_stores.mark_folder.Goals as goal

pub loop-number-init : goal.loop-number-init
loop-number-init c = adds_no_file (headers_of c.args.tree.now) c.args.tree.now.folder c.args.marks.now

pub mark_class-requires : goal.mark_class-requires
mark_class-requires c =
    let class = c.class-item.result in
    let same = c.as_slice-class-items.ensures ∙ c.folder.ensures.same in
    let there : slice_get c.args.tree.now.folder c.loop-number.number ≡ Some class = ap (λ (files : List ClassFile). slice_get files c.loop-number.number) (sym same) ∙ slice_get_read c.as_slice-class-items.result.now (length c.as_slice-class-items.result.now) c.loop-number.number class refl c.loop-number-test.true c.class-item.is in
    c.a_class_file_has_read_methods.ensures.methods (class_bytes class) class (at_index IsClassFile c.args.tree.now.folder c.loop-number.number class c.folder.ensures.tree.folder there)

pub loop-number-preserved : goal.loop-number-preserved
loop-number-preserved c =
    let class = c.class-item.result in
    let same = c.as_slice-class-items.ensures ∙ c.folder.ensures.same in
    let there : slice_get c.args.tree.now.folder c.loop-number.number ≡ Some class = ap (λ (files : List ClassFile). slice_get files c.loop-number.number) (sym same) ∙ slice_get_read c.as_slice-class-items.result.now (length c.as_slice-class-items.result.now) c.loop-number.number class refl c.loop-number-test.true c.class-item.is in
    adds_file (headers_of c.args.tree.now) c.args.tree.now.folder c.loop-number.number class there c.args.marks.now c.loop-number.marks c.mark_class.new.marks c.loop-number.invariant c.in_ok-mark_class.ensures
