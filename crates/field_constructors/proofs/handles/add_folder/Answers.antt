use Rattle.std.proofs.Common.{◌++◌, ℕ, List, length, refl, subst, ◌∙◌}
use Rattle.std.proofs.lemmas.Option.{slice_get_read}
use Rattle.class_model.specs.declared.class_file.ClassFile.{ClassFile}
use Rattle.class_tree.specs.Headers.{Name, headers_of}
use Rattle.field_constructors.proofs.HandledLists.{flat_all, flat_more, flat_none}
use Rattle.field_constructors.specs.Inner.ConstructorWords.{AreHandled, handled_of, handled_of_pool}
use Rattle.field_constructors.proofs.handles.add_folder.Goals as goal

abbrev of_file : Name → ClassFile → List (List ℕ)
of_file class file = handled_of_pool class file.pool file.pool

pub loop-class-init : goal.loop-class-init
loop-class-init c = λ of are. flat_none (headers_of c.args.tree.now) of_file of c.as_slice-class-items.result.now c.args.lists.now.items are

pub loop-class-preserved : goal.loop-class-preserved
loop-class-preserved c = λ of are.
    flat_more (headers_of c.args.tree.now) of_file of c.as_slice-class-items.result.now c.add_pool.new.lists.items c.loop-class.class-index c.class-item.result
    (slice_get_read c.as_slice-class-items.result.now (length c.as_slice-class-items.result.now) c.loop-class.class-index c.class-item.result refl c.loop-class-test.true c.class-item.is)
    (c.in_ok-add_pool.ensures _ (c.loop-class.invariant of are))

pub returns : goal.returns
returns c = λ of are.
    let same = c.as_slice-class-items.ensures ∙ c.folder.ensures.same in
    subst (λ (files : List ClassFile). AreHandled (headers_of c.args.tree.now) c.loop-class.lists.items (λ class. of class ++ handled_of class files)) same
    (flat_all (headers_of c.args.tree.now) of_file of c.as_slice-class-items.result.now c.loop-class.lists.items c.loop-class.class-index c.loop-class-test.false (c.loop-class.invariant of are))
