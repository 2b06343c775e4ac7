use Rattle.std.proofs.Common.{◌≡◌, ◌++◌, [], ◌∷◌, true, map, take, Bor, refl, sym, ap, subst, ◌∙◌}
use Rattle.std.specs.List.{list_all}
use Rattle.class_model.specs.ModifiedUtf8.{is_plain_text}
use Rattle.class_model.specs.Laws.Lists.{passes_at}
use Rattle.class_model.specs.Laws.Texts.{plain_text}
use Rattle.class_model.specs.declared.class_file.ClassFile.{ClassFile}
use Rattle.class_tree.specs.Headers.{Name}
use Rattle.class_tree.specs.Names.{throwable, machine_throwables}
use Rattle.work_gen.specs.BaseLibrary.{IsBaseLibrary}
use Rattle.work_gen.specs.Values.{named_classes, thrown}
use Rattle.work_gen.proofs.Appended.{one_appended, all_appended}
use Rattle.work_gen.proofs.Library.{is_base_library}
use Rattle.work_gen.proofs.base.base_library.Goals as goal

pub throwable-requires-clause-super_name : goal.throwable-requires-clause-super_name
throwable-requires-clause-super_name c = plain_text _ refl

pub throwable-requires-clause-name : goal.throwable-requires-clause-name
throwable-requires-clause-name c =
    let plain : list_all is_plain_text machine_throwables ≡ true = refl in
    plain_text _ (passes_at is_plain_text (λ name. name.now) c.machine_throwables-name-items.result.now c.loop-name.name-index _ (ap (list_all is_plain_text) c.machine_throwables-name-items.ensures ∙ plain) c.loop-name-test.true)

pub loop-name-preserved : goal.loop-name-preserved
loop-name-preserved c =
    let thrown_of : Bor Name → ClassFile = λ name. thrown throwable name.now in
    let before = named_classes ++ map thrown_of (take c.loop-name.name-index c.machine_throwables-name-items.result.now) in
    c.in_ok-push.ensures.ok
    ∙ ap (λ classes. classes ++ c.in_ok-throwable.field-0 ∷ []) c.loop-name.invariant
    ∙ ap (λ class. before ++ class ∷ []) c.in_ok-throwable.ensures
    ∙ one_appended thrown_of named_classes c.machine_throwables-name-items.result.now c.loop-name.name-index _ c.loop-name-test.true

pub returns : goal.returns
returns c =
    let all = all_appended (thrown throwable) (λ name. name.now) named_classes c.machine_throwables-name-items.result.now c.loop-name.name-index c.loop-name-test.false in
    subst IsBaseLibrary (sym (c.loop-name.invariant ∙ all ∙ ap (λ names. named_classes ++ map (thrown throwable) names) c.machine_throwables-name-items.ensures)) is_base_library
