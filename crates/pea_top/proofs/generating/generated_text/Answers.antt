use Rattle.std.proofs.Common.{◌≡◌, List, rules, subst}
use Rattle.std.proofs.lemmas.Result.{IfOk-weaker}
use Rattle.class_model.specs.declared.class_file.ClassFile.{ClassFile}
use Rattle.class_tree.specs.Trees.{IsArranged}
use Rattle.host_tree.specs.Host.{Bytes}
use Rattle.script_text.specs.Scripts.{IsScript}
use Rattle.work_gen.specs.BaseLibrary.{base_headers}
use Rattle.work_gen.specs.Generated.{choices, generated_folder, generated_script}
use Rattle.pea_top.specs.Inner.Generating.{IsBaseTree}
use Rattle.pea_top.proofs.RunsTold.{generated_told}
use Rattle.pea_top.proofs.generating.generated_text.Goals as goal

pub base_tree-requires-clause-verify : goal.base_tree-requires-clause-verify
base_tree-requires-clause-verify c = λ classes arranged.
    let same : c.in_ok-folder.field-0.folder ≡ generated_folder (choices c.args.number c.args.size) = c.in_ok-folder.ensures.is.folder in
    c.generated_work_verifies.ensures c.args.number c.args.size classes c.requires.size (subst (λ (folder : List ClassFile). IsArranged folder base_headers classes) same arranged)

pub returns : goal.returns
returns c =
    let same : c.in_ok-folder.field-0.folder ≡ generated_folder (choices c.args.number c.args.size) = c.in_ok-folder.ensures.is.folder in
    let same_script : c.as_slice.result.now ≡ generated_script (choices c.args.number c.args.size) = search rules in
    let base = subst (λ (folder : List ClassFile). IsBaseTree folder c.in_ok-tree.tree) same c.in_ok-tree.ensures in
    let script = subst (λ (text : Bytes). IsScript text c.in_ok-actions.actions) same_script c.in_ok-actions.ensures in
    IfOk-weaker c.runs_text.result _ _ (λ text told. generated_told c.args.number c.args.size c.in_ok-tree.tree c.in_ok-actions.actions text.items base script told) c.runs_text.ensures
