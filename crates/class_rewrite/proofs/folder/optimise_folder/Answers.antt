use Rattle.std.proofs.Common.{List, ap, length, sym, subst, ◌∙◌}
use Rattle.class_rewrite.proofs.OptimisedFolders.{OptimisingLaws, can, drafts_len, optimised}
use Rattle.class_rewrite.proofs.folder.optimise_folder.Goals as goal
use Rattle.class_rewrite.specs.Inner.Finishing.{AllCanExtend, AreFinished}
use Rattle.class_rewrite.specs.declared.decided.Draft.{Draft}

pub finished_classes-requires : goal.finished_classes-requires
finished_classes-requires c =
    let laws : OptimisingLaws = record {
      one = c.a_rewriting_has_one_answer.ensures;
      candidates = c.rewritten_methods_make_candidates.ensures;
      verifies = c.a_written_folder_verifies.ensures;
      runs = c.a_written_folder_runs_as_its_folder.ensures.folder;
      itself = c.running_the_same_is_reflexive.ensures;
    } in
    let tree = c.args.tree.now in
    let typed = c.args.typed.now in
    let drafts = c.in_ok-drafts.field-0.drafts.items in
    let all = c.in_ok-drafts.field-0.known in
    let extended = c.in_ok-additions.additions.extended in
    record {
      drafts = ap length c.as_slice.ensures.value
          ∙ drafts_len laws tree typed c.a_tree_has_rules.ensures c.a_tree_is_a_hierarchy.ensures c.codes_of_a_tree_are_bytes.ensures c.requires.linked
          c.requires.typed drafts all c.in_ok-drafts.ensures extended c.in_ok-additions.ensures.extended;
      finals = c.in_ok-additions.ensures.finals.len;
      privates = c.in_ok-additions.ensures.privates.len;
      can = subst (λ (list : List Draft). AllCanExtend tree list extended) (sym c.as_slice.ensures.value)
          (can laws tree typed c.a_tree_has_rules.ensures c.a_tree_is_a_hierarchy.ensures c.codes_of_a_tree_are_bytes.ensures c.requires.linked c.requires.typed
          drafts all c.in_ok-drafts.ensures extended c.in_ok-additions.ensures.extended);
    }

pub returns : goal.returns
returns c =
    let laws : OptimisingLaws = record {
      one = c.a_rewriting_has_one_answer.ensures;
      candidates = c.rewritten_methods_make_candidates.ensures;
      verifies = c.a_written_folder_verifies.ensures;
      runs = c.a_written_folder_runs_as_its_folder.ensures.folder;
      itself = c.running_the_same_is_reflexive.ensures;
    } in
    let tree = c.args.tree.now in
    let drafts = c.in_ok-drafts.field-0.drafts.items in
    let additions = c.in_ok-additions.additions in
    optimised laws tree c.args.typed.now c.a_tree_has_rules.ensures c.a_tree_is_a_hierarchy.ensures c.codes_of_a_tree_are_bytes.ensures c.requires.linked
    c.requires.typed drafts c.in_ok-drafts.field-0.known c.in_ok-drafts.ensures additions.extended c.in_ok-additions.ensures.extended additions.finals.items
    additions.privates.items c.in_ok-additions.ensures.finals c.in_ok-additions.ensures.privates c.in_ok-classes.classes
    (subst (λ (list : List Draft). AreFinished tree list additions.extended additions.finals.items additions.privates.items (length tree.folder)
    c.in_ok-classes.classes) c.as_slice.ensures.value c.in_ok-classes.ensures)
