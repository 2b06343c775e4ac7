use Rattle.class_bytes.specs.Counts.{FitsCounts}
use Rattle.class_model.specs.Laws.Lists.{AllByRecursion-weaker}
use Rattle.class_rewrite.specs.Laws.WrittenLists.{written_len}
use Rattle.class_rewrite.specs.Rewriting.Methods.{rewriting_of}
use Rattle.class_tree.specs.Headers.{IsClassFile}
use Rattle.pea_top.proofs.optimising.output_of.Goals as goal

pub written_files-requires-clause-count : goal.written_files-requires-clause-count
written_files-requires-clause-count c =
    let is = c.in_ok-classes.ensures in
    written_len (rewriting_of c.args.tree.now c.args.typed.now is.links is.constructor) c.in_ok-classes.field-0.classes is.written

pub written_files-requires-clause-fits : goal.written_files-requires-clause-fits
written_files-requires-clause-fits c =
    AllByRecursion-weaker IsClassFile FitsCounts (λ file of. (c.a_class_file_fits_its_items.ensures file of).counts) c.in_ok-classes.field-0.classes c.in_ok-classes.ensures.keeps.verified.tree.folder
