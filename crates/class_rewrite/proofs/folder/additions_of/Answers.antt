use Rattle.std.proofs.Common.{List, length, subst}
use Rattle.class_rewrite.proofs.AddedMarks.{chains_of_named}
use Rattle.class_rewrite.proofs.folder.additions_of.Goals as goal
use Rattle.class_rewrite.specs.Inner.Marking.{AreFieldsMarked, AreMarked, IsListed, IsNamed}
use Rattle.class_rewrite.specs.declared.outcome.FieldAt.{FieldAt}
use Rattle.class_tree.specs.Headers.{Name, headers_of}

pub returns : goal.returns
returns c =
    let headers = headers_of c.args.tree.now in
    let folder = c.args.tree.now.folder in
    record {
      extended = chains_of_named headers c.args.known.now.made (length folder) c.in_ok-made.made c.in_ok-classes_of_chains.field-0
          (subst (λ (names : List Name). AreMarked (length folder) (IsNamed headers names) c.in_ok-made.made) c.as_slice.ensures c.in_ok-made.ensures)
          c.in_ok-classes_of_chains.ensures;
      finals = subst (λ (fields : List FieldAt). AreFieldsMarked folder (IsListed fields) c.in_ok-marked_fields.field-0.items) c.as_slice-2.ensures
          c.in_ok-marked_fields.ensures;
      privates = subst (λ (fields : List FieldAt). AreFieldsMarked folder (IsListed fields) c.in_ok-marked_fields-2.field-0.items) c.as_slice-3.ensures
          c.in_ok-marked_fields-2.ensures;
    }
