use Rattle.std.proofs.Common.{not, sym, ap, ◌∙◌}
use Rattle.class_tree.specs.Headers.{headers_of}
use Rattle.class_tree.specs.Order.{place_of}
use Rattle.member_link.specs.References.{Reference}
use Rattle.plan_flow.specs.Inner.FieldWords.{is_in_folder}
use Rattle.plan_flow.proofs.FolderClasses.{named_in_folder}
use Rattle.plan_flow.proofs.fields.is_of_library.Goals as goal

pub returns : goal.returns
returns c = λ links flat.
    let headers = headers_of c.args.tree.now in
    ap not
    (c.is_in_folder.ensures
    ∙ ap is_in_folder (c.place.ensures ∙ ap (λ (r : Reference). place_of headers r.class) c.field.view_is)
    ∙ sym (named_in_folder headers c.args.field.now.class))
