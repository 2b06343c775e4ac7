use Rattle.std.proofs.Common.{List, ℕ, drop, ap, ◌∙◌}
use Rattle.class_model.specs.Descriptors.{brackets, element_len}
use Rattle.member_link.specs.Laws.Parameters.{drop_more}
use Rattle.member_link.proofs.descriptors.after_type.Goals as goal

pub returns : goal.returns
returns c =
    let bytes = c.args.bytes.now in
    c.after_element.ensures
    ∙ ap (λ (rest : List ℕ). drop (element_len rest) rest) c.after_brackets.ensures
    ∙ drop_more (brackets bytes) (element_len (drop (brackets bytes) bytes)) bytes
