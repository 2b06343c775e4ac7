use Rattle.std.proofs.Common.{slice_get, option_and_then, ap, ◌∙◌}
use Rattle.class_model.specs.declared.header.Header.{Header}
use Rattle.member_link.specs.Laws.ProgramMembers.{member_is}
use Rattle.machine_code.proofs.traits.method_member.Goals as goal

pub returns : goal.returns
returns c = λ P is.
    c.get.ensures
    ∙ ap (option_and_then (λ (header : Header). slice_get header.methods c.args.at.method)) c.in_ok-header.ensures
    ∙ member_is c.args.tree.now P is c.args.at
