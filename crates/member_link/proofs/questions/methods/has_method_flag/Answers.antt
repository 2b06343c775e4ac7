use Rattle.std.proofs.Common.{Option, ap, ◌∙◌}
use Rattle.class_model.specs.declared.header.Member.{Member}
use Rattle.member_link.specs.Machine.Programs.{has_flag, method_of}
use Rattle.member_link.specs.References.{Reference}
use Rattle.member_link.specs.Laws.ProgramMembers.{method_is}
use Rattle.member_link.proofs.questions.methods.has_method_flag.Goals as goal

pub returns-in-Some : goal.returns-in-Some
returns-in-Some c = λ P is.
    let r : Reference = record { class = c.method.inside.class; name = c.method.inside.name; desc = c.method.inside.desc } in
    c.has.ensures
    ∙ ap (λ (member : Option Member). has_flag member c.args.mask) (c.in-Some.ensures ∙ method_is c.args.tree.now P is r ∙ ap (method_of P) c.method.view_is)

pub returns-in-None : goal.returns-in-None
returns-in-None c = λ P is.
    let r : Reference = record { class = c.method.inside.class; name = c.method.inside.name; desc = c.method.inside.desc } in
    ap (λ (member : Option Member). has_flag member c.args.mask) (c.in-None.ensures ∙ method_is c.args.tree.now P is r ∙ ap (method_of P) c.method.view_is)
