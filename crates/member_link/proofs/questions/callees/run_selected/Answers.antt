use Rattle.std.proofs.Common.{Option, ℕ, sym, ap, subst, ◌∙◌}
use Rattle.std.proofs.lemmas.Bool.{false≢true}
use Rattle.class_model.specs.Members.{has, STATIC}
use Rattle.class_tree.specs.Headers.{headers_of}
use Rattle.member_link.specs.DeclaredMembers.{own_method}
use Rattle.member_link.specs.Found.{AreSame, IsMethodFound}
use Rattle.member_link.specs.Machine.Programs.{has_flag, method_of}
use Rattle.member_link.specs.References.{Reference}
use Rattle.member_link.specs.declared.found.Found.{Found}
use Rattle.member_link.specs.Laws.OwnMethods.{one_own, own_flag}
use Rattle.member_link.proofs.questions.callees.run_selected.Goals as goal

pub returns-then-has-clause-runs : goal.returns-then-has-clause-runs
returns-then-has-clause-runs c = λ P memory values is not_static.
    let headers = headers_of c.args.tree.now in
    let r : Reference = record { class = c.method.inside.class; name = c.method.inside.name; desc = c.method.inside.desc } in
    let own = one_own headers c.in-Some.found (own_method headers r.class r.name r.desc) (subst (λ (o : Option Found). AreSame (IsMethodFound headers) o (own_method headers r.class r.name r.desc)) c.in-Some.is c.own_method.ensures) in
    absurd (false≢true (sym not_static
    ∙ ap (λ (r : Reference). has_flag (method_of P r) STATIC) (sym c.method.view_is)
    ∙ own_flag c.args.tree.now P is r own.0 STATIC own.1
    ∙ ap (λ (flags : ℕ). has flags STATIC) (sym own.2.same_flags)
    ∙ sym c.has.ensures
    ∙ c.if-has.true))
