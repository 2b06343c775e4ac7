use Rattle.std.proofs.Common.{Option, Some, None, sym, ap, subst, ◌∙◌}
use Rattle.class_tree.specs.Headers.{headers_of}
use Rattle.member_link.specs.declared.found.Found.{Found}
use Rattle.machine_code.specs.Inner.Resolved.{LinksMethod}
use Rattle.member_link.specs.RunOps.{IsFoundStatic}
use Rattle.member_link.specs.declared.run_op.CallOp.{CallOp}
use Rattle.member_link.specs.declared.run_op.CallTarget.{CallTarget}
use Rattle.machine_code.proofs.resolving.targets.resolve_static.Goals as goal
use Rattle.machine_code.proofs.resolving.targets.resolve_static.Goals.{in-Some+in_ok-static_target-in-Some, in-None}

pub returns-clause-resolved : goal.returns-clause-resolved
returns-clause-resolved c = λ P is.
    let headers = headers_of c.args.tree.now in
    let link = c.linked_method.ensures.link P is in
    elim c.match-linked_method.branch [
      | in-Some+in_ok-static_target-in-Some w ↦
          let kept = w.in_ok-static_target-in-Some.ensures in
          let one = subst (λ (o : Option Found). LinksMethod headers o (P.links.method c.args.named)) w.in-Some.is link in
          subst (λ (f : Option CallTarget). let op : CallOp = record { named = c.args.named; from = None; parameters = c.in_ok-parameters.parameters; found = f } in IsFoundStatic P op f) (sym w.found-is)
          (record { link = one.2 ∙ ap Some (sym (kept.kept one.0 one.1).same); found = kept.found P is; runs = kept.runs P is })
      | in-None w ↦
          subst (λ (f : Option CallTarget). let op : CallOp = record { named = c.args.named; from = None; parameters = c.in_ok-parameters.parameters; found = f } in IsFoundStatic P op f) (sym w.found-is)
          (subst (λ (o : Option Found). LinksMethod headers o (P.links.method c.args.named)) w.in-None.is link)
    ]
