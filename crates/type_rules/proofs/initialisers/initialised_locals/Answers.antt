use Rattle.std.proofs.Common.{◌<◌, ◌∙◌, ℕ, List, ap, length, slice_set, arith}
use Rattle.class_model.specs.declared.frame.VType.{VType}
use Rattle.class_model.specs.declared.frame.VType.TheVariants.{Object}
use Rattle.member_link.specs.Rows.MemberRows.{initialised_type}
use Rattle.type_rules.proofs.BecomingLocals.{next_becomes, next_stays}
use Rattle.type_rules.proofs.initialisers.initialised_locals.Goals as goal
use Rattle.type_rules.proofs.initialisers.initialised_locals.Goals.{in-Some+in_ok-copy+in_ok-set, in_default}
use Rattle.member_link.specs.MemberRefs.{reference_meant}
use Rattle.member_link.specs.Scope.{row_scope}

pub loop-index-preserved : goal.loop-index-preserved
loop-index-preserved c =
    let locals = c.args.step.now.before.now.locals in
    let f : VType → VType = λ unit. initialised_type (row_scope c.args.step.now.rules.now) (reference_meant c.args.reference.now) c.args.receiver.now unit in
    let within : c.loop-index.index < length locals = omega (arith, c.loop-index-test.true, c.len-index-end.ensures) in
    elim c.match-class_of_local.branch [
      | in-Some+in_ok-copy+in_ok-set w ↦
          w.after-is ∙ w.in_ok-set.ensures.ok ∙ ap (λ (name : List ℕ). slice_set c.loop-index.after c.loop-index.index (Object name)) w.in_ok-copy.ensures
          ∙ next_becomes f locals c.loop-index.after c.loop-index.index within c.loop-index.invariant w.in-Some.name.now w.in-Some.ensures
      | in_default w ↦ w.after-is ∙ next_stays f locals c.loop-index.after c.loop-index.index within c.loop-index.invariant w.in_default.ensures
    ]
