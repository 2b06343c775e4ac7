use Rattle.std.proofs.Common.{rules, ◌≡◌, ◌≢◌, false, true, Bool, Result, IfOk, sym, subst}
use Rattle.std.specs.Result.{IsErrOf}
use Rattle.class_rewrite.proofs.PlannedMethods.{gains_nothing, may_be_written, outcome_is, writing_is}
use Rattle.class_rewrite.proofs.rewriter.of_plan.Goals as goal
use Rattle.class_rewrite.specs.Inner.Meanings.{IsMeant, IsReasonOf, MayBeWritten, Meaning, rewriting}
use Rattle.class_rewrite.specs.Inner.Outcomes.{IsRewrittenTo}
use Rattle.code_drafts.specs.Emits.{Writing}
use Rattle.flow_code.specs.declared.reason.KeptFault.TheVariants.{Kept}
use Rattle.flow_code.specs.declared.reason.Reason.{Reason}

pub returns-then-not-gain : goal.returns-then-not-gain
returns-then-not-gain c = λ typed at is_flat.
    let nothing : c.gain.result ≡ false = search rules in
    gains_nothing c.args.tree.now c.args.flat.now c.args.plan.now c.requires.least c.gain.result (λ links valid. c.gain.ensures c.args.tree.now links valid) nothing
    c.args.pool.now typed at is_flat

pub written_method-requires : goal.written_method-requires
written_method-requires c =
    let yes_told : c.gain.result ≡ true = search rules in
    let known = c.requires.known in
    let links = c.a_tree_has_links.ensures in
    let given = c.field_constructors_have_descriptors.ensures c.args.tree.now in
    let same = writing_is c.new-setting.result c.args.tree.now c.args.flat.now c.args.plan.now c.new-setting.ensures.classes c.new-setting.ensures.flat
    c.new-setting.ensures.plan in
    subst (λ (of : Writing). MayBeWritten of c.args.pool.now) same
    (may_be_written c.args.tree.now c.args.flat.now c.args.plan.now c.requires.least c.gain.result (λ links valid. c.gain.ensures c.args.tree.now links valid)
    yes_told c.args.pool.now known.typed known.at links.0 given.0 known.is_flat known.of_class links.1 given.1)

pub returns : goal.returns
returns c =
    let yes_told : c.gain.result ≡ true = search rules in
    let same = writing_is c.new-setting.result c.args.tree.now c.args.flat.now c.args.plan.now c.new-setting.ensures.classes c.new-setting.ensures.flat
    c.new-setting.ensures.plan in
    outcome_is c.args.tree.now c.args.flat.now c.args.plan.now c.requires.least c.gain.result (λ links valid. c.gain.ensures c.args.tree.now links valid)
    yes_told c.args.pool.now c.written_method.new.pool c.written_method.result
    (subst (λ (of : Writing). IfOk c.written_method.result (λ method. (m : Meaning)
    → IsMeant of m
    → IsRewrittenTo (rewriting of m) m.at c.args.pool.now c.written_method.new.pool method)) (sym same) c.written_method.ensures.ok)
    (subst (λ (of : Writing). (reason : Reason) (m : Meaning)
    → IsErrOf c.written_method.result (Kept reason)
    → IsMeant of m
    → IsReasonOf of m c.args.pool.now reason) (sym same) c.written_method.ensures.kept)
    c.written_method.ensures.err c.outcome_of.result c.outcome_of.ensures
