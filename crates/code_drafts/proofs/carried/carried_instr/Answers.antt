use Rattle.std.proofs.Common.{rules, ◌≡◌, ◌==◌, ℕ, List, Option, false, ap, subst, ◌∙◌, arith}
use Rattle.std.proofs.lemmas.Grind.{common_steps}
use Rattle.std.specs.Result.{IsErrOf}
use Rattle.code_drafts.proofs.CarriedLaws.{other_carried, other_needs}
use Rattle.code_drafts.proofs.carried.carried_instr.Goals as goal
use Rattle.code_drafts.specs.Writable.{scope}
use Rattle.flow_code.specs.declared.reason.KeptFault.TheVariants.{Kept}
use Rattle.making_code.specs.Constants.{Need}
use Rattle.materialise.specs.Growing.{Grows, IsFull}
use Rattle.materialise.specs.Indices.{IsIndexOfLast}
use Rattle.plan_flow.specs.PlanScope.{pool_of}
use Rattle.plan_flow.specs.Written.WrittenConstants.{needs_of_index}

pub returns-in_err-index-clause-full : goal.returns-in_err-index-clause-full
returns-in_err-index-clause-full c = λ reason links is.
    let s = scope c.args.setting.now links in
    let fails : IsErrOf c.index_in_host.result (Kept reason) = search rules in
    let apart : (c.args.class == c.args.setting.now.flat.host.class) ≡ false = first_of (search rules, grind (arith, common_steps)) in
    subst (λ (needs : List Need). IsFull c.args.pool.now needs reason)
    (ap (needs_of_index (pool_of s c.args.class)) c.named_index.ensures ∙ other_needs s c.args.class c.args.instr.now apart) (c.index_in_host.ensures.full reason links fails)

pub returns-clause-ok : goal.returns-clause-ok
returns-clause-ok c = λ links.
    let s = scope c.args.setting.now links in
    let apart : (c.args.class == c.args.setting.now.flat.host.class) ≡ false = first_of (search rules, grind (arith, common_steps)) in
    subst (λ (needs : List Need). Grows c.args.pool.now needs c.index_in_host.new.pool)
    (ap (needs_of_index (pool_of s c.args.class)) c.named_index.ensures ∙ other_needs s c.args.class c.args.instr.now apart) (c.in_ok-index.ensures.ok links)

pub returns-clause-instr : goal.returns-clause-instr
returns-clause-instr c = λ links.
    let s = scope c.args.setting.now links in
    let apart : (c.args.class == c.args.setting.now.flat.host.class) ≡ false = first_of (search rules, grind (arith, common_steps)) in
    other_carried s c.index_in_host.new.pool c.args.class c.in_ok-index.index c.args.instr.now c.in_ok-with_index.field-0 apart
    (subst (λ (named : Option ℕ). IsIndexOfLast c.index_in_host.new.pool (needs_of_index (pool_of s c.args.class) named) c.in_ok-index.index) c.named_index.ensures
    (c.in_ok-index.ensures.index links)) c.in_ok-with_index.ensures
