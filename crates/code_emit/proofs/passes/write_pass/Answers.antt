use Rattle.std.proofs.Common.{rules, ◌<◌, ◌≤◌, ℕ, length, ap, subst, ◌∙◌}
use Rattle.std.specs.Result.{IsErrOf}
use Rattle.materialise.specs.Laws.GrownEdits.{continues_both}
use Rattle.code_emit.proofs.PassLaws.{points_end, points_full, points_more}
use Rattle.code_emit.proofs.passes.write_pass.Goals as goal
use Rattle.code_emit.specs.Inner.PassBlocks.{blocks_at}
use Rattle.flow_code.specs.FlatCode.{FlatCode}
use Rattle.flow_code.specs.declared.reason.KeptFault.TheVariants.{Kept}

pub returns-in_err-write_at-clause-full : goal.returns-in_err-write_at-clause-full
returns-in_err-write_at-clause-full c = λ reason is.
    let fails : IsErrOf c.write_at.result (Kept reason) = search rules in
    let low = subst (λ (n : ℕ). c.loop-at.at < n) (c.len-at-end.ensures.len ∙ ap (λ (f : FlatCode). length f.points) c.flat.ensures) c.loop-at-test.true in
    points_full c.args.setting.now c.requires (blocks_at c.args.pass) c.loop-at.at c.args.pool.now c.loop-at.pool c.args.drafts.now c.loop-at.drafts reason low
    c.loop-at.invariant.0 (c.write_at.ensures.reached reason fails) (c.write_at.ensures.full reason fails)

pub loop-at-preserved : goal.loop-at-preserved
loop-at-preserved c =
    let low = subst (λ (n : ℕ). c.loop-at.at < n) (c.len-at-end.ensures.len ∙ ap (λ (f : FlatCode). length f.points) c.flat.ensures) c.loop-at-test.true in (
      points_more c.args.setting.now c.requires (blocks_at c.args.pass) c.loop-at.at c.args.pool.now c.loop-at.pool c.write_at.new.pool c.args.drafts.now c.loop-at.drafts
          c.write_at.new.drafts low c.loop-at.invariant.0 c.in_ok-write_at.ensures.ok c.in_ok-write_at.ensures.unreached,
      continues_both c.args.pool.now c.loop-at.pool c.write_at.new.pool c.loop-at.invariant.1 c.write_at.ensures.more,
    )

pub returns-clause-ok : goal.returns-clause-ok
returns-clause-ok c =
    let high = subst (λ (n : ℕ). n ≤ c.loop-at.at) (c.len-at-end.ensures.len ∙ ap (λ (f : FlatCode). length f.points) c.flat.ensures) c.loop-at-test.false in
    points_end c.args.setting.now c.requires (blocks_at c.args.pass) c.loop-at.at c.args.pool.now c.loop-at.pool c.args.drafts.now c.loop-at.drafts high c.loop-at.invariant.0
