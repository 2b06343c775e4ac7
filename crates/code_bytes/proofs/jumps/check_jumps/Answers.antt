-- The instructions before the one that is asked have no bad target.
use Rattle.std.proofs.Common.{◌≡◌, rules}
use Rattle.std.specs.List.{list_all}
use Rattle.class_model.specs.Instructions.{is_start, targets}
use Rattle.code_bytes.proofs.Targets.{passes_none, passes_more, fails_here, all_pass}
use Rattle.code_bytes.proofs.jumps.check_jumps.Goals as goal

pub returns : goal.returns
returns c = (all_pass _ _ (rw c.as_slice-placed-items.ensures at c.loop-placed-test.false) c.loop-placed.invariant, tt)

pub loop-placed-init : goal.loop-placed-init
loop-placed-init c = passes_none _

pub loop-placed-preserved : goal.loop-placed-preserved
loop-placed-preserved c =
    let inside = rw c.as_slice-placed-items.ensures at c.loop-placed-test.true in
    let is_at = rw c.as_slice-placed-items.ensures at c.placed-item.is in
    let told : c.has_targets.result ≡ list_all (is_start c.args.code.now) (targets c.placed-item.result.instr) = search rules in
    passes_more _ _ c.placed-item.result _ inside is_at told c.if-not-has_targets.false c.loop-placed.invariant

pub returns-then-not-has_targets : goal.returns-then-not-has_targets
returns-then-not-has_targets c =
    let inside = rw c.as_slice-placed-items.ensures at c.loop-placed-test.true in
    let is_at = rw c.as_slice-placed-items.ensures at c.placed-item.is in
    let told : c.has_targets.result ≡ list_all (is_start c.args.code.now) (targets c.placed-item.result.instr) = search rules in
    rw c.from.ensures (fails_here _ _ c.placed-item.result _ inside is_at told c.if-not-has_targets.true c.loop-placed.invariant)
