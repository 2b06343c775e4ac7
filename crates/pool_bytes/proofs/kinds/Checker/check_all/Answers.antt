use Rattle.std.proofs.Common.{◌+◌, ◌<◌, length, ap, ◌∙◌, arith}
use Rattle.pool_bytes.proofs.AnswerParts.{at_end, at_none, at_fault, at_some, place_fits, passed_on, have_texts, entries_by_constant}
use Rattle.pool_bytes.proofs.kinds.Checker.check_all.Goals as goal
use Rattle.pool_bytes.proofs.kinds.Checker.check_all.Goals.{in-Some+in_ok-check_constant, in_default}

pub returns-in_err-check_constant-clause-told : goal.returns-in_err-check_constant-clause-told
returns-in_err-check_constant-clause-told c =
    let lt : c.loop-index.index < length c.args.self.now = omega arith in
    let fails = at_fault (entries_by_constant c.args.major c.args.self.now) _ _ _ _ c.loop-index.invariant lt _ c.in-Some.ensures.constant _ c.in_err-check_constant.ensures.told in
    passed_on _ _ _ c.from_residual.ensures.1 fails

pub overflow_add-place : goal.overflow_add-place
overflow_add-place c =
    let lt : c.loop-index.index < length c.args.self.now = omega arith in
    let fits = place_fits (entries_by_constant c.args.major c.args.self.now) _ _ _ _ c.loop-index.invariant lt _ c.in-Some.ensures.constant in
    omega (arith, fits)

pub loop-index-preserved : goal.loop-index-preserved
loop-index-preserved c =
    let lt : c.loop-index.index < length c.args.self.now = omega arith in
    elim c.match-get.branch [
      | in-Some+in_ok-check_constant w ↦ at_some (entries_by_constant c.args.major c.args.self.now) _ _ _ _ c.loop-index.invariant lt _ w.in-Some.ensures.constant _ (w.place-is ∙ ap (λ n. c.loop-index.place + n) w.byte_len-place.ensures) w.in_ok-check_constant.ensures.told.0
      | in_default w ↦ rw w.place-is (at_none (entries_by_constant c.args.major c.args.self.now) _ _ _ _ c.loop-index.invariant lt w.in_default.ensures.constant)
    ]

pub returns-clause-told : goal.returns-clause-told
returns-clause-told c = at_end (entries_by_constant c.args.major c.args.self.now) _ _ _ _ c.loop-index.invariant (omega arith)

pub returns-clause-texts : goal.returns-clause-texts
returns-clause-texts c = let all = at_end (entries_by_constant c.args.major c.args.self.now) _ _ _ _ c.loop-index.invariant (omega arith) in have_texts _ _ _ _ all.0
