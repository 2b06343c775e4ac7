use Rattle.std.proofs.Common.{Result, Ok, Err, OnErr, ◌∙◌}
use Rattle.pea_top.proofs.CallCounts.{CountsOnly-trans}
use Rattle.pea_top.proofs.Puts.{Puts-more, PutsSome-fails}
use Rattle.pea_top.proofs.writing.write_files.Goals as goal

on_any_err : {T E P : Type 0} (r : Result T E) → P → OnErr r P
on_any_err (Ok x) p = tt
on_any_err (Err e) p = p

pub returns-in_err-write-clause-err : goal.returns-in_err-write-clause-err
returns-in_err-write-clause-err g c = λ tells.
    on_any_err c.from_residual.result (PutsSome-fails _ _ _ _ _ c.as_slice.result.now _ _ _ c.loop-file-test.true c.file-item.is c.as_str.ensures (c.loop-file.invariant.0 tells) (c.write.ensures.elsewhere tells))

pub loop-file-preserved : goal.loop-file-preserved
loop-file-preserved g c = (
  λ tells. Puts-more _ _ _ _ _ _ _ _ _ c.loop-file-test.true c.file-item.is c.as_str.ensures (c.loop-file.invariant.0 tells) (c.write.ensures.elsewhere tells) c.as_slice.ensures (c.in_ok-write.ensures.written tells),
  λ tells. c.write.ensures.printed tells ∙ c.loop-file.invariant.1 tells,
  CountsOnly-trans _ c.loop-file.invariant.2 c.write.ensures.counts,
)
