-- In a setup the rows of each rewritten method fit the types of its flat code.
use Rattle.std.proofs.Common.{◌≡◌, Some, subst, sym}
use Rattle.class_model.specs.Pool.{Constants, constant_at}
use Rattle.class_model.specs.declared.class_file.MethodAt.{MethodAt}
use Rattle.member_link.specs.Signatures.{reference_of}
use Rattle.plan_flow.specs.Written.WrittenPrograms.{WrittenMethod}
use Rattle.written_runs.specs.Inner.PlannedFrames.{scope_in}
use Rattle.written_runs.specs.Inner.Setup.{IsSetup, Setup}
use Rattle.written_runs.specs.Laws.Carried.PlannedEdges.{RowsFit}
use Rattle.written_runs.specs.Laws.FittingEdges.{rows_fit_typed}
use Rattle.written_runs.specs.Laws.FittingRows.{same_pool}
use Rattle.written_runs.specs.Laws.ObjectInits.{object_calls}
use Rattle.written_runs.specs.WrittenRuns.{IsReadyMethod}

pub rows_fit : (u : Setup) → IsSetup u → (at : MethodAt) (w : WrittenMethod) → u.written at ≡ Some w → RowsFit (scope_in u w)
rows_fit u setup at w written =
    rows_fit_typed (scope_in u w) ready.scope ready.code.typed
    (λ place point there class opcode index count r instr names init.
    object_calls u setup at w place point class opcode index count r written there instr
    (subst (λ (pool : Constants). reference_of pool (constant_at pool index) ≡ Some r) (sym (same_pool (scope_in u w) class)) names) init) where
      ready : IsReadyMethod u.classes u.links at w
      ready = setup.ready at w written
