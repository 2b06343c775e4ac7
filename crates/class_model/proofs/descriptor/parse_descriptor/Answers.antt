use Rattle.std.proofs.Common.{sym, ◌∙◌}
use Rattle.class_model.proofs.Parameters.{result_of}
use Rattle.class_model.proofs.Variants.{passed_on}
use Rattle.class_model.proofs.descriptor.parse_descriptor.Goals as goal

pub returns-in_err-result-clause-bad_name : goal.returns-in_err-result-clause-bad_name
returns-in_err-result-clause-bad_name c = λ bad descriptor spells.
    let front = sym c.bytes.ensures.same ∙ c.in-Some.ensures.some in
    c.in_err-result.ensures.bad_name (passed_on _ _ _ c.from_residual-in_err-result.ensures.1 bad) _ (result_of _ _ _ _ descriptor front c.in_ok-params.ensures.read spells)
