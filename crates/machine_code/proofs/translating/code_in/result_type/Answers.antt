use Rattle.std.proofs.Common.{List, ℕ, Option, sym, ap, ◌∙◌}
use Rattle.class_model.specs.PoolChecks.{text_or_empty}
use Rattle.member_link.specs.Signatures.{result_of}
use Rattle.member_link.specs.Laws.ResultTexts.{result_spelled}
use Rattle.machine_code.proofs.translating.code_in.result_type.Goals as goal

pub returns : goal.returns
returns c =
    c.into_result.ensures
    ∙ sym
    (result_spelled c.in-Some.text.now c.in_ok-descriptor.descriptor
    c.in_ok-descriptor.ensures.params c.in_ok-descriptor.ensures.spelled)
    ∙ ap (λ (text : Option (List ℕ)). result_of (text_or_empty text)) c.in-Some.ensures
