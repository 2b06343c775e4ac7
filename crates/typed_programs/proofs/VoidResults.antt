use Rattle.std.specs.Prelude.{◌≡◌, ℕ, List, None}
use Rattle.class_model.specs.Descriptors.{parameters_of}
use Rattle.class_model.specs.PoolChecks.{BytesSpell, ReturnsVoid}
use Rattle.class_model.specs.declared.descriptor.Descriptor.{Descriptor}
use Rattle.member_link.specs.Laws.ResultTexts.{no_result}
use Rattle.member_link.specs.Signatures.{result_of}

-- the parameters that are cut from bytes are those that they spell
pub record ParametersSpelled : Type 0 where
  pub are : (text : List ℕ) (d : Descriptor) → BytesSpell text d → parameters_of text ≡ d.params

-- a descriptor without a result is read as one
pub void_result : ParametersSpelled → (text : List ℕ) → ReturnsVoid text → result_of text ≡ None
void_result spelled text void =
    no_result text void.descriptor (spelled.are text void.descriptor void.spelled) void.spelled.spelled void.no_result
