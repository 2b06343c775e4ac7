use Rattle.member_link.specs.Forms.{FitsCall}
use Rattle.member_link.specs.Uses.{HasAnyForm}
use Rattle.member_link.proofs.ByPlace.{method_passes}
use Rattle.member_link.proofs.laws_linked.a_method_reference_passes.Goals as goal

pub returns-clause-of_call : goal.returns-clause-of_call
returns-clause-of_call c = λ s opcode constant reference. method_passes s (FitsCall s.headers opcode constant) reference

pub returns-clause-of_handle : goal.returns-clause-of_handle
returns-clause-of_handle c = λ s reference. method_passes s (λ reference. HasAnyForm) reference
