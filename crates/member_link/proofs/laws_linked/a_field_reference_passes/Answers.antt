use Rattle.member_link.specs.Forms.{IsStaticForm, IsInstanceForm}
use Rattle.member_link.specs.Uses.{HasAnyForm}
use Rattle.member_link.proofs.ByPlace.{field_passes}
use Rattle.member_link.proofs.laws_linked.a_field_reference_passes.Goals as goal

pub returns-clause-of_static : goal.returns-clause-of_static
returns-clause-of_static c = λ s reference. field_passes s IsStaticForm reference

pub returns-clause-of_instance : goal.returns-clause-of_instance
returns-clause-of_instance c = λ s reference. field_passes s IsInstanceForm reference

pub returns-clause-of_handle : goal.returns-clause-of_handle
returns-clause-of_handle c = λ s reference. field_passes s HasAnyForm reference
