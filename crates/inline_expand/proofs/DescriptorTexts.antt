-- The result of a method descriptor that is read.
use Rattle.std.proofs.Common.{◌≡◌, ℕ, List, Result, Ok, Err, IfOk}
use Rattle.class_model.specs.Descriptors.{SpellsDescriptor, parameters_of}
use Rattle.class_model.specs.declared.descriptor.Descriptor.{Descriptor}
use Rattle.class_model.specs.declared.memory.NoMemory.{NoMemory}
use Rattle.member_link.specs.Laws.ResultTexts.{result_spelled}
use Rattle.member_link.specs.Signatures.{result_of}

pub given-result : (text : List ℕ) (found : Result Descriptor NoMemory) → IfOk found (SpellsDescriptor text) → IfOk found (λ descriptor. parameters_of text ≡ descriptor.params) → IfOk found (λ descriptor. result_of text ≡ descriptor.result)
given-result text (Ok descriptor) spells params = result_spelled text descriptor params spells
given-result text (Err fault) spells params = tt
