-- What the body of a method keeps beside its class file, its method and its code.
use Rattle.std.specs.Prelude.{◌≡◌, ◌<◌, ℕ, List, length, map, Ok}
use Rattle.class_model.specs.Descriptors.{SpellsDescriptor}
use Rattle.class_model.specs.Instructions.{decoded}
use Rattle.class_model.specs.declared.frame.PlacedFrame.{PlacedFrame}
use Rattle.class_model.specs.OffsetIndexes.{IsIndexOf}
use Rattle.member_link.specs.CodedMethods.{CodedMethod, descriptor_text, entry, stated}
use Rattle.member_link.specs.declared.body.IndexedInstrs.{IndexedInstrs}
use Rattle.member_link.specs.declared.body.Start.{Start}

-- the instructions of a code, with an index by their offsets
pub record AreIndexed (code : List ℕ) (own : IndexedInstrs) : Type 0 where
  pub instrs_are : decoded code ≡ Ok own.instrs
  pub indexed : IsIndexOf (map (λ placed. placed.at) own.instrs) own.index

-- the frame that the code of a method begins with, and the method's descriptor
pub record IsStart (m : CodedMethod) (start : Start) : Type 0 where
  pub entry_is : start.entry ≡ entry m
  pub descriptor_is : SpellsDescriptor (descriptor_text m) start.descriptor

pub record IsBody (m : CodedMethod) (code : IndexedInstrs) (frames : List PlacedFrame)
    (start : Start) : Type 0 where
  pub few : length m.part.code < 65536
  pub code_is : AreIndexed m.part.code code
  pub stated_are : frames ≡ stated m
  pub start_is : IsStart m start
