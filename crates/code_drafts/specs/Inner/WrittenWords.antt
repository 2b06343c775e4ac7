-- What is written of an instruction, part by part.
use Rattle.std.specs.Prelude.{ℕ, List, [], ◌∷◌}
use Rattle.class_model.specs.declared.descriptor.Kind.TheVariants as kinds
use Rattle.class_model.specs.declared.instr.Imm.TheVariants as imms
use Rattle.class_model.specs.declared.instr.Instr.{Instr}
use Rattle.class_model.specs.declared.instr.Instr.TheVariants.{Const, IfNull}
use Rattle.class_model.specs.declared.opcodes.TheConstants.{IFNONNULL}
use Rattle.making_code.specs.Items.{WItem, ahead, item, load, plain}
use Rattle.making_code.specs.Units.{own}

-- a jump that goes to the item so many behind it
abbrev pub ahead_item : Instr → ℕ → WItem
ahead_item instr count =
    record { instr = plain instr; targets = ahead count ∷ []; catches = [] }

-- a test for null up to its throw
abbrev pub null_jump : ℕ → List WItem
null_jump local =
    item (load kinds.Ref (own local))
    ∷ ahead_item (IfNull IFNONNULL 0) 3
    ∷ item (plain (Const imms.Null))
    ∷ []
