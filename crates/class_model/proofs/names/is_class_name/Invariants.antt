use Rattle.class_model.specs.Names.{IsClassName}
use Rattle.class_model.proofs.ClassNames.{FromIndex}
use Rattle.class_model.proofs.names.is_class_name.Given as goal

abbrev pub invariant-loop-byte : goal.invariant-loop-byte
invariant-loop-byte l = FromIndex (IsClassName l.bytes) l.starts_part l.bytes l.byte-index
