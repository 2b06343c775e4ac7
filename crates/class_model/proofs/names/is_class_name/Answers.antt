use Rattle.std.proofs.Common.{◌+◌, Bool, subst, sym}
use Rattle.class_model.specs.Names.{IsClassName}
use Rattle.class_model.proofs.ClassNames.{FromIndex, name_of_rest, rest_of_name, after_slash, after_byte, at_end}
use Rattle.class_model.proofs.names.is_class_name.Goals as goal
use Rattle.class_model.proofs.names.is_class_name.Goals.{in-47-2, in_default}

pub loop-byte-init : goal.loop-byte-init
loop-byte-init c = (name_of_rest _, rest_of_name _)

pub loop-byte-preserved : goal.loop-byte-preserved
loop-byte-preserved c =
    let bytes = c.args.bytes.now in
    let index = c.loop-byte.byte-index in
    let At : Bool → Type 0 = λ starts_part. FromIndex (IsClassName bytes) starts_part bytes (index + 1) in
    elim c.match-byte.branch [
      | in-47-2 w ↦ subst At (sym w.starts_part-is) (after_slash bytes index c.loop-byte-test.true w.in-47.is (rw w.if-starts_part.false at c.loop-byte.invariant))
      | in_default w ↦ subst At (sym w.starts_part-is) (after_byte c.loop-byte.starts_part bytes index c.loop-byte-test.true (w.is_name_byte.ensures.0 w.if-is_name_byte.true) c.loop-byte.invariant)
    ]

pub returns : goal.returns
returns c = at_end _ _ _ c.loop-byte-test.false c.loop-byte.invariant
