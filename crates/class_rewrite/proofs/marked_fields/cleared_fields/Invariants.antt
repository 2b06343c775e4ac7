use Rattle.std.proofs.Common.{◌≡◌, ℕ, false, get_or, take, zero}
use Rattle.class_model.specs.declared.class_file.Field.{Field}
use Rattle.class_rewrite.proofs.marked_fields.cleared_fields.Given as goal
use Rattle.class_rewrite.specs.Inner.Marking.{cleared_flags}
use Rattle.member_link.specs.Machine.Replaced.{map_numbered, without_flags}

abbrev pub invariant-loop-number : goal.invariant-loop-number
invariant-loop-number l =
    l.cleared
    ≡ map_numbered (λ (number : ℕ) (field : Field). record field {
      flags = without_flags field.flags (cleared_flags (get_or l.finals number false) (get_or l.privates number false));
    }) zero (take l.number l.fields)
