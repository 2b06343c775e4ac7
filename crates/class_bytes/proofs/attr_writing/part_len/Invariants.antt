use Rattle.std.proofs.Common.{◌≡◌, ◌+◌, length, drop}
use Rattle.class_model.specs.Spelling.{code_part_bytes}
use Rattle.class_bytes.specs.Inner.CodeParts.{inners_len}
use Rattle.class_bytes.proofs.attr_writing.part_len.Given as goal

-- with the attributes that are left it is the whole
abbrev pub invariant-loop-attr : goal.invariant-loop-attr
invariant-loop-attr l = l.len + inners_len (drop l.attr-index l.attr-items) ≡ length (code_part_bytes l.part)
