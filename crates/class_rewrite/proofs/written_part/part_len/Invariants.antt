use Rattle.std.proofs.Common.{◌≡◌, ◌≤◌, ◌+◌, drop, length, min}
use Rattle.std.specs.List.{flat_map}
use Rattle.class_model.specs.Spelling.{code_part_bytes, inner_bytes}
use Rattle.class_rewrite.proofs.written_part.part_len.Given as goal

-- with the attributes that are left it is the whole
abbrev pub invariant-loop-attr : goal.invariant-loop-attr
invariant-loop-attr l =
    (l.len ≤ 18446744073709551615)
    × (min (l.len + length (flat_map inner_bytes (drop l.attr-index l.attr-items))) 18446744073709551615
    ≡ min (length (code_part_bytes l.part)) 18446744073709551615)
