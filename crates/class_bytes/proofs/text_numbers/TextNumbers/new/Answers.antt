-- No text has a number.
use Rattle.std.proofs.Common.{rules}
use Rattle.class_bytes.proofs.Numbering.{none_known}
use Rattle.class_bytes.proofs.text_numbers.TextNumbers.new.Goals as goal

pub invariant_of-result : goal.invariant_of-result
invariant_of-result c = none_known _ _ c.from.result c.new.ensures.empty (c.in_ok-known.ensures.items_if_clones_equal (λ y clone. search rules))
