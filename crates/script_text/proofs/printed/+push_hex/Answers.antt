-- The last digit is that of the remainder.
use Rattle.std.proofs.Common.{◌++◌, ◌∷◌, [], ℕ, ap, ◌∙◌}
use Rattle.script_text.proofs.Appended.{behind}
use Rattle.script_text.proofs.HexTexts.{more_digits}
use Rattle.script_text.proofs.printed.+push_hex.Goals as goal

pub returns-in_ok-push : goal.returns-in_ok-push
returns-in_ok-push t c =
    rw (more_digits c.args.count c.args.number c.if-count-gt0.true)
    (behind _ _ _ c.in_ok-push_hex.ensures (c.in_ok-push.ensures.items ∙ ap (λ (digit : ℕ). c.push_hex.new.line.items ++ digit ∷ []) c.hex_digit.ensures))
