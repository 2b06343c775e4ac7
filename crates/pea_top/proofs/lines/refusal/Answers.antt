-- The format writes the numbers, which groups to the right.
use Rattle.std.proofs.Common.{◌≡◌, List, ℕ, IfOk, subst, append_assoc}
use Rattle.pea_top.proofs.lines.refusal.Goals as goal

pub returns-in_ok-fault-in-Malformed : goal.returns-in_ok-fault-in-Malformed
returns-in_ok-fault-in-Malformed c =
    rw (c.in-Malformed.is) (subst (λ (text : List ℕ). IfOk c.file_refusal.result (λ line. line.items ≡ text)) (rw (c.as_str.ensures.value, c.in_ok-fault-in-Malformed.ensures.ok, c.name-rule.ensures) (simp append_assoc)) c.file_refusal.ensures)

pub returns-in_ok-version-in-Version : goal.returns-in_ok-version-in-Version
returns-in_ok-version-in-Version c =
    rw (c.in-Version.is) (subst (λ (text : List ℕ). IfOk c.file_refusal-in-Version.result (λ line. line.items ≡ text)) (rw (c.as_str-in-Version.ensures.value, c.in_ok-version-in-Version.ensures.ok) (simp append_assoc)) c.file_refusal-in-Version.ensures)
