-- One byte more, or none.
use Rattle.std.proofs.Common.{ℕ, List, subst, sym, arith}
use Rattle.script_text.proofs.PrintedBytes.{BytesSoFar, byte_read, none_read}
use Rattle.script_text.proofs.texts.bytes_of.Goals as goal

pub returns-in_default : goal.returns-in_default
returns-in_default c = none_read _ _ _ c.loop-rest.invariant (grind (arith, c.loop-rest-test.true, c.is_empty.ensures)) c.in_default.ensures.none

pub loop-rest-preserved : goal.loop-rest-preserved
loop-rest-preserved c =
    subst (λ (t : List ℕ). BytesSoFar c.args.word.now t c.in-Some.after.now) (sym c.in_ok-push.ensures.ok)
    (byte_read _ _ _ _ _ c.loop-rest.invariant c.in-Some.ensures.some c.in-Some.ensures.small)
