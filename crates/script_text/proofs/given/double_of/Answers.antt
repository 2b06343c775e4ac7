-- No bits are spelled by digits of another number.
use Rattle.std.proofs.Common.{ℕ, subst, sym}
use Rattle.script_text.specs.Scripts.{SpellsBits}
use Rattle.script_text.proofs.GivenWords.{bits_len}
use Rattle.script_text.proofs.given.double_of.Goals as goal

pub returns-in-None : goal.returns-in-None
returns-in-None c = λ bits spelled. c.in-None.ensures bits (subst (λ (n : ℕ). SpellsBits n bits c.args.word.now) (sym (bits_len 16 bits c.args.word.now spelled)) spelled)
