-- The first mark ends the first piece.
use Rattle.std.proofs.Common.{◌∷◌, ◌∙◌, ℕ, List, take, arith, ap, sym}
use Rattle.script_text.specs.Scripts.{pieces}
use Rattle.script_text.proofs.Pieces.{cut_found, uncut, rest_behind}
use Rattle.script_text.proofs.words.cut_at.Goals as goal

pub returns-then-bytes-at-clause-cut : goal.returns-then-bytes-at-clause-cut
returns-then-bytes-at-clause-cut c =
    let bytes = c.args.bytes.now in
    let at = c.loop-at.at in
    cut_found c.args.mark at bytes c.loop-at-test.true c.if-bytes-at.true c.loop-at.invariant
    ∙ ap (λ (t : List ℕ). take at bytes ∷ pieces c.args.mark t) (sym (rest_behind at bytes))

pub returns-clause-cut : goal.returns-clause-cut
returns-clause-cut c = uncut c.args.mark c.args.bytes.now (λ k below. c.loop-at.invariant k (omega (arith, c.loop-at-test.false, below)))
