-- What the words complete stays the same as one more word is seen.
use Rattle.std.proofs.Common.{◌≡◌, [], drop, map, arith}
use Rattle.std.specs.Prelude.{string_bytes}
use Rattle.std.proofs.lemmas.List.{drop_all}
use Rattle.pea_top.specs.Seen.{AreBehindName}
use Rattle.pea_top.proofs.WordsSeen.{next_word, follows, stops}
use Rattle.pea_top.proofs.words.seen_in.Goals as goal

pub loop-word-preserved : goal.loop-word-preserved
loop-word-preserved c =
    let words = c.args.words.now in
    let word = c.as_str.result.now in
    let next = next_word string_bytes words c.loop-word.word-index c.word-item.result word (omega arith) c.word-item.is c.as_str.ensures.value in
    follows (AreBehindName (map string_bytes words)) c.loop-word.seen c.in_ok-seen.seen word _ _ next c.in_ok-seen.ensures.some c.loop-word.invariant

pub returns-in_err-seen-clause-none : goal.returns-in_err-seen-clause-none
returns-in_err-seen-clause-none c =
    let words = c.args.words.now in
    let word = c.as_str.result.now in
    let next = next_word string_bytes words c.loop-word.word-index c.word-item.result word (omega arith) c.word-item.is c.as_str.ensures.value in
    rw c.from_residual.ensures
    (stops (AreBehindName (map string_bytes words)) c.loop-word.seen word _ _ next c.in_err-seen.ensures.none c.loop-word.invariant)

pub returns-clause-some : goal.returns-clause-some
returns-clause-some c = λ command.
    let none : drop c.loop-word.word-index c.args.words.now ≡ [] = drop_all c.loop-word.word-index c.args.words.now (omega arith) in
    rw none at (c.loop-word.invariant command)
