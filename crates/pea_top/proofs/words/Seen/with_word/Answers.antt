-- The word is a positional word, or an option and its value.
use Rattle.std.proofs.Common.{[], ◌∷◌, refl, ap}
use Rattle.pea_top.specs.Words.{Positional, Joined}
use Rattle.pea_top.specs.Seen.{option_view}
use Rattle.pea_top.proofs.WordsSeen.{word_ends, part_leads, part_fails, word_fails}
use Rattle.pea_top.proofs.words.Seen.with_word.Goals as goal
use Rattle.pea_top.proofs.words.Seen.with_word.Goals.{in-Some-joined_value+in_ok-arguments-in-Some-joined_value, in-None+in_ok-operand-in-None+in_ok-arguments-in-None}

pub returns-in_err-arguments-in-Some-joined_value-clause-none : goal.returns-in_err-arguments-in-Some-joined_value-clause-none
returns-in_err-arguments-in-Some-joined_value-clause-none c =
    let joined = c.in-Some-joined_value in
    let part = Joined (option_view joined.option) joined.value.now in
    let ends = word_ends _ _ _ c.requires (ap (λ word. word ∷ []) joined.ensures.some.0) in
    rw c.from_residual.ensures
    (part_fails c.args.self c.args.word.now part ends joined.ensures.some.1 c.in_err-arguments-in-Some-joined_value.ensures.none)

pub returns-in_err-operand-in-None-clause-none : goal.returns-in_err-operand-in-None-clause-none
returns-in_err-operand-in-None-clause-none c =
    let no_operand = c.in_err-operand-in-None.ensures.none in
    rw c.from_residual-in_err-operand-in-None.ensures
    (word_fails c.args.self c.args.word.now c.requires c.in_default.ensures.none c.in-None.ensures.none no_operand)

pub returns-in_err-arguments-in-None-clause-none : goal.returns-in_err-arguments-in-None-clause-none
returns-in_err-arguments-in-None-clause-none c =
    let part = Positional c.args.word.now in
    let ends = word_ends _ _ _ c.requires refl in
    rw c.from_residual-in_err-arguments-in-None.ensures
    (part_fails c.args.self c.args.word.now part ends c.in_ok-operand-in-None.ensures.some c.in_err-arguments-in-None.ensures.none)

pub returns-clause-some : goal.returns-clause-some
returns-clause-some c = elim c.match-joined_value.branch [
  | in-Some-joined_value+in_ok-arguments-in-Some-joined_value w ↦
      (let joined = w.in-Some-joined_value in
      let part = Joined (option_view joined.option) joined.value.now in
      let ends = word_ends _ _ _ c.requires (ap (λ word. word ∷ []) joined.ensures.some.0) in
      part_leads c.args.self c.args.word.now part ends joined.ensures.some.1 _ refl
      (rw w.arguments-is w.in_ok-arguments-in-Some-joined_value.ensures.some))
  | in-None+in_ok-operand-in-None+in_ok-arguments-in-None w ↦
      (let part = Positional c.args.word.now in
      let ends = word_ends _ _ _ c.requires refl in
      let added = rw w.in_ok-operand-in-None.ensures.same at w.in_ok-arguments-in-None.ensures.some in
      part_leads c.args.self c.args.word.now part ends w.in_ok-operand-in-None.ensures.some _ refl (rw w.arguments-is added))
]
