use Rattle.std.proofs.Common.{codes, ◌≡◌, ◌++◌, Some, subst, sym, ◌∙◌}
use Rattle.std.proofs.lemmas.Slice.Eq.{bytes_eq-Decides}
use Rattle.std.proofs.lemmas.Str.Pattern.{split_text_parts}
use Rattle.cases_notation.proofs.case.difference.Goals as goal

pub returns-then-eq : goal.returns-then-eq
returns-then-eq c =
    let same : c.args.came.now ≡ c.in-Some.wanted.now = (bytes_eq-Decides c.args.came.now c.in-Some.wanted.now).0 (sym c.eq.ensures ∙ c.if-eq.true) in
    λ none. record {
      question = c.in-Some.question.now;
      ends = subst (λ answer. c.args.case.now ≡ c.in-Some.question.now ++ (codes " => " ++ answer)) (sym same)
          (split_text_parts (codes " => ") c.args.case.now (Some (c.in-Some.question, c.in-Some.wanted)) c.in-Some.ensures.cases);
    }
