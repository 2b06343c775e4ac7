use Rattle.std.proofs.Common.{refl, subst, inr, ◌∙◌, sym}
use Rattle.std.proofs.lemmas.Bool.{both_ways}
use Rattle.member_link.specs.Inner.FinalEnds.{Reaches}
use Rattle.member_link.proofs.final_methods.sweep_method.Goals as goal

pub returns-in_ok-raise-clause-swept : goal.returns-in_ok-raise-clause-swept
returns-in_ok-raise-clause-swept c =
    let after = c.raise.new.ends.entries in
    let end = c.args.span.last in
    let is_open = sym (c.is_open.ensures c.args.method.now refl) ∙ c.if-is_open.true in
    let far = subst (λ key. Reaches after key end) c.signature_key.ensures c.in_ok-raise.ensures.raised in
    record {
      open_ = λ inherited final opens. far;
      closed = λ inherited final closed. absurd (both_ways _ closed is_open);
      through = λ inherited opens. inr far;
    }

pub returns-in_ok-raise-2-clause-swept : goal.returns-in_ok-raise-2-clause-swept
returns-in_ok-raise-2-clause-swept c =
    let after = c.raise-then-is_final-2.new.ends.entries in
    let end = c.args.span.last in
    let is_closed = sym (c.is_open.ensures c.args.method.now refl) ∙ c.if-is_open.false in
    let far = subst (λ key. Reaches after key end) c.key_in.ensures c.in_ok-raise-2.ensures.raised in
    record {
      open_ = λ inherited final opens. absurd (both_ways _ is_closed opens);
      closed = λ inherited final closed. far;
      through = λ inherited opens. absurd (both_ways _ is_closed opens);
    }
