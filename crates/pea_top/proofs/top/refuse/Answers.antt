use Rattle.std.proofs.Common.{◌++◌, Err, refl, sym, ap, ◌∙◌, subst, inl, inr}
use Rattle.std.proofs.lemmas.List.{append-nil}
use Rattle.host_tree.specs.Host.{Bytes, IsPrefixPrinted}
use Rattle.pea_top.proofs.Outcomes.{outcome_kept, outcome_printed, outcome_no_line}
use Rattle.pea_top.proofs.top.refuse.Goals as goal

-- no line is to be printed
pub returns-then-not-is_refusal-clause-outcome : goal.returns-then-not-is_refusal-clause-outcome
returns-then-not-is_refusal-clause-outcome g c = λ words old before tells stop.
    outcome_kept words _ _ _ _ _ c.args.stop (sym c.is_refusal.ensures ∙ c.if-not-is_refusal.true) stop

-- there is no memory for it
pub returns-in_default-clause-outcome : goal.returns-in_default-clause-outcome
returns-in_default-clause-outcome g c = λ words old before tells stop.
    outcome_no_line words _ _ _ _ _ _ _ c.args.stop (sym c.is_refusal.ensures ∙ c.if-not-is_refusal.false) stop (λ root name. refl) (record { count = 0; appended = sym (append-nil _) })

pub returns-in-Err-NoMemory-clause-outcome : goal.returns-in-Err-NoMemory-clause-outcome
returns-in-Err-NoMemory-clause-outcome g c = λ words old before tells stop.
    let printed = subst (λ (line : Bytes). IsPrefixPrinted line (g.H.Host.printed c.args.host.now) (g.H.Host.printed c.print.new.self)) (c.as_slice.ensures.value ∙ c.in-Ok.ensures) (c.print.ensures.prefix tells) in
    outcome_no_line words _ _ _ _ _ _ _ c.args.stop (sym c.is_refusal.ensures ∙ c.if-not-is_refusal.false) stop (c.print.ensures.files tells) printed

-- the line was printed
pub returns-in-Ok-print-clause-outcome : goal.returns-in-Ok-print-clause-outcome
returns-in-Ok-print-clause-outcome g c = λ words old before tells stop.
    let line = c.as_slice.ensures.value ∙ c.in-Ok.ensures in
    let all = c.in-Ok-print.ensures.all tells ∙ ap (λ (text : Bytes). g.H.Host.printed c.args.host.now ++ text) line in
    outcome_printed words _ _ _ _ _ _ _ c.args.stop (sym c.is_refusal.ensures ∙ c.if-not-is_refusal.false) stop (c.print.ensures.files tells) (inl all)

-- or a prefix of it
pub returns-in-Err-Failed-clause-outcome : goal.returns-in-Err-Failed-clause-outcome
returns-in-Err-Failed-clause-outcome g c = λ words old before tells stop.
    let printed = subst (λ (line : Bytes). IsPrefixPrinted line (g.H.Host.printed c.args.host.now) (g.H.Host.printed c.print.new.self)) (c.as_slice.ensures.value ∙ c.in-Ok.ensures) (c.print.ensures.prefix tells) in
    outcome_printed words _ _ _ _ _ _ _ c.args.stop (sym c.is_refusal.ensures ∙ c.if-not-is_refusal.false) stop (c.print.ensures.files tells) (inr (c.in-Err-Failed.ensures.failed (ap Err c.in-Err-Failed.field-0-is), printed))
