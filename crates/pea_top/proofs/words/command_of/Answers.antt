-- Words that spell a command are its name and its arguments behind that.
use Rattle.std.proofs.Common.{sym, ap, map, ◌∙◌}
use Rattle.std.specs.Prelude.{string_bytes}
use Rattle.pea_top.proofs.Completing.{behind_name}
use Rattle.pea_top.proofs.WordsSeen.{unspelled, none_then}
use Rattle.pea_top.proofs.words.command_of.Goals as goal

pub returns-in_err-arguments-clause-none : goal.returns-in_err-arguments-clause-none
returns-in_err-arguments-clause-none c =
    rw c.from_residual-in_err-arguments.ensures (λ command h.
    c.in_err-arguments.ensures.none command (behind_name _ _ command (rw c.in_ok-name.ensures.cases.0 at h)))

pub returns-in-optimise-clause-none : goal.returns-in-optimise-clause-none
returns-in-optimise-clause-none c =
    let split = ap (λ words. map string_bytes words) c.in_ok-name.ensures.cases.0 in
    let named = sym c.as_str.ensures.value ∙ c.in-optimise.is in
    none_then c.optimise.result (unspelled _ _ _ _ _ split named c.in_ok-arguments.ensures.some) c.optimise.ensures.none

pub returns-in-verify-clause-none : goal.returns-in-verify-clause-none
returns-in-verify-clause-none c =
    let split = ap (λ words. map string_bytes words) c.in_ok-name.ensures.cases.0 in
    let named = sym c.as_str.ensures.value ∙ c.in-verify.is in
    none_then c.verify.result (unspelled _ _ _ _ c.in_ok-arguments.arguments split named c.in_ok-arguments.ensures.some) c.verify.ensures.none

pub returns-in-run-clause-none : goal.returns-in-run-clause-none
returns-in-run-clause-none c =
    let split = ap (λ words. map string_bytes words) c.in_ok-name.ensures.cases.0 in
    let named = sym c.as_str.ensures.value ∙ c.in-run.is in
    none_then c.run.result (unspelled _ _ _ _ c.in_ok-arguments.arguments split named c.in_ok-arguments.ensures.some) c.run.ensures.none

pub returns-in-plan-clause-none : goal.returns-in-plan-clause-none
returns-in-plan-clause-none c =
    let split = ap (λ words. map string_bytes words) c.in_ok-name.ensures.cases.0 in
    let named = sym c.as_str.ensures.value ∙ c.in-plan.is in
    none_then c.plan.result (unspelled _ _ _ _ c.in_ok-arguments.arguments split named c.in_ok-arguments.ensures.some) c.plan.ensures.none

pub returns-in-both-clause-none : goal.returns-in-both-clause-none
returns-in-both-clause-none c =
    let split = ap (λ words. map string_bytes words) c.in_ok-name.ensures.cases.0 in
    let named = sym c.as_str.ensures.value ∙ c.in-both.is in
    none_then c.both.result (unspelled _ _ _ _ c.in_ok-arguments.arguments split named c.in_ok-arguments.ensures.some) c.both.ensures.none

pub returns-in-list-clause-none : goal.returns-in-list-clause-none
returns-in-list-clause-none c =
    let split = ap (λ words. map string_bytes words) c.in_ok-name.ensures.cases.0 in
    let named = sym c.as_str.ensures.value ∙ c.in-list.is in
    none_then c.list.result (unspelled _ _ _ _ c.in_ok-arguments.arguments split named c.in_ok-arguments.ensures.some) c.list.ensures.none
