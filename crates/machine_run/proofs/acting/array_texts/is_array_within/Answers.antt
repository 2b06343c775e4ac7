use Rattle.std.proofs.Common.{arith, ◌≡◌, ◌==◌, ◌&&◌, ◌||◌, ◌-◌, ◌∷◌, suc, ℕ, Bool, true, false, sym, ap, ◌∙◌, rules}
use Rattle.member_link.specs.Machine.Acting.{is_array_within, is_element}
use Rattle.machine_run.proofs.acting.array_texts.is_array_within.Goals as goal

pub loop-left-preserved : goal.loop-left-preserved
loop-left-preserved c =
    let left = c.loop-left.left in
    let rest = c.loop-left.rest.now in
    let first = c.in-Some.first.now in
    let more = c.in-Some.more.now in
    let split : rest ≡ first ∷ more = search rules in
    let count : left ≡ suc (left - 1) = omega (arith, c.loop-left-test.true) in
    let bracket : (first == 91) ≡ true = search rules in
    let element : is_element more ≡ false = sym c.is_element.ensures ∙ c.if-is_element.false in
    c.loop-left.invariant
    ∙ ap (λ (n : ℕ). is_array_within n rest) count
    ∙ ap (is_array_within (suc (left - 1))) split
    ∙ ap (λ (b : Bool). b && (is_element more || is_array_within (left - 1) more)) bracket
    ∙ ap (λ (b : Bool). b || is_array_within (left - 1) more) element
