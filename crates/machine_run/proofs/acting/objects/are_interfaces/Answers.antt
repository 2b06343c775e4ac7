use Rattle.std.proofs.Common.{arith, ◌≡◌, ◌∷◌, not, true, false, [], sym, ap, ◌∙◌, rules}
use Rattle.std.proofs.lemmas.Grind.{common_steps}
use Rattle.member_link.specs.Machine.Programs.{is_interface_named}
use Rattle.machine_run.proofs.Interfaces.{by_first, has_other}
use Rattle.machine_run.proofs.acting.objects.are_interfaces.Goals as goal

pub loop-name-preserved : goal.loop-name-preserved
loop-name-preserved c = λ P is.
    let split : c.loop-name.rest.now ≡ c.in-Some.name.now ∷ c.in-Some.more.now = search rules in
    let yes_is : c.is_interface_named.result ≡ true = search rules in
    let test : is_interface_named P c.in-Some.name.now ≡ true =
    ap (is_interface_named P) (sym c.bytes.ensures.same) ∙ sym (c.is_interface_named.ensures P is) ∙ yes_is
    in
    c.loop-name.invariant P is ∙ by_first P c.loop-name.rest.now c.in-Some.name.now c.in-Some.more.now true split test

pub returns-then-not-is_interface_named : goal.returns-then-not-is_interface_named
returns-then-not-is_interface_named c = λ P is.
    let split : c.loop-name.rest.now ≡ c.in-Some.name.now ∷ c.in-Some.more.now = search rules in
    let no_is : c.is_interface_named.result ≡ false = search rules in
    let test : is_interface_named P c.in-Some.name.now ≡ false =
    ap (is_interface_named P) (sym c.bytes.ensures.same) ∙ sym (c.is_interface_named.ensures P is) ∙ no_is
    in
    sym (ap not (c.loop-name.invariant P is ∙ by_first P c.loop-name.rest.now c.in-Some.name.now c.in-Some.more.now false split test))

pub returns : goal.returns
returns c = λ P is.
    let none : c.loop-name.rest.now ≡ [] = grind (arith, common_steps) in
    sym (ap not (c.loop-name.invariant P is ∙ ap (has_other P) none))
