use Rattle.std.proofs.Common.{ℕ, List, nat_eq, sym, ap, subst, ◌∙◌}
use Rattle.std.specs.List.{IsDistinct}
use Rattle.member_link.specs.Machine.Showing.{known_number}
use Rattle.machine_step.proofs.Firsts.{known-position, known-there, known-once}
use Rattle.machine_step.proofs.known.KnownRefs.number_of.Goals as goal

pub returns-in-Some-clause-number : goal.returns-in-Some-clause-number
returns-in-Some-clause-number c =
    c.in-Some.ensures.index
    ∙ sym (known-position c.reference.inside.number c.self.inside.references.keys)
    ∙ ap (λ (x : ℕ). known_number c.self.inside.references.keys x) c.reference.view_is
    ∙ ap (λ (all : List ℕ). known_number all c.args.reference) c.self.view_is

pub returns-in-None-clause-number : goal.returns-in-None-clause-number
returns-in-None-clause-number c =
    c.in-None.ensures.index
    ∙ sym (known-position c.reference.inside.number c.self.inside.references.keys)
    ∙ ap (λ (x : ℕ). known_number c.self.inside.references.keys x) c.reference.view_is
    ∙ ap (λ (all : List ℕ). known_number all c.args.reference) c.self.view_is

pub returns-in-Some-clause-there : goal.returns-in-Some-clause-there
returns-in-Some-clause-there c = known-there c.args.reference c.args.self.now c.in-Some.number (sym (returns-in-Some-clause-number c))

pub returns-in-Some-clause-once : goal.returns-in-Some-clause-once
returns-in-Some-clause-once c = λ number is.
    let distinct = subst (λ (all : List ℕ). IsDistinct nat_eq all) c.self.view_is c.self.invariant in
    returns-in-Some-clause-number c ∙ known-once c.args.reference c.args.self.now number distinct is

pub returns-in-None-clause-once : goal.returns-in-None-clause-once
returns-in-None-clause-once c = λ number is.
    let distinct = subst (λ (all : List ℕ). IsDistinct nat_eq all) c.self.view_is c.self.invariant in
    returns-in-None-clause-number c ∙ known-once c.args.reference c.args.self.now number distinct is
