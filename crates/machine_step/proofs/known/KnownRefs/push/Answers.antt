use Rattle.std.proofs.Common.{◌≡◌, ◌∷◌, [], ◌++◌, None, ℕ, List, sym, ap, subst, ◌∙◌}
use Rattle.member_link.specs.Machine.Showing.{known_number}
use Rattle.machine_step.proofs.Firsts.{unknown-any}
use Rattle.machine_step.proofs.known.KnownRefs.push.Goals as goal

pub returns-clause-ok : goal.returns-clause-ok
returns-clause-ok c =
    let keys = c.self.inside.references.keys in
    let number = c.reference.inside.number in
    let asked : known_number keys c.args.reference ≡ None = subst (λ (all : List ℕ). known_number all c.args.reference ≡ None) (sym c.self.view_is) c.requires in
    let absent = unknown-any number keys (subst (λ (x : ℕ). known_number keys x ≡ None) (sym c.reference.view_is) asked) in
    (rw absent at c.in_ok-insert.ensures.keys)
    ∙ ap (λ (x : ℕ). keys ++ x ∷ []) c.reference.view_is
    ∙ ap (λ (all : List ℕ). all ++ c.args.reference ∷ []) c.self.view_is
