use Rattle.std.proofs.Common.{◌≡◌, ◌==◌, ℕ, List, false, [], ◌∷◌, ◌++◌, ap, sym, subst, ◌∙◌}
use Rattle.std.specs.List.{list_any}
use Rattle.machine_step.proofs.Firsts.{any-sym}
use Rattle.machine_step.proofs.begun.ClassNumberList.push.Goals as goal

pub returns-clause-ok : goal.returns-clause-ok
returns-clause-ok c =
    let keys = c.self.inside.numbers.keys in
    let asked : list_any (λ other. other == c.args.class) keys ≡ false = subst (λ (all : List ℕ). list_any (λ other. other == c.args.class) all ≡ false) (sym c.self.view_is) c.requires in
    let absent = sym (any-sym c.args.class keys) ∙ asked in
    (rw absent at c.in_ok-insert.ensures.keys) ∙ ap (λ (all : List ℕ). all ++ c.args.class ∷ []) c.self.view_is
