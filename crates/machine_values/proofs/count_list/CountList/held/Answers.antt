use Rattle.std.proofs.Common.{rules, subst, ap, sym, ◌∙◌, ◌≡◌, length}
use Rattle.machine_values.specs.Counts.{all_counts, AreHeld}
use Rattle.machine_values.proofs.CountLengths.{length_from_zero}
use Rattle.machine_values.proofs.count_list.CountList.held.Goals as goal

len_is : (c : goal.After-as_slice) → c.self.inside.len ≡ length c.args.self.now
len_is c =
    sym
    (sym (ap length c.self.view_is)
    ∙ length_from_zero c.self.inside.len c.self.inside.held.items c.self.invariant)

-- src/count_list.rt:49:5
pub returns-clause-counts : goal.returns-clause-counts
returns-clause-counts c =
    rw c.as_slice.ensures.value
    (sym c.self.view_is ∙ ap (λ len. all_counts 0 len c.self.inside.held.items) (len_is c))

-- src/count_list.rt:49:5
pub returns-clause-held : goal.returns-clause-held
returns-clause-held c =
    rw c.as_slice.ensures.value
    (subst (λ len. AreHeld 0 len c.self.inside.held.items) (len_is c) c.self.invariant)
