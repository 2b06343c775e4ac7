use Rattle.std.proofs.Common.{ℕ, ◌==◌, ◌||◌, List, sym, ap, subst, ◌∙◌}
use Rattle.virtual_state.specs.Inner.Places.{IsGap}
use Rattle.virtual_state.specs.Sites.{has}
use Rattle.virtual_state.specs.States.{IsIncreasing}
use Rattle.virtual_state.proofs.SiteSets.{has_insert, insert_in_order}
use Rattle.virtual_state.proofs.sites.SiteSet.add.Goals as goal

pub invariant_of-self-in-Err : goal.invariant_of-self-in-Err
invariant_of-self-in-Err c =
    let gap = subst (λ (sites : List ℕ). IsGap sites c.args.site c.in-Err.at) c.as_slice.ensures.value c.in-Err.ensures in
    subst IsIncreasing (sym c.in_ok-insert-in-Err.ensures.items) (insert_in_order c.self.inside.sites.items c.args.site c.in-Err.at c.self.invariant gap)

pub returns-in_ok-insert-in-Err-clause-ok : goal.returns-in_ok-insert-in-Err-clause-ok
returns-in_ok-insert-in-Err-clause-ok c = λ one.
    ap (λ (sites : List ℕ). has sites one) c.in_ok-insert-in-Err.ensures.items
    ∙ has_insert c.self.inside.sites.items c.args.site c.in-Err.at one
    ∙ ap (λ (sites : List ℕ). has sites one || c.args.site == one) c.self.view_is

pub returns-in_ok-insert-in-Err-clause-order : goal.returns-in_ok-insert-in-Err-clause-order
returns-in_ok-insert-in-Err-clause-order c =
    let gap = subst (λ (sites : List ℕ). IsGap sites c.args.site c.in-Err.at) c.as_slice.ensures.value c.in-Err.ensures in
    subst IsIncreasing (sym c.in_ok-insert-in-Err.ensures.items) (insert_in_order c.self.inside.sites.items c.args.site c.in-Err.at c.self.invariant gap)
