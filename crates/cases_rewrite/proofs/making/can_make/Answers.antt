use Rattle.std.proofs.Common.{ℕ, length, None, refl, sym, subst, ap, ◌∙◌, IsTrue}
use Rattle.std.specs.List.{AllByRecursion}
use Rattle.cases_rewrite.proofs.SmallFlats.{below_past, none_of, one_present}
use Rattle.cases_rewrite.proofs.making.can_make.Goals as goal
use Rattle.virtual_state.specs.Sites.{IsSiteFrom}
use Rattle.virtual_state.specs.States.{is_present}

pub returns : goal.returns
returns c = λ all.
    let flat = c.args.flat.now in
    let objects = c.args.state.now.objects in
    let none = none_of c.site_from.result (sym c.is_some.ensures ∙ c.if-is_some.false) in
    let past : IsSiteFrom objects (length flat.sites) None =
    subst (λ (end : ℕ). IsSiteFrom objects end None) (c.len.ensures ∙ ap length c.sites.ensures) (subst (IsSiteFrom objects c.len.result) none c.site_from.ensures) in
    let there = subst (AllByRecursion (λ site. IsTrue (is_present objects site))) c.as_slice.ensures.sites (c.are_present.ensures all) in
    record {
      few_units = c.if-not-is_small.ensures refl;
      few_locals = c.if-not-has_few_locals.ensures refl;
      of_sites = λ site present. below_past objects (length flat.sites) site past present;
      present = λ site is. one_present objects c.args.sites.now there site is;
    }
