use Rattle.std.proofs.Common.{◌≡◌, ◌≤◌, length, refl, subst, ap, ◌∙◌, arith}
use Rattle.std.specs.List.{AllByRecursion}
use Rattle.std.proofs.lemmas.Option.{slice_get_within}
use Rattle.cases_rewrite.proofs.SmallFlats.{small_units}
use Rattle.cases_rewrite.proofs.making.is_small.Goals as goal
use Rattle.cases_rewrite.specs.Inner.Making.{IsShort}

pub returns : goal.returns
returns c = λ low.
    let flat = c.args.flat.now in
    let locals : flat.locals ≤ 10000 = let few = c.if-locals-gt-MOST_LOCALS.false in let same = c.locals.ensures in omega (arith, few, same) in
    let len : length c.sites.result.now ≡ length flat.sites = ap length c.sites.ensures in
    let sites : length flat.sites ≤ 20 = let few = c.if-len-gt-MOST_SITES.false in let same = c.len.ensures in omega (arith, few, same, len) in
    let short = subst (AllByRecursion IsShort) (c.as_slice.ensures ∙ c.sites-2.ensures) (c.if-not-are_short.ensures refl) in
    small_units flat locals sites short (λ at point is. c.are_low.ensures low at point (slice_get_within flat.points at point is) is)
