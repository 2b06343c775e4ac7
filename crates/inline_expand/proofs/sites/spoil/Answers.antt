use Rattle.std.proofs.Common.{ℕ, List, Option, None, slice_get, slice_set, sym, ap, ◌∙◌, subst}
use Rattle.std.specs.Option.{option_copied}
use Rattle.class_tree.specs.Headers.{Name}
use Rattle.expanded_code.specs.Alone.{number_at}
use Rattle.inline_expand.proofs.SiteLaws.{copied_some, is_none_there, joined_within, no_site_stays, none_new_stays, one_falls, replaced_stays}
use Rattle.inline_expand.proofs.sites.spoil.Goals as goal
use Rattle.inline_expand.specs.Inner.Places.{chain_of, host_of}
use Rattle.inline_expand.specs.Inner.SiteTables.{SpoilsAt, joined}

pub returns-in_default-clause-sites : goal.returns-in_default-clause-sites
returns-in_default-clause-sites c =
    none_new_stays c.args.place.class.tree.now c.args.place.class.typed.now (host_of c.args.place.line.now) (chain_of c.args.place.line.now) c.args.method.now c.args.at c.args.sites.now.items c.in_default.ensures

pub returns-then-is_none-clause-sites : goal.returns-then-is_none-clause-sites
returns-then-is_none-clause-sites c =
    let none = is_none_there c.entry.result c.if-is_none.ensures in
    let there = ap (λ (n : ℕ). joined (slice_get c.args.sites.now.items n)) (sym c.number-number.ensures)
    ∙ ap (λ (list : List (Option Name)). joined (slice_get list c.number-number.result)) (sym c.as_slice.ensures.value)
    ∙ sym c.entry.ensures ∙ ap option_copied none in
    no_site_stays c.args.place.class.tree.now c.args.place.class.typed.now (host_of c.args.place.line.now) (chain_of c.args.place.line.now) c.args.method.now c.args.at c.args.sites.now.items
    c.in-Some.new c.in-Some.ensures.0 c.in-Some.ensures.1 there

pub returns-then-branch-clause-sites : goal.returns-then-branch-clause-sites
returns-then-branch-clause-sites c =
    replaced_stays c.args.place.class.tree.now c.args.place.class.typed.now (host_of c.args.place.line.now) (chain_of c.args.place.line.now) c.args.method.now c.args.at c.args.sites.now.items
    c.in-Some.new c.in-Some.ensures.0 c.in-Some.ensures.1 (c.in_ok-constructs_at.ensures.constructs.0 c.if-branch.true)

pub returns-clause-sites : goal.returns-clause-sites
returns-clause-sites c =
    let there = ap (λ (n : ℕ). joined (slice_get c.args.sites.now.items n)) (sym c.number-number.ensures)
    ∙ ap (λ (list : List (Option Name)). joined (slice_get list c.number-number.result)) (sym c.as_slice.ensures.value)
    ∙ sym c.entry.ensures in
    subst (λ (n : ℕ). SpoilsAt c.args.place.class.tree.now c.args.place.class.typed.now (host_of c.args.place.line.now) (chain_of c.args.place.line.now) c.args.method.now c.args.at c.args.sites.now.items (slice_set c.args.sites.now.items n None))
    (sym c.number-number.ensures)
    (one_falls c.args.place.class.tree.now c.args.place.class.typed.now (host_of c.args.place.line.now) (chain_of c.args.place.line.now) c.args.method.now c.args.at c.args.sites.now.items
    c.in-Some.new c.in-Some.ensures.0 c.in-Some.ensures.1 c.requires.long
    (joined_within c.args.sites.now.items (number_at c.args.method.now.host c.in-Some.new) (λ none. copied_some c.entry.result c.if-is_none.ensures (sym there ∙ none)))
    (λ constructed. absurd (cc (sym c.if-branch.false ∙ c.in_ok-constructs_at.ensures.constructs.1 constructed))))
