use Rattle.std.proofs.Common.{refl, sym, ◌∙◌, subst}
use Rattle.expanded_code.specs.Callees.{InitialisesAt}
use Rattle.inline_expand.proofs.ReplacedCalls.{found_if_kept, kept_if_found, kept_this, none_kept, this_kept}
use Rattle.inline_expand.proofs.replaced.initialises_kept.Goals as goal
use Rattle.inline_expand.specs.Inner.Initialised.{type_of_object}
use Rattle.inline_expand.specs.Inner.Places.{chain_of, host_of}
use Rattle.inline_expand.specs.declared.initialised.Object.{Object}

pub returns-in_default-clause-kept : goal.returns-in_default-clause-kept
returns-in_default-clause-kept c =
    (λ yes. none_kept c.args.place.class.tree.now c.args.place.class.typed.now (host_of c.args.place.line.now) (chain_of c.args.place.line.now) c.args.method.now c.args.at c.in_default.ensures, λ kept. refl)

pub returns-in-New-clause-kept : goal.returns-in-New-clause-kept
returns-in-New-clause-kept c =
    let init = subst (λ (o : Object). InitialisesAt c.args.method.now.host c.args.method.now.frames.now c.args.at (type_of_object o) c.in-Some.ensures.reference) c.in-New.is c.in-Some.ensures.is in (
      λ yes. kept_if_found c.args.place.class.tree.now c.args.place.class.typed.now (host_of c.args.place.line.now) (chain_of c.args.place.line.now) c.args.method.now c.args.at c.in-New.new c.in-Some.ensures.reference init c.site_at.result c.site_at.ensures (sym c.is_some.ensures ∙ yes),
      λ kept. c.is_some.ensures ∙ found_if_kept c.args.place.class.tree.now c.args.place.class.typed.now (host_of c.args.place.line.now) (chain_of c.args.place.line.now) c.args.method.now c.args.at c.in-New.new c.in-Some.ensures.reference init c.site_at.result c.site_at.ensures kept,
    )

pub returns-then-not-is_initialiser-clause-kept : goal.returns-then-not-is_initialiser-clause-kept
returns-then-not-is_initialiser-clause-kept c =
    let init = subst (λ (o : Object). InitialisesAt c.args.method.now.host c.args.method.now.frames.now c.args.at (type_of_object o) c.in-Some.ensures.reference) c.in-This.is c.in-Some.ensures.is in (
      λ yes. absurd (cc yes),
      λ kept. absurd (cc (sym c.if-not-is_initialiser.true ∙ c.is_initialiser.ensures ∙ (kept_this c.args.place.class.tree.now c.args.place.class.typed.now (host_of c.args.place.line.now) (chain_of c.args.place.line.now) c.args.method.now c.args.at c.in-Some.ensures.reference init kept).0)),
    )

pub returns-in_ok-is_kept-in-This-clause-kept : goal.returns-in_ok-is_kept-in-This-clause-kept
returns-in_ok-is_kept-in-This-clause-kept c =
    let init = subst (λ (o : Object). InitialisesAt c.args.method.now.host c.args.method.now.frames.now c.args.at (type_of_object o) c.in-Some.ensures.reference) c.in-This.is c.in-Some.ensures.is in (
      λ yes. this_kept c.args.place.class.tree.now c.args.place.class.typed.now (host_of c.args.place.line.now) (chain_of c.args.place.line.now) c.args.method.now c.args.at c.in-Some.ensures.reference init (sym c.is_initialiser.ensures ∙ c.if-not-is_initialiser.false) (c.in_ok-is_kept-in-This.ensures.constructs.0 yes),
      λ kept. c.in_ok-is_kept-in-This.ensures.constructs.1 (kept_this c.args.place.class.tree.now c.args.place.class.typed.now (host_of c.args.place.line.now) (chain_of c.args.place.line.now) c.args.method.now c.args.at c.in-Some.ensures.reference init kept).1,
    )
