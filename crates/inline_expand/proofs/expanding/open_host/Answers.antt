use Rattle.std.proofs.Common.{sym, ap, subst, ◌∙◌}
use Rattle.std.proofs.lemmas.Bool.{false≢true}
use Rattle.std.specs.List.{list_any}
use Rattle.inline_expand.proofs.HostParts.{a-float, a-host, asks, initialises, no-float, no-host}
use Rattle.inline_expand.proofs.expanding.open_host.Goals as goal
use Rattle.inline_expand.specs.Inner.Coded.{IsCoded}
use Rattle.member_link.specs.Scope.{scope_at}

pub returns-in_default : goal.returns-in_default
returns-in_default c =
    let none = subst (IsCoded c.args.tree.now c.args.typed.now c.args.at) c.in_default.is c.in_ok-method.ensures in
    no-host c.args.tree.now c.args.typed.now c.args.at (c.a_typed_folder_types_each_method.ensures c.args.tree.now c.args.typed.now c.requires c.args.at) none

pub returns-then-is_initialiser : goal.returns-then-is_initialiser
returns-then-is_initialiser c =
    let method = c.in-Some.method in
    let coded = subst (IsCoded c.args.tree.now c.args.typed.now c.args.at) c.in-Some.is c.in_ok-method.ensures in
    let there = ap (scope_at c.args.tree.now) (sym coded.0) ∙ coded.1.is_scope in
    initialises c.args.tree.now c.args.at method.host there (c.is_initialiser.ensures.0 c.if-is_initialiser.true)

pub returns-then-has_float : goal.returns-then-has_float
returns-then-has_float c =
    let method = c.in-Some.method in
    let coded = subst (IsCoded c.args.tree.now c.args.typed.now c.args.at) c.in-Some.is c.in_ok-method.ensures in
    let there = ap (scope_at c.args.tree.now) (sym coded.0) ∙ coded.1.is_scope in
    let any = ap (list_any asks) (sym c.instrs.ensures) ∙ sym c.has_float.ensures ∙ c.if-has_float.true in (
      a-host c.args.tree.now c.args.at method.host there (λ is. false≢true (sym c.if-is_initialiser.false ∙ c.is_initialiser.ensures.1 is)),
      a-float c.args.tree.now c.args.at method.host there any,
    )

pub returns : goal.returns
returns c =
    let method = c.in-Some.method in
    let coded = subst (IsCoded c.args.tree.now c.args.typed.now c.args.at) c.in-Some.is c.in_ok-method.ensures in
    let there = ap (scope_at c.args.tree.now) (sym coded.0) ∙ coded.1.is_scope in
    let none = ap (list_any asks) (sym c.instrs.ensures) ∙ sym c.has_float.ensures ∙ c.if-has_float.false in (
      coded.0,
      coded.1,
      record {
        host = a-host c.args.tree.now c.args.at method.host there (λ is. false≢true (sym c.if-is_initialiser.false ∙ c.is_initialiser.ensures.1 is));
        no_float = no-float c.args.tree.now c.args.at method.host there none;
      },
    )
