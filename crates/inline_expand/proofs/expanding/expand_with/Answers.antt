use Rattle.std.proofs.Common.{ap, subst, ◌∙◌, arith}
use Rattle.expanded_code.specs.Expansions.{Coded}
use Rattle.inline_expand.proofs.HostParts.{body-expands, too-long, whole-answers, whole-code}
use Rattle.inline_expand.proofs.expanding.expand_with.Goals as goal
use Rattle.inline_expand.specs.Inner.Growths.{IsExpansionFound}
use Rattle.inline_expand.specs.Inner.Measures.{host_expansion}
use Rattle.inline_expand.specs.Inner.Steps.{coded_of}

pub returns-in_default-clause-answers : goal.returns-in_default-clause-answers
returns-in_default-clause-answers c =
    let classes = c.args.tree.now in
    let typed = c.args.typed.now in
    let host = c.in_ok-host.host in
    let found = subst (IsExpansionFound classes typed host c.from-most.result) c.in_default.is c.in_ok-found.ensures.expansion in
    let some = c.a_host_has_an_expanded_flat_code.ensures.host classes typed c.args.at c.a_tree_is_a_hierarchy.ensures c.requires.typed c.in_ok-host.ensures.2.host in (
      c.in_ok-host.ensures.2,
      some.0,
      some.1,
      too-long classes typed c.each_method_is_typed.ensures c.args.at
          (record { at = host.at; scope = host.host; frames = host.frames.now }) c.in_ok-host.ensures.0 c.in_ok-host.ensures.1 8000
          (λ expansion is. omega (arith, found expansion is, c.from-most.ensures)) some.0 some.1,
    )

pub flat_of-flat-requires-clause-whole : goal.flat_of-flat-requires-clause-whole
flat_of-flat-requires-clause-whole c =
    let classes = c.args.tree.now in
    let typed = c.args.typed.now in
    let host = c.in_ok-host.host in
    let found = subst (IsExpansionFound classes typed host c.from-most.result) c.in-Some.is c.in_ok-found.ensures.expansion in
    whole-code classes typed c.each_method_is_typed.ensures c.args.at
    host c.in-Some.bodies found (ap (λ (own : Coded). own.at) found.coded ∙ c.in_ok-host.ensures.0)

pub returns-clause-answers : goal.returns-clause-answers
returns-clause-answers c =
    let classes = c.args.tree.now in
    let typed = c.args.typed.now in
    let host = c.in_ok-host.host in
    let bodies = c.in-Some.bodies in
    let found = subst (IsExpansionFound classes typed host c.from-most.result) c.in-Some.is c.in_ok-found.ensures.expansion in
    whole-answers classes typed c.each_method_is_typed.ensures c.args.at
    (coded_of bodies.body) (ap (λ (own : Coded). own.at) found.coded ∙ c.in_ok-host.ensures.0) found.whole.stands (host_expansion bodies.callees.items bodies.body)
    (body-expands classes typed c.each_method_is_typed.ensures c.args.at host bodies found)
    c.flat_of-flat.result c.in_ok-host.ensures.2 c.flat_of-flat.ensures.answers
