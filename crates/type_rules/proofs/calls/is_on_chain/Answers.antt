use Rattle.std.proofs.Common.{◌↔◌, ◌∙◌, IsTrue, List, ap, bytes_eq, subst}
use Rattle.std.specs.List.{list_any}
use Rattle.class_model.specs.declared.header.Header.{Header}
use Rattle.class_tree.specs.Headers.{Name, headers_of}
use Rattle.class_tree.specs.Subtype.{IsChain}
use Rattle.type_rules.proofs.Chains.{is_there, on_chain}
use Rattle.type_rules.proofs.calls.is_on_chain.Goals as goal
use Rattle.member_link.specs.Scope.{Scope}
use Rattle.member_link.specs.Inner.Scope.{current}

pub chain-requires : goal.chain-requires
chain-requires c = is_there (headers_of c.rules.inside.tree.now) c.rules.inside.place c.rules.inside.header.now c.a_tree_is_a_hierarchy.ensures c.rules.invariant.stands

pub returns : goal.returns
returns c =
    let inside = c.rules.inside in
    let seen : Scope = record { headers = headers_of inside.tree.now; class = inside.class.now; method = inside.method.now; part = inside.part.now } in
    let name = c.args.name.now in
    let names = c.in_ok-names.names in
    let chain : IsChain seen.headers (current seen) names = subst (λ (header : Header). IsChain seen.headers header.name names) c.rules.invariant.header_is c.in_ok-names.ensures in
    subst (λ (s : Scope). IsTrue c.stands_in.result ↔ ((above : List Name) × IsChain s.headers (current s) above × IsTrue (list_any (bytes_eq name) above))) c.rules.view_is
    (on_chain seen.headers (current seen) name names c.stands_in.result chain (c.stands_in.ensures ∙ ap (list_any (bytes_eq name)) c.as_slice.ensures))
