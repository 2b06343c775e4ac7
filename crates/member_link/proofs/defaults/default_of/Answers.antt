use Rattle.std.proofs.Common.{Option, sym, ap, subst, ◌∙◌}
use Rattle.std.proofs.lemmas.Bool.{false≢true}
use Rattle.class_model.specs.Members.{has, ABSTRACT}
use Rattle.class_tree.specs.Headers.{headers_of}
use Rattle.class_tree.specs.Laws.Headers.{header_there}
use Rattle.member_link.proofs.FoundOr.{some_same, none_same}
use Rattle.member_link.specs.Inner.DefaultsAt.{inherited_of, IsDefaultOf}
use Rattle.member_link.specs.Found.{IsMethodFound}
use Rattle.member_link.specs.declared.found.Found.{Found}
use Rattle.member_link.proofs.DefaultMethods.{no_default, abstract_no_default, hidden_no_default, one_default}
use Rattle.member_link.proofs.defaults.default_of.Goals as goal
use Rattle.member_link.proofs.defaults.default_of.Goals.{then-has-via-then-has, then-has-via-else-has+then-is_hidden}

pub returns-in_err-found : goal.returns-in_err-found
returns-in_err-found c = λ low high low_at high_at.
    let headers = headers_of c.args.tree.now in
    let none = none_same (IsMethodFound headers) (inherited_of c.args.name.now c.args.desc.now high) (c.in_err-found.ensures high high_at) in
    subst (λ (result : Option Found). IsDefaultOf headers low.name c.args.name.now c.args.desc.now high.name result) (sym c.from_residual.ensures)
    (no_default headers c.a_tree_is_a_hierarchy.ensures low.name c.args.name.now c.args.desc.now c.args.interface high high_at none)

pub is_hidden-requires-clause-interface : goal.is_hidden-requires-clause-interface
is_hidden-requires-clause-interface c =
    let class = header_there (headers_of c.args.tree.now) c.args.class c.requires.class in
    let is = c.requires.interface class.0 class.1 in
    record { header = is.header; at = is.at; interface = is.interface }

pub returns-then-has : goal.returns-then-has
returns-then-has c = λ low high low_at high_at.
    let headers = headers_of c.args.tree.now in
    let hierarchy = c.a_tree_is_a_hierarchy.ensures in
    let own = some_same (IsMethodFound headers) c.in_ok-found.found (inherited_of c.args.name.now c.args.desc.now high) (c.in_ok-found.ensures high high_at) in
    elim c.then-has.branch [
      | then-has-via-then-has w ↦
          let is_abstract = ap (λ flags. has flags ABSTRACT) (sym own.2.same_flags) ∙ sym c.has.ensures ∙ w.if-has.true in
          abstract_no_default headers hierarchy low.name c.args.name.now c.args.desc.now c.args.interface high high_at own.0 own.1 is_abstract
      | then-has-via-else-has+then-is_hidden w ↦
          let hidden = (w.is_hidden.ensures low high low_at high_at).0 w.if-is_hidden.true in
          hidden_no_default headers hierarchy low.name c.args.name.now c.args.desc.now c.args.interface high high_at hidden
    ]

pub returns : goal.returns
returns c = λ low high low_at high_at.
    let headers = headers_of c.args.tree.now in
    let own = some_same (IsMethodFound headers) c.in_ok-found.found (inherited_of c.args.name.now c.args.desc.now high) (c.in_ok-found.ensures high high_at) in
    let concrete = ap (λ flags. has flags ABSTRACT) (sym own.2.same_flags) ∙ sym c.has.ensures ∙ c.if-has.false in
    one_default headers c.a_tree_is_a_hierarchy.ensures low.name c.args.name.now c.args.desc.now c.args.interface high high_at (c.requires.interface low low_at) c.in_ok-found.found own.0 own.1 own.2 concrete
    (λ hidden. false≢true (sym c.if-is_hidden.false ∙ (c.is_hidden.ensures low high low_at high_at).1 hidden))
