use Rattle.std.proofs.Common.{◌≡◌, ◌∙◌, None, Some, subst, ap}
use Rattle.std.specs.Option.{option_copied}
use Rattle.type_rules.specs.Inner.CodedScopes.{coded_of}
use Rattle.member_link.specs.Scope.{Scope}
use Rattle.type_rules.proofs.NewClassLaws.{made_there}
use Rattle.type_rules.proofs.method_rules.MethodRules.class_of_new.Goals as goal

pub returns-in_err-placed : goal.returns-in_err-placed
returns-in_err-placed c =
    let own = c.self.inside in
    let is = subst (λ (s : Scope). own.body ≡ coded_of s) c.self.view_is c.self.invariant.body_is in
    ap option_copied c.from_residual.ensures ∙ made_there c.args.self.now c.args.at own.body is None c.in_err-placed.ensures

pub returns : goal.returns
returns c =
    let own = c.self.inside in
    let is = subst (λ (s : Scope). own.body ≡ coded_of s) c.self.view_is c.self.invariant.body_is in
    c.class_made.ensures ∙ made_there c.args.self.now c.args.at own.body is (Some c.in_ok-placed.placed.now) c.in_ok-placed.ensures
