use Rattle.std.proofs.Common.{◌≡◌, Ok, sym, subst}
use Rattle.std.specs.List.{AllByRecursion}
use Rattle.class_model.specs.Instructions.{decoded}
use Rattle.member_link.specs.CodedMethods.{CodedMethod}
use Rattle.type_rules.specs.Rule.{FitsPool}
use Rattle.member_link.specs.Scope.{Scope, instructions}
use Rattle.type_rules.proofs.NewClassLaws.{are_own}
use Rattle.type_rules.proofs.method_rules.MethodRules.instructions.Goals as goal

pub returns-clause-are : goal.returns-clause-are
returns-clause-are c =
    let read = subst (λ (m : CodedMethod). decoded m.part.code ≡ Ok c.instructions.result.now) c.self.invariant.body_is c.instructions.ensures in
    are_own c.args.self.now c.instructions.result.now (subst (λ (s : Scope). decoded s.part.code ≡ Ok c.instructions.result.now) c.self.view_is read)

pub returns-clause-fit : goal.returns-clause-fit
returns-clause-fit c =
    let read = subst (λ (m : CodedMethod). decoded m.part.code ≡ Ok c.instructions.result.now) c.self.invariant.body_is c.instructions.ensures in
    let are = are_own c.args.self.now c.instructions.result.now (subst (λ (s : Scope). decoded s.part.code ≡ Ok c.instructions.result.now) c.self.view_is read) in
    subst (AllByRecursion (λ placed. FitsPool c.args.self.now placed.instr)) (sym are) (subst (λ (s : Scope). AllByRecursion (λ placed. FitsPool s placed.instr) (instructions s)) c.self.view_is c.self.invariant.fit)
