-- The format writes what stands behind the names, which groups to the right.
use Rattle.std.proofs.Common.{◌≡◌, List, [], ◌∷◌, ℕ, IfOk, codes, subst}
use Rattle.std.specs.Prelude.{decimal}
use Rattle.type_rules.specs.RuleNames.{type_rule_name}
use Rattle.pea_top.proofs.MemberLines.{names_behind, four_behind}
use Rattle.pea_top.proofs.lines.unverified.Goals as goal

pub returns : goal.returns
returns c =
    let front = names_behind (codes "refused 5 Unverified ") c.args.class.now c.args.method.now.name c.args.method.now.desc in
    subst (λ (text : List ℕ). IfOk c.member_refusal.result (λ line. line.items ≡ text)) (rw (c.as_str.ensures.value, c.in_ok-back.ensures.ok, c.name-rule.ensures) (four_behind front (codes " ") (decimal c.args.offset) (codes " ") (type_rule_name c.args.rule) (10 ∷ []))) c.member_refusal.ensures
