-- The format writes what stands behind the names, which groups to the right.
use Rattle.std.proofs.Common.{◌≡◌, List, [], ◌∷◌, ℕ, IfOk, codes, subst}
use Rattle.class_tree.specs.RuleNames.{link_rule_name}
use Rattle.pea_top.proofs.MemberLines.{names_behind, two_behind}
use Rattle.pea_top.proofs.lines.unlinked.Goals as goal

pub returns : goal.returns
returns c =
    let front = names_behind (codes "refused 4 Unlinked ") c.args.class.now c.args.member.now.name c.args.member.now.desc in
    subst (λ (text : List ℕ). IfOk c.member_refusal.result (λ line. line.items ≡ text)) (rw (c.as_str.ensures.value, c.in_ok-back.ensures.ok, c.name-rule.ensures) (two_behind front (codes " ") (link_rule_name c.args.rule) (10 ∷ []))) c.member_refusal.ensures
