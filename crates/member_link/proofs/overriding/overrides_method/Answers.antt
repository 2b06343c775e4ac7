use Rattle.std.proofs.Common.{rules, refl, sym, ap, ◌∙◌, inl, inr}
use Rattle.std.proofs.lemmas.Bool.{both_ways}
use Rattle.class_tree.specs.Headers.{headers_of}
use Rattle.member_link.specs.DeclaredMembers.{declared_by}
use Rattle.member_link.specs.Overriding.{package_of}
use Rattle.member_link.proofs.OpenOverriding.{Reaches, overriding_decided, opened_by}
use Rattle.member_link.proofs.overriding.overrides_method.Goals as goal
use Rattle.member_link.proofs.overriding.overrides_method.Goals.{then-is_open, else-is_open}

pub returns-then-is_same_package : goal.returns-then-is_same_package
returns-then-is_same_package c =
    let headers = headers_of c.args.tree.now in
    let low = declared_by c.args.low.header.now.name c.args.low.member.now in
    let high = declared_by c.args.high.header.now.name c.args.high.member.now in
    let reaches : Reaches headers low high = elim c.if-is_open.branch [
      | then-is_open w ↦ inl (sym (c.is_open.ensures high.member refl) ∙ w.if-is_open.true)
      | else-is_open w ↦ inr (inl (sym (ap package_of w.bytes.ensures.same) ∙ w.is_same_package.ensures.0 (sym w.value-is ∙ c.if-is_same_package.true) ∙ ap package_of w.bytes-else-is_open.ensures.same))
    ] in
    (λ yes. overriding_decided.1 (c.may_override.ensures.0 c.if-may_override.true, reaches), λ over. c.if-is_same_package.true)

pub returns-else-is_same_package : goal.returns-else-is_same_package
returns-else-is_same_package c =
    let headers = headers_of c.args.tree.now in
    let high = declared_by c.args.high.header.now.name c.args.high.member.now in
    let opened = opened_by {high = high} _ c.any_above.result (λ found middle told is answer. search rules) c.any_above.ensures in (
      λ yes. overriding_decided.1 (c.may_override.ensures.0 c.if-may_override.true, inr (inr (opened.0 yes))),
      λ over. elim (overriding_decided.0 over).1 [
        | inl opens ↦ absurd (elim c.if-is_open.branch [
          | then-is_open w ↦ both_ways _ (sym w.value-is ∙ c.if-is_same_package.false) w.if-is_open.true
          | else-is_open w ↦ both_ways _ w.if-is_open.false (c.is_open.ensures high.member refl ∙ opens)
        ])
        | inr (inl same) ↦ absurd (elim c.if-is_open.branch [
          | then-is_open w ↦ both_ways _ (sym w.value-is ∙ c.if-is_same_package.false) w.if-is_open.true
          | else-is_open w ↦
              both_ways _ (sym w.value-is ∙ c.if-is_same_package.false) (w.is_same_package.ensures.1 (ap package_of w.bytes.ensures.same ∙ same ∙ sym (ap package_of w.bytes-else-is_open.ensures.same)))
        ])
        | inr (inr middle) ↦ opened.1 middle
      ],
    )
