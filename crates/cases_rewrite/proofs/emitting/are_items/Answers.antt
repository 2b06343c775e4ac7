use Rattle.std.proofs.Common.{rules, ◌≡◌, ℕ, Some, length, slice_get, refl, sym, subst, ap, ◌∙◌, inl, inr, arith}
use Rattle.std.proofs.lemmas.Bool.{cases_order}
use Rattle.std.proofs.lemmas.Option.{same_Some, slice_get_read, slice_get_within}
use Rattle.code_layout.specs.Emitting.{IsItem}
use Rattle.code_layout.specs.declared.emitted.EmitItem.{EmitItem}
use Rattle.cases_rewrite.proofs.emitting.are_items.Goals as goal

pub loop-at-preserved : goal.loop-at-preserved
loop-at-preserved c =
    let items = c.args.items.now in
    let last = c.index-items-at.result in
    let there : slice_get items c.loop-at.at ≡ Some last = slice_get_read items (length items) c.loop-at.at last refl (omega (arith, c.loop-at-test.true)) c.index-items-at.is in
    let passes : IsItem items c.loop-at.at last = search rules in
    λ at item less is. elim (cases_order at c.loop-at.at) [
      | inl same ↦
          let is_last : last ≡ item = same_Some last item (sym there ∙ ap (slice_get items) (sym same) ∙ is) in
          subst (λ (one : EmitItem). IsItem items at one) is_last (subst (λ (n : ℕ). IsItem items n last) (sym same) passes)
      | inr (inl before) ↦ c.loop-at.invariant at item before is
      | inr (inr behind) ↦ absurd (omega (arith, less, behind))
    ]

pub returns-clause-each : goal.returns-clause-each
returns-clause-each c = λ _ at item is. c.loop-at.invariant at item (omega (arith, slice_get_within c.args.items.now at item is, c.loop-at-test.false)) is
