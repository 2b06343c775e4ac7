use Rattle.std.proofs.Common.{◌++◌, true, false, ℕ, List, [], ◌∷◌, take, append_assoc, sym, ap, ◌∙◌}
use Rattle.std.proofs.lemmas.List.{append-nil}
use Rattle.inline_expand.proofs.FieldLists.{descs_more, descs_of, descs_whole}
use Rattle.inline_expand.proofs.candidates.with_own_fields.Goals as goal
use Rattle.inline_expand.proofs.candidates.with_own_fields.Goals.{then-not-has+in_ok-copy+in_ok-push, else-not-has}

pub loop-field-init : goal.loop-field-init
loop-field-init c = sym (append-nil c.args.fields)

pub loop-field-preserved : goal.loop-field-preserved
loop-field-preserved c =
    let members = c.as_slice-field-items.result.now in
    let i = c.loop-field.field-index in
    let x = c.field-item.result in
    elim c.if-not-has.branch [
      | then-not-has+in_ok-copy+in_ok-push w ↦
          let more = descs_more members i x false c.loop-field-test.true c.field-item.is (sym c.has.ensures ∙ w.if-not-has.true) in
          w.all-is ∙ w.in_ok-push.ensures.ok ∙ ap (λ (d : List ℕ). c.loop-field.all ++ d ∷ []) w.in_ok-copy.ensures
          ∙ ap (λ (l : List (List ℕ)). l ++ x.desc ∷ []) c.loop-field.invariant ∙ append_assoc c.args.fields (descs_of (take i members)) (x.desc ∷ [])
          ∙ ap (λ (l : List (List ℕ)). c.args.fields ++ l) (sym more)
      | else-not-has w ↦
          let more = descs_more members i x true c.loop-field-test.true c.field-item.is (sym c.has.ensures ∙ w.if-not-has.false) in
          w.all-is ∙ c.loop-field.invariant
          ∙ ap (λ (l : List (List ℕ)). c.args.fields ++ l) (sym (append-nil (descs_of (take i members))) ∙ sym more)
    ]

pub returns : goal.returns
returns c =
    c.loop-field.invariant ∙ ap (λ (l : List (List ℕ)). c.args.fields ++ l) (descs_whole c.as_slice-field-items.result.now c.loop-field.field-index c.loop-field-test.false
    ∙ ap descs_of c.as_slice-field-items.ensures)
