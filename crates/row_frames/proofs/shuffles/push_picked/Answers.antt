use Rattle.std.proofs.Common.{take, length, get_or, refl, sym, ap, ◌++◌, ◌∷◌, [], ◌∙◌, append_assoc, List}
use Rattle.std.proofs.lemmas.Bool.{ltb-true, ltb-false}
use Rattle.std.proofs.lemmas.Option.{slice_get_read, slice_get_past}
use Rattle.class_model.specs.declared.frame.VType.{VType}
use Rattle.member_link.specs.Rows.ShuffleRows.{picked}
use Rattle.row_frames.proofs.PickedOperands.{picked_some, picked_none}
use Rattle.row_frames.proofs.shuffles.push_picked.Goals as goal
use Rattle.row_frames.proofs.shuffles.push_picked.Goals.{in-Some+in_ok-copy+in_ok-push, in_default}

pub loop-number-preserved : goal.loop-number-preserved
loop-number-preserved c =
    let operands = c.args.operands.now in
    let numbers = c.args.numbers.now in
    let i = c.loop-number.number-index in
    let before = c.args.stack.now in
    elim c.match-get.branch [
      | in-Some+in_ok-copy+in_ok-push w ↦
          let operand = w.in-Some.operand.now in
          let found = w.in-Some.ensures.lookup in
          let read = slice_get_read operands (length operands) (get_or numbers i 0) operand refl (ltb-true _ _ (sym found.0)) found.1 in
          let more = picked_some operands numbers i operand c.loop-number-test.true read in
          w.stack-is ∙ w.in_ok-push.ensures.ok ∙ ap (λ (type : VType). c.loop-number.stack ++ type ∷ []) w.in_ok-copy.ensures
          ∙ ap (λ (s : List VType). s ++ operand ∷ []) c.loop-number.invariant ∙ append_assoc before (picked operands (take i numbers)) (operand ∷ [])
          ∙ ap (λ (s : List VType). before ++ s) (sym more)
      | in_default w ↦
          let past = w.in_default.ensures.lookup in
          let more = picked_none operands numbers i c.loop-number-test.true (slice_get_past operands (get_or numbers i 0) (ltb-false _ _ (sym past.0))) in
          w.stack-is ∙ c.loop-number.invariant ∙ ap (λ (s : List VType). before ++ s) (sym more)
    ]
