use Rattle.std.proofs.Common.{◌≡◌, ◌<◌, Bool, false, List, length, drop, get_or, replicate, sym, ap, subst, ◌∙◌, inl, inr, arith}
use Rattle.std.proofs.lemmas.Bool.{false≢true}
use Rattle.std.proofs.lemmas.List.{get_or-replicate, length-replicate}
use Rattle.inline_expand.proofs.Marks.{written}
use Rattle.inline_expand.proofs.final_stores.stored_finals.Goals as goal

pub returns-clause-each : goal.returns-clause-each
returns-clause-each c = λ number within.
    let folder = c.args.tree.now.folder in
    let marks = c.mark_folder.new.marks in
    let long : c.len.result ≡ length folder = c.len.ensures ∙ ap length c.folder.ensures.same in
    let items : c.as_mut_slice.result.now ≡ replicate c.len.result false = c.as_mut_slice.ensures.value ∙ c.in_ok-marks.ensures.items_if_clones_equal (λ y same. same) in
    let whole = written marks (drop (length marks) c.in_ok-marks.marks.items) c.in_ok-marks.marks.len
    (c.mark_folder.auto.marks ∙ ap length c.as_mut_slice.ensures.value ∙ omega (arith, c.in_ok-marks.marks.ok.0)) in
    let low : number < length c.as_mut_slice.result.now = subst (λ (m : List Bool). number < length m) (sym items) (omega (arith, within, long, length-replicate c.len.result false)) in
    let each = c.in_ok-mark_folder.ensures.each number low in
    let unmarked : get_or c.as_mut_slice.result.now number false ≡ false = ap (λ (m : List Bool). get_or m number false) items ∙ get_or-replicate c.len.result number false false (omega (arith, within, long)) in (
      λ is. elim (each.0 (ap (λ (m : List Bool). get_or m number false) (sym whole) ∙ is)) [ inl old ↦ absurd (false≢true (sym unmarked ∙ old)) | inr stored ↦ stored ],
      λ stored. ap (λ (m : List Bool). get_or m number false) whole ∙ each.1 (inr stored),
    )
