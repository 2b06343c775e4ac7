use Rattle.std.proofs.Common.{◌≡◌, ◌+◌, ℕ, List, slice_set, sym, ap, ◌∙◌}
use Rattle.class_model.specs.declared.frame.VType.{VType}
use Rattle.class_model.specs.declared.frame.VType.TheVariants.{Top}
use Rattle.inline_expand.proofs.FrameParts.{stored-single, stored-wide}
use Rattle.inline_expand.proofs.expanded.frames.stored_in.Goals as goal
use Rattle.inline_expand.proofs.expanded.frames.stored_in.Goals.{then-is_wide+in_ok-set-2, else-is_wide}
use Rattle.member_link.specs.Rows.LocalRows.{cut_before, stored}

pub returns : goal.returns
returns c =
    let at = c.from-at.result in
    let value = c.args.value in
    let locals = c.args.locals in
    let one : c.set.new.locals ≡ slice_set (cut_before at locals) at value =
    c.in_ok-set.ensures ∙ ap (λ (all : List VType). slice_set all at value) c.in_ok-cut_before.ensures in
    elim c.if-is_wide.branch [
      | then-is_wide+in_ok-set-2 w ↦
          w.after-is ∙ w.in_ok-set-2.ensures ∙ ap (λ (all : List VType). slice_set all (at + 1) Top) one
          ∙ sym (stored-wide value at locals (sym w.if-is_wide.ensures)) ∙ ap (λ (n : ℕ). stored n value locals) c.from-at.ensures
      | else-is_wide w ↦
          w.after-is ∙ one ∙ sym (stored-single value at locals (sym w.if-is_wide.ensures)) ∙ ap (λ (n : ℕ). stored n value locals) c.from-at.ensures
    ]
