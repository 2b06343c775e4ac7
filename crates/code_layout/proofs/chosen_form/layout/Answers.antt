use Rattle.std.proofs.Common.{◌≡◌, ◌≤◌, List, subst, ap, ◌∙◌}
use Rattle.code_layout.specs.Layout.{end_from, item_starts, short_spelled}
use Rattle.code_layout.specs.declared.emitted.EmitItem.{EmitItem}
use Rattle.code_layout.proofs.Placed.{have-forms, placed-short}
use Rattle.code_layout.proofs.chosen_form.layout.Goals as goal

pub laid_out-requires : goal.laid_out-requires
laid_out-requires c =
    let items = c.args.emitted.now in
    let same : c.as_slice-items.result.now ≡ items = c.as_slice-items.ensures.items in
    let found = rw c.in-Some.is at c.in_ok-starts.ensures in
    let starts = c.in-Some.starts.items in
    let are : starts ≡ item_starts short_spelled items = found.0 ∙ ap (item_starts short_spelled) same in
    let fits : end_from short_spelled 0 items ≤ 32767 = subst (λ (all : List EmitItem). end_from short_spelled 0 all ≤ 32767) same found.1 in
    placed-short items starts (have-forms items c.as_slice-items.ensures.emitted) are fits
