use Rattle.std.proofs.Common.{◌≡◌, ◌<◌, ◌≤◌, List, length, sym, subst, ap, ◌∙◌}
use Rattle.code_layout.specs.Inner.Writing.{ArePlaced, HaveForms}
use Rattle.code_layout.specs.EmittedCode.{HasCodeOf}
use Rattle.code_layout.specs.Layout.{IsLaid, end_from, item_starts, wide_spelled}
use Rattle.code_layout.specs.WideForm.{widened}
use Rattle.code_layout.specs.declared.emitted.EmitItem.{EmitItem}
use Rattle.code_layout.specs.declared.form.Form.TheVariants.{Wide}
use Rattle.code_layout.proofs.Chosen.{wide-laid, wide-long, wide-within}
use Rattle.code_layout.proofs.ItemLens.{many-items}
use Rattle.code_layout.proofs.Placed.{have-forms, placed-wide}
use Rattle.code_layout.proofs.WideItems.{widened-hold}
use Rattle.code_layout.proofs.chosen_form.wide_layout.Goals as goal

pub returns-then-as_slice-gt-MAX_ITEMS-clause-kept : goal.returns-then-as_slice-gt-MAX_ITEMS-clause-kept
returns-then-as_slice-gt-MAX_ITEMS-clause-kept c =
    let items = c.args.emitted.now in
    let many : 65535 < length items = subst (λ (all : List EmitItem). 65535 < length all) c.as_slice.ensures.items c.if-as_slice-gt-MAX_ITEMS.true in
    wide-long items c.requires.long (many-items items many)

pub places-requires : goal.places-requires
places-requires c =
    subst HaveForms (sym c.as_slice-2.ensures.items) (have-forms c.in_ok-wide.wide c.as_slice-2.ensures.emitted)

pub laid_out-requires : goal.laid_out-requires
laid_out-requires c =
    let items = c.args.emitted.now in
    let wide = c.in_ok-wide.wide in
    let is : wide ≡ widened items = c.in_ok-wide.ensures in
    let same : c.as_slice-2.result.now ≡ wide = c.as_slice-2.ensures.items in
    let found = rw c.in-Some.is at c.in_ok-starts.ensures in
    let starts = c.in-Some.starts.items in
    let are : starts ≡ item_starts wide_spelled (widened items) = found.0 ∙ ap (item_starts wide_spelled) (same ∙ is) in
    let fits : end_from wide_spelled 0 (widened items) ≤ 65535 = subst (λ (all : List EmitItem). end_from wide_spelled 0 all ≤ 65535) (same ∙ is) found.1 in
    subst (λ (all : List EmitItem). ArePlaced Wide all starts) (sym is)
    (placed-wide (widened items) starts (widened-hold items c.as_slice.ensures.emitted) are fits)

pub returns-in-Some : goal.returns-in-Some
returns-in-Some c =
    let items = c.args.emitted.now in
    let wide = c.in_ok-wide.wide in
    let laid = c.in_ok-laid_out-in-Some.field-0 in
    let is : wide ≡ widened items = c.in_ok-wide.ensures in
    let same : c.as_slice-2.result.now ≡ wide = c.as_slice-2.ensures.items in
    let found = rw c.in-Some.is at c.in_ok-starts.ensures in
    let fits : end_from wide_spelled 0 (widened items) ≤ 65535 = subst (λ (all : List EmitItem). end_from wide_spelled 0 all ≤ 65535) (same ∙ is) found.1 in
    record {
      laid = wide-laid items c.requires.long laid
          (subst (λ (all : List EmitItem). IsLaid wide_spelled all laid) is c.in_ok-laid_out-in-Some.ensures.laid)
          (subst (λ (all : List EmitItem). HasCodeOf all laid) is c.in_ok-laid_out-in-Some.ensures.code);
      within = wide-within items c.requires.long fits c.requires.table;
      kept = tt;
    }
