use Rattle.std.proofs.Common.{◌≡◌, ◌++◌, ℕ, List, sym, subst, ap, ◌∙◌}
use Rattle.code_layout.specs.Emitting.{IsEmitted}
use Rattle.code_layout.specs.Layout.{start_in}
use Rattle.code_layout.specs.WideForm.{closing, wide_from, wide_numbers, widened}
use Rattle.code_layout.specs.declared.emitted.EmitItem.{EmitItem}
use Rattle.code_layout.proofs.WideItems.{widened-emitted}
use Rattle.code_layout.proofs.wide_form.widened.Goals as goal

pub of-requires : goal.of-requires
of-requires c =
    let items = c.as_slice-items.result.now in
    let same : items ≡ c.args.emitted.now = c.as_slice-items.ensures.items in
    let emitted : IsEmitted items = subst IsEmitted (sym same) c.as_slice-items.ensures.emitted in
    let numbers : c.as_slice.result.now ≡ wide_numbers items = c.as_slice.ensures.value ∙ c.in_ok-numbers.ensures in
    let front : c.in_ok-wide.wide.items ≡ wide_from (start_in (wide_numbers items)) 0 items =
    c.in_ok-wide.ensures ∙ ap (λ (all : List ℕ). wide_from (start_in all) 0 items) numbers in
    let all : c.from_vec.result ≡ widened items =
    c.from_vec.ensures ∙ c.in_ok-push_closing.ensures ∙ ap (λ (found : List EmitItem). found ++ closing items) front in
    subst IsEmitted (sym all) (widened-emitted items emitted)
