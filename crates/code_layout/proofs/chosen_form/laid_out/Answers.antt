use Rattle.std.proofs.Common.{◌≡◌, ℕ, List, sym, subst, ◌∙◌}
use Rattle.class_model.specs.Instructions.{CodeOf}
use Rattle.code_layout.specs.Emitting.{IsEmitted}
use Rattle.code_layout.specs.EmittedCode.{HasCodeOf}
use Rattle.code_layout.specs.Inner.Writing.{ArePlaced, spelled_in}
use Rattle.code_layout.specs.Layout.{IsLaid, end_from, item_starts, placed_items, start_in}
use Rattle.code_layout.specs.declared.emitted.EmitItem.{EmitItem}
use Rattle.code_layout.specs.declared.laid.Laid.{Laid}
use Rattle.code_layout.proofs.Decoded.{laid-code}
use Rattle.code_layout.proofs.Kept.{KeepLens}
use Rattle.code_layout.proofs.Running.{has-code}
use Rattle.code_layout.proofs.chosen_form.laid_out.Goals as goal

pub returns-clause-laid : goal.returns-clause-laid
returns-clause-laid c =
    let spelled = spelled_in c.args.form in
    let items = c.as_slice-items.result.now in
    let same : items ≡ c.args.emitted.now = c.as_slice-items.ensures.items in
    let emitted : IsEmitted items = subst IsEmitted (sym same) c.as_slice-items.ensures.emitted in
    let placed : ArePlaced c.args.form items c.args.starts.items = subst (λ (all : List EmitItem). ArePlaced c.args.form all c.args.starts.items) (sym same) c.requires in
    let kept : KeepLens spelled (start_in (item_starts spelled items)) (end_from spelled 0 items) =
    subst (λ (starts : List ℕ). KeepLens spelled (start_in starts) (end_from spelled 0 items)) placed.are (λ at instr low. placed.kept at instr low) in
    let code = c.in_ok-code.code.items in
    let decodes : CodeOf code (placed_items spelled items) = laid-code spelled items code emitted kept placed.fits c.in_ok-code.ensures.bytes c.in_ok-code.ensures.spelled c.in_ok-code.ensures.end in
    subst (λ (all : List EmitItem). IsLaid spelled all (record { code = c.from_vec.result; handlers = c.from_vec-2.result; starts = c.from_vec-3.result })) same
    (record {
      starts = c.from_vec-3.ensures ∙ placed.are;
      bytes = c.from_vec.ensures ∙ c.in_ok-code.ensures.bytes;
      decodes = subst (λ (bytes : List ℕ). CodeOf bytes (placed_items spelled items)) (sym c.from_vec.ensures) decodes;
      handlers = c.from_vec-2.ensures ∙ c.in_ok-code.ensures.table;
    })

pub returns-clause-code : goal.returns-clause-code
returns-clause-code c =
    let spelled = spelled_in c.args.form in
    let items = c.as_slice-items.result.now in
    let same : items ≡ c.args.emitted.now = c.as_slice-items.ensures.items in
    let emitted : IsEmitted items = subst IsEmitted (sym same) c.as_slice-items.ensures.emitted in
    let placed : ArePlaced c.args.form items c.args.starts.items = subst (λ (all : List EmitItem). ArePlaced c.args.form all c.args.starts.items) (sym same) c.requires in
    let kept : KeepLens spelled (start_in (item_starts spelled items)) (end_from spelled 0 items) =
    subst (λ (starts : List ℕ). KeepLens spelled (start_in starts) (end_from spelled 0 items)) placed.are (λ at instr low. placed.kept at instr low) in
    let laid : Laid = record { code = c.from_vec.result; handlers = c.from_vec-2.result; starts = c.from_vec-3.result } in
    let is : IsLaid spelled items laid = subst (λ (all : List EmitItem). IsLaid spelled all laid) (sym same) (returns-clause-laid c) in
    subst (λ (all : List EmitItem). HasCodeOf all laid) same (has-code spelled items laid emitted is kept c.in_ok-code.ensures.spelled)
