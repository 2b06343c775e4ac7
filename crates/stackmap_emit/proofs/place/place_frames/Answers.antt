use Rattle.std.proofs.Common.{◌≡◌, ◌<◌, ◌^◌, ℕ, List, length, sym, subst, ◌∙◌, arith, rules}
use Rattle.std.proofs.lemmas.Result.{IfOk-weaker}
use Rattle.std.proofs.lemmas.List.{length-append}
use Rattle.code_layout.specs.Layout.{start_in}
use Rattle.code_layout.specs.WideForm.{closing, wide_from, wide_numbers, widened}
use Rattle.code_layout.specs.declared.emitted.EmitItem.{EmitItem}
use Rattle.stackmap_emit.proofs.PlacedForms.{OfEmitted, few_wide, of_short, of_wide}
use Rattle.stackmap_emit.proofs.place.place_frames.Goals as goal

pub returns-then-is_short : goal.returns-then-is_short
returns-then-is_short c =
    let code = c.args.code.now in
    let emitted = c.args.emitted.now in
    let items = c.as_slice.result.now in
    let offsets = c.as_slice-then-is_short.result.now in
    let same : offsets ≡ c.args.laid.now.starts = search rules in
    IfOk-weaker c.frames_of.result _ _
    (λ made of_items.
    subst (λ (found : List ℕ). OfEmitted code.flat.now code.own.now code.entry.now code.pool.now code.starts.now found made.placed made.max_stack emitted) same
    (of_short code.flat.now code.own.now code.entry.now code.pool.now code.starts.now offsets made.placed made.max_stack emitted items
    (sym c.is_short.ensures ∙ c.if-is_short.true) c.as_slice.ensures.items of_items))
    c.frames_of.ensures

pub frames_of-requires-2-clause-few : goal.frames_of-requires-2-clause-few
frames_of-requires-2-clause-few c =
    let emitted = c.args.emitted.now in
    let items : c.as_slice-4.result.now ≡ widened emitted = search rules in
    subst (λ (found : List EmitItem). length found < 2 ^ 32) (sym items)
    (let all = length-append (wide_from (start_in (wide_numbers emitted)) 0 emitted) (closing emitted) in
    let few = few_wide emitted (start_in (wide_numbers emitted)) c.requires.few in
    omega (arith, all, few))

pub returns : goal.returns
returns c =
    let code = c.args.code.now in
    let emitted = c.args.emitted.now in
    let items = c.as_slice-4.result.now in
    let numbers = c.as_slice-3.result.now in
    let offsets = c.as_slice-5.result.now in
    let same : offsets ≡ c.args.laid.now.starts = search rules in
    let is : items ≡ widened emitted = search rules in
    let numbers_are : numbers ≡ wide_numbers emitted = search rules in
    IfOk-weaker c.frames_of-2.result _ _
    (λ made of_items.
    subst (λ (found : List ℕ). OfEmitted code.flat.now code.own.now code.entry.now code.pool.now code.starts.now found made.placed made.max_stack emitted) same
    (of_wide code.flat.now code.own.now code.entry.now code.pool.now code.starts.now offsets made.placed made.max_stack emitted items numbers
    (sym c.is_short.ensures ∙ c.if-is_short.false) is numbers_are of_items))
    c.frames_of-2.ensures
