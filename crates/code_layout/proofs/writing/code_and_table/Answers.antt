use Rattle.std.proofs.Common.{◌≡◌, ℕ, ◌≤◌, ◌+◌, List, ◌∷◌, ◌++◌, length, map, drop, sym, ap, subst, ◌∙◌, arith}
use Rattle.class_model.specs.Laws.Lists.{drop_item}
use Rattle.class_model.specs.declared.class_file.Handler.{Handler}
use Rattle.member_link.specs.Targets.{with_targets}
use Rattle.code_layout.specs.Inner.Writing.{CanBePlaced, spelled_in}
use Rattle.code_layout.specs.Layout.{len_of, placed_from, range_of, ranges_from, start_in}
use Rattle.code_layout.specs.declared.emitted.Catch.{Catch}
use Rattle.code_layout.specs.declared.emitted.EmitItem.{EmitItem}
use Rattle.code_layout.proofs.Steps.{item-is, ranges-step}
use Rattle.code_layout.proofs.Written.{IsWritten, appended-end, end-least, start-most, written-more}
use Rattle.code_layout.proofs.writing.code_and_table.Goals as goal

pub push_instr-requires-clause-place : goal.push_instr-requires-clause-place
push_instr-requires-clause-place c =
    let low = end-least (spelled_in c.args.form) (length c.loop-item.code.items) (drop c.loop-item.item-index c.args.items.now) in
    omega (arith, low, c.loop-item.invariant.0.end, c.requires.fits)

pub push_instr-requires-clause-spelled : goal.push_instr-requires-clause-spelled
push_instr-requires-clause-spelled c =
    let items = c.args.items.now in
    let i = c.loop-item.item-index in
    let item = c.item-item.result in
    let is = item-is items i item (omega arith) c.item-item.is in
    let placed = placed_from (spelled_in c.args.form) (start_in c.args.starts.now) (length c.loop-item.code.items) in
    (subst (λ (left : List EmitItem). CanBePlaced c.args.form (placed left)) (drop_item items i item is) c.loop-item.invariant.2).0

pub overflow_cast-start : goal.overflow_cast-start
overflow_cast-start c =
    let low = end-least (spelled_in c.args.form) (length c.loop-item.code.items) (drop c.loop-item.item-index c.args.items.now) in
    omega (arith, low, c.loop-item.invariant.0.end, c.requires.fits)

pub overflow_cast-end : goal.overflow_cast-end
overflow_cast-end c =
    let items = c.args.items.now in
    let starts = c.args.starts.now in
    let spelled = spelled_in c.args.form in
    let i = c.loop-item.item-index in
    let item = c.item-item.result in
    let code = c.loop-item.code.items in
    let after = c.push_instr.new.code.items in
    let left = drop (i + 1) items in
    let is = item-is items i item (omega arith) c.item-item.is in
    let low = end-least spelled (length code) (drop i items) in
    let kept = c.requires.kept (length code) item.instr (omega (arith, low, c.loop-item.invariant.0.end)) in
    let before : IsWritten spelled items starts code (item ∷ left) = subst (IsWritten spelled items starts code) (drop_item items i item is) c.loop-item.invariant.0 in
    let more = written-more spelled items starts code after item left kept c.in_ok-push_instr.ensures before in
    let most = end-least spelled (length after) left in
    omega (arith, most, more.end, c.requires.fits)

pub push_ranges-requires : goal.push_ranges-requires
push_ranges-requires c = λ to.
    subst (λ (starts : List ℕ). start_in starts to ≤ 65535) (sym c.requires.are)
    (start-most (spelled_in c.args.form) 0 c.args.items.now 65535 c.requires.fits to)

pub loop-item-preserved : goal.loop-item-preserved
loop-item-preserved c =
    let items = c.args.items.now in
    let starts = c.args.starts.now in
    let spelled = spelled_in c.args.form in
    let place = start_in starts in
    let i = c.loop-item.item-index in
    let item = c.item-item.result in
    let code = c.loop-item.code.items in
    let after = c.push_instr.new.code.items in
    let left = drop (i + 1) items in
    let at = length code in
    let next = at + len_of spelled at item.instr in
    let is = item-is items i item (omega arith) c.item-item.is in
    let low = end-least spelled at (drop i items) in
    let kept : length (spelled at (with_targets place item.instr)) ≡ len_of spelled at item.instr =
    c.requires.kept at item.instr (omega (arith, low, c.loop-item.invariant.0.end)) in
    let before : IsWritten spelled items starts code (item ∷ left) = subst (IsWritten spelled items starts code) (drop_item items i item is) c.loop-item.invariant.0 in
    let can = subst (λ (rest : List EmitItem). CanBePlaced c.args.form (placed_from spelled place at rest)) (drop_item items i item is) c.loop-item.invariant.2 in
    let long : length after ≡ next = appended-end spelled items starts code after item left kept c.in_ok-push_instr.ensures in
    let start : c.len-start.result ≡ at = omega arith in
    let end : c.len-end.result ≡ next = let same : c.len-end.result ≡ length after = omega arith in same ∙ long in
    let catches = c.as_slice.result.now in
    let more = map (range_of place c.len-start.result c.len-end.result) catches in
    let same : more ≡ map (range_of place at next) item.catches =
    ap (λ (n : ℕ). map (range_of place n c.len-end.result) catches) start ∙ ap (λ (n : ℕ). map (range_of place at n) catches) end
    ∙ ap (λ (all : List Catch). map (range_of place at next) all) c.as_slice.ensures in (
      written-more spelled items starts code after item left kept c.in_ok-push_instr.ensures before,
      ranges-step spelled items i item is place at c.loop-item.table.items more c.loop-item.invariant.1 same
          ∙ ap (λ (table : List Handler). table ++ ranges_from spelled place next left) (sym c.in_ok-push_ranges.ensures)
          ∙ ap (λ (n : ℕ). c.push_ranges.new.table.items ++ ranges_from spelled place n left) (sym long),
      subst (λ (n : ℕ). CanBePlaced c.args.form (placed_from spelled place n left)) (sym long) can.1,
    )
