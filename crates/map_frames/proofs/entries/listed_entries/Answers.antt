use Rattle.std.proofs.Common.{◌≡◌, ◌∷◌, [], ◌++◌, ◌≤◌, Some, ap, sym, ◌∙◌, arith}
use Rattle.std.specs.List.{slice_get}
use Rattle.class_model.specs.Frames.{listed}
use Rattle.class_model.specs.Laws.Lists.{none_behind}
use Rattle.class_model.specs.declared.frame.VType.{VType}
use Rattle.map_frames.specs.Inner.Steps.{of_locals}
use Rattle.map_frames.proofs.ListedUnits.{entry_listed, entries_listed}
use Rattle.map_frames.proofs.entries.listed_entries.Goals as goal
use Rattle.map_frames.proofs.entries.listed_entries.Goals.{else-loop-at-test, then-loop-at-test+in_default}

pub loop-at-preserved : goal.loop-at-preserved
loop-at-preserved c =
    let found : slice_get c.args.locals.now c.loop-at.at ≡ Some c.in-Some.entry.now = sym c.in-Some.ensures in
    let pushed = c.in_ok-push.ensures ∙ ap (λ (t : VType). c.loop-at.entries ++ t ∷ []) c.in_ok-copy.ensures in
    entry_listed c.loop-at.entries c.push.new.self (listed (of_locals c.args.locals.now)) c.args.locals.now c.count_listed-end.result c.loop-at.at 18446744073709551615 c.saturating_add-at.result c.in-Some.entry.now
    c.loop-at-test.true (omega arith) found (rw c.units_of.ensures at c.saturating_add-at.ensures) pushed c.loop-at.invariant

pub returns : goal.returns
returns c =
    let left : c.count_listed-end.result ≤ c.loop-at.at =
    elim c.loop-at-test.branch [
      | else-loop-at-test w ↦ omega arith
      | then-loop-at-test+in_default w ↦ omega (arith, none_behind c.args.locals.now c.loop-at.at (sym w.in_default.ensures))
    ] in
    entries_listed c.loop-at.entries (listed (of_locals c.args.locals.now)) c.args.locals.now c.count_listed-end.result c.loop-at.at left c.loop-at.invariant
