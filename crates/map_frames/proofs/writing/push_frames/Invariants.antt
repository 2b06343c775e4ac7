use Rattle.std.proofs.Common.{◌≡◌, ℕ, List, ◌++◌, drop}
use Rattle.class_model.specs.Frames.{entries_of_units}
use Rattle.map_frames.proofs.TablesWritten.{AreLeft}
use Rattle.map_frames.proofs.writing.push_frames.Given as goal

-- what is done
abbrev pub invariant-loop-placed : goal.invariant-loop-placed
invariant-loop-placed l =
    (done : List ℕ) × (l.out.items ≡ l.fn.out.items ++ done)
    × AreLeft l.classes (entries_of_units l.fn.locals.items) l.frames l.from (entries_of_units l.before.items) (drop l.placed-index l.frames) done
