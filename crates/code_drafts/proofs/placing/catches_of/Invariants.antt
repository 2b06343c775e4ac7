use Rattle.std.proofs.Common.{◌≡◌, map, take}
use Rattle.code_drafts.proofs.placing.catches_of.Given as goal
use Rattle.code_drafts.specs.Inner.Parts.{draft_number, placed_catch}

abbrev pub invariant-loop-catch : goal.invariant-loop-catch
invariant-loop-catch l =
    map (λ catch. (catch.to, catch.catch_type)) l.placed.items
    ≡ map (placed_catch (draft_number l.starts l.total l.number)) (take l.catch-index l.catches)
