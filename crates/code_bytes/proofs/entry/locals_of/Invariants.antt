use Rattle.std.proofs.Common.{◌≡◌, ◌++◌, map, take}
use Rattle.std.specs.Option.{option_copied}
use Rattle.class_model.specs.Code.{verification_type}
use Rattle.class_model.specs.Frames.{units_of_entries}
use Rattle.class_model.specs.PoolChecks.{utf8_at}
use Rattle.code_bytes.specs.Entry.{this_entries}
use Rattle.code_bytes.proofs.entry.locals_of.Given as goal

abbrev pub invariant-loop-param : goal.invariant-loop-param
invariant-loop-param l =
    l.locals ≡ this_entries l.flags (utf8_at l.pool l.name) (option_copied l.class) ++ units_of_entries (map verification_type (take l.param-index l.params))
