-- Words of what operations do with their operands.
use Rattle.std.specs.Prelude.{ℕ, Option, Some, None}
use Rattle.member_link.specs.Machine.Completions.{Completion, begins}

-- the class of this number is begun first, if there is one
abbrev pub or_begins : Option ℕ → Completion → Completion
or_begins None completion = completion
or_begins (Some class) completion = begins class
