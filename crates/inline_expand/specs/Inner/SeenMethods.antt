-- Methods that are marked as seen.
use Rattle.std.specs.Prelude.{◌≢◌, List, None}
use Rattle.class_model.specs.declared.class_file.MethodAt.{MethodAt}
use Rattle.inline_expand.specs.Inner.Stacks.{IsAmong}
use Rattle.inline_expand.specs.Inner.Verdicts.{verdict}
use Rattle.inline_expand.specs.declared.verdicts.Verdicts.{Verdicts}

-- each that is marked is among these
abbrev pub AreAmong : Verdicts → List MethodAt → Type 0
AreAmong seen methods = (at : MethodAt) → verdict seen at ≢ None → IsAmong methods at
