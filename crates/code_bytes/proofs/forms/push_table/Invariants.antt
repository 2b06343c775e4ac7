use Rattle.std.proofs.Common.{◌≡◌, ◌++◌, take}
use Rattle.std.specs.List.{flat_map}
use Rattle.code_bytes.specs.Forms.{target_bytes}
use Rattle.code_bytes.proofs.forms.push_table.Given as goal

abbrev pub invariant-loop-to : goal.invariant-loop-to
invariant-loop-to l =
    l.out.items ≡ l.initial.out.items ++ flat_map (target_bytes l.at) (take l.to-index l.targets)
