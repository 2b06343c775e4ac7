use Rattle.std.proofs.Common.{◌≡◌, ◌++◌, take}
use Rattle.std.specs.List.{flat_map}
use Rattle.code_bytes.specs.Forms.{pair_bytes}
use Rattle.code_bytes.proofs.forms.push_lookup.Given as goal

abbrev pub invariant-loop-pair : goal.invariant-loop-pair
invariant-loop-pair l =
    l.out.items ≡ l.initial.out.items ++ flat_map (pair_bytes l.at) (take l.pair-index l.pairs)
