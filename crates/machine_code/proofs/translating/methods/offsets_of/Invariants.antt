use Rattle.std.proofs.Common.{◌≡◌, take}
use Rattle.machine_code.specs.Inner.Translating.{offsets_of}
use Rattle.machine_code.proofs.translating.methods.offsets_of.Given as goal

abbrev pub invariant-loop-placed : goal.invariant-loop-placed
invariant-loop-placed l = l.offsets.items ≡ offsets_of (take l.placed-index l.instrs)
