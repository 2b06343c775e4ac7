use Rattle.std.proofs.Common.{◌≡◌, ◌*◌, take}
use Rattle.code_bytes.specs.Numbers.{FitsKeys}
use Rattle.code_bytes.proofs.forms.pairs_len.Given as goal

abbrev pub invariant-loop-pair : goal.invariant-loop-pair
invariant-loop-pair l = (l.len ≡ 8 * l.pair-index) × FitsKeys (take l.pair-index l.pairs)
