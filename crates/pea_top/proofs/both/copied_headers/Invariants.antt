use Rattle.std.proofs.Common.{◌≡◌, take}
use Rattle.pea_top.proofs.both.copied_headers.Given as goal

abbrev pub invariant-loop-header : goal.invariant-loop-header
invariant-loop-header l = l.copied ≡ take l.header-index l.headers
