use Rattle.std.proofs.Common.{ap, sym, ◌∙◌}
use Rattle.std.proofs.Common.{rules, ◌≡◌, length, ℕ, ◌+◌, ◌-◌, ◌*◌, ◌<◌, ◌≤◌, ◌/◌, ◌%◌, Bool, true, false, nat_eq, nat_lt, List, [], ◌∷◌, ◌++◌, slice_index_or, slice_set, bit_and, bit_or, Fits, w8, w32, w64, Bor, MutBor}
use Rattle.machine_values.proofs.CountLengths.{length_from_zero}
use Rattle.machine_values.proofs.count_list.CountList.len.Goals as goal

-- src/count_list.rt:42:5
pub returns : goal.returns
returns c = sym (sym (ap length c.self.view_is) ∙ length_from_zero c.self.inside.len _ c.self.invariant)
