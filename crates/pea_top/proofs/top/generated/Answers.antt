use Rattle.std.proofs.Common.{◌≡◌, ◌≢◌, ℕ, refl, sym, subst, arith}
use Rattle.host_tree.specs.Counts.{CountsOnly, NeverFalls}
use Rattle.host_tree.specs.declared.call.HostCall.{HostCall}
use Rattle.host_tree.specs.declared.call.HostCall.TheVariants as calls
use Rattle.pea_top.specs.Inner.Ended.{ended}
use Rattle.pea_top.proofs.Outcomes.{stop_generated, stop_no_memory}
use Rattle.pea_top.proofs.top.generated.Goals as goal

-- ---- counts of failed calls

list_not_print : calls.List ≢ calls.Print
list_not_print e = cc

read_not_print : calls.Read ≢ calls.Print
read_not_print e = cc

write_not_print : calls.Write ≢ calls.Print
write_not_print e = cc

same_falls : (count : ℕ) → NeverFalls count count
same_falls count = record { later = omega arith; stands = λ last. last }

none_falls : (old new : HostCall → ℕ) → CountsOnly calls.Print old new → (call : HostCall) → NeverFalls (old call) (new call)
none_falls old new counts calls.Print = counts.own
none_falls old new counts calls.List = subst (NeverFalls (old calls.List)) (sym (counts.others calls.List list_not_print)) (same_falls (old calls.List))
none_falls old new counts calls.Read = subst (NeverFalls (old calls.Read)) (sym (counts.others calls.Read read_not_print)) (same_falls (old calls.Read))
none_falls old new counts calls.Write = subst (NeverFalls (old calls.Write)) (sym (counts.others calls.Write write_not_print)) (same_falls (old calls.Write))

pub returns-in-Ok-clause-counts : goal.returns-in-Ok-clause-counts
returns-in-Ok-clause-counts g c = none_falls _ _ c.finish.ensures.counts

pub returns-in-Ok-clause-write_count : goal.returns-in-Ok-clause-write_count
returns-in-Ok-clause-write_count g c = c.finish.ensures.counts.others calls.Write write_not_print

pub returns-in-Ok-clause-list_count : goal.returns-in-Ok-clause-list_count
returns-in-Ok-clause-list_count g c = c.finish.ensures.counts.others calls.List list_not_print

-- ---- what is answered

-- the line was printed, or that stopped
pub returns-in-Ok-clause-stop : goal.returns-in-Ok-clause-stop
returns-in-Ok-clause-stop g c = λ words spelled tells.
    stop_generated words c.args.number c.args.size spelled _ _ c.in-Ok.text.items _ _ c.in-Ok.ensures (ended c.finish.result) (rw c.as_slice.ensures.value at (c.finish.ensures.left tells))

-- or memory ran out before
pub returns-in-Err-clause-stop : goal.returns-in-Err-clause-stop
returns-in-Err-clause-stop g c = λ words spelled tells. stop_no_memory words _ _ _ _ (λ root name. refl) refl
