-- Counts of failed calls over two calls, one after the other.
use Rattle.std.proofs.Common.{ℕ, arith, ◌∙◌}
use Rattle.host_tree.specs.declared.call.HostCall.{HostCall}
use Rattle.host_tree.specs.Counts.{NeverFalls, CountsOnly}

pub NeverFalls-trans : {old mid new : ℕ} → NeverFalls old mid → NeverFalls mid new → NeverFalls old new
NeverFalls-trans first second = record {
  later = omega (arith, first.later, second.later);
  stands = λ last. second.stands (first.stands last);
}

pub CountsOnly-trans : (kind : HostCall) {old mid new : HostCall → ℕ} → CountsOnly kind old mid → CountsOnly kind mid new → CountsOnly kind old new
CountsOnly-trans kind first second = record {
  own = NeverFalls-trans first.own second.own;
  others = λ other differs. second.others other differs ∙ first.others other differs;
}
