use Rattle.member_link.specs.LinkedFirst.{AreFirstLinked}
use Rattle.member_link.proofs.links.check_links.Given as goal

abbrev pub invariant-loop-place : goal.invariant-loop-place
invariant-loop-place l = AreFirstLinked l.tree l.place
