use Rattle.verify_folder.specs.Verifying.{AreFirstTyped}
use Rattle.verify_folder.proofs.folder.check_all.Given as goal

abbrev pub invariant-loop-place : goal.invariant-loop-place
invariant-loop-place l = AreFirstTyped l.tree l.place
