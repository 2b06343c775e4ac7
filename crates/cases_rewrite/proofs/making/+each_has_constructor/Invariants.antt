use Rattle.std.proofs.Common.{length}
use Rattle.cases_rewrite.proofs.making.+each_has_constructor.Given as goal

abbrev pub decreases-each_has_constructor : goal.decreases-each_has_constructor
decreases-each_has_constructor l = length l.sites.now
