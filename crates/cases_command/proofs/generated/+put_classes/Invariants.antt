use Rattle.std.proofs.Common.{length}
use Rattle.cases_command.proofs.generated.+put_classes.Given as goal

abbrev pub decreases-put_classes : goal.decreases-put_classes
decreases-put_classes l = length l.classes.now
