use Rattle.std.proofs.Common.{◌≡◌, drop}
use Rattle.flow_code.specs.ReadTypes.{class_of_site}
use Rattle.written_frames.proofs.types.class_of_site.Given as goal

abbrev pub invariant-loop-site : goal.invariant-loop-site
invariant-loop-site l = class_of_site (drop l.site-index l.sites) l.at ≡ class_of_site l.sites l.at
