use Rattle.std.proofs.Common.{◌≡◌, take}
use Rattle.class_tree.specs.Headers.{headers_of}
use Rattle.inline_expand.specs.Inner.SiteNumbers.{sites_by}
use Rattle.inline_expand.proofs.expanded.fields.with_fields.Given as goal

abbrev pub invariant-loop-new : goal.invariant-loop-new
invariant-loop-new l = (l.candidates ≡ l.fn.candidates) × (l.sites.items ≡ sites_by (headers_of l.tree) (take l.new-index l.news))
