use Rattle.std.proofs.Common.{◌≡◌, ◌<◌, ℕ, false, bytes_eq, slice_get, Some}
use Rattle.std.specs.List.{list_any}
use Rattle.class_tree.specs.Headers.{headers_of}
use Rattle.class_tree.specs.Layouts.{chain}
use Rattle.flow_code.specs.declared.point.Site.{Site}
use Rattle.class_rewrite.proofs.used_fields.is_of_site.Given as goal

abbrev pub invariant-loop-site : goal.invariant-loop-site
invariant-loop-site l =
    (of : ℕ)
    → of < l.site-index
    → (site : Site)
    → slice_get l.flat.sites of ≡ Some site
    → list_any (bytes_eq l.header.name) (chain (headers_of l.tree) site.class) ≡ false
