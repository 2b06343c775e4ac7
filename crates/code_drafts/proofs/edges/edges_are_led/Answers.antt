use Rattle.std.proofs.Common.{subst}
use Rattle.class_tree.specs.Headers.{headers_of}
use Rattle.code_drafts.specs.Laws.LedRoutes.{edges_led}
use Rattle.code_drafts.proofs.edges.edges_are_led.Goals as goal
use Rattle.code_drafts.specs.Emits.{Writing}
use Rattle.member_link.specs.Machine.Links.{AreLinksOf}

pub returns : goal.returns
returns c =
    let links = c.a_tree_has_links.ensures in
    let are = subst (λ (w : Writing). AreLinksOf (headers_of w.classes) links.0) c.setting.view_is links.1 in
    edges_led c.args.setting.now c.requires.can links.0 are c.args.at c.args.edges.now c.requires.edges
