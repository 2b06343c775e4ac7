use Rattle.std.proofs.Common.{◌≡◌, ◌<◌, ℕ, false, bytes_eq, length, slice_get, List, Some, is_some, refl, sym, ap, subst, ◌∙◌, arith}
use Rattle.std.specs.List.{list_any}
use Rattle.std.specs.Option.{option_copied}
use borrow.Author.Count.{below_more}
use Rattle.std.proofs.lemmas.Bool.{false≢true}
use Rattle.std.proofs.lemmas.Option.{same_Some, slice_get_read, slice_get_within}
use Rattle.class_model.specs.declared.header.Header.{Header}
use Rattle.class_tree.specs.Headers.{headers_of}
use Rattle.class_tree.specs.Layouts.{chain}
use Rattle.class_tree.specs.declared.place.Place.TheVariants.{Folder}
use Rattle.flow_code.specs.declared.point.Site.{Site}
use Rattle.written_runs.specs.Laws.FolderFacts.{not_object}
use Rattle.class_rewrite.proofs.used_fields.is_of_site.Goals as goal

pub is_on_chain-requires-clause-there : goal.is_on_chain-requires-clause-there
is_on_chain-requires-clause-there c =
    let there = sym c.header.ensures ∙ ap option_copied c.in-Some.is in
    ap is_some (c.a_tree_is_a_hierarchy.ensures.of_place (Folder c.args.class) c.in-Some.header.now there).found

pub is_on_chain-requires-clause-other : goal.is_on_chain-requires-clause-other
is_on_chain-requires-clause-other c =
    not_object c.args.tree.now c.folder-folder.ensures.tree c.args.class c.in-Some.header.now (sym c.header.ensures ∙ ap option_copied c.in-Some.is)

pub returns-then-branch : goal.returns-then-branch
returns-then-branch c =
    let items = c.as_slice-site-items.result.now in
    let read = slice_get_read items (length items) c.loop-site.site-index c.site-item.result refl c.loop-site-test.true c.site-item.is in (
      λ is. record {
        header = c.in-Some.header.now;
        of_folder = sym c.header.ensures ∙ ap option_copied c.in-Some.is;
        of = c.loop-site.site-index;
        site = c.site-item.result;
        is_site = ap (λ (sites : List Site). slice_get sites c.loop-site.site-index) (sym (c.as_slice-site-items.ensures ∙ c.sites.ensures)) ∙ read;
        of_chain = sym c.in_ok-is_on_chain.ensures ∙ c.if-branch.true;
      },
      λ is. refl,
    )

pub loop-site-preserved : goal.loop-site-preserved
loop-site-preserved c =
    let items = c.as_slice-site-items.result.now in
    let here = c.loop-site.site-index in
    let read = slice_get_read items (length items) here c.site-item.result refl c.loop-site-test.true c.site-item.is in
    let is_site = ap (λ (sites : List Site). slice_get sites here) (sym (c.as_slice-site-items.ensures ∙ c.sites.ensures)) ∙ read in
    let not_here : list_any (bytes_eq c.in-Some.header.now.name) (chain (headers_of c.args.tree.now) c.site-item.result.class) ≡ false =
    sym c.in_ok-is_on_chain.ensures ∙ c.if-branch.false in
    below_more
    (λ (of : ℕ). (site : Site) → slice_get c.args.flat.now.sites of ≡ Some site
    → list_any (bytes_eq c.in-Some.header.now.name) (chain (headers_of c.args.tree.now) site.class) ≡ false)
    here c.loop-site.invariant
    (λ site is.
    subst (λ (s : Site). list_any (bytes_eq c.in-Some.header.now.name) (chain (headers_of c.args.tree.now) s.class) ≡ false)
    (same_Some c.site-item.result site (sym is_site ∙ is)) not_here)

pub returns : goal.returns
returns c = (
  λ is. absurd (false≢true is),
  λ found.
      let header : found.header ≡ c.in-Some.header.now =
      same_Some found.header c.in-Some.header.now (sym found.of_folder ∙ sym c.header.ensures ∙ ap option_copied c.in-Some.is) in
      let within : found.of < length c.args.flat.now.sites = slice_get_within c.args.flat.now.sites found.of found.site found.is_site in
      let same = ap (λ (sites : List Site). length sites) (c.as_slice-site-items.ensures ∙ c.sites.ensures) in
      let not_there = c.loop-site.invariant found.of (omega (arith, within, same, c.loop-site-test.false)) found.site found.is_site in
      absurd (false≢true (sym not_there
      ∙ ap (λ (h : Header). list_any (bytes_eq h.name) (chain (headers_of c.args.tree.now) found.site.class)) (sym header)
      ∙ found.of_chain)),
)
