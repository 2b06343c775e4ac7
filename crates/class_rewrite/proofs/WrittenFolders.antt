-- The folder that is written, as the theorem on runs takes it: the flat codes of the methods that are rewritten, ready and with valid plans, and
-- field constructors in the classes of candidates' chains alone.
use Rattle.std.proofs.Common.{◌≡◌, ◌+◌, ◌==◌, ℕ, zero, suc, Bool, true, false, List, [], ◌∷◌, slice_get, Option, Some, None, option_map, refl, sym, ap, subst, ◌∙◌, arith}
use Rattle.std.specs.List.{AllByRecursion}
use Rattle.std.proofs.lemmas.Bool.Decides.{Decides-eqb}
use Rattle.std.proofs.lemmas.Option.{none-some, same_Some}
use Rattle.class_model.specs.Header.{header_of}
use Rattle.class_model.specs.declared.class_file.ClassFile.{ClassFile}
use Rattle.class_model.specs.declared.class_file.MethodAt.{MethodAt}
use Rattle.class_rewrite.proofs.WrittenInstrs.{IsSiteClass, MakesSite, made_of_sites}
use Rattle.class_model.specs.Pool.{Constants}
use Rattle.class_model.specs.declared.class_file.Method.{Method}
use Rattle.class_rewrite.specs.Inner.ReadyFolders.{IsReadyHost, flats_written}
use Rattle.class_rewrite.specs.Rewriting.Folders.{AddsMethods, AreClassesWritten, IsClassWritten, IsFolderWritten, IsMade, adds_none, adds_one}
use Rattle.class_rewrite.specs.Rewriting.Methods.{Rewriting}
use Rattle.class_tree.specs.Headers.{Name}
use Rattle.expanded_code.specs.CandidateSites.{IsSite}
use Rattle.expanded_code.specs.Candidates.{IsCandidate}
use Rattle.expanded_code.specs.ExpandAnswers.{IsExpanded, IsNoHost, IsWide}
use Rattle.expanded_runs.specs.ExpandedPrograms.{AreExpanded}
use Rattle.flow_code.specs.FlatCode.{FlatCode}
use Rattle.flow_code.specs.ReadTypes.{class_of_site}
use Rattle.flow_code.specs.declared.point.Site.{Site}
use Rattle.member_link.specs.Machine.Programs.{RunMethod}
use Rattle.plan_flow.specs.Plans.{IsValid, Plan}
use Rattle.plan_flow.specs.Written.Routes.{IsRouted}
use Rattle.plan_flow.specs.Written.WrittenPrograms.{MakesClass, WrittenMethod, plan_scope}
use Rattle.same_runs.specs.Flats.{class_of_flat_new}
use Rattle.typed_flats.specs.FlatTypings.{SitesAreNews}
use Rattle.written_runs.specs.WrittenRuns.{AreFlatsOf, IsReadyMethod}

-- ---- one method

-- what is known of a method that is rewritten
pub record IsRewrittenHost (r : Rewriting) (at : MethodAt) (one : WrittenMethod) : Type 0 where
  pub host : ¬ IsNoHost r.classes at
  pub expanded : IsExpanded r.classes r.typed at one.flat
  pub narrow : ¬ IsWide one.flat
  pub plan : Plan
  pub valid : IsValid (plan_scope r.classes r.links one) plan
  pub routed : IsRouted (plan_scope r.classes r.links one) plan one.routes

pub site_of : (P : Site → Type 0) (sites : List Site) (number : ℕ) (site : Site) → AllByRecursion P sites → slice_get sites number ≡ Some site → P site
site_of P [] number site all is = absurd (none-some site is)
site_of P (first ∷ sites) zero site all is = subst P (same_Some first site is) all.0
site_of P (first ∷ sites) (suc number) site all is = site_of P sites number site all.1 is

-- the first site at a point is one of the sites
pub site_at_is : (P : Site → Type 0) (sites : List Site) (at : ℕ) (class : Name) → AllByRecursion P sites
    → class_of_site sites at ≡ Some class
    → (site : Site) × P site × (site.at ≡ at) × (site.class ≡ class)
site_at_is P [] at class all is = absurd (none-some class is)
site_at_is P (first ∷ sites) at class all is = by (first.at == at) refl is (λ behind. site_at_is P sites at class all.1 behind) where
  by : (b : Bool) → (first.at == at) ≡ b → class_of_site (first ∷ sites) at ≡ Some class
      → (class_of_site sites at ≡ Some class → (site : Site) × P site × (site.at ≡ at) × (site.class ≡ class))
      → (site : Site) × P site × (site.at ≡ at) × (site.class ≡ class)
  by true told is rest = (first, all.0, (Decides-eqb first.at at).0 told, same_Some first.class class (sym (rw (told) refl) ∙ is))
  by false told is rest = rest (sym (rw (told) refl) ∙ is)

module _ (r : Rewriting) (files : List ClassFile) (w : IsFolderWritten r files) where
  pub are_flats : AreFlatsOf w.written (flats_written r files w)
  are_flats = record { each = λ at. refl }

  pub rewritten_host : (at : MethodAt) (one : WrittenMethod) → w.written at ≡ Some one → IsRewrittenHost r at one
  rewritten_host at one is =
      let found = w.rewritten.each at one is in
      let planned = found.1.is.coded.planned in
      subst (IsRewrittenHost r at) found.2 (record {
        host = planned.flat.0.host;
        expanded = planned.flat.1;
        narrow = planned.flat.4;
        plan = found.0.plan;
        valid = planned.least.valid;
        routed = planned.routed;
      })

  -- a flat code is that of a method that is rewritten
  pub of_flat : (at : MethodAt) (flat : FlatCode) → flats_written r files w at ≡ Some flat
      → (one : WrittenMethod) × (w.written at ≡ Some one) × (one.flat ≡ flat)
  of_flat at flat = by (w.written at) refl where
    by : (found : Option WrittenMethod) → w.written at ≡ found → option_map (λ (one : WrittenMethod). one.flat) found ≡ Some flat
        → (one : WrittenMethod) × (w.written at ≡ Some one) × (one.flat ≡ flat)
    by None none is = absurd (none-some flat is)
    by (Some one) some is = (one, some, same_Some one.flat flat is)

  pub are_expanded : AreExpanded r.classes r.typed (flats_written r files w)
  are_expanded at flat is =
      let one = of_flat at flat is in
      let known = rewritten_host at one.0 one.1 in
      subst (λ (x : FlatCode). (¬ IsNoHost r.classes at) × IsExpanded r.classes r.typed at x) one.2 (known.host, known.expanded)

  pub ready_method : (at : MethodAt) (one : WrittenMethod) → w.written at ≡ Some one → IsReadyHost r at one
      → IsReadyMethod r.classes r.links at one
  ready_method at one is ready =
      let known = rewritten_host at one is in
      record {
        host = ap (λ (x : FlatCode). x.host) known.expanded.is ∙ known.expanded.own;
        scope = ready.scope;
        is_scope = ready.is_scope;
        code = ready.code;
        for_plans = ready.for_plans;
        sites = ready.sites;
        plan = known.plan;
        valid = known.valid;
        routed = known.routed;
      }

  module _ (ready : (at : MethodAt) (one : WrittenMethod) → w.written at ≡ Some one → IsReadyHost r at one) where
    -- what written code makes is of a candidate class
    pub made_is_candidate : (class : Name) → MakesClass r.classes r.links w.written class → IsCandidate r.classes class
    made_is_candidate class made =
        let scope = plan_scope r.classes r.links made.one in
        let one : IsSiteClass made.one.flat class =
        subst (MakesSite made.one.flat) made.makes_it (made_of_sites scope made.one.form made.one.routes made.number made.item made.is_item) in
        subst (IsCandidate r.classes) one.named
        (site_of (IsSite r.classes made.one.flat) made.one.flat.sites one.number one.site (ready made.at made.one made.is_written).sites.sites one.is_site).candidate

    -- ---- at each site stands a new of its class

    pub sites_are_news : (at : MethodAt) (one : WrittenMethod) → w.written at ≡ Some one → SitesAreNews r.classes one.flat
    sites_are_news at one is place class found =
        let sites = (ready at one is).sites.sites in
        let site = site_at_is (IsSite r.classes one.flat) one.flat.sites place class sites found in
        news site.0 site.1 site.2 ∙ ap Some site.3 where
          news : (site : Site) → IsSite r.classes one.flat site → site.at ≡ place → class_of_flat_new r.classes one.flat place ≡ Some site.class
          news site s same = subst (λ (n : ℕ). class_of_flat_new r.classes one.flat n ≡ Some site.class) same
              (rw (s.there, s.is_new, s.of_class) s.named)

    -- ---- field constructors

    -- a class is written at its number
    written_at : (first : ℕ) (olds news : List ClassFile) (number : ℕ) (file : ClassFile) → AreClassesWritten r w.written w.s first olds news
        → slice_get olds number ≡ Some file
        → (at : ℕ) × (also : ClassFile) × (at ≡ first + number) × IsClassWritten r w.written w.s at file also
    written_at first [] [] number file all is = absurd (none-some file is)
    written_at first [] (also ∷ news) number file all is = absurd all
    written_at first (old ∷ olds) [] number file all is = absurd all
    written_at first (old ∷ olds) (also ∷ news) zero file all is =
        (first, also, omega arith, subst (λ (x : ClassFile). IsClassWritten r w.written w.s first x also) (same_Some old file is) all.0)
    written_at first (old ∷ olds) (also ∷ news) (suc number) file all is =
        let rest = written_at (suc first) olds news number file all.1 is in
        (rest.0, rest.1, rest.2 ∙ omega arith, rest.3)

    -- to a class whose chain's objects are not made nothing is added
    pub added_is_made : (number : ℕ) (file : ClassFile) (method : RunMethod) → slice_get r.classes.folder number ≡ Some file
        → w.s.added number ≡ method ∷ []
        → IsMade r w.written (header_of file).name
    added_is_made number file method is added = by (written_at zero r.classes.folder files number file w.classes is).3.adds where
      by : {pool grown : Constants} {methods : List Method} → AddsMethods r w.written file pool grown methods → IsMade r w.written (header_of file).name
      by (adds_none none) = absurd (nothing (sym (w.no_more number file is none) ∙ added)) where
        nothing : [] ≡ method ∷ [] → ⊥
        nothing e = cc e
      by (adds_one made grows is_method) = made
