-- The sites of an expanded flat code are of candidate classes, and where it stores into a final field of a candidate's chain it has a site of a
-- class whose chain has the field's class: the store stands in an initialiser of that class, which stands in place of a call on a site's object.
use Rattle.std.proofs.Common.{◌≡◌, ℕ, suc, List, [], ◌∷◌, bytes_eq, slice_get, Some, IsTrue, refl, sym, ap, subst, ◌∙◌, inl, inr}
use Rattle.std.specs.List.{AllByRecursion, list_any}
use Rattle.std.proofs.lemmas.Option.{same_Some}
use Rattle.class_model.specs.Laws.Lists.{at_index}
use Rattle.class_model.specs.Pool.{constant_at}
use Rattle.class_model.specs.declared.class_file.ClassFile.{ClassFile}
use Rattle.class_model.specs.declared.class_file.MethodAt.{MethodAt}
use Rattle.class_model.specs.declared.instr.Instr.{Instr}
use Rattle.class_model.specs.declared.instr.Instr.TheVariants.{PutField}
use Rattle.class_model.specs.declared.instr.Placed.{Placed}
use Rattle.class_tree.specs.Headers.{Headers, Name, headers_of}
use Rattle.class_tree.specs.Layouts.{chain as chain_of}
use Rattle.expanded_code.specs.Alone.{number_in}
use Rattle.expanded_code.specs.Callees.{own_name}
use Rattle.expanded_code.specs.CandidateSites.{HasCandidateSites, StoresFinal, IsSite as IsFlatSite}
use Rattle.expanded_code.specs.Candidates.{IsCandidate, StoresInto}
use Rattle.expanded_code.specs.ExpandAnswers.{IsExpanded, IsNoHost, is_initialiser}
use Rattle.expanded_code.specs.Expanded.{Setting, class_of, expanded, set_frame, set_instr}
use Rattle.expanded_code.specs.Expansions.{Coded, Expands, Expansion}
use Rattle.expanded_code.specs.Sites.{HasFrames, IsSite}
use Rattle.expanded_runs.proofs.AloneProgram.{OneEach}
use Rattle.expanded_runs.proofs.Ready.FlatSites.{SiteMade, site_made, sites_increase}
use Rattle.expanded_runs.proofs.Ready.PointKinds.{OwnKind, entries_have, own_kind, own_returns, own_stays, returns_have}
use Rattle.expanded_runs.proofs.Runs.CalleeLaws.{site_makes}
use Rattle.expanded_runs.proofs.Runs.FlatSites.{site_at}
use Rattle.expanded_runs.proofs.Runs.LinkedInstrs.{EachInstrTyped}
use Rattle.expanded_runs.proofs.Runs.Positions.{Becomes, Standing, becomes, block_of, instrs_of, makes_site, scope_of, start_of}
use Rattle.expanded_runs.proofs.Runs.Setup.{IsSetup, Setup}
use Rattle.expanded_runs.proofs.Runs.SiteInitialisers.{initialiser_of_site, this_in_init}
use Rattle.expanded_runs.proofs.Runs.StandingLaws.{BecomesAs, becomes_as, it_makes_site, stands_so}
use Rattle.expanded_runs.proofs.Runs.Standings.{IsStanding, Stands, host_stands}
use Rattle.expanded_runs.proofs.Types.FlatParts.{Part, part_of}
use Rattle.expanded_runs.proofs.Types.OwnPoints.{TypingLaws, own_point, scope_headers}
use Rattle.expanded_runs.proofs.Types.StandingPlaces.{frame_there, new_at, new_point, number_of_instr}
use Rattle.flow_code.specs.FlatCode.{FlatCode}
use Rattle.flow_code.specs.declared.point.FlatInstr.{FlatInstr}
use Rattle.flow_code.specs.declared.point.FlatInstr.TheVariants.{Of}
use Rattle.flow_code.specs.declared.point.Point.{Point}
use Rattle.flow_code.specs.declared.point.Site.{Site}
use Rattle.member_link.specs.DeclaredMembers.{Declared}
use Rattle.member_link.specs.FieldConstructors.{field_types}
use Rattle.member_link.specs.Fields.{FindsField}
use Rattle.member_link.specs.Scope.{instructions, is_init}
use Rattle.member_link.specs.Signatures.{reference_of}
use Rattle.member_link.specs.Laws.Scopes.{scope_is_at}

-- ---- stores

put_set : (t : Setting) (instr : Instr) (index : ℕ) → set_instr t instr ≡ PutField index → instr ≡ PutField index
put_set t (PutField own) index is = is
put_set t instr index is = absurd cc

-- it is no store into an instance field
abbrev IsNoPut : FlatInstr → Type 0
IsNoPut instr = (class index : ℕ) → instr ≡ Of class (PutField index) → ⊥

all_have : {A : Type 0} {P : A → Type 0} → ((a : A) → P a) → (items : List A) → AllByRecursion P items
all_have each [] = tt
all_have each (item ∷ items) = (each item, all_have each items)

pub by_index : {A : Type 0} (P : A → Type 0) (items : List A) → ((n : ℕ) (item : A) → slice_get items n ≡ Some item → P item) → AllByRecursion P items
by_index P [] each = tt
by_index P (item ∷ items) each = (each 0 item refl, by_index P items (λ n. each (suc n)))

module _ (u : Setup) (is_setup : IsSetup u) (laws : TypingLaws) (one : OneEach) (each_instr : EachInstrTyped) (host : Coded) (e : Expansion)
    (has : HasFrames u.classes u.typed host.at host.scope host.frames)
    (expands : Expands u.classes u.typed host.at [] host.at (instructions host.scope) e) (no_host : ¬ IsNoHost u.classes host.at) where
  stands : (chain : List MethodAt) (p : Standing) → IsStanding host e chain p → Stands u.classes u.typed host e chain p
  stands chain p standing = stands_so laws.types_each one u.classes u.typed is_setup.types host e has expands standing

  no_init : ¬ IsTrue (is_init host.scope)
  no_init init = no_host (is_initialiser host.scope has.is_scope (inl init))

  -- ---- a site

  of_site : {chain : List MethodAt} {from : MethodAt} {at : ℕ} {class : Name} (b : Becomes)
      → BecomesAs u.classes u.typed host.at chain from at b
      → b ≡ makes_site class
      → IsSite u.classes u.typed host.at chain from at class
  of_site {chain} {from} {at} {class} _ (it_makes_site {class = made} makes) is =
      let same : made ≡ class = cc in
      subst (IsSite u.classes u.typed host.at chain from at) same makes
  of_site _ other is = absurd cc

  site_is : (site : Site) → SiteMade host e site → IsFlatSite u.classes (expanded host e) site
  site_is site m =
      let own = stands m.chain m.p m.standing in
      let s = scope_of m.p in
      let made = of_site (becomes m.p.expansion m.k)
      (becomes_as m.chain m.p.setting.coded.at (instrs_of m.p) m.p.expansion own.expands m.k m.placed m.is) m.makes in
      let new = new_at s m.placed.at m.class (site_makes u s own.has.is_scope made) in
      let number : new.number ≡ m.k =
      sym (number_of_instr laws host e stands host.scope has.is_scope m.standing new.number new.placed new.is)
      ∙ ap (number_in (instrs_of m.p)) new.offset
      ∙ number_of_instr laws host e stands host.scope has.is_scope m.standing m.k m.placed m.is in
      let frame = frame_there laws host e stands host.scope has.is_scope m.standing new.number new.placed new.is in
      let point = new_point laws host e stands host.scope has.is_scope m.standing new.number new.placed new.index frame.0 new.is new.instr frame.1 in
      let known = scope_is_at u.classes m.p.setting.coded.at s own.has.is_scope in
      let headers = scope_headers u.classes host.at host.scope has.is_scope in
      subst (IsFlatSite u.classes (expanded host e)) (sym m.same) (record {
        point = own_point m.p.setting new.placed frame.0;
        there =
            subst (λ (k : ℕ). slice_get (expanded host e).points (start_of m.p k) ≡ Some (own_point m.p.setting new.placed frame.0)) number point;
        class = class_of m.p.setting;
        index = new.index;
        is_new = ap (λ (i : Instr). Of (class_of m.p.setting) (set_instr m.p.setting i)) new.instr;
        file = s.class;
        of_class = known.of_folder;
        named = new.names;
        candidate = made.candidate;
        fields = ap (λ (h : Headers). field_types h m.class) headers;
      })

  -- ---- a store into a final field

  -- an instruction of a method that stands there
  record PutThere (class index : ℕ) : Type 0 where
    chain : List MethodAt
    p : Standing
    standing : IsStanding host e chain p
    k : ℕ
    placed : Placed
    is : slice_get (instrs_of p) k ≡ Some placed
    instr : placed.instr ≡ PutField index
    of_class : class_of p.setting ≡ class

  put_there : (number : ℕ) (point : Point) (class index : ℕ) → point.instr ≡ Of class (PutField index) → Part host e number point
      → PutThere class index
  put_there number point class index is (inl own) = by (own_kind own.p.setting own.placed own.frame own.behind point own.there) where
    by : OwnKind own.p.setting own.placed own.frame own.behind point → PutThere class index
    by (own_stays first stays same) =
        let instr : Of (class_of own.p.setting) (set_instr own.p.setting own.placed.instr) ≡ Of class (PutField index) =
        ap (λ (p : Point). p.instr) same ∙ is in
        record {
          chain = own.chain;
          p = own.p;
          standing = own.standing;
          k = own.k;
          placed = own.placed;
          is = own.is;
          instr = put_set own.p.setting own.placed.instr index (let i : set_instr own.p.setting own.placed.instr ≡ PutField index = cc in i);
          of_class = cc;
        }
    by (own_returns behind kind b i there) =
        absurd (at_index (λ (p : Point). IsNoPut p.instr) _ own.behind point
        (returns_have IsNoPut own.p.setting own.placed.at (set_frame own.p.setting own.frame) behind (record {
          byte = λ class index. λ no. cc;
          short = λ class index. λ no. cc;
          char = λ class index. λ no. cc;
          one = λ class index. λ no. cc;
          and = λ class index. λ no. cc;
        }) (λ class index. λ no. cc)) there class index is)
  put_there number point class index is (inr entry) =
      absurd (at_index (λ (p : Point). IsNoPut p.instr) _ entry.behind point
      (entries_have IsNoPut entry.p.setting entry.placed.at (set_frame entry.p.setting entry.frame) entry.g.scope (block_of entry.p entry.k)
      (all_have (λ a. λ class index. λ no. cc) _) (λ tests. λ class index. λ no. cc)) entry.there class index is)

  finals_there : (field : Declared) (candidate : Name) → StoresFinal u.classes (expanded host e) field → IsCandidate u.classes candidate
      → IsTrue (list_any (bytes_eq field.class) (chain_of (headers_of u.classes) candidate))
      → (of : ℕ) × (site : Site) × (slice_get (expanded host e).sites of ≡ Some site)
      × IsTrue (list_any (bytes_eq field.class) (chain_of (headers_of u.classes) site.class))
  finals_there field candidate st is_candidate of_chain =
      let put = put_there st.number st.point st.class st.index st.is_put
      (part_of host e (stands [] _ host_stands).fits st.number st.point st.there) in
      let own = stands put.chain put.p put.standing in
      let s = scope_of put.p in
      let known = scope_is_at u.classes put.p.setting.coded.at s own.has.is_scope in
      let file : st.file ≡ s.class =
      same_Some st.file s.class
      (sym st.of_class ∙ ap (slice_get u.classes.folder) (sym put.of_class) ∙ known.of_folder) in
      let into : StoresInto s put.placed.instr field = record {
        index = st.index;
        stores = put.instr;
        reference = st.reference;
        names = ap (λ (f : ClassFile). reference_of f.pool (constant_at f.pool st.index)) (sym file) ∙ st.names;
        finds =
            subst (λ (h : Headers). FindsField h st.reference.class st.reference.name st.reference.desc (Some field)) (sym known.headers) st.finds;
      } in
      let init = is_candidate.finals put.p.setting.coded.at s put.k put.placed field own.has.is_scope put.is into of_chain st.final in
      let found = initialiser_of_site u is_setup laws.types_each one host e has expands each_instr (this_in_init u.classes u.typed) no_init put.standing
      init.is_init in
      let site = site_at found.of (expanded host e).sites found.has in (
        site.of,
        site.there,
        site.is,
        subst (λ (class : Name). IsTrue (list_any (bytes_eq class) (chain_of (headers_of u.classes) site.there.class))) init.own
            (subst (λ (class : Name). IsTrue (list_any (bytes_eq (own_name s)) (chain_of (headers_of u.classes) class))) (sym site.of_class) found.of_chain),
      )

  pub expanded_sites : HasCandidateSites u.classes (expanded host e)
  expanded_sites = record {
    host = no_host;
    sites = by_index (IsFlatSite u.classes (expanded host e)) (expanded host e).sites (λ n site is.
        site_is site (site_made host e (stands [] _ host_stands).fits n site is));
    increase = sites_increase host e;
    finals = finals_there;
  }

-- Each expanded flat code has candidate sites.
pub has_candidate_sites : (u : Setup) → IsSetup u → TypingLaws → OneEach → EachInstrTyped → (at : MethodAt) (flat : FlatCode)
    → IsExpanded u.classes u.typed at flat
    → ¬ IsNoHost u.classes at
    → HasCandidateSites u.classes flat
has_candidate_sites u is_setup laws one each_instr at flat is no_host =
    subst (HasCandidateSites u.classes) (sym is.is)
    (expanded_sites u is_setup laws one each_instr is.host is.expansion
    (subst (λ (a : MethodAt). HasFrames u.classes u.typed a is.host.scope is.host.frames) (sym is.own) is.is_host)
    (subst (λ (a : MethodAt). Expands u.classes u.typed a [] a (instructions is.host.scope) is.expansion) (sym is.own) is.expands)
    (subst (λ (a : MethodAt). ¬ IsNoHost u.classes a) (sym is.own) no_host))
