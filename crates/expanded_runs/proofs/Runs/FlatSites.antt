-- The sites of a flat code: those that the methods that stand in it make, each of a candidate class.
use Rattle.std.proofs.Common.{◌≡◌, ◌+◌, ◌++◌, ◌⊎◌, ℕ, zero, suc, List, [], ◌∷◌, slice_get, Option, Some, None, refl, sym, ap, subst, inl, inr}
use Rattle.std.proofs.lemmas.Option.{none-some, same_Some}
use Rattle.class_model.specs.declared.class_file.MethodAt.{MethodAt}
use Rattle.class_model.specs.declared.instr.Placed.{Placed}
use Rattle.class_tree.specs.Headers.{Classes, Headers, Name}
use Rattle.expanded_code.specs.Candidates.{IsCandidate}
use Rattle.expanded_code.specs.Expanded.{callee_of, expanded, own_points, points_before, points_of_callee, sites_from}
use Rattle.expanded_code.specs.Expansions.{Coded, Expands, Expansion, expands_none, expands_replaced, expands_site, expands_stays, no_more, replaced, site, stays}
use Rattle.expanded_code.specs.Sites.{IsReplaced, IsSite}
use Rattle.expanded_runs.proofs.Runs.Positions.{Becomes, Standing, becomes, instrs_of, is_replaced, makes_site, start_from}
use Rattle.expanded_runs.proofs.Runs.StandingLaws.{BecomesAs, it_is_replaced, it_makes_site, it_remains}
use Rattle.expanded_runs.proofs.Runs.Standings.{IsStanding, callee_stands, host_stands}
use Rattle.flow_code.specs.TypedFrames.{FolderFrames}
use Rattle.flow_code.specs.declared.point.Site.{Site}
use Rattle.member_link.specs.Scope.{Scope, instructions}

-- ---- sites of a class

abbrev pub HasSite : Name → List Site → Type 0
HasSite class [] = ⊥
HasSite class (one ∷ sites) = (one.class ≡ class) ⊎ HasSite class sites

site_in_front : (class : Name) (ones others : List Site) → HasSite class ones → HasSite class (ones ++ others)
site_in_front class [] others has = absurd has
site_in_front class (one ∷ ones) others (inl here) = inl here
site_in_front class (one ∷ ones) others (inr later) = inr (site_in_front class ones others later)

site_behind : (class : Name) (ones others : List Site) → HasSite class others → HasSite class (ones ++ others)
site_behind class [] others has = has
site_behind class (one ∷ ones) others has = inr (site_behind class ones others has)

site_of_either : (class : Name) (ones others : List Site) → HasSite class (ones ++ others) → HasSite class ones ⊎ HasSite class others
site_of_either class [] others has = inr has
site_of_either class (one ∷ ones) others (inl here) = inl (inl here)
site_of_either class (one ∷ ones) others (inr later) = elim (site_of_either class ones others later) [
  | inl front ↦ inl (inr front)
  | inr back ↦ inr back
]

-- by its number
pub record SiteAt (class : Name) (sites : List Site) : Type 0 where
  pub of : ℕ
  pub there : Site
  pub is : slice_get sites of ≡ Some there
  pub of_class : there.class ≡ class

pub site_at : (class : Name) (sites : List Site) → HasSite class sites → SiteAt class sites
site_at class [] has = absurd has
site_at class (one ∷ sites) (inl here) = record { of = zero; there = one; is = refl; of_class = here }
site_at class (one ∷ sites) (inr later) =
    let rest = site_at class sites later in
    record { of = suc rest.of; there = rest.there; is = rest.is; of_class = rest.of_class }

pub has_site : (sites : List Site) (of : ℕ) (there : Site) → slice_get sites of ≡ Some there → HasSite there.class sites
has_site [] of there is = absurd (none-some there is)
has_site (one ∷ sites) zero there is = inl (ap (λ (s : Site). s.class) (same_Some one there is))
has_site (one ∷ sites) (suc of) there is = inr (has_site sites of there is)

-- ---- sites of a method and of those in it

module _ (headers : Headers) (callee : Option Scope) (class : Name) where
  -- an instruction that makes one
  site_made : (k number : ℕ) (instrs : List Placed) (e : Expansion) (placed : Placed)
      → slice_get instrs k ≡ Some placed
      → becomes e k ≡ makes_site class
      → HasSite class (sites_from headers callee number instrs e)
  site_made k number [] e placed is makes = absurd (none-some placed is)
  site_made zero number (first ∷ instrs) no_more placed is makes = absurd cc
  site_made zero number (first ∷ instrs) (stays more) placed is makes = absurd cc
  site_made zero number (first ∷ instrs) (site made more) placed is makes = inl cc
  site_made zero number (first ∷ instrs) (replaced g inner more) placed is makes = absurd cc
  site_made (suc k) number (first ∷ instrs) no_more placed is makes = absurd cc
  site_made (suc k) number (first ∷ instrs) (stays more) placed is makes =
      site_made k (number + own_points callee first.instr) instrs more placed is makes
  site_made (suc k) number (first ∷ instrs) (site made more) placed is makes =
      inr (site_made k (number + own_points callee first.instr) instrs more placed is makes)
  site_made (suc k) number (first ∷ instrs) (replaced g inner more) placed is makes =
      site_behind class
      (sites_from headers (Some g.scope) (number + points_before g.scope) (instructions g.scope) inner)
      (sites_from headers callee (number + points_of_callee g inner) instrs more)
      (site_made k (number + points_of_callee g inner) instrs more placed is makes)

  -- a site of a callee
  site_within : (k number : ℕ) (instrs : List Placed) (e : Expansion) (placed : Placed) (g : Coded) (inner : Expansion)
      → slice_get instrs k ≡ Some placed
      → becomes e k ≡ is_replaced g inner
      → HasSite class
      (sites_from headers (Some g.scope) (start_from callee number instrs e k + points_before g.scope) (instructions g.scope) inner)
      → HasSite class (sites_from headers callee number instrs e)
  site_within k number [] e placed g inner is by_callee has = absurd (none-some placed is)
  site_within zero number (first ∷ instrs) no_more placed g inner is by_callee has = absurd cc
  site_within zero number (first ∷ instrs) (stays more) placed g inner is by_callee has = absurd cc
  site_within zero number (first ∷ instrs) (site made more) placed g inner is by_callee has = absurd cc
  site_within zero number (first ∷ instrs) (replaced h own more) placed g inner is by_callee has =
      site_in_front class
      (sites_from headers (Some h.scope) (number + points_before h.scope) (instructions h.scope) own)
      (sites_from headers callee (number + points_of_callee h own) instrs more)
      (subst (λ (b : Becomes). HasSite class (sites_of_callee number b)) (sym by_callee) has)
    where
      sites_of_callee : ℕ → Becomes → List Site
      sites_of_callee number (is_replaced g inner) =
          sites_from headers (Some g.scope) (number + points_before g.scope) (instructions g.scope) inner
      sites_of_callee number other = []
  site_within (suc k) number (first ∷ instrs) no_more placed g inner is by_callee has = absurd cc
  site_within (suc k) number (first ∷ instrs) (stays more) placed g inner is by_callee has =
      site_within k (number + own_points callee first.instr) instrs more placed g inner is by_callee has
  site_within (suc k) number (first ∷ instrs) (site made more) placed g inner is by_callee has =
      inr (site_within k (number + own_points callee first.instr) instrs more placed g inner is by_callee has)
  site_within (suc k) number (first ∷ instrs) (replaced h own more) placed g inner is by_callee has =
      site_behind class
      (sites_from headers (Some h.scope) (number + points_before h.scope) (instructions h.scope) own)
      (sites_from headers callee (number + points_of_callee h own) instrs more)
      (site_within k (number + points_of_callee h own) instrs more placed g inner is by_callee has)

-- the sites of a method that stands in flat code are some of the flat code's
module _ (host : Coded) (e : Expansion) (class : Name) where
  abbrev sites_of : Standing → List Site
  sites_of p = sites_from host.scope.headers (callee_of p.setting) p.first (instrs_of p) p.expansion

  sites_within : {chain : List MethodAt} {p : Standing} → IsStanding host e chain p → HasSite class (sites_of p)
      → HasSite class (expanded host e).sites
  sites_within host_stands has = has
  sites_within (callee_stands {p = p} k placed frame g inner below at) has =
      sites_within below
      (site_within host.scope.headers (callee_of p.setting) class k p.first (instrs_of p) p.expansion placed g inner at.is at.becomes has)

  pub site_stands : {chain : List MethodAt} {p : Standing} → IsStanding host e chain p → (k : ℕ) (placed : Placed)
      → slice_get (instrs_of p) k ≡ Some placed
      → becomes p.expansion k ≡ makes_site class
      → HasSite class (expanded host e).sites
  site_stands {p = p} standing k placed is makes =
      sites_within standing (site_made host.scope.headers (callee_of p.setting) class k p.first (instrs_of p) p.expansion placed is makes)

-- ---- each is of a candidate class

module _ (classes : Classes) (typed : FolderFrames) (host : MethodAt) (headers : Headers) (class : Name) where
  each_candidate : (chain : List MethodAt) (from : MethodAt) (instrs : List Placed) (e : Expansion)
      → Expands classes typed host chain from instrs e
      → (callee : Option Scope) (number : ℕ)
      → HasSite class (sites_from headers callee number instrs e)
      → IsCandidate classes class
  each_candidate _ _ _ _ (expands_none chain from) callee number has = absurd has
  each_candidate _ _ _ _ (expands_stays chain from placed instrs more not none next) callee number has =
      each_candidate chain from instrs more next callee (number + own_points callee placed.instr) has
  each_candidate _ _ _ _ (expands_site chain from placed instrs made more is next) callee number (inl here) =
      subst (IsCandidate classes) here is.candidate
  each_candidate _ _ _ _ (expands_site chain from placed instrs made more is next) callee number (inr later) =
      each_candidate chain from instrs more next callee (number + own_points callee placed.instr) later
  each_candidate _ _ _ _ (expands_replaced chain from placed instrs g inner more is frames within next) callee number has =
      elim (site_of_either class
      (sites_from headers (Some g.scope) (number + points_before g.scope) (instructions g.scope) inner)
      (sites_from headers callee (number + points_of_callee g inner) instrs more)
      has) [
        | inl front ↦ each_candidate (g.at ∷ chain) g.at (instructions g.scope) inner within (Some g.scope) (number + points_before g.scope) front
        | inr back ↦ each_candidate chain from instrs more next callee (number + points_of_callee g inner) back
      ]

pub site_is_candidate : (classes : Classes) (typed : FolderFrames) (host : Coded) (e : Expansion) (class : Name)
    → Expands classes typed host.at [] host.at (instructions host.scope) e
    → HasSite class (expanded host e).sites
    → IsCandidate classes class
site_is_candidate classes typed host e class expands has =
    each_candidate classes typed host.at host.scope.headers class [] host.at (instructions host.scope) e expands None 0 has

-- ---- a new that is a site becomes one

module _ {classes : Classes} {typed : FolderFrames} {host : MethodAt} {chain : List MethodAt} {from : MethodAt} where
  -- what becomes of it where each site there is of this class, and no call is replaced
  pub becomes_site : {at : ℕ} {b : Becomes} (class : Name)
      → BecomesAs classes typed host chain from at b
      → IsSite classes typed host chain from at class
      → ((callee : MethodAt) → ¬ IsReplaced classes typed host chain from at callee)
      → ((other : Name) → IsSite classes typed host chain from at other → other ≡ class)
      → b ≡ makes_site class
  becomes_site class (it_remains no_call no_site) is no_replaced one = absurd (no_site class is)
  becomes_site class (it_makes_site {class = other} makes) is no_replaced one = ap makes_site (one other makes)
  becomes_site class (it_is_replaced {g = g} call has within) is no_replaced one = absurd (no_replaced g.at call)
