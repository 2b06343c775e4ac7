-- The sites of a flat code increase by point, and each is made by an instruction of a method that stands there.
use Rattle.std.proofs.Common.{◌≡◌, ◌+◌, ◌≤◌, ◌<◌, ℕ, zero, suc, List, [], ◌∷◌, ◌++◌, slice_get, Option, Some, None, refl, sym, ap, subst, arith, inl, inr}
use Rattle.std.proofs.lemmas.Option.{none-some, same_Some}
use Rattle.class_model.specs.declared.class_file.MethodAt.{MethodAt}
use Rattle.class_model.specs.declared.frame.Frame.{Frame}
use Rattle.class_model.specs.declared.instr.Placed.{Placed}
use Rattle.class_tree.specs.Headers.{Headers, Name}
use Rattle.expanded_code.specs.Expanded.{callee_of, expanded, own_points, points_before, points_of, points_of_callee, sites_from}
use Rattle.expanded_code.specs.Expansions.{Coded, Expansion, no_more, replaced, site, stays}
use Rattle.expanded_runs.proofs.Runs.PositionLaws.{Fits, fits_none, fits_replaced, fits_site, fits_stays}
use Rattle.expanded_runs.proofs.Runs.Positions.{IsReplacedAt, Standing, becomes, host_standing, inner_standing, instrs_of, makes_site, start_of}
use Rattle.expanded_runs.proofs.Runs.Standings.{IsStanding, callee_stands, host_stands}
use Rattle.expanded_runs.proofs.Types.FlatParts.{IsTail, first_becomes, first_is, next_number, next_tail, replaced_there, slice_either, whole_tail}
use Rattle.expanded_runs.proofs.Types.InstrStarts.{own_least}
use Rattle.flow_code.specs.declared.point.Site.{Site}
use Rattle.member_link.specs.FieldConstructors.{field_types}
use Rattle.member_link.specs.Scope.{Scope, instructions}

-- ---- they increase

-- each stands behind the one before it, between two numbers
abbrev pub AreBetween : ℕ → ℕ → List Site → Type 0
AreBetween least most [] = least ≤ most
AreBetween least most (one ∷ others) = (least ≤ one.at) × AreBetween (suc one.at) most others

from_less : (less least most : ℕ) (sites : List Site) → less ≤ least → AreBetween least most sites → AreBetween less most sites
from_less less least most [] below are = omega (arith, below, are)
from_less less least most (one ∷ others) below are = (omega (arith, below, are.0), are.1)

joined : (least middle most : ℕ) (ones others : List Site) → AreBetween least middle ones → AreBetween middle most others
    → AreBetween least most (ones ++ others)
joined least middle most [] others are are_also = from_less least middle most others are are_also
joined least middle most (one ∷ ones) others are are_also = (are.0, joined (suc one.at) middle most ones others are.1 are_also)

to_more : (least most more : ℕ) (sites : List Site) → most ≤ more → AreBetween least most sites → AreBetween least more sites
to_more least most more [] below are = omega (arith, below, are)
to_more least most more (one ∷ others) below are = (are.0, to_more (suc one.at) most more others below are.1)

module _ (headers : Headers) where
  sites_between : (callee : Option Scope) (number : ℕ) (instrs : List Placed) (e : Expansion)
      → AreBetween number (number + points_of callee instrs e) (sites_from headers callee number instrs e)
  sites_between callee number [] e = omega arith
  sites_between callee number (placed ∷ instrs) no_more = omega arith
  sites_between callee number (placed ∷ instrs) (stays more) =
      let next = number + own_points callee placed.instr in
      from_less number next _ (sites_from headers callee next instrs more) (omega arith)
      (to_more next (next + points_of callee instrs more) _ (sites_from headers callee next instrs more) (omega arith)
      (sites_between callee next instrs more))
  sites_between callee number (placed ∷ instrs) (site class more) =
      let next = number + own_points callee placed.instr in
      let some = own_least callee placed.instr in (
        omega arith,
        from_less (suc number) next _ (sites_from headers callee next instrs more) (omega (arith, some))
            (to_more next (next + points_of callee instrs more) _ (sites_from headers callee next instrs more) (omega arith)
            (sites_between callee next instrs more)),
      )
  sites_between callee number (placed ∷ instrs) (replaced g inner more) =
      let first = number + points_before g.scope in
      let next = number + points_of_callee g inner in
      let own = sites_from headers (Some g.scope) first (instructions g.scope) inner in
      let others = sites_from headers callee next instrs more in
      joined number next _ own others
      (from_less number first next own (omega arith)
      (to_more first (first + points_of (Some g.scope) (instructions g.scope) inner) next own (omega arith)
      (sites_between (Some g.scope) first (instructions g.scope) inner)))
      (to_more next (next + points_of callee instrs more) _ others (omega arith) (sites_between callee next instrs more))

one_before : (least most : ℕ) (sites : List Site) → AreBetween least most sites → (n : ℕ) (one next : Site)
    → slice_get sites n ≡ Some one
    → slice_get sites (n + 1) ≡ Some next
    → one.at < next.at
one_before least most [] are n one next is is_next = absurd (none-some one is)
one_before least most (first ∷ []) are zero one next is is_next = absurd (none-some next is_next)
one_before least most (first ∷ second ∷ others) are zero one next is is_next =
    let a = ap (λ (s : Site). s.at) (same_Some first one is) in
    let b = ap (λ (s : Site). s.at) (same_Some second next is_next) in
    omega (arith, are.1.0, a, b)
one_before least most (first ∷ others) are (suc n) one next is is_next =
    let place : suc n + 1 ≡ suc (n + 1) = omega arith in
    one_before (suc first.at) most others are.1 n one next is
    (subst (λ (k : ℕ). slice_get (first ∷ others) k ≡ Some next) place is_next)

pub sites_increase : (host : Coded) (e : Expansion) (n : ℕ) (one next : Site)
    → slice_get (expanded host e).sites n ≡ Some one
    → slice_get (expanded host e).sites (n + 1) ≡ Some next
    → one.at < next.at
sites_increase host e n one next is is_next =
    one_before 0 _ (expanded host e).sites (sites_between host.scope.headers None 0 (instructions host.scope) e) n one next is is_next

-- ---- each is made

-- a site, by the instruction that makes it
pub record SiteMade (host : Coded) (e : Expansion) (one : Site) : Type 0 where
  pub chain : List MethodAt
  pub p : Standing
  pub standing : IsStanding host e chain p
  pub k : ℕ
  pub placed : Placed
  pub is : slice_get (instrs_of p) k ≡ Some placed
  pub class : Name
  pub makes : becomes p.expansion k ≡ makes_site class
  pub same : one ≡ record { at = start_of p k; class = class; fields = field_types host.scope.headers class }

module _ (host : Coded) (e : Expansion) where
  abbrev headers : Headers
  headers = host.scope.headers

  made_from : (chain : List MethodAt) (p : Standing) → IsStanding host e chain p → (done : ℕ) {instrs : List Placed} {frames : List Frame}
      {x : Expansion}
      → Fits instrs frames x
      → IsTail p done instrs frames x
      → (n : ℕ) (one : Site)
      → slice_get (sites_from headers (callee_of p.setting) (start_of p done) instrs x) n ≡ Some one
      → SiteMade host e one
  made_from chain p standing done fits_none tail n one is = absurd cc
  made_from chain p standing done (fits_stays {instrs = instrs} {frames = frames} {more = more} placed frame fits) tail n one is =
      let step : (k : ℕ) → becomes (stays more) (suc k) ≡ becomes more k = λ k. refl in
      made_from chain p standing (suc done) fits (next_tail p done placed frame instrs frames (stays more) more tail step) n one
      (subst (λ (m : ℕ). slice_get (sites_from headers (callee_of p.setting) m instrs more) n ≡ Some one)
      (sym (next_number p done placed frame instrs frames (stays more) more tail step)) is)
  made_from chain p standing done (fits_site {instrs = instrs} {frames = frames} {more = more} placed frame class fits) tail zero one is =
      let step : (k : ℕ) → becomes (site class more) (suc k) ≡ becomes more k = λ k. refl in
      record {
        chain = chain;
        p = p;
        standing = standing;
        k = done;
        placed = placed;
        is = first_is p done placed frame instrs frames (site class more) more tail step;
        class = class;
        makes = first_becomes p done placed frame instrs frames (site class more) more tail step;
        same = sym (same_Some _ one is);
      }
  made_from chain p standing done (fits_site {instrs = instrs} {frames = frames} {more = more} placed frame class fits) tail (suc n) one is =
      let step : (k : ℕ) → becomes (site class more) (suc k) ≡ becomes more k = λ k. refl in
      made_from chain p standing (suc done) fits (next_tail p done placed frame instrs frames (site class more) more tail step) n one
      (subst (λ (m : ℕ). slice_get (sites_from headers (callee_of p.setting) m instrs more) n ≡ Some one)
      (sym (next_number p done placed frame instrs frames (site class more) more tail step)) is)
  made_from chain p standing done (fits_replaced {instrs = instrs} {frames = frames} {inner = inner} {more = more} placed frame g start starts within fits) tail n
      one is
      =
      let step : (k : ℕ) → becomes (replaced g inner more) (suc k) ≡ becomes more k = λ k. refl in
      let here : IsReplacedAt p done placed frame g inner = replaced_there p done placed frame instrs frames g inner more tail in
      let first = start_of p done + points_before g.scope in
      let own = sites_from headers (Some g.scope) first (instructions g.scope) inner in
      let rest = sites_from headers (callee_of p.setting) (start_of p done + points_of_callee g inner) instrs more in
      elim (slice_either own rest n one is) [
        | inl front ↦
            made_from (g.at ∷ chain) (inner_standing p done placed frame g inner) (callee_stands done placed frame g inner standing here) 0 within
            (whole_tail (inner_standing p done placed frame g inner)) n one front
        | inr back ↦
            made_from chain p standing (suc done) fits
            (next_tail p done placed frame instrs frames (replaced g inner more) more tail step) back.behind one
            (subst (λ (m : ℕ). slice_get (sites_from headers (callee_of p.setting) m instrs more) back.behind ≡ Some one)
            (sym (next_number p done placed frame instrs frames (replaced g inner more) more tail step)) back.there)
      ]

  pub site_made : Fits (instructions host.scope) host.frames e → (n : ℕ) (one : Site)
      → slice_get (expanded host e).sites n ≡ Some one
      → SiteMade host e one
  site_made fits n one is =
      made_from [] (host_standing host e) host_stands 0 fits (whole_tail (host_standing host e)) n one is
