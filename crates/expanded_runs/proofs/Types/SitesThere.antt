-- Which class the candidate site at the number of an instruction has: that which becomes of the instruction.
use Rattle.flow_code.specs.ReadTypes.{class_of_site}
use Rattle.std.proofs.Common.{◌≡◌, ◌==◌, ◌+◌, ◌≤◌, ◌<◌, ◌++◌, ℕ, zero, suc, Bool, true, false, List, [], ◌∷◌, length, slice_get, Option, Some, None, if◌then◌else◌, refl, sym, ap, subst, ◌∙◌, arith, ◌⊎◌, inl, inr}
use Rattle.std.proofs.lemmas.Bool.{eqb-true, ne_eqb, eq-eqb}
use Rattle.std.proofs.lemmas.Option.{none-some}
use Rattle.class_model.specs.declared.class_file.MethodAt.{MethodAt}
use Rattle.class_model.specs.declared.instr.Placed.{Placed}
use Rattle.class_tree.specs.Headers.{Headers, Name}
use Rattle.expanded_code.specs.Expanded.{callee_of, expanded, own_points, points_before, points_of, points_of_callee, sites_from}
use Rattle.expanded_code.specs.Expansions.{Coded, Expansion, no_more, replaced, site, stays}
use Rattle.expanded_runs.proofs.Runs.PositionLaws.{last_start, start_least, width, width_within}
use Rattle.expanded_runs.proofs.Runs.Positions.{Becomes, Standing, becomes, instrs_of, is_replaced, makes_site, remains, start_from, start_of}
use Rattle.expanded_runs.proofs.Runs.Standings.{IsStanding, callee_stands, host_stands}
use Rattle.expanded_runs.proofs.Types.FlatParts.{IsOwn, own_remains, own_site}
use Rattle.expanded_runs.proofs.Types.InstrStarts.{own_least}
use Rattle.flow_code.specs.declared.point.Site.{Site}
use Rattle.member_link.specs.Scope.{Scope, instructions}

-- ---- sites joined

either_site : (ones others : List Site) (n : ℕ) (class : Name) → class_of_site (ones ++ others) n ≡ Some class
    → (class_of_site ones n ≡ Some class) ⊎ (class_of_site others n ≡ Some class)
either_site [] others n class is = inr is
either_site (one ∷ ones) others n class is = by (one.at == n) is (either_site ones others n class) where
  by : (here : Bool) → (if here then Some one.class else class_of_site (ones ++ others) n) ≡ Some class
      → (class_of_site (ones ++ others) n ≡ Some class → (class_of_site ones n ≡ Some class) ⊎ (class_of_site others n ≡ Some class))
      → ((if here then Some one.class else class_of_site ones n) ≡ Some class) ⊎ (class_of_site others n ≡ Some class)
  by true is rest = inl is
  by false is rest = rest is

only_front : (ones others : List Site) (n : ℕ) → class_of_site others n ≡ None → class_of_site (ones ++ others) n ≡ class_of_site ones n
only_front [] others n none = none
only_front (one ∷ ones) others n none = ap (λ (o : Option Name). if one.at == n then Some one.class else o) (only_front ones others n none)

only_back : (ones others : List Site) (n : ℕ) → class_of_site ones n ≡ None → class_of_site (ones ++ others) n ≡ class_of_site others n
only_back [] others n none = refl
only_back (one ∷ ones) others n none = by (one.at == n) refl (only_back ones others n) where
  by : (here : Bool) → (one.at == n) ≡ here
      → (class_of_site ones n ≡ None → class_of_site (ones ++ others) n ≡ class_of_site others n)
      → class_of_site (one ∷ ones ++ others) n ≡ class_of_site others n
  by true is rest = let some : Some one.class ≡ None = rw (is) at none in absurd (none-some one.class (sym some))
  by false is rest = let later : class_of_site ones n ≡ None = rw (is) at none in rw (is) (rest later)

-- ---- what is made

abbrev pub made_by : Becomes → Option Name
made_by (makes_site class) = Some class
made_by other = None

abbrev pub is_own : Becomes → Bool
is_own remains = true
is_own (makes_site class) = true
is_own other = false

pub own_true : (b : Becomes) → IsOwn b → is_own b ≡ true
own_true _ own_remains = refl
own_true _ own_site = refl

module _ (headers : Headers) where
  -- sites stand at points of the instructions
  site_within : (callee : Option Scope) (number : ℕ) (instrs : List Placed) (e : Expansion) (n : ℕ) (class : Name)
      → class_of_site (sites_from headers callee number instrs e) n ≡ Some class
      → (number ≤ n) × (n < number + points_of callee instrs e)
  site_within callee number [] e n class is = absurd (none-some class is)
  site_within callee number (placed ∷ instrs) no_more n class is = absurd (none-some class is)
  site_within callee number (placed ∷ instrs) (stays more) n class is =
      let rest = site_within callee (number + own_points callee placed.instr) instrs more n class is in
      (omega (arith, rest.0), omega (arith, rest.1))
  site_within callee number (placed ∷ instrs) (site made more) n class is =
      by (number == n) refl is (site_within callee (number + own_points callee placed.instr) instrs more n class) where
        by : (here : Bool) → (number == n) ≡ here
            → (if here then Some made else class_of_site (sites_from headers callee (number + own_points callee placed.instr) instrs more) n)
            ≡ Some class
            → (class_of_site (sites_from headers callee (number + own_points callee placed.instr) instrs more) n ≡ Some class
            → (number + own_points callee placed.instr ≤ n) × (n < number + own_points callee placed.instr + points_of callee instrs more))
            → (number ≤ n) × (n < number + (own_points callee placed.instr + points_of callee instrs more))
        by true same is rest =
            let equal = eqb-true number n same in
            let some = own_least callee placed.instr in
            (omega (arith, equal), omega (arith, equal, some))
        by false other is rest =
            let later = rest is in
            (omega (arith, later.0), omega (arith, later.1))
  site_within callee number (placed ∷ instrs) (replaced g inner more) n class is =
      elim (either_site (sites_from headers (Some g.scope) (number + points_before g.scope) (instructions g.scope) inner)
      (sites_from headers callee (number + points_of_callee g inner) instrs more) n class is) [
        | inl front ↦
            let own = site_within (Some g.scope) (number + points_before g.scope) (instructions g.scope) inner n class front in
            (omega (arith, own.0), omega (arith, own.1))
        | inr back ↦
            let rest = site_within callee (number + points_of_callee g inner) instrs more n class back in
            (omega (arith, rest.0), omega (arith, rest.1))
      ]

  no_site : (callee : Option Scope) (number : ℕ) (instrs : List Placed) (e : Expansion) (n : ℕ)
      → (n < number) ⊎ (number + points_of callee instrs e ≤ n)
      → class_of_site (sites_from headers callee number instrs e) n ≡ None
  no_site callee number instrs e n outside = by (class_of_site (sites_from headers callee number instrs e) n) refl outside where
    by : (found : Option Name) → class_of_site (sites_from headers callee number instrs e) n ≡ found
        → (n < number) ⊎ (number + points_of callee instrs e ≤ n)
        → class_of_site (sites_from headers callee number instrs e) n ≡ None
    by None is outside = is
    by (Some class) is (inl before) =
        let within = site_within callee number instrs e n class is in
        absurd (omega (arith, within.0, before))
    by (Some class) is (inr behind) =
        let within = site_within callee number instrs e n class is in
        absurd (omega (arith, within.1, behind))

  -- at the number of an instruction that stays
  site_of_own : (callee : Option Scope) (number : ℕ) (instrs : List Placed) (e : Expansion) (k : ℕ) (placed : Placed)
      → slice_get instrs k ≡ Some placed
      → is_own (becomes e k) ≡ true
      → class_of_site (sites_from headers callee number instrs e) (start_from callee number instrs e k) ≡ made_by (becomes e k)
  site_of_own callee number [] e k placed is own = absurd (none-some placed is)
  site_of_own callee number (first ∷ instrs) no_more zero placed is own = absurd cc
  site_of_own callee number (first ∷ instrs) no_more (suc k) placed is own = absurd cc
  site_of_own callee number (first ∷ instrs) (stays more) zero placed is own =
      no_site callee (number + own_points callee first.instr) instrs more number (inl (omega (arith, own_least callee first.instr)))
  site_of_own callee number (first ∷ instrs) (site made more) zero placed is own =
      ap (λ (b : Bool). if b then Some made else class_of_site (sites_from headers callee (number + own_points callee first.instr) instrs more) number)
      (eq-eqb number number refl)
  site_of_own callee number (first ∷ instrs) (replaced g inner more) zero placed is own = absurd cc
  site_of_own callee number (first ∷ instrs) (stays more) (suc k) placed is own =
      site_of_own callee (number + own_points callee first.instr) instrs more k placed is own
  site_of_own callee number (first ∷ instrs) (site made more) (suc k) placed is own =
      let next = number + own_points callee first.instr in
      let start = start_from callee next instrs more k in
      let some = own_least callee first.instr in
      let least = start_least callee next instrs more k in
      ap (λ (b : Bool). if b then Some made else class_of_site (sites_from headers callee next instrs more) start)
      (ne_eqb number start (λ same. omega (arith, same, some, least)))
      ∙ site_of_own callee next instrs more k placed is own
  site_of_own callee number (first ∷ instrs) (replaced g inner more) (suc k) placed is own =
      let next = number + points_of_callee g inner in
      let start = start_from callee next instrs more k in
      let least = start_least callee next instrs more k in
      only_back (sites_from headers (Some g.scope) (number + points_before g.scope) (instructions g.scope) inner)
      (sites_from headers callee next instrs more) start
      (no_site (Some g.scope) (number + points_before g.scope) (instructions g.scope) inner start (inr (omega (arith, least))))
      ∙ site_of_own callee next instrs more k placed is own

  -- at the numbers of a callee's instructions
  site_of_callee : (callee : Option Scope) (number : ℕ) (instrs : List Placed) (e : Expansion) (k : ℕ) (placed : Placed) (g : Coded) (inner : Expansion)
      → slice_get instrs k ≡ Some placed
      → becomes e k ≡ is_replaced g inner
      → (n : ℕ)
      → start_from callee number instrs e k + points_before g.scope ≤ n
      → n < start_from callee number instrs e k + points_of_callee g inner
      → class_of_site (sites_from headers callee number instrs e) n
      ≡ class_of_site
      (sites_from headers (Some g.scope) (start_from callee number instrs e k + points_before g.scope) (instructions g.scope) inner) n
  site_of_callee callee number [] e k placed g inner is by_callee n least most = absurd (none-some placed is)
  site_of_callee callee number (first ∷ instrs) no_more zero placed g inner is by_callee n least most = absurd cc
  site_of_callee callee number (first ∷ instrs) (stays more) zero placed g inner is by_callee n least most = absurd cc
  site_of_callee callee number (first ∷ instrs) (site made more) zero placed g inner is by_callee n least most = absurd cc
  site_of_callee callee number (first ∷ instrs) (replaced h own more) zero placed g inner is by_callee n least most =
      let one : h ≡ g = cc in
      let two : own ≡ inner = cc in
      let end : n < number + points_of_callee h own =
      subst (λ (c : Coded). n < number + points_of_callee c own) (sym one)
      (subst (λ (x : Expansion). n < number + points_of_callee g x) (sym two) most) in
      only_front (sites_from headers (Some h.scope) (number + points_before h.scope) (instructions h.scope) own)
      (sites_from headers callee (number + points_of_callee h own) instrs more) n
      (no_site callee (number + points_of_callee h own) instrs more n (inl end))
      ∙ ap (λ (c : Coded). class_of_site (sites_from headers (Some c.scope) (number + points_before c.scope) (instructions c.scope) own) n) one
      ∙ ap (λ (x : Expansion). class_of_site (sites_from headers (Some g.scope) (number + points_before g.scope) (instructions g.scope) x) n) two
  site_of_callee callee number (first ∷ instrs) no_more (suc k) placed g inner is by_callee n least most = absurd cc
  site_of_callee callee number (first ∷ instrs) (stays more) (suc k) placed g inner is by_callee n least most =
      site_of_callee callee (number + own_points callee first.instr) instrs more k placed g inner is by_callee n least most
  site_of_callee callee number (first ∷ instrs) (site made more) (suc k) placed g inner is by_callee n least most =
      let next = number + own_points callee first.instr in
      let some = own_least callee first.instr in
      let begins = start_least callee next instrs more k in
      ap (λ (b : Bool). if b then Some made else class_of_site (sites_from headers callee next instrs more) n)
      (ne_eqb number n (λ same. omega (arith, same, some, begins, least)))
      ∙ site_of_callee callee next instrs more k placed g inner is by_callee n least most
  site_of_callee callee number (first ∷ instrs) (replaced h own more) (suc k) placed g inner is by_callee n least most =
      let next = number + points_of_callee h own in
      let begins = start_least callee next instrs more k in
      only_back (sites_from headers (Some h.scope) (number + points_before h.scope) (instructions h.scope) own)
      (sites_from headers callee next instrs more) n
      (no_site (Some h.scope) (number + points_before h.scope) (instructions h.scope) own n (inr (omega (arith, begins, least))))
      ∙ site_of_callee callee next instrs more k placed g inner is by_callee n least most

-- ---- in flat code

module _ (host : Coded) (e : Expansion) where
  abbrev sites_of : Standing → List Site
  sites_of p = sites_from host.scope.headers (callee_of p.setting) p.first (instrs_of p) p.expansion

  sites_same : {chain : List MethodAt} {p : Standing} → IsStanding host e chain p → (n : ℕ) → p.first ≤ n → n < start_of p (length (instrs_of p))
      → class_of_site (expanded host e).sites n ≡ class_of_site (sites_of p) n
  sites_same host_stands n least most = refl
  sites_same (callee_stands {p = p} k placed frame g inner below at) n least most =
      let begins = start_least (callee_of p.setting) p.first (instrs_of p) p.expansion k in
      let ends : start_of p k + points_of_callee g inner ≤ start_of p (length (instrs_of p)) =
      subst (λ (b : Becomes). start_of p k + width (callee_of p.setting) placed b ≤ start_of p (length (instrs_of p))) at.becomes
      (width_within (callee_of p.setting) p.first (instrs_of p) p.expansion k placed at.is) in
      let last = last_start (Some g.scope) (start_of p k + points_before g.scope) (instructions g.scope) inner in
      let own_end : n < start_of p k + points_of_callee g inner = omega (arith, most, last) in
      sites_same below n (omega (arith, least, begins)) (omega (arith, own_end, ends))
      ∙ site_of_callee host.scope.headers (callee_of p.setting) p.first (instrs_of p) p.expansion k placed g inner at.is at.becomes n least own_end

  -- The site at the number of an instruction that stays is the one that it makes.
  pub site_here : {chain : List MethodAt} {p : Standing} → IsStanding host e chain p → (k : ℕ) (placed : Placed)
      → slice_get (instrs_of p) k ≡ Some placed
      → IsOwn (becomes p.expansion k)
      → class_of_site (expanded host e).sites (start_of p k) ≡ made_by (becomes p.expansion k)
  site_here {p = p} standing k placed is own =
      let begins = start_least (callee_of p.setting) p.first (instrs_of p) p.expansion k in
      let ends : start_of p k + own_points (callee_of p.setting) placed.instr ≤ start_of p (length (instrs_of p)) =
      subst (λ (w : ℕ). start_of p k + w ≤ start_of p (length (instrs_of p))) (wide (becomes p.expansion k) own)
      (width_within (callee_of p.setting) p.first (instrs_of p) p.expansion k placed is) in
      sites_same standing (start_of p k) begins (omega (arith, ends, own_least (callee_of p.setting) placed.instr))
      ∙ site_of_own host.scope.headers (callee_of p.setting) p.first (instrs_of p) p.expansion k placed is
      (own_true (becomes p.expansion k) own) where
        wide : (b : Becomes) → IsOwn b → width (callee_of p.setting) placed b ≡ own_points (callee_of p.setting) placed.instr
        wide _ own_remains = refl
        wide _ own_site = refl
