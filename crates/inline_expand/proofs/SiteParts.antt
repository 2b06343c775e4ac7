-- The candidate sites of a method, one instruction after the other.
use Rattle.std.proofs.Common.{◌≡◌, ◌+◌, ◌<◌, ◌≤◌, ℕ, zero, suc, Bool, List, [], ◌∷◌, ◌++◌, drop, get_or, length, Option, Some, None, refl, sym, ap, subst, ◌∙◌, arith, append-nil, append_assoc}
use Rattle.std.proofs.lemmas.List.{drop_all}
use Rattle.class_model.specs.declared.instr.Placed.{Placed}
use Rattle.class_tree.specs.Headers.{Headers}
use Rattle.expanded_code.specs.Expanded.{own_points, points_before, points_of, points_of_callee, sites_from}
use Rattle.expanded_code.specs.Expansions.{Expansion, no_more, replaced, site, stays}
use Rattle.flow_code.specs.declared.point.Site.{Site}
use Rattle.inline_expand.proofs.MethodParts.{NumbersFrom, next-points, numbers-first, numbers-next}
use Rattle.inline_expand.specs.Inner.CalleePlaces.{callee_in}
use Rattle.inline_expand.specs.Inner.Layouts.{points_by, replacing, starts_from, step_points}
use Rattle.inline_expand.specs.Inner.SiteNumbers.{NumbersBehind, method_at, method_if, site_of}
use Rattle.inline_expand.specs.Inner.Steps.{Callee, callees_of, expansion_by, replaced_by}
use Rattle.inline_expand.specs.declared.expanded.places.Found.{Found}
use Rattle.inline_expand.specs.declared.expanded.sites.Numbered.{Numbered}
use Rattle.inline_expand.specs.declared.expansions.Body.{Body}
use Rattle.inline_expand.specs.declared.expansions.Step.{Step}
use Rattle.inline_expand.specs.declared.expansions.Step.TheVariants as steps
use Rattle.member_link.specs.Scope.{Scope, instructions}

-- ---- from one instruction to the next

pub item-at : {A : Type 0} (items : List A) (at : ℕ) → at < length items → (item : A) × (drop at items ≡ item ∷ drop (at + 1) items)
item-at [] at inside = absurd (omega arith)
item-at (first ∷ items) zero inside = (first, let one : 1 ≡ 0 + 1 = omega arith in ap (λ (n : ℕ). first ∷ drop n (first ∷ items)) one)
item-at (first ∷ items) (suc at) inside =
    let later = item-at items at (omega arith) in
    let next : suc (at + 1) ≡ suc at + 1 = omega arith in
    (later.0, later.1 ∙ ap (λ (n : ℕ). later.0 ∷ drop n (first ∷ items)) next)

module _ (headers : Headers) (callees : List Callee) (method : Option Scope) (number : ℕ) (placed : Placed) (instrs : List Placed) (others : List Step) where
  abbrev rest : ℕ → List Site
  rest next = sites_from headers method next instrs (expansion_by callees others)

  abbrev callee-sites : Callee → List Site
  callee-sites callee =
      sites_from headers (Some callee.coded.scope) (number + points_before callee.coded.scope) (instructions callee.coded.scope) callee.inner

  pub own-next : (step : Step) → replacing callees step ≡ None
      → sites_from headers method number (placed ∷ instrs) (expansion_by callees (step ∷ others)) ≡ site_of headers number step ++ rest (number + own_points method placed.instr)
  own-next steps.Stays none = refl
  own-next (steps.Site class) none = refl
  own-next (steps.Replaced k) none = ap (λ (found : Option Callee). sites_from headers method number (placed ∷ instrs) (replaced_by found (expansion_by callees others))) none

  pub callee-next : (step : Step) (callee : Callee) → replacing callees step ≡ Some callee
      → sites_from headers method number (placed ∷ instrs) (expansion_by callees (step ∷ others)) ≡ callee-sites callee ++ rest (number + points_of_callee callee.coded callee.inner)
  callee-next steps.Stays callee some = absurd cc
  callee-next (steps.Site class) callee some = absurd cc
  callee-next (steps.Replaced k) callee some = ap (λ (found : Option Callee). sites_from headers method number (placed ∷ instrs) (replaced_by found (expansion_by callees others))) some

-- ---- what is done

-- The sites of the instructions before one are done, and what is left makes the whole of these sites.
pub record HasSites (headers : Headers) (method : Option Scope) (starts : List ℕ) (base : ℕ) (callees : List Callee) (instrs : List Placed) (others : List Step) (whole : List Site) (at : ℕ) (done : List Site) : Type 0 where
  pub sites : done ++ sites_from headers method (base + get_or starts at 0) (drop at instrs) (expansion_by callees (drop at others)) ≡ whole

-- the numbers are known, and few
pub record HasNumbered (method : Option Scope) (starts : List ℕ) (base : ℕ) (callees : List Callee) (instrs : List Placed) (others : List Step) (at : ℕ) : Type 0 where
  pub numbers : NumbersFrom callees method starts at (drop at instrs) (drop at others)
  pub total : base + get_or starts at 0 + points_of method (drop at instrs) (expansion_by callees (drop at others)) ≤ 65535

no-sites : (headers : Headers) (method : Option Scope) (number : ℕ) (expansion : Expansion) → sites_from headers method number [] expansion ≡ []
no-sites headers method number no_more = refl
no-sites headers method number (stays more) = refl
no-sites headers method number (site class more) = refl
no-sites headers method number (replaced g inner more) = refl

module _ (method : Option Scope) (starts : List ℕ) (base : ℕ) (callees : List Callee) (instrs : List Placed) (others : List Step) where
  pub numbered-first : starts ≡ starts_from method 0 instrs (expansion_by callees others) → base + points_of method instrs (expansion_by callees others) ≤ 65535 → HasNumbered method starts base callees instrs others 0
  numbered-first are few =
      let first = numbers-first callees method starts instrs others are in
      record { numbers = first.1; total = omega (arith, first.0, few) }

  pub sites-first : (headers : Headers) (done : List Site) → starts ≡ starts_from method 0 instrs (expansion_by callees others)
      → HasSites headers method starts base callees instrs others (done ++ sites_from headers method base instrs (expansion_by callees others)) 0 done
  sites-first headers done are =
      let first = numbers-first callees method starts instrs others are in
      let number : base + get_or starts 0 0 ≡ base = omega (arith, first.0) in
      record { sites = ap (λ (n : ℕ). done ++ sites_from headers method n instrs (expansion_by callees others)) number }

  pub sites-all : (headers : Headers) (whole : List Site) (at : ℕ) (done : List Site) → HasSites headers method starts base callees instrs others whole at done → length instrs ≤ at → done ≡ whole
  sites-all headers whole at done has behind =
      sym (append-nil done)
      ∙ ap (λ (some : List Site). done ++ some) (sym (no-sites headers method (base + get_or starts at 0) (expansion_by callees (drop at others))))
      ∙ ap (λ (all : List Placed). done ++ sites_from headers method (base + get_or starts at 0) all (expansion_by callees (drop at others))) (sym (drop_all at instrs behind))
      ∙ has.sites

  module _ (at : ℕ) (has : HasNumbered method starts base callees instrs others at) (placed : Placed) (step : Step) (instrs_are : drop at instrs ≡ placed ∷ drop (at + 1) instrs) (others_are : drop at others ≡ step ∷ drop (at + 1) others) where
    abbrev number : ℕ
    number = base + get_or starts at 0

    abbrev width : ℕ
    width = step_points callees method placed.instr step

    next-numbers : (get_or starts (at + 1) 0 ≡ get_or starts at 0 + width) × NumbersFrom callees method starts (at + 1) (drop (at + 1) instrs) (drop (at + 1) others)
    next-numbers =
        numbers-next callees method starts at placed (drop (at + 1) instrs) step (drop (at + 1) others)
        (subst (λ (all : List Step). NumbersFrom callees method starts at (placed ∷ drop (at + 1) instrs) all) others_are
        (subst (λ (all : List Placed). NumbersFrom callees method starts at all (drop at others)) instrs_are has.numbers))

    total-now : number + (width + points_of method (drop (at + 1) instrs) (expansion_by callees (drop (at + 1) others))) ≤ 65535
    total-now =
        let own = ap (λ (all : List Placed). points_of method all (expansion_by callees (drop at others))) instrs_are
        ∙ ap (λ (all : List Step). points_of method (placed ∷ drop (at + 1) instrs) (expansion_by callees all)) others_are
        ∙ next-points callees method placed (drop (at + 1) instrs) step (drop (at + 1) others) in
        omega (arith, own, has.total)

    pub numbered-next : HasNumbered method starts base callees instrs others (at + 1)
    numbered-next = let next = next-numbers in record { numbers = next.1; total = omega (arith, next.0, total-now) }

    pub room-callee : (callee : Callee) → replacing callees step ≡ Some callee → number + points_of_callee callee.coded callee.inner ≤ 65535
    room-callee callee some = omega (arith, ap (points_by method placed.instr) some, total-now)

    module _ (headers : Headers) (whole done : List Site) (before : HasSites headers method starts base callees instrs others whole at done) where
      sites-now : done ++ sites_from headers method number (placed ∷ drop (at + 1) instrs) (expansion_by callees (step ∷ drop (at + 1) others)) ≡ whole
      sites-now =
          ap (λ (all : List Placed). done ++ sites_from headers method number all (expansion_by callees (step ∷ drop (at + 1) others))) (sym instrs_are)
          ∙ ap (λ (all : List Step). done ++ sites_from headers method number (drop at instrs) (expansion_by callees all)) (sym others_are)
          ∙ before.sites

      abbrev left : ℕ → List Site
      left next = sites_from headers method next (drop (at + 1) instrs) (expansion_by callees (drop (at + 1) others))

      pub sites-own : (more : List Site) → replacing callees step ≡ None → more ≡ done ++ site_of headers number step → HasSites headers method starts base callees instrs others whole (at + 1) more
      sites-own more none more_is =
          let next = next-numbers in
          let own : own_points method placed.instr ≡ width = ap (points_by method placed.instr) (sym none) in
          let number_is : number + own_points method placed.instr ≡ base + get_or starts (at + 1) 0 = omega (arith, own, next.0) in
          record {
            sites =
                ap (λ (some : List Site). some ++ left (base + get_or starts (at + 1) 0)) more_is
                ∙ append_assoc done (site_of headers number step) (left (base + get_or starts (at + 1) 0))
                ∙ ap (λ (n : ℕ). done ++ (site_of headers number step ++ left n)) (sym number_is)
                ∙ ap (λ (some : List Site). done ++ some) (sym (own-next headers callees method number placed (drop (at + 1) instrs) (drop (at + 1) others) step none))
                ∙ sites-now;
          }

      pub sites-callee : (callee : Callee) (more : List Site) → replacing callees step ≡ Some callee
          → more ≡ done ++ callee-sites headers callees method number placed (drop (at + 1) instrs) (drop (at + 1) others) callee
          → HasSites headers method starts base callees instrs others whole (at + 1) more
      sites-callee callee more some more_is =
          let next = next-numbers in
          let own : points_of_callee callee.coded callee.inner ≡ width = ap (points_by method placed.instr) (sym some) in
          let number_is : number + points_of_callee callee.coded callee.inner ≡ base + get_or starts (at + 1) 0 = omega (arith, own, next.0) in
          let added = callee-sites headers callees method number placed (drop (at + 1) instrs) (drop (at + 1) others) callee in
          record {
            sites =
                ap (λ (all : List Site). all ++ left (base + get_or starts (at + 1) 0)) more_is
                ∙ append_assoc done added (left (base + get_or starts (at + 1) 0))
                ∙ ap (λ (n : ℕ). done ++ (added ++ left n)) (sym number_is)
                ∙ ap (λ (all : List Site). done ++ all) (sym (callee-next headers callees method number placed (drop (at + 1) instrs) (drop (at + 1) others) step callee some))
                ∙ sites-now;
          }

-- ---- a callee's sites

pub callee-done : (headers : Headers) (found : Found) (start : ℕ) (inner : Numbered) (before after : List Site)
    → NumbersBehind found start inner
    → after ≡ before ++ sites_from headers (method_at inner) inner.base (instructions inner.body.now.host) (expansion_by (callees_of found.bodies.now) inner.body.now.steps)
    → after
    ≡ before
    ++ sites_from headers (Some found.body.now.host) (start + points_before found.body.now.host) (instructions found.body.now.host) (callee_in found).inner
callee-done headers found start inner before after behind all =
    let callees = callees_of found.bodies.now in
    let sites = λ (is_callee : Bool) (number : ℕ) (b : Body). sites_from headers (method_if is_callee b.host) number (instructions b.host) (expansion_by callees b.steps) in
    all
    ∙ ap (λ (b : Body). before ++ sites inner.is_callee inner.base b) behind.body
    ∙ ap (λ (n : ℕ). before ++ sites inner.is_callee n found.body.now) behind.base
    ∙ ap (λ (is : Bool). before ++ sites is (start + points_before found.body.now.host) found.body.now) behind.is_callee
