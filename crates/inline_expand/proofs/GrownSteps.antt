-- Steps of a method, one after the other, and the expansion that they are.
use Rattle.std.proofs.Common.{◌≡◌, ◌+◌, ◌<◌, ◌≤◌, ℕ, zero, suc, List, [], ◌∷◌, ◌++◌, length, drop, slice_get, Option, Some, None, option_map, refl, sym, ap, subst, ◌∙◌, arith}
use Rattle.std.proofs.lemmas.Option.{none-some, same_Some}
use Rattle.std.specs.List.{AllByRecursion}
use Rattle.class_model.specs.declared.class_file.MethodAt.{MethodAt}
use Rattle.class_model.specs.declared.frame.Frame.{Frame}
use Rattle.class_model.specs.declared.instr.Instr.{Instr}
use Rattle.class_model.specs.declared.instr.Instr.TheVariants.{Invoke, Return}
use Rattle.class_model.specs.declared.instr.Placed.{Placed}
use Rattle.class_tree.specs.Headers.{Name, Classes}
use Rattle.expanded_code.specs.Callees.{Calls, instr_at}
use Rattle.expanded_code.specs.Expanded.{own_points, points_of}
use Rattle.expanded_code.specs.Expansions.{Coded, Expands, Expansion, expands_none, expands_replaced, expands_site, expands_stays, no_more, replaced, site, stays}
use Rattle.expanded_code.specs.Sites.{HasFrames, IsReplaced, IsSite}
use Rattle.flow_code.specs.TypedFrames.{FolderFrames}
use Rattle.inline_expand.proofs.ReadyCalls.{from_callee, one_scope}
use Rattle.inline_expand.proofs.SiteLaws.{new_of_placed}
use Rattle.inline_expand.specs.Inner.Coded.{Stands}
use Rattle.inline_expand.specs.Inner.Growths.{AreStepsFound, HasGrown, IsBodyFound, IsStep, IsStepFound, IsWhole, MayGrow, kept_in}
use Rattle.inline_expand.specs.Inner.Places.{chain_of, host_of}
use Rattle.inline_expand.specs.Inner.Replacements.{IsReplacement}
use Rattle.inline_expand.specs.Inner.SiteTables.{class_made}
use Rattle.inline_expand.specs.Inner.Steps.{Callee, callee_by, callees_behind, callees_of, expansion_by, replaced_by}
use Rattle.inline_expand.specs.Inner.Walks.{AreRight}
use Rattle.inline_expand.specs.declared.coded.CodedMethod.{CodedMethod}
use Rattle.inline_expand.specs.declared.expansions.Body.{Body}
use Rattle.inline_expand.specs.declared.expansions.Growth.{Growth}
use Rattle.inline_expand.specs.declared.expansions.Step.{Step}
use Rattle.inline_expand.specs.declared.expansions.Step.TheVariants as steps
use Rattle.inline_expand.specs.declared.ready.HostClass.{HostClass}
use Rattle.member_link.specs.CodedMethods.{placed_at}
use Rattle.member_link.specs.Scope.{Scope, class_of_new, instructions}

abbrev instr_of : Option Placed → Option Instr
instr_of found = option_map (λ placed. placed.instr) found

-- ---- bodies

module _ where
  callees_more : (callees : List Callee) (bodies : List Body) (body : Body) → callees_behind callees (bodies ++ body ∷ []) ≡ callees_behind callees bodies ++ callee_by (callees_behind callees bodies) body ∷ []
  callees_more callees [] body = refl
  callees_more callees (first ∷ bodies) body = callees_more (callees ++ callee_by callees first ∷ []) bodies body

  callee_count : (callees : List Callee) (bodies : List Body) → length (callees_behind callees bodies) ≡ length callees + length bodies
  callee_count callees [] = omega arith
  callee_count callees (first ∷ bodies) = omega (arith, callee_count (callees ++ callee_by callees first ∷ []) bodies, one_longer callees) where
    one_longer : (list : List Callee) → length (list ++ callee_by callees first ∷ []) ≡ length list + 1
    one_longer [] = refl
    one_longer (head ∷ list) = omega (arith, one_longer list)

module _ {X : Type 0} where
  pub got_in_front : (xs more : List X) (number : ℕ) (x : X) → slice_get xs number ≡ Some x → slice_get (xs ++ more) number ≡ Some x
  got_in_front [] more number x is = absurd (none-some x is)
  got_in_front (first ∷ xs) more zero x is = is
  got_in_front (first ∷ xs) more (suc number) x is = got_in_front xs more number x is

  pub got_behind : (xs : List X) (x : X) (number : ℕ) → number ≡ length xs → slice_get (xs ++ x ∷ []) number ≡ Some x
  got_behind [] x zero is = refl
  got_behind [] x (suc number) is = absurd (omega (arith, is))
  got_behind (first ∷ xs) x zero is = absurd (omega (arith, is))
  got_behind (first ∷ xs) x (suc number) is = got_behind xs x number (omega (arith, is))

pub pushed_stay : (before after : List Body) (body : Body) → after ≡ before ++ body ∷ [] → (number : ℕ) (callee : Callee) → slice_get (callees_of before) number ≡ Some callee → slice_get (callees_of after) number ≡ Some callee
pushed_stay before after body is number callee got =
    ap (λ (bodies : List Body). slice_get (callees_of bodies) number) is
    ∙ ap (λ (callees : List Callee). slice_get callees number) (callees_more [] before body)
    ∙ got_in_front (callees_of before) (callee_by (callees_of before) body ∷ []) number callee got

pub pushed_last : (before after : List Body) (body : Body) (number : ℕ) → after ≡ before ++ body ∷ [] → number ≡ length before → slice_get (callees_of after) number ≡ Some (callee_by (callees_of before) body)
pushed_last before after body number is last =
    ap (λ (bodies : List Body). slice_get (callees_of bodies) number) is
    ∙ ap (λ (callees : List Callee). slice_get callees number) (callees_more [] before body)
    ∙ got_behind (callees_of before) (callee_by (callees_of before) body) number (omega (arith, last, callee_count [] before))

-- ---- the expansion of some steps before a rest

abbrev pub over : List Callee → List Step → Expansion → Expansion
over callees [] rest = rest
over callees (steps.Stays ∷ others) rest = stays (over callees others rest)
over callees (steps.Site class ∷ others) rest = site class (over callees others rest)
over callees (steps.Replaced number ∷ others) rest = replaced_by (slice_get callees number) (over callees others rest)

-- each callee that they name is there
abbrev pub AreNamed : List Callee → List Step → Type 0
AreNamed callees [] = Unit {0}
AreNamed callees (steps.Stays ∷ others) = AreNamed callees others
AreNamed callees (steps.Site class ∷ others) = AreNamed callees others
AreNamed callees (steps.Replaced number ∷ others) = ((callee : Callee) × (slice_get callees number ≡ Some callee)) × AreNamed callees others

pub over_all : (callees : List Callee) (all : List Step) → over callees all no_more ≡ expansion_by callees all
over_all callees [] = refl
over_all callees (steps.Stays ∷ others) = ap stays (over_all callees others)
over_all callees (steps.Site class ∷ others) = ap (site class) (over_all callees others)
over_all callees (steps.Replaced number ∷ others) = ap (replaced_by (slice_get callees number)) (over_all callees others)

pub over_more : (callees : List Callee) (all : List Step) (step : Step) (rest : Expansion) → over callees (all ++ step ∷ []) rest ≡ over callees all (over callees (step ∷ []) rest)
over_more callees [] step rest = refl
over_more callees (steps.Stays ∷ others) step rest = ap stays (over_more callees others step rest)
over_more callees (steps.Site class ∷ others) step rest = ap (site class) (over_more callees others step rest)
over_more callees (steps.Replaced number ∷ others) step rest = ap (replaced_by (slice_get callees number)) (over_more callees others step rest)

module _ (old new : List Callee) (same : (number : ℕ) (callee : Callee) → slice_get old number ≡ Some callee → slice_get new number ≡ Some callee) where
  pub over_grown : (all : List Step) (rest : Expansion) → AreNamed old all → over new all rest ≡ over old all rest
  over_grown [] rest named = refl
  over_grown (steps.Stays ∷ others) rest named = ap stays (over_grown others rest named)
  over_grown (steps.Site class ∷ others) rest named = ap (site class) (over_grown others rest named)
  over_grown (steps.Replaced number ∷ others) rest named =
      ap (λ (o : Option Callee). replaced_by o (over new others rest)) (same number named.0.0 named.0.1 ∙ sym named.0.1)
      ∙ ap (replaced_by (slice_get old number)) (over_grown others rest named.1)

  pub named_grown : (all : List Step) → AreNamed old all → AreNamed new all
  named_grown [] named = tt
  named_grown (steps.Stays ∷ others) named = named_grown others named
  named_grown (steps.Site class ∷ others) named = named_grown others named
  named_grown (steps.Replaced number ∷ others) named = ((named.0.0, same number named.0.0 named.0.1), named_grown others named.1)

pub named_more : (callees : List Callee) (all : List Step) (step : Step) → AreNamed callees all → AreNamed callees (step ∷ []) → AreNamed callees (all ++ step ∷ [])
named_more callees [] step named last = last
named_more callees (steps.Stays ∷ others) step named last = named_more callees others step named last
named_more callees (steps.Site class ∷ others) step named last = named_more callees others step named last
named_more callees (steps.Replaced number ∷ others) step named last = (named.0, named_more callees others step named.1 last)

-- ---- no more instructions stay in their place than there are points

pub own_some : (callee : Option Scope) (instr : Instr) → 1 ≤ own_points callee instr
own_some (Some s) (Return kind) = omega arith
own_some (Some s) other = omega arith
own_some None instr = omega arith

module _ (classes : Classes) (typed : FolderFrames) (host : MethodAt) where
  pub kept_within : (chain : List MethodAt) (from : MethodAt) (instrs : List Placed) (expansion : Expansion) → Expands classes typed host chain from instrs expansion → (callee : Option Scope) → kept_in expansion ≤ points_of callee instrs expansion
  kept_within _ _ _ _ (expands_none chain from) callee = omega arith
  kept_within _ _ _ _ (expands_stays chain from placed instrs more not none next) callee =
      omega (arith, own_some callee placed.instr, kept_within chain from instrs more next callee)
  kept_within _ _ _ _ (expands_site chain from placed instrs class more is next) callee =
      omega (arith, own_some callee placed.instr, kept_within chain from instrs more next callee)
  kept_within _ _ _ _ (expands_replaced chain from placed instrs g inner more is has within next) callee =
      omega (arith, kept_within (g.at ∷ chain) g.at (instructions g.scope) inner within (Some g.scope), kept_within chain from instrs more next callee)

  -- ---- no site is a call

  module _ (once : (s : Scope) (at : ℕ) (one other : MethodAt) → Calls classes s at one → Calls classes s at other → one ≡ other) where
    made_of_call : (s : Scope) (at opcode index count : ℕ) (class : Name) (found : Option Placed) → placed_at (instructions s) at ≡ found → instr_at s at ≡ Some (Invoke opcode index count) → class_of_new s at ≡ Some class → ⊥
    made_of_call s at opcode index count class None is call makes = none-some (Invoke opcode index count) (sym (ap (λ (o : Option Placed). instr_of o) is) ∙ call)
    made_of_call s at opcode index count class (Some placed) is call makes =
        let same : placed.instr ≡ Invoke opcode index count = same_Some placed.instr (Invoke opcode index count) (sym (ap (λ (o : Option Placed). instr_of o) is) ∙ call) in
        none-some class (ap (class_made s) (sym same) ∙ sym (new_of_placed s at (Some placed) is) ∙ makes)

    pub site_or_call : (chain : List MethodAt) (from : MethodAt) (at : ℕ) (class : Name) (callee : MethodAt) → IsSite classes typed host chain from at class → ¬ IsReplaced classes typed host chain from at callee
    site_or_call chain from at class callee is call_replaced =
        let calls = (from_callee classes typed once host.class from at callee call_replaced.is_callee).0 in
        let same : is.scope ≡ calls.caller = one_scope classes typed from is.scope calls.caller is.frames calls.before is.is calls.is_caller in
        let call = calls.calls.is_call in
        made_of_call calls.caller at calls.calls.opcode call.index call.count class (placed_at (instructions calls.caller) at) refl call.is
        (subst (λ (s : Scope). class_of_new s at ≡ Some class) same is.makes)

-- ---- one step

-- whatever becomes of the others, so many instructions stay in their place
pub record Behind (classes : Classes) (typed : FolderFrames) (host : MethodAt) (chain : List MethodAt) (from : MethodAt) (instrs : List Placed) (expansion : Expansion) (before after : ℕ) : Type 0 where
  pub rest : Expansion
  pub is : Expands classes typed host chain from instrs rest
  pub counted : kept_in expansion + after ≡ kept_in rest + before

module _ (classes : Classes) (typed : FolderFrames) (host : MethodAt) (chain : List MethodAt) (from : MethodAt) (placed : Placed) where
  -- what becomes of an instruction, in front of what becomes of the others
  pub step_expands : (callees : List Callee) (before after : ℕ) (step : Step) → IsStep classes typed host chain from placed.at callees before after step
      → (instrs : List Placed) (rest : Expansion) → Expands classes typed host chain from instrs rest
      → Expands classes typed host chain from (placed ∷ instrs) (over callees (step ∷ []) rest)
  step_expands callees before after steps.Stays is instrs rest next = expands_stays chain from placed instrs rest is.0 is.1 next
  step_expands callees before after (steps.Site class) is instrs rest next = expands_site chain from placed instrs class rest is.0 next
  step_expands callees before after (steps.Replaced number) is instrs rest next =
      subst (λ (o : Option Callee). Expands classes typed host chain from (placed ∷ instrs) (replaced_by o rest)) (sym is.1)
      (expands_replaced chain from placed instrs is.0.coded is.0.inner rest is.2 is.4.frames is.4.expands next)

  pub step_named : (callees : List Callee) (before after : ℕ) (step : Step) → IsStep classes typed host chain from placed.at callees before after step → AreNamed callees (step ∷ [])
  step_named callees before after steps.Stays is = tt
  step_named callees before after (steps.Site class) is = tt
  step_named callees before after (steps.Replaced number) is = ((is.0, is.1), tt)

  same_instrs : (first : Placed) (instrs others : List Placed) → first ∷ instrs ≡ placed ∷ others → (first ≡ placed) × (instrs ≡ others)
  same_instrs first instrs others e = (cc, cc)

  same_callee : (g callee : Coded) → g.at ≡ callee.at → HasFrames classes typed g.at g.scope g.frames → HasFrames classes typed callee.at callee.scope callee.frames → g.scope ≡ callee.scope
  same_callee g callee same is also = one_scope classes typed callee.at g.scope callee.scope g.frames callee.frames (subst (λ (m : MethodAt). HasFrames classes typed m g.scope g.frames) same is) also

  inner_here : (g callee : Coded) (inner : Expansion) → g.at ≡ callee.at → g.scope ≡ callee.scope → Expands classes typed host (g.at ∷ chain) g.at (instructions g.scope) inner → Expands classes typed host (callee.at ∷ chain) callee.at (instructions callee.scope) inner
  inner_here g callee inner same scope is =
      subst (λ (s : Scope). Expands classes typed host (callee.at ∷ chain) callee.at (instructions s) inner) scope
      (subst (λ (m : MethodAt). Expands classes typed host (m ∷ chain) m (instructions g.scope) inner) same is)

  module _ (once : (s : Scope) (at : ℕ) (one other : MethodAt) → Calls classes s at one → Calls classes s at other → one ≡ other) (callees : List Callee) (before after : ℕ) where
    pub step_behind : (step : Step) → IsStep classes typed host chain from placed.at callees before after step
        → (instrs all : List Placed) (expansion : Expansion) → Expands classes typed host chain from all expansion → all ≡ placed ∷ instrs
        → Behind classes typed host chain from instrs expansion before after
    step_behind step is instrs _ _ (expands_none _ _) e = absurd cc
    step_behind step is instrs _ _ (expands_stays _ _ first others more not none next) e = of_step step is where
      same : (first ≡ placed) × (others ≡ instrs)
      same = same_instrs first others instrs e

      next_here : Expands classes typed host chain from instrs more
      next_here = subst (λ (list : List Placed). Expands classes typed host chain from list more) same.1 next

      of_step : (step : Step) → IsStep classes typed host chain from placed.at callees before after step → Behind classes typed host chain from instrs (stays more) before after
      of_step steps.Stays is = record { rest = more; is = next_here; counted = omega (arith, is.2) }
      of_step (steps.Site class) is = absurd (none class (subst (λ (p : Placed). IsSite classes typed host chain from p.at class) (sym same.0) is.0))
      of_step (steps.Replaced number) is = absurd (not is.0.coded.at (subst (λ (p : Placed). IsReplaced classes typed host chain from p.at is.0.coded.at) (sym same.0) is.2))
    step_behind step is instrs _ _ (expands_site _ _ first others name more a_site next) e = of_step step is where
      same : (first ≡ placed) × (others ≡ instrs)
      same = same_instrs first others instrs e

      next_here : Expands classes typed host chain from instrs more
      next_here = subst (λ (list : List Placed). Expands classes typed host chain from list more) same.1 next

      site_here : IsSite classes typed host chain from placed.at name
      site_here = subst (λ (p : Placed). IsSite classes typed host chain from p.at name) same.0 a_site

      of_step : (step : Step) → IsStep classes typed host chain from placed.at callees before after step → Behind classes typed host chain from instrs (site name more) before after
      of_step steps.Stays is = absurd (is.1 name site_here)
      of_step (steps.Site class) is = record { rest = more; is = next_here; counted = omega (arith, is.1) }
      of_step (steps.Replaced number) is = absurd (site_or_call classes typed host once chain from placed.at name is.0.coded.at site_here is.2)
    step_behind step is instrs _ _ (expands_replaced _ _ first others g inner more a_call has within next) e = of_step step is where
      same : (first ≡ placed) × (others ≡ instrs)
      same = same_instrs first others instrs e

      next_here : Expands classes typed host chain from instrs more
      next_here = subst (λ (list : List Placed). Expands classes typed host chain from list more) same.1 next

      call_here : IsReplaced classes typed host chain from placed.at g.at
      call_here = subst (λ (p : Placed). IsReplaced classes typed host chain from p.at g.at) same.0 a_call

      of_step : (step : Step) → IsStep classes typed host chain from placed.at callees before after step → Behind classes typed host chain from instrs (replaced g inner more) before after
      of_step steps.Stays is = absurd (is.0 g.at call_here)
      of_step (steps.Site class) is = absurd (site_or_call classes typed host once chain from placed.at class g.at is.0 call_here)
      of_step (steps.Replaced number) is =
          let callee = is.0.coded in
          let at_same : g.at ≡ callee.at = is.3 g.at call_here in
          let scope : g.scope ≡ callee.scope = same_callee g callee at_same has is.4.frames in
          let count : kept_in inner + after ≡ before = is.4.counted inner (inner_here g callee inner at_same scope within) in
          record { rest = more; is = next_here; counted = omega (arith, count) }

  -- ---- no step is left

  pub none_is_left : (instrs all : List Placed) (expansion : Expansion) → Expands classes typed host chain from all expansion → all ≡ placed ∷ instrs
      → ((callee : MethodAt) → ¬ IsReplaced classes typed host chain from placed.at callee) → 0 < kept_in expansion
  none_is_left instrs _ _ (expands_none _ _) e none = absurd cc
  none_is_left instrs _ _ (expands_stays _ _ first others more not no_site next) e none = omega arith
  none_is_left instrs _ _ (expands_site _ _ first others name more a_site next) e none = omega arith
  none_is_left instrs _ _ (expands_replaced _ _ first others g inner more a_call has within next) e none =
      let same = same_instrs first others instrs e in
      absurd (none g.at (subst (λ (p : Placed). IsReplaced classes typed host chain from p.at g.at) same.0 a_call))

  -- a callee that is too long
  pub callee_is_long : (left : ℕ) (callee : Coded) → HasFrames classes typed callee.at callee.scope callee.frames
      → ((class : Name) → ¬ IsSite classes typed host chain from placed.at class)
      → IsReplaced classes typed host chain from placed.at callee.at
      → ((other : MethodAt) → IsReplaced classes typed host chain from placed.at other → other ≡ callee.at)
      → ((inner : Expansion) → Expands classes typed host (callee.at ∷ chain) callee.at (instructions callee.scope) inner → left < kept_in inner)
      → (instrs all : List Placed) (expansion : Expansion) → Expands classes typed host chain from all expansion → all ≡ placed ∷ instrs
      → left < kept_in expansion
  callee_is_long left callee frames no_site is only long instrs _ _ (expands_none _ _) e = absurd cc
  callee_is_long left callee frames no_site is only long instrs _ _ (expands_stays _ _ first others more not none next) e =
      let same = same_instrs first others instrs e in
      absurd (not callee.at (subst (λ (p : Placed). IsReplaced classes typed host chain from p.at callee.at) (sym same.0) is))
  callee_is_long left callee frames no_site is only long instrs _ _ (expands_site _ _ first others name more a_site next) e =
      let same = same_instrs first others instrs e in
      absurd (no_site name (subst (λ (p : Placed). IsSite classes typed host chain from p.at name) same.0 a_site))
  callee_is_long left callee frames no_site is only long instrs _ _ (expands_replaced _ _ first others g inner more a_call has within next) e =
      let same = same_instrs first others instrs e in
      let at_same : g.at ≡ callee.at = only g.at (subst (λ (p : Placed). IsReplaced classes typed host chain from p.at g.at) same.0 a_call) in
      let scope : g.scope ≡ callee.scope = same_callee g callee at_same has frames in
      omega (arith, long inner (inner_here g callee inner at_same scope within))

-- ---- the steps so far

module _ {X : Type 0} where
  pub dropped : (xs : List X) (number : ℕ) (x : X) → slice_get xs number ≡ Some x → drop number xs ≡ x ∷ drop (suc number) xs
  dropped [] number x is = absurd (none-some x is)
  dropped (first ∷ xs) zero x is = ap (λ (head : X). head ∷ xs) (same_Some first x is)
  dropped (first ∷ xs) (suc number) x is = dropped xs number x is

  pub dropped_all : (xs : List X) → drop (length xs) xs ≡ []
  dropped_all [] = refl
  dropped_all (first ∷ xs) = dropped_all xs

module _ (classes : Classes) (typed : FolderFrames) (host : MethodAt) (chain : List MethodAt) (from : MethodAt) where
  nothing_kept : (all : List Placed) (expansion : Expansion) → Expands classes typed host chain from all expansion → all ≡ [] → kept_in expansion ≡ 0
  nothing_kept _ _ (expands_none _ _) e = refl
  nothing_kept _ _ (expands_stays _ _ first others more not none next) e = absurd cc
  nothing_kept _ _ (expands_site _ _ first others name more a_site next) e = absurd cc
  nothing_kept _ _ (expands_replaced _ _ first others g inner more a_call has within next) e = absurd cc

-- the steps of the first so many instructions of a method
pub record SoFar (classes : Classes) (typed : FolderFrames) (host : MethodAt) (chain : List MethodAt) (from : MethodAt) (instrs : List Placed)
    (count : ℕ) (callees : List Callee) (all : List Step) (start left : ℕ)
    : Type 0 where
  pub named : AreNamed callees all
  pub long : length all ≡ count
  pub front : (rest : Expansion) → Expands classes typed host chain from (drop count instrs) rest → Expands classes typed host chain from instrs (over callees all rest)
  pub back : (expansion : Expansion) → Expands classes typed host chain from instrs expansion → Behind classes typed host chain from (drop count instrs) expansion start left

module _ (classes : Classes) (typed : FolderFrames) (host : MethodAt) (chain : List MethodAt) (from : MethodAt) (instrs : List Placed) where
  pub so_far_none : (callees : List Callee) (all : List Step) (left : ℕ) → all ≡ [] → SoFar classes typed host chain from instrs 0 callees all left left
  so_far_none callees all left none =
      subst (λ (list : List Step). SoFar classes typed host chain from instrs 0 callees list left left) (sym none) (record {
        named = tt;
        long = refl;
        front = λ rest is. is;
        back = λ expansion is. record { rest = expansion; is = is; counted = refl };
      })

  module _ (once : (s : Scope) (at : ℕ) (one other : MethodAt) → Calls classes s at one → Calls classes s at other → one ≡ other) where
    pub so_far_more : (count : ℕ) (old new : List Callee) (before after : List Step) (placed : Placed) (step : Step) (start left less : ℕ)
        → SoFar classes typed host chain from instrs count old before start left
        → slice_get instrs count ≡ Some placed
        → ((number : ℕ) (callee : Callee) → slice_get old number ≡ Some callee → slice_get new number ≡ Some callee)
        → IsStep classes typed host chain from placed.at new left less step
        → after ≡ before ++ step ∷ []
        → SoFar classes typed host chain from instrs (count + 1) new after start less
    so_far_more count old new before after placed step start left less far there same is grown =
        subst (λ (list : List Step). SoFar classes typed host chain from instrs (count + 1) new list start less) (sym grown)
        (subst (λ (n : ℕ). SoFar classes typed host chain from instrs n new (before ++ step ∷ []) start less) one_up (record {
          named = named_more new before step (named_grown old new same before far.named) (step_named classes typed host chain from placed new left less step is);
          long = longer before ∙ ap suc far.long;
          front = λ rest next. front rest next;
          back = λ expansion all. behind expansion (far.back expansion all);
        })) where
          one_up : suc count ≡ count + 1
          one_up = omega arith

          split : drop count instrs ≡ placed ∷ drop (suc count) instrs
          split = dropped instrs count placed there

          longer : (list : List Step) → length (list ++ step ∷ []) ≡ suc (length list)
          longer [] = refl
          longer (first ∷ list) = ap suc (longer list)

          front : (rest : Expansion) → Expands classes typed host chain from (drop (suc count) instrs) rest → Expands classes typed host chain from instrs (over new (before ++ step ∷ []) rest)
          front rest next =
              let one = step_expands classes typed host chain from placed new left less step is (drop (suc count) instrs) rest next in
              let all = far.front (over new (step ∷ []) rest) (subst (λ (list : List Placed). Expands classes typed host chain from list (over new (step ∷ []) rest)) (sym split) one) in
              subst (Expands classes typed host chain from instrs)
              (sym (over_grown old new same before (over new (step ∷ []) rest) far.named) ∙ sym (over_more new before step rest)) all

          behind : (expansion : Expansion) → Behind classes typed host chain from (drop count instrs) expansion start left → Behind classes typed host chain from (drop (suc count) instrs) expansion start less
          behind expansion before_it =
              let one = step_behind classes typed host chain from placed once new left less step is (drop (suc count) instrs) (drop count instrs) before_it.rest before_it.is split in
              record { rest = one.rest; is = one.is; counted = omega (arith, before_it.counted, one.counted) }

  pub so_far_fails : (count : ℕ) (callees : List Callee) (all : List Step) (placed : Placed) (start left : ℕ)
      → SoFar classes typed host chain from instrs count callees all start left
      → slice_get instrs count ≡ Some placed
      → ((others : List Placed) (expansion : Expansion) → Expands classes typed host chain from (placed ∷ others) expansion → left < kept_in expansion)
      → (expansion : Expansion) → Expands classes typed host chain from instrs expansion → start < kept_in expansion
  so_far_fails count callees all placed start left far there long expansion is =
      let back = far.back expansion is in
      omega (arith, back.counted, long (drop (suc count) instrs) back.rest (subst (λ (list : List Placed). Expands classes typed host chain from list back.rest) (dropped instrs count placed there) back.is))

  module _ (count : ℕ) (callees : List Callee) (all : List Step) (start left : ℕ) (far : SoFar classes typed host chain from instrs count callees all start left) (end : count ≡ length instrs) where
    over_now : drop count instrs ≡ []
    over_now = ap (λ (n : ℕ). drop n instrs) end ∙ dropped_all instrs

    pub so_far_expands : Expands classes typed host chain from instrs (expansion_by callees all)
    so_far_expands =
        subst (Expands classes typed host chain from instrs) (over_all callees all)
        (far.front no_more (subst (λ (list : List Placed). Expands classes typed host chain from list no_more) (sym over_now) (expands_none chain from)))

    pub so_far_counted : (expansion : Expansion) → Expands classes typed host chain from instrs expansion → kept_in expansion + left ≡ start
    so_far_counted expansion is =
        let back = far.back expansion is in
        omega (arith, back.counted, nothing_kept classes typed host chain from (drop count instrs) back.rest back.is over_now)

-- ---- growth

module _ (class : HostClass) where
  pub grown_on : (first second third : Growth) → HasGrown class first second → HasGrown class second third → HasGrown class first third
  grown_on first second third one other = record {
    grown = other.grown;
    same = λ number callee got. other.same number callee (one.same number callee got);
  }

  pub grown_by_none : (before after : Growth) → before.bodies.items ≡ after.bodies.items → MayGrow class after → HasGrown class before after
  grown_by_none before after same may = record {
    grown = may;
    same = λ number callee got. subst (λ (bodies : List Body). slice_get (callees_of bodies) number ≡ Some callee) same got;
  }

  all_last : (bodies : List Body) (body : Body) → AllByRecursion (IsWhole class.tree.now class.typed.now) bodies → IsWhole class.tree.now class.typed.now body → AllByRecursion (IsWhole class.tree.now class.typed.now) (bodies ++ body ∷ [])
  all_last [] body all last = (last, tt)
  all_last (first ∷ bodies) body all last = (all.0, all_last bodies body all.1 last)

  pub grown_by_body : (before after : Growth) (body : Body)
      → MayGrow class before
      → IsWhole class.tree.now class.typed.now body
      → after.bodies.items ≡ before.bodies.items ++ body ∷ []
      → AreRight class.tree.now class.typed.now class.number after.verdicts
      → HasGrown class before after
  grown_by_body before after body may whole pushed right = record {
    grown = record {
      right = right;
      whole = subst (AllByRecursion (IsWhole class.tree.now class.typed.now)) (sym pushed) (all_last before.bodies.items body may.whole whole);
    };
    same = pushed_stay before.bodies.items after.bodies.items body pushed;
  }

-- ---- the body of a callee

pub callee_of_body : (callees : List Callee) (body : Body) (method : CodedMethod) (all : List Step)
    → body.at ≡ method.at → body.host ≡ method.host → body.frames.now ≡ method.frames.now → body.steps ≡ all
    → callee_by callees body ≡ record { coded = record { at = method.at; scope = method.host; frames = method.frames.now }; inner = expansion_by callees all }
callee_of_body callees body method all at host frames steps_are =
    λ i. record { coded = record { at = at i; scope = host i; frames = frames i }; inner = expansion_by callees (steps_are i) }

pub whole_of_body : (classes : Classes) (typed : FolderFrames) (body : Body) (method : CodedMethod) (all : List Step)
    → body.at ≡ method.at → body.host ≡ method.host → body.frames.now ≡ method.frames.now → body.steps ≡ all
    → Stands classes typed method → length all ≡ length (instructions method.host)
    → IsWhole classes typed body
whole_of_body classes typed body method all at host frames steps_are stands long = record {
  stands =
      subst (λ (m : MethodAt). HasFrames classes typed m body.host body.frames.now) (sym at)
      (subst (λ (s : Scope). HasFrames classes typed method.at s body.frames.now) (sym host)
      (subst (λ (f : List Frame). HasFrames classes typed method.at method.host f) (sym frames) stands));
  steps = ap (λ (list : List Step). length list) steps_are ∙ long ∙ ap (λ (s : Scope). length (instructions s)) (sym host);
}

-- ---- a call that is replaced

module _ (classes : Classes) (typed : FolderFrames) (host : MethodAt) (chain : List MethodAt) (from : MethodAt) (placed : Placed)
    (once : (s : Scope) (at : ℕ) (one other : MethodAt) → Calls classes s at one → Calls classes s at other → one ≡ other)
    (callee : CodedMethod) (is : IsReplacement classes typed host chain from placed.at callee) (before after : Growth) where
  pub step_of_body : (step : Option Step) → IsBodyFound classes typed host chain callee before after step → IsStepFound classes typed host chain from placed before after step
  step_of_body (Some (steps.Replaced number)) found =
      (record { coded = record { at = callee.at; scope = callee.host; frames = callee.frames.now }; inner = found.0 }, found.1, is.replaced, is.only, found.2)
  step_of_body (Some steps.Stays) found = elim found [ ]
  step_of_body (Some (steps.Site class)) found = elim found [ ]
  step_of_body None long = λ instrs expansion all.
      callee_is_long classes typed host chain from placed before.left (record { at = callee.at; scope = callee.host; frames = callee.frames.now }) is.stands
      (λ class a_site. site_or_call classes typed host once chain from placed.at class callee.at a_site is.replaced)
      is.replaced is.only long instrs (placed ∷ instrs) expansion all refl

pub other_line : (classes : Classes) (typed : FolderFrames) (line : List MethodAt) (host : MethodAt) (chain : List MethodAt) (method : CodedMethod) (before after : Growth) (all : Option (List Step))
    → line ≡ host ∷ chain
    → AreStepsFound classes typed (host_of line) (chain_of line) method before after all
    → AreStepsFound classes typed host chain method before after all
other_line classes typed line host chain method before after all is found =
    subst (λ (l : List MethodAt). AreStepsFound classes typed (host_of l) (chain_of l) method before after all) is found
