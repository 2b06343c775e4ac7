-- The methods that a method calls on its own uninitialised object, one instruction after the other.
use Rattle.std.proofs.Common.{◌≡◌, ◌≢◌, ◌⊎◌, ◌==◌, ◌+◌, ◌<◌, ℕ, suc, Bool, true, false, List, [], ◌∷◌, ◌++◌, length, slice_get, Option, Some, None, option_map, if◌then◌else◌, refl, sym, ap, subst, ◌∙◌, inl, inr, arith}
use Rattle.std.proofs.lemmas.Bool.{cases_eq, eqb-true}
use Rattle.std.proofs.lemmas.Option.{none-some, same_Some}
use Rattle.class_model.specs.declared.class_file.ClassFile.{ClassFile}
use Rattle.class_model.specs.declared.class_file.MethodAt.{MethodAt}
use Rattle.class_model.specs.declared.frame.Frame.{Frame}
use Rattle.class_model.specs.declared.instr.Instr.{Instr}
use Rattle.class_model.specs.declared.instr.Placed.{Placed}
use Rattle.class_tree.specs.Headers.{Classes}
use Rattle.expanded_code.specs.Callees.{MayStandIn, instr_at}
use Rattle.flow_code.specs.TypedFrames.{FolderFrames}
use Rattle.inline_expand.proofs.Founding.{needed_is_founded}
use Rattle.inline_expand.proofs.MethodLists.{among_front, among_last, among_more}
use Rattle.inline_expand.proofs.ReadyCalls.{one_list, one_scope}
use Rattle.inline_expand.specs.Inner.Coded.{Stands}
use Rattle.inline_expand.specs.Inner.Founded.{founded}
use Rattle.inline_expand.specs.Inner.Ready.{CallsAtMost, CallsOnThis, Fits, IsReady, Needs}
use Rattle.inline_expand.specs.Inner.ReadyCallees.{AddsKnown, CallsBefore, CallsEach, CallsThese, FindsCallee, IsTheCallee, KnownCall}
use Rattle.inline_expand.specs.Inner.Stacks.{IsAmong}
use Rattle.inline_expand.specs.Inner.Walks.{HasNeeds, NeedsThese}
use Rattle.inline_expand.specs.declared.coded.CodedMethod.{CodedMethod}
use Rattle.member_link.specs.CodedMethods.{placed_at}
use Rattle.member_link.specs.Scope.{Scope, instructions}

-- ---- an instruction at an offset has a number

pub record PlacedThere (instrs : List Placed) (at : ℕ) : Type 0 where
  pub number : ℕ
  pub placed : Placed
  pub is : slice_get instrs number ≡ Some placed
  pub within : number < length instrs
  pub here : placed.at ≡ at

pub placed_there : (instrs : List Placed) (at : ℕ) (placed : Placed) → placed_at instrs at ≡ Some placed → PlacedThere instrs at
placed_there [] at placed is = absurd (none-some placed is)
placed_there (first ∷ instrs) at placed is = by (first.at == at) refl is (placed_there instrs at placed) where
  by : (b : Bool) → first.at == at ≡ b → (if b then Some first else placed_at instrs at) ≡ Some placed → (placed_at instrs at ≡ Some placed → PlacedThere instrs at) → PlacedThere (first ∷ instrs) at
  by true same is further = record { number = 0; placed = first; is = refl; within = omega arith; here = eqb-true first.at at same }
  by false same is further = let there = further is in record { number = suc there.number; placed = there.placed; is = there.is; within = omega (arith, there.within); here = there.here }

pub instr_there : (s : Scope) (at : ℕ) (instr : Instr) → instr_at s at ≡ Some instr → PlacedThere (instructions s) at
instr_there s at instr is = by (placed_at (instructions s) at) refl is where
  by : (found : Option Placed) → placed_at (instructions s) at ≡ found → option_map (λ placed. placed.instr) found ≡ Some instr → PlacedThere (instructions s) at
  by None found is = absurd (none-some instr is)
  by (Some placed) found is = placed_there (instructions s) at placed found

pub on_this_there : (s : Scope) (frames : List Frame) (at : ℕ) → CallsOnThis s frames at → PlacedThere (instructions s) at
on_this_there s frames at on = instr_there s at _ on.is.is_call.is

-- ---- one call

module _ (classes : Classes) (typed : FolderFrames) (method : CodedMethod) where
  pub adds_nothing : (at : ℕ) (before : List MethodAt) → ¬ CallsOnThis method.host method.frames.now at → AddsKnown classes typed method at before before
  adds_nothing at before none = record {
    known = λ on. absurd (none on);
    keeps = λ other is. is;
    only = λ other is. inl is;
  }

  pub adds_callee : (at : ℕ) (before after : List MethodAt) (callee : CodedMethod)
      → Stands classes typed method
      → CallsOnThis method.host method.frames.now at
      → IsTheCallee classes typed method.at at callee
      → after ≡ before ++ callee.at ∷ []
      → AddsKnown classes typed method at before after
  adds_callee at before after callee stands on is grown =
      subst (AddsKnown classes typed method at before) (sym grown) (record {
        known = λ on. record { callee = callee.at; calls = is.calls; only = is.only; among = among_last before callee.at };
        keeps = λ other among. among_front before (callee.at ∷ []) other among;
        only = λ other among. added other (among_more before callee.at other among);
      }) where
        need : Needs classes typed method.at callee.at
        need = record { scope = method.host; frames = method.frames.now; is = stands; within = at; on_this = on; calls = is.calls }

        added : (other : MethodAt) → IsAmong before other ⊎ (other ≡ callee.at) → IsAmong before other ⊎ Needs classes typed method.at other
        added other (inl among) = inl among
        added other (inr e) = inr (subst (Needs classes typed method.at) (sym e) need)

  -- ---- one call after the other

  pub none_before : CallsBefore classes typed method 0 []
  none_before = record { known = λ number placed below. absurd (omega (arith, below)); only = λ need none. elim none [ ] }

  pub one_more_call : (count : ℕ) (before after : List MethodAt) (placed : Placed)
      → slice_get (instructions method.host) count ≡ Some placed
      → CallsBefore classes typed method count before
      → AddsKnown classes typed method placed.at before after
      → CallsBefore classes typed method (count + 1) after
  one_more_call count before after placed there calls adds = record {
    known = λ number other below is on. by number other below is on (cases_eq number count);
    only = λ need among. needed need (adds.only need among);
  } where
    by : (number : ℕ) (other : Placed) → number < count + 1 → slice_get (instructions method.host) number ≡ Some other → CallsOnThis method.host method.frames.now other.at → (number ≡ count) ⊎ (number ≢ count) → KnownCall classes typed method.at other.at after
    by number other below is on (inl same) =
        let here : placed ≡ other = same_Some placed other (sym there ∙ ap (slice_get (instructions method.host)) (sym same) ∙ is) in
        subst (λ (p : Placed). KnownCall classes typed method.at p.at after) here (adds.known (subst (λ (p : Placed). CallsOnThis method.host method.frames.now p.at) (sym here) on))
    by number other below is on (inr apart) =
        let known = calls.known number other (omega (arith, below, apart)) is on in
        record { callee = known.callee; calls = known.calls; only = known.only; among = adds.keeps known.callee known.among }

    needed : (need : MethodAt) → IsAmong before need ⊎ Needs classes typed method.at need → Needs classes typed method.at need
    needed need (inl among) = calls.only need among
    needed need (inr needs) = needs

  -- ---- all of them

  module _ (stands : Stands classes typed method) where
    on_here : (scope : Scope) (frames : List Frame) (at : ℕ) → scope ≡ method.host → frames ≡ method.frames.now → CallsOnThis scope frames at → CallsOnThis method.host method.frames.now at
    on_here scope frames at is are on = subst (λ (f : List Frame). CallsOnThis method.host f at) are (subst (λ (s : Scope). CallsOnThis s frames at) is on)

    need_on : (need : MethodAt) → (needs : Needs classes typed method.at need) → CallsOnThis method.host method.frames.now needs.within
    need_on need needs =
        on_here needs.scope needs.frames needs.within
        (one_scope classes typed method.at needs.scope method.host needs.frames method.frames.now needs.is stands)
        (one_list classes typed method.at needs.scope method.host needs.frames method.frames.now needs.is stands) needs.on_this

    pub calls_each : (count : ℕ) (callees : List MethodAt) → count ≡ length (instructions method.host) → CallsBefore classes typed method count callees → CallsEach classes typed method callees
    calls_each count callees all calls = record {
      called = λ within on. (let known = known_at within on in (known.callee, known.calls));
      each = λ need needs. among_of need needs.within (known_at needs.within (need_on need needs)) needs.calls;
      only = calls.only;
    } where
      known_at : (within : ℕ) → CallsOnThis method.host method.frames.now within → KnownCall classes typed method.at within callees
      known_at within on =
          let there = on_this_there method.host method.frames.now within on in
          subst (λ (at : ℕ). KnownCall classes typed method.at at callees) there.here
          (calls.known there.number there.placed (omega (arith, there.within, all)) there.is (subst (CallsOnThis method.host method.frames.now) (sym there.here) on))

      among_of : (need : MethodAt) (within : ℕ) → KnownCall classes typed method.at within callees → CallsAtMost classes typed method.at within need → IsAmong callees need
      among_of need within known calls = subst (IsAmong callees) (sym (known.only need calls)) known.among

    -- a call that can't be replaced
    pub own_fails : (at : ℕ) → CallsOnThis method.host method.frames.now at × FindsCallee classes typed method.at at None → (host : ℕ) → ¬ IsReady classes typed host method.at
    own_fails at fails host ready = of_fits ready (fits_there host method.at ready) where
      fits_there : (host : ℕ) (at : MethodAt) → IsReady classes typed host at → Fits classes typed host at
      fits_there host _ (founded callee fits parts) = fits

      of_fits : IsReady classes typed host method.at → Fits classes typed host method.at → ⊥
      of_fits ready fits =
          let scope : fits.scope ≡ method.host = one_scope classes typed method.at fits.scope method.host fits.frames method.frames.now fits.is stands in
          let frames : fits.frames ≡ method.frames.now = one_list classes typed method.at fits.scope method.host fits.frames method.frames.now fits.is stands in
          let on = subst (λ (f : List Frame). CallsOnThis fits.scope f at) (sym frames) (subst (λ (s : Scope). CallsOnThis s method.frames.now at) (sym scope) fails.0) in
          let inner = fits.called at on in
          let need : Needs classes typed method.at inner.0 = record { scope = fits.scope; frames = fits.frames; is = fits.is; within = at; on_this = on; calls = inner.1 } in
          fails.1 host inner.0 inner.1 (needed_is_founded method.at inner.0 ready need)

-- ---- what a method needs

pub has_needs : (classes : Classes) (typed : FolderFrames) (host : ℕ) (host_class : ClassFile) (at : MethodAt) (method : CodedMethod)
    → slice_get classes.folder host ≡ Some host_class
    → method.at ≡ at
    → Stands classes typed method
    → MayStandIn classes host_class method.host method.frames.now
    → (callees : Option (List MethodAt))
    → CallsThese classes typed method callees
    → HasNeeds classes typed host at callees
has_needs classes typed host host_class at method is_host same stands may None none = λ ready. none host (subst (IsReady classes typed host) (sym same) ready)
has_needs classes typed host host_class at method is_host same stands may (Some callees) calls =
    subst (λ (m : MethodAt). NeedsThese classes typed host m callees) same (record {
      fits = record { host_class = host_class; is_host = is_host; scope = method.host; frames = method.frames.now; is = stands; stands = may; called = calls.called };
      each = calls.each;
      only = calls.only;
    })
