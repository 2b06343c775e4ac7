-- The call of an initialiser is replaced with all that it needs exactly where all this is near enough and none of it is in the chain.
use Rattle.std.proofs.Common.{◌≡◌, ◌≢◌, ◌⊎◌, ℕ, zero, suc, ◌+◌, ◌<◌, List, [], ◌∷◌, length, refl, sym, subst, ◌∙◌, inl, inr, arith}
use Rattle.class_model.specs.declared.class_file.MethodAt.{MethodAt}
use Rattle.class_tree.specs.Headers.{Classes}
use Rattle.expanded_code.specs.Callees.{Calls}
use Rattle.expanded_code.specs.Sites.{Constructs, MayFollow, constructs}
use Rattle.flow_code.specs.TypedFrames.{FolderFrames}
use Rattle.inline_expand.proofs.Founding.{no_circle, then_needs}
use Rattle.inline_expand.proofs.ReadyCalls.{from_callee, need_here, one_callee, to_callee}
use Rattle.inline_expand.specs.Inner.Chains.{IsNoneOf, IsShallow}
use Rattle.inline_expand.specs.Inner.Founded.{Leads, founded, leads_at_once}
use Rattle.inline_expand.specs.Inner.Ready.{CallsAtMost, CallsOnThis, IsReady, Needs}
use Rattle.inline_expand.specs.Inner.Stacks.{IsAmong}
use Rattle.member_link.specs.Scope.{Scope}

-- ---- lists of methods

pub none_among : (methods : List MethodAt) (at other : MethodAt) → IsNoneOf methods at → IsAmong methods other → other ≢ at
none_among [] at other none is = elim is [ ]
none_among (first ∷ methods) at other none (inl e) = λ same. none.0 (sym e ∙ same)
none_among (first ∷ methods) at other none (inr is) = none_among methods at other none.1 is

pub none_of_each : (methods : List MethodAt) (at : MethodAt) → ((other : MethodAt) → IsAmong methods other → other ≢ at) → IsNoneOf methods at
none_of_each [] at each = tt
none_of_each (first ∷ methods) at each = (each first (inl refl), none_of_each methods at (λ other is. each other (inr is)))

module _ (classes : Classes) (typed : FolderFrames) (host : MethodAt)
    (once : (s : Scope) (at : ℕ) (one other : MethodAt) → Calls classes s at one → Calls classes s at other → one ≡ other) where
  -- ---- what is replaced is shallow

  pub constructs_shallow : (chain : List MethodAt) (from : MethodAt) (at : ℕ)
      → Constructs classes typed host chain from at
      → (outer : List MethodAt) (left : ℕ)
      → ((other : MethodAt) → IsAmong outer other → IsAmong (host ∷ chain) other)
      → length chain + left ≡ 6
      → (callee : MethodAt)
      → CallsAtMost classes typed from at callee
      → IsShallow classes typed outer left callee
  constructs_shallow _ _ _ (constructs chain from at own scope frames callee_is follows has parts) outer zero within six callee calls = absurd (six_left follows.short six) where
    six_left : length chain < 6 → length chain + 0 ≡ 6 → ⊥
    six_left short six = omega arith
  constructs_shallow _ _ _ (constructs chain from at own scope frames callee_is follows has parts) outer (suc left) within six callee calls =
      subst (IsShallow classes typed outer (suc left)) same (
        none_of_each outer own (λ other is. none_among (host ∷ chain) own other follows.other (within other is)),
        λ need needs.
            let on = need_here classes typed once own need scope frames has needs in
            constructs_shallow (own ∷ chain) own needs.within (parts needs.within on.reference on.own on.is on.other) outer left
            (λ other is. wider other (within other is)) (omega (arith, six)) need needs.calls,
      ) where
        same : own ≡ callee
        same = one_callee classes typed once from at own callee (from_callee classes typed once host.class from at own callee_is).0 calls

        wider : (other : MethodAt) → IsAmong (host ∷ chain) other → IsAmong (host ∷ own ∷ chain) other
        wider other (inl e) = inl e
        wider other (inr is) = inr (inr is)

  -- ---- what is shallow is replaced

  -- a callee behind a chain, each of which was tested or leads to it
  shallow_follows : (outer chain : List MethodAt) (left : ℕ) (callee : MethodAt)
      → length chain + suc left ≡ 6
      → IsReady classes typed host.class callee
      → IsNoneOf outer callee
      → ((other : MethodAt) → IsAmong (host ∷ chain) other → IsAmong outer other ⊎ Leads (Needs classes typed) other callee)
      → MayFollow host chain callee
  shallow_follows outer chain left callee six ready none each = record {
    short = omega (arith, six);
    other = none_of_each (host ∷ chain) callee (λ other is. by other (each other is));
  } where
    by : (other : MethodAt) → IsAmong outer other ⊎ Leads (Needs classes typed) other callee → other ≢ callee
    by other (inl is) = none_among outer callee other none is
    by other (inr leads) = λ same. no_circle callee ready (subst (λ (m : MethodAt). Leads (Needs classes typed) m callee) same leads)

  pub shallow_constructs : (outer : List MethodAt) (left : ℕ) (chain : List MethodAt) (from : MethodAt) (at : ℕ) (callee : MethodAt)
      → length chain + left ≡ 6
      → CallsAtMost classes typed from at callee
      → IsReady classes typed host.class callee
      → IsShallow classes typed outer left callee
      → ((other : MethodAt) → IsAmong (host ∷ chain) other → IsAmong outer other ⊎ Leads (Needs classes typed) other callee)
      → Constructs classes typed host chain from at
  shallow_constructs outer zero chain from at callee six calls ready shallow each = elim shallow [ ]
  shallow_constructs outer (suc left) chain from at _ six calls (founded callee fits parts) shallow each =
      let ready : IsReady classes typed host.class callee = founded callee fits parts in
      constructs chain from at callee fits.scope fits.frames
      (to_callee classes typed host.class callee ready from at calls)
      (shallow_follows outer chain left callee six ready shallow.0 each)
      fits.is
      (λ within reference own init other.
      let on : CallsOnThis fits.scope fits.frames within = record { own = own; reference = reference; is = init; other = other } in
      let inner = fits.called within on in
      let need : Needs classes typed callee inner.0 = record { scope = fits.scope; frames = fits.frames; is = fits.is; within = within; on_this = on; calls = inner.1 } in
      shallow_constructs outer left (callee ∷ chain) callee within inner.0 (omega (arith, six)) inner.1 (parts inner.0 need) (shallow.1 inner.0 need)
      (λ other is. further need (rotated other is))) where
        rotated : (other : MethodAt) → IsAmong (host ∷ callee ∷ chain) other → (other ≡ callee) ⊎ IsAmong (host ∷ chain) other
        rotated other (inl e) = inr (inl e)
        rotated other (inr (inl e)) = inl e
        rotated other (inr (inr is)) = inr (inr is)

        further : {inner other : MethodAt} → Needs classes typed callee inner → (other ≡ callee) ⊎ IsAmong (host ∷ chain) other → IsAmong outer other ⊎ Leads (Needs classes typed) other inner
        further {inner} {other} need (inl e) = inr (subst (λ (m : MethodAt). Leads (Needs classes typed) m inner) (sym e) (leads_at_once callee inner need))
        further {inner} {other} need (inr is) = led (each other is) where
          led : IsAmong outer other ⊎ Leads (Needs classes typed) other callee → IsAmong outer other ⊎ Leads (Needs classes typed) other inner
          led (inl among) = inl among
          led (inr leads) = inr (then_needs other callee inner leads need)
