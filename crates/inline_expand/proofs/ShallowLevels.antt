-- What methods need, step by step.
use Rattle.std.proofs.Common.{◌≡◌, ◌⊎◌, ◌==◌, true, ℕ, suc, List, [], ◌∷◌, ◌++◌, length, refl, sym, subst, inl, inr, arith}
use Rattle.std.proofs.lemmas.Bool.{eqb-true}
use Rattle.class_model.specs.declared.class_file.MethodAt.{MethodAt}
use Rattle.class_tree.specs.Headers.{Classes}
use Rattle.flow_code.specs.TypedFrames.{FolderFrames}
use Rattle.inline_expand.proofs.Founding.{needed_is_founded}
use Rattle.inline_expand.proofs.MethodLists.{among_front, among_last, among_more}
use Rattle.inline_expand.specs.Inner.Chains.{AreReady, AreShallow, IsNeeded, IsNoneOf, IsShallow, NoneIsOneOf}
use Rattle.inline_expand.specs.Inner.MethodSets.{Adds, AddsAll}
use Rattle.inline_expand.specs.Inner.Ready.{IsReady, Needs}
use Rattle.inline_expand.specs.Inner.Stacks.{IsAmong}
use Rattle.inline_expand.specs.Inner.Walks.{NeedsThese}

-- ---- lists

pub each_none : (others methods : List MethodAt) → NoneIsOneOf others methods → (at : MethodAt) → IsAmong methods at → IsNoneOf others at
each_none others (first ∷ methods) none at (inl e) = subst (IsNoneOf others) (sym e) none.0
each_none others (first ∷ methods) none at (inr is) = each_none others methods none.1 at is
each_none others [] none at is = elim is [ ]

pub none_each : (others methods : List MethodAt) → ((at : MethodAt) → IsAmong methods at → IsNoneOf others at) → NoneIsOneOf others methods
none_each others [] each = tt
none_each others (first ∷ methods) each = (each first (inl refl), none_each others methods (λ at is. each at (inr is)))

-- ---- a step

module _ (classes : Classes) (typed : FolderFrames) (outer : List MethodAt) where
  -- a level is shallow where none of it is one of the others, and what it needs is shallow
  pub level_down : (left : ℕ) (level needs : List MethodAt) → IsNeeded classes typed level needs → AreShallow classes typed outer (suc left) level → AreShallow classes typed outer left needs
  level_down left level needs needed shallow need is =
      let from = needed.only need is in
      (shallow from.0 from.1).1 need from.2

  pub level_apart : (left : ℕ) (level : List MethodAt) → AreShallow classes typed outer (suc left) level → NoneIsOneOf outer level
  level_apart left level shallow = none_each outer level (λ at is. (shallow at is).0)

  pub level_up : (left : ℕ) (level needs : List MethodAt) → IsNeeded classes typed level needs → NoneIsOneOf outer level → AreShallow classes typed outer left needs → AreShallow classes typed outer (suc left) level
  level_up left level needs needed apart shallow at is =
      (each_none outer level apart at is, λ need needs_it. shallow need (needed.each at need is needs_it))

  pub none_left : (level : List MethodAt) → AreShallow classes typed outer 0 level → level ≡ []
  none_left [] shallow = refl
  none_left (first ∷ level) shallow = absurd (shallow first (inl refl))

-- ---- the walk by levels

pub record Descends (classes : Classes) (typed : FolderFrames) (host : ℕ) (outer : List MethodAt) (steps : ℕ) (root : MethodAt) (left : ℕ) (level : List MethodAt) : Type 0 where
  pub down : IsShallow classes typed outer steps root → AreShallow classes typed outer left level
  pub up : AreShallow classes typed outer left level → IsShallow classes typed outer steps root
  pub ready : AreReady classes typed host level

module _ (classes : Classes) (typed : FolderFrames) (host : ℕ) (outer : List MethodAt) (steps : ℕ) (root : MethodAt) where
  pub descends_first : (level : List MethodAt) → IsReady classes typed host root → Adds [] level root → Descends classes typed host outer steps root steps level
  descends_first level ready adds = record {
    down = λ shallow at is. subst (IsShallow classes typed outer steps) (sym (is_root at (adds.only at is))) shallow;
    up = λ shallow. shallow root adds.here;
    ready = λ at is. subst (IsReady classes typed host) (sym (is_root at (adds.only at is))) ready;
  } where
    is_root : (at : MethodAt) → IsAmong [] at ⊎ (at ≡ root) → at ≡ root
    is_root at (inl none) = elim none [ ]
    is_root at (inr e) = e

  pub descends_on : (before left : ℕ) (level needs : List MethodAt) → before ≡ suc left → Descends classes typed host outer steps root before level → IsNeeded classes typed level needs → NoneIsOneOf outer level → Descends classes typed host outer steps root left needs
  descends_on before left level needs is began needed apart =
      let descends : Descends classes typed host outer steps root (suc left) level = subst (λ (n : ℕ). Descends classes typed host outer steps root n level) is began in
      record {
        down = λ shallow. level_down classes typed outer left level needs needed (descends.down shallow);
        up = λ shallow. descends.up (level_up classes typed outer left level needs needed apart shallow);
        ready = λ need is. (let from = needed.only need is in needed_is_founded from.0 need (descends.ready from.0 from.1) from.2);
      }

  pub stops : (before left : ℕ) (level : List MethodAt) → before ≡ suc left → Descends classes typed host outer steps root before level → ¬ NoneIsOneOf outer level → ¬ IsShallow classes typed outer steps root
  stops before left level is began some shallow =
      let descends : Descends classes typed host outer steps root (suc left) level = subst (λ (n : ℕ). Descends classes typed host outer steps root n level) is began in
      some (level_apart classes typed outer left level (descends.down shallow))

  pub ends : (left : ℕ) (level : List MethodAt) → left ≡ 0 → Descends classes typed host outer steps root left level → IsShallow classes typed outer steps root → level ≡ []
  ends left level is began shallow =
      none_left classes typed outer level (subst (λ (n : ℕ). AreShallow classes typed outer n level) is (began.down shallow))

  pub no_more_level : (left : ℕ) (level : List MethodAt) → Descends classes typed host outer steps root left level → level ≡ [] → IsShallow classes typed outer steps root
  no_more_level left level descends none = descends.up (subst (AreShallow classes typed outer left) (sym none) (λ at is. elim is [ ]))

-- ---- what a level needs

pub needed_none : (classes : Classes) (typed : FolderFrames) → IsNeeded classes typed [] []
needed_none classes typed = record { each = λ at need none. elim none [ ]; only = λ need none. elim none [ ] }

pub needed_more : (classes : Classes) (typed : FolderFrames) (host : ℕ) (methods more before after needs : List MethodAt) (at : MethodAt)
    → IsNeeded classes typed methods before
    → NeedsThese classes typed host at needs
    → AddsAll before after needs
    → more ≡ methods ++ at ∷ []
    → IsNeeded classes typed more after
needed_more classes typed host methods more before after needs at needed has adds is =
    subst (λ (list : List MethodAt). IsNeeded classes typed list after) (sym is) (record {
      each = λ one need among needs_it. by one need needs_it (among_more methods at one among);
      only = λ need among. from need (adds.only need among);
    }) where
      by : (one need : MethodAt) → Needs classes typed one need → IsAmong methods one ⊎ (one ≡ at) → IsAmong after need
      by one need needs_it (inl among) = adds.keeps need (needed.each one need among needs_it)
      by one need needs_it (inr e) = adds.here need (has.each need (subst (λ (m : MethodAt). Needs classes typed m need) e needs_it))

      from : (need : MethodAt) → IsAmong before need ⊎ IsAmong needs need → (one : MethodAt) × IsAmong (methods ++ at ∷ []) one × Needs classes typed one need
      from need (inl among) =
          let old = needed.only need among in
          (old.0, among_front methods (at ∷ []) old.0 old.1, old.2)
      from need (inr among) = (at, among_last methods at, has.only need among)

pub no_items : (methods : List MethodAt) → length methods == 0 ≡ true → methods ≡ []
no_items [] is = refl
no_items (first ∷ methods) is = absurd (omega (arith, eqb-true (length (first ∷ methods)) 0 is))
