-- Callees in place of calls.
use Rattle.std.proofs.Common.{◌≡◌, ℕ, List, Option, Some, None, true, is_some, IsTrue, Bor, refl, sym, subst}
use Rattle.std.specs.Option.{option_copied}
use Rattle.class_model.specs.declared.class_file.MethodAt.{MethodAt}
use Rattle.class_model.specs.declared.frame.Frame.{Frame}
use Rattle.class_model.specs.declared.frame.VType.{VType}
use Rattle.class_model.specs.declared.frame.VType.TheVariants.{Uninit, UninitThis}
use Rattle.class_tree.specs.Headers.{Name, Classes}
use Rattle.expanded_code.specs.Callees.{InitialisesAt, IsCallee}
use Rattle.expanded_code.specs.Sites.{Constructs, HasFrames, IsReplaced, IsSite, MayFollow}
use Rattle.flow_code.specs.TypedFrames.{FolderFrames}
use Rattle.inline_expand.proofs.Initialisations.{new_is_not_this, one_object}
use Rattle.inline_expand.proofs.ReadyCalls.{one_list, one_scope}
use Rattle.inline_expand.proofs.SiteLaws.{uninit_same}
use Rattle.inline_expand.specs.Inner.Coded.{Stands}
use Rattle.inline_expand.specs.Inner.Initialised.{IsInitialisation}
use Rattle.inline_expand.specs.Inner.ReadyCallees.{IsCalleeFound, IsReadyCallee}
use Rattle.inline_expand.specs.Inner.Replacements.{InitialisesKept, IsReplacement, IsReplacementFound}
use Rattle.inline_expand.specs.Inner.SiteTables.{IsSiteFound}
use Rattle.inline_expand.specs.declared.coded.CodedMethod.{CodedMethod}
use Rattle.inline_expand.specs.declared.initialised.Object.TheVariants as made
use Rattle.member_link.specs.References.{Reference}
use Rattle.member_link.specs.Scope.{Scope, is_init}

module _ (classes : Classes) (typed : FolderFrames) (host : MethodAt) (chain : List MethodAt) (method : CodedMethod) (at : ℕ) where
  -- ---- the object

  pub none_kept : IsInitialisation method.host method.frames.now at None → InitialisesKept classes typed host chain method at
  none_kept none = record {
    of_site = λ new reference init. absurd (none (made.New new) reference init);
    of_this = λ reference init. absurd (none made.This reference init);
  }

  module _ (new : ℕ) (reference : Reference) (init : InitialisesAt method.host method.frames.now at (Uninit new) reference) where
    pub site_kept : (class : Name) → IsSite classes typed host chain method.at new class → InitialisesKept classes typed host chain method at
    site_kept class site = record {
      of_site = λ other also init_also. (
        class,
        subst (λ (n : ℕ). IsSite classes typed host chain method.at n class)
            (uninit_same new other (one_object method.host method.frames.now at (Uninit new) (Uninit other) reference also init init_also)) site,
      );
      of_this = λ also init_also. absurd (new_is_not_this new (one_object method.host method.frames.now at (Uninit new) UninitThis reference also init init_also));
    }

    pub kept_if_found : (found : Option (Bor Name)) → IsSiteFound classes typed host chain method.at new (option_copied found) → is_some found ≡ true → InitialisesKept classes typed host chain method at
    kept_if_found None none is = absurd cc
    kept_if_found (Some class) site is = site_kept class.now site

    pub found_if_kept : (found : Option (Bor Name)) → IsSiteFound classes typed host chain method.at new (option_copied found) → InitialisesKept classes typed host chain method at → is_some found ≡ true
    found_if_kept None none kept = let site = kept.of_site new reference init in absurd (none site.0 site.1)
    found_if_kept (Some class) site kept = refl

  module _ (reference : Reference) (init : InitialisesAt method.host method.frames.now at UninitThis reference) where
    pub this_kept : IsTrue (is_init method.host) → Constructs classes typed host chain method.at at → InitialisesKept classes typed host chain method at
    this_kept own constructed = record {
      of_site = λ new also init_also. absurd (new_is_not_this new (sym (one_object method.host method.frames.now at UninitThis (Uninit new) reference also init init_also)));
      of_this = λ also init_also. (own, constructed);
    }

    pub kept_this : InitialisesKept classes typed host chain method at → IsTrue (is_init method.host) × Constructs classes typed host chain method.at at
    kept_this kept = kept.of_this reference init

  -- ---- the call

  module _ (stands : Stands classes typed method) where
    init_here : (scope : Scope) (frames : List Frame) (object : VType) (reference : Reference) → HasFrames classes typed method.at scope frames → InitialisesAt scope frames at object reference → InitialisesAt method.host method.frames.now at object reference
    init_here scope frames object reference is init =
        subst (λ (f : List Frame). InitialisesAt method.host f at object reference) (one_list classes typed method.at scope method.host frames method.frames.now is stands)
        (subst (λ (s : Scope). InitialisesAt s frames at object reference) (one_scope classes typed method.at scope method.host frames method.frames.now is stands) init)

    pub kept_of_replaced : (callee : MethodAt) → IsReplaced classes typed host chain method.at at callee → InitialisesKept classes typed host chain method at
    kept_of_replaced callee replaced = record {
      of_site = λ new reference init. replaced.of_site method.host method.frames.now new reference stands init;
      of_this = λ reference init. replaced.of_this method.host method.frames.now reference stands init;
    }

    module _ (number : ℕ) (of_host : host.class ≡ number) where
      callee_here : (callee : MethodAt) → IsReplaced classes typed host chain method.at at callee → IsCallee classes typed number method.at at callee
      callee_here callee replaced = subst (λ (n : ℕ). IsCallee classes typed n method.at at callee) of_host replaced.is_callee

      pub none_replaced : IsCalleeFound classes typed number method.at at None → IsReplacementFound classes typed host chain method.at at None
      none_replaced none callee replaced = none callee (callee_here callee replaced)

      module _ (callee : CodedMethod) (found : IsReadyCallee classes typed number method.at at callee) where
        follows_here : (other : MethodAt) → IsReplaced classes typed host chain method.at at other → MayFollow host chain callee.at
        follows_here other replaced = subst (MayFollow host chain) (found.only other (callee_here other replaced)) replaced.follows

        pub not_following : ¬ MayFollow host chain callee.at → IsReplacementFound classes typed host chain method.at at None
        not_following not other replaced = not (follows_here other replaced)

        pub not_kept : ¬ InitialisesKept classes typed host chain method at → IsReplacementFound classes typed host chain method.at at None
        not_kept not other replaced = not (kept_of_replaced other replaced)

        pub is_replaced : MayFollow host chain callee.at → InitialisesKept classes typed host chain method at → IsReplacement classes typed host chain method.at at callee
        is_replaced follows kept = record {
          stands = found.stands;
          replaced = record {
            is_callee = subst (λ (n : ℕ). IsCallee classes typed n method.at at callee.at) (sym of_host) found.is_callee;
            follows = follows;
            of_site = λ scope frames new reference is init. kept.of_site new reference (init_here scope frames (Uninit new) reference is init);
            of_this = λ scope frames reference is init. let here = kept.of_this reference (init_here scope frames UninitThis reference is init) in (
              subst (λ (s : Scope). IsTrue (is_init s)) (sym (one_scope classes typed method.at scope method.host frames method.frames.now is stands)) here.0,
              here.1,
            );
          };
          only = λ other replaced. found.only other (callee_here other replaced);
        }
