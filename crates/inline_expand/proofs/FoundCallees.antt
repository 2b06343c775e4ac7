-- The method that a call runs, with its code and frames, as it is found.
use Rattle.std.proofs.Common.{◌≡◌, ◌↔◌, ℕ, List, Some, None, sym, subst, ◌∙◌, slice_get}
use Rattle.std.proofs.lemmas.Option.{none-some, same_Some}
use Rattle.class_model.specs.declared.class_file.MethodAt.{MethodAt}
use Rattle.class_model.specs.declared.frame.Frame.{Frame}
use Rattle.class_tree.specs.Headers.{Classes, headers_of}
use Rattle.expanded_code.specs.Callees.{Calls, IsCallee, ResultSaysAtMost, frame_behind, is_callee}
use Rattle.expanded_code.specs.Sites.{HasFrames}
use Rattle.flow_code.specs.TypedFrames.{FolderFrames}
use Rattle.inline_expand.proofs.ReadyCalls.{from_callee, one_list, one_scope, to_callee}
use Rattle.inline_expand.specs.Inner.Calls.{DecidesCall}
use Rattle.inline_expand.specs.Inner.Coded.{IsShortCoded, Stands}
use Rattle.inline_expand.specs.Inner.Founded.{founded}
use Rattle.inline_expand.specs.Inner.Ready.{CallsAtMost, Fits, IsReady}
use Rattle.inline_expand.specs.Inner.ReadyCallees.{FindsCallee, IsCalleeFound, IsReadyCallee, IsTheCallee}
use Rattle.inline_expand.specs.declared.coded.CodedMethod.{CodedMethod}
use Rattle.member_link.specs.Scope.{Scope, own_descriptor}
use Rattle.member_link.specs.Signatures.{result_of}

-- ---- the frame behind a call

abbrev pub SaysBehind : Classes → Scope → List Frame → ℕ → Scope → Type 0
SaysBehind classes caller before at callee =
    (behind : Frame)
    → frame_behind caller before at ≡ Some behind
    → ResultSaysAtMost (headers_of classes) (result_of (own_descriptor callee)) behind

module _ (classes : Classes) (caller : Scope) (before : List Frame) (at : ℕ) (callee : Scope) where
  pub says_at_frame : (frame : Frame) (says : Type 0) → frame_behind caller before at ≡ Some frame → (says ↔ ResultSaysAtMost (headers_of classes) (result_of (own_descriptor callee)) frame) → says ↔ SaysBehind classes caller before at callee
  says_at_frame frame says is told = (
    λ yes behind e. subst (ResultSaysAtMost (headers_of classes) (result_of (own_descriptor callee))) (same_Some frame behind (sym is ∙ e)) (told.0 yes),
    λ each. told.1 (each frame is),
  )

  pub says_nothing : frame_behind caller before at ≡ None → SaysBehind classes caller before at callee
  says_nothing none behind e = absurd (none-some behind (sym none ∙ e))

-- ---- the callee

module _ (classes : Classes) (typed : FolderFrames)
    (once : (s : Scope) (at : ℕ) (one other : MethodAt) → Calls classes s at one → Calls classes s at other → one ≡ other)
    (caller : CodedMethod) (stands : Stands classes typed caller) (at : ℕ) where
  calls_here : (callee : MethodAt) → CallsAtMost classes typed caller.at at callee → Calls classes caller.host at callee
  calls_here callee calls =
      subst (λ (s : Scope). Calls classes s at callee) (one_scope classes typed caller.at calls.caller caller.host calls.before caller.frames.now calls.is_caller stands) calls.calls

  pub none_called : DecidesCall classes caller.host at None → FindsCallee classes typed caller.at at None
  none_called none host callee calls ready = none callee (calls_here callee calls)

  module _ (method : MethodAt) (runs : Calls classes caller.host at method) where
    is_method : (callee : MethodAt) → CallsAtMost classes typed caller.at at callee → callee ≡ method
    is_method callee calls = once caller.host at callee method (calls_here callee calls) runs

    fits_of : (host : ℕ) (callee : MethodAt) → IsReady classes typed host callee → Fits classes typed host callee
    fits_of host _ (founded callee fits parts) = fits

    pub none_short : IsShortCoded classes typed method None → FindsCallee classes typed caller.at at None
    none_short none host callee calls ready =
        let fits = fits_of host callee ready in
        none fits.scope fits.frames (subst (λ (m : MethodAt). HasFrames classes typed m fits.scope fits.frames) (is_method callee calls) fits.is) fits.stands.short

    module _ (callee : CodedMethod) (short : IsShortCoded classes typed method (Some callee)) where
      pub it_says : SaysBehind classes caller.host caller.frames.now at callee.host → IsTheCallee classes typed caller.at at callee
      it_says says = record {
        stands = short.1;
        calls = record {
          caller = caller.host;
          before = caller.frames.now;
          is_caller = stands;
          scope = callee.host;
          frames = callee.frames.now;
          is_callee = short.1;
          calls = subst (λ (m : MethodAt). Calls classes caller.host at m) (sym short.0) runs;
          result = says;
        };
        only = λ other calls. is_method other calls ∙ sym short.0;
      }

      pub it_says_not : ¬ SaysBehind classes caller.host caller.frames.now at callee.host → FindsCallee classes typed caller.at at None
      it_says_not not host other calls ready = not (λ behind e. said other calls behind e) where
        scope_is : (other : MethodAt) (calls : CallsAtMost classes typed caller.at at other) → calls.scope ≡ callee.host
        scope_is other calls =
            one_scope classes typed callee.at calls.scope callee.host calls.frames callee.frames.now
            (subst (λ (m : MethodAt). HasFrames classes typed m calls.scope calls.frames) (is_method other calls ∙ sym short.0) calls.is_callee) short.1

        before_is : (other : MethodAt) (calls : CallsAtMost classes typed caller.at at other) → calls.before ≡ caller.frames.now
        before_is other calls = one_list classes typed caller.at calls.caller caller.host calls.before caller.frames.now calls.is_caller stands

        caller_is : (other : MethodAt) (calls : CallsAtMost classes typed caller.at at other) → calls.caller ≡ caller.host
        caller_is other calls = one_scope classes typed caller.at calls.caller caller.host calls.before caller.frames.now calls.is_caller stands

        said : (other : MethodAt) (calls : CallsAtMost classes typed caller.at at other) → SaysBehind classes caller.host caller.frames.now at callee.host
        said other calls =
            subst (SaysBehind classes caller.host caller.frames.now at) (scope_is other calls)
            (subst (λ (f : List Frame). SaysBehind classes caller.host f at calls.scope) (before_is other calls)
            (subst (λ (s : Scope). SaysBehind classes s calls.before at calls.scope) (caller_is other calls) calls.result))

-- ---- the callee that may be replaced

module _ (classes : Classes) (typed : FolderFrames) (host : ℕ) (from : MethodAt) (at : ℕ)
    (once : (s : Scope) (at : ℕ) (one other : MethodAt) → Calls classes s at one → Calls classes s at other → one ≡ other) where
  pub none_found : FindsCallee classes typed from at None → IsCalleeFound classes typed host from at None
  none_found none callee is =
      let h = from_callee classes typed once host from at callee is in
      none host callee h.0 h.1

  module _ (callee : CodedMethod) (found : IsTheCallee classes typed from at callee) where
    pub found_ready : IsReady classes typed host callee.at → IsReadyCallee classes typed host from at callee
    found_ready ready = record {
      stands = found.stands;
      is_callee = to_callee classes typed host callee.at ready from at found.calls;
      only = λ other is. found.only other (from_callee classes typed once host from at other is).0;
    }

    pub found_unready : ¬ IsReady classes typed host callee.at → IsCalleeFound classes typed host from at None
    found_unready not other is =
        let h = from_callee classes typed once host from at other is in
        not (subst (IsReady classes typed host) (found.only other h.0) h.1)

-- ---- what is asked by numbers

pub no_host_class : (classes : Classes) (typed : FolderFrames) (host : ℕ) (from : MethodAt) (at : ℕ) (callee : MethodAt) → slice_get classes.folder host ≡ None → ¬ IsCallee classes typed host from at callee
no_host_class classes typed host _ _ _ none (is_callee from at callee host_class caller scope before frames inner is_host is_caller are_before is_scope are_frames calls stands result parts) =
    none-some host_class (sym none ∙ is_host)

pub no_caller : (classes : Classes) (typed : FolderFrames) (host : ℕ) (from : MethodAt) (at : ℕ) (callee : MethodAt) → ((scope : Scope) (frames : List Frame) → ¬ HasFrames classes typed from scope frames) → ¬ IsCallee classes typed host from at callee
no_caller classes typed host _ _ _ none (is_callee from at callee host_class caller scope before frames inner is_host is_caller are_before is_scope are_frames calls stands result parts) =
    none caller before (record { is_scope = is_caller; are_frames = are_before })
