-- A callee is what a call runs and may stand in the host's code with all that it calls on its own uninitialised object.
use Rattle.std.proofs.Common.{◌≡◌, ◌≢◌, ◌⊎◌, ℕ, Bool, true, false, List, Some, None, IsTrue, refl, sym, ap, subst, ◌∙◌, inl, inr}
use Rattle.std.proofs.lemmas.Bool.{false≢true}
use Rattle.std.proofs.lemmas.Option.{same_Some}
use Rattle.class_model.specs.declared.class_file.MethodAt.{MethodAt}
use Rattle.class_model.specs.declared.frame.Frame.{Frame}
use Rattle.class_model.specs.declared.frame.VType.TheVariants.{Uninit, UninitThis}
use Rattle.class_tree.specs.Headers.{Classes, headers_of}
use Rattle.class_tree.specs.Laws.Decided.{same_bytes}
use Rattle.class_tree.specs.Names.{object}
use Rattle.expanded_code.specs.Callees.{Calls, InitialisesAt, IsCallee, ResultSaysAtMost, frame_behind, is_callee}
use Rattle.expanded_code.specs.Sites.{HasFrames}
use Rattle.flow_code.specs.TypedFrames.{FolderFrames}
use Rattle.inline_expand.proofs.Initialisations.{Found, found_or_not, new_is_not_this, one_object, one_reference}
use Rattle.inline_expand.specs.Inner.Founded.{founded}
use Rattle.inline_expand.specs.Inner.Initialised.{IsInitialisation, type_of_object}
use Rattle.inline_expand.specs.Inner.Ready.{CallsAtMost, CallsOnThis, IsReady, Needs}
use Rattle.inline_expand.specs.declared.initialised.Object.{Object}
use Rattle.inline_expand.specs.declared.initialised.Object.TheVariants.{New, This}
use Rattle.member_link.specs.References.{Reference}
use Rattle.member_link.specs.Scope.{Scope, is_init, own_descriptor}
use Rattle.member_link.specs.Signatures.{result_of}

-- ---- the call on its own object is there, or not

pub on_this_or_not : (s : Scope) (frames : List Frame) (at : ℕ) → CallsOnThis s frames at ⊎ (¬ CallsOnThis s frames at)
on_this_or_not s frames at = of_method (is_init s) refl where
  open_this : IsTrue (is_init s) → (reference : Reference) → InitialisesAt s frames at UninitThis reference → (reference.class ≡ object) ⊎ (reference.class ≢ object) → CallsOnThis s frames at ⊎ (¬ CallsOnThis s frames at)
  open_this own reference is (inl e) = inr (λ on. on.other (ap (λ (r : Reference). r.class) (one_reference s frames at UninitThis UninitThis on.reference reference on.is is) ∙ e))
  open_this own reference is (inr other) = inl (record { own = own; reference = reference; is = is; other = other })

  of_found : IsTrue (is_init s) → Found s frames at ⊎ IsInitialisation s frames at None → CallsOnThis s frames at ⊎ (¬ CallsOnThis s frames at)
  of_found own (inr none) = inr (λ on. none This on.reference on.is)
  of_found own (inl found) = of_object found.object found.reference found.is where
    of_object : (object : Object) (reference : Reference) → InitialisesAt s frames at (type_of_object object) reference → CallsOnThis s frames at ⊎ (¬ CallsOnThis s frames at)
    of_object This reference is = open_this own reference is (same_bytes reference.class object)
    of_object (New new) reference is = inr (λ on. new_is_not_this new (one_object s frames at (Uninit new) UninitThis reference on.reference is on.is))

  of_method : (b : Bool) → is_init s ≡ b → CallsOnThis s frames at ⊎ (¬ CallsOnThis s frames at)
  of_method true own = of_found own (found_or_not s frames at)
  of_method false none = inr (λ on. false≢true (sym none ∙ on.own))

-- ---- what stands at numbers stands there once

module _ (classes : Classes) (typed : FolderFrames) where
  pub one_scope : (at : MethodAt) (one other : Scope) (frames more : List Frame) → HasFrames classes typed at one frames → HasFrames classes typed at other more → one ≡ other
  one_scope at one other frames more is also = same_Some one other (sym is.is_scope ∙ also.is_scope)

  pub one_list : (at : MethodAt) (one other : Scope) (frames more : List Frame) → HasFrames classes typed at one frames → HasFrames classes typed at other more → frames ≡ more
  one_list at one other frames more is also = same_Some frames more (sym is.are_frames ∙ also.are_frames)

  -- ---- a call runs one method

  module _ (once : (s : Scope) (at : ℕ) (one other : MethodAt) → Calls classes s at one → Calls classes s at other → one ≡ other) where
    pub one_callee : (from : MethodAt) (at : ℕ) (one other : MethodAt) → CallsAtMost classes typed from at one → CallsAtMost classes typed from at other → one ≡ other
    one_callee from at one other calls also =
        let same : calls.caller ≡ also.caller = one_scope from calls.caller also.caller calls.before also.before calls.is_caller also.is_caller in
        once also.caller at one other (subst (λ (s : Scope). Calls classes s at one) same calls.calls) also.calls

    -- what is needed on its own object, at the scope and the frames of the method
    pub need_here : (callee need : MethodAt) (scope : Scope) (frames : List Frame) → HasFrames classes typed callee scope frames → (needs : Needs classes typed callee need) → CallsOnThis scope frames needs.within
    need_here callee need scope frames is needs =
        subst (λ (f : List Frame). CallsOnThis scope f needs.within) (one_list callee needs.scope scope needs.frames frames needs.is is)
        (subst (λ (s : Scope). CallsOnThis s needs.frames needs.within) (one_scope callee needs.scope scope needs.frames frames needs.is is) needs.on_this)

    -- ---- a callee is ready

    pub from_callee : (host : ℕ) (from : MethodAt) (at : ℕ) (callee : MethodAt) → IsCallee classes typed host from at callee → CallsAtMost classes typed from at callee × IsReady classes typed host callee
    from_callee host _ _ _ (is_callee from at callee host_class caller scope before frames inner is_host is_caller are_before is_scope are_frames calls stands result parts) =
        let has : HasFrames classes typed callee scope frames = record { is_scope = is_scope; are_frames = are_frames } in
        let part : (within : ℕ) → CallsOnThis scope frames within → CallsAtMost classes typed callee within (inner within) × IsReady classes typed host (inner within) =
        λ within on. from_callee host callee within (inner within) (parts within on.reference on.own on.is on.other) in (
          record {
            caller = caller;
            before = before;
            is_caller = record { is_scope = is_caller; are_frames = are_before };
            scope = scope;
            frames = frames;
            is_callee = has;
            calls = calls;
            result = result;
          },
          founded callee (record {
            host_class = host_class;
            is_host = is_host;
            scope = scope;
            frames = frames;
            is = has;
            stands = stands;
            called = λ within on. (inner within, (part within on).0);
          }) (λ need needs.
              let on = need_here callee need scope frames has needs in
              let h = part needs.within on in
              subst (IsReady classes typed host) (one_callee callee needs.within (inner needs.within) need h.0 needs.calls) h.1),
        )
    -- ---- what is ready is a callee

  -- the result is that of the one scope
  result_here : (from : MethodAt) (at : ℕ) (callee : MethodAt) (scope : Scope) (frames : List Frame) → HasFrames classes typed callee scope frames → (calls : CallsAtMost classes typed from at callee)
      → (behind : Frame) → frame_behind calls.caller calls.before at ≡ Some behind → ResultSaysAtMost (headers_of classes) (result_of (own_descriptor scope)) behind
  result_here from at callee scope frames is calls behind e =
      subst (λ (s : Scope). ResultSaysAtMost (headers_of classes) (result_of (own_descriptor s)) behind) (one_scope callee calls.scope scope calls.frames frames calls.is_callee is) (calls.result behind e)

  module _ (callee : MethodAt) (scope : Scope) (frames : List Frame) (is : HasFrames classes typed callee scope frames)
      (called : (within : ℕ) → CallsOnThis scope frames within → (inner : MethodAt) × CallsAtMost classes typed callee within inner) where
    abbrev inner_by : (within : ℕ) → CallsOnThis scope frames within ⊎ (¬ CallsOnThis scope frames within) → MethodAt
    inner_by within (inl on) = (called within on).0
    inner_by within (inr none) = callee

    abbrev inner_at : ℕ → MethodAt
    inner_at within = inner_by within (on_this_or_not scope frames within)

    inner_called_by : (within : ℕ) (is : CallsOnThis scope frames within ⊎ (¬ CallsOnThis scope frames within)) → CallsOnThis scope frames within → CallsAtMost classes typed callee within (inner_by within is)
    inner_called_by within (inl on) also = (called within on).1
    inner_called_by within (inr none) also = absurd (none also)

    inner_called : (within : ℕ) → CallsOnThis scope frames within → CallsAtMost classes typed callee within (inner_at within)
    inner_called within on = inner_called_by within (on_this_or_not scope frames within) on

    inner_needed : (within : ℕ) → CallsOnThis scope frames within → Needs classes typed callee (inner_at within)
    inner_needed within on = record { scope = scope; frames = frames; is = is; within = within; on_this = on; calls = inner_called within on }

  pub to_callee : (host : ℕ) (callee : MethodAt) → IsReady classes typed host callee → (from : MethodAt) (at : ℕ) → CallsAtMost classes typed from at callee → IsCallee classes typed host from at callee
  to_callee host _ (founded callee fits parts) = λ from at calls.
      is_callee from at callee fits.host_class calls.caller fits.scope calls.before fits.frames (inner_at callee fits.scope fits.frames fits.is fits.called)
      fits.is_host calls.is_caller.is_scope calls.is_caller.are_frames fits.is.is_scope fits.is.are_frames calls.calls fits.stands
      (result_here from at callee fits.scope fits.frames fits.is calls)
      (λ within reference own init other.
      let on : CallsOnThis fits.scope fits.frames within = record { own = own; reference = reference; is = init; other = other } in
      let inner = inner_at callee fits.scope fits.frames fits.is fits.called within in
      to_callee host inner (parts inner (inner_needed callee fits.scope fits.frames fits.is fits.called within on)) callee within
      (inner_called callee fits.scope fits.frames fits.is fits.called within on))
