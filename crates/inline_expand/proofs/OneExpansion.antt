-- The expansion of a method is one, and so is its expanded flat code.
use Rattle.std.proofs.Common.{◌≡◌, ℕ, List, [], ◌∷◌, Some, refl, sym, ap, subst, ◌∙◌}
use Rattle.std.proofs.lemmas.Option.{same_Some}
use Rattle.class_model.specs.declared.class_file.MethodAt.{MethodAt}
use Rattle.class_model.specs.declared.frame.Frame.{Frame}
use Rattle.class_model.specs.declared.instr.Placed.{Placed}
use Rattle.class_tree.specs.Headers.{Classes, Name}
use Rattle.expanded_code.specs.Callees.{Calls}
use Rattle.expanded_code.specs.ExpandAnswers.{IsExpanded}
use Rattle.expanded_code.specs.Expanded.{expanded}
use Rattle.expanded_code.specs.Expansions.{Coded, Expands, Expansion, expands_none, expands_replaced, expands_site, expands_stays, replaced, site, stays}
use Rattle.expanded_code.specs.Laws.Instructions.{new_there}
use Rattle.expanded_code.specs.Laws.Instructions.{calls_of}
use Rattle.expanded_code.specs.Sites.{HasFrames, IsReplaced, IsSite}
use Rattle.flow_code.specs.FlatCode.{FlatCode}
use Rattle.flow_code.specs.TypedFrames.{FolderFrames}
use Rattle.member_link.specs.Scope.{Scope, class_of_new, instructions}

-- a method has one code, and one list of frames
pub coded_once : {classes : Classes} {typed : FolderFrames} (one other : Coded) → one.at ≡ other.at
    → HasFrames classes typed one.at one.scope one.frames
    → HasFrames classes typed other.at other.scope other.frames
    → one ≡ other
coded_once {classes = classes} {typed = typed} one other at has has_other = λ i. record { at = at i; scope = scope i; frames = frames i } where
  moved : HasFrames classes typed one.at other.scope other.frames
  moved = subst (λ (a : MethodAt). HasFrames classes typed a other.scope other.frames) (sym at) has_other

  scope : one.scope ≡ other.scope
  scope = same_Some one.scope other.scope (sym has.is_scope ∙ moved.is_scope)

  frames : one.frames ≡ other.frames
  frames = same_Some one.frames other.frames (sym has.are_frames ∙ moved.are_frames)

module _ {classes : Classes} {typed : FolderFrames} {host : MethodAt}
    (one_call : (s : Scope) (at : ℕ) (one other : MethodAt) → Calls classes s at one → Calls classes s at other → one ≡ other) where
  -- a new makes an object of one class
  makes : {chain : List MethodAt} {from : MethodAt} {at : ℕ} {class : Name} {s : Scope} {frames : List Frame}
      → HasFrames classes typed from s frames
      → IsSite classes typed host chain from at class
      → class_of_new s at ≡ Some class
  makes {at = at} {class = class} {s = s} has is =
      subst (λ (t : Scope). class_of_new t at ≡ Some class) (same_Some is.scope s (sym is.is.is_scope ∙ has.is_scope)) is.makes

  -- no call makes an object
  apart : {chain : List MethodAt} {from : MethodAt} {at : ℕ} {class : Name} {callee : MethodAt} {s : Scope} {frames : List Frame}
      → HasFrames classes typed from s frames
      → IsSite classes typed host chain from at class
      → IsReplaced classes typed host chain from at callee
      → ⊥
  apart {at = at} {class = class} {s = s} has is replaced_so =
      let call = (calls_of replaced_so.is_callee has.is_scope).is_call in
      (new_there s at class (makes has is)).no_call _ call.index call.count call.is

  mutual
    pub one_expansion : {chain : List MethodAt} {from : MethodAt} {s : Scope} {frames : List Frame} (instrs : List Placed) (e other : Expansion)
        → HasFrames classes typed from s frames
        → Expands classes typed host chain from instrs e
        → Expands classes typed host chain from instrs other
        → e ≡ other
    one_expansion instrs e other has (expands_none _ _) (expands_none _ _) = refl
    one_expansion instrs e other has (expands_stays _ _ placed others more no_call no_site rest) (expands_stays _ _ _ _ also _ _ rest_also) =
        ap stays (one_expansion others more also has rest rest_also)
    one_expansion instrs e other has (expands_stays _ _ placed others more no_call no_site rest) (expands_site _ _ _ _ class also is rest_also) =
        absurd (no_site class is)
    one_expansion instrs e other has (expands_stays _ _ placed others more no_call no_site rest)
        (expands_replaced _ _ _ _ g inner also call has_g within rest_also) =
        absurd (no_call g.at call)
    one_expansion instrs e other has (expands_site _ _ placed others class more is rest) (expands_stays _ _ _ _ also no_call no_site rest_also) =
        absurd (no_site class is)
    one_expansion instrs e other has (expands_site _ _ placed others class more is rest) (expands_site _ _ _ _ class_also also is_also rest_also) =
        ap (λ (c : Name). site c more) (same_Some class class_also (sym (makes has is) ∙ makes has is_also))
        ∙ ap (site class_also) (one_expansion others more also has rest rest_also)
    one_expansion instrs e other has (expands_site _ _ placed others class more is rest)
        (expands_replaced _ _ _ _ g inner also call has_g within rest_also) =
        absurd (apart has is call)
    one_expansion instrs e other has (expands_replaced _ _ placed others g inner more call has_g within rest)
        (expands_stays _ _ _ _ also no_call no_site rest_also) =
        absurd (no_call g.at call)
    one_expansion instrs e other has (expands_replaced _ _ placed others g inner more call has_g within rest)
        (expands_site _ _ _ _ class also is rest_also) =
        absurd (apart has is call)
    one_expansion {chain = chain} {s = s} instrs e other has (expands_replaced _ _ placed others g inner more call has_g within rest)
        (expands_replaced _ _ _ _ h inner_also also call_also has_h within_also rest_also) =
        same_callee (λ inside so. one_expansion (instructions g.scope) inner inside has_g within so) h same inner_also within_also
        ∙ ap (replaced h inner_also) (one_expansion others more also has rest rest_also) where
          same : g ≡ h
          same = coded_once g h
              (one_call s placed.at g.at h.at (calls_of call.is_callee has.is_scope) (calls_of call_also.is_callee has.is_scope)) has_g has_h

          same_callee : ((inside : Expansion)
              → Expands classes typed host (g.at ∷ chain) g.at (instructions g.scope) inside
              → inner ≡ inside)
              → (k : Coded) → g ≡ k → (inside : Expansion)
              → Expands classes typed host (k.at ∷ chain) k.at (instructions k.scope) inside
              → replaced g inner more ≡ replaced k inside more
          same_callee once k is inside expands =
              subst (λ (c : Coded). (inside : Expansion) → Expands classes typed host (c.at ∷ chain) c.at (instructions c.scope) inside
              → replaced g inner more ≡ replaced c inside more) is
              (λ inside so. ap (λ (x : Expansion). replaced g x more) (once inside so))
              inside expands

  -- a method has one expanded flat code
  pub one_flat_code : {flat other : FlatCode} → IsExpanded classes typed host flat → IsExpanded classes typed host other → flat ≡ other
  one_flat_code {flat = flat} {other = other} is is_also =
      is.is
      ∙ ap (λ (c : Coded). expanded c is.expansion) same
      ∙ ap (expanded is_also.host) (one_expansion (instructions is_also.host.scope) is.expansion is_also.expansion is_also.is_host expands is_also.expands)
      ∙ sym is_also.is where
        same : is.host ≡ is_also.host
        same = coded_once is.host is_also.host (is.own ∙ sym is_also.own)
            (subst (λ (a : MethodAt). HasFrames classes typed a is.host.scope is.host.frames) (sym is.own) is.is_host)
            (subst (λ (a : MethodAt). HasFrames classes typed a is_also.host.scope is_also.host.frames) (sym is_also.own) is_also.is_host)

        expands : Expands classes typed host [] host (instructions is_also.host.scope) is.expansion
        expands = subst (λ (c : Coded). Expands classes typed host [] host (instructions c.scope) is.expansion) same is.expands
