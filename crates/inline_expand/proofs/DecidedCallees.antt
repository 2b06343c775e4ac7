-- It is decided which callee a call has: the method that it runs, where it may stand in the host's code with all that it needs.
use Rattle.std.proofs.Common.{◌≡◌, ◌⊎◌, ◌+◌, ◌≤◌, ℕ, zero, suc, List, [], ◌∷◌, ◌++◌, length, slice_get, Option, Some, None, refl, sym, ap, subst, ◌∙◌, inl, inr, arith}
use Rattle.std.proofs.lemmas.Option.{none-some, same_Some}
use Rattle.class_model.specs.Laws.Decisions.{Decision, both, denied, mapped}
use Rattle.class_model.specs.declared.class_file.ClassFile.{ClassFile}
use Rattle.class_model.specs.declared.class_file.Method.{Method}
use Rattle.class_model.specs.declared.class_file.MethodAt.{MethodAt}
use Rattle.class_model.specs.declared.frame.Frame.{Frame}
use Rattle.class_tree.specs.Headers.{Classes, headers_of}
use Rattle.class_tree.specs.Hierarchy.{IsHierarchy}
use Rattle.expanded_code.specs.Callees.{Calls, IsCallee, MayStandIn, ResultSaysAtMost, frame_behind}
use Rattle.expanded_code.specs.Laws.Searches.{HasSome, given, if_decided, one_decided, some_decided}
use Rattle.expanded_code.specs.Sites.{HasFrames}
use Rattle.flow_code.specs.TypedFrames.{FolderFrames, typed_frames_at}
use Rattle.inline_expand.proofs.DecidedCalls.{calls_decided}
use Rattle.inline_expand.proofs.DecidedOpen.{FindsOneField}
use Rattle.inline_expand.proofs.DecidedRuns.{HasLaws}
use Rattle.inline_expand.proofs.DecidedStanding.{result_decided, stand_decided}
use Rattle.inline_expand.proofs.DecidedWords.{HasAnswers}
use Rattle.inline_expand.proofs.Founding.{needed_is_founded, no_circle, then_needs}
use Rattle.inline_expand.proofs.MethodLists.{among_front}
use Rattle.inline_expand.proofs.OwnCallees.{PlacedThere, on_this_there}
use Rattle.inline_expand.proofs.ReadyCalls.{from_callee, need_here, on_this_or_not, one_callee, one_list, one_scope, to_callee}
use Rattle.member_link.specs.Laws.Scopes.{scope_is_at}
use Rattle.inline_expand.proofs.Walking.{same_method}
use Rattle.inline_expand.specs.Inner.Founded.{Leads, founded, leads_at_once}
use Rattle.inline_expand.specs.Inner.Ready.{CallsAtMost, CallsOnThis, Fits, IsReady, Needs}
use Rattle.inline_expand.specs.Inner.Stacks.{IsAmong}
use Rattle.member_link.specs.Scope.{Scope, instructions, own_descriptor, scope_at}
use Rattle.member_link.specs.Signatures.{result_of}

-- ---- what the crates below answer

abbrev pub RunsOneMethod : Classes → Type 0
RunsOneMethod classes = (s : Scope) (at : ℕ) (one other : MethodAt) → Calls classes s at one → Calls classes s at other → one ≡ other

pub record IsAnswered (classes : Classes) : Type 0 where
  pub hierarchy : IsHierarchy (headers_of classes)
  pub answers : HasAnswers (headers_of classes)
  pub laws : HasLaws
  pub fields_once : FindsOneField
  pub once : RunsOneMethod classes

-- ---- offsets of instructions

pub offset_decided : (s : Scope) (P : ℕ → Type 0) → ((at : ℕ) → P at → PlacedThere (instructions s) at) → ((at : ℕ) → Decision (P at)) → Decision ((at : ℕ) × P at)
offset_decided s P there each =
    mapped (λ one. (one.item.at, one.holds)) (λ some.
    let stands = there some.0 some.1 in
    record { number = stands.number; item = stands.placed; is = stands.is; holds = subst P (sym stands.here) some.1 })
    (one_decided (instructions s) (λ number placed. P placed.at) (λ number placed is. each placed.at))

pub offsets_decided : (s : Scope) (P Q : ℕ → Type 0) → ((at : ℕ) → P at → PlacedThere (instructions s) at) → ((at : ℕ) → Decision (P at))
    → ((at : ℕ) → P at → Decision (Q at))
    → Decision ((at : ℕ) → P at → Q at)
offsets_decided s P Q there asked holds = by (offset_decided s (λ at. P at × (¬ Q at)) (λ at h. there at h.0) (λ at. given (asked at) (λ p. denied (holds at p)))) where
  so : (¬ ((at : ℕ) × (P at × (¬ Q at)))) → (at : ℕ) → P at → Decision (Q at) → Q at
  so none at p (inl q) = q
  so none at p (inr not) = absurd (none (at, (p, not)))

  by : Decision ((at : ℕ) × (P at × (¬ Q at))) → Decision ((at : ℕ) → P at → Q at)
  by (inl some) = inr (λ all. some.1.1 (all some.0 some.1.0))
  by (inr none) = inl (λ at p. so none at p (holds at p))

-- ---- methods of a list

among_decided : (methods : List MethodAt) (at : MethodAt) → Decision (IsAmong methods at)
among_decided [] at = inr (λ none. none)
among_decided (first ∷ methods) at = elim (same_method at first) [
  | inl same ↦ inl (inl same)
  | inr differ ↦ elim (among_decided methods at) [ inl among ↦ inl (inr among) | inr none ↦ inr (λ is. elim is [ inl same ↦ differ same | inr among ↦ none among ]) ]
]

-- ---- a list without one

abbrev without_by : (first at : MethodAt) → Decision (first ≡ at) → (methods rest : List MethodAt) → List MethodAt
without_by first at (inl same) methods rest = methods
without_by first at (inr differ) methods rest = first ∷ rest

-- without the first that is this one
abbrev without : MethodAt → List MethodAt → List MethodAt
without at [] = []
without at (first ∷ methods) = without_by first at (same_method first at) methods (without at methods)

still_among : (at : MethodAt) (methods : List MethodAt) (other : MethodAt) → IsAmong methods other → (other ≡ at) ⊎ IsAmong (without at methods) other
still_among at [] other among = elim among [ ]
still_among at (first ∷ methods) other among = by (same_method first at) among (still_among at methods other) where
  by : (same : Decision (first ≡ at)) → IsAmong (first ∷ methods) other → (IsAmong methods other → (other ≡ at) ⊎ IsAmong (without at methods) other)
      → (other ≡ at) ⊎ IsAmong (without_by first at same methods (without at methods)) other
  by (inl same) (inl is) later = inl (is ∙ same)
  by (inl same) (inr among) later = inr among
  by (inr differ) (inl is) later = inr (inl is)
  by (inr differ) (inr among) later = elim (later among) [ inl is ↦ inl is | inr still ↦ inr (inr still) ]

one_less : (at : MethodAt) (methods : List MethodAt) → IsAmong methods at → length methods ≡ suc (length (without at methods))
one_less at [] among = elim among [ ]
one_less at (first ∷ methods) among = by (same_method first at) among (one_less at methods) where
  by : (same : Decision (first ≡ at)) → IsAmong (first ∷ methods) at → (IsAmong methods at → length methods ≡ suc (length (without at methods)))
      → suc (length methods) ≡ suc (length (without_by first at same methods (without at methods)))
  by (inl same) among later = refl
  by (inr differ) (inl is) later = absurd (differ (sym is))
  by (inr differ) (inr among) later = ap suc (later among)

-- ---- the methods of a folder

abbrev numbered : ℕ → ℕ → MethodAt
numbered class method = record { class = class; method = method }

abbrev methods_of : ℕ → ℕ → List Method → List MethodAt
methods_of class from [] = []
methods_of class from (method ∷ methods) = numbered class from ∷ methods_of class (suc from) methods

abbrev all_methods : ℕ → List ClassFile → List MethodAt
all_methods from [] = []
all_methods from (file ∷ files) = methods_of from 0 file.methods ++ all_methods (suc from) files

among_methods : (class from : ℕ) (methods : List Method) (number : ℕ) (method : Method) → slice_get methods number ≡ Some method
    → IsAmong (methods_of class from methods) (numbered class (from + number))
among_methods class from [] number method is = absurd (none-some method is)
among_methods class from (first ∷ methods) zero method is = let e : from + zero ≡ from = omega arith in inl (ap (numbered class) e)
among_methods class from (first ∷ methods) (suc number) method is =
    let e : suc from + number ≡ from + suc number = omega arith in
    inr (subst (λ (n : ℕ). IsAmong (methods_of class (suc from) methods) (numbered class n)) e (among_methods class (suc from) methods number method is))

among_back : (front back : List MethodAt) (at : MethodAt) → IsAmong back at → IsAmong (front ++ back) at
among_back [] back at among = among
among_back (first ∷ front) back at among = inr (among_back front back at among)

among_all : (from : ℕ) (files : List ClassFile) (class method : ℕ) (file : ClassFile) (one : Method)
    → slice_get files class ≡ Some file → slice_get file.methods method ≡ Some one
    → IsAmong (all_methods from files) (numbered (from + class) method)
among_all from [] class method file one is there = absurd (none-some file is)
among_all from (first ∷ files) zero method file one is there =
    let e : from ≡ from + zero = omega arith in
    let f : 0 + method ≡ method = omega arith in
    let own : slice_get first.methods method ≡ Some one = ap (λ (c : ClassFile). slice_get c.methods method) (same_Some first file is) ∙ there in
    let here = subst (λ (n : ℕ). IsAmong (methods_of from 0 first.methods) (numbered from n)) f (among_methods from 0 first.methods method one own) in
    subst (λ (n : ℕ). IsAmong (all_methods from (first ∷ files)) (numbered n method)) e
    (among_front (methods_of from 0 first.methods) (all_methods (suc from) files) (numbered from method) here)
among_all from (first ∷ files) (suc class) method file one is there =
    let e : suc from + class ≡ from + suc class = omega arith in
    among_back (methods_of from 0 first.methods) (all_methods (suc from) files) (numbered (from + suc class) method)
    (subst (λ (n : ℕ). IsAmong (all_methods (suc from) files) (numbered n method)) e (among_all (suc from) files class method file one is there))

-- ---- callees

module _ (classes : Classes) (typed : FolderFrames) (is_answered : IsAnswered classes) where
  -- a method with code and frames
  pub record Framed (at : MethodAt) : Type 0 where
    pub scope : Scope
    pub frames : List Frame
    pub has : HasFrames classes typed at scope frames

  pub framed_decided : (at : MethodAt) → Decision (Framed at)
  framed_decided at = by (scope_at classes at) (typed_frames_at typed at) refl refl where
    by : (scope : Option Scope) (frames : Option (List Frame)) → scope_at classes at ≡ scope → typed_frames_at typed at ≡ frames → Decision (Framed at)
    by None frames none are = inr (λ framed. none-some framed.scope (sym none ∙ framed.has.is_scope))
    by (Some scope) None is none = inr (λ framed. none-some framed.frames (sym none ∙ framed.has.are_frames))
    by (Some scope) (Some frames) is are = inl (record { scope = scope; frames = frames; has = record { is_scope = is; are_frames = are } })

  -- what holds of the code and the frames of a method
  pub moved : (P : Scope → List Frame → Type 0) {at : MethodAt} {scope other : Scope} {frames more : List Frame}
      → HasFrames classes typed at scope frames → HasFrames classes typed at other more → P scope frames → P other more
  moved P {at} {scope} {other} {frames} {more} has also holds =
      subst (λ (f : List Frame). P other f) (one_list classes typed at scope other frames more has also)
      (subst (λ (s : Scope). P s frames) (one_scope classes typed at scope other frames more has also) holds)

  -- ---- the method that a call runs

  abbrev SaysBehind : Scope → List Frame → ℕ → Scope → Type 0
  SaysBehind caller before at callee =
      (behind : Frame) → frame_behind caller before at ≡ Some behind → ResultSaysAtMost (headers_of classes) (result_of (own_descriptor callee)) behind

  says_decided : (caller : Scope) (before : List Frame) (at : ℕ) (callee : Scope) → Decision (SaysBehind caller before at callee)
  says_decided caller before at callee =
      if_decided (frame_behind caller before at) (λ behind. ResultSaysAtMost (headers_of classes) (result_of (own_descriptor callee)) behind)
      (λ behind is. result_decided (headers_of classes) (result_of (own_descriptor callee)) behind)

  module _ (from : MethodAt) (at : ℕ) where
    calls_here : (caller : Framed from) {callee : MethodAt} → CallsAtMost classes typed from at callee → Calls classes caller.scope at callee
    calls_here caller {callee} calls = moved (λ s f. Calls classes s at callee) calls.is_caller caller.has calls.calls

    says_here : (caller : Framed from) (callee : MethodAt) (called : Framed callee) {other : MethodAt} → CallsAtMost classes typed from at other → other ≡ callee
        → SaysBehind caller.scope caller.frames at called.scope
    says_here caller callee called {other} calls same =
        let has : HasFrames classes typed callee calls.scope calls.frames = subst (λ (m : MethodAt). HasFrames classes typed m calls.scope calls.frames) same calls.is_callee in
        moved (λ s f. SaysBehind caller.scope caller.frames at s) has called.has
        (moved (λ s f. SaysBehind s f at calls.scope) calls.is_caller caller.has calls.result)

    of_framed : (caller : Framed from) (callee : MethodAt) → Calls classes caller.scope at callee → Decision (Framed callee)
        → Decision ((callee : MethodAt) × CallsAtMost classes typed from at callee)
    of_framed caller callee calls (inr none) = inr (λ some.
        let same = is_answered.once caller.scope at some.0 callee (calls_here caller some.1) calls in
        none (subst Framed same (record { scope = some.1.scope; frames = some.1.frames; has = some.1.is_callee })))
    of_framed caller callee calls (inl called) =
        mapped (λ says. (
          callee,
          record {
            caller = caller.scope;
            before = caller.frames;
            is_caller = caller.has;
            scope = called.scope;
            frames = called.frames;
            is_callee = called.has;
            calls = calls;
            result = says;
          },
        )) (λ some. says_here caller callee called some.1 (is_answered.once caller.scope at some.0 callee (calls_here caller some.1) calls))
        (says_decided caller.scope caller.frames at called.scope)

    of_call : (caller : Framed from) → Decision ((callee : MethodAt) × Calls classes caller.scope at callee)
        → Decision ((callee : MethodAt) × CallsAtMost classes typed from at callee)
    of_call caller (inr none) = inr (λ some. none (some.0, calls_here caller some.1))
    of_call caller (inl some) = of_framed caller some.0 some.1 (framed_decided some.0)

    of_caller : Decision (Framed from) → Decision ((callee : MethodAt) × CallsAtMost classes typed from at callee)
    of_caller (inr none) = inr (λ some. none (record { scope = some.1.caller; frames = some.1.before; has = some.1.is_caller }))
    of_caller (inl caller) =
        of_call caller (calls_decided classes is_answered.hierarchy is_answered.answers is_answered.laws caller.scope at)

    pub called_decided : Decision ((callee : MethodAt) × CallsAtMost classes typed from at callee)
    called_decided = of_caller (framed_decided from)

  -- ---- what a method needs

  needed : {at need : MethodAt} {within : ℕ} (framed : Framed at) → CallsOnThis framed.scope framed.frames within → CallsAtMost classes typed at within need → Needs classes typed at need
  needed {within = within} framed on calls = record { scope = framed.scope; frames = framed.frames; is = framed.has; within = within; on_this = on; calls = calls }

  -- what is asked of what a call on the own object runs
  called_by : (at : MethodAt) (framed : Framed at) (P : MethodAt → Type 0) → ((need : MethodAt) → Needs classes typed at need → Decision (P need))
      → (within : ℕ) → CallsOnThis framed.scope framed.frames within → Decision ((callee : MethodAt) × CallsAtMost classes typed at within callee)
      → Decision ((need : MethodAt) → CallsAtMost classes typed at within need → P need)
  called_by at framed P each within on (inr none) = inl (λ need calls. absurd (none (need, calls)))
  called_by at framed P each within on (inl some) =
      mapped (λ p need calls. subst P (one_callee classes typed is_answered.once at within some.0 need some.1 calls) p) (λ all. all some.0 some.1)
      (each some.0 (needed framed on some.1))

  needs_by : (at : MethodAt) (P : MethodAt → Type 0) → ((need : MethodAt) → Needs classes typed at need → Decision (P need))
      → Decision (Framed at) → Decision ((need : MethodAt) → Needs classes typed at need → P need)
  needs_by at P each (inr none) = inl (λ need needs. absurd (none (record { scope = needs.scope; frames = needs.frames; has = needs.is })))
  needs_by at P each (inl framed) =
      mapped (λ all need needs. all needs.within (need_here classes typed is_answered.once at need framed.scope framed.frames framed.has needs) need needs.calls)
      (λ all within on need calls. all need (needed framed on calls))
      (offsets_decided framed.scope (λ within. CallsOnThis framed.scope framed.frames within) (λ within. (need : MethodAt) → CallsAtMost classes typed at within need → P need)
      (on_this_there framed.scope framed.frames) (on_this_or_not framed.scope framed.frames)
      (λ within on. called_by at framed P each within on (called_decided at within)))

  pub needs_decided : (at : MethodAt) (P : MethodAt → Type 0) → ((need : MethodAt) → Needs classes typed at need → Decision (P need))
      → Decision ((need : MethodAt) → Needs classes typed at need → P need)
  needs_decided at P each = needs_by at P each (framed_decided at)

  -- ---- methods that may stand in a host's code

  module _ (host : ℕ) where
    abbrev StandsInHost : Scope → List Frame → Type 0
    StandsInHost scope frames = HasSome (slice_get classes.folder host) (λ host_class. MayStandIn classes host_class scope frames)

    abbrev CallsAll : MethodAt → Scope → List Frame → Type 0
    CallsAll at scope frames = (within : ℕ) → CallsOnThis scope frames within → (inner : MethodAt) × CallsAtMost classes typed at within inner

    stands_decided : (at : MethodAt) (framed : Framed at) → Decision (StandsInHost framed.scope framed.frames)
    stands_decided at framed =
        some_decided (slice_get classes.folder host) (λ host_class. MayStandIn classes host_class framed.scope framed.frames)
        (λ host_class is. stand_decided classes is_answered.hierarchy is_answered.answers is_answered.fields_once is_answered.laws.looks_up host_class framed.scope
        (scope_is_at classes at framed.scope framed.has.is_scope).headers framed.frames)

    calls_all_decided : (at : MethodAt) (framed : Framed at) → Decision (CallsAll at framed.scope framed.frames)
    calls_all_decided at framed =
        offsets_decided framed.scope (λ within. CallsOnThis framed.scope framed.frames within) (λ within. (inner : MethodAt) × CallsAtMost classes typed at within inner)
        (on_this_there framed.scope framed.frames) (on_this_or_not framed.scope framed.frames) (λ within on. called_decided at within)

    fits_by : (at : MethodAt) → Decision (Framed at) → Decision (Fits classes typed host at)
    fits_by at (inr none) = inr (λ fits. none (record { scope = fits.scope; frames = fits.frames; has = fits.is }))
    fits_by at (inl framed) =
        mapped (λ h. record {
          host_class = h.0.item;
          is_host = h.0.is;
          scope = framed.scope;
          frames = framed.frames;
          is = framed.has;
          stands = h.0.holds;
          called = h.1;
        }) (λ fits. (
          moved StandsInHost fits.is framed.has (record { item = fits.host_class; is = fits.is_host; holds = fits.stands }),
          moved (CallsAll at) fits.is framed.has fits.called,
        )) (both (stands_decided at framed) (calls_all_decided at framed))

    fits_decided : (at : MethodAt) → Decision (Fits classes typed host at)
    fits_decided at = fits_by at (framed_decided at)

    fits_of : {at : MethodAt} → IsReady classes typed host at → Fits classes typed host at
    fits_of (founded at fits parts) = fits

    -- each method that fits was seen on the way, or is still unseen
    abbrev Covers : List MethodAt → List MethodAt → Type 0
    Covers path unseen = (at : MethodAt) → Fits classes typed host at → IsAmong path at ⊎ IsAmong unseen at

    covers_more : (path unseen : List MethodAt) (at : MethodAt) → Covers path unseen → Covers (at ∷ path) (without at unseen)
    covers_more path unseen at covers other fits = by (covers other fits) where
      by : IsAmong path other ⊎ IsAmong unseen other → IsAmong (at ∷ path) other ⊎ IsAmong (without at unseen) other
      by (inl seen) = inl (inr seen)
      by (inr among) = elim (still_among at unseen other among) [ inl same ↦ inl (inl same) | inr still ↦ inr still ]

    -- each method on the way leads to it
    abbrev AllLead : List MethodAt → MethodAt → Type 0
    AllLead path at = (other : MethodAt) → IsAmong path other → Leads (Needs classes typed) other at

    all_lead_on : (path : List MethodAt) (at need : MethodAt) → AllLead path at → Needs classes typed at need → AllLead (at ∷ path) need
    all_lead_on path at need leads needs other (inl same) = subst (λ (m : MethodAt). Leads (Needs classes typed) m need) (sym same) (leads_at_once at need needs)
    all_lead_on path at need leads needs other (inr among) = then_needs other at need (leads other among) needs

    -- the search by depth: no way is longer than there are methods
    ready_by : (left : ℕ) (path unseen : List MethodAt) → length unseen ≤ left → Covers path unseen → (at : MethodAt) → AllLead path at → Decision (IsReady classes typed host at)
    ready_by zero path unseen few covers at leads = by (among_decided path at) (fits_decided at) where
      by : Decision (IsAmong path at) → Decision (Fits classes typed host at) → Decision (IsReady classes typed host at)
      by (inl seen) fits = inr (λ ready. no_circle at ready (leads at seen))
      by (inr unseen_yet) (inr not) = inr (λ ready. not (fits_of ready))
      by (inr unseen_yet) (inl fits) = elim (covers at fits) [
        | inl seen ↦ absurd (unseen_yet seen)
        | inr among ↦ let more = one_less at unseen among in absurd (omega (arith, few, more))
      ]
    ready_by (suc left) path unseen few covers at leads = by (among_decided path at) (fits_decided at) (ready_by left) where
      by : Decision (IsAmong path at) → Decision (Fits classes typed host at)
          → ((path unseen : List MethodAt) → length unseen ≤ left → Covers path unseen → (at : MethodAt) → AllLead path at → Decision (IsReady classes typed host at))
          → Decision (IsReady classes typed host at)
      by (inl seen) fits inner = inr (λ ready. no_circle at ready (leads at seen))
      by (inr unseen_yet) (inr not) inner = inr (λ ready. not (fits_of ready))
      by (inr unseen_yet) (inl fits) inner = elim (covers at fits) [
        | inl seen ↦ absurd (unseen_yet seen)
        | inr among ↦
            let more = one_less at unseen among in
            mapped (λ all. founded at fits all) (λ ready need needs. needed_is_founded at need ready needs)
            (needs_decided at (λ need. IsReady classes typed host need)
            (λ need needs. inner (at ∷ path) (without at unseen) (omega (arith, few, more)) (covers_more path unseen at covers) need (all_lead_on path at need leads needs)))
      ]

    covers_all : Covers [] (all_methods 0 classes.folder)
    covers_all at fits =
        let parts = scope_is_at classes at fits.scope fits.is.is_scope in
        let e : 0 + at.class ≡ at.class = omega arith in
        inr (subst (λ (n : ℕ). IsAmong (all_methods 0 classes.folder) (numbered n at.method)) e (among_all 0 classes.folder at.class at.method fits.scope.class fits.scope.method parts.of_folder parts.of_class))

    pub ready_decided : (at : MethodAt) → Decision (IsReady classes typed host at)
    ready_decided at = ready_by (length (all_methods 0 classes.folder)) [] (all_methods 0 classes.folder) (omega arith) covers_all at (λ other among. elim among [ ])

    -- the callee of a call
    callee_by : (from : MethodAt) (at : ℕ) → Decision ((callee : MethodAt) × CallsAtMost classes typed from at callee)
        → Decision ((callee : MethodAt) × IsCallee classes typed host from at callee)
    callee_by from at (inr none) = inr (λ some. none (some.0, (from_callee classes typed is_answered.once host from at some.0 some.1).0))
    callee_by from at (inl called) =
        mapped (λ ready. (called.0, to_callee classes typed host called.0 ready from at called.1)) (λ some.
        let parts = from_callee classes typed is_answered.once host from at some.0 some.1 in
        subst (IsReady classes typed host) (one_callee classes typed is_answered.once from at some.0 called.0 parts.0 called.1) parts.1)
        (ready_decided called.0)

    pub callee_decided : (from : MethodAt) (at : ℕ) → Decision ((callee : MethodAt) × IsCallee classes typed host from at callee)
    callee_decided from at = callee_by from at (called_decided from at)
