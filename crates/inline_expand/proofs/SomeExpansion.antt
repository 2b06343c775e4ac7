-- A method with code and frames has an expansion: of each instruction it is decided whether it is replaced or the new of a candidate site.
use Rattle.std.proofs.Common.{◌≡◌, ◌≢◌, ◌⊎◌, ◌+◌, ◌-◌, ◌<◌, ℕ, zero, suc, List, [], ◌∷◌, length, Option, Some, None, IsTrue, refl, sym, subst, ◌∙◌, inl, inr, arith}
use Rattle.std.proofs.lemmas.Bool.{cases_eq, cases_lt}
use Rattle.std.proofs.lemmas.Option.{none-some, same_Some}
use Rattle.class_model.specs.Laws.Decisions.{Decision, both, is_true, mapped}
use Rattle.class_model.specs.declared.class_file.MethodAt.{MethodAt}
use Rattle.class_model.specs.declared.frame.Frame.{Frame}
use Rattle.class_model.specs.declared.frame.VType.TheVariants.{Uninit, UninitThis}
use Rattle.class_model.specs.declared.instr.Placed.{Placed}
use Rattle.class_tree.specs.Headers.{Classes, Name}
use Rattle.expanded_code.specs.Callees.{InitialisesAt, IsCallee}
use Rattle.expanded_code.specs.Candidates.{IsCandidate}
use Rattle.expanded_code.specs.ExpandAnswers.{IsExpanded}
use Rattle.expanded_code.specs.Expanded.{expanded}
use Rattle.expanded_code.specs.Expansions.{Coded, Expands, Expansion, expands_none, expands_replaced, expands_site, expands_stays, no_more, replaced, site, stays}
use Rattle.expanded_code.specs.Laws.Searches.{all_decided, less}
use Rattle.expanded_code.specs.Sites.{Constructs, HasFrames, IsReplaced, IsSite, MayFollow, constructs}
use Rattle.flow_code.specs.FlatCode.{FlatCode}
use Rattle.flow_code.specs.TypedFrames.{FolderFrames}
use Rattle.inline_expand.proofs.DecidedCallees.{Framed, IsAnswered, called_decided, callee_decided, framed_decided, moved, needs_decided, offsets_decided, ready_decided}
use Rattle.inline_expand.proofs.DecidedCandidates.{candidate_decided}
use Rattle.inline_expand.proofs.DecidedWords.{at_other}
use Rattle.inline_expand.proofs.Initialisations.{Found, found_or_not, new_is_not_this, one_object}
use Rattle.inline_expand.proofs.OwnCallees.{instr_there}
use Rattle.inline_expand.proofs.ReadyCalls.{from_callee, one_callee}
use Rattle.inline_expand.proofs.ShallowCalls.{constructs_shallow, shallow_constructs}
use Rattle.inline_expand.proofs.SiteLaws.{uninit_same}
use Rattle.inline_expand.specs.Inner.Chains.{IsNoneOf, IsShallow}
use Rattle.inline_expand.specs.Inner.Initialised.{IsInitialisation, type_of_object}
use Rattle.inline_expand.specs.Inner.Ready.{CallsAtMost, IsReady}
use Rattle.inline_expand.specs.declared.initialised.Object.{Object}
use Rattle.inline_expand.specs.declared.initialised.Object.TheVariants.{New, This}
use Rattle.member_link.specs.References.{Reference}
use Rattle.member_link.specs.Scope.{Scope, class_of_new, instructions, is_init}

-- ---- calls of initialisers

-- an initialiser is called on the object of a new
module _ (s : Scope) (frames : List Frame) (call at : ℕ) where
  abbrev InitialisesNew : Type 0
  InitialisesNew = (reference : Reference) × InitialisesAt s frames call (Uninit at) reference

  of_object : (object : Object) (reference : Reference) → InitialisesAt s frames call (type_of_object object) reference → Decision InitialisesNew
  of_object This reference is = inr (λ some. new_is_not_this at (one_object s frames call (Uninit at) UninitThis some.0 reference some.1 is))
  of_object (New new) reference is = elim (cases_eq new at) [
    | inl same ↦ inl (reference, subst (λ (n : ℕ). InitialisesAt s frames call (Uninit n) reference) same is)
    | inr differ ↦ inr (λ some. differ (uninit_same new at (one_object s frames call (Uninit new) (Uninit at) reference some.0 is some.1)))
  ]

  new_decided : Decision InitialisesNew
  new_decided = by (found_or_not s frames call) where
    by : Found s frames call ⊎ IsInitialisation s frames call None → Decision InitialisesNew
    by (inl found) = of_object found.object found.reference found.is
    by (inr none) = inr (λ some. none (New at) some.0 some.1)

module _ (classes : Classes) (typed : FolderFrames) (is_answered : IsAnswered classes) (host : MethodAt) where
  -- ---- what is constructed

  none_of_decided : (methods : List MethodAt) (at : MethodAt) → Decision (IsNoneOf methods at)
  none_of_decided methods at = all_decided (λ other. other ≢ at) (λ other. at_other other at) methods

  shallow_decided : (outer : List MethodAt) (left : ℕ) (at : MethodAt) → Decision (IsShallow classes typed outer left at)
  shallow_decided outer zero at = inr (λ none. none)
  shallow_decided outer (suc left) at =
      both (none_of_decided outer at) (needs_decided classes typed is_answered at (IsShallow classes typed outer left) (λ need needs. shallow_decided outer left need))

  chain_short : {chain : List MethodAt} {from : MethodAt} {at : ℕ} → Constructs classes typed host chain from at → length chain < 6
  chain_short (constructs chain from at callee scope frames is follows has parts) = follows.short

  constructs_callee : {chain : List MethodAt} {from : MethodAt} {at : ℕ} → Constructs classes typed host chain from at
      → (callee : MethodAt) × IsCallee classes typed host.class from at callee
  constructs_callee (constructs chain from at callee scope frames is follows has parts) = (callee, is)

  constructs_by : (left : ℕ) (chain : List MethodAt) (from : MethodAt) (at : ℕ) → length chain + left ≡ 6
      → Decision ((callee : MethodAt) × CallsAtMost classes typed from at callee)
      → Decision (Constructs classes typed host chain from at)
  constructs_by left chain from at six (inr none) = inr (λ made.
      let is = constructs_callee made in
      none (is.0, (from_callee classes typed is_answered.once host.class from at is.0 is.1).0))
  constructs_by left chain from at six (inl called) =
      mapped (λ h. shallow_constructs classes typed host is_answered.once (host ∷ chain) left chain from at called.0 six called.1 h.0 h.1 (λ other among. inl among))
      (λ made.
      let is = constructs_callee made in
      let parts = from_callee classes typed is_answered.once host.class from at is.0 is.1 in
      let same : is.0 ≡ called.0 = one_callee classes typed is_answered.once from at is.0 called.0 parts.0 called.1 in (
        subst (IsReady classes typed host.class) same parts.1,
        constructs_shallow classes typed host is_answered.once chain from at made (host ∷ chain) left (λ other among. among) six called.0 called.1,
      ))
      (both (ready_decided classes typed is_answered host.class called.0) (shallow_decided (host ∷ chain) left called.0))

  constructs_decided : (chain : List MethodAt) (from : MethodAt) (at : ℕ) → Decision (Constructs classes typed host chain from at)
  constructs_decided chain from at = elim (cases_lt (length chain) 6) [
    | inl short ↦ let six : length chain + (6 - length chain) ≡ 6 = omega (arith, short) in constructs_by (6 - length chain) chain from at six (called_decided classes typed is_answered from at)
    | inr long ↦ inr (λ made. let short = chain_short made in omega (arith, short, long))
  ]

  -- ---- candidate sites

  abbrev AllConstructed : List MethodAt → MethodAt → ℕ → Scope → List Frame → Type 0
  AllConstructed chain from at s frames =
      (call : ℕ) (reference : Reference) → InitialisesAt s frames call (Uninit at) reference → Constructs classes typed host chain from call

  constructed_decided : (chain : List MethodAt) (from : MethodAt) (at : ℕ) (s : Scope) (frames : List Frame) → Decision (AllConstructed chain from at s frames)
  constructed_decided chain from at s frames =
      mapped (λ all call reference init. all call (reference, init)) (λ all call some. all call some.0 some.1)
      (offsets_decided s (λ call. InitialisesNew s frames call at) (λ call. Constructs classes typed host chain from call)
      (λ call some. instr_there s call _ some.1.is_call.is) (λ call. new_decided s frames call at) (λ call some. constructs_decided chain from call))

  abbrev SiteOf : List MethodAt → MethodAt → ℕ → Type 0
  SiteOf chain from at = (class : Name) × IsSite classes typed host chain from at class

  site_of_class : (chain : List MethodAt) (from : MethodAt) (at : ℕ) (framed : Framed classes typed is_answered from)
      → (class : Option Name) → class_of_new framed.scope at ≡ class → Decision (SiteOf chain from at)
  site_of_class chain from at framed None none = inr (λ some.
      none-some some.0 (sym none ∙ moved classes typed is_answered (λ s f. class_of_new s at ≡ Some some.0) some.1.is framed.has some.1.makes))
  site_of_class chain from at framed (Some class) made =
      mapped (λ h. (class, record { scope = framed.scope; frames = framed.frames; is = framed.has; makes = made; candidate = h.0; constructed = h.1 })) (λ some.
      let same : some.0 ≡ class = same_Some some.0 class (sym (moved classes typed is_answered (λ s f. class_of_new s at ≡ Some some.0) some.1.is framed.has some.1.makes) ∙ made) in (
        subst (IsCandidate classes) same some.1.candidate,
        moved classes typed is_answered (AllConstructed chain from at) some.1.is framed.has some.1.constructed,
      ))
      (both (candidate_decided classes is_answered.hierarchy is_answered.answers is_answered.fields_once class) (constructed_decided chain from at framed.scope framed.frames))

  site_by : (chain : List MethodAt) (from : MethodAt) (at : ℕ) → Decision (Framed classes typed is_answered from) → Decision (SiteOf chain from at)
  site_by chain from at (inr none) = inr (λ some. none (record { scope = some.1.scope; frames = some.1.frames; has = some.1.is }))
  site_by chain from at (inl framed) = site_of_class chain from at framed (class_of_new framed.scope at) refl

  site_decided : (chain : List MethodAt) (from : MethodAt) (at : ℕ) → Decision (SiteOf chain from at)
  site_decided chain from at = site_by chain from at (framed_decided classes typed is_answered from)

  -- ---- calls that are replaced

  follow_decided : (chain : List MethodAt) (callee : MethodAt) → Decision (MayFollow host chain callee)
  follow_decided chain callee =
      mapped (λ h. record { short = h.0; other = h.1 }) (λ follows. (follows.short, follows.other)) (both (less (length chain) 6) (none_of_decided (host ∷ chain) callee))

  -- what is asked of the object on which an initialiser is called
  abbrev KeepsNew : List MethodAt → MethodAt → ℕ → Scope → List Frame → Type 0
  KeepsNew chain from at s frames = (new : ℕ) (reference : Reference) → InitialisesAt s frames at (Uninit new) reference → SiteOf chain from new

  abbrev KeepsThis : List MethodAt → MethodAt → ℕ → Scope → List Frame → Type 0
  KeepsThis chain from at s frames =
      (reference : Reference) → InitialisesAt s frames at UninitThis reference → IsTrue (is_init s) × Constructs classes typed host chain from at

  abbrev Keeps : List MethodAt → MethodAt → ℕ → Scope → List Frame → Type 0
  Keeps chain from at s frames = KeepsNew chain from at s frames × KeepsThis chain from at s frames

  keeps_by : (chain : List MethodAt) (from : MethodAt) (at : ℕ) (s : Scope) (frames : List Frame) → Found s frames at ⊎ IsInitialisation s frames at None
      → Decision (Keeps chain from at s frames)
  keeps_by chain from at s frames (inr none) = inl (λ new reference init. absurd (none (New new) reference init), λ reference init. absurd (none This reference init))
  keeps_by chain from at s frames (inl found) = by_object found.object found.reference found.is where
    by_object : (object : Object) (reference : Reference) → InitialisesAt s frames at (type_of_object object) reference → Decision (Keeps chain from at s frames)
    by_object This reference is =
        mapped (λ h. (
          λ new other init. absurd (new_is_not_this new (one_object s frames at (Uninit new) UninitThis other reference init is)),
          λ other init. h,
        )) (λ keeps. keeps.1 reference is)
        (both (is_true (is_init s)) (constructs_decided chain from at))
    by_object (New new) reference is =
        mapped (λ kept. (
          λ other also init. subst (SiteOf chain from) (uninit_same new other (one_object s frames at (Uninit new) (Uninit other) reference also is init)) kept,
          λ also init. absurd (new_is_not_this new (one_object s frames at (Uninit new) UninitThis reference also is init)),
        )) (λ keeps. keeps.0 new reference is)
        (site_decided chain from new)

  abbrev ReplacedBy : List MethodAt → MethodAt → ℕ → Type 0
  ReplacedBy chain from at = (callee : MethodAt) × IsReplaced classes typed host chain from at callee

  replaced_in : (chain : List MethodAt) (from : MethodAt) (at : ℕ) (framed : Framed classes typed is_answered from) (callee : MethodAt)
      → IsCallee classes typed host.class from at callee → Decision (ReplacedBy chain from at)
  replaced_in chain from at framed callee is =
      mapped (λ h. (
        callee,
        record {
          is_callee = is;
          follows = h.0;
          of_site = λ s frames new reference has init. moved classes typed is_answered (KeepsNew chain from at) framed.has has h.1.0 new reference init;
          of_this = λ s frames reference has init. moved classes typed is_answered (KeepsThis chain from at) framed.has has h.1.1 reference init;
        },
      )) (λ some.
      let same : some.0 ≡ callee =
      one_callee classes typed is_answered.once from at some.0 callee (from_callee classes typed is_answered.once host.class from at some.0 some.1.is_callee).0
      (from_callee classes typed is_answered.once host.class from at callee is).0 in (
        subst (MayFollow host chain) same some.1.follows,
        (λ new reference init. some.1.of_site framed.scope framed.frames new reference framed.has init, λ reference init. some.1.of_this framed.scope framed.frames reference framed.has init),
      ))
      (both (follow_decided chain callee) (keeps_by chain from at framed.scope framed.frames (found_or_not framed.scope framed.frames at)))

  replaced_by : (chain : List MethodAt) (from : MethodAt) (at : ℕ) → Decision ((callee : MethodAt) × IsCallee classes typed host.class from at callee)
      → Decision (ReplacedBy chain from at)
  replaced_by chain from at (inr none) = inr (λ some. none (some.0, some.1.is_callee))
  replaced_by chain from at (inl some) =
      let calls = (from_callee classes typed is_answered.once host.class from at some.0 some.1).0 in
      replaced_in chain from at (record { scope = calls.caller; frames = calls.before; has = calls.is_caller }) some.0 some.1

  replaced_decided : (chain : List MethodAt) (from : MethodAt) (at : ℕ) → Decision (ReplacedBy chain from at)
  replaced_decided chain from at = replaced_by chain from at (callee_decided classes typed is_answered host.class from at)

  -- ---- all instructions

  abbrev Expanded : List MethodAt → MethodAt → List Placed → Type 0
  Expanded chain from instrs = (expansion : Expansion) × Expands classes typed host chain from instrs expansion

  abbrev ExpandsBehind : List MethodAt → Type 0
  ExpandsBehind chain = (callee : MethodAt) (instrs : List Placed) → length chain < 6 → Expanded (callee ∷ chain) callee instrs

  expands_along : (chain : List MethodAt) (from : MethodAt) → ExpandsBehind chain → (instrs : List Placed) → Expanded chain from instrs
  expands_along chain from behind [] = (no_more, expands_none chain from)
  expands_along chain from behind (placed ∷ instrs) = by (replaced_decided chain from placed.at) (site_decided chain from placed.at) (expands_along chain from behind instrs)
    where
      by : Decision (ReplacedBy chain from placed.at) → Decision (SiteOf chain from placed.at) → Expanded chain from instrs → Expanded chain from (placed ∷ instrs)
      by (inl some) at_site rest =
          let calls = (from_callee classes typed is_answered.once host.class from placed.at some.0 some.1.is_callee).0 in
          let inner = behind some.0 (instructions calls.scope) some.1.follows.short in
          let callee : Coded = record { at = some.0; scope = calls.scope; frames = calls.frames } in
          (replaced callee inner.0 rest.0, expands_replaced chain from placed instrs callee inner.0 rest.0 some.1 calls.is_callee inner.1 rest.1)
      by (inr none) (inl made) rest = (site made.0 rest.0, expands_site chain from placed instrs made.0 rest.0 made.1 rest.1)
      by (inr none) (inr no_site) rest =
          (stays rest.0, expands_stays chain from placed instrs rest.0 (λ callee is. none (callee, is)) (λ class is. no_site (class, is)) rest.1)

  expands_behind : (left : ℕ) (chain : List MethodAt) → length chain + left ≡ 6 → ExpandsBehind chain
  expands_behind zero chain six callee instrs short = absurd (omega (arith, six, short))
  expands_behind (suc left) chain six callee instrs short =
      expands_along (callee ∷ chain) callee (expands_behind left (callee ∷ chain) (omega (arith, six))) instrs

-- ---- the flat code of a host

pub some_expanded : (classes : Classes) (typed : FolderFrames) → IsAnswered classes → (at : MethodAt) (scope : Scope) (frames : List Frame)
    → HasFrames classes typed at scope frames → (flat : FlatCode) × IsExpanded classes typed at flat
some_expanded classes typed is_answered at scope frames has =
    let host : Coded = record { at = at; scope = scope; frames = frames } in
    let all = expands_along classes typed is_answered at [] at (expands_behind classes typed is_answered at 6 [] (omega arith)) (instructions scope) in
    (expanded host all.0, record { host = host; own = refl; is_host = has; expansion = all.0; expands = all.1; is = refl })
