-- Calls of initialisers behind a chain.
use Rattle.std.proofs.Common.{◌≡◌, ◌+◌, ◌<◌, ◌≤◌, ℕ, List, [], ◌∷◌, length, None, refl, sym, subst, inl, arith}
use Rattle.class_model.specs.declared.class_file.MethodAt.{MethodAt}
use Rattle.class_tree.specs.Headers.{Classes}
use Rattle.expanded_code.specs.Callees.{Calls, IsCallee}
use Rattle.expanded_code.specs.Sites.{Constructs, MayFollow, constructs}
use Rattle.flow_code.specs.TypedFrames.{FolderFrames}
use Rattle.inline_expand.proofs.ReadyCalls.{from_callee}
use Rattle.inline_expand.proofs.ShallowCalls.{constructs_shallow, shallow_constructs}
use Rattle.inline_expand.specs.Inner.Chains.{IsNoneOf, IsShallow}
use Rattle.inline_expand.specs.Inner.Places.{chain_of, host_of}
use Rattle.inline_expand.specs.Inner.Ready.{CallsAtMost, IsReady}
use Rattle.inline_expand.specs.Inner.ReadyCallees.{IsCalleeFound, IsReadyCallee}
use Rattle.inline_expand.specs.Inner.Stacks.{IsAmong}
use Rattle.inline_expand.specs.declared.coded.CodedMethod.{CodedMethod}
use Rattle.member_link.specs.Scope.{Scope}

-- ---- a host and its chain

pub one_line : (line : List MethodAt) → 1 ≤ length line → line ≡ host_of line ∷ chain_of line
one_line [] some = absurd (omega arith)
one_line (host ∷ chain) some = refl

pub line_length : (line : List MethodAt) → 1 ≤ length line → length line ≡ length (chain_of line) + 1
line_length [] some = absurd (omega arith)
line_length (host ∷ chain) some = omega arith

pub follows_if : (line : List MethodAt) (callee : MethodAt) → 1 ≤ length line → length line < 7 → IsNoneOf line callee → MayFollow (host_of line) (chain_of line) callee
follows_if line callee some short none = record {
  short = omega (arith, line_length line some);
  other = subst (λ (methods : List MethodAt). IsNoneOf methods callee) (one_line line some) none;
}

pub follows_short : (line : List MethodAt) (callee : MethodAt) → 1 ≤ length line → MayFollow (host_of line) (chain_of line) callee → length line < 7
follows_short line callee some follows = omega (arith, follows.short, line_length line some)

pub follows_apart : (line : List MethodAt) (callee : MethodAt) → 1 ≤ length line → MayFollow (host_of line) (chain_of line) callee → IsNoneOf line callee
follows_apart line callee some follows = subst (λ (methods : List MethodAt). IsNoneOf methods callee) (sym (one_line line some)) follows.other

-- ---- calls of initialisers

module _ (classes : Classes) (typed : FolderFrames) (number : ℕ)
    (once : (s : Scope) (at : ℕ) (one other : MethodAt) → Calls classes s at one → Calls classes s at other → one ≡ other)
    (line : List MethodAt) (some : 1 ≤ length line) (of_host : (host_of line).class ≡ number) (from : MethodAt) (at : ℕ) where
  at_host : (callee : MethodAt) → IsCallee classes typed (host_of line).class from at callee → IsCallee classes typed number from at callee
  at_host callee is = subst (λ (n : ℕ). IsCallee classes typed n from at callee) of_host is

  pub no_callee_constructs : IsCalleeFound classes typed number from at None → ¬ Constructs classes typed (host_of line) (chain_of line) from at
  no_callee_constructs none constructed = of_callee (host_of line) (chain_of line) from at constructed (λ callee is. none callee (at_host callee is)) where
    of_callee : (host : MethodAt) (chain : List MethodAt) (from : MethodAt) (at : ℕ) → Constructs classes typed host chain from at → ((callee : MethodAt) → ¬ IsCallee classes typed host.class from at callee) → ⊥
    of_callee host _ _ _ (constructs chain from at own scope frames callee_is follows has parts) none = none own callee_is

  module _ (steps : ℕ) (seven : length line + steps ≡ 7) (callee : CodedMethod) (found : IsReadyCallee classes typed number from at callee) where
    six : length (chain_of line) + steps ≡ 6
    six = omega (arith, seven, line_length line some)

    its_call : CallsAtMost classes typed from at callee.at
    its_call = (from_callee classes typed once number from at callee.at found.is_callee).0

    pub constructs_if_shallow : IsShallow classes typed line steps callee.at → Constructs classes typed (host_of line) (chain_of line) from at
    constructs_if_shallow shallow =
        shallow_constructs classes typed (host_of line) once line steps (chain_of line) from at callee.at six its_call
        (subst (λ (n : ℕ). IsReady classes typed n callee.at) (sym of_host) (from_callee classes typed once number from at callee.at found.is_callee).1)
        shallow (λ other is. inl (subst (λ (methods : List MethodAt). IsAmong methods other) (sym (one_line line some)) is))

    pub shallow_if_constructs : Constructs classes typed (host_of line) (chain_of line) from at → IsShallow classes typed line steps callee.at
    shallow_if_constructs constructed =
        constructs_shallow classes typed (host_of line) once (chain_of line) from at constructed line steps
        (λ other is. subst (λ (methods : List MethodAt). IsAmong methods other) (one_line line some) is) six callee.at its_call
