-- Edges of plans, of which those to handlers are shared.
use Rattle.std.proofs.Common.{◌≡◌, ℕ, ◌+◌, ◌-◌, ◌<◌, ◌≤◌, ◌&&◌, ◌||◌, zero, suc, Bool, true, false, not, List, [], ◌∷◌, ◌++◌, length, slice_get, Option, Some, None, option_map, refl, sym, ap, subst, ◌∙◌, arith}
use Rattle.std.specs.List.{list_any}
use Rattle.std.proofs.lemmas.Bool.{true≢false}
use Rattle.std.proofs.lemmas.List.Folds.{list_any-append}
use Rattle.std.proofs.lemmas.Option.{none-some, same_Some}
use Rattle.flow_code.specs.declared.handlers.FlatHandler.{FlatHandler}
use Rattle.plan_flow.specs.Inner.Gaining.{is_behind, is_normal, loses}
use Rattle.plan_flow.specs.Inner.Sharing.{AreOwnOf, AreThrown, caught_made}
use Rattle.plan_flow.specs.Plans.{MadeEdge, Plan}
use Rattle.plan_flow.specs.declared.edge.EdgeKind.TheVariants as kinds

-- ---- edges to handlers

pub caught_thrown : (made : ℕ → List ℕ) (number : ℕ) (handlers : List FlatHandler) → AreThrown (caught_made made number handlers)
caught_thrown made number [] = record { none = refl }
caught_thrown made number (handler ∷ handlers) = record { none = (caught_thrown made (number + 1) handlers).none }

pub none_thrown : AreThrown []
none_thrown = record { none = refl }

abbrev pub thrown_edge : (ℕ → List ℕ) → ℕ → FlatHandler → MadeEdge
thrown_edge made number handler = record { by = kinds.Handler number; to = handler.to; made = made handler.to }

caught_at :
    (made : ℕ → List ℕ) (first number : ℕ) (handlers : List FlatHandler)
    → slice_get (caught_made made first handlers) number ≡ option_map (thrown_edge made (first + number)) (slice_get handlers number)
caught_at made first number [] = refl
caught_at made first zero (handler ∷ handlers) =
    let same : first ≡ first + 0 = omega arith in
    ap (λ (n : ℕ). Some (thrown_edge made n handler)) same
caught_at made first (suc number) (handler ∷ handlers) =
    let same : (first + 1) + number ≡ first + suc number = omega arith in
    caught_at made (first + 1) number handlers
    ∙ ap (λ (n : ℕ). option_map (thrown_edge made n) (slice_get handlers number)) same

pub caught_here :
    (made : ℕ → List ℕ) (number : ℕ) (handlers : List FlatHandler)
    → slice_get (caught_made made 0 handlers) number ≡ option_map (thrown_edge made number) (slice_get handlers number)
caught_here made number handlers =
    let same : 0 + number ≡ number = omega arith in
    caught_at made 0 number handlers ∙ ap (λ (n : ℕ). option_map (thrown_edge made n) (slice_get handlers number)) same

-- ---- edges in two parts

pub in_front : {A : Type 0} (front back : List A) (number : ℕ) (item : A) → slice_get front number ≡ Some item → slice_get (front ++ back) number ≡ Some item
in_front [] back number item is = absurd (none-some item is)
in_front (first ∷ front) back zero item is = is
in_front (first ∷ front) back (suc number) item is = in_front front back number item is

pub in_back : {A : Type 0} (front back : List A) (number : ℕ) → slice_get front number ≡ None → slice_get (front ++ back) number ≡ slice_get back (number - length front)
in_back [] back number none = let same : number ≡ number - 0 = omega arith in ap (slice_get back) same
in_back (first ∷ front) back zero none = absurd (none-some first (sym none))
in_back (first ∷ front) back (suc number) none =
    let same : number - length front ≡ suc number - length (first ∷ front) = omega arith in
    in_back front back number none ∙ ap (slice_get back) same

-- ---- edges on which an object is lost

none_lost : (plan : Plan) (site : ℕ) (edges : List MadeEdge) → list_any (λ edge. is_normal edge.by) edges ≡ false → list_any (loses plan site) edges ≡ false
none_lost plan site [] none = refl
none_lost plan site (edge ∷ edges) none = by (is_normal edge.by) none (none_lost plan site edges) where
  by :
      (b : Bool)
      → (b || list_any (λ one. is_normal one.by) edges) ≡ false
      → (list_any (λ one. is_normal one.by) edges ≡ false → list_any (loses plan site) edges ≡ false)
      → ((b && not (is_behind plan site edge)) || list_any (loses plan site) edges) ≡ false
  by true none rest = absurd (true≢false none)
  by false none rest = rest none

or_none : (b : Bool) → (b || false) ≡ b
or_none true = refl
or_none false = refl

pub lost_own : (plan : Plan) (site : ℕ) (own all : List MadeEdge) → AreOwnOf own all → list_any (loses plan site) own ≡ list_any (loses plan site) all
lost_own plan site own all are = sym (
    ap (list_any (loses plan site)) are.is
    ∙ list_any-append (loses plan site) own are.caught
    ∙ ap (λ (b : Bool). list_any (loses plan site) own || b) (none_lost plan site are.caught are.thrown.none)
    ∙ or_none (list_any (loses plan site) own))
