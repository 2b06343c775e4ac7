-- Edges of plans, found by their kinds.
use Rattle.std.proofs.Common.{◌≡◌, ◌<◌, ◌≤◌, ◌+◌, ◌==◌, ℕ, zero, suc, Bool, true, false, cond, List, [], ◌∷◌, ◌++◌, drop, slice_get, Option, Some, None, refl, sym, ap, subst, ◌∙◌, arith}
use Rattle.std.specs.List.{find}
use Rattle.std.specs.Option.{option_or}
use Rattle.std.proofs.lemmas.Bool.{eq-eqb, eqb-true, true≢false}
use Rattle.std.proofs.lemmas.List.Folds.{find-append}
use Rattle.std.proofs.lemmas.Option.{none-some}
use Rattle.flow_code.specs.declared.handlers.FlatHandler.{FlatHandler}
use Rattle.plan_flow.specs.Inner.EdgeKinds.{AreCounted, AreMarked, begins_with_next, first_jump}
use Rattle.plan_flow.specs.Inner.Sharing.{caught_made}
use Rattle.plan_flow.specs.Plans.{MadeEdge}
use Rattle.plan_flow.specs.Written.Routes.{is_kind}
use Rattle.plan_flow.specs.declared.edge.EdgeKind.{EdgeKind}
use Rattle.plan_flow.specs.declared.edge.EdgeKind.TheVariants as kinds
use Rattle.plan_flow.proofs.Opening.{dropped, dropped_all}

-- the first edge of a kind
abbrev pub found : EdgeKind → List MadeEdge → Option MadeEdge
found by edges = find (λ edge. is_kind edge.by by) edges

not_same : (one other : ℕ) → (one ≡ other → ⊥) → (one == other) ≡ false
not_same one other differ = by (one == other) refl where
  by : (b : Bool) → (one == other) ≡ b → b ≡ false
  by true is = absurd (differ (eqb-true one other is))
  by false is = refl

-- ---- edges to handlers

pub caught_next : (made : ℕ → List ℕ) (first : ℕ) (handlers : List FlatHandler) → found kinds.Next (caught_made made first handlers) ≡ None
caught_next made first [] = refl
caught_next made first (handler ∷ handlers) = caught_next made (first + 1) handlers

pub caught_jump : (made : ℕ → List ℕ) (first number : ℕ) (handlers : List FlatHandler) → found (kinds.Jump number) (caught_made made first handlers) ≡ None
caught_jump made first number [] = refl
caught_jump made first number (handler ∷ handlers) = caught_jump made (first + 1) number handlers

caught_from :
    (made : ℕ → List ℕ) (first number : ℕ) (handlers : List FlatHandler)
    → found (kinds.Handler (first + number)) (caught_made made first handlers) ≡ slice_get (caught_made made first handlers) number
caught_from made first number [] = refl
caught_from made first zero (handler ∷ handlers) =
    let edge : MadeEdge = record { by = kinds.Handler first; to = handler.to; made = made handler.to } in
    let here : (first == (first + 0)) ≡ true = eq-eqb first (first + 0) (omega arith) in
    ap (λ (b : Bool). cond b (Some edge) (found (kinds.Handler (first + 0)) (caught_made made (first + 1) handlers))) here
caught_from made first (suc number) (handler ∷ handlers) =
    let edge : MadeEdge = record { by = kinds.Handler first; to = handler.to; made = made handler.to } in
    let there : (first == (first + suc number)) ≡ false = not_same first (first + suc number) (λ same. omega (arith, same)) in
    let same : (first + 1) + number ≡ first + suc number = omega arith in
    ap (λ (b : Bool). cond b (Some edge) (found (kinds.Handler (first + suc number)) (caught_made made (first + 1) handlers))) there
    ∙ ap (λ (n : ℕ). found (kinds.Handler n) (caught_made made (first + 1) handlers)) (sym same)
    ∙ caught_from made (first + 1) number handlers

pub caught_handler :
    (made : ℕ → List ℕ) (number : ℕ) (handlers : List FlatHandler)
    → found (kinds.Handler number) (caught_made made 0 handlers) ≡ slice_get (caught_made made 0 handlers) number
caught_handler made number handlers =
    let same : 0 + number ≡ number = omega arith in
    ap (λ (n : ℕ). found (kinds.Handler n) (caught_made made 0 handlers)) (sym same) ∙ caught_from made 0 number handlers

-- ---- edges to targets

record JumpsFrom (first : ℕ) (edges : List MadeEdge) : Type 0 where
  each : (number : ℕ) (edge : MadeEdge) → slice_get edges number ≡ Some edge → is_kind edge.by (kinds.Jump (first + number)) ≡ true

jumps_rest : (first : ℕ) (edge : MadeEdge) (edges : List MadeEdge) → JumpsFrom first (edge ∷ edges) → JumpsFrom (first + 1) edges
jumps_rest first edge edges all = record {
  each = λ number one is.
      let same : first + suc number ≡ (first + 1) + number = omega arith in
      subst (λ (n : ℕ). is_kind one.by (kinds.Jump n) ≡ true) same (all.each (suc number) one is);
}

jump_next : (by : EdgeKind) (number : ℕ) → is_kind by (kinds.Jump number) ≡ true → is_kind by kinds.Next ≡ false
jump_next kinds.Next number is = absurd (true≢false (sym is))
jump_next (kinds.Jump other) number is = refl
jump_next (kinds.Handler other) number is = refl

jump_handler : (by : EdgeKind) (number handler : ℕ) → is_kind by (kinds.Jump number) ≡ true → is_kind by (kinds.Handler handler) ≡ false
jump_handler kinds.Next number handler is = refl
jump_handler (kinds.Jump other) number handler is = refl
jump_handler (kinds.Handler other) number handler is = absurd (true≢false (sym is))

jump_other : (by : EdgeKind) (number other : ℕ) → is_kind by (kinds.Jump number) ≡ true → is_kind by (kinds.Jump other) ≡ (number == other)
jump_other kinds.Next number other is = absurd (true≢false (sym is))
jump_other (kinds.Jump one) number other is = ap (λ (n : ℕ). n == other) (eqb-true one number is)
jump_other (kinds.Handler one) number other is = absurd (true≢false (sym is))

next_of : (by : EdgeKind) → is_kind by kinds.Next ≡ true → by ≡ kinds.Next
next_of kinds.Next is = refl
next_of (kinds.Jump number) is = absurd (true≢false (sym is))
next_of (kinds.Handler number) is = absurd (true≢false (sym is))

passed : (by : EdgeKind) (edge : MadeEdge) (edges : List MadeEdge) → is_kind edge.by by ≡ false → found by (edge ∷ edges) ≡ found by edges
passed by edge edges is = ap (λ (b : Bool). cond b (Some edge) (found by edges)) is

met : (by : EdgeKind) (edge : MadeEdge) (edges : List MadeEdge) → is_kind edge.by by ≡ true → found by (edge ∷ edges) ≡ Some edge
met by edge edges is = ap (λ (b : Bool). cond b (Some edge) (found by edges)) is

jumps_next : (first : ℕ) (edges : List MadeEdge) → JumpsFrom first edges → found kinds.Next edges ≡ None
jumps_next first [] all = refl
jumps_next first (edge ∷ edges) all =
    passed kinds.Next edge edges (jump_next edge.by (first + 0) (all.each 0 edge refl)) ∙ jumps_next (first + 1) edges (jumps_rest first edge edges all)

jumps_handler : (first handler : ℕ) (edges : List MadeEdge) → JumpsFrom first edges → found (kinds.Handler handler) edges ≡ None
jumps_handler first handler [] all = refl
jumps_handler first handler (edge ∷ edges) all =
    passed (kinds.Handler handler) edge edges (jump_handler edge.by (first + 0) handler (all.each 0 edge refl))
    ∙ jumps_handler (first + 1) handler edges (jumps_rest first edge edges all)

jumps_jump : (first number : ℕ) (edges : List MadeEdge) → JumpsFrom first edges → found (kinds.Jump (first + number)) edges ≡ slice_get edges number
jumps_jump first number [] all = refl
jumps_jump first zero (edge ∷ edges) all = met (kinds.Jump (first + 0)) edge edges (all.each 0 edge refl)
jumps_jump first (suc number) (edge ∷ edges) all =
    let differ : ((first + 0) == (first + suc number)) ≡ false = not_same (first + 0) (first + suc number) (λ same. omega (arith, same)) in
    let same : (first + 1) + number ≡ first + suc number = omega arith in
    passed (kinds.Jump (first + suc number)) edge edges (jump_other edge.by (first + 0) (first + suc number) (all.each 0 edge refl) ∙ differ)
    ∙ ap (λ (n : ℕ). found (kinds.Jump n) edges) (sym same)
    ∙ jumps_jump (first + 1) number edges (jumps_rest first edge edges all)

-- ---- edges that are counted

-- those behind the first one, if that is the one to the next point
data Counts : Bool → List MadeEdge → Type 0 where
  from_first : (edges : List MadeEdge) → JumpsFrom 0 edges → Counts false edges
  from_second : (edge : MadeEdge) (edges : List MadeEdge) → edge.by ≡ kinds.Next → JumpsFrom 0 edges → Counts true (edge ∷ edges)

counts : (edges : List MadeEdge) → AreCounted edges → Counts (begins_with_next edges) edges
counts [] counted = from_first [] (record { each = λ number edge is. absurd (none-some edge is) })
counts (edge ∷ edges) counted = by (is_kind edge.by kinds.Next) refl counted.each where
  by :
      (falls : Bool)
      → is_kind edge.by kinds.Next ≡ falls
      → ((number : ℕ) (one : MadeEdge) → slice_get (edge ∷ edges) (first_jump (is_kind edge.by kinds.Next) + number) ≡ Some one → is_kind one.by (kinds.Jump number) ≡ true)
      → Counts falls (edge ∷ edges)
  by true is each = from_second edge edges (next_of edge.by is) (record {
    each = λ number one there.
        let at : suc number ≡ first_jump (is_kind edge.by kinds.Next) + number = rw is (omega arith) in
        let same : number ≡ 0 + number = omega arith in
        subst (λ (n : ℕ). is_kind one.by (kinds.Jump n) ≡ true) same (each number one (ap (slice_get (edge ∷ edges)) (sym at) ∙ there));
  })
  by false is each = from_first (edge ∷ edges) (record {
    each = λ number one there.
        let at : number ≡ first_jump (is_kind edge.by kinds.Next) + number = rw is (omega arith) in
        let same : number ≡ 0 + number = omega arith in
        subst (λ (n : ℕ). is_kind one.by (kinds.Jump n) ≡ true) same (each number one (ap (slice_get (edge ∷ edges)) (sym at) ∙ there));
  })

pub counted_next : (edges : List MadeEdge) → AreMarked true edges → begins_with_next edges ≡ true → slice_get edges 0 ≡ found kinds.Next edges
counted_next [] marked falls = absurd (true≢false (sym falls))
counted_next (edge ∷ edges) marked falls = sym (met kinds.Next edge edges falls)

pub counted_no_next : (edges : List MadeEdge) → AreMarked true edges → begins_with_next edges ≡ false → None ≡ found kinds.Next edges
counted_no_next edges marked none = go (begins_with_next edges) edges none (counts edges (marked.counted refl)) where
  go : (falls : Bool) (edges : List MadeEdge) → falls ≡ false → Counts falls edges → None ≡ found kinds.Next edges
  go false edges none (from_first _ all) = sym (jumps_next 0 edges all)
  go true edges none counted = absurd (true≢false none)

pub counted_handler : (edges : List MadeEdge) (handler : ℕ) → AreMarked true edges → None ≡ found (kinds.Handler handler) edges
counted_handler edges handler marked = go (begins_with_next edges) edges (counts edges (marked.counted refl)) where
  go : (falls : Bool) (edges : List MadeEdge) → Counts falls edges → None ≡ found (kinds.Handler handler) edges
  go false edges (from_first _ all) = sym (jumps_handler 0 handler edges all)
  go true [] none = elim none [ ]
  go true (edge ∷ edges) (from_second _ _ next all) =
      sym (passed (kinds.Handler handler) edge edges (ap (λ (by : EdgeKind). is_kind by (kinds.Handler handler)) next) ∙ jumps_handler 0 handler edges all)

pub counted_jump :
    (edges : List MadeEdge) (number : ℕ)
    → AreMarked true edges
    → slice_get edges (first_jump (begins_with_next edges) + number) ≡ found (kinds.Jump number) edges
counted_jump edges number marked = go (begins_with_next edges) edges (counts edges (marked.counted refl)) where
  go : (falls : Bool) (edges : List MadeEdge) → Counts falls edges → slice_get edges (first_jump falls + number) ≡ found (kinds.Jump number) edges
  go false edges (from_first _ all) =
      let same : 0 + number ≡ number = omega arith in
      ap (slice_get edges) same ∙ sym (jumps_jump 0 number edges all) ∙ ap (λ (n : ℕ). found (kinds.Jump n) edges) same
  go true [] none = elim none [ ]
  go true (edge ∷ edges) (from_second _ _ next all) =
      let at : 1 + number ≡ suc number = omega arith in
      let same : 0 + number ≡ number = omega arith in
      ap (slice_get (edge ∷ edges)) at
      ∙ sym (passed (kinds.Jump number) edge edges (ap (λ (by : EdgeKind). is_kind by (kinds.Jump number)) next)
      ∙ ap (λ (n : ℕ). found (kinds.Jump n) edges) (sym same)
      ∙ jumps_jump 0 number edges all)

-- ---- whether they are counted

pub marked_by : (mark : Bool) (edges : List MadeEdge) → mark ≡ true → AreMarked mark edges → AreMarked true edges
marked_by mark edges is marked = subst (λ (b : Bool). AreMarked b edges) is marked

-- those before a number lead to targets
pub record Counting (edges : List MadeEdge) (first at : ℕ) : Type 0 where
  pub low : first ≤ at
  pub each :
      (number : ℕ) (edge : MadeEdge)
      → first + number < at
      → slice_get edges (first + number) ≡ Some edge
      → is_kind edge.by (kinds.Jump number) ≡ true

-- ---- one after the other

pub record FoundFrom (by : EdgeKind) (edges : List MadeEdge) (number : ℕ) : Type 0 where
  pub same : found by edges ≡ found by (drop number edges)

pub found_start : (by : EdgeKind) (edges : List MadeEdge) → FoundFrom by edges 0
found_start by edges = record { same = refl }

pub found_next :
    (by : EdgeKind) (edges : List MadeEdge) (number : ℕ) (edge : MadeEdge)
    → FoundFrom by edges number
    → slice_get edges number ≡ Some edge
    → is_kind edge.by by ≡ false
    → FoundFrom by edges (number + 1)
found_next by edges number edge left there differs = record {
  same = left.same ∙ ap (found by) (dropped edges number edge there) ∙ passed by edge (drop (number + 1) edges) differs;
}

pub found_here :
    (by : EdgeKind) (edges : List MadeEdge) (number : ℕ) (edge : MadeEdge)
    → FoundFrom by edges number
    → slice_get edges number ≡ Some edge
    → is_kind edge.by by ≡ true
    → Some edge ≡ found by edges
found_here by edges number edge left there same = sym (left.same ∙ ap (found by) (dropped edges number edge there) ∙ met by edge (drop (number + 1) edges) same)

pub found_none :
    (by : EdgeKind) (edges : List MadeEdge) (number : ℕ)
    → FoundFrom by edges number
    → slice_get edges number ≡ None
    → None ≡ found by edges
found_none by edges number left none = sym (left.same ∙ ap (found by) (dropped_all edges number none))

-- ---- edges in two parts

pub found_front : (by : EdgeKind) (front back : List MadeEdge) (edge : MadeEdge) → found by front ≡ Some edge → Some edge ≡ found by (front ++ back)
found_front by front back edge is =
    sym (find-append (λ (one : MadeEdge). is_kind one.by by) front back ∙ ap (λ (o : Option MadeEdge). option_or o (found by back)) is)

pub found_back : (by : EdgeKind) (front back : List MadeEdge) → found by front ≡ None → found by back ≡ found by (front ++ back)
found_back by front back none =
    sym (find-append (λ (one : MadeEdge). is_kind one.by by) front back ∙ ap (λ (o : Option MadeEdge). option_or o (found by back)) none)
