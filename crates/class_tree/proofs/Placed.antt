-- Orders that grow by one node, behind its targets, until none can follow.
use Rattle.std.proofs.Common.{◌≡◌, ◌⊎◌, ℕ, ◌<◌, Bool, true, false, MatchBool, List, [], ◌∷◌, ◌++◌, length, slice_get, Some, refl, sym, ap, subst, ◌∙◌, inl, inr, append_assoc}
use Rattle.std.specs.List.{list_any, list_all}
use Rattle.std.proofs.lemmas.Bool.{false≢true, true≢false, and_parts, and_cases, or_cases, or_left, or_right, eqb-true, eq-eqb}
use Rattle.std.proofs.lemmas.List.{same_from_push}
use Rattle.class_tree.specs.Inner.Graphs.{Graph, IsOneOf, IsNoneOf, IsEdge}
use Rattle.class_tree.specs.Inner.Placing.{Collected, AreBehindTargets, CanFollow, CannotFollow}
use Rattle.class_tree.proofs.OneOf.{is_number, one_of_parts, one_of_single}
use Rattle.class_tree.proofs.Searched.{one_target}

-- ---- one node more

end_of : (list : List ℕ) → (list ≡ []) ⊎ ((front : List ℕ) × (last : ℕ) × (list ≡ front ++ last ∷ []))
end_of [] = inl refl
end_of (first ∷ list) =
    elim (end_of list) [
      | inl none ↦ inr ([], first, ap (λ (rest : List ℕ). first ∷ rest) none)
      | inr some ↦ inr (first ∷ some.0, some.1, ap (λ (rest : List ℕ). first ∷ rest) some.2)
    ]

-- where a node stands in a list with one more behind it: it is that one, or it stands in the list
split_of_pushed : (order : List ℕ) (last : ℕ) (before after : List ℕ) (node : ℕ) → order ++ last ∷ [] ≡ before ++ node ∷ after → ((order ≡ before) × (last ≡ node)) ⊎ ((front : List ℕ) × (order ≡ before ++ node ∷ front))
split_of_pushed order last before after node is =
    elim (end_of after) [
      | inl none ↦ inl (same_from_push order before last node (is ∙ ap (λ (rest : List ℕ). before ++ node ∷ rest) none))
      | inr some ↦ inr (some.0, (same_from_push order (before ++ node ∷ some.0) last some.1 (is ∙ ap (λ (rest : List ℕ). before ++ node ∷ rest) some.2 ∙ sym (append_assoc before (node ∷ some.0) (some.1 ∷ [])))).0)
    ]

pub one_placed : (graph : Graph) (order : List ℕ) (node : ℕ) → AreBehindTargets graph order → node < length graph → CanFollow graph order node → AreBehindTargets graph (order ++ node ∷ [])
one_placed graph order node placed low can = record {
  nodes = λ other one. elim (one_of_parts order (node ∷ []) other one) [
    | inl old ↦ placed.nodes other old
    | inr new ↦ subst (λ (n : ℕ). n < length graph) (one_of_single node other new) low
  ];
  behind = λ before after other to is e. elim (split_of_pushed order node before after other is) [
    | inl new ↦ subst (λ (front : List ℕ). IsOneOf front to) new.0 (can.targets to (subst (λ (n : ℕ). IsEdge graph n to) (sym new.1) e))
    | inr old ↦ placed.behind before old.0 other to old.1 e
  ];
  once = λ before after other is. elim (split_of_pushed order node before after other is) [
    | inl new ↦ subst (λ (front : List ℕ). IsNoneOf front other) new.0 (subst (λ (n : ℕ). IsNoneOf order n) new.1 can.new)
    | inr old ↦ placed.once before old.0 other old.1
  ];
}

-- what adding a node leaves
pub still_placed : (graph : Graph) (placed more : Collected) (node : ℕ) → more ≡ record placed { nodes = placed.nodes ++ node ∷ [] } → (placed.size ≡ length graph) × AreBehindTargets graph placed.nodes → node < length graph → CanFollow graph placed.nodes node → (more.size ≡ length graph) × AreBehindTargets graph more.nodes
still_placed graph placed more node is before low can =
    subst (λ (set : Collected). (set.size ≡ length graph) × AreBehindTargets graph set.nodes) (sym is) (before.0, one_placed graph placed.nodes node before.1 low can)

-- ---- whether a node can follow

abbrev pub is_one : List ℕ → ℕ → Bool
is_one numbers number = list_any (is_number number) numbers

each_is_there : (order targets : List ℕ) → list_all (is_one order) targets ≡ true → (to : ℕ) → IsOneOf targets to → IsOneOf order to
each_is_there order [] all to one = absurd (false≢true one)
each_is_there order (first ∷ targets) all to one =
    let parts = and_parts (is_one order first) (list_all (is_one order) targets) all in
    elim (or_cases _ _ one) [ inl here ↦ subst (IsOneOf order) (eqb-true first to here) parts.0 | inr there ↦ each_is_there order targets parts.1 to there ]

one_is_missing : (order targets : List ℕ) → list_all (is_one order) targets ≡ false → (to : ℕ) × IsOneOf targets to × IsNoneOf order to
one_is_missing order [] all = absurd (true≢false all)
one_is_missing order (first ∷ targets) all =
    elim (and_cases (is_one order first) (list_all (is_one order) targets) all) [
      | inl here ↦ (first, or_left _ _ (eq-eqb first first refl), here)
      | inr there ↦ let later = one_is_missing order targets there in (later.0, or_right _ _ later.1, later.2)
    ]

pub whether_it_follows : (graph : Graph) (order targets : List ℕ) (node : ℕ) (yes : Bool) → slice_get graph node ≡ Some targets → IsNoneOf order node → yes ≡ list_all (is_one order) targets → MatchBool yes (CanFollow graph order node) (CannotFollow graph order node)
whether_it_follows graph order targets node true there new is = record { new = new; targets = λ to e. each_is_there order targets (sym is) to (one_target graph node to targets there e) }
whether_it_follows graph order targets node false there new is = λ none. let missing = one_is_missing order targets (sym is) in (missing.0, record { targets = targets; there = there; target = missing.1 }, missing.2)
