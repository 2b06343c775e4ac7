-- The order of states is a partial one, along which states have fewer and fewer objects; a join is the least state above two.
use Rattle.std.proofs.Common.{◌≡◌, ◌≢◌, ◌⊎◌, ℕ, ◌<◌, ◌≤◌, ◌==◌, Bool, true, false, cond, not, ◌&&◌, ◌||◌, List, [], ◌∷◌, ◌++◌, length, Option, is_some, IsTrue, refl, sym, ap, subst, ◌∙◌, inl, inr, arith}
use Rattle.std.specs.List.{filter}
use Rattle.std.proofs.lemmas.Bool.{cases_Bool, or_cases, or_left, or_right, and_parts, and_from, eq-eqb, eqb-true, not_from_true, false≢true}
use Rattle.std.proofs.lemmas.List.{length-map}
use Rattle.std.proofs.lemmas.List.Folds.{list_any-append}
use Rattle.virtual_state.specs.Orders.{IsBelow, IsJoin, IsChain}
use Rattle.virtual_state.specs.Sites.{has, differing}
use Rattle.virtual_state.specs.States.{State, IsState, IsEdge, object_of, is_present, sites_of}
use Rattle.virtual_state.specs.Without.{IsClosed, object_without, objects_without, without}
use Rattle.virtual_state.specs.declared.slot.VObject.{VObject}
use Rattle.virtual_state.specs.Laws.Objects.{same_or_not, present_found, of_sites, object_first, object_behind}
use Rattle.virtual_state.specs.Laws.Removals.{stay, gone, present_before, present_behind, edge_behind, without_is_state, without_agrees, without_none, without_twice, fewer_objects}

-- ---- sets of sites as lists

pub has_both :
    (one other : List ℕ) (site : ℕ) → has (one ++ other) site ≡ (has one site || has other site)
has_both one other site = list_any-append (λ number. number == site) one other

-- the sites of objects that pass a test
abbrev pub sites_where : (ℕ → Bool) → List VObject → List ℕ
sites_where test objects = filter test (sites_of objects)

pub has_where :
    (test : ℕ → Bool) (objects : List VObject) (site : ℕ)
    → has (sites_where test objects) site ≡ (is_present objects site && test site)
has_where test [] site = refl
has_where test (object ∷ objects) site =
    elim (same_or_not object.site site) [
      | inl same ↦
          let present = ap is_some (object_first object objects site same) in
          elim (cases_Bool (test object.site)) [
            | inl passes ↦
                ap (λ (list : List ℕ). has list site) (ap (λ (b : Bool). cond b (object.site ∷ sites_where test objects) (sites_where test objects)) passes)
                ∙ ap (λ (b : Bool). b || has (sites_where test objects) site) (eq-eqb object.site site same)
                ∙ sym (and_from (is_present (object ∷ objects) site) (test site) present (sym (ap test same) ∙ passes))
            | inr fails ↦
                let fails_here = sym (ap test same) ∙ fails in
                ap (λ (list : List ℕ). has list site) (ap (λ (b : Bool). cond b (object.site ∷ sites_where test objects) (sites_where test objects)) fails)
                ∙ has_where test objects site
                ∙ ap (λ (b : Bool). is_present objects site && b) fails_here
                ∙ no_and (is_present objects site)
                ∙ sym (ap (λ (b : Bool). is_present (object ∷ objects) site && b) fails_here ∙ no_and (is_present (object ∷ objects) site))
          ]
      | inr differ ↦
          let behind = ap (λ (o : Option VObject). is_some o && test site) (object_behind object objects site differ) in
          elim (cases_Bool (test object.site)) [
            | inl passes ↦
                ap (λ (list : List ℕ). has list site) (ap (λ (b : Bool). cond b (object.site ∷ sites_where test objects) (sites_where test objects)) passes)
                ∙ other_first object.site site (has (sites_where test objects) site) differ
                ∙ has_where test objects site
                ∙ sym behind
            | inr fails ↦
                ap (λ (list : List ℕ). has list site) (ap (λ (b : Bool). cond b (object.site ∷ sites_where test objects) (sites_where test objects)) fails)
                ∙ has_where test objects site
                ∙ sym behind
          ]
    ] where
      no_and : (b : Bool) → (b && false) ≡ false
      no_and true = refl
      no_and false = refl

      other_first : (one other : ℕ) (b : Bool) → one ≢ other → ((one == other) || b) ≡ b
      other_first one other b differ = elim (cases_Bool (one == other)) [
        | inl same ↦ absurd (differ (eqb-true one other same))
        | inr not_same ↦ ap (λ (c : Bool). c || b) not_same
      ]

-- ---- a closed set takes a state to one above it

pub below_without :
    (state : State) (away : ℕ → Bool)
    → IsState state
    → IsClosed away state.objects
    → IsBelow state (without state away)
below_without state away is closed =
    let sites = sites_where away state.objects in
    let among = has_where away state.objects in
    record {
      sites = sites;
      there = λ site one. (and_parts (is_present state.objects site) (away site) (sym (among site) ∙ one)).0;
      closed = λ from to edge one.
          let from_away = (and_parts (is_present state.objects from) (away from) (sym (among from) ∙ one)).1 in
          among to ∙ and_from (is_present state.objects to) (away to) (is.fields from to edge) (closed from to edge from_away);
      is = without_agrees state away (has sites) is (λ site present. sym (among site ∙ ap (λ (b : Bool). b && away site) present));
    }

-- the sites that a state above does not have
abbrev pub absent : State → ℕ → Bool
absent other site = not (is_present other.objects site)

-- the sites that are taken away are those by which the states differ
pub taken_absent :
    (state other : State)
    → (below : IsBelow state other)
    → (site : ℕ)
    → IsTrue (is_present state.objects site)
    → has below.sites site ≡ absent other site
taken_absent state other below site present =
    elim (cases_Bool (has below.sites site)) [
      | inl away ↦
          let none = ap (λ (above : State). object_of above.objects site) below.is ∙ gone (has below.sites) state.objects site away in
          away ∙ sym (ap (λ (o : Option VObject). not (is_some o)) none)
      | inr kept ↦
          let there = present_behind (has below.sites) state.objects site present kept in
          kept ∙ sym (ap (λ (above : State). not (is_present above.objects site)) below.is ∙ not_from_true (is_present (objects_without (has below.sites) state.objects) site) there)
    ]

pub below_is_without :
    (state other : State)
    → IsState state
    → IsBelow state other
    → other ≡ without state (absent other)
below_is_without state other is below = below.is ∙ without_agrees state (has below.sites) (absent other) is (taken_absent state other below)

pub below_is_closed :
    (state other : State)
    → IsState state
    → IsBelow state other
    → IsClosed (absent other) state.objects
below_is_closed state other is below = λ from to edge away.
    let from_present = present_found state.objects from edge.object edge.there in
    let from_taken = taken_absent state other below from from_present ∙ away in
    sym (taken_absent state other below to (is.fields from to edge)) ∙ below.closed from to edge from_taken

pub below_is_state : (state other : State) → IsState state → IsBelow state other → IsState other
below_is_state state other is below = subst IsState (sym below.is) (without_is_state state (has below.sites) is below.closed)

-- the set by which two states differ is closed, and taking it away gives the one above
pub differing_is_closed :
    (state other : State)
    → IsState state
    → IsBelow state other
    → IsClosed (has (differing state other)) state.objects
differing_is_closed state other is below = λ from to edge one.
    let among = has_where (absent other) state.objects in
    let parts = and_parts (is_present state.objects from) (absent other from) (sym (among from) ∙ one) in
    among to ∙ and_from (is_present state.objects to) (absent other to) (is.fields from to edge) (below_is_closed state other is below from to edge parts.1)

pub differing_is_taken :
    (state other : State)
    → IsState state
    → IsBelow state other
    → other ≡ without state (has (differing state other))
differing_is_taken state other is below =
    below_is_without state other is below
    ∙ without_agrees state (absent other) (has (differing state other)) is (λ site present. sym (has_where (absent other) state.objects site ∙ ap (λ (b : Bool). b && absent other site) present))

-- ---- a partial order

pub below_itself : (state : State) → IsBelow state state
below_itself state = record {
  sites = [];
  there = λ site one. absurd (false≢true one);
  closed = λ from to edge one. absurd (false≢true one);
  is = sym (without_none state (λ site. false) (λ site. refl));
}

pub below_and_below :
    (one two three : State) → IsBelow one two → IsBelow two three → IsBelow one three
below_and_below one two three first second =
    let both = has_both first.sites second.sites in
    record {
      sites = first.sites ++ second.sites;
      there = λ site among. elim (or_cases (has first.sites site) (has second.sites site) (sym (both site) ∙ among)) [
        | inl in_first ↦ first.there site in_first
        | inr in_second ↦ present_before (has first.sites) one.objects site (subst (λ (state : State). IsTrue (is_present state.objects site)) first.is (second.there site in_second))
      ];
      closed = λ from to edge among. elim (cases_Bool (has first.sites from)) [
        | inl in_first ↦ both to ∙ or_left (has first.sites to) (has second.sites to) (first.closed from to edge in_first)
        | inr not_first ↦ elim (cases_Bool (has first.sites to)) [
          | inl to_first ↦ both to ∙ or_left (has first.sites to) (has second.sites to) to_first
          | inr to_stays ↦
              let in_second : IsTrue (has second.sites from) = sym (ap (λ (b : Bool). b || has second.sites from) not_first) ∙ sym (both from) ∙ among in
              let later = subst (λ (state : State). IsEdge state.objects from to) (sym first.is) (edge_behind (has first.sites) one.objects from to edge not_first to_stays) in
              both to ∙ or_right (has first.sites to) (has second.sites to) (second.closed from to later in_second)
        ]
      ];
      is = second.is
          ∙ ap (λ (state : State). without state (has second.sites)) first.is
          ∙ without_twice one (has first.sites) (has second.sites)
          ∙ ap (without one) (λ i site. sym (both site) i);
    }

-- a state above is the same one, or has fewer objects
pub same_or_fewer :
    (state other : State)
    → IsBelow state other
    → (state ≡ other) ⊎ (length other.objects < length state.objects)
same_or_fewer state other below = by_sites below.sites below.there below.is where
  by_sites :
      (sites : List ℕ)
      → ((site : ℕ) → IsTrue (has sites site) → IsTrue (is_present state.objects site))
      → other ≡ without state (has sites)
      → (state ≡ other) ⊎ (length other.objects < length state.objects)
  by_sites [] there is = inl (sym (is ∙ without_none state (λ site. false) (λ site. refl)))
  by_sites (site ∷ sites) there is =
      let among : IsTrue (has (site ∷ sites) site) = or_left (site == site) (has sites site) (eq-eqb site site refl) in
      let fewer = fewer_objects (has (site ∷ sites)) state.objects site (there site among) among in
      let len = ap {B = ℕ} (λ (above : State). length above.objects) is in
      inr (omega (arith, fewer, len, length-map (of_sites (stay (has (site ∷ sites))) state.objects) (object_without (has (site ∷ sites)))))

pub below_both_ways : (one other : State) → IsBelow one other → IsBelow other one → one ≡ other
below_both_ways one other up down =
    elim (same_or_fewer one other up) [
      | inl same ↦ same
      | inr fewer ↦ elim (same_or_fewer other one down) [
        | inl same ↦ sym same
        | inr more ↦ absurd (omega arith)
      ]
    ]

pub chain_len :
    (state : State) (states : List State)
    → IsChain state states
    → length states ≤ length state.objects
chain_len state [] chain = omega arith
chain_len state (next ∷ states) chain =
    elim (same_or_fewer state next chain.0) [
      | inl same ↦ absurd (chain.1 same)
      | inr fewer ↦ let rest = chain_len next states chain.2 in omega arith
    ]

-- ---- joins

pub join_is_one :
    (one other : State) (joined also : State)
    → IsJoin one other joined
    → IsJoin one other also
    → joined ≡ also
join_is_one one other joined also first second = below_both_ways joined also (first.least also second.left second.right) (second.least joined first.left first.right)

pub join_commutes : (one other joined : State) → IsJoin one other joined → IsJoin other one joined
join_commutes one other joined join = record { left = join.right; right = join.left; least = λ above right left. join.least above left right }

pub join_associates :
    (one two three front back joined : State)
    → IsJoin one two front
    → IsJoin front three joined
    → IsJoin two three back
    → IsJoin one back joined
join_associates one two three front back joined first whole second = record {
  left = below_and_below one front joined first.left whole.left;
  right = second.least joined (below_and_below two front joined first.right whole.left) whole.right;
  least = λ above left right.
      whole.least above (first.least above left (below_and_below two back above second.left right)) (below_and_below three back above second.right right);
}

pub join_grows :
    (one other one_above other_above joined joined_above : State)
    → IsBelow one one_above
    → IsBelow other other_above
    → IsJoin one other joined
    → IsJoin one_above other_above joined_above
    → IsBelow joined joined_above
join_grows one other one_above other_above joined joined_above left right join above =
    join.least joined_above (below_and_below one one_above joined_above left above.left) (below_and_below other other_above joined_above right above.right)

pub join_of_below : (state other : State) → IsBelow state other → IsJoin state other other
join_of_below state other below = record { left = below; right = below_itself other; least = λ above left right. right }
