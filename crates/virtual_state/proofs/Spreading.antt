-- A search over the fields of objects, along a list of the sites that are marked.
use Rattle.std.proofs.Common.{◌≡◌, ◌||◌, ◌+◌, ◌<◌, ◌≤◌, ℕ, eqb, Bool, List, [], ◌∷◌, ◌++◌, length, take, get_or, Option, IsTrue, refl, sym, ap, subst, ◌∙◌, inl, inr, arith}
use Rattle.std.proofs.lemmas.Bool.{or_cases, or_left, or_right, eq-eqb, eqb-true, false≢true}
use Rattle.std.proofs.lemmas.List.{take_all, take-take, take_more}
use Rattle.std.proofs.lemmas.List.Folds.{list_any_at}
use Rattle.virtual_state.specs.Inner.Marks.{HasMarked, HasSpread, IsSpread, marked, over_one, over_other, named_by, fields_of}
use Rattle.virtual_state.specs.Sites.{has}
use Rattle.virtual_state.specs.States.{IsEdge, IsReached, from_slot, from_field, names, object_of}
use Rattle.virtual_state.specs.Without.{IsClosed}
use Rattle.virtual_state.specs.declared.slot.Slot.{Slot}
use Rattle.virtual_state.specs.declared.slot.VObject.{VObject}
use Rattle.virtual_state.specs.Laws.Objects.{some_or_none}
use Rattle.virtual_state.proofs.Marking.{has_push}

-- ---- edges and the fields of a site

pub edge_named : (objects : List VObject) (from site : ℕ) → IsEdge objects from site → IsTrue (fields_of objects from site)
edge_named objects from site edge = ap (λ (object : Option VObject). named_by object site) edge.there ∙ edge.named

pub named_edge : (objects : List VObject) (from site : ℕ) → IsTrue (fields_of objects from site) → IsEdge objects from site
named_edge objects from site named =
    elim (some_or_none (object_of objects from)) [
      | inl found ↦ record { object = found.0; there = found.1; named = sym (ap (λ (object : Option VObject). named_by object site) found.1) ∙ named }
      | inr none ↦ absurd (false≢true (sym (ap (λ (object : Option VObject). named_by object site) none) ∙ named))
    ]

-- ---- the search

-- The sites that were marked are reached, and the fields of the objects before a place have been followed.
pub record IsSpreading (start : List ℕ) (one other : List VObject) (at : ℕ) (sites : List ℕ) : Type 0 where
  pub kept : (site : ℕ) → IsTrue (has start site) → IsTrue (has sites site)
  pub in_one : (from site : ℕ) → IsTrue (has (take at sites) from) → IsEdge one from site → IsTrue (has sites site)
  pub in_other : (from site : ℕ) → IsTrue (has (take at sites) from) → IsEdge other from site → IsTrue (has sites site)
  pub reached : (site : ℕ) → IsTrue (has sites site) → IsSpread start one other site

pub spreading_begins : (start : List ℕ) (one other : List VObject) → IsSpreading start one other 0 start
spreading_begins start one other = record {
  kept = λ site there. there;
  in_one = λ from site none edge. absurd (false≢true none);
  in_other = λ from site none edge. absurd (false≢true none);
  reached = λ site there. marked site there;
}

one_at : (sites : List ℕ) (at : ℕ) → at < length sites → IsTrue (has sites (get_or sites at 0))
one_at sites at within = list_any_at (λ number. eqb number (get_or sites at 0)) sites at 0 within (eq-eqb _ _ refl)

pub spreading_goes_on : (start : List ℕ) (one other : List VObject) (at from : ℕ) (sites more : List ℕ) → IsSpreading start one other at sites → at < length sites → from ≡ get_or sites at 0 → HasMarked sites more (λ site. fields_of one from site || fields_of other from site) → IsSpreading start one other (at + 1) more
spreading_goes_on start one other at from sites more spreading low is has_marked =
    let front : take (at + 1) more ≡ take at sites ++ get_or sites at 0 ∷ [] =
    sym (take-take (at + 1) (length sites) more (omega arith)) ∙ ap (take (at + 1)) has_marked.kept ∙ take_more sites at 0 low in
    let still : (site : ℕ) → IsTrue (has sites site) → IsTrue (has more site) = λ site there. has_marked.marked site ∙ or_left (has sites site) (fields_of one from site || fields_of other from site) there in
    let added : (site : ℕ) → IsTrue (fields_of one from site || fields_of other from site) → IsTrue (has more site) = λ site named. has_marked.marked site ∙ or_right (has sites site) (fields_of one from site || fields_of other from site) named in
    let here : IsTrue (has sites from) = subst (λ (site : ℕ). IsTrue (has sites site)) (sym is) (one_at sites at low) in
    let of_front : (site : ℕ) → IsTrue (has (take (at + 1) more) site) → IsTrue (has (take at sites) site || eqb (get_or sites at 0) site) = λ site among. sym (ap (λ (list : List ℕ). has list site) front ∙ has_push (take at sites) (get_or sites at 0) site) ∙ among in
    record {
      kept = λ site there. still site (spreading.kept site there);
      in_one = λ node site among edge. elim (or_cases (has (take at sites) node) (eqb (get_or sites at 0) node) (of_front node among)) [
        | inl before ↦ still site (spreading.in_one node site before edge)
        | inr same ↦ added site (or_left (fields_of one from site) (fields_of other from site) (edge_named one from site (subst (λ (n : ℕ). IsEdge one n site) (sym (is ∙ eqb-true (get_or sites at 0) node same)) edge)))
      ];
      in_other = λ node site among edge. elim (or_cases (has (take at sites) node) (eqb (get_or sites at 0) node) (of_front node among)) [
        | inl before ↦ still site (spreading.in_other node site before edge)
        | inr same ↦ added site (or_right (fields_of one from site) (fields_of other from site) (edge_named other from site (subst (λ (n : ℕ). IsEdge other n site) (sym (is ∙ eqb-true (get_or sites at 0) node same)) edge)))
      ];
      reached = λ site among. elim (or_cases (has sites site) (fields_of one from site || fields_of other from site) (sym (has_marked.marked site) ∙ among)) [
        | inl before ↦ spreading.reached site before
        | inr named ↦ elim (or_cases (fields_of one from site) (fields_of other from site) named) [
          | inl over ↦ over_one from site (spreading.reached from here) (named_edge one from site over)
          | inr over ↦ over_other from site (spreading.reached from here) (named_edge other from site over)
        ]
      ];
    }

pub spreading_ends : (start : List ℕ) (one other : List VObject) (at : ℕ) (sites : List ℕ) → IsSpreading start one other at sites → length sites ≤ at → HasSpread start sites one other
spreading_ends start one other at sites spreading past =
    let all : (site : ℕ) → IsTrue (has sites site) → IsTrue (has (take at sites) site) = λ site there. ap (λ (list : List ℕ). has list site) (take_all at sites past) ∙ there in
    record {
      kept = spreading.kept;
      in_one = λ from site edge there. spreading.in_one from site (all from there) edge;
      in_other = λ from site edge there. spreading.in_other from site (all from there) edge;
      reached = spreading.reached;
    }

-- ---- what is reached lies in each closed set with the sites of the start

pub spread_in_closed : (start : List ℕ) (one other : List VObject) (test : ℕ → Bool) → IsClosed test one → IsClosed test other → ((site : ℕ) → IsTrue (has start site) → IsTrue (test site)) → {site : ℕ} → IsSpread start one other site → IsTrue (test site)
spread_in_closed start one other test in_one in_other begins (marked site there) = begins site there
spread_in_closed start one other test in_one in_other begins (over_one from site reached edge) = in_one from site edge (spread_in_closed start one other test in_one in_other begins reached)
spread_in_closed start one other test in_one in_other begins (over_other from site reached edge) = in_other from site edge (spread_in_closed start one other test in_one in_other begins reached)

-- what is reached over one table from the sites of slots, and what is marked
pub spread_is_reached : (start : List ℕ) (slots : List Slot) (objects : List VObject) → ((site : ℕ) → IsTrue (has start site) → IsTrue (names slots site)) → {site : ℕ} → IsSpread start objects objects site → IsReached slots objects site
spread_is_reached start slots objects named (marked site there) = from_slot site (named site there)
spread_is_reached start slots objects named (over_one from site reached edge) = from_field from site (spread_is_reached start slots objects named reached) edge
spread_is_reached start slots objects named (over_other from site reached edge) = from_field from site (spread_is_reached start slots objects named reached) edge

pub reached_in_closed : (slots : List Slot) (objects : List VObject) (test : ℕ → Bool) → IsClosed test objects → ((site : ℕ) → IsTrue (names slots site) → IsTrue (test site)) → {site : ℕ} → IsReached slots objects site → IsTrue (test site)
reached_in_closed slots objects test closed named (from_slot site there) = named site there
reached_in_closed slots objects test closed named (from_field from site reached edge) = closed from site edge (reached_in_closed slots objects test closed named reached)
