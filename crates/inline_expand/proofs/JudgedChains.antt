-- What is judged of the classes of a chain, from its end.
use Rattle.std.proofs.Common.{◌≡◌, ◌++◌, List, [], ◌∷◌, ℕ, Option, Some, None, append_assoc, refl, sym, ap, subst, ◌∙◌}
use Rattle.std.proofs.lemmas.Option.{none-some, same_Some}
use Rattle.std.proofs.lemmas.List.{append-nil}
use Rattle.std.proofs.Common.{is_some, IsSome, IsTrue, ◌↔◌}
use Rattle.std.proofs.lemmas.Bool.{false≢true}
use Rattle.class_model.specs.declared.header.Header.{Header}
use Rattle.class_tree.specs.Headers.{Name, Classes, Headers, IsThere, headers_of, class_named}
use Rattle.class_tree.specs.Hierarchy.{IsHierarchy, superclass_of}
use Rattle.class_tree.specs.Laws.Above.{hierarchy_is_rooted, hierarchy_is_sound, object_no_superclass}
use Rattle.class_tree.specs.Laws.Headers.{class_there, no_superclass, same_class, super_is_there, superclass_is}
use Rattle.class_tree.specs.Names.{object}
use Rattle.class_tree.specs.Order.{header_at, place_of}
use Rattle.class_tree.specs.Subtype.{IsChain}
use Rattle.class_tree.specs.Subtype.IsChain.{root, below}
use Rattle.class_tree.specs.declared.place.Place.{Place}
use Rattle.expanded_code.specs.Laws.SuperChains.{of_each_class}
use Rattle.inline_expand.specs.Inner.CandidateWords.{IsFirstJudged, IsJudged, IsLeft, IsSound}

-- what stands in a chain begins one
pub chain_at : {headers : Headers} {class : Name} {names : List Name} → IsChain headers class names → (front : List Name) (name : Name) (back : List Name) → names ≡ front ++ name ∷ back → IsChain headers name (name ∷ back)
chain_at {headers} (root top header is none) [] name back same =
    let first : top ≡ name = cc in
    let rest : back ≡ [] = cc in
    subst (λ (l : List Name). IsChain headers name (name ∷ l)) (sym rest) (subst (λ (n : Name). IsChain headers n (n ∷ [])) first (root top header is none))
chain_at (root top header is none) (first ∷ front) name back same = absurd (not_empty front name back (cc))
  where
    not_empty : (front : List Name) (name : Name) (back : List Name) → [] ≡ front ++ name ∷ back → ⊥
    not_empty [] name back e = absurd cc
    not_empty (first ∷ front) name back e = absurd cc
chain_at {headers} (below low above header names is some rest) [] name back same =
    let first : low ≡ name = cc in
    let others : names ≡ back = cc in
    subst (λ (n : Name). IsChain headers n (n ∷ back)) first (subst (λ (l : List Name). IsChain headers low (low ∷ l)) others (below low above header names is some rest))
chain_at (below low above header names is some rest) (first ∷ front) name back same = chain_at rest front name back (cc)

-- the class above the first
above_first : {headers : Headers} {name : Name} {names : List Name} → IsChain headers name names → (back : List Name) → names ≡ name ∷ back → (header : Header) (super : Name)
    → class_named headers name ≡ Some header → header.super_name ≡ Some super → (others : List Name) × (back ≡ super ∷ others)
above_first {headers} (root name top is none) back same header super found some =
    absurd (none-some super (sym none ∙ ap (λ (h : Header). h.super_name) (same_class headers name top header is found) ∙ some))
above_first {headers} (below name above low names is up rest) back same header super found some =
    let super_is : above ≡ super = same_Some above super (sym up ∙ ap (λ (h : Header). h.super_name) (same_class headers name low header is found) ∙ some) in
    let back_is : names ≡ back = cc in
    let begins = begins_with rest in
    (begins.0, sym back_is ∙ begins.1 ∙ ap (λ (n : Name). n ∷ begins.0) super_is)
  where
    begins_with : {name : Name} {names : List Name} → IsChain headers name names → (others : List Name) × (names ≡ name ∷ others)
    begins_with (root name header is none) = ([], refl)
    begins_with (below name above header names is some rest) = (names, refl)

pub there_in_chain : {headers : Headers} {name : Name} {names : List Name} → IsChain headers name names → IsThere headers name
there_in_chain (root name header is none) = ap is_some is
there_in_chain (below name above header names is some rest) = ap is_some is

module _ (classes : Classes) (class : Name) where
  -- the last that is left is there, and its superclass is judged
  pub last_left : (left : List Name) (name : Name) (fields : Option (List (List ℕ))) (left_are : IsLeft classes class (left ++ name ∷ []) fields)
      → IsChain (headers_of classes) name (name ∷ left_are.done)
  last_left left name fields left_are = chain_at left_are.chain left name left_are.done (append_assoc left (name ∷ []) left_are.done)

  pub super_judged : (left : List Name) (name : Name) (fields : Option (List (List ℕ))) → IsLeft classes class (left ++ name ∷ []) fields
      → (header : Header) (super : Name) → class_named (headers_of classes) name ≡ Some header → header.super_name ≡ Some super → IsJudged classes super fields
  super_judged left name fields left_are header super is some =
      let above = above_first (last_left left name fields left_are) left_are.done refl header super is some in
      subst (λ (done : List Name). IsFirstJudged classes done fields) above.1 left_are.judged

  pub one_less : (left : List Name) (name : Name) (before fields : Option (List (List ℕ))) → IsLeft classes class (left ++ name ∷ []) before → IsJudged classes name fields → IsLeft classes class left fields
  one_less left name before fields left_are judged = record {
    done = name ∷ left_are.done;
    chain = subst (IsChain (headers_of classes) class) (append_assoc left (name ∷ []) left_are.done) left_are.chain;
    judged = judged;
  }

  pub all_judged : (fields : Option (List (List ℕ))) → IsLeft classes class [] fields → IsJudged classes class fields
  all_judged fields left_are = by left_are.chain left_are.judged
    where
      by : {names : List Name} → IsChain (headers_of classes) class names → IsFirstJudged classes names fields → IsJudged classes class fields
      by (root _ header is none) judged = judged
      by (below _ above header names is some rest) judged = judged

-- whether it is sound
pub sound_where_some : (classes : Classes) (class : Name) (fields : Option (List (List ℕ))) → IsJudged classes class fields → IsTrue (is_some fields) ↔ IsSound classes class
sound_where_some classes class None judged = (λ is. absurd (false≢true is), λ sound. absurd (judged sound))
sound_where_some classes class (Some fields) judged = (λ is. judged.0, λ sound. refl)

-- ---- up to a class that is judged

begins_so : {headers : Headers} {name : Name} {names : List Name} → IsChain headers name names → (classes : Classes) (fields : Option (List (List ℕ))) → IsJudged classes name fields → IsFirstJudged classes names fields
begins_so (root _ header is none) classes fields judged = judged
begins_so (below _ above header names is some rest) classes fields judged = judged

-- The chain of a class are these names, and behind them the chain of the class at a place, or nothing.
pub record IsClimbing (headers : Headers) (class : Name) (names : List Name) (next : Option Place) : Type 0 where
  pub more : (place : Place) (header : Header) → next ≡ Some place → header_at headers place ≡ Some header
      → (rest : List Name) → IsChain headers header.name rest → IsChain headers class (names ++ rest)
  pub ended : next ≡ None → IsChain headers class names
  pub there : (place : Place) → next ≡ Some place → IsSome (header_at headers place)

module _ (headers : Headers) (hierarchy : IsHierarchy headers) where
  -- each class has a chain
  pub has_chain : (name : Name) (header : Header) → class_named headers name ≡ Some header → (names : List Name) × IsChain headers name names
  has_chain =
      of_each_class headers hierarchy (λ name. (names : List Name) × IsChain headers name names)
      (λ top is. (object ∷ [], root object top is (object_no_superclass headers (hierarchy_is_sound headers hierarchy) (hierarchy_is_rooted headers hierarchy) top is)))
      (λ name above header is differ some higher. (name ∷ higher.0, below name above header higher.0 is some higher.1))

  pub first_climbing : (class : Name) → IsThere headers class → (next : Option Place) → next ≡ place_of headers class → IsClimbing headers class [] next
  first_climbing class there next placed = record {
    more = λ place header is at rest chain.
        let stands = hierarchy.placed class place (sym placed ∙ is) in
        let same : stands.0 ≡ header = same_Some stands.0 header (sym stands.1.at ∙ at) in
        subst (λ (n : Name). IsChain headers n rest) (ap (λ (h : Header). h.name) (sym same) ∙ stands.1.own_name) chain;
    ended = λ none.
        let found = class_there headers class there in
        absurd (none-some found.0 (sym (hierarchy.absent class (sym placed ∙ none)) ∙ found.1));
    there = λ place is. let stands = hierarchy.placed class place (sym placed ∙ is) in ap is_some stands.1.at;
  }

  pub climbing_more : (class : Name) (names : List Name) (next after : Option Place) (place : Place) (header : Header) → IsClimbing headers class names next → next ≡ Some place
      → header_at headers place ≡ Some header → after ≡ superclass_of headers place → IsClimbing headers class (names ++ header.name ∷ []) after
  climbing_more class names next after place header climbing is at up = by header.super_name refl
    where
      found : class_named headers header.name ≡ Some header
      found = (hierarchy.of_place place header at).found

      onwards : (rest : List Name) → IsChain headers header.name (header.name ∷ rest) → IsChain headers class ((names ++ header.name ∷ []) ++ rest)
      onwards rest chain = subst (IsChain headers class) (sym (append_assoc names (header.name ∷ []) rest)) (climbing.more place header is at (header.name ∷ rest) chain)

      by : (super : Option Name) → header.super_name ≡ super → IsClimbing headers class (names ++ header.name ∷ []) after
      by None none = record {
        more = λ other above other_is other_at rest chain. absurd (none-some other (sym (no_superclass headers place header at none) ∙ sym up ∙ other_is));
        ended = λ _. climbing.more place header is at (header.name ∷ []) (root header.name header found none);
        there = λ other other_is. absurd (none-some other (sym (no_superclass headers place header at none) ∙ sym up ∙ other_is));
      }
      by (Some super) some =
          let super_at = superclass_is headers place header at super some in
          record {
            more = λ other above other_is other_at rest chain.
                let stands = hierarchy.placed super other (sym super_at ∙ sym up ∙ other_is) in
                let same : stands.0 ≡ above = same_Some stands.0 above (sym stands.1.at ∙ other_at) in
                let named : above.name ≡ super = ap (λ (h : Header). h.name) (sym same) ∙ stands.1.own_name in
                onwards rest (below header.name super header rest found some (subst (λ (n : Name). IsChain headers n rest) named chain));
            ended = λ none.
                let there = class_there headers super (super_is_there headers header super (hierarchy.above header.name header found) some) in
                absurd (none-some there.0 (sym (hierarchy.absent super (sym super_at ∙ sym up ∙ none)) ∙ there.1));
            there = λ other other_is. let stands = hierarchy.placed super other (sym super_at ∙ sym up ∙ other_is) in ap is_some stands.1.at;
          }

-- what is left below a class that is judged
pub left_below : (classes : Classes) → IsHierarchy (headers_of classes) → (class : Name) (names : List Name) (next : Option Place) (place : Place) (header : Header) (fields : Option (List (List ℕ)))
    → IsClimbing (headers_of classes) class names next → next ≡ Some place → header_at (headers_of classes) place ≡ Some header → IsJudged classes header.name fields → IsLeft classes class names fields
left_below classes hierarchy class names next place header fields climbing is at judged =
    let chain = has_chain (headers_of classes) hierarchy header.name header (hierarchy.of_place place header at).found in
    record { done = chain.0; chain = climbing.more place header is at chain.0 chain.1; judged = begins_so chain.1 classes fields judged }

-- all are left
pub left_all : (classes : Classes) (class : Name) (names : List Name) (next : Option Place) (fields : Option (List (List ℕ))) → IsClimbing (headers_of classes) class names next → next ≡ None → IsLeft classes class names fields
left_all classes class names next fields climbing none =
    record { done = []; chain = subst (IsChain (headers_of classes) class) (sym (append-nil names)) (climbing.ended none); judged = tt }
