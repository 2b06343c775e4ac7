-- The interfaces above a class are those that are walked.
use Rattle.std.proofs.Common.{◌≡◌, ◌⊎◌, ◌||◌, false, not, cond, List, [], ◌∷◌, ◌++◌, filter, bytes_eq, Some, IsTrue, refl, sym, ap, subst, ◌∙◌, inl, inr}
use Rattle.std.specs.List.{list_any}
use Rattle.std.proofs.lemmas.Bool.{both_ways, cases_Bool, or_right}
use Rattle.std.proofs.lemmas.List.{append-nil}
use Rattle.std.proofs.lemmas.Option.{none-some, same_Some}
use Rattle.std.proofs.lemmas.Slice.Eq.{bytes_eq-Decides}
use Rattle.class_model.specs.declared.header.Header.{Header}
use Rattle.class_tree.specs.Headers.{Name, Headers, class_named, IsThere}
use Rattle.class_tree.specs.Interfaces.{IsWalk, done, next, IsInterfaceWalk, of_root, below, each_once}
use Rattle.class_tree.specs.Laws.Above.{IsSound, directly_there, superclass_kind, interface_kind, above_interface, nothing_above_object}
use Rattle.class_tree.specs.Laws.Headers.{class_there, same_class}
use Rattle.class_tree.specs.Laws.Names.{IsOneName, one_name_first, none_of_none, one_of_first, one_of_either, one_in_front, one_in_back}
use Rattle.class_tree.specs.Names.{object, is_interface}
use Rattle.class_tree.specs.Subtype.{IsDirectlyBelow, superclass, interface, IsBelow, directly, onwards}

-- ---- names, each once, are the same names

others_kept : (name first : Name) → bytes_eq name first ≡ false → (names : List Name) → list_any (bytes_eq name) (filter (λ other. not (bytes_eq first other)) names) ≡ list_any (bytes_eq name) names
others_kept name first differ [] = refl
others_kept name first differ (other ∷ names) =
    let rest = others_kept name first differ names in
    elim (cases_Bool (bytes_eq first other)) [
      | inl same ↦
          let none : bytes_eq name other ≡ false = subst (λ n. bytes_eq name n ≡ false) ((bytes_eq-Decides first other).0 same) differ in
          ap (λ b. list_any (bytes_eq name) (cond (not b) (other ∷ filter (λ other. not (bytes_eq first other)) names) (filter (λ other. not (bytes_eq first other)) names))) same
          ∙ rest ∙ sym (ap (λ b. b || list_any (bytes_eq name) names) none)
      | inr differs ↦
          ap (λ b. list_any (bytes_eq name) (cond (not b) (other ∷ filter (λ other. not (bytes_eq first other)) names) (filter (λ other. not (bytes_eq first other)) names))) differs
          ∙ ap (λ b. bytes_eq name other || b) rest
    ]

pub once_same : (name : Name) (names : List Name) → list_any (bytes_eq name) (each_once names) ≡ list_any (bytes_eq name) names
once_same name [] = refl
once_same name (first ∷ names) =
    elim (cases_Bool (bytes_eq name first)) [
      | inl same ↦ ap (λ b. b || list_any (bytes_eq name) (filter (λ other. not (bytes_eq first other)) (each_once names))) same ∙ sym (ap (λ b. b || list_any (bytes_eq name) names) same)
      | inr differs ↦ ap (λ b. bytes_eq name first || b) (others_kept name first differs (each_once names) ∙ once_same name names)
    ]

-- ---- walks

-- the walk of an interface that is met on a walk
record OwnWalk (headers : Headers) (header : Header) (walk : List Name) : Type 0 where
  own : List Name
  walked : IsWalk headers header.interfaces own
  within : (name : Name) → IsOneName own name → IsOneName walk name

-- the name is one of these, or above one
record IsAtOrAbove (headers : Headers) (names : List Name) (name : Name) : Type 0 where
  middle : Name
  one : IsOneName names middle
  up : (middle ≡ name) ⊎ IsBelow headers middle name

-- a walk of a class is one of its interfaces and then one of its superclass
record Parts (headers : Headers) (header : Header) (walk : List Name) : Type 0 where
  front : List Name
  back : List Name
  walked : IsWalk headers header.interfaces front
  is : walk ≡ front ++ back
  above : (name : Name) → header.super_name ≡ Some name → IsInterfaceWalk headers name back

module _ (headers : Headers) where
  names_in_walk : {names walk : List Name} → IsWalk headers names walk → (name : Name) → IsOneName names name → IsOneName walk name
  names_in_walk done name one = one
  names_in_walk (next first header names own rest is walked others) name one =
      elim (one_of_first first names name one) [
        | inl here ↦ one_name_first name first (own ++ rest) here
        | inr there ↦ or_right _ _ (one_in_back own rest name (names_in_walk others name there))
      ]

  own_walk : {names walk : List Name} → IsWalk headers names walk → (name : Name) (header : Header) → class_named headers name ≡ Some header → IsOneName names name → OwnWalk headers header walk
  own_walk done name header is one = absurd (none_of_none name one)
  own_walk (next first class names own rest class_is walked others) name header is one =
      elim (one_of_first first names name one) [
        | inl here ↦ record {
          own = own;
          walked = subst (λ h. IsWalk headers h.interfaces own) (same_class headers first class header class_is (subst (λ n. class_named headers n ≡ Some header) (sym here) is)) walked;
          within = λ other found. or_right _ _ (one_in_front own rest other found);
        }
        | inr there ↦
            let later = own_walk others name header is there in
            record { own = later.own; walked = later.walked; within = λ other found. or_right _ _ (one_in_back own rest other (later.within other found)) }
      ]

  up_from : (low : Name) (header : Header) → class_named headers low ≡ Some header → (name : Name) → IsAtOrAbove headers header.interfaces name → IsBelow headers low name
  up_from low header is name above =
      let step = interface low above.middle header is above.one in
      elim above.up [
        | inl same ↦ directly low name (subst (IsDirectlyBelow headers low) same step)
        | inr up ↦ onwards low above.middle name step up
      ]

  from_walk : {names walk : List Name} → IsWalk headers names walk → (name : Name) → IsOneName walk name → IsAtOrAbove headers names name
  from_walk done name one = absurd (none_of_none name one)
  from_walk (next first header names own rest is walked others) name one =
      elim (one_of_first first (own ++ rest) name one) [
        | inl here ↦ record { middle = first; one = one_name_first first first names refl; up = inl here }
        | inr there ↦ elim (one_of_either own rest name there) [
          | inl inside ↦ record { middle = first; one = one_name_first first first names refl; up = inr (up_from first header is name (from_walk walked name inside)) }
          | inr behind ↦
              let later = from_walk others name behind in
              record { middle = later.middle; one = or_right _ _ later.one; up = later.up }
        ]
      ]

  -- what is walked is above
  pub walked_is_above : {low : Name} {walk : List Name} → IsInterfaceWalk headers low walk → (name : Name) → IsOneName walk name → IsBelow headers low name
  walked_is_above (of_root low header walk is none walked) name one = up_from low header is name (from_walk walked name one)
  walked_is_above (below low above header front back is some walked more) name one =
      elim (one_of_either front back name one) [
        | inl inside ↦ up_from low header is name (from_walk walked name inside)
        | inr behind ↦ onwards low above name (superclass low above header is some) (walked_is_above more name behind)
      ]

  parts : {low : Name} {walk : List Name} → IsInterfaceWalk headers low walk → (header : Header) → class_named headers low ≡ Some header → Parts headers header walk
  parts (of_root low class walk class_is none walked) header is =
      let same = same_class headers low class header class_is is in
      record {
        front = walk;
        back = [];
        walked = subst (λ h. IsWalk headers h.interfaces walk) same walked;
        is = sym (append-nil walk);
        above = λ name some. absurd (none-some name (sym none ∙ ap (λ (h : Header). h.super_name) same ∙ some));
      }
  parts (below low above class front back class_is super walked more) header is =
      let same = same_class headers low class header class_is is in
      record {
        front = front;
        back = back;
        walked = subst (λ h. IsWalk headers h.interfaces front) same walked;
        is = refl;
        above = λ name some. subst (λ n. IsInterfaceWalk headers n back) (same_Some above name (sym super ∙ ap (λ (h : Header). h.super_name) same ∙ some)) more;
      }

module _ (headers : Headers) (sound : IsSound headers) (rooted : (name : Name) → IsThere headers name → (name ≡ object) ⊎ IsBelow headers name object) where
  -- what is above an interface and is an interface is walked
  above_interface_in : {low high : Name} → IsBelow headers low high → (header above : Header) → class_named headers low ≡ Some header → IsTrue (is_interface header) → class_named headers high ≡ Some above → IsTrue (is_interface above) → (walk : List Name) → IsWalk headers header.interfaces walk → IsOneName walk high
  above_interface_in (directly low high (superclass _ _ class class_is some)) header above is kind above_is above_kind walk walked =
      absurd (both_ways (is_interface above) (superclass_kind headers sound low class class_is high some above above_is) above_kind)
  above_interface_in (directly low high (interface _ _ class class_is one)) header above is kind above_is above_kind walk walked =
      names_in_walk headers walked high (subst (λ (h : Header). IsOneName h.interfaces high) (same_class headers low class header class_is is) one)
  above_interface_in (onwards low middle high (superclass _ _ class class_is some) rest) header above is kind above_is above_kind walk walked =
      absurd (nothing_above_object headers sound rooted (subst (λ name. IsBelow headers name high) (above_interface headers sound low header is kind class class_is middle some) rest))
  above_interface_in (onwards low middle high (interface _ _ class class_is one) rest) header above is kind above_is above_kind walk walked =
      let there = class_there headers middle (directly_there headers sound (interface low middle class class_is one)) in
      let among = subst (λ (h : Header). IsOneName h.interfaces middle) (same_class headers low class header class_is is) one in
      let own = own_walk headers walked middle there.0 there.1 among in
      own.within high (above_interface_in rest there.0 above there.1 (interface_kind headers sound low class class_is middle one there.0 there.1) above_is above_kind own.own own.walked)

  -- an interface that is above a class is walked
  pub interface_is_walked : {low high : Name} → IsBelow headers low high → (above : Header) → class_named headers high ≡ Some above → IsTrue (is_interface above) → (walk : List Name) → IsInterfaceWalk headers low walk → IsOneName walk high
  interface_is_walked (directly low high (superclass _ _ class class_is some)) above above_is above_kind walk walked =
      absurd (both_ways (is_interface above) (superclass_kind headers sound low class class_is high some above above_is) above_kind)
  interface_is_walked (directly low high (interface _ _ class class_is one)) above above_is above_kind walk walked =
      let p = parts headers walked class class_is in
      subst (λ (l : List Name). IsOneName l high) (sym p.is) (one_in_front p.front p.back high (names_in_walk headers p.walked high one))
  interface_is_walked (onwards low middle high (superclass _ _ class class_is some) rest) above above_is above_kind walk walked =
      let p = parts headers walked class class_is in
      subst (λ (l : List Name). IsOneName l high) (sym p.is) (one_in_back p.front p.back high (interface_is_walked rest above above_is above_kind p.back (p.above middle some)))
  interface_is_walked (onwards low middle high (interface _ _ class class_is one) rest) above above_is above_kind walk walked =
      let p = parts headers walked class class_is in
      let there = class_there headers middle (directly_there headers sound (interface low middle class class_is one)) in
      let own = own_walk headers p.walked middle there.0 there.1 one in
      subst (λ (l : List Name). IsOneName l high) (sym p.is)
      (one_in_front p.front p.back high (own.within high (above_interface_in rest there.0 above there.1 (interface_kind headers sound low class class_is middle one there.0 there.1) above_is above_kind own.own own.walked)))
