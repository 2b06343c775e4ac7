-- Names, each once, and their numbers, each once.
use Rattle.std.proofs.Common.{◌≡◌, ◌==◌, ◌&&◌, ◌||◌, ◌∙◌, ℕ, Bool, true, false, not, cond, List, [], ◌∷◌, ◌++◌, map, filter, bytes_eq, slice_get, Option, Some, option_map, refl, sym, ap, subst, inl, inr}
use Rattle.std.specs.List.{list_any}
use Rattle.std.proofs.lemmas.Bool.{cases_Bool, both_ways, false_from_ne_true, eqb-true, eq-eqb}
use Rattle.std.proofs.lemmas.List.{append-nil, append_assoc, map-append}
use Rattle.std.proofs.lemmas.List.Folds.{list_any-append}
use Rattle.std.proofs.lemmas.Option.{same_Some}
use Rattle.std.proofs.lemmas.Slice.Eq.{bytes_eq-Decides}
use Rattle.class_model.specs.declared.header.Header.{Header}
use Rattle.class_tree.specs.Headers.{Name, Headers, all_headers}
use Rattle.class_tree.specs.Inner.InterfaceNumbers.{with_numbers}
use Rattle.class_tree.specs.Interfaces.{each_once}
use Rattle.class_tree.specs.Inner.Nodes.{number_of, place_at}
use Rattle.class_tree.specs.Order.{place_of}
use Rattle.class_tree.specs.declared.place.Place.{Place}
use Rattle.class_tree.proofs.NewNumbers.{has, known, new}
use Rattle.class_tree.proofs.Places.{class_of_number, place_of_number}

-- ---- filters

filter_filter : (p q r : Name → Bool) → ((name : Name) → (q name && p name) ≡ r name) → (names : List Name) → filter p (filter q names) ≡ filter r names
filter_filter p q r agree [] = refl
filter_filter p q r agree (name ∷ names) =
    let rest = filter_filter p q r agree names in
    elim (cases_Bool (q name)) [
      | inl kept ↦
          ap (λ b. filter p (cond b (name ∷ filter q names) (filter q names))) kept
          ∙ ap (λ b. cond b (name ∷ filter p (filter q names)) (filter p (filter q names))) (ap (λ b. b && p name) (sym kept) ∙ agree name)
          ∙ ap (λ (l : List Name). cond (r name) (name ∷ l) l) rest
      | inr left ↦
          ap (λ b. filter p (cond b (name ∷ filter q names) (filter q names))) left
          ∙ rest
          ∙ sym (ap (λ b. cond b (name ∷ filter r names) (filter r names)) (sym (agree name) ∙ ap (λ b. b && p name) left))
    ]

-- no name of a list
is_new : List Name → Name → Bool
is_new front name = not (list_any (λ one. bytes_eq one name) front)

all_new : (names : List Name) → filter (is_new []) names ≡ names
unfolding is_new
all_new [] = refl
all_new (name ∷ names) = ap (λ (l : List Name). name ∷ l) (all_new names)

both_new : (among is : Bool) → (not is && not among) ≡ not (among || (is || false))
both_new true true = refl
both_new true false = refl
both_new false true = refl
both_new false false = refl

once_known : (front : List Name) (name : Name) (names : List Name) → list_any (λ one. bytes_eq one name) front ≡ true → filter (is_new front) (each_once (name ∷ names)) ≡ filter (is_new front) (each_once names)
unfolding is_new
once_known front name names among =
    ap (λ b. cond (not b) (name ∷ filter (is_new front) (filter (λ other. not (bytes_eq name other)) (each_once names))) (filter (is_new front) (filter (λ other. not (bytes_eq name other)) (each_once names)))) among
    ∙ filter_filter (is_new front) (λ other. not (bytes_eq name other)) (is_new front) agree (each_once names)
  where
    agree : (other : Name) → (not (bytes_eq name other) && is_new front other) ≡ is_new front other
    agree other = elim (cases_Bool (bytes_eq name other)) [
      | inl same ↦ ap (λ b. not b && is_new front other) same ∙ sym (ap not (subst (λ n. list_any (λ one. bytes_eq one n) front ≡ true) ((bytes_eq-Decides name other).0 same) among))
      | inr differs ↦ ap (λ b. not b && is_new front other) differs
    ]

once_new : (front : List Name) (name : Name) (names : List Name) → list_any (λ one. bytes_eq one name) front ≡ false → filter (is_new front) (each_once (name ∷ names)) ≡ name ∷ filter (is_new (front ++ name ∷ [])) (each_once names)
unfolding is_new
once_new front name names none =
    ap (λ b. cond (not b) (name ∷ filter (is_new front) (filter (λ other. not (bytes_eq name other)) (each_once names))) (filter (is_new front) (filter (λ other. not (bytes_eq name other)) (each_once names)))) none
    ∙ ap (λ (l : List Name). name ∷ l) (filter_filter (is_new front) (λ other. not (bytes_eq name other)) (is_new (front ++ name ∷ [])) agree (each_once names))
  where
    agree : (other : Name) → (not (bytes_eq name other) && is_new front other) ≡ is_new (front ++ name ∷ []) other
    agree other =
        both_new (list_any (λ one. bytes_eq one other) front) (bytes_eq name other) ∙ ap not (sym (list_any-append (λ one. bytes_eq one other) front (name ∷ [])))

-- ---- names by their numbers

pub joined_same : (f : Name → Option ℕ) (a b : List Name) (m k : List ℕ) → map f a ≡ map Some m → map f b ≡ map Some k → map f (a ++ b) ≡ map Some (m ++ k)
joined_same f a b m k front back =
    map-append f a b ∙ ap (λ (l : List (Option ℕ)). l ++ map f b) front ∙ ap (λ (l : List (Option ℕ)). map Some m ++ l) back ∙ sym (map-append Some m k)

same_number : (headers : Headers) (one other : Name) (i j : ℕ) → number_of headers one ≡ Some i → number_of headers other ≡ Some j → bytes_eq one other ≡ (i == j)
same_number headers one other i j is also = elim (cases_Bool (i == j)) [
  | inl same ↦
      let a = class_of_number headers one i is in
      let b = class_of_number headers other j also in
      let e : i ≡ j = eqb-true i j same in
      let class : a.0 ≡ b.0 = same_Some a.0 b.0 (sym a.1.there ∙ ap (slice_get (all_headers headers)) e ∙ b.1.there) in
      (bytes_eq-Decides one other).1 (sym a.1.same ∙ ap (λ (header : Header). header.name) class ∙ b.1.same) ∙ sym same
  | inr differs ↦ false_from_ne_true (bytes_eq one other) (λ t. both_ways (i == j) differs (eq-eqb i j (same_Some i j (sym is ∙ ap (number_of headers) ((bytes_eq-Decides one other).0 t) ∙ also)))) ∙ sym differs
]

has_alike : (headers : Headers) (front : List Name) (list : List ℕ) (name : Name) (number : ℕ) → map (number_of headers) front ≡ map Some list → number_of headers name ≡ Some number → list_any (λ one. bytes_eq one name) front ≡ has list number
has_alike headers [] [] name number same is = refl
has_alike headers [] (first ∷ list) name number same is = absurd cc
has_alike headers (one ∷ front) [] name number same is = absurd cc
has_alike headers (one ∷ front) (first ∷ list) name number same is =
    ap (λ b. b || list_any (λ one. bytes_eq one name) front) (same_number headers one name first number (cc) is) ∙ ap (λ b. (first == number) || b) (has_alike headers front list name number (cc) is)

more_once : (headers : Headers) (front : List Name) (list : List ℕ) (names : List Name) (numbers : List ℕ) → map (number_of headers) front ≡ map Some list → map (number_of headers) names ≡ map Some numbers → map (number_of headers) (front ++ filter (is_new front) (each_once names)) ≡ map Some (with_numbers list numbers)
more_once headers front list [] [] same alike = ap (map (number_of headers)) (append-nil front) ∙ same
more_once headers front list [] (number ∷ numbers) same alike = absurd cc
more_once headers front list (name ∷ names) [] same alike = absurd cc
more_once headers front list (name ∷ names) (number ∷ numbers) same alike =
    let is : number_of headers name ≡ Some number = cc in
    let rest : map (number_of headers) names ≡ map Some numbers = cc in
    let among = has_alike headers front list name number same is in
    elim (cases_Bool (has list number)) [
      | inl got ↦
          ap (λ (l : List Name). map (number_of headers) (front ++ l)) (once_known front name names (among ∙ got))
          ∙ more_once headers front list names numbers same rest
          ∙ ap (λ l. map Some (with_numbers l numbers)) (sym (known list number got))
      | inr lacks ↦
          let others = filter (is_new (front ++ name ∷ [])) (each_once names) in
          ap (λ (l : List Name). map (number_of headers) (front ++ l)) (once_new front name names (among ∙ lacks))
          ∙ ap (map (number_of headers)) (sym (append_assoc front (name ∷ []) others))
          ∙ more_once headers (front ++ name ∷ []) (list ++ number ∷ []) names numbers (joined_same (number_of headers) front (name ∷ []) list (number ∷ []) same (ap (λ (o : Option ℕ). o ∷ []) is)) rest
          ∙ ap (λ l. map Some (with_numbers l numbers)) (sym (new list number lacks))
    ]

-- the numbers of names, each once
pub once_numbered : (headers : Headers) (names : List Name) (numbers : List ℕ) → map (number_of headers) names ≡ map Some numbers → map (number_of headers) (each_once names) ≡ map Some (with_numbers [] numbers)
once_numbered headers names numbers same = ap (map (number_of headers)) (sym (all_new (each_once names))) ∙ more_once headers [] [] names numbers refl same

-- the places of names by their numbers
pub names_placed : (headers : Headers) (names : List Name) (numbers : List ℕ) → map (number_of headers) names ≡ map Some numbers → map (place_of headers) names ≡ map Some (map (place_at headers) numbers)
names_placed headers [] [] same = refl
names_placed headers [] (number ∷ numbers) same = absurd cc
names_placed headers (name ∷ names) [] same = absurd cc
names_placed headers (name ∷ names) (number ∷ numbers) same =
    let is : number_of headers name ≡ Some number = cc in
    let here : place_of headers name ≡ Some (place_at headers number) = place_of_number headers name ∙ ap (option_map (place_at headers)) is in
    let rest = names_placed headers names numbers (cc) in
    ap (λ (o : Option Place). o ∷ map (place_of headers) names) here ∙ ap (λ (l : List (Option Place)). Some (place_at headers number) ∷ l) rest
