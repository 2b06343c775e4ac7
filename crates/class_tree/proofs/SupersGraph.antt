-- The graph of classes, made class by class and name by name.
use Rattle.std.proofs.Common.{◌≡◌, ℕ, ◌+◌, ◌<◌, List, [], ◌∷◌, ◌++◌, length, get_or, take, slice_get, map, filter_map, option_map, option_to_list, Option, Some, None, refl, sym, ap, ◌∙◌, append_assoc}
use Rattle.std.specs.List.{cons_option}
use Rattle.std.proofs.lemmas.List.{take_more, map-append}
use Rattle.std.proofs.lemmas.List.Elements.{filter_map-append}
use Rattle.std.proofs.lemmas.Option.{slice_get-map, slice_get_within, get_or_from_slice_get}
use Rattle.class_model.specs.declared.header.Header.{Header}
use Rattle.class_tree.specs.Headers.{Name, Headers, all_headers}
use Rattle.class_tree.specs.Inner.Nodes.{number_of, graph_of}
use Rattle.class_tree.specs.Steps.{supers}

of_one : {X : Type 0} (found : Option X) → cons_option found [] ≡ option_to_list found
of_one None = refl
of_one (Some x) = refl

-- one name more
pub one_name_more : (f : Name → Option ℕ) (first numbers more : List ℕ) (names : List Name) (index : ℕ) (name : Name) → index < length names → name ≡ get_or names index name
    → numbers ≡ first ++ filter_map f (take index names) → more ≡ numbers ++ option_to_list (f name) → more ≡ first ++ filter_map f (take (index + 1) names)
one_name_more f first numbers more names index name within is so_far pushed =
    pushed
    ∙ ap (λ (ns : List ℕ). ns ++ option_to_list (f name)) so_far
    ∙ append_assoc first (filter_map f (take index names)) (option_to_list (f name))
    ∙ ap (λ (ns : List ℕ). first ++ ns) (ap (λ (ns : List ℕ). filter_map f (take index names) ++ ns) (sym (of_one (f name)) ∙ ap (λ (n : Name). cons_option (f n) []) is) ∙ sym (filter_map-append f (take index names) (get_or names index name ∷ [])) ∙ ap (filter_map f) (sym (take_more names index name within)))

-- one class more
pub one_class_more : (headers : Headers) (number : ℕ) (header : Header) (graph more : List (List ℕ)) (targets : List ℕ) → slice_get (all_headers headers) number ≡ Some header
    → graph ≡ take number (graph_of headers) → targets ≡ filter_map (number_of headers) (supers header) → more ≡ graph ++ targets ∷ [] → more ≡ take (number + 1) (graph_of headers)
one_class_more headers number header graph more targets is so_far made pushed =
    let there = slice_get-map (λ (h : Header). filter_map (number_of headers) (supers h)) (all_headers headers) number ∙ ap (option_map (λ (h : Header). filter_map (number_of headers) (supers h))) is in
    let here = get_or_from_slice_get (graph_of headers) number (filter_map (number_of headers) (supers header)) [] there in
    pushed
    ∙ ap (λ (g : List (List ℕ)). g ++ targets ∷ []) so_far
    ∙ ap (λ (ts : List ℕ). take number (graph_of headers) ++ ts ∷ []) (made ∙ sym here)
    ∙ sym (take_more (graph_of headers) number [] (slice_get_within (graph_of headers) number _ there))

-- one item more of what is made of each
pub one_more : {X Y : Type 0} (f : X → Y) (xs : List X) (number : ℕ) (x : X) (so_far more : List Y) (made : Y) → slice_get xs number ≡ Some x → so_far ≡ map f (take number xs) → made ≡ f x → more ≡ so_far ++ made ∷ [] → more ≡ map f (take (number + 1) xs)
one_more f xs number x so_far more made there is same pushed =
    let here = get_or_from_slice_get xs number x x there in
    pushed
    ∙ ap (λ ys. ys ++ made ∷ []) is
    ∙ ap (λ y. map f (take number xs) ++ y ∷ []) (same ∙ ap f (sym here))
    ∙ sym (map-append f (take number xs) (get_or xs number x ∷ []))
    ∙ sym (ap (map f) (take_more xs number x (slice_get_within xs number x there)))
