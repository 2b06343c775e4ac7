-- Lists of what method handles refer to, by the number of its class.
use Rattle.std.proofs.Common.{◌≡◌, ◌≢◌, ◌+◌, ◌<◌, ◌≤◌, ◌++◌, ◌&&◌, cond, ℕ, Bool, true, false, List, [], ◌∷◌, bytes_eq, get_or, get_or-set_other, get_or-set_same, length, slice_get, slice_set, replicate, take, append_assoc, Some, sym, ap, subst, ◌∙◌, inl, inr, arith}
use Rattle.std.proofs.Math.ListN.{length-set}
use Rattle.std.proofs.lemmas.Bool.{cases_Bool, cases_eq}
use Rattle.std.specs.List.{flat_map}
use Rattle.std.proofs.lemmas.List.{append-nil, get_or-replicate, length-replicate, take_all}
use Rattle.std.proofs.lemmas.List.Concat.{flat_map-append}
use Rattle.class_model.specs.Laws.Lists.{take_item}
use Rattle.std.proofs.lemmas.Option.{same_Some, slice_get-get_or, slice_get_within, get_or_from_slice_get}
use Rattle.std.proofs.lemmas.Slice.Eq.{bytes_eq-Decides}
use Rattle.class_model.specs.Names.{init}
use Rattle.class_model.specs.declared.header.Header.{Header}
use Rattle.class_tree.specs.Headers.{Name, Headers}
use Rattle.class_tree.specs.Hierarchy.{IsHierarchy}
use Rattle.class_tree.specs.Order.{place_of}
use Rattle.class_tree.specs.declared.place.Place.TheVariants.{Folder}
use Rattle.member_link.specs.References.{Reference}
use Rattle.field_constructors.specs.Inner.ConstructorWords.{AreHandled, handled_in}

-- the same function
pub handled_same : (headers : Headers) (lists : List (List (List ℕ))) (of other : Name → List (List ℕ)) → ((name : Name) → of name ≡ other name) → AreHandled headers lists of → AreHandled headers lists other
handled_same headers lists of other same are = record { len = are.len; each = λ number header at. are.each number header at ∙ ap Some (same header.name) }

-- ---- of one class

in_other : (class : Name) (reference : Reference) → bytes_eq class reference.class ≡ false → handled_in class (Some reference) ≡ []
in_other class reference differ = ap (λ (b : Bool). cond (b && bytes_eq init reference.name) (reference.desc ∷ []) []) differ

in_own : (class : Name) (reference : Reference) → bytes_eq class reference.class ≡ true → bytes_eq init reference.name ≡ true → handled_in class (Some reference) ≡ reference.desc ∷ []
in_own class reference same name = ap (λ (b : Bool). cond (b && bytes_eq init reference.name) (reference.desc ∷ []) []) same ∙ ap (λ (b : Bool). cond b (reference.desc ∷ []) []) name

module _ (headers : Headers) (hierarchy : IsHierarchy headers) (lists : List (List (List ℕ))) (of : Name → List (List ℕ)) (are : AreHandled headers lists of) (reference : Reference) where
  -- the class of a number has the name of the reference's class where that stands there
  names_number : (number : ℕ) (header : Header) → slice_get headers.folder number ≡ Some header → bytes_eq header.name reference.class ≡ true → place_of headers reference.class ≡ Some (Folder number)
  names_number number header at same =
      ap (place_of headers) (sym ((bytes_eq-Decides header.name reference.class).0 same)) ∙ (hierarchy.of_place (Folder number) header at).is_place

  -- it is of no class of the folder
  pub outside_folder : ((number : ℕ) → place_of headers reference.class ≢ Some (Folder number)) → AreHandled headers lists (λ class. of class ++ handled_in class (Some reference))
  outside_folder none = record {
    len = are.len;
    each = λ number header at.
        are.each number header at ∙ ap Some (sym (append-nil (of header.name)) ∙ ap (λ (l : List (List ℕ)). of header.name ++ l) (sym (elim (cases_Bool (bytes_eq header.name reference.class)) [
          | inl same ↦ absurd (none number (names_number number header at same))
          | inr differ ↦ in_other header.name reference differ
        ])));
  }

  -- it is of the class of a number
  module _ (number : ℕ) (placed : place_of headers reference.class ≡ Some (Folder number)) where
    class_there : (header : Header) × (slice_get headers.folder number ≡ Some header) × (header.name ≡ reference.class)
    class_there =
        let stands = hierarchy.placed reference.class (Folder number) placed in
        (stands.0, stands.1.at, stands.1.own_name)

    pub number_within : number < length lists
    number_within = let within = slice_get_within headers.folder number class_there.0 class_there.1 in omega (arith, within, are.len)

    pub in_folder : bytes_eq init reference.name ≡ true → (before list : List (List ℕ)) → before ≡ get_or lists number before → list ≡ before ++ reference.desc ∷ []
        → AreHandled headers (slice_set lists number list) (λ class. of class ++ handled_in class (Some reference))
    in_folder name before list was is = record { len = length-set lists number list ∙ are.len; each = each }
      where
        each : (other : ℕ) (header : Header) → slice_get headers.folder other ≡ Some header → slice_get (slice_set lists number list) other ≡ Some (of header.name ++ handled_in header.name (Some reference))
        each other header at = elim (cases_eq other number) [
          | inl same ↦
              let here : slice_get headers.folder number ≡ Some header = subst (λ (n : ℕ). slice_get headers.folder n ≡ Some header) same at in
              let class_is : class_there.0 ≡ header = same_Some class_there.0 header (sym class_there.1 ∙ here) in
              let own : bytes_eq header.name reference.class ≡ true = (bytes_eq-Decides header.name reference.class).1 (ap (λ (h : Header). h.name) (sym class_is) ∙ class_there.2) in
              let old : before ≡ of header.name = was ∙ get_or_from_slice_get lists number (of header.name) before (are.each number header here) in
              let whole : list ≡ of header.name ++ handled_in header.name (Some reference) =
              is ∙ ap (λ (l : List (List ℕ)). l ++ reference.desc ∷ []) old ∙ ap (λ (l : List (List ℕ)). of header.name ++ l) (sym (in_own header.name reference own name)) in
              let written : slice_get (slice_set lists number list) number ≡ Some list =
              slice_get-get_or (slice_set lists number list) number list (let long = length-set lists number list in omega (arith, long, number_within)) ∙ ap Some (get_or-set_same lists number list list number_within) in
              subst (λ (n : ℕ). slice_get (slice_set lists number list) n ≡ Some (of header.name ++ handled_in header.name (Some reference))) (sym same) (written ∙ ap Some whole)
          | inr differ ↦
              let apart : bytes_eq header.name reference.class ≡ false = elim (cases_Bool (bytes_eq header.name reference.class)) [
                | inl same ↦ let e : Folder other ≡ Folder number = same_Some (Folder other) (Folder number) (sym (names_number other header at same) ∙ placed) in absurd (differ (cc))
                | inr no_name ↦ no_name
              ] in
              let within = slice_get_within lists other (of header.name) (are.each other header at) in
              slice_get-get_or (slice_set lists number list) other [] (let long = length-set lists number list in omega (arith, long, within))
              ∙ ap Some (get_or-set_other lists number other list [] differ ∙ get_or_from_slice_get lists other (of header.name) [] (are.each other header at)
              ∙ sym (append-nil (of header.name)) ∙ ap (λ (l : List (List ℕ)). of header.name ++ l) (sym (in_other header.name reference apart)))
        ]

-- ---- of the items of a list

module _ {X : Type 0} (headers : Headers) (g : Name → X → List (List ℕ)) (of : Name → List (List ℕ)) (xs : List X) where
  pub flat_none : (lists : List (List (List ℕ))) → AreHandled headers lists of → AreHandled headers lists (λ class. of class ++ flat_map (g class) (take 0 xs))
  flat_none lists are = handled_same headers lists of (λ class. of class ++ flat_map (g class) (take 0 xs)) (λ name. sym (append-nil (of name))) are

  pub flat_more : (lists : List (List (List ℕ))) (i : ℕ) (x : X) → slice_get xs i ≡ Some x
      → AreHandled headers lists (λ class. (of class ++ flat_map (g class) (take i xs)) ++ g class x)
      → AreHandled headers lists (λ class. of class ++ flat_map (g class) (take (i + 1) xs))
  flat_more lists i x at are =
      handled_same headers lists (λ class. (of class ++ flat_map (g class) (take i xs)) ++ g class x) (λ class. of class ++ flat_map (g class) (take (i + 1) xs))
      (λ name. append_assoc (of name) (flat_map (g name) (take i xs)) (g name x)
      ∙ ap (λ (l : List (List ℕ)). of name ++ l) (ap (λ (l : List (List ℕ)). flat_map (g name) (take i xs) ++ l) (sym (append-nil (g name x)))
      ∙ sym (flat_map-append (g name) (take i xs) (x ∷ [])) ∙ ap (flat_map (g name)) (sym (take_item xs i x at)))) are

  pub flat_all : (lists : List (List (List ℕ))) (i : ℕ) → length xs ≤ i
      → AreHandled headers lists (λ class. of class ++ flat_map (g class) (take i xs))
      → AreHandled headers lists (λ class. of class ++ flat_map (g class) xs)
  flat_all lists i end are =
      handled_same headers lists (λ class. of class ++ flat_map (g class) (take i xs)) (λ class. of class ++ flat_map (g class) xs)
      (λ name. ap (λ (l : List X). of name ++ flat_map (g name) l) (take_all i xs end)) are

-- as many lists as classes, with nothing
pub none_handled : (headers : Headers) (lists : List (List (List ℕ))) (count : ℕ) → lists ≡ replicate count [] → count ≡ length headers.folder → AreHandled headers lists (λ class. [])
none_handled headers lists count is same = subst (λ (l : List (List (List ℕ))). AreHandled headers l (λ class. [])) (sym is) (record {
  len = length-replicate count [] ∙ same;
  each = λ number header at.
      let within = slice_get_within headers.folder number header at in
      let low : number < count = omega (arith, within, same) in
      slice_get-get_or (replicate count []) number [] (let long = length-replicate {A = List (List ℕ)} count [] in omega (arith, long, low)) ∙ ap Some (get_or-replicate count number [] [] low);
})
