-- Lists that stand in one list as parts of it.
use Rattle.std.proofs.Common.{◌≡◌, ◌<◌, ◌≤◌, ◌+◌, ◌-◌, ◌∙◌, ℕ, suc, Bool, true, eqb, List, [], ◌∷◌, ◌++◌, length, get_or, take, drop, set, map, slice_get, Some, option_map, refl, sym, ap, arith}
use Rattle.std.specs.List.{All, starts_with}
use Rattle.std.proofs.lemmas.List.{map-append, map-set, length-append, length-drop, length-map, take-append-le, drop-append-le, take_all, take-map, drop-map, drop_more, get_or-map, get_or_default}
use Rattle.std.proofs.lemmas.Bool.{eqb-true, eq-eqb}
use Rattle.std.proofs.lemmas.Slice.Eq.{slice_eq-Decides}
use Rattle.std.proofs.lemmas.List.Elements.{All-push, All-set, All-head, All-tail}
use Rattle.std.proofs.lemmas.Option.{slice_get-map, slice_get-get_or}
use Rattle.std.proofs.Math.Seq.{drop-append_seam}
use Rattle.class_tree.specs.Inner.Parts.{part_of, IsPartOf, StandsFrom}
use Rattle.class_tree.specs.declared.lists.Part.{Part}

-- the part of a list from a place on
abbrev pub with_start : {T : Type 0} → ℕ → List T → Part
with_start start list = record { start = start; len = length list }

-- the part of what is appended
abbrev last_part : {T : Type 0} → List T → List T → Part
last_part items list = with_start (length items) list

module _ {T : Type 0} (items more : List T) where
  same_part : (part : Part) → IsPartOf items part → part_of (items ++ more) part ≡ part_of items part
  same_part part within =
      ap (take part.len) (drop-append-le part.start items more (omega arith))
      ∙ take-append-le part.len (drop part.start items) more (omega (arith, length-drop part.start items))

  same_parts : (parts : List Part) → All (IsPartOf items) parts → map (part_of (items ++ more)) parts ≡ map (part_of items) parts
  same_parts [] all = refl
  same_parts (part ∷ parts) all =
      ap (λ list. list ∷ map (part_of (items ++ more)) parts) (same_part part (All-head (IsPartOf items) part parts all))
      ∙ ap (λ lists. part_of items part ∷ lists) (same_parts parts (All-tail (IsPartOf items) part parts all))

  -- parts stay parts where more is appended
  pub still_parts : (parts : List Part) → All (IsPartOf items) parts → All (IsPartOf (items ++ more)) parts
  still_parts parts all = λ i d within. omega (arith, all i d within, length-append items more)

  last_is_part : IsPartOf (items ++ more) (last_part items more)
  last_is_part = omega (arith, length-append items more)

  last_is : part_of (items ++ more) (last_part items more) ≡ more
  last_is = ap (take (length more)) (drop-append_seam items more) ∙ take_all (length more) more (omega arith)

  pub one_part_more : (parts : List Part) → All (IsPartOf items) parts → All (IsPartOf (items ++ more)) (parts ++ last_part items more ∷ [])
  one_part_more parts all = All-push (IsPartOf (items ++ more)) parts (last_part items more) (still_parts parts all) last_is_part

  pub one_list_more : (parts : List Part) → All (IsPartOf items) parts → map (part_of (items ++ more)) (parts ++ last_part items more ∷ []) ≡ map (part_of items) parts ++ more ∷ []
  one_list_more parts all =
      map-append (part_of (items ++ more)) parts (last_part items more ∷ [])
      ∙ ap (λ lists. lists ++ part_of (items ++ more) (last_part items more) ∷ []) (same_parts parts all)
      ∙ ap (λ list. map (part_of items) parts ++ list ∷ []) last_is

  pub one_part_set : (parts : List Part) (number : ℕ) → All (IsPartOf items) parts → All (IsPartOf (items ++ more)) (set parts number (last_part items more))
  one_part_set parts number all = All-set (IsPartOf (items ++ more)) parts number (last_part items more) last_is_part (still_parts parts all)

  pub one_list_set : (parts : List Part) (number : ℕ) → All (IsPartOf items) parts → map (part_of (items ++ more)) (set parts number (last_part items more)) ≡ set (map (part_of items) parts) number more
  one_list_set parts number all =
      map-set (part_of (items ++ more)) parts number (last_part items more)
      ∙ ap (set (map (part_of (items ++ more)) parts) number) last_is
      ∙ ap (λ lists. set lists number more) (same_parts parts all)

-- the list of a number
pub list_at : {T : Type 0} (items : List T) (parts : List Part) (number : ℕ) (part : Part) → number < length parts → part ≡ get_or parts number part → slice_get (map (part_of items) parts) number ≡ Some (part_of items part)
list_at items parts number part within is =
    slice_get-map (part_of items) parts number
    ∙ ap (option_map (part_of items)) (slice_get-get_or parts number part within)
    ∙ ap (λ p. Some (part_of items p)) (sym is)

-- a part in the place of that of a number
pub set_list : {T : Type 0} (items : List T) (parts : List Part) (number : ℕ) (part : Part) (list : List T) → part_of items part ≡ list → map (part_of items) (set parts number part) ≡ set (map (part_of items) parts) number list
set_list items parts number part list is = map-set (part_of items) parts number part ∙ ap (set (map (part_of items) parts) number) is

-- an item and the part behind it
pub part_behind : (items : List ℕ) (place : ℕ) (part : Part) → place < length items → part.start ≡ place + 1 → part_of items (record { start = place; len = part.len + 1 }) ≡ get_or items place 0 ∷ part_of items part
part_behind items place part within behind =
    let one = get_or items place 0 in
    let more : part.len + 1 ≡ suc part.len = omega arith in
    ap (take (part.len + 1)) (drop_more items place 0 within)
    ∙ ap (λ n. take n (one ∷ drop (place + 1) items)) more
    ∙ ap (λ start. one ∷ take part.len (drop start items)) (sym behind)

-- ---- other items in the place of each

map_part : {T V : Type 0} (f : T → V) (items : List T) (part : Part) → part_of (map f items) part ≡ map f (part_of items part)
map_part f items part = ap (take part.len) (drop-map f part.start items) ∙ take-map f part.len (drop part.start items)

map_parts : {T V : Type 0} (f : T → V) (items : List T) (parts : List Part) → map (part_of (map f items)) parts ≡ map (map f) (map (part_of items) parts)
map_parts f items [] = refl
map_parts {V = V} f items (part ∷ parts) =
    ap (λ (list : List V). list ∷ map (part_of (map f items)) parts) (map_part f items part)
    ∙ ap (λ (lists : List (List V)). map f (part_of items part) ∷ lists) (map_parts f items parts)

pub mapped_lists : {T V : Type 0} (f : T → V) (items : List T) (parts : List Part) (lists : List (List T)) → map (part_of items) parts ≡ lists → (mapped : List V) → mapped ≡ map f items → map (part_of mapped) parts ≡ map (map f) lists
mapped_lists {V = V} f items parts lists view mapped is =
    ap (λ (all : List V). map (part_of all) parts) is ∙ map_parts f items parts ∙ ap (map (map f)) view

-- ---- lists that are shared

read_at : {T : Type 0} (items : List T) (parts : List Part) (lists : List (List T)) (of : ℕ) (part : Part) → map (part_of items) parts ≡ lists → of < length lists → part ≡ get_or parts of part → part_of items part ≡ get_or lists of []
read_at {T} items parts lists of part view within is =
    let inside : of < length parts = omega (arith, within, ap length view, length-map parts (part_of items)) in
    ap (part_of items) is ∙ sym (get_or-map (part_of items) parts of part [] inside) ∙ ap (λ (l : List (List T)). get_or l of []) view

pub share : {T : Type 0} (items : List T) (parts : List Part) (lists : List (List T)) (number of : ℕ) (part : Part) → map (part_of items) parts ≡ lists → of < length lists → part ≡ get_or parts of part → map (part_of items) (set parts number part) ≡ set lists number (get_or lists of [])
share {T} items parts lists number of part view within is =
    set_list items parts number part (part_of items part) refl
    ∙ ap (λ (l : List (List T)). set l number (part_of items part)) view
    ∙ ap (set lists number) (read_at items parts lists of part view within is)

pub share_behind : (items : List ℕ) (parts : List Part) (lists : List (List ℕ)) (number first of place item : ℕ) (behind : Part) → map (part_of items) parts ≡ lists → of < length lists → behind ≡ get_or parts of behind → place < length items → item ≡ get_or items place item → item ≡ first → behind.start ≡ place + 1 → map (part_of items) (set parts number (record { start = place; len = behind.len + 1 })) ≡ set lists number (first ∷ get_or lists of [])
share_behind items parts lists number first of place item behind view within is inside read same start =
    let front : get_or items place 0 ≡ first = get_or_default items place 0 item inside ∙ sym read ∙ same in
    set_list items parts number (record { start = place; len = behind.len + 1 }) (first ∷ part_of items behind) (part_behind items place behind inside start ∙ ap (λ one. one ∷ part_of items behind) front)
    ∙ ap (λ (l : List (List ℕ)). set l number (first ∷ part_of items behind)) view
    ∙ ap (λ (list : List ℕ). set lists number (first ∷ list)) (read_at items parts lists of behind view within is)

-- a list that the items from a place on begin with stands there
pub stands : (items list : List ℕ) (start : ℕ) → start ≤ length items → (result : Bool) → result ≡ starts_with eqb (take (length items - start) (drop start items)) list → length list ≤ length (take (length items - start) (drop start items)) → result ≡ true → StandsFrom items list start
stands items list start within result value bound told =
    let rest : take (length items - start) (drop start items) ≡ drop start items = take_all (length items - start) (drop start items) (omega (arith, length-drop start items)) in
    let begun : result ≡ starts_with eqb (drop start items) list = value ∙ ap (λ (l : List ℕ). starts_with eqb l list) rest in
    record {
      inside = omega (arith, within, bound, ap length rest, length-drop start items);
      same = sym ((slice_eq-Decides (λ a b. (eqb-true a b, eq-eqb a b)) list (take (length list) (drop start items)) result begun).0 told);
    }

pub put_there : (items list : List ℕ) (parts : List Part) (lists : List (List ℕ)) (number start : ℕ) → map (part_of items) parts ≡ lists → StandsFrom items list start → map (part_of items) (set parts number (with_start start list)) ≡ set lists number list
put_there items list parts lists number start view there =
    set_list items parts number (with_start start list) list there.same ∙ ap (λ (l : List (List ℕ)). set l number list) view
