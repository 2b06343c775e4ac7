-- The classes of a written folder are a tree as those of the folder are: they have the same names and the same classes above them.
use Rattle.std.proofs.Common.{◌≡◌, ◌+◌, ◌≤◌, ◌++◌, ◌∙◌, ℕ, zero, suc, Bool, true, false, cond, List, [], ◌∷◌, length, bytes_eq, count_by, slice_index_or, Option, Some, None, IfSome, IsSome, IsTrue, IsFalse, option_map, refl, sym, ap, subst, arith}
use Rattle.std.specs.List.{AllByRecursion, list_any}
use Rattle.std.specs.Cmp.Lexicographic.{slice_cmp}
use Rattle.std.specs.Ordering.{is_lt, nat_cmp}
use Rattle.std.proofs.lemmas.List.Sums.{sum_by-cons}
use Rattle.std.proofs.lemmas.Option.{none-some}
use Rattle.std.proofs.lemmas.Slice.Eq.{bytes_eq-Decides}
use Rattle.class_model.specs.Checks.{AllHold, Check, asked_each, asked_if}
use Rattle.class_model.specs.Laws.Checks.{both_hold, first_holds, others_hold}
use Rattle.class_model.specs.Laws.Lists.{AllByRecursion-weaker}
use Rattle.class_model.specs.Members.{FINAL, INTERFACE, has}
use Rattle.class_model.specs.declared.class_file.ClassFile.{ClassFile}
use Rattle.class_model.specs.declared.header.Header.{Header}
use Rattle.class_model.specs.declared.pool.Const.{Const}
use Rattle.class_tree.specs.Alike.{AreAllAlike, AreAlike}
use Rattle.class_tree.specs.Headers.{Classes, Headers, IsClassFile, IsThere, Name, class_named, headers_of, named}
use Rattle.class_tree.specs.Laws.Alike.{alike_shape, alike_shapes, below_alike, class_same, shape_of, shapes, there_alike}
use Rattle.class_tree.specs.Names.{base_names, cloneable, is_interface, machine_throwables, method_handle, method_type, object, serializable, throwable}
use Rattle.class_tree.specs.Problems.{Problem, check}
use Rattle.class_tree.specs.Steps.{FitsKinds, HasOneConstructor, IsOutside, base_checks, folder_checks, has_constant, hierarchy_checks, is_method_handle, is_method_type, library_checks, needed_class_checks, supers}
use Rattle.class_tree.specs.Subtype.{IsBelow}
use Rattle.class_tree.specs.declared.fault.LinkRule.TheVariants as rules
use Rattle.class_tree.specs.Trees.{AreHeadersInOrder, IsInOrder, IsTree, times}

-- ---- names

names_at : (olds news : List Header) → AreAllAlike olds news → (k : ℕ) (d : Header)
    → (slice_index_or news k d).name ≡ (slice_index_or olds k d).name
names_at [] [] alike k d = refl
names_at [] (new ∷ news) alike k d = absurd alike
names_at (old ∷ olds) [] alike k d = absurd alike
names_at (old ∷ olds) (new ∷ news) alike zero d = alike.0.same_name
names_at (old ∷ olds) (new ∷ news) alike (suc k) d = names_at olds news alike.1 k d

as_many : (olds news : List Header) → AreAllAlike olds news → length news ≡ length olds
as_many [] [] alike = refl
as_many [] (new ∷ news) alike = absurd alike
as_many (old ∷ olds) [] alike = absurd alike
as_many (old ∷ olds) (new ∷ news) alike = ap suc (as_many olds news alike.1)

sorted_alike : (olds news : List Header) → AreAllAlike olds news → AreHeadersInOrder olds → AreHeadersInOrder news
sorted_alike olds news alike sorted k d low within =
    let count = as_many olds news alike in
    ap (λ (name : Name). is_lt (slice_cmp nat_cmp name (slice_index_or news k d).name)) (names_at olds news alike (k + 1) d)
    ∙ ap (λ (name : Name). is_lt (slice_cmp nat_cmp (slice_index_or olds (k + 1) d).name name)) (names_at olds news alike k d)
    ∙ sorted k d low (omega (arith, within, count))

times_alike : (name : Name) (olds news library : List Header) → AreAllAlike olds news
    → count_by (λ (header : Header). bytes_eq name header.name) (news ++ library)
    ≡ count_by (λ (header : Header). bytes_eq name header.name) (olds ++ library)
times_alike name [] [] library alike = refl
times_alike name [] (new ∷ news) library alike = absurd alike
times_alike name (old ∷ olds) [] library alike = absurd alike
times_alike name (old ∷ olds) (new ∷ news) library alike =
    let test : Header → Bool = λ header. bytes_eq name header.name in
    sum_by-cons (λ (header : Header). cond (test header) 1 0) new (news ++ library)
    ∙ ap (λ (text : Name). cond (bytes_eq name text) 1 0 + count_by test (news ++ library)) alike.0.same_name
    ∙ ap (λ (count : ℕ). cond (test old) 1 0 + count) (times_alike name olds news library alike.1)
    ∙ sym (sum_by-cons (λ (header : Header). cond (test header) 1 0) old (olds ++ library))

outside_alike : (name : Name) (olds news : List Header) → AreAllAlike olds news → named name olds ≡ None → named name news ≡ None
outside_alike name [] [] alike none = refl
outside_alike name [] (new ∷ news) alike none = absurd alike
outside_alike name (old ∷ olds) [] alike none = absurd alike
outside_alike name (old ∷ olds) (new ∷ news) alike none = by (bytes_eq name old.name) refl (outside_alike name olds news alike.1) where
  by : (b : Bool) → bytes_eq name old.name ≡ b → (named name olds ≡ None → named name news ≡ None) → named name (new ∷ news) ≡ None
  by true e rest = absurd (none-some old (sym none ∙ rw (e) refl))
  by false e rest =
      ap (λ (text : Name). cond (bytes_eq name text) (Some new) (named name news)) alike.0.same_name
      ∙ rw (e) (rest (sym (rw (e) refl) ∙ none))

-- ---- classes above

if_shape : (P : ℕ → Type 0) (found : Option Header) → IfSome found (λ header. P header.flags) → IfSome (option_map shape_of found) (λ header. P header.flags)
if_shape P None is = tt
if_shape P (Some header) is = is

if_whole : (P : ℕ → Type 0) (found : Option Header) → IfSome (option_map shape_of found) (λ header. P header.flags) → IfSome found (λ header. P header.flags)
if_whole P None is = tt
if_whole P (Some header) is = is

if_weaker : {X : Type 0} {P Q : X → Type 0} → ((x : X) → P x → Q x) → (option : Option X) → IfSome option P → IfSome option Q
if_weaker then None is = tt
if_weaker then (Some x) is = then x is

module _ (one other : Headers) (same : shapes one ≡ shapes other) where
  flags_alike : (P : ℕ → Type 0) (name : Name) → IfSome (class_named one name) (λ header. P header.flags)
      → IfSome (class_named other name) (λ header. P header.flags)
  flags_alike P name is =
      if_whole P (class_named other name)
      (subst (λ (found : Option Header). IfSome found (λ header. P header.flags)) (class_same one other same name) (if_shape P (class_named one name) is))

  kinds_alike : (header class : Header) → shape_of header ≡ shape_of class → FitsKinds one header → FitsKinds other class
  kinds_alike header class alike fits = record {
    superclass = subst (λ (super : Option Name). IfSome super (λ name. IfSome (class_named other name) (λ above. IsFalse (is_interface above))))
        (ap (λ (h : Header). h.super_name) alike)
        (if_weaker (flags_alike (λ flags. IsFalse (has flags INTERFACE))) header.super_name fits.superclass);
    interfaces = subst (AllByRecursion (λ name. IfSome (class_named other name) (λ above. IsTrue (is_interface above)))) (ap (λ (h : Header). h.interfaces) alike)
        (AllByRecursion-weaker (λ name. IfSome (class_named one name) (λ above. IsTrue (is_interface above)))
        (λ name. IfSome (class_named other name) (λ above. IsTrue (is_interface above))) (flags_alike (λ flags. IsTrue (has flags INTERFACE)))
        header.interfaces fits.interfaces);
    of_interface = λ kind. sym (ap (λ (h : Header). h.super_name) alike) ∙ fits.of_interface (ap (λ (h : Header). is_interface h) alike ∙ kind);
    root = λ none. sym (ap (λ (h : Header). h.name) alike) ∙ fits.root (ap (λ (h : Header). h.super_name) alike ∙ none);
  }

  above_alike : (header class : Header) → shape_of header ≡ shape_of class → AllByRecursion (IsThere one) (supers header)
      → AllByRecursion (IsThere other) (supers class)
  above_alike header class alike all =
      subst (AllByRecursion (IsThere other)) (ap supers alike)
      (AllByRecursion-weaker (IsThere one) (IsThere other) (there_alike one other same) (supers header) all)

  circle_alike : (header class : Header) → shape_of header ≡ shape_of class → ¬ IsBelow one header.name header.name → ¬ IsBelow other class.name class.name
  circle_alike header class alike none below =
      none (below_alike other one (sym same) (subst (λ (name : Name). IsBelow other name name) (sym (ap (λ (h : Header). h.name) alike)) below))

  folder_alike : (header class : Header) → shape_of header ≡ shape_of class → AllHold (folder_checks one header) → AllHold (folder_checks other class)
  folder_alike header class alike all = (
    above_alike header class alike all.0,
    (
      circle_alike header class alike all.1.0,
      (
        subst (λ (super : Option Name). IfSome super (λ name. IfSome (class_named other name) (λ above. IsFalse (has above.flags FINAL))))
            (ap (λ (h : Header). h.super_name) alike)
            (if_weaker (flags_alike (λ flags. IsFalse (has flags FINAL))) header.super_name all.1.1.0),
        (
          (kinds_alike header class alike all.1.1.1.0.0, λ is. all.1.1.1.0.1 (ap (λ (h : Header). h.name) alike ∙ is)),
          tt,
        ),
      ),
    ),
  )

  all_folder_alike : (olds news : List Header) → AreAllAlike olds news → AllHold (asked_each (folder_checks one) olds)
      → AllHold (asked_each (folder_checks other) news)
  all_folder_alike [] [] alike all = tt
  all_folder_alike [] (new ∷ news) alike all = absurd alike
  all_folder_alike (old ∷ olds) [] alike all = absurd alike
  all_folder_alike (old ∷ olds) (new ∷ news) alike all =
      both_hold (folder_checks other new) (asked_each (folder_checks other) news)
      (folder_alike old new (alike_shape old new alike.0) (first_holds (folder_checks one old) (asked_each (folder_checks one) olds) all))
      (all_folder_alike olds news alike.1 (others_hold (folder_checks one old) (asked_each (folder_checks one) olds) all))

  module _ (outside : (name : Name) → IsOutside one name → IsOutside other name) where
    all_library_alike : (library : List Header) → AllHold (asked_each (library_checks one) library) → AllHold (asked_each (library_checks other) library)
    all_library_alike [] all = tt
    all_library_alike (header ∷ library) all =
        let first = first_holds (library_checks one header) (asked_each (library_checks one) library) all in
        both_hold (library_checks other header) (asked_each (library_checks other) library) (
          above_alike header header refl first.0,
          (
            AllByRecursion-weaker (IsOutside one) (IsOutside other) outside (supers header) first.1.0,
            (circle_alike header header refl first.1.1.0, (kinds_alike header header refl first.1.1.1.0, tt)),
          ),
        )
        (all_library_alike library (others_hold (library_checks one header) (asked_each (library_checks one) library) all))

-- ---- what the machine needs of the library

named_behind : (name : Name) (folder library : List Header) → named name folder ≡ None → named name (folder ++ library) ≡ named name library
named_behind name [] library none = refl
named_behind name (header ∷ folder) library none = by (bytes_eq name header.name) refl (named_behind name folder library) where
  by : (b : Bool) → bytes_eq name header.name ≡ b → (named name folder ≡ None → named name (folder ++ library) ≡ named name library)
      → named name ((header ∷ folder) ++ library) ≡ named name library
  by true e rest = absurd (none-some header (sym none ∙ rw (e) refl))
  by false e rest = rw (e) (rest (sym (rw (e) refl) ∙ none))

-- java/lang/Object is no class of the folder
no_object : (headers : Headers) (folder : List Header) → AllHold (asked_each (folder_checks headers) folder) → named object folder ≡ None
no_object headers [] all = refl
no_object headers (header ∷ folder) all =
    by (bytes_eq object header.name) refl (no_object headers folder (others_hold (folder_checks headers header) (asked_each (folder_checks headers) folder) all)) where
      by : (b : Bool) → bytes_eq object header.name ≡ b → named object folder ≡ None → named object (header ∷ folder) ≡ None
      by true e rest =
          absurd
          ((first_holds (folder_checks headers header) (asked_each (folder_checks headers) folder) all).1.1.1.0.1
          (sym ((bytes_eq-Decides object header.name).0 e)))
      by false e rest = rw (e) rest

abbrev in_library : List Header → List (Check Problem)
in_library library = asked_each (λ name. check name rules.Missing (IsSome (named name library)) ∷ []) base_names

abbrev has_object : Headers → List (Check Problem)
has_object headers = check object rules.NoMember (IfSome (class_named headers object) HasOneConstructor) ∷ []

abbrev are_throwables : Headers → List Name → List (Check Problem)
are_throwables headers names = asked_each (λ name. check name rules.KindOfSuper (IsBelow headers name throwable) ∷ []) names

abbrev are_interfaces : Headers → List Name → List (Check Problem)
are_interfaces headers names =
    asked_each (λ name. check name rules.KindOfSuper (IfSome (class_named headers name) (λ header. IsTrue (is_interface header))) ∷ []) names

module _ (library : List Header) (olds news : List ClassFile)
    (alike : AreAlike (headers_of (record { folder = olds; library = library })) (headers_of (record { folder = news; library = library })))
    (handles : list_any (has_constant is_method_handle) news ≡ list_any (has_constant is_method_handle) olds)
    (method_types : list_any (has_constant is_method_type) news ≡ list_any (has_constant is_method_type) olds) where
  abbrev before : Classes
  before = record { folder = olds; library = library }

  abbrev after : Classes
  after = record { folder = news; library = library }

  same_shapes : shapes (headers_of before) ≡ shapes (headers_of after)
  same_shapes = alike_shapes (headers_of before) (headers_of after) alike

  throwables_alike : (names : List Name) → AllHold (are_throwables (headers_of before) names) → AllHold (are_throwables (headers_of after) names)
  throwables_alike [] all = tt
  throwables_alike (name ∷ names) all = (below_alike (headers_of before) (headers_of after) same_shapes all.0, throwables_alike names all.1)

  interfaces_alike : (names : List Name) → AllHold (are_interfaces (headers_of before) names) → AllHold (are_interfaces (headers_of after) names)
  interfaces_alike [] all = tt
  interfaces_alike (name ∷ names) all =
      (flags_alike (headers_of before) (headers_of after) same_shapes (λ flags. IsTrue (has flags INTERFACE)) name all.0, interfaces_alike names all.1)

  object_alike : named object (headers_of before).folder ≡ None → AllHold (has_object (headers_of before)) → AllHold (has_object (headers_of after))
  object_alike none all =
      let there : class_named (headers_of before) object ≡ class_named (headers_of after) object =
      named_behind object (headers_of before).folder library none
      ∙ sym (named_behind object (headers_of after).folder library (outside_alike object (headers_of before).folder (headers_of after).folder alike.folder none)) in
      (subst (λ (found : Option Header). IfSome found HasOneConstructor) there all.0, tt)

  needed_alike : (test : Const → Bool) (name : Name) → list_any (has_constant test) news ≡ list_any (has_constant test) olds
      → AllHold (needed_class_checks test name before)
      → AllHold (needed_class_checks test name after)
  needed_alike test name equal all =
      subst (λ (b : Bool). AllHold (asked_if b (check name rules.Missing (IsSome (named name library)) ∷ []))) (sym equal) all

  base_alike : named object (headers_of before).folder ≡ None → AllHold (base_checks before) → AllHold (base_checks after)
  base_alike none all =
      let b = in_library library ++ has_object (headers_of before) in
      let c = b ++ are_throwables (headers_of before) machine_throwables in
      let d = c ++ are_interfaces (headers_of before) (serializable ∷ cloneable ∷ []) in
      let e = d ++ needed_class_checks is_method_handle method_handle before in
      let b' = in_library library ++ has_object (headers_of after) in
      let c' = b' ++ are_throwables (headers_of after) machine_throwables in
      let d' = c' ++ are_interfaces (headers_of after) (serializable ∷ cloneable ∷ []) in
      let e' = d' ++ needed_class_checks is_method_handle method_handle after in
      let in_e = first_holds e (needed_class_checks is_method_type method_type before) all in
      let in_d = first_holds d (needed_class_checks is_method_handle method_handle before) in_e in
      let in_c = first_holds c (are_interfaces (headers_of before) (serializable ∷ cloneable ∷ [])) in_d in
      let in_b = first_holds b (are_throwables (headers_of before) machine_throwables) in_c in
      both_hold e' (needed_class_checks is_method_type method_type after)
      (both_hold d' (needed_class_checks is_method_handle method_handle after)
      (both_hold c' (are_interfaces (headers_of after) (serializable ∷ cloneable ∷ []))
      (both_hold b' (are_throwables (headers_of after) machine_throwables)
      (both_hold (in_library library) (has_object (headers_of after)) (first_holds (in_library library) (has_object (headers_of before)) in_b)
      (object_alike none (others_hold (in_library library) (has_object (headers_of before)) in_b)))
      (throwables_alike machine_throwables (others_hold b (are_throwables (headers_of before) machine_throwables) in_c)))
      (interfaces_alike (serializable ∷ cloneable ∷ []) (others_hold c (are_interfaces (headers_of before) (serializable ∷ cloneable ∷ [])) in_d)))
      (needed_alike is_method_handle method_handle handles (others_hold d (needed_class_checks is_method_handle method_handle before) in_e)))
      (needed_alike is_method_type method_type method_types (others_hold e (needed_class_checks is_method_type method_type before) all))

  hierarchy_alike : AllHold (hierarchy_checks (headers_of before)) → AllHold (hierarchy_checks (headers_of after))
  hierarchy_alike all =
      both_hold (asked_each (folder_checks (headers_of after)) (headers_of after).folder) (asked_each (library_checks (headers_of after)) library)
      (all_folder_alike (headers_of before) (headers_of after) same_shapes (headers_of before).folder (headers_of after).folder alike.folder
      (first_holds (asked_each (folder_checks (headers_of before)) (headers_of before).folder) (asked_each (library_checks (headers_of before)) library) all))
      (all_library_alike (headers_of before) (headers_of after) same_shapes
      (λ name none. outside_alike name (headers_of before).folder (headers_of after).folder alike.folder none) library
      (others_hold (asked_each (folder_checks (headers_of before)) (headers_of before).folder) (asked_each (library_checks (headers_of before)) library) all))

  in_order_alike : IsInOrder (headers_of before) → IsInOrder (headers_of after)
  in_order_alike order = record {
    folder = sorted_alike (headers_of before).folder (headers_of after).folder alike.folder order.folder;
    library = order.library;
    once = λ name.
        let equal = times_alike name (headers_of before).folder (headers_of after).folder library alike.folder in
        let few : times name (headers_of before) ≤ 1 = order.once name in
        omega (arith, equal, few);
  }

-- A written folder is a tree.
pub grown_tree : (library : List Header) (olds news : List ClassFile)
    → AreAlike (headers_of (record { folder = olds; library = library })) (headers_of (record { folder = news; library = library }))
    → list_any (has_constant is_method_handle) news ≡ list_any (has_constant is_method_handle) olds
    → list_any (has_constant is_method_type) news ≡ list_any (has_constant is_method_type) olds
    → AllByRecursion IsClassFile news
    → IsTree (record { folder = olds; library = library })
    → IsTree (record { folder = news; library = library })
grown_tree library [] [] alike handles method_types files tree = tree
grown_tree library [] (new ∷ news) alike handles method_types files tree = absurd alike.folder
grown_tree library (old ∷ olds) [] alike handles method_types files tree = absurd alike.folder
grown_tree library (old ∷ olds) (new ∷ news) alike handles method_types files tree =
    let before : Classes = record { folder = old ∷ olds; library = library } in
    let after : Classes = record { folder = new ∷ news; library = library } in
    let first = first_holds (hierarchy_checks (headers_of before)) (base_checks before) tree.holds in
    let none =
    no_object (headers_of before) (headers_of before).folder
    (first_holds (asked_each (folder_checks (headers_of before)) (headers_of before).folder) (asked_each (library_checks (headers_of before)) library) first) in
    record {
      folder = files;
      library = tree.library;
      in_order = in_order_alike library (old ∷ olds) (new ∷ news) alike handles method_types tree.in_order;
      holds = both_hold (hierarchy_checks (headers_of after)) (base_checks after)
          (hierarchy_alike library (old ∷ olds) (new ∷ news) alike handles method_types first)
          (base_alike library (old ∷ olds) (new ∷ news) alike handles method_types none
          (others_hold (hierarchy_checks (headers_of before)) (base_checks before) tree.holds));
    }
