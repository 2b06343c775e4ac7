-- Sound classes, class by class, and the candidates among them.
use Rattle.member_link.specs.FieldConstructors.{HasFieldConstructor, field_types}
use Rattle.std.proofs.Common.{◌≡◌, ◌≢◌, ◌↔◌, ◌≤◌, ◌++◌, not, ℕ, List, [], ◌∷◌, filter, length, map, reverse, slice_get, is_some, option_map, Option, Some, None, IsFalse, refl, sym, ap, subst, ◌∙◌, inl, inr, arith}
use Rattle.std.specs.List.{AllByRecursion, flat_map}
use Rattle.std.proofs.lemmas.Bool.{false≢true, or_left, or_right}
use Rattle.std.proofs.lemmas.List.{append-nil, map-append, reverse-append}
use Rattle.std.proofs.lemmas.List.Concat.{flat_map-append}
use Rattle.std.proofs.lemmas.List.Sums.{sum_by-append}
use Rattle.std.proofs.lemmas.Option.{same_Some, slice_get-map}
use Rattle.std.proofs.lemmas.Slice.Eq.{bytes_eq-Decides}
use Rattle.class_model.specs.Descriptors.{kind_of, parameter_units, type_of, units_of}
use Rattle.class_model.specs.Header.{header_of}
use Rattle.class_model.specs.Laws.Decisions.{Decision, is_true}
use Rattle.class_model.specs.Laws.Lists.{AllByRecursion-weaker}
use Rattle.class_model.specs.Members.{ABSTRACT, STATIC, has}
use Rattle.class_model.specs.declared.class_file.ClassFile.{ClassFile}
use Rattle.class_model.specs.declared.descriptor.FieldType.{FieldType}
use Rattle.class_model.specs.declared.header.Header.{Header}
use Rattle.class_model.specs.declared.header.Member.{Member}
use Rattle.class_tree.specs.Headers.{Name, Classes, headers_of, named, class_named}
use Rattle.class_tree.specs.Hierarchy.{IsHierarchy}
use Rattle.class_tree.specs.Laws.Above.{hierarchy_is_rooted, hierarchy_is_sound, object_no_superclass}
use Rattle.class_tree.specs.Laws.Decided.{same_bytes}
use Rattle.class_tree.specs.Laws.Names.{IsOneName, each_of_names}
use Rattle.class_tree.specs.Layouts.{instance_fields, own_fields, superclasses, chain}
use Rattle.class_tree.specs.Names.{is_interface, object}
use Rattle.class_tree.specs.Order.{place_of}
use Rattle.class_tree.specs.declared.place.Place.TheVariants.{Folder}
use Rattle.expanded_code.specs.Candidates.{HasNoFinalizer, HasRoom, Initialises, IsCandidate, KeepsFinals, declares_finalizer}
use Rattle.expanded_code.specs.Laws.SuperChains.{chain_is, chain_of_object, has_superclass, superclasses_is, superclasses_of_root}
use Rattle.inline_expand.proofs.FolderNames.{folder_name, in_folder_at, of_folder}
use Rattle.inline_expand.proofs.QuietLaws.{quiet_is}
use Rattle.inline_expand.proofs.StoredClasses.{before_stored, stored_before}
use Rattle.inline_expand.specs.Inner.CandidateWords.{IsFileOf, IsFit, IsFitAt, IsJudged, IsSound, own_descs, units_of_all}
use Rattle.inline_expand.specs.Inner.QuietWords.{IsQuietItself}
use Rattle.inline_expand.specs.Inner.StoreWords.{IsStored}
use Rattle.field_constructors.specs.Constructors.{field_descs}
use Rattle.member_link.specs.Scope.{Scope, is_init}

-- ---- lists

zipped : {X : Type 0} (P Q R S T : X → Type 0) → ((x : X) → P x → Q x → R x → S x → T x) → (xs : List X)
    → AllByRecursion P xs → AllByRecursion Q xs → AllByRecursion R xs → AllByRecursion S xs → AllByRecursion T xs
zipped P Q R S T to [] p q r s = tt
zipped P Q R S T to (x ∷ xs) p q r s = (to x p.0 q.0 r.0 s.0, zipped P Q R S T to xs p.1 q.1 r.1 s.1)

each_name : (P : Name → Type 0) (names : List Name) → ((name : Name) → IsOneName names name → P name) → AllByRecursion P names
each_name P [] all = tt
each_name P (name ∷ names) all = (all name (or_left _ _ ((bytes_eq-Decides name name).1 refl)), each_name P names (λ other one. all other (or_right _ _ one)))

-- ---- final fields

pub initialises_decided : (s : Scope) (class : Name) → Decision (Initialises s class)
initialises_decided s class = elim (is_true (is_init s)) [
  | inl is ↦ elim (same_bytes (header_of s.class).name class) [
    | inl own ↦ inl (record { is_init = is; own = own })
    | inr other ↦ inr (λ i. other i.own)
  ]
  | inr not_so ↦ inr (λ i. not_so i.is_init)
]

pub finals_are : (classes : Classes) (class : Name) → KeepsFinals classes class ↔ AllByRecursion (λ name. ¬ IsStored classes name) (chain (headers_of classes) class)
finals_are classes class = (
  λ keeps. each_name (λ name. ¬ IsStored classes name) (chain (headers_of classes) class)
      (λ name one stored. stored.other (subst (Initialises stored.scope) stored.own
      (keeps stored.at stored.scope stored.number stored.placed stored.field stored.is_scope stored.there stored.stores
      (subst (IsOneName (chain (headers_of classes) class)) (sym stored.own) one) stored.is_final))),
  λ all at s number placed field is_scope there stores one final. elim (initialises_decided s field.class) [
    | inl is ↦ is
    | inr other ↦ absurd (each_of_names (λ name. ¬ IsStored classes name) (chain (headers_of classes) class) all field.class one (record {
      at = at;
      scope = s;
      number = number;
      placed = placed;
      field = field;
      is_scope = is_scope;
      there = there;
      stores = stores;
      own = refl;
      is_final = final;
      other = other;
    }))
  ],
)

-- ---- candidates

module _ (classes : Classes) (hierarchy : IsHierarchy (headers_of classes)) (outside : (header : Header) → named object (headers_of classes).folder ≡ Some header → ⊥) where
  pub candidate_is : (class : Name) (header : Header) → named class (headers_of classes).folder ≡ Some header
      → IsCandidate classes class ↔ (IsFalse (has header.flags ABSTRACT) × IsFalse (is_interface header) × IsSound classes class)
  candidate_is class header is = (
    λ c.
        let same : c.header ≡ header = same_Some c.header header (sym c.found ∙ is) in
        let quiet = (quiet_is (headers_of classes) hierarchy outside class header is).0 c.quiet in (
          subst (λ (h : Header). IsFalse (has h.flags ABSTRACT)) same c.concrete,
          subst (λ (h : Header). IsFalse (is_interface h)) same c.no_interface,
          record {
            fit = zipped (IsQuietItself (headers_of classes)) (HasNoFinalizer (headers_of classes)) (HasRoom classes) (λ name. ¬ IsStored classes name) (IsFit classes)
                (λ name q f r s. record { quiet = q; no_finalizer = f; room = r; finals = s }) (chain (headers_of classes) class)
                quiet c.no_finalizer c.room ((finals_are classes class).0 c.finals);
            narrow = c.narrow;
          },
        ),
    λ parts.
        let names = chain (headers_of classes) class in
        record {
          quiet = (quiet_is (headers_of classes) hierarchy outside class header is).1 (AllByRecursion-weaker (IsFit classes) (IsQuietItself (headers_of classes)) (λ name f. f.quiet) names parts.2.fit);
          header = header;
          found = is;
          concrete = parts.0;
          no_interface = parts.1;
          no_finalizer = AllByRecursion-weaker (IsFit classes) (HasNoFinalizer (headers_of classes)) (λ name f. f.no_finalizer) names parts.2.fit;
          narrow = parts.2.narrow;
          room = AllByRecursion-weaker (IsFit classes) (HasRoom classes) (λ name f. f.room) names parts.2.fit;
          finals = (finals_are classes class).1 (AllByRecursion-weaker (IsFit classes) (λ name. ¬ IsStored classes name) (λ name f. f.finals) names parts.2.fit);
        },
  )

  -- ---- fields

  fields_more : (name above : Name) → superclasses (headers_of classes) name ≡ name ∷ superclasses (headers_of classes) above
      → instance_fields (headers_of classes) name ≡ instance_fields (headers_of classes) above ++ own_fields (headers_of classes) name
  fields_more name above is =
      let headers = headers_of classes in
      ap (λ (names : List Name). flat_map (own_fields headers) (reverse names)) is
      ∙ ap (flat_map (own_fields headers)) (reverse-append (name ∷ []) (superclasses headers above))
      ∙ flat_map-append (own_fields headers) (reverse (superclasses headers above)) (name ∷ [])
      ∙ ap (λ (last : List Member). instance_fields headers above ++ last) (append-nil (own_fields headers name))

  own_are : (name : Name) (header : Header) → named name (headers_of classes).folder ≡ Some header
      → own_fields (headers_of classes) name ≡ filter (λ (field : Member). not (has field.flags STATIC)) header.fields
  own_are name header is = rw is refl

  descs_more : (name above : Name) (header : Header) → named name (headers_of classes).folder ≡ Some header → header.super_name ≡ Some above
      → field_descs (headers_of classes) name ≡ field_descs (headers_of classes) above ++ own_descs header
  descs_more name above header is some =
      let headers = headers_of classes in
      ap (map (λ (field : Member). field.desc)) (fields_more name above (superclasses_is headers hierarchy name header (of_folder headers name header is) above some))
      ∙ map-append (λ (field : Member). field.desc) (instance_fields headers above) (own_fields headers name)
      ∙ ap (λ (own : List Member). field_descs headers above ++ map (λ (field : Member). field.desc) own) (own_are name header is)

  types_are : (fields : List Member) → map type_of (map (λ (field : Member). field.desc) fields) ≡ map (λ (field : Member). type_of field.desc) fields
  types_are [] = refl
  types_are (field ∷ fields) = ap (λ (rest : List FieldType). type_of field.desc ∷ rest) (types_are fields)

  pub units_are : (name : Name) → parameter_units (field_types (headers_of classes) name) ≡ units_of_all (field_descs (headers_of classes) name)
  units_are name = ap parameter_units (sym (types_are (instance_fields (headers_of classes) name)))

  units_more : (fields own : List (List ℕ)) → units_of_all fields ≤ units_of_all (fields ++ own)
  units_more fields own =
      let unit : FieldType → ℕ = λ (type : FieldType). units_of (kind_of type) in
      let e = ap parameter_units (map-append type_of fields own) in
      let sum = sum_by-append unit (map type_of fields) (map type_of own) in
      omega (arith, e, sum)

  -- ---- class by class

  pub object_judged : (top : Header) → class_named (headers_of classes) object ≡ Some top → IsJudged classes object (Some [])
  object_judged top is =
      let headers = headers_of classes in
      let none = object_no_superclass headers (hierarchy_is_sound headers hierarchy) (hierarchy_is_rooted headers hierarchy) top is in
      let own : own_fields headers object ≡ [] = by (named object headers.folder) refl in
      let fields : instance_fields headers object ≡ [] =
      ap (λ (names : List Name). flat_map (own_fields headers) (reverse names)) (superclasses_of_root headers hierarchy object top is none)
      ∙ append-nil (own_fields headers object) ∙ own in (
        record {
          fit = subst (AllByRecursion (IsFit classes)) (sym (chain_of_object headers hierarchy top is)) tt;
          narrow = let e = ap (λ (fields : List Member). parameter_units (map (λ (field : Member). type_of field.desc) fields)) fields in omega (arith, e);
        },
        sym (ap (map (λ (field : Member). field.desc)) fields),
      )
    where
      by : (found : Option Header) → named object (headers_of classes).folder ≡ found → own_fields (headers_of classes) object ≡ []
      by None is = rw is refl
      by (Some header) is = absurd (outside header is)

  -- a class that is not of the folder
  pub outside_judged : (name : Name) (header : Header) → class_named (headers_of classes) name ≡ Some header → name ≢ object
      → named name (headers_of classes).folder ≡ None → IsJudged classes name None
  outside_judged name header is differ none sound =
      let above = has_superclass (headers_of classes) hierarchy name header is differ in
      let parts : IsFit classes name × AllByRecursion (IsFit classes) (chain (headers_of classes) above.0) = subst (AllByRecursion (IsFit classes)) (chain_is (headers_of classes) hierarchy name header is differ above.0 above.1) sound.fit in
      false≢true (sym (ap is_some none) ∙ parts.0.quiet.of_folder)

  module _ (name above : Name) (header : Header) (is : named name (headers_of classes).folder ≡ Some header) (some : header.super_name ≡ Some above) where
    not_object : name ≢ object
    not_object same = outside header (subst (λ (n : Name). named n (headers_of classes).folder ≡ Some header) same is)

    chain_at : chain (headers_of classes) name ≡ name ∷ chain (headers_of classes) above
    chain_at = chain_is (headers_of classes) hierarchy name header (of_folder (headers_of classes) name header is) not_object above some

    descs_at : field_descs (headers_of classes) name ≡ field_descs (headers_of classes) above ++ own_descs header
    descs_at = descs_more name above header is some

    sound_parts : IsSound classes name → IsFit classes name × AllByRecursion (IsFit classes) (chain (headers_of classes) above)
    sound_parts sound = subst (AllByRecursion (IsFit classes)) chain_at sound.fit

    -- what is above a sound class is
    pub sound_above : IsSound classes name → IsSound classes above
    sound_above sound = record {
      fit = (sound_parts sound).1;
      narrow =
          let one = units_are name in
          let other = units_are above in
          let more = units_more (field_descs (headers_of classes) above) (own_descs header) in
          let same = ap units_of_all descs_at in
          omega (arith, one, other, more, same, sound.narrow);
    }

    module _ (number : ℕ) (file : ClassFile) (at : IsFileOf classes name number file) where
      header_is : header_of file ≡ header
      header_is =
          let found = in_folder_at (headers_of classes) name (Some (Folder number)) at.placed in
          same_Some (header_of file) header (sym (slice_get-map header_of classes.folder number ∙ ap (option_map header_of) at.there) ∙ sym found ∙ is)

      file_is : (other : ℕ) (one : ClassFile) → slice_get classes.folder other ≡ Some one → (header_of one).name ≡ name → one ≡ file
      file_is other one there own =
          let stands = hierarchy.of_place (Folder other) (header_of one) (slice_get-map header_of classes.folder other ∙ ap (option_map header_of) there) in
          let e : Folder other ≡ Folder number = same_Some (Folder other) (Folder number) (sym stands.is_place ∙ ap (place_of (headers_of classes)) own ∙ at.placed) in
          let same : other ≡ number = cc in
          same_Some one file (sym there ∙ ap (slice_get classes.folder) same ∙ at.there)

      fit_is : IsFit classes name ↔ (IsFitAt classes name number file × HasFieldConstructor classes name)
      fit_is =
          let own : (header_of file).name ≡ name = ap (λ (h : Header). h.name) header_is ∙ folder_name (headers_of classes) name header is in (
            λ fit. (
              record {
                quiet = fit.quiet;
                no_finalizer = ap declares_finalizer header_is ∙ fit.no_finalizer header is;
                constants = fit.room.constants file number at.there own;
                methods = fit.room.methods file number at.there own;
                finals = λ stored. fit.finals (before_stored classes hierarchy name number at.placed stored);
              },
              fit.room.constructor,
            ),
            λ both. record {
              quiet = both.0.quiet;
              no_finalizer = λ other other_is. ap declares_finalizer (same_Some other header (sym other_is ∙ is)) ∙ ap declares_finalizer (sym header_is) ∙ both.0.no_finalizer;
              room = record {
                constants = λ one other there own. subst (λ (f : ClassFile). length f.pool ≤ 64535) (sym (file_is other one there own)) both.0.constants;
                methods = λ one other there own. subst (λ (f : ClassFile). length f.methods ≤ 65534) (sym (file_is other one there own)) both.0.methods;
                constructor = both.1;
              };
              finals = λ stored. both.0.finals (stored_before classes hierarchy name number at.placed stored);
            },
          )

      -- by the fields of the class above
      module _ (before fields : List (List ℕ)) (above_are : before ≡ field_descs (headers_of classes) above) (are : fields ≡ before ++ own_descs header) where
        pub fields_are : fields ≡ field_descs (headers_of classes) name
        fields_are = are ∙ ap (λ (l : List (List ℕ)). l ++ own_descs header) above_are ∙ sym descs_at

        pub there_judged : IsSound classes above → IsFitAt classes name number file → units_of_all fields ≤ 64 → HasFieldConstructor classes name → IsJudged classes name (Some fields)
        there_judged sound fit narrow free = (
          record {
            fit = subst (AllByRecursion (IsFit classes)) (sym chain_at) (fit_is.1 (fit, free), sound.fit);
            narrow = let one = units_are name in let same = ap units_of_all fields_are in omega (arith, one, same, narrow);
          },
          fields_are,
        )

        pub sound_fit : IsSound classes name → IsFitAt classes name number file
        sound_fit sound = (fit_is.0 (sound_parts sound).0).0

        pub sound_narrow : IsSound classes name → units_of_all fields ≤ 64
        sound_narrow sound = let one = units_are name in let same = ap units_of_all fields_are in omega (arith, one, same, sound.narrow)

        pub sound_free : IsSound classes name → HasFieldConstructor classes name
        sound_free sound = (fit_is.0 (sound_parts sound).0).1
