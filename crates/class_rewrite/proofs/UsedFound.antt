-- The field that a constant names, by its numbers, and what is noted of it.
use Rattle.std.proofs.Common.{◌≡◌, ◌≢◌, ◌⊎◌, inl, inr, ℕ, Bool, true, false, List, slice_get, Option, Some, None, Result, Ok, Err, OnOk, IsTrue, refl, sym, ap, subst, ◌∙◌}
use Rattle.std.proofs.lemmas.Bool.{false≢true}
use Rattle.std.proofs.lemmas.Option.{same_Some}
use Rattle.class_model.specs.Members.{FINAL, PRIVATE, STATIC, has}
use Rattle.class_model.specs.Pool.{Constants, constant_at}
use Rattle.class_model.specs.declared.header.Header.{Header}
use Rattle.class_model.specs.declared.header.Member.{Member}
use Rattle.class_model.specs.declared.instr.Instr.{Instr}
use Rattle.class_model.specs.declared.instr.Instr.TheVariants.{GetField, PutField}
use Rattle.class_rewrite.proofs.UsedLists.{adds_same}
use Rattle.class_rewrite.proofs.UsedNumbers.{number_once}
use Rattle.class_rewrite.specs.Inner.UsedFields.{Adds, IsFieldThere, IsFolderField, IsOfSite, NamesField, NamesFieldAt, NamesFinal, NamesPrivate, StoresFinal, UsesPrivate, instance_field_of}
use Rattle.class_rewrite.specs.declared.outcome.FieldAt.{FieldAt}
use Rattle.class_rewrite.specs.declared.used_fields.FolderField.{FolderField}
use Rattle.class_tree.specs.Headers.{Classes, Headers, Name, headers_of}
use Rattle.class_tree.specs.Hierarchy.{IsHierarchy}
use Rattle.class_tree.specs.Order.{header_at, place_of}
use Rattle.class_tree.specs.Trees.{IsTree}
use Rattle.class_tree.specs.declared.place.Place.{Place}
use Rattle.class_tree.specs.declared.place.Place.TheVariants.{Folder, Library}
use Rattle.flow_code.specs.FlatCode.{FlatCode}
use Rattle.member_link.specs.DeclaredMembers.{Declared}
use Rattle.member_link.specs.Fields.{FindsField}
use Rattle.member_link.specs.Found.{AreSame, IsField, IsFieldFound}
use Rattle.member_link.specs.Machine.Links.{reference_to}
use Rattle.member_link.specs.References.{Reference}
use Rattle.member_link.specs.Signatures.{reference_of}
use Rattle.member_link.specs.declared.found.Found.{Found}

-- the law of look-up
abbrev pub FindsOne : Type 0
FindsOne =
    (headers : Headers) (class : Name) (name desc : List ℕ) (one other : Option Declared)
    → FindsField headers class name desc one
    → FindsField headers class name desc other
    → one ≡ other

pub ok_then : {T E : Type 0} {A B : Type 0} (r : Result T E) → (A → B) → OnOk r A → OnOk r B
ok_then (Ok x) f h = f h
ok_then (Err e) f h = h

module _ (classes : Classes) (tree : IsTree classes) (hierarchy : IsHierarchy (headers_of classes)) (finds_one : FindsOne)
    (pool : Constants) (index : ℕ) (reference : Reference) (refers : reference_of pool (constant_at pool index) ≡ Some reference) where
  abbrev H : Headers
  H = headers_of classes

  -- two fields that the constant names are one
  same_found : (found : Declared) → FindsField H reference.class reference.name reference.desc (Some found)
      → (field : Reference) → NamesField classes pool index field
      → field ≡ reference_to found
  same_found found finds field names =
      let one : names.reference ≡ reference = same_Some names.reference reference (sym names.refers ∙ refers) in
      let also = subst (λ (r : Reference). FindsField H r.class r.name r.desc (Some names.found)) one names.finds in
      let same : names.found ≡ found = same_Some names.found found (finds_one H reference.class reference.name reference.desc (Some names.found) (Some found) also finds) in
      sym names.same ∙ ap reference_to same

  place_is : (place : Place) (header : Header) → header_at H place ≡ Some header → (name : Name) → header.name ≡ name → place_of H name ≡ Some place
  place_is place header at name same = subst (λ (n : Name). place_of H n ≡ Some place) same (hierarchy.of_place place header at).is_place

  folder_is : (one other : ℕ) → Some (Folder one) ≡ Some (Folder other) → one ≡ other
  folder_is one other same = cc

  not_both : (one other : ℕ) → Some (Library one) ≡ Some (Folder other) → ⊥
  not_both one other same = cc same

  some_found : (found : Found) (result : Option Declared) → AreSame (IsFieldFound H) (Some found) result → (declared : Declared) × (result ≡ Some declared) × IsFieldFound H found declared
  some_found found None same = absurd same
  some_found found (Some declared) same = (declared, refl, same)

  module _ (found : Found) (is : IsField H reference.class reference.name reference.desc (Some found)) where
    abbrev told : (declared : Declared) × (is.field ≡ Some declared) × IsFieldFound H found declared
    told = some_found found is.field is.same

    abbrev d : Declared
    d = told.0

    at_found : IsFieldFound H found d
    at_found = told.2

    finds : FindsField H reference.class reference.name reference.desc (Some d)
    finds = subst (λ (o : Option Declared). FindsField H reference.class reference.name reference.desc o) told.1 is.finds

    -- the class of a field that the constant names is that of the field that is found
    class_is : (class number : ℕ) (member : Member) → (names : NamesFieldAt classes pool index class number member) → names.is_field.header.name ≡ at_found.header.name
    class_is class number member names =
        ap (λ (r : Reference). r.class) (sym names.is_field.named ∙ same_found d finds names.field names.named) ∙ sym at_found.own_class

    pub in_library : (number : ℕ) → found.place ≡ Library number → IsFolderField classes pool index None
    in_library number place class field member names =
        let there : header_at H (Library number) ≡ Some at_found.header = ap (header_at H) (sym place) ∙ at_found.at in
        not_both number class
        (sym (place_is (Library number) at_found.header there names.is_field.header.name (sym (class_is class field member names)))
        ∙ place_is (Folder class) names.is_field.header names.is_field.of_folder names.is_field.header.name refl)

    module _ (class : ℕ) (place : found.place ≡ Folder class) where
      there : slice_get H.folder class ≡ Some at_found.header
      there = ap (header_at H) (sym place) ∙ at_found.at

      same_numbers : (other number : ℕ) (member : Member) → NamesFieldAt classes pool index other number member
          → (other ≡ class) × (number ≡ found.member) × (member ≡ d.member)
      same_numbers other number member names =
          let f = names.is_field in
          let of_class : other ≡ class = folder_is other class
          (sym (place_is (Folder other) f.header f.of_folder at_found.header.name (class_is other number member names))
          ∙ place_is (Folder class) at_found.header there at_found.header.name refl) in
          let header : f.header ≡ at_found.header =
          same_Some f.header at_found.header (sym f.of_folder ∙ ap (slice_get H.folder) of_class ∙ there) in
          let declared : slice_get at_found.header.fields number ≡ Some member = ap (λ (h : Header). slice_get h.fields number) (sym header) ∙ f.declared in
          let named = sym f.named ∙ same_found d finds names.field names.named in
          let numbers : number ≡ found.member =
          number_once classes tree class at_found.header there number found.member member d.member declared at_found.stands
          (ap (λ (r : Reference). r.name) named) (ap (λ (r : Reference). r.desc) named) in
          (of_class, numbers, same_Some member d.member (sym declared ∙ ap (slice_get at_found.header.fields) numbers ∙ at_found.stands))

      none_static : has found.flags STATIC ≡ true → IsFolderField classes pool index None
      none_static static other number member names =
          let member_is = (same_numbers other number member names).2 in
          false≢true (sym names.is_field.instance ∙ ap (λ (m : Member). has m.flags STATIC) member_is ∙ ap (λ (n : ℕ). has n STATIC) (sym at_found.same_flags) ∙ static)

      an_instance : has found.flags STATIC ≡ false
          → IsFieldThere classes pool index (record { at = record { class = class; field = found.member }; flags = found.flags })
      an_instance instance = record {
        member = d.member;
        names = record {
          field = reference_to d;
          named = record { reference = reference; refers = refers; found = d; finds = finds; same = refl };
          is_field = record {
            header = at_found.header;
            of_folder = there;
            declared = at_found.stands;
            named = ap (λ (n : Name). record { class = n; name = d.member.name; desc = d.member.desc }) (sym at_found.own_class);
            instance = ap (λ (n : ℕ). has n STATIC) (sym at_found.same_flags) ∙ instance;
          };
        };
        flags = at_found.same_flags;
        only = same_numbers;
      }

      pub in_folder : IsFolderField classes pool index (instance_field_of class found)
      in_folder = by (has found.flags STATIC) refl where
        by : (b : Bool) → has found.flags STATIC ≡ b → IsFolderField classes pool index (instance_field_of class found)
        by true static = rw (static) (none_static static)
        by false instance = rw (instance) (an_instance instance)

-- ---- what is noted

module _ (classes : Classes) (flat : FlatCode) (pool : Constants) (index : ℕ) (before after : List FieldAt) where
  module _ (field : FolderField) (there : IsFieldThere classes pool index field) where
    named_at : (class number : ℕ) → class ≡ field.at.class → number ≡ field.at.field → NamesFieldAt classes pool index class number there.member
    named_at class number same also =
        subst (λ (c : ℕ). NamesFieldAt classes pool index c number there.member) (sym same)
        (subst (λ (n : ℕ). NamesFieldAt classes pool index field.at.class n there.member) (sym also) there.names)

    flag_is : (mask : ℕ) (member : Member) → member ≡ there.member → has member.flags mask ≡ has field.flags mask
    flag_is mask member same = ap (λ (m : Member). has m.flags mask) same ∙ ap (λ (n : ℕ). has n mask) (sym there.flags)

    pub finals_added : (stored : Bool)
        → Adds (λ class number. (class ≡ field.at.class) × (number ≡ field.at.field) × IsTrue stored × IsTrue (has field.flags FINAL) × IsOfSite classes flat field.at.class) before after
        → Adds (λ class number. IsTrue stored × NamesFinal classes flat pool index class number) before after
    finals_added stored adds =
        adds_same (λ class number. (class ≡ field.at.class) × (number ≡ field.at.field) × IsTrue stored × IsTrue (has field.flags FINAL) × IsOfSite classes flat field.at.class)
        (λ class number. IsTrue stored × NamesFinal classes flat pool index class number) before after
        (λ class number is. (
          is.2,
          record {
            member = there.member;
            names = named_at class number is.0 is.1;
            final = flag_is FINAL there.member refl ∙ is.3;
            of_site = subst (IsOfSite classes flat) (sym is.0) is.4;
          },
        ))
        (λ class number is.
        let one = there.only class number is.1.member is.1.names in
        (one.0, one.1, is.0, sym (flag_is FINAL is.1.member one.2) ∙ is.1.final, subst (IsOfSite classes flat) one.0 is.1.of_site))
        adds

    pub privates_added :
        Adds (λ class number. (class ≡ field.at.class) × (number ≡ field.at.field) × IsTrue (has field.flags PRIVATE) × (field.at.class ≢ flat.host.class)) before after
        → Adds (NamesPrivate classes flat pool index) before after
    privates_added adds =
        adds_same (λ class number. (class ≡ field.at.class) × (number ≡ field.at.field) × IsTrue (has field.flags PRIVATE) × (field.at.class ≢ flat.host.class))
        (NamesPrivate classes flat pool index) before after
        (λ class number is. record {
          member = there.member;
          names = named_at class number is.0 is.1;
          private = flag_is PRIVATE there.member refl ∙ is.2;
          other = λ same. is.3 (sym is.0 ∙ same);
        })
        (λ class number is.
        let one = there.only class number is.member is.names in
        (one.0, one.1, sym (flag_is PRIVATE is.member one.2) ∙ is.private, λ same. is.other (one.0 ∙ same)))
        adds

  -- ---- by instructions

  put_index : (one other : ℕ) → PutField one ≡ PutField other → one ≡ other
  put_index one other same = cc

  get_index : (one other : ℕ) → GetField one ≡ GetField other → one ≡ other
  get_index one other same = cc

  put_not_get : (one other : ℕ) → PutField one ≡ GetField other → ⊥
  put_not_get one other same = cc same

  module _ (instr : Instr) where
    pub put_finals : instr ≡ PutField index → Adds (λ class number. IsTrue true × NamesFinal classes flat pool index class number) before after
        → Adds (StoresFinal classes flat pool instr) before after
    put_finals is adds =
        adds_same (λ class number. IsTrue true × NamesFinal classes flat pool index class number) (StoresFinal classes flat pool instr) before after
        (λ class number one. record { index = index; is = is; final = one.1 })
        (λ class number one. (refl, subst (λ (n : ℕ). NamesFinal classes flat pool n class number) (put_index one.index index (sym one.is ∙ is)) one.final))
        adds

    pub get_finals : instr ≡ GetField index → Adds (λ class number. IsTrue false × NamesFinal classes flat pool index class number) before after
        → Adds (StoresFinal classes flat pool instr) before after
    get_finals is adds =
        adds_same (λ class number. IsTrue false × NamesFinal classes flat pool index class number) (StoresFinal classes flat pool instr) before after
        (λ class number one. absurd (false≢true one.0))
        (λ class number one. absurd (put_not_get one.index index (sym one.is ∙ is)))
        adds

    pub uses_privates : (instr ≡ PutField index) ⊎ (instr ≡ GetField index) → Adds (NamesPrivate classes flat pool index) before after
        → Adds (UsesPrivate classes flat pool instr) before after
    uses_privates is adds =
        adds_same (NamesPrivate classes flat pool index) (UsesPrivate classes flat pool instr) before after
        (λ class number one. record { index = index; is = is; private = one })
        (λ class number one. subst (λ (n : ℕ). NamesPrivate classes flat pool n class number) (by one.index is one.is) one.private)
        adds where
          by : (other : ℕ) → (instr ≡ PutField index) ⊎ (instr ≡ GetField index) → (instr ≡ PutField other) ⊎ (instr ≡ GetField other) → other ≡ index
          by other (inl put) (inl also) = put_index other index (sym also ∙ put)
          by other (inl put) (inr also) = absurd (put_not_get index other (sym put ∙ also))
          by other (inr get) (inl also) = absurd (put_not_get other index (sym also ∙ get))
          by other (inr get) (inr also) = get_index other index (sym also ∙ get)
