-- An instruction of another class means in the host what it means in its own class: its constant was added to the host's pool by what it means.
use Rattle.std.proofs.Common.{◌≡◌, ◌⊎◌, inl, inr, ℕ, List, [], ◌∷◌, Option, Some, None, option_and_then, IsSome, refl, sym, ap, ◌∙◌}
use Rattle.std.proofs.lemmas.Bool.{false≢true}
use Rattle.class_model.specs.Code.{IsLoadable, IsLoadable2}
use Rattle.class_model.specs.Pool.{Constants, constant_at}
use Rattle.class_model.specs.PoolChecks.{IsClassAt, IsFieldConstant, IsInterfaceConstant, IsMethodConstant, class_at, class_name_of, descriptor_at, name_at, utf8_at}
use Rattle.class_model.specs.declared.pool.Const.{Const as PoolConst}
use Rattle.class_model.specs.declared.pool.Const.TheVariants.{Class, Double, Fieldref, Float, Integer, InterfaceMethodref, InvokeDynamic, Long, MethodHandle, MethodType, Methodref, NameAndType, String, Utf8}
use Rattle.class_tree.specs.Headers.{Name}
use Rattle.expanded_code.specs.Callees.{IsNoHandle}
use Rattle.making_code.specs.Constants.{MemberKind, needs_at, of_field, of_interface_method, of_method, reference_of_kind}
use Rattle.making_code.specs.IndexedMaking.{index_of_last}
use Rattle.making_code.specs.Laws.AddedConstants.{class_named}
use Rattle.making_code.specs.Laws.MeantConstants.{IsNumber, Means, NamesMember}
use Rattle.member_link.specs.Machine.Codes.{constant_op}
use Rattle.member_link.specs.Signatures.{reference_of}

-- a constant of a member refers to it
pub referred : (pool : Constants) (index : ℕ) (kind : MemberKind) (class : Name) (name desc : List ℕ) → NamesMember pool index kind class name desc
    → reference_of pool (constant_at pool index) ≡ Some (record { class = class; name = name; desc = desc })
referred pool index of_field class name desc there = rw (there.is, there.class_is, there.name_is, there.desc_is) refl
referred pool index of_method class name desc there = rw (there.is, there.class_is, there.name_is, there.desc_is) refl
referred pool index of_interface_method class name desc there = rw (there.is, there.class_is, there.name_is, there.desc_is) refl

-- ---- what an index names

module _ (old : Constants) (index : ℕ) (pool : Constants) (means : Means old index pool (index_of_last pool (needs_at old index)))
    (first : constant_at pool 0 ≡ None) where
  abbrev other : ℕ
  other = index_of_last pool (needs_at old index)

  -- where nothing is needed it names nothing
  nothing : needs_at old index ≡ [] → constant_at pool other ≡ None
  nothing e = rw (e) first

  -- ---- members

  abbrev SameReference : Type 0
  SameReference = reference_of pool (constant_at pool other) ≡ reference_of old (constant_at old index)

  named_same : (kind : MemberKind) (class member : ℕ) (c : Name) (n d : List ℕ) → constant_at old index ≡ Some (reference_of_kind kind class member)
      → class_at old class ≡ Some c
      → name_at old member ≡ Some n
      → descriptor_at old member ≡ Some d
      → SameReference
  named_same kind class member c n d is is_c is_n is_d =
      referred pool other kind c n d (means.member kind class member c n d is is_c is_n is_d)
      ∙ sym (referred old index kind c n d (record { of_class = class; named = member; is = is; class_is = is_c; name_is = is_n; desc_is = is_d }))

  unnamed_same : needs_at old index ≡ [] → reference_of old (constant_at old index) ≡ None → SameReference
  unnamed_same none unnamed = rw (nothing none) (sym unnamed)

  -- one that lacks its class, its name or its descriptor
  module _ (kind : MemberKind) (class member : ℕ) (is : constant_at old index ≡ Some (reference_of_kind kind class member)) where
    no_class : class_at old class ≡ None → SameReference
    no_class lacks = by kind is where
      by : (k : MemberKind) → constant_at old index ≡ Some (reference_of_kind k class member) → SameReference
      by of_field e = unnamed_same (rw (e, lacks) refl) (rw (e, lacks) refl)
      by of_method e = unnamed_same (rw (e, lacks) refl) (rw (e, lacks) refl)
      by of_interface_method e = unnamed_same (rw (e, lacks) refl) (rw (e, lacks) refl)

    no_name : (c : Name) → class_at old class ≡ Some c → name_at old member ≡ None → SameReference
    no_name c has lacks = by kind is where
      by : (k : MemberKind) → constant_at old index ≡ Some (reference_of_kind k class member) → SameReference
      by of_field e = unnamed_same (rw (e, has, lacks) refl) (rw (e, has, lacks) refl)
      by of_method e = unnamed_same (rw (e, has, lacks) refl) (rw (e, has, lacks) refl)
      by of_interface_method e = unnamed_same (rw (e, has, lacks) refl) (rw (e, has, lacks) refl)

    no_desc : (c : Name) (n : List ℕ) → class_at old class ≡ Some c → name_at old member ≡ Some n → descriptor_at old member ≡ None → SameReference
    no_desc c n has also lacks = by kind is where
      by : (k : MemberKind) → constant_at old index ≡ Some (reference_of_kind k class member) → SameReference
      by of_field e = unnamed_same (rw (e, has, also, lacks) refl) (rw (e, has, also, lacks) refl)
      by of_method e = unnamed_same (rw (e, has, also, lacks) refl) (rw (e, has, also, lacks) refl)
      by of_interface_method e = unnamed_same (rw (e, has, also, lacks) refl) (rw (e, has, also, lacks) refl)

    member_same : SameReference
    member_same = by (class_at old class) refl (name_at old member) refl (descriptor_at old member) refl where
      by : (c : Option Name) → class_at old class ≡ c → (n : Option (List ℕ)) → name_at old member ≡ n → (d : Option (List ℕ)) → descriptor_at old member ≡ d
          → SameReference
      by None is_c n is_n d is_d = no_class is_c
      by (Some c) is_c None is_n d is_d = no_name c is_c is_n
      by (Some c) is_c (Some n) is_n None is_d = no_desc c n is_c is_n is_d
      by (Some c) is_c (Some n) is_n (Some d) is_d = named_same kind class member c n d is is_c is_n is_d

  pub field_meant : IsFieldConstant (constant_at old index) → SameReference
  field_meant = by (constant_at old index) refl where
    by : (found : Option PoolConst) → constant_at old index ≡ found → IsFieldConstant found → SameReference
    by (Some (Fieldref class member)) is fits = member_same of_field class member is
    by None is fits = elim fits [ ]
    by (Some (Utf8 text)) is fits = elim fits [ ]
    by (Some (Integer number)) is fits = elim fits [ ]
    by (Some (Float bits)) is fits = elim fits [ ]
    by (Some (Long number)) is fits = elim fits [ ]
    by (Some (Double bits)) is fits = elim fits [ ]
    by (Some (Class name)) is fits = elim fits [ ]
    by (Some (String text)) is fits = elim fits [ ]
    by (Some (Methodref class member)) is fits = elim fits [ ]
    by (Some (InterfaceMethodref class member)) is fits = elim fits [ ]
    by (Some (NameAndType name desc)) is fits = elim fits [ ]
    by (Some (MethodHandle kind reference)) is fits = elim fits [ ]
    by (Some (MethodType desc)) is fits = elim fits [ ]
    by (Some (InvokeDynamic bootstrap member)) is fits = elim fits [ ]

  pub method_meant : IsMethodConstant (constant_at old index) ⊎ IsInterfaceConstant (constant_at old index) → SameReference
  method_meant = by (constant_at old index) refl where
    by : (found : Option PoolConst) → constant_at old index ≡ found → IsMethodConstant found ⊎ IsInterfaceConstant found → SameReference
    by (Some (Methodref class member)) is fits = member_same of_method class member is
    by (Some (InterfaceMethodref class member)) is fits = member_same of_interface_method class member is
    by None is fits = elim fits [ inl not_this ↦ elim not_this [ ] | inr nor_this ↦ elim nor_this [ ] ]
    by (Some (Fieldref class member)) is fits = elim fits [ inl not_this ↦ elim not_this [ ] | inr nor_this ↦ elim nor_this [ ] ]
    by (Some (Utf8 text)) is fits = elim fits [ inl not_this ↦ elim not_this [ ] | inr nor_this ↦ elim nor_this [ ] ]
    by (Some (Integer number)) is fits = elim fits [ inl not_this ↦ elim not_this [ ] | inr nor_this ↦ elim nor_this [ ] ]
    by (Some (Float bits)) is fits = elim fits [ inl not_this ↦ elim not_this [ ] | inr nor_this ↦ elim nor_this [ ] ]
    by (Some (Long number)) is fits = elim fits [ inl not_this ↦ elim not_this [ ] | inr nor_this ↦ elim nor_this [ ] ]
    by (Some (Double bits)) is fits = elim fits [ inl not_this ↦ elim not_this [ ] | inr nor_this ↦ elim nor_this [ ] ]
    by (Some (Class name)) is fits = elim fits [ inl not_this ↦ elim not_this [ ] | inr nor_this ↦ elim nor_this [ ] ]
    by (Some (String text)) is fits = elim fits [ inl not_this ↦ elim not_this [ ] | inr nor_this ↦ elim nor_this [ ] ]
    by (Some (NameAndType name desc)) is fits = elim fits [ inl not_this ↦ elim not_this [ ] | inr nor_this ↦ elim nor_this [ ] ]
    by (Some (MethodHandle kind reference)) is fits = elim fits [ inl not_this ↦ elim not_this [ ] | inr nor_this ↦ elim nor_this [ ] ]
    by (Some (MethodType desc)) is fits = elim fits [ inl not_this ↦ elim not_this [ ] | inr nor_this ↦ elim nor_this [ ] ]
    by (Some (InvokeDynamic bootstrap member)) is fits = elim fits [ inl not_this ↦ elim not_this [ ] | inr nor_this ↦ elim nor_this [ ] ]

  -- ---- classes

  class_of : (text : ℕ) → constant_at old index ≡ Some (Class text) → class_at pool other ≡ class_at old index
  class_of text is = by (utf8_at old text) refl where
    by : (found : Option (List ℕ)) → utf8_at old text ≡ found → class_at pool other ≡ class_at old index
    by None none =
        let empty : class_at old index ≡ None = rw (is, none) refl in
        rw (nothing (rw (is, none) refl)) (sym empty)
    by (Some name) some =
        let there : class_at old index ≡ Some name = rw (is, some) refl in
        means.class name there ∙ sym there

  pub class_meant : IsClassAt old index → class_at pool other ≡ class_at old index
  class_meant = by (constant_at old index) refl where
    by : (found : Option PoolConst) → constant_at old index ≡ found → IsSome (option_and_then class_name_of found) → class_at pool other ≡ class_at old index
    by (Some (Class text)) is fits = class_of text is
    by None is fits = absurd (false≢true fits)
    by (Some (Utf8 text)) is fits = absurd (false≢true fits)
    by (Some (Integer number)) is fits = absurd (false≢true fits)
    by (Some (Float bits)) is fits = absurd (false≢true fits)
    by (Some (Long number)) is fits = absurd (false≢true fits)
    by (Some (Double bits)) is fits = absurd (false≢true fits)
    by (Some (String text)) is fits = absurd (false≢true fits)
    by (Some (Fieldref class member)) is fits = absurd (false≢true fits)
    by (Some (Methodref class member)) is fits = absurd (false≢true fits)
    by (Some (InterfaceMethodref class member)) is fits = absurd (false≢true fits)
    by (Some (NameAndType name desc)) is fits = absurd (false≢true fits)
    by (Some (MethodHandle kind reference)) is fits = absurd (false≢true fits)
    by (Some (MethodType desc)) is fits = absurd (false≢true fits)
    by (Some (InvokeDynamic bootstrap member)) is fits = absurd (false≢true fits)

  -- ---- what is loaded

  string_loaded : (text : ℕ) → constant_at old index ≡ Some (String text)
      → constant_op pool (constant_at pool other) ≡ constant_op old (constant_at old index)
  string_loaded text is = by (utf8_at old text) refl where
    by : (found : Option (List ℕ)) → utf8_at old text ≡ found → constant_op pool (constant_at pool other) ≡ constant_op old (constant_at old index)
    by None none = rw (nothing (rw (is, none) refl), is, none) refl
    by (Some bytes) some =
        let named = means.string text bytes is some in
        rw (named.is, named.text_is, is, some) refl

  class_loaded : (text : ℕ) → constant_at old index ≡ Some (Class text)
      → constant_op pool (constant_at pool other) ≡ constant_op old (constant_at old index)
  class_loaded text is = by (utf8_at old text) refl where
    by : (found : Option (List ℕ)) → utf8_at old text ≡ found → constant_op pool (constant_at pool other) ≡ constant_op old (constant_at old index)
    by None none = rw (nothing (rw (is, none) refl), is, none) refl
    by (Some name) some =
        let named = class_named pool other name (means.class name (rw (is, some) refl)) in
        rw (named.is_class, named.is_text, is, some) refl

  number_loaded : (constant : PoolConst) → IsNumber constant → constant_at old index ≡ Some constant
      → constant_op old (Some constant) ≡ constant_op pool (Some constant)
      → constant_op pool (constant_at pool other) ≡ constant_op old (constant_at old index)
  number_loaded constant number is same = rw (means.number constant number is, is) (sym same)

  pub loaded_meant : IsLoadable (constant_at old index) → IsNoHandle (constant_at old index)
      → constant_op pool (constant_at pool other) ≡ constant_op old (constant_at old index)
  loaded_meant = by (constant_at old index) refl where
    by : (found : Option PoolConst) → constant_at old index ≡ found → IsLoadable found → IsNoHandle found
        → constant_op pool (constant_at pool other) ≡ constant_op old (constant_at old index)
    by (Some (Integer number)) is fits plain = number_loaded (Integer number) tt is refl
    by (Some (Float bits)) is fits plain = number_loaded (Float bits) tt is refl
    by (Some (String text)) is fits plain = string_loaded text is
    by (Some (Class text)) is fits plain = class_loaded text is
    by (Some (MethodHandle kind reference)) is fits plain = elim plain [ ]
    by (Some (MethodType desc)) is fits plain = elim plain [ ]
    by None is fits plain = elim fits [ ]
    by (Some (Utf8 text)) is fits plain = elim fits [ ]
    by (Some (Long number)) is fits plain = elim fits [ ]
    by (Some (Double bits)) is fits plain = elim fits [ ]
    by (Some (Fieldref class member)) is fits plain = elim fits [ ]
    by (Some (Methodref class member)) is fits plain = elim fits [ ]
    by (Some (InterfaceMethodref class member)) is fits plain = elim fits [ ]
    by (Some (NameAndType name desc)) is fits plain = elim fits [ ]
    by (Some (InvokeDynamic bootstrap member)) is fits plain = elim fits [ ]

  pub loaded2_meant : IsLoadable2 (constant_at old index) → constant_op pool (constant_at pool other) ≡ constant_op old (constant_at old index)
  loaded2_meant = by (constant_at old index) refl where
    by : (found : Option PoolConst) → constant_at old index ≡ found → IsLoadable2 found
        → constant_op pool (constant_at pool other) ≡ constant_op old (constant_at old index)
    by (Some (Long number)) is fits = number_loaded (Long number) tt is refl
    by (Some (Double bits)) is fits = number_loaded (Double bits) tt is refl
    by None is fits = elim fits [ ]
    by (Some (Integer number)) is fits = elim fits [ ]
    by (Some (Float bits)) is fits = elim fits [ ]
    by (Some (String text)) is fits = elim fits [ ]
    by (Some (Class text)) is fits = elim fits [ ]
    by (Some (Utf8 text)) is fits = elim fits [ ]
    by (Some (MethodHandle kind reference)) is fits = elim fits [ ]
    by (Some (MethodType desc)) is fits = elim fits [ ]
    by (Some (Fieldref class member)) is fits = elim fits [ ]
    by (Some (Methodref class member)) is fits = elim fits [ ]
    by (Some (InterfaceMethodref class member)) is fits = elim fits [ ]
    by (Some (NameAndType name desc)) is fits = elim fits [ ]
    by (Some (InvokeDynamic bootstrap member)) is fits = elim fits [ ]
