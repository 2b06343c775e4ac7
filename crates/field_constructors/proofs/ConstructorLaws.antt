-- Field constructors by the descriptors of the fields.
use Rattle.member_link.specs.FieldConstructors.{HandlesNone, HasFieldConstructor, IsFree, constructor_descriptor, handled}
use Rattle.std.proofs.Common.{◌≡◌, ◌≢◌, ◌↔◌, ◌≤◌, ◌++◌, ◌&&◌, ◌||◌, cond, ℕ, Bool, true, false, List, [], ◌∷◌, bytes_eq, codes, length, map, replicate, Option, Some, None, Result, Ok, Err, IfOk, slice_get, IsTrue, IsFalse, option_map, option_and_then, refl, sym, ap, subst, ◌∙◌, inl, inr}
use Rattle.std.specs.List.{AllByRecursion, flat_map, list_any}
use Rattle.std.proofs.lemmas.Bool.{cases_Bool, false≢true}
use Rattle.std.proofs.lemmas.List.Folds.{list_any-append}
use Rattle.std.proofs.lemmas.Option.{none-some, same_Some}
use Rattle.std.proofs.lemmas.Slice.Eq.{bytes_eq-Decides}
use Rattle.class_model.specs.Characters.{left_bracket, left_parenthesis}
use Rattle.class_model.specs.Names.{init}
use Rattle.class_model.specs.declared.class_file.ClassFile.{ClassFile}
use Rattle.class_model.specs.declared.header.Header.{Header}
use Rattle.class_model.specs.declared.header.Member.{Member}
use Rattle.class_model.specs.declared.memory.NoMemory.{NoMemory}
use Rattle.class_model.specs.declared.pool.Const.{Const}
use Rattle.class_tree.specs.Headers.{Name, Classes, Headers, headers_of, class_named}
use Rattle.class_tree.specs.Hierarchy.{IsHierarchy}
use Rattle.class_tree.specs.Layouts.{instance_fields}
use Rattle.class_tree.specs.Names.{is_member}
use Rattle.class_tree.specs.declared.place.Place.TheVariants.{Folder}
use Rattle.field_constructors.specs.Inner.ConstructorWords.{HasFree, IsFreeConstructor, descriptor_of, handled_in, handled_of, handled_of_pool, is_taken}
use Rattle.field_constructors.specs.Constructors.{IsConstructor, IsConstructorAt, field_descs}
use Rattle.member_link.specs.DeclaredMembers.{declared, declared_by, own_method}
use Rattle.member_link.specs.References.{Reference}

-- ---- tests

or_false : (a b : Bool) → (a || b) ≡ false → (a ≡ false) × (b ≡ false)
or_false false b e = (refl, e)
or_false true b e = absurd (false≢true (sym e))

both_false : (a b : Bool) → a ≡ false → b ≡ false → (a || b) ≡ false
both_false a b is also = ap (λ (x : Bool). x || b) is ∙ also

not_true : (b : Bool) → ¬ IsTrue b → b ≡ false
not_true true is = absurd (is refl)
not_true false is = refl

-- ---- descriptors

texts_are : (fields : List Member) → flat_map (λ (field : Member). field.desc) fields ≡ flat_map (λ (field : List ℕ). field) (map (λ (field : Member). field.desc) fields)
texts_are [] = refl
texts_are (field ∷ fields) = ap (λ (rest : List ℕ). field.desc ++ rest) (texts_are fields)

pub descriptor_is : (headers : Headers) (class : Name) (dimensions : ℕ) → constructor_descriptor headers class dimensions ≡ descriptor_of (field_descs headers class) dimensions
descriptor_is headers class dimensions = ap (λ (text : List ℕ). left_parenthesis ∷ text ++ replicate dimensions left_bracket ++ codes "Z)V") (texts_are (instance_fields headers class))

-- ---- methods

none_declared : (name desc : List ℕ) (members : List Member) → (declared name desc members ≡ None) ↔ IsFalse (list_any (is_member name desc) members)
none_declared name desc [] = (λ _. refl, λ _. refl)
none_declared name desc (member ∷ members) = by (is_member name desc member) (none_declared name desc members)
  where
    by : (test : Bool) → ((declared name desc members ≡ None) ↔ IsFalse (list_any (is_member name desc) members))
        → (cond test (Some member) (declared name desc members) ≡ None) ↔ IsFalse (test || list_any (is_member name desc) members)
    by true rest = (λ e. absurd (none-some member (sym e)), λ e. absurd (false≢true (sym e)))
    by false rest = rest

undeclared_is : (headers : Headers) (class : Name) (header : Header) (desc : List ℕ) → class_named headers class ≡ Some header
    → (own_method headers class init desc ≡ None) ↔ IsFalse (list_any (is_member init desc) header.methods)
undeclared_is headers class header desc is =
    let own : own_method headers class init desc ≡ option_map (declared_by class) (declared init desc header.methods) =
    ap (option_and_then (λ (h : Header). option_map (declared_by class) (declared init desc h.methods))) is in
    let none = none_declared init desc header.methods in
    (λ e. none.0 (of_map (declared init desc header.methods) (sym own ∙ e)), λ e. own ∙ ap (option_map (declared_by class)) (none.1 e))
  where
    of_map : (found : Option Member) → option_map (declared_by class) found ≡ None → found ≡ None
    of_map None e = refl
    of_map (Some member) e = absurd (none-some (declared_by class member) (sym e))

-- ---- method handles

constructor_of : Name → List ℕ → Reference
constructor_of class desc = record { class = class; name = init; desc = desc }

one_handled : (class : Name) (desc : List ℕ) (found : Option Reference) → (found ≢ Some (record { class = class; name = init; desc = desc })) ↔ IsFalse (list_any (bytes_eq desc) (handled_in class found))
one_handled class desc None = (λ _. refl, λ _ e. none-some _ e)
one_handled class desc (Some reference) = by (bytes_eq class reference.class) (bytes_eq init reference.name) refl refl
  where
    by : (own named : Bool) → bytes_eq class reference.class ≡ own → bytes_eq init reference.name ≡ named
        → (Some reference ≢ Some (record { class = class; name = init; desc = desc })) ↔ IsFalse (list_any (bytes_eq desc) (cond (own && named) (reference.desc ∷ []) []))
    by false named other is = (
      λ _. refl,
      λ _ e. false≢true (sym other ∙ (bytes_eq-Decides class reference.class).1 (ap (λ (r : Reference). r.class) (sym (same_Some reference _ e)))),
    )
    by true false is other = (
      λ _. refl,
      λ _ e. false≢true (sym other ∙ (bytes_eq-Decides init reference.name).1 (ap (λ (r : Reference). r.name) (sym (same_Some reference _ e)))),
    )
    by true true own named =
        let class_is : class ≡ reference.class = (bytes_eq-Decides class reference.class).0 own in
        let name_is : init ≡ reference.name = (bytes_eq-Decides init reference.name).0 named in (
          λ differ. both_false (bytes_eq desc reference.desc) false (not_true (bytes_eq desc reference.desc) (λ same. differ (ap Some
              (λ i. record { class = sym class_is i; name = sym name_is i; desc = sym ((bytes_eq-Decides desc reference.desc).0 same) i })))) refl,
          λ none e. false≢true (sym (or_false (bytes_eq desc reference.desc) false none).0 ∙ (bytes_eq-Decides desc reference.desc).1 (ap (λ (r : Reference). r.desc) (sym (same_Some reference _ e)))),
        )

any_flat : {X : Type 0} (g : X → List (List ℕ)) (desc : List ℕ) (P : X → Type 0) → ((x : X) → P x ↔ IsFalse (list_any (bytes_eq desc) (g x)))
    → (xs : List X) → AllByRecursion P xs ↔ IsFalse (list_any (bytes_eq desc) (flat_map g xs))
any_flat g desc P same [] = (λ _. refl, λ _. tt)
any_flat g desc P same (x ∷ xs) =
    let first = same x in
    let rest = any_flat g desc P same xs in
    let whole = list_any-append (bytes_eq desc) (g x) (flat_map g xs) in (
      λ all. whole ∙ both_false (list_any (bytes_eq desc) (g x)) (list_any (bytes_eq desc) (flat_map g xs)) (first.0 all.0) (rest.0 all.1),
      λ none. let parts = or_false (list_any (bytes_eq desc) (g x)) (list_any (bytes_eq desc) (flat_map g xs)) (sym whole ∙ none) in (first.1 parts.0, rest.1 parts.1),
    )

unhandled_is : (class : Name) (desc : List ℕ) (files : List ClassFile)
    → AllByRecursion (HandlesNone (record { class = class; name = init; desc = desc })) files ↔ IsFalse (list_any (bytes_eq desc) (handled_of class files))
unhandled_is class desc files =
    any_flat (λ (file : ClassFile). handled_of_pool class file.pool file.pool) desc (HandlesNone (record { class = class; name = init; desc = desc }))
    (λ file. any_flat (λ (constant : Option Const). handled_in class (handled file.pool constant)) desc (λ (constant : Option Const). handled file.pool constant ≢ Some (record { class = class; name = init; desc = desc }))
    (λ constant. one_handled class desc (handled file.pool constant)) file.pool) files

-- ---- the constructor

module _ (classes : Classes) (class : Name) (header : Header) (is : class_named (headers_of classes) class ≡ Some header) where
  taken : ℕ → Bool
  taken dimensions = is_taken header (handled_of class classes.folder) (descriptor_of (field_descs (headers_of classes) class) dimensions)

  free_is : (dimensions : ℕ) → IsFree classes class dimensions ↔ IsFalse (is_taken header (handled_of class classes.folder) (descriptor_of (field_descs (headers_of classes) class) dimensions))
  free_is dimensions =
      let desc = constructor_descriptor (headers_of classes) class dimensions in
      let same = descriptor_is (headers_of classes) class dimensions in
      let declares = undeclared_is (headers_of classes) class header desc is in
      let handles = unhandled_is class desc classes.folder in
      let to : is_taken header (handled_of class classes.folder) desc ≡ is_taken header (handled_of class classes.folder) (descriptor_of (field_descs (headers_of classes) class) dimensions) = ap (is_taken header (handled_of class classes.folder)) same in (
        λ free. sym to ∙ both_false (list_any (is_member init desc) header.methods) (list_any (bytes_eq desc) (handled_of class classes.folder)) (declares.0 free.undeclared) (handles.0 free.unhandled),
        λ none. let parts = or_false (list_any (is_member init desc) header.methods) (list_any (bytes_eq desc) (handled_of class classes.folder)) (to ∙ none) in
            record { undeclared = declares.1 parts.0; unhandled = handles.1 parts.1 },
      )

  pub constructor_is : HasFieldConstructor classes class ↔ HasFree header (field_descs (headers_of classes) class) (handled_of class classes.folder)
  constructor_is = (
    λ c. record {
      dimensions = c.dimensions;
      some = c.has.some;
      few = c.has.few;
      free = (free_is c.dimensions).0 c.has.free;
      fewest = λ fewer some less. elim (cases_Bool (is_taken header (handled_of class classes.folder) (descriptor_of (field_descs (headers_of classes) class) fewer))) [
        | inl yes_taken ↦ yes_taken
        | inr untaken ↦ absurd (c.has.fewest fewer some less ((free_is fewer).1 untaken))
      ];
      fits = subst (λ (text : List ℕ). length text ≤ 65535) (descriptor_is (headers_of classes) class c.dimensions) c.fits;
    },
    λ f. record {
      dimensions = f.dimensions;
      has = record {
        some = f.some;
        few = f.few;
        free = (free_is f.dimensions).1 f.free;
        fewest = λ fewer some less free. false≢true (sym ((free_is fewer).0 free) ∙ f.fewest fewer some less);
      };
      fits = subst (λ (text : List ℕ). length text ≤ 65535) (sym (descriptor_is (headers_of classes) class f.dimensions)) f.fits;
    },
  )

  pub constructor_found : (found : Option (List ℕ)) → IsFreeConstructor header (field_descs (headers_of classes) class) (handled_of class classes.folder) found → IsConstructor classes class found
  unfolding constructor_is
  constructor_found None never = λ may. never (constructor_is.0 may)
  constructor_found (Some desc) free = (constructor_is.1 free.0, free.1 ∙ sym (descriptor_is (headers_of classes) class free.0.dimensions))

-- ---- of the class of a number

pub constructor_at : (classes : Classes) → IsHierarchy (headers_of classes) → (number : ℕ) (header : Header) → slice_get (headers_of classes).folder number ≡ Some header
    → (fields handles : List (List ℕ)) → fields ≡ field_descs (headers_of classes) header.name → handles ≡ handled_of header.name classes.folder
    → (result : Result (Option (List ℕ)) NoMemory) → IfOk result (IsFreeConstructor header fields handles) → IfOk result (IsConstructorAt classes number)
constructor_at classes hierarchy number header at fields handles are handled (Err fault) free = tt
constructor_at classes hierarchy number header at fields handles are handled (Ok found) free = λ other there.
    subst (λ (h : Header). IsConstructor classes h.name found) (same_Some header other (sym at ∙ there))
    (constructor_found classes header.name header (hierarchy.of_place (Folder number) header at).found found
    (subst (λ (l : List (List ℕ)). IsFreeConstructor header l (handled_of header.name classes.folder) found) are
    (subst (λ (l : List (List ℕ)). IsFreeConstructor header fields l found) handled free)))
