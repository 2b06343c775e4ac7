-- Stores into the final fields of a class, by the constants of class files.
use Rattle.std.proofs.Common.{◌≡◌, ◌≢◌, ◌↔◌, ◌<◌, ◌&&◌, not, ℕ, zero, suc, Bool, true, false, List, [], ◌∷◌, length, map, slice_get, Option, Some, None, Result, Ok, Err, IsTrue, option_map, option_and_then, refl, sym, ap, subst, ◌∙◌, inl, inr}
use Rattle.std.specs.List.{list_any}
use Rattle.std.proofs.lemmas.Bool.{cases_Bool, eq-eqb, eqb-true, false≢true, or_cases, or_left, or_right}
use Rattle.std.proofs.lemmas.Option.{none-some, same_Some, slice_get-map, slice_get_within}
use Rattle.class_model.specs.Checks.{Fault}
use Rattle.class_model.specs.Header.{header_of}
use Rattle.class_model.specs.Instructions.{decoded}
use Rattle.class_model.specs.Members.{is_text}
use Rattle.class_model.specs.MethodCode.{code_of}
use Rattle.class_model.specs.Names.{init}
use Rattle.class_model.specs.Pool.{Constants, constant_at}
use Rattle.class_model.specs.PoolChecks.{utf8_at}
use Rattle.class_model.specs.declared.class_file.ClassFile.{ClassFile}
use Rattle.class_model.specs.declared.class_file.CodePart.{CodePart}
use Rattle.class_model.specs.declared.class_file.Method.{Method}
use Rattle.class_model.specs.declared.class_file.MethodAt.{MethodAt}
use Rattle.class_model.specs.declared.header.Header.{Header}
use Rattle.class_model.specs.declared.instr.Instr.{Instr}
use Rattle.class_model.specs.declared.instr.Instr.TheVariants.{PutField}
use Rattle.class_model.specs.declared.instr.Placed.{Placed}
use Rattle.class_model.specs.declared.pool.Const.{Const}
use Rattle.class_tree.specs.Headers.{Name, Classes, Headers, headers_of}
use Rattle.class_tree.specs.Hierarchy.{IsHierarchy}
use Rattle.class_tree.specs.Order.{place_of}
use Rattle.class_tree.specs.declared.place.Place.TheVariants.{Folder}
use Rattle.member_link.specs.Fields.{FindsField}
use Rattle.member_link.specs.References.{Reference}
use Rattle.member_link.specs.Laws.Scopes.{scope_is_at}
use Rattle.member_link.specs.Scope.{Scope, instructions, is_init, scope_at, scope_of}
use Rattle.member_link.specs.Signatures.{reference_of}
use Rattle.inline_expand.proofs.MethodInstrs.{no_instrs}
use Rattle.inline_expand.specs.Inner.StoreWords.{FindsFinal, IsStored, StoredBefore, is_store, is_stored_by, is_wanted, method_instrs, stores_into}

-- ---- tests

both_true : (a b : Bool) → IsTrue (a && b) → IsTrue a × IsTrue b
both_true true b is = (refl, is)
both_true false b is = absurd (false≢true is)

and_both : (a b : Bool) → IsTrue a → IsTrue b → IsTrue (a && b)
and_both a b is also = ap (λ (x : Bool). x && b) is ∙ also

-- ---- an item that passes a test

pub record OnePasses {X : Type 0} (test : X → Bool) (xs : List X) : Type 0 where
  pub at : ℕ
  pub item : X
  pub there : slice_get xs at ≡ Some item
  pub passes : IsTrue (test item)

pub one_passes : {X : Type 0} (test : X → Bool) (xs : List X) → IsTrue (list_any test xs) → OnePasses test xs
one_passes test [] is = absurd (false≢true is)
one_passes test (x ∷ xs) is = elim (or_cases (test x) (list_any test xs) is) [
  | inl here ↦ record { at = 0; item = x; there = refl; passes = here }
  | inr later ↦ let p = one_passes test xs later in record { at = suc p.at; item = p.item; there = p.there; passes = p.passes }
]

pub any_passes : {X : Type 0} (test : X → Bool) (xs : List X) (i : ℕ) (x : X) → slice_get xs i ≡ Some x → IsTrue (test x) → IsTrue (list_any test xs)
any_passes test [] i x there passes = absurd (none-some x there)
any_passes test (first ∷ xs) zero x there passes = or_left (test first) (list_any test xs) (ap test (same_Some first x there) ∙ passes)
any_passes test (first ∷ xs) (suc i) x there passes = or_right (test first) (list_any test xs) (any_passes test xs i x there passes)

-- ---- instructions

-- an instruction that stores into the field of a constant
store_is : (index : ℕ) (placed : Placed) → IsTrue (is_store index placed) → placed.instr ≡ PutField index
store_is index placed is = by placed.instr refl is
  where
    by : (instr : Instr) → placed.instr ≡ instr → IsTrue (is_store index (record placed { instr = instr })) → placed.instr ≡ PutField index
    by (PutField at) same is = same ∙ ap PutField (eqb-true at index is)
    by other same is = absurd (false≢true is)

is_a_store : (index : ℕ) (placed : Placed) → placed.instr ≡ PutField index → IsTrue (is_store index placed)
is_a_store index placed is = ap (λ (instr : Instr). is_store index (record placed { instr = instr })) is ∙ eq-eqb index index refl

-- ---- methods with code

same_instrs : (scope : Scope) → code_of scope.method.attrs ≡ Some scope.part → method_instrs scope.method ≡ instructions scope
same_instrs scope is = by (decoded scope.part.code) refl
  where
    by : (made : Result (List Placed) Fault) → decoded scope.part.code ≡ made → method_instrs scope.method ≡ instructions scope
    by (Ok instrs) made = rw (is, made) refl
    by (Err fault) made = rw (is, made) refl

-- the constant that refers to something is in the pool
index_within : (pool : Constants) (index : ℕ) (reference : Reference) → reference_of pool (constant_at pool index) ≡ Some reference → index < length pool
index_within pool index reference names = by (slice_get pool index) refl
  where
    by : (entry : Option (Option Const)) → slice_get pool index ≡ entry → index < length pool
    by None is = absurd (none-some reference (let none : constant_at pool index ≡ None = rw is refl in ap (reference_of pool) (sym none) ∙ names))
    by (Some entry) is = slice_get_within pool index entry is

-- ---- stores

wanted_of : (class : ClassFile) (method : Method) (of_init : Bool) → is_text init (utf8_at class.pool method.name) ≡ of_init → IsTrue (is_wanted class of_init method)
wanted_of class method true is = is
wanted_of class method false is = ap not is

wanted_is : (class : ClassFile) (method : Method) (of_init : Bool) → IsTrue (is_wanted class of_init method) → is_text init (utf8_at class.pool method.name) ≡ of_init
wanted_is class method true is = is
wanted_is class method false is = by (is_text init (utf8_at class.pool method.name)) is
  where
    by : (test : Bool) → IsTrue (not test) → test ≡ false
    by true is = absurd (false≢true is)
    by false is = refl

module _ (classes : Classes) (hierarchy : IsHierarchy (headers_of classes)) (name : Name) (number : ℕ) (placed : place_of (headers_of classes) name ≡ Some (Folder number)) where
  -- the class file of a number has the name where it is that number
  name_at : (from : ℕ) (file : ClassFile) → slice_get classes.folder from ≡ Some file → ((header_of file).name ≡ name) ↔ (from ≡ number)
  name_at from file there =
      let at : slice_get (map header_of classes.folder) from ≡ Some (header_of file) = slice_get-map header_of classes.folder from ∙ ap (option_map header_of) there in
      let stands = hierarchy.of_place (Folder from) (header_of file) at in
      let own = hierarchy.placed name (Folder number) placed in (
        λ same.
            let e : Folder from ≡ Folder number = same_Some (Folder from) (Folder number) (sym stands.is_place ∙ ap (place_of (headers_of classes)) same ∙ placed) in cc,
        λ same.
            let is : header_of file ≡ own.0 = same_Some (header_of file) own.0 (sym at ∙ ap (slice_get (map header_of classes.folder)) same ∙ own.1.at) in
            ap (λ (h : Header). h.name) is ∙ own.1.own_name,
      )

  pub stored_before : IsStored classes name → StoredBefore (headers_of classes) classes.folder (length classes.folder) number
  stored_before stored =
      let parts = scope_is_at classes stored.at stored.scope stored.is_scope in
      let class = stored.scope.class in
      let index = stored.stores.index in
      let finds : FindsFinal (headers_of classes) class.pool index number = record {
        reference = stored.stores.reference;
        names = stored.stores.names;
        field = stored.field;
        finds = subst (λ (h : Headers). FindsField h stored.stores.reference.class stored.stores.reference.name stored.stores.reference.desc (Some stored.field)) parts.headers stored.stores.finds;
        is_final = stored.is_final;
        stands = ap (place_of (headers_of classes)) stored.own ∙ placed;
      } in
      let instr = any_passes (is_store index) (method_instrs stored.scope.method) stored.number stored.placed
      (ap (λ (l : List Placed). slice_get l stored.number) (same_instrs stored.scope parts.has_code) ∙ stored.there) (is_a_store index stored.placed stored.stores.stores) in
      let by : (of_init : Bool) → is_init stored.scope ≡ of_init → IsTrue (is_stored_by class of_init index) =
      λ of_init is. any_passes (stores_into class of_init index) class.methods stored.at.method stored.scope.method parts.of_class
      (and_both (is_wanted class of_init stored.scope.method) (list_any (is_store index) (method_instrs stored.scope.method)) (wanted_of class stored.scope.method of_init is) instr) in
      record {
        from = stored.at.class;
        before = slice_get_within classes.folder stored.at.class class parts.of_folder;
        class = class;
        there = parts.of_folder;
        stores = (
          index,
          index_within class.pool index stored.stores.reference stored.stores.names,
          record {
            finds = finds;
            stored = elim (cases_Bool (is_init stored.scope)) [
              | inl is ↦ inr (by true is, λ same. stored.other (record { is_init = is; own = (name_at stored.at.class class parts.of_folder).1 same }))
              | inr other ↦ inl (by false other)
            ];
          },
        );
      }

  -- a store of a method into the field of a constant
  store_in : (from : ℕ) (class : ClassFile) (index : ℕ) (of_init : Bool) → slice_get classes.folder from ≡ Some class → FindsFinal (headers_of classes) class.pool index number
      → IsTrue (is_stored_by class of_init index) → (IsTrue of_init → from ≢ number) → IsStored classes name
  store_in from class index of_init there finds stored apart =
      let m = one_passes (stores_into class of_init index) class.methods stored in
      let wanted = wanted_is class m.item of_init (both_true (is_wanted class of_init m.item) (list_any (is_store index) (method_instrs m.item)) m.passes).0 in
      of_code m wanted (one_passes (is_store index) (method_instrs m.item) (both_true (is_wanted class of_init m.item) (list_any (is_store index) (method_instrs m.item)) m.passes).1) (code_of m.item.attrs) refl
    where
      field_is : finds.field.class ≡ name
      field_is =
          let own = hierarchy.placed finds.field.class (Folder number) finds.stands in
          let also = hierarchy.placed name (Folder number) placed in
          sym own.1.own_name ∙ ap (λ (h : Header). h.name) (same_Some own.0 also.0 (sym own.1.at ∙ also.1.at)) ∙ also.1.own_name

      of_code : (m : OnePasses (stores_into class of_init index) class.methods) → is_text init (utf8_at class.pool m.item.name) ≡ of_init
          → OnePasses (is_store index) (method_instrs m.item) → (part : Option CodePart) → code_of m.item.attrs ≡ part → IsStored classes name
      of_code m wanted p None none = absurd (none-some p.item (ap (λ (l : List Placed). slice_get l p.at) (sym (no_instrs m.item none)) ∙ p.there))
      of_code m wanted p (Some part) some =
          let scope : Scope = record { headers = headers_of classes; class = class; method = m.item; part = part } in
          record {
            at = record { class = from; method = m.at };
            scope = record { headers = headers_of classes; class = class; method = m.item; part = part };
            number = p.at;
            placed = p.item;
            field = finds.field;
            is_scope = rw (there, m.there, some) refl;
            there = ap (λ (l : List Placed). slice_get l p.at) (sym (same_instrs scope some)) ∙ p.there;
            stores = record { index = index; stores = store_is index p.item p.passes; reference = finds.reference; names = finds.names; finds = finds.finds };
            own = field_is;
            is_final = finds.is_final;
            other = λ i. apart (sym wanted ∙ i.is_init) ((name_at from class there).0 i.own);
          }

  pub before_stored : StoredBefore (headers_of classes) classes.folder (length classes.folder) number → IsStored classes name
  before_stored s = elim s.stores.2.stored [
    | inl elsewhere ↦ store_in s.from s.class s.stores.0 false s.there s.stores.2.finds elsewhere (λ is. absurd (false≢true is))
    | inr by ↦ store_in s.from s.class s.stores.0 true s.there s.stores.2.finds by.0 (λ _. by.1)
  ]
