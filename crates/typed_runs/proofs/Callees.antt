use Rattle.std.specs.Prelude.{◌≡◌, ◌⊎◌, ◌&&◌, ◌||◌, ◌+◌, refl, ℕ, zero, suc, Bool, true, false, List, [], ◌∷◌, ◌++◌, map, slice_get, bytes_eq, codes, Option, Some, None, option_map, if◌then◌else◌}
use Rattle.std.proofs.Common.{arith, inl, inr, ap, sym, ◌∙◌, subst}
use Rattle.std.proofs.lemmas.Slice.Eq.{bytes_eq-Decides}
use Rattle.class_model.specs.declared.class_file.MethodAt.{MethodAt}
use Rattle.class_model.specs.declared.header.Header.{Header}
use Rattle.class_model.specs.declared.header.Member.{Member}
use Rattle.class_tree.specs.Headers.{Name, named}
use Rattle.class_tree.specs.Laws.Headers.{same_class, own_name}
use Rattle.class_tree.specs.Names.{method_handle}
use Rattle.class_tree.specs.Order.{first_place, place_of}
use Rattle.class_tree.specs.declared.place.Place.TheVariants as places
use Rattle.member_link.specs.DeclaredMembers.{Declared, IsMethod, declared}
use Rattle.member_link.specs.Machine.CallSteps.{is_polymorphic}
use Rattle.member_link.specs.Machine.Links.{reference_to}
use Rattle.member_link.specs.Machine.Programs.{Program, RunClass, RunMethod, headers_in, number_of_first, folder_number, name_of_class, member_of, first_member, method_of, place_of_method, run_method}
use Rattle.member_link.specs.Methods.{IsPolymorphic}
use Rattle.member_link.specs.References.{Reference}
use Rattle.typed_runs.proofs.Basics.{some_of}
use Rattle.typed_runs.proofs.BeginningSteps.{method_found}
use Rattle.typed_runs.specs.TypedPrograms.{Typings, IsTypedProgram}

-- ---- the first of a list

-- what a search finds is the item at the number of the first that passes
pub first_is : {A B : Type 0} (test : A → Bool) (view : A → B) (find : List A → Option B)
    → ((x : A) (xs : List A) → find (x ∷ xs) ≡ (if test x then Some (view x) else find xs))
    → (xs : List A) (n : ℕ) (y : A) → number_of_first test xs ≡ Some n → slice_get xs n ≡ Some y → find xs ≡ Some (view y)
first_is test view find step [] n y is there = cc
first_is {A = A} {B = B} test view find step (x ∷ xs) n y is there =
    step x xs ∙ by (test x) refl (λ k e at. first_is test view find step xs k y e at) where
      of_rest : (o : Option ℕ) → number_of_first test xs ≡ o → option_map suc o ≡ Some n
          → ((k : ℕ) → number_of_first test xs ≡ Some k → slice_get xs k ≡ Some y → find xs ≡ Some (view y)) → find xs ≡ Some (view y)
      of_rest None e same next = cc
      of_rest (Some k) e same next =
          let number : suc k ≡ n = some_of same in
          next k e (subst (λ j. slice_get (x ∷ xs) j ≡ Some y) (sym number) there)

      by : (b : Bool) → test x ≡ b → ((k : ℕ) → number_of_first test xs ≡ Some k → slice_get xs k ≡ Some y → find xs ≡ Some (view y))
          → (if b then Some (view x) else find xs) ≡ Some (view y)
      by true e next =
          let number : zero ≡ n = some_of (rw e at is) in
          let same : Some x ≡ Some y = subst (λ j. slice_get (x ∷ xs) j ≡ Some y) (sym number) there in
          ap (option_map view) same
      by false e next = of_rest (number_of_first test xs) refl (rw e at is) next

pub first_member_is : (r : Reference) (ms : List Member) → first_member r ms ≡ declared r.name r.desc ms
first_member_is r [] = refl
first_member_is r (m ∷ ms) = ap (λ o. if member_of r m then Some m else o) (first_member_is r ms)

-- ---- a declared method

-- a method that a class declares is that of the reference to it
pub method_is : (P : Program) (m : Declared) → IsMethod (headers_in P) m → method_of P (reference_to m) ≡ Some m.member
method_is P m declares = rw declares.found (first_member_is (reference_to m) declares.header.methods ∙ declares.declares)

-- the method of the folder at the place of a declared one
pub record Callee (P : Program) (m : Declared) (at : MethodAt) : Type 0 where
  pub method : RunMethod
  pub run : run_method P at ≡ Some method
  pub member : method.member ≡ m.member
  pub class : name_of_class P at.class ≡ m.class

pub callee_of : (P : Program) (T : Typings) → IsTypedProgram P T → (m : Declared) → IsMethod (headers_in P) m → (at : MethodAt)
    → place_of_method P (reference_to m) ≡ Some at → Callee P m at
callee_of P T program m declares at is =
    let f = method_found P (reference_to m) at is in
    let header : named m.class (map (λ (class : RunClass). class.header) P.classes ++ P.library) ≡ Some f.class.header =
    first_is (λ (class : RunClass). bytes_eq m.class class.header.name) (λ (class : RunClass). class.header)
    (λ classes. named m.class (map (λ (class : RunClass). class.header) classes ++ P.library)) (λ x xs. refl)
    P.classes at.class f.class f.class_number f.is_class in
    let same : f.class.header ≡ declares.header = same_class
    (headers_in P) m.class f.class.header declares.header header declares.found in
    let own : declared m.member.name m.member.desc (map (λ (method : RunMethod). method.member) f.class.methods) ≡ Some f.method.member =
    first_is (λ (method : RunMethod). member_of (reference_to m) method.member) (λ (method : RunMethod). method.member)
    (λ methods. declared m.member.name m.member.desc (map (λ (method : RunMethod). method.member) methods)) (λ x xs. refl)
    f.class.methods at.method f.method f.method_number f.is_method in
    let methods : map (λ (method : RunMethod). method.member) f.class.methods ≡ declares.header.methods =
    (program.classes at.class f.class f.is_class).methods ∙ ap (λ (h : Header). h.methods) same in
    record {
      method = f.method;
      run = f.run;
      member = some_of (sym own ∙ ap (declared m.member.name m.member.desc) methods ∙ declares.declares);
      class = rw f.is_class (own_name (headers_in P) m.class f.class.header header);
    }

-- ---- methods that are found under every descriptor

pub suc_is : (o : Option ℕ) → option_map (λ place. place + 1) o ≡ option_map suc o
suc_is None = refl
suc_is (Some n) = let e : n + 1 ≡ suc n = omega arith in ap Some e

pub first_place_is : (name : Name) (cs : List RunClass)
    → first_place (λ (header : Header). bytes_eq name header.name) (map (λ (class : RunClass). class.header) cs) ≡ number_of_first
    (λ (class : RunClass). bytes_eq name class.header.name) cs
first_place_is name [] = refl
first_place_is name (c ∷ cs) =
    ap (λ o. if bytes_eq name c.header.name then Some 0 else o)
    (ap (option_map (λ place. place + 1)) (first_place_is name cs) ∙ suc_is
    (number_of_first (λ (class : RunClass). bytes_eq name class.header.name) cs))

-- a class of the library has no number in the folder
pub not_in_folder : (P : Program) (name : Name) (place : ℕ) → place_of (headers_in P) name ≡ Some (places.Library place)
    → folder_number P name ≡ None
not_in_folder P name place is = by (folder_number P name) refl where
  by : (n : Option ℕ) → folder_number P name ≡ n → folder_number P name ≡ None
  by None e = e
  by (Some n) e =
      let first : first_place (λ (header : Header). bytes_eq name header.name)
      (map (λ (class : RunClass). class.header) P.classes) ≡ Some n = first_place_is name P.classes ∙ e in
      let other : Some (places.Folder n) ≡ Some (places.Library place) = rw first at is in
      cc

pub polymorphic_is : (P : Program) (r : Reference) → IsPolymorphic (headers_in P) r.class r.name → is_polymorphic P r ≡ true
polymorphic_is P r is =
    let class : bytes_eq r.class method_handle ≡ true = (bytes_eq-Decides r.class method_handle).1 is.0 in
    let outside : folder_number P r.class ≡ None = not_in_folder P r.class is.2.0 is.2.1 in
    rw class (rw outside (by is.1)) where
      by : (r.name ≡ codes "invoke") ⊎ (r.name ≡ codes "invokeExact")
          → ((bytes_eq r.name (codes "invoke") || bytes_eq r.name (codes "invokeExact")) && true) ≡ true
      by (inl e) = rw ((bytes_eq-Decides r.name (codes "invoke")).1 e) refl
      by (inr e) = rw ((bytes_eq-Decides r.name (codes "invokeExact")).1 e) (either (bytes_eq r.name (codes "invoke"))) where
        either : (b : Bool) → ((b || true) && true) ≡ true
        either true = refl
        either false = refl
