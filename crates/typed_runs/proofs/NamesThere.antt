use Rattle.std.specs.Prelude.{◌≡◌, ◌⊎◌, ◌==◌, ◌+◌, refl, ℕ, zero, suc, Bool, true, false, List, [], ◌∷◌, ◌++◌, map, length, take, drop, slice_get, bytes_eq, Option, Some, None, IfSome, IsSome, if◌then◌else◌}
use Rattle.std.proofs.Common.{arith, inl, inr, ap, sym, ◌∙◌, subst}
use Rattle.std.proofs.lemmas.Slice.Eq.{bytes_eq-Decides}
use Rattle.class_model.specs.Characters.{left_bracket}
use Rattle.class_model.specs.Descriptors.{brackets}
use Rattle.class_model.specs.declared.header.Header.{Header}
use Rattle.class_tree.specs.Headers.{Name, named, class_named, IsThere}
use Rattle.class_tree.specs.Laws.Above.{hierarchy_is_sound, there_is_no_array}
use Rattle.class_tree.specs.Subtype.{IsArray}
use Rattle.member_link.specs.DeclaredMembers.{Declared, IsMethod}
use Rattle.member_link.specs.Machine.Programs.{Program, RunClass, headers_in, name_of_class, is_interface_named}
use Rattle.member_link.specs.Machine.Shapes.{class_in, component_named}
use Rattle.member_link.specs.References.{IsNamedThere, NamesElementClass, element_class}
use Rattle.typed_runs.proofs.Basics.{some_of, same_number}
use Rattle.typed_runs.specs.Conforming.{NamesNoArray}
use Rattle.typed_runs.specs.TypedPrograms.{Typings, IsTypedProgram}

-- ---- classes that are there

pub named_there : (cs : List RunClass) (library : List Header) (n : ℕ) (found : RunClass) → slice_get cs n ≡ Some found
    → IsSome (named found.header.name (map (λ (class : RunClass). class.header) cs ++ library))
named_there [] library n found is = cc
named_there (c ∷ cs) library zero found is =
    let same : c ≡ found = some_of is in
    subst (λ (x : RunClass). IsSome (named x.header.name (map (λ (class : RunClass). class.header) (c ∷ cs) ++ library))) same
    (rw ((bytes_eq-Decides c.header.name c.header.name).1 refl) refl)
named_there (c ∷ cs) library (suc n) found is = by (bytes_eq found.header.name c.header.name) (named_there cs library n found is) where
  by : (b : Bool) → IsSome (named found.header.name (map (λ (class : RunClass). class.header) cs ++ library))
      → IsSome (if b then Some c.header else named found.header.name (map (λ (class : RunClass). class.header) cs ++ library))
  by true others = refl
  by false others = others

pub class_named_there : (P : Program) (class : ℕ) (found : RunClass) → slice_get P.classes class ≡ Some found
    → IsThere (headers_in P) (name_of_class P class)
class_named_there P class found is = rw is (named_there P.classes P.library class found is)

pub interface_there : (P : Program) (name : Name) → is_interface_named P name ≡ true → IsThere (headers_in P) name
interface_there P name is = by (class_named (headers_in P) name) refl where
  by : (o : Option Header) → class_named (headers_in P) name ≡ o → IsThere (headers_in P) name
  by (Some header) e = rw e refl
  by None e = let no : false ≡ true = rw e at is in cc

pub no_array_there : (P : Program) (T : Typings) → IsTypedProgram P T → (name : Name) → IsThere (headers_in P) name → ¬ IsArray name
no_array_there P T program name there = there_is_no_array (headers_in P)
    (hierarchy_is_sound (headers_in P) program.hierarchy) program.hierarchy.no_array name there

pub declared_there : (P : Program) (m : Declared) → IsMethod (headers_in P) m → IsThere (headers_in P) m.class
declared_there P m declares = rw declares.found refl

-- ---- components of arrays

-- of an array whose component is no array, the class between L and ; is there
pub element_is : (first : ℕ) (rest : List ℕ) → (first == left_bracket) ≡ false
    → element_class (left_bracket ∷ first ∷ rest) ≡ class_in (first ∷ rest)
element_is first rest other = rw other refl

pub not_zero : (k : ℕ) → ((1 + k) == 0) ≡ false
not_zero k = by ((1 + k) == 0) refl where
  by : (b : Bool) → ((1 + k) == 0) ≡ b → ((1 + k) == 0) ≡ false
  by true e = let zero_is : 1 + k ≡ 0 = same_number (1 + k) 0 e in absurd (omega (arith, zero_is))
  by false e = e

pub class_behind : (k : ℕ) (rest : List ℕ) → (if (1 + k) == 0 then Some (left_bracket ∷ rest) else class_in
    (drop (1 + k) (left_bracket ∷ rest))) ≡ class_in (drop k rest)
class_behind k rest = let e : 1 + k ≡ suc k = omega arith in rw (not_zero k) (ap (λ n. class_in (drop n (left_bracket ∷ rest))) e)

pub brackets_behind : (k : ℕ) (rest : List ℕ) → class_in (drop (1 + k) (left_bracket ∷ rest)) ≡ class_in (drop k rest)
brackets_behind k rest = let e : 1 + k ≡ suc k = omega arith in ap (λ n. class_in (drop n (left_bracket ∷ rest))) e

pub taken_behind : (p : ℕ) (rest : List ℕ) → length (take (1 + p) (left_bracket ∷ rest)) ≡ 1 + length (take p rest)
taken_behind p rest =
    let e : 1 + p ≡ suc p = omega arith in
    let many : suc (length (take p rest)) ≡ 1 + length (take p rest) = omega arith in
    ap (λ n. length (take n (left_bracket ∷ rest))) e ∙ many

pub one_bracket : (rest : List ℕ) → brackets (left_bracket ∷ rest) ≡ 1 + brackets rest
one_bracket rest = taken_behind _ rest

-- an array of arrays has the element of its component
pub element_of : (rest : List ℕ) → element_class (left_bracket ∷ rest) ≡ class_in (drop (brackets rest) rest)
element_of rest = ap (λ n. if n == 0 then Some (left_bracket ∷ rest) else class_in (drop n (left_bracket ∷ rest))) (one_bracket rest)
    ∙ class_behind (brackets rest) rest

pub same_element : (rest : List ℕ) → element_class (left_bracket ∷ left_bracket ∷ rest) ≡ element_class (left_bracket ∷ rest)
same_element rest =
    element_of (left_bracket ∷ rest) ∙ (ap (λ n. class_in (drop n (left_bracket ∷ rest))) (one_bracket rest) ∙ brackets_behind
    (brackets rest) rest) ∙ sym (element_of rest)

-- what is said of the class of an element is said of it for the component too
pub component_named_in : (Asked : Name → Type 0) (rest : List ℕ) → NamesElementClass Asked (left_bracket ∷ left_bracket ∷ rest)
    → NamesElementClass Asked (left_bracket ∷ rest)
component_named_in Asked rest is = subst (λ o. IfSome o Asked) (same_element rest) is

-- what an array holds: an array, or a class of which this is said
pub holds_named : (Asked : Name → Type 0) (text : List ℕ) (component : Name) → component_named text ≡ Some component
    → NamesElementClass Asked (left_bracket ∷ text) → (IsArray component × (text ≡ component)) ⊎ Asked component
holds_named Asked [] component is there = cc
holds_named Asked (first ∷ rest) component is there = by (first == left_bracket) refl is where
  by : (b : Bool) → (first == left_bracket) ≡ b → (if b then Some (first ∷ rest) else class_in (first ∷ rest)) ≡ Some component
      → (IsArray component × (first ∷ rest ≡ component)) ⊎ Asked component
  by true e is =
      let same : first ∷ rest ≡ component = some_of is in
      let bracket : first ≡ left_bracket = same_number first left_bracket e in
      inl ((rest, sym same ∙ ap (λ n. n ∷ rest) bracket), same)
  by false e is = inr (subst (λ o. IfSome o Asked) (element_is first rest e ∙ is) there)

-- a class that is there is no array
pub names_no_array : (P : Program) (T : Typings) → IsTypedProgram P T → (name : Name) → IsNamedThere (headers_in P) name
    → NamesNoArray name
names_no_array P T program name there = by (element_class name) there where
  by : (o : Option Name) → IfSome o (IsThere (headers_in P)) → IfSome o (λ class. ¬ IsArray class)
  by None there = tt
  by (Some class) there = no_array_there P T program class there
