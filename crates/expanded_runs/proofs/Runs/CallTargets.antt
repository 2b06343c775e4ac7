-- Methods with code in the folder's program: where they stand, what they run, and the operations at their instructions.
use Rattle.std.specs.Prelude.{◌≡◌, ◌+◌, ◌==◌, ◌<◌, ◌≤◌, refl, ℕ, zero, suc, Bool, true, false, List, [], ◌∷◌, length, map, bytes_eq, is_some, slice_get, Option, Some, None, Result, Ok, Err, option_map, option_and_then, if◌then◌else◌}
use Rattle.std.specs.List.{AllByRecursion}
use Rattle.std.proofs.Common.{arith, ap, sym, subst, ◌∙◌}
use Rattle.std.proofs.lemmas.Bool.{eq-eqb}
use Rattle.std.proofs.lemmas.Option.{none-some, same_Some, slice_get-map}
use Rattle.class_model.specs.Checks.{Fault}
use Rattle.class_model.specs.Header.{header_of, method_member}
use Rattle.class_model.specs.Instructions.{decoded}
use Rattle.class_model.specs.Laws.Lists.{at_index}
use Rattle.class_model.specs.MethodCode.{code_of}
use Rattle.class_model.specs.Spelling.{class_bytes}
use Rattle.class_model.specs.declared.class_file.ClassFile.{ClassFile}
use Rattle.class_model.specs.declared.class_file.CodePart.{CodePart}
use Rattle.class_model.specs.declared.class_file.Method.{Method}
use Rattle.class_model.specs.declared.class_file.MethodAt.{MethodAt}
use Rattle.class_model.specs.declared.header.Header.{Header}
use Rattle.class_model.specs.declared.instr.Placed.{Placed}
use Rattle.class_tree.specs.Headers.{Name, Classes, Headers, class_named, headers_of, IsClassFile}
use Rattle.class_tree.specs.Hierarchy.{IsHierarchy}
use Rattle.class_tree.specs.Names.{is_member}
use Rattle.class_tree.specs.Order.{first_place, member_place, place_of}
use Rattle.class_tree.specs.declared.place.Place.TheVariants.{Folder, Library}
use Rattle.code_bytes.specs.Consecutive.{AreConsecutive}
use Rattle.expanded_code.specs.Callees.{StandsAt, own_name}
use Rattle.expanded_code.specs.Laws.CodedMethods.{IsConcrete, IsCoded, class_coded}
use Rattle.member_link.specs.Bodies.{item_instr}
use Rattle.member_link.specs.CodedMethods.{placed_at}
use Rattle.member_link.specs.DeclaredMembers.{Declared}
use Rattle.member_link.specs.Machine.Classes.{program_of, run_class_of, run_method_of}
use Rattle.member_link.specs.Machine.Codes.{CodePoint, catches_at, code_points, instr_op, item_op, method_code, number_at}
use Rattle.member_link.specs.Machine.Links.{reference_to}
use Rattle.member_link.specs.Machine.Programs.{Catch, Links, Point, Program, RunClass, RunMethod, code_at, code_run, folder_number, headers_in, member_of, name_of_class, number_of_first, place_of_method, point_at, run_method}
use Rattle.member_link.specs.Scope.{Scope, instructions, row_scope, scope_at, scope_of}

-- ---- the first of a list

one_more : (found : Option ℕ) → option_map (λ place. place + 1) found ≡ option_map suc found
one_more None = refl
one_more (Some n) = let e : n + 1 ≡ suc n = omega arith in ap Some e

-- the place of the first is its number, also where a list is made from another
pub first_numbered : {A B : Type 0} (test : B → Bool) (view : A → B) (items : List A)
    → first_place test (map view items) ≡ number_of_first (λ item. test (view item)) items
first_numbered test view [] = refl
first_numbered test view (item ∷ items) =
    ap (λ found. if test (view item) then Some 0 else found)
    (ap (option_map (λ place. place + 1)) (first_numbered test view items) ∙ one_more (number_of_first (λ other. test (view other)) items))

pub number_mapped : {A B : Type 0} (test : B → Bool) (view : A → B) (items : List A)
    → number_of_first test (map view items) ≡ number_of_first (λ item. test (view item)) items
number_mapped test view [] = refl
number_mapped test view (item ∷ items) =
    ap (λ found. if test (view item) then Some zero else option_map suc found) (number_mapped test view items)

-- ---- headers

map_twice : {A B C : Type 0} (f : B → C) (g : A → B) (items : List A) → map f (map g items) ≡ map (λ item. f (g item)) items
map_twice f g [] = refl
map_twice f g (item ∷ items) = ap (λ rest. f (g item) ∷ rest) (map_twice f g items)

-- the headers of a folder's program are those of the folder
pub headers_are : (classes : Classes) (links : Links) → headers_in (program_of classes links) ≡ headers_of classes
headers_are classes links =
    ap (λ (folder : List Header). let headers : Headers = record { folder = folder; library = classes.library } in headers)
    (map_twice (λ (class : RunClass). class.header) (run_class_of links (headers_of classes)) classes.folder)

-- ---- a method with code

-- a method with code by its numbers: its class file, and its parts
pub record HasScope (classes : Classes) (at : MethodAt) (s : Scope) : Type 0 where
  pub file : ClassFile
  pub is_file : slice_get classes.folder at.class ≡ Some file
  pub method : Method
  pub is_method : slice_get file.methods at.method ≡ Some method
  pub part : CodePart
  pub is_code : code_of method.attrs ≡ Some part
  pub same : s ≡ record { headers = headers_of classes; class = file; method = method; part = part }

pub scope_has : (classes : Classes) (at : MethodAt) (s : Scope) → scope_at classes at ≡ Some s → HasScope classes at s
scope_has classes at s is = of_file (slice_get classes.folder at.class) refl is where
  of_part : (file : ClassFile) (method : Method) → slice_get classes.folder at.class ≡ Some file → slice_get file.methods at.method ≡ Some method
      → (part : Option CodePart) → code_of method.attrs ≡ part
      → option_map
      (λ (part : CodePart). let whole : Scope = record { headers = headers_of classes; class = file; method = method; part = part } in whole) part ≡ Some s
      → HasScope classes at s
  of_part file method in_folder in_file None e is = absurd (none-some s is)
  of_part file method in_folder in_file (Some part) e is = record {
    file = file;
    is_file = in_folder;
    method = method;
    is_method = in_file;
    part = part;
    is_code = e;
    same = sym (same_Some _ s is);
  }

  of_method : (file : ClassFile) → slice_get classes.folder at.class ≡ Some file → (method : Option Method)
      → slice_get file.methods at.method ≡ method
      → option_and_then (scope_of (headers_of classes) file) method ≡ Some s → HasScope classes at s
  of_method file in_folder None e is = absurd (none-some s is)
  of_method file in_folder (Some method) e is = of_part file method in_folder e (code_of method.attrs) refl is

  of_file : (file : Option ClassFile) → slice_get classes.folder at.class ≡ file
      → option_and_then
      (λ (class : ClassFile). option_and_then (scope_of (headers_of classes) class) (slice_get class.methods at.method)) file ≡ Some s
      → HasScope classes at s
  of_file None e is = absurd (none-some s is)
  of_file (Some file) e is = of_method file e (slice_get file.methods at.method) refl is

-- each class file of a folder was read
abbrev pub AreRead : Classes → Type 0
AreRead classes = AllByRecursion IsClassFile classes.folder

-- what a method with code runs
pub record RunsCode (classes : Classes) (links : Links) (at : MethodAt) (s : Scope) : Type 0 where
  pub class : RunClass
  pub is_class : slice_get (program_of classes links).classes at.class ≡ Some class
  pub method : RunMethod
  pub is : run_method (program_of classes links) at ≡ Some method
  pub code : code_run method ≡ Some (method_code links s)
  pub member : method.member ≡ method_member s.class.pool s.method
  pub concrete : IsConcrete s.method.flags

module _ (classes : Classes) (links : Links) (read : AreRead classes) (at : MethodAt) (s : Scope) (is : scope_at classes at ≡ Some s) where
  h : HasScope classes at s
  h = scope_has classes at s is

  class_is : slice_get (program_of classes links).classes at.class ≡ Some (run_class_of links (headers_of classes) h.file)
  class_is = slice_get-map (run_class_of links (headers_of classes)) classes.folder at.class
      ∙ ap (option_map (run_class_of links (headers_of classes))) h.is_file

  method_is : run_method (program_of classes links) at ≡ Some (run_method_of links (headers_of classes) h.file h.method)
  method_is = ap (option_and_then (λ (class : RunClass). slice_get class.methods at.method)) class_is
      ∙ slice_get-map (run_method_of links (headers_of classes) h.file) h.file.methods at.method
      ∙ ap (option_map (run_method_of links (headers_of classes) h.file)) h.is_method

  coded : IsConcrete h.method.flags
  coded =
      let file = at_index IsClassFile classes.folder at.class h.file read h.is_file in
      at_index IsCoded h.file.methods at.method h.method (class_coded (class_bytes h.file) h.file file) h.is_method h.part h.is_code

  pub runs_code : RunsCode classes links at s
  runs_code = subst (RunsCode classes links at) (sym h.same) (record {
    class = run_class_of links (headers_of classes) h.file;
    is_class = class_is;
    method = run_method_of links (headers_of classes) h.file h.method;
    is = method_is;
    code = rw (coded.no_native, h.is_code) refl;
    member = refl;
    concrete = coded;
  })

-- ---- the class of a method

folder_place : (headers : Headers) (name : Name) (n : ℕ) → place_of headers name ≡ Some (Folder n)
    → first_place (λ (header : Header). bytes_eq name header.name) headers.folder ≡ Some n
folder_place headers name n is = by (first_place (λ (header : Header). bytes_eq name header.name) headers.folder) refl where
  in_library : (found : Option ℕ) → option_map Library found ≡ Some (Folder n) → ⊥
  in_library None e = absurd (none-some (Folder n) e)
  in_library (Some k) e = let no : Library k ≡ Folder n = same_Some (Library k) (Folder n) e in absurd cc

  by : (found : Option ℕ) → first_place (λ (header : Header). bytes_eq name header.name) headers.folder ≡ found
      → first_place (λ (header : Header). bytes_eq name header.name) headers.folder ≡ Some n
  by None e = absurd (in_library (first_place (λ (header : Header). bytes_eq name header.name) headers.library) (rw e at is))
  by (Some k) e =
      let same : Some (Folder k) ≡ Some (Folder n) = rw e at is in
      let one : k ≡ n = cc in
      e ∙ ap Some one

-- the number of a class of the folder by its place
pub numbered : (classes : Classes) (links : Links) (name : Name) (n : ℕ) → place_of (headers_of classes) name ≡ Some (Folder n)
    → folder_number (program_of classes links) name ≡ Some n
numbered classes links name n place =
    number_mapped (λ (class : RunClass). bytes_eq name class.header.name) (run_class_of links (headers_of classes)) classes.folder
    ∙ sym (first_numbered (λ (header : Header). bytes_eq name header.name) header_of classes.folder)
    ∙ folder_place (headers_of classes) name n place

-- the class of a method with code is found under its name
pub record HasClass (classes : Classes) (links : Links) (at : MethodAt) (s : Scope) : Type 0 where
  pub found : class_named (headers_of classes) (own_name s) ≡ Some (header_of s.class)
  pub number : folder_number (program_of classes links) (own_name s) ≡ Some at.class
  pub name : name_of_class (program_of classes links) at.class ≡ own_name s

pub class_of_scope : (classes : Classes) (links : Links) → IsHierarchy (headers_of classes) → (at : MethodAt) (s : Scope)
    → scope_at classes at ≡ Some s
    → HasClass classes links at s
class_of_scope classes links hierarchy at s is =
    let h = scope_has classes at s is in
    let header : slice_get (headers_of classes).folder at.class ≡ Some (header_of h.file) =
    slice_get-map header_of classes.folder at.class ∙ ap (option_map header_of) h.is_file in
    let stands = hierarchy.of_place (Folder at.class) (header_of h.file) header in
    let class : slice_get (program_of classes links).classes at.class ≡ Some (run_class_of links (headers_of classes) h.file) =
    slice_get-map (run_class_of links (headers_of classes)) classes.folder at.class
    ∙ ap (option_map (run_class_of links (headers_of classes))) h.is_file in
    subst (HasClass classes links at) (sym h.same) (record {
      found = stands.found;
      number = numbered classes links (header_of h.file).name at.class stands.is_place;
      name = rw class refl;
    })

-- ---- the operation of an instruction

abbrev code_point : Scope → Placed → CodePoint
code_point s placed = record {
  place = placed.at;
  scope = row_scope s;
  item = item_instr placed.instr;
  catches = catches_at s.class.pool s.part.handlers placed.at;
}

abbrev run_point : Links → (ℕ → ℕ) → CodePoint → Point
run_point links number point = record {
  op = item_op links number point.scope point.item;
  catches = map (λ (catch : Catch). record catch { to = number catch.to }) point.catches;
}

pub op_of_instr : (classes : Classes) (links : Links) (at : MethodAt) (s : Scope) → RunsCode classes links at s
    → (k : ℕ) (placed : Placed) (point : Point)
    → slice_get (instructions s) k ≡ Some placed
    → point_at (program_of classes links) at k ≡ Some point
    → point.op ≡ instr_op links (number_at (code_points s)) (row_scope s) placed.instr
op_of_instr classes links at s runs k placed point stands is =
    let number = number_at (code_points s) in
    let code : code_at (program_of classes links) at ≡ Some (method_code links s) = ap (option_and_then code_run) runs.is ∙ runs.code in
    let there : point_at (program_of classes links) at k ≡ slice_get (method_code links s).points k =
    ap (option_and_then (λ code. slice_get code.points k)) code in
    let first : slice_get (code_points s) k ≡ Some (code_point s placed) =
    slice_get-map (code_point s) (instructions s) k ∙ ap (option_map (code_point s)) stands in
    let also : slice_get (method_code links s).points k ≡ Some (run_point links number (code_point s placed)) =
    slice_get-map (run_point links number) (code_points s) k ∙ ap (option_map (run_point links number)) first in
    ap (λ (p : Point). p.op) (same_Some point _ (sym is ∙ there ∙ also))

-- ---- the instruction at an offset

-- what the law of consecutive instructions says
abbrev pub Consecutive : Type 0
Consecutive = (code : List ℕ) (instrs : List Placed) → decoded code ≡ Ok instrs → AreConsecutive 0 instrs (length code)

differ : (a b : ℕ) → a < b → (a == b) ≡ false
differ a b less = grind (arith)

-- behind an offset
behind_offset : (from to : ℕ) (instrs : List Placed) → AreConsecutive from instrs to → (k : ℕ) (placed : Placed)
    → slice_get instrs k ≡ Some placed → from ≤ placed.at
behind_offset from to [] order k placed is = absurd (none-some placed is)
behind_offset from to (first ∷ instrs) order zero placed is =
    let same = same_Some first placed is in
    let here : placed.at ≡ from = ap (λ (p : Placed). p.at) (sym same) ∙ order.0 in
    omega (arith, here)
behind_offset from to (first ∷ instrs) order (suc k) placed is =
    let later = behind_offset (first.at + first.len) to instrs order.2 k placed is in
    let here = order.0 in
    omega (arith, later, here)

placed_found : (from to : ℕ) (instrs : List Placed) → AreConsecutive from instrs to → (k : ℕ) (placed : Placed)
    → slice_get instrs k ≡ Some placed → placed_at instrs placed.at ≡ Some placed
placed_found from to [] order k placed is = absurd (none-some placed is)
placed_found from to (first ∷ instrs) order zero placed is =
    let same = same_Some first placed is in
    let here : first.at ≡ placed.at = ap (λ (p : Placed). p.at) same in
    rw (eq-eqb first.at placed.at here) is
placed_found from to (first ∷ instrs) order (suc k) placed is =
    let later = behind_offset (first.at + first.len) to instrs order.2 k placed is in
    let long = order.1 in
    let before : first.at < placed.at = omega (arith, later, long) in
    rw (differ first.at placed.at before) (placed_found (first.at + first.len) to instrs order.2 k placed is)

-- the instruction of a number is the one at its offset
pub placed_is : Consecutive → (s : Scope) (k : ℕ) (placed : Placed) → slice_get (instructions s) k ≡ Some placed
    → placed_at (instructions s) placed.at ≡ Some placed
placed_is consecutive s k placed is = by (decoded s.part.code) refl where
  by : (read : Result (List Placed) Fault) → decoded s.part.code ≡ read → placed_at (instructions s) placed.at ≡ Some placed
  by (Err fault) e = absurd (none-some placed (rw e at is))
  by (Ok instrs) e =
      let there : slice_get instrs k ≡ Some placed = rw e at is in
      let found = placed_found 0 (length s.part.code) instrs (consecutive s.part.code instrs e) k placed there in
      rw e found

-- ---- the method that a call runs

-- A method of the folder with code, by its declaration.
pub record IsTarget (P : Program) (at : MethodAt) (m : Declared) : Type 0 where
  pub number : folder_number P m.class ≡ Some at.class
  pub place : place_of_method P (reference_to m) ≡ Some at
  pub coded : is_some (code_at P at) ≡ true

-- and what its scope says of it
pub record IsScopeOf (s : Scope) (m : Declared) : Type 0 where
  pub class : own_name s ≡ m.class
  pub member : m.member ≡ method_member s.class.pool s.method

module _ (classes : Classes) (links : Links) (read : AreRead classes) (hierarchy : IsHierarchy (headers_of classes)) (at : MethodAt) (s : Scope)
    (is : scope_at classes at ≡ Some s) (m : Declared) (stands : StandsAt classes at m) where
  abbrev P : Program
  P = program_of classes links

  found : HasScope classes at s
  found = scope_has classes at s is

  header_is : stands.header ≡ header_of found.file
  header_is = same_Some stands.header (header_of found.file)
      (sym stands.at ∙ slice_get-map header_of classes.folder at.class ∙ ap (option_map header_of) found.is_file)

  number_is : folder_number P m.class ≡ Some at.class
  number_is =
      let place = (hierarchy.of_place (Folder at.class) stands.header stands.at).is_place in
      numbered classes links m.class at.class
      (subst (λ (name : Name). place_of (headers_of classes) name ≡ Some (Folder at.class)) stands.own_class place)

  method_number : number_of_first (λ (method : RunMethod). member_of (reference_to m) method.member)
      (map (run_method_of links (headers_of classes) found.file) found.file.methods) ≡ Some at.method
  method_number =
      number_mapped (λ (method : RunMethod). member_of (reference_to m) method.member)
      (run_method_of links (headers_of classes) found.file) found.file.methods
      ∙ sym (first_numbered (is_member m.member.name m.member.desc) (method_member found.file.pool) found.file.methods)
      ∙ subst (λ (header : Header). member_place m.member.name m.member.desc header.methods ≡ Some at.method) header_is stands.first

  place_is : place_of_method P (reference_to m) ≡ Some at
  place_is =
      let class : slice_get P.classes at.class ≡ Some (run_class_of links (headers_of classes) found.file) =
      slice_get-map (run_class_of links (headers_of classes)) classes.folder at.class
      ∙ ap (option_map (run_class_of links (headers_of classes))) found.is_file in
      rw (number_is, class, method_number) refl

  pub is_target : IsTarget P at m
  is_target =
      let runs = runs_code classes links read at s is in
      let code : code_at P at ≡ Some (method_code links s) = ap (option_and_then code_run) runs.is ∙ runs.code in
      record { number = number_is; place = place_is; coded = ap is_some code }

  pub scope_is : IsScopeOf s m
  scope_is = subst (λ (scope : Scope). IsScopeOf scope m) (sym found.same) (record {
    class = ap (λ (header : Header). header.name) (sym header_is) ∙ stands.own_class;
    member = same_Some m.member (method_member found.file.pool found.method)
        (sym (subst (λ (header : Header). slice_get header.methods at.method ≡ Some m.member) header_is stands.stands)
        ∙ slice_get-map (method_member found.file.pool) found.file.methods at.method
        ∙ ap (option_map (method_member found.file.pool)) found.is_method);
  })
