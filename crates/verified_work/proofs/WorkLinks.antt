-- Generated work is linked with its library.
use Rattle.std.proofs.Common.{◌≡◌, ℕ, suc, Bool, true, false, List, [], ◌∷◌, ◌++◌, map, Some, cond, inl, refl, sym, subst, ◌∙◌, codes}
use Rattle.std.specs.List.{AllByRecursion}
use Rattle.std.specs.Prelude.{IsFalse}
use Rattle.std.proofs.lemmas.Bool.{false≢true}
use Rattle.std.proofs.lemmas.Option.{same_Some}
use Rattle.class_model.specs.Checks.{AllHold, asked_each}
use Rattle.class_model.specs.Descriptors as descriptors
use Rattle.class_model.specs.Frames as frames
use Rattle.class_model.specs.Header.{header_of, method_member}
use Rattle.class_model.specs.Instructions as instructions
use Rattle.class_model.specs.Instructions.{decoded}
use Rattle.class_model.specs.Laws.Checks.{◌▸◌, both_hold}
use Rattle.class_model.specs.Members.{FINAL, has}
use Rattle.class_model.specs.Methods.{Home, home_of}
use Rattle.class_model.specs.Pool.{Constants}
use Rattle.class_model.specs.Stated.{stated_in}
use Rattle.class_model.specs.declared.class_file.Attr.TheVariants.{Code}
use Rattle.class_model.specs.declared.class_file.CodePart.{CodePart}
use Rattle.class_model.specs.declared.class_file.Method.{Method}
use Rattle.class_model.specs.declared.header.Header.{Header}
use Rattle.class_model.specs.declared.header.Member.{Member}
use Rattle.class_tree.specs.Headers.{IsThere, headers_of}
use Rattle.class_tree.specs.Names.{is_member}
use Rattle.member_link.specs.Declarations.{OverridesNoFinal, declaration_checks, declared_method_checks}
use Rattle.member_link.specs.DeclaredMembers.{Declared, declared}
use Rattle.member_link.specs.Linked.{IsLinked}
use Rattle.member_link.specs.Uses.{code_use_checks, frame_checks, handler_use_checks, instrs_checks, methods_use_checks, use_checks}
use Rattle.work_gen.specs.Generated.{indexed, kind_code, name_constant, point, point_init, point_pool, point_y, work, work_constants, work_method, work_methods}
use Rattle.work_gen.specs.Values.{method}
use Rattle.work_gen.specs.declared.choices.Choice.{Choice}
use Rattle.work_gen.specs.declared.choices.Kind.{Kind}
use Rattle.work_gen.specs.declared.choices.Kind.TheVariants.{Adds, Branches, Locks, Loops}
use Rattle.verified_work.proofs.WorkAbove.{holds_of_named}
use Rattle.verified_work.proofs.WorkHeaders.{headers, point_constructor, point_header, root_header, work_header, y_method}
use Rattle.verified_work.proofs.WorkSteps.{classes_of, methods_of}
use Rattle.verified_work.proofs.WorkUses.{UseLaws, each_passes, gives_int, init_passes, int_to_int, is_int, new_passes, own_x_passes, own_y_passes, placed_in, root_passes, scope, two_to_void, use_passes, x_passes, y_passes}

-- ---- no method is final

abbrev IsOpen : Member → Type 0
IsOpen member = IsFalse (has member.flags FINAL)

abbrev AreOpen : Header → Type 0
AreOpen header = AllByRecursion IsOpen header.methods

is_open : (name desc : List ℕ) (members : List Member) (member : Member) → declared name desc members ≡ Some member → AllByRecursion IsOpen members → IsOpen member
is_open name desc [] member is all = absurd cc
is_open name desc (first ∷ others) member is all = by (is_member name desc first) is (λ is. is_open name desc others member is all.1)
  where
    by : (test : Bool) → cond test (Some first) (declared name desc others) ≡ Some member → (declared name desc others ≡ Some member → IsOpen member) → IsOpen member
    by true is later = subst IsOpen (same_Some first member is) all.0
    by false is later = later is

no_final : (methods : List Member) → AllByRecursion IsOpen methods → (method : Declared) → OverridesNoFinal (headers methods) method
no_final methods are method high of_folder final =
    let all = holds_of_named AreOpen high.class (headers methods).folder of_folder.header of_folder.found (are, ((refl, (refl, tt)), tt)) in
    let here = is_open high.member.name high.member.desc of_folder.header.methods high.member of_folder.declares all in
    absurd (false≢true (sym here ∙ final))

-- ---- the generated methods, by name and descriptor

abbrev members : Constants → ℕ → List Choice → List Member
members pool number left = map (method_member pool) (indexed (λ n choice. work_method n choice ∷ []) number left)

are_open : (more : Constants) (number : ℕ) (left : List Choice) → AllByRecursion IsOpen (members (work_constants ++ more) number left)
are_open more number [] = tt
are_open more number (choice ∷ left) = (refl, are_open more (suc number) left)

module _ (laws : UseLaws) where
  -- ---- declarations

  are_declared : (methods : List Member) → AllByRecursion IsOpen methods → (more : Constants) (number : ℕ) (left : List Choice)
      → AllHold (asked_each (declared_method_checks (headers methods) (work_header methods)) (members (work_constants ++ more) number left))
  are_declared methods are more number [] = tt
  are_declared methods are more number (choice ∷ left) =
      int_to_int laws (IsThere (headers methods)) ▸ no_final methods are _ ▸ are_declared methods are more (suc number) left

  work_declared : (more : Constants) (chosen : List Choice) → AllHold (declaration_checks (headers (members (work_constants ++ more) 0 chosen)) (work_header (members (work_constants ++ more) 0 chosen)))
  work_declared more chosen =
      let methods = members (work_constants ++ more) 0 chosen in
      (record { header = root_header; found = refl; is_open = inl refl }, tt)
      ▸ are_declared methods (are_open more 0 chosen) more 0 chosen

  point_declared : (methods : List Member) → AllByRecursion IsOpen methods → AllHold (declaration_checks (headers methods) point_header)
  point_declared methods are =
      (record { header = root_header; found = refl; is_open = inl refl }, tt)
      ▸ is_int laws (IsThere (headers methods)) ▸ is_int laws (IsThere (headers methods))
      ▸ two_to_void laws (IsThere (headers methods)) ▸ no_final methods are _
      ▸ gives_int laws (IsThere (headers methods)) ▸ no_final methods are _ ▸ tt

  -- ---- the code of each kind

  abbrev KindLinks : Kind → Type 0
  KindLinks kind = (methods : List Member) (more : Constants) (site : Member) → AllHold (instrs_checks (scope methods (work_constants ++ more) (codes "G") site) (decoded (kind_code kind).code))

  adds_links : KindLinks Adds
  unfolding instructions.instrs_at instructions.instr_at
  adds_links methods more site =
      each_passes (scope methods (work_constants ++ more) (codes "G") site) (placed_in (decoded (kind_code Adds).code))
      (new_passes laws methods (work_constants ++ more) site ▸ tt ▸ tt ▸ tt ▸ init_passes laws methods (work_constants ++ more) site ▸ tt ▸ tt ▸ x_passes laws methods (work_constants ++ more) site ▸ tt ▸ y_passes laws methods (work_constants ++ more) site ▸ tt ▸ tt ▸ tt)

  loops_links : KindLinks Loops
  unfolding instructions.instrs_at instructions.instr_at
  loops_links methods more site =
      each_passes (scope methods (work_constants ++ more) (codes "G") site) (placed_in (decoded (kind_code Loops).code))
      (tt ▸ tt ▸ tt ▸ tt ▸ tt ▸ tt ▸ tt ▸ new_passes laws methods (work_constants ++ more) site ▸ tt ▸ tt ▸ tt ▸ init_passes laws methods (work_constants ++ more) site ▸ tt ▸ tt ▸ tt ▸ x_passes laws methods (work_constants ++ more) site ▸ tt ▸ tt ▸ tt ▸ tt ▸ tt ▸ tt ▸ tt)

  branches_links : KindLinks Branches
  unfolding instructions.instrs_at instructions.instr_at
  branches_links methods more site =
      each_passes (scope methods (work_constants ++ more) (codes "G") site) (placed_in (decoded (kind_code Branches).code))
      (new_passes laws methods (work_constants ++ more) site ▸ tt ▸ tt ▸ tt ▸ init_passes laws methods (work_constants ++ more) site ▸ tt ▸ tt ▸ tt ▸ tt ▸ tt ▸ tt ▸ tt ▸ tt ▸ tt ▸ tt ▸ use_passes laws methods (work_constants ++ more) site ▸ tt ▸ x_passes laws methods (work_constants ++ more) site ▸ tt ▸ tt)

  locks_links : KindLinks Locks
  unfolding instructions.instrs_at instructions.instr_at
  locks_links methods more site =
      each_passes (scope methods (work_constants ++ more) (codes "G") site) (placed_in (decoded (kind_code Locks).code))
      (new_passes laws methods (work_constants ++ more) site ▸ tt ▸ tt ▸ tt ▸ init_passes laws methods (work_constants ++ more) site ▸ tt ▸ tt ▸ tt ▸ tt ▸ tt ▸ tt ▸ x_passes laws methods (work_constants ++ more) site ▸ tt ▸ tt ▸ tt ▸ tt ▸ tt ▸ tt ▸ tt ▸ tt ▸ tt)

  kind_links : (kind : Kind) → KindLinks kind
  kind_links Adds = adds_links
  kind_links Loops = loops_links
  kind_links Branches = branches_links
  kind_links Locks = locks_links

  -- ---- its handlers and frames

  abbrev home : Constants → Home
  home more = record { pool = work_constants ++ more; major = 52; flags = 0x0021; name = Some (codes "G") }

  abbrev RestLinks : Kind → Type 0
  RestLinks kind = (methods : List Member) (more : Constants) (site : Member) (number : ℕ) (choice : Choice)
      → AllHold (asked_each (handler_use_checks (scope methods (work_constants ++ more) (codes "G") site)) (kind_code kind).handlers)
      × AllHold (asked_each (frame_checks (scope methods (work_constants ++ more) (codes "G") site)) (stated_in (home more) (work_method number choice) (kind_code kind) (kind_code kind).attrs))

  rest_links : (kind : Kind) → RestLinks kind
  unfolding descriptors.types_before instructions.instrs_at instructions.instr_at frames.frames_at frames.verification_types_at frames.entries_of_units
  rest_links Adds methods more site number choice = (tt, tt)
  rest_links Loops methods more site number choice = (tt, tt)
  rest_links Branches methods more site number choice = (tt, (refl, (refl, tt)))
  rest_links Locks methods more site number choice = (tt, (refl, (refl, (refl, tt))))

  -- ---- the methods

  methods_link : (methods : List Member) (class_methods : List Method) (more : Constants) (number : ℕ) (left : List Choice)
      → AllHold (methods_use_checks (headers methods) (record (work []) { pool = work_constants ++ more; methods = class_methods }) (work_header methods)
      (indexed (λ n choice. work_method n choice ∷ []) number left) (members (work_constants ++ more) number left))
  methods_link methods class_methods more number [] = tt
  methods_link methods class_methods more number (choice ∷ left) =
      let site = method_member (work_constants ++ more) (work_method number choice) in
      let s = scope methods (work_constants ++ more) (codes "G") site in
      let part = kind_code choice.kind in
      let rest = rest_links choice.kind methods more site number choice in
      let code = both_hold (instrs_checks s (decoded part.code) ++ asked_each (handler_use_checks s) part.handlers) (asked_each (frame_checks s) (stated_in (home more) (work_method number choice) part part.attrs))
      (both_hold (instrs_checks s (decoded part.code)) (asked_each (handler_use_checks s) part.handlers) (kind_links choice.kind methods more site) rest.0) rest.1 in
      both_hold (code_use_checks s (home more) (work_method number choice) part ++ []) _
      (both_hold (code_use_checks s (home more) (work_method number choice) part) [] code tt)
      (methods_link methods class_methods more (suc number) left)

  -- ---- the methods of the objects

  point_code : (site : Member) (method : Method) (part : CodePart) → part.handlers ≡ [] → part.attrs ≡ [] → (methods : List Member)
      → AllHold (instrs_checks (scope methods point_pool (codes "P") site) (decoded part.code))
      → AllHold (code_use_checks (scope methods point_pool (codes "P") site) (home_of point) method part ++ [])
  point_code site method part no_handlers no_attrs methods instrs =
      let s = scope methods point_pool (codes "P") site in
      let rest : AllHold (asked_each (handler_use_checks s) part.handlers) = rw no_handlers tt in
      let stated : AllHold (asked_each (frame_checks s) (stated_in (home_of point) method part part.attrs)) = rw no_attrs tt in
      both_hold (code_use_checks s (home_of point) method part) []
      (both_hold (instrs_checks s (decoded part.code) ++ asked_each (handler_use_checks s) part.handlers) (asked_each (frame_checks s) (stated_in (home_of point) method part part.attrs))
      (both_hold (instrs_checks s (decoded part.code)) (asked_each (handler_use_checks s) part.handlers) instrs rest) stated) tt

  init_links : (methods : List Member) → AllHold (instrs_checks (scope methods point_pool (codes "P") point_constructor) (decoded point_init.code))
  unfolding instructions.instrs_at instructions.instr_at
  init_links methods =
      each_passes (scope methods point_pool (codes "P") point_constructor) (placed_in (decoded point_init.code))
      (tt ▸ root_passes laws methods point_pool point_constructor ▸ tt ▸ tt ▸ own_x_passes laws methods point_pool point_constructor
      ▸ tt ▸ tt ▸ own_y_passes laws methods point_pool point_constructor ▸ tt ▸ tt)

  y_links : (methods : List Member) → AllHold (instrs_checks (scope methods point_pool (codes "P") y_method) (decoded point_y.code))
  unfolding instructions.instrs_at instructions.instr_at
  y_links methods =
      each_passes (scope methods point_pool (codes "P") y_method) (placed_in (decoded point_y.code))
      (tt ▸ own_y_passes laws methods point_pool y_method ▸ tt ▸ tt)

  abbrev init_method : Method
  init_method = method 0 5 6 (Code 7 point_init ∷ [])

  abbrev second_method : Method
  second_method = method 0 15 18 (Code 7 point_y ∷ [])

  point_links : (methods : List Member) → AllHold (use_checks (headers methods) point)
  point_links methods =
      both_hold (code_use_checks (scope methods point_pool (codes "P") point_constructor) (home_of point) init_method point_init ++ [])
      ((code_use_checks (scope methods point_pool (codes "P") y_method) (home_of point) second_method point_y ++ []) ++ [])
      (point_code point_constructor init_method point_init refl refl methods (init_links methods))
      (both_hold (code_use_checks (scope methods point_pool (codes "P") y_method) (home_of point) second_method point_y ++ []) []
      (point_code y_method second_method point_y refl refl methods (y_links methods)) tt)

  -- ---- the whole

  pub is_linked : (chosen : List Choice) → IsLinked (classes_of chosen)
  is_linked chosen =
      let all = headers_of (classes_of chosen) in
      let more = indexed (λ number choice. Some (name_constant number) ∷ []) 0 chosen in
      let none_final = are_open more 0 chosen in
      let of_work = declaration_checks all (header_of (work chosen)) in
      let of_point = declaration_checks all (header_of point) in
      both_hold (of_work ++ (of_point ++ [])) (use_checks all (work chosen) ++ (use_checks all point ++ []))
      (both_hold of_work (of_point ++ []) (work_declared more chosen) (both_hold of_point [] (point_declared (methods_of chosen) none_final) tt))
      (both_hold (use_checks all (work chosen)) (use_checks all point ++ []) (methods_link (methods_of chosen) (work_methods chosen) more 0 chosen)
      (both_hold (use_checks all point) [] (point_links (methods_of chosen)) tt))
