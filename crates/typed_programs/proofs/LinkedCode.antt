use Rattle.std.specs.Prelude.{◌≡◌, ◌<◌, refl, ℕ, zero, suc, Bool, true, false, List, [], ◌∷◌, length, slice_get, Option, Some, None, IsSome, Result, Ok, Err}
use Rattle.std.specs.List.{AllByRecursion, list_any}
use Rattle.std.proofs.Common.{ap, sym, ◌∙◌, subst}
use Rattle.std.proofs.lemmas.Option.{slice_get-map}
use Rattle.class_model.specs.Checks.{AllHold, Fault}
use Rattle.class_model.specs.ClassOf.{ClassOf}
use Rattle.class_model.specs.Code.{OperandFits}
use Rattle.class_model.specs.Header.{header_of, method_member}
use Rattle.class_model.specs.Instructions.{decoded}
use Rattle.class_model.specs.Laws.ClassFiles.{parts_hold}
use Rattle.class_model.specs.Laws.Codes.{code_has}
use Rattle.class_model.specs.Laws.Lists.{at_index}
use Rattle.class_model.specs.MethodCode.{code_of}
use Rattle.class_model.specs.Pool.{Constants, constant_at}
use Rattle.class_model.specs.PoolChecks.{entries_checks}
use Rattle.class_model.specs.Spelling.{class_bytes}
use Rattle.class_model.specs.declared.class_file.Attr.{Attr}
use Rattle.class_model.specs.declared.class_file.Attr.TheVariants.{Raw, Code}
use Rattle.class_model.specs.declared.class_file.ClassFile.{ClassFile}
use Rattle.class_model.specs.declared.class_file.CodePart.{CodePart}
use Rattle.class_model.specs.declared.class_file.Method.{Method}
use Rattle.class_model.specs.declared.class_file.MethodAt.{MethodAt}
use Rattle.class_model.specs.declared.frame.Frame.{Frame}
use Rattle.class_model.specs.declared.header.Header.{Header}
use Rattle.class_model.specs.declared.instr.Instr.{Instr}
use Rattle.class_model.specs.declared.instr.Instr.TheVariants as instrs
use Rattle.class_model.specs.declared.instr.Placed.{Placed}
use Rattle.class_model.specs.declared.pool.Const.{Const}
use Rattle.class_model.specs.declared.pool.Const.TheVariants as consts
use Rattle.class_tree.specs.Headers.{Name, Classes, IsClassFile, class_named, headers_of, named}
use Rattle.class_tree.specs.Hierarchy.{IsHierarchy}
use Rattle.class_tree.specs.Names.{method_handle, method_type}
use Rattle.class_tree.specs.Steps.{has_constant, is_method_handle, is_method_type, needed_class_checks}
use Rattle.class_tree.specs.Trees.{IsTree}
use Rattle.class_tree.specs.declared.place.Place.TheVariants as places
use Rattle.code_bytes.specs.Codes.{HasOperands, HaveOperands, HasReadOperands}
use Rattle.member_link.specs.Bodies.{item_instr}
use Rattle.member_link.specs.BodyTyping.{RowHolds}
use Rattle.member_link.specs.Declarations.{site_of}
use Rattle.member_link.specs.Linked.{IsLinked}
use Rattle.member_link.specs.LinkedPlaces.{IsLinkedByPlace}
use Rattle.member_link.specs.Machine.Classes.{program_of}
use Rattle.member_link.specs.Machine.Codes.{number_at, code_points, instr_op, item_op}
use Rattle.member_link.specs.Machine.Links.{AreLinksOf}
use Rattle.member_link.specs.Machine.Programs.{Links}
use Rattle.member_link.specs.RowScope.{RowScope}
use Rattle.member_link.specs.Rows.Row.{access_aside}
use Rattle.member_link.specs.Rows.Table.{row_of}
use Rattle.member_link.specs.Scope.{Scope, instructions, row_scope}
use Rattle.member_link.specs.Targets.{HasForm}
use Rattle.member_link.specs.Uses.{UseScope, instr_use_checks}
use Rattle.typed_programs.proofs.Bases.{BaseHolds, base_holds, has_base, of_library}
use Rattle.typed_programs.proofs.Folders.{some_of}
use Rattle.typed_programs.proofs.ProgramHeaders.{headers_are}
use Rattle.typed_programs.proofs.LinkedInstrs.{holds_as_it_is, new_found, instr_linked}
use Rattle.typed_programs.proofs.LinkedOps.{ReferenceLaws, Around}
use Rattle.type_rules.specs.Laws.InstructionOrder.{Ascend}
use Rattle.typed_programs.proofs.PoolNames.{constant_holds}
use Rattle.typed_programs.proofs.SomeDimensions.{IsSome as HasSome, SomeIn, instrs_some}
use Rattle.machine_laws.specs.Laws.DimensionsRead.{ListHas}
use Rattle.typed_programs.proofs.TypedMethods.{scope_with}
use Rattle.typed_runs.specs.LinkedInstrs.{HoldsAsItIs, IsLinkedAt, LinksInstrs}

-- what the laws of linking and reading say
pub record LinkLaws : Type 0 where
  pub references : ReferenceLaws
  pub by_place : (classes : Classes) → IsLinked classes → IsLinkedByPlace classes
  pub operands : (bytes : List ℕ) (class : ClassFile) → ClassOf bytes class → HasReadOperands class

-- ---- constants of the folder

pub any_at : {A : Type 0} (test : A → Bool) (xs : List A) (n : ℕ) (x : A) → slice_get xs n ≡ Some x → test x ≡ true
    → list_any test xs ≡ true
any_at test [] n x is passed = cc
any_at test (y ∷ xs) zero x is passed = let one : test y ≡ true = ap test (some_of is) ∙ passed in rw one refl
any_at test (y ∷ xs) (suc n) x is passed = by (test y) refl (any_at test xs n x is passed) where
  by : (b : Bool) → test y ≡ b → list_any test xs ≡ true → list_any test (y ∷ xs) ≡ true
  by true e next = rw e refl
  by false e next = rw e next

abbrev pub passes : (Const → Bool) → Option Const → Bool
passes test None = false
passes test (Some constant) = test constant

pub entry_at : (pool : Constants) (index : ℕ) (c : Const) → constant_at pool index ≡ Some c → slice_get pool index ≡ Some (Some c)
entry_at pool index c is = by (slice_get pool index) refl where
  by : (o : Option (Option Const)) → slice_get pool index ≡ o → slice_get pool index ≡ Some (Some c)
  by None e = let no : None ≡ Some c = rw e at is in cc
  by (Some None) e = let no : None ≡ Some c = rw e at is in cc
  by (Some (Some d)) e = let same : d ≡ c = some_of (rw e at is) in e ∙ ap (λ (x : Const). Some (Some x)) same

pub has_constant_at : (test : Const → Bool) (file : ClassFile) (index : ℕ) (c : Const) → constant_at file.pool index ≡ Some c
    → test c ≡ true → has_constant test file ≡ true
has_constant_at test file index c is passed = any_at (passes test) file.pool index (Some c) (entry_at file.pool index c is) passed

pub needed_there : (classes : Classes) (test : Const → Bool) (name : Name) → AllHold (needed_class_checks test name classes)
    → (n : ℕ) (file : ClassFile) → slice_get classes.folder n ≡ Some file → has_constant test file ≡ true
    → IsSome (named name classes.library)
needed_there classes test name all n file is passed =
    let any : list_any (has_constant test) classes.folder ≡ true = any_at (has_constant test) classes.folder n file is passed in
    (rw any at all).0

-- ---- the code of a method

pub code_attr : (attrs : List Attr) (part : CodePart) → code_of attrs ≡ Some part
    → (n : ℕ) × (name : ℕ) × (slice_get attrs n ≡ Some (Code name part))
code_attr [] part is = cc
code_attr (Code name own ∷ attrs) part is = (zero, name, ap (λ (p : CodePart). Some (Code name p)) (some_of is))
code_attr (Raw name bytes ∷ attrs) part is = let c = code_attr attrs part is in (suc c.0, c.1, c.2)

pub record DecodedAt (part : CodePart) (number : ℕ) (placed : Placed) : Type 0 where
  pub instrs : List Placed
  pub decodes : decoded part.code ≡ Ok instrs
  pub there : slice_get instrs number ≡ Some placed

pub decoded_at : (s : Scope) (number : ℕ) (placed : Placed) → slice_get (instructions s) number ≡ Some placed
    → DecodedAt s.part number placed
decoded_at s number placed is = by (decoded s.part.code) refl where
  by : (r : Result (List Placed) Fault) → decoded s.part.code ≡ r → DecodedAt s.part number placed
  by (Ok instrs) e = record { instrs = instrs; decodes = e; there = rw e at is }
  by (Err fault) e = let no : None ≡ Some placed = rw e at is in cc

module _ (laws : ReferenceLaws) (classes : Classes) (links : Links) (are_links : AreLinksOf (headers_of classes) links)
    (hierarchy : IsHierarchy (headers_of classes)) (tree : IsTree classes) (has_class : 0 < length classes.folder) where
  -- a class of the folder
  own_named : (class : ℕ) (file : ClassFile) → slice_get classes.folder class ≡ Some file
      → class_named (headers_of classes) (header_of file).name ≡ Some (header_of file)
  own_named class file of_file =
      (hierarchy.of_place (places.Folder class) (header_of file) (slice_get-map header_of classes.folder class ∙ (rw of_file refl))).found

  -- what is known around an instruction of a class of the folder, in code of any class
  around_instr : (class : ℕ) (file : ClassFile) → slice_get classes.folder class ≡ Some file → (own : Header)
      → class_named (headers_of classes) own.name ≡ Some own
      → Around (program_of classes links) (headers_of classes) file.major file.pool own
  around_instr class file of_file own named_own =
      let read : IsClassFile file = at_index IsClassFile classes.folder class file tree.folder of_file in
      let base : BaseHolds classes = base_holds classes has_class tree.holds in
      record {
        same = headers_are classes links;
        base = has_base classes links are_links tree hierarchy has_class;
        own_named = named_own;
        each = constant_holds file.major file.pool (subst (λ (f : ClassFile). AllHold (entries_checks f.major f.pool 10 f.pool))
            (sym read.is) (parts_hold read.cut read.holds).pool);
        handles = λ index kind reference e. of_library classes links are_links tree hierarchy has_class method_handle
            (needed_there classes is_method_handle method_handle base.handles class file of_file
            (has_constant_at is_method_handle file index (consts.MethodHandle kind reference) e refl));
        types = λ index desc e. of_library classes links are_links tree hierarchy has_class method_type
            (needed_there classes is_method_type method_type base.types class file of_file
            (has_constant_at is_method_type file index (consts.MethodType desc) e refl));
      }

  -- ---- in any code

  some_of_form : (i : Instr) → HasForm i → SomeIn i
  some_of_form (instrs.NewMulti index dimensions) form = form
  some_of_form i form = tt

  pub links_instrs : LinksInstrs (program_of classes links) classes
  links_instrs = record {
    links = λ class locals place file member instr s frame numbered of_file fits form uses pool own new holds.
        let us : UseScope = record { headers = headers_of classes; pool = file.pool; site = site_of (header_of file) member } in
        let same : s ≡ record s { pool = file.pool } = λ i. record s { pool = pool i } in
        subst (λ (x : RowScope). IsLinkedAt (program_of classes links) x place (instr_op links numbered x instr)) (sym same)
        (instr_linked laws links numbered locals file.major us s (program_of classes links) (around_instr class file of_file s.own own)
        place instr fits uses (some_of_form instr form) new frame (subst (λ (x : RowScope). HoldsAsItIs x frame place instr) same holds));
  }

  -- ---- in the code of a method

  pub linked_instr : LinkLaws → IsLinked classes
      → (at : MethodAt) (file : ClassFile) (m : Method) (part : CodePart) → slice_get classes.folder at.class ≡ Some file
      → slice_get file.methods at.method ≡ Some m → code_of m.attrs ≡ Some part
      → Ascend (instructions (scope_with classes file m part)) → (number : ℕ) (placed : Placed)
      → slice_get (instructions (scope_with classes file m part)) number ≡ Some placed
      → (frame : Frame) → RowHolds (row_scope (scope_with classes file m part)) frame
      (access_aside (row_of (row_scope (scope_with classes file m part)) frame placed.at placed.instr))
      → IsLinkedAt (program_of classes links) (row_scope (scope_with classes file m part)) placed.at
      (item_op links (number_at (code_points (scope_with classes file m part))) (row_scope (scope_with classes file m part))
      (item_instr placed.instr))
  linked_instr by_laws linked at file m part of_file of_method of_code order number placed there frame holds =
      instr_linked laws links (number_at (code_points s)) part.max_locals file.major
      (record { headers = headers_of classes; pool = file.pool; site = site_of (header_of file) (method_member file.pool m) })
      (row_scope s) (program_of classes links) (around_instr at.class file of_file (header_of file) (own_named at.class file of_file))
      placed.at placed.instr fits uses some (new_found file.pool (instructions s) order number placed there) frame
      (holds_as_it_is (row_scope s) frame placed.at placed.instr holds) where
        s : Scope
        s = scope_with classes file m part

        d : DecodedAt part number placed
        d = decoded_at (scope_with classes file m part) number placed there

        read : IsClassFile file
        read = at_index IsClassFile classes.folder at.class file tree.folder of_file

        operands : HaveOperands file.pool file.major part.max_locals (decoded part.code)
        operands =
            code_has (HasOperands file.pool file.major) (λ (p : CodePart). HaveOperands file.pool file.major p.max_locals (decoded p.code))
            (λ name p x. x) m.attrs part
            (at_index (λ (x : Method). AllByRecursion (HasOperands file.pool file.major) x.attrs) file.methods at.method m
            (by_laws.operands (class_bytes file) file read) of_method) of_code

        fits : OperandFits file.pool file.major part.max_locals placed.instr
        fits = at_index (λ (p : Placed). OperandFits file.pool file.major part.max_locals p.instr) d.instrs number placed
            (subst (HaveOperands file.pool file.major part.max_locals) d.decodes operands) d.there

        attr : (n : ℕ) × (name : ℕ) × (slice_get m.attrs n ≡ Some (Code name part))
        attr = code_attr m.attrs part of_code

        uses : AllHold (instr_use_checks (record {
          headers = headers_of classes;
          pool = file.pool;
          site = site_of (header_of file)
              (method_member file.pool m);
        }) placed.instr)
        uses =
            (by_laws.by_place classes linked).instructions at.class at.method number
            (record {
              class = file;
              method = m;
              member = method_member file.pool m;
              attr_number = attr.0;
              name = attr.1;
              part = part;
              class_is = of_file;
              method_is = of_method;
              member_is = slice_get-map (method_member file.pool) file.methods at.method ∙ (rw of_method refl);
              code_is = attr.2;
            }) d.instrs placed d.decodes d.there

        all_some : ListHas HasSome (decoded part.code)
        all_some = instrs_some _ _ part.code

        some : SomeIn placed.instr
        some = at_index (λ (p : Placed). SomeIn p.instr) d.instrs number placed (subst (ListHas HasSome) d.decodes all_some) d.there
