-- The references of a written folder are linked: those of methods that are kept as they were, those of methods that are rewritten where this is asked
-- of them, and those of field constructors by what is asked of their classes.
use Rattle.std.proofs.Common.{◌≡◌, ◌+◌, ◌∙◌, ℕ, zero, suc, List, [], ◌∷◌, length, map, slice_get, Some, refl, sym, ap, subst, arith}
use Rattle.std.specs.List.{AllByRecursion}
use Rattle.class_model.specs.Checks.{AllHold, Check, asked_each}
use Rattle.class_model.specs.Header.{header_of, method_member}
use Rattle.class_model.specs.Laws.Checks.{both_hold, first_holds, others_hold}
use Rattle.class_model.specs.Laws.Lists.{at_index}
use Rattle.class_model.specs.Methods.{home_of}
use Rattle.class_model.specs.Pool.{Constants}
use Rattle.class_model.specs.declared.class_file.ClassFile.{ClassFile}
use Rattle.class_model.specs.declared.class_file.Method.{Method}
use Rattle.class_rewrite.proofs.FolderPairs.{ArePairs, IsPair, all_pairs}
use Rattle.class_rewrite.proofs.LinkedParts.{parts_linked}
use Rattle.class_rewrite.proofs.WrittenScopes.{added_in, added_scope, hosted, now_scope, numbered}
use Rattle.class_rewrite.specs.Inner.ReadyFolders.{IsReadyFolder}
use Rattle.class_rewrite.specs.Optimised.{with_folder}
use Rattle.class_rewrite.specs.Rewriting.Folders.{AddsMethods, AreMethodsWritten, IsFolderWritten, IsMade, IsMethodWritten, IsPoolBefore, adds_none, adds_one, is_kept, is_rewritten}
use Rattle.class_rewrite.specs.Rewriting.Methods.{Rewriting}
use Rattle.class_rewrite.specs.Rewriting.Verifying.{IsFolderSound, IsOfVerified}
use Rattle.class_tree.specs.Headers.{Headers, IsClassFile, Name, headers_of}
use Rattle.class_tree.specs.Problems.{Problem}
use Rattle.making_code.specs.Constants.{grow}
use Rattle.making_code.specs.ConstructorCode.{IsConstructorMethod}
use Rattle.making_code.specs.FieldConstructor.{constructor_method_needs}
use Rattle.member_link.specs.Declarations.{Site, declaration_checks, site_of}
use Rattle.member_link.specs.Scope.{Scope}
use Rattle.member_link.specs.Uses.{attr_checks, methods_use_checks, use_checks}
use Rattle.plan_flow.specs.Laws.WrittenBlocks.{holds_of_both}
use Rattle.type_rules.specs.Grown.{AreGrownHeaders, IsGrownClass}
use Rattle.written_files.specs.FieldConstructors.{IsConstructorIn}
use Rattle.written_files.specs.LinkedConstructors.{HasLinkedMembers, IsLinkedMethod, uses_in}

-- ---- laws of the crates below

pub record UsesLaws : Type 0 where
  pub site : (old new : ClassFile) (number : ℕ) (method : Method) → IsClassFile old → IsGrownClass old new
      → slice_get old.methods number ≡ Some method
      → site_of (header_of new) (method_member new.pool method) ≡ site_of (header_of old) (method_member old.pool method)
  pub linked : (before after : Headers) (old new : ClassFile) (number : ℕ) (method : Method) (site : Site) → AreGrownHeaders before after → IsClassFile old
      → IsGrownClass old new
      → slice_get old.methods number ≡ Some method
      → AllHold (asked_each (attr_checks (record { headers = before; pool = old.pool; site = site }) (home_of old) method) method.attrs)
      → AllHold (asked_each (attr_checks (record { headers = after; pool = new.pool; site = site }) (home_of new) method) method.attrs)
  pub constructor : (headers : Headers) (constructor : Name → List ℕ) (file : ClassFile) (s : Scope) (is : IsConstructorIn headers constructor file s)
      → HasLinkedMembers headers constructor file is.above s
      → IsLinkedMethod s

-- ---- methods of a class

-- what is asked of a method
abbrev asks : Headers → ClassFile → Method → List (Check Problem)
asks headers class method =
    asked_each (attr_checks (record {
      headers = headers;
      pool = class.pool;
      site = site_of (header_of class) (method_member class.pool method);
    }) (home_of class) method) method.attrs

abbrev IsLinkedIn : Headers → ClassFile → Method → Type 0
IsLinkedIn headers class method = AllHold (asks headers class method)

uses_apart : (headers : Headers) (class : ClassFile) (methods : List Method)
    → AllHold (methods_use_checks headers class (header_of class) methods (map (method_member class.pool) methods))
    → AllByRecursion (IsLinkedIn headers class) methods
uses_apart headers class [] all = tt
uses_apart headers class (method ∷ methods) all =
    let rest = methods_use_checks headers class (header_of class) methods (map (method_member class.pool) methods) in
    (first_holds (asks headers class method) rest all, uses_apart headers class methods (others_hold (asks headers class method) rest all))

uses_joined : (headers : Headers) (class : ClassFile) (methods : List Method) → AllByRecursion (IsLinkedIn headers class) methods
    → AllHold (methods_use_checks headers class (header_of class) methods (map (method_member class.pool) methods))
uses_joined headers class [] all = tt
uses_joined headers class (method ∷ methods) all =
    both_hold (asks headers class method) (methods_use_checks headers class (header_of class) methods (map (method_member class.pool) methods)) all.0
    (uses_joined headers class methods all.1)

-- ---- the folder

module _ (laws : UsesLaws) (r : Rewriting) (files : List ClassFile) (w : IsFolderWritten r files) (verified : IsOfVerified r)
    (ready : IsReadyFolder r files w) (sound : IsFolderSound r files w) where
  abbrev before : Headers
  before = headers_of r.classes

  abbrev after : Headers
  after = headers_of (with_folder r.classes files)

  module _ (class : ℕ) (file also : ClassFile) (pair : IsPair r files w class file also) where
    is_file : IsClassFile file
    is_file = at_index IsClassFile r.classes.folder class file verified.tree.folder pair.there

    grows : IsGrownClass file also
    grows = ready.grown class file also pair.there pair.is

    method_linked : (number : ℕ) (method now : Method) → slice_get file.methods number ≡ Some method
        → IsMethodWritten r (numbered r files w class file also pair number) method now
        → IsLinkedIn before file method
        → IsLinkedIn after also now
    method_linked number method _ got (is_kept has kept) holds =
        let there = laws.linked before after file also number method (site_of (header_of file) (method_member file.pool method)) ready.headers is_file grows got holds in
        subst
        (λ (site : Site). AllHold (asked_each (attr_checks (record { headers = after; pool = also.pool; site = site }) (home_of also) method) method.attrs))
        (sym (laws.site file also number method is_file grows got)) there
    method_linked number method _ got (is_rewritten {w = v} is_at) holds =
        let found = hosted r files w class file also pair number method v got is_at in
        let now = now_scope r files w class file also pair method v.part in
        let method_sound =
        sound.methods (numbered r files w class file also pair number) v
        (record { headers = before; class = file; method = method; part = found.part }) now found.is in
        parts_linked (uses_in now) (home_of also) now.method v.part method_sound.instrs method_sound.handlers method_sound.stated method.attrs

    methods_linked : (number : ℕ) (methods news : List Method) → AreMethodsWritten r class number methods news
        → ((n m : ℕ) (method : Method) → m ≡ number + n → slice_get methods n ≡ Some method → slice_get file.methods m ≡ Some method)
        → AllByRecursion (IsLinkedIn before file) methods
        → AllByRecursion (IsLinkedIn after also) news
    methods_linked number [] [] all got holds = tt
    methods_linked number [] (now ∷ news) all got holds = absurd all
    methods_linked number (method ∷ methods) [] all got holds = absurd all
    methods_linked number (method ∷ methods) (now ∷ news) all got holds = (
      method_linked number method now (got zero number method (omega arith) refl) all.0 holds.0,
      methods_linked (suc number) methods news all.1 (λ n m one e is. got (suc n) m one (omega (arith, e)) is) holds.1,
    )

    one_linked : (method : Method) (pool : Constants) → IsMade r w.written (header_of file).name → IsPoolBefore r class file (length file.methods) pool
        → grow 65535 pool (constructor_method_needs before r.constructor (header_of file).name) ≡ Some also.pool
        → (is : IsConstructorMethod before r.constructor (header_of file).name also.pool method)
        → IsLinkedIn after also method
    one_linked method pool made first grown_is is =
        let here = ready.constructors class file also method pool pair.there pair.is made first grown_is is in
        laws.constructor before r.constructor file (added_scope r files w class file also pair method is) here
        (sound.constructors class file here.above (added_scope r files w class file also pair method is)
        (added_in r files w class file also pair method is made) here.superclass)

    added_linked : {pool last : Constants} (added : List Method) → IsPoolBefore r class file (length file.methods) pool
        → AddsMethods r w.written file pool last added
        → last ≡ also.pool
        → AllByRecursion (IsLinkedIn after also) added
    added_linked _ first (adds_none none) same = tt
    added_linked {pool = pool} _ first (adds_one {method = method} made grown_is is_method) same = (
      one_linked method pool made first (grown_is ∙ ap Some same)
          (subst (λ (p : Constants). IsConstructorMethod before r.constructor (header_of file).name p method) same is_method),
      tt,
    )

    class_linked : AllHold (use_checks before file) → AllHold (use_checks after also)
    class_linked holds =
        let kept =
        methods_linked zero file.methods pair.is.methods pair.is.are_methods
        (λ n m method e is. subst (λ (k : ℕ). slice_get file.methods k ≡ Some method) (omega (arith, e)) is)
        (uses_apart before file file.methods holds) in
        let added = added_linked pair.is.added pair.is.before_constructors pair.is.adds (sym (ap (λ (c : ClassFile). c.pool) pair.is.is)) in
        uses_joined after also also.methods
        (subst (λ (methods : List Method). AllByRecursion (IsLinkedIn after also) methods) (sym (ap (λ (c : ClassFile). c.methods) pair.is.is))
        (holds_of_both (IsLinkedIn after also) pair.is.methods pair.is.added kept added))

  classes_linked : (number : ℕ) (olds news : List ClassFile) → ArePairs r files w number olds news → AllHold (asked_each (use_checks before) olds)
      → AllHold (asked_each (use_checks after) news)
  classes_linked number [] [] all holds = tt
  classes_linked number [] (also ∷ news) all holds = absurd all
  classes_linked number (file ∷ olds) [] all holds = absurd all
  classes_linked number (file ∷ olds) (also ∷ news) all holds =
      both_hold (use_checks after also) (asked_each (use_checks after) news)
      (class_linked number file also all.0 (first_holds (use_checks before file) (asked_each (use_checks before) olds) holds))
      (classes_linked (suc number) olds news all.1 (others_hold (use_checks before file) (asked_each (use_checks before) olds) holds))

  -- The references of the written folder are linked.
  pub folder_used : AllHold (asked_each (use_checks after) files)
  folder_used =
      classes_linked zero r.classes.folder files (all_pairs r files w)
      (others_hold (asked_each (declaration_checks before) before.folder) (asked_each (use_checks before) r.classes.folder) verified.linked)
