-- Each class of a written folder is a class file.
use Rattle.std.proofs.Common.{◌≡◌, ◌≤◌, ◌+◌, ℕ, zero, suc, List, [], ◌∷◌, ◌++◌, length, slice_get, Some, refl, sym, ap, subst, arith, length-append}
use Rattle.std.specs.List.{AllByRecursion}
use Rattle.class_model.specs.Header.{header_of}
use Rattle.class_model.specs.Laws.Lists.{at_index}
use Rattle.class_model.specs.Methods.{home_of}
use Rattle.class_model.specs.Pool.{Constants}
use Rattle.class_model.specs.declared.class_file.ClassFile.{ClassFile}
use Rattle.class_model.specs.declared.class_file.Method.{Method}
use Rattle.class_rewrite.proofs.FileLaws.{FileLaws}
use Rattle.class_rewrite.proofs.FittingCodes.{code_for}
use Rattle.class_rewrite.proofs.FittingConstructors.{added_one}
use Rattle.class_rewrite.proofs.FolderPairs.{ArePairs, IsPair, all_pairs}
use Rattle.class_rewrite.proofs.GrownConstants.{class_adds}
use Rattle.class_rewrite.specs.Inner.FittingFolders.{IsFittedFolder}
use Rattle.class_rewrite.specs.Inner.ReadyFolders.{IsReadyFolder}
use Rattle.class_rewrite.specs.Laws.MadeConstructors.{made_is_added}
use Rattle.class_rewrite.specs.Optimised.{with_folder}
use Rattle.class_rewrite.specs.Rewriting.Folders.{AddsMethods, AreMethodsWritten, IsFolderWritten, IsMethodWritten, IsPoolBefore, adds_none, adds_one, is_kept, is_rewritten}
use Rattle.class_rewrite.specs.Rewriting.Methods.{Rewriting}
use Rattle.class_tree.specs.Headers.{IsClassFile, headers_of}
use Rattle.class_tree.specs.Trees.{IsTree}
use Rattle.making_code.specs.Constants.{grow}
use Rattle.making_code.specs.ConstructorCode.{IsConstructorMethod}
use Rattle.making_code.specs.FieldConstructor.{constructor_method_needs}
use Rattle.type_rules.specs.Grown.{IsGrownClass}
use Rattle.written_files.specs.WrittenClasses.{AreAddedMethods, AreKeptMethods, IsKeptMethod, IsWrittenClass, kept_as_it_was, kept_with_code}

module _ (laws : FileLaws) (r : Rewriting) (files : List ClassFile) (w : IsFolderWritten r files) (tree : IsTree r.classes)
    (ready : IsReadyFolder r files w) (fitting : IsFittedFolder r files w) where
  module _ (class : ℕ) (file also : ClassFile) (pair : IsPair r files w class file also) where
    is_file : IsClassFile file
    is_file = at_index IsClassFile r.classes.folder class file tree.folder pair.there

    grown : IsGrownClass file also
    grown = ready.grown class file also pair.there pair.is

    -- ---- methods

    method_kept : (number : ℕ) (old new : Method) → slice_get file.methods number ≡ Some old
        → IsMethodWritten r (record { class = class; method = number }) old new
        → IsKeptMethod (home_of also) old new
    method_kept number old _ got (is_kept has kept) = kept_as_it_was
    method_kept number old _ got (is_rewritten {w = v} is_at) =
        kept_with_code v.part (code_for laws r files w tree.folder ready fitting class file also pair number old got v is_at)

    methods_kept : (number : ℕ) (olds news : List Method)
        → ((n m : ℕ) (old : Method) → m ≡ number + n → slice_get olds n ≡ Some old → slice_get file.methods m ≡ Some old)
        → AreMethodsWritten r class number olds news
        → AreKeptMethods (home_of also) olds news
    methods_kept number [] [] stand all = tt
    methods_kept number [] (new ∷ news) stand all = absurd all
    methods_kept number (old ∷ olds) [] stand all = absurd all
    methods_kept number (old ∷ olds) (new ∷ news) stand all = (
      method_kept number old new (stand zero number old (omega arith) refl) all.0,
      methods_kept (suc number) olds news (λ n m one e is. stand (suc n) m one (omega (arith, e)) is) all.1,
    )

    same_many : (number : ℕ) (olds news : List Method) → AreMethodsWritten r class number olds news → length news ≡ length olds
    same_many number [] [] all = refl
    same_many number [] (new ∷ news) all = absurd all
    same_many number (old ∷ olds) [] all = absurd all
    same_many number (old ∷ olds) (new ∷ news) all = ap suc (same_many (suc number) olds news all.1)

    -- ---- the field constructor

    few_constants : length also.pool ≤ 65535
    few_constants = (class_adds laws r tree.folder files w fitting class file pair.there also pair.is).is_pool.count

    -- what is added, and how many methods there are
    record AddsFew (added : List Method) : Type 0 where
      are_added : AreAddedMethods (home_of also) file.methods added
      few : length file.methods + length added ≤ 65535

    adds : (pool last : Constants) (added : List Method) → IsPoolBefore r class file (length file.methods) pool → last ≡ also.pool
        → AddsMethods r w.written file pool last added
        → AddsFew added
    adds pool _ _ before same (adds_none none) =
        let few = (laws.fits file is_file).counts.methods.count in
        record { are_added = record { fits = tt; numbers = tt; parted = tt; pass = λ at. tt }; few = omega (arith, few) }
    adds pool last _ before same (adds_one {method = method} made grows is_method) =
        let known = fitting.constructors class file pair.there made in
        let room = known.few in
        let grows_so = subst (λ (p : Constants). grow 65535 pool (constructor_method_needs (headers_of r.classes) r.constructor (header_of file).name) ≡ Some p) same grows in
        let is = subst (λ (p : Constants). IsConstructorMethod (headers_of r.classes) r.constructor (header_of file).name p method) same is_method in
        let inside = ready.constructors class file also method pool pair.there pair.is made before grows_so is in
        let undeclared = ready.free class file _ pair.there (made_is_added r files w tree.in_order class file pair.there made) in
        record {
          are_added =
              added_one laws (headers_of r.classes) r.constructor file also is_file grown pool method
              (record { headers = headers_of (with_folder r.classes files); class = also; method = method; part = is.part }) refl refl grows_so is inside
              undeclared known.descriptor known.spells known.no_interface few_constants;
          few = omega (arith, room);
        }

    -- ---- the class

    written : IsWrittenClass file also
    written =
        let all = adds pair.is.code_pool pair.is.pool pair.is.added pair.is.before_constructors (sym (ap (λ (c : ClassFile). c.pool) pair.is.is)) pair.is.adds in
        let methods : also.methods ≡ pair.is.methods ++ pair.is.added = ap (λ (c : ClassFile). c.methods) pair.is.is in
        let many = same_many zero file.methods pair.is.methods pair.is.are_methods in
        let both = length-append pair.is.methods pair.is.added in
        let long : length also.methods ≡ length (pair.is.methods ++ pair.is.added) = ap (λ (list : List Method). length list) methods in
        let few = all.few in
        record {
          pool = class_adds laws r tree.folder files w fitting class file pair.there also pair.is;
          fields = grown.fields;
          kept = pair.is.methods;
          are_kept =
              methods_kept zero file.methods pair.is.methods
              (λ n m old e got. subst (λ (k : ℕ). slice_get file.methods k ≡ Some old) (omega (arith, e)) got) pair.is.are_methods;
          added = pair.is.added;
          are_added = all.are_added;
          methods = methods;
          few = omega (arith, long, both, many, few);
          rest = grown.rest;
        }

    class_is_file : IsClassFile also
    class_is_file = laws.is_file file also is_file written

  -- ---- the folder

  files_are : (number : ℕ) (olds news : List ClassFile) → ArePairs r files w number olds news → AllByRecursion IsClassFile news
  files_are number [] [] pairs = tt
  files_are number [] (also ∷ news) pairs = absurd pairs
  files_are number (file ∷ olds) [] pairs = absurd pairs
  files_are number (file ∷ olds) (also ∷ news) pairs =
      (class_is_file number file also pairs.0, files_are (suc number) olds news pairs.1)

  pub all_files : AllByRecursion IsClassFile files
  all_files = files_are zero r.classes.folder files (all_pairs r files w)
