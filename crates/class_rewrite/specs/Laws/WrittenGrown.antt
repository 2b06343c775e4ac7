-- The classes of a written folder have grown from those of the folder, where the field constructors that are added are new.
use Rattle.std.proofs.Common.{◌≡◌, ◌+◌, ℕ, zero, suc, List, [], ◌∷◌, length, slice_get, Some, refl, sym, ap, subst, ◌∙◌, arith}
use Rattle.std.specs.List.{AllByRecursion}
use Rattle.class_model.specs.Header.{header_of, method_member}
use Rattle.class_model.specs.Pool.{Constants}
use Rattle.class_model.specs.declared.class_file.ClassFile.{ClassFile}
use Rattle.class_model.specs.declared.class_file.Field.{Field}
use Rattle.class_model.specs.declared.class_file.Method.{Method}
use Rattle.class_model.specs.declared.class_file.MethodAt.{MethodAt}
use Rattle.class_rewrite.specs.Laws.GrownPools.{pool_begins}
use Rattle.making_code.specs.Laws.GrownPools.{Begins, begins_itself, begins_through, grow_begins}
use Rattle.class_rewrite.specs.Optimised.{with_folder}
use Rattle.class_rewrite.specs.Rewriting.Folders.{AddsMethods, AreClassesWritten, AreMethodsWritten, IsClassWritten, IsFolderWritten, IsMethodWritten, adds_none, adds_one, field_written, is_kept, is_rewritten}
use Rattle.class_rewrite.specs.Rewriting.Methods.{Rewriting}
use Rattle.class_tree.specs.Headers.{headers_of}
use Rattle.making_code.specs.FieldConstructor.{constructor_method_needs}
use Rattle.member_link.specs.Machine.Replaced.{Replacement, map_numbered}
use Rattle.plan_flow.specs.Written.WrittenPrograms.{WrittenMethods}
use Rattle.type_rules.specs.Grown.{AreAllGrownClasses, AreGrownClasses, AreGrownFields, AreSameMethods, IsGrownClass, IsNewInitialiser, IsSameMethod}

-- ---- a class

fields_grown : (s : Replacement) (class number : ℕ) (fields : List Field)
    → AreGrownFields fields (map_numbered (field_written s class) number fields)
fields_grown s class number [] = tt
fields_grown s class number (field ∷ fields) =
    (record { cleared = s.cleared class number; rest = refl }, fields_grown s class (suc number) fields)

method_same : (r : Rewriting) (at : MethodAt) (old new : Method) → IsMethodWritten r at old new → IsSameMethod old new
method_same r at old _ (is_kept has kept) = record { rest = refl }
method_same r at old _ (is_rewritten is) = record { rest = refl }

methods_same : (r : Rewriting) (class number : ℕ) (olds news : List Method) → AreMethodsWritten r class number olds news
    → AreSameMethods olds news
methods_same r class number [] [] all = tt
methods_same r class number [] (new ∷ news) all = absurd all
methods_same r class number (old ∷ olds) [] all = absurd all
methods_same r class number (old ∷ olds) (new ∷ news) all =
    (method_same r (record { class = class; method = number }) old new all.0, methods_same r class (suc number) olds news all.1)

pub added_begins : (r : Rewriting) (written : WrittenMethods) (file : ClassFile) (pool last : Constants) (added : List Method)
    → AddsMethods r written file pool last added
    → Begins pool last
added_begins r written file pool last _ (adds_none none) = begins_itself pool
added_begins r written file pool last _ (adds_one made grows is) =
    grow_begins 65535 (constructor_method_needs (headers_of r.classes) r.constructor (header_of file).name) pool last grows

-- what is added to a class is an initialiser that it may get
abbrev pub AddedAreNew : Rewriting → WrittenMethods → Replacement → ℕ → ClassFile → ClassFile → Type 0
AddedAreNew r written s class file also =
    (is : IsClassWritten r written s class file also)
    → AllByRecursion (λ (method : Method). IsNewInitialiser (header_of file) (method_member also.pool method)) is.added

pub class_has_grown : (r : Rewriting) (written : WrittenMethods) (s : Replacement) (class : ℕ) (file also : ClassFile)
    → AddedAreNew r written s class file also
    → IsClassWritten r written s class file also
    → IsGrownClass file also
class_has_grown r written s class file also new is =
    let begins = begins_through file.pool is.code_pool is.pool (pool_begins r class file (length file.methods) is.code_pool is.before_constructors)
    (added_begins r written file is.code_pool is.pool is.added is.adds) in
    record {
      more = begins.more;
      pool = ap (λ (x : ClassFile). x.pool) is.is ∙ begins.is;
      fields = subst (AreGrownFields file.fields) (sym (ap (λ (x : ClassFile). x.fields) is.is)) (fields_grown s class zero file.fields);
      kept = is.methods;
      added = is.added;
      methods = ap (λ (x : ClassFile). x.methods) is.is;
      same = methods_same r class zero file.methods is.methods is.are_methods;
      initialisers = new is;
      rest = subst (λ (x : ClassFile). x ≡ record file { pool = x.pool; fields = x.fields; methods = x.methods }) (sym is.is) refl;
    }

-- ---- the folder

module _ (r : Rewriting) (files : List ClassFile) (w : IsFolderWritten r files)
    (new : (class : ℕ) (file also : ClassFile) → slice_get r.classes.folder class ≡ Some file → AddedAreNew r w.written w.s class file also) where
  classes_have_grown : (number : ℕ) (olds news : List ClassFile)
      → ((n m : ℕ) (old : ClassFile) → m ≡ number + n → slice_get olds n ≡ Some old → slice_get r.classes.folder m ≡ Some old)
      → AreClassesWritten r w.written w.s number olds news
      → AreAllGrownClasses olds news
  classes_have_grown number [] [] there all = tt
  classes_have_grown number [] (also ∷ news) there all = absurd all
  classes_have_grown number (file ∷ olds) [] there all = absurd all
  classes_have_grown number (file ∷ olds) (also ∷ news) there all = (
    class_has_grown r w.written w.s number file also (new number file also (there zero number file (omega arith) refl)) all.0,
    classes_have_grown (suc number) olds news (λ n m old e is. there (suc n) m old (omega (arith, e)) is) all.1,
  )

  -- The classes of a written folder have grown.
  pub folder_has_grown : AreGrownClasses r.classes (with_folder r.classes files)
  folder_has_grown = record {
    folder = classes_have_grown zero r.classes.folder files
        (λ n m old e is. subst (λ (x : ℕ). slice_get r.classes.folder x ≡ Some old) (omega (arith, e)) is) w.classes;
    library = refl;
  }
