-- Frames type each method of a written folder: those of the folder the methods that are kept, those of written code the ones that are rewritten, and
-- field constructors have frames of their own.
use Rattle.std.proofs.Common.{◌≡◌, ◌+◌, ◌++◌, ◌∙◌, ℕ, zero, suc, List, [], ◌∷◌, length, slice_get, Option, Some, refl, sym, ap, subst, arith}
use Rattle.class_model.specs.Header.{header_of}
use Rattle.class_model.specs.Laws.Lists.{at_index}
use Rattle.class_model.specs.Pool.{Constants}
use Rattle.class_model.specs.declared.class_file.ClassFile.{ClassFile}
use Rattle.class_model.specs.declared.class_file.Method.{Method}
use Rattle.class_model.specs.declared.frame.Frame.{Frame}
use Rattle.class_rewrite.proofs.FolderPairs.{ArePairs, IsPair, all_pairs}
use Rattle.class_rewrite.proofs.TypedRewriting.{TypingLaws, found, method_typed}
use Rattle.class_rewrite.proofs.WrittenScopes.{added_scope, now_scope, numbered}
use Rattle.class_rewrite.specs.Inner.ReadyFolders.{IsReadyFolder}
use Rattle.class_rewrite.specs.Optimised.{with_folder}
use Rattle.class_rewrite.specs.Rewriting.Folders.{AddsMethods, AreMethodsWritten, IsFolderWritten, IsMade, IsMethodWritten, IsPoolBefore, adds_none, adds_one, is_kept, is_rewritten}
use Rattle.class_rewrite.specs.Rewriting.Methods.{Rewriting}
use Rattle.class_rewrite.specs.Rewriting.Verifying.{IsFolderSound, IsOfVerified, laid_of}
use Rattle.class_rewrite.specs.Rewriting.WellWritten.{IsWellWritten}
use Rattle.class_tree.specs.Headers.{Headers, IsClassFile, Name, headers_of}
use Rattle.flow_code.specs.TypedFrames.{FolderFrames}
use Rattle.making_code.specs.Constants.{grow}
use Rattle.making_code.specs.ConstructorCode.{IsConstructorMethod}
use Rattle.making_code.specs.FieldConstructor.{constructor_method_needs}
use Rattle.member_link.specs.Scope.{Scope, scope_of}
use Rattle.stackmap_emit.specs.TypedMethods.{frames_by_offset}
use Rattle.type_rules.specs.Grown.{AreGrownHeaders, IsGrownClass}
use Rattle.type_rules.specs.Typed.{Typed}
use Rattle.type_rules.specs.Verified.{AreTypedClasses, AreTypedMethods, TypesFolder, TypesMethod}
use Rattle.written_files.specs.FieldConstructors.{IsConstructorIn}

-- ---- laws of the crates below

pub record KeptLaws : Type 0 where
  pub typing : TypingLaws
  pub typed : (before after : Headers) (old new : ClassFile) (number : ℕ) (method : Method) (frames : Option (List Frame)) → AreGrownHeaders before after
      → IsClassFile old
      → IsGrownClass old new
      → slice_get old.methods number ≡ Some method
      → TypesMethod (scope_of before old method) frames
      → TypesMethod (scope_of after new method) frames
  pub constructor : (headers : Headers) (constructor : Name → List ℕ) (file : ClassFile) (s : Scope) → IsConstructorIn headers constructor file s
      → (frames : List Frame) × Typed s frames

-- methods that are typed, and more of them
both_typed : (headers : Headers) (class : ClassFile) (ones others : List Method) (frames more : List (Option (List Frame)))
    → AreTypedMethods headers class ones frames
    → AreTypedMethods headers class others more
    → AreTypedMethods headers class (ones ++ others) (frames ++ more)
both_typed headers class [] others [] more all rest = rest
both_typed headers class [] others (one ∷ frames) more all rest = absurd all
both_typed headers class (method ∷ ones) others [] more all rest = absurd all
both_typed headers class (method ∷ ones) others (one ∷ frames) more all rest =
    (all.0, both_typed headers class ones others frames more all.1 rest)

module _ (laws : KeptLaws) (r : Rewriting) (files : List ClassFile) (w : IsFolderWritten r files) (verified : IsOfVerified r)
    (ready : IsReadyFolder r files w) (well : IsWellWritten r files w) (sound : IsFolderSound r files w) where
  abbrev before : Headers
  before = headers_of r.classes

  abbrev after : Headers
  after = headers_of (with_folder r.classes files)

  module _ (class : ℕ) (file also : ClassFile) (pair : IsPair r files w class file also) where
    is_file : IsClassFile file
    is_file = at_index IsClassFile r.classes.folder class file verified.tree.folder pair.there

    abbrev HasTyping : Method → Type 0
    HasTyping method = (frames : Option (List Frame)) × TypesMethod (scope_of after also method) frames

    -- the frames of a scope that a method has
    has_typing : (method : Method) (scope : Scope) (frames : List Frame) → scope_of after also method ≡ Some scope → Typed scope frames → HasTyping method
    has_typing method scope frames is typed =
        (Some frames, subst (λ (found : Option Scope). TypesMethod found (Some frames)) (sym is) typed)

    method_has : (number : ℕ) (method now : Method) (frames : Option (List Frame)) → slice_get file.methods number ≡ Some method
        → IsMethodWritten r (numbered r files w class file also pair number) method now
        → TypesMethod (scope_of before file method) frames
        → HasTyping now
    method_has number method _ frames got (is_kept has kept) typed =
        (frames, laws.typed before after file also number method frames ready.headers is_file (ready.grown class file also pair.there pair.is) got typed)
    method_has number method _ frames got (is_rewritten {w = v} is_at) typed =
        let here = found r files w verified ready class file also pair number method got v is_at in
        let host : Scope = record { headers = before; class = file; method = method; part = here.part } in
        let now = now_scope r files w class file also pair method v.part in
        has_typing now.method now (frames_by_offset (laid_of host v is_at.is.framed.state)) here.scope
        (method_typed r files w verified ready class file also pair number method got v is_at laws.typing (well.emitted (numbered r files w class file also pair number) v is_at)
        (sound.methods (numbered r files w class file also pair number) v host now here.is))

    abbrev HaveTyping : List Method → Type 0
    HaveTyping methods = (frames : List (Option (List Frame))) × AreTypedMethods after also methods frames

    methods_have : (number : ℕ) (methods news : List Method) (frames : List (Option (List Frame))) → AreMethodsWritten r class number methods news
        → ((n m : ℕ) (method : Method) → m ≡ number + n → slice_get methods n ≡ Some method → slice_get file.methods m ≡ Some method)
        → AreTypedMethods before file methods frames
        → HaveTyping news
    methods_have number [] [] frames all got typed = ([], tt)
    methods_have number [] (now ∷ news) frames all got typed = absurd all
    methods_have number (method ∷ methods) [] frames all got typed = absurd all
    methods_have number (method ∷ methods) (now ∷ news) [] all got typed = absurd typed
    methods_have number (method ∷ methods) (now ∷ news) (one ∷ frames) all got typed =
        let first = method_has number method now one (got zero number method (omega arith) refl) all.0 typed.0 in
        let rest =
        methods_have (suc number) methods news frames all.1 (λ n m other e is. got (suc n) m other (omega (arith, e)) is) typed.1 in
        (first.0 ∷ rest.0, (first.1, rest.1))

    one_has : (method : Method) (pool : Constants) → IsMade r w.written (header_of file).name → IsPoolBefore r class file (length file.methods) pool
        → grow 65535 pool (constructor_method_needs before r.constructor (header_of file).name) ≡ Some also.pool
        → (is : IsConstructorMethod before r.constructor (header_of file).name also.pool method)
        → HasTyping method
    one_has method pool made first grows is =
        let here = ready.constructors class file also method pool pair.there pair.is made first grows is in
        let typed = laws.constructor before r.constructor file (added_scope r files w class file also pair method is) here in
        let scope : scope_of after also method ≡ Some (added_scope r files w class file also pair method is) = rw (here.code) refl in
        has_typing method (added_scope r files w class file also pair method is) typed.0 scope typed.1

    added_have : {pool last : Constants} (added : List Method) → IsPoolBefore r class file (length file.methods) pool
        → AddsMethods r w.written file pool last added
        → last ≡ also.pool
        → HaveTyping added
    added_have _ first (adds_none none) same = ([], tt)
    added_have {pool = pool} _ first (adds_one {method = method} made grows is_method) same =
        let one =
        one_has method pool made first (grows ∙ ap Some same)
        (subst (λ (p : Constants). IsConstructorMethod before r.constructor (header_of file).name p method) same is_method) in
        (one.0 ∷ [], (one.1, tt))

    class_has : (frames : List (Option (List Frame))) → AreTypedMethods before file file.methods frames → HaveTyping also.methods
    class_has frames typed =
        let kept =
        methods_have zero file.methods pair.is.methods frames pair.is.are_methods
        (λ n m method e is. subst (λ (k : ℕ). slice_get file.methods k ≡ Some method) (omega (arith, e)) is) typed in
        let added = added_have pair.is.added pair.is.before_constructors pair.is.adds (sym (ap (λ (c : ClassFile). c.pool) pair.is.is)) in
        subst HaveTyping (sym (ap (λ (c : ClassFile). c.methods) pair.is.is))
        (kept.0 ++ added.0, both_typed after also pair.is.methods pair.is.added kept.0 added.0 kept.1 added.1)

  classes_have : (number : ℕ) (olds news : List ClassFile) (typed : FolderFrames) → ArePairs r files w number olds news
      → AreTypedClasses before olds typed
      → (frames : FolderFrames) × AreTypedClasses after news frames
  classes_have number [] [] typed all types = ([], tt)
  classes_have number [] (also ∷ news) typed all types = absurd all
  classes_have number (file ∷ olds) [] typed all types = absurd all
  classes_have number (file ∷ olds) (also ∷ news) [] all types = absurd types
  classes_have number (file ∷ olds) (also ∷ news) (one ∷ typed) all types =
      let first = class_has number file also all.0 one types.0 in
      let rest = classes_have (suc number) olds news typed all.1 types.1 in
      (first.0 ∷ rest.0, (first.1, rest.1))

  -- Frames type the written folder.
  pub folder_typed : (frames : FolderFrames) × TypesFolder (with_folder r.classes files) frames
  folder_typed = classes_have zero r.classes.folder files r.typed (all_pairs r files w) verified.types
