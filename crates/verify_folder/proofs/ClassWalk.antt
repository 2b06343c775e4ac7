-- The classes of a folder, verified one after another.
use Rattle.std.proofs.Common.{◌≡◌, ◌+◌, ◌<◌, inl, inr, ℕ, List, [], ◌∷◌, ◌++◌, length, take, drop, get_or, slice_get, Option, Some, Result, Ok, Err, sym, subst}
use Rattle.std.proofs.lemmas.List.{take-append-drop}
use Rattle.class_model.specs.Header.{header_of}
use Rattle.class_model.specs.Laws.Lists.{drop_item, take_item}
use Rattle.class_model.specs.declared.class_file.ClassFile.{ClassFile}
use Rattle.class_model.specs.declared.frame.Frame.{Frame}
use Rattle.class_tree.specs.Headers.{Classes, Headers, headers_of}
use Rattle.flow_code.specs.TypedFrames.{FolderFrames}
use Rattle.type_rules.specs.Verified.{AreTypedClasses, AreTypedMethods}
use Rattle.type_rules.specs.declared.fault.VerifyFault.{VerifyFault}
use Rattle.type_rules.specs.declared.fault.VerifyFault.TheVariants as faults
use Rattle.verify_folder.proofs.MethodWalk.{item_at}
use Rattle.verify_folder.specs.Inner.Verifying.{ClassIsTyped, ClassVerifies}
use Rattle.verify_folder.specs.Verifying.{Failure, failure_of, ClassesFail, FolderVerifies, MethodsFail, TypesFirst, AreFirstTyped, FirstAreTyped}

-- ---- classes before others

types_both : (headers : Headers) (classes others : List ClassFile) (typed rest : FolderFrames) → AreTypedClasses headers classes typed → AreTypedClasses headers others rest → AreTypedClasses headers (classes ++ others) (typed ++ rest)
types_both headers [] others [] rest types behind = behind
types_both headers [] others (own ∷ typed) rest types behind = absurd types
types_both headers (class ∷ classes) others [] rest types behind = absurd types
types_both headers (class ∷ classes) others (own ∷ typed) rest types behind = (types.0, types_both headers classes others typed rest types.1 behind)

fails_behind : (headers : Headers) (classes others : List ClassFile) (typed : FolderFrames) (failure : Failure) → AreTypedClasses headers classes typed → ClassesFail headers others failure → ClassesFail headers (classes ++ others) failure
fails_behind headers [] others typed failure types fails = fails
fails_behind headers (class ∷ classes) others [] failure types fails = absurd types
fails_behind headers (class ∷ classes) others (own ∷ typed) failure types fails = inr ((own, types.0), fails_behind headers classes others typed failure types.1 fails)

-- ---- one class after the other

-- the class at a place, which was read off these items
pub class_at : (classes : Classes) (items : List ClassFile) (place : ℕ) (class : ClassFile) → items ≡ classes.folder → place < length classes.folder → class ≡ get_or items place class → slice_get classes.folder place ≡ Some class
class_at classes items place class same within is = item_at classes.folder items place class class same (subst (λ folder. place < length folder) (sym same) within) is

module _ (classes : Classes) (place : ℕ) (typed : FolderFrames) (class : ClassFile) (types : TypesFirst classes place typed) (found : slice_get classes.folder place ≡ Some class) where
  pub one_more : (own : List (Option (List Frame))) → AreTypedMethods (headers_of classes) class class.methods own → TypesFirst classes (place + 1) (typed ++ own ∷ [])
  one_more own verifies =
      subst (λ first. AreTypedClasses (headers_of classes) first (typed ++ own ∷ [])) (sym (take_item classes.folder place class found))
      (types_both (headers_of classes) (take place classes.folder) (class ∷ []) typed (own ∷ []) types (verifies, tt))

  stops : (failure : Failure) → MethodsFail (headers_of classes) class class.methods (header_of class).methods failure → ClassesFail (headers_of classes) classes.folder failure
  stops failure fails =
      subst (λ all. ClassesFail (headers_of classes) all failure) (take-append-drop place classes.folder)
      (fails_behind (headers_of classes) (take place classes.folder) (drop place classes.folder) typed failure types
      (subst (λ behind. ClassesFail (headers_of classes) behind failure) (sym (drop_item classes.folder place class found)) (inl fails)))

  -- the first failure of the class is that of the folder
  pub folder_stops : (fault : VerifyFault) → ClassVerifies (headers_of classes) class (Err fault) → FolderVerifies classes (Err fault)
  folder_stops (faults.Unverified name method offset rule) fails = stops (failure_of name method offset rule) fails
  folder_stops faults.NoMemory fails = tt

-- the same where the frames are not kept
pub one_checked : (classes : Classes) (place : ℕ) (class : ClassFile) → AreFirstTyped classes place → slice_get classes.folder place ≡ Some class
    → (result : Result (Unit {0}) VerifyFault) → ClassIsTyped (headers_of classes) class result → FirstAreTyped classes (place + 1) result
one_checked classes place class first found (Ok done) told = (first.0 ++ told.0 ∷ [], one_more classes place first.0 class first.1 found told.0 told.1)
one_checked classes place class first found (Err (faults.Unverified name method offset rule)) told = stops classes place first.0 class first.1 found (failure_of name method offset rule) told
one_checked classes place class first found (Err faults.NoMemory) told = tt
