-- The classes of a written folder, each beside the class of the folder that it is written of.
use Rattle.std.proofs.Common.{◌≡◌, ◌+◌, ℕ, zero, suc, List, [], ◌∷◌, slice_get, Some, refl, subst, arith}
use Rattle.std.proofs.lemmas.Option.{none-some, same_Some}
use Rattle.class_model.specs.declared.class_file.ClassFile.{ClassFile}
use Rattle.class_rewrite.specs.Rewriting.Folders.{AreClassesWritten, IsClassWritten, IsFolderWritten}
use Rattle.class_rewrite.specs.Rewriting.Methods.{Rewriting}

pub record IsPair (r : Rewriting) (files : List ClassFile) (w : IsFolderWritten r files) (class : ℕ) (file also : ClassFile) : Type 0 where
  pub there : slice_get r.classes.folder class ≡ Some file
  pub now : slice_get files class ≡ Some also
  pub is : IsClassWritten r w.written w.s class file also

abbrev pub ArePairs : (r : Rewriting) (files : List ClassFile) → IsFolderWritten r files → ℕ → List ClassFile → List ClassFile → Type 0
ArePairs r files w number [] [] = Unit {0}
ArePairs r files w number (file ∷ olds) (also ∷ news) = IsPair r files w number file also × ArePairs r files w (suc number) olds news
ArePairs r files w number olds news = ⊥

module _ (r : Rewriting) (files : List ClassFile) (w : IsFolderWritten r files) where
  -- these classes stand in a folder from a number on
  abbrev StandFrom : List ClassFile → ℕ → List ClassFile → Type 0
  StandFrom folder number classes =
      (n m : ℕ) (class : ClassFile) → m ≡ number + n → slice_get classes n ≡ Some class → slice_get folder m ≡ Some class

  first_stands : (folder : List ClassFile) (number : ℕ) (class : ClassFile) (classes : List ClassFile) → StandFrom folder number (class ∷ classes)
      → slice_get folder number ≡ Some class
  first_stands folder number class classes stand = stand zero number class (omega arith) refl

  others_stand : (folder : List ClassFile) (number : ℕ) (class : ClassFile) (classes : List ClassFile) → StandFrom folder number (class ∷ classes)
      → StandFrom folder (suc number) classes
  others_stand folder number class classes stand n m other e is = stand (suc n) m other (omega (arith, e)) is

  pairs_from : (number : ℕ) (olds news : List ClassFile) → AreClassesWritten r w.written w.s number olds news
      → StandFrom r.classes.folder number olds
      → StandFrom files number news
      → ArePairs r files w number olds news
  pairs_from number [] [] all one other = tt
  pairs_from number [] (also ∷ news) all one other = absurd all
  pairs_from number (file ∷ olds) [] all one other = absurd all
  pairs_from number (file ∷ olds) (also ∷ news) all one other = (
    record {
      there = first_stands r.classes.folder number file olds one;
      now = first_stands files number also news other;
      is = all.0;
    },
    pairs_from (suc number) olds news all.1 (others_stand r.classes.folder number file olds one) (others_stand files number also news other),
  )

  stands : (folder : List ClassFile) → StandFrom folder zero folder
  stands folder n m class e is = subst (λ (k : ℕ). slice_get folder k ≡ Some class) (omega (arith, e)) is

  pub all_pairs : ArePairs r files w zero r.classes.folder files
  all_pairs = pairs_from zero r.classes.folder files w.classes (stands r.classes.folder) (stands files)

  -- a class of the folder has its class beside it
  pair_in : (number : ℕ) (olds news : List ClassFile) → ArePairs r files w number olds news
      → (n : ℕ) (file : ClassFile)
      → slice_get olds n ≡ Some file
      → (also : ClassFile) × IsPair r files w (number + n) file also
  pair_in number [] news all n file is = absurd (none-some file is)
  pair_in number (old ∷ olds) [] all n file is = absurd all
  pair_in number (old ∷ olds) (also ∷ news) all zero file is =
      let here : number ≡ number + zero = omega arith in (
        also,
        subst (λ (n : ℕ). IsPair r files w n file also) here
            (subst (λ (one : ClassFile). IsPair r files w number one also) (same_Some old file is) all.0),
      )
  pair_in number (old ∷ olds) (also ∷ news) all (suc n) file is =
      let rest = pair_in (suc number) olds news all.1 n file is in
      let here : suc number + n ≡ number + suc n = omega arith in
      (rest.0, subst (λ (m : ℕ). IsPair r files w m file rest.0) here rest.1)

  pub pair_at : (class : ℕ) (file : ClassFile) → slice_get r.classes.folder class ≡ Some file → (also : ClassFile) × IsPair r files w class file also
  pair_at class file is =
      let found = pair_in zero r.classes.folder files all_pairs class file is in
      let here : zero + class ≡ class = omega arith in
      (found.0, subst (λ (n : ℕ). IsPair r files w n file found.0) here found.1)
