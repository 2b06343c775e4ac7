-- A written folder has method handles and method types where the folder has them.
use Rattle.std.proofs.Common.{◌≡◌, ◌||◌, ◌∙◌, ℕ, zero, suc, Bool, List, [], ◌∷◌, refl, ap}
use Rattle.std.specs.List.{list_any}
use Rattle.class_model.specs.declared.class_file.ClassFile.{ClassFile}
use Rattle.class_model.specs.declared.pool.Const.{Const}
use Rattle.class_rewrite.proofs.AddedConstants.{class_adds}
use Rattle.class_rewrite.proofs.FolderPairs.{ArePairs, IsPair, all_pairs}
use Rattle.class_rewrite.proofs.SameConstants.{no_handles, same_found}
use Rattle.class_rewrite.specs.Rewriting.Folders.{IsFolderWritten}
use Rattle.class_rewrite.specs.Rewriting.Methods.{Rewriting}
use Rattle.class_tree.specs.Steps.{has_constant, is_method_handle, is_method_type}

module _ (r : Rewriting) (files : List ClassFile) (w : IsFolderWritten r files) where
  found_alike : (test : Const → Bool)
      → ((number : ℕ) (file also : ClassFile) → IsPair r files w number file also → has_constant test also ≡ has_constant test file)
      → (number : ℕ) (olds news : List ClassFile)
      → ArePairs r files w number olds news
      → list_any (has_constant test) news ≡ list_any (has_constant test) olds
  found_alike test each number [] [] all = refl
  found_alike test each number [] (also ∷ news) all = absurd all
  found_alike test each number (file ∷ olds) [] all = absurd all
  found_alike test each number (file ∷ olds) (also ∷ news) all =
      ap (λ (b : Bool). b || list_any (has_constant test) news) (each number file also all.0)
      ∙ ap (λ (b : Bool). has_constant test file || b) (found_alike test each (suc number) olds news all.1)

  handle_same : (number : ℕ) (file also : ClassFile) → IsPair r files w number file also
      → has_constant is_method_handle also ≡ has_constant is_method_handle file
  handle_same number file also pair =
      let adds = class_adds r w.written w.s number file also pair.is in
      same_found is_method_handle file also adds.more adds.is (no_handles adds.more adds.none)

  type_same : (number : ℕ) (file also : ClassFile) → IsPair r files w number file also
      → has_constant is_method_type also ≡ has_constant is_method_type file
  type_same number file also pair =
      let adds = class_adds r w.written w.s number file also pair.is in
      same_found is_method_type file also adds.more adds.is adds.no_types

  pub handles_same : list_any (has_constant is_method_handle) files ≡ list_any (has_constant is_method_handle) r.classes.folder
  handles_same = found_alike is_method_handle handle_same zero r.classes.folder files (all_pairs r files w)

  pub types_same : list_any (has_constant is_method_type) files ≡ list_any (has_constant is_method_type) r.classes.folder
  types_same = found_alike is_method_type type_same zero r.classes.folder files (all_pairs r files w)
