-- What becomes of the files where one is put under a root and a name.
use Rattle.std.proofs.Common.{◌≡◌, Bool, true, false, cond, Option, Some, String, BTreeMap, sym, refl, ap, ◌∙◌}
use Rattle.std.specs.BTreeMap.{get_by_text}
use Rattle.std.specs.Map.{update}
use Rattle.std.specs.Str.{bytes_eq}
use Rattle.std.specs.Cmp.Lexicographic.{bytes_decides}
use Rattle.std.proofs.lemmas.Bool.{false_from_ne_true}
use Rattle.host_tree.specs.Host.{Bytes, SameElsewhere, SameFiles}
use Rattle.host_tree.specs.Tree.{opened}

module _ {Y : Type 0} (old new : Bytes → Option (BTreeMap (String Y) Bytes)) (root : Bytes) (folder : BTreeMap (String Y) Bytes) (roots : (r : Bytes) → new r ≡ update bytes_eq old root (Some folder) r) where
  -- the root has the new folder
  at_root : (r : Bytes) → root ≡ r → new r ≡ Some folder
  at_root r same = roots r ∙ ap (λ b. cond b (Some folder) (old r)) ((bytes_decides root r).1 same)

  -- another root has the folder that it had
  at_other : (r : Bytes) → bytes_eq root r ≡ false → new r ≡ old r
  at_other r differs = roots r ∙ ap (λ b. cond b (Some folder) (old r)) differs

  -- the files stay where the new folder has those that the root had
  pub same_files : ((n : Bytes) → get_by_text folder n ≡ opened (old root) n) → SameFiles (λ r n. opened (old r) n) (λ r n. opened (new r) n)
  same_files names r n = by_root (bytes_eq root r) refl
    where
      by_root : (b : Bool) → bytes_eq root r ≡ b → opened (new r) n ≡ opened (old r) n
      by_root false e = ap (λ f. opened f n) (at_other r e)
      by_root true e =
          let same = (bytes_decides root r).0 e in
          ap (λ f. opened f n) (at_root r same) ∙ names n ∙ ap (λ x. opened (old x) n) same

  module _ (name bytes : Bytes) (names : (n : Bytes) → get_by_text folder n ≡ update bytes_eq (opened (old root)) name (Some bytes) n) where
    -- the file is there
    pub put_holds : opened (new root) name ≡ Some bytes
    put_holds =
        ap (λ f. opened f name) (at_root root refl) ∙ names name ∙ ap (λ b. cond b (Some bytes) (opened (old root) name)) ((bytes_decides name name).1 refl)

    -- the other files are as before
    pub same_elsewhere : SameElsewhere root name (λ r n. opened (old r) n) (λ r n. opened (new r) n)
    same_elsewhere r n apart = by_root (bytes_eq root r) refl
      where
        by_root : (b : Bool) → bytes_eq root r ≡ b → opened (new r) n ≡ opened (old r) n
        by_root false e = ap (λ f. opened f n) (at_other r e)
        by_root true e =
            let same = (bytes_decides root r).0 e in
            let differs = false_from_ne_true _ (λ t. apart (sym same, sym ((bytes_decides name n).0 t))) in
            ap (λ f. opened f n) (at_root r same) ∙ names n ∙ ap (λ b. cond b (Some bytes) (opened (old root) n)) differs ∙ ap (λ x. opened (old x) n) same
