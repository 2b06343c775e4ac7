-- Files put under a root one after the other.
use Rattle.std.proofs.Common.{◌≡◌, ℕ, ◌+◌, ◌<◌, Bool, true, false, List, [], ◌∷◌, ◌++◌, take, drop, get_or, length, bytes_eq, Option, Some, cond, Decides, refl, sym, ap, ◌∙◌, subst}
use Rattle.std.proofs.lemmas.Slice.Eq.{bytes_eq-Decides}
use Rattle.std.proofs.lemmas.List.{drop_more, take_more, take-append-drop}
use Rattle.std.proofs.lemmas.Bool.{false≢true}
use Rattle.host_tree.specs.Host.{Bytes, Files, SameElsewhere}
use Rattle.pea_top.specs.declared.folder.NamedFile.{NamedFile}
use Rattle.pea_top.specs.Inner.Writing.{content_after, Puts, PutsSome}

-- what stands under a name after one more file
content_after-push : (done : List NamedFile) (file : NamedFile) (name : Bytes) (old : Option Bytes)
    → content_after (done ++ file ∷ []) name old ≡ cond (bytes_eq name file.name) (Some file.bytes) (content_after done name old)
content_after-push [] file name old = refl
content_after-push (first ∷ done) file name old = content_after-push done file name (cond (bytes_eq name first.name) (Some first.bytes) old)

-- by whether the name is that of the file that was put last
put_one : (root : Bytes) (done : List NamedFile) (file : NamedFile) (old mid new : Files) → Puts root done old mid → new root file.name ≡ Some file.bytes
    → SameElsewhere root file.name mid new → (name : Bytes) (same : Bool) → Decides same (name ≡ file.name) → new root name ≡ cond same (Some file.bytes) (content_after done name (old root name))
put_one root done file old mid new before here elsewhere name true is = ap (λ n. new root n) (is.0 refl) ∙ here
put_one root done file old mid new before here elsewhere name false is = elsewhere root name (λ p. false≢true (is.1 p.1)) ∙ before.put name

-- one more file was put
Puts-push : (root : Bytes) (done : List NamedFile) (file : NamedFile) (old mid new : Files) → Puts root done old mid → new root file.name ≡ Some file.bytes
    → SameElsewhere root file.name mid new → Puts root (done ++ file ∷ []) old new
Puts-push root done file old mid new before here elsewhere = record {
  put = λ name. put_one root done file old mid new before here elsewhere name (bytes_eq name file.name) (bytes_eq-Decides name file.name) ∙ sym (content_after-push done file name (old root name));
  others = λ other name ne. elsewhere other name (λ p. ne p.0) ∙ before.others other name ne;
}

-- the file at an index, under its name and with its bytes as a call was passed them
module _ (root : Bytes) (files : List NamedFile) (i : ℕ) (file : NamedFile) (name bytes : Bytes) (old mid new : Files) (lt : i < length files) (is : file ≡ get_or files i file) (its_name : name ≡ file.name)
    (before : Puts root (take i files) old mid) (elsewhere : SameElsewhere root name mid new) where
  elsewhere_own : SameElsewhere root file.name mid new
  elsewhere_own = λ other n apart. elsewhere other n (λ p. apart (p.0, p.1 ∙ its_name))

  -- it was put
  pub Puts-more : bytes ≡ file.bytes → new root name ≡ Some bytes → Puts root (take (i + 1) files) old new
  Puts-more its_bytes here =
      let put : new root file.name ≡ Some file.bytes = ap (λ n. new root n) (sym its_name) ∙ here ∙ ap (λ b. Some b) its_bytes in
      let one = Puts-push root (take i files) file old mid new before put elsewhere_own in
      subst (λ (done : List NamedFile). Puts root done old new) (ap (λ f. take i files ++ f ∷ []) is ∙ sym (take_more files i file lt)) one

  -- its write failed
  pub PutsSome-fails : PutsSome root files old new
  PutsSome-fails = record {
    done = take i files;
    failing = file;
    left = drop (i + 1) files;
    parts = sym (take-append-drop i files) ∙ ap (λ rest. take i files ++ rest) (drop_more files i file lt ∙ ap (λ f. f ∷ drop (i + 1) files) (sym is));
    put = λ n ne. elsewhere root n (λ p. ne (p.1 ∙ its_name)) ∙ before.put n;
    others = λ other n ne. elsewhere other n (λ p. ne p.0) ∙ before.others other n ne;
  }
