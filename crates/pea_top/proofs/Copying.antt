-- Files put in their order under a root, which are a folder.
use Rattle.std.proofs.Common.{◌≡◌, ◌≢◌, ℕ, zero, suc, ◌+◌, ◌<◌, Bool, true, false, List, [], ◌∷◌, ◌++◌, map, cond, bytes_eq, Option, Some, None, Decides, refl, sym, ap, ◌∙◌, subst, arith}
use Rattle.std.specs.Cmp.Lexicographic.{slice_cmp}
use Rattle.std.specs.List.{AllByRecursion}
use Rattle.std.specs.List.Sorted.{IsSorted}
use Rattle.std.specs.Option.{is_some}
use Rattle.std.specs.Ordering.{nat_cmp}
use Rattle.std.proofs.lemmas.Bool.{cond-false, false_from_ne_true}
use Rattle.std.proofs.lemmas.List.{map-append}
use Rattle.std.proofs.lemmas.List.Sums.{sum_by-append}
use Rattle.std.proofs.lemmas.Slice.Eq.{bytes_eq-Decides}
use Rattle.host_tree.specs.Host.{Bytes, Folder, Files, times}
use Rattle.host_tree.specs.Laws.Names.{times-cons}
use Rattle.pea_top.specs.declared.folder.NamedFile.{NamedFile}
use Rattle.pea_top.specs.Effects.{ArePut, ArePartlyPut}
use Rattle.pea_top.specs.Folders.{IsBytesBefore}
use Rattle.pea_top.specs.Inner.Reading.{AreFiles}
use Rattle.pea_top.specs.Inner.Writing.{content_after, Puts, PutsSome}
use Rattle.pea_top.proofs.NamesInOrder.{IsBytesBefore-other, later_not_before, earlier_not_after}

abbrev names_of : List NamedFile → List Bytes
names_of files = map (λ file. file.name) files

abbrev AreContents : Folder → List NamedFile → Type 0
AreContents folder files = AllByRecursion (λ file. folder file.name ≡ Some file.bytes) files

absent_step : (same : Bool) (file : NamedFile) (files : List NamedFile) (name : Bytes) (old : Option Bytes) → cond same 1 0 + times name (names_of files) ≡ 0
    → ((before : Option Bytes) → times name (names_of files) ≡ 0 → content_after files name before ≡ before) → content_after files name (cond same (Some file.bytes) old) ≡ old
absent_step true file files name old none rest = absurd (omega arith)
absent_step false file files name old none rest = rest old (omega arith)

-- a name that no file has keeps what it had
content_after-absent : (files : List NamedFile) (name : Bytes) (old : Option Bytes) → times name (names_of files) ≡ 0 → content_after files name old ≡ old
content_after-absent [] name old none = refl
content_after-absent (file ∷ files) name old none =
    absent_step (bytes_eq name file.name) file files name old (sym (times-cons name file.name (names_of files)) ∙ none) (content_after-absent files name)

-- by whether the file has the name
put_step : (folder : Folder) (same : Bool) (file : NamedFile) (name : Bytes) (old : Option Bytes) → Decides same (name ≡ file.name) → folder file.name ≡ Some file.bytes
    → old ≡ folder name → cond same (Some file.bytes) old ≡ folder name
put_step folder true file name old is here before = sym here ∙ ap folder (sym (is.0 refl))
put_step folder false file name old is here before = before

-- where the folder's content stood already, it stands afterwards
content_after-keeps : (folder : Folder) (files : List NamedFile) (name : Bytes) (old : Option Bytes) → AreContents folder files → old ≡ folder name → content_after files name old ≡ folder name
content_after-keeps folder [] name old are before = before
content_after-keeps folder (file ∷ files) name old are before =
    content_after-keeps folder files name (cond (bytes_eq name file.name) (Some file.bytes) old) are.1 (put_step folder (bytes_eq name file.name) file name old (bytes_eq-Decides name file.name) are.0 before)

here_step : (folder : Folder) (same : Bool) (file : NamedFile) (files : List NamedFile) (name : Bytes) (old : Option Bytes) → Decides same (name ≡ file.name) → folder file.name ≡ Some file.bytes
    → AreContents folder files → 0 < cond same 1 0 + times name (names_of files) → (0 < times name (names_of files) → content_after files name old ≡ folder name)
    → content_after files name (cond same (Some file.bytes) old) ≡ folder name
here_step folder true file files name old is here are some rest = content_after-keeps folder files name (Some file.bytes) are (sym here ∙ ap folder (sym (is.0 refl)))
here_step folder false file files name old is here are some rest = rest (omega arith)

-- a name that some file has gets what the folder has under it
content_after-here : (folder : Folder) (files : List NamedFile) (name : Bytes) (old : Option Bytes) → AreContents folder files → 0 < times name (names_of files) → content_after files name old ≡ folder name
content_after-here folder [] name old are some = absurd (omega arith)
content_after-here folder (file ∷ files) name old are some =
    let counted : 0 < cond (bytes_eq name file.name) 1 0 + times name (names_of files) = omega (arith, times-cons name file.name (names_of files)) in
    here_step folder (bytes_eq name file.name) file files name old (bytes_eq-Decides name file.name) are.0 are.1 counted (content_after-here folder files name old are.1)

-- a name that the folder has stands among the names, and no other does
times-some : (folder : Folder) (files : List NamedFile) (name bytes : Bytes) → AreFiles folder files → folder name ≡ Some bytes → times name (names_of files) ≡ 1
times-some folder files name bytes are there = are.names.once name ∙ ap (λ o. cond (is_some o) 1 0) there

times-none : (folder : Folder) (files : List NamedFile) (name : Bytes) → AreFiles folder files → folder name ≡ None → times name (names_of files) ≡ 0
times-none folder files name are there = are.names.once name ∙ ap (λ o. cond (is_some o) 1 0) there

-- all of the files were put
pub files_are_put : (final : Folder) (output : Bytes) (files : List NamedFile) (old new : Files) → AreFiles final files → Puts output files old new → ArePut final output old new
files_are_put final output files old new are puts = record {
  put = λ name bytes there.
      let once = times-some final files name bytes are there in
      puts.put name ∙ content_after-here final files name (old output name) are.contents (omega (arith, once)) ∙ there;
  kept = λ name none. puts.put name ∙ content_after-absent files name (old output name) (times-none final files name are none);
  others = puts.others;
}

contents_before : (folder : Folder) (done left : List NamedFile) → AreContents folder (done ++ left) → AreContents folder done
contents_before folder [] left are = tt
contents_before folder (file ∷ done) left are = (are.0, contents_before folder done left are.1)

contents_after : (folder : Folder) (done left : List NamedFile) → AreContents folder (done ++ left) → AreContents folder left
contents_after folder [] left are = are
contents_after folder (file ∷ done) left are = contents_after folder done left are.1

none_from : (n : ℕ) → ¬ (0 < n) → n ≡ 0
none_from zero none = refl
none_from (suc n) none = absurd (none (omega arith))

-- the files around one whose write failed
module _ (final : Folder) (output : Bytes) (done : List NamedFile) (failing : NamedFile) (left : List NamedFile) (old new : Files) (are : AreFiles final (done ++ failing ∷ left))
    (put : (name : Bytes) → name ≢ failing.name → new output name ≡ content_after done name (old output name))
    (others : (other name : Bytes) → other ≢ output → new other name ≡ old other name) where
  names_parts : names_of (done ++ failing ∷ left) ≡ names_of done ++ failing.name ∷ names_of left
  names_parts = map-append (λ file. file.name) done (failing ∷ left)

  in_order : IsSorted (slice_cmp nat_cmp) (names_of done ++ failing.name ∷ names_of left)
  in_order = subst (IsSorted (slice_cmp nat_cmp)) names_parts are.names.in_order

  times_parts : (name : Bytes) → times name (names_of (done ++ failing ∷ left)) ≡ times name (names_of done) + (cond (bytes_eq name failing.name) 1 0 + times name (names_of left))
  times_parts name = ap (times name) names_parts ∙ sum_by-append _ (names_of done) (failing.name ∷ names_of left) ∙ ap (λ n. times name (names_of done) + n) (times-cons name failing.name (names_of left))

  there_failing : final failing.name ≡ Some failing.bytes
  there_failing = (contents_after final done (failing ∷ left) are.contents).0

  put_before : (name bytes : Bytes) → IsBytesBefore name failing.name → final name ≡ Some bytes → new output name ≡ Some bytes
  put_before name bytes before there =
      let other = IsBytesBefore-other name failing.name before in
      let apart : cond {A = ℕ} (bytes_eq name failing.name) 1 0 ≡ 0 = cond-false (bytes_eq name failing.name) 1 0 (false_from_ne_true (bytes_eq name failing.name) (λ e. other ((bytes_eq-Decides name failing.name).0 e))) in
      let none_later = none_from (times name (names_of left)) (λ some. later_not_before (names_of done) failing.name (names_of left) in_order name some before) in
      let once = times-some final (done ++ failing ∷ left) name bytes are there in
      let earlier : 0 < times name (names_of done) = omega (arith, times_parts name) in
      put name other ∙ content_after-here final done name (old output name) (contents_before final done (failing ∷ left) are.contents) earlier ∙ there

  kept_absent : (name : Bytes) → times name (names_of done) ≡ 0 → name ≢ failing.name → new output name ≡ old output name
  kept_absent name none other = put name other ∙ content_after-absent done name (old output name) none

  partly_put : ArePartlyPut final output old new
  partly_put = record {
    failing = failing.name;
    is_written = ap is_some there_failing;
    before = put_before;
    after = λ name behind. kept_absent name (none_from _ (λ some. earlier_not_after (names_of done) failing.name (names_of left) in_order name some behind)) (λ same. IsBytesBefore-other failing.name name behind (sym same));
    kept = λ name none other.
        let nowhere = times-none final (done ++ failing ∷ left) name are none in
        kept_absent name (omega (arith, times_parts name)) other;
    others = others;
  }

-- some of the files were put
pub files_are_partly_put : (final : Folder) (output : Bytes) (files : List NamedFile) (old new : Files) → AreFiles final files → PutsSome output files old new → ArePartlyPut final output old new
files_are_partly_put final output files old new are puts =
    partly_put final output puts.done puts.failing puts.left old new (subst (AreFiles final) puts.parts are) puts.put puts.others
