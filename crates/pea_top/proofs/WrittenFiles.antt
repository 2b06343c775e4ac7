-- What is written of files, one after the other, as a folder.
use Rattle.std.proofs.Common.{◌≡◌, ◌<◌, ◌≤◌, ◌+◌, ℕ, Bool, true, false, List, [], ◌∷◌, cond, map, bytes_eq, Option, Some, None, is_some, IsSorted, refl, sym, ap, ◌∙◌, subst, arith}
use Rattle.std.proofs.lemmas.Slice.Eq.{bytes_eq-Decides}
use Rattle.std.specs.Cmp.Lexicographic.{slice_cmp}
use Rattle.std.specs.List.{AllByRecursion}
use Rattle.std.specs.Ordering.{nat_cmp}
use Rattle.class_model.specs.declared.class_file.ClassFile.{ClassFile}
use Rattle.class_tree.specs.Headers.{Classes}
use Rattle.host_tree.specs.Host.{Bytes, Folder, times}
use Rattle.host_tree.specs.Laws.Names.{times-cons}
use Rattle.pea_top.specs.Inner.Optimising.{AreWrittenFiles, IsWrittenFile}
use Rattle.pea_top.specs.Inner.Reading.{AreFiles}
use Rattle.pea_top.specs.Optimising.{AreFinal, IsFinal}
use Rattle.pea_top.specs.declared.folder.NamedFile.{NamedFile}

abbrev names_of : List NamedFile → List Bytes
names_of files = map (λ file. file.name) files

-- ---- files as a folder

-- these files, the first of a name
pub folder_of : List NamedFile → Folder
folder_of [] name = None
folder_of (file ∷ files) name = cond (bytes_eq name file.name) (Some file.bytes) (folder_of files name)

-- under a name there is one, where the name stands among theirs at most once
held_step : (name : Bytes) (file : NamedFile) (files : List NamedFile) (same : Bool) → bytes_eq name file.name ≡ same → times name (names_of (file ∷ files)) ≤ 1
    → (times name (names_of files) ≤ 1 → times name (names_of files) ≡ cond (is_some (folder_of files name)) 1 0)
    → times name (names_of (file ∷ files)) ≡ cond (is_some (folder_of (file ∷ files) name)) 1 0
unfolding folder_of
held_step name file files true e most rest =
    let more = times-cons name file.name (names_of files) ∙ ap {B = ℕ} (λ b. cond b 1 0 + times name (names_of files)) e in
    let one : times name (names_of (file ∷ files)) ≡ 1 = omega (arith, more, most) in
    one ∙ sym (ap {B = ℕ} (λ b. cond (is_some (cond b (Some file.bytes) (folder_of files name))) 1 0) e)
held_step name file files false e most rest =
    let more = times-cons name file.name (names_of files) ∙ ap {B = ℕ} (λ b. cond b 1 0 + times name (names_of files)) e in
    let same : times name (names_of (file ∷ files)) ≡ times name (names_of files) = omega (arith, more) in
    same ∙ rest (omega (arith, same, most)) ∙ sym (ap {B = ℕ} (λ b. cond (is_some (cond b (Some file.bytes) (folder_of files name))) 1 0) e)

held_once : (name : Bytes) (files : List NamedFile) → times name (names_of files) ≤ 1 → times name (names_of files) ≡ cond (is_some (folder_of files name)) 1 0
unfolding folder_of
held_once name [] most = refl
held_once name (file ∷ files) most = held_step name file files (bytes_eq name file.name) refl most (held_once name files)

-- where a name does not stand among theirs, there is none
none_step : (name : Bytes) (file : NamedFile) (files : List NamedFile) (same : Bool) → bytes_eq name file.name ≡ same → times name (names_of (file ∷ files)) ≡ 0
    → (times name (names_of files) ≡ 0 → folder_of files name ≡ None)
    → folder_of (file ∷ files) name ≡ None
unfolding folder_of
none_step name file files true e none rest = absurd (omega (arith, none, times-cons name file.name (names_of files) ∙ ap {B = ℕ} (λ b. cond b 1 0 + times name (names_of files)) e))
none_step name file files false e none rest =
    ap (λ b. cond b (Some file.bytes) (folder_of files name)) e
    ∙ rest (omega (arith, none, times-cons name file.name (names_of files) ∙ ap {B = ℕ} (λ b. cond b 1 0 + times name (names_of files)) e))

none_held : (name : Bytes) (files : List NamedFile) → times name (names_of files) ≡ 0 → folder_of files name ≡ None
unfolding folder_of
none_held name [] none = refl
none_held name (file ∷ files) none = none_step name file files (bytes_eq name file.name) refl none (none_held name files)

-- The first file of a list holds its bytes, and what holds of the folder of the rest under another name holds of the whole.
first_held : (file : NamedFile) (files : List NamedFile) → folder_of (file ∷ files) file.name ≡ Some file.bytes
unfolding folder_of
first_held file files = ap (λ b. cond b (Some file.bytes) (folder_of files file.name)) ((bytes_eq-Decides file.name file.name).1 refl)

-- files, none of whose names is that of the first, are held as without it
rest_held : (file : NamedFile) (files others : List NamedFile) → ((name : Bytes) → 0 < times name (names_of others) → bytes_eq name file.name ≡ false)
    → AllByRecursion (λ other. folder_of files other.name ≡ Some other.bytes) others
    → AllByRecursion (λ other. folder_of (file ∷ files) other.name ≡ Some other.bytes) others
unfolding folder_of
rest_held file files [] apart all = tt
rest_held file files (other ∷ others) apart all =
    let here = times-cons other.name other.name (names_of others) ∙ ap {B = ℕ} (λ b. cond b 1 0 + times other.name (names_of others)) ((bytes_eq-Decides other.name other.name).1 refl) in
    let differs : bytes_eq other.name file.name ≡ false = apart other.name (omega (arith, here)) in (
      ap (λ b. cond b (Some file.bytes) (folder_of files other.name)) differs ∙ all.0,
      rest_held file files others (λ name some. apart name (omega (arith, some, times-cons name other.name (names_of others)))) all.1,
    )

each_held : (files : List NamedFile) → ((name : Bytes) → times name (names_of files) ≤ 1) → AllByRecursion (λ file. folder_of files file.name ≡ Some file.bytes) files
each_held [] once = tt
each_held (file ∷ files) once = (
  first_held file files,
  rest_held file files files (λ name some. apart name some (bytes_eq name file.name) refl) (each_held files (λ name. omega (arith, once name, times-cons name file.name (names_of files)))),
)
  where
    apart : (name : Bytes) → 0 < times name (names_of files) → (same : Bool) → bytes_eq name file.name ≡ same → bytes_eq name file.name ≡ false
    apart name some false e = e
    apart name some true e = absurd (omega (arith, once name, some, times-cons name file.name (names_of files) ∙ ap {B = ℕ} (λ b. cond b 1 0 + times name (names_of files)) e))

-- ---- what is written

-- it has the names of the files
written_names : (tree : Classes) (written : List ClassFile) (files outs : List NamedFile) → AreWrittenFiles tree written files outs → names_of outs ≡ names_of files
written_names tree written [] [] are = refl
written_names tree written [] (out ∷ outs) are = absurd are
written_names tree written (file ∷ files) [] are = absurd are
written_names tree written (file ∷ files) (out ∷ outs) are =
    let first : out.name ≡ file.name = are.0.name in
    let rest = written_names tree written files outs are.1 in
    ap (λ (name : Bytes). name ∷ names_of outs) first ∙ ap (λ (names : List Bytes). file.name ∷ names) rest

held_or_none : (held : Option Bytes) → cond {A = ℕ} (is_some held) 1 0 ≤ 1
held_or_none None = omega arith
held_or_none (Some bytes) = omega arith

module _ (tree : Classes) (written : List ClassFile) (folder : Folder) (files outs : List NamedFile) (are_files : AreFiles folder files) (are : AreWrittenFiles tree written files outs) where
  once_of : (name : Bytes) → times name (names_of outs) ≡ cond (is_some (folder name)) 1 0
  once_of name = ap (times name) (written_names tree written files outs are) ∙ are_files.names.once name

  at_most : (name : Bytes) → times name (names_of outs) ≤ 1
  at_most name = subst (λ (n : ℕ). n ≤ 1) (sym (once_of name)) (held_or_none (folder name))

  -- the files that are written are those of a folder
  pub written_are : AreFiles (folder_of outs) outs
  written_are = record {
    names = record {
      once = λ name. held_once name outs (at_most name);
      in_order = subst (λ (names : List Bytes). IsSorted (slice_cmp nat_cmp) names) (sym (written_names tree written files outs are)) are_files.names.in_order;
    };
    contents = each_held outs at_most;
  }

-- what is written under a name that stands among files
record Written (tree : Classes) (written : List ClassFile) (outs : List NamedFile) (name before : Bytes) : Type 0 where
  pub after : Bytes
  pub there : folder_of outs name ≡ Some after
  pub final : IsFinal tree written name before after

module _ (tree : Classes) (written : List ClassFile) (folder : Folder) (name before : Bytes) (there : folder name ≡ Some before) where
  -- by whether the first file has the name
  final_step : (same : Bool) (file out : NamedFile) (names : List Bytes) (outs : List NamedFile) → bytes_eq name file.name ≡ same → folder file.name ≡ Some file.bytes → IsWrittenFile tree written file out → 0 < times name (file.name ∷ names)
      → (0 < times name names → Written tree written outs name before) → Written tree written (out ∷ outs) name before
  unfolding folder_of
  final_step true file out names outs e here is some rest =
      let named : name ≡ file.name = (bytes_eq-Decides name file.name).0 e in
      let held : Some file.bytes ≡ Some before = sym here ∙ ap folder (sym named) ∙ there in
      let bytes : file.bytes ≡ before = cc held in
      record {
        after = out.bytes;
        there = ap (λ b. cond b (Some out.bytes) (folder_of outs name)) ((bytes_eq-Decides name out.name).1 (named ∙ sym is.name));
        final = subst (λ (b : Bytes). IsFinal tree written name b out.bytes) bytes (subst (λ (n : Bytes). IsFinal tree written n file.bytes out.bytes) (sym named) is.final);
      }
  final_step false file out names outs e here is some rest =
      let later = rest (omega (arith, some, times-cons name file.name names ∙ ap {B = ℕ} (λ b. cond b 1 0 + times name names) e)) in
      record {
        after = later.after;
        there = ap (λ b. cond b (Some out.bytes) (folder_of outs name)) (ap (bytes_eq name) is.name ∙ e) ∙ later.there;
        final = later.final;
      }

  final_here : (files outs : List NamedFile) → AllByRecursion (λ file. folder file.name ≡ Some file.bytes) files → AreWrittenFiles tree written files outs → 0 < times name (names_of files) → Written tree written outs name before
  final_here [] outs contents are some = absurd (omega arith)
  final_here (file ∷ files) [] contents are some = absurd are
  final_here (file ∷ files) (out ∷ outs) contents are some =
      final_step (bytes_eq name file.name) file out (names_of files) outs refl contents.0 are.0 some (final_here files outs contents.1 are.1)

-- they are those of the files of a folder
pub written_final : (tree : Classes) (written : List ClassFile) (folder : Folder) (files outs : List NamedFile) → AreFiles folder files → AreWrittenFiles tree written files outs → AreFinal tree written folder (folder_of outs)
written_final tree written folder files outs are_files are = record {
  each = λ name before there.
      let once = are_files.names.once name ∙ ap {B = ℕ} (λ o. cond (is_some o) 1 0) there in
      let found = final_here tree written folder name before there files outs are_files.contents are (omega (arith, once)) in
      (found.after, found.there, found.final);
  no_other = λ name none. none_held name outs (once_of tree written folder files outs are_files are name ∙ ap {B = ℕ} (λ o. cond (is_some o) 1 0) none);
}
