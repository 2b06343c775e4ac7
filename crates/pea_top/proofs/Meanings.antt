-- What was written means what was read.
use Rattle.std.proofs.Common.{◌≡◌, ◌<◌, ℕ, zero, suc, List, [], ◌∷◌, cond, get_or, length, map, option_map, Option, Some, None, is_some, IsPermutation, IsTrue, slice_get, refl, sym, ap, ◌∙◌, subst, arith}
use Rattle.std.proofs.lemmas.List.{length-map}
use Rattle.std.proofs.lemmas.List.Sorted.{IsPermutation-map}
use Rattle.std.proofs.lemmas.Option.{get_or_from_slice_get, slice_get-map, slice_get_within}
use Rattle.std.specs.List.{AllByRecursion}
use Rattle.class_model.specs.ClassOf.{ClassOf}
use Rattle.class_model.specs.Header.{header_of}
use Rattle.class_model.specs.Spelling.{class_bytes}
use Rattle.class_model.specs.declared.class_file.ClassFile.{ClassFile}
use Rattle.class_rewrite.specs.Laws.WrittenLists.{written_len}
use Rattle.class_rewrite.specs.Optimised.{with_folder}
use Rattle.class_rewrite.specs.Rewriting.Methods.{rewriting_of}
use Rattle.class_tree.specs.Headers.{Classes, IsClassFile, headers_of}
use Rattle.class_tree.specs.Hierarchy.{IsHierarchy}
use Rattle.class_tree.specs.Order.{place_of}
use Rattle.class_tree.specs.Trees.{IsArranged, IsTree}
use Rattle.class_tree.specs.declared.place.Place.{Place}
use Rattle.class_tree.specs.declared.place.Place.TheVariants as places
use Rattle.host_tree.specs.Host.{Bytes, Folder, Files}
use Rattle.pea_top.specs.Effects.{ArePut, DoneFiles, Leaves, LeavesDone}
use Rattle.pea_top.specs.Status.{Ending, completed, refused, failed, out_of_memory}
use Rattle.pea_top.specs.Folders.{AreReadAs, HasClassFiles, class_file, names_class_file, no_name, other_file}
use Rattle.pea_top.specs.Meaning.{MeansTheSame, under_names}
use Rattle.pea_top.specs.Words.{Word, Optimise, Command, OnFolder, Spells}
use Rattle.pea_top.specs.Optimising as optimising
use Rattle.pea_top.specs.Optimising.{AreFinal, AreOptimised, IsFinal, PutsOptimised}

-- an item of a list of which all are so
item_is : {X : Type 0} (P : X → Type 0) (xs : List X) (n : ℕ) (x : X) → AllByRecursion P xs → slice_get xs n ≡ Some x → P x
item_is P [] n x are is = absurd cc
item_is P (y ∷ ys) zero x are is =
    let same : y ≡ x = cc is in
    subst P same are.0
item_is P (y ∷ ys) (suc n) x are is = item_is P ys n x are.1 is

-- bytes are those of one class file
abbrev OneClass : Type 0
OneClass = (bytes : List ℕ) (one other : ClassFile) → ClassOf bytes one → ClassOf bytes other → one ≡ other

-- ---- the class that is written of a class

-- the class at the same place
written_at : List ClassFile → Option Place → ClassFile → ClassFile
written_at written (Some (places.Folder number)) class = get_or written number class
written_at written place class = class

written_behind : Classes → List ClassFile → ClassFile → ClassFile
written_behind tree written class = written_at written (place_of (headers_of tree) (header_of class).name) class

-- lists of one length that have the same items are one
same_items : (xs ys : List ClassFile) → length xs ≡ length ys → ((n : ℕ) (x y : ClassFile) → slice_get xs n ≡ Some x → slice_get ys n ≡ Some y → x ≡ y) → xs ≡ ys
same_items [] [] count same = refl
same_items [] (y ∷ ys) count same = absurd (omega (arith, count))
same_items (x ∷ xs) [] count same = absurd (omega (arith, count))
same_items (x ∷ xs) (y ∷ ys) count same =
    let first : x ≡ y = same zero x y refl refl in
    let rest : xs ≡ ys = same_items xs ys (omega (arith, count)) (λ n. same (suc n)) in
    cc (first, rest)

module _ (one_class : OneClass) (tree : Classes) (hierarchy : IsHierarchy (headers_of tree)) (written : List ClassFile) (count : length written ≡ length tree.folder) (spelled : AllByRecursion IsClassFile written) (input final : Folder) (are : AreFinal tree written input final) where
  -- of the class at a number, the class at that number
  behind_at : (number : ℕ) (class last : ClassFile) → slice_get tree.folder number ≡ Some class → slice_get written number ≡ Some last → written_behind tree written class ≡ last
  unfolding written_at written_behind
  behind_at number class last stands is_written =
      let header = slice_get-map header_of tree.folder number ∙ ap (option_map header_of) stands in
      let placed = hierarchy.of_place (places.Folder number) (header_of class) header in
      ap (λ (place : Option Place). written_at written place class) placed.is_place ∙ get_or_from_slice_get written number last class is_written

  -- the written classes are those behind the classes of the folder
  all_behind : map (written_behind tree written) tree.folder ≡ written
  all_behind = same_items (map (written_behind tree written) tree.folder) written (length-map tree.folder (written_behind tree written) ∙ sym count)
      (λ n x y is_behind is_written.
      let within = subst (λ (k : ℕ). n < k) count (slice_get_within written n y is_written) in
      let there = there_is tree.folder n within in
      let mapped : Some (written_behind tree written there.0) ≡ Some x = sym (slice_get-map (written_behind tree written) tree.folder n ∙ ap (option_map (written_behind tree written)) there.1) ∙ is_behind in
      let behind : written_behind tree written there.0 ≡ x = cc mapped in
      sym behind ∙ behind_at n there.0 y there.1 is_written)
    where
      there_is : (xs : List ClassFile) (n : ℕ) → n < length xs → (x : ClassFile) × (slice_get xs n ≡ Some x)
      there_is [] n within = absurd (omega arith)
      there_is (x ∷ xs) zero within = (x, refl)
      there_is (x ∷ xs) (suc n) within = there_is xs n (omega (arith, within))

  -- a class file is written as the class behind the one that it is read as
  class_of_final : (name before after : Bytes) (value : ClassFile) → IsTrue (names_class_file name) → ClassOf before value → IsFinal tree written name before after → ClassOf after (written_behind tree written value)
  class_of_final name before after value named of (optimising.other_file not_named same) = absurd (not_named named)
  class_of_final name before after value named of (optimising.class_file class last number _ its_of stands is_written after_is) =
      let one : class ≡ value = one_class before class value its_of of in
      let same : last ≡ written_behind tree written value = sym (behind_at number class last stands is_written) ∙ ap (written_behind tree written) one in
      let is : ClassOf (class_bytes last) last = item_is IsClassFile written number last spelled is_written in
      subst (λ (bytes : Bytes). ClassOf bytes (written_behind tree written value)) (sym after_is) (subst (λ (class : ClassFile). ClassOf (class_bytes last) class) same is)

  reads : {names : List Bytes} {values : List ClassFile} → AreReadAs ClassOf input names values → AreReadAs ClassOf final names (map (written_behind tree written) values)
  reads no_name = no_name
  reads (class_file name bytes names value values named there of rest) =
      let each = are.each name bytes there in
      class_file name each.0 names (written_behind tree written value) (map (written_behind tree written) values) named each.1 (class_of_final name bytes each.0 value named of each.2) (reads rest)
  reads (other_file name names values not_named rest) = other_file name names (map (written_behind tree written) values) not_named (reads rest)

  same_held : (name : Bytes) → is_some (final name) ≡ is_some (input name)
  same_held name = by (input name) refl
    where
      by : (content : Option Bytes) → input name ≡ content → is_some (final name) ≡ is_some (input name)
      by None e = ap is_some (are.no_other name e) ∙ sym (ap is_some e)
      by (Some before) e = ap is_some (are.each name before e).1 ∙ sym (ap is_some e)

  final_read : {values : List ClassFile} → HasClassFiles ClassOf input values → HasClassFiles ClassOf final (map (written_behind tree written) values)
  final_read has = record {
    names = has.names;
    are_names = record { once = λ name. has.are_names.once name ∙ ap {B = ℕ} (λ b. cond b 1 0) (sym (same_held name)); in_order = has.are_names.in_order };
    are_read = reads has.are_read;
  }

  other_is : (name before after : Bytes) → ¬ IsTrue (names_class_file name) → IsFinal tree written name before after → after ≡ before
  other_is name before after not_named (optimising.other_file _ same) = same
  other_is name before after not_named (optimising.class_file class last number named _ _ _ _) = absurd (not_named named)

  final_others : (name bytes : Bytes) → ¬ IsTrue (names_class_file name) → input name ≡ Some bytes → final name ≡ Some bytes
  final_others name bytes not_named there =
      let each = are.each name bytes there in
      each.1 ∙ ap (λ (b : Bytes). Some b) (other_is name bytes each.0 not_named each.2)

  -- what a folder holds under the names of the input, where the final files were put
  module _ (folder : Folder) (put : (name bytes : Bytes) → final name ≡ Some bytes → folder name ≡ Some bytes) where
    under_is : (name : Bytes) → under_names input folder name ≡ final name
    under_is name = by (input name) refl
      where
        by : (content : Option Bytes) → input name ≡ content → under_names input folder name ≡ final name
        by None e = ap (λ (o : Option Bytes). cond (is_some o) (folder name) None) e ∙ sym (are.no_other name e)
        by (Some before) e =
            let each = are.each name before e in
            ap (λ (o : Option Bytes). cond (is_some o) (folder name) None) e ∙ put name each.0 each.1 ∙ sym each.1

    pub under_is_final : final ≡ under_names input folder
    under_is_final = λ i name. sym (under_is name) i

-- The files of a folder that was optimised were put.
pub means_the_same : OneClass → ((classes : Classes) → IsTree classes → IsHierarchy (headers_of classes)) → (input output library : Bytes) (old new : Files) → PutsOptimised (λ final. ArePut final output old new) (old input) (old library) → MeansTheSame (old input) (old library) (under_names (old input) (new output))
means_the_same one_class hierarchies input output library old new puts =
    let tree = puts.tree in
    let are = puts.are in
    let written = puts.optimised.classes in
    let keeps = are.is.keeps in
    let hierarchy = hierarchies tree are.verified.tree in
    let count = written_len (rewriting_of tree are.verified.typed are.is.links are.is.constructor) written are.is.written in
    let spelled = keeps.verified.tree.folder in
    let arranged : IsArranged (map (written_behind tree written) are.classes) are.headers (with_folder tree written) =
    record {
      folder_same = subst (IsPermutation (map (written_behind tree written) are.classes)) (all_behind one_class tree hierarchy written count spelled (old input) puts.final puts.are_final) (IsPermutation-map (written_behind tree written) are.classes tree.folder are.arranged.folder_same);
      library_same = are.arranged.library_same;
      folder_sorted = keeps.verified.tree.in_order.folder;
      library_sorted = are.arranged.library_sorted;
    }
    in
    let read = final_read one_class tree hierarchy written count spelled (old input) puts.final puts.are_final are.read.classes_read in
    let at_final : MeansTheSame (old input) (old library) puts.final =
    record {
      before = keeps.runs.first;
      is_before = record {
        files = are.classes;
        files_read = are.read.classes_read;
        headers = are.headers;
        headers_read = are.read.headers_read;
        classes = tree;
        arranged = are.arranged;
        verified = are.verified;
        program = keeps.runs.is_first;
      };
      after = keeps.runs.second;
      is_after = record {
        files = map (written_behind tree written) are.classes;
        files_read = read;
        headers = are.headers;
        headers_read = are.read.headers_read;
        classes = with_folder tree written;
        arranged = arranged;
        verified = keeps.verified;
        program = keeps.runs.is_second;
      };
      same_runs = keeps.runs.same_runs;
      there = λ name some. same_held one_class tree hierarchy written count spelled (old input) puts.final puts.are_final name ∙ some;
      other_files = final_others one_class tree hierarchy written count spelled (old input) puts.final puts.are_final;
    }
    in
    subst (λ (folder : Folder). MeansTheSame (old input) (old library) folder) (under_is_final one_class tree hierarchy written count spelled (old input) puts.final puts.are_final (new output) puts.put.put) at_final

-- a call that was done with words that spell this command
pub done_means : OneClass → ((classes : Classes) → IsTree classes → IsHierarchy (headers_of classes)) → ((words : List Word) (one other : Command) → Spells one words → Spells other words → one ≡ other) → (words : List Word) (input output library : Bytes) (old new : Files) → Spells (OnFolder input library (Optimise output)) words → LeavesDone words old new
    → MeansTheSame (old input) (old library) (under_names (old input) (new output))
done_means one_class hierarchies one_command words input output library old new spelled done =
    let same : done.command ≡ OnFolder input library (Optimise output) = one_command words done.command (OnFolder input library (Optimise output)) done.spelled spelled in
    means_the_same one_class hierarchies input output library old new (subst (λ (command : Command). DoneFiles command old new) same done.files)

-- what a call that was done has left
abbrev pub LeavesDoneAt : List Word → Files → Files → Ending → Type 0
LeavesDoneAt words old new completed = LeavesDone words old new
LeavesDoneAt words old new ending = Unit {0}

pub left_done : (words : List Word) (old new : Files) (P : Type 0) (before after : Bytes) (e : Ending) → Leaves words old new P before after e → LeavesDoneAt words old new e
left_done words old new P before after completed left = left.0
left_done words old new P before after (refused refusal) left = tt
left_done words old new P before after (failed call) left = tt
left_done words old new P before after out_of_memory left = tt
