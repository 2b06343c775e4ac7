-- What is read of a folder's files.
use Rattle.std.proofs.Common.{◌≡◌, ℕ, ◌<◌, Bool, true, false, cond, List, [], ◌∷◌, ◌++◌, length, Option, Some, None, is_some, IsSome, IsTrue, bytes_eq, arith, refl, sym, ◌∙◌, ap, subst, append_assoc, IsSorted}
use Rattle.std.specs.List.{AllByRecursion}
use Rattle.std.specs.Ordering.{nat_cmp}
use Rattle.std.specs.Cmp.Lexicographic.{slice_cmp}
use Rattle.std.proofs.lemmas.Bool.{false≢true}
use Rattle.std.proofs.lemmas.List.{take_all, length-take, append-nil}
use Rattle.std.proofs.lemmas.Slice.Eq.{bytes_eq-Decides}
use Rattle.host_tree.specs.Host.{Bytes, Folder, IsReadOf, times}
use Rattle.host_tree.specs.Laws.Names.{times-cons, times-first, times-append}
use Rattle.pea_top.specs.Folders.{IsBytesBefore, AreNames, AreReadAs, no_name, class_file, other_file, names_class_file}
use Rattle.pea_top.specs.Answer.{Refusal, IsRefused, NoneRefused, IsFirstRefused}
use Rattle.pea_top.proofs.NamesInOrder.{IsBytesBefore-other, later_not_before}

-- A read that gives fewer bytes than were asked gives all.
pub whole_from_read : (file : Option Bytes) (most : ℕ) (bytes : Bytes) → IsReadOf file most bytes → length bytes < most → file ≡ Some bytes
whole_from_read file most bytes read fewer =
    let shorter : length read.whole < most = omega (arith, length-take most read.whole, ap length read.first) in
    read.there ∙ ap Some (sym (read.first ∙ take_all most read.whole (omega arith)))

-- ---- how often a name stands in a list

-- in a sorted list neither a name nor one after it stands before it
none_less_after : (front : List Bytes) (name : Bytes) (left : List Bytes) (other : Bytes) → IsSorted (slice_cmp nat_cmp) (front ++ name ∷ left) → 0 < times other (name ∷ left) → ¬ IsBytesBefore other name
none_less_after front name left other sorted some before = by (bytes_eq other name) refl
  where
    by : (same : Bool) → bytes_eq other name ≡ same → ⊥
    by true e = IsBytesBefore-other other name before ((bytes_eq-Decides other name).0 e)
    by false e = later_not_before front name left sorted other (omega (arith, some, times-cons other name left, ap {B = ℕ} (λ b. cond b 1 0) e)) before

-- ---- the refused names of a folder

some_from_held : (file : Option Bytes) → 0 < cond (is_some file) 1 0 → IsSome file
some_from_held None some = absurd (omega arith)
some_from_held (Some bytes) some = refl

times-refused : {Refused : Bytes → Refusal → Type 0} {folder : Folder} {names : List Bytes} {name : Bytes} {why : Refusal} → AreNames folder names → IsRefused Refused folder name why → times name names ≡ 1
times-refused {name = name} are refused = are.once name ∙ ap {B = ℕ} (λ file. cond (is_some file) 1 0) refused.there

-- the file of this name is not refused
pub record IsKept (Refused : Bytes → Refusal → Type 0) (folder : Folder) (name : Bytes) : Type 0 where
  pub not_refused : (why : Refusal) → ¬ IsRefused Refused folder name why

-- a file whose bytes are not refused
pub kept_class : {Refused : Bytes → Refusal → Type 0} {folder : Folder} (name bytes : Bytes) → folder name ≡ Some bytes → ((why : Refusal) → ¬ Refused bytes why) → (why : Refusal) → ¬ IsRefused Refused folder name why
kept_class {Refused} name bytes there none why refused =
    let same : refused.bytes ≡ bytes = cc (refused.there, there) in
    none why (subst (λ (read : Bytes). Refused read why) same refused.refused)

-- a file that is no class file by its name
pub kept_other : {Refused : Bytes → Refusal → Type 0} {folder : Folder} (name : Bytes) → names_class_file name ≡ false → (why : Refusal) → ¬ IsRefused Refused folder name why
kept_other name other why refused = false≢true (sym other ∙ refused.named)

times-refused_kept : (Refused : Bytes → Refusal → Type 0) (folder : Folder) (name : Bytes) (why : Refusal) → IsRefused Refused folder name why → (names : List Bytes) → AllByRecursion (IsKept Refused folder) names → times name names ≡ 0
times-refused_kept Refused folder name why refused [] kept = refl
times-refused_kept Refused folder name why refused (other ∷ names) kept = by (bytes_eq name other) refl (times-refused_kept Refused folder name why refused names kept.1)
  where
    by : (same : Bool) → bytes_eq name other ≡ same → times name names ≡ 0 → times name (other ∷ names) ≡ 0
    by true e none = absurd (kept.0.not_refused why (subst (λ (n : Bytes). IsRefused Refused folder n why) ((bytes_eq-Decides name other).0 e) refused))
    by false e none = omega (arith, times-cons name other names, ap {B = ℕ} (λ b. cond b 1 0) e, none)

-- ---- files read as values

-- those of the first names and those of the names behind them
AreReadAs-append : {X : Type 0} {Of : Bytes → X → Type 0} {folder : Folder} {names more : List Bytes} {values others : List X}
    → AreReadAs Of folder names values → AreReadAs Of folder more others → AreReadAs Of folder (names ++ more) (values ++ others)
AreReadAs-append no_name behind = behind
AreReadAs-append {more = more} {others = others} (class_file name bytes names value values named there of read) behind =
    class_file name bytes (names ++ more) value (values ++ others) named there of (AreReadAs-append read behind)
AreReadAs-append {more = more} {others = others} (other_file name names values other read) behind =
    other_file name (names ++ more) (values ++ others) other (AreReadAs-append read behind)

pub All-push : {X : Type 0} (Holds : X → Type 0) (xs : List X) (x : X) → AllByRecursion Holds xs → Holds x → AllByRecursion Holds (xs ++ x ∷ [])
All-push Holds [] x all one = (one, tt)
All-push Holds (y ∷ ys) x all one = (all.0, All-push Holds ys x all.1 one)

-- ---- a folder's files, read one after the other

-- the files with the names in done were read as these values, and those with the names in left are to be read
pub record HasRead {X : Type 0} (Of : Bytes → X → Type 0) (Refused : Bytes → Refusal → Type 0) (folder : Folder) (names done left : List Bytes) (values : List X) : Type 0 where
  pub in_order : done ++ left ≡ names
  pub are_read : AreReadAs Of folder done values
  pub kept : AllByRecursion (IsKept Refused folder) done

-- before the first file
pub nothing_read : {X : Type 0} (Of : Bytes → X → Type 0) (Refused : Bytes → Refusal → Type 0) (folder : Folder) {names left : List Bytes} → left ≡ names → HasRead Of Refused folder names [] left []
nothing_read Of Refused folder all = record { in_order = all; are_read = no_name; kept = tt }

-- the folder has the next name
pub next_there : {X : Type 0} {Of : Bytes → X → Type 0} {Refused : Bytes → Refusal → Type 0} {folder : Folder} {names done : List Bytes} {name : Bytes} {left : List Bytes} {values : List X}
    → AreNames folder names → HasRead Of Refused folder names done (name ∷ left) values → IsSome (folder name)
next_there {folder = folder} {done = done} {name = name} {left = left} are read =
    some_from_held (folder name) (omega (arith, are.once name, ap (times name) read.in_order, times-append name done (name ∷ left), times-first name left))

-- the next file is a class file
pub one_more_class : {X : Type 0} {Of : Bytes → X → Type 0} {Refused : Bytes → Refusal → Type 0} {folder : Folder} {names done : List Bytes} {name : Bytes} {left : List Bytes} {values : List X}
    → HasRead Of Refused folder names done (name ∷ left) values → (bytes : Bytes) (value : X) → IsTrue (names_class_file name) → folder name ≡ Some bytes → Of bytes value → ((why : Refusal) → ¬ IsRefused Refused folder name why)
    → HasRead Of Refused folder names (done ++ name ∷ []) left (values ++ value ∷ [])
one_more_class {done = done} {name = name} {left = left} read bytes value named there of not_refused = record {
  in_order = append_assoc done (name ∷ []) left ∙ read.in_order;
  are_read = AreReadAs-append read.are_read (class_file name bytes [] value [] named there of no_name);
  kept = All-push _ done name read.kept (record { not_refused = not_refused });
}

-- the next file is none
pub one_more_other : {X : Type 0} {Of : Bytes → X → Type 0} {Refused : Bytes → Refusal → Type 0} {folder : Folder} {names done : List Bytes} {name : Bytes} {left : List Bytes} {values : List X}
    → HasRead Of Refused folder names done (name ∷ left) values → ¬ IsTrue (names_class_file name) → HasRead Of Refused folder names (done ++ name ∷ []) left values
one_more_other {Of = Of} {folder = folder} {done = done} {name = name} {left = left} {values = values} read other = record {
  in_order = append_assoc done (name ∷ []) left ∙ read.in_order;
  are_read = subst (AreReadAs Of folder (done ++ name ∷ [])) (append-nil values) (AreReadAs-append read.are_read (other_file name [] [] other no_name));
  kept = All-push _ done name read.kept (record { not_refused = λ why refused. other refused.named });
}

-- where all are read
pub all_names : {X : Type 0} {Of : Bytes → X → Type 0} {Refused : Bytes → Refusal → Type 0} {folder : Folder} {names done : List Bytes} {values : List X} → HasRead Of Refused folder names done [] values → done ≡ names
all_names {done = done} read = sym (append-nil done) ∙ read.in_order

pub none_refused : {X : Type 0} {Of : Bytes → X → Type 0} {Refused : Bytes → Refusal → Type 0} {folder : Folder} {names done : List Bytes} {values : List X}
    → AreNames folder names → HasRead Of Refused folder names done [] values → NoneRefused Refused folder
none_refused {Refused = Refused} {folder = folder} {done = done} are read name why refused =
    absurd (omega (arith, times-refused are refused, times-refused_kept Refused folder name why refused done read.kept, ap (times name) (all_names read)))

-- where the next file is refused
pub first_refused : {X : Type 0} {Of : Bytes → X → Type 0} {Refused : Bytes → Refusal → Type 0} {folder : Folder} {names done : List Bytes} {name : Bytes} {left : List Bytes} {values : List X} {why : Refusal}
    → AreNames folder names → HasRead Of Refused folder names done (name ∷ left) values → IsRefused Refused folder name why → IsFirstRefused Refused folder name why
first_refused {Refused = Refused} {folder = folder} {done = done} {name = name} {left = left} are read refused = record {
  refused = refused;
  none_before = λ other before other_why other_refused.
      let some : 0 < times other (name ∷ left) = omega (arith, times-refused are other_refused, ap (times other) read.in_order, times-append other done (name ∷ left), times-refused_kept Refused folder other other_why other_refused done read.kept) in
      none_less_after done name left other (subst (IsSorted (slice_cmp nat_cmp)) (sym read.in_order) are.in_order) some before;
}
