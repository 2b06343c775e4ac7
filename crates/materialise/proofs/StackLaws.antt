-- Entries of the operand stack, as they are gathered from the lowest that holds an object of a set.
use Rattle.std.proofs.Common.{◌≡◌, ◌+◌, ◌≤◌, ℕ, zero, suc, Bool, true, false, cond, List, [], ◌∷◌, ◌++◌, length, map, reverse, take, drop, slice_get, Some, None, refl, sym, ap, subst, ◌∙◌, append_assoc, append-nil, arith}
use Rattle.std.specs.List.{filter}
use Rattle.std.proofs.lemmas.List.{drop_all, map-append, reverse-append, take_all}
use Rattle.class_model.specs.Descriptors.{units_of}
use Rattle.class_model.specs.Frames.{depth}
use Rattle.class_model.specs.Laws.Lists.{drop_item, none_behind, take_item}
use Rattle.class_model.specs.declared.frame.VType.{VType}
use Rattle.making_code.specs.MakeCode.{Entry, entries_from, from_lowest, is_plain, kind_of_type, names_in}
use Rattle.materialise.proofs.DepthLaws.{depth_first, one_depth}
use Rattle.materialise.specs.Inner.StackWords.{Gathers, entry_meant}
use Rattle.materialise.specs.declared.stack.StackEntry.{StackEntry}
use Rattle.virtual_state.specs.declared.slot.Slot.{Slot}

-- ---- gathering

pub gathers_taken : (sites : List ℕ) (done : List StackEntry) (rest all : List Entry) (entry : StackEntry)
    → (done ≡ [] → names_in sites entry.slot ≡ true)
    → Gathers sites done (entry_meant entry ∷ rest) all
    → Gathers sites (done ++ entry ∷ []) rest all
gathers_taken sites [] rest all entry named so_far =
    sym (ap (λ (test : Bool). cond test (entry_meant entry ∷ rest) (from_lowest sites rest)) (named refl)) ∙ so_far
gathers_taken sites (first ∷ done) rest all entry named so_far =
    ap (λ (entries : List Entry). entries ++ rest) (map-append entry_meant (first ∷ done) (entry ∷ []))
    ∙ append_assoc (map entry_meant (first ∷ done)) (entry_meant entry ∷ []) rest
    ∙ so_far

pub gathers_passed : (sites : List ℕ) (done : List StackEntry) (rest all : List Entry) (entry : Entry)
    → done ≡ []
    → names_in sites entry.slot ≡ false
    → Gathers sites done (entry ∷ rest) all
    → Gathers sites done rest all
gathers_passed sites [] rest all entry none other so_far =
    sym (ap (λ (test : Bool). cond test (entry ∷ rest) (from_lowest sites rest)) other) ∙ so_far
gathers_passed sites (first ∷ done) rest all entry none other so_far = absurd cc

pub gathers_all : (sites : List ℕ) (done : List StackEntry) (all : List Entry) → Gathers sites done [] all → map entry_meant done ≡ all
gathers_all sites [] all so_far = so_far
gathers_all sites (first ∷ done) all so_far = sym (append-nil (map entry_meant (first ∷ done))) ∙ so_far

-- ---- entries from a place on

pub no_slots : (place below : ℕ) (types : List VType) → entries_from place below types [] ≡ []
no_slots place below [] = refl
no_slots place below (type ∷ types) = refl

pub no_types : (place below : ℕ) (slots : List Slot) → entries_from place below [] slots ≡ []
no_types place below slots = refl

pub entries_there : (place below more : ℕ) (types : List VType) (slots : List Slot) (type : VType) (slot : Slot)
    → slice_get types place ≡ Some type
    → slice_get slots place ≡ Some slot
    → more ≡ below + units_of (kind_of_type type)
    → entries_from place below (drop place types) (drop place slots)
    ≡ record { place = place; below = below; kind = kind_of_type type; slot = slot }
    ∷ entries_from (place + 1) more (drop (place + 1) types) (drop (place + 1) slots)
entries_there place below more types slots type slot is there sum =
    let next : suc place ≡ place + 1 = omega arith in
    let deeper : below + depth (type ∷ []) ≡ more = ap (λ (n : ℕ). below + n) (one_depth type) ∙ sym sum in
    ap (λ (list : List VType). entries_from place below list (drop place slots)) (drop_item types place type is)
    ∙ ap (λ (list : List Slot). entries_from place below (type ∷ drop (place + 1) types) list) (drop_item slots place slot there)
    ∙ ap (λ (n : ℕ). record { place = place; below = below; kind = kind_of_type type; slot = slot } ∷ entries_from n (below + depth (type ∷ [])) (drop (place + 1) types) (drop (place + 1) slots)) next
    ∙ ap (λ (n : ℕ). record { place = place; below = below; kind = kind_of_type type; slot = slot } ∷ entries_from (place + 1) n (drop (place + 1) types) (drop (place + 1) slots)) deeper

-- ---- entries that are saved, the topmost first

filtered_last : {A : Type 0} (test : A → Bool) (items : List A) (item : A) → filter test (items ++ item ∷ []) ≡ filter test items ++ filter test (item ∷ [])
filtered_last test [] item = refl
filtered_last test (first ∷ items) item = by (test first) (filtered_last test items item) where
  by : (passes : Bool) → filter test (items ++ item ∷ []) ≡ filter test items ++ filter test (item ∷ [])
      → cond passes (first ∷ filter test (items ++ item ∷ [])) (filter test (items ++ item ∷ [])) ≡ cond passes (first ∷ filter test items) (filter test items) ++ filter test (item ∷ [])
  by true rest = ap (λ list. first ∷ list) rest
  by false rest = rest

-- the plain ones of entries, the topmost first
abbrev pub saved_of : List StackEntry → List StackEntry
saved_of entries = reverse (filter (λ entry. is_plain entry.slot) entries)

saved_last : (entries : List StackEntry) (entry : StackEntry) → saved_of (entries ++ entry ∷ []) ≡ saved_of (entry ∷ []) ++ saved_of entries
saved_last entries entry =
    ap reverse (filtered_last (λ (one : StackEntry). is_plain one.slot) entries entry)
    ∙ reverse-append (filter (λ (one : StackEntry). is_plain one.slot) entries) (filter (λ (one : StackEntry). is_plain one.slot) (entry ∷ []))

-- what is saved, and what is left, make all
pub record Saves (entries done : List StackEntry) (left : ℕ) : Type 0 where
  pub goes_on : done ++ saved_of (take left entries) ≡ saved_of entries
  pub few : left ≤ length entries

pub saves_first : (entries : List StackEntry) → Saves entries [] (length entries)
saves_first entries = record { goes_on = ap saved_of (take_all (length entries) entries (omega arith)); few = omega arith }

pub saves_plain : (entries done : List StackEntry) (left : ℕ) (entry : StackEntry)
    → slice_get entries left ≡ Some entry
    → is_plain entry.slot ≡ true
    → Saves entries done (left + 1)
    → Saves entries (done ++ entry ∷ []) left
saves_plain entries done left entry is plain so_far = record {
  goes_on =
      append_assoc done (entry ∷ []) (saved_of (take left entries))
      ∙ ap (λ (list : List StackEntry). done ++ list)
      (sym (ap saved_of (take_item entries left entry is)
      ∙ saved_last (take left entries) entry
      ∙ ap (λ (test : Bool). reverse (cond test (entry ∷ []) []) ++ saved_of (take left entries)) plain))
      ∙ so_far.goes_on;
  few = let most = so_far.few in omega arith;
}

pub saves_other : (entries done : List StackEntry) (left : ℕ) (entry : StackEntry)
    → slice_get entries left ≡ Some entry
    → is_plain entry.slot ≡ false
    → Saves entries done (left + 1)
    → Saves entries done left
saves_other entries done left entry is other so_far = record {
  goes_on =
      ap (λ (list : List StackEntry). done ++ list)
      (sym (ap saved_of (take_item entries left entry is)
      ∙ saved_last (take left entries) entry
      ∙ ap (λ (test : Bool). reverse (cond test (entry ∷ []) []) ++ saved_of (take left entries)) other))
      ∙ so_far.goes_on;
  few = let most = so_far.few in omega arith;
}

-- ---- the entries at a point, place by place

pub record SoFar (sites : List ℕ) (stack : List VType) (slots : List Slot) (done : List StackEntry) (place below : ℕ) : Type 0 where
  pub gathered : Gathers sites done (entries_from place below (drop place stack) (drop place slots)) (from_lowest sites (entries_from 0 0 stack slots))
  pub sum_is : below + depth (drop place stack) ≡ depth stack

pub so_far_first : (sites : List ℕ) (stack : List VType) (slots : List Slot) → SoFar sites stack slots [] 0 0
so_far_first sites stack slots = record { gathered = refl; sum_is = omega arith }

sum_more : (stack : List VType) (place below more : ℕ) (type : VType)
    → slice_get stack place ≡ Some type
    → more ≡ below + units_of (kind_of_type type)
    → below + depth (drop place stack) ≡ depth stack
    → more + depth (drop (place + 1) stack) ≡ depth stack
sum_more stack place below more type is adds sum =
    let first : depth (drop place stack) ≡ units_of (kind_of_type type) + depth (drop (place + 1) stack) = ap depth (drop_item stack place type is) ∙ depth_first type (drop (place + 1) stack) in
    omega (arith, first, adds, sum)

-- the units fit into those of the whole stack
pub sum_fits : (stack : List VType) (place below : ℕ) (type : VType)
    → slice_get stack place ≡ Some type
    → below + depth (drop place stack) ≡ depth stack
    → below + units_of (kind_of_type type) ≤ depth stack
sum_fits stack place below type is sum =
    let first : depth (drop place stack) ≡ units_of (kind_of_type type) + depth (drop (place + 1) stack) = ap depth (drop_item stack place type is) ∙ depth_first type (drop (place + 1) stack) in
    omega (arith, first, sum)

pub so_far_more : (sites : List ℕ) (stack : List VType) (slots : List Slot) (done longer : List StackEntry) (place below more : ℕ) (type : VType) (slot : Slot)
    → slice_get stack place ≡ Some type
    → slice_get slots place ≡ Some slot
    → more ≡ below + units_of (kind_of_type type)
    → ((rest all : List Entry)
    → Gathers sites done (record { place = place; below = below; kind = kind_of_type type; slot = slot } ∷ rest) all
    → Gathers sites longer rest all)
    → SoFar sites stack slots done place below
    → SoFar sites stack slots longer (place + 1) more
so_far_more sites stack slots done longer place below more type slot is there adds gathers so_far =
    let all = from_lowest sites (entries_from 0 0 stack slots) in
    let rest = entries_from (place + 1) more (drop (place + 1) stack) (drop (place + 1) slots) in
    let split = entries_there place below more stack slots type slot is there adds in
    record {
      gathered = gathers rest all (subst (λ (list : List Entry). Gathers sites done list all) split so_far.gathered);
      sum_is = sum_more stack place below more type is adds so_far.sum_is;
    }

-- where there are no more slots, all are gathered
pub so_far_none : (sites : List ℕ) (stack : List VType) (slots : List Slot) (done : List StackEntry) (place below : ℕ)
    → slice_get slots place ≡ None
    → SoFar sites stack slots done place below
    → map entry_meant done ≡ from_lowest sites (entries_from 0 0 stack slots)
so_far_none sites stack slots done place below none so_far =
    let all = from_lowest sites (entries_from 0 0 stack slots) in
    let here : entries_from place below (drop place stack) (drop place slots) ≡ [] =
    ap (entries_from place below (drop place stack)) (drop_all place slots (none_behind slots place none)) ∙ no_slots place below (drop place stack) in
    gathers_all sites done all (subst (λ (list : List Entry). Gathers sites done list all) here so_far.gathered)

pub so_far_all : (sites : List ℕ) (stack : List VType) (slots : List Slot) (done : List StackEntry) (place below : ℕ)
    → length stack ≤ place
    → SoFar sites stack slots done place below
    → map entry_meant done ≡ from_lowest sites (entries_from 0 0 stack slots)
so_far_all sites stack slots done place below end so_far =
    let all = from_lowest sites (entries_from 0 0 stack slots) in
    gathers_all sites done all
    (subst (λ (list : List VType). Gathers sites done (entries_from place below list (drop place slots)) all) (drop_all place stack end) so_far.gathered)

-- the slot of a stack place is behind those of the local units
pub behind_locals : (slots : List Slot) (locals place : ℕ) → slice_get (drop locals slots) place ≡ slice_get slots (locals + place)
behind_locals slots zero place = let same : place ≡ 0 + place = omega arith in ap (slice_get slots) same
behind_locals [] (suc locals) place = refl
behind_locals (slot ∷ slots) (suc locals) place = behind_locals slots locals place ∙ ap (slice_get (slot ∷ slots)) {x = suc (locals + place)} (omega arith)
