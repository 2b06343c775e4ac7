-- The buckets of a folder's methods.
use Rattle.std.proofs.Common.{◌≡◌, ◌⊎◌, ◌+◌, ◌%◌, ◌<◌, ◌≤◌, ℕ, zero, suc, List, [], ◌∷◌, ◌++◌, length, set, get_or, slice_get, Option, Some, None, Result, Ok, Err, OnOk, option_map, refl, sym, ap, subst, ◌∙◌, inl, inr, arith}
use Rattle.std.specs.List.{AllByRecursion}
use Rattle.std.proofs.lemmas.Bool.{cases_eq}
use Rattle.std.proofs.lemmas.List.{get_or-set_other, get_or-set_same, length-set}
use Rattle.std.proofs.lemmas.Option.{none-some, same_Some, slice_get_within}
use Rattle.class_model.specs.Laws.Lists.{AllByRecursion-weaker, at_index}
use Rattle.class_model.specs.declared.header.Header.{Header}
use Rattle.class_model.specs.declared.header.Member.{Member}
use Rattle.class_tree.specs.Headers.{Headers}
use Rattle.class_tree.specs.Hierarchy.{IsHierarchy}
use Rattle.class_tree.specs.Laws.Headers.{own_name}
use Rattle.inline_expand.specs.Inner.FolderMethods.{AreAlike, AreBuckets, AreFolderMethods, AreKept, Grows, HasOwn, IsAmong, IsFolderFound, bucket_at, bucket_of, front, key, slot_of}
use Rattle.member_link.specs.Laws.FolderClasses.{class_of_folder, folder_index, found_in_folder}
use Rattle.member_link.specs.Laws.OwnMembers.{own_of_declared}
use Rattle.member_link.specs.DeclaredMembers.{Declared, declared, declared_by}
use Rattle.member_link.specs.Found.{AreSame, IsMethodFound}
use Rattle.member_link.specs.declared.found.Found.{Found}

-- what follows where a call succeeds
pub on_ok : {A E P Q : Type 0} (result : Result A E) → (P → Q) → OnOk result P → OnOk result Q
on_ok (Ok value) to holds = to holds
on_ok (Err fault) to holds = tt

-- ---- lists

last_is : (xs : List Found) (x : Found) → slice_get (xs ++ x ∷ []) (length xs) ≡ Some x
last_is [] x = refl
last_is (y ∷ ys) x = last_is ys x

front_is : (xs : List Found) (x : Found) (i : ℕ) (y : Found) → slice_get xs i ≡ Some y → slice_get (xs ++ x ∷ []) i ≡ Some y
front_is [] x i y is = absurd (none-some y is)
front_is (z ∷ zs) x zero y is = is
front_is (z ∷ zs) x (suc i) y is = front_is zs x i y is

either_is : (xs : List Found) (x : Found) (i : ℕ) (y : Found) → slice_get (xs ++ x ∷ []) i ≡ Some y → (slice_get xs i ≡ Some y) ⊎ (x ≡ y)
either_is [] x zero y is = inr (same_Some x y is)
either_is [] x (suc i) y is = absurd (none-some y is)
either_is (z ∷ zs) x zero y is = inl is
either_is (z ∷ zs) x (suc i) y is = either_is zs x i y is

all_push : (P : Member → Type 0) (members : List Member) (member : Member) → AllByRecursion P members → P member → AllByRecursion P (members ++ member ∷ [])
all_push P [] member all last = (last, tt)
all_push P (first ∷ members) member all last = (all.0, all_push P members member all.1 last)

-- one empty bucket more
pub still_empty : (buckets : List (List Found)) → ((slot : ℕ) → get_or buckets slot [] ≡ []) → (slot : ℕ) → get_or (buckets ++ [] ∷ []) slot [] ≡ []
still_empty [] empty zero = refl
still_empty [] empty (suc slot) = refl
still_empty (bucket ∷ buckets) empty zero = empty zero
still_empty (bucket ∷ buckets) empty (suc slot) = still_empty buckets (λ k. empty (suc k)) slot

-- ---- one method more

module _ (buckets : List (List Found)) (slot : ℕ) (within : slot < length buckets) (found : Found) where
  abbrev put : List (List Found)
  put = set buckets slot (bucket_at buckets slot ++ found ∷ [])

  put_bucket : bucket_at put slot ≡ bucket_at buckets slot ++ found ∷ []
  put_bucket = get_or-set_same buckets slot (bucket_at buckets slot ++ found ∷ []) [] within

  put_other : (other : ℕ) → (other ≡ slot → ⊥) → bucket_at put other ≡ bucket_at buckets other
  put_other other differs = get_or-set_other buckets slot other (bucket_at buckets slot ++ found ∷ []) [] differs

  put_grows : Grows buckets put
  put_grows = record {
    len = length-set buckets slot (bucket_at buckets slot ++ found ∷ []);
    kept = λ other index one at. elim (cases_eq other slot) [
      | inl same ↦
          let here = front_is (bucket_at buckets slot) found index one (subst (λ (n : ℕ). slice_get (bucket_at buckets n) index ≡ Some one) same at) in
          subst (λ (n : ℕ). slice_get (bucket_at put n) index ≡ Some one) (sym same) (subst (λ (b : List Found). slice_get b index ≡ Some one) (sym put_bucket) here)
      | inr differs ↦ subst (λ (b : List Found). slice_get b index ≡ Some one) (sym (put_other other differs)) at
    ];
  }

  put_found : (headers : Headers) → IsFolderFound headers found → AreFolderMethods headers buckets → AreFolderMethods headers put
  put_found headers is all = λ other index one at. elim (cases_eq other slot) [
    | inl same ↦
        let here = subst (λ (b : List Found). slice_get b index ≡ Some one) put_bucket (subst (λ (n : ℕ). slice_get (bucket_at put n) index ≡ Some one) same at) in
        elim (either_is (bucket_at buckets slot) found index one here) [ inl old ↦ all slot index one old | inr new ↦ subst (IsFolderFound headers) new is ]
    | inr differs ↦ all other index one (subst (λ (b : List Found). slice_get b index ≡ Some one) (put_other other differs) at)
  ]

  put_among : (headers : Headers) (low : Declared) → IsMethodFound headers found low → IsAmong headers (bucket_at put slot) low
  put_among headers low is = record {
    index = length (bucket_at buckets slot);
    found = found;
    at = subst (λ (b : List Found). slice_get b (length (bucket_at buckets slot)) ≡ Some found) (sym put_bucket) (last_is (bucket_at buckets slot) found);
    is = is;
  }

-- ---- changes

grows_then : {one other third : List (List Found)} → Grows one other → Grows other third → Grows one third
grows_then first more = record { len = more.len ∙ first.len; kept = λ slot index found at. more.kept slot index found (first.kept slot index found at) }

still_among : (headers : Headers) {before after : List (List Found)} → Grows before after → (member : Member) (low : Declared) → IsAmong headers (bucket_of before member) low → IsAmong headers (bucket_of after member) low
still_among headers {before} {after} grows member low among = record {
  index = among.index;
  found = among.found;
  at = subst (λ (count : ℕ). slice_get (bucket_at after (slot_of count member)) among.index ≡ Some among.found) (sym grows.len) (grows.kept (slot_of (length before) member) among.index among.found among.at);
  is = among.is;
}

still_own : (headers : Headers) (header : Header) {before after : List (List Found)} → Grows before after → (members : List Member) → AllByRecursion (HasOwn headers header before) members → AllByRecursion (HasOwn headers header after) members
still_own headers header {before} {after} grows members all =
    AllByRecursion-weaker (HasOwn headers header before) (HasOwn headers header after)
    (λ member own low class declares. still_among headers grows member low (own low class declares)) members all

module _ (headers : Headers) (class : ℕ) where
  pub kept_more : {before between after : List (List Found)} (members : List Member) (member : Member) → AreKept headers class members before between → AreKept headers class (member ∷ []) between after → AreKept headers class (members ++ member ∷ []) before after
  kept_more {before} {between} {after} members member first more = record {
    grows = grows_then first.grows more.grows;
    found = λ all. more.found (first.found all);
    own = λ header at. all_push (HasOwn headers header after) members member (still_own headers header more.grows members (first.own header at)) (more.own header at).0;
  }

  module _ (member : Member) (buckets : List (List Found)) where
    abbrev Answers : Option Found → Type 0
    Answers found = (header : Header) → slice_get headers.folder class ≡ Some header → AreSame (IsMethodFound headers) found (option_map (declared_by header.name) (declared member.name member.desc header.methods))

    -- what is found of the class is a method of the folder
    folder_found : IsHierarchy headers → (header : Header) → slice_get headers.folder class ≡ Some header → (found : Found) (own : Option Member) → declared member.name member.desc header.methods ≡ own → AreSame (IsMethodFound headers) (Some found) (option_map (declared_by header.name) own) → IsFolderFound headers found
    folder_found hierarchy header at found None is same = absurd same
    folder_found hierarchy header at found (Some own) is same =
        let place = own_of_declared member.name member.desc header.methods own is in
        record {
          method = declared_by header.name own;
          is = same;
          of_folder = record {
            header = header;
            found = found_in_folder headers hierarchy class header at;
            declares = ap (λ (name : List ℕ). declared name own.desc header.methods) place.3 ∙ ap (λ (desc : List ℕ). declared member.name desc header.methods) place.4 ∙ is;
          };
        }

    pub kept_put : IsHierarchy headers → (header : Header) → slice_get headers.folder class ≡ Some header → (found : Found) → Answers (Some found) → (slot : ℕ) → slot ≡ slot_of (length buckets) member → slot < length buckets
        → AreKept headers class (member ∷ []) buckets (set buckets slot (bucket_at buckets slot ++ found ∷ []))
    kept_put hierarchy header at found answers slot is within = record {
      grows = put_grows buckets slot within found;
      found = put_found buckets slot within found headers (folder_found hierarchy header at found (declared member.name member.desc header.methods) refl (answers header at));
      own = λ other other_at. (
        λ low own_class declares.
            let own = subst (λ (o : Option Member). AreSame (IsMethodFound headers) (Some found) (option_map (declared_by other.name) o)) declares (answers other other_at) in
            let low_is : declared_by other.name low.member ≡ low = λ i. record { class = sym own_class i; member = low.member } in
            let among = put_among buckets slot within found headers low (subst (λ (d : Declared). IsMethodFound headers found d) low_is own) in
            let after = set buckets slot (bucket_at buckets slot ++ found ∷ []) in
            let same : slot ≡ slot_of (length after) member = is ∙ ap (λ (count : ℕ). slot_of count member) (sym (length-set buckets slot (bucket_at buckets slot ++ found ∷ []))) in
            subst (λ (n : ℕ). IsAmong headers (bucket_at after n) low) same among,
        tt,
      );
    }

-- ---- the folder

-- the methods of the first so many classes of the folder are in their buckets
pub record KeptBefore (headers : Headers) (count : ℕ) (buckets : List (List Found)) : Type 0 where
  pub some : 0 < length buckets
  pub found : AreFolderMethods headers buckets
  pub each : (index : ℕ) (header : Header) → index < count → slice_get headers.folder index ≡ Some header → AllByRecursion (HasOwn headers header buckets) header.methods

pub class_kept : (headers : Headers) (count : ℕ) {before after : List (List Found)} (header : Header) → slice_get headers.folder count ≡ Some header → KeptBefore headers count before → AreKept headers count header.methods before after → KeptBefore headers (count + 1) after
class_kept headers count {before} {after} header at kept more = record {
  some = omega (arith, kept.some, more.grows.len);
  found = more.found kept.found;
  each = λ index other below is. elim (cases_eq index count) [
    | inl same ↦
        let own : header ≡ other = same_Some header other (sym at ∙ ap (slice_get headers.folder) (sym same) ∙ is) in
        subst (λ (h : Header). AllByRecursion (HasOwn headers h after) h.methods) own (more.own header at)
    | inr differs ↦ still_own headers other more.grows other.methods (kept.each index other (omega (arith, differs, below)) is)
  ];
}

pub folder_kept : (headers : Headers) (count : ℕ) (buckets : List (List Found)) → length headers.folder ≤ count → KeptBefore headers count buckets → AreBuckets headers buckets
folder_kept headers count buckets past kept = record {
  some = kept.some;
  found = kept.found;
  each = λ low folder.
      let place = folder_index headers low.class folder.header folder.found in
      let named = own_name headers low.class folder.header (class_of_folder headers low.class folder.header folder.found) in
      let inside = slice_get_within headers.folder place.0 folder.header place.1 in
      let all = kept.each place.0 folder.header (omega (arith, inside, past)) place.1 in
      let own = own_of_declared low.member.name low.member.desc folder.header.methods low.member folder.declares in
      at_index (HasOwn headers folder.header buckets) folder.header.methods own.0 low.member all own.2 low (sym named) folder.declares;
}

-- ---- methods of one name and descriptor

pub bucket_is_alike : (headers : Headers) (buckets : List (List Found)) → AreBuckets headers buckets → (method : Member) (slot : ℕ) → slot ≡ slot_of (length buckets) method → AreAlike headers method (bucket_at buckets slot)
bucket_is_alike headers buckets are method slot is = record {
  found = λ index found at. are.found slot index found at;
  each = λ low folder name desc.
      let count = length buckets in
      let same : slot_of count low.member ≡ slot =
      ap (λ (n : List ℕ). key (key 0 n) (front low.member.desc) % count) name ∙ ap (λ (d : List ℕ). key (key 0 method.name) (front d) % count) desc ∙ sym is in
      subst (λ (n : ℕ). IsAmong headers (bucket_at buckets n) low) same (are.each low folder);
}
