-- What is said of frames where virtual objects of another frame are made, or more references have names, or more classes are known.
use Rattle.std.proofs.Common.{◌≡◌, ◌≢◌, ◌==◌, ◌&&◌, not, ℕ, zero, suc, Bool, true, false, List, [], ◌∷◌, filter, slice_get, Some, refl, sym, ap, subst, ◌∙◌}
use Rattle.std.specs.List.{AllByRecursion}
use Rattle.std.proofs.lemmas.Bool.{eqb-true}
use Rattle.std.proofs.lemmas.Option.{none-some, same_Some}
use Rattle.plan_flow.specs.Laws.OpenEdges.{all_still, still_in}
use Rattle.virtual_state.specs.Sites.{has}
use Rattle.written_runs.specs.Inner.MadeObjects.{left_of}
use Rattle.written_runs.specs.VirtualObjects.{AreApart, HasVirtual, IsOther, Virtual, Virtuals}

-- ---- lists that are filtered

-- an item of a filtered list is one of the list, and passes
pub record WasIn {A : Type 0} (test : A → Bool) (items : List A) (item : A) : Type 0 where
  pub number : ℕ
  pub is_there : slice_get items number ≡ Some item
  pub passes : test item ≡ true

pub was_in : {A : Type 0} (test : A → Bool) (items : List A) (number : ℕ) (item : A)
    → slice_get (filter test items) number ≡ Some item
    → WasIn test items item
was_in test [] number item is = absurd (none-some item is)
was_in test (first ∷ items) number item is = by (test first) refl number is (λ other rest. was_in test items other item rest) where
  by : (passes : Bool)
      → test first ≡ passes
      → (place : ℕ)
      → slice_get (filter test (first ∷ items)) place ≡ Some item
      → ((other : ℕ) → slice_get (filter test items) other ≡ Some item → WasIn test items item)
      → WasIn test (first ∷ items) item
  by true told zero here below =
      let same = same_Some first item (sym (rw (told) refl) ∙ here) in
      record { number = 0; is_there = ap Some same; passes = ap test (sym same) ∙ told }
  by true told (suc place) here below =
      let rest = below place (sym (rw (told) refl) ∙ here) in
      record { number = suc rest.number; is_there = rest.is_there; passes = rest.passes }
  by false told place here below =
      let rest = below place (sym (rw (told) refl) ∙ here) in
      record { number = suc rest.number; is_there = rest.is_there; passes = rest.passes }

-- an item that passes is one of the filtered list
-- ---- fewer virtual objects

pub still_apart : (test : Virtual → Bool) (virtuals : Virtuals) → AreApart virtuals → AreApart (filter test virtuals)
still_apart test [] apart = tt
still_apart test (one ∷ virtuals) apart = by (test one) refl (still_apart test virtuals apart.1) where
  by : (kept : Bool) → test one ≡ kept → AreApart (filter test virtuals) → AreApart (filter test (one ∷ virtuals))
  by true told rest = rw (told) (all_still (IsOther one) test virtuals apart.0, rest)
  by false told rest = rw (told) rest

-- two that are of one frame and site are the same
pub one_owner : (virtuals : Virtuals) (frame site : ℕ) (one other : Virtual)
    → AreApart virtuals
    → HasVirtual virtuals frame site one
    → HasVirtual virtuals frame site other
    → one ≡ other
one_owner virtuals frame site one other apart has_one has_other =
    by virtuals apart has_one.number has_other.number has_one.is_there has_other.is_there where
      same_frame : one.frame ≡ other.frame
      same_frame = has_one.of_frame ∙ sym has_other.of_frame

      same_site : one.site ≡ other.site
      same_site = has_one.of_site ∙ sym has_other.of_site

      among : (found : Virtual) (others : Virtuals) (number : ℕ) (it : Virtual)
          → AllByRecursion (IsOther found) others
          → slice_get others number ≡ Some it
          → IsOther found it
      among found [] number it all is = absurd (none-some it is)
      among found (first ∷ others) zero it all is = subst (IsOther found) (same_Some first it is) all.0
      among found (first ∷ others) (suc number) it all is = among found others number it all.1 is

      by : (list : Virtuals) → AreApart list → (number also : ℕ) → slice_get list number ≡ Some one → slice_get list also ≡ Some other → one ≡ other
      by [] are number also is is_also = absurd (none-some one is)
      by (first ∷ list) are zero zero is is_also = sym (same_Some first one is) ∙ same_Some first other is_also
      by (first ∷ list) are zero (suc also) is is_also =
          absurd ((subst (λ (found : Virtual). IsOther found other) (same_Some first one is) (among first list also other are.0 is_also)).owner
          same_frame same_site)
      by (first ∷ list) are (suc number) zero is is_also =
          absurd ((subst (λ (found : Virtual). IsOther found one) (same_Some first other is_also) (among first list number one are.0 is)).owner
          (sym same_frame) (sym same_site))
      by (first ∷ list) are (suc number) (suc also) is is_also = by list are.1 number also is is_also

-- objects of another frame, or of a site whose object is not made, are left
abbrev pub is_left : ℕ → List ℕ → Virtual → Bool
is_left frame made virtual = not ((virtual.frame == frame) && has made virtual.site)

pub left_of_other : (frame other site : ℕ) (made : List ℕ) (virtuals : Virtuals) (virtual : Virtual)
    → other ≢ frame
    → HasVirtual virtuals other site virtual
    → HasVirtual (left_of frame made virtuals) other site virtual
left_of_other frame other site made virtuals virtual apart there =
    let found = still_in (is_left frame made) virtuals there.number virtual there.is_there passes in
    record { number = found.0; is_there = found.1; of_frame = there.of_frame; of_site = there.of_site } where
      by : (same : Bool) → (virtual.frame == frame) ≡ same → is_left frame made virtual ≡ true
      by true is = absurd (apart (sym there.of_frame ∙ eqb-true virtual.frame frame is))
      by false is = rw (is) refl

      passes : is_left frame made virtual ≡ true
      passes = by (virtual.frame == frame) refl

pub left_of_site : (frame site : ℕ) (made : List ℕ) (virtuals : Virtuals) (virtual : Virtual)
    → has made site ≡ false
    → HasVirtual virtuals frame site virtual
    → HasVirtual (left_of frame made virtuals) frame site virtual
left_of_site frame site made virtuals virtual unmade there =
    let found = still_in (is_left frame made) virtuals there.number virtual there.is_there passes in
    record { number = found.0; is_there = found.1; of_frame = there.of_frame; of_site = there.of_site } where
      passes : is_left frame made virtual ≡ true
      passes = by (virtual.frame == frame) refl where
        none : has made virtual.site ≡ false
        none = ap (has made) there.of_site ∙ unmade

        by : (same : Bool) → (virtual.frame == frame) ≡ same → is_left frame made virtual ≡ true
        by true is = rw (is, none) refl
        by false is = rw (is) refl

-- one that is left was there
pub was_virtual : (frame other site : ℕ) (made : List ℕ) (virtuals : Virtuals) (virtual : Virtual)
    → HasVirtual (left_of frame made virtuals) other site virtual
    → HasVirtual virtuals other site virtual
was_virtual frame other site made virtuals virtual there =
    let was = was_in (is_left frame made) virtuals there.number virtual there.is_there in
    record { number = was.number; is_there = was.is_there; of_frame = there.of_frame; of_site = there.of_site }
