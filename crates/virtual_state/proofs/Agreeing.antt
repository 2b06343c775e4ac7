-- Sites that are marked so that slots and objects agree without them.
use Rattle.std.proofs.Common.{◌≡◌, ◌==◌, ◌||◌, ◌+◌, ◌<◌, ◌≤◌, ℕ, zero, suc, Bool, true, false, cond, List, [], ◌∷◌, ◌++◌, map, length, take, get_or, Option, Some, None, IsTrue, refl, sym, ap, subst, ◌∙◌, inl, inr, arith}
use Rattle.std.specs.List.{list_any}
use Rattle.std.proofs.lemmas.Bool.{cases_Bool, cases_lt, or_cases, or_left, or_right, or_parts, eq-eqb, eqb-true, eqb-false, true≢false, false≢true, both_ways}
use Rattle.std.proofs.lemmas.List.{get_or-take, length-map, length-take-le, map_push, take-take, take_all, take_more}
use Rattle.virtual_state.specs.Inner.Agreement.{IsPart, AgreeWithout, ObjectsAgree, FieldsFollow, ArePair, AreUsable, HasMarkedPair, HasMarkedDifferences, HasMarkedObject, HasMarkedObjects, HaveMarkedObjects}
use Rattle.virtual_state.specs.Inner.Marks.{HasMarked}
use Rattle.virtual_state.specs.Inner.Slots.{slot_eq}
use Rattle.virtual_state.specs.Sites.{has}
use Rattle.virtual_state.specs.States.{is_virtual, is_unusable, names, object_of}
use Rattle.virtual_state.specs.Without.{IsClosed, made_plain}
use Rattle.virtual_state.specs.declared.slot.Slot.{Slot}
use Rattle.virtual_state.specs.declared.slot.Slot.TheVariants.{Plain, Virt, Unusable}
use Rattle.virtual_state.specs.declared.slot.VObject.{VObject}
use Rattle.virtual_state.specs.Laws.Fields.{plain_slot, kept_slot, agree_more}
use Rattle.virtual_state.specs.Laws.Objects.{found_site}

-- ---- slots that are the same

pub slots_equal : (one other : Slot) → slot_eq one other ≡ true → one ≡ other
slots_equal Plain Plain same = refl
slots_equal Plain (Virt right) same = absurd (false≢true same)
slots_equal Plain Unusable same = absurd (false≢true same)
slots_equal (Virt left) Plain same = absurd (false≢true same)
slots_equal (Virt left) (Virt right) same = ap (λ (site : ℕ). Virt site) (eqb-true left right same)
slots_equal (Virt left) Unusable same = absurd (false≢true same)
slots_equal Unusable Plain same = absurd (false≢true same)
slots_equal Unusable (Virt right) same = absurd (false≢true same)
slots_equal Unusable Unusable same = refl

pub equal_slots : (slot : Slot) → slot_eq slot slot ≡ true
equal_slots Plain = refl
equal_slots (Virt site) = eq-eqb site site refl
equal_slots Unusable = refl

plain_or_virtual : (site : ℕ) → ¬ (Plain ≡ Virt site)
plain_or_virtual site same = true≢false (ap is_plain same) where
  is_plain : Slot → Bool
  is_plain Plain = true
  is_plain (Virt one) = false
  is_plain Unusable = false

-- a slot that is made Plain has its site among those that are away
away_from_plain : (test : ℕ → Bool) (site : ℕ) → Plain ≡ made_plain test (Virt site) → IsTrue (test site)
away_from_plain test site same =
    elim (cases_Bool (test site)) [
      | inl away ↦ away
      | inr stays ↦ absurd (plain_or_virtual site (same ∙ kept_slot test site stays))
    ]

-- ---- one pair of slots

pub same_pair : (sites : List ℕ) (one other : Slot) → slot_eq one other ≡ true → HasMarkedPair sites sites one other
same_pair sites one other same = record {
  kept = λ site there. there;
  agree = ap (made_plain (has sites)) (slots_equal one other same);
  forced = λ test agree begins. begins;
}

abbrev both_slots : Slot → Slot → ℕ → Bool
both_slots one other site = is_virtual site one || is_virtual site other

pub other_pair : (before after : List ℕ) (one other : Slot) → slot_eq one other ≡ false → is_unusable one ≡ is_unusable other → HasMarked before after (λ site. is_virtual site one || is_virtual site other) → HasMarkedPair before after one other
other_pair before after one other differ usable marked = record {
  kept = λ site there. marked.marked site ∙ or_left (has before site) (both_slots one other site) there;
  agree = agree one other differ usable (λ site virtual. marked.marked site ∙ or_right (has before site) (both_slots one other site) virtual);
  forced = λ test same begins site there. elim (or_cases (has before site) (both_slots one other site) (sym (marked.marked site) ∙ there)) [
    | inl old ↦ begins site old
    | inr new ↦ forced one other differ usable test same site new
  ];
} where
  agree : (one other : Slot) → slot_eq one other ≡ false → is_unusable one ≡ is_unusable other → ((site : ℕ) → IsTrue (both_slots one other site) → IsTrue (has after site)) → made_plain (has after) one ≡ made_plain (has after) other
  agree Plain Plain differ usable all = refl
  agree Plain (Virt right) differ usable all = sym (plain_slot (has after) right (all right (eq-eqb right right refl)))
  agree Plain Unusable differ usable all = absurd (false≢true usable)
  agree (Virt left) Plain differ usable all = plain_slot (has after) left (all left (or_left (left == left) false (eq-eqb left left refl)))
  agree (Virt left) (Virt right) differ usable all =
      plain_slot (has after) left (all left (or_left (left == left) (right == left) (eq-eqb left left refl)))
      ∙ sym (plain_slot (has after) right (all right (or_right (left == right) (right == right) (eq-eqb right right refl))))
  agree (Virt left) Unusable differ usable all = absurd (false≢true usable)
  agree Unusable Plain differ usable all = absurd (true≢false usable)
  agree Unusable (Virt right) differ usable all = absurd (true≢false usable)
  agree Unusable Unusable differ usable all = refl

  forced : (one other : Slot) → slot_eq one other ≡ false → is_unusable one ≡ is_unusable other → (test : ℕ → Bool) → made_plain test one ≡ made_plain test other → (site : ℕ) → IsTrue (both_slots one other site) → IsTrue (test site)
  forced Plain Plain differ usable test same site new = absurd (false≢true new)
  forced Plain (Virt right) differ usable test same site new = subst (λ (n : ℕ). IsTrue (test n)) (eqb-true right site new) (away_from_plain test right same)
  forced Plain Unusable differ usable test same site new = absurd (false≢true new)
  forced (Virt left) Plain differ usable test same site new =
      elim (or_cases (left == site) false new) [
        | inl here ↦ subst (λ (n : ℕ). IsTrue (test n)) (eqb-true left site here) (away_from_plain test left (sym same))
        | inr never ↦ absurd (false≢true never)
      ]
  forced (Virt left) (Virt right) differ usable test same site new =
      let left_away : IsTrue (test left) = elim (cases_Bool (test left)) [
        | inl away ↦ away
        | inr stays ↦ elim (cases_Bool (test right)) [
          | inl away ↦ absurd (plain_or_virtual left (sym (plain_slot test right away) ∙ sym same ∙ kept_slot test left stays))
          | inr also ↦ absurd (eqb-false left right differ (same_virtual left right (sym (kept_slot test left stays) ∙ same ∙ kept_slot test right also)))
        ]
      ] in
      let right_away : IsTrue (test right) = away_from_plain test right (sym (plain_slot test left left_away) ∙ same) in
      elim (or_cases (left == site) (right == site) new) [
        | inl here ↦ subst (λ (n : ℕ). IsTrue (test n)) (eqb-true left site here) left_away
        | inr here ↦ subst (λ (n : ℕ). IsTrue (test n)) (eqb-true right site here) right_away
      ] where
        same_virtual : (left right : ℕ) → Virt left ≡ Virt right → left ≡ right
        same_virtual left right same = cc
  forced (Virt left) Unusable differ usable test same site new = absurd (false≢true usable)
  forced Unusable Plain differ usable test same site new = absurd (false≢true new)
  forced Unusable (Virt right) differ usable test same site new = absurd (true≢false usable)
  forced Unusable Unusable differ usable test same site new = absurd (false≢true new)

-- ---- slots

pub no_differences : (sites : List ℕ) → HasMarkedDifferences sites sites [] []
no_differences sites = record { kept = λ site there. there; agree = refl; forced = λ test agree begins. begins }

-- the front of two lists
pub front_agrees : (test : ℕ → Bool) (one other : List Slot) (at : ℕ) → AgreeWithout test one other → AgreeWithout test (take at one) (take at other)
front_agrees test one other at agree = sym (map_take at one) ∙ ap (take at) agree ∙ map_take at other where
  map_take : (at : ℕ) (slots : List Slot) → take at (map (made_plain test) slots) ≡ map (made_plain test) (take at slots)
  map_take zero slots = refl
  map_take (suc at) [] = refl
  map_take (suc at) (slot ∷ slots) = ap (λ (rest : List Slot). made_plain test slot ∷ rest) (map_take at slots)

pub at_agrees : (test : ℕ → Bool) (one other : List Slot) (at : ℕ) → at < length one → AgreeWithout test one other → made_plain test (get_or one at Plain) ≡ made_plain test (get_or other at Plain)
at_agrees test one other at within agree = sym (at_map at one) ∙ ap (λ (slots : List Slot). get_or slots at Plain) agree ∙ at_map at other where
  at_map : (at : ℕ) (slots : List Slot) → get_or (map (made_plain test) slots) at Plain ≡ made_plain test (get_or slots at Plain)
  at_map zero [] = refl
  at_map (suc at) [] = refl
  at_map zero (slot ∷ slots) = refl
  at_map (suc at) (slot ∷ slots) = at_map at slots

-- one more pair
pub differences_more : (start before after : List ℕ) (one other : List Slot) (at : ℕ) → at < length one → at < length other → HasMarkedDifferences start before (take at one) (take at other) → HasMarkedPair before after (get_or one at Plain) (get_or other at Plain) → HasMarkedDifferences start after (take (at + 1) one) (take (at + 1) other)
differences_more start before after one other at low also front pair =
    let left = take_more one at Plain low in
    let right = take_more other at Plain also in
    record {
      kept = λ site there. pair.kept site (front.kept site there);
      agree =
          ap (map (made_plain (has after))) left
          ∙ map_push (made_plain (has after)) (take at one) (get_or one at Plain)
          ∙ (λ i. agree_more (has before) (has after) (take at one) (take at other) pair.kept front.agree i ++ pair.agree i ∷ [])
          ∙ sym (map_push (made_plain (has after)) (take at other) (get_or other at Plain))
          ∙ sym (ap (map (made_plain (has after))) right);
      forced = λ test agree begins.
          let front_same : AgreeWithout test (take at one) (take at other) = front_of test agree in
          pair.forced test (last_of test agree) (front.forced test front_same begins);
    } where
      front_of : (test : ℕ → Bool) → AgreeWithout test (take (at + 1) one) (take (at + 1) other) → AgreeWithout test (take at one) (take at other)
      front_of test agree =
          sym (ap (map (made_plain test)) (take-take at (at + 1) one (omega arith)))
          ∙ front_agrees test (take (at + 1) one) (take (at + 1) other) at agree
          ∙ ap (map (made_plain test)) (take-take at (at + 1) other (omega arith))

      last_of : (test : ℕ → Bool) → AgreeWithout test (take (at + 1) one) (take (at + 1) other) → made_plain test (get_or one at Plain) ≡ made_plain test (get_or other at Plain)
      last_of test agree =
          sym (ap (made_plain test) (get_or-take (at + 1) one at Plain (omega arith)))
          ∙ at_agrees test (take (at + 1) one) (take (at + 1) other) at (omega (arith, length-take-le (at + 1) one (omega arith))) agree
          ∙ ap (made_plain test) (get_or-take (at + 1) other at Plain (omega arith))

pub differences_all : (start after : List ℕ) (one other : List Slot) (at : ℕ) → length one ≤ at → length other ≤ at → HasMarkedDifferences start after (take at one) (take at other) → HasMarkedDifferences start after one other
differences_all start after one other at left right front =
    let same = take_all at one left in
    let also = take_all at other right in
    subst (λ (slots : List Slot). HasMarkedDifferences start after slots other) same (subst (λ (slots : List Slot). HasMarkedDifferences start after (take at one) slots) also front)

-- ---- as many slots

pub same_len : (one other : List Slot) → map is_unusable one ≡ map is_unusable other → length one ≡ length other
same_len one other same = sym (length-map one is_unusable) ∙ ap {B = ℕ} (λ (list : List Bool). length list) same ∙ length-map other is_unusable

pub same_unusable : (one other : List Slot) (at : ℕ) → map is_unusable one ≡ map is_unusable other → is_unusable (get_or one at Plain) ≡ is_unusable (get_or other at Plain)
same_unusable one other at same = sym (at_map at one) ∙ ap (λ (list : List Bool). get_or list at false) same ∙ at_map at other where
  at_map : (at : ℕ) (slots : List Slot) → get_or (map is_unusable slots) at false ≡ is_unusable (get_or slots at Plain)
  at_map zero [] = refl
  at_map (suc at) [] = refl
  at_map zero (slot ∷ slots) = refl
  at_map (suc at) (slot ∷ slots) = at_map at slots

-- fields that are as many, none of them unusable
pub usable_fields : (one other : List Slot) → length one ≡ length other → list_any is_unusable one ≡ false → list_any is_unusable other ≡ false → map is_unusable one ≡ map is_unusable other
usable_fields [] [] len left right = refl
usable_fields [] (slot ∷ other) len left right = absurd (omega arith)
usable_fields (slot ∷ one) [] len left right = absurd (omega arith)
usable_fields (first ∷ one) (second ∷ other) len left right =
    let here = or_parts (is_unusable first) (list_any is_unusable one) left in
    let there = or_parts (is_unusable second) (list_any is_unusable other) right in
    λ i. here-is first second here.0 there.0 i ∷ usable_fields one other (omega arith) here.1 there.1 i where
      here-is : (first second : Slot) → is_unusable first ≡ false → is_unusable second ≡ false → is_unusable first ≡ is_unusable second
      here-is first second left right = left ∙ sym right

-- ---- the objects of a site

-- where all objects that they hold are made, slots agree
all_away : (test : ℕ → Bool) (one other : List Slot) → map is_unusable one ≡ map is_unusable other → ((site : ℕ) → IsTrue (names one site) → IsTrue (test site)) → ((site : ℕ) → IsTrue (names other site) → IsTrue (test site)) → AgreeWithout test one other
all_away test one other same left right = plain one left ∙ bare one other same ∙ sym (plain other right) where
  bare_slot : Slot → Slot
  bare_slot Plain = Plain
  bare_slot (Virt site) = Plain
  bare_slot Unusable = Unusable

  plain : (slots : List Slot) → ((site : ℕ) → IsTrue (names slots site) → IsTrue (test site)) → map (made_plain test) slots ≡ map bare_slot slots
  plain [] all = refl
  plain (Plain ∷ slots) all = ap (λ (rest : List Slot). Plain ∷ rest) (plain slots all)
  plain (Unusable ∷ slots) all = ap (λ (rest : List Slot). Unusable ∷ rest) (plain slots all)
  plain (Virt site ∷ slots) all =
      let here = plain_slot test site (all site (or_left (site == site) (names slots site) (eq-eqb site site refl))) in
      let rest = plain slots (λ one named. all one (or_right (site == one) (names slots one) named)) in
      λ i. here i ∷ rest i

  bare_is : (slot : Slot) → bare_slot slot ≡ cond (is_unusable slot) Unusable Plain
  bare_is Plain = refl
  bare_is (Virt site) = refl
  bare_is Unusable = refl

  bare_all : (slots : List Slot) → map bare_slot slots ≡ map (λ (b : Bool). cond b Unusable Plain) (map is_unusable slots)
  bare_all [] = refl
  bare_all (slot ∷ slots) = λ i. bare_is slot i ∷ bare_all slots i

  bare : (one other : List Slot) → map is_unusable one ≡ map is_unusable other → map bare_slot one ≡ map bare_slot other
  bare one other same = bare_all one ∙ ap (map (λ (b : Bool). cond b Unusable Plain)) same ∙ sym (bare_all other)

marked_part : (before after : List ℕ) (test : ℕ → Bool) → HasMarked before after test → IsPart (has before) (has after)
marked_part before after test marked = λ site there. marked.marked site ∙ or_left (has before site) (test site) there

-- one object alone
pub left_alone : (before after : List ℕ) (object : VObject) → HasMarked before after (λ site. object.site == site) → HasMarkedObject before after (Some object) None
left_alone before after object marked = record {
  kept = marked_part before after (λ site. object.site == site) marked;
  agree = marked.marked object.site ∙ or_right (has before object.site) (object.site == object.site) (eq-eqb object.site object.site refl);
  forced = λ test away left right begins site there. elim (or_cases (has before site) (object.site == site) (sym (marked.marked site) ∙ there)) [
    | inl old ↦ begins site old
    | inr here ↦ subst (λ (n : ℕ). IsTrue (test n)) (eqb-true object.site site here) away
  ];
}

pub right_alone : (before after : List ℕ) (object : VObject) → HasMarked before after (λ site. object.site == site) → HasMarkedObject before after None (Some object)
right_alone before after object marked = record {
  kept = marked_part before after (λ site. object.site == site) marked;
  agree = marked.marked object.site ∙ or_right (has before object.site) (object.site == object.site) (eq-eqb object.site object.site refl);
  forced = λ test away left right begins site there. elim (or_cases (has before site) (object.site == site) (sym (marked.marked site) ∙ there)) [
    | inl old ↦ begins site old
    | inr here ↦ subst (λ (n : ℕ). IsTrue (test n)) (eqb-true object.site site here) away
  ];
}

pub neither_there : (sites : List ℕ) → HasMarkedObject sites sites None None
neither_there sites = record { kept = λ site there. there; agree = tt; forced = λ test agree left right begins. begins }

-- two objects that can't agree
pub objects_differ : (before after : List ℕ) (one other : VObject) → ¬ ((one.depth ≡ other.depth) × (length one.fields ≡ length other.fields)) → HasMarked before after (λ site. one.site == site) → HasMarkedObject before after (Some one) (Some other)
objects_differ before after one other differ marked =
    let here : IsTrue (has after one.site) = marked.marked one.site ∙ or_right (has before one.site) (one.site == one.site) (eq-eqb one.site one.site refl) in
    record {
      kept = marked_part before after (λ site. one.site == site) marked;
      agree = λ stays. absurd (both_ways (has after one.site) stays here);
      forced = λ test agree left right begins site there. elim (or_cases (has before site) (one.site == site) (sym (marked.marked site) ∙ there)) [
        | inl old ↦ begins site old
        | inr own ↦ elim (cases_Bool (test one.site)) [
          | inl away ↦ subst (λ (n : ℕ). IsTrue (test n)) (eqb-true one.site site own) away
          | inr stays ↦
              let same = agree stays in
              absurd (differ (same.0, sym (length-map one.fields (made_plain test)) ∙ ap {B = ℕ} (λ (slots : List Slot). length slots) same.1 ∙ length-map other.fields (made_plain test)))
        ]
      ];
    }

-- two objects of one shape
pub objects_marked : (before after : List ℕ) (one other : VObject) → one.site ≡ other.site → one.depth ≡ other.depth → map is_unusable one.fields ≡ map is_unusable other.fields → HasMarkedDifferences before after one.fields other.fields → HasMarkedObject before after (Some one) (Some other)
objects_marked before after one other site depth usable marked = record {
  kept = marked.kept;
  agree = λ stays. (depth, marked.agree);
  forced = λ test agree left right begins. elim (cases_Bool (test one.site)) [
    | inl away ↦ marked.forced test (all_away test one.fields other.fields usable (left away) (right (sym (ap test site) ∙ away))) begins
    | inr stays ↦ marked.forced test (agree stays).1 begins
  ];
}

-- ---- the objects of all sites

objects_agree_more : (one other : ℕ → Bool) → IsPart one other → (left right : Option VObject) → ObjectsAgree one left right → ObjectsAgree other left right
objects_agree_more one other part None None agree = tt
objects_agree_more one other part None (Some right) agree = part right.site agree
objects_agree_more one other part (Some left) None agree = part left.site agree
objects_agree_more one other part (Some left) (Some right) agree = λ stays.
    let same = agree (still stays) in
    (same.0, agree_more one other left.fields right.fields part same.1) where
      still : other left.site ≡ false → one left.site ≡ false
      still stays = elim (cases_Bool (one left.site)) [
        | inl away ↦ absurd (both_ways (other left.site) stays (part left.site away))
        | inr kept ↦ kept
      ]

pub objects_agree_part : (one other : ℕ → Bool) → IsPart one other → (left right : Option VObject) → ObjectsAgree one left right → ObjectsAgree other left right
objects_agree_part = objects_agree_more

follow_closed : (test : ℕ → Bool) (objects : List VObject) (site : ℕ) → IsClosed test objects → FieldsFollow test (object_of objects site)
follow_closed test objects site closed = at (object_of objects site) refl where
  at : (object : Option VObject) → object_of objects site ≡ object → FieldsFollow test object
  at None is = tt
  at (Some object) is = λ away to named. closed object.site to (record { object = object; there = ap (object_of objects) (found_site objects site object is) ∙ is; named = named }) away

pub no_objects : (sites : List ℕ) (one other : List VObject) → HasMarkedObjects sites sites one other 0
no_objects sites one other = record { kept = λ site there. there; agree = λ site low. absurd (omega arith); forced = λ test agree left right begins. begins }

pub objects_more : (start before after : List ℕ) (one other : List VObject) (at : ℕ) → HasMarkedObjects start before one other at → HasMarkedObject before after (object_of one at) (object_of other at) → HasMarkedObjects start after one other (at + 1)
objects_more start before after one other at front marked = record {
  kept = λ site there. marked.kept site (front.kept site there);
  agree = λ site low. elim (cases_lt site at) [
    | inl less ↦ objects_agree_more (has before) (has after) marked.kept (object_of one site) (object_of other site) (front.agree site less)
    | inr more ↦
        let here : at ≡ site = omega arith in
        subst (λ (n : ℕ). ObjectsAgree (has after) (object_of one n) (object_of other n)) here marked.agree
  ];
  forced = λ test agree left right begins.
      marked.forced test (agree at) (follow_closed test one at left) (follow_closed test other at right) (front.forced test agree left right begins);
}

pub objects_all : (start after : List ℕ) (one other : List VObject) (end : ℕ) → HasMarkedObjects start after one other end → ((site : ℕ) → end ≤ site → object_of one site ≡ None) → ((site : ℕ) → end ≤ site → object_of other site ≡ None) → HaveMarkedObjects start after one other
objects_all start after one other end marked left right = record {
  kept = marked.kept;
  agree = λ site. elim (cases_lt site end) [
    | inl less ↦ marked.agree site less
    | inr more ↦ subst (λ (o : Option VObject). ObjectsAgree (has after) o (object_of other site)) (sym (left site more)) (subst (λ (o : Option VObject). ObjectsAgree (has after) None o) (sym (right site more)) tt)
  ];
  forced = marked.forced;
}

-- the objects of one site are a pair
pub pair_found : (one other : List VObject) → AreUsable one → AreUsable other → (site : ℕ) → ArePair (object_of one site) (object_of other site)
pair_found one other left right site = at (object_of one site) (object_of other site) refl refl where
  at : (first second : Option VObject) → object_of one site ≡ first → object_of other site ≡ second → ArePair first second
  at None second is also = tt
  at (Some first) None is also = tt
  at (Some first) (Some second) is also = (found_site one site first is ∙ sym (found_site other site second also), left.each site first is, right.each site second also)
