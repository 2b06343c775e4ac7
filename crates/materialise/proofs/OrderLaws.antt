-- Sites whose objects are made one after the other: what is left of them gets less, and one of those that are left can always be made.
use Rattle.std.proofs.Common.{◌≡◌, ◌==◌, ◌||◌, ℕ, Bool, true, false, not, List, [], ◌∷◌, ◌++◌, IsTrue, refl, sym, ap, subst, ◌∙◌, append_assoc, append-nil, arith}
use Rattle.std.specs.List.{filter, list_any}
use Rattle.std.proofs.lemmas.Bool.{and_parts, false≢true}
use Rattle.making_code.specs.Laws.MakeOrders.{has_left, left_without, other_than, same_back}
use Rattle.making_code.specs.MakeOrder.{ComesNext, IsMakeOrder, all_made, left_of, one_next}
use Rattle.materialise.specs.Inner.OrderWords.{is_pending}
use Rattle.virtual_state.specs.Sites.{has}
use Rattle.virtual_state.specs.States.{is_virtual, names}
use Rattle.virtual_state.specs.declared.slot.Slot.{Slot}
use Rattle.virtual_state.specs.declared.slot.Slot.TheVariants.{Plain, Virt, Unusable}
use Rattle.virtual_state.specs.declared.slot.VObject.{VObject}

-- ---- sites that are left

pub left_parts : (sites made : List ℕ) (site : ℕ) → IsTrue (has (left_of sites made) site) → (not (has made site) ≡ true) × (has sites site ≡ true)
left_parts sites made site left = and_parts (not (has made site)) (has sites site) (sym (has_left sites made site) ∙ left)

pub left_of_all : (sites : List ℕ) → left_of sites [] ≡ sites
left_of_all [] = refl
left_of_all (site ∷ sites) = ap (λ (others : List ℕ). site ∷ others) (left_of_all sites)

-- ---- an order, site by site

-- whatever is an order of what is left is so behind those that are made
pub record Ordered (objects : List VObject) (sites made order : List ℕ) : Type 0 where
  pub goes_on : (others : List ℕ) → IsMakeOrder objects (left_of sites made) others → IsMakeOrder objects sites (order ++ others)

pub ordered_first : (objects : List VObject) (sites : List ℕ) → Ordered objects sites [] []
ordered_first objects sites = record {
  goes_on = λ others is. subst (λ (left : List ℕ). IsMakeOrder objects left others) (left_of_all sites) is;
}

pub ordered_more : (objects : List VObject) (sites made more order longer : List ℕ) (site : ℕ)
    → ((one : ℕ) → has more one ≡ (has made one || site == one))
    → longer ≡ order ++ site ∷ []
    → ComesNext objects (left_of sites made) site
    → Ordered objects sites made order
    → Ordered objects sites more longer
ordered_more objects sites made more order longer site adds is next so_far = record {
  goes_on = λ others rest.
      subst (λ (all : List ℕ). IsMakeOrder objects sites all) (sym (append_assoc order (site ∷ []) others) ∙ ap (λ (front : List ℕ). front ++ others) (sym is))
      (so_far.goes_on (site ∷ others)
      (one_next (left_of sites made) others site next
      (subst (λ (left : List ℕ). IsMakeOrder objects left others) (left_without sites made more site adds) rest)));
}

pub ordered_all : (objects : List VObject) (sites made order : List ℕ)
    → left_of sites made ≡ []
    → Ordered objects sites made order
    → IsMakeOrder objects sites order
ordered_all objects sites made order none so_far =
    subst (λ (all : List ℕ). IsMakeOrder objects sites all) (append-nil order)
    (so_far.goes_on [] (subst (λ (left : List ℕ). IsMakeOrder objects left []) (sym none) all_made))

-- there is one order
next_is_one : (objects : List VObject) (left : List ℕ) (one other : ℕ) → ComesNext objects left one → ComesNext objects left other → one ≡ other
next_is_one objects left one other first second =
    let low = first.least other second.left_over second.ready in
    let high = second.least one first.left_over first.ready in
    omega (arith, low, high)

none_is_next : (objects : List VObject) (site : ℕ) → ComesNext objects [] site → ⊥
none_is_next objects site next = false≢true next.left_over

pub one_order : {objects : List VObject} {left one other : List ℕ} → IsMakeOrder objects left one → IsMakeOrder objects left other → one ≡ other
one_order all_made all_made = refl
one_order {objects} all_made (one_next left order site next rest) = absurd (none_is_next objects site next)
one_order {objects} (one_next left order site next rest) all_made = absurd (none_is_next objects site next)
one_order {objects} (one_next left order site next rest) (one_next left2 order2 site2 next2 rest2) =
    let same : site2 ≡ site = next_is_one objects left site2 site next2 next in
    let orders : order ≡ order2 = one_order rest (subst (λ (n : ℕ). IsMakeOrder objects (filter (other_than n) left) order2) same rest2) in
    ap (λ (list : List ℕ). site ∷ list) orders ∙ ap (λ (n : ℕ). n ∷ order2) (sym same)

-- ---- slots that name one of those that are left

any_no : {A : Type 0} (items : List A) → list_any (λ item. false) items ≡ false
any_no [] = refl
any_no (item ∷ items) = any_no items

shuffle : (a b c d : Bool) → ((a || b) || (c || d)) ≡ ((a || c) || (b || d))
shuffle true b c d = refl
shuffle false true true d = refl
shuffle false true false d = refl
shuffle false false c d = refl

any_either : (p q : ℕ → Bool) (items : List ℕ) → list_any (λ item. p item || q item) items ≡ (list_any p items || list_any q items)
any_either p q [] = refl
any_either p q (item ∷ items) =
    ap (λ (b : Bool). (p item || q item) || b) (any_either p q items) ∙ shuffle (p item) (q item) (list_any p items) (list_any q items)

any_agree : (p q : ℕ → Bool) → ((n : ℕ) → p n ≡ q n) → (items : List ℕ) → list_any p items ≡ list_any q items
any_agree p q same [] = refl
any_agree p q same (item ∷ items) = ap (λ (b : Bool). b || list_any p items) (same item) ∙ ap (λ (b : Bool). q item || b) (any_agree p q same items)

pending_slot : (sites made : List ℕ) (slot : Slot) → is_pending sites made slot ≡ list_any (λ site. is_virtual site slot) (left_of sites made)
pending_slot sites made Plain = sym (any_no (left_of sites made))
pending_slot sites made Unusable = sym (any_no (left_of sites made))
pending_slot sites made (Virt one) =
    sym (any_agree (λ (site : ℕ). one == site) (λ (site : ℕ). site == one) (λ site. same_back one site) (left_of sites made) ∙ has_left sites made one)

pub pending_names : (sites made : List ℕ) (fields : List Slot) → list_any (is_pending sites made) fields ≡ list_any (names fields) (left_of sites made)
pending_names sites made [] = sym (any_no (left_of sites made))
pending_names sites made (slot ∷ fields) =
    ap (λ (b : Bool). b || list_any (is_pending sites made) fields) (pending_slot sites made slot)
    ∙ ap (λ (b : Bool). list_any (λ site. is_virtual site slot) (left_of sites made) || b) (pending_names sites made fields)
    ∙ sym (any_either (λ (site : ℕ). is_virtual site slot) (names fields) (left_of sites made))
