-- Where the items of blocks stand: as points of the body, with the frames that are stated there.
use Rattle.std.proofs.Common.{◌≡◌, ◌≢◌, ◌+◌, ◌==◌, ◌<◌, ℕ, zero, suc, Bool, true, false, List, [], ◌∷◌, ◌++◌, length, slice_get, Some, None, refl, sym, ap, ◌∙◌, arith}
use Rattle.std.proofs.lemmas.Bool.{eq-eqb, eqb-true, false≢true, true≢false}
use Rattle.std.proofs.lemmas.List.{append_assoc, length-append}
use Rattle.making_code.specs.IndexedItems.{IndexedItem}
use Rattle.making_code.specs.Items.{WItem}
use Rattle.member_link.specs.Machine.Replaced.{map_numbered}
use Rattle.plan_flow.specs.Written.Finish.{Finished, is_empty}
use Rattle.plan_flow.specs.Written.FramedCode.{block_from, item_body}
use Rattle.plan_flow.specs.Written.WrittenCode.{Form, block_items, written_items}
use Rattle.plan_flow.specs.Written.WrittenConstants.{indexed_item}
use Rattle.written_types.specs.Writing.{Writing, point_in, points_in, scope_in}

-- ---- lists by number

pub numbered_behind : {A B : Type 0} (change : ℕ → A → B) (from : ℕ) (left right : List A) (item : A)
    → slice_get (map_numbered change from (left ++ (item ∷ right))) (length left) ≡ Some (change (from + length left) item)
numbered_behind change from [] right item = ap (λ (n : ℕ). Some (change n item)) (omega arith)
numbered_behind change from (first ∷ left) right item =
    numbered_behind change (suc from) left right item ∙ ap (λ (n : ℕ). Some (change n item)) (omega arith)

pub numbered_apart : {A B : Type 0} (change : ℕ → A → B) (from : ℕ) (left right : List A) (item : A)
    → map_numbered change from (left ++ (item ∷ right))
    ≡ map_numbered change from left ++ (change (from + length left) item ∷ map_numbered change (suc (from + length left)) right)
numbered_apart change from [] right item = ap (λ (n : ℕ). change n item ∷ map_numbered change (suc n) right) (omega arith)
numbered_apart {B = B} change from (first ∷ left) right item =
    ap (λ (rest : List B). change from first ∷ rest)
    (numbered_apart change (suc from) left right item
    ∙ ap (λ (n : ℕ). map_numbered change (suc from) left ++ (change n item ∷ map_numbered change (suc n) right)) (omega arith))

pub numbered_long : {A B : Type 0} (change : ℕ → A → B) (from : ℕ) (items : List A) → length (map_numbered change from items) ≡ length items
numbered_long change from [] = refl
numbered_long change from (item ∷ items) = ap suc (numbered_long change (suc from) items)

-- ---- points

-- the items of blocks, some of them before others
pub written_apart : (form : Form) (front behind : List Finished)
    → written_items form (front ++ behind) ≡ written_items form front ++ written_items form behind
written_apart form [] behind = refl
written_apart form (one ∷ front) behind =
    ap (λ (rest : List WItem). block_items form one ++ rest) (written_apart form front behind)
    ∙ sym (append_assoc (block_items form one) (written_items form front) (written_items form behind))

-- Items that are written before one, and behind it.
pub record StandsAt (w : Writing) (number : ℕ) (one : WItem) : Type 0 where
  pub left : List WItem
  pub right : List WItem
  pub is : written_items w.form w.blocks ≡ left ++ (one ∷ right)
  pub number_is : number ≡ length left

pub point_stands : (w : Writing) (number : ℕ) (one : WItem) → StandsAt w number one → slice_get (points_in w) number ≡ Some (point_in w number one)
point_stands w number one at =
    let items = ap (map_numbered (indexed_item w.s w.constructor w.pool w.form w.blocks) zero) at.is in
    let apart = numbered_apart (indexed_item w.s w.constructor w.pool w.form w.blocks) zero at.left at.right one in
    let change = item_body w.pool (scope_in w) in
    let front = map_numbered (indexed_item w.s w.constructor w.pool w.form w.blocks) zero at.left in
    let long : length front ≡ number =
    numbered_long (indexed_item w.s w.constructor w.pool w.form w.blocks) zero at.left ∙ sym at.number_is in
    ap (λ (xs : List IndexedItem). slice_get (map_numbered change zero xs) number) (items ∙ apart)
    ∙ ap (λ (n : ℕ). slice_get (map_numbered change zero
    (front ++ (indexed_item w.s w.constructor w.pool w.form w.blocks (zero + length at.left) one
    ∷ map_numbered (indexed_item w.s w.constructor w.pool w.form w.blocks) (suc (zero + length at.left)) at.right))) n) (sym long)
    ∙ numbered_behind change zero front _ _
    ∙ ap (λ (n : ℕ). Some (change n (indexed_item w.s w.constructor w.pool w.form w.blocks (zero + length at.left) one)))
    (the_same (zero + length front) number (omega (arith, long)))
    ∙ ap (λ (n : ℕ). Some (change number (indexed_item w.s w.constructor w.pool w.form w.blocks n one)))
    (the_same (zero + length at.left) number (let is = at.number_is in omega (arith, is)))
  where
    the_same : (a b : ℕ) → a ≡ b → a ≡ b
    the_same a b is = is

-- ---- the block that begins with an item

not_same : (number wanted : ℕ) → number ≢ wanted → (number == wanted) ≡ false
not_same number wanted apart = by (number == wanted) refl where
  by : (b : Bool) → (number == wanted) ≡ b → (number == wanted) ≡ false
  by true is = absurd (apart (eqb-true number wanted is))
  by false is = is

some_items : (items : List WItem) → is_empty items ≡ false → 0 < length items
some_items [] is = absurd (true≢false is)
some_items (one ∷ items) is = omega arith

no_items : (items : List WItem) → is_empty items ≡ true → items ≡ []
no_items [] is = refl
no_items (one ∷ items) is = absurd (false≢true is)

-- of a block with items, behind others
pub block_at : (form : Form) (number : ℕ) (front behind : List Finished) (one : Finished)
    → is_empty (block_items form one) ≡ false
    → block_from form (number + length (written_items form front)) number (front ++ (one ∷ behind)) ≡ Some one
block_at form number [] behind one some =
    rw (some, eq-eqb (number) (number + 0) (omega arith)) refl
block_at form number (first ∷ front) behind one some = by (is_empty (block_items form first)) refl
    (block_at form number front behind one some) (block_at form (number + length (block_items form first)) front behind one some) where
      long : length (written_items form (first ∷ front)) ≡ length (block_items form first) + length (written_items form front)
      long = length-append (block_items form first) (written_items form front)

      by : (b : Bool) → is_empty (block_items form first) ≡ b
          → block_from form (number + length (written_items form front)) number (front ++ (one ∷ behind)) ≡ Some one
          → block_from form (number + length (block_items form first) + length (written_items form front))
          (number + length (block_items form first)) (front ++ (one ∷ behind)) ≡ Some one
          → block_from form (number + length (written_items form (first ∷ front))) number ((first ∷ front) ++ (one ∷ behind)) ≡ Some one
      by true is rest more =
          let none : length (block_items form first) ≡ 0 = ap length (no_items (block_items form first) is) in
          rw (is) (ap (λ (n : ℕ). block_from form n number (front ++ (one ∷ behind))) (omega (arith, long, none)) ∙ rest)
      by false is rest more =
          let some_first = some_items (block_items form first) is in
          rw (is, not_same number (number + length (written_items form (first ∷ front))) (λ same. omega (arith, same, long, some_first)))
          (ap (λ (n : ℕ). block_from form n (number + length (block_items form first)) (front ++ (one ∷ behind))) (omega (arith, long)) ∙ more)

-- no block from an item on begins with an earlier one
pub none_before : (form : Form) (wanted number : ℕ) (blocks : List Finished) → wanted < number → block_from form wanted number blocks ≡ None
none_before form wanted number [] before = refl
none_before form wanted number (one ∷ blocks) before = by (is_empty (block_items form one)) refl
    (none_before form wanted number blocks before)
    (none_before form wanted (number + length (block_items form one)) blocks (omega (arith, before))) where
      by : (b : Bool) → is_empty (block_items form one) ≡ b
          → block_from form wanted number blocks ≡ None
          → block_from form wanted (number + length (block_items form one)) blocks ≡ None
          → block_from form wanted number (one ∷ blocks) ≡ None
      by true is rest more = rw (is) rest
      by false is rest more = rw (is, not_same number wanted (λ same. omega (arith, same, before))) more

-- nor does one begin inside of another
pub none_inside : (form : Form) (number inside : ℕ) (front behind : List Finished) (one : Finished)
    → 0 < inside
    → inside < length (block_items form one)
    → block_from form (number + length (written_items form front) + inside) number (front ++ (one ∷ behind)) ≡ None
none_inside form number inside [] behind one more less = by (is_empty (block_items form one)) refl where
  by : (b : Bool) → is_empty (block_items form one) ≡ b → block_from form (number + 0 + inside) number (one ∷ behind) ≡ None
  by true is =
      let none : length (block_items form one) ≡ 0 = ap length (no_items (block_items form one) is) in
      absurd (omega (arith, none, less))
  by false is =
      rw (is, not_same number (number + 0 + inside) (λ same. omega (arith, same, more)))
      (none_before form (number + 0 + inside) (number + length (block_items form one)) behind (omega (arith, less)))
none_inside form number inside (first ∷ front) behind one more less = by (is_empty (block_items form first)) refl
    (none_inside form number inside front behind one more less)
    (none_inside form (number + length (block_items form first)) inside front behind one more less) where
      long : length (written_items form (first ∷ front)) ≡ length (block_items form first) + length (written_items form front)
      long = length-append (block_items form first) (written_items form front)

      by : (b : Bool) → is_empty (block_items form first) ≡ b
          → block_from form (number + length (written_items form front) + inside) number (front ++ (one ∷ behind)) ≡ None
          → block_from form (number + length (block_items form first) + length (written_items form front) + inside)
          (number + length (block_items form first)) (front ++ (one ∷ behind)) ≡ None
          → block_from form (number + length (written_items form (first ∷ front)) + inside) number ((first ∷ front) ++ (one ∷ behind)) ≡ None
      by true is rest others =
          let none : length (block_items form first) ≡ 0 = ap length (no_items (block_items form first) is) in
          rw (is) (ap (λ (n : ℕ). block_from form n number (front ++ (one ∷ behind))) (omega (arith, long, none)) ∙ rest)
      by false is rest others =
          rw (is, not_same number (number + length (written_items form (first ∷ front)) + inside) (λ same. omega (arith, same, long, more)))
          (ap (λ (n : ℕ). block_from form n (number + length (block_items form first)) (front ++ (one ∷ behind))) (omega (arith, long)) ∙ others)
