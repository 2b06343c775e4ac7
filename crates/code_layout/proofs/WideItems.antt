-- Items of the wide form are emitted code too, whose conditional jumps lead to what stands close behind them.
use Rattle.std.proofs.Common.{◌≡◌, ◌⊎◌, ℕ, zero, suc, ◌+◌, ◌<◌, Bool, true, false, List, [], ◌∷◌, ◌++◌, length, map, slice_get, Option, Some, None, inl, inr, refl, sym, ap, subst, ◌∙◌, arith, append_assoc, length-append}
use Rattle.std.proofs.lemmas.Bool.{false≢true}
use Rattle.std.proofs.lemmas.Option.{none-some, same_Some}
use Rattle.std.specs.List.{AllByRecursion}
use Rattle.class_model.specs.Instructions.{targets}
use Rattle.class_model.specs.declared.instr.Imm.TheVariants as imms
use Rattle.class_model.specs.declared.instr.Instr.{Instr}
use Rattle.class_model.specs.declared.instr.Instr.TheVariants.{Const, Goto, If, If2, IfNull, IfSame, Lookup, Table, Throw}
use Rattle.class_model.specs.declared.instr.Pair.{Pair}
use Rattle.making_code.specs.Opposites.{opposite, opposite_instr}
use Rattle.member_link.specs.Targets.{HasForm, pair_to, with_targets}
use Rattle.code_layout.specs.Emitting.{IfNear, IsEmitted, IsItem, JumpsNear, NamesItem}
use Rattle.code_layout.specs.Layout.{start_in}
use Rattle.code_layout.specs.WideForm.{closing, goto_item, jump_over, nop_item, numbers_from, one_target, over_item, renumbered_catches, renumbered_item, wide_from, wide_item, wide_numbers, widened, width}
use Rattle.code_layout.specs.declared.emitted.Catch.{Catch}
use Rattle.code_layout.specs.declared.emitted.EmitItem.{EmitItem}
use Rattle.code_layout.proofs.Opposites.{if2_opposite, if_opposite, null_opposite, same_opposite}
use Rattle.code_layout.proofs.Spellings.{form-kept}
use Rattle.code_layout.proofs.WideNumbers.{closing-behind, closing-is, end-behind, end-grows, length-widened, number-below, numbers-behind, numbers_end, over-goes-on}

-- ---- what stands behind a jump

pub record StartsWithThrow (rest : List EmitItem) : Type 0 where
  pub null : EmitItem
  pub throw : EmitItem
  pub more : List EmitItem
  pub is : rest ≡ null ∷ throw ∷ more
  pub pushes : null.instr ≡ Const imms.Null
  pub throws : throw.instr ≡ Throw

pub record StartsWithGoto (rest : List EmitItem) : Type 0 where
  pub goto : EmitItem
  pub more : List EmitItem
  pub is : rest ≡ goto ∷ more
  pub to : ℕ
  pub goes : goto.instr ≡ Goto to

pub data IsClose (number : ℕ) (rest : List EmitItem) (to : ℕ) : Type 0 where
  over_a_goto : StartsWithGoto rest → to ≡ number + 2 → IsClose number rest to
  over_a_throw : StartsWithThrow rest → to ≡ number + 3 → IsClose number rest to

abbrev pub JumpsClose : ℕ → List EmitItem → Instr → Type 0
JumpsClose number rest (If opcode to) = IsClose number rest to
JumpsClose number rest (If2 opcode to) = IsClose number rest to
JumpsClose number rest (IfSame opcode to) = IsClose number rest to
JumpsClose number rest (IfNull opcode to) = IsClose number rest to
JumpsClose number rest instr = Unit {0}

-- what holds of an item of a number before others, where there are so many items
pub record HoldsOf (n number : ℕ) (item : EmitItem) (rest : List EmitItem) : Type 0 where
  pub form : HasForm item.instr
  pub targets : AllByRecursion (NamesItem n) (targets item.instr)
  pub catches : AllByRecursion (λ (catch : Catch). NamesItem n catch.to) item.catches
  pub near : item.near ≡ true → (item.instr ≡ IfNull 199 (number + 3)) × StartsWithThrow rest
  pub close : JumpsClose number rest item.instr

abbrev pub HoldOf : ℕ → ℕ → List EmitItem → Type 0
HoldOf n number [] = Unit {0}
HoldOf n number (item ∷ rest) = HoldsOf n number item rest × HoldOf n (suc number) rest

-- ---- numbers of items

module _ (n m : ℕ) (renumber : ℕ → ℕ) (below : (to : ℕ) → to < m → renumber to < n) where
  names-all : (to : List ℕ) → AllByRecursion (NamesItem m) to → AllByRecursion (NamesItem n) (map renumber to)
  names-all [] names = tt
  names-all (t ∷ to) names = (below t names.0, names-all to names.1)

  names-pairs : (pairs : List Pair) → AllByRecursion (NamesItem m) (map (λ (p : Pair). p.to) pairs) → AllByRecursion (NamesItem n) (map (λ (p : Pair). p.to) (map (pair_to renumber) pairs))
  names-pairs [] names = tt
  names-pairs (p ∷ pairs) names = (below p.to names.0, names-pairs pairs names.1)

  names-instr : (instr : Instr) → AllByRecursion (NamesItem m) (targets instr) → AllByRecursion (NamesItem n) (targets (with_targets renumber instr))
  names-instr (If opcode to) names = (below to names.0, tt)
  names-instr (If2 opcode to) names = (below to names.0, tt)
  names-instr (IfSame opcode to) names = (below to names.0, tt)
  names-instr (IfNull opcode to) names = (below to names.0, tt)
  names-instr (Goto to) names = (below to names.0, tt)
  names-instr (Table low other to) names = (below other names.0, names-all to names.1)
  names-instr (Lookup other pairs) names = (below other names.0, names-pairs pairs names.1)
  names-instr instr names = names

  names-catches : (catches : List Catch) → AllByRecursion (λ (catch : Catch). NamesItem m catch.to) catches
      → AllByRecursion (λ (catch : Catch). NamesItem n catch.to) (renumbered_catches renumber catches)
  names-catches [] names = tt
  names-catches (catch ∷ catches) names = (below catch.to names.0, names-catches catches names.1)

-- ---- the jump over a goto

-- it is the opposite of a conditional jump
pub data IsOpposite : Instr → Instr → Type 0 where
  of_if : (opcode to : ℕ) → IsOpposite (If opcode to) (If (opposite opcode) to)
  of_if2 : (opcode to : ℕ) → IsOpposite (If2 opcode to) (If2 (opposite opcode) to)
  of_same : (opcode to : ℕ) → IsOpposite (IfSame opcode to) (IfSame (opposite opcode) to)
  of_null : (opcode to : ℕ) → IsOpposite (IfNull opcode to) (IfNull (opposite opcode) to)

opposite-is : (instr jump : Instr) → opposite_instr instr ≡ Some jump → IsOpposite instr jump
opposite-is (If opcode to) jump is = subst (IsOpposite (If opcode to)) (same_Some _ _ is) (of_if opcode to)
opposite-is (If2 opcode to) jump is = subst (IsOpposite (If2 opcode to)) (same_Some _ _ is) (of_if2 opcode to)
opposite-is (IfSame opcode to) jump is = subst (IsOpposite (IfSame opcode to)) (same_Some _ _ is) (of_same opcode to)
opposite-is (IfNull opcode to) jump is = subst (IsOpposite (IfNull opcode to)) (same_Some _ _ is) (of_null opcode to)
opposite-is instr jump is = absurd (none-some jump is)

over-is : (item : EmitItem) (jump : Instr) → jump_over item ≡ Some jump → (item.near ≡ false) × IsOpposite item.instr jump
over-is item jump is = by item.near refl where
  by : (near : Bool) → item.near ≡ near → (item.near ≡ false) × IsOpposite item.instr jump
  by true told = absurd (none-some jump (sym (rw told refl) ∙ is))
  by false told = (told, opposite-is item.instr jump (sym (rw told refl) ∙ is))

-- an item that is not a conditional jump is written as one
none-over : (item : EmitItem) → opposite_instr item.instr ≡ None → jump_over item ≡ None
none-over item none = by item.near refl where
  by : (near : Bool) → item.near ≡ near → jump_over item ≡ None
  by true told = rw told refl
  by false told = rw (told, none) refl

-- and one that is written as one, where it is not near, is none
no-jump : (number : ℕ) (rest : List EmitItem) (renumber : ℕ → ℕ) (instr : Instr) → opposite_instr instr ≡ None → JumpsClose number rest (with_targets renumber instr)
no-jump number rest renumber (If opcode to) none = absurd (none-some _ (sym none))
no-jump number rest renumber (If2 opcode to) none = absurd (none-some _ (sym none))
no-jump number rest renumber (IfSame opcode to) none = absurd (none-some _ (sym none))
no-jump number rest renumber (IfNull opcode to) none = absurd (none-some _ (sym none))
no-jump number rest renumber instr none = tt

form-over : (to : ℕ) (instr jump : Instr) → IsOpposite instr jump → HasForm instr → HasForm (with_targets (λ _. to) jump)
form-over to _ _ (of_if opcode t) has = (if_opposite opcode has.0, has.1)
form-over to _ _ (of_if2 opcode t) has = (if2_opposite opcode has.0, has.1)
form-over to _ _ (of_same opcode t) has = (same_opposite opcode has.0, has.1)
form-over to _ _ (of_null opcode t) has = (null_opposite opcode has.0, has.1)

-- it leads over the goto
close-over : (number : ℕ) (rest : List EmitItem) (instr jump : Instr) → IsOpposite instr jump → StartsWithGoto rest → JumpsClose number rest (with_targets (λ _. number + 2) jump)
close-over number rest _ _ (of_if opcode t) goto = over_a_goto goto refl
close-over number rest _ _ (of_if2 opcode t) goto = over_a_goto goto refl
close-over number rest _ _ (of_same opcode t) goto = over_a_goto goto refl
close-over number rest _ _ (of_null opcode t) goto = over_a_goto goto refl

-- to one item, and the goto to that of the jump
one-over : (n to : ℕ) (instr jump : Instr) → IsOpposite instr jump → to < n → AllByRecursion (NamesItem n) (targets (with_targets (λ _. to) jump))
one-over n to _ _ (of_if opcode t) low = (low, tt)
one-over n to _ _ (of_if2 opcode t) low = (low, tt)
one-over n to _ _ (of_same opcode t) low = (low, tt)
one-over n to _ _ (of_null opcode t) low = (low, tt)

target-over : (m : ℕ) (instr jump : Instr) → IsOpposite instr jump → AllByRecursion (NamesItem m) (targets instr) → one_target instr < m
target-over m _ _ (of_if opcode t) names = names.0
target-over m _ _ (of_if2 opcode t) names = names.0
target-over m _ _ (of_same opcode t) names = names.0
target-over m _ _ (of_null opcode t) names = names.0

-- ---- items one by one

nth : (done rest : List EmitItem) (k : ℕ) → slice_get (done ++ rest) (length done + k) ≡ slice_get rest k
nth [] rest k = let plus : 0 + k ≡ k = omega arith in ap (slice_get rest) plus
nth (item ∷ done) rest k =
    let plus : length (item ∷ done) + k ≡ suc (length done + k) = omega arith in ap (slice_get (item ∷ done ++ rest)) plus ∙ nth done rest k

-- two items from a number on
two-items : (rest : List EmitItem) (one other : EmitItem) → slice_get rest 0 ≡ Some one → slice_get rest 1 ≡ Some other → (more : List EmitItem) × (rest ≡ one ∷ other ∷ more)
two-items [] one other is also = absurd (none-some one is)
two-items (first ∷ []) one other is also = absurd (none-some other also)
two-items (first ∷ second ∷ more) one other is also =
    let e : first ≡ one = same_Some first one is in
    let f : second ≡ other = same_Some second other also in (more, cc)

module _ (items : List EmitItem) (emitted : IsEmitted items) where
  abbrev renumber : ℕ → ℕ
  renumber = start_in (wide_numbers items)

  abbrev n : ℕ
  n = length (widened items)

  below : (to : ℕ) → to < length items → renumber to < n
  below to within = let low = number-below 0 items to within in let long = length-widened items in omega arith

  -- the item of a number has its number behind those before
  here : (done rest : List EmitItem) → items ≡ done ++ rest → (k : ℕ) → renumber (length done + k) ≡ start_in (numbers_from (numbers_end 0 done) rest) k
  here done rest is k =
      ap (λ (all : List EmitItem). start_in (numbers_from 0 all) (length done + k)) is ∙ numbers-behind 0 done rest k

  module _ (done : List EmitItem) (item : EmitItem) (rest : List EmitItem) (is : items ≡ done ++ item ∷ rest) where
    abbrev number : ℕ
    number = numbers_end 0 done

    abbrev behind : ℕ → List EmitItem
    behind from = wide_from renumber from rest ++ closing items

    item-is : IsItem items (length done) item
    item-is = emitted.each (length done) item found where
      plus : length done ≡ length done + 0
      plus = omega arith

      found : slice_get items (length done) ≡ Some item
      found =
          ap (λ (all : List EmitItem). slice_get all (length done)) is
          ∙ ap (λ (k : ℕ). slice_get (done ++ item ∷ rest) k) plus
          ∙ nth done (item ∷ rest) 0

    get : (k : ℕ) → slice_get items (length done + k) ≡ slice_get (item ∷ rest) k
    get k = ap (λ (all : List EmitItem). slice_get all (length done + k)) is ∙ nth done (item ∷ rest) k

    -- a null and a throw are written as they are
    plain-one : (from : ℕ) (one : EmitItem) (more : List EmitItem) → opposite_instr one.instr ≡ None
        → wide_from renumber from (one ∷ more) ≡ renumbered_item renumber one ∷ wide_from renumber (from + 1) more
    plain-one from one more none = rw (none-over one none) refl

    near-is : item.near ≡ true → (with_targets renumber item.instr ≡ IfNull 199 (number + 3)) × StartsWithThrow (behind (number + 1))
    near-is near = (jumps, starts) where
      jump : JumpsNear items (length done) item.instr
      jump = item-is.near near

      first : slice_get rest 0 ≡ Some jump.null.0
      first = sym (get 1) ∙ jump.null.1

      second : slice_get rest 1 ≡ Some jump.throw.0
      second = sym (get 2) ∙ jump.throw.1

      both : (more : List EmitItem) × (rest ≡ jump.null.0 ∷ jump.throw.0 ∷ more)
      both = two-items rest jump.null.0 jump.throw.0 first second

      none-null : opposite_instr jump.null.0.instr ≡ None
      none-null = rw jump.null.2 refl

      none-throw : opposite_instr jump.throw.0.instr ≡ None
      none-throw = rw jump.throw.2 refl

      over : jump_over item ≡ None
      over = rw near refl

      within : length done + 3 < length items
      within = (subst (λ (instr : Instr). AllByRecursion (NamesItem (length items)) (targets instr)) jump.jump item-is.targets).0

      long : length items ≡ length done + suc (suc (suc (length both.0)))
      long = ap length (is ∙ ap (λ (all : List EmitItem). done ++ item ∷ all) both.1) ∙ length-append done (item ∷ jump.null.0 ∷ jump.throw.0 ∷ both.0)

      some : (more : List EmitItem) → 0 < length more → (from : ℕ) → start_in (numbers_from from more) 0 ≡ from
      some [] few from = absurd (omega arith)
      some (one ∷ more) few from = refl

      third : renumber (length done + 3) ≡ number + 3
      third =
          here done (item ∷ rest) is 3
          ∙ ap (λ (all : List EmitItem). start_in (numbers_from number (item ∷ all)) 3) both.1
          ∙ numbers
          ∙ some both.0 (omega (arith, within, long)) (number + 1 + 1 + 1)
          ∙ omega arith where
            numbers : start_in (numbers_from number (item ∷ jump.null.0 ∷ jump.throw.0 ∷ both.0)) 3 ≡ start_in (numbers_from (number + 1 + 1 + 1) both.0) 0
            numbers = rw (over, none-over jump.null.0 none-null, none-over jump.throw.0 none-throw) refl

      jumps : with_targets renumber item.instr ≡ IfNull 199 (number + 3)
      jumps = ap (with_targets renumber) jump.jump ∙ ap (IfNull 199) third

      starts : StartsWithThrow (behind (number + 1))
      starts = record {
        null = renumbered_item renumber jump.null.0;
        throw = renumbered_item renumber jump.throw.0;
        more = wide_from renumber (number + 1 + 1 + 1) both.0 ++ closing items;
        is = ap (λ (all : List EmitItem). wide_from renumber (number + 1) all ++ closing items) both.1
            ∙ ap (λ (all : List EmitItem). all ++ closing items) (plain-one (number + 1) jump.null.0 (jump.throw.0 ∷ both.0) none-null)
            ∙ ap (λ (all : List EmitItem). renumbered_item renumber jump.null.0 ∷ all ++ closing items) (plain-one (number + 1 + 1) jump.throw.0 both.0 none-throw);
        pushes = ap (with_targets renumber) jump.null.2;
        throws = ap (with_targets renumber) jump.throw.2;
      }

    -- one that is written as it is
    holds-plain : jump_over item ≡ None → HoldsOf n number (renumbered_item renumber item) (behind (number + 1))
    holds-plain over = record {
      form = form-kept renumber item.instr item-is.form;
      targets = names-instr n (length items) renumber below item.instr item-is.targets;
      catches = names-catches n (length items) renumber below item.catches item-is.catches;
      near = near-is;
      close = by item.near refl;
    } where
      by : (near : Bool) → item.near ≡ near → JumpsClose number (behind (number + 1)) (with_targets renumber item.instr)
      by true told = let both = near-is told in subst (JumpsClose number (behind (number + 1))) (sym both.0) (over_a_throw both.1 refl)
      by false told = no-jump number (behind (number + 1)) renumber item.instr (sym (rw told refl) ∙ over)

    -- one that is written over a goto
    holds-over : (jump : Instr) → jump_over item ≡ Some jump
        → HoldsOf n number (over_item renumber number item jump) (goto_item renumber item ∷ behind (number + 2))
        × HoldsOf n (suc number) (goto_item renumber item) (behind (number + 2))
    holds-over jump over = (
      record {
        form = form-over (number + 2) item.instr jump opposed item-is.form;
        targets = one-over n (number + 2) item.instr jump opposed low;
        catches = names-catches n (length items) renumber below item.catches item-is.catches;
        near = λ told. absurd (false≢true told);
        close = close-over number (goto_item renumber item ∷ behind (number + 2)) item.instr jump opposed
            (record { goto = goto_item renumber item; more = behind (number + 2); is = refl; to = renumber (one_target item.instr); goes = refl });
      },
      record {
        form = tt;
        targets = (below (one_target item.instr) (target-over (length items) item.instr jump opposed item-is.targets), tt);
        catches = tt;
        near = λ told. absurd (false≢true told);
        close = tt;
      },
    ) where
      opposed : IsOpposite item.instr jump
      opposed = (over-is item jump over).1

      low : number + 2 < n
      low =
          let long = length-widened items in
          let last = ap (numbers_end 0) is ∙ end-behind 0 done (item ∷ rest) in
          let ends = ap (λ (all : List EmitItem). length (closing all)) is ∙ ap length (closing-behind done item rest) in
          let less = over-goes-on number item rest jump over in omega arith

  closing-holds : (number : ℕ) → HoldOf n number (closing items)
  closing-holds number = by (closing-is items) where
    by : (closing items ≡ []) ⊎ (closing items ≡ nop_item ∷ []) → HoldOf n number (closing items)
    by (inl is) = subst (HoldOf n number) (sym is) tt
    by (inr is) =
        subst (HoldOf n number) (sym is)
        (record { form = tt; targets = tt; catches = tt; near = λ told. absurd (false≢true told); close = tt }, tt)

  -- one item more, which is written so
  abbrev AllHold : List EmitItem → EmitItem → List EmitItem → Option Instr → Type 0
  AllHold done item rest o =
      HoldOf n (numbers_end 0 done) ((wide_item renumber (numbers_end 0 done) item o ++ wide_from renumber (numbers_end 0 done + width o) rest) ++ closing items)

  abbrev RestHolds : List EmitItem → List EmitItem → Option Instr → Type 0
  RestHolds done rest o = HoldOf n (numbers_end 0 done + width o) (wide_from renumber (numbers_end 0 done + width o) rest ++ closing items)

  hold-one : (done : List EmitItem) (item : EmitItem) (rest : List EmitItem) → items ≡ done ++ item ∷ rest → RestHolds done rest (jump_over item)
      → HoldOf n (numbers_end 0 done) (wide_from renumber (numbers_end 0 done) (item ∷ rest) ++ closing items)
  hold-one done item rest is more = by (jump_over item) refl where
    by : (jump : Option Instr) → jump_over item ≡ jump → HoldOf n (numbers_end 0 done) (wide_from renumber (numbers_end 0 done) (item ∷ rest) ++ closing items)
    by None over =
        let left : RestHolds done rest None = subst (RestHolds done rest) over more in
        let one : numbers_end 0 done + 1 ≡ suc (numbers_end 0 done) = omega arith in
        subst (AllHold done item rest) (sym over) (
          holds-plain done item rest is over,
          subst (λ (k : ℕ). HoldOf n k (wide_from renumber (numbers_end 0 done + 1) rest ++ closing items)) one left,
        )
    by (Some jump) over =
        let left : RestHolds done rest (Some jump) = subst (RestHolds done rest) over more in
        let two : numbers_end 0 done + 2 ≡ suc (suc (numbers_end 0 done)) = omega arith in
        let both = holds-over done item rest is jump over in
        subst (AllHold done item rest) (sym over) (
          both.0,
          (both.1, subst (λ (k : ℕ). HoldOf n k (wide_from renumber (numbers_end 0 done + 2) rest ++ closing items)) two left),
        )

  hold-from : (done rest : List EmitItem) → items ≡ done ++ rest → HoldOf n (numbers_end 0 done) (wide_from renumber (numbers_end 0 done) rest ++ closing items)
  hold-from done [] is = closing-holds (numbers_end 0 done)
  hold-from done (item ∷ rest) is =
      let next : items ≡ (done ++ item ∷ []) ++ rest = is ∙ sym (append_assoc done (item ∷ []) rest) in
      hold-one done item rest is
      (subst (λ (m : ℕ). HoldOf n m (wide_from renumber m rest ++ closing items)) (end-behind 0 done (item ∷ []))
      (hold-from (done ++ item ∷ []) rest next))

  pub widened-hold : HoldOf n 0 (widened items)
  widened-hold = hold-from [] items refl

-- ---- that it is emitted code

module _ (n : ℕ) where
  hold-at : (number : ℕ) (rest : List EmitItem) → HoldOf n number rest → (k : ℕ) (item : EmitItem) → slice_get rest k ≡ Some item
      → (more : List EmitItem) × HoldsOf n (number + k) item more × ((j : ℕ) → slice_get rest (suc k + j) ≡ slice_get more j)
  hold-at number [] hold k item is = absurd (none-some item is)
  hold-at number (first ∷ rest) hold zero item is =
      let same : first ≡ item = same_Some first item is in
      let plus : number ≡ number + 0 = omega arith in (
        rest,
        subst (λ (m : ℕ). HoldsOf n m item rest) plus (subst (λ (i : EmitItem). HoldsOf n number i rest) same hold.0),
        λ j. (let next : suc zero + j ≡ suc j = omega arith in ap (slice_get (first ∷ rest)) next),
      )
  hold-at number (first ∷ rest) hold (suc k) item is =
      let found = hold-at (suc number) rest hold.1 k item is in
      let plus : suc number + k ≡ number + suc k = omega arith in (
        found.0,
        subst (λ (m : ℕ). HoldsOf n m item found.0) plus found.1,
        λ j. (let next : suc (suc k) + j ≡ suc (suc k + j) = omega arith in ap (slice_get (first ∷ rest)) next ∙ found.2 j),
      )

pub holds-emitted : (items : List EmitItem) → 0 < length items → HoldOf (length items) 0 items → IsEmitted items
holds-emitted items some hold = record { some = some; each = each } where
  each : (at : ℕ) (item : EmitItem) → slice_get items at ≡ Some item → IsItem items at item
  each at item is = record { form = holds.form; targets = holds.targets; catches = holds.catches; near = near } where
    found : (more : List EmitItem) × HoldsOf (length items) (0 + at) item more × ((j : ℕ) → slice_get items (suc at + j) ≡ slice_get more j)
    found = hold-at (length items) 0 items hold at item is

    holds : HoldsOf (length items) at item found.0
    holds = let plus : 0 + at ≡ at = omega arith in subst (λ (m : ℕ). HoldsOf (length items) m item found.0) plus found.1

    near : IfNear items at item
    near told = record {
      jump = both.0;
      null = (both.1.null, first, both.1.pushes);
      throw = (both.1.throw, second, both.1.throws);
    } where
      both : (item.instr ≡ IfNull 199 (at + 3)) × StartsWithThrow found.0
      both = holds.near told

      one : at + 1 ≡ suc at + 0
      one = omega arith

      two : at + 2 ≡ suc at + 1
      two = omega arith

      first : slice_get items (at + 1) ≡ Some both.1.null
      first = ap (slice_get items) one ∙ found.2 0 ∙ ap (λ (all : List EmitItem). slice_get all 0) both.1.is

      second : slice_get items (at + 2) ≡ Some both.1.throw
      second = ap (slice_get items) two ∙ found.2 1 ∙ ap (λ (all : List EmitItem). slice_get all 1) both.1.is

pub widened-emitted : (items : List EmitItem) → IsEmitted items → IsEmitted (widened items)
widened-emitted items emitted =
    let long = length-widened items in
    let low = end-grows 0 items in
    let more = emitted.some in
    holds-emitted (widened items) (omega arith) (widened-hold items emitted)
