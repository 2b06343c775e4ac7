-- Spellings of instructions whose targets are within what 16 bits reach, and how long they are.
use Rattle.std.proofs.Common.{◌≡◌, ◌⊎◌, ℕ, ℤ, ◌+◌, ◌-◌, ◌*◌, ◌%◌, ◌^◌, ◌<◌, ◌≤◌, Bool, true, false, ◌||◌, List, [], ◌∷◌, length, map, replicate, inl, inr, refl, sym, ap, ◌∙◌, arith, length-append}
use Rattle.std.specs.List.{AllByRecursion, flat_map}
use Rattle.std.proofs.lemmas.List.{length-replicate, length-map}
use Rattle.std.proofs.lemmas.Int.{ints}
use Rattle.std.proofs.lemmas.Bool.{lt-ltb, le-leb, cases_lt}
use Rattle.class_model.specs.Instructions.{pad_of, targets, keys_increase}
use Rattle.class_model.specs.declared.instr.Instr.{Instr}
use Rattle.class_model.specs.declared.instr.Instr.TheVariants.{If, If2, IfSame, IfNull, Goto, Table, Lookup}
use Rattle.class_model.specs.declared.instr.Pair.{Pair}
use Rattle.code_bytes.specs.Encoding.{FitsForm, HasSpelling, IsPlace, Reaches}
use Rattle.code_bytes.specs.Forms.{instr_bytes, offset_of, is_near, goto_bytes, target_bytes, pair_bytes, switch_bytes, table_bytes, lookup_bytes}
use Rattle.member_link.specs.Targets.{pair_to, with_targets, HasForm}
use Rattle.code_layout.specs.Inner.Writing.{spelled_in}
use Rattle.code_layout.specs.Layout.{len_of, short_spelled, wide_spelled}
use Rattle.code_layout.specs.declared.form.Form.{Form}
use Rattle.code_layout.specs.declared.form.Form.TheVariants.{Short, Wide}
use Rattle.code_layout.proofs.Kept.{KeepLens}

-- ---- what reaches

pub reaches : (at to : ℕ) → at ≤ 32767 → to ≤ 32767 → Reaches at to
reaches at to here there = omega (arith, ints)

-- each conditional jump reaches its target
abbrev pub JumpsReach : ℕ → Instr → Type 0
JumpsReach at (If opcode to) = Reaches at to
JumpsReach at (If2 opcode to) = Reaches at to
JumpsReach at (IfSame opcode to) = Reaches at to
JumpsReach at (IfNull opcode to) = Reaches at to
JumpsReach at instr = Unit {0}

pub all-reach : (at : ℕ) (place : ℕ → ℕ) → at ≤ 32767 → ((to : ℕ) → place to ≤ 32767) → (instr : Instr) → JumpsReach at (with_targets place instr)
all-reach at place here small (If opcode to) = reaches at (place to) here (small to)
all-reach at place here small (If2 opcode to) = reaches at (place to) here (small to)
all-reach at place here small (IfSame opcode to) = reaches at (place to) here (small to)
all-reach at place here small (IfNull opcode to) = reaches at (place to) here (small to)
all-reach at place here small instr = tt

place_all : (place : ℕ → ℕ) → ((to : ℕ) → place to ≤ 65535) → (to : List ℕ) → AllByRecursion IsPlace (map place to)
place_all place small [] = tt
place_all place small (t ∷ to) = (let s = small t in omega arith, place_all place small to)

pairs_all : (place : ℕ → ℕ) → ((to : ℕ) → place to ≤ 65535) → (pairs : List Pair) → AllByRecursion IsPlace (map (λ (p : Pair). p.to) (map (pair_to place) pairs))
pairs_all place small [] = tt
pairs_all place small (p ∷ pairs) = (let s = small p.to in omega arith, pairs_all place small pairs)

keys_kept : (f g : ℕ → ℕ) (pairs : List Pair) → keys_increase (map (pair_to f) pairs) ≡ keys_increase (map (pair_to g) pairs)
keys_kept f g [] = refl
keys_kept f g (p ∷ []) = refl
keys_kept f g (p ∷ q ∷ pairs) = rw (keys_kept f g (q ∷ pairs)) refl

module _ (at : ℕ) (place : ℕ → ℕ) (here : at ≤ 65535) (small : (to : ℕ) → place to ≤ 65535) where
  pub place_is : (to : ℕ) → IsPlace (place to)
  place_is to = let s = small to in omega arith

  places : (instr : Instr) → AllByRecursion IsPlace (targets (with_targets place instr))
  places (If opcode to) = (place_is to, tt)
  places (If2 opcode to) = (place_is to, tt)
  places (IfSame opcode to) = (place_is to, tt)
  places (IfNull opcode to) = (place_is to, tt)
  places (Goto to) = (place_is to, tt)
  places (Table low other to) = (place_is other, place_all place small to)
  places (Lookup other pairs) = (place_is other, pairs_all place small pairs)
  places instr = tt

  form : (instr : Instr) → HasForm instr → JumpsReach at (with_targets place instr) → FitsForm at (with_targets place instr)
  form (If opcode to) has reach = (has.0, reach)
  form (If2 opcode to) has reach = (has.0, reach)
  form (IfSame opcode to) has reach = (has.0, reach)
  form (IfNull opcode to) has reach = (has.0, reach)
  form (Table low other to) has reach = rw (length-map to place) (rw (length-map {B = ℕ} to (λ (_ : ℕ). 0)) at has)
  form (Lookup other pairs) has reach =
      (rw (length-map pairs (pair_to place)) (rw (length-map pairs (pair_to (λ _. 0))) at has.0), rw (keys_kept place (λ _. 0) pairs) has.1)
  form instr has reach = has

  -- an instruction of a form has a spelling there
  pub spelling : (instr : Instr) → HasForm instr → JumpsReach at (with_targets place instr) → HasSpelling at (with_targets place instr)
  spelling instr has reach = record { place = omega arith; targets = places instr; form = form instr has reach }

-- an instruction has the same form whatever its targets are
pub form-kept : (place : ℕ → ℕ) (instr : Instr) → HasForm instr → HasForm (with_targets place instr)
form-kept place (Table low other to) has =
    rw (length-map {B = ℕ} (map place to) (λ (_ : ℕ). 0), length-map to place) (rw (length-map {B = ℕ} to (λ (_ : ℕ). 0)) at has)
form-kept place (Lookup other pairs) has = (
  rw (length-map (map (pair_to place) pairs) (pair_to (λ _. 0)), length-map pairs (pair_to place)) (rw (length-map pairs (pair_to (λ _. 0))) at has.0),
  rw (keys_twice place pairs) has.1,
) where
  keys_twice : (f : ℕ → ℕ) (pairs : List Pair) → keys_increase (map (pair_to (λ _. 0)) (map (pair_to f) pairs)) ≡ keys_increase (map (pair_to (λ _. 0)) pairs)
  keys_twice f [] = refl
  keys_twice f (p ∷ []) = refl
  keys_twice f (p ∷ q ∷ pairs) = rw (keys_twice f (q ∷ pairs)) refl
form-kept place instr has = has

-- ---- how long it is

near_low : (bits : ℕ) → bits < 2 ^ 15 → is_near bits ≡ true
near_low bits few = rw (lt-ltb bits (2 ^ 15) few)

or_true : (x : Bool) → x || true ≡ true
or_true true = refl
or_true false = refl

near_high : (bits : ℕ) → 2 ^ 32 - 2 ^ 15 ≤ bits → is_near bits ≡ true
near_high bits large = rw (le-leb (2 ^ 32 - 2 ^ 15) bits large, or_true)

near : (at to : ℕ) → at ≤ 32767 → to ≤ 32767 → is_near (offset_of at to) ≡ true
near at to here there =
    elim (cases_lt to at) [
      | inl back ↦ near_high (offset_of at to) (omega arith)
      | inr on ↦ near_low (offset_of at to) (omega arith)
    ]

goto_len : (at to : ℕ) → at ≤ 32767 → to ≤ 32767 → length (goto_bytes at to) ≡ 3
goto_len at to here there = rw (near at to here there) refl

targets_length : (at : ℕ) (to : List ℕ) → length (flat_map (target_bytes at) to) ≡ 4 * length to
targets_length at [] = refl
targets_length at (t ∷ to) = let rest = targets_length at to in omega arith

pairs_length : (at : ℕ) (pairs : List Pair) → length (flat_map (pair_bytes at) pairs) ≡ 8 * length pairs
pairs_length at [] = refl
pairs_length at (p ∷ pairs) = let rest = pairs_length at pairs in omega arith

switch_length : (opcode at : ℕ) (operands : List ℕ) → length (switch_bytes opcode at operands) ≡ 1 + pad_of at + length operands
switch_length opcode at operands = omega (arith, length-append (replicate (pad_of at) 0) operands, length-replicate {A = ℕ} (pad_of at) 0)

pub table_length : (at : ℕ) (low : ℤ) (other : ℕ) (to : List ℕ) → length (table_bytes at low other to) ≡ 13 + pad_of at + 4 * length to
table_length at low other to = let count = targets_length at to in simp switch_length (omega arith)

pub lookup_length : (at other : ℕ) (pairs : List Pair) → length (lookup_bytes at other pairs) ≡ 9 + pad_of at + 8 * length pairs
lookup_length at other pairs = let count = pairs_length at pairs in simp switch_length (omega arith)

-- targets change no length
table_kept : (at : ℕ) (place : ℕ → ℕ) (low : ℤ) (other : ℕ) (to : List ℕ) → length (table_bytes at low (place other) (map place to)) ≡ length (table_bytes at low at (map (λ (_ : ℕ). at) to))
table_kept at place low other to =
    table_length at low (place other) (map place to) ∙ ap (λ n. 13 + pad_of at + 4 * n) (length-map to place ∙ sym (length-map to (λ (_ : ℕ). at))) ∙ sym (table_length at low at (map (λ (_ : ℕ). at) to))

lookup_kept : (at : ℕ) (place : ℕ → ℕ) (other : ℕ) (pairs : List Pair) → length (lookup_bytes at (place other) (map (pair_to place) pairs)) ≡ length (lookup_bytes at at (map (pair_to (λ _. at)) pairs))
lookup_kept at place other pairs =
    lookup_length at (place other) (map (pair_to place) pairs) ∙ ap (λ n. 9 + pad_of at + 8 * n) (length-map pairs (pair_to place) ∙ sym (length-map pairs (pair_to (λ _. at)))) ∙ sym (lookup_length at at (map (pair_to (λ _. at)) pairs))

pub kept-short : (place : ℕ → ℕ) → ((to : ℕ) → place to ≤ 32767) → KeepLens short_spelled place 32767
unfolding instr_bytes
kept-short place small at (Goto to) here = goto_len at (place to) here (small to) ∙ sym (goto_len at at here here)
kept-short place small at (Table low other to) here = table_kept at place low other to
kept-short place small at (Lookup other pairs) here = lookup_kept at place other pairs
kept-short place small at instr here = refl

pub kept-wide : (place : ℕ → ℕ) (most : ℕ) → KeepLens wide_spelled place most
unfolding instr_bytes
kept-wide place most at (Table low other to) here = table_kept at place low other to
kept-wide place most at (Lookup other pairs) here = lookup_kept at place other pairs
kept-wide place most at instr here = refl

-- ---- how long each is

table_short : (at : ℕ) (low : ℤ) (other : ℕ) (to : List ℕ) → length (table_bytes at low at (map (λ (_ : ℕ). at) to)) ≡ 13 + pad_of at + 4 * length to
table_short at low other to = table_length at low at (map (λ (_ : ℕ). at) to) ∙ ap (λ n. 13 + pad_of at + 4 * n) (length-map to (λ (_ : ℕ). at))

lookup_short : (at other : ℕ) (pairs : List Pair) → length (lookup_bytes at at (map (pair_to (λ _. at)) pairs)) ≡ 9 + pad_of at + 8 * length pairs
lookup_short at other pairs = lookup_length at at (map (pair_to (λ _. at)) pairs) ∙ ap (λ n. 9 + pad_of at + 8 * n) (length-map pairs (pair_to (λ _. at)))

-- an instruction without targets has a spelling as it is, and is as long
pub record HasNoTarget (instr : Instr) : Type 0 where
  pub no_if : (o t : ℕ) → instr ≡ If o t → ⊥
  pub no_if2 : (o t : ℕ) → instr ≡ If2 o t → ⊥
  pub no_same : (o t : ℕ) → instr ≡ IfSame o t → ⊥
  pub no_null : (o t : ℕ) → instr ≡ IfNull o t → ⊥
  pub no_goto : (t : ℕ) → instr ≡ Goto t → ⊥
  pub no_table : (low : ℤ) (other : ℕ) (to : List ℕ) → instr ≡ Table low other to → ⊥
  pub no_lookup : (other : ℕ) (pairs : List Pair) → instr ≡ Lookup other pairs → ⊥

pub plain-spelling : (at : ℕ) (instr : Instr) → at ≤ 65535 → HasForm instr → HasNoTarget instr → HasSpelling at instr
plain-spelling at (If o t) here has free = absurd (free.no_if o t refl)
plain-spelling at (If2 o t) here has free = absurd (free.no_if2 o t refl)
plain-spelling at (IfSame o t) here has free = absurd (free.no_same o t refl)
plain-spelling at (IfNull o t) here has free = absurd (free.no_null o t refl)
plain-spelling at (Goto t) here has free = absurd (free.no_goto t refl)
plain-spelling at (Table low other to) here has free = absurd (free.no_table low other to refl)
plain-spelling at (Lookup other pairs) here has free = absurd (free.no_lookup other pairs refl)
plain-spelling at instr here has free = record { place = omega arith; targets = tt; form = has }

pub plain-len : (form : Form) (at : ℕ) (instr : Instr) → HasNoTarget instr → length (instr_bytes at instr) ≡ len_of (spelled_in form) at instr
plain-len chosen at (If o t) free = absurd (free.no_if o t refl)
plain-len chosen at (If2 o t) free = absurd (free.no_if2 o t refl)
plain-len chosen at (IfSame o t) free = absurd (free.no_same o t refl)
plain-len chosen at (IfNull o t) free = absurd (free.no_null o t refl)
plain-len chosen at (Goto t) free = absurd (free.no_goto t refl)
plain-len chosen at (Table low other to) free = absurd (free.no_table low other to refl)
plain-len chosen at (Lookup other pairs) free = absurd (free.no_lookup other pairs refl)
plain-len Short at instr free = refl
plain-len Wide at instr free = refl

-- the lengths of switches, by how many targets they have
pub table-len : (form : Form) (at n : ℕ) (instr : Instr) (low : ℤ) (other : ℕ) (to : List ℕ) → instr ≡ Table low other to → n ≡ length to → 13 + (3 - at % 4) + 4 * n ≡ len_of (spelled_in form) at instr
unfolding instr_bytes
table-len Short at n instr low other to is long = rw (is, long) (sym (table_short at low other to))
table-len Wide at n instr low other to is long = rw (is, long) (sym (table_short at low other to))

pub lookup-len : (form : Form) (at n : ℕ) (instr : Instr) (other : ℕ) (pairs : List Pair) → instr ≡ Lookup other pairs → n ≡ length pairs → 9 + (3 - at % 4) + 8 * n ≡ len_of (spelled_in form) at instr
unfolding instr_bytes
lookup-len Short at n instr other pairs is long = rw (is, long) (sym (lookup_short at other pairs))
lookup-len Wide at n instr other pairs is long = rw (is, long) (sym (lookup_short at other pairs))

-- a conditional jump has 16 bits
pub jump-len : (form : Form) (at : ℕ) (instr : Instr)
    → ((o : ℕ) × (t : ℕ) × (instr ≡ If o t)) ⊎ (((o : ℕ) × (t : ℕ) × (instr ≡ If2 o t)) ⊎ (((o : ℕ) × (t : ℕ) × (instr ≡ IfSame o t)) ⊎ ((o : ℕ) × (t : ℕ) × (instr ≡ IfNull o t))))
    → 3 ≡ len_of (spelled_in form) at instr
unfolding instr_bytes
jump-len Short at instr (inl is) = rw is.2 refl
jump-len Short at instr (inr (inl is)) = rw is.2 refl
jump-len Short at instr (inr (inr (inl is))) = rw is.2 refl
jump-len Short at instr (inr (inr (inr is))) = rw is.2 refl
jump-len Wide at instr (inl is) = rw is.2 refl
jump-len Wide at instr (inr (inl is)) = rw is.2 refl
jump-len Wide at instr (inr (inr (inl is))) = rw is.2 refl
jump-len Wide at instr (inr (inr (inr is))) = rw is.2 refl

-- a goto of the short form too, and one of the wide form has 32
pub goto-short : (at to : ℕ) → at ≤ 65535 → 3 ≡ len_of short_spelled at (Goto to)
unfolding instr_bytes
goto-short at to here = let none : offset_of at at ≡ 0 = omega arith in rw none refl

pub goto-wide : (at to : ℕ) → 5 ≡ len_of wide_spelled at (Goto to)
goto-wide at to = refl
