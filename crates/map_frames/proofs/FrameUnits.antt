-- The locals of a frame that are listed, and the frame's local units.
use Rattle.std.proofs.Common.{◌≡◌, inl, inr, ℕ, zero, suc, ◌+◌, ◌-◌, ◌≤◌, true, false, List, [], ◌∷◌, ◌++◌, length, reverse, replicate, refl, sym, ap, ◌∙◌, add-one, arith}
use Rattle.std.specs.List.{AllByRecursion}
use Rattle.std.proofs.lemmas.Bool.{cases_Bool, and_parts, false≢true}
use Rattle.std.proofs.lemmas.List.{length-append, reverse-append, reverse-reverse, replicate-append-replicate, length-replicate}
use Rattle.class_model.specs.Frames.{is_wide, is_top, units, units_of_entries, depth, filled, entries_of_units, without_tops, listed}
use Rattle.class_model.specs.declared.frame.Frame.{Frame}
use Rattle.class_model.specs.declared.frame.VType.{VType}
use Rattle.class_model.specs.declared.frame.VType.TheVariants.{Top, Long, Double}
use Rattle.map_frames.specs.Writing.{is_by_unit}

-- ---- units

top_is : (type : VType) → is_top type ≡ true → type ≡ Top
top_is Top is = refl
top_is other is = absurd (false≢true is)

tops : ℕ → List VType
tops n = replicate n Top

-- Units that are Top are behind the entries of those before them.
record AreUnits (types : List VType) (n : ℕ) : Type 0 where
  pub more : ℕ
  pub same : units_of_entries (entries_of_units types) ++ replicate more Top ≡ types ++ replicate n Top

pub wide_units : (type : VType) → is_wide type ≡ true → units type ≡ type ∷ Top ∷ []
wide_units Long wide = refl
wide_units Double wide = refl
wide_units other wide = absurd (false≢true wide)

pub single_unit : (type : VType) → is_wide type ≡ false → units type ≡ type ∷ []
single_unit Long wide = absurd cc
single_unit Double wide = absurd cc
single_unit other wide = refl

last_unit : (type : VType) (n : ℕ) → is_by_unit (type ∷ replicate n Top) ≡ true → AreUnits (type ∷ []) n
unfolding entries_of_units
last_unit type zero by_unit =
    let narrow : is_wide type ≡ false = grind arith in
    record { more = 0; same = rw (single_unit type narrow) }
last_unit type (suc n) by_unit =
    elim (cases_Bool (is_wide type)) [
      | inl wide ↦ record { more = n; same = rw (wide_units type wide) }
      | inr narrow ↦ record { more = suc n; same = rw (single_unit type narrow) }
    ]

none_first : (n : ℕ) → AreUnits [] n
unfolding entries_of_units
none_first n = record { more = n; same = refl }

wide_first : (type next : VType) (types : List VType) (n : ℕ) → is_wide type ≡ true → next ≡ Top → AreUnits types n → AreUnits (type ∷ next ∷ types) n
unfolding entries_of_units
wide_first type next types n wide top others = record {
  more = others.more;
  same = rw (wide, wide_units type wide, top) (ap (λ (all : List VType). type ∷ Top ∷ all) others.same);
}

single_first : (type next : VType) (types : List VType) (n : ℕ) → is_wide type ≡ false → AreUnits (next ∷ types) n → AreUnits (type ∷ next ∷ types) n
unfolding entries_of_units
single_first type next types n single others = record {
  more = others.more;
  same = rw (single, single_unit type single) (ap (λ (all : List VType). type ∷ all) others.same);
}

if_wide : (type next : VType) (types : List VType) → is_by_unit (type ∷ next ∷ types) ≡ true → is_wide type ≡ true → (next ≡ Top) × (is_by_unit types ≡ true)
if_wide type next types by_unit wide =
    let parts = and_parts (is_top next) (is_by_unit types) (rw wide at by_unit) in
    (top_is next parts.0, parts.1)

if_single : (type next : VType) (types : List VType) → is_by_unit (type ∷ next ∷ types) ≡ true → is_wide type ≡ false → is_by_unit (next ∷ types) ≡ true
if_single type next types by_unit single = rw single at by_unit

are_units : (types : List VType) (n : ℕ) → is_by_unit (types ++ replicate n Top) ≡ true → AreUnits types n
are_units [] n by_unit = none_first n
are_units (type ∷ []) n by_unit = last_unit type n by_unit
are_units (type ∷ next ∷ types) n by_unit =
    elim (cases_Bool (is_wide type)) [
      | inl wide ↦
          let rest = if_wide type next (types ++ replicate n Top) by_unit wide in
          wide_first type next types n wide rest.0 (are_units types n rest.1)
      | inr single ↦ single_first type next types n single (are_units (next ∷ types) n (if_single type next (types ++ replicate n Top) by_unit single))
    ]

-- ---- what is listed

-- types are Top in front of those that are left
tops_first : (types : List VType) → (n : ℕ) × (types ≡ replicate n Top ++ without_tops types)
tops_first [] = (0, refl)
tops_first (type ∷ types) =
    elim (cases_Bool (is_top type)) [
      | inl top ↦ let others = tops_first types in (suc others.0, rw (top, top_is type top) (ap (λ (all : List VType). Top ∷ all) others.1))
      | inr other ↦ (0, rw other)
    ]

reverse_replicate : {X : Type 0} (n : ℕ) (x : X) → reverse (replicate n x) ≡ replicate n x
reverse_replicate zero x = refl
reverse_replicate (suc n) x =
    reverse-append (x ∷ []) (replicate n x) ∙ ap (λ all. all ++ x ∷ []) (reverse_replicate n x)
    ∙ replicate-append-replicate n 1 x ∙ ap (λ (k : ℕ). replicate k x) (add-one n)

-- the types up to the last that is not Top
abbrev pub kept : List VType → List VType
kept types = reverse (without_tops (reverse types))

tops_last : (types : List VType) → (n : ℕ) × (types ≡ kept types ++ replicate n Top)
tops_last types =
    let first = tops_first (reverse types) in
    (first.0, sym (reverse-reverse types) ∙ ap reverse first.1 ∙ reverse-append (replicate first.0 Top) (without_tops (reverse types)) ∙ ap (λ (all : List VType). kept types ++ all) (reverse_replicate first.0 Top))

-- ---- what the locals have, those that are listed have

module _ {X : Type 0} (P : X → Type 0) where
  pub all_front : (front back : List X) → AllByRecursion P (front ++ back) → AllByRecursion P front
  all_front [] back all = tt
  all_front (x ∷ front) back all = (all.0, all_front front back all.1)

all_entries : (P : VType → Type 0) (types : List VType) → AllByRecursion P types → AllByRecursion P (entries_of_units types)
unfolding entries_of_units
all_entries P [] all = tt
all_entries P (type ∷ []) all = (all.0, tt)
all_entries P (type ∷ next ∷ types) all =
    elim (cases_Bool (is_wide type)) [
      | inl wide ↦ rw wide (all.0, all_entries P types all.1.1)
      | inr single ↦ rw single (all.0, all_entries P (next ∷ types) all.1)
    ]

few_entries : (types : List VType) → length (entries_of_units types) ≤ length types
unfolding entries_of_units
few_entries [] = omega arith
few_entries (type ∷ []) = omega arith
few_entries (type ∷ next ∷ types) =
    elim (cases_Bool (is_wide type)) [
      | inl wide ↦ rw wide (omega (arith, few_entries types))
      | inr single ↦ rw single (omega (arith, few_entries (next ∷ types)))
    ]

pub all_listed : (P : VType → Type 0) (frame : Frame) → AllByRecursion P frame.locals → AllByRecursion P (listed frame)
all_listed P frame all =
    let parts = tops_last frame.locals in
    all_entries P (kept frame.locals) (all_front P (kept frame.locals) (replicate parts.0 Top) (rw parts.1 at all))

pub few_listed : (frame : Frame) → length (listed frame) ≤ length frame.locals
few_listed frame =
    let parts = tops_last frame.locals in
    omega (arith, few_entries (kept frame.locals), ap length parts.1, length-append (kept frame.locals) (replicate parts.0 Top))

-- The local units are those of the entries that are listed, filled up with Top.
pub record IsListed (frame : Frame) : Type 0 where
  pub fits : depth (listed frame) ≤ length frame.locals
  pub back : filled (length frame.locals) (listed frame) ≡ frame.locals

pub is_listed : (frame : Frame) → is_by_unit frame.locals ≡ true → IsListed frame
is_listed frame by_unit =
    let parts = tops_last frame.locals in
    let found = are_units (kept frame.locals) parts.0 (rw parts.1 at by_unit) in
    let whole : units_of_entries (listed frame) ++ replicate found.more Top ≡ frame.locals = found.same ∙ sym parts.1 in
    let lengths : depth (listed frame) + found.more ≡ length frame.locals = omega (arith, ap length whole, length-append (units_of_entries (listed frame)) (replicate found.more Top), length-replicate found.more Top) in
    let count : length frame.locals - depth (listed frame) ≡ found.more = omega arith in
    record {
      fits = omega arith;
      back = ap (λ (n : ℕ). units_of_entries (listed frame) ++ replicate n Top) count ∙ whole;
    }
