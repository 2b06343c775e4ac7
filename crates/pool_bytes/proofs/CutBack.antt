-- What spells a constant, or a pool, is cut as that constant or pool, wherever it stands, in a class file of a version that has
-- its tags.
use Rattle.std.proofs.Common.{◌≡◌, ℕ, zero, suc, ◌+◌, ◌^◌, ◌<◌, ◌≤◌, true, ℤ, FitsSigned, not, ◌&&◌, ◌||◌, ◌==◌, List, [], ◌∷◌, ◌++◌, length, drop, Option, Some, None, Ok, refl, sym, ap, subst, ◌∙◌, append_assoc, length-append, zero-add, arith}
use Rattle.std.specs.Int.{w32, w64, to_be_bytes, cast_unsigned, cast_signed}
use Rattle.std.specs.List.{flat_map}
use Rattle.std.proofs.Math.Facts.{Fits-of_z}
use Rattle.std.proofs.Math.Seq.{drop-length}
use Rattle.std.proofs.lemmas.Bool.{lt-leb, le-leb, ne_eqb}
use Rattle.std.proofs.lemmas.Bool.Decides.{nat_tests}
use Rattle.std.proofs.lemmas.Int.{to_z-of_z}
use Rattle.std.proofs.lemmas.List.{append-nil}
use Rattle.std.proofs.lemmas.List.Concat.{flat_map-append}
use Rattle.class_model.specs.Checks.{◌>>=◌}
use Rattle.class_model.specs.Cutting.{bytes_at, u2_at, is_tag, fields_at, entries_at, pool_at}
use Rattle.class_model.specs.Laws.CutBack.{rest_of, CutsAs, next, on_true, on_false, then_cut, made_cut, bytes_cut, u1_cut, u2_cut, u4_cut, u8_cut, u2_pair_cut}
use Rattle.class_model.specs.Laws.Pools.{entry_spelled}
use Rattle.class_model.specs.Pool.{Constants, entries_of, IsPool}
use Rattle.class_model.specs.Spelling.{u2, u4, constant_bytes, entry_bytes, pool_bytes}
use Rattle.class_model.specs.Values.{TagStands, TagsStand}
use Rattle.class_model.specs.declared.pool.Const.{Const}
use Rattle.class_model.specs.declared.pool.Const.TheVariants.{Utf8, Integer, Float, Long, Double, Class, String, Fieldref, Methodref, InterfaceMethodref, NameAndType, MethodHandle, MethodType, InvokeDynamic}
use Rattle.pool_bytes.specs.Items.{FitsItems, PoolFits}
use Rattle.pool_bytes.specs.ReadBack.{IsReadBack}
use Rattle.pool_bytes.specs.Reading.{rest_at, Stands}

-- ---- one constant

-- its tag, and the bytes behind it

abbrev pub tag_of : Const → ℕ
tag_of (Utf8 text) = 1
tag_of (Integer number) = 3
tag_of (Float bits) = 4
tag_of (Long number) = 5
tag_of (Double bits) = 6
tag_of (Class name) = 7
tag_of (String text) = 8
tag_of (Fieldref class member) = 9
tag_of (Methodref class member) = 10
tag_of (InterfaceMethodref class member) = 11
tag_of (NameAndType name descriptor) = 12
tag_of (MethodHandle kind reference) = 15
tag_of (MethodType descriptor) = 16
tag_of (InvokeDynamic bootstrap member) = 18

abbrev pub fields : Const → List ℕ
fields constant = drop 1 (constant_bytes constant)

tag_and_fields : (c : Const) → constant_bytes c ≡ tag_of c ∷ fields c
tag_and_fields (Utf8 text) = refl
tag_and_fields c = refl

-- a signed number stands by its bits
integer_cut : (n : ℤ) → FitsSigned w32 n → CutsAs (fields_at 3) (u4 (cast_unsigned w32 n)) (Integer n)
unfolding fields_at
integer_cut n fits =
    subst (λ (m : ℤ). CutsAs (fields_at 3) (u4 (cast_unsigned w32 n)) (Integer m)) (to_z-of_z w32 n fits)
    (made_cut (λ b. Integer (cast_signed w32 b)) (u4_cut (cast_unsigned w32 n) (Fits-of_z fits).fits))

long_cut : (n : ℤ) → FitsSigned w64 n → CutsAs (fields_at 5) (to_be_bytes w64 (cast_unsigned w64 n)) (Long n)
unfolding fields_at
long_cut n fits =
    subst (λ (m : ℤ). CutsAs (fields_at 5) (to_be_bytes w64 (cast_unsigned w64 n)) (Long m)) (to_z-of_z w64 n fits)
    (made_cut (λ b. Long (cast_signed w64 b)) (u8_cut (cast_unsigned w64 n) (Fits-of_z fits).fits))

text_cut : (text : List ℕ) → length text ≤ 65535 → CutsAs (fields_at 1) (u2 (length text) ++ text) (Utf8 text)
unfolding fields_at
text_cut text le = then_cut (λ len. bytes_at len.0 len.1 >>= λ bytes. Ok (Utf8 bytes.0, bytes.1)) (u2_cut (length text) (omega arith)) (made_cut Utf8 (bytes_cut text))

handle_cut : (kind reference : ℕ) → reference < 2 ^ 16 → CutsAs (fields_at 15) (kind ∷ u2 reference) (MethodHandle kind reference)
unfolding fields_at
handle_cut kind reference lt = then_cut (λ k. u2_at k.1 >>= λ n. Ok (MethodHandle k.0 n.0, n.1)) (u1_cut kind) (made_cut (λ n. MethodHandle kind n) (u2_cut reference lt))

pub constant_cut : (c : Const) → FitsItems c → CutsAs (fields_at (tag_of c)) (fields c) c
unfolding fields_at
constant_cut (Utf8 text) h = text_cut text h
constant_cut (Integer number) h = integer_cut number h
constant_cut (Float bits) h = made_cut Float (u4_cut bits h)
constant_cut (Long number) h = long_cut number h
constant_cut (Double bits) h = made_cut Double (u8_cut bits h)
constant_cut (Class name) h = made_cut Class (u2_cut name h)
constant_cut (String text) h = made_cut String (u2_cut text h)
constant_cut (Fieldref class member) h = made_cut (λ n. Fieldref n.0 n.1) (u2_pair_cut class member h.0 h.1)
constant_cut (Methodref class member) h = made_cut (λ n. Methodref n.0 n.1) (u2_pair_cut class member h.0 h.1)
constant_cut (InterfaceMethodref class member) h = made_cut (λ n. InterfaceMethodref n.0 n.1) (u2_pair_cut class member h.0 h.1)
constant_cut (NameAndType name descriptor) h = made_cut (λ n. NameAndType n.0 n.1) (u2_pair_cut name descriptor h.0 h.1)
constant_cut (MethodHandle kind reference) h = handle_cut kind reference h.1
constant_cut (MethodType descriptor) h = made_cut MethodType (u2_cut descriptor h)
constant_cut (InvokeDynamic bootstrap member) h = made_cut (λ n. InvokeDynamic n.0 n.1) (u2_pair_cut bootstrap member h.0 h.1)

-- ---- the entries

pub some_entries : (c : Const) → 1 ≤ length (entries_of c)
some_entries (Long number) = omega arith
some_entries c = omega arith

-- a constant that ends with the count may stand
stands : (major : ℕ) (c : Const) (index count : ℕ) → TagStands major (Some c) → index + length (entries_of c) ≤ count → (is_tag major (tag_of c) && not (((tag_of c == 5) || (tag_of c == 6)) && (index + 1 == count))) ≡ true
stands major (Long number) index count tag le = grind (arith, nat_tests)
stands major (Double bits) index count tag le = grind (arith, nat_tests)
stands major (MethodHandle kind reference) index count tag le = rw (le-leb 51 major tag) refl
stands major (MethodType descriptor) index count tag le = rw (le-leb 51 major tag) refl
stands major (InvokeDynamic bootstrap member) index count tag le = rw (le-leb 51 major tag) refl
stands major other index count tag le = refl

-- one constant, and then the others
entry_cut : (major left index count : ℕ) (c : Const) (more : List ℕ) (others : Constants) → FitsItems c → TagStands major (Some c) → index + length (entries_of c) ≤ count
    → CutsAs (entries_at left major (index + length (entries_of c)) count) more others → CutsAs (entries_at (suc left) major index count) (constant_bytes c ++ more) (entries_of c ++ others)
unfolding entries_at
entry_cut major left index count c more others fits tag le rec = record {
  cut = λ at after.
      let text : (constant_bytes c ++ more) ++ after ≡ tag_of c ∷ (fields c ++ (more ++ after)) = rw tag_and_fields (append_assoc (tag_of c ∷ fields c) more after) in
      let place : ((at + 1) + length (fields c)) + length more ≡ at + length (constant_bytes c ++ more) = omega (arith, length-append (constant_bytes c) more, ap length (tag_and_fields c)) in
      rw text
      (on_false _ (lt-leb count index (omega (arith, some_entries c)))
      (next _ ((u1_cut (tag_of c)).cut at (fields c ++ (more ++ after)))
      (next _ (on_true _ (stands major c index count tag le) refl)
      (next _ ((constant_cut c fits).cut (at + 1) (more ++ after))
      (next _ (rec.cut ((at + 1) + length (fields c)) after)
      (ap (λ (n : ℕ). Ok (entries_of c ++ others, rest_of n after)) place))))));
}

abbrev entries : List Const → Constants
entries constants = flat_map entries_of constants

abbrev bytes_of : List Const → List ℕ
bytes_of constants = flat_map entry_bytes (entries constants)

bytes_first : (c : Const) (constants : List Const) → bytes_of (c ∷ constants) ≡ constant_bytes c ++ bytes_of constants
bytes_first c constants = flat_map-append entry_bytes (entries_of c) (entries constants) ∙ ap (λ (text : List ℕ). text ++ bytes_of constants) (entry_spelled c)

fits_first : (c : Const) (others : Constants) → PoolFits (entries_of c ++ others) → FitsItems c × PoolFits others
fits_first (Long number) others h = (h.0, h.1.1)
fits_first (Double bits) others h = (h.0, h.1.1)
fits_first c others h = (h.0, h.1)

tag_first : (major : ℕ) (c : Const) (others : Constants) → TagsStand major (entries_of c ++ others) → TagStands major (Some c) × TagsStand major others
tag_first major (Long number) others h = (h.0, h.1.1)
tag_first major (Double bits) others h = (h.0, h.1.1)
tag_first major c others h = (h.0, h.1)

-- the constants from an index up to the count, as many as there are
entries_cut : (major left index count : ℕ) (constants : List Const) → PoolFits (entries constants) → TagsStand major (entries constants) → index + length (entries constants) ≡ count → count ≤ left + index
    → CutsAs (entries_at left major index count) (bytes_of constants) (entries constants)
unfolding entries_at
entries_cut major zero index count [] fits tags len le = record { cut = λ at after. ap (λ (n : ℕ). Ok ([], rest_of n after)) (omega arith) }
entries_cut major (suc left) index count [] fits tags len le = record { cut = λ at after. on_true _ (le-leb count index (omega arith)) (ap (λ (n : ℕ). Ok ([], rest_of n after)) (omega arith)) }
entries_cut major zero index count (c ∷ constants) fits tags len le = absurd (omega (arith, some_entries c, length-append (entries_of c) (entries constants)))
entries_cut major (suc left) index count (c ∷ constants) fits tags len le =
    let parts = fits_first c (entries constants) fits in
    let tag = tag_first major c (entries constants) tags in
    let both = length-append (entries_of c) (entries constants) in
    let others = entries_cut major left (index + length (entries_of c)) count constants parts.1 tag.1 (omega (arith, both)) (omega (arith, some_entries c)) in
    rw (bytes_first c constants) (entry_cut major left index count c (bytes_of constants) (entries constants) parts.0 tag.0 (omega (arith, both)) others)

-- ---- the pool

constants_cut : (major : ℕ) (constants : List Const) → length (entries constants) < 65535 → PoolFits (entries constants) → TagsStand major (entries constants) → CutsAs (pool_at major) (pool_bytes (None ∷ entries constants)) (None ∷ entries constants)
constants_cut major constants le fits tags = record {
  cut = λ at after.
      let count = suc (length (entries constants)) in
      let some = entries_cut major count 1 count constants fits tags (omega arith) (omega arith) in
      let place : (at + 2) + length (bytes_of constants) ≡ at + length (u2 count ++ bytes_of constants) = omega (arith, length-append (u2 count) (bytes_of constants)) in
      rw (append_assoc (u2 count) (bytes_of constants) after)
      (next _ ((u2_cut count (omega arith)).cut at (bytes_of constants ++ after))
      (next _ (on_false _ (ne_eqb count 0 (omega arith)) refl)
      (next _ (some.cut (at + 2) after)
      (ap (λ (n : ℕ). Ok (None ∷ entries constants, rest_of n after)) place))));
}

pub pool_cut : (major : ℕ) (pool : Constants) → IsPool pool → PoolFits pool → TagsStand major pool → CutsAs (pool_at major) (pool_bytes pool) pool
pool_cut major pool is fits tags =
    rw is.all (constants_cut major is.constants (omega (arith, ap length is.all, is.count)) (rw is.all at fits).1 (rw is.all at tags).1)

-- all tags stand in version 52
newest : (c : Option Const) → TagStands 52 c
newest None = tt
newest (Some (MethodHandle kind reference)) = omega arith
newest (Some (MethodType descriptor)) = omega arith
newest (Some (InvokeDynamic bootstrap member)) = omega arith
newest (Some other) = tt

pub all_newest : (pool : Constants) → TagsStand 52 pool
all_newest [] = tt
all_newest (c ∷ pool) = (newest c, all_newest pool)

-- in front of nothing
pub stands_alone : (bytes : List ℕ) (pool : Constants) → IsReadBack pool → bytes ≡ pool_bytes pool → Stands 52 bytes 0 pool (length bytes)
stands_alone bytes pool back same =
    let from : rest_at bytes 0 ≡ rest_of 0 (pool_bytes pool ++ []) = ap (rest_of 0) (same ∙ sym (append-nil (pool_bytes pool))) in
    let nothing : [] ≡ drop (length bytes) bytes = sym (drop-length bytes) in
    let end : 0 + length (pool_bytes pool) ≡ length bytes = zero-add (length (pool_bytes pool)) ∙ sym (ap length same) in
    ap (pool_at 52) from ∙ back 0 [] ∙ ap (λ (n : ℕ). Ok (pool, rest_of n [])) end ∙ ap (λ (others : List ℕ). Ok (pool, rest_of (length bytes) others)) nothing
