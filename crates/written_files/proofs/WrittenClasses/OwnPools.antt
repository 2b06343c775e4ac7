-- A constant pool that is cut from its own spelling fits its items.
use Rattle.std.proofs.Common.{◌≡◌, ◌≢◌, ◌==◌, ◌&&◌, ◌⊎◌, inl, inr, ℕ, zero, suc, ◌+◌, ◌^◌, ◌<◌, ◌≤◌, Bool, true, false, not, ◌||◌, cond, eqb, leb, List, [], ◌∷◌, ◌++◌, length, drop, map, Option, Some, None, Ok, refl, sym, ap, subst, ◌∙◌, arith, length-append, append_assoc}
use Rattle.std.specs.Int.{w32, w64, cast_signed, cast_unsigned, to_be_bytes}
use Rattle.std.specs.Prelude.{FitsSigned}
use Rattle.std.specs.List.{AllByRecursion, flat_map}
use Rattle.std.proofs.Math.Facts.{sfits_to_z}
use Rattle.std.proofs.lemmas.Bool.{cases_eq, and_parts}
use Rattle.std.proofs.lemmas.Bool.Decides.{nat_tests}
use Rattle.std.proofs.lemmas.Grind.{flat_map-append}
use Rattle.class_model.specs.Checks.{Fault, fault, ◌>>=◌}
use Rattle.class_model.specs.Cutting.{Rest, Cut, bytes_at, number_at, is_tag, may_stand, fields_at, entries_at, pool_at, u1_at, u2_at, u4_at, u2_pair_at}
use Rattle.class_model.specs.Laws.Cuts.{bind_ok, done, same_done, guard_false, guard_true}
use Rattle.class_model.specs.Laws.Pools.{entry_spelled}
use Rattle.class_model.specs.Pool.{Constants, IsPool, entries_of}
use Rattle.class_model.specs.Spelling.{u2, u4, constant_bytes, entry_bytes, pool_bytes}
use Rattle.class_model.specs.Values.{TagStands}
use Rattle.class_model.specs.declared.fault.FileRule.TheVariants as rules
use Rattle.class_model.specs.declared.pool.Const.{Const}
use Rattle.class_model.specs.declared.pool.Const.TheVariants.{Utf8, Integer, Float, Long, Double, Class, String, Fieldref, Methodref, InterfaceMethodref, NameAndType, MethodHandle, MethodType, InvokeDynamic}
use Rattle.written_files.proofs.WrittenClasses.OwnParts.{IsSmall, bytes_taken, text_taken, u1_any, u2_any, u4_any, u8_any}
use Rattle.pool_bytes.specs.Items.{FitsItems, IsU2}

-- ---- one constant

-- how many entries a constant of a tag has
abbrev units : ℕ → ℕ
units tag = cond ((tag == 5) || (tag == 6)) 2 1

-- the bytes of a constant behind its tag
abbrev fields : Const → List ℕ
fields constant = drop 1 (constant_bytes constant)

-- what follows from the cut: all but the kind of a method handle, which is one byte that is not looked at
abbrev pub FitsCut : Const → Type 0
FitsCut (MethodHandle kind reference) = IsU2 reference
FitsCut constant = FitsItems constant

-- the constant has the tag
record IsOf (tag : ℕ) (constant : Const) : Type 0 where
  pub bytes : constant_bytes constant ≡ tag ∷ fields constant
  pub entries : length (entries_of constant) ≡ units tag
  pub stands : (major : ℕ) → is_tag major tag ≡ true → TagStands major (Some constant)

record IsConstant (tag : ℕ) (x : Const × Rest) (rest : Rest) : Type 0 where
  pub shape : IsOf tag x.0
  pub own : (back : List ℕ) → rest.bytes ≡ fields x.0 ++ back → (x.1.bytes ≡ back) × FitsCut x.0

abbrev IsCut : ℕ → Type 0
IsCut tag = (rest : Rest) (x : Const × Rest) → fields_at tag rest ≡ Ok x → IsConstant tag x rest

-- a constant of one number
one_number : (part : Rest → Cut ℕ) (limit : ℕ) (text : ℕ → List ℕ)
    → ((m : ℕ) (rest : Rest) (n : ℕ × Rest) (back : List ℕ) → part rest ≡ Ok n → rest.bytes ≡ text m ++ back → IsSmall limit n back)
    → (tag : ℕ) (make : ℕ → Const) (number : ℕ → ℕ)
    → ((n : ℕ) → fields (make n) ≡ text (number n))
    → ((n : ℕ) → IsOf tag (make n))
    → ((n : ℕ) → n < limit → FitsCut (make n))
    → (rest : Rest) (x : Const × Rest) → (part rest >>= λ n. Ok (make n.0, n.1)) ≡ Ok x → IsConstant tag x rest
one_number part limit text any tag make number same is fits rest x e =
    let n = bind_ok (part rest) _ x e in
    subst (λ (y : Const × Rest). IsConstant tag y rest) (same_done (make n.0.0, n.0.1) x n.2) (record {
      shape = is n.0.0;
      own = λ back stands.
          let small = any (number n.0.0) rest n.0 back n.1 (stands ∙ ap (λ (t : List ℕ). t ++ back) (same n.0.0)) in
          (small.behind, fits n.0.0 small.less);
    })

-- of two
two_numbers : (tag : ℕ) (make : ℕ → ℕ → Const)
    → ((a b : ℕ) → fields (make a b) ≡ u2 a ++ u2 b)
    → ((a b : ℕ) → IsOf tag (make a b))
    → ((a b : ℕ) → IsU2 a → IsU2 b → FitsCut (make a b))
    → (rest : Rest) (x : Const × Rest) → (u2_pair_at rest >>= λ n. Ok (make n.0.0 n.0.1, n.1)) ≡ Ok x → IsConstant tag x rest
two_numbers tag make same is fits rest x e =
    let n = bind_ok (u2_pair_at rest) _ x e in
    let a = bind_ok (u2_at rest) _ n.0 n.1 in
    let b = bind_ok (u2_at a.0.1) _ n.0 a.2 in
    let pair = same_done ((a.0.0, b.0.0), b.0.1) n.0 b.2 in
    subst (λ (y : Const × Rest). IsConstant tag y rest)
    (ap (λ (p : (ℕ × ℕ) × Rest). (make p.0.0 p.0.1, p.1)) pair ∙ same_done (make n.0.0.0 n.0.0.1, n.0.1) x n.2) (record {
      shape = is a.0.0 b.0.0;
      own = λ back stands.
          let one = u2_any a.0.0 rest a.0 (u2 b.0.0 ++ back) a.1 (stands ∙ ap (λ (t : List ℕ). t ++ back) (same a.0.0 b.0.0)) in
          let two = u2_any b.0.0 a.0.1 b.0 back b.1 one.behind in
          (two.behind, fits a.0.0 b.0.0 one.less two.less);
    })

signed4 : (n : ℕ) → n < 2 ^ 32 → FitsSigned w32 (cast_signed w32 n)
signed4 n less = sfits_to_z {w = w32} {n = n} (record { fits = less })

signed8 : (n : ℕ) → n < 2 ^ 64 → FitsSigned w64 (cast_signed w64 n)
signed8 n less = sfits_to_z {w = w64} {n = n} (record { fits = less })

utf8_cut : IsCut 1
unfolding fields_at
utf8_cut rest x e =
    let len = bind_ok (u2_at rest) _ x e in
    let text = bind_ok (bytes_at len.0.0 len.0.1) _ x len.2 in
    subst (λ (y : Const × Rest). IsConstant 1 y rest) (same_done (Utf8 text.0.0, text.0.1) x text.2) (record {
      shape = record { bytes = refl; entries = refl; stands = λ major is. tt };
      own = λ back stands.
          let one = u2_any (length text.0.0) rest len.0 (text.0.0 ++ back) len.1 stands in
          let long = (bytes_taken len.0.0 len.0.1 text.0 text.1).long in
          let less = one.less in
          ((text_taken len.0.0 len.0.1 text.0 text.0.0 back text.1 one.behind long).1, omega (arith, less, long));
    })

integer_cut : IsCut 3
unfolding fields_at
integer_cut = one_number u4_at (2 ^ 32) u4 u4_any 3 (λ n. Integer (cast_signed w32 n)) (λ n. cast_unsigned w32 (cast_signed w32 n)) (λ n. refl) (λ n. record { bytes = refl; entries = refl; stands = λ major is. tt }) signed4

float_cut : IsCut 4
unfolding fields_at
float_cut = one_number u4_at (2 ^ 32) u4 u4_any 4 Float (λ n. n) (λ n. refl) (λ n. record { bytes = refl; entries = refl; stands = λ major is. tt }) (λ n less. less)

long_cut : IsCut 5
unfolding fields_at
long_cut = one_number (number_at w64) (2 ^ 64) (to_be_bytes w64) u8_any 5 (λ n. Long (cast_signed w64 n)) (λ n. cast_unsigned w64 (cast_signed w64 n)) (λ n. refl) (λ n. record { bytes = refl; entries = refl; stands = λ major is. tt }) signed8

double_cut : IsCut 6
unfolding fields_at
double_cut = one_number (number_at w64) (2 ^ 64) (to_be_bytes w64) u8_any 6 Double (λ n. n) (λ n. refl) (λ n. record { bytes = refl; entries = refl; stands = λ major is. tt }) (λ n less. less)

class_cut : IsCut 7
unfolding fields_at
class_cut = one_number u2_at (2 ^ 16) u2 u2_any 7 Class (λ n. n) (λ n. refl) (λ n. record { bytes = refl; entries = refl; stands = λ major is. tt }) (λ n less. less)

string_cut : IsCut 8
unfolding fields_at
string_cut = one_number u2_at (2 ^ 16) u2 u2_any 8 String (λ n. n) (λ n. refl) (λ n. record { bytes = refl; entries = refl; stands = λ major is. tt }) (λ n less. less)

fieldref_cut : IsCut 9
unfolding fields_at
fieldref_cut = two_numbers 9 Fieldref (λ a b. refl) (λ a b. record { bytes = refl; entries = refl; stands = λ major is. tt }) (λ a b one two. (one, two))

methodref_cut : IsCut 10
unfolding fields_at
methodref_cut = two_numbers 10 Methodref (λ a b. refl) (λ a b. record { bytes = refl; entries = refl; stands = λ major is. tt }) (λ a b one two. (one, two))

interface_methodref_cut : IsCut 11
unfolding fields_at
interface_methodref_cut = two_numbers 11 InterfaceMethodref (λ a b. refl) (λ a b. record { bytes = refl; entries = refl; stands = λ major is. tt }) (λ a b one two. (one, two))

name_and_type_cut : IsCut 12
unfolding fields_at
name_and_type_cut = two_numbers 12 NameAndType (λ a b. refl) (λ a b. record { bytes = refl; entries = refl; stands = λ major is. tt }) (λ a b one two. (one, two))

from_51 : (major tag : ℕ) → 13 ≤ tag → is_tag major tag ≡ true → 51 ≤ major
from_51 major tag late is = grind (arith, nat_tests)

method_handle_cut : IsCut 15
unfolding fields_at
method_handle_cut rest x e =
    let kind = bind_ok (u1_at rest) _ x e in
    let reference = bind_ok (u2_at kind.0.1) _ x kind.2 in
    subst (λ (y : Const × Rest). IsConstant 15 y rest) (same_done (MethodHandle kind.0.0 reference.0.0, reference.0.1) x reference.2) (record {
      shape = record { bytes = refl; entries = refl; stands = λ major is. from_51 major 15 (omega arith) is };
      own = λ back stands.
          let one = u1_any kind.0.0 rest kind.0 (u2 reference.0.0 ++ back) kind.1 stands in
          let two = u2_any reference.0.0 kind.0.1 reference.0 back reference.1 one.behind in
          (two.behind, two.less);
    })

method_type_cut : IsCut 16
unfolding fields_at
method_type_cut = one_number u2_at (2 ^ 16) u2 u2_any 16 MethodType (λ n. n) (λ n. refl) (λ n. record { bytes = refl; entries = refl; stands = λ major is. from_51 major 16 (omega arith) is }) (λ n less. less)

invoke_dynamic_cut : IsCut 18
unfolding fields_at
invoke_dynamic_cut = two_numbers 18 InvokeDynamic (λ a b. refl) (λ a b. record { bytes = refl; entries = refl; stands = λ major is. from_51 major 18 (omega arith) is }) (λ a b one two. (one, two))

-- one tag after the other
or_tag : (P : ℕ → Type 0) (tag k : ℕ) → P k → (tag ≢ k → P tag) → P tag
or_tag P tag k here others = elim (cases_eq tag k) [ inl e ↦ subst P (sym e) here | inr other ↦ others other ]

-- a constant of a known tag
constant_cut : (major tag : ℕ) → is_tag major tag ≡ true → IsCut tag
constant_cut major tag known =
    or_tag IsCut tag 1 utf8_cut (λ n1.
    or_tag IsCut tag 3 integer_cut (λ n3.
    or_tag IsCut tag 4 float_cut (λ n4.
    or_tag IsCut tag 5 long_cut (λ n5.
    or_tag IsCut tag 6 double_cut (λ n6.
    or_tag IsCut tag 7 class_cut (λ n7.
    or_tag IsCut tag 8 string_cut (λ n8.
    or_tag IsCut tag 9 fieldref_cut (λ n9.
    or_tag IsCut tag 10 methodref_cut (λ n10.
    or_tag IsCut tag 11 interface_methodref_cut (λ n11.
    or_tag IsCut tag 12 name_and_type_cut (λ n12.
    or_tag IsCut tag 15 method_handle_cut (λ n15.
    or_tag IsCut tag 16 method_type_cut (λ n16.
    or_tag IsCut tag 18 invoke_dynamic_cut (λ n18. absurd (grind (arith, nat_tests))))))))))))))))

-- ---- the entries

-- a long or double does not stand at the last index, so that each constant ends with the count
stands_within : (tag index count : ℕ) → index < count → not (((tag == 5) || (tag == 6)) && (index + 1 == count)) ≡ true → index + units tag ≤ count
stands_within tag index count lt e = grind (arith, nat_tests)

either_way : {A : Type 0} (b : Bool) (x y z : A) → cond b x y ≡ z → ((b ≡ true) × (x ≡ z)) ⊎ ((b ≡ false) × (y ≡ z))
either_way true x y z e = inl (refl, e)
either_way false x y z e = inr (refl, e)

abbrev pub EntryCut : Option Const → Type 0
EntryCut None = Unit {0}
EntryCut (Some constant) = FitsCut constant

record EntriesHold (major index count : ℕ) (entries : Constants) : Type 0 where
  pub counted : index + length entries ≡ count
  pub constants : List Const
  pub all : entries ≡ flat_map entries_of constants
  pub fits : AllByRecursion EntryCut entries
  pub tags : AllByRecursion (TagStands major) entries

no_entries : (major index count : ℕ) (rest : Rest) (x : Constants × Rest) (back : List ℕ) → index ≡ count → done ([], rest) ≡ done x
    → rest.bytes ≡ flat_map entry_bytes x.0 ++ back
    → (x.1.bytes ≡ back) × EntriesHold major index count x.0
no_entries major index count rest x back at_end e stands =
    subst (λ (y : Constants × Rest). rest.bytes ≡ flat_map entry_bytes y.0 ++ back → (y.1.bytes ≡ back) × EntriesHold major index count y.0) (same_done ([], rest) x e)
    (λ s. (s, record { counted = omega arith; constants = []; all = refl; fits = tt; tags = tt })) stands

-- the entries of one constant, and others
one_holds : (major : ℕ) (c : Const) (others : Constants) → FitsCut c → TagStands major (Some c) → AllByRecursion EntryCut others → AllByRecursion (TagStands major) others
    → AllByRecursion EntryCut (entries_of c ++ others) × AllByRecursion (TagStands major) (entries_of c ++ others)
one_holds major (Long number) others fits stands more tags = ((fits, (tt, more)), (stands, (tt, tags)))
one_holds major (Double bits) others fits stands more tags = ((fits, (tt, more)), (stands, (tt, tags)))
one_holds major c others fits stands more tags = ((fits, more), (stands, tags))

entries_own : (left major index count : ℕ) (rest : Rest) (x : Constants × Rest) (back : List ℕ) → index ≤ count → count ≤ left + index
    → entries_at left major index count rest ≡ Ok x
    → rest.bytes ≡ flat_map entry_bytes x.0 ++ back
    → (x.1.bytes ≡ back) × EntriesHold major index count x.0
unfolding entries_at
entries_own zero major index count rest x back le enough e stands = no_entries major index count rest x back (omega arith) e stands
entries_own (suc left) major index count rest x back le enough e stands =
    elim (either_way (leb count index) _ _ _ e) [
      | inl end ↦ no_entries major index count rest x back (grind (arith, nat_tests)) end.1 stands
      | inr more ↦
          let tag = bind_ok (u1_at rest) _ x more.1 in
          let known = bind_ok _ _ x tag.2 in
          let may = guard_true (may_stand major index count tag.0.0) (fault rest.at rules.Tag) tag.0.1 known.0 known.1 in
          let known_tag = and_parts (is_tag major tag.0.0) _ may.0 in
          let constant = bind_ok (fields_at tag.0.0 known.0) _ x known.2 in
          let is = constant_cut major tag.0.0 known_tag.0 known.0 constant.0 constant.1 in
          let c = constant.0.0 in
          let lt : index < count = grind (arith, nat_tests, more.0) in
          let within : index + length (entries_of c) ≤ count = rw is.shape.entries (stands_within tag.0.0 index count lt known_tag.1) in
          let some : 1 ≤ length (entries_of c) = rw is.shape.entries (grind (arith, nat_tests)) in
          let others = bind_ok (entries_at left major (index + length (entries_of c)) count constant.0.1) _ x constant.2 in
          subst (λ (y : Constants × Rest). rest.bytes ≡ flat_map entry_bytes y.0 ++ back → (y.1.bytes ≡ back) × EntriesHold major index count y.0)
          (same_done (entries_of c ++ others.0.0, others.0.1) x others.2)
          (λ s.
          let texts = flat_map entry_bytes others.0.0 in
          let text : flat_map entry_bytes (entries_of c ++ others.0.0) ≡ (tag.0.0 ∷ fields c) ++ texts =
          flat_map-append entry_bytes (entries_of c) others.0.0 ∙ ap (λ (t : List ℕ). t ++ texts) (entry_spelled c ∙ is.shape.bytes) in
          let grouped : rest.bytes ≡ tag.0.0 ∷ (fields c ++ (texts ++ back)) =
          s ∙ ap (λ (t : List ℕ). t ++ back) text ∙ append_assoc (tag.0.0 ∷ fields c) texts back in
          let one = u1_any tag.0.0 rest tag.0 (fields c ++ (texts ++ back)) tag.1 grouped in
          let at_fields : known.0.bytes ≡ fields c ++ (texts ++ back) = ap (λ (r : Rest). r.bytes) (sym may.1) ∙ one.behind in
          let own = is.own (texts ++ back) at_fields in
          let rec = entries_own left major (index + length (entries_of c)) count constant.0.1 others.0 back within (omega (arith, some, enough)) others.1 own.0 in
          let hold = one_holds major c others.0.0 own.1 (is.shape.stands major known_tag.0) rec.1.fits rec.1.tags in
          let counted = rec.1.counted in (
            rec.0,
            record {
              counted = omega (arith, length-append (entries_of c) others.0.0, counted);
              constants = c ∷ rec.1.constants;
              all = ap (λ (es : Constants). entries_of c ++ es) rec.1.all;
              fits = hold.0;
              tags = hold.1;
            },
          )) stands
    ]

-- ---- the pool

pub record PoolHolds (major : ℕ) (pool : Constants) : Type 0 where
  pub is_pool : IsPool pool
  pub fits : AllByRecursion EntryCut pool
  pub tags : AllByRecursion (TagStands major) pool

pub pool_own : (major : ℕ) (rest : Rest) (x : Constants × Rest) (back : List ℕ) → pool_at major rest ≡ Ok x → rest.bytes ≡ pool_bytes x.0 ++ back
    → (x.1.bytes ≡ back) × PoolHolds major x.0
pool_own major rest x back e stands =
    let count = bind_ok (u2_at rest) _ x e in
    let some = bind_ok _ _ x count.2 in
    let g = guard_false (eqb count.0.0 0) (fault rest.at rules.Tag) count.0.1 some.0 some.1 in
    let positive : 1 ≤ count.0.0 = grind (arith, nat_tests, g.0) in
    let entries = bind_ok (entries_at count.0.0 major 1 count.0.0 some.0) _ x some.2 in
    subst (λ (y : Constants × Rest). rest.bytes ≡ pool_bytes y.0 ++ back → (y.1.bytes ≡ back) × PoolHolds major y.0) (same_done (None ∷ entries.0.0, entries.0.1) x entries.2)
    (λ s.
    let one = u2_any (length (None ∷ entries.0.0)) rest count.0 (flat_map entry_bytes entries.0.0 ++ back) count.1 s in
    let at_entries : some.0.bytes ≡ flat_map entry_bytes entries.0.0 ++ back = ap (λ (r : Rest). r.bytes) (sym g.1) ∙ one.behind in
    let own = entries_own count.0.0 major 1 count.0.0 some.0 entries.0 back positive (omega arith) entries.1 at_entries in
    let counted = own.1.counted in
    let less = one.less in (
      own.0,
      record {
        is_pool = record { constants = own.1.constants; all = ap (λ (es : Constants). None ∷ es) own.1.all; count = omega (arith, counted, less) };
        fits = (tt, own.1.fits);
        tags = (tt, own.1.tags);
      },
    )) stands
