-- A constant pool that is cut is as long as what spells it.
use Rattle.std.proofs.Common.{◌≡◌, ◌≢◌, ◌==◌, ◌&&◌, ◌⊎◌, inl, inr, ℕ, zero, suc, ◌+◌, ◌<◌, ◌≤◌, Bool, true, false, not, ◌||◌, cond, eqb, leb, List, [], ◌∷◌, ◌++◌, length, drop, None, Ok, refl, sym, ap, subst, ◌∙◌, arith, length-append}
use Rattle.std.specs.Int.{w32, w64, cast_signed}
use Rattle.std.specs.List.{flat_map}
use Rattle.std.proofs.lemmas.Bool.{cases_eq, and_parts}
use Rattle.std.proofs.lemmas.Bool.Decides.{nat_tests}
use Rattle.std.proofs.lemmas.Grind.{flat_map-append}
use Rattle.class_model.specs.Checks.{fault, ◌>>=◌}
use Rattle.class_model.specs.Cutting.{Rest, Cut, is_tag, may_stand, fields_at, entries_at, pool_at}
use Rattle.class_model.specs.Laws.Cuts.{bind_ok, done, guard_false, guard_true}
use Rattle.class_model.specs.Laws.Pools.{entry_spelled}
use Rattle.class_model.specs.Pool.{Constants, entries_of}
use Rattle.class_model.specs.Spelling.{u2, constant_bytes, entry_bytes, pool_bytes}
use Rattle.class_model.specs.declared.fault.FileRule.TheVariants as rules
use Rattle.class_model.specs.declared.pool.Const.{Const}
use Rattle.class_model.specs.declared.pool.Const.TheVariants.{Utf8, Integer, Float, Long, Double, Class, String, Fieldref, Methodref, InterfaceMethodref, NameAndType, MethodHandle, MethodType, InvokeDynamic}
use Rattle.expanded_runs.proofs.Plans.TakenParts.{IsAsLong, Always, Takes, takes_none, step, made, as_long, bytes_long, u1_long, u2_long, u4_long, u8_long, u2_pair_long, Takes-then}

-- ---- one constant

-- how many entries a constant of a tag has
abbrev units : ℕ → ℕ
units tag = cond ((tag == 5) || (tag == 6)) 2 1

-- the bytes of a constant behind its tag
abbrev fields : Const → List ℕ
fields constant = drop 1 (constant_bytes constant)

-- the constant has the tag
record IsOf (tag : ℕ) (constant : Const) : Type 0 where
  pub bytes : constant_bytes constant ≡ tag ∷ fields constant
  pub entries : length (entries_of constant) ≡ units tag

abbrev IsCut : ℕ → Type 0
IsCut tag = IsAsLong (fields_at tag) fields (IsOf tag)

-- a constant of one part
one_part : {X : Type 0} {part : Rest → Cut X} {spell : X → List ℕ} {Holds : X → Type 0} → IsAsLong part spell Holds → (tag : ℕ) (make : X → Const) → ((x : X) → Holds x → length (spell x) ≡ length (fields (make x))) → ((x : X) → IsOf tag (make x)) → IsAsLong (λ rest. part rest >>= λ n. Ok (make n.0, n.1)) fields (IsOf tag)
one_part {spell = spell} long tag make same is = record {
  takes = λ rest x e.
      let s = step long (takes_none rest) _ x e in
      made fields (IsOf tag) rest (make s.got.0, s.got.1) x (as_long (spell s.got.0) (fields (make s.got.0)) (same s.got.0 s.holds) s.takes) (is s.got.0) s.goes_on;
}

utf8_cut : IsCut 1
unfolding fields_at
utf8_cut = record {
  takes = λ rest x e.
      let len = step u2_long (takes_none rest) _ x e in
      let text = step (bytes_long len.got.0) len.takes _ x len.goes_on in
      let counted = subst (λ (k : ℕ). Takes rest (u2 k ++ text.got.0) text.got.1) (sym text.holds) text.takes in
      made fields (IsOf 1) rest (Utf8 text.got.0, text.got.1) x counted (record { bytes = refl; entries = refl }) text.goes_on;
}

integer_cut : IsCut 3
unfolding fields_at
integer_cut = one_part u4_long 3 (λ n. Integer (cast_signed w32 n)) (λ n h. refl) (λ n. record { bytes = refl; entries = refl })

float_cut : IsCut 4
unfolding fields_at
float_cut = one_part u4_long 4 Float (λ n h. refl) (λ n. record { bytes = refl; entries = refl })

long_cut : IsCut 5
unfolding fields_at
long_cut = one_part u8_long 5 (λ n. Long (cast_signed w64 n)) (λ n h. refl) (λ n. record { bytes = refl; entries = refl })

double_cut : IsCut 6
unfolding fields_at
double_cut = one_part u8_long 6 Double (λ n h. refl) (λ n. record { bytes = refl; entries = refl })

class_cut : IsCut 7
unfolding fields_at
class_cut = one_part u2_long 7 Class (λ n h. refl) (λ n. record { bytes = refl; entries = refl })

string_cut : IsCut 8
unfolding fields_at
string_cut = one_part u2_long 8 String (λ n h. refl) (λ n. record { bytes = refl; entries = refl })

fieldref_cut : IsCut 9
unfolding fields_at
fieldref_cut = one_part u2_pair_long 9 (λ n. Fieldref n.0 n.1) (λ n h. refl) (λ n. record { bytes = refl; entries = refl })

methodref_cut : IsCut 10
unfolding fields_at
methodref_cut = one_part u2_pair_long 10 (λ n. Methodref n.0 n.1) (λ n h. refl) (λ n. record { bytes = refl; entries = refl })

interface_methodref_cut : IsCut 11
unfolding fields_at
interface_methodref_cut = one_part u2_pair_long 11 (λ n. InterfaceMethodref n.0 n.1) (λ n h. refl) (λ n. record { bytes = refl; entries = refl })

name_and_type_cut : IsCut 12
unfolding fields_at
name_and_type_cut = one_part u2_pair_long 12 (λ n. NameAndType n.0 n.1) (λ n h. refl) (λ n. record { bytes = refl; entries = refl })

method_handle_cut : IsCut 15
unfolding fields_at
method_handle_cut = record {
  takes = λ rest x e.
      let kind = step u1_long (takes_none rest) _ x e in
      let reference = step u2_long kind.takes _ x kind.goes_on in
      made fields (IsOf 15) rest (MethodHandle kind.got.0 reference.got.0, reference.got.1) x reference.takes (record { bytes = refl; entries = refl }) reference.goes_on;
}

method_type_cut : IsCut 16
unfolding fields_at
method_type_cut = one_part u2_long 16 MethodType (λ n h. refl) (λ n. record { bytes = refl; entries = refl })

invoke_dynamic_cut : IsCut 18
unfolding fields_at
invoke_dynamic_cut = one_part u2_pair_long 18 (λ n. InvokeDynamic n.0 n.1) (λ n h. refl) (λ n. record { bytes = refl; entries = refl })

-- one tag after the other
or_tag : (P : ℕ → Type 0) (tag k : ℕ) → P k → (tag ≢ k → P tag) → P tag
or_tag P tag k here others = elim (cases_eq tag k) [ inl e ↦ subst P (sym e) here | inr other ↦ others other ]

-- a constant of a known tag
constant_cut : (major tag : ℕ) → is_tag major tag ≡ true → IsCut tag
constant_cut major tag known =
    or_tag IsCut tag 1 utf8_cut (λ n1.
    or_tag IsCut tag 3 integer_cut (λ n3.
    or_tag IsCut tag 4 float_cut (λ n4.
    or_tag IsCut tag 5 long_cut (λ n5.
    or_tag IsCut tag 6 double_cut (λ n6.
    or_tag IsCut tag 7 class_cut (λ n7.
    or_tag IsCut tag 8 string_cut (λ n8.
    or_tag IsCut tag 9 fieldref_cut (λ n9.
    or_tag IsCut tag 10 methodref_cut (λ n10.
    or_tag IsCut tag 11 interface_methodref_cut (λ n11.
    or_tag IsCut tag 12 name_and_type_cut (λ n12.
    or_tag IsCut tag 15 method_handle_cut (λ n15.
    or_tag IsCut tag 16 method_type_cut (λ n16.
    or_tag IsCut tag 18 invoke_dynamic_cut (λ n18. absurd (grind (arith, nat_tests))))))))))))))))

-- ---- the entries

-- the tag is known, and that of a long or double does not stand at the last index
-- such a constant ends with the count
stands_within : (tag index count : ℕ) → index < count → not (((tag == 5) || (tag == 6)) && (index + 1 == count)) ≡ true → index + units tag ≤ count
stands_within tag index count lt e = grind (arith, nat_tests)

-- entries from an index up to the count
abbrev Counted : ℕ → ℕ → Constants → Type 0
Counted index count entries = index + length entries ≡ count

either_way : {A : Type 0} (b : Bool) (x y z : A) → cond b x y ≡ z → ((b ≡ true) × (x ≡ z)) ⊎ ((b ≡ false) × (y ≡ z))
either_way true x y z e = inl (refl, e)
either_way false x y z e = inr (refl, e)

no_entries : (index count : ℕ) (rest : Rest) (x : Constants × Rest) → index ≡ count → done ([], rest) ≡ done x → Takes rest (flat_map entry_bytes x.0) x.1 × Counted index count x.0
no_entries index count rest x at_end e = made (flat_map entry_bytes) (Counted index count) rest ([], rest) x (takes_none rest) (omega arith) e

-- the entries are spelled, and end with the count
entries_take : (left major index count : ℕ) (rest : Rest) (x : Constants × Rest) → index ≤ count → count ≤ left + index → entries_at left major index count rest ≡ Ok x → Takes rest (flat_map entry_bytes x.0) x.1 × Counted index count x.0
unfolding entries_at
entries_take zero major index count rest x le enough e = no_entries index count rest x (omega arith) e
entries_take (suc left) major index count rest x le enough e =
    elim (either_way (leb count index) _ _ _ e) [
      | inl end ↦ no_entries index count rest x (grind (arith, nat_tests)) end.1
      | inr more ↦
          let tag = step u1_long (takes_none rest) _ x more.1 in
          let known = bind_ok _ _ x tag.goes_on in
          let may = guard_true (may_stand major index count tag.got.0) (fault rest.at rules.Tag) tag.got.1 known.0 known.1 in
          let stands = and_parts (is_tag major tag.got.0) _ may.0 in
          let behind : Takes rest (tag.got.0 ∷ []) known.0 = subst (λ (r : Rest). Takes rest (tag.got.0 ∷ []) r) may.1 tag.takes in
          let constant = step (constant_cut major tag.got.0 stands.0) behind _ x known.2 in
          let c = constant.got.0 in
          let lt : index < count = grind (arith, nat_tests, more.0) in
          let within : index + length (entries_of c) ≤ count = rw constant.holds.entries (stands_within tag.got.0 index count lt stands.1) in
          let some : 1 ≤ length (entries_of c) = rw constant.holds.entries (grind (arith, nat_tests)) in
          let others = bind_ok _ _ x constant.goes_on in
          let rec = entries_take left major (index + length (entries_of c)) count constant.got.1 others.0 within (omega (arith, some, enough)) others.1 in
          let both = Takes-then rest (tag.got.0 ∷ fields c) constant.got.1 (flat_map entry_bytes others.0.0) others.0.1 constant.takes rec.0 in
          let text : flat_map entry_bytes (entries_of c ++ others.0.0) ≡ (tag.got.0 ∷ fields c) ++ flat_map entry_bytes others.0.0 = flat_map-append entry_bytes (entries_of c) others.0.0 ∙ ap (λ (t : List ℕ). t ++ flat_map entry_bytes others.0.0) (entry_spelled c ∙ constant.holds.bytes) in
          made (flat_map entry_bytes) (Counted index count) rest (entries_of c ++ others.0.0, others.0.1) x (rw text both) (omega (arith, length-append (entries_of c) others.0.0, rec.1)) others.2
    ]

-- ---- the pool

pub pool_long : (major : ℕ) → IsAsLong (pool_at major) pool_bytes Always
pool_long major = record {
  takes = λ rest x e.
      let count = step u2_long (takes_none rest) _ x e in
      let some = bind_ok _ _ x count.goes_on in
      let g = guard_false (eqb count.got.0 0) (fault rest.at rules.Tag) count.got.1 some.0 some.1 in
      let positive : 1 ≤ count.got.0 = grind (arith, nat_tests, g.0) in
      let entries = bind_ok _ _ x some.2 in
      let behind : Takes rest (u2 count.got.0) some.0 = subst (λ (r : Rest). Takes rest (u2 count.got.0) r) g.1 count.takes in
      let found = entries_take count.got.0 major 1 count.got.0 some.0 entries.0 positive (omega arith) entries.1 in
      let both = Takes-then rest (u2 count.got.0) some.0 (flat_map entry_bytes entries.0.0) entries.0.1 behind found.0 in
      let len : count.got.0 ≡ length (None ∷ entries.0.0) = omega (arith, found.1) in
      let counted = subst (λ (k : ℕ). Takes rest (u2 k ++ flat_map entry_bytes entries.0.0) entries.0.1) len both in
      made pool_bytes Always rest (None ∷ entries.0.0, entries.0.1) x counted tt entries.2;
}
