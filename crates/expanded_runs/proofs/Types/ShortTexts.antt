-- The texts of a class file that is read of its own bytes have no more bytes than two bytes count.
use Rattle.std.proofs.Common.{◌≡◌, ◌==◌, ◌+◌, ◌≤◌, ℕ, zero, suc, Bool, true, false, List, [], ◌∷◌, ◌++◌, length, take, drop, Option, Some, None, Ok, Err, if◌then◌else◌, refl, sym, ap, subst, ◌∙◌, arith, append_assoc}
use Rattle.std.specs.Prelude.{nat_le, nat_lt}
use Rattle.std.specs.Int.{Width, byte_len, cast_signed, from_be_bytes, to_be_bytes, w16, w32, w64}
use Rattle.std.specs.List.{AllByRecursion, flat_map}
use Rattle.std.proofs.lemmas.Bool.{ltb-false}
use Rattle.std.proofs.lemmas.List.{drop-drop, drop_at, length-take-le}
use Rattle.std.proofs.lemmas.List.Concat.{flat_map-cons}
use Rattle.std.proofs.lemmas.Option.{none-some}
use Rattle.class_model.specs.Checks.{Fault, fault, ◌>>=◌}
use Rattle.class_model.specs.ClassOf.{ClassOf}
use Rattle.class_model.specs.Cutting.{Cut, Rest, Version, attr_at, body_at, bytes_at, counted_at, entries_at, field_at, fields_at, may_stand, method_at, number_at, pool_at, u1_at, u2_at, u2_pair_at, u4_at, uncut, version_at}
use Rattle.class_model.specs.Laws.Cuts.{bind_ok, same_done}
use Rattle.class_model.specs.Pool.{Constants, constant_at, entries_of}
use Rattle.class_model.specs.Spelling.{attrs_bytes, class_bytes, constant_bytes, entry_bytes, field_bytes, magic, method_bytes, pool_bytes, u2, u2s}
use Rattle.class_model.specs.declared.class_file.ClassFile.{ClassFile}
use Rattle.class_model.specs.declared.constant_tags.TheConstants.{UTF8_TAG, INTEGER_TAG, FLOAT_TAG, LONG_TAG, DOUBLE_TAG, CLASS_TAG, STRING_TAG, FIELDREF_TAG, METHODREF_TAG, INTERFACE_METHODREF_TAG, NAME_AND_TYPE_TAG, METHOD_HANDLE_TAG, METHOD_TYPE_TAG}
use Rattle.class_model.specs.declared.fault.FileRule.TheVariants as rules
use Rattle.class_model.specs.declared.pool.Const.{Const}
use Rattle.class_model.specs.declared.pool.Const.TheVariants.{Utf8, Integer, Float, Long, Double, Class, String, Fieldref, Methodref, InterfaceMethodref, NameAndType, MethodHandle, MethodType, InvokeDynamic}

-- ---- how much is cut

-- what a part cuts off is of one size
pub record Drops {X : Type 0} (part : Rest → Cut X) (size : ℕ) : Type 0 where
  pub each : (rest : Rest) (x : X × Rest) → part rest ≡ Ok x → x.1.bytes ≡ drop size rest.bytes

-- a value behind a test that it passed
behind_not : {Y : Type 0} (test : Bool) (d : Fault) (x y : Y) → (if test then Err d else Ok x) ≡ Ok y → (test ≡ false) × (x ≡ y)
behind_not true d x y e = absurd cc
behind_not false d x y e = (refl, cc)

behind_so : {Y : Type 0} (test : Bool) (d : Fault) (x y : Y) → (if test then Ok x else Err d) ≡ Ok y → x ≡ y
behind_so true d x y e = cc
behind_so false d x y e = absurd cc

bytes_drop : (count : ℕ) → Drops (bytes_at count) count
bytes_drop count = record {
  each = λ rest x e. ap (λ (y : List ℕ × Rest). y.1.bytes) (sym (behind_not (nat_lt (length rest.bytes) count) _ _ x e).1);
}

number_drop : (w : Width) → Drops (number_at w) (byte_len w)
number_drop w = record {
  each = λ rest x e.
      let item = bind_ok (bytes_at (byte_len w) rest) _ x e in
      ap (λ (y : ℕ × Rest). y.1.bytes) (sym (same_done (from_be_bytes w item.0.0, item.0.1) x item.2))
      ∙ (bytes_drop (byte_len w)).each rest item.0 item.1;
}

u1_drop : Drops u1_at 1
u1_drop = record {
  each = λ rest x e.
      let item = bind_ok (bytes_at 1 rest) _ x e in
      ap (λ (y : ℕ × Rest). y.1.bytes) (sym (same_done (from_be_bytes w16 (0 ∷ item.0.0), item.0.1) x item.2))
      ∙ (bytes_drop 1).each rest item.0 item.1;
}

pair_drop : Drops u2_pair_at 4
pair_drop = record {
  each = λ rest x e.
      let first = bind_ok (u2_at rest) _ x e in
      let second = bind_ok (u2_at first.0.1) _ x first.2 in
      ap (λ (y : (ℕ × ℕ) × Rest). y.1.bytes) (sym (same_done ((first.0.0, second.0.0), second.0.1) x second.2))
      ∙ (number_drop w16).each first.0.1 second.0 second.1
      ∙ ap (drop 2) ((number_drop w16).each rest first.0 first.1)
      ∙ drop-drop 2 2 rest.bytes;
}

-- ---- a constant

-- the bytes behind a constant's tag
abbrev fields : Const → List ℕ
fields constant = drop 1 (constant_bytes constant)

-- the length of a text is the count before it
abbrev IsCounted : List ℕ → Const → Type 0
IsCounted bytes (Utf8 text) = length text ≡ from_be_bytes w16 (take 2 bytes)
IsCounted bytes other = Unit {0}

pub record IsCutOff (rest : Rest) (constant : Const) (after : Rest) : Type 0 where
  pub behind : after.bytes ≡ drop (length (fields constant)) rest.bytes
  pub counted : IsCounted rest.bytes constant

abbrev CutsOff : Rest → Cut Const → Type 0
CutsOff rest cut = (x : Const × Rest) → cut ≡ Ok x → IsCutOff rest x.0 x.1

if_cuts : (rest : Rest) (test : Bool) (one other : Cut Const) → CutsOff rest one → CutsOff rest other
    → CutsOff rest (if test then one else other)
if_cuts rest true one other h k = h
if_cuts rest false one other h k = k

-- one of a fixed size
fixed_cuts : {X : Type 0} {part : Rest → Cut X} {size : ℕ} → Drops part size → (make : X → Const)
    → ((x : X) → length (fields (make x)) ≡ size)
    → ((bytes : List ℕ) (x : X) → IsCounted bytes (make x))
    → (rest : Rest) → CutsOff rest (part rest >>= λ n. Ok (make n.0, n.1))
fixed_cuts {X = X} {part = part} drops make long counted rest x e =
    let n = bind_ok (part rest) _ x e in
    subst (λ (y : Const × Rest). IsCutOff rest y.0 y.1) (same_done (make n.0.0, n.0.1) x n.2) (record {
      behind = drops.each rest n.0 n.1 ∙ ap (λ (k : ℕ). drop k rest.bytes) (sym (long n.0.0));
      counted = counted rest.bytes n.0.0;
    })

text_long : (text : List ℕ) → 2 + length text ≡ length (fields (Utf8 text))
text_long text = omega arith

text_cuts : (rest : Rest) → CutsOff rest (u2_at rest >>= λ len. bytes_at len.0 len.1 >>= λ text. Ok (Utf8 text.0, text.1))
text_cuts rest x e =
    let len = bind_ok (u2_at rest) _ x e in
    let text = bind_ok (bytes_at len.0.0 len.0.1) _ x len.2 in
    let item = bind_ok (bytes_at 2 rest) _ len.0 len.1 in
    let first = behind_not (nat_lt (length rest.bytes) 2) _ _ item.0 item.1 in
    let enough = behind_not (nat_lt (length len.0.1.bytes) len.0.0) _ _ text.0 text.1 in
    let long : length text.0.0 ≡ len.0.0 =
    ap (λ (y : List ℕ × Rest). length y.0) (sym enough.1) ∙ length-take-le len.0.0 len.0.1.bytes (ltb-false (length len.0.1.bytes) len.0.0 enough.0) in
    let count : len.0.0 ≡ from_be_bytes w16 (take 2 rest.bytes) =
    ap (λ (y : ℕ × Rest). y.0) (sym (same_done (from_be_bytes w16 item.0.0, item.0.1) len.0 item.2))
    ∙ ap (λ (y : List ℕ × Rest). from_be_bytes w16 y.0) (sym first.1) in
    subst (λ (y : Const × Rest). IsCutOff rest y.0 y.1) (same_done (Utf8 text.0.0, text.0.1) x text.2) (record {
      behind = (bytes_drop len.0.0).each len.0.1 text.0 text.1
          ∙ ap (drop len.0.0) ((number_drop w16).each rest len.0 len.1)
          ∙ drop-drop len.0.0 2 rest.bytes
          ∙ ap (λ (k : ℕ). drop (2 + k) rest.bytes) (sym long)
          ∙ ap (λ (k : ℕ). drop k rest.bytes) (text_long text.0.0);
      counted = long ∙ count;
    })

handle_cuts : (rest : Rest) → CutsOff rest (u1_at rest >>= λ k. u2_at k.1 >>= λ n. Ok (MethodHandle k.0 n.0, n.1))
handle_cuts rest x e =
    let kind = bind_ok (u1_at rest) _ x e in
    let n = bind_ok (u2_at kind.0.1) _ x kind.2 in
    subst (λ (y : Const × Rest). IsCutOff rest y.0 y.1) (same_done (MethodHandle kind.0.0 n.0.0, n.0.1) x n.2) (record {
      behind = (number_drop w16).each kind.0.1 n.0 n.1 ∙ ap (drop 2) (u1_drop.each rest kind.0 kind.1) ∙ drop-drop 2 1 rest.bytes;
      counted = tt;
    })

fields_cut : (tag : ℕ) (rest : Rest) → CutsOff rest (fields_at tag rest)
unfolding fields_at
fields_cut tag rest =
    if_cuts rest (tag == UTF8_TAG) _ _ (text_cuts rest)
    (if_cuts rest (tag == INTEGER_TAG) _ _ (fixed_cuts (number_drop w32) (λ n. Integer (cast_signed w32 n)) (λ n. refl) (λ bytes n. tt) rest)
    (if_cuts rest (tag == FLOAT_TAG) _ _ (fixed_cuts (number_drop w32) Float (λ n. refl) (λ bytes n. tt) rest)
    (if_cuts rest (tag == LONG_TAG) _ _ (fixed_cuts (number_drop w64) (λ n. Long (cast_signed w64 n)) (λ n. refl) (λ bytes n. tt) rest)
    (if_cuts rest (tag == DOUBLE_TAG) _ _ (fixed_cuts (number_drop w64) Double (λ n. refl) (λ bytes n. tt) rest)
    (if_cuts rest (tag == CLASS_TAG) _ _ (fixed_cuts (number_drop w16) Class (λ n. refl) (λ bytes n. tt) rest)
    (if_cuts rest (tag == STRING_TAG) _ _ (fixed_cuts (number_drop w16) String (λ n. refl) (λ bytes n. tt) rest)
    (if_cuts rest (tag == FIELDREF_TAG) _ _ (fixed_cuts pair_drop (λ (n : ℕ × ℕ). Fieldref n.0 n.1) (λ n. refl) (λ bytes n. tt) rest)
    (if_cuts rest (tag == METHODREF_TAG) _ _ (fixed_cuts pair_drop (λ (n : ℕ × ℕ). Methodref n.0 n.1) (λ n. refl) (λ bytes n. tt) rest)
    (if_cuts rest (tag == INTERFACE_METHODREF_TAG) _ _
    (fixed_cuts pair_drop (λ (n : ℕ × ℕ). InterfaceMethodref n.0 n.1) (λ n. refl) (λ bytes n. tt) rest)
    (if_cuts rest (tag == NAME_AND_TYPE_TAG) _ _ (fixed_cuts pair_drop (λ (n : ℕ × ℕ). NameAndType n.0 n.1) (λ n. refl) (λ bytes n. tt) rest)
    (if_cuts rest (tag == METHOD_HANDLE_TAG) _ _ (handle_cuts rest)
    (if_cuts rest (tag == METHOD_TYPE_TAG) _ _ (fixed_cuts (number_drop w16) MethodType (λ n. refl) (λ bytes n. tt) rest)
    (fixed_cuts pair_drop (λ (n : ℕ × ℕ). InvokeDynamic n.0 n.1) (λ n. refl) (λ bytes n. tt) rest)))))))))))))

-- ---- a constant of its own bytes

abbrev pub IsShort : Option Const → Type 0
IsShort (Some (Utf8 text)) = length text ≤ 65535
IsShort other = Unit {0}

count_small : (n : ℕ) → from_be_bytes w16 (to_be_bytes w16 n) ≤ 65535
count_small n = omega arith

constant_short : (constant : Const) (more : List ℕ) → IsCounted (fields constant ++ more) constant → IsShort (Some constant)
constant_short (Utf8 text) more counted = subst (λ (n : ℕ). n ≤ 65535) (sym counted) (count_small (length text))
constant_short other more counted = tt

abbrev AreShort : Constants → Type 0
AreShort pool = AllByRecursion IsShort pool

entries_short : (constant : Const) (others : Constants) → IsShort (Some constant) → AreShort others → AreShort (entries_of constant ++ others)
entries_short (Utf8 text) others short all = (short, all)
entries_short (Integer n) others short all = (tt, all)
entries_short (Float bits) others short all = (tt, all)
entries_short (Long n) others short all = (tt, (tt, all))
entries_short (Double bits) others short all = (tt, (tt, all))
entries_short (Class name) others short all = (tt, all)
entries_short (String text) others short all = (tt, all)
entries_short (Fieldref class member) others short all = (tt, all)
entries_short (Methodref class member) others short all = (tt, all)
entries_short (InterfaceMethodref class member) others short all = (tt, all)
entries_short (NameAndType name desc) others short all = (tt, all)
entries_short (MethodHandle kind reference) others short all = (tt, all)
entries_short (MethodType desc) others short all = (tt, all)
entries_short (InvokeDynamic bootstrap member) others short all = (tt, all)

-- the bytes of the entries of a constant, and of those behind them
entries_spelled : (constant : Const) (others : Constants) (tail : List ℕ)
    → flat_map entry_bytes (entries_of constant ++ others) ++ tail ≡ constant_bytes constant ++ (flat_map entry_bytes others ++ tail)
entries_spelled constant others tail =
    ap (λ (bytes : List ℕ). bytes ++ tail) (of_entries constant)
    ∙ append_assoc (constant_bytes constant) (flat_map entry_bytes others) tail where
      one : (c : Const) → flat_map entry_bytes (Some c ∷ others) ≡ constant_bytes c ++ flat_map entry_bytes others
      one c = flat_map-cons entry_bytes (Some c) others

      two : (c : Const) → flat_map entry_bytes (Some c ∷ None ∷ others) ≡ constant_bytes c ++ flat_map entry_bytes others
      two c =
          flat_map-cons entry_bytes (Some c) (None ∷ others) ∙ ap (λ (bytes : List ℕ). constant_bytes c ++ bytes) (flat_map-cons entry_bytes None others)

      of_entries : (c : Const) → flat_map entry_bytes (entries_of c ++ others) ≡ constant_bytes c ++ flat_map entry_bytes others
      of_entries (Long n) = two (Long n)
      of_entries (Double bits) = two (Double bits)
      of_entries (Utf8 text) = one (Utf8 text)
      of_entries (Integer n) = one (Integer n)
      of_entries (Float bits) = one (Float bits)
      of_entries (Class name) = one (Class name)
      of_entries (String text) = one (String text)
      of_entries (Fieldref class member) = one (Fieldref class member)
      of_entries (Methodref class member) = one (Methodref class member)
      of_entries (InterfaceMethodref class member) = one (InterfaceMethodref class member)
      of_entries (NameAndType name desc) = one (NameAndType name desc)
      of_entries (MethodHandle kind reference) = one (MethodHandle kind reference)
      of_entries (MethodType desc) = one (MethodType desc)
      of_entries (InvokeDynamic bootstrap member) = one (InvokeDynamic bootstrap member)

-- a constant begins with one byte
tagged : (c : Const) (more : List ℕ) → drop 1 (constant_bytes c ++ more) ≡ fields c ++ more
tagged (Utf8 text) more = refl
tagged (Integer n) more = refl
tagged (Float bits) more = refl
tagged (Long n) more = refl
tagged (Double bits) more = refl
tagged (Class name) more = refl
tagged (String text) more = refl
tagged (Fieldref class member) more = refl
tagged (Methodref class member) more = refl
tagged (InterfaceMethodref class member) more = refl
tagged (NameAndType name desc) more = refl
tagged (MethodHandle kind reference) more = refl
tagged (MethodType desc) more = refl
tagged (InvokeDynamic bootstrap member) more = refl

-- ---- a pool of its own bytes

-- one constant, and those behind it
abbrev one_cut : ℕ → ℕ → ℕ → ℕ → Rest → Cut Constants
one_cut left major index count rest =
    u1_at rest >>= λ tag. (if may_stand major index count tag.0 then Ok tag.1 else Err (fault rest.at rules.Tag))
    >>= λ known. fields_at tag.0 known
    >>= λ constant. entries_at left major (index + length (entries_of constant.0)) count constant.1
    >>= λ others. Ok (entries_of constant.0 ++ others.0, others.1)

-- constants that are cut out of their own bytes
cut_short : (left major index count : ℕ) (rest : Rest) (x : Constants × Rest) (tail : List ℕ) → entries_at left major index count rest ≡ Ok x
    → rest.bytes ≡ flat_map entry_bytes x.0 ++ tail
    → AreShort x.0
unfolding entries_at
cut_short zero major index count rest x tail e bytes = subst (λ (y : Constants × Rest). AreShort y.0) (same_done ([], rest) x e) tt
cut_short (suc left) major index count rest x tail e bytes = by (nat_le count index) e (cut_short left major) where
  one_more : one_cut left major index count rest ≡ Ok x
      → ((i n : ℕ) (r : Rest) (y : Constants × Rest) (t : List ℕ) → entries_at left major i n r ≡ Ok y
      → r.bytes ≡ flat_map entry_bytes y.0 ++ t
      → AreShort y.0)
      → AreShort x.0
  one_more e below =
      let tag = bind_ok (u1_at rest) _ x e in
      let known = bind_ok (if may_stand major index count tag.0.0 then Ok tag.0.1 else Err (fault rest.at rules.Tag)) _ x tag.2 in
      let constant = bind_ok (fields_at tag.0.0 known.0) _ x known.2 in
      let c : Const = constant.0.0 in
      let others = bind_ok (entries_at left major (index + length (entries_of c)) count constant.0.1) _ x constant.2 in
      let same : entries_of c ++ others.0.0 ≡ x.0 = ap (λ (y : Constants × Rest). y.0) (same_done (entries_of c ++ others.0.0, others.0.1) x others.2) in
      let more : List ℕ = flat_map entry_bytes others.0.0 ++ tail in
      let spelled : rest.bytes ≡ constant_bytes c ++ more =
      bytes ∙ ap (λ (entries : Constants). flat_map entry_bytes entries ++ tail) (sym same) ∙ entries_spelled c others.0.0 tail in
      let is_known : tag.0.1 ≡ known.0 = behind_so (may_stand major index count tag.0.0) _ tag.0.1 known.0 known.1 in
      let inside : known.0.bytes ≡ fields c ++ more =
      ap (λ (r : Rest). r.bytes) (sym is_known) ∙ u1_drop.each rest tag.0 tag.1 ∙ ap (drop 1) spelled ∙ tagged c more in
      let off = fields_cut tag.0.0 known.0 constant.0 constant.1 in
      let after : constant.0.1.bytes ≡ more =
      off.behind ∙ ap (drop (length (fields c))) inside ∙ drop_at (fields c) more (length (fields c)) refl in
      let short = constant_short c more (subst (λ (b : List ℕ). IsCounted b c) inside off.counted) in
      subst AreShort same
      (entries_short c others.0.0 short
      (below (index + length (entries_of c)) count constant.0.1 others.0 tail others.1 after))

  by : (end : Bool) → (if end then Ok ([], rest) else one_cut left major index count rest) ≡ Ok x
      → ((i n : ℕ) (r : Rest) (y : Constants × Rest) (t : List ℕ) → entries_at left major i n r ≡ Ok y
      → r.bytes ≡ flat_map entry_bytes y.0 ++ t
      → AreShort y.0)
      → AreShort x.0
  by true e below = subst (λ (y : Constants × Rest). AreShort y.0) (same_done ([], rest) x e) tt
  by false e below = one_more e below

pool_short : (major : ℕ) (rest : Rest) (x : Constants × Rest) (tail : List ℕ) → pool_at major rest ≡ Ok x
    → rest.bytes ≡ pool_bytes x.0 ++ tail
    → AreShort x.0
pool_short major rest x tail e bytes =
    let count = bind_ok (u2_at rest) _ x e in
    let some = bind_ok (if count.0.0 == 0 then Err (fault rest.at rules.Tag) else Ok count.0.1) _ x count.2 in
    let entries = bind_ok (entries_at count.0.0 major 1 count.0.0 some.0) _ x some.2 in
    let same : None ∷ entries.0.0 ≡ x.0 = ap (λ (y : Constants × Rest). y.0) (same_done (None ∷ entries.0.0, entries.0.1) x entries.2) in
    let is_some : count.0.1 ≡ some.0 = (behind_not (count.0.0 == 0) _ count.0.1 some.0 some.1).1 in
    let spelled : rest.bytes ≡ pool_bytes (None ∷ entries.0.0) ++ tail = bytes ∙ ap (λ (pool : Constants). pool_bytes pool ++ tail) (sym same) in
    let inside : some.0.bytes ≡ flat_map entry_bytes entries.0.0 ++ tail =
    ap (λ (r : Rest). r.bytes) (sym is_some)
    ∙ (number_drop w16).each rest count.0 count.1
    ∙ ap (drop 2) spelled
    ∙ ap (λ (b : List ℕ). b ++ tail) (flat_map-cons entry_bytes None entries.0.0) in
    subst AreShort same (tt, cut_short count.0.0 major 1 count.0.0 some.0 entries.0 tail entries.1 inside)

-- ---- a class file of its own bytes

version_drop : (rest : Rest) (x : Version × Rest) → version_at rest ≡ Ok x → x.1.bytes ≡ drop 8 rest.bytes
version_drop rest x e =
    let first = bind_ok (u4_at rest) _ x e in
    let magical = bind_ok (if first.0.0 == magic then Ok first.0.1 else Err (fault 0 rules.Magic)) _ x first.2 in
    let minor = bind_ok (u2_at magical.0) _ x magical.2 in
    let major = bind_ok (u2_at minor.0.1) _ x minor.2 in
    let known : first.0.1 ≡ magical.0 = behind_so (first.0.0 == magic) _ first.0.1 magical.0 magical.1 in
    ap (λ (y : Version × Rest). y.1.bytes) (sym (same_done (record { minor = minor.0.0; major = major.0.0 }, major.0.1) x major.2))
    ∙ (number_drop w16).each minor.0.1 major.0 major.1
    ∙ ap (drop 2) ((number_drop w16).each magical.0 minor.0 minor.1)
    ∙ ap (λ (r : Rest). drop 2 (drop 2 r.bytes)) (sym known)
    ∙ ap (λ (b : List ℕ). drop 2 (drop 2 b)) ((number_drop w32).each rest first.0 first.1)
    ∙ ap (drop 2) (drop-drop 2 4 rest.bytes)
    ∙ drop-drop 2 6 rest.bytes

-- the pool of a class file that is cut
pool_of_cut : (version : Version) (pool : Constants) (rest : Rest) (class : ClassFile) → body_at version pool rest ≡ Ok class → class.pool ≡ pool
pool_of_cut version pool rest class e =
    let flags = bind_ok (u2_at rest) _ class e in
    let this = bind_ok (u2_at flags.0.1) _ class flags.2 in
    let super = bind_ok (u2_at this.0.1) _ class this.2 in
    let interfaces = bind_ok (counted_at u2_at super.0.1) _ class super.2 in
    let fields = bind_ok (counted_at field_at interfaces.0.1) _ class interfaces.2 in
    let methods = bind_ok (counted_at method_at fields.0.1) _ class fields.2 in
    let attrs = bind_ok (counted_at attr_at methods.0.1) _ class methods.2 in
    sym (ap (λ (c : ClassFile). c.pool) (behind_so (length attrs.0.1.bytes == 0) (fault attrs.0.1.at rules.Extra) (record {
      major = version.major;
      minor = version.minor;
      pool = pool;
      flags = flags.0.0;
      this_class = this.0.0;
      super_class = super.0.0;
      interfaces = interfaces.0.0;
      fields = fields.0.0;
      methods = methods.0.0;
      attrs = attrs.0.0;
    }) class attrs.2))

-- a text of a pool whose texts are short
short_at : (pool : Constants) (index : ℕ) (text : List ℕ) → AreShort pool → constant_at pool index ≡ Some (Utf8 text) → length text ≤ 65535
short_at [] index text all is = absurd (none-some (Utf8 text) is)
short_at (None ∷ pool) zero text all is = absurd (none-some (Utf8 text) is)
short_at (Some c ∷ pool) zero text all is = subst (λ (o : Option Const). IsShort o) is all.0
short_at (entry ∷ pool) (suc index) text all is = short_at pool index text all.1 is

-- what stands behind the pool
module _ (class : ClassFile) where
  abbrev interfaces_bytes : List ℕ
  interfaces_bytes = u2 (length class.interfaces) ++ u2s class.interfaces

  abbrev fields_bytes : List ℕ
  fields_bytes = u2 (length class.fields) ++ flat_map field_bytes class.fields

  abbrev methods_bytes : List ℕ
  methods_bytes = u2 (length class.methods) ++ flat_map method_bytes class.methods

  abbrev behind_pool : List ℕ
  behind_pool =
      u2 class.flags
      ++ (u2 class.this_class
      ++ (u2 class.super_class ++ (interfaces_bytes ++ (fields_bytes ++ (methods_bytes ++ attrs_bytes class.attrs)))))

one_after : (p a b c d e f g : List ℕ)
    → ((((((p ++ a) ++ b) ++ c) ++ d) ++ e) ++ f) ++ g ≡ p ++ (a ++ (b ++ (c ++ (d ++ (e ++ (f ++ g))))))
one_after p a b c d e f g =
    append_assoc (((((p ++ a) ++ b) ++ c) ++ d) ++ e) f g
    ∙ append_assoc ((((p ++ a) ++ b) ++ c) ++ d) e (f ++ g)
    ∙ append_assoc (((p ++ a) ++ b) ++ c) d (e ++ (f ++ g))
    ∙ append_assoc ((p ++ a) ++ b) c (d ++ (e ++ (f ++ g)))
    ∙ append_assoc (p ++ a) b (c ++ (d ++ (e ++ (f ++ g))))
    ∙ append_assoc p a (b ++ (c ++ (d ++ (e ++ (f ++ g)))))

behind_version : (class : ClassFile) → drop 8 (class_bytes class) ≡ pool_bytes class.pool ++ behind_pool class
behind_version class =
    one_after (pool_bytes class.pool) (u2 class.flags) (u2 class.this_class) (u2 class.super_class) (interfaces_bytes class) (fields_bytes class)
    (methods_bytes class) (attrs_bytes class.attrs)

-- The texts of a class file that is read of its own bytes are short.
pub class_texts_short : (class : ClassFile) → ClassOf (class_bytes class) class
    → (index : ℕ) (text : List ℕ) → constant_at class.pool index ≡ Some (Utf8 text) → length text ≤ 65535
class_texts_short class read index text is =
    let pool = bind_ok (pool_at read.version.major read.rest) _ read.cut read.is_cut in
    let same : class.pool ≡ pool.0.0 =
    ap (λ (c : ClassFile). c.pool) read.is ∙ pool_of_cut read.version pool.0.0 pool.0.1 read.cut pool.2 in
    let behind : read.rest.bytes ≡ drop 8 (class_bytes class) = version_drop (uncut (class_bytes class)) (read.version, read.rest) read.head in
    let short = pool_short read.version.major read.rest pool.0 (behind_pool class) pool.1
    (behind ∙ behind_version class
    ∙ ap (λ (p : Constants). pool_bytes p ++ behind_pool class) same) in
    short_at class.pool index text (subst AreShort (sym same) short) is
