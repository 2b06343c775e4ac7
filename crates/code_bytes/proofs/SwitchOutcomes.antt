-- Bytes that spell a switch are the written ones, but for pad bytes that are not zero.
use Rattle.std.proofs.Common.{◌≡◌, ℕ, ◌-◌, false, List, [], ◌∷◌, ◌++◌, length, map, take, replicate, w32, inl, refl, sym, ap, ◌∙◌, subst, not, arith, length-append}
use Rattle.std.specs.Prelude.{ℤ, pos, int_lt, ◌+ℤ◌, ◌≤ℤ◌, FitsSigned}
use Rattle.std.specs.Int.{cast_unsigned}
use Rattle.std.specs.List.{flat_map, AllByRecursion}
use Rattle.std.proofs.lemmas.Int.{ints, of_z-to_z}
use Rattle.std.proofs.lemmas.List.{length-replicate, length-map, take_at}
use Rattle.std.proofs.Math.Facts.{sfits_to_z}
use Rattle.std.proofs.Math.Dec.{T}
use Rattle.std.specs.Int.Signed.{lt_z_no}
use Rattle.class_model.specs.Spelling.{u4}
use Rattle.class_model.specs.Instructions.{pad_of, span}
use Rattle.class_model.specs.declared.instr.Instr.{Instr}
use Rattle.class_model.specs.declared.instr.Instr.TheVariants.{Table, Lookup}
use Rattle.code_bytes.specs.Encoding.{HasZeroPad}
use Rattle.code_bytes.specs.Forms.{target_bytes, pair_bytes, switch_bytes, table_bytes, lookup_bytes}
use Rattle.code_bytes.specs.Spellings.{IsU4, s4, to_of, ReadsTable, ReadsLookup, entry_bytes, FitsEntry, pair_of}
use Rattle.code_bytes.proofs.Offsets.{offset_back}
use Rattle.code_bytes.proofs.Outcomes.{Outcome}

bits_back : (bits : ℕ) → IsU4 bits → cast_unsigned w32 (s4 bits) ≡ bits
bits_back bits fits = of_z-to_z w32 bits fits

target_back : (at bits : ℕ) → IsU4 bits → target_bytes at (to_of at bits) ≡ u4 bits
target_back at bits fits = ap u4 (offset_back at bits fits)

targets_back : (at : ℕ) (offsets : List ℕ) → AllByRecursion IsU4 offsets → flat_map (target_bytes at) (map (to_of at) offsets) ≡ flat_map u4 offsets
targets_back at [] fit = refl
targets_back at (offset ∷ offsets) fit =
    ap (λ bytes. bytes ++ flat_map (target_bytes at) (map (to_of at) offsets)) (target_back at offset fit.0) ∙ ap (λ bytes. u4 offset ++ bytes) (targets_back at offsets fit.1)

at_least : (low high : ℤ) → int_lt high low ≡ false → low ≤ℤ high
at_least low high e = lt_z_no (subst (λ b. T (not b)) (sym e) tt)

high_is : (low high : ℤ) (count : ℕ) → FitsSigned w32 low → FitsSigned w32 high → low ≤ℤ high → span low high ≡ count → low +ℤ pos (count - 1) ≡ high
high_is low high count low_fits high_fits least counted = omega (arith, ints)

signed_fits : (bits : ℕ) → IsU4 bits → FitsSigned w32 (s4 bits)
signed_fits bits fits = sfits_to_z (record { fits = fits })

high_back : (low high count : ℕ) → IsU4 low → IsU4 high → int_lt (s4 high) (s4 low) ≡ false → span (s4 low) (s4 high) ≡ count → s4 low +ℤ pos (count - 1) ≡ s4 high
high_back low high count low_fits high_fits ordered counted = high_is (s4 low) (s4 high) count (signed_fits low low_fits) (signed_fits high high_fits) (at_least (s4 low) (s4 high) ordered) counted

-- bytes that differ from the written ones in pad bytes alone
padded : (at opcode : ℕ) (instr : Instr) (pads operands : List ℕ) → length pads ≡ pad_of at → (HasZeroPad at instr (opcode ∷ (pads ++ operands)) → take (pad_of at) (pads ++ operands) ≡ replicate (pad_of at) 0) → Outcome at instr (switch_bytes opcode at operands) (opcode ∷ (pads ++ operands))
padded at opcode instr pads operands pads_len zero_pads = inl (record {
  long = simp length-append (omega (arith, pads_len, length-replicate {A = ℕ} (pad_of at) 0));
  is = λ has. ap (λ front. opcode ∷ (front ++ operands)) (sym (take_at pads operands (pad_of at) pads_len) ∙ zero_pads has);
})

pub table_outcome : (at : ℕ) (tail : List ℕ) (instr : Instr) (r : ReadsTable at tail instr) → Outcome at (Table (s4 r.low) (to_of at r.other) (map (to_of at) r.offsets)) (table_bytes at (s4 r.low) (to_of at r.other) (map (to_of at) r.offsets)) (170 ∷ (r.pads ++ (u4 r.other ++ (u4 r.low ++ (u4 r.high ++ flat_map u4 r.offsets)))))
table_outcome at tail instr r =
    let to = map (to_of at) r.offsets in
    let operands = u4 r.other ++ (u4 r.low ++ (u4 r.high ++ flat_map u4 r.offsets)) in
    let is_high = ap (λ n. s4 r.low +ℤ pos (n - 1)) (length-map r.offsets (to_of at)) ∙ high_back r.low r.high _ r.low_fits r.high_fits r.ordered r.counted in
    let written : table_bytes at (s4 r.low) (to_of at r.other) to ≡ switch_bytes 170 at operands =
    ap (λ bytes. switch_bytes 170 at (bytes ++ (u4 (cast_unsigned w32 (s4 r.low)) ++ (u4 (cast_unsigned w32 (s4 r.low +ℤ pos (length to - 1))) ++ flat_map (target_bytes at) to)))) (target_back at r.other r.other_fits)
    ∙ ap (λ n. switch_bytes 170 at (u4 r.other ++ (u4 n ++ (u4 (cast_unsigned w32 (s4 r.low +ℤ pos (length to - 1))) ++ flat_map (target_bytes at) to)))) (bits_back r.low r.low_fits)
    ∙ ap (λ n. switch_bytes 170 at (u4 r.other ++ (u4 r.low ++ (u4 n ++ flat_map (target_bytes at) to)))) (ap (cast_unsigned w32) is_high ∙ bits_back r.high r.high_fits)
    ∙ ap (λ bytes. switch_bytes 170 at (u4 r.other ++ (u4 r.low ++ (u4 r.high ++ bytes)))) (targets_back at r.offsets r.offsets_fit) in
    rw written (padded at 170 (Table (s4 r.low) (to_of at r.other) to) r.pads operands r.pads_len (λ zeros. zeros))

pair_back : (at : ℕ) (entry : ℕ × ℕ) → FitsEntry entry → pair_bytes at (pair_of at entry) ≡ entry_bytes entry
pair_back at entry fits =
    ap (λ n. u4 n ++ target_bytes at (to_of at entry.1)) (bits_back entry.0 fits.0) ∙ ap (λ bytes. u4 entry.0 ++ bytes) (target_back at entry.1 fits.1)

pairs_back : (at : ℕ) (entries : List (ℕ × ℕ)) → AllByRecursion FitsEntry entries → flat_map (pair_bytes at) (map (pair_of at) entries) ≡ flat_map entry_bytes entries
pairs_back at [] fit = refl
pairs_back at (entry ∷ entries) fit =
    ap (λ bytes. bytes ++ flat_map (pair_bytes at) (map (pair_of at) entries)) (pair_back at entry fit.0) ∙ ap (λ bytes. entry_bytes entry ++ bytes) (pairs_back at entries fit.1)

pub lookup_outcome : (at : ℕ) (tail : List ℕ) (instr : Instr) (r : ReadsLookup at tail instr) → Outcome at (Lookup (to_of at r.other) (map (pair_of at) r.entries)) (lookup_bytes at (to_of at r.other) (map (pair_of at) r.entries)) (171 ∷ (r.pads ++ (u4 r.other ++ (u4 (length r.entries) ++ flat_map entry_bytes r.entries))))
lookup_outcome at tail instr r =
    let pairs = map (pair_of at) r.entries in
    let operands = u4 r.other ++ (u4 (length r.entries) ++ flat_map entry_bytes r.entries) in
    let written : lookup_bytes at (to_of at r.other) pairs ≡ switch_bytes 171 at operands =
    ap (λ bytes. switch_bytes 171 at (bytes ++ (u4 (length pairs) ++ flat_map (pair_bytes at) pairs))) (target_back at r.other r.other_fits)
    ∙ ap (λ n. switch_bytes 171 at (u4 r.other ++ (u4 n ++ flat_map (pair_bytes at) pairs))) (length-map r.entries (pair_of at))
    ∙ ap (λ bytes. switch_bytes 171 at (u4 r.other ++ (u4 (length r.entries) ++ bytes))) (pairs_back at r.entries r.entries_fit) in
    rw written (padded at 171 (Lookup (to_of at r.other) pairs) r.pads operands r.pads_len (λ zeros. zeros))
