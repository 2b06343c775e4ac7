-- Bytes that are read as switches are the operands of some numbers.
use Rattle.std.proofs.Common.{◌≡◌, ℕ, zero, suc, ◌+◌, ◌*◌, ◌^◌, ◌<◌, true, false, List, [], ◌∷◌, ◌++◌, length, map, take, drop, Ok, w32, refl, sym, ap, ◌∙◌, arith, length-drop, length-take, take-append-drop, drop-drop}
use Rattle.std.specs.Prelude.{int_lt}
use Rattle.std.specs.Int.{from_be_bytes}
use Rattle.std.specs.List.{flat_map, AllByRecursion}
use Rattle.std.proofs.lemmas.Bool.{leb-false}
use Rattle.class_model.specs.Cutting.{IsBytes}
use Rattle.class_model.specs.Laws.Cuts.{IsBytes-drop}
use Rattle.class_model.specs.Spelling.{u4}
use Rattle.class_model.specs.Instructions.{u4_in, targets_in, pairs_in, table_switch_at, lookup_switch_at, pad_of, span, keys_increase}
use Rattle.class_model.specs.declared.instr.Pair.{Pair}
use Rattle.class_model.specs.declared.instr.Instr.{Instr}
use Rattle.class_model.specs.declared.instr.Instr.TheVariants.{Table, Lookup}
use Rattle.code_bytes.proofs.Cutoffs.{cut_u4, no_more}
use Rattle.code_bytes.specs.Spellings.{IsU4, s4, to_of, ReadsTable, ReadsLookup, entry_bytes, FitsEntry, pair_of}
use Rattle.code_bytes.proofs.OperandForms.{pair_is}
use Rattle.code_bytes.proofs.Sized.{ok_parts, not_fault, not_other_fault}
use Rattle.code_bytes.proofs.WrittenSwitches.{same_cons, table_by, table_at_is, lookup_by, lookup_at_is}

-- ---- places behind an opcode and pad bytes

start_is : (pad opcode : ℕ) (tail : List ℕ) → drop (1 + pad) (opcode ∷ tail) ≡ drop pad tail
start_is pad opcode tail = let next : 1 + pad ≡ suc pad = omega arith in ap (λ n. drop n (opcode ∷ tail)) next

place_is : (pad opcode place : ℕ) (tail : List ℕ) → drop (1 + pad + place) (opcode ∷ tail) ≡ drop place (drop pad tail)
place_is pad opcode place tail = sym (drop-drop place (1 + pad) (opcode ∷ tail)) ∙ ap (drop place) (start_is pad opcode tail)

u4_of : List ℕ → ℕ
u4_of bytes = from_be_bytes w32 (take 4 bytes)

-- the numbers of a list of targets
record Offsets (at : ℕ) (bytes : List ℕ) (place count : ℕ) (others : List ℕ) : Type 0 where
  offsets : List ℕ
  many : length offsets ≡ count
  fit : AllByRecursion IsU4 offsets
  is : others ≡ flat_map u4 offsets
  made : targets_in at bytes place count ≡ map (to_of at) offsets

reads_targets : (at count : ℕ) (bytes : List ℕ) (place : ℕ) (others : List ℕ) → drop place bytes ≡ others → length others ≡ 4 * count → IsBytes others → Offsets at bytes place count others
unfolding u4_of
reads_targets at zero bytes place others here long small = record { offsets = []; many = refl; fit = tt; is = no_more others (omega arith); made = refl }
reads_targets at (suc count) bytes place others here long small =
    let cut = cut_u4 others (omega arith) small in
    let next = sym (drop-drop 4 place bytes) ∙ ap (drop 4) here in
    let rest = reads_targets at count bytes (place + 4) (drop 4 others) next (omega (arith, length-drop 4 others)) cut.are_bytes in
    record {
      offsets = u4_in others 0 ∷ rest.offsets;
      many = ap suc rest.many;
      fit = (cut.fits, rest.fit);
      is = cut.is ∙ ap (λ more. u4 (u4_in others 0) ++ more) rest.is;
      made = same_cons _ _ _ _ (ap (λ l. to_of at (u4_of l)) here) rest.made;
    }

-- the numbers of a list of pairs
record Entries (at : ℕ) (bytes : List ℕ) (place count : ℕ) (others : List ℕ) : Type 0 where
  entries : List (ℕ × ℕ)
  many : length entries ≡ count
  fit : AllByRecursion FitsEntry entries
  is : others ≡ flat_map entry_bytes entries
  made : pairs_in at bytes place count ≡ map (pair_of at) entries

reads_pairs : (at count : ℕ) (bytes : List ℕ) (place : ℕ) (others : List ℕ) → drop place bytes ≡ others → length others ≡ 8 * count → IsBytes others → Entries at bytes place count others
unfolding u4_of
reads_pairs at zero bytes place others here long small = record { entries = []; many = refl; fit = tt; is = no_more others (omega arith); made = refl }
reads_pairs at (suc count) bytes place others here long small =
    let cut = cut_u4 others (omega arith) small in
    let behind = drop 4 others in
    let then = cut_u4 behind (omega (arith, length-drop 4 others)) cut.are_bytes in
    let key = ap u4_of here in
    let to = ap u4_of (sym (drop-drop 4 place bytes) ∙ ap (drop 4) here) in
    let next = sym (drop-drop 8 place bytes) ∙ ap (drop 8) here ∙ sym (drop-drop 4 4 others) in
    let rest = reads_pairs at count bytes (place + 8) (drop 4 behind) next (omega (arith, length-drop 4 others, length-drop 4 behind)) then.are_bytes in
    let entry : ℕ × ℕ = (u4_in others 0, u4_in behind 0) in
    record {
      entries = entry ∷ rest.entries;
      many = ap suc rest.many;
      fit = ((cut.fits, then.fits), rest.fit);
      is = cut.is ∙ ap (λ more. u4 entry.0 ++ more) (then.is ∙ ap (λ more. u4 entry.1 ++ more) rest.is);
      made = same_cons _ _ _ _ (pair_is at (u4_in bytes place) (u4_in bytes (place + 4)) (u4_in others 0) (u4_in behind 0) key to) rest.made;
    }

-- what a tableswitch that is read has
record TableBy (at : ℕ) (bytes : List ℕ) (other low high count : ℕ) (instr : Instr) (len : ℕ) : Type 0 where
  ordered : int_lt (s4 high) (s4 low) ≡ false
  instr_is : instr ≡ Table (s4 low) (to_of at other) (targets_in at bytes (1 + pad_of at + 12) count)
  len_is : len ≡ 1 + pad_of at + 12 + 4 * count

table_by_is : (at : ℕ) (bytes : List ℕ) (other low high count : ℕ) (instr : Instr) (len : ℕ) → table_by at bytes other low high count ≡ Ok (instr, len) → TableBy at bytes other low high count instr len
table_by_is at bytes other low high count instr len e =
    let first = not_fault _ _ _ _ e in
    let ordered = not_fault _ _ _ _ first.1 in
    let last = not_fault _ _ _ _ ordered.1 in
    let parts = ok_parts (Table (s4 low) (to_of at other) (targets_in at bytes (1 + pad_of at + 12) count), 1 + pad_of at + 12 + 4 * count) (instr, len) _ refl last.1 in
    record { ordered = ordered.0; instr_is = parts.0; len_is = parts.1 }

-- what a lookupswitch that is read has
record LookupBy (at : ℕ) (other count : ℕ) (pairs : List Pair) (instr : Instr) (len : ℕ) : Type 0 where
  few : count < 2 ^ 31
  ordered : keys_increase pairs ≡ true
  instr_is : instr ≡ Lookup (to_of at other) pairs
  len_is : len ≡ 1 + pad_of at + 8 + 8 * count

lookup_by_is : (at : ℕ) (bytes : List ℕ) (other count : ℕ) (pairs : List Pair) (instr : Instr) (len : ℕ) → lookup_by at bytes other count pairs ≡ Ok (instr, len) → LookupBy at other count pairs instr len
lookup_by_is at bytes other count pairs instr len e =
    let first = not_fault _ _ _ _ e in
    let few = not_fault _ _ _ _ first.1 in
    let last = not_fault _ _ _ _ few.1 in
    let ordered = not_other_fault _ _ _ _ last.1 in
    let parts = ok_parts (Lookup (to_of at other) pairs, 1 + pad_of at + 8 + 8 * count) (instr, len) _ refl ordered.1 in
    record { few = leb-false (2 ^ 31) count few.0; ordered = ordered.0; instr_is = parts.0; len_is = parts.1 }

pub reads_table : (at opcode : ℕ) (tail : List ℕ) (instr : Instr) → IsBytes tail → table_switch_at at (opcode ∷ tail) ≡ Ok (instr, suc (length tail)) → ReadsTable at tail instr
unfolding u4_of
reads_table at opcode tail instr small e =
    let pad = pad_of at in
    let start = 1 + pad in
    let bytes = opcode ∷ tail in
    let body = drop pad tail in
    let behind_other = drop 4 body in
    let behind_low = drop 4 behind_other in
    let behind_high = drop 4 behind_low in
    let other = u4_of body in
    let low = u4_of behind_other in
    let high = u4_of behind_low in
    let count = span (s4 low) (s4 high) in
    let is_other = ap u4_of (start_is pad opcode tail) in
    let is_low = ap u4_of (place_is pad opcode 4 tail) in
    let is_high = ap u4_of (place_is pad opcode 8 tail ∙ sym (drop-drop 4 4 body)) in
    let by = table_by_is at bytes other low high count instr (suc (length tail)) (sym (table_at_is at bytes other low high count is_other is_low is_high refl) ∙ e) in
    let tail_long : length tail ≡ pad + 12 + 4 * count = omega (arith, by.len_is) in
    let long : length body ≡ 12 + 4 * count = omega (arith, length-drop pad tail) in
    let cut = cut_u4 body (omega arith) (IsBytes-drop pad tail small) in
    let low_cut = cut_u4 behind_other (omega (arith, length-drop 4 body)) cut.are_bytes in
    let high_cut = cut_u4 behind_low (omega (arith, length-drop 4 body, length-drop 4 behind_other)) low_cut.are_bytes in
    let others_long : length behind_high ≡ 4 * count = omega (arith, length-drop 4 body, length-drop 4 behind_other, length-drop 4 behind_low) in
    let here = place_is pad opcode 12 tail ∙ sym (drop-drop 4 8 body) ∙ ap (drop 4) (sym (drop-drop 4 4 body)) in
    let to = reads_targets at count bytes (start + 12) behind_high here others_long high_cut.are_bytes in
    record {
      pads = take pad tail;
      other = other;
      low = low;
      high = high;
      offsets = to.offsets;
      pads_len = omega (arith, length-take pad tail);
      other_fits = cut.fits;
      low_fits = low_cut.fits;
      high_fits = high_cut.fits;
      offsets_fit = to.fit;
      ordered = by.ordered;
      counted = sym to.many;
      tail_is = sym (take-append-drop pad tail) ∙ ap (λ more. take pad tail ++ more) (cut.is ∙ ap (λ more. u4 other ++ more) (low_cut.is ∙ ap (λ more. u4 low ++ more) (high_cut.is ∙ ap (λ more. u4 high ++ more) to.is)));
      instr_is = by.instr_is ∙ ap (Table (s4 low) (to_of at other)) to.made;
    }

pub reads_lookup : (at opcode : ℕ) (tail : List ℕ) (instr : Instr) → IsBytes tail → lookup_switch_at at (opcode ∷ tail) ≡ Ok (instr, suc (length tail)) → ReadsLookup at tail instr
unfolding u4_of
reads_lookup at opcode tail instr small e =
    let pad = pad_of at in
    let start = 1 + pad in
    let bytes = opcode ∷ tail in
    let body = drop pad tail in
    let behind_other = drop 4 body in
    let behind_count = drop 4 behind_other in
    let other = u4_of body in
    let count = u4_of behind_other in
    let pairs = pairs_in at bytes (start + 8) count in
    let is_other = ap u4_of (start_is pad opcode tail) in
    let is_count = ap u4_of (place_is pad opcode 4 tail) in
    let by = lookup_by_is at bytes other count pairs instr (suc (length tail)) (sym (lookup_at_is at bytes other count pairs is_other is_count refl) ∙ e) in
    let tail_long : length tail ≡ pad + 8 + 8 * count = omega (arith, by.len_is) in
    let long : length body ≡ 8 + 8 * count = omega (arith, length-drop pad tail) in
    let cut = cut_u4 body (omega arith) (IsBytes-drop pad tail small) in
    let count_cut = cut_u4 behind_other (omega (arith, length-drop 4 body)) cut.are_bytes in
    let others_long : length behind_count ≡ 8 * count = omega (arith, length-drop 4 body, length-drop 4 behind_other) in
    let here = place_is pad opcode 8 tail ∙ sym (drop-drop 4 4 body) in
    let keyed = reads_pairs at count bytes (start + 8) behind_count here others_long count_cut.are_bytes in
    record {
      pads = take pad tail;
      other = other;
      entries = keyed.entries;
      pads_len = omega (arith, length-take pad tail);
      other_fits = cut.fits;
      entries_fit = keyed.fit;
      few = omega (arith, keyed.many, by.few);
      ordered = ap keys_increase (sym keyed.made) ∙ by.ordered;
      tail_is = sym (take-append-drop pad tail) ∙ ap (λ more. take pad tail ++ more) (cut.is ∙ ap (λ more. u4 other ++ more) (count_cut.is ∙ ap (λ n. u4 n ++ behind_count) (sym keyed.many) ∙ ap (λ more. u4 (length keyed.entries) ++ more) keyed.is));
      instr_is = by.instr_is ∙ ap (Lookup (to_of at other)) keyed.made;
    }
