-- The operands of switches that are written are read again.
use Rattle.std.proofs.Common.{◌≡◌, ℕ, suc, ◌+◌, ◌*◌, ◌^◌, ◌<◌, ◌≤◌, ltb, leb, true, false, cond, List, [], ◌∷◌, ◌++◌, length, map, Ok, Err, refl, sym, ap, ◌∙◌, arith, append_assoc, length-append}
use Rattle.std.proofs.lemmas.Bool.{le-ltb, lt-leb}
use Rattle.std.specs.Prelude.{int_lt}
use Rattle.std.specs.List.{flat_map, AllByRecursion}
use Rattle.class_model.specs.Checks.{fault}
use Rattle.class_model.specs.declared.fault.FileRule.TheVariants as rules
use Rattle.class_model.specs.Spelling.{u4}
use Rattle.class_model.specs.Instructions.{TableSwitch, LookupSwitch, Read, u4_in, table_switch_at, lookup_switch_at, targets_in, pairs_in, pad_of, span, keys_increase}
use Rattle.class_model.specs.declared.instr.Instr.{Instr}
use Rattle.class_model.specs.declared.instr.Pair.{Pair}
use Rattle.class_model.specs.declared.instr.Instr.TheVariants.{Table, Lookup}
use Rattle.code_bytes.specs.Spellings.{IsU4, ReadsTable, ReadsLookup, to_of, s4, FitsEntry, entry_bytes, pair_of}
use Rattle.code_bytes.proofs.OperandForms.{pair_is}
use Rattle.code_bytes.proofs.Fronts.{u4_behind, GivesBack}

pub same_cons : {A : Type 0} (x y : A) (xs ys : List A) → x ≡ y → xs ≡ ys → x ∷ xs ≡ y ∷ ys
same_cons x y xs ys head tail = cc

targets_behind : (at : ℕ) (offsets front : List ℕ) (place : ℕ) (rest : List ℕ) → length front ≡ place → AllByRecursion IsU4 offsets → targets_in at (front ++ (flat_map u4 offsets ++ rest)) place (length offsets) ≡ map (to_of at) offsets
targets_behind at [] front place rest long fit = refl
targets_behind at (offset ∷ offsets) front place rest long fit =
    let after = flat_map u4 offsets ++ rest in
    let others = targets_behind at offsets (front ++ u4 offset) (place + 4) rest (simp length-append (omega arith)) fit.1 in
    same_cons _ _ _ _
    (ap (to_of at) (u4_behind front place offset after long fit.0))
    (ap (λ bytes. targets_in at bytes (place + 4) (length offsets)) (sym (append_assoc front (u4 offset) after)) ∙ others)

pairs_behind : (at : ℕ) (entries : List (ℕ × ℕ)) (front : List ℕ) (place : ℕ) (rest : List ℕ) → length front ≡ place → AllByRecursion FitsEntry entries → pairs_in at (front ++ (flat_map entry_bytes entries ++ rest)) place (length entries) ≡ map (pair_of at) entries
pairs_behind at [] front place rest long fit = refl
pairs_behind at (entry ∷ entries) front place rest long fit =
    let after = flat_map entry_bytes entries ++ rest in
    let key = u4_behind front place entry.0 (u4 entry.1 ++ after) long fit.0.0 in
    let moved = sym (append_assoc front (u4 entry.0) (u4 entry.1 ++ after)) in
    let to = ap (λ bytes. u4_in bytes (place + 4)) moved ∙ u4_behind (front ++ u4 entry.0) (place + 4) entry.1 after (simp length-append (omega arith)) fit.0.1 in
    let others = pairs_behind at entries (front ++ entry_bytes entry) (place + 8) rest (simp length-append (omega arith)) fit.1 in
    same_cons _ _ _ _
    (pair_is at _ _ entry.0 entry.1 key to)
    (ap (λ bytes. pairs_in at bytes (place + 8) (length entries)) (sym (append_assoc front (entry_bytes entry) after)) ∙ others)

-- a tableswitch by its numbers
abbrev pub table_by : ℕ → List ℕ → ℕ → ℕ → ℕ → ℕ → Read
table_by at bytes other low high count =
    let start = 1 + pad_of at in
    cond (ltb (length bytes) (start + 12)) (Err (fault at rules.Operand))
    (cond (int_lt (s4 high) (s4 low)) (Err (fault at rules.Operand))
    (cond (ltb (length bytes) (start + 12 + 4 * count)) (Err (fault at rules.Operand))
    (Ok (Table (s4 low) (to_of at other) (targets_in at bytes (start + 12) count), start + 12 + 4 * count))))

pub table_at_is : (at : ℕ) (bytes : List ℕ) (other low high count : ℕ) → u4_in bytes (1 + pad_of at) ≡ other → u4_in bytes (1 + pad_of at + 4) ≡ low → u4_in bytes (1 + pad_of at + 8) ≡ high → span (s4 low) (s4 high) ≡ count → table_switch_at at bytes ≡ table_by at bytes other low high count
table_at_is at bytes other low high count is_other is_low is_high is_count =
    let start = 1 + pad_of at in
    let lows = u4_in bytes (start + 4) in
    let highs = u4_in bytes (start + 8) in
    ap (λ n. table_by at bytes n lows highs (span (s4 lows) (s4 highs))) is_other
    ∙ ap (λ n. table_by at bytes other n highs (span (s4 n) (s4 highs))) is_low
    ∙ ap (λ n. table_by at bytes other low n (span (s4 low) (s4 n))) is_high
    ∙ ap (table_by at bytes other low high) is_count

table_by_is : (at : ℕ) (bytes : List ℕ) (other low high count : ℕ) (to : List ℕ) → 1 + pad_of at + 12 + 4 * count ≤ length bytes → int_lt (s4 high) (s4 low) ≡ false → targets_in at bytes (1 + pad_of at + 12) count ≡ to → table_by at bytes other low high count ≡ Ok (Table (s4 low) (to_of at other) to, 1 + pad_of at + 12 + 4 * count)
table_by_is at bytes other low high count to long ordered is_to =
    let first = le-ltb (length bytes) (1 + pad_of at + 12) (omega arith) in
    let last = le-ltb (length bytes) (1 + pad_of at + 12 + 4 * count) long in
    rw (first, ordered, last, is_to)

pub offsets_length : (offsets : List ℕ) → length (flat_map u4 offsets) ≡ 4 * length offsets
offsets_length [] = refl
offsets_length (offset ∷ offsets) = let rest = offsets_length offsets in omega arith

pub entries_length : (entries : List (ℕ × ℕ)) → length (flat_map entry_bytes entries) ≡ 8 * length entries
entries_length [] = refl
entries_length (entry ∷ entries) = let rest = entries_length entries in omega arith

-- the front of the operands of a tableswitch, up to each number
table_parts : (opcode other low high : ℕ) (pads after rest : List ℕ) → opcode ∷ ((pads ++ (u4 other ++ (u4 low ++ (u4 high ++ after)))) ++ rest) ≡ (opcode ∷ pads) ++ (u4 other ++ (u4 low ++ (u4 high ++ (after ++ rest))))
table_parts opcode other low high pads after rest = simp append_assoc

pub gives_table : (at : ℕ) (tail : List ℕ) (instr : Instr) → ReadsTable at tail instr → GivesBack at TableSwitch tail instr
gives_table at tail instr r opcode rest =
    let start = 1 + pad_of at in
    let after = flat_map u4 r.offsets ++ rest in
    let front = opcode ∷ r.pads in
    let other = u4 r.other in
    let low = u4 r.low in
    let high = u4 r.high in
    let bytes = front ++ (other ++ (low ++ (high ++ after))) in
    let front_len : length front ≡ start = omega (arith, r.pads_len) in
    let count = offsets_length r.offsets in
    let to_low = sym (append_assoc front other (low ++ (high ++ after))) in
    let to_high = to_low ∙ sym (append_assoc (front ++ other) low (high ++ after)) in
    let to_end = to_high ∙ sym (append_assoc (front ++ other ++ low) high after) in
    let is_other = u4_behind front start r.other (low ++ (high ++ after)) front_len r.other_fits in
    let is_low = ap (λ b. u4_in b (start + 4)) to_low ∙ u4_behind (front ++ other) (start + 4) r.low (high ++ after) (simp length-append (omega arith)) r.low_fits in
    let is_high = ap (λ b. u4_in b (start + 8)) to_high ∙ u4_behind (front ++ other ++ low) (start + 8) r.high after (simp length-append (omega arith)) r.high_fits in
    let is_to = ap (λ b. targets_in at b (start + 12) (length r.offsets)) to_end ∙ targets_behind at r.offsets (front ++ other ++ low ++ high) (start + 12) rest (simp length-append (omega arith)) r.offsets_fit in
    let long : start + 12 + 4 * length r.offsets ≤ length bytes = simp length-append (omega arith) in
    let tail_len : suc (length (r.pads ++ (other ++ (low ++ (high ++ flat_map u4 r.offsets))))) ≡ start + 12 + 4 * length r.offsets = simp length-append (omega arith) in
    rw (r.tail_is, r.instr_is, tail_len) (ap (table_switch_at at) (table_parts opcode r.other r.low r.high r.pads (flat_map u4 r.offsets) rest)
    ∙ table_at_is at bytes r.other r.low r.high (length r.offsets) is_other is_low is_high r.counted
    ∙ table_by_is at bytes r.other r.low r.high (length r.offsets) _ long r.ordered is_to)

-- a lookupswitch by its numbers
abbrev pub lookup_by : ℕ → List ℕ → ℕ → ℕ → List Pair → Read
lookup_by at bytes other count pairs =
    let start = 1 + pad_of at in
    cond (ltb (length bytes) (start + 8)) (Err (fault at rules.Operand))
    (cond (leb (2 ^ 31) count) (Err (fault at rules.Operand))
    (cond (ltb (length bytes) (start + 8 + 8 * count)) (Err (fault at rules.Operand))
    (cond (keys_increase pairs) (Ok (Lookup (to_of at other) pairs, start + 8 + 8 * count)) (Err (fault at rules.Operand)))))

pub lookup_at_is : (at : ℕ) (bytes : List ℕ) (other count : ℕ) (pairs : List Pair) → u4_in bytes (1 + pad_of at) ≡ other → u4_in bytes (1 + pad_of at + 4) ≡ count → pairs_in at bytes (1 + pad_of at + 8) count ≡ pairs → lookup_switch_at at bytes ≡ lookup_by at bytes other count pairs
lookup_at_is at bytes other count pairs is_other is_count is_pairs =
    let start = 1 + pad_of at in
    let counts = u4_in bytes (start + 4) in
    ap (λ n. lookup_by at bytes n counts (pairs_in at bytes (start + 8) counts)) is_other
    ∙ ap (λ n. lookup_by at bytes other n (pairs_in at bytes (start + 8) n)) is_count
    ∙ ap (lookup_by at bytes other count) is_pairs

lookup_by_is : (at : ℕ) (bytes : List ℕ) (other count : ℕ) (pairs : List Pair) → 1 + pad_of at + 8 + 8 * count ≤ length bytes → count < 2 ^ 31 → keys_increase pairs ≡ true → lookup_by at bytes other count pairs ≡ Ok (Lookup (to_of at other) pairs, 1 + pad_of at + 8 + 8 * count)
lookup_by_is at bytes other count pairs long few ordered =
    let first = le-ltb (length bytes) (1 + pad_of at + 8) (omega arith) in
    let positive = lt-leb (2 ^ 31) count few in
    let last = le-ltb (length bytes) (1 + pad_of at + 8 + 8 * count) long in
    rw (first, positive, last, ordered)

lookup_parts : (opcode other count : ℕ) (pads after rest : List ℕ) → opcode ∷ ((pads ++ (u4 other ++ (u4 count ++ after))) ++ rest) ≡ (opcode ∷ pads) ++ (u4 other ++ (u4 count ++ (after ++ rest)))
lookup_parts opcode other count pads after rest = simp append_assoc

pub gives_lookup : (at : ℕ) (tail : List ℕ) (instr : Instr) → ReadsLookup at tail instr → GivesBack at LookupSwitch tail instr
gives_lookup at tail instr r opcode rest =
    let start = 1 + pad_of at in
    let after = flat_map entry_bytes r.entries ++ rest in
    let front = opcode ∷ r.pads in
    let other = u4 r.other in
    let many = length r.entries in
    let bytes = front ++ (other ++ (u4 many ++ after)) in
    let front_len : length front ≡ start = omega (arith, r.pads_len) in
    let few : many < 2 ^ 32 = omega (arith, r.few) in
    let count = entries_length r.entries in
    let to_count = sym (append_assoc front other (u4 many ++ after)) in
    let to_end = to_count ∙ sym (append_assoc (front ++ other) (u4 many) after) in
    let is_other = u4_behind front start r.other (u4 many ++ after) front_len r.other_fits in
    let is_count = ap (λ b. u4_in b (start + 4)) to_count ∙ u4_behind (front ++ other) (start + 4) many after (simp length-append (omega arith)) few in
    let is_pairs = ap (λ b. pairs_in at b (start + 8) many) to_end ∙ pairs_behind at r.entries (front ++ other ++ u4 many) (start + 8) rest (simp length-append (omega arith)) r.entries_fit in
    let long : start + 8 + 8 * many ≤ length bytes = simp length-append (omega arith) in
    let tail_len : suc (length (r.pads ++ (other ++ (u4 many ++ flat_map entry_bytes r.entries)))) ≡ start + 8 + 8 * many = simp length-append (omega arith) in
    rw (r.tail_is, r.instr_is, tail_len) (ap (lookup_switch_at at) (lookup_parts opcode r.other many r.pads (flat_map entry_bytes r.entries) rest)
    ∙ lookup_at_is at bytes r.other many _ is_other is_count is_pairs
    ∙ lookup_by_is at bytes r.other many _ long r.few r.ordered)
