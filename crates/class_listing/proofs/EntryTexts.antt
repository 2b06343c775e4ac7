-- One more constant is one more line, if a constant is there.
use Rattle.std.proofs.Common.{◌≡◌, ℕ, zero, suc, ◌+◌, ◌<◌, List, [], ◌∷◌, ◌++◌, length, take, ap, sym, ◌∙◌, arith, append_assoc}
use Rattle.std.proofs.lemmas.List.{append-nil}
use Rattle.class_model.specs.Pool.{Constants, constant_at}
use Rattle.class_listing.specs.Inner.ListingTexts.{entries_text, entry_text}

next_entry : (from at : ℕ) (pool : Constants) → at < length pool → entries_text from (take (suc at) pool) ≡ entries_text from (take at pool) ++ entry_text (at + from) (constant_at pool at)
next_entry from at [] within = absurd (omega (arith, within))
next_entry from zero (entry ∷ pool) within =
    append-nil (entry_text from entry)
    ∙ ap (λ (n : ℕ). entry_text n entry) {x = from} {y = zero + from} (omega arith)
next_entry from (suc at) (entry ∷ pool) within =
    let lines = entries_text (suc from) (take at pool) in
    ap (λ (t : List ℕ). entry_text from entry ++ t) (next_entry (suc from) at pool (omega (arith, within)))
    ∙ (ap (λ (n : ℕ). entry_text from entry ++ (lines ++ entry_text n (constant_at pool at))) {x = at + suc from} {y = suc at + from} (omega arith)
    ∙ sym (append_assoc (entry_text from entry) lines (entry_text (suc at + from) (constant_at pool at))))

one_entry : (pool : Constants) (at : ℕ) → at < length pool → entries_text 0 (take (at + 1) pool) ≡ entries_text 0 (take at pool) ++ entry_text at (constant_at pool at)
one_entry pool at within =
    ap (λ (n : ℕ). entries_text 0 (take n pool)) {x = at + 1} {y = suc at} (omega arith)
    ∙ (next_entry 0 at pool within
    ∙ ap (λ (n : ℕ). entries_text 0 (take at pool) ++ entry_text n (constant_at pool at)) {x = at + 0} {y = at} (omega arith))

pub more_entries : (old before after : List ℕ) (pool : Constants) (at : ℕ) → at < length pool → before ≡ old ++ entries_text 0 (take at pool) → after ≡ before ++ entry_text at (constant_at pool at) → after ≡ old ++ entries_text 0 (take (at + 1) pool)
more_entries old before after pool at within so_far pushed =
    pushed
    ∙ (ap (λ (t : List ℕ). t ++ entry_text at (constant_at pool at)) so_far
    ∙ (append_assoc old (entries_text 0 (take at pool)) (entry_text at (constant_at pool at))
    ∙ ap (λ (t : List ℕ). old ++ t) (sym (one_entry pool at within))))
