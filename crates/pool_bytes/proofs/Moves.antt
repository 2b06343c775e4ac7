-- A cursor moves behind what it reads, and by nothing else.
use Rattle.std.proofs.Common.{◌≡◌, ℕ, ◌≤◌, Bool, true, false, cond, ltb, List, [], ◌++◌, ◌∷◌, length, take, Ok, Err, refl, sym, ap, subst, ◌∙◌, append_assoc, length-append, arith}
use Rattle.std.specs.Int.{w16, w32, w64, from_be_bytes}
use Rattle.std.proofs.lemmas.Bool.{ltb-false}
use Rattle.std.proofs.lemmas.List.{take-append-drop, length-take}
use Rattle.class_model.specs.Checks.{fault, ◌>>=◌}
use Rattle.class_model.specs.Cutting.{Rest, Cut, behind, bytes_at, number_at, u1_at, u2_at, u4_at}
use Rattle.class_model.specs.declared.fault.FileRule.TheVariants as rules
use Rattle.pool_bytes.specs.Behind.{IsBehind}

pub stays : {before after : Rest} → after ≡ before → IsBehind before after
stays {before = before} same = rw same (record { taken = []; parts = refl; place = omega arith })

pub goes_on : {before between after : Rest} → IsBehind before between → IsBehind between after → IsBehind before after
goes_on {before = before} {between = between} {after = after} p q = record {
  taken = p.taken ++ q.taken;
  parts = p.parts ∙ ap (λ (bytes : List ℕ). p.taken ++ bytes) q.parts ∙ sym (append_assoc p.taken q.taken after.bytes);
  place = omega (arith, p.place, q.place, length-append p.taken q.taken);
}

-- the first bytes
behind_some : (count : ℕ) (rest : Rest) → count ≤ length rest.bytes → IsBehind rest (behind count rest)
behind_some count rest within = record {
  taken = take count rest.bytes;
  parts = sym (take-append-drop count rest.bytes);
  place = omega (arith, length-take count rest.bytes);
}

bytes_cut : (count : ℕ) (rest : Rest) (item : List ℕ × Rest) (b : Bool) → ltb (length rest.bytes) count ≡ b → cond b (Err (fault rest.at rules.Short)) (Ok (take count rest.bytes, behind count rest)) ≡ Ok item → IsBehind rest item.1
bytes_cut count rest item true is e = absurd cc
bytes_cut count rest item false is e =
    let same : (take count rest.bytes, behind count rest) ≡ item = cc in
    rw (sym (ap (λ (p : List ℕ × Rest). p.1) same)) (behind_some count rest (ltb-false _ _ is))

-- an item that is made into a number
abbrev as_made : {X Y : Type 0} → (X → Y) → X × Rest → Cut Y
as_made make item = Ok (make item.0, item.1)

number_cut : (count : ℕ) (make : List ℕ → ℕ) (before between : Rest) (n : ℕ) → (bytes_at count before >>= as_made make) ≡ Ok (n, between) → IsBehind before between
number_cut count make before between n e = by_item (bytes_at count before) (λ item. bytes_cut count before item (ltb (length before.bytes) count) refl) e where
  by_item : (cut : Cut (List ℕ)) → ((item : List ℕ × Rest) → cut ≡ Ok item → IsBehind before item.1) → (cut >>= as_made make) ≡ Ok (n, between) → IsBehind before between
  by_item (Ok item) holds e =
      let same : ◌≡◌ {A = ℕ × Rest} (make item.0, item.1) (n, between) = cc in
      subst (IsBehind before) (ap (λ (p : ℕ × Rest). p.1) same) (holds item refl)
  by_item (Err f) holds e = absurd cc

-- ---- one item, and what is taken behind it

pub bytes_then : {before between after : Rest} (count : ℕ) {item : List ℕ} → bytes_at count before ≡ Ok (item, between) → IsBehind between after → IsBehind before after
bytes_then {before = before} {between = between} count {item = item} e = goes_on (bytes_cut count before (item, between) (ltb (length before.bytes) count) refl e)

pub u1_then : {before between after : Rest} {n : ℕ} → u1_at before ≡ Ok (n, between) → IsBehind between after → IsBehind before after
u1_then {before = before} {between = between} {n = n} e = goes_on (number_cut 1 (λ bytes. from_be_bytes w16 (0 ∷ bytes)) before between n e)

pub u2_then : {before between after : Rest} {n : ℕ} → u2_at before ≡ Ok (n, between) → IsBehind between after → IsBehind before after
u2_then {before = before} {between = between} {n = n} e = goes_on (number_cut 2 (from_be_bytes w16) before between n e)

pub u4_then : {before between after : Rest} {n : ℕ} → u4_at before ≡ Ok (n, between) → IsBehind between after → IsBehind before after
u4_then {before = before} {between = between} {n = n} e = goes_on (number_cut 4 (from_be_bytes w32) before between n e)

pub u8_then : {before between after : Rest} {n : ℕ} → number_at w64 before ≡ Ok (n, between) → IsBehind between after → IsBehind before after
u8_then {before = before} {between = between} {n = n} e = goes_on (number_cut 8 (from_be_bytes w64) before between n e)
