-- How a byte is printed: each in one way, and none as the front of another.
use Rattle.std.proofs.Common.{◌≡◌, ◌≢◌, ◌⊎◌, inl, inr, ◌++◌, ◌∷◌, [], ◌/◌, ◌%◌, ◌<◌, ◌≤◌, ℕ, Bool, true, false, List, length, ap, sym, refl, subst, ◌∙◌, arith, append_assoc}
use Rattle.std.specs.List.{flat_map}
use Rattle.std.proofs.lemmas.Bool.Decides.{nat_tests}
use Rattle.std.proofs.lemmas.List.{append-nil, length-append}
use Rattle.class_model.specs.Cutting.{IsBytes}
use Rattle.script_text.specs.Inner.Reading.{PrintsBytes}
use Rattle.script_text.specs.PrintedTexts.{hex_digit, is_plain_byte, printed_byte}

pub digit_once : (a b : ℕ) → a < 16 → b < 16 → hex_digit a ≡ hex_digit b → a ≡ b
digit_once a b ha hb e = grind (arith, nat_tests)

-- the form of a byte that is plain, and of another
pub plain_form : (byte : ℕ) → is_plain_byte byte ≡ true → printed_byte byte ≡ byte ∷ []
plain_form byte plain = rw plain refl

pub escaped_form : (byte : ℕ) → is_plain_byte byte ≡ false → printed_byte byte ≡ 37 ∷ hex_digit (byte / 16 % 16) ∷ hex_digit (byte % 16) ∷ []
escaped_form byte other = rw other refl

pub plain_is_no_percent : (byte : ℕ) → is_plain_byte byte ≡ true → byte ≢ 37
plain_is_no_percent byte plain is = absurd (not_plain (sym (subst (λ (n : ℕ). is_plain_byte n ≡ true) is plain))) where
  not_plain : true ≡ false → ⊥
  not_plain h = cc

pub plain_or_not : (byte : ℕ) → (is_plain_byte byte ≡ true) ⊎ (is_plain_byte byte ≡ false)
plain_or_not byte = by (is_plain_byte byte) refl where
  by : (test : Bool) → is_plain_byte byte ≡ test → (is_plain_byte byte ≡ true) ⊎ (is_plain_byte byte ≡ false)
  by true is = inl is
  by false is = inr is

-- no byte's print is the front of another's
pub one_byte_first : (a b : ℕ) (x y : List ℕ) → a < 256 → b < 256 → printed_byte a ++ x ≡ printed_byte b ++ y → (a ≡ b) × (x ≡ y)
one_byte_first a b x y ha hb e =
    elim (plain_or_not a) [
      | inl pa ↦ elim (plain_or_not b) [
        | inl pb ↦ both_plain (ap (λ (t : List ℕ). t ++ x) (sym (plain_form a pa)) ∙ (e ∙ ap (λ (t : List ℕ). t ++ y) (plain_form b pb)))
        | inr ob ↦ absurd (plain_is_no_percent a pa (first_percent a _ _ (ap (λ (t : List ℕ). t ++ x) (sym (plain_form a pa)) ∙ (e ∙ ap (λ (t : List ℕ). t ++ y) (escaped_form b ob)))))
      ]
      | inr oa ↦ elim (plain_or_not b) [
        | inl pb ↦ absurd (plain_is_no_percent b pb (first_percent b _ _ (sym (ap (λ (t : List ℕ). t ++ x) (sym (escaped_form a oa)) ∙ (e ∙ ap (λ (t : List ℕ). t ++ y) (plain_form b pb))))))
        | inr ob ↦ both_escaped (ap (λ (t : List ℕ). t ++ x) (sym (escaped_form a oa)) ∙ (e ∙ ap (λ (t : List ℕ). t ++ y) (escaped_form b ob)))
      ]
    ] where
      both_plain : a ∷ x ≡ b ∷ y → (a ≡ b) × (x ≡ y)
      both_plain h = (cc, cc)

      first_percent : (n : ℕ) (s t : List ℕ) → n ∷ s ≡ 37 ∷ t → n ≡ 37
      first_percent n s t h = cc

      both_escaped : 37 ∷ hex_digit (a / 16 % 16) ∷ hex_digit (a % 16) ∷ x ≡ 37 ∷ hex_digit (b / 16 % 16) ∷ hex_digit (b % 16) ∷ y → (a ≡ b) × (x ≡ y)
      both_escaped h =
          let high = digit_once (a / 16 % 16) (b / 16 % 16) (omega arith) (omega arith) (cc) in
          let low = digit_once (a % 16) (b % 16) (omega arith) (omega arith) (cc) in
          (omega (arith, high, low, ha, hb), cc)

pub some_bytes : (byte : ℕ) → 1 ≤ length (printed_byte byte)
some_bytes byte = elim (plain_or_not byte) [
  | inl plain ↦ rw (plain_form byte plain) (omega arith)
  | inr other ↦ rw (escaped_form byte other) (omega arith)
]

-- ---- bytes one by one

pub one_more_byte : (bytes : List ℕ) (byte : ℕ) → flat_map printed_byte (bytes ++ byte ∷ []) ≡ flat_map printed_byte bytes ++ printed_byte byte
one_more_byte [] byte = append-nil (printed_byte byte)
one_more_byte (first ∷ bytes) byte =
    ap (λ (t : List ℕ). printed_byte first ++ t) (one_more_byte bytes byte)
    ∙ sym (append_assoc (printed_byte first) (flat_map printed_byte bytes) (printed_byte byte))

bytes-append : (bytes : List ℕ) (byte : ℕ) → IsBytes bytes → byte < 256 → IsBytes (bytes ++ byte ∷ [])
bytes-append [] byte are is = (is, tt)
bytes-append (first ∷ bytes) byte are is = (are.0, bytes-append bytes byte are.1 is)

-- what was read of a word: whatever prints as the word, its rest prints as what is left
pub record BytesSoFar (word done rest : List ℕ) : Type 0 where
  pub printed : word ≡ flat_map printed_byte done ++ rest
  pub are_bytes : IsBytes done
  pub left : (bytes : List ℕ) → IsBytes bytes → word ≡ flat_map printed_byte bytes → (more : List ℕ) × (IsBytes more × (rest ≡ flat_map printed_byte more))

pub nothing_read : (word : List ℕ) → BytesSoFar word [] word
nothing_read word = record { printed = refl; are_bytes = tt; left = λ bytes are is. (bytes, (are, is)) }

next_left : (rest after more : List ℕ) (byte : ℕ) → rest ≡ printed_byte byte ++ after → byte < 256 → IsBytes more → rest ≡ flat_map printed_byte more → (others : List ℕ) × (IsBytes others × (after ≡ flat_map printed_byte others))
next_left rest after [] byte is small are more_is = absurd (omega (arith, some_bytes byte, sym (ap (λ (t : List ℕ). length t) is) ∙ ap (λ (t : List ℕ). length t) more_is, length-append (printed_byte byte) after))
next_left rest after (first ∷ more) byte is small are more_is =
    (more, (are.1, (one_byte_first byte first after (flat_map printed_byte more) small are.0 (sym is ∙ more_is)).1))

pub byte_read : (word done rest after : List ℕ) (byte : ℕ) → BytesSoFar word done rest → rest ≡ printed_byte byte ++ after → byte < 256 → BytesSoFar word (done ++ byte ∷ []) after
byte_read word done rest after byte so is small = record {
  printed =
      so.printed ∙ (ap (λ (t : List ℕ). flat_map printed_byte done ++ t) is
      ∙ (sym (append_assoc (flat_map printed_byte done) (printed_byte byte) after)
      ∙ ap (λ (t : List ℕ). t ++ after) (sym (one_more_byte done byte))));
  are_bytes = bytes-append done byte so.are_bytes small;
  left = λ bytes are same. let more = so.left bytes are same in next_left rest after more.0 byte is small more.1.0 more.1.1;
}

pub all_read : (word done : List ℕ) → BytesSoFar word done [] → PrintsBytes word done
all_read word done so = record { printed = so.printed ∙ append-nil (flat_map printed_byte done); are_bytes = so.are_bytes }

no_more_left : (rest more : List ℕ) → 1 ≤ length rest → ((byte : ℕ) (after : List ℕ) → byte < 256 → rest ≢ printed_byte byte ++ after) → IsBytes more → rest ≢ flat_map printed_byte more
no_more_left rest [] some never are is = absurd (omega (arith, some, ap (λ (t : List ℕ). length t) is))
no_more_left rest (first ∷ others) some never are is = never first (flat_map printed_byte others) are.0 is

pub none_read : (word done rest : List ℕ) → BytesSoFar word done rest → 1 ≤ length rest → ((byte : ℕ) (after : List ℕ) → byte < 256 → rest ≢ printed_byte byte ++ after) → (bytes : List ℕ) → ¬ PrintsBytes word bytes
none_read word done rest so some never bytes prints =
    let more = so.left bytes prints.are_bytes prints.printed in
    no_more_left rest more.0 some never more.1.0 more.1.1

pub fewer_left : (rest after : List ℕ) (byte : ℕ) → rest ≡ printed_byte byte ++ after → length after < length rest
fewer_left rest after byte is = omega (arith, some_bytes byte, ap (λ (t : List ℕ). length t) is, length-append (printed_byte byte) after)

pub bytes_once : (one other : List ℕ) → IsBytes one → IsBytes other → flat_map printed_byte one ≡ flat_map printed_byte other → one ≡ other
bytes_once [] [] are also e = refl
bytes_once [] (b ∷ other) are also e = absurd (omega (arith, some_bytes b, ap (λ (t : List ℕ). length t) e, length-append (printed_byte b) (flat_map printed_byte other)))
bytes_once (a ∷ one) [] are also e = absurd (omega (arith, some_bytes a, ap (λ (t : List ℕ). length t) e, length-append (printed_byte a) (flat_map printed_byte one)))
bytes_once (a ∷ one) (b ∷ other) are also e =
    let parts = one_byte_first a b (flat_map printed_byte one) (flat_map printed_byte other) are.0 also.0 e in
    let others = bytes_once one other are.1 also.1 parts.1 in
    (ap (λ (n : ℕ). n ∷ one) parts.0 ∙ ap (λ (t : List ℕ). b ∷ t) others)
