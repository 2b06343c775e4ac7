-- A class name from left to right.
use Rattle.std.proofs.Common.{◌≡◌, ◌≢◌, ℕ, ◌+◌, ◌<◌, ◌≤◌, Bool, true, false, List, [], ◌∷◌, length, get_or, drop, ◌⊎◌, inl, inr, ◌↔◌, IsTrue, not, refl, sym, ap, subst, ◌∙◌}
use Rattle.std.proofs.lemmas.List.{drop_more, drop_all}
use Rattle.std.specs.List.{AllByRecursion, join_with_byte}
use Rattle.class_model.specs.Names.{IsNameByte, IsUnqualifiedName, IsClassName}

-- The rest of a class name: the rest of one part, which has a byte if the part starts here, and the parts after it.
pub record Rest (starts_part : Bool) (bytes : List ℕ) : Type 0 where
  pub front : List ℕ
  pub parts : List (List ℕ)
  pub some : starts_part ≡ true → front ≢ []
  pub named : AllByRecursion IsNameByte front
  pub unqualified : AllByRecursion IsUnqualifiedName parts
  pub joined : bytes ≡ join_with_byte 47 (front ∷ parts)

of_parts : (bytes : List ℕ) (parts : List (List ℕ)) → parts ≢ [] → AllByRecursion IsUnqualifiedName parts → bytes ≡ join_with_byte 47 parts → Rest true bytes
of_parts bytes [] some unqualified joined = absurd (some refl)
of_parts bytes (front ∷ parts) some unqualified joined = record { front = front; parts = parts; some = λ _. unqualified.0.some; named = unqualified.0.bytes; unqualified = unqualified.1; joined = joined }

-- a class name is the rest of one before its first byte
pub rest_of_name : (bytes : List ℕ) → IsClassName bytes → Rest true bytes
rest_of_name bytes name = of_parts bytes name.parts name.some name.unqualified name.joined

pub name_of_rest : (bytes : List ℕ) → Rest true bytes → IsClassName bytes
name_of_rest bytes rest = record { parts = rest.front ∷ rest.parts; some = λ e. absurd cc; unqualified = (record { some = rest.some refl; bytes = rest.named }, rest.unqualified); joined = rest.joined }

-- one byte more in the first part
pub join-front : (byte : ℕ) (front : List ℕ) (parts : List (List ℕ)) → join_with_byte 47 ((byte ∷ front) ∷ parts) ≡ byte ∷ join_with_byte 47 (front ∷ parts)
join-front byte front [] = refl
join-front byte front (part ∷ parts) = refl

-- the first byte belongs to the part
pub record InPart (byte : ℕ) (bytes : List ℕ) : Type 0 where
  pub is_named : IsNameByte byte
  pub rest : Rest false bytes

-- the first byte ends the part
pub record AtSlash (starts_part : Bool) (byte : ℕ) (bytes : List ℕ) : Type 0 where
  pub is_slash : byte ≡ 47
  pub inside : starts_part ≡ true → ⊥
  pub rest : Rest true bytes

first_of_parts : (starts_part : Bool) (byte : ℕ) (bytes front : List ℕ) (parts : List (List ℕ)) → (starts_part ≡ true → front ≢ []) → AllByRecursion IsNameByte front → AllByRecursion IsUnqualifiedName parts → byte ∷ bytes ≡ join_with_byte 47 (front ∷ parts) → InPart byte bytes ⊎ AtSlash starts_part byte bytes
first_of_parts starts_part byte bytes [] [] some named unqualified joined = absurd cc
first_of_parts starts_part byte bytes [] (part ∷ parts) some named unqualified joined =
    inr (record { is_slash = cc; inside = λ starts. some starts refl; rest = of_parts bytes (part ∷ parts) (λ e. absurd cc) unqualified cc })
first_of_parts starts_part byte bytes (first ∷ front) parts some named unqualified joined =
    let e = joined ∙ join-front first front parts in
    let same : first ≡ byte = cc in
    inl (record { is_named = subst IsNameByte same named.0; rest = record { front = front; parts = parts; some = λ e. absurd cc; named = named.1; unqualified = unqualified; joined = cc } })

-- each first byte is one or the other
pub first_byte : (starts_part : Bool) (byte : ℕ) (bytes : List ℕ) → Rest starts_part (byte ∷ bytes) → InPart byte bytes ⊎ AtSlash starts_part byte bytes
first_byte starts_part byte bytes rest = first_of_parts starts_part byte bytes rest.front rest.parts rest.some rest.named rest.unqualified rest.joined

-- after a slash
pub slash_before : (bytes : List ℕ) → Rest true bytes → Rest false (47 ∷ bytes)
slash_before bytes rest = record { front = []; parts = rest.front ∷ rest.parts; some = λ e. absurd cc; named = tt; unqualified = (record { some = rest.some refl; bytes = rest.named }, rest.unqualified); joined = cc (rest.joined) }

pub slash_after : (bytes : List ℕ) → Rest false (47 ∷ bytes) → Rest true bytes
slash_after bytes rest =
    elim (first_byte false 47 bytes rest) [
      | inl part ↦ absurd (part.is_named.no_slash refl)
      | inr slash ↦ slash.rest
    ]

-- after another byte
pub byte_before : (starts_part : Bool) (byte : ℕ) (bytes : List ℕ) → IsNameByte byte → Rest false bytes → Rest starts_part (byte ∷ bytes)
byte_before starts_part byte bytes is_named rest =
    record { front = byte ∷ rest.front; parts = rest.parts; some = λ _ e. absurd cc; named = (is_named, rest.named); unqualified = rest.unqualified; joined = cc (rest.joined, join-front byte rest.front rest.parts) }

pub byte_after : (starts_part : Bool) (byte : ℕ) (bytes : List ℕ) → byte ≢ 47 → Rest starts_part (byte ∷ bytes) → InPart byte bytes
byte_after starts_part byte bytes other rest =
    elim (first_byte starts_part byte bytes rest) [
      | inl part ↦ part
      | inr slash ↦ absurd (other slash.is_slash)
    ]

-- at the end
pub ends_part : Rest false []
ends_part = record { front = []; parts = []; some = λ e. absurd cc; named = tt; unqualified = tt; joined = refl }

no_last_part : (front : List ℕ) (parts : List (List ℕ)) → front ≢ [] → [] ≡ join_with_byte 47 (front ∷ parts) → ⊥
no_last_part [] parts some joined = some refl
no_last_part (byte ∷ front) parts some joined = absurd (cc (join-front byte front parts))

pub no_part_at_end : Rest true [] → ⊥
no_part_at_end rest = no_last_part rest.front rest.parts (rest.some refl) rest.joined

-- The bytes from an index on end a class name exactly where the whole is one.
abbrev pub FromIndex : Type 0 → Bool → List ℕ → ℕ → Type 0
FromIndex whole starts_part bytes index = Rest starts_part (drop index bytes) ↔ whole

pub after_slash : {W : Type 0} (bytes : List ℕ) (index : ℕ) → index < length bytes → get_or bytes index 0 ≡ 47 → FromIndex W false bytes index → FromIndex W true bytes (index + 1)
after_slash bytes index in_range slash now =
    let e : drop index bytes ≡ 47 ∷ drop (index + 1) bytes = drop_more bytes index 0 in_range ∙ ap (λ (b : ℕ). b ∷ drop (index + 1) bytes) slash in
    (λ rest. now.0 (subst (Rest false) (sym e) (slash_before _ rest)), λ w. slash_after _ (subst (Rest false) e (now.1 w)))

pub after_byte : {W : Type 0} (starts_part : Bool) (bytes : List ℕ) (index : ℕ) → index < length bytes → IsNameByte (get_or bytes index 0) → FromIndex W starts_part bytes index → FromIndex W false bytes (index + 1)
after_byte starts_part bytes index in_range is_named now =
    let e = drop_more bytes index 0 in_range in
    (λ rest. now.0 (subst (Rest starts_part) (sym e) (byte_before starts_part _ _ is_named rest)), λ w. (byte_after starts_part _ _ is_named.no_slash (subst (Rest starts_part) e (now.1 w))).rest)

refused_end : {W : Type 0} (bytes : List ℕ) (index : ℕ) → length bytes ≤ index → FromIndex W true bytes index → W → ⊥
refused_end bytes index past now w = no_part_at_end (subst (Rest true) (drop_all index bytes past) (now.1 w))

ended : {W : Type 0} (bytes : List ℕ) (index : ℕ) → length bytes ≤ index → FromIndex W false bytes index → W
ended bytes index past now = now.0 (subst (Rest false) (sym (drop_all index bytes past)) ends_part)

pub at_end : {W : Type 0} (starts_part : Bool) (bytes : List ℕ) (index : ℕ) → length bytes ≤ index → FromIndex W starts_part bytes index → IsTrue (not starts_part) ↔ W
at_end true bytes index past now = (λ e. absurd cc, λ w. absurd (refused_end bytes index past now w))
at_end false bytes index past now = (λ _. ended bytes index past now, λ _. refl)
