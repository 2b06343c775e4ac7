-- The kinds of the parameters of a descriptor, read one by one, and their count.
use Rattle.std.proofs.Common.{◌≡◌, ◌+◌, ◌-◌, ◌==◌, ◌<◌, ◌≤◌, not, ℕ, zero, suc, Bool, true, false, List, [], ◌∷◌, ◌++◌, length, map, take, drop, refl, sym, ap, ◌∙◌, arith, append_assoc, length-append, length-drop}
use Rattle.std.proofs.lemmas.List.{append-nil, length-map}
use Rattle.class_model.specs.Descriptors.{kind_of, parameters_of, type_len, type_of, types_before}
use Rattle.class_model.specs.declared.descriptor.FieldType.{FieldType}
use Rattle.class_model.specs.declared.descriptor.Kind.{Kind}
use Rattle.member_link.specs.Laws.Parameters.{kind_by_first, none_before, not_true, one_before, shorter, type_takes}
use Rattle.member_link.specs.Signatures.{begins_type}

-- these are read, and the rest is left
pub record Read (desc rest : List ℕ) (kinds : List Kind) : Type 0 where
  pub left : ℕ
  pub enough : length rest ≤ left
  pub same : map kind_of (parameters_of desc) ≡ kinds ++ map kind_of (types_before left rest)

pub read_none : (desc : List ℕ) → Read desc (drop 1 desc) []
read_none desc = record { left = length desc; enough = omega (arith, length-drop {A = ℕ} 1 desc); same = refl }

front : (n first : ℕ) (rest : List ℕ) → 0 < n → (other : List ℕ) × (take n (first ∷ rest) ≡ first ∷ other)
front zero first rest some = absurd (omega arith)
front (suc n) first rest some = (take n rest, refl)

-- one more is read
pub read_more :
    (desc rest : List ℕ) (kinds : List Kind) (kind : Kind)
    → begins_type rest ≡ true
    → kind ≡ kind_of (type_of rest)
    → Read desc rest kinds
    → Read desc (drop (type_len rest) rest) (kinds ++ kind ∷ [])
read_more desc [] kinds kind begins is read = absurd cc
read_more desc (first ∷ rest) kinds kind begins is read = by read.left read.enough read.same
  where
    more : not (first == 41) ≡ true → (first == 41) ≡ false
    more = not_true (first == 41)

    by :
        (left : ℕ)
        → length (first ∷ rest) ≤ left
        → map kind_of (parameters_of desc) ≡ kinds ++ map kind_of (types_before left (first ∷ rest))
        → Read desc (drop (type_len (first ∷ rest)) (first ∷ rest)) (kinds ++ kind ∷ [])
    by zero enough same = absurd (omega arith)
    by (suc left) enough same =
        let len = type_len (first ∷ rest) in
        let cut = front len first rest (type_takes first rest) in
        let step = one_before left first rest (more begins) in
        let kind_is : kind_of (type_of (take len (first ∷ rest))) ≡ kind =
        ap (λ (b : List ℕ). kind_of (type_of b)) cut.1 ∙ kind_by_first first cut.0 rest ∙ sym is
        in
        record {
          left = left;
          enough = (let smaller = shorter (first ∷ rest) begins in omega arith);
          same =
              same
              ∙ ap (λ (types : List FieldType). kinds ++ map kind_of types) step
              ∙ ap (λ (k : Kind). kinds ++ (k ∷ map kind_of (types_before left (drop len (first ∷ rest))))) kind_is
              ∙ sym (append_assoc kinds (kind ∷ []) (map kind_of (types_before left (drop len (first ∷ rest)))));
        }

-- all are read
pub read_all :
    (desc rest : List ℕ) (kinds : List Kind)
    → begins_type rest ≡ false
    → Read desc rest kinds
    → map kind_of (parameters_of desc) ≡ kinds
read_all desc rest kinds ends read =
    read.same ∙ ap (λ (types : List FieldType). kinds ++ map kind_of types) (none_before read.left rest ends) ∙ append-nil kinds

-- ---- their count

-- so many are read, and the rest is left
pub record Counted (desc rest : List ℕ) (count : ℕ) : Type 0 where
  pub kinds : List Kind
  pub read : Read desc rest kinds
  pub so_many : count ≡ length kinds
  pub short : count + length rest ≤ length desc

pub counted_none : (desc : List ℕ) → Counted desc (drop 1 desc) 0
counted_none desc = record {
  kinds = [];
  read = read_none desc;
  so_many = refl;
  short = omega (arith, length-drop {A = ℕ} 1 desc);
}

pub counted_more :
    (desc rest : List ℕ) (count : ℕ)
    → begins_type rest ≡ true
    → Counted desc rest count
    → Counted desc (drop (type_len rest) rest) (count + 1)
counted_more desc rest count begins counted =
    let smaller = shorter rest begins in
    record {
      kinds = counted.kinds ++ kind_of (type_of rest) ∷ [];
      read = read_more desc rest counted.kinds (kind_of (type_of rest)) begins refl counted.read;
      so_many = omega (arith, counted.so_many, length-append counted.kinds (kind_of (type_of rest) ∷ []));
      short = omega (arith, smaller, counted.short);
    }

pub counted_all :
    (desc rest : List ℕ) (count : ℕ)
    → begins_type rest ≡ false
    → Counted desc rest count
    → count ≡ length (parameters_of desc)
counted_all desc rest count ends counted =
    counted.so_many
    ∙ ap length (sym (read_all desc rest counted.kinds ends counted.read))
    ∙ length-map (parameters_of desc) kind_of

pub not_empty : (rest : List ℕ) → begins_type rest ≡ true → 0 < length rest
not_empty [] begins = absurd cc
not_empty (first ∷ rest) begins = omega arith
