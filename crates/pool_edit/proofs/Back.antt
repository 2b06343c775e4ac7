-- Constants that were appended can be taken away.
use Rattle.std.proofs.Common.{◌≡◌, ◌≢◌, inl, inr, ℕ, ◌+◌, ◌<◌, List, [], ◌∷◌, ◌++◌, length, slice_get, Some, None, refl, sym, ap, subst, ◌∙◌, append_assoc, arith}
use Rattle.std.specs.List.{flat_map}
use Rattle.std.proofs.lemmas.Grind.{flat_map-append}
use Rattle.std.proofs.lemmas.List.{append-nil, length-append}
use Rattle.class_model.specs.Pool.{Constants, entries_of}
use Rattle.class_model.specs.declared.pool.Const.{Const}
use Rattle.pool_edit.specs.Edits.{Adds, Continues, Edit, IsBoundary, TakesBack, grown}
use Rattle.pool_edit.proofs.Slots.{entries_shape, slice_get-seam}

pub continues-itself : (edit : Edit) → Continues edit edit
continues-itself edit = record { base = refl; limit = refl; more = []; added = sym (append-nil edit.added) }

pub continues-on : (first old new : Edit) (constant : Const) → Continues first old → Adds old constant new → Continues first new
continues-on first old new constant so_far adds = elim adds [
  | inl found ↦ subst (λ (edit : Edit). Continues first edit) (sym found.same) so_far
  | inr appends ↦ record {
    base = ap (λ (edit : Edit). edit.base) appends.appended ∙ so_far.base;
    limit = ap (λ (edit : Edit). edit.limit) appends.appended ∙ so_far.limit;
    more = so_far.more ++ constant ∷ [];
    added =
        ap (λ (edit : Edit). edit.added) appends.appended
        ∙ ap (λ (constants : List Const). constants ++ constant ∷ []) so_far.added
        ∙ append_assoc first.added so_far.more (constant ∷ []);
  }
]

-- a pool, and the entries of more constants behind it
more-entries : (first edit : Edit) (so_far : Continues first edit) → grown edit ≡ grown first ++ flat_map entries_of so_far.more
more-entries first edit so_far =
    ap (λ (base : Constants). base ++ flat_map entries_of edit.added) so_far.base
    ∙ ap (λ (constants : List Const). first.base ++ flat_map entries_of constants) so_far.added
    ∙ ap (λ (entries : Constants). first.base ++ entries) (flat_map-append entries_of first.added so_far.more)
    ∙ sym (append_assoc first.base (flat_map entries_of first.added) (flat_map entries_of so_far.more))

-- behind a pool stands no second index
first-is-some : (pool : Constants) (more : List Const) → slice_get (pool ++ flat_map entries_of more) (length pool) ≢ Some None
first-is-some [] [] is = absurd cc
first-is-some (entry ∷ pool) [] is = first-is-some pool [] is
first-is-some pool (constant ∷ more) is = elim (entries_shape constant) [
  | inl one ↦
      let there : slice_get (pool ++ flat_map entries_of (constant ∷ more)) (length pool) ≡ Some (Some constant) = rw one (slice_get-seam pool (Some constant) (flat_map entries_of more)) in
      absurd cc
  | inr two ↦
      let there : slice_get (pool ++ flat_map entries_of (constant ∷ more)) (length pool) ≡ Some (Some constant) = rw two (slice_get-seam pool (Some constant) (None ∷ flat_map entries_of more)) in
      absurd cc
]

pub continues-boundary : (first edit : Edit) → Continues first edit → IsBoundary edit (length (grown first))
continues-boundary first edit so_far =
    let more = flat_map entries_of so_far.more in
    let pool = more-entries first edit so_far in
    record {
      least = rw so_far.base (omega (arith, length-append first.base (flat_map entries_of first.added)));
      most = rw pool (omega (arith, length-append (grown first) more));
      no_second = rw pool (first-is-some (grown first) so_far.more);
    }

-- a constant has an entry
some-entries : (constant : Const) → 0 < length (entries_of constant)
some-entries constant = elim (entries_shape constant) [ inl one ↦ rw one (omega arith) | inr two ↦ rw two (omega arith) ]

-- constants in front of the same ones that have as many entries are the same
same-front : (one other more rest : List Const) → one ++ more ≡ other ++ rest → length (flat_map entries_of one) ≡ length (flat_map entries_of other) → one ≡ other
same-front [] [] more rest same long = refl
same-front [] (constant ∷ other) more rest same long =
    absurd (omega (arith, some-entries constant, length-append (entries_of constant) (flat_map entries_of other)))
same-front (constant ∷ one) [] more rest same long =
    absurd (omega (arith, some-entries constant, length-append (entries_of constant) (flat_map entries_of one)))
same-front (constant ∷ one) (also ∷ other) more rest same long =
    let head : constant ≡ also = cc in
    let tail : one ++ more ≡ other ++ rest = cc in
    let front : length (entries_of constant) ≡ length (entries_of also) = ap (λ (c : Const). length (entries_of c)) head in
    let left : length (flat_map entries_of one) ≡ length (flat_map entries_of other) =
    omega (arith, length-append (entries_of constant) (flat_map entries_of one), length-append (entries_of also) (flat_map entries_of other)) in
    let same_rest = same-front one other more rest tail left in
    cc

pub continues-back : (first edit new : Edit) → Continues first edit → TakesBack edit (length (grown first)) new → new ≡ first
continues-back first edit new so_far takes =
    let base : new.base ≡ first.base = takes.base ∙ so_far.base in
    let limit : new.limit ≡ first.limit = takes.limit ∙ so_far.limit in
    let joined : new.added ++ takes.taken ≡ first.added ++ so_far.more = sym takes.added ∙ so_far.added in
    let length_base : length new.base ≡ length first.base = ap length base in
    let counts = takes.counts in
    let long : length (flat_map entries_of new.added) ≡ length (flat_map entries_of first.added) =
    omega (arith, length-append new.base (flat_map entries_of new.added), length-append first.base (flat_map entries_of first.added)) in
    let added = same-front new.added first.added takes.taken so_far.more joined long in
    let edit_of : Constants → ℕ → List Const → Edit = λ b l a. record { base = b; limit = l; added = a } in
    ap (λ (b : Constants). edit_of b new.limit new.added) base ∙ ap (λ (l : ℕ). edit_of first.base l new.added) limit ∙ ap (λ (a : List Const). edit_of first.base first.limit a) added
