-- Constants that are added to a pool one after the other, and the indices that they have from then on.
use Rattle.std.proofs.Common.{◌≡◌, ◌≢◌, ◌↔◌, ◌+◌, ◌<◌, ◌≤◌, ℕ, zero, suc, Bool, false, cond, List, [], ◌∷◌, ◌++◌, length, slice_get, Option, Some, None, Result, Ok, Err, IfOk, IsTrue, refl, sym, ap, subst, ◌∙◌, inl, inr, append_assoc, append-nil, nat_le, option_and_then, arith}
use Rattle.std.specs.List.{flat_map}
use Rattle.std.proofs.lemmas.Bool.{false_from_ne_true, le-leb, leb-true}
use Rattle.std.proofs.lemmas.Grind.{flat_map-append}
use Rattle.std.proofs.lemmas.Option.{none-some, same_Some}
use Rattle.class_model.specs.Pool.{Constants, entries_of}
use Rattle.class_model.specs.contracts.pool.ConstPartialEq.TheImpl.{ghosts as comparison}
use Rattle.class_model.specs.declared.pool.Const.{Const}
use Rattle.class_model.specs.declared.pool.Const.TheVariants.{Class, NameAndType, String, Utf8}
use Rattle.class_tree.specs.Headers.{Name}
use Rattle.flow_code.specs.declared.reason.Reason.{Reason}
use Rattle.flow_code.specs.declared.reason.Reason.TheVariants.{PoolFull}
use Rattle.making_code.specs.Constants.{MemberKind, Need, constant_of, grow, index_from, index_of, index_or_zero, name_and_type_index, needs_class, needs_itself, needs_member, needs_name_and_type, needs_of_class, needs_of_reference, needs_of_string, needs_string, reference_of_kind, text_index, with_constant}
use Rattle.materialise.specs.Growing.{Grows, IsFull}
use Rattle.materialise.specs.Indices.{IsIndex, IsIndexOfLast}
use Rattle.materialise.specs.Inner.ConstantWords.{Means}
use Rattle.materialise.specs.Laws.GrownEdits.{grown_more}
use Rattle.pool_edit.specs.Edits.{Adds, Appends, Continues, Edit, IsAbsent, IsFirstIndex, IsPast, grown}

-- the comparison of constants tells whether they are the same
abbrev pub Compares : Type 0
Compares = (one other : Const) → IsTrue (comparison.eq one other) ↔ (one ≡ other)

-- ---- look-ups

differs : Compares → (one other : Const) → one ≢ other → comparison.eq one other ≡ false
differs same one other apart = false_from_ne_true (comparison.eq one other) (λ is. apart ((same one other).0 is))

pub found_from : Compares → (pool more : Constants) (base index : ℕ) (constant : Const)
    → slice_get pool index ≡ Some (Some constant)
    → ((other : ℕ) → other < index → slice_get pool other ≢ Some (Some constant))
    → index_from base constant (pool ++ more) ≡ Some (base + index)
found_from same [] more base index constant there least = absurd (none-some (Some constant) there)
found_from same (None ∷ pool) more base zero constant there least = absurd (none-some constant (same_Some None (Some constant) there))
found_from same (None ∷ pool) more base (suc index) constant there least =
    let sum : suc base + index ≡ base + suc index = omega arith in
    found_from same pool more (suc base) index constant there (λ other less. least (suc other) (omega (arith, less)))
    ∙ ap (λ (n : ℕ). Some n) sum
found_from same (Some one ∷ pool) more base zero constant there least =
    let here : one ≡ constant = same_Some one constant (same_Some (Some one) (Some constant) there) in
    let sum : base ≡ base + 0 = omega arith in
    ap (λ (test : Bool). cond test (Some base) (index_from (suc base) constant (pool ++ more))) ((same one constant).1 here)
    ∙ ap (λ (n : ℕ). Some n) sum
found_from same (Some one ∷ pool) more base (suc index) constant there least =
    let apart : one ≢ constant = λ here. least 0 (omega arith) (ap (λ (c : Const). Some (Some c)) here) in
    let sum : suc base + index ≡ base + suc index = omega arith in
    ap (λ (test : Bool). cond test (Some base) (index_from (suc base) constant (pool ++ more))) (differs same one constant apart)
    ∙ found_from same pool more (suc base) index constant there (λ other less. least (suc other) (omega (arith, less)))
    ∙ ap (λ (n : ℕ). Some n) sum

absent_from : Compares → (pool : Constants) (base : ℕ) (constant : Const) → IsAbsent pool constant → index_from base constant pool ≡ None
absent_from same [] base constant absent = refl
absent_from same (None ∷ pool) base constant absent = absent_from same pool (suc base) constant (λ index. absent (suc index))
absent_from same (Some one ∷ pool) base constant absent =
    let apart : one ≢ constant = λ here. absent 0 (ap (λ (c : Const). Some (Some c)) here) in
    ap (λ (test : Bool). cond test (Some base) (index_from (suc base) constant pool)) (differs same one constant apart)
    ∙ absent_from same pool (suc base) constant (λ index. absent (suc index))

-- a constant has its first index in whatever the pool grows to
pub first_stays : Compares → (pool more : Constants) (index : ℕ) (constant : Const)
    → IsFirstIndex pool constant index
    → index_of (pool ++ more) constant ≡ Some index
first_stays same pool more index constant first =
    let sum : 0 + index ≡ index = omega arith in
    found_from same pool more 0 index constant first.there first.least ∙ ap (λ (n : ℕ). Some n) sum

pub first_or_zero : Compares → (pool more : Constants) (index : ℕ) (constant : Const)
    → IsFirstIndex pool constant index
    → index_or_zero (pool ++ more) constant ≡ index
first_or_zero same pool more index constant first = rw (first_stays same pool more index constant first) refl

-- ---- one constant

with_found : Compares → (limit : ℕ) (pool : Constants) (index : ℕ) (constant : Const)
    → IsFirstIndex pool constant index
    → with_constant limit pool constant ≡ Some pool
with_found same limit pool index constant first =
    let is : index_of pool constant ≡ Some index = subst (λ (all : Constants). index_of all constant ≡ Some index) (append-nil pool) (first_stays same pool [] index constant first) in
    rw is refl

with_appended : Compares → (limit : ℕ) (pool : Constants) (constant : Const)
    → IsAbsent pool constant
    → length pool + length (entries_of constant) ≤ limit
    → with_constant limit pool constant ≡ Some (pool ++ entries_of constant)
with_appended same limit pool constant absent fits =
    rw (absent_from same pool 0 constant absent)
    (ap (λ (test : Bool). cond test (Some (pool ++ entries_of constant)) None) (le-leb (length pool + length (entries_of constant)) limit fits))

with_past : Compares → (limit : ℕ) (pool : Constants) (constant : Const)
    → IsAbsent pool constant
    → limit < length pool + length (entries_of constant)
    → with_constant limit pool constant ≡ None
with_past same limit pool constant absent past =
    rw (absent_from same pool 0 constant absent)
    (ap (λ (test : Bool). cond test (Some (pool ++ entries_of constant)) None)
    (false_from_ne_true (nat_le (length pool + length (entries_of constant)) limit)
    (λ is. let fits = leb-true (length pool + length (entries_of constant)) limit is in absurd (omega (arith, fits, past)))))

appended_grown : (old new : Edit) (constant : Const) → Appends old constant new → grown new ≡ grown old ++ entries_of constant
appended_grown old new constant appends =
    ap grown appends.appended
    ∙ ap (λ (entries : Constants). old.base ++ entries) (flat_map-append entries_of old.added (constant ∷ []))
    ∙ ap (λ (entries : Constants). old.base ++ (flat_map entries_of old.added ++ entries)) (append-nil (entries_of constant))
    ∙ sym (append_assoc old.base (flat_map entries_of old.added) (entries_of constant))

pub added_grows : Compares → (old new : Edit) (need : Need) (constant : Const) (index : ℕ)
    → Means old need constant
    → Adds old constant new
    → IsFirstIndex (grown new) constant index
    → Grows old (need ∷ []) new
added_grows same old new need constant index means adds first =
    let here : constant_of (grown old) need ≡ constant =
    subst (λ (pool : Constants). constant_of pool need ≡ constant) (append-nil (grown old)) (means.is []) in
    let step : grow old.limit (grown old) (need ∷ []) ≡ option_and_then (λ (more : Constants). Some more) (with_constant old.limit (grown old) constant) =
    ap (λ (c : Const). option_and_then (λ (more : Constants). Some more) (with_constant old.limit (grown old) c)) here in
    elim adds [
      | inl finds ↦ record {
        base = ap (λ (edit : Edit). edit.base) finds.same;
        limit = ap (λ (edit : Edit). edit.limit) finds.same;
        grown_by =
            step
            ∙ ap (option_and_then (λ (more : Constants). Some more)) (with_found same old.limit (grown old) index constant (subst (λ (edit : Edit). IsFirstIndex (grown edit) constant index) finds.same first))
            ∙ ap (λ (edit : Edit). Some (grown edit)) (sym finds.same);
      }
      | inr appends ↦ record {
        base = ap (λ (edit : Edit). edit.base) appends.appended;
        limit = ap (λ (edit : Edit). edit.limit) appends.appended;
        grown_by =
            step
            ∙ ap (option_and_then (λ (more : Constants). Some more)) (with_appended same old.limit (grown old) constant appends.absent appends.fits)
            ∙ ap (λ (pool : Constants). Some pool) (sym (appended_grown old new constant appends));
      }
    ]

pub past_is_full : Compares → (old : Edit) (need : Need) (constant : Const) (reason : Reason)
    → Means old need constant
    → IsPast old constant
    → reason ≡ PoolFull
    → IsFull old (need ∷ []) reason
past_is_full same old need constant reason means past is =
    let here : constant_of (grown old) need ≡ constant =
    subst (λ (pool : Constants). constant_of pool need ≡ constant) (append-nil (grown old)) (means.is []) in
    record {
      is = is;
      past =
          ap (λ (c : Const). option_and_then (λ (more : Constants). Some more) (with_constant old.limit (grown old) c)) here
          ∙ ap (option_and_then (λ (more : Constants). Some more)) (with_past same old.limit (grown old) constant past.absent past.past);
    }

pub added_index : Compares → (old new : Edit) (need : Need) (constant : Const) (index : ℕ)
    → Means old need constant
    → Continues old new
    → IsFirstIndex (grown new) constant index
    → IsIndex new need index
added_index same old new need constant index means so_far first = record {
  is = λ more.
      let here : constant_of (grown new ++ more) need ≡ constant =
      ap (λ (pool : Constants). constant_of (pool ++ more) need) (grown_more old new so_far)
      ∙ ap (λ (pool : Constants). constant_of pool need) (append_assoc (grown old) (flat_map entries_of so_far.more) more)
      ∙ means.is (flat_map entries_of so_far.more ++ more) in
      ap (index_or_zero (grown new ++ more)) here ∙ first_or_zero same (grown new) more index constant first;
}

-- ---- constants by the indices of what they name

pub text_means : (edit : Edit) (text copy : List ℕ) → copy ≡ text → Means edit (needs_itself (Utf8 text)) (Utf8 copy)
text_means edit text copy same = record { is = λ more. ap (λ (bytes : List ℕ). Utf8 bytes) (sym same) }

pub class_means : (edit : Edit) (name : Name) (text : ℕ) → IsIndex edit (needs_itself (Utf8 name)) text → Means edit (needs_class name) (Class text)
class_means edit name text known = record { is = λ more. ap (λ (index : ℕ). Class index) (known.is more) }

pub string_means : (edit : Edit) (text : List ℕ) (index : ℕ) → IsIndex edit (needs_itself (Utf8 text)) index → Means edit (needs_string text) (String index)
string_means edit text index known = record { is = λ more. ap (λ (at : ℕ). String at) (known.is more) }

pub pair_means : (edit : Edit) (name desc : List ℕ) (one other : ℕ)
    → IsIndex edit (needs_itself (Utf8 name)) one
    → IsIndex edit (needs_itself (Utf8 desc)) other
    → Means edit (needs_name_and_type name desc) (NameAndType one other)
pair_means edit name desc one other first second = record {
  is = λ more.
      ap (λ (index : ℕ). NameAndType index (text_index (grown edit ++ more) desc)) (first.is more)
      ∙ ap (λ (index : ℕ). NameAndType one index) (second.is more);
}

pub member_means : (edit : Edit) (kind : MemberKind) (class : Name) (name desc : List ℕ) (one other : ℕ) (constant : Const)
    → IsIndex edit (needs_class class) one
    → IsIndex edit (needs_name_and_type name desc) other
    → reference_of_kind kind one other ≡ constant
    → Means edit (needs_member kind class name desc) constant
member_means edit kind class name desc one other constant first second is = record {
  is = λ more.
      ap (λ (index : ℕ). reference_of_kind kind index (name_and_type_index (grown edit ++ more) name desc)) (first.is more)
      ∙ ap (λ (index : ℕ). reference_of_kind kind one index) (second.is more)
      ∙ is;
}

pub itself_means : (edit : Edit) (constant : Const) → Means edit (needs_itself constant) constant
itself_means edit constant = record { is = λ more. refl }

-- ---- the last of what is needed

pub last_itself : (edit : Edit) (constant : Const) (index : ℕ) → IsIndex edit (needs_itself constant) index → IsIndexOfLast edit (needs_itself constant ∷ []) index
last_itself edit constant index known = record { is = known.is }

pub last_of_class : (edit : Edit) (found : Option Name) (name : Name) (index : ℕ)
    → found ≡ Some name
    → IsIndex edit (needs_class name) index
    → IsIndexOfLast edit (needs_of_class found) index
last_of_class edit found name index is known =
    subst (λ (one : Option Name). IsIndexOfLast edit (needs_of_class one) index) (sym is) (record { is = known.is })

pub last_of_string : (edit : Edit) (found : Option (List ℕ)) (text : List ℕ) (index : ℕ)
    → found ≡ Some text
    → IsIndex edit (needs_string text) index
    → IsIndexOfLast edit (needs_of_string found) index
last_of_string edit found text index is known =
    subst (λ (one : Option (List ℕ)). IsIndexOfLast edit (needs_of_string one) index) (sym is) (record { is = known.is })

pub last_of_member : (edit : Edit) (kind : MemberKind) (class_found name_found desc_found : Option (List ℕ)) (class name desc : List ℕ) (index : ℕ)
    → class_found ≡ Some class
    → name_found ≡ Some name
    → desc_found ≡ Some desc
    → IsIndex edit (needs_member kind class name desc) index
    → IsIndexOfLast edit (needs_of_reference kind class_found name_found desc_found) index
last_of_member edit kind class_found name_found desc_found class name desc index class_is name_is desc_is known =
    subst (λ (one : Option (List ℕ)). IsIndexOfLast edit (needs_of_reference kind one name_found desc_found) index) (sym class_is)
    (subst (λ (one : Option (List ℕ)). IsIndexOfLast edit (needs_of_reference kind (Some class) one desc_found) index) (sym name_is)
    (subst (λ (one : Option (List ℕ)). IsIndexOfLast edit (needs_of_reference kind (Some class) (Some name) one) index) (sym desc_is)
    (record { is = known.is })))

-- ---- answers

pub if_ok : {A E : Type 0} {P Q : A → Type 0} (result : Result A E) → ((value : A) → P value → Q value) → IfOk result P → IfOk result Q
if_ok (Ok value) more holds = more value holds
if_ok (Err fault) more holds = tt
