-- The names and descriptors of the members so far, and of one more.
use Rattle.std.proofs.Math.Bool.{or-false}
use Rattle.std.proofs.Common.{◌≡◌, ◌==◌, ◌&&◌, ◌||◌, not, cond, ℕ, Bool, true, false, List, [], ◌∷◌, ◌++◌, Option, Some, None, refl, sym, ap, subst, ◌∙◌}
use Rattle.std.specs.List.{list_any}
use Rattle.std.specs.Prelude.{bytes_eq, IsTrue}
use Rattle.std.proofs.lemmas.List.Folds.{list_any-append}
use Rattle.std.proofs.lemmas.Slice.Eq.{bytes_eq-Decides}
use Rattle.std.proofs.lemmas.Bool.Decides.{Decides-eqb, same_from_decides}
use Rattle.class_model.specs.Members.{Signature, same_text, same_signature, stands_before}
use Rattle.class_model.specs.Pool.{Constants}
use Rattle.class_model.specs.PoolChecks.{utf8_at}
use Rattle.class_bytes.specs.Inner.Signatures.{has_texts, has_pair, IsGiven, KnowsPairs}
use Rattle.class_bytes.specs.Inner.TextNumbers.{Numbers, Grows, IsNumber, IsNumberAt, number_of}

-- ---- tests

and_false : (b : Bool) → (b && false) ≡ false
and_false true = refl
and_false false = refl

twice_not : (b : Bool) → not (not b) ≡ b
twice_not true = refl
twice_not false = refl

one_or : (b c : Bool) → cond b true c ≡ (c || (b || false))
one_or true true = refl
one_or true false = refl
one_or false true = refl
one_or false false = refl

untrue : (b : Bool) → ¬ IsTrue b → b ≡ false
untrue true not_true = absurd (not_true refl)
untrue false not_true = refl

both : (b c : Bool) → IsTrue (b && c) → IsTrue b × IsTrue c
both true true is = (refl, refl)
both true false is = absurd cc
both false c is = absurd cc

one_of : {P : Type 0} (b c : Bool) → IsTrue (cond b true c) → (IsTrue b → P) → (IsTrue c → P) → P
one_of true c is first other = first refl
one_of false c is first other = other is

none_passes : {X : Type 0} (p : X → Bool) → ((x : X) → p x ≡ false) → (xs : List X) → list_any p xs ≡ false
none_passes p none [] = refl
none_passes p none (x ∷ xs) = rw (none x) (none_passes p none xs)

pub eq_sym : (xs ys : List ℕ) → bytes_eq xs ys ≡ bytes_eq ys xs
eq_sym xs ys =
    let one = bytes_eq-Decides xs ys in
    let other = bytes_eq-Decides ys xs in
    same_from_decides (bytes_eq xs ys) (bytes_eq ys xs) one (λ e. sym (other.0 e), λ e. other.1 (sym e))

-- ---- a member that lacks its name or its descriptor is equal to none

record Lacks (pool : Constants) (member : Signature) : Type 0 where
  pub same : (other : Signature) → same_signature pool member other ≡ false
  pub texts : (name desc : List ℕ) → has_texts pool name desc member ≡ false

no_name : (pool : Constants) (member : Signature) → utf8_at pool member.name ≡ None → Lacks pool member
no_name pool member none = record {
  same = λ other. rw none refl;
  texts = λ name desc. rw none refl;
}

no_desc : (pool : Constants) (member : Signature) → utf8_at pool member.desc ≡ None → Lacks pool member
no_desc pool member none = record {
  same = λ other. rw none (and_false (same_text (utf8_at pool member.name) (utf8_at pool other.name)));
  texts = λ name desc. rw none (and_false (same_text (Some name) (utf8_at pool member.name)));
}

with_none : (pool : Constants) (member : Signature) (before : List Signature) (all : Numbers) (pairs : List (ℕ × ℕ)) → Lacks pool member → KnowsPairs pool before all pairs
    → (false ≡ stands_before pool before member) × KnowsPairs pool (before ++ member ∷ []) all pairs
with_none pool member before all pairs lacks known = (
  sym (none_passes (same_signature pool member) lacks.same before),
  record {
    same = known.same;
    knows = λ name desc.
        let test = has_texts pool name desc in
        known.knows name desc ∙ sym (list_any-append test before (member ∷ []) ∙ ap (λ (b : Bool). list_any test before || (b || false)) (lacks.texts name desc) ∙ or-false (list_any test before));
    given = known.given;
  },
)

-- ---- more numbers

same_some : {X : Type 0} (x y : X) → Some x ≡ Some y → x ≡ y
same_some x y e = cc

-- pairs that are told apart by numbers that were there before
more_numbers : (pairs : List (ℕ × ℕ)) (name desc name_now desc_now : Option ℕ)
    → ((n : ℕ) → name ≡ Some n → name_now ≡ Some n)
    → ((n : ℕ) → desc ≡ Some n → desc_now ≡ Some n)
    → ((n d : ℕ) → name_now ≡ Some n → desc_now ≡ Some d → IsTrue (has_pair pairs (Some n) (Some d)) → (name ≡ Some n) × (desc ≡ Some d))
    → has_pair pairs name_now desc_now ≡ has_pair pairs name desc
more_numbers pairs (Some n) (Some d) name_now desc_now keeps_name keeps_desc old = rw (keeps_name n refl, keeps_desc d refl) refl
more_numbers pairs (Some n) None (Some name_now) (Some desc_now) keeps_name keeps_desc old = untrue _ (λ is. absurd (let e = (old name_now desc_now refl refl is).1 in cc))
more_numbers pairs (Some n) None (Some name_now) None keeps_name keeps_desc old = refl
more_numbers pairs (Some n) None None desc_now keeps_name keeps_desc old = refl
more_numbers pairs None desc (Some name_now) (Some desc_now) keeps_name keeps_desc old = untrue _ (λ is. absurd (let e = (old name_now desc_now refl refl is).0 in cc))
more_numbers pairs None desc (Some name_now) None keeps_name keeps_desc old = refl
more_numbers pairs None desc None desc_now keeps_name keeps_desc old = refl

-- a number that was given has the text that has it now
given_before : (old new : Numbers) (text : List ℕ) (n : ℕ) → Grows old new → number_of new text ≡ Some n → IsGiven old n → number_of old text ≡ Some n
given_before old new text n grows now given =
    let one = grows.indices text n now in
    let other = grows.indices given.text n (grows.keeps given.text n given.is) in
    subst (λ (t : List ℕ). number_of old t ≡ Some n) (same_some given.text text (sym other ∙ one)) given.is

grown : (pool : Constants) (before : List Signature) (old new : Numbers) (pairs : List (ℕ × ℕ)) → Grows old new → KnowsPairs pool before old pairs → KnowsPairs pool before new pairs
grown pool before old new pairs grows known = record {
  same = grows.same ∙ known.same;
  knows = λ name desc.
      more_numbers pairs (number_of old name) (number_of old desc) (number_of new name) (number_of new desc) (grows.keeps name) (grows.keeps desc)
      (λ n d is_name is_desc has. (given_before old new name n grows is_name (known.given n d has).0, given_before old new desc d grows is_desc (known.given n d has).1))
      ∙ known.knows name desc;
  given = λ n d has.
      let given = known.given n d has in (
        record { text = given.0.text; is = grows.keeps given.0.text n given.0.is },
        record { text = given.1.text; is = grows.keeps given.1.text d given.1.is },
      );
}

-- ---- one that has both

-- Pairs have those of others, and this one.
pub record Added (pairs after : List (ℕ × ℕ)) (name desc : ℕ) : Type 0 where
  pub others : (pair : ℕ × ℕ)
      → has_pair after (Some pair.0) (Some pair.1)
      ≡ cond ((name == pair.0) && (desc == pair.1)) true (has_pair pairs (Some pair.0) (Some pair.1))

-- the texts of a member, and their numbers
record HasNumbers (pool : Constants) (member : Signature) (all : Numbers) (name desc : ℕ) : Type 0 where
  pub name_text : List ℕ
  pub desc_text : List ℕ
  pub has_name : utf8_at pool member.name ≡ Some name_text
  pub has_desc : utf8_at pool member.desc ≡ Some desc_text
  pub name_is : number_of all name_text ≡ Some name
  pub desc_is : number_of all desc_text ≡ Some desc
  pub indices : (text : List ℕ) (n : ℕ) → number_of all text ≡ Some n → utf8_at all.pool n ≡ Some text

module _ (pool : Constants) (member : Signature) (all : Numbers) (name desc : ℕ) (own : HasNumbers pool member all name desc) where
  -- equal texts have one number
  same_number : (text other : List ℕ) (n m : ℕ) → number_of all text ≡ Some n → number_of all other ≡ Some m → (m == n) ≡ bytes_eq text other
  same_number text other n m is_n is_m =
      let numbers = Decides-eqb m n in
      let texts = bytes_eq-Decides text other in
      same_from_decides (m == n) (bytes_eq text other) (
        λ e. same_some text other (sym (own.indices text n is_n) ∙ subst (λ (k : ℕ). utf8_at all.pool k ≡ Some other) (numbers.0 e) (own.indices other m is_m)),
        λ (e : text ≡ other). numbers.1 (same_some m n (sym is_m ∙ sym (ap (number_of all) e) ∙ is_n)),
      ) texts

  -- a text without a number is another one
  other_text : (text own_text : List ℕ) (n : ℕ) → number_of all own_text ≡ Some n → number_of all text ≡ None → bytes_eq text own_text ≡ false
  other_text text own_text n is none = untrue _ (λ same. absurd (let e : None ≡ Some n = sym none ∙ ap (number_of all) ((bytes_eq-Decides text own_text).0 same) ∙ is in cc))

  has_own : (n d : List ℕ) → has_texts pool n d member ≡ (bytes_eq n own.name_text && bytes_eq d own.desc_text)
  has_own n d = rw (own.has_name, own.has_desc) refl

  one_pair : (pairs after : List (ℕ × ℕ)) → Added pairs after name desc → (n d : List ℕ) (number_n number_d : Option ℕ) → number_of all n ≡ number_n → number_of all d ≡ number_d
      → has_pair after number_n number_d ≡ cond (has_texts pool n d member) true (has_pair pairs number_n number_d)
  one_pair pairs after added n d (Some number_n) (Some number_d) is_n is_d =
      added.others (number_n, number_d)
      ∙ rw (same_number n own.name_text number_n name is_n own.name_is, same_number d own.desc_text number_d desc is_d own.desc_is) (ap (λ (b : Bool). cond b true (has_pair pairs (Some number_n) (Some number_d))) (sym (has_own n d)))
  one_pair pairs after added n d (Some number_n) None is_n is_d = rw (has_own n d, other_text d own.desc_text desc own.desc_is is_d, and_false (bytes_eq n own.name_text)) refl
  one_pair pairs after added n d None number_d is_n is_d = rw (has_own n d, other_text n own.name_text name own.name_is is_n) refl

  same_member : (before : List Signature) (pairs : List (ℕ × ℕ)) → KnowsPairs pool before all pairs → (is_new : Bool) → is_new ≡ not (has_pair pairs (Some name) (Some desc)) → not is_new ≡ stands_before pool before member
  same_member before pairs known is_new is =
      ap not is ∙ twice_not _
      ∙ ap (λ (n : Option ℕ). has_pair pairs n (Some desc)) (sym own.name_is)
      ∙ ap (λ (d : Option ℕ). has_pair pairs (number_of all own.name_text) d) (sym own.desc_is)
      ∙ known.knows own.name_text own.desc_text
      ∙ ap (λ (n : Option (List ℕ)). list_any (λ other. same_text n (utf8_at pool other.name) && same_text (Some own.desc_text) (utf8_at pool other.desc)) before) (sym own.has_name)
      ∙ ap (λ (d : Option (List ℕ)). list_any (λ other. same_text (utf8_at pool member.name) (utf8_at pool other.name) && same_text d (utf8_at pool other.desc)) before) (sym own.has_desc)

  one_more : (before : List Signature) (pairs after : List (ℕ × ℕ)) → KnowsPairs pool before all pairs → Added pairs after name desc → KnowsPairs pool (before ++ member ∷ []) all after
  one_more before pairs after known added = record {
    same = known.same;
    knows = λ n d.
        let test = has_texts pool n d in
        one_pair pairs after added n d (number_of all n) (number_of all d) refl refl
        ∙ ap (λ (b : Bool). cond (test member) true b) (known.knows n d)
        ∙ one_or (test member) (list_any test before)
        ∙ sym (list_any-append test before (member ∷ []));
    given = λ n d has.
        one_of {P = IsGiven all n × IsGiven all d} ((name == n) && (desc == d)) (has_pair pairs (Some n) (Some d)) (subst IsTrue (added.others (n, d)) has)
        (
        λ same.
        let equal = both (name == n) (desc == d) same in (
          record { text = own.name_text; is = own.name_is ∙ ap (λ (k : ℕ). Some k) ((Decides-eqb name n).0 equal.0) },
          record { text = own.desc_text; is = own.desc_is ∙ ap (λ (k : ℕ). Some k) ((Decides-eqb desc d).0 equal.1) },
        )
        )
        (known.given n d);
  }

  with_both : (before : List Signature) (pairs after : List (ℕ × ℕ)) → KnowsPairs pool before all pairs → (is_new : Bool) → is_new ≡ not (has_pair pairs (Some name) (Some desc)) → Added pairs after name desc
      → (not is_new ≡ stands_before pool before member) × KnowsPairs pool (before ++ member ∷ []) all after
  with_both before pairs after known is_new is added = (same_member before pairs known is_new is, one_more before pairs after known added)

-- ---- one more, whose name and then whose descriptor get numbers where they have none

module _ (pool : Constants) (member : Signature) (before : List Signature) (old one two : Numbers) (pairs : List (ℕ × ℕ)) (first : Grows old one) (second : Grows one two) (known : KnowsPairs pool before old pairs) where
  known_now : KnowsPairs pool before two pairs
  known_now = grown pool before one two pairs second (grown pool before old one pairs first known)

  pool_of_one : one.pool ≡ pool
  pool_of_one = first.same ∙ known.same

  pub without_name : IsNumber one member.name None → (false ≡ stands_before pool before member) × KnowsPairs pool (before ++ member ∷ []) two pairs
  without_name none =
      with_none pool member before two pairs
      (no_name pool member (subst (λ (constants : Constants). utf8_at constants member.name ≡ None) pool_of_one none)) known_now

  pub without_desc : IsNumber two member.desc None → (false ≡ stands_before pool before member) × KnowsPairs pool (before ++ member ∷ []) two pairs
  without_desc none =
      with_none pool member before two pairs
      (no_desc pool member (subst (λ (constants : Constants). utf8_at constants member.desc ≡ None) known_now.same none)) known_now

  pub with_numbers : (name desc : ℕ) → IsNumberAt one member.name name → IsNumberAt two member.desc desc → (after : List (ℕ × ℕ)) (is_new : Bool) → is_new ≡ not (has_pair pairs (Some name) (Some desc)) → Added pairs after name desc
      → (not is_new ≡ stands_before pool before member) × KnowsPairs pool (before ++ member ∷ []) two after
  with_numbers name desc own_name own_desc after is_new is added =
      let own : HasNumbers pool member two name desc = record {
        name_text = own_name.text;
        desc_text = own_desc.text;
        has_name = subst (λ (constants : Constants). utf8_at constants member.name ≡ Some own_name.text) pool_of_one own_name.is;
        has_desc = subst (λ (constants : Constants). utf8_at constants member.desc ≡ Some own_desc.text) known_now.same own_desc.is;
        name_is = second.keeps own_name.text name own_name.numbered;
        desc_is = own_desc.numbered;
        indices = second.indices;
      } in
      with_both pool member two name desc own before pairs after known_now is_new is added
