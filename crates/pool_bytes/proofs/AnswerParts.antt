-- The answer to checks, part by part.
use Rattle.std.proofs.Common.{◌≡◌, ℕ, zero, suc, ◌+◌, ◌^◌, ◌<◌, ◌≤◌, List, [], ◌∷◌, ◌++◌, length, drop, Option, Some, None, Result, Ok, Err, refl, sym, subst, arith, length-append, add-one}
use Rattle.std.proofs.lemmas.List.{drop_all}
use Rattle.std.specs.List.{flat_map}
use Rattle.std.specs.Result.{IsErrAnd}
use Rattle.class_model.specs.Answers.{Answers}
use Rattle.class_model.specs.Checks.{Check, Fault, AllHold}
use Rattle.class_model.specs.ClassOf.{bootstrap_index_checks}
use Rattle.class_model.specs.Laws.Answers.{goes_on, stops}
use Rattle.class_model.specs.Laws.Checks.{first_holds, others_hold}
use Rattle.class_model.specs.Pool.{Constants, constant_at}
use Rattle.class_model.specs.PoolChecks.{constant_checks, entries_checks}
use Rattle.class_model.specs.Spelling.{constant_bytes, entry_bytes}
use Rattle.class_model.specs.declared.fault.ClassFault.{ClassFault}
use Rattle.class_model.specs.declared.pool.Const.{Const}
use Rattle.class_model.specs.declared.pool.Const.TheVariants.{Utf8, Integer, Float, Long, Double, Class, String, Fieldref, Methodref, InterfaceMethodref, NameAndType, MethodHandle, MethodType, InvokeDynamic}
use Rattle.pool_bytes.specs.Inner.Dynamics.{constant_bootstrap_checks}
use Rattle.pool_bytes.specs.Texts.{HasText, HasTexts}

abbrev Answer : Type 0
Answer = Result (Unit {0}) ClassFault

-- a ? passes on the fault
pub passed_on : (checks : List (Check Fault)) (answer : Answer) (fault : ClassFault) → IsErrAnd answer (λ e. e ≡ fault) → Answers {X = Unit {0}} checks (Err fault) → Answers checks answer
passed_on checks (Ok x) fault is answers = absurd is
passed_on checks (Err e) fault is answers = subst (λ (f : ClassFault). Answers {X = Unit {0}} checks (Err f)) (sym is) answers

-- ---- the entries

-- checks of entries are those of their constants, one after the other
pub record ByConstant (checks : ℕ → Constants → List (Check Fault)) (one : ℕ → Const → List (Check Fault)) : Type 1 where
  pub nil : (at : ℕ) → checks at [] ≡ []
  pub none : (at : ℕ) (rest : Constants) → checks at (None ∷ rest) ≡ checks at rest
  pub some : (at : ℕ) (constant : Const) (rest : Constants) → checks at (Some constant ∷ rest) ≡ one at constant ++ checks (at + length (constant_bytes constant)) rest

-- What is answered to the entries that are left is answered to all.
pub record Left (checks : ℕ → Constants → List (Check Fault)) (at place : ℕ) (pool rest : Constants) : Type 0 where
  pub answers : (answer : Answer) → Answers (checks place rest) answer → Answers (checks at pool) answer
  pub fits : place + length (flat_map entry_bytes rest) < 2 ^ 64

entry_at : (pool : Constants) (index : ℕ) → index < length pool → drop index pool ≡ constant_at pool index ∷ drop (suc index) pool
entry_at [] index lt = absurd (omega (arith, lt))
entry_at (entry ∷ pool) zero lt = refl
entry_at (entry ∷ pool) (suc index) lt = entry_at pool index (omega (arith, lt))

-- the entry at an index, and those behind it
module _ {checks : ℕ → Constants → List (Check Fault)} {one : ℕ → Const → List (Check Fault)} (by : ByConstant checks one) (at place : ℕ) (pool : Constants) (index : ℕ) (left : Left checks at place pool (drop index pool)) where
  pub at_end : length pool ≤ index → Answers {X = Unit {0}} (checks at pool) (Ok tt)
  at_end none = left.answers (Ok tt) (rw (drop_all index pool none, by.nil place) (tt, tt))

  module _ (lt : index < length pool) where
    behind : (entry : Option Const) → entry ≡ constant_at pool index → Left checks at place pool (entry ∷ drop (index + 1) pool)
    behind entry e =
        let parts : drop index pool ≡ entry ∷ drop (index + 1) pool = rw (e, add-one) (entry_at pool index lt) in
        subst (λ (rest : Constants). Left checks at place pool rest) parts left

    pub at_none : None ≡ constant_at pool index → Left checks at place pool (drop (index + 1) pool)
    at_none e =
        let now = behind None e in
        record { answers = λ answer given. now.answers answer (subst (λ (c : List (Check Fault)). Answers c answer) (sym (by.none place (drop (index + 1) pool))) given); fits = now.fits }

    module _ (constant : Const) (e : Some constant ≡ constant_at pool index) where
      pub at_fault : (fault : ClassFault) → Answers {X = Unit {0}} (one place constant) (Err fault) → Answers {X = Unit {0}} (checks at pool) (Err fault)
      at_fault fault answer =
          let now = behind (Some constant) e in
          let others = checks (place + length (constant_bytes constant)) (drop (index + 1) pool) in
          let parts = sym (by.some place constant (drop (index + 1) pool)) in
          now.answers (Err fault) (subst (λ (c : List (Check Fault)). Answers {X = Unit {0}} c (Err fault)) parts (stops (one place constant) others (λ (done : Unit {0}). Unit {0}) (λ (done : Unit {0}). Unit {0}) fault answer))

      pub place_fits : place + length (constant_bytes constant) < 2 ^ 64
      place_fits = let now = behind (Some constant) e in omega (arith, now.fits, length-append (constant_bytes constant) (flat_map entry_bytes (drop (index + 1) pool)))

      pub at_some : (next : ℕ) → next ≡ place + length (constant_bytes constant) → AllHold (one place constant) → Left checks at next pool (drop (index + 1) pool)
      at_some next is all =
          let now = behind (Some constant) e in
          let others = drop (index + 1) pool in
          record {
            answers = λ answer given. now.answers answer (subst (λ (c : List (Check Fault)). Answers c answer) (sym (by.some place constant others)) (goes_on (one place constant) (checks (place + length (constant_bytes constant)) others) (λ (done : Unit {0}). Unit {0}) answer all (rw is at given)));
            fits = omega (arith, now.fits, is, length-append (constant_bytes constant) (flat_map entry_bytes others));
          }

pub entries_by_constant : (major : ℕ) (pool : Constants) → ByConstant (entries_checks major pool) (constant_checks major pool)
entries_by_constant major pool = record { nil = λ at. refl; none = λ at rest. refl; some = λ at constant rest. refl }

by_dynamic : (count at : ℕ) (constant : Const) (rest : Constants) → bootstrap_index_checks count at (Some constant ∷ rest) ≡ constant_bootstrap_checks count at constant ++ bootstrap_index_checks count (at + length (constant_bytes constant)) rest
by_dynamic count at (Utf8 text) rest = refl
by_dynamic count at (Integer number) rest = refl
by_dynamic count at (Float bits) rest = refl
by_dynamic count at (Long number) rest = refl
by_dynamic count at (Double bits) rest = refl
by_dynamic count at (Class name) rest = refl
by_dynamic count at (String text) rest = refl
by_dynamic count at (Fieldref class member) rest = refl
by_dynamic count at (Methodref class member) rest = refl
by_dynamic count at (InterfaceMethodref class member) rest = refl
by_dynamic count at (NameAndType name descriptor) rest = refl
by_dynamic count at (MethodHandle kind reference) rest = refl
by_dynamic count at (MethodType descriptor) rest = refl
by_dynamic count at (InvokeDynamic bootstrap member) rest = refl

pub dynamics_by_constant : (count : ℕ) → ByConstant (bootstrap_index_checks count) (constant_bootstrap_checks count)
dynamics_by_constant count = record { nil = λ at. refl; none = λ at rest. refl; some = by_dynamic count }

-- where the checks hold, the texts are texts
has_text : (major at : ℕ) (pool : Constants) (constant : Const) → AllHold (constant_checks major pool at constant) → HasText (Some constant)
has_text major at pool (Utf8 text) all = all.0
has_text major at pool other all = tt

pub have_texts : (major at : ℕ) (pool entries : Constants) → AllHold (entries_checks major pool at entries) → HasTexts entries
have_texts major at pool [] all = tt
have_texts major at pool (None ∷ entries) all = (tt, have_texts major at pool entries all)
have_texts major at pool (Some constant ∷ entries) all =
    let front = constant_checks major pool at constant in
    let others = entries_checks major pool (at + length (constant_bytes constant)) entries in
    (has_text major at pool constant (first_holds front others all), have_texts major (at + length (constant_bytes constant)) pool entries (others_hold front others all))
