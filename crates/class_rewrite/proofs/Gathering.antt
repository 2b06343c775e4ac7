-- What the codes of rewritten methods ask of a folder, gathered method by method.
use Rattle.std.proofs.Common.{◌≡◌, ◌≢◌, ◌⊎◌, ◌↔◌, ◌<◌, ◌+◌, ◌++◌, ℕ, List, [], length, slice_get, Some, inl, inr, refl, sym, ap, subst, ◌∙◌, arith}
use Rattle.std.proofs.lemmas.Bool.{cases_eq}
use Rattle.std.proofs.lemmas.Option.{same_Some, slice_get_within}
use Rattle.class_model.specs.declared.class_file.ClassFile.{ClassFile}
use Rattle.class_model.specs.declared.class_file.MethodAt.{MethodAt}
use Rattle.class_rewrite.proofs.Listed.{IsItem, in_back, in_front, of_either, of_none}
use Rattle.class_rewrite.specs.Inner.Deciding.{AreGathered, IsAsked, IsBefore, decided_for}
use Rattle.class_rewrite.specs.Inner.Outcomes.{AreFieldsOf, AreNamesOf, ClearsFinalHere, MakesHere, OpensPrivateHere}
use Rattle.class_rewrite.specs.Laws.OneFolder.{kept_or_rewritten, written_at_is_one}
use Rattle.class_rewrite.specs.Laws.OneWriting.{HaveOne}
use Rattle.class_rewrite.specs.Rewriting.Folders.{HasReasonAt, IsRewrittenAt}
use Rattle.class_rewrite.specs.Rewriting.Methods.{Rewriting, Rewritten}
use Rattle.class_rewrite.specs.declared.decided.Decided.{Decided}
use Rattle.class_rewrite.specs.declared.outcome.FieldAt.{FieldAt}
use Rattle.class_rewrite.specs.declared.outcome.Outcome.TheVariants as outcomes
use Rattle.class_rewrite.specs.declared.outcome.RewrittenMethod.{RewrittenMethod}
use Rattle.class_tree.specs.Headers.{Name}
use Rattle.flow_code.specs.declared.reason.Reason.{Reason}
use Rattle.flow_code.specs.declared.reason.Reason.TheVariants as reasons
use Rattle.member_link.specs.Laws.Scopes.{scope_is_at}
use Rattle.plan_flow.specs.Written.WrittenPrograms.{WrittenMethod}

-- ---- lists

pub names_same : (P Q : Name → Type 0) (names : List Name) → ((name : Name) → P name ↔ Q name) → AreNamesOf P names → AreNamesOf Q names
names_same P Q names same are = record {
  each = λ place name there. (same name).0 (are.each place name there);
  all = λ name is. are.all name ((same name).1 is);
}

names_append : (P Q : Name → Type 0) (names more : List Name) → AreNamesOf P names → AreNamesOf Q more
    → AreNamesOf (λ name. P name ⊎ Q name) (names ++ more)
names_append P Q names more are then = record {
  each = λ place name there. elim (of_either names more name (record { place = place; there = there })) [
    | inl old ↦ inl (are.each old.place name old.there)
    | inr now ↦ inr (then.each now.place name now.there)
  ];
  all = λ name is. elim is [
    | inl old ↦ let at = are.all name old in pair name (in_front names more name (record { place = at.0; there = at.1 }))
    | inr now ↦ let at = then.all name now in pair name (in_back names more name (record { place = at.0; there = at.1 }))
  ];
} where
  pair : (name : Name) → IsItem (names ++ more) name → (place : ℕ) × (slice_get (names ++ more) place ≡ Some name)
  pair name is = (is.place, is.there)

names_none : (P : Name → Type 0) → ((name : Name) → ¬ P name) → AreNamesOf P []
names_none P none = record {
  each = λ place name there. absurd (of_none name (record { place = place; there = there }));
  all = λ name is. absurd (none name is);
}

pub fields_same : (P Q : ℕ → ℕ → Type 0) (fields : List FieldAt) → ((class number : ℕ) → P class number ↔ Q class number) → AreFieldsOf P fields
    → AreFieldsOf Q fields
fields_same P Q fields same are = record {
  each = λ place at there. (same at.class at.field).0 (are.each place at there);
  all = λ class number is. are.all class number ((same class number).1 is);
}

fields_append : (P Q : ℕ → ℕ → Type 0) (fields more : List FieldAt) → AreFieldsOf P fields → AreFieldsOf Q more
    → AreFieldsOf (λ class number. P class number ⊎ Q class number) (fields ++ more)
fields_append P Q fields more are then = record {
  each = λ place at there. elim (of_either fields more at (record { place = place; there = there })) [
    | inl old ↦ inl (are.each old.place at old.there)
    | inr now ↦ inr (then.each now.place at now.there)
  ];
  all = λ class number is. elim is [
    | inl old ↦
        let at = are.all class number old in
        pair class number (in_front fields more (record { class = class; field = number }) (record { place = at.0; there = at.1 }))
    | inr now ↦
        let at = then.all class number now in
        pair class number (in_back fields more (record { class = class; field = number }) (record { place = at.0; there = at.1 }))
  ];
} where
  pair : (class number : ℕ) → IsItem (fields ++ more) (record { class = class; field = number })
      → (place : ℕ) × (slice_get (fields ++ more) place ≡ Some (record { class = class; field = number }))
  pair class number is = (is.place, is.there)

fields_none : (P : ℕ → ℕ → Type 0) → ((class number : ℕ) → ¬ P class number) → AreFieldsOf P []
fields_none P none = record {
  each = λ place at there. absurd (of_none at (record { place = place; there = there }));
  all = λ class number is. absurd (none class number is);
}

-- ---- methods before others

abbrev pub at_number : ℕ → ℕ → MethodAt
at_number class method = record { class = class; method = method }

before_more : (at : MethodAt) (class method : ℕ) → IsBefore at class (method + 1) → IsBefore at class method ⊎ (at ≡ at_number class method)
before_more at class method (inl less) = inl (inl less)
before_more at class method (inr (same, low)) = elim (cases_eq at.method method) [
  | inl is ↦ inr (λ i. record { class = same i; method = is i })
  | inr differ ↦ inl (inr (same, omega (arith, low, differ)))
]

before_step : (at : MethodAt) (class method : ℕ) → IsBefore at class method → IsBefore at class (method + 1)
before_step at class method (inl less) = inl less
before_step at class method (inr (same, low)) = inr (same, omega (arith, low))

before_here : (at : MethodAt) (class method : ℕ) → at ≡ at_number class method → IsBefore at class (method + 1)
before_here at class method is =
    inr (ap (λ (m : MethodAt). m.class) is, let same = ap (λ (m : MethodAt). m.method) is in omega (arith, same))

pub none_before : (at : MethodAt) → ¬ IsBefore at 0 0
none_before at (inl less) = omega (arith, less)
none_before at (inr (same, low)) = omega (arith, low)

-- a method that is rewritten is one of its class
pub rewritten_within : (r : Rewriting) (at : MethodAt) (w : Rewritten) (file : ClassFile) → slice_get r.classes.folder at.class ≡ Some file → IsRewrittenAt r at w
    → at.method < length file.methods
rewritten_within r at w file there is =
    let stands = scope_is_at r.classes at is.is.host is.is.is_host in
    let same : is.is.host.class ≡ file = same_Some is.is.host.class file (sym stands.of_folder ∙ there) in
    subst (λ (f : ClassFile). at.method < length f.methods) same
    (slice_get_within is.is.host.class.methods at.method is.is.host.method stands.of_class)

module _ (r : Rewriting) (known : HaveOne r) (Asks : MethodAt → WrittenMethod → Type 0) where
  again : {class method other number : ℕ} (asked : IsAsked r Asks class method) → IsBefore asked.at other number → IsAsked r Asks other number
  again asked before = record { at = asked.at; before = before; w = asked.w; is = asked.is; asks = asked.asks }

  pub asked_none : ¬ IsAsked r Asks 0 0
  asked_none asked = none_before asked.at asked.before

  -- behind a method that is kept no more is asked
  pub asked_kept : (class method : ℕ) (reason : Reason) → HasReasonAt r (at_number class method) reason → reason ≢ reasons.Rewritten
      → IsAsked r Asks class method ↔ IsAsked r Asks class (method + 1)
  asked_kept class method reason has kept = (
    λ asked. again asked (before_step asked.at class method asked.before),
    λ asked. elim (before_more asked.at class method asked.before) [
      | inl before ↦ again asked before
      | inr same ↦
          absurd (kept_or_rewritten r known (at_number class method) reason asked.w has kept
          (subst (λ (at : MethodAt). IsRewrittenAt r at asked.w) same asked.is))
    ],
  )

  -- behind one that is rewritten it is what its code asks
  pub asked_more : (class method : ℕ) (w : Rewritten) → IsRewrittenAt r (at_number class method) w
      → (IsAsked r Asks class method ⊎ Asks (at_number class method) w.one) ↔ IsAsked r Asks class (method + 1)
  asked_more class method w is = (
    λ either. elim either [
      | inl asked ↦ again asked (before_step asked.at class method asked.before)
      | inr asks ↦ record {
        at = at_number class method;
        before = before_here (at_number class method) class method refl;
        w = w;
        is = is;
        asks = asks;
      }
    ],
    λ asked. elim (before_more asked.at class method asked.before) [
      | inl before ↦ inl (again asked before)
      | inr same ↦
          let here : IsRewrittenAt r (at_number class method) asked.w = subst (λ (at : MethodAt). IsRewrittenAt r at asked.w) same asked.is in
          let ones : asked.w.one ≡ w.one = written_at_is_one r known (at_number class method) asked.w w here is in
          inr (subst (λ (one : WrittenMethod). Asks (at_number class method) one) ones (subst (λ (at : MethodAt). Asks at asked.w.one) same asked.asks))
    ],
  )

  -- the methods of a class are all before those of the next
  pub asked_class : (class : ℕ) (file : ClassFile) → slice_get r.classes.folder class ≡ Some file
      → IsAsked r Asks class (length file.methods) ↔ IsAsked r Asks (class + 1) 0
  asked_class class file there = (
    λ asked. again asked (forth asked.at asked.before),
    λ asked. again asked (back asked.at asked.w asked.is asked.before),
  ) where
    forth : (at : MethodAt) → IsBefore at class (length file.methods) → IsBefore at (class + 1) 0
    forth at (inl less) = inl (omega (arith, less))
    forth at (inr (same, low)) = inl (omega (arith, same))

    back : (at : MethodAt) (w : Rewritten) → IsRewrittenAt r at w → IsBefore at (class + 1) 0 → IsBefore at class (length file.methods)
    back at w is (inr (same, low)) = absurd (omega (arith, low))
    back at w is (inl less) = elim (cases_eq at.class class) [
      | inl same ↦ inr (same, rewritten_within r at w file (ap (slice_get r.classes.folder) same ∙ there) is)
      | inr differ ↦ inl (omega (arith, less, differ))
    ]

-- ---- what is gathered

module _ (r : Rewriting) (known : HaveOne r) where
  abbrev Makes : Name → MethodAt → WrittenMethod → Type 0
  Makes name at one = MakesHere r one name

  abbrev Clears : ℕ → ℕ → MethodAt → WrittenMethod → Type 0
  Clears of number at one = ClearsFinalHere r one of number

  abbrev Opens : ℕ → ℕ → MethodAt → WrittenMethod → Type 0
  Opens of number at one = OpensPrivateHere r at one of number

  pub gathered_none : (before : Decided) → before.made ≡ [] → before.finals ≡ [] → before.privates ≡ [] → AreGathered r 0 0 before
  gathered_none before made finals privates = record {
    made = subst (AreNamesOf (λ (name : Name). IsAsked r (Makes name) 0 0)) (sym made) (names_none (λ (name : Name). IsAsked r (Makes name) 0 0) (λ name. asked_none r known (Makes name)));
    finals = subst (AreFieldsOf (λ (of number : ℕ). IsAsked r (Clears of number) 0 0)) (sym finals)
        (fields_none (λ (of number : ℕ). IsAsked r (Clears of number) 0 0) (λ of number. asked_none r known (Clears of number)));
    privates = subst (AreFieldsOf (λ (of number : ℕ). IsAsked r (Opens of number) 0 0)) (sym privates)
        (fields_none (λ (of number : ℕ). IsAsked r (Opens of number) 0 0) (λ of number. asked_none r known (Opens of number)));
  }

  pub gathered_kept : (class method : ℕ) (before : Decided) (reason : Reason) → HasReasonAt r (at_number class method) reason → reason ≢ reasons.Rewritten
      → AreGathered r class method before
      → AreGathered r class (method + 1) (decided_for (at_number class method) (outcomes.Kept reason) before)
  gathered_kept class method before reason has kept are = record {
    made = names_same (λ (name : Name). IsAsked r (Makes name) class method) (λ (name : Name). IsAsked r (Makes name) class (method + 1)) before.made
        (λ name. asked_kept r known (Makes name) class method reason has kept) are.made;
    finals = fields_same (λ (of number : ℕ). IsAsked r (Clears of number) class method) (λ (of number : ℕ). IsAsked r (Clears of number) class (method + 1)) before.finals
        (λ of number. asked_kept r known (Clears of number) class method reason has kept) are.finals;
    privates = fields_same (λ (of number : ℕ). IsAsked r (Opens of number) class method) (λ (of number : ℕ). IsAsked r (Opens of number) class (method + 1)) before.privates
        (λ of number. asked_kept r known (Opens of number) class method reason has kept) are.privates;
  }

  pub gathered_more : (class method : ℕ) (before : Decided) (w : Rewritten) (m : RewrittenMethod) → IsRewrittenAt r (at_number class method) w
      → AreNamesOf (MakesHere r w.one) m.made
      → AreFieldsOf (ClearsFinalHere r w.one) m.finals
      → AreFieldsOf (OpensPrivateHere r (at_number class method) w.one) m.privates
      → AreGathered r class method before
      → AreGathered r class (method + 1) (decided_for (at_number class method) (outcomes.Rewritten m) before)
  gathered_more class method before w m is made finals privates are = record {
    made = names_same (λ (name : Name). IsAsked r (Makes name) class method ⊎ MakesHere r w.one name) (λ (name : Name). IsAsked r (Makes name) class (method + 1))
        (before.made ++ m.made) (λ name. asked_more r known (Makes name) class method w is)
        (names_append (λ (name : Name). IsAsked r (Makes name) class method) (MakesHere r w.one) before.made m.made are.made made);
    finals = fields_same (λ (of number : ℕ). IsAsked r (Clears of number) class method ⊎ ClearsFinalHere r w.one of number)
        (λ (of number : ℕ). IsAsked r (Clears of number) class (method + 1)) (before.finals ++ m.finals)
        (λ of number. asked_more r known (Clears of number) class method w is)
        (fields_append (λ (of number : ℕ). IsAsked r (Clears of number) class method) (ClearsFinalHere r w.one) before.finals m.finals are.finals finals);
    privates = fields_same (λ (of number : ℕ). IsAsked r (Opens of number) class method ⊎ OpensPrivateHere r (at_number class method) w.one of number)
        (λ (of number : ℕ). IsAsked r (Opens of number) class (method + 1)) (before.privates ++ m.privates)
        (λ of number. asked_more r known (Opens of number) class method w is)
        (fields_append (λ (of number : ℕ). IsAsked r (Opens of number) class method) (OpensPrivateHere r (at_number class method) w.one) before.privates m.privates
        are.privates privates);
  }

  pub gathered_class : (class : ℕ) (file : ClassFile) (all : Decided) → slice_get r.classes.folder class ≡ Some file
      → AreGathered r class (length file.methods) all
      → AreGathered r (class + 1) 0 all
  gathered_class class file all there are = record {
    made = names_same (λ (name : Name). IsAsked r (Makes name) class (length file.methods)) (λ (name : Name). IsAsked r (Makes name) (class + 1) 0) all.made
        (λ name. asked_class r known (Makes name) class file there) are.made;
    finals = fields_same (λ (of number : ℕ). IsAsked r (Clears of number) class (length file.methods)) (λ (of number : ℕ). IsAsked r (Clears of number) (class + 1) 0)
        all.finals (λ of number. asked_class r known (Clears of number) class file there) are.finals;
    privates = fields_same (λ (of number : ℕ). IsAsked r (Opens of number) class (length file.methods)) (λ (of number : ℕ). IsAsked r (Opens of number) (class + 1) 0)
        all.privates (λ of number. asked_class r known (Opens of number) class file there) are.privates;
  }
