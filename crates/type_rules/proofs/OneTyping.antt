-- A body has one typing, and one that fails has none and fails in one place.
use Rattle.std.proofs.Common.{◌≡◌, inl, inr, ℕ, List, [], ◌∷◌, Option, Some, None, refl, sym, ap, subst, ◌∙◌}
use Rattle.std.specs.List.{AllByRecursion}
use Rattle.std.proofs.lemmas.Option.{same_Some}
use Rattle.class_model.specs.Checks.{AllHold, Check, IsFirstFault}
use Rattle.class_model.specs.declared.frame.Frame.{Frame}
use Rattle.class_tree.specs.Headers.{Headers}
use Rattle.member_link.specs.Bodies.{Body, BodyCaught, BodyPoint, flows_on}
use Rattle.type_rules.specs.Checks.{FailsAt, FailsBehind, IsTypedAt, frame_before, instr_checks}
use Rattle.type_rules.specs.Typed.{AreTyped, BodyFails, CaughtIsThrowable, FailsIn, FailsInTable, TypesBody}
use Rattle.type_rules.specs.declared.fault.TypeRule.{TypeRule}

-- ---- checks

all_fail_none : (checks : List (Check TypeRule)) (rule : TypeRule) → AllHold checks → ¬ IsFirstFault checks rule
all_fail_none [] rule hold first = first
all_fail_none (c ∷ checks) rule hold (inl here) = here.0 hold.0
all_fail_none (c ∷ checks) rule hold (inr later) = all_fail_none checks rule hold.1 later.1

fails_by_one : (checks : List (Check TypeRule)) (one other : TypeRule) → IsFirstFault checks one → IsFirstFault checks other → one ≡ other
fails_by_one [] one other first second = absurd first
fails_by_one (c ∷ checks) one other (inl here) (inl there) = here.1 ∙ sym there.1
fails_by_one (c ∷ checks) one other (inl here) (inr later) = absurd (here.0 later.0)
fails_by_one (c ∷ checks) one other (inr later) (inl there) = absurd (there.0 later.0)
fails_by_one (c ∷ checks) one other (inr later) (inr second) = fails_by_one checks one other later.1 second.1

-- ---- an instruction

before_is_one : (b : Body) (flows : Option Frame) (point : BodyPoint) (one other : Frame) → IsTypedAt b flows point one → IsTypedAt b flows point other → one ≡ other
before_is_one b flows point one other h i = same_Some one other (sym h.before_is ∙ i.before_is)

typed_or_fails : (b : Body) (flows : Option Frame) (point : BodyPoint) (before : Frame) (rule : TypeRule) → IsTypedAt b flows point before → ¬ FailsAt b flows point rule
typed_or_fails b flows point before rule typed fails =
    all_fail_none (instr_checks b flows point before) rule typed.holds (subst (λ (o : Option Frame). FailsBehind b flows point rule o) typed.before_is fails)

behind_by_one : (b : Body) (flows : Option Frame) (point : BodyPoint) (one other : TypeRule) (before : Option Frame) → FailsBehind b flows point one before → FailsBehind b flows point other before → one ≡ other
behind_by_one b flows point one other None h i = h ∙ sym i
behind_by_one b flows point one other (Some before) h i = fails_by_one (instr_checks b flows point before) one other h i

-- ---- instructions

pub typed_by_one : (b : Body) (flows : Option Frame) (points : List BodyPoint) (one other : List Frame) → AreTyped b flows points one → AreTyped b flows points other → one ≡ other
typed_by_one b flows [] [] [] h i = refl
typed_by_one b flows [] [] (frame ∷ other) h i = absurd i
typed_by_one b flows [] (frame ∷ one) other h i = absurd h
typed_by_one b flows (point ∷ points) [] other h i = absurd h
typed_by_one b flows (point ∷ points) (frame ∷ one) [] h i = absurd i
typed_by_one b flows (point ∷ points) (frame ∷ one) (second ∷ other) h i =
    let same : frame ≡ second = before_is_one b flows point frame second h.0 i.0 in
    let rest : one ≡ other = typed_by_one b (flows_on point frame) points one other h.1 (subst (λ (f : Frame). AreTyped b (flows_on point f) points other) (sym same) i.1) in
    ap (λ (f : Frame). f ∷ one) same ∙ ap (λ (frames : List Frame). second ∷ frames) rest

some_is_none : {X : Type 0} (x : X) (o : Option X) → o ≡ Some x → o ≡ None → ⊥
some_is_none x o e f = cc

pub typed_fail_none : (b : Body) (flows : Option Frame) (points : List BodyPoint) (frames : List Frame) (at : ℕ) (rule : TypeRule) → FailsIn b flows points at rule → ¬ AreTyped b flows points frames
typed_fail_none b flows [] [] at rule fails typed = some_is_none fails.0.0 flows fails.0.1 typed
typed_fail_none b flows [] (frame ∷ frames) at rule fails typed = typed
typed_fail_none b flows (point ∷ points) [] at rule fails typed = typed
typed_fail_none b flows (point ∷ points) (frame ∷ frames) at rule (inl here) typed = typed_or_fails b flows point frame rule typed.0 here.0
typed_fail_none b flows (point ∷ points) (frame ∷ frames) at rule (inr (before, is, later)) typed =
    let same : before ≡ frame = before_is_one b flows point before frame is typed.0 in
    typed_fail_none b (flows_on point frame) points frames at rule (subst (λ (f : Frame). FailsIn b (flows_on point f) points at rule) same later) typed.1

-- an offset and a rule
pub record AreSame (at other : ℕ) (rule other_rule : TypeRule) : Type 0 where
  pub offset : at ≡ other
  pub rule_is : rule ≡ other_rule

pub fail_in_one : (b : Body) (flows : Option Frame) (points : List BodyPoint) (at other : ℕ) (rule other_rule : TypeRule) → FailsIn b flows points at rule → FailsIn b flows points other other_rule → AreSame at other rule other_rule
fail_in_one b flows [] at other rule other_rule h i = record { offset = h.1 ∙ sym i.1; rule_is = h.2 ∙ sym i.2 }
fail_in_one b flows (point ∷ points) at other rule other_rule (inl here) (inl there) = record {
  offset = here.1 ∙ sym there.1;
  rule_is = behind_by_one b flows point rule other_rule (frame_before flows (b.stated point.place)) here.0 there.0;
}
fail_in_one b flows (point ∷ points) at other rule other_rule (inl here) (inr (frame, is, later)) = absurd (typed_or_fails b flows point frame rule is here.0)
fail_in_one b flows (point ∷ points) at other rule other_rule (inr (frame, is, later)) (inl there) = absurd (typed_or_fails b flows point frame other_rule is there.0)
fail_in_one b flows (point ∷ points) at other rule other_rule (inr (frame, is, later)) (inr (second, also, behind)) =
    let same : frame ≡ second = before_is_one b flows point frame second is also in
    fail_in_one b (flows_on point second) points at other rule other_rule (subst (λ (f : Frame). FailsIn b (flows_on point f) points at rule) same later) behind

-- ---- the exception table

table_fails_none : (headers : Headers) (table : List BodyCaught) (at : ℕ) → FailsInTable headers table at → ¬ AllByRecursion (CaughtIsThrowable headers) table
table_fails_none headers [] at fails all = fails
table_fails_none headers (caught ∷ table) at (inl here) all = here.0 all.0
table_fails_none headers (caught ∷ table) at (inr later) all = table_fails_none headers table at later.1 all.1

table_fails_once : (headers : Headers) (table : List BodyCaught) (at other : ℕ) → FailsInTable headers table at → FailsInTable headers table other → at ≡ other
table_fails_once headers [] at other h i = absurd h
table_fails_once headers (caught ∷ table) at other (inl here) (inl there) = here.1 ∙ sym there.1
table_fails_once headers (caught ∷ table) at other (inl here) (inr later) = absurd (here.0 later.0)
table_fails_once headers (caught ∷ table) at other (inr later) (inl there) = absurd (there.0 later.0)
table_fails_once headers (caught ∷ table) at other (inr later) (inr second) = table_fails_once headers table at other later.1 second.1

-- ---- a body

module _ (b : Body) where
  pub one_typing : (one other : List Frame) → TypesBody b one → TypesBody b other → one ≡ other
  one_typing one other h i = typed_by_one b (Some b.entry) b.points one other h.instrs i.instrs

  pub no_typing : (frames : List Frame) (at : ℕ) (rule : TypeRule) → BodyFails b at rule → ¬ TypesBody b frames
  no_typing frames at rule (inl table) typed = table_fails_none b.scope.headers b.table at table.0 typed.catch_types
  no_typing frames at rule (inr points) typed = typed_fail_none b (Some b.entry) b.points frames at rule points.1 typed.instrs

  pub one_failure : (at other : ℕ) (rule other_rule : TypeRule) → BodyFails b at rule → BodyFails b other other_rule → AreSame at other rule other_rule
  one_failure at other rule other_rule (inl table) (inl second) = record { offset = table_fails_once b.scope.headers b.table at other table.0 second.0; rule_is = table.1 ∙ sym second.1 }
  one_failure at other rule other_rule (inl table) (inr points) = absurd (table_fails_none b.scope.headers b.table at table.0 points.0)
  one_failure at other rule other_rule (inr points) (inl table) = absurd (table_fails_none b.scope.headers b.table other table.0 points.0)
  one_failure at other rule other_rule (inr points) (inr second) = fail_in_one b (Some b.entry) b.points at other rule other_rule points.1 second.1
