-- What becomes of a method, by its least plan.
use Rattle.std.proofs.Common.{◌≡◌, ◌≢◌, ◌∙◌, ℕ, List, Bool, true, false, Result, Ok, Err, IfOk, OnErr, refl, sym, ap, subst}
use Rattle.std.proofs.lemmas.Bool.{false≢true}
use Rattle.std.specs.Prelude.{IsTrue, ◌↔◌}
use Rattle.std.specs.Result.{IsErrOf}
use Rattle.class_model.specs.declared.class_file.MethodAt.{MethodAt}
use Rattle.class_model.specs.declared.memory.NoMemory.{NoMemory}
use Rattle.class_rewrite.specs.Inner.Meanings.{IsEditOf, IsMeant, IsReasonOf, MayBeWritten, Meaning, rewriting}
use Rattle.class_rewrite.specs.Inner.Outcomes.{IsOutcome, IsOutcomeBy, IsRewrittenTo}
use Rattle.class_rewrite.specs.Inner.WrittenCodes.{IsFlatOf, IsLeastFor, IsOutcomeOf}
use Rattle.class_rewrite.specs.Rewriting.Methods.{rewriting_of}
use Rattle.class_rewrite.specs.declared.outcome.Outcome.{Outcome}
use Rattle.class_rewrite.specs.declared.outcome.Outcome.TheVariants as outcomes
use Rattle.class_rewrite.specs.declared.outcome.RewrittenMethod.{RewrittenMethod}
use Rattle.class_tree.specs.Headers.{Classes, Name, headers_of}
use Rattle.code_drafts.specs.Emits.{Writing}
use Rattle.flow_code.specs.FlatCode.{FlatCode}
use Rattle.flow_code.specs.TypedFrames.{FolderFrames}
use Rattle.flow_code.specs.declared.reason.KeptFault.{KeptFault}
use Rattle.flow_code.specs.declared.reason.KeptFault.TheVariants as faults
use Rattle.flow_code.specs.declared.reason.Reason.{Reason}
use Rattle.flow_code.specs.declared.reason.Reason.TheVariants as reasons
use Rattle.member_link.specs.Machine.Links.{AreLinksOf}
use Rattle.member_link.specs.Machine.Programs.{Links}
use Rattle.plan_flow.specs.Gain.{Gains}
use Rattle.plan_flow.specs.Laws.SomeRouting.{some_routing}
use Rattle.plan_flow.specs.PlanScope.{scope_of}
use Rattle.plan_flow.specs.Plans.{IsValid, Plan}
use Rattle.plan_flow.specs.Written.WrittenCode.{short}
use Rattle.plan_flow.specs.Written.WrittenPrograms.{GivesConstructors}
use Rattle.pool_edit.specs.Edits.{Edit}

-- a writing is its parts
pub writing_is : (of : Writing) (classes : Classes) (flat : FlatCode) (plan : Plan) → of.classes ≡ classes → of.flat ≡ flat → of.plan ≡ plan
    → record { classes = classes; flat = flat; plan = plan } ≡ of
writing_is of classes flat plan a b d = sym (λ i. record { classes = a i; flat = b i; plan = d i })

module _ (classes : Classes) (flat : FlatCode) (plan : Plan) (least : IsLeastFor classes flat plan) (told : Bool)
    (tells : (links : Links) → IsValid (scope_of classes links flat) plan → IsTrue told ↔ Gains (scope_of classes links flat) plan) where
  abbrev of : Writing
  of = record { classes = classes; flat = flat; plan = plan }

  valid : (links : Links) → AreLinksOf (headers_of classes) links → IsValid (scope_of classes links flat) plan
  valid links are = (least links are).valid

  -- nothing is gained
  pub gains_nothing : told ≡ false → (edit : Edit) (typed : FolderFrames) (at : MethodAt) → IsFlatOf classes typed at flat
      → IsOutcome classes typed at edit edit (outcomes.Kept reasons.NoGain)
  gains_nothing nothing edit typed at is_flat = record {
    each = λ links constructor are gives.
        let routing = some_routing (scope_of classes links flat) plan (valid links are) in
        record {
          has = record {
            one = record { flat = flat; routes = routing.0; form = short };
            plan = plan;
            planned = record { flat = is_flat.is; least = least links are; routed = routing.1 };
            none = λ gains. false≢true (sym nothing ∙ (tells links (valid links are)).1 gains);
          };
          kept = λ same. absurd cc;
          same = refl;
        };
  }

  module _ (gained : told ≡ true) where
    meaning : FolderFrames → MethodAt → Links → (Name → List ℕ) → Meaning
    meaning typed at links constructor = record { typed = typed; at = at; links = links; constructor = constructor }

    meant : (typed : FolderFrames) (at : MethodAt) (links : Links) (constructor : Name → List ℕ) → IsFlatOf classes typed at flat
        → AreLinksOf (headers_of classes) links
        → GivesConstructors classes constructor
        → IsMeant of (record { typed = typed; at = at; links = links; constructor = constructor })
    meant typed at links constructor is_flat are gives = record {
      folder = is_flat.folder;
      links = are;
      constructors = gives;
      flat = is_flat.is;
      least = least links are;
      gains = (tells links (valid links are)).0 gained;
    }

    pub may_be_written : (edit : Edit) (typed : FolderFrames) (at : MethodAt) (links : Links) (constructor : Name → List ℕ) → IsFlatOf classes typed at flat
        → IsEditOf classes at edit
        → AreLinksOf (headers_of classes) links
        → GivesConstructors classes constructor
        → MayBeWritten of edit
    may_be_written edit typed at links constructor is_flat edit_of are gives = record {
      m = record { typed = typed; at = at; links = links; constructor = constructor };
      meant = meant typed at links constructor is_flat are gives;
      of_class = edit_of;
      valid = valid;
    }

    module _ (before after : Edit) (written : Result RewrittenMethod KeptFault)
        (ok : IfOk written (λ method. (m : Meaning) → IsMeant of m → IsRewrittenTo (rewriting of m) m.at before after method))
        (kept : (reason : Reason) (m : Meaning) → IsErrOf written (faults.Kept reason) → IsMeant of m → IsReasonOf of m before reason)
        (err : OnErr written (after ≡ before)) where
      abbrev IsOne : Outcome → Type 0
      IsOne outcome = (typed : FolderFrames) (at : MethodAt) → IsFlatOf classes typed at flat → IsOutcome classes typed at before after outcome

      by : (found : Result RewrittenMethod KeptFault) → written ≡ found → (result : Result Outcome NoMemory) → IsOutcomeOf found result
          → IfOk result IsOne
      by (Ok method) is (Ok outcome) same = λ typed at is_flat. record {
        each = λ links constructor are gives.
            let rewritten = (subst (λ (r : Result RewrittenMethod KeptFault). IfOk r (λ method. (m : Meaning) → IsMeant of m → IsRewrittenTo (rewriting of m) m.at before after method)) is ok)
            (record { typed = typed; at = at; links = links; constructor = constructor }) (meant typed at links constructor is_flat are gives) in
            subst (IsOutcomeBy (rewriting_of classes typed links constructor) at before after) (sym same) rewritten;
      }
      by (Err (faults.Kept reason)) is (Ok outcome) same = λ typed at is_flat. record {
        each = λ links constructor are gives.
            let has = kept reason (record { typed = typed; at = at; links = links; constructor = constructor }) is
            (meant typed at links constructor is_flat are gives) in
            subst (IsOutcomeBy (rewriting_of classes typed links constructor) at before after) (sym same)
            (record {
              has = has.has;
              kept = has.kept;
              same = subst (λ (r : Result RewrittenMethod KeptFault). OnErr r (after ≡ before)) is err;
            });
      }
      by (Err faults.NoMemory) is (Ok outcome) same = absurd same
      by (Ok method) is (Err fault) same = tt
      by (Err fault) is (Err also) same = tt

      pub outcome_is : (result : Result Outcome NoMemory) → IsOutcomeOf written result → IfOk result IsOne
      outcome_is result same = by written refl result same
