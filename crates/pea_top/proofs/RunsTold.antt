-- What is said of generated work and its runs.
use Rattle.std.proofs.Common.{◌≡◌, ◌≢◌, ℕ, suc, List, [], ◌∷◌, length, refl, ap, ◌∙◌, codes}
use Rattle.class_rewrite.specs.declared.folder.Optimised.{Optimised}
use Rattle.class_tree.specs.Headers.{Classes}
use Rattle.flow_code.specs.TypedFrames.{FolderFrames}
use Rattle.host_tree.specs.Host.{Bytes}
use Rattle.machine_values.specs.declared.action.Action.{Action}
use Rattle.machine_values.specs.declared.event.Event.{Event}
use Rattle.machine_values.specs.declared.event.Shown.{Shown}
use Rattle.member_link.specs.Machine.SameRuns.{AreSameEvents, IsSameShown}
use Rattle.script_text.specs.Scripts.{IsScript}
use Rattle.type_rules.specs.Verified.{IsVerified, TypesFolder}
use Rattle.work_gen.specs.Generated.{choices, generated_folder, generated_script}
use Rattle.pea_top.specs.Both.{AreBothShown}
use Rattle.pea_top.specs.Generating.{AreLikeEvents, IsGeneratedText, IsLikeShown, SaysWhether, generated_line}
use Rattle.pea_top.specs.Inner.Both.{AreRuns}
use Rattle.pea_top.specs.Inner.Generating.{AreCountedAlike, AreRunsTold, IsBaseTree}
use Rattle.pea_top.specs.declared.both.Runs.{Runs}

-- ---- the last word

like_events : (ones others : List Event) → AreSameEvents ones others → AreLikeEvents ones others
like_events [] [] same = tt
like_events (one ∷ ones) [] same = absurd same
like_events [] (other ∷ others) same = absurd same
like_events (one ∷ ones) (other ∷ others) same = (record { kind = same.0.kind; monitors = same.0.monitors }, like_events ones others same.1)

like_shown : (before after : Shown) → IsSameShown before after → IsLikeShown before after
like_shown before after same = record { events = like_events before.events after.events same.events; end = same.end }

as_many : (ones others : List Event) → AreLikeEvents ones others → length ones ≡ length others
as_many [] [] like = refl
as_many (one ∷ ones) [] like = absurd like
as_many [] (other ∷ others) like = absurd like
as_many (one ∷ ones) (other ∷ others) like = ap suc (as_many ones others like.1)

counted : (before after : Shown) → IsLikeShown before after → AreCountedAlike before after
counted before after like = record { count = as_many before.events after.events like.events; end = like.end }

-- counts and ends tell it
says : (before after : Shown) (word : Bytes) → (length before.events ≡ length after.events → after.end ≡ before.end → IsSameShown before after) → (AreCountedAlike before after → word ≡ codes "same") → (¬ AreCountedAlike before after → word ≡ codes "differ")
    → SaysWhether before after word
says before after word told same differ = record {
  same = λ like. same (counted before after like);
  differ = λ unlike. differ (λ alike. unlike (like_shown before after (told alike.count alike.end)));
}

-- ---- what is printed

pub runs_told : (tree : Classes) (typed : FolderFrames) (actions : List Action) (number size : ℕ) (runs : Runs) (word text : Bytes) → TypesFolder tree typed → AreRuns tree typed actions 1000000 runs
    → (AreCountedAlike runs.before runs.after → word ≡ codes "same") → (¬ AreCountedAlike runs.before runs.after → word ≡ codes "differ") → text ≡ generated_line number size runs.report runs.before runs.after word
    → AreRunsTold tree actions number size text
runs_told tree typed actions number size runs word text types are same differ is = record {
  typed = typed;
  types = types;
  optimised = are.optimised;
  is_optimised = are.is;
  before = runs.before;
  after = runs.after;
  shown = are.shown;
  word = word;
  says = says runs.before runs.after word are.counted same differ;
  is = is ∙ ap (λ report. generated_line number size report runs.before runs.after word) are.report_is;
}

pub generated_told : (number size : ℕ) (tree : Classes) (actions : List Action) (text : Bytes) → IsBaseTree (generated_folder (choices number size)) tree → IsScript (generated_script (choices number size)) actions → AreRunsTold tree actions number size text
    → IsGeneratedText number size text
generated_told number size tree actions text base script told = record {
  tree = tree;
  arranged = base.arranged;
  verified = record { tree = base.verified.tree; linked = base.verified.linked; typed = told.typed; types = told.types };
  optimised = told.optimised;
  is_optimised = told.is_optimised;
  actions = actions;
  is_script = script;
  before = told.before;
  after = told.after;
  shown = told.shown;
  word = told.word;
  says = told.says;
  same = λ before_ended after_ended. told.says.same (like_shown told.before told.after (told.shown.same before_ended after_ended));
  is = told.is;
}
