-- The classes that written code catches are those that the pool of its host's class names: texts that constants may have.
use Rattle.std.proofs.Common.{◌≡◌, Option, Some, None}
use Rattle.std.specs.List.{AllByRecursion}
use Rattle.class_model.specs.Laws.Lists.{at_index}
use Rattle.class_model.specs.declared.class_file.ClassFile.{ClassFile}
use Rattle.class_model.specs.declared.class_file.MethodAt.{MethodAt}
use Rattle.class_rewrite.proofs.AddedTexts.{class_text_at}
use Rattle.class_rewrite.proofs.CaughtItems.{CatchIsOf, CatchesAreOf, catches_are_of}
use Rattle.class_rewrite.proofs.NeededConstants.{mapped}
use Rattle.class_rewrite.specs.Inner.FittingFolders.{CatchesSound}
use Rattle.class_rewrite.specs.Rewriting.Methods.{Rewriting, short_items}
use Rattle.class_tree.specs.Headers.{IsClassFile, Name}
use Rattle.expanded_runs.specs.CaughtNames.{AreNamedCatches}
use Rattle.making_code.specs.Items.{WCatch, WItem}
use Rattle.member_link.specs.Laws.Scopes.{scope_is_at}
use Rattle.member_link.specs.Scope.{Scope, scope_at}
use Rattle.plan_flow.specs.Written.WrittenCode.{short}
use Rattle.plan_flow.specs.Written.WrittenPrograms.{WrittenMethod, plan_scope}
use Rattle.written_files.specs.ShortNeeds.{IsShortCatch}
use Rattle.written_files.specs.SoundCode.{IsSoundCatch}
use Rattle.written_files.specs.WrittenClasses.{IsFitting}

module _ (fits : (file : ClassFile) → IsClassFile file → IsFitting file) (r : Rewriting) (folder : AllByRecursion IsClassFile r.classes.folder)
    (at : MethodAt) (one : WrittenMethod) (s : Scope) (is_scope : scope_at r.classes at ≡ Some s) (named : AreNamedCatches s one.flat) where
  is_file : IsClassFile s.class
  is_file = at_index IsClassFile r.classes.folder at.class s.class folder (scope_is_at r.classes at s is_scope).of_folder

  one_sound : (class : Option Name) → CatchIsOf one.flat class → IsSoundCatch class × IsShortCatch class
  one_sound None of = (tt, tt)
  one_sound (Some name) of =
      let index = named of.number of.point of.at of.handler name of.there of.is_handler of.catches in
      let known = class_text_at s.class (fits s.class is_file) index.0 name index.1 in
      (record { text = known.text.spelling; is_name = known.is_name }, known.text.len)

  pub catches_sound : AllByRecursion (λ (item : WItem). AllByRecursion CatchesSound item.catches) (short_items r one)
  catches_sound =
      mapped (CatchesAreOf one.flat) (λ (item : WItem). AllByRecursion CatchesSound item.catches) (short_items r one)
      (λ item of. mapped (λ (catch : WCatch). CatchIsOf one.flat catch.class) CatchesSound item.catches (λ catch is. one_sound catch.class is) of)
      (catches_are_of (plan_scope r.classes r.links one) short one.routes)
