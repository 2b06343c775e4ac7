-- Frames that go together, in the forms in which turns ask for them.
use Rattle.std.proofs.Common.{◌≡◌, ◌≤◌, ◌++◌, ℕ, false, List, [], ◌∷◌, length, map, slice_get, Option, Some, None, option_map, refl, sym, ap, subst, ◌∙◌, arith}
use Rattle.std.specs.Prelude.{option_and_then}
use Rattle.std.specs.List.{AllByRecursion}
use Rattle.std.proofs.lemmas.Option.{none-some, same_Some}
use Rattle.class_model.specs.Laws.Lists.{at_index}
use Rattle.class_model.specs.Members.{has}
use Rattle.class_model.specs.MethodCode.{code_of}
use Rattle.class_model.specs.declared.class_file.ClassFile.{ClassFile}
use Rattle.class_model.specs.declared.class_file.CodePart.{CodePart}
use Rattle.class_model.specs.declared.class_file.Method.{Method as FileMethod}
use Rattle.class_model.specs.declared.class_file.MethodAt.{MethodAt}
use Rattle.class_model.specs.declared.instr.Placed.{Placed}
use Rattle.class_tree.specs.Headers.{Classes, IsClassFile, headers_of}
use Rattle.expanded_code.specs.ExpandAnswers.{IsExpanded}
use Rattle.expanded_code.specs.Expanded.{arguments}
use Rattle.expanded_code.specs.Expansions.{Expands}
use Rattle.expanded_code.specs.Sites.{HasFrames}
use Rattle.expanded_runs.proofs.Runs.ArgumentRoom.{arguments_fit}
use Rattle.expanded_runs.proofs.Runs.EntryLaws.{arguments_units, units_of_arguments}
use Rattle.expanded_runs.proofs.Runs.FlatFacts.{FlatFacts}
use Rattle.expanded_runs.proofs.Runs.FlatOps.{catches_in}
use Rattle.expanded_runs.proofs.Runs.Positions.{instrs_of}
use Rattle.expanded_runs.proofs.Runs.SameStanding.{InFlat, InPlace, Inside, SameStanding, SameTop, beginnings_stand, comparison, libraries_stand, is_awaited}
use Rattle.expanded_runs.proofs.Runs.Setup.{Setup, after, before}
use Rattle.expanded_runs.proofs.Runs.StandingCodes.{AtPoints}
use Rattle.expanded_runs.proofs.Runs.StandingFrames.{at_library, begins_on}
use Rattle.expanded_runs.proofs.Runs.StandingMore.{in_place_more, inside_more, standing_more}
use Rattle.expanded_runs.proofs.Runs.StandingUnwinds.{flat_unwinds, stands_unwind}
use Rattle.machine_values.specs.Frames.{MethodState}
use Rattle.machine_values.specs.declared.frame.RunFrame.{RunFrame}
use Rattle.machine_values.specs.declared.frame.RunFrame.TheVariants.{Beginning, Library, Method}
use Rattle.machine_values.specs.declared.value.Value.{Value}
use Rattle.member_link.specs.Scope.{Scope, instructions, scope_at, scope_of}
use Rattle.same_runs.specs.Laws.BothBegin.{BeginsOn}
use Rattle.same_runs.specs.Laws.CaughtUp.{less}
use Rattle.same_runs.specs.Renamings.{Names, NamesMore}
use Rattle.same_runs.specs.SameFrames.{Unwinds, catches_at}
use Rattle.same_runs.specs.SamePrograms.{SamePrograms}
use Rattle.same_runs.specs.SameWorlds.{AtLibrary}

-- ---- the arguments of a method

-- they fit into its local units
pub arguments_room : (classes : Classes) (at : MethodAt) (s : Scope) (unit : ℕ) → AllByRecursion IsClassFile classes.folder
    → scope_at classes at ≡ Some s
    → units_of_arguments (arguments s unit) ≤ s.part.max_locals
arguments_room classes at s unit files is = of_class (slice_get classes.folder at.class) refl is where
  of_part : (class : ClassFile) (method : FileMethod) → IsClassFile class → slice_get class.methods at.method ≡ Some method
      → (part : Option CodePart)
      → code_of method.attrs ≡ part
      → option_map (λ (part : CodePart). record { headers = headers_of classes; class = class; method = method; part = part }) part ≡ Some s
      → units_of_arguments (arguments s unit) ≤ s.part.max_locals
  of_part class method file there None has found = absurd (none-some s found)
  of_part class method file there (Some part) has found =
      let same = same_Some _ s found in
      subst (λ (k : Scope). units_of_arguments (arguments k unit) ≤ k.part.max_locals) same
      (let all = arguments_units (record { headers = headers_of classes; class = class; method = method; part = part }) unit in
      let room = arguments_fit class at.method method part file there has in
      omega (arith, all, room))

  of_method : (class : ClassFile) → IsClassFile class → (method : Option FileMethod) → slice_get class.methods at.method ≡ method
      → option_and_then (scope_of (headers_of classes) class) method ≡ Some s
      → units_of_arguments (arguments s unit) ≤ s.part.max_locals
  of_method class file None there found = absurd (none-some s found)
  of_method class file (Some method) there found = of_part class method file there (code_of method.attrs) refl found

  of_class : (class : Option ClassFile) → slice_get classes.folder at.class ≡ class
      → option_and_then (λ (class : ClassFile). option_and_then (scope_of (headers_of classes) class) (slice_get class.methods at.method)) class
      ≡ Some s
      → units_of_arguments (arguments s unit) ≤ s.part.max_locals
  of_class None here found = absurd (none-some s found)
  of_class (Some class) here found =
      of_method class (at_index IsClassFile classes.folder at.class class files here) (slice_get class.methods at.method) refl found

-- ---- frames on top

module _ {u : Setup} (facts : FlatFacts u) (same : SamePrograms (before u) (after u)) where
  -- the library's
  pub library_on_top : {names : Names} {made made_also : Option ℕ} {rest others : List RunFrame}
      → SameStanding u false names (Library made ∷ rest) (Library made_also ∷ others)
      → AtPoints u rest
      → AtLibrary (before u) (after u) (comparison u) names made made_also rest others
  library_on_top (libraries_stand held rest) at = at_library facts same held rest at

  -- the beginning of a class
  pub beginning_on_top : {names : Names} {class also : ℕ} {rest others : List RunFrame}
      → SameStanding u false names (Beginning class ∷ rest) (Beginning also ∷ others)
      → BeginsOn (before u) (after u) (comparison u) names class rest others
  beginning_on_top (beginnings_stand {class = class} rest) = begins_on facts same class rest

  -- A frame of flat code that stands among what replaces an instruction, with other units.
  pub later_unwinds : {names more : Names} {f g later : MethodState} {waiting : List MethodState} {ones others : List RunFrame} (taken : ℕ)
      (placed : Placed) (top : List Value) (i : InFlat u names f waiting g)
      → NamesMore names more
      → slice_get (instrs_of i.p) f.place ≡ Some placed
      → AtPoints u ones
      → SameStanding u (is_awaited u g.at) names ones others
      → later.at ≡ g.at
      → later.held ≡ g.held
      → length later.locals ≡ length g.locals
      → catches_at (after u) later ≡ catches_in i.p placed.at
      → Inside names i.expanded.host i.expanded.expansion g.held later.locals i.chain i.p waiting i.below
      → InPlace names i.chain i.p (less taken f) g.held later.locals top
      → Unwinds (before u) (after u) (SameTop u) (SameTop u) more (Method (less taken f) ∷ map Method waiting ++ ones) (Method later ∷ others)
  later_unwinds {names = names} {more = more} {f = f} {g = g} {later = later} {waiting = waiting} {ones = ones} {others = others} taken placed
      top i grows is_placed at rest is_at is_held is_long catches inside in_place =
      flat_unwinds facts same (record {
        flat = i.flat;
        is_flat = ap u.flats is_at ∙ i.is_flat;
        expanded = e;
        chain = i.chain;
        p = i.p;
        below = i.below;
        inside =
            inside_more grows (subst (λ (held : Option ℕ). Inside names i.expanded.host i.expanded.expansion held later.locals i.chain i.p waiting
            i.below) (sym is_held) inside);
        top = top;
        in_place =
            in_place_more grows (subst (λ (held : Option ℕ). InPlace names i.chain i.p (less taken f) held later.locals top) (sym is_held)
            in_place);
        room = let room = i.room in let long = is_long in omega (arith, room, long);
        placed = placed;
        is_placed = is_placed;
        catches = catches;
      }) below (stands_unwind facts same below at) where
        e : IsExpanded u.classes u.typed later.at i.flat
        e = record {
          host = i.expanded.host;
          own = i.expanded.own ∙ sym is_at;
          is_host = subst (λ (m : MethodAt). HasFrames u.classes u.typed m i.expanded.host.scope i.expanded.host.frames) (sym is_at) i.expanded.is_host;
          expansion = i.expanded.expansion;
          expands =
              subst (λ (m : MethodAt). Expands u.classes u.typed m [] m (instructions i.expanded.host.scope) i.expanded.expansion) (sym is_at)
              i.expanded.expands;
          is = i.expanded.is;
        }

        below : SameStanding u (is_awaited u later.at) more ones others
        below =
            subst (λ (m : MethodAt). SameStanding u (is_awaited u m) more ones others) (sym is_at) (standing_more grows rest)
