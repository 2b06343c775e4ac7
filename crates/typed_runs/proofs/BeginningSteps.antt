use Rattle.std.specs.Prelude.{◌≡◌, ◌+◌, ◌-◌, refl, ℕ, zero, suc, Bool, true, false, List, [], ◌∷◌, replicate, slice_get, bytes_eq, codes, Option, Some, None, is_some, option_map, option_and_then, if◌then◌else◌}
use Rattle.std.proofs.Common.{ap, sym, ◌∙◌, subst}
use Rattle.std.proofs.lemmas.Option.{slice_get-map}
use Rattle.std.proofs.lemmas.Slice.Eq.{bytes_eq-Decides}
use Rattle.class_model.specs.Descriptors.{types_before}
use Rattle.class_model.specs.Laws.Lists.{at_index}
use Rattle.class_model.specs.Members.{has, STATIC}
use Rattle.class_model.specs.Names.{clinit}
use Rattle.class_model.specs.declared.class_file.MethodAt.{MethodAt}
use Rattle.class_model.specs.declared.frame.VType.TheVariants as types
use Rattle.class_model.specs.declared.header.Member.{Member}
use Rattle.class_tree.specs.Headers.{Name}
use Rattle.machine_values.specs.Frames.{MethodState}
use Rattle.machine_values.specs.Heaps.{Heap}
use Rattle.machine_values.specs.declared.frame.RunFrame.{RunFrame}
use Rattle.machine_values.specs.declared.frame.RunFrame.TheVariants as frames
use Rattle.member_link.specs.Machine.Beginnings.{begun_on, begun_memory, first_unbegun, come_first, initialiser_of, frame_with, past_beginning, begun_next, beginning_of, beginning_step}
use Rattle.member_link.specs.Machine.Performing.{is_initialiser}
use Rattle.member_link.specs.Machine.Programs.{Program, RunClass, RunMethod, Code, number_of_first, folder_number, name_of_class, member_of, place_of_method, run_method, code_run, code_at}
use Rattle.member_link.specs.Machine.Stepping.{frames_step, is_library_turn, step}
use Rattle.member_link.specs.Machine.Worlds.{World, Memory, is_begun}
use Rattle.member_link.specs.References.{Reference}
use Rattle.member_link.specs.RowScope.{RowScope}
use Rattle.typed_runs.proofs.Basics.{and_first, and_second, some_of}
use Rattle.typed_runs.proofs.Here.{stays, counted, uncounted}
use Rattle.typed_runs.proofs.Kept.{keeps_same, frames_kept}
use Rattle.typed_runs.proofs.Points.{of_chain, does_first}
use Rattle.typed_runs.proofs.Starting.{begun_typed}
use Rattle.typed_runs.specs.Conforming.{UnitsConform, no_units, and_unit, no_value, no_values}
use Rattle.typed_runs.specs.Families.{BeginsClass}
use Rattle.typed_runs.specs.TypedFrames.{nothing_awaited, above_method, above_of, ArePaired, Does, FramesConform, upon}
use Rattle.typed_runs.specs.TypedPrograms.{Typings, IsTypedProgram, IsTypedMethod, FitsFlags, entry}
use Rattle.typed_runs.specs.TypedWorlds.{TypedWorld, StaysTyped}

-- ---- what a search found

pub record First {A : Type 0} (passes : A → Bool) (xs : List A) (n : ℕ) : Type 0 where
  pub item : A
  pub is_there : slice_get xs n ≡ Some item
  pub passed : passes item ≡ true

pub first_found : {A : Type 0} (passes : A → Bool) (xs : List A) (n : ℕ) → number_of_first passes xs ≡ Some n → First passes xs n
first_found passes [] n is = cc
first_found passes (x ∷ xs) n is = by (passes x) refl (λ k e. first_found passes xs k e) where
  by_rest : (m : Option ℕ) → number_of_first passes xs ≡ m → option_map suc m ≡ Some n → ((k : ℕ) → number_of_first passes xs ≡ Some k → First passes xs k) → First passes (x ∷ xs) n
  by_rest None e same next = cc
  by_rest (Some k) e same next =
      let f = next k e in
      let number : suc k ≡ n = some_of same in
      subst (λ j. First passes (x ∷ xs) j) number (record { item = f.item; is_there = f.is_there; passed = f.passed })

  by : (b : Bool) → passes x ≡ b → ((k : ℕ) → number_of_first passes xs ≡ Some k → First passes xs k) → First passes (x ∷ xs) n
  by true e next = let number : zero ≡ n = some_of (rw e at is) in subst (λ j. First passes (x ∷ xs) j) number (record { item = x; is_there = refl; passed = e })
  by false e next = by_rest (number_of_first passes xs) refl (rw e at is) next

-- a class of the folder that is found by its name
pub class_there : (P : Program) (name : Name) (n : ℕ) → folder_number P name ≡ Some n → (found : RunClass) × (slice_get P.classes n ≡ Some found)
class_there P name n is = let f = first_found (λ (class : RunClass). bytes_eq name class.header.name) P.classes n is in (f.item, f.is_there)

-- a method that is found by its reference
pub record MethodFound (P : Program) (r : Reference) (at : MethodAt) : Type 0 where
  pub class : RunClass
  pub class_number : folder_number P r.class ≡ Some at.class
  pub is_class : slice_get P.classes at.class ≡ Some class
  pub method : RunMethod
  pub method_number : number_of_first (λ (m : RunMethod). member_of r m.member) class.methods ≡ Some at.method
  pub is_method : slice_get class.methods at.method ≡ Some method
  pub run : run_method P at ≡ Some method
  pub name : method.member.name ≡ r.name
  pub desc : method.member.desc ≡ r.desc

pub of_map : {A B : Type 0} (f : A → B) (o : Option A) (b : B) → option_map f o ≡ Some b → (a : A) × (o ≡ Some a) × (f a ≡ b)
of_map f None b is = cc
of_map f (Some a) b is = (a, refl, some_of is)

pub method_found : (P : Program) (r : Reference) (at : MethodAt) → place_of_method P r ≡ Some at → MethodFound P r at
method_found P r at is =
    let c = of_chain (λ (number : ℕ). option_and_then (λ (class : RunClass). option_map (λ (method : ℕ). record { class = number; method = method }) (number_of_first (λ (m : RunMethod). member_of r m.member) class.methods)) (slice_get P.classes number))
    (folder_number P r.class) at is in
    let d = of_chain (λ (class : RunClass). option_map (λ (method : ℕ). record { class = c.0; method = method }) (number_of_first (λ (m : RunMethod). member_of r m.member) class.methods)) (slice_get P.classes c.0) at c.2 in
    let m = of_map (λ (method : ℕ). record { class = c.0; method = method }) (number_of_first (λ (m : RunMethod). member_of r m.member) d.0.methods) at d.2 in
    let f = first_found (λ (m : RunMethod). member_of r m.member) d.0.methods m.0 m.1 in
    subst (λ (x : MethodAt). MethodFound P r x) m.2
    (record {
      class = d.0;
      class_number = c.1;
      is_class = d.1;
      method = f.item;
      method_number = m.1;
      is_method = f.is_there;
      run = ap (λ o. option_and_then (λ (class : RunClass). slice_get class.methods m.0) o) d.1 ∙ f.is_there;
      name = sym ((bytes_eq-Decides r.name f.item.member.name).0 (and_first (bytes_eq r.name f.item.member.name) (bytes_eq r.desc f.item.member.desc) f.passed));
      desc = sym ((bytes_eq-Decides r.desc f.item.member.desc).0 (and_second (bytes_eq r.name f.item.member.name) (bytes_eq r.desc f.item.member.desc) f.passed));
    })

-- ---- the frame of a class initialiser

-- what the flags of a method that is found say
pub flags_of : (P : Program) (T : Typings) → IsTypedProgram P T → (r : Reference) (at : MethodAt) (f : MethodFound P r at) → FitsFlags f.method.member
flags_of P T program r at f =
    let class = program.classes at.class f.class f.is_class in
    at_index FitsFlags f.class.header.methods at.method f.method.member class.flags
    (subst (λ ms. slice_get ms at.method ≡ Some f.method.member) class.methods
    (slice_get-map (λ (m : RunMethod). m.member) f.class.methods at.method ∙ ap (λ o. option_map (λ (m : RunMethod). m.member) o) f.is_method))

pub blank_units : {P : Program} {s : RowScope} {h : Heap} (n : ℕ) → UnitsConform P s h (replicate n types.Top) (replicate n None)
blank_units zero = no_units
blank_units (suc n) = and_unit no_value (blank_units n)

pub blank_paired : (n : ℕ) → ArePaired (replicate n None)
blank_paired zero = tt
blank_paired (suc n) = blank_paired n

pub initialiser_locals : (P : Program) (at : MethodAt) (member : Member) (code : Code) → has member.flags STATIC ≡ true → member.desc ≡ codes "()V" → (entry P at member code).locals ≡ replicate (code.locals - 0) types.Top
unfolding types_before
initialiser_locals P at member code static desc = rw static (rw desc refl)

pub record Initialises (P : Program) (T : Typings) (heap : Heap) (at : MethodAt) : Type 0 where
  pub does : Does P T heap (frame_with P at [] None)
  pub above : above_of P (frames.Method (frame_with P at [] None)) ≡ nothing_awaited

pub initialises_with : (P : Program) (T : Typings) (m : Memory) → IsTypedProgram P T → (r : Reference) (at : MethodAt) (code : Code) → r.name ≡ clinit → r.desc ≡ codes "()V" → place_of_method P r ≡ Some at → code_at P at ≡ Some code → Initialises P T m.heap at
initialises_with P T m program r at code name desc place is_code =
    let f = method_found P r at place in
    let named : f.method.member.name ≡ clinit = f.name ∙ name in
    let flags = flags_of P T program r at f in
    let run : code_run f.method ≡ Some code = sym (ap (λ o. option_and_then code_run o) f.run) ∙ is_code in
    let typed : IsTypedMethod P at f.method.member code (T at) = program.methods at f.method code f.run run in
    let new : MethodState = record { at = at; place = 0; locals = replicate (code.locals - 0) None; stack = []; held = None } in
    let same : frame_with P at [] None ≡ new = rw is_code refl in
    let does : Does P T m.heap new =
    does_first P T m program new code is_code tt (entry P at f.method.member code) typed.entry_leads (blank_paired (code.locals - 0))
    (subst (λ ts. UnitsConform P (T at).scope m.heap ts (replicate (code.locals - 0) None)) (sym (initialiser_locals P at f.method.member code (flags.of_clinit named) (f.desc ∙ desc))) (blank_units (code.locals - 0)))
    no_values in
    let test : is_initialiser f.method ≡ true = (bytes_eq-Decides f.method.member.name clinit).1 named in
    record { does = subst (λ (g : MethodState). Does P T m.heap g) (sym same) does; above = ap above_method f.run ∙ (rw test refl) }

pub initialises_class : (P : Program) (T : Typings) (m : Memory) → IsTypedProgram P T → (class : ℕ) (at : MethodAt) → initialiser_of P class ≡ Some at → Initialises P T m.heap at
initialises_class P T m program class at is =
    let r : Reference = record { class = name_of_class P class; name = clinit; desc = codes "()V" } in
    let a = of_chain (λ (x : MethodAt). if is_some (code_at P x) then Some x else None) (place_of_method P (record { class = name_of_class P class; name = clinit; desc = codes "()V" })) at is in
    by a.0 a.1 a.2 (code_at P a.0) refl where
      by : (x : MethodAt) → place_of_method P (record { class = name_of_class P class; name = clinit; desc = codes "()V" }) ≡ Some x → (if is_some (code_at P x) then Some x else None) ≡ Some at → (c : Option Code) → code_at P x ≡ c → Initialises P T m.heap at
      by x place same None e = let none : None ≡ Some at = rw e at same in cc
      by x place same (Some code) e =
          let one : x ≡ at = some_of (rw e at same) in
          subst (λ y. Initialises P T m.heap y) one (initialises_with P T m program (record { class = name_of_class P class; name = clinit; desc = codes "()V" }) x code refl refl place e)

-- ---- a step of a beginning

-- what comes first is a class of the folder
pub unbegun_there : (P : Program) (m : Memory) (names : List Name) (n : ℕ) → first_unbegun P m names ≡ Some n → (found : RunClass) × (slice_get P.classes n ≡ Some found)
unbegun_there P m [] n is = cc
unbegun_there P m (name ∷ names) n is = by (folder_number P name) refl (λ e. unbegun_there P m names n e) where
  by_begun : (k : ℕ) (b : Bool) → is_begun m k ≡ b → folder_number P name ≡ Some k → (if b then first_unbegun P m names else Some k) ≡ Some n
      → (first_unbegun P m names ≡ Some n → (found : RunClass) × (slice_get P.classes n ≡ Some found)) → (found : RunClass) × (slice_get P.classes n ≡ Some found)
  by_begun k true e number same next = next same
  by_begun k false e number same next = let one : k ≡ n = some_of same in class_there P name n (number ∙ ap Some one)

  by : (k : Option ℕ) → folder_number P name ≡ k → (first_unbegun P m names ≡ Some n → (found : RunClass) × (slice_get P.classes n ≡ Some found)) → (found : RunClass) × (slice_get P.classes n ≡ Some found)
  by None e next = next (rw e at is)
  by (Some k) e next = by_begun k (is_begun m k) refl e (rw e at is) next

pub begun_on_stays : (P : Program) (T : Typings) (w : World) (class : ℕ) (found : RunClass) (fs : List RunFrame) → TypedWorld P T w → slice_get P.classes class ≡ Some found → FramesConform P T w.memory.heap nothing_awaited fs
    → StaysTyped P T w (begun_on P class w fs)
begun_on_stays P T w class found fs typed is conform =
    let b = begun_typed P T typed.program class w.memory found is typed.memory in
    stays P T w (begun_memory P class w.memory) (frames.Beginning class ∷ fs) typed b.keep b.typed (upon (record { found = found; is_class = is; free = refl }) (frames_kept b.keep conform))

pub beginning_stays : (P : Program) (T : Typings) (w : World) (class : ℕ) (rest : List RunFrame) → TypedWorld P T w → (found : RunClass) → slice_get P.classes class ≡ Some found → FramesConform P T w.memory.heap nothing_awaited rest
    → StaysTyped P T w (beginning_step P class w rest)
beginning_stays P T w class rest typed found is below =
    subst (λ c. StaysTyped P T w (beginning_of P class w rest c)) (sym is) (by_first (first_unbegun P w.memory (come_first P found.header)) refl) where
      by_initialiser : (at : Option MethodAt) → initialiser_of P class ≡ at → StaysTyped P T w (past_beginning P w rest at)
      by_initialiser None e = stays P T w w.memory rest typed (keeps_same w.memory.heap) typed.memory below
      by_initialiser (Some at) e =
          let i = initialises_class P T w.memory typed.program class at e in
          stays P T w w.memory (frames.Method (frame_with P at [] None) ∷ rest) typed (keeps_same w.memory.heap) typed.memory
          (upon i.does (subst (λ a. FramesConform P T w.memory.heap a rest) (sym i.above) below))

      by_first : (n : Option ℕ) → first_unbegun P w.memory (come_first P found.header) ≡ n → StaysTyped P T w (begun_next P class w rest n)
      by_first (Some n) e =
          let t = unbegun_there P w.memory (come_first P found.header) n e in
          begun_on_stays P T w n t.0 (frames.Beginning class ∷ rest) typed t.1 (upon (record { found = found; is_class = is; free = refl }) below)
      by_first None e = by_initialiser (initialiser_of P class) refl

pub frames_begin : (P : Program) (T : Typings) (w : World) (fs : List RunFrame) → TypedWorld P T w → FramesConform P T w.memory.heap nothing_awaited fs → BeginsClass fs
    → StaysTyped P T w (if is_library_turn fs then w else frames_step P (record w { steps = w.steps + 1 }) fs)
frames_begin P T w [] typed conform next = absurd next
frames_begin P T w (frames.Library made ∷ rest) typed conform next = absurd next
frames_begin P T w (frames.Method f ∷ rest) typed conform next = absurd next
frames_begin P T w (frames.Beginning class ∷ rest) typed (upon b below) next =
    let v : World = record w { steps = w.steps + 1 } in
    uncounted P T w (beginning_step P class v rest) (beginning_stays P T v class rest (counted P T w typed) b.found b.is_class below)

pub begins_typed : (P : Program) (T : Typings) (w : World) → TypedWorld P T w → BeginsClass w.frames → StaysTyped P T w (step P w)
begins_typed P T w typed next = frames_begin P T w w.frames typed typed.frames next
