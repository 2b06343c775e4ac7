use Rattle.std.specs.Prelude.{◌≡◌, ◌≢◌, ◌⊎◌, ◌-◌, refl, ℕ, zero, suc, Bool, true, false, List, [], ◌∷◌, map, length, drop, reverse, bytes_eq, Some, None, if◌then◌else◌}
use Rattle.std.specs.List.{AllByRecursion}
use Rattle.std.proofs.Common.{inl, inr, ap, sym, ◌∙◌, subst}
use Rattle.std.proofs.lemmas.Slice.Eq.{bytes_eq-Decides}
use Rattle.class_model.specs.Descriptors.{parameters_of}
use Rattle.class_model.specs.Members.{STATIC, ABSTRACT}
use Rattle.class_model.specs.Names.{init}
use Rattle.class_model.specs.declared.frame.Frame.{Frame}
use Rattle.class_model.specs.declared.frame.VType.{VType}
use Rattle.class_model.specs.declared.frame.VType.TheVariants as types
use Rattle.class_tree.specs.Headers.{Name, class_named, IsThere}
use Rattle.machine_values.specs.Frames.{MethodState}
use Rattle.machine_values.specs.declared.frame.RunFrame.{RunFrame}
use Rattle.machine_values.specs.declared.object.Shape.TheVariants as shapes
use Rattle.machine_values.specs.declared.value.Value.{Value}
use Rattle.machine_values.specs.declared.value.Value.TheVariants as values
use Rattle.member_link.specs.DeclaredMembers.{Declared}
use Rattle.member_link.specs.Forms.{IsInstanceForm}
use Rattle.member_link.specs.Machine.CallSteps.{run_call, on_receiver, is_polymorphic, if_conforms, is_object_init, found_special, special_choice, special_on, call_found_special, call_special_work}
use Rattle.member_link.specs.Machine.Completions.{gives}
use Rattle.member_link.specs.Machine.Links.{reference_to}
use Rattle.member_link.specs.Machine.Ops.{call_special}
use Rattle.member_link.specs.Machine.Programs.{Program, Chosen, chosen, abstract_method, headers_in, name_of_class, method_of, has_flag}
use Rattle.member_link.specs.Machine.Shapes.{is_external}
use Rattle.member_link.specs.Machine.Stepping.{op_step}
use Rattle.member_link.specs.Machine.Worlds.{World}
use Rattle.member_link.specs.References.{Reference, IsNamedThere}
use Rattle.member_link.specs.RowScope.{RowScope}
use Rattle.member_link.specs.Rows.MemberRows.{argument_needs, result_types, receiver, init_row, initialised_type, MayInitialise, NoUninitThis}
use Rattle.member_link.specs.Rows.Operands.{uninitialised, topmost, under}
use Rattle.member_link.specs.Rows.Row.{access_aside}
use Rattle.member_link.specs.Signatures.{result_of}
use Rattle.typed_runs.proofs.Arguments.{AreArguments, arguments_kinds, BeginsWith, begins_initialiser}
use Rattle.typed_runs.proofs.ArgumentsHere.{stack_under, with_receiver_needs, received, ObjectOf}
use Rattle.typed_runs.proofs.Assigned.{all_in_heap}
use Rattle.typed_runs.proofs.Callees.{method_is}
use Rattle.typed_runs.proofs.Calling.{StaysAfter, Leaves, runs_goes, receiver_goes}
use Rattle.typed_runs.proofs.Here.{Here, operands_here, worked, gives_goes}
use Rattle.typed_runs.proofs.Initialisers.{all_become, units_become, finds_own, own_method_class, not_polymorphic, Uninitialised, uninitialised_object}
use Rattle.typed_runs.proofs.InstanceCalls.{object_goes, conforming_goes}
use Rattle.typed_runs.proofs.Kept.{keeps_same}
use Rattle.typed_runs.proofs.LookedUp.{LookUps, LookedUp, looked_up, same_desc}
use Rattle.typed_runs.proofs.HereMethods.{headers_here}
use Rattle.typed_runs.proofs.SpecialCalls.{lowest_receiver}
use Rattle.typed_runs.specs.Conforming.{IsValueInHeap, HasShape, AllConform, no_values, UnitsConform}
use Rattle.typed_runs.specs.TypedPrograms.{Typings, IsTypedProgram}
use Rattle.typed_runs.specs.TypedWorlds.{StaysTyped}

-- ---- the initialiser

-- the reference to an instance initialiser is that to the method that it finds
pub record Own (P : Program) (r : Reference) (m : Declared) : Type 0 where
  pub class : m.class ≡ r.class
  pub desc : m.member.desc ≡ r.desc
  pub reference : reference_to m ≡ r
  pub method : method_of P r ≡ Some m.member

pub own_initialiser : (P : Program) (T : Typings) → IsTypedProgram P T → LookUps → (r : Reference) → r.name ≡ init
    → (l : LookedUp P IsInstanceForm r) → Own P r l.method
own_initialiser P T program laws r is l =
    let class : l.method.class ≡ r.class = own_method_class (headers_in P) r.class r.name r.desc l.method (sym (finds_own l.finds is)) in
    let desc : l.method.member.desc ≡ r.desc = same_desc program laws l (not_polymorphic P r is) in
    let same : reference_to l.method ≡ r =
    ap (λ c. record { class = c; name = l.method.member.name; desc = l.method.member.desc }) class
    ∙ (ap (λ n. record { class = r.class; name = n; desc = l.method.member.desc }) l.is.same_name ∙ ap
    (λ d. record { class = r.class; name = r.name; desc = d }) desc) in
    record {
      class = class;
      desc = desc;
      reference = same;
      method = subst (λ (x : Reference). method_of P x ≡ Some l.method.member) same (method_is P l.method l.is.declares);
    }

pub found_itself : (P : Program) (r : Reference) (m : Declared) → r.name ≡ init → method_of P r ≡ Some m.member
    → found_special P r ≡ Some r
found_itself P r m is method = let yes : bytes_eq r.name init ≡ true = (bytes_eq-Decides r.name init).1 is in rw yes (rw method refl)

abbrev pub choice_by : Reference → Bool → Chosen
choice_by r true = abstract_method
choice_by r false = chosen r

pub chosen_itself : (P : Program) (r x : Reference) (from : Name) → r.name ≡ init → special_choice P from r ≡ chosen x → r ≡ x
chosen_itself P r x from is same = by (has_flag (method_of P r) ABSTRACT) (rw yes at same) where
  yes : bytes_eq r.name init ≡ true
  yes = (bytes_eq-Decides r.name init).1 is

  by : (b : Bool) → choice_by r b ≡ chosen x → r ≡ x
  by true e = cc
  by false e = reference_of e where
    reference_of : chosen r ≡ chosen x → r ≡ x
    reference_of e = cc

pub first_behind : {A : Type 0} (Q : A → Type 0) (xs : List A) (k : ℕ) (t : A) (ts : List A) → AllByRecursion Q xs → drop k xs ≡ t ∷ ts
    → Q t
first_behind Q [] zero t ts all is = cc
first_behind Q [] (suc k) t ts all is = cc
first_behind Q (x ∷ xs) zero t ts all is = let same : x ≡ t = cc in subst Q same all.0
first_behind Q (x ∷ xs) (suc k) t ts all is = first_behind Q xs k t ts all.1 is

-- where this is not initialised, the rows read the class of the method
pub current_class : {one other : Name} (locals stack : List VType) (t : VType) (ts : List VType) (n : ℕ)
    → (one ≡ other) ⊎ (NoUninitThis locals × NoUninitThis stack) → topmost n stack ≡ t ∷ ts → t ≡ types.UninitThis → one ≡ other
current_class locals stack t ts n (inl e) are this = e
current_class locals stack t ts n (inr none) are this =
    absurd (first_behind (λ x. x ≢ types.UninitThis) stack (length stack - n) t ts none.1 are this)

module _ {P : Program} {T : Typings} {w : World} {f : MethodState} {rest : List RunFrame} {s : RowScope} {frame : Frame} {place : ℕ}
    {numbered : ℕ → ℕ} (laws : LookUps) (r : Reference) (from : Name)
    (h : Here P T w f rest s frame place numbered (access_aside (init_row s frame r)) (call_special r from) true []) where
  -- the instance initialiser of java/lang/Object does nothing, and another one is called
  pub initialises : (is : r.name ≡ init) (l : LookedUp P IsInstanceForm r) (own : Own P r l.method) (t : VType) (v : Value)
      (args : List Value) (u : Uninitialised P s (T f.at).scope w.memory.heap r t v) → AreArguments P w.memory.heap r.desc args
      → result_of r.desc ≡ None
      → Leaves P T w f frame (access_aside (init_row s frame r)) (call_special r from) (stack_under uninitialised r f) (v ∷ args)
      → StaysAfter P T w f rest (stack_under uninitialised r f) (special_on P w.memory r from r (v ∷ args) u.object.shape)
  initialises is l own t v args u are void leaves = by (is_object_init r) where
    stack : List Value
    stack = stack_under uninitialised r f

    runs : is_external u.object.shape ≡ false → is_polymorphic P r ≡ false → (x : Reference) → special_choice P from r ≡ chosen x
        → StaysAfter P T w f rest stack (run_call P x (v ∷ args))
    runs inside single x e =
        let folder = u.of_folder inside in
        let has : HasShape w.memory.heap u.reference (shapes.Folder folder.0) =
        record { object = u.object; is_there = u.is_there; same = folder.1 } in
        let begins : BeginsWith P w.memory.heap l.method (values.Ref u.reference ∷ args) =
        begins_initialiser P w.memory.heap l.method u.reference folder.0 args l.form (l.is.same_name ∙ is) has
        (subst (λ n. P.links.below (name_of_class P folder.0) n ≡ true) (sym own.class) folder.2)
        (subst (λ d. AreArguments P w.memory.heap d args) (sym own.desc) are) in
        subst (λ y. StaysAfter P T w f rest stack (run_call P y (v ∷ args))) (own.reference ∙ chosen_itself P r x from is e)
        (runs_goes h stack (v ∷ args) leaves l.method (record {
          declares = l.is.declares;
          no_clinit = l.no_clinit;
          call = own.desc;
          begins = subst (λ y. BeginsWith P w.memory.heap l.method (y ∷ args)) (sym u.is) begins;
        }))

    by : (b : Bool) → StaysAfter P T w f rest stack
        (if b then gives w.memory [] else on_receiver P u.object.shape r r (special_choice P from r) (v ∷ args))
    by true =
        gives_goes h (length (uninitialised ∷ argument_needs r.desc)) w.memory
        (keeps_same w.memory.heap) h.typed.memory [] h.next leaves.locals leaves.under
        (subst (λ o. AllConform P (T f.at).scope w.memory.heap (result_types o) []) (sym void) no_values)
    by false = receiver_goes h stack (v ∷ args) leaves u.object.shape r r (special_choice P from r) runs

  pub init_stays : r.name ≡ init → IsNamedThere (headers_in P) r.class → result_of r.desc ≡ None
      → class_named (headers_in P) s.own.name ≡ Some s.own → StaysTyped P T w (op_step P w f rest (call_special r from))
  init_stays is there void header =
      let l = looked_up P T h.typed.program laws IsInstanceForm r h.linked in
      let own = own_initialiser P T h.typed.program laws r is l in
      let o = operands_here h in
      let c = received P T h.typed.program s (headers_here h) uninitialised r.desc
      (topmost (length (uninitialised ∷ argument_needs r.desc)) frame.stack) h.holds.operands o.values in
      let low : receiver frame r.desc ≡ c.type = lowest_receiver uninitialised frame r.desc c.type c.others c.are_types in
      let class_there : IsThere (headers_in P) r.class = subst (λ x. IsThere (headers_in P) x) own.class (rw l.is.declares.found refl) in
      let u = uninitialised_object P T h.typed.program s (T f.at).scope w.memory.heap r c.type c.receiver c.fits
      (subst (MayInitialise s r) low h.holds.further) c.conforms h.reads.news
      (λ this. current_class frame.locals frame.stack c.type c.others
      (length (uninitialised ∷ argument_needs r.desc)) h.reads.own c.are_types this) header class_there h.typed.memory.objects in
      let leaves : Leaves P T w f frame (access_aside (init_row s frame r)) (call_special r from) (stack_under uninitialised r f)
      (c.receiver ∷ c.args) = record {
        locals = subst (λ t. UnitsConform P (T f.at).scope w.memory.heap (map (initialised_type s r t) frame.locals) f.locals) (sym low)
            (units_become (initialised_type s r c.type) u.becomes u.top h.locals);
        under = subst (λ t. AllConform P (T f.at).scope w.memory.heap
            (map (initialised_type s r t) (under (length (uninitialised ∷ argument_needs r.desc)) frame.stack))
            (reverse (stack_under uninitialised r f))) (sym low)
            (all_become (initialised_type s r c.type) u.becomes o.rest);
        shows = refl;
        in_heap = subst (λ vs. AllByRecursion (IsValueInHeap w.memory.heap) vs) c.are (all_in_heap o.values);
      } in
      let object : ObjectOf P w.memory.heap r.class c.receiver =
      record { reference = u.reference; is = u.is; object = u.object; is_there = u.is_there; conforms = u.conforms } in
      let static : has_flag (method_of P r) STATIC ≡ false = ap (λ m. has_flag m STATIC) own.method ∙ l.form in
      let stack : List Value = stack_under uninitialised r f in
      worked h (length (uninitialised ∷ argument_needs r.desc)) (with_receiver_needs uninitialised r.desc) o.enough
      (subst (λ vs. StaysAfter P T w f rest (stack_under uninitialised r f) (call_special_work P w.memory r from vs)) (sym c.are)
      (subst (λ found. StaysAfter P T w f rest (stack_under uninitialised r f)
      (call_found_special P w.memory r from found (c.receiver ∷ c.args))) (sym (found_itself P r l.method is own.method))
      (rw static
      (object_goes h stack r.desc (if_conforms P r (special_on P w.memory r from r (c.receiver ∷ c.args))) c.receiver c.args object
      (arguments_kinds (parameters_of r.desc) (c.arguments s))
      (conforming_goes h stack r (special_on P w.memory r from r (c.receiver ∷ c.args)) object there
      (initialises is l own c.type c.receiver c.args u c.arguments void leaves))))))
