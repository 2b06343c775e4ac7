-- A method that a class file and a grown one share: its typing, what it means to the machine, and what linking asks of it.
use Rattle.std.proofs.Common.{◌≡◌, ◌∙◌, ◌++◌, ℕ, Bool, List, [], ◌∷◌, slice_get, Option, Some, None, option_map, refl, sym, ap, subst}
use Rattle.std.specs.List.{AllByRecursion}
use Rattle.class_model.specs.Checks.{AllHold, asked_each}
use Rattle.class_model.specs.Code.{OperandFits}
use Rattle.class_model.specs.Header.{header_of, method_member}
use Rattle.class_model.specs.Instructions.{decoded}
use Rattle.class_model.specs.Laws.Checks.{both_hold, first_holds, others_hold}
use Rattle.class_model.specs.MethodCode.{code_of}
use Rattle.class_model.specs.Methods.{entry_of, home_of}
use Rattle.class_model.specs.Pool.{Constants}
use Rattle.class_model.specs.PoolChecks.{entries_checks}
use Rattle.class_model.specs.Stated.{stated_in}
use Rattle.class_model.specs.declared.class_file.Attr.{Attr}
use Rattle.class_model.specs.declared.class_file.Attr.TheVariants.{Raw, Code}
use Rattle.class_model.specs.declared.class_file.ClassFile.{ClassFile}
use Rattle.class_model.specs.declared.class_file.CodePart.{CodePart}
use Rattle.class_model.specs.declared.class_file.Method.{Method}
use Rattle.class_model.specs.declared.frame.Frame.{Frame}
use Rattle.class_model.specs.declared.frame.PlacedFrame.{PlacedFrame}
use Rattle.class_model.specs.declared.header.Header.{Header}
use Rattle.class_model.specs.declared.header.Member.{Member}
use Rattle.class_model.specs.declared.instr.Instr.{Instr}
use Rattle.class_tree.specs.Headers.{Headers, IsClassFile, Name}
use Rattle.class_tree.specs.Laws.Alike.{alike_shapes}
use Rattle.member_link.specs.Bodies.{asked_access}
use Rattle.member_link.specs.BodyTyping.{RowHolds}
use Rattle.member_link.specs.Declarations.{Site, site_of}
use Rattle.member_link.specs.Machine.Classes.{run_method_of}
use Rattle.member_link.specs.Machine.Codes.{instr_op, method_code}
use Rattle.member_link.specs.Machine.Programs.{Code as RunCode, Links, RunMethod}
use Rattle.member_link.specs.RowScope.{RowScope}
use Rattle.member_link.specs.Rows.Row.{row_frame}
use Rattle.member_link.specs.Rows.Table.{row_of}
use Rattle.member_link.specs.Scope.{scope_of}
use Rattle.member_link.specs.Uses.{UseScope, attr_checks, code_use_checks, frame_checks, handler_use_checks, instr_use_checks, instrs_checks}
use Rattle.type_rules.proofs.Grown.Asked.{class_asked, code_asked, codes_asked, names_asked}
use Rattle.type_rules.proofs.Grown.Codes.{FramesKept, IsAskedAttr, IsAskedClass, IsAskedCode, IsAskedNames, code_typed, entry_same, grown_file, member_same, stated_same}
use Rattle.type_rules.proofs.Grown.Files.{grown_is, header_grown}
use Rattle.type_rules.proofs.Grown.Links.{code_still, frames_still, handlers_still, instr_still, now_uses, then_uses}
use Rattle.type_rules.proofs.Grown.Methods.{FindAlike, looks_up}
use Rattle.type_rules.proofs.Grown.Headers.{grown_alike}
use Rattle.type_rules.proofs.Grown.Operands.{operands_still}
use Rattle.type_rules.proofs.Grown.Operations.{code_same, op_same}
use Rattle.type_rules.proofs.Grown.Pools.{operands_read}
use Rattle.type_rules.proofs.Grown.Rows.{KeepsRow, asked_kept, left_same, row_held}
use Rattle.type_rules.proofs.Grown.Table.{ReadsSame, row_kept}
use Rattle.type_rules.specs.Grown.{AreGrownHeaders, IsGrownClass, IsGrownHeader}
use Rattle.type_rules.specs.Typed.{Typed}
use Rattle.type_rules.specs.Verified.{TypesMethod}

-- ---- an instruction, whose constants stand in the pool

module _ (old new : ClassFile) (is : IsClassFile old) (grown : IsGrownClass old new) (max_locals : ℕ) (instr : Instr) (fits : OperandFits old.pool old.major max_locals instr) where
  constants : AllHold (entries_checks old.major old.pool 10 old.pool)
  constants = (class_asked old is).constants

  pub operands_kept : OperandFits new.pool new.major max_locals instr
  operands_kept =
      subst (λ (c : ClassFile). OperandFits c.pool c.major max_locals instr) (sym (grown_is old new is grown))
      (operands_still old.major old.pool grown.more 10 constants old.major max_locals instr fits)

  pub op_still : (links : Links) (numbers : ℕ → ℕ) (s : RowScope) (after : Headers) (own : Header) → AreGrownHeaders s.headers after
      → IsGrownHeader s.own own
      → s.pool ≡ old.pool
      → instr_op links numbers (record s { headers = after; own = own; pool = new.pool }) instr ≡ instr_op links numbers s instr
  op_still links numbers s after own headers grows of_pool =
      ap (λ (p : Constants). instr_op links numbers (record s { headers = after; own = own; pool = p }) instr) grown.pool
      ∙ op_same old.major old.pool grown.more 10 constants links numbers s after own headers grows max_locals instr fits
      ∙ ap (λ (p : Constants). instr_op links numbers (record s { pool = p }) instr) (sym of_pool)

  module _ (find : FindAlike) (before after : Headers) (headers : AreGrownHeaders before after) where
    pub instr_linked : (site : Site) → AllHold (instr_use_checks (record { headers = before; pool = old.pool; site = site }) instr)
        → AllHold (instr_use_checks (record { headers = after; pool = new.pool; site = site }) instr)
    instr_linked site h =
        subst (λ (pool : Constants). AllHold (instr_use_checks (record { headers = after; pool = pool; site = site }) instr)) (sym grown.pool)
        (instr_still old.major old.pool grown.more 10 constants before after headers (looks_up find before after headers) site max_locals instr fits h)

  module _ (find : FindAlike) (s : RowScope) (after : Headers) (own : Header) (headers : AreGrownHeaders s.headers after) (grows : IsGrownHeader s.own own)
      (of_pool : s.pool ≡ old.pool) (f : Frame) (place : ℕ) where
    abbrev now : RowScope
    now = record s { headers = after; own = own; pool = new.pool }

    kept : KeepsRow (row_of s f place instr) (row_of now f place instr)
    kept =
        let reads : ReadsSame s.pool new.pool instr =
        subst (λ (p : Constants). ReadsSame p new.pool instr) (sym of_pool)
        (subst (λ (p : Constants). ReadsSame old.pool p instr) (sym grown.pool) (operands_read old.major old.pool grown.more 10 constants old.major max_locals instr fits)) in
        row_kept s after own new.pool headers grows (looks_up find s.headers after headers) f place instr reads

    pub row_still : (asks : Bool) → RowHolds s f (asked_access asks (row_of s f place instr)) → RowHolds now f (asked_access asks (row_of now f place instr))
    row_still asks held = row_held f (asked_kept asks kept) s now (alike_shapes s.headers after (grown_alike s.headers after headers)) refl held

    pub left_still : row_frame f (row_of now f place instr) ≡ row_frame f (row_of s f place instr)
    left_still = left_same f kept

-- ---- a method

module _ (old new : ClassFile) (is : IsClassFile old) (grown : IsGrownClass old new) (number : ℕ) (method : Method) (there : slice_get old.methods number ≡ Some method) where
  asked : IsAskedClass old
  asked = class_asked old is

  names : IsAskedNames old.pool method
  names = names_asked old is number method there

  abbrev file : ClassFile
  file = grown_file old grown.more new.fields new.methods asked

  same_file : new ≡ file
  same_file = grown_is old new is grown

  grows : IsGrownHeader (header_of old) (header_of file)
  grows = subst (λ (c : ClassFile). IsGrownHeader (header_of old) (header_of c)) same_file (header_grown old new is grown)

  same_member : method_member new.pool method ≡ method_member old.pool method
  same_member =
      ap (λ (c : ClassFile). method_member c.pool method) same_file ∙ member_same old grown.more new.fields new.methods asked method names

  -- where it stands
  pub site_kept : site_of (header_of new) (method_member new.pool method) ≡ site_of (header_of old) (method_member old.pool method)
  site_kept =
      let at : Name → Member → Site = λ class member. record { class = class; member = member } in
      ap (λ (class : Name). at class (method_member new.pool method)) (header_grown old new is grown).alike.same_name
      ∙ ap (at (header_of old).name) same_member

  pub entry_kept : (part : CodePart) → entry_of (home_of new) method part ≡ entry_of (home_of old) method part
  entry_kept part =
      ap (λ (c : ClassFile). entry_of (home_of c) method part) same_file ∙ entry_same old grown.more new.fields new.methods asked method names part

  module _ (find : FindAlike) (frames_law : FramesKept) where
    module _ (part : CodePart) (code : IsAskedCode old method part) where
      pub stated_kept : stated_in (home_of new) method part part.attrs ≡ stated_in (home_of old) method part part.attrs
      stated_kept =
          ap (λ (c : ClassFile). stated_in (home_of c) method part part.attrs) same_file
          ∙ stated_same old grown.more new.fields new.methods asked method names part code find frames_law part.attrs code.attrs

      module _ (before after : Headers) (headers : AreGrownHeaders before after) where
        pub typed_kept : (frames : List Frame) → Typed (record { headers = before; class = old; method = method; part = part }) frames
            → Typed (record { headers = after; class = new; method = method; part = part }) frames
        typed_kept frames typed =
            subst (λ (c : ClassFile). Typed (record { headers = after; class = c; method = method; part = part }) frames) (sym same_file)
            (code_typed old grown.more new.fields new.methods asked method names part code find frames_law before after headers grows frames typed)

        pub run_kept : (links : Links) → method_code links (record { headers = after; class = new; method = method; part = part })
            ≡ method_code links (record { headers = before; class = old; method = method; part = part })
        run_kept links =
            ap (λ (c : ClassFile). method_code links (record { headers = after; class = c; method = method; part = part })) same_file
            ∙ code_same old grown.more new.fields new.methods asked method names links part code find frames_law before after headers grows

        pub links_kept : (site : Site) → AllHold (code_use_checks (record { headers = before; pool = old.pool; site = site }) (home_of old) method part)
            → AllHold (code_use_checks (record { headers = after; pool = new.pool; site = site }) (home_of new) method part)
        links_kept site h =
            let alike = looks_up find before after headers in
            let uses = then_uses old.major old.pool grown.more 10 asked.constants before after headers alike site in
            let now = now_uses old.major old.pool grown.more 10 asked.constants before after headers alike site in
            let frames = stated_in (home_of old) method part part.attrs in
            let a = instrs_checks uses (decoded part.code) in
            let b = asked_each (handler_use_checks uses) part.handlers in
            let c = asked_each (frame_checks uses) frames in
            let two = first_holds (a ++ b) c h in
            let now_a = instrs_checks now (decoded part.code) in
            let now_b = asked_each (handler_use_checks now) part.handlers in
            let all = both_hold (now_a ++ now_b) (asked_each (frame_checks now) frames)
            (both_hold now_a now_b
            (code_still old.major old.pool grown.more 10 asked.constants before after headers alike site part.max_locals (decoded part.code) code.operands (first_holds a b two))
            (handlers_still old.major old.pool grown.more 10 asked.constants before after headers alike site part.handlers code.handlers (others_hold a b two)))
            (frames_still old.major old.pool grown.more 10 asked.constants before after headers alike site frames (others_hold (a ++ b) c h)) in
            let stated : AllHold (code_use_checks now (home_of file) method part) =
            subst (λ (fs : List PlacedFrame). AllHold (now_a ++ now_b ++ asked_each (frame_checks now) fs))
            (sym (stated_same old grown.more new.fields new.methods asked method names part code find frames_law part.attrs code.attrs)) all in
            subst (λ (c : ClassFile). AllHold (code_use_checks (record { headers = after; pool = c.pool; site = site }) (home_of c) method part)) (sym same_file) stated

    module _ (before after : Headers) (headers : AreGrownHeaders before after) where
      pub method_typed : (frames : Option (List Frame)) → TypesMethod (scope_of before old method) frames → TypesMethod (scope_of after new method) frames
      method_typed frames = by (code_of method.attrs) refl frames where
        by : (o : Option CodePart) → code_of method.attrs ≡ o → (frames : Option (List Frame)) → TypesMethod (scope_of before old method) frames → TypesMethod (scope_of after new method) frames
        by None e None types = rw e tt
        by None e (Some frames) types = absurd (rw e at types)
        by (Some part) e None types = absurd (rw e at types)
        by (Some part) e (Some frames) types = rw e (typed_kept part (code_asked old is number method there part e) before after headers frames (rw e at types))

      pub method_runs : (links : Links) → run_method_of links after new method ≡ run_method_of links before old method
      method_runs links =
          ap (λ (member : Member). ran member (option_map (method_code links) (scope_of after new method))) same_member
          ∙ ap (ran (method_member old.pool method)) (by (code_of method.attrs) refl)
        where
          ran : Member → Option RunCode → RunMethod
          ran member code = record { member = member; code = code }

          by : (o : Option CodePart) → code_of method.attrs ≡ o
              → option_map (method_code links) (scope_of after new method) ≡ option_map (method_code links) (scope_of before old method)
          by None e = rw e refl
          by (Some part) e = rw e (ap Some (run_kept part (code_asked old is number method there part e) before after headers links))

      -- each of its attributes is asked no more
      attrs_linked : (site : Site) (attrs : List Attr) → AllByRecursion (IsAskedAttr old method) attrs
          → AllHold (asked_each (attr_checks (record { headers = before; pool = old.pool; site = site }) (home_of old) method) attrs)
          → AllHold (asked_each (attr_checks (record { headers = after; pool = new.pool; site = site }) (home_of new) method) attrs)
      attrs_linked site [] are h = tt
      attrs_linked site (Raw name bytes ∷ attrs) are h = attrs_linked site attrs are.1 h
      attrs_linked site (Code name part ∷ attrs) are h =
          let uses : UseScope = record { headers = before; pool = old.pool; site = site } in
          let now : UseScope = record { headers = after; pool = new.pool; site = site } in
          let own = code_use_checks uses (home_of old) method part in
          let others = asked_each (attr_checks uses (home_of old) method) attrs in
          both_hold (code_use_checks now (home_of new) method part) (asked_each (attr_checks now (home_of new) method) attrs)
          (links_kept part are.0 before after headers site (first_holds own others h)) (attrs_linked site attrs are.1 (others_hold own others h))

      pub method_linked : (site : Site) → AllHold (asked_each (attr_checks (record { headers = before; pool = old.pool; site = site }) (home_of old) method) method.attrs)
          → AllHold (asked_each (attr_checks (record { headers = after; pool = new.pool; site = site }) (home_of new) method) method.attrs)
      method_linked site h = attrs_linked site method.attrs (codes_asked old is number method there) h
