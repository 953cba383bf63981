-- The candidates of simple commands stay plain: each expression has a sure outcome there.
use Rattle.std.proofs.Common.{◌≡◌, ◌⊎◌, inl, inr, ℕ, ◌+◌, ◌≤◌, ℤ, List, [], ◌∷◌, ◌++◌, map, Bool, true, not, ◌||◌, Option, Some, None, refl, sym, ap, subst, ◌∙◌}
use Rattle.std.specs.Prelude.{codes}
use Rattle.std.specs.List.{list_all}
use Rattle.std.specs.Str.{bytes_eq}
use Rattle.std.proofs.lemmas.Bool.{and_parts}
use Rattle.std.proofs.lemmas.List.{append-nil}
use Rattle.gil_values.specs.declared.places.Place.{Place}
use Rattle.gil_values.specs.Pure.{PureValue}
use Rattle.gil_syntax.specs.Pure.{PureParts, PureExpr, PureNumberedCommand, assign, call, act, ifgoto, return, throw, fail}
use Rattle.gil_syntax.specs.Simple.{is_literal as is_literal_expr, is_simple_value, is_simple_guard}
use Rattle.gil_syntax.specs.Subexpressions.{exprs_of}
use Rattle.gil_syntax.specs.Valid.{IsValid}
use Rattle.mem_model.specs.Heaps.{Heap}
use Rattle.gil_machine.specs.Step.{handler_label}
use Rattle.pure_terms.specs.Pure.{PureTerm}
use Rattle.sym_engine.specs.Lawful.{AddsCopies}
use Rattle.sym_engine.specs.Plain.{AreAllPlain, StayPlainIn, StayPlain}
use Rattle.sym_engine.proofs.Copied.{each_itself, joined}
use Rattle.sym_engine.proofs.Literal.{literal_sizes, sure_with, literal_sure, literal_is_simple}
use Rattle.sym_engine.proofs.Plain.{within_held_numbers, copies_plain, sure_plain, assigns_plain, fails_plain, returns_plain, throws_plain, turned, calls_plain, branches_plain, acts_each}
use Rattle.sym_engine.proofs.Texts.{command_texts, first_text, later_texts}
use Rattle.sym_evaluation.specs.Plainly.{IsPlain, IsPlainStore, text_bound, has_text_numbers, IsSureFault, IsSureResult, AnswersPlainly, AllAnswerPlainly, IsPlainGuard, GuardsPlainly, AreDecided}
use Rattle.sym_evaluation.specs.Pure.{PureFaultCase, PureGoodCase, PureCases, PureSides}
use Rattle.sym_evaluation.specs.Questions.{IsTermOf, AreTermsOf, OnResult}
use Rattle.sym_model.specs.Laws.{ActsPlainly}
use Rattle.sym_model.specs.Lists.{Each}
use Rattle.sym_model.specs.Pure.{PureBranch}
use Rattle.sym_model.specs.Terms.{StateTerms}
use Rattle.sym_model.proofs.ListLaws.{same_some, not_none}
use Rattle.sym_paths.specs.Meaning.{command_of_path}
use Rattle.sym_paths.specs.Moves.{running_store}
use Rattle.sym_paths.specs.Pure.{PurePath}
use Rattle.sym_paths.specs.Settling.{Candidate}
use Rattle.sym_paths.specs.Steps.{step_growth, narrow_bound, IsPlainPath}
use Rattle.sym_paths.specs.Valued.{faulted, Assigns, Fails, IsResult}
use Rattle.sym_paths.proofs.Moving.{running_each}
use Rattle.sym_paths.specs.Acting.{ActsAsEach}
use Rattle.sym_paths.specs.Calls.{Calls, call_cases}
use Rattle.sym_paths.specs.Cases.{AreResults}
use Rattle.sym_paths.specs.Copies.{AreCopied}
use Rattle.sym_paths.specs.Guards.{turns}
use Rattle.sym_paths.specs.Returns.{Returns}
use Rattle.sym_paths.specs.Throws.{Throws}

module _ {S : Type 0} (stands : S → List PureValue → Heap → Type 0) (terms : S → StateTerms) (depends : S → List ℕ → List PureTerm → List PureValue → Heap → PureTerm → Type 0) (plain : S → ℤ → ℤ → Type 0)
    (path : PurePath S) (here : Place) where
  abbrev Faults : List PureFaultCase → List (Candidate S)
  Faults faults = map (faulted path here) faults

  abbrev Copies : List (Candidate S) → List (Candidate S) → Type 0
  Copies = AreCopied stands terms depends plain

  whole : (faults : List PureFaultCase) (before last : List (Candidate S)) → Copies (Faults faults) before → Copies (Faults faults ++ last) (before ++ last)
  whole faults before last copies = joined stands terms depends plain (Faults faults) before last last copies (each_itself stands terms depends plain last)

  store_of : (b : ℕ) → IsPlainPath plain b path → IsPlainStore b (running_store path.stack)
  store_of b from = running_each (IsPlain b) path.stack from.stores

  -- ---- commands of one expression

  module _ (e : PureExpr) (cases : PureCases PureTerm) (before last : List (Candidate S)) (copies : Copies (Faults cases.faults) before) where
    sure : (p : PureParts) (c : PureNumberedCommand) (b : ℕ) → AnswersPlainly (running_store path.stack) e cases → IsValid p → command_of_path p path ≡ Some c → exprs_of c.command ≡ e ∷ [] → is_simple_value e ≡ true → b + step_growth ≤ narrow_bound → IsPlainPath plain b path
        → IsSureFault cases ⊎ IsSureResult (IsPlain (b + text_bound)) cases
    sure p c b answers valid at expression simple small from = answers b (within_held_numbers b small) (store_of b from) simple (first_text (exprs_of c.command) e [] expression (command_texts p path.stack c valid at))

    pub assign_plain : (x : List ℕ) → AnswersPlainly (running_store path.stack) e cases → IsResult (Assigns path x) cases.good last → StayPlain plain path (assign x e) (before ++ last)
    assign_plain x answers result p c b valid at command simple small from =
        copies_plain stands terms depends plain (b + step_growth) (Faults cases.faults ++ last) (before ++ last)
        (assigns_plain plain b path from here x cases last (sure p c b answers valid at (ap exprs_of command) simple small from) result) (whole cases.faults before last copies)

    pub fail_plain : AnswersPlainly (running_store path.stack) e cases → IsResult (Fails path here) cases.good last → StayPlain plain path (fail e) (before ++ last)
    fail_plain answers result p c b valid at command simple small from =
        copies_plain stands terms depends plain (b + step_growth) (Faults cases.faults ++ last) (before ++ last)
        (fails_plain plain b path from here cases last (sure p c b answers valid at (ap exprs_of command) simple small from) result) (whole cases.faults before last copies)

    pub return_plain : AnswersPlainly (running_store path.stack) e cases → AreResults (Returns path path.stack) cases.good last → StayPlain plain path (return e) (before ++ last)
    return_plain answers result p c b valid at command simple small from =
        copies_plain stands terms depends plain (b + step_growth) (Faults cases.faults ++ last) (before ++ last)
        (returns_plain plain b path from here cases last (sure p c b answers valid at (ap exprs_of command) simple small from) result) (whole cases.faults before last copies)

    pub throw_plain : AnswersPlainly (running_store path.stack) e cases → AreResults (Throws path here path.stack) cases.good last → StayPlain plain path (throw e) (before ++ last)
    throw_plain answers result p c b valid at command simple small from =
        copies_plain stands terms depends plain (b + step_growth) (Faults cases.faults ++ last) (before ++ last)
        (throws_plain plain b path from here cases last (sure p c b answers valid at (ap exprs_of command) simple small from) result) (whole cases.faults before last copies)

  -- ---- guards

  abbrev NoResult : PureGoodCase PureTerm → List (Candidate S) → Type 0
  NoResult g ds = ⊥

  module _ (e : PureExpr) (label : ℤ) where
    guard_sure : (p : PureParts) (c : PureNumberedCommand) (b : ℕ) (cases : PureCases PureTerm) → GuardsPlainly (running_store path.stack) e cases → IsValid p → command_of_path p path ≡ Some c → c.command ≡ ifgoto e label → is_simple_guard e ≡ true → b + step_growth ≤ narrow_bound
        → IsPlainPath plain b path → IsSureFault cases ⊎ IsSureResult (IsPlainGuard (b + text_bound)) cases
    guard_sure p c b cases answers valid at command simple small from =
        answers b (within_held_numbers b small) (store_of b from) simple (first_text (exprs_of c.command) e [] (ap exprs_of command) (command_texts p path.stack c valid at))

    pub guard_none : (cases : PureCases PureTerm) (before : List (Candidate S)) → Copies (Faults cases.faults) before → GuardsPlainly (running_store path.stack) e cases → cases.good ≡ None → StayPlain plain path (ifgoto e label) before
    guard_none cases before copies answers none p c b valid at command simple small from =
        let no_result : AreResults NoResult cases.good [] = subst (λ o. AreResults NoResult o []) (sym none) refl in
        copies_plain stands terms depends plain (b + step_growth) (Faults cases.faults) before
        (subst (AreAllPlain plain (b + step_growth)) (append-nil (Faults cases.faults))
        (sure_plain plain b path from here (IsPlainGuard (b + text_bound)) NoResult cases [] (guard_sure p c b cases answers valid at command simple small from) no_result (λ t fine ds made. absurd made)))
        copies

    turned_all : (b : ℕ) → IsPlainPath plain b path → (faults : List PureFaultCase) (g : PureGoodCase PureTerm) (t : PureTerm) (sides : PureSides) → ((n : ℕ) → IsPlainGuard n g.result → t ≡ g.result) → AreDecided t sides
        → IsSureFault (record { faults = faults; good = Some g }) ⊎ IsSureResult (IsPlainGuard (b + text_bound)) (record { faults = faults; good = Some g })
        → AreAllPlain plain (b + step_growth) (Faults faults ++ turns path label here (record g { result = t }) sides)
    turned_all b from faults g t sides same decided (inl (f, is)) = not_none (sym (ap (λ (k : PureCases PureTerm). k.good) is))
    turned_all b from faults g t sides same decided (inr (x, (is, fine))) =
        let no_fault : faults ≡ [] = ap (λ (k : PureCases PureTerm). k.faults) is in
        let is_case : g ≡ record { conds = []; result = x } = same_some (ap (λ (k : PureCases PureTerm). k.good) is) in
        let term : t ≡ x = same (b + text_bound) (subst (λ (k : PureGoodCase PureTerm). IsPlainGuard (b + text_bound) k.result) (sym is_case) fine) ∙ ap (λ (k : PureGoodCase PureTerm). k.result) is_case in
        let guard : record g { result = t } ≡ record { conds = []; result = x } = λ i. record { conds = (is_case i).conds; result = term i } in
        subst (λ fs. AreAllPlain plain (b + step_growth) (Faults fs ++ turns path label here (record g { result = t }) sides)) (sym no_fault)
        (turned plain b path from here label x sides (turns path label here (record g { result = t }) sides) (decided.conditions (b + text_bound) (subst (IsPlainGuard (b + text_bound)) (sym term) fine))
        (ap (λ k. turns path label here k sides) guard))

    pub guard_some : (faults : List PureFaultCase) (g : PureGoodCase PureTerm) (t : PureTerm) (sides : PureSides) (before all : List (Candidate S)) → Copies (Faults faults) before
        → AddsCopies stands terms depends plain (turns path label here (record g { result = t }) sides) before all → GuardsPlainly (running_store path.stack) e (record { faults = faults; good = Some g })
        → ((n : ℕ) → IsPlainGuard n g.result → t ≡ g.result) → AreDecided t sides → StayPlain plain path (ifgoto e label) all
    guard_some faults g t sides before all copies adds answers same decided p c b valid at command simple small from =
        copies_plain stands terms depends plain (b + step_growth) (Faults faults ++ turns path label here (record g { result = t }) sides) all
        (turned_all b from faults g t sides same decided (guard_sure p c b (record { faults = faults; good = Some g }) answers valid at command simple small from)) (adds (Faults faults) copies)

  -- ---- calls and actions

  pub call_plain : (p : PureParts) (callee : PureCases PureTerm) (args : PureCases (List PureTerm)) (before last : List (Candidate S)) → Copies (Faults (call_cases callee args).faults) before → (x : List ℕ) (e : PureExpr) (es : List PureExpr) (handler : Option ℤ)
      → OnResult (IsTermOf (running_store path.stack) e) callee.good → AnswersPlainly (running_store path.stack) e callee → AllAnswerPlainly (running_store path.stack) es args → AreResults (Calls path x (handler_label handler) here p) (call_cases callee args).good last
      → StayPlainIn plain p path (call x e es handler) (before ++ last)
  call_plain p callee args before last copies x e es handler origin answers all_answer result c b valid at command simple small from =
      let texts : list_all has_text_numbers (exprs_of c.command) ≡ true = command_texts p path.stack c valid at in
      let (literal_callee, simple_args) = and_parts (is_literal_expr e) (list_all is_simple_value es) simple in
      copies_plain stands terms depends plain (b + step_growth) (Faults (call_cases callee args).faults ++ last) (before ++ last)
      (calls_plain plain b path from here p x (handler_label handler) callee args last
      (literal_sure (running_store path.stack) e callee literal_callee (IsPlain (b + text_bound)) origin
      (answers b (within_held_numbers b small) (store_of b from) (literal_is_simple e literal_callee) (first_text (exprs_of c.command) e es (ap exprs_of command) texts)))
      (all_answer b (within_held_numbers b small) (store_of b from) simple_args (later_texts (exprs_of c.command) e es (ap exprs_of command) texts)) result)
      (whole (call_cases callee args).faults before last copies)

  -- the branches are plain ones
  abbrev pub ActsInPlain : Bool → List ℕ → List ℕ → PureGoodCase (List PureTerm) → List (Candidate S) → Type 0
  ActsInPlain takes x action g ds = (bs : List (PureBranch S)) × (ActsPlainly plain action g.result path.memory bs × ActsAsEach path x here takes g bs ds)

  pub act_plain : (takes : Bool) (cases : PureCases (List PureTerm)) (before last : List (Candidate S)) → Copies (Faults cases.faults) before → (x action : List ℕ) (es : List PureExpr) → OnResult (AreTermsOf (running_store path.stack) es) cases.good
      → AllAnswerPlainly (running_store path.stack) es cases → AreResults (ActsInPlain takes x action) cases.good last → StayPlain plain path (act x action es) (before ++ last)
  act_plain takes cases before last copies x action es origin answers result p c b valid at command simple small from =
      let (sized, simple_args) = and_parts (list_all (λ d. is_literal_expr d || not (bytes_eq action (codes "alloc"))) es) (list_all is_simple_value es) simple in
      let texts : list_all has_text_numbers es ≡ true = subst (λ ds. list_all has_text_numbers ds ≡ true) (ap exprs_of command) (command_texts p path.stack c valid at) in
      copies_plain stands terms depends plain (b + step_growth) (Faults cases.faults ++ last) (before ++ last)
      (sure_plain plain b path from here (λ ts. AreTermsOf (running_store path.stack) es ts × Each (IsPlain (b + text_bound)) ts) (ActsInPlain takes x action) cases last
      (sure_with (Each (IsPlain (b + text_bound))) (AreTermsOf (running_store path.stack) es) cases origin (answers b (within_held_numbers b small) (store_of b from) simple_args texts)) result
      (λ ts fine ds (bs, (plainly, each)).
      acts_each plain b path from here x action takes ts fine.1 (λ is. literal_sizes action (running_store path.stack) es ts sized is fine.0) bs ds
      (branches_plain plain b path from here x action takes ts fine.1 (λ is. literal_sizes action (running_store path.stack) es ts sized is fine.0) bs plainly) each))
      (whole cases.faults before last copies)
