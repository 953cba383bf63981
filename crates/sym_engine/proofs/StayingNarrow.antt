-- The candidates of narrow commands stay narrow: their expressions ask nothing but what has a form of the fragment.
use Rattle.std.proofs.Common.{◌≡◌, inl, inr, ℕ, ◌+◌, ◌≤◌, ℤ, pos, neg_ℤ, ◌≤ℤ◌, List, [], ◌∷◌, ◌++◌, map, Bool, true, false, not, ◌&&◌, ◌||◌, if◌then◌else◌, Option, Some, None, refl, sym, ap, subst, ◌∙◌, true≢false, arith}
use Rattle.std.specs.Prelude.{codes}
use Rattle.std.specs.List.{list_all, list_any}
use Rattle.std.specs.Option.{option_map}
use Rattle.std.specs.Str.{bytes_eq}
use Rattle.std.proofs.lemmas.Bool.{and_parts, or_parts}
use Rattle.std.proofs.lemmas.Int.{ints}
use Rattle.gil_values.specs.declared.places.Place.{Place}
use Rattle.gil_values.specs.Pure.{PureValue}
use Rattle.gil_machine.specs.Step.{handler_label}
use Rattle.gil_syntax.specs.Pure.{PureParts, PureExpr, literal as value_literal, PureCommand, PureNumberedCommand, assign, call, act, ifgoto, return, throw, fail}
use Rattle.gil_syntax.specs.Simple.{is_literal as is_literal_expr, is_simple_value, is_simple_command, has_arithmetic, is_list, has_any, has_narrow_lists, disposes, is_narrow_command, is_list_of_literals as is_list_of_literal_exprs}
use Rattle.gil_syntax.specs.Subexpressions.{subexpressions, exprs_of}
use Rattle.gil_syntax.specs.Valid.{IsValid}
use Rattle.mem_model.specs.Heaps.{Heap}
use Rattle.pure_terms.specs.Pure.{PureTerm, PureAtom}
use Rattle.sym_engine.specs.Lawful.{AddsCopies}
use Rattle.sym_engine.specs.Narrow.{narrow_growth, IsNarrow, IsNarrowPath, StayNarrowIn, StayNarrow}
use Rattle.sym_engine.proofs.Copied.{each_itself, joined}
use Rattle.sym_engine.proofs.Literal.{literal_of}
use Rattle.sym_engine.proofs.Narrow.{AreFine, IsNarrowCall, cases_narrow, faults_narrow, copies_narrow, assigns_narrow, fails_narrow, returns_narrow, throws_narrow, turns_narrow, calls_narrow, acts_narrow}
use Rattle.sym_engine.proofs.NarrowGuards.{is_guard, narrow_guard, guard_asks, guard_term, guard_stays, sides_decided}
use Rattle.sym_engine.proofs.NarrowTerms.{narrow_up, is_flat, flat_value, flat_values, flat_asks, list_asks, flat_term, flat_terms, IsListWithin, list_up, list_terms}
use Rattle.sym_engine.proofs.Plain.{atom_up, atoms_up}
use Rattle.sym_engine.proofs.Texts.{command_texts, first_text, later_texts}
use Rattle.sym_evaluation.specs.Meaning.{IsStoreOver}
use Rattle.sym_evaluation.specs.Plainly.{text_bound, has_text_numbers}
use Rattle.sym_evaluation.specs.Pure.{PureStore, PureFaultCase, PureGoodCase, PureCases, PureSides}
use Rattle.sym_evaluation.specs.Questions.{IsTermOf, AreTermsOf, IsAsked, OnResult, OnConditions, EachCondition, OnSide, EachSide, MayStandForGuard, SidesComeFrom}
use Rattle.sym_model.specs.Laws.{IsDecidedWithin}
use Rattle.sym_model.specs.Lists.{Each, OneOf}
use Rattle.sym_model.specs.Plain.{AreNarrowArguments, ActsNarrowly}
use Rattle.sym_model.specs.Pure.{PureBranch}
use Rattle.sym_model.specs.Terms.{StateTerms, is_literal}
use Rattle.sym_model.proofs.ListLaws.{each_to, each_append}
use Rattle.sym_paths.specs.Meaning.{OfEachName, IsOverTable, command_of_path}
use Rattle.sym_paths.specs.Moves.{running_store}
use Rattle.sym_paths.specs.Pure.{PurePath}
use Rattle.sym_paths.specs.Settling.{Candidate}
use Rattle.sym_paths.specs.Valued.{faulted, Assigns, Fails, IsResult, IsEvaluated}
use Rattle.sym_paths.proofs.Moving.{running_each}
use Rattle.pure_terms.specs.Meaning.{IsOver}
use Rattle.sym_paths.specs.Acting.{ActsAsEach}
use Rattle.sym_paths.specs.Calls.{fault_under, called_with, call_cases, call_cases_by, Calls}
use Rattle.sym_paths.specs.Cases.{AreResults, AreEvaluated}
use Rattle.sym_paths.specs.Copies.{AreCopied}
use Rattle.sym_paths.specs.Guards.{turns}
use Rattle.sym_paths.specs.Returns.{Returns}
use Rattle.sym_paths.specs.Throws.{Throws}

-- ---- the parts of a narrow form

not_true : (c : Bool) → not c ≡ true → c ≡ false
not_true false is = refl
not_true true is = absurd (true≢false (sym is))

-- what is said of a command of narrow form
record Parts (c : PureCommand) : Type 0 where
  pub simple : is_simple_command c ≡ true
  pub no_arithmetic : has_any has_arithmetic (exprs_of c) ≡ false
  pub lists : has_narrow_lists c ≡ true
  pub no_dispose : disposes c ≡ false

parts : (c : PureCommand) → is_narrow_command c ≡ true → Parts c
parts c narrow =
    let (three, kept) = and_parts (is_simple_command c && not (has_any has_arithmetic (exprs_of c)) && has_narrow_lists c) (not (disposes c)) narrow in
    let (two, lists) = and_parts (is_simple_command c && not (has_any has_arithmetic (exprs_of c))) (has_narrow_lists c) three in
    let (simple, plain) = and_parts (is_simple_command c) (not (has_any has_arithmetic (exprs_of c))) two in
    record { simple = simple; no_arithmetic = not_true (has_any has_arithmetic (exprs_of c)) plain; lists = lists; no_dispose = not_true (disposes c) kept }

-- the one expression of a command
one_part : (test : PureExpr → Bool) (e : PureExpr) → has_any test (e ∷ []) ≡ false → list_any test (subexpressions e) ≡ false
one_part test e none = (or_parts (list_any test (subexpressions e)) false none).0

wider : (b : ℕ) → b ≤ b + narrow_growth
wider b = omega arith

zero_above : (n : ℕ) → neg_ℤ (pos n) ≤ℤ pos 0
zero_above n = omega (arith, ints)

zero_below : (n : ℕ) → pos 0 ≤ℤ pos n
zero_below n = omega (arith, ints)

literal_flat : (e : PureExpr) → is_literal_expr e ≡ true → is_flat e ≡ true
literal_flat (value_literal v) lit = refl
literal_flat e lit = absurd (true≢false (sym lit))

-- ---- cases

none_asks : {X : Type 0} (bs : PureStore) (es : List PureExpr) (a : PureAtom) → Each (λ e. is_flat e ≡ true) es → OneOf (λ e. IsAsked bs e a) es → X
none_asks bs [] a flat asked = absurd asked
none_asks bs (e ∷ es) a flat (inl asked) = flat_asks bs e a flat.0 asked
none_asks bs (e ∷ es) a flat (inr later) = none_asks bs es a flat.1 later

no_list_asks : {X : Type 0} (bs : PureStore) (es : List PureExpr) (a : PureAtom) → list_all is_list_of_literal_exprs es ≡ true → OneOf (λ e. IsAsked bs e a) es → X
no_list_asks bs [] a lists asked = absurd asked
no_list_asks bs (e ∷ es) a lists (inl asked) = list_asks bs e a (and_parts (is_list_of_literal_exprs e) (list_all is_list_of_literal_exprs es) lists).0 asked
no_list_asks bs (e ∷ es) a lists (inr later) = no_list_asks bs es a (and_parts (is_list_of_literal_exprs e) (list_all is_list_of_literal_exprs es) lists).1 later

good_to : {X : Type 0} (P Q : PureAtom → Type 0) (o : Option (PureGoodCase X)) → ((a : PureAtom) → P a → Q a) → OnConditions P o → OnConditions Q o
good_to P Q None to each = tt
good_to P Q (Some g) to each = each_to P Q g.conds to each

result_to : {X : Type 0} (P Q : X → Type 0) (o : Option (PureGoodCase X)) → ((x : X) → P x → Q x) → OnResult P o → OnResult Q o
result_to P Q None to holds = tt
result_to P Q (Some g) to holds = to g.result holds

side_up : (b : ℕ) (o : Option (List PureAtom)) → OnSide (IsDecidedWithin (neg_ℤ (pos b)) (pos b)) o → OnSide (IsDecidedWithin (neg_ℤ (pos (b + narrow_growth))) (pos (b + narrow_growth))) o
side_up b None decided = tt
side_up b (Some conds) decided = atoms_up b (b + narrow_growth) (wider b) conds decided

conditions_to : {X : Type 0} (P Q : PureAtom → Type 0) (cases : PureCases X) → ((a : PureAtom) → P a → Q a) → EachCondition P cases → EachCondition Q cases
conditions_to P Q cases to each = (each_to (λ c. Each P c.conds) (λ c. Each Q c.conds) cases.faults (λ c conds. each_to P Q c.conds to conds) each.0, good_to P Q cases.good to each.1)

module _ {S : Type 0} (stands : S → List PureValue → Heap → Type 0) (terms : S → StateTerms) (depends : S → List ℕ → List PureTerm → List PureValue → Heap → PureTerm → Type 0) (plain : S → ℤ → ℤ → Type 0)
    (path : PurePath S) (here : Place) where
  abbrev Faults : List PureFaultCase → List (Candidate S)
  Faults faults = map (faulted path here) faults

  abbrev Copies : List (Candidate S) → List (Candidate S) → Type 0
  Copies = AreCopied stands terms depends plain

  whole : (faults : List PureFaultCase) (before last : List (Candidate S)) → Copies (Faults faults) before → Copies (Faults faults ++ last) (before ++ last)
  whole faults before last copies = joined stands terms depends plain (Faults faults) before last last copies (each_itself stands terms depends plain last)

  store_of : (b : ℕ) → IsNarrowPath terms b path → OfEachName (IsNarrow b) (running_store path.stack)
  store_of b from = running_each (IsNarrow b) path.stack from.stores

  store_over : IsOverTable terms path → IsStoreOver path.vars (running_store path.stack)
  store_over over = running_each (IsOver path.vars) path.stack over.stores

  abbrev Decided : ℕ → PureAtom → Type 0
  Decided b a = IsDecidedWithin (neg_ℤ (pos (b + narrow_growth))) (pos (b + narrow_growth)) a

  abbrev Fine : ℕ → PureTerm → Type 0
  Fine b t = IsNarrow (b + narrow_growth) t

  -- ---- commands of one expression

  -- the cases of a flat expression
  flat_cases : (b : ℕ) (enough : text_bound ≤ b) (from : IsNarrowPath terms b path) (e : PureExpr) (cases : PureCases PureTerm) → is_flat e ≡ true → has_text_numbers e ≡ true → EachCondition (IsAsked (running_store path.stack) e) cases × OnResult (IsTermOf (running_store path.stack) e) cases.good
      → AreFine terms b path from here (Fine b) cases
  flat_cases b enough from e cases flat texts origin = (
    conditions_to (IsAsked (running_store path.stack) e) (Decided b) cases (λ a asked. flat_asks (running_store path.stack) e a flat asked) origin.0,
    result_to (IsTermOf (running_store path.stack) e) (Fine b) cases.good (λ t is. narrow_up b (b + narrow_growth) (wider b) t (flat_term b enough (running_store path.stack) (store_of b from) e t flat texts is)) origin.1,
  )

  module _ (e : PureExpr) (cases : PureCases PureTerm) (before last : List (Candidate S)) (copies : Copies (Faults cases.faults) before) where
    fine : (p : PureParts) (c : PureNumberedCommand) (b : ℕ) (enough : text_bound ≤ b) (from : IsNarrowPath terms b path) → IsEvaluated (running_store path.stack) e cases → IsValid p → command_of_path p path ≡ Some c → exprs_of c.command ≡ e ∷ [] → is_simple_value e ≡ true → has_any has_arithmetic (e ∷ []) ≡ false → not (has_any is_list (e ∷ [])) ≡ true
        → AreFine terms b path from here (Fine b) cases
    fine p c b enough from evaluated valid at expression simple plain_part no_list =
        flat_cases b enough from e cases (flat_value e simple (one_part has_arithmetic e plain_part) (one_part is_list e (not_true (has_any is_list (e ∷ [])) no_list))) (first_text (exprs_of c.command) e [] expression (command_texts p path.stack c valid at)) evaluated.origin

    pub assign_narrow : (x : List ℕ) → IsEvaluated (running_store path.stack) e cases → IsResult (Assigns path x) cases.good last → StayNarrow terms path (assign x e) (before ++ last)
    assign_narrow x evaluated result p c b valid over at command narrow enough from =
        let form = parts (assign x e) narrow in
        copies_narrow stands terms depends plain (b + narrow_growth) (Faults cases.faults ++ last) (before ++ last)
        (assigns_narrow terms b path from here x cases last (fine p c b enough from evaluated valid at (ap exprs_of command) form.simple form.no_arithmetic form.lists) result) (whole cases.faults before last copies)

    pub fail_narrow : IsEvaluated (running_store path.stack) e cases → IsResult (Fails path here) cases.good last → StayNarrow terms path (fail e) (before ++ last)
    fail_narrow evaluated result p c b valid over at command narrow enough from =
        let form = parts (fail e) narrow in
        copies_narrow stands terms depends plain (b + narrow_growth) (Faults cases.faults ++ last) (before ++ last)
        (fails_narrow terms b path from here cases last (fine p c b enough from evaluated valid at (ap exprs_of command) form.simple form.no_arithmetic form.lists) result) (whole cases.faults before last copies)

    pub return_narrow : IsEvaluated (running_store path.stack) e cases → AreResults (Returns path path.stack) cases.good last → StayNarrow terms path (return e) (before ++ last)
    return_narrow evaluated result p c b valid over at command narrow enough from =
        let form = parts (return e) narrow in
        copies_narrow stands terms depends plain (b + narrow_growth) (Faults cases.faults ++ last) (before ++ last)
        (returns_narrow terms b path from here cases last (fine p c b enough from evaluated valid at (ap exprs_of command) form.simple form.no_arithmetic form.lists) result) (whole cases.faults before last copies)

    pub throw_narrow : IsEvaluated (running_store path.stack) e cases → AreResults (Throws path here path.stack) cases.good last → StayNarrow terms path (throw e) (before ++ last)
    throw_narrow evaluated result p c b valid over at command narrow enough from =
        let form = parts (throw e) narrow in
        copies_narrow stands terms depends plain (b + narrow_growth) (Faults cases.faults ++ last) (before ++ last)
        (throws_narrow terms b path from here cases last (fine p c b enough from evaluated valid at (ap exprs_of command) form.simple form.no_arithmetic form.lists) result) (whole cases.faults before last copies)

  -- ---- guards

  module _ (e : PureExpr) (label : ℤ) where
    guard_form : (form : Parts (ifgoto e label)) → is_guard e ≡ true
    guard_form form = narrow_guard e form.simple (one_part has_arithmetic e form.no_arithmetic) (one_part is_list e (not_true (has_any is_list (e ∷ [])) form.lists))

    asked_up : (b : ℕ) (a : PureAtom) → IsDecidedWithin (neg_ℤ (pos b)) (pos b) a → Decided b a
    asked_up b = atom_up b (b + narrow_growth) (wider b)

    conds_fine : (b : ℕ) (enough : text_bound ≤ b) (cases : PureCases PureTerm) → IsEvaluated (running_store path.stack) e cases → IsOverTable terms path → is_guard e ≡ true → has_text_numbers e ≡ true → IsNarrowPath terms b path → EachCondition (Decided b) cases
    conds_fine b enough cases evaluated over guard texts from =
        conditions_to (IsAsked (running_store path.stack) e) (Decided b) cases
        (λ a asked. asked_up b a (guard_asks b enough (running_store path.stack) (store_of b from) path.vars (store_over over) e a guard texts asked)) evaluated.origin.0

    pub guard_none_narrow : (cases : PureCases PureTerm) (before : List (Candidate S)) → Copies (Faults cases.faults) before → IsEvaluated (running_store path.stack) e cases → StayNarrow terms path (ifgoto e label) before
    guard_none_narrow cases before copies evaluated p c b valid over at command narrow enough from =
        let texts : has_text_numbers e ≡ true = first_text (exprs_of c.command) e [] (ap exprs_of command) (command_texts p path.stack c valid at) in
        copies_narrow stands terms depends plain (b + narrow_growth) (Faults cases.faults) before
        (faults_narrow terms b path from here cases.faults (conds_fine b enough cases evaluated over (guard_form (parts (ifgoto e label) narrow)) texts from).0) copies

    sides_up : (b : ℕ) (sides : PureSides) → EachSide (IsDecidedWithin (neg_ℤ (pos b)) (pos b)) sides → EachSide (Decided b) sides
    sides_up b sides decided = (side_up b sides.when_true decided.0, side_up b sides.when_false decided.1, side_up b sides.when_no_boolean decided.2)

    pub guard_some_narrow : (faults : List PureFaultCase) (g : PureGoodCase PureTerm) (t : PureTerm) (sides : PureSides) (before all : List (Candidate S)) → Copies (Faults faults) before
        → AddsCopies stands terms depends plain (turns path label here (record g { result = t }) sides) before all → IsEvaluated (running_store path.stack) e (record { faults = faults; good = Some g })
        → MayStandForGuard g.result t → SidesComeFrom t sides → StayNarrow terms path (ifgoto e label) all
    guard_some_narrow faults g t sides before all copies adds evaluated may come p c b valid over at command narrow enough from =
        let texts : has_text_numbers e ≡ true = first_text (exprs_of c.command) e [] (ap exprs_of command) (command_texts p path.stack c valid at) in
        let guard : is_guard e ≡ true = guard_form (parts (ifgoto e label) narrow) in
        let conds = conds_fine b enough (record { faults = faults; good = Some g }) evaluated over guard texts from in
        let form = guard_term b enough (running_store path.stack) (store_of b from) path.vars (store_over over) e (record { faults = faults; good = Some g }) g guard texts evaluated refl in
        let same : t ≡ g.result = guard_stays b g.result t form may in
        copies_narrow stands terms depends plain (b + narrow_growth) (Faults faults ++ turns path label here (record g { result = t }) sides) all
        (turns_narrow terms b path from here label faults (record g { result = t }) sides conds.0 conds.1 (sides_up b sides (sides_decided b g.result sides form (subst (λ u. SidesComeFrom u sides) same come))))
        (adds (Faults faults) copies)

  -- ---- calls

  -- the cases of a callee and arguments of which nothing is asked
  module _ (b : ℕ) (from : IsNarrowPath terms b path) where
    joined_faults : (conds : List PureAtom) (faults : List PureFaultCase) → Each (Decided b) conds → Each (λ f. Each (Decided b) f.conds) faults → Each (λ f. Each (Decided b) f.conds) (map (fault_under conds) faults)
    joined_faults conds [] first all = tt
    joined_faults conds (f ∷ faults) first all = (each_append (Decided b) conds f.conds first all.0, joined_faults conds faults first all.1)

    called_good : (g : PureGoodCase PureTerm) (o : Option (PureGoodCase (List PureTerm))) → Each (Decided b) g.conds → is_literal g.result ≡ true → OnConditions (Decided b) o → OnResult (Each (Fine b)) o
        → OnConditions (Decided b) (option_map (called_with g) o) × OnResult (IsNarrowCall terms b path from here) (option_map (called_with g) o)
    called_good g None first lit second fine = (tt, tt)
    called_good g (Some h) first lit second fine = (each_append (Decided b) g.conds h.conds first second, (lit, fine))

    call_fine : (faults : List PureFaultCase) (o : Option (PureGoodCase PureTerm)) (args : PureCases (List PureTerm)) → Each (λ f. Each (Decided b) f.conds) faults → OnConditions (Decided b) o → OnResult (λ t. is_literal t ≡ true) o → AreFine terms b path from here (Each (Fine b)) args
        → AreFine terms b path from here (IsNarrowCall terms b path from here) (call_cases_by faults o args)
    call_fine faults None args all conds lit fine = ((all, tt), tt)
    call_fine faults (Some g) args all conds lit fine =
        let good = called_good g args.good conds lit fine.0.1 fine.1 in
        ((each_append (λ f. Each (Decided b) f.conds) faults (map (fault_under g.conds) args.faults) all (joined_faults g.conds args.faults conds fine.0.0), good.0), good.1)

  -- the cases of flat arguments
  flat_arguments : (b : ℕ) (enough : text_bound ≤ b) (from : IsNarrowPath terms b path) (es : List PureExpr) (cases : PureCases (List PureTerm)) → Each (λ e. is_flat e ≡ true) es → list_all has_text_numbers es ≡ true → AreEvaluated (running_store path.stack) es cases
      → AreFine terms b path from here (Each (IsNarrow b)) cases
  flat_arguments b enough from es cases flat texts evaluated = (
    conditions_to (λ a. OneOf (λ e. IsAsked (running_store path.stack) e a) es) (Decided b) cases (λ a asked. none_asks (running_store path.stack) es a flat asked) evaluated.origin.0,
    result_to (AreTermsOf (running_store path.stack) es) (Each (IsNarrow b)) cases.good (λ ts are. flat_terms b enough (running_store path.stack) (store_of b from) es ts flat texts are) evaluated.origin.1,
  )

  pub call_narrow : (p : PureParts) (callee : PureCases PureTerm) (args : PureCases (List PureTerm)) (before last : List (Candidate S)) → Copies (Faults (call_cases callee args).faults) before → (x : List ℕ) (e : PureExpr) (es : List PureExpr) (handler : Option ℤ)
      → IsEvaluated (running_store path.stack) e callee → AreEvaluated (running_store path.stack) es args → AreResults (Calls path x (handler_label handler) here p) (call_cases callee args).good last
      → StayNarrowIn terms p path (call x e es handler) (before ++ last)
  call_narrow p callee args before last copies x e es handler evaluated all_evaluated result c b valid over at command narrow enough from =
      let form = parts (call x e es handler) narrow in
      let texts : list_all has_text_numbers (exprs_of c.command) ≡ true = command_texts p path.stack c valid at in
      let (lit, simple) = and_parts (is_literal_expr e) (list_all is_simple_value es) form.simple in
      let plain_args = (or_parts (list_any has_arithmetic (subexpressions e)) (has_any has_arithmetic es) form.no_arithmetic).1 in
      let no_lists = (or_parts (list_any is_list (subexpressions e)) (has_any is_list es) (not_true (has_any is_list (e ∷ es)) form.lists)).1 in
      let first = flat_cases b enough from e callee (literal_flat e lit) (first_text (exprs_of c.command) e es (ap exprs_of command) texts) evaluated.origin in
      let second = flat_arguments b enough from es args (flat_values es simple plain_args no_lists) (later_texts (exprs_of c.command) e es (ap exprs_of command) texts) all_evaluated in
      let widened : AreFine terms b path from here (Each (Fine b)) args = (second.0, result_to (Each (IsNarrow b)) (Each (Fine b)) args.good (λ ts fine. each_to (IsNarrow b) (Fine b) ts (narrow_up b (b + narrow_growth) (wider b)) fine) second.1) in
      copies_narrow stands terms depends plain (b + narrow_growth) (Faults (call_cases callee args).faults ++ last) (before ++ last)
      (calls_narrow terms b path from here p x (handler_label handler) (call_cases callee args) last
      (call_fine b from callee.faults callee.good args first.0.0 first.0.1 (result_to (IsTermOf (running_store path.stack) e) (λ t. is_literal t ≡ true) callee.good (λ t is. literal_of (running_store path.stack) e t lit is) evaluated.origin.1) widened) result)
      (whole (call_cases callee args).faults before last copies)

  -- ---- actions

  -- the branches are narrow ones
  abbrev pub ActsInNarrow : Bool → List ℕ → List ℕ → PureGoodCase (List PureTerm) → List (Candidate S) → Type 0
  ActsInNarrow takes x action g ds = (bs : List (PureBranch S)) × (ActsNarrowly terms action g.result path.memory bs × ActsAsEach path x here takes g bs ds)

  -- what the arguments of an action come to
  abbrev Arguments : ℕ → List ℕ → List PureTerm → Type 0
  Arguments b action ts = AreNarrowArguments action ts (neg_ℤ (pos b)) (pos b)

  module _ (b : ℕ) (enough : text_bound ≤ b) (from : IsNarrowPath terms b path) (action : List ℕ) (es : List PureExpr) (cases : PureCases (List PureTerm)) (simple : list_all is_simple_value es ≡ true) (plain_args : has_any has_arithmetic es ≡ false) (texts : list_all has_text_numbers es ≡ true) (stays : bytes_eq action (codes "dispose") ≡ false)
      (evaluated : AreEvaluated (running_store path.stack) es cases) where
    of_lists : bytes_eq action (codes "new") ≡ true → list_all is_list_of_literal_exprs es ≡ true → AreFine terms b path from here (Arguments b action) cases
    of_lists new lists = (
      conditions_to (λ a. OneOf (λ e. IsAsked (running_store path.stack) e a) es) (Decided b) cases (λ a asked. no_list_asks (running_store path.stack) es a lists asked) evaluated.origin.0,
      result_to (AreTermsOf (running_store path.stack) es) (Arguments b action) cases.good
          (λ ts are. record {
            around_zero = (zero_above b, zero_below b);
            no_dispose = stays;
            narrow = λ other. absurd (true≢false (sym new ∙ other));
            literals = λ is. each_to (IsListWithin text_bound) (IsListWithin b) ts (list_up text_bound b enough) (list_terms (running_store path.stack) es ts lists texts are);
          })
          evaluated.origin.1,
    )

    of_flat : bytes_eq action (codes "new") ≡ false → has_any is_list es ≡ false → AreFine terms b path from here (Arguments b action) cases
    of_flat other no_list =
        let fine = flat_arguments b enough from es cases (flat_values es simple plain_args no_list) texts evaluated in (
          fine.0,
          result_to (Each (IsNarrow b)) (Arguments b action) cases.good
              (λ ts narrow. record {
                around_zero = (zero_above b, zero_below b);
                no_dispose = stays;
                narrow = λ isnt. narrow;
                literals = λ new. absurd (true≢false (sym new ∙ other));
              })
              fine.1,
        )

    arguments_by : (new : Bool) → bytes_eq action (codes "new") ≡ new → (if new then list_all is_list_of_literal_exprs es else not (has_any is_list es)) ≡ true → AreFine terms b path from here (Arguments b action) cases
    arguments_by true new lists = of_lists new lists
    arguments_by false other lists = of_flat other (not_true (has_any is_list es) lists)

  pub act_narrow : (takes : Bool) (cases : PureCases (List PureTerm)) (before last : List (Candidate S)) → Copies (Faults cases.faults) before → (x action : List ℕ) (es : List PureExpr) → AreEvaluated (running_store path.stack) es cases
      → AreResults (ActsInNarrow takes x action) cases.good last → StayNarrow terms path (act x action es) (before ++ last)
  act_narrow takes cases before last copies x action es evaluated result p c b valid over at command narrow enough from =
      let form = parts (act x action es) narrow in
      let simple : list_all is_simple_value es ≡ true = (and_parts (list_all (λ d. is_literal_expr d || not (bytes_eq action (codes "alloc"))) es) (list_all is_simple_value es) form.simple).1 in
      let texts : list_all has_text_numbers es ≡ true = subst (λ ds. list_all has_text_numbers ds ≡ true) (ap exprs_of command) (command_texts p path.stack c valid at) in
      copies_narrow stands terms depends plain (b + narrow_growth) (Faults cases.faults ++ last) (before ++ last)
      (cases_narrow terms b path from here (Arguments b action) (ActsInNarrow takes x action) cases last
      (arguments_by b enough from action es cases simple form.no_arithmetic texts form.no_dispose evaluated (bytes_eq action (codes "new")) refl form.lists) result
      (λ g decided args ds (bs, (acts, each)). acts_narrow terms b path from here x action takes g decided bs ds args acts each))
      (whole cases.faults before last copies)
