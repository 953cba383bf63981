-- What the command at which a checked path or a checked run stands may ask: conditions of terms that the names there have.
use Rattle.std.specs.Prelude.{◌≡◌, ◌⊎◌, ℕ, List, [], ◌∷◌, ◌++◌, map, Some, IsTrue, ⊤}
use Rattle.gil_syntax.specs.declared.assertions.Param.{Param}
use Rattle.gil_syntax.specs.Programs.{find_pred, find_spec}
use Rattle.gil_syntax.specs.Pure.{PureExpr, PureParts, PureCommand, assign, call, act, usym, isym, ifgoto, return, fail, throw, vanish, fold_use, unfold_use, assert_that, loop_invariant, PureNumberedCommand, PurePredUse, PureItem, PurePredDef, PureSpec}
use Rattle.gil_syntax.specs.Valid.{param_names}
use Rattle.checked_runs.specs.Specifications.{result_name}
use Rattle.pure_terms.specs.Pure.{PureTerm, PureAtom, opening}
use Rattle.sym_evaluation.specs.Pure.{PureStore, term_at}
use Rattle.sym_evaluation.specs.Questions.{IsAsked, AreTermsOf}
use Rattle.sym_model.specs.Lists.{Each, OneOf, IsAmong}
use Rattle.sym_model.specs.Terms.{StateTerms, is_literal, asked_of, IsOwnCondition}
use Rattle.sym_paths.specs.Calls.{IsAskedByCall}
use Rattle.sym_paths.specs.Guards.{IsAskedByGuard}
use Rattle.sym_paths.specs.Meaning.{command_of_path}
use Rattle.sym_paths.specs.Moves.{running_store}
use Rattle.sym_states.specs.Producing.{IsAskedAmong}
use Rattle.sym_states.specs.Pure.{PureFact}
use Rattle.sym_matching.specs.Origins.{AsksSorts, AsksEqual, AddsOnlyTo, IsParamGiven}
use Rattle.sym_unfolding.specs.Origins.{IsVariableOf, AsksAdding, AsksUnfolding}
use Rattle.footprint.specs.Origins.{stands, opens, Origin, MayReach, IsOwnToMatching}
use Rattle.checked_paths.specs.Causes.{cause_view, shown_in}
use Rattle.checked_paths.specs.Exactness.{HaveMoreOf, AddsOnly}
use Rattle.checked_paths.specs.Pure.{PureEntry, PureChecking, PureNext, further, over, caused}
use Rattle.checked_rows.specs.Ending.{AreEntryNames}
use Rattle.checked_rows.specs.Names.{AreNames}

-- ---- names

-- the terms of names: of the program's variables, of those and the precondition's, as logic commands name them, and of the parameters and the
-- precondition's variables at the entry
pub record NamesThere : Type 0 where
  pub running : PureStore
  pub logic : PureStore
  pub entry : PureStore

-- ---- actions

-- What a memory may ask in an action: about arguments and literals, and about terms that it holds and that may be near to these. It may need
-- the literal form of arguments.
pub record IsAskedOfMemory (bs : PureStore) (es : List PureExpr) (a : PureAtom) : Type 0 where
  pub args : List PureTerm
  pub are_args : AreTermsOf bs es args
  pub about : List PureTerm
  pub of_args : Each (λ t. IsAmong t args ⊎ IsTrue (is_literal t)) about
  pub formed : List PureTerm
  pub formed_args : Each (λ t. IsAmong t args) formed
  pub held : StateTerms
  pub own : IsOwnCondition (asked_of (about, formed) held) a

-- ---- assertions

-- matching one of these assertions begins in the store, beside these facts and a memory that holds such terms
abbrev pub origin_in : List PurePredDef → List PureFact → StateTerms → List Param → PureStore → List (List PureItem) → Origin
origin_in preds facts held scope bs posts = record {
  preds = preds;
  facts = facts;
  starts = map (λ items. record { scope = scope; items = items; stage = stands bs; held = held }) posts;
}

-- the condition is own to an item that is matched
abbrev pub AsksMatching : List PurePredDef → List Param → PureStore → List (List PureItem) → PureAtom → Type 0
AsksMatching preds scope bs posts a =
    (facts : List PureFact) × ((held : StateTerms) × IsOwnToMatching (origin_in preds facts held scope bs posts) a)

-- the store is one that matching the assertion may reach
abbrev pub MayBeMatched : List PurePredDef → List Param → PureStore → List PureItem → PureStore → Type 0
MayBeMatched preds scope bs items after =
    (facts : List PureFact) × ((held : StateTerms) × ((left : StateTerms)
    × MayReach (origin_in preds facts held scope bs (items ∷ [])) (record { scope = scope; items = items; stage = stands after; held = left })))

-- ---- folding and unfolding

abbrev pub AsksFolding : List PurePredDef → List ℕ → List PureTerm → List PureTerm → PureAtom → Type 0
AsksFolding preds x ins outs a =
    (facts : List PureFact) × ((held : StateTerms) × IsOwnToMatching (record {
      preds = preds;
      facts = facts;
      starts = record { scope = []; items = []; stage = opens x ins (map Some outs); held = held } ∷ [];
    }) a)

abbrev pub AsksUnfoldingOf : List PurePredDef → List ℕ → List PureTerm → List PureTerm → PureAtom → Type 0
AsksUnfoldingOf preds x ins outs a =
    (d : PurePredDef) × ((find_pred preds x ≡ Some d) × ((facts : List PureFact) × AsksUnfolding d ins outs facts a))

-- what a command asks of its use's arguments, and of the terms that they have
abbrev pub AsksUse : (List ℕ → List PureTerm → List PureTerm → PureAtom → Type 0) → PureStore → PurePredUse → PureAtom → Type 0
AsksUse Asks bs u a =
    IsAskedAmong bs (u.ins ++ u.outs) a
    ⊎ ((ins : List PureTerm) × ((outs : List PureTerm) × (AreTermsOf bs u.ins ins × AreTermsOf bs u.outs outs × Asks u.pred ins outs a)))

-- ---- calls by specification

-- Where the parameters have the arguments' terms: that one has the sorts of its parameter; what matching the precondition asks; and what adding
-- a postcondition asks, where names have the terms that they got by that, or new variables.
pub record AsksCalled (p : PureParts) (called : PureSpec) (args : List PureTerm) (a : PureAtom) : Type 0 where
  pub store : PureStore
  pub given : AddsOnlyTo (IsParamGiven called.params (map Some args)) [] store
  pub asks : ((x : List ℕ) × ((t : PureTerm) × ((term_at store x ≡ Some t) × AsksSorts called.params x t a)))
      ⊎ (AsksMatching p.preds (called.params ++ called.logicals) store (called.pre ∷ []) a
      ⊎ ((after : PureStore) × (MayBeMatched p.preds (called.params ++ called.logicals) store called.pre after
      × OneOf (λ items. AsksAdding after items a) (called.posts ++ called.errors))))

-- ---- ends of the entry

-- What the entry's end with this result asks: where a parameter has the result's name, that both are equal; and what matching a postcondition
-- asks, where the result has its name.
abbrev pub AsksEnd : PureParts → PureSpec → List (List PureItem) → PureStore → PureAtom → Type 0
AsksEnd p spec posts bs a =
    (t : PureTerm) × (((s : PureTerm) × ((term_at bs result_name ≡ Some s) × AsksEqual s t a))
    ⊎ ((after : PureStore) × (AddsOnlyTo (λ x u. (x ≡ result_name) × (u ≡ t)) bs after
    × AsksMatching p.preds (spec.params ++ spec.logicals) after posts a)))

-- what the entry's end asks, of the names of the entry
abbrev pub AsksEntryEnd : PureParts → PureEntry → List (List PureItem) → PureAtom → Type 0
AsksEntryEnd p e posts a =
    (names : PureStore) × (AreEntryNames (param_names e.spec.params) e.args e.variables names × AsksEnd p e.spec posts names a)

-- ---- calls by specification that end

-- an error postcondition is thrown, and where nothing catches it, the entry ends with it
abbrev pub AsksThrown : PureParts → PureSpec → PureSpec → PureStore → PureAtom → Type 0
AsksThrown p spec called bs a = (items : List PureItem) × (IsAmong items called.errors × AsksEnd p spec spec.errors bs a)

-- the call enters a procedure with a specification, which asks this, or ends the entry
abbrev pub AsksBySpecification : PureParts → PureSpec → NamesThere → List PureExpr → PureAtom → Type 0
AsksBySpecification p spec names es a =
    (x : List ℕ) × ((called : PureSpec) × ((args : List PureTerm)
    × ((find_spec p.specs x ≡ Some called) × AreTermsOf names.running es args
    × (AsksCalled p called args a ⊎ AsksThrown p spec called names.entry a))))

-- ---- invariants

-- that terms are equal of what is there and of what the invariant left before, or the literal form of a term of a key there
abbrev pub AsksAsBefore : PureAtom → Type 0
AsksAsBefore a = ((s : PureTerm) × ((t : PureTerm) × AsksEqual s t a)) ⊎ ((t : PureTerm) × (a ≡ opening t))

-- What a visit of an invariant asks: that a name which it declares and which has a term has its sorts; what matching it asks; what adding it
-- asks, where the listed names have new variables; and whether all else is as it was before.
abbrev pub AsksVisit : PureParts → List Param → List PureItem → PureStore → PureAtom → Type 0
AsksVisit p scope items bs a =
    ((x : List ℕ) × ((t : PureTerm) × ((term_at bs x ≡ Some t) × AsksSorts scope x t a)))
    ⊎ (AsksMatching p.preds scope bs (items ∷ []) a
    ⊎ (((after : PureStore) × (AddsOnlyTo IsVariableOf bs after × AsksAdding after items a)) ⊎ AsksAsBefore a))

-- ---- commands

-- the precondition's variables, in the frame of the entry alone
abbrev pub AreLogicals : PureSpec → List Param → Type 0
AreLogicals spec scope = (scope ≡ []) ⊎ (scope ≡ spec.logicals)

-- The command of a run of the specification may ask the condition, of the terms that names have there. At a throw it isn't said that the
-- entry ends with an error: then it may also ask what a return does.
abbrev pub MayAsk : PureParts → PureSpec → NamesThere → PureCommand → PureAtom → Type 0
MayAsk p spec names (assign x e) a = IsAsked names.running e a
MayAsk p spec names (fail e) a = IsAsked names.running e a
MayAsk p spec names (ifgoto e label) a = IsAskedByGuard names.running e a
MayAsk p spec names (act x action es) a = IsAskedAmong names.running es a ⊎ IsAskedOfMemory names.running es a
MayAsk p spec names (usym x) a = ⊥
MayAsk p spec names (isym x k) a = ⊥
MayAsk p spec names vanish a = ⊥
MayAsk p spec names (call x e es handler) a = IsAskedByCall names.running e es a ⊎ AsksBySpecification p spec names es a
MayAsk p spec names (return e) a = IsAsked names.running e a ⊎ AsksEnd p spec spec.posts names.entry a
MayAsk p spec names (throw e) a =
    IsAsked names.running e a ⊎ (AsksEnd p spec spec.errors names.entry a ⊎ AsksEnd p spec spec.posts names.entry a)
MayAsk p spec names (fold_use u) a = AsksUse (AsksFolding p.preds) names.logic u a
MayAsk p spec names (unfold_use u) a = AsksUse (AsksUnfoldingOf p.preds) names.logic u a
MayAsk p spec names (assert_that items) a =
    (scope : List Param) × (AreLogicals spec scope × AsksMatching p.preds scope names.logic (items ∷ []) a)
MayAsk p spec names (loop_invariant xs ps items) a =
    (scope : List Param) × (AreLogicals spec scope × AsksVisit p (scope ++ ps) items names.logic a)

-- ---- where a checked path stands

-- the terms of the names there
pub record AreNamesThere {S : Type 0} (e : PureEntry) (x : PureChecking S) (names : NamesThere) : Type 0 where
  pub running : names.running ≡ running_store x.path.stack
  pub logic : AreNames x.path.stack e.variables names.logic
  pub entry : AreEntryNames (param_names e.spec.params) e.args e.variables names.entry

-- the command at which the path stands may ask the condition
abbrev pub MayAskAt : {S : Type 0} → PureParts → PureEntry → PureChecking S → PureAtom → Type 0
MayAskAt p e x a =
    (n : PureNumberedCommand) × ((command_of_path p x.path ≡ Some n)
    × ((names : NamesThere) × (AreNamesThere e x names × MayAsk p e.spec names n.command a)))

-- ---- answers

-- each condition that the answer has more than these is such a one
abbrev pub AddsTo : {S : Type 0} → (PureAtom → Type 0) → List PureAtom → PureNext S → Type 0
AddsTo own conds (further y) = HaveMoreOf own conds y.path.conds
AddsTo own conds over = ⊤
AddsTo own conds (caused cause) = HaveMoreOf own conds (shown_in (cause_view cause)).conds

-- Where the checked path stands at this command, each condition that the answers have more is one that it may ask there.
abbrev pub AsksOnlyOwn : {S : Type 0} → PureParts → PureEntry → PureChecking S → PureCommand → List (PureNext S) → Type 0
AsksOnlyOwn p e x command nexts =
    (c : PureNumberedCommand) → command_of_path p x.path ≡ Some c → c.command ≡ command → Each (AddsOnly (MayAskAt p e x) x) nexts
