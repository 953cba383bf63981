-- What a reported cause says of the checked runs of a specification: that a run with the values that are shown comes to the cause, at
-- the place and along the choices that are shown.
use Rattle.std.specs.Prelude.{◌≡◌, ◌⊎◌, ℕ, ◌<◌, List, [], ◌∷◌, ◌++◌, length, map, true, Option, Some, None, ⊤}
use Rattle.std.specs.List.{list_any}
use Rattle.std.specs.Option.{option_to_list}
use Rattle.gil_values.specs.Pure.{PureValue}
use Rattle.gil_syntax.specs.declared.assertions.Param.{Param}
use Rattle.gil_syntax.specs.Evaluation.{value_of}
use Rattle.gil_syntax.specs.Pure.{PureParts, PureSpec}
use Rattle.gil_syntax.specs.Valid.{param_names}
use Rattle.mem_model.specs.declared.keys.MemoryName.{MemoryName}
use Rattle.mem_model.specs.Actions.{Actions}
use Rattle.checked_runs.specs.Checked.{Checked, Outcome, has_fault, Entry, IsStart}
use Rattle.checked_runs.specs.Checked as runs
use Rattle.pure_terms.specs.declared.deciders.Reason.{Reason}
use Rattle.pure_terms.specs.Pure.{PureTerm, opening}
use Rattle.pure_terms.specs.Wide.{has_wide_part}
use Rattle.sym_evaluation.specs.Pure.{PureStore, term_at}
use Rattle.sym_model.specs.Lists.{Each, IsAmong}
use Rattle.checked_paths.specs.Causes.{PureShown, PureCause, failure, shown_in}
use Rattle.checked_paths.specs.Pure.{PureEntry}
use Rattle.checked_paths.specs.Trails.{Runs, StandsAt, RunsInto, IsDecided}
use Rattle.spec_causes.specs.Causes.{IsOpen, IsCauseOf}
use Rattle.gil_report.specs.declared.answers.Lack.{Lack}
use Rattle.gil_report.specs.Pure.{PureBinding, PureQuestion, PureWitness}
use Rattle.gil_report.specs.Pure as report
use Rattle.report_names.specs.Named.{condition_of}
use Rattle.report_causes.specs.Names.{own_variables, place_of}

-- ---- values by their names

-- the name with its value, where it has one
abbrev pub binding_of : List ℕ → Option PureValue → List PureBinding
binding_of x (Some w) = record { name = x; value = w } ∷ []
binding_of x None = []

-- each name with the value at its place, as far as there are both
abbrev pub bindings_in_turn : List (List ℕ) → List PureValue → List PureBinding
bindings_in_turn xs [] = []
bindings_in_turn [] (w ∷ ws) = []
bindings_in_turn (x ∷ xs) (w ∷ ws) = record { name = x; value = w } ∷ bindings_in_turn xs ws

-- each variable that has a value, with it
abbrev pub bindings_by : (List ℕ → Option PureValue) → List Param → List PureBinding
bindings_by find [] = []
bindings_by find (q ∷ qs) = binding_of q.name (find q.name) ++ bindings_by find qs

-- The values with which a run begins, by their names: those of the parameters, and then of the declared variables that the precondition
-- names, in order.
abbrev pub shown_values : PureSpec → Entry → List PureBinding
shown_values s entry = bindings_in_turn (param_names s.params) entry.args ++ bindings_by (value_of entry.variables) (own_variables s)

-- ---- questions

-- The conditions that are shown as a report has them, with the place of one that keeps them out of the fragment: each variable is `v` and
-- its number.
abbrev pub question_shown : PureShown → ℕ → PureQuestion
question_shown shown outside = record {
  place = shown.place;
  path = shown.choices;
  vars = shown.vars;
  given = map (condition_of []) shown.given;
  query = map (condition_of []) shown.conds;
  outside = outside;
}

-- The same with further questions behind the conditions: whether these terms have a form. The first of them keeps the list out of the fragment.
abbrev pub wide_question : PureShown → List PureTerm → PureQuestion
wide_question shown ts =
    record (question_shown shown (length shown.conds)) { query = map (condition_of []) (shown.conds ++ map opening ts) }

-- ---- values that can't be reported

-- the terms of the variables that have one
abbrev pub variable_terms : PureStore → List Param → List PureTerm
variable_terms bs [] = []
variable_terms bs (q ∷ qs) = option_to_list (term_at bs q.name) ++ variable_terms bs qs

-- the terms of the values with which a run begins
abbrev pub entry_terms : PureSpec → PureEntry → List PureTerm
entry_terms s e = e.args ++ variable_terms e.variables (own_variables s)

-- the terms whose values tell the cause: that of a failure, and those of the entry
abbrev pub telling_terms : PureSpec → PureEntry → PureCause → List PureTerm
telling_terms s e (failure t shown) = t ∷ entry_terms s e
telling_terms s e _ = entry_terms s e

-- Under these values some term, or a term that stands in it, is a whole number that leaves 128 bits. A report can't have it.
abbrev pub AreTooWide : List PureValue → List PureTerm → Type 0
AreTooWide v ts = list_any (has_wide_part v) ts ≡ true

module _ (p : PureParts) (memory : MemoryName) (m : Actions) (s : PureSpec) (most : ℕ) where
  -- ---- runs

  -- A checked run of the specification begins with the values that are shown. It makes fewer steps than the bound, and comes by the next
  -- one to such an outcome, at the place and along the choices that are shown.
  pub record ComesTo (Is : Outcome → Type 0) (shown : PureWitness) : Type 0 where
    pub entry : Entry
    pub of_spec : entry.spec ≡ s
    pub values : shown.with ≡ shown_values s entry
    pub start : Checked
    pub is_start : IsStart p memory m entry start
    pub steps : ℕ
    pub within : steps < most
    pub runs : RunsInto p memory m entry start steps shown.path shown.place Is

  -- A checked run of the specification begins with the values that are shown. It makes as many steps as the bound, along the choices that
  -- are shown, and stands then at the place.
  pub record IsCutOff (shown : PureWitness) : Type 0 where
    pub entry : Entry
    pub of_spec : entry.spec ≡ s
    pub values : shown.with ≡ shown_values s entry
    pub start : Checked
    pub is_start : IsStart p memory m entry start
    pub state : Checked
    pub runs : Runs p memory m entry start most shown.path state
    pub there : StandsAt p memory m entry shown.place state

  -- a run lacks this
  abbrev pub LacksThere : Lack → PureWitness → Type 0
  LacksThere Lack.Missing shown = ComesTo (λ out. out ≡ has_fault runs.missing) shown
  LacksThere Lack.Post shown = ComesTo (λ out. out ≡ has_fault runs.post) shown
  LacksThere Lack.Invariant shown = ComesTo (λ out. out ≡ has_fault runs.invariant) shown
  LacksThere Lack.CallPre shown = ComesTo (λ out. out ≡ has_fault runs.call_precondition) shown
  LacksThere Lack.FoldBody shown = ComesTo (λ out. out ≡ has_fault runs.fold_body) shown
  LacksThere Lack.Cut shown = IsCutOff shown

  -- ---- what isn't decided

  -- The conditions that are asked are outside the fragment, by the one at the place that is named.
  pub record IsLeftOpen (q : PureQuestion) : Type 0 where
    pub entry : PureEntry
    pub of_spec : entry.spec ≡ s
    pub reason : Reason
    pub shown : PureShown
    pub asked : q ≡ question_shown shown (place_of reason)
    pub is_open : IsOpen p memory m entry most reason shown

  -- Runs come to a cause wherever some conditions are met, as under a valuation that is known; but under that one a value that would tell the
  -- cause leaves 128 bits. It is asked behind these conditions whether such terms have a form.
  pub record IsTooWide (q : PureQuestion) : Type 0 where
    pub entry : PureEntry
    pub cause : PureCause
    pub is_cause : IsCauseOf p memory m s most entry cause
    pub decided : IsDecided cause
    pub terms : List PureTerm
    pub telling : Each (λ t. IsAmong t (telling_terms s entry cause)) terms
    pub asked : q ≡ wide_question (shown_in cause) terms
    pub valuation : List PureValue
    pub is_shown : (shown_in cause).valuation ≡ Some valuation
    pub wide : AreTooWide valuation terms

  -- ---- causes

  -- What a reported cause says of the checked runs of the specification within the bound. What it depends on is said beside it.
  abbrev pub IsRightCause : report.PureCause → Type 0
  IsRightCause (report.fails v shown) = ComesTo (λ out. out ≡ has_fault (runs.fails v)) shown
  IsRightCause (report.lacks lack shown) = LacksThere lack shown
  IsRightCause (report.undecided_cause q) = IsLeftOpen q ⊎ IsTooWide q
  IsRightCause (report.depends name) = ⊤
