-- What matching an assertion where a checked path stands comes to: what it matches in the checked states for which the path stands.
use Rattle.std.specs.Prelude.{◌≡◌, List, IsTrue}
use Rattle.gil_values.specs.Pure.{PureValue}
use Rattle.gil_syntax.specs.declared.assertions.Param.{Param}
use Rattle.gil_syntax.specs.Pure.{PureItem, PurePredDef}
use Rattle.mem_model.specs.Heaps.{Heap}
use Rattle.assert_logic.specs.Matching.{Match, matched, stops as stopped, match_assertion}
use Rattle.checked_runs.specs.Checked.{Checked, Entry, names_at, logic_state}
use Rattle.pure_terms.specs.Meaning.{all_true, Satisfies}
use Rattle.sym_paths.specs.Asking.{IsOutside}
use Rattle.sym_evaluation.specs.Meaning.{StandsFor, IsStoreOver}
use Rattle.sym_model.specs.Lists.{Each, OneOf}
use Rattle.sym_model.specs.Terms.{StateTerms}
use Rattle.sym_states.specs.Meaning.{Stands, IsOverTable}
use Rattle.sym_states.specs.Pure.{PureState}
use Rattle.checked_paths.specs.Meaning.{StandsForChecked}
use Rattle.checked_paths.specs.Pure.{PureEntry, PureChecking}
use Rattle.footprint.specs.Leaves.{IsLonger}
use Rattle.footprint.specs.Pure.{PureMatch, PureStop, PureMatching, all_match, unmatched, unknown}

-- the state has the path's variables and choices, names no other variables, and its conditions begin with the path's
pub record IsOfPath {S : Type 0} (terms : S → StateTerms) (x : PureChecking S) (s : PureState S) : Type 0 where
  pub vars : s.vars ≡ x.path.vars
  pub longer : IsLonger x.path.conds s.conds
  pub choices : s.path ≡ x.path.choices
  pub over : IsOverTable terms s

module _ {S : Type 0} (stands : S → List PureValue → Heap → Type 0) (terms : S → StateTerms) (e : PureEntry) (x : PureChecking S)
    (preds : List PurePredDef) (scope : List Param) (items : List PureItem) where
  -- in the checked state the assertion is matched, and the match stands for what is found
  pub record IsFound (v : List PureValue) (entry : Entry) (c : Checked) (m : PureMatch S) : Type 0 where
    pub found : Match
    pub matches : match_assertion preds scope items (names_at entry c) (logic_state c) ≡ matched found
    pub state : Stands stands m.state v found.state
    pub store : StandsFor v m.store found.store

  -- wherever the path stands and these conditions are true, the assertion isn't matched; the valuation meets them
  pub record IsStopThere (k : PureStop) (u : List PureValue) : Type 0 where
    pub longer : IsLonger x.path.conds k.conds
    pub meets : Satisfies x.path.vars u k.conds
    pub stops : (v : List PureValue) (entry : Entry) (c : Checked) → StandsForChecked stands e x v entry c → IsTrue (all_true v k.conds)
        → match_assertion preds scope items (names_at entry c) (logic_state c) ≡ stopped k.item

  -- wherever the path stands and the conditions of the match are true, it stands for what is found
  pub record IsMatchThere (m : PureMatch S) : Type 0 where
    pub of_path : IsOfPath terms x m.state
    pub store_over : IsStoreOver x.path.vars m.store
    pub exact : (v : List PureValue) (entry : Entry) (c : Checked) → StandsForChecked stands e x v entry c → IsTrue (all_true v m.state.conds)
        → IsFound v entry c m

  -- where it is always matched, each checked state matches as one of these says, and they say nothing else
  abbrev pub MatchesThere : PureMatching S → Type 0
  MatchesThere (all_match ms) =
      ((v : List PureValue) (entry : Entry) (c : Checked) → StandsForChecked stands e x v entry c → OneOf (IsFound v entry c) ms)
      × Each IsMatchThere ms
  MatchesThere (unmatched k u) = IsStopThere k u
  MatchesThere (unknown conds reason) = IsLonger x.path.conds conds × IsOutside conds reason
