-- Where the leaves of consumption come from: the conditions are a memory's own, and the terms are made of those that it had and of the ins.
use Rattle.std.proofs.Common.{◌≡◌, inl, inr, ℕ, List, ◌++◌, None, refl, sym, subst}
use Rattle.gil_syntax.specs.declared.assertions.Param.{Param}
use Rattle.gil_syntax.specs.Pure.{PurePredUse, PureItem, uses}
use Rattle.pure_terms.specs.Pure.{PureTerm, literal, variable, list_of, unary_of, binary_of, PureTerms, to_list, from_list-to_list}
use Rattle.sym_evaluation.specs.Pure.{PureStore}
use Rattle.sym_evaluation.specs.Questions.{AreTermsOf}
use Rattle.sym_model.specs.Cores.{consume_asks}
use Rattle.sym_model.specs.Laws.{EachTerm, HaveOwnConditions, AreMade}
use Rattle.sym_model.specs.Lists.{Each, IsAmong}
use Rattle.sym_model.specs.Pure.{PureResult, done, failed, missed, result_terms, PureBranch}
use Rattle.sym_model.specs.Terms.{StateTerms, all_of, asked_of, IsMadeOf, IsOwnCondition}
use Rattle.sym_model.proofs.ListLaws.{each_to}
use Rattle.sym_states.specs.Pure.{PureState}
use Rattle.footprint.specs.Coming.{HasFactsOf, MayStand, CoreComesFrom}
use Rattle.footprint.specs.Items.{MatchesDone, MatchesResult, branch_state, MatchesBranch}
use Rattle.footprint.specs.Origins.{Origin, IsTakenOut, takes_key, IsOwnToMatching, AddsOwn, MatchComesFrom, LeavesComeFrom}
use Rattle.footprint.specs.Pure.{PureLeaves}
use Rattle.footprint.specs.Spreading.{all_stop, Gathers}
use Rattle.footprint.proofs.OriginLaws.{asks_there, adds_these, stop_adds, gathered_add, all_from, outs_from}
use Rattle.footprint.proofs.Plainness.{each_both}

module _ {S : Type 0} (terms : S → StateTerms) (scope : List Param) (n : ℕ) (u : PurePredUse) (bs : PureStore) (s : PureState S) (ins : List PureTerm) where
  abbrev Held : List PureTerm
  Held = ins ++ all_of (terms s.memory)

  -- what the laws of consumption say of a branch
  abbrev HasOwn : PureBranch S → Type 0
  HasOwn b = Each (IsOwnCondition (asked_of (consume_asks ins) (terms s.memory))) b.conds

  abbrev IsOwnBranch : PureBranch S → Type 0
  IsOwnBranch b = HasOwn b × EachTerm terms (IsMadeOf Held None) b

  module _ (o : Origin) (whole : List PureItem) (facts : HasFactsOf terms o s) (among : IsAmong (uses u) whole) (are : AreTermsOf bs u.ins ins) (reached : MayStand terms o scope whole bs s) where
    abbrev Come : PureLeaves S → Type 0
    Come leaves = LeavesComeFrom terms o scope whole s.conds leaves

    module _ (b : PureBranch S) (is : IsOwnBranch b) where
      abbrev q : PureState S
      q = branch_state s b

      adds : AddsOwn o s.conds q.conds
      adds = adds_these o s.conds b.conds
          (each_to (IsOwnCondition (asked_of (consume_asks ins) (terms s.memory))) (IsOwnToMatching o) b.conds (λ a own. asks_there o scope whole bs (terms s.memory) (uses u) a reached among (inr (ins, (are, inl own)))) is.0)

      stopped : (leaves : PureLeaves S) → leaves ≡ all_stop n q → Come leaves
      stopped leaves stop = subst Come (sym stop) (stop_adds o s.conds (MatchComesFrom terms o scope whole s.conds) n q adds)

      taken : (ts : PureTerms) → b.result ≡ done (list_of ts) → IsTakenOut ins (terms s.memory) (to_list ts) (terms b.state)
      taken ts is_done = record {
        outs_made = subst (λ (us : PureTerms). IsMadeOf Held None (list_of us)) (sym (from_list-to_list ts)) (subst (λ (r : PureResult). Each (IsMadeOf Held None) (result_terms r)) is_done is.1.1).0;
        rest_made = is.1.0;
      }

      of_done : (t : PureTerm) (leaves : PureLeaves S) → b.result ≡ done t → MatchesDone n scope u.outs bs q t leaves → Come leaves
      of_done (list_of ts) leaves is_done matches =
          all_from terms o scope whole s.conds q.conds adds leaves (outs_from terms o scope whole n u bs q (to_list ts) leaves facts (takes_key reached among are (taken ts is_done)) matches)
      of_done (literal x) leaves is_done matches = stopped leaves matches
      of_done (variable x) leaves is_done matches = stopped leaves matches
      of_done (unary_of op x) leaves is_done matches = stopped leaves matches
      of_done (binary_of op x y) leaves is_done matches = stopped leaves matches

      of_result : (r : PureResult) (leaves : PureLeaves S) → b.result ≡ r → MatchesResult n scope u.outs bs q r leaves → Come leaves
      of_result (done t) leaves is_r matches = of_done t leaves is_r matches
      of_result (failed t) leaves is_r matches = stopped leaves matches
      of_result (missed k) leaves is_r matches = stopped leaves matches

    branch_from : (b : PureBranch S) (leaves : PureLeaves S) → IsOwnBranch b → MatchesBranch n scope u.outs bs s b leaves → Come leaves
    branch_from b leaves is matches = of_result b is b.result leaves refl matches

    branches_from : (branches : List (PureBranch S)) (leaves : PureLeaves S) → Each IsOwnBranch branches → Gathers (MatchesBranch n scope u.outs bs s) branches leaves → Come leaves
    branches_from branches leaves all gathers =
        gathered_add o s.conds (MatchComesFrom terms o scope whole s.conds) (MatchesBranch n scope u.outs bs s) IsOwnBranch branch_from branches leaves all gathers

  pub core_from : (branches : List (PureBranch S)) (leaves : PureLeaves S) → HaveOwnConditions (asked_of (consume_asks ins) (terms s.memory)) branches → AreMade terms (ins ++ all_of (terms s.memory)) None branches
      → Gathers (MatchesBranch n scope u.outs bs s) branches leaves → CoreComesFrom terms scope u ins bs s leaves
  core_from branches leaves own made gathers o whole facts among are reached =
      branches_from o whole facts among are reached branches leaves (each_both HasOwn (EachTerm terms (IsMadeOf Held None)) branches own made) gathers
