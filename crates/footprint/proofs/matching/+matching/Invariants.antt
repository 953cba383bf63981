use Rattle.std.proofs.Common.{◌≡◌, ◌+◌, ◌*◌, ◌++◌, length, map, take}
use Rattle.std.specs.Vec.Iter.{into_iter_items, into_iter_len}
use Rattle.gil_syntax.specs.View.{assertion_view, item_view, pred_use_view, pred_def_view}
use Rattle.assert_logic.specs.Matching.{scope_of}
use Rattle.sym_evaluation.specs.View.{store_view}
use Rattle.sym_states.specs.Meaning.{Serves}
use Rattle.sym_states.specs.View.{state_view, states_view}
use Rattle.footprint.specs.Assertions.{cases_at, ItemsGive, ItemsStop, MatchesItem, CasesMatched}
use Rattle.footprint.specs.Coming.{ItemComesFrom, ItemsComeFrom, UseComesFrom, RetryComesFrom, TriesComeFrom}
use Rattle.footprint.specs.Leaves.{AreLeaves}
use Rattle.footprint.specs.Plainly.{IsPlainMemory, ItemsStayPlain}
use Rattle.footprint.specs.Spreading.{Gathers}
use Rattle.footprint.specs.Cases.{CasesGive, CasesStop, CaseTried}
use Rattle.footprint.specs.View.{match_view, matches_view, stops_view, asked_view, leaves_view}
use Rattle.footprint.proofs.matching.+matching.Given as goal

abbrev pub decreases-match_cases : goal.decreases-match_cases
decreases-match_cases g l = 16 * l.depth + 0

abbrev pub decreases-match_open : goal.decreases-match_open
decreases-match_open g l = 16 * l.depth + 1

abbrev pub decreases-match_user : goal.decreases-match_user
decreases-match_user g l = 16 * l.depth + 2

abbrev pub decreases-match_asked : goal.decreases-match_asked
decreases-match_asked g l = 16 * l.depth + 3

abbrev pub decreases-match_use : goal.decreases-match_use
decreases-match_use g l = 16 * l.depth + 4

abbrev pub decreases-match_item : goal.decreases-match_item
decreases-match_item g l = 16 * l.depth + 5

abbrev pub decreases-match_next : goal.decreases-match_next
decreases-match_next g l = 16 * l.depth + 6

abbrev pub decreases-match_items : goal.decreases-match_items
decreases-match_items g l = 16 * l.depth + 7

abbrev pub decreases-try_case : goal.decreases-try_case
decreases-try_case g l = 16 * l.depth + 8

abbrev pub decreases-next_case : goal.decreases-next_case
decreases-next_case g l = 16 * l.depth + 9

abbrev pub decreases-try_cases : goal.decreases-try_cases
decreases-try_cases g l = 16 * l.depth + 10

abbrev pub decreases-try_pred : goal.decreases-try_pred
decreases-try_pred g l = 16 * l.depth + 11

abbrev pub decreases-match_found : goal.decreases-match_found
decreases-match_found g l = 16 * l.depth + 12

abbrev pub invariant-match_items-loop-number : goal.invariant-match_items-loop-number
invariant-match_items-loop-number g l =
    AreLeaves g.M.SymMemory.stands g.M.SymMemory.terms g.M.SymMemory.kept (state_view l.fn.start.state) (Serves g.M.SymMemory.stands g.M.SymMemory.terms (state_view l.fn.start.state) (store_view l.fn.start.store))
    (ItemsGive (cases_at (map pred_def_view l.preds) l.depth) l.scope (assertion_view (take l.number l.items)))
    (ItemsStop (cases_at (map pred_def_view l.preds) l.depth) l.scope (assertion_view (take l.number l.items))) (leaves_view l.leaves)
    × ItemsStayPlain (IsPlainMemory g.M.Local.LocalMemory.memory g.M.SymMemory.keeps_plain g.M.SymMemory.terms) (assertion_view (take l.number l.items)) (match_view l.fn.start) (leaves_view l.leaves)
    × ItemsComeFrom g.M.SymMemory.terms (map pred_def_view l.preds) l.scope (assertion_view (take l.number l.items)) (match_view l.fn.start) (leaves_view l.leaves)

abbrev pub invariant-match_next-loop-found : goal.invariant-match_next-loop-found
invariant-match_next-loop-found g l = record {
  counted : into_iter_len l.found-iterator ≡ length (into_iter_items l.found-iterator);
  rest : l.fn.leaves.matched ≡ l.yielded ++ into_iter_items l.found-iterator;
  gathers : Gathers (MatchesItem g.M.SymMemory.stands g.M.SymMemory.terms g.M.SymMemory.kept (IsPlainMemory g.M.Local.LocalMemory.memory g.M.SymMemory.keeps_plain g.M.SymMemory.terms) l.number (cases_at (map pred_def_view l.preds) l.depth) l.scope (item_view l.item)) (matches_view l.yielded) (leaves_view l.next);
  origin : Gathers (ItemComesFrom g.M.SymMemory.terms (map pred_def_view l.preds) l.scope (item_view l.item)) (matches_view l.yielded) (leaves_view l.next);
}

abbrev pub invariant-match_open-loop-state : goal.invariant-match_open-loop-state
invariant-match_open-loop-state g l = record {
  counted : into_iter_len l.state-iterator ≡ length (into_iter_items l.state-iterator);
  rest : l.fn.states ≡ l.yielded ++ into_iter_items l.state-iterator;
  gathers : Gathers (CasesMatched g.M.SymMemory.stands g.M.SymMemory.terms g.M.SymMemory.kept l.number (cases_at (map pred_def_view l.preds) l.depth) l.scope (pred_use_view l.used) (store_view l.store) (asked_view l.asked)) (states_view l.yielded) (leaves_view l.leaves);
  origin : Gathers (UseComesFrom g.M.SymMemory.terms (map pred_def_view l.preds) l.scope (pred_use_view l.used) (store_view l.store) (asked_view l.asked)) (states_view l.yielded) (leaves_view l.leaves);
}

abbrev pub invariant-next_case-loop-stop : goal.invariant-next_case-loop-stop
invariant-next_case-loop-stop g l = record {
  counted : into_iter_len l.stop-iterator ≡ length (into_iter_items l.stop-iterator);
  rest : l.fn.leaves.stopped ≡ l.yielded ++ into_iter_items l.stop-iterator;
  gathers : Gathers (λ x. CaseTried g.M.SymMemory.stands g.M.SymMemory.terms g.M.SymMemory.kept l.number (cases_at (map pred_def_view l.preds) l.depth) (pred_def_view l.pred) l.scope (assertion_view l.case) (state_view l.state) (store_view l.start) x.conds) (stops_view l.yielded) (leaves_view l.next);
  origin : Gathers (RetryComesFrom g.M.SymMemory.terms (map pred_def_view l.preds) l.scope (assertion_view l.case) (state_view l.state) (store_view l.start)) (stops_view l.yielded) (leaves_view l.next);
}

abbrev pub invariant-try_cases-loop-at : goal.invariant-try_cases-loop-at
invariant-try_cases-loop-at g l =
    AreLeaves g.M.SymMemory.stands g.M.SymMemory.terms g.M.SymMemory.kept (state_view l.state) (Serves g.M.SymMemory.stands g.M.SymMemory.terms (state_view l.state) (store_view l.start))
    (CasesGive (cases_at (map pred_def_view l.preds) l.depth) (pred_def_view l.pred) (map assertion_view (take l.at l.cases)))
    (CasesStop l.number (cases_at (map pred_def_view l.preds) l.depth) (pred_def_view l.pred) (map assertion_view (take l.at l.cases))) (leaves_view l.leaves)
    × TriesComeFrom g.M.SymMemory.terms (map pred_def_view l.preds) (scope_of (pred_def_view l.pred)) (map assertion_view (take l.at l.cases)) (state_view l.state) (store_view l.start) (leaves_view l.leaves)
